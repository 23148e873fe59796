use Rattle.std.proofs.Common.{rules, arith}
use Rattle.truths.proofs.Laws as laws
use Rattle.truths.proofs.+evaluate.Goals as goal

pub offset_bounds-nodes-at : goal.offset_bounds-nodes-at
offset_bounds-nodes-at t c = omega (arith, laws.node_within _ _ _ _ _ _ c.requires)

pub bounds-nodes-at : goal.bounds-nodes-at
bounds-nodes-at t c = search (rules, laws.node_within)

pub leaf-requires : goal.leaf-requires
leaf-requires t c = search (rules, laws.leaf_ready)

pub overflow_add-result : goal.overflow_add-result
overflow_add-result t c = search (rules, laws.next_fits)

pub returns-then-operands-eq0 : goal.returns-then-operands-eq0
returns-then-operands-eq0 t c = search (rules, laws.leaf_ends, laws.leaf_evaluated)

pub overflow_add-at : goal.overflow_add-at
overflow_add-at t c = search (rules, laws.next_fits)

pub overflow_sub-left : goal.overflow_sub-left
overflow_sub-left t c = search (rules, laws.left-some)

pub evaluate-other-requires : goal.evaluate-other-requires
evaluate-other-requires t c = search (rules, laws.left_falls, laws.first_ready)

pub apply_one-requires : goal.apply_one-requires
apply_one-requires t c = search (rules, laws.one_room)

pub returns-then-operands-eq1 : goal.returns-then-operands-eq1
returns-then-operands-eq1 t c = search (rules, laws.one_ends, laws.one_evaluated)

pub overflow_sub-left-2 : goal.overflow_sub-left-2
overflow_sub-left-2 t c = search (rules, laws.left-some)

pub evaluate-end-requires : goal.evaluate-end-requires
evaluate-end-requires t c = (search (rules, laws.left_falls), search (rules, laws.second_ready))

pub returns : goal.returns
returns t c = search (rules, laws.two_ends, laws.two_evaluated)
