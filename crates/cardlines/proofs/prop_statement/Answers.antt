use Rattle.std.proofs.Common.{rules, arith}
use Rattle.cardlines.proofs.Equations as laws
use Rattle.cardlines.proofs.prop_statement.Goals as goal

pub returns-in_err-used-clause-came : goal.returns-in_err-used-clause-came
returns-in_err-used-clause-came c = λ t C. search (rules, laws.prop_stopped)

pub returns-then-not-all_within-clause-came : goal.returns-then-not-all_within-clause-came
returns-then-not-all_within-clause-came c = λ t C. search (rules, laws.prop_outside)

pub returns-then-used-gt-PROPERTY_NODES-clause-came : goal.returns-then-used-gt-PROPERTY_NODES-clause-came
returns-then-used-gt-PROPERTY_NODES-clause-came c = λ t C. search (rules, laws.prop_many)

pub returns-clause-came : goal.returns-clause-came
returns-clause-came c = λ t C.
    laws.prop_fine c.args.chars.now c.args.at c.args.n c.args.count t C c.args.scratch.now c.whole_expression.new.out
    c.in_ok-used.used (search rules) _ c.all_within.ensures (search rules) _ (omega arith) c.put_property.ensures
