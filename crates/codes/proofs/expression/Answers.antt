use mathlib.Core.Path.{◌≡◌, refl, ap, ◌∙◌}
use mathlib.Core.Bool.{◌||◌}
use Prim.Native.Nat.{◌<◌}
use lib.Dec.{leb}
use lib.ListN.{length}
use native.Mathlib.Omega.{arith}
use borrow.Author.Rules.{rules}
use borrow.Author.Tests.{le-leb, lt-leb}
use Rattle.std.specs.Slice.Iter.{chunks_exact_rest, chunks_exact_size}
use Rattle.codes.proofs.Steps as steps
use Rattle.codes.proofs.expression.Goals as goal
use Rattle.codes.proofs.expression.Goals.{then-b-ge-NEXT, else-b-ge-NEXT}

pub loop-two-init : goal.loop-two-init
loop-two-init c = let i = c.into_iter-two-iterator.ensures.into_iter_gives in let k = c.chunks_exact-two-items.ensures in (ap chunks_exact_size i ∙ k.size, refl, steps.going_begun _ _ _ _ _ _ c.requires.0 (ap chunks_exact_rest i ∙ k.rest))

pub returns-in_default : goal.returns-in_default
returns-in_default c =
    let s = c.in-Some.ensures.steps in
    let g = c.loop-two.invariant.2 in
    (steps.going_none g _ _ s.1.0 (s.1.1 ∙ c.loop-two.invariant.0) c.in_default.ensures, tt, (omega arith, g.within), c.loop-two.invariant.1)

pub returns-in_default-places : goal.returns-in_default-places
returns-in_default-places c =
    let s = c.in-Some.ensures.steps in
    let g = c.loop-two.invariant.2 in
    (steps.going_wrong g _ _ s.1.0 (s.1.1 ∙ c.loop-two.invariant.0) c.in-Some-pair.ensures c.in_default-places.ensures, tt, (omega arith, g.within), c.loop-two.invariant.1)

pub returns-then-l-eq0 : goal.returns-then-l-eq0
returns-then-l-eq0 c =
    let s = c.in-Some.ensures.steps in
    let g = c.loop-two.invariant.2 in
    (steps.going_deep g _ _ s.1.0 (s.1.1 ∙ c.loop-two.invariant.0) c.in-Some-pair.ensures c.in-Some-places.ensures c.if-l-eq0.true, tt, (omega arith, g.within), c.loop-two.invariant.1)

pub returns-then-pending-eq0 : goal.returns-then-pending-eq0
returns-then-pending-eq0 c =
    let s = c.in-Some.ensures.steps in
    let g = c.loop-two.invariant.2 in
    let two = s.1.1 ∙ c.loop-two.invariant.0 in
    let room = steps.going_room g _ _ s.1.0 two in (
      steps.going_whole g _ _ s.1.0 two c.in-Some-pair.ensures c.in-Some-places.ensures c.node_of.ensures c.keep_node.ensures c.if-l-eq0.false c.if-operands-eq0.true c.leaf_vars.ensures c.union-vars.ensures c.if-pending-eq0.true,
      (omega arith, omega arith, steps.going_kept g _ _ s.1.0 two c.in-Some-pair.ensures c.in-Some-places.ensures c.node_of.ensures c.keep_node.ensures c.if-l-eq0.false),
      tt,
      search rules,
    )

pub overflow_sub-pending : goal.overflow_sub-pending
overflow_sub-pending c = let g = c.loop-two.invariant.2 in steps.comes_some c.args.line.now c.args.at _ c.args.at _ _ c.loop-two.nodes c.loop-two.vars c.loop-two.temporal 0 0 _ g.fewer c.requires.1 g.small c.if-pending-eq0.false c.lowest-z.ensures

pub loop-two-preserved-then-operands-eq0 : goal.loop-two-preserved-then-operands-eq0
loop-two-preserved-then-operands-eq0 c =
    let s = c.in-Some.ensures.steps in
    let g = c.loop-two.invariant.2 in
    let two = s.1.1 ∙ c.loop-two.invariant.0 in (
      s.0 ∙ c.loop-two.invariant.0,
      search rules,
      steps.going_leaf g _ _ s.1.0 two c.in-Some-pair.ensures c.in-Some-places.ensures c.node_of.ensures c.keep_node.ensures c.if-l-eq0.false c.if-operands-eq0.true c.leaf_vars.ensures c.union-vars.ensures c.requires.1 c.if-pending-eq0.false c.lowest-z.ensures,
    )

pub loop-two-preserved : goal.loop-two-preserved
loop-two-preserved c =
    let s = c.in-Some.ensures.steps in
    let g = c.loop-two.invariant.2 in
    let two = s.1.1 ∙ c.loop-two.invariant.0 in
    let ever : c.if-b-ge-NEXT.temporal ≡ (leb 69 c.in-Some-pair.b || c.loop-two.temporal) =
    elim c.if-b-ge-NEXT.branch [
      | then-b-ge-NEXT w ↦ w.temporal-is ∙ steps.or_here _ _ (le-leb 69 c.in-Some-pair.b w.if-b-ge-NEXT.true)
      | else-b-ge-NEXT w ↦ w.temporal-is ∙ steps.or_there _ _ (lt-leb 69 c.in-Some-pair.b w.if-b-ge-NEXT.false)
    ]
    in (
      s.0 ∙ c.loop-two.invariant.0,
      search rules,
      steps.going_sign g _ _ s.1.0 two c.in-Some-pair.ensures c.in-Some-places.ensures c.node_of.ensures c.keep_node.ensures c.if-l-eq0.false c.if-operands-eq0.false ever c.from.ensures,
    )

pub returns : goal.returns
returns c =
    let s = c.in-None.ensures.steps in
    let g = c.loop-two.invariant.2 in
    let k = c.loop-two.invariant.0 in
    let short : length (chunks_exact_rest c.loop-two.two-iterator) < 2 = omega (arith, s.1.0) in
    (steps.going_over g short, tt, (omega arith, g.within), c.loop-two.invariant.1)
