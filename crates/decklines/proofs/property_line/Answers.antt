use native.Mathlib.Omega.{arith}
use Rattle.std.proofs.lemmas.Result.{err_from_is_err_and}
use Rattle.decklines.proofs.Laws as laws
use Rattle.decklines.proofs.property_line.Goals as goal

pub returns-in_err-e-clause-came : goal.returns-in_err-e-clause-came
returns-in_err-e-clause-came c = let p = err_from_is_err_and c.from_residual.result c.from_residual.ensures.1 in rw (p.1, p.2) (λ s i f. let z = laws.property_refused _ _ s c.args.deck.now _ _ c.in_err-e.ensures.0 in (z.line_is, λ y. z))

pub returns-then-not-subset-clause-came : goal.returns-then-not-subset-clause-came
returns-then-not-subset-clause-came c = λ s i f. let z = laws.property_outside _ _ s c.args.deck.now f _ c.in_ok-e.ensures.0 _ c.if-not-subset.ensures in (z.line_is, λ y. z)

pub returns-then-e-gt-PROPERTY_NODES-clause-came : goal.returns-then-e-gt-PROPERTY_NODES-clause-came
returns-then-e-gt-PROPERTY_NODES-clause-came c = λ s i f. let z = laws.property_many _ _ s c.args.deck.now f _ c.in_ok-e.ensures.0 _ c.if-not-subset.ensures c.if-e-gt-PROPERTY_NODES.true in (z.line_is, λ y. z)

pub returns-clause-came : goal.returns-clause-came
returns-clause-came c = λ s i f. laws.property-stored _ _ s c.args.deck.now f _ c.in_ok-e.ensures.0 _ _ i c.if-not-subset.ensures c.if-e-gt-PROPERTY_NODES.false (c.in_ok-e.ensures.1.1.nodes_are (omega arith))
