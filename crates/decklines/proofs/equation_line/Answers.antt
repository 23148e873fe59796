use native.Mathlib.Omega.{arith}
use Rattle.std.proofs.lemmas.Result.{err_from_is_err_and}
use Rattle.decklines.proofs.Laws as laws
use Rattle.decklines.proofs.equation_line.Goals as goal

pub returns-in_default-clause-came : goal.returns-in_default-clause-came
returns-in_default-clause-came c = λ s i f k. laws.equation_none c.args.line.now _ 0 c.args.h s c.args.deck.now c.in_default.ensures _

pub returns-then-from-ge-VARIABLES-clause-came : goal.returns-then-from-ge-VARIABLES-clause-came
returns-then-from-ge-VARIABLES-clause-came c = λ s i f k. laws.equation_high c.args.line.now _ _ c.args.h s c.args.deck.now c.in-Some.ensures (omega arith) _

pub returns-then-v-h-clause-came : goal.returns-then-v-h-clause-came
returns-then-v-h-clause-came c = λ s i f k. laws.equation_falls c.args.line.now _ _ _ s c.args.deck.now c.in-Some.ensures i (omega arith) c.if-v-h.true _

pub returns-in_err-e-clause-came : goal.returns-in_err-e-clause-came
returns-in_err-e-clause-came c = let p = err_from_is_err_and c.from_residual.result c.from_residual.ensures.1 in rw (p.1, p.2) (λ s i f k. laws.equation_refused c.args.line.now _ _ _ s c.args.deck.now c.in-Some.ensures i (omega arith) c.if-v-h.false _ c.in_err-e.ensures.0 _)

pub returns-in_err-held-clause-came : goal.returns-in_err-held-clause-came
returns-in_err-held-clause-came c = let p = err_from_is_err_and c.from_residual-in_err-held.result c.from_residual-in_err-held.ensures.1 in rw (p.1, p.2) (λ s i f k. laws.equation_judged_not c.args.line.now _ _ _ s c.args.deck.now c.in-Some.ensures i (omega arith) c.if-v-h.false _ c.in_ok-e.ensures.0 f k _ _ c.in_err-held.ensures.0)

pub returns-clause-came : goal.returns-clause-came
returns-clause-came c = λ s i f k. rw c.from-2.ensures (laws.equation_stored c.args.line.now _ _ _ s c.args.deck.now c.in-Some.ensures i (omega arith) c.if-v-h.false _ c.in_ok-e.ensures.0 f k _ _ c.in_ok-e.ensures.1.1 c.in_ok-held.ensures.0 (let h = c.in_ok-held.ensures.1 in record { few = h.few; most = h.most; used_is = h.used_is }))

pub expression_line-requires : goal.expression_line-requires
expression_line-requires c = (laws.variable-within c.args.line.now _ c.in-Some.ensures, omega arith)
