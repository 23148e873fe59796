use Rattle.std.proofs.lemmas.Result.{err_from_is_err_and}
use Rattle.decklines.proofs.Laws as laws
use Rattle.decklines.proofs.init_line.Goals as goal

pub returns-in_err-x-clause-came : goal.returns-in_err-x-clause-came
returns-in_err-x-clause-came c = let p = err_from_is_err_and c.from_residual.result c.from_residual.ensures.1 in rw (p.1, p.2) (λ s e f g k. laws.init_number _ _ s c.args.deck.now _ _ c.in_err-x.ensures)

pub returns-then-stands_in-clause-came : goal.returns-then-stands_in-clause-came
returns-then-stands_in-clause-came c = λ s e f g k. laws.init_equal _ _ s c.args.deck.now f g k _ c.in_ok-x.ensures _ c.initial_states.ensures _ c.if-stands_in.ensures

pub returns-then-not-subset-clause-came : goal.returns-then-not-subset-clause-came
returns-then-not-subset-clause-came c = λ s e f g k. laws.init_outside _ _ s c.args.deck.now f g k _ c.in_ok-x.ensures _ c.initial_states.ensures _ c.if-stands_in.ensures c.if-not-subset.ensures

pub returns-then-deck-gt-INITIALS-clause-came : goal.returns-then-deck-gt-INITIALS-clause-came
returns-then-deck-gt-INITIALS-clause-came c = λ s e f g k. laws.init_many _ _ s c.args.deck.now f g k _ c.in_ok-x.ensures _ c.initial_states.ensures _ c.if-stands_in.ensures c.if-not-subset.ensures c.if-deck-gt-INITIALS.true

pub returns-clause-came : goal.returns-clause-came
returns-clause-came c = λ s e f g k. laws.init_fine _ _ s c.args.deck.now f g k _ c.in_ok-x.ensures _ c.initial_states.ensures _ e c.if-stands_in.ensures c.if-not-subset.ensures c.if-deck-gt-INITIALS.false
