use Rattle.std.proofs.lemmas.Result.{err_from_is_err_and}
use Rattle.decklines.proofs.Laws as laws
use Rattle.decklines.proofs.set_alone.Goals as goal

pub returns-in_err-deck-clause-came : goal.returns-in_err-deck-clause-came
returns-in_err-deck-clause-came c = let p = err_from_is_err_and c.from_residual.result c.from_residual.ensures.1 in rw (p.1, p.2) (λ s. laws.set_alone_refused _ _ s c.args.deck.now _ _ c.in_err-deck.ensures)

pub returns-clause-came : goal.returns-clause-came
returns-clause-came c = λ s. laws.set_alone_fine _ _ s c.args.deck.now _ c.in_ok-deck.ensures _ c.nothing.ensures
