use Rattle.std.proofs.Common.{rules}
use Rattle.std.proofs.lemmas.Result.{err_from_is_err_and}
use Rattle.cardlines.proofs.Dispatch as dispatch
use Rattle.cardlines.proofs.equation_or_prop.Goals as goal

pub returns-in_err-equation_statement-clause-came : goal.returns-in_err-equation_statement-clause-came
returns-in_err-equation_statement-clause-came c = λ s H.
    let p = err_from_is_err_and c.from_residual.result c.from_residual.ensures.1 in
    rw (p.1, p.2) (dispatch.equation_stopped _ _ _ _ s H c.in-Ok.at c.in-Ok.ensures _ c.in_err-equation_statement.ensures.came)

pub returns-in-Ok-clause-came : goal.returns-in-Ok-clause-came
returns-in-Ok-clause-came c = λ s H. dispatch.equation_read _ _ _ _ s H c.in-Ok.at c.in-Ok.ensures _ c.in_ok-equation_statement.ensures.came

pub returns-in_err-at-clause-came : goal.returns-in_err-at-clause-came
returns-in_err-at-clause-came c = λ s H. search (rules, dispatch.prop_none)

pub returns-in_err-deck-clause-came : goal.returns-in_err-deck-clause-came
returns-in_err-deck-clause-came c = λ s H.
    let p = err_from_is_err_and c.from_residual-in_err-deck.result c.from_residual-in_err-deck.ensures.1 in
    rw (p.1, p.2) (dispatch.prop_stopped _ _ _ _ s H _ c.in_default.ensures c.in_ok-at.at (search rules) _ c.in_err-deck.ensures.came)

pub returns-clause-came : goal.returns-clause-came
returns-clause-came c = λ s H. dispatch.prop_read _ _ _ _ s H _ c.in_default.ensures c.in_ok-at.at (search rules) _ _ c.in_ok-deck.ensures.came
