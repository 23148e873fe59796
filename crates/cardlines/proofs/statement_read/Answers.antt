use Rattle.std.proofs.Common.{rules}
use Rattle.std.proofs.lemmas.Result.{err_from_is_err_and}
use Rattle.cardlines.proofs.Dispatch as dispatch
use Rattle.cardlines.proofs.statement_read.Goals as goal

pub returns-in_err-count-in-Vars-clause-came : goal.returns-in_err-count-in-Vars-clause-came
returns-in_err-count-in-Vars-clause-came c = λ s H.
    let p = err_from_is_err_and c.from_residual.result c.from_residual.ensures.1 in
    rw (p.1, p.2) (dispatch.vars_stopped _ _ _ _ s H _ c.in-Vars.is c.in_err-count-in-Vars.ensures)

pub returns-in_err-at-in-Init-clause-came : goal.returns-in_err-at-in-Init-clause-came
returns-in_err-at-in-Init-clause-came c = λ s H. search (rules, dispatch.init_none)

pub returns-in_err-end_statement-in-End-clause-came : goal.returns-in_err-end_statement-in-End-clause-came
returns-in_err-end_statement-in-End-clause-came c = λ s H.
    let p = err_from_is_err_and c.from_residual-in_err-end_statement-in-End.result c.from_residual-in_err-end_statement-in-End.ensures.1 in
    rw (p.1, p.2) (dispatch.end_stopped _ _ _ _ s H _ c.in-End.is c.in_err-end_statement-in-End.ensures)

pub returns-in_ok-count-in-Vars-clause-came : goal.returns-in_ok-count-in-Vars-clause-came
returns-in_ok-count-in-Vars-clause-came c = λ s H. search (rules, dispatch.vars_read)

pub returns-in_ok-at-in-Init-clause-came : goal.returns-in_ok-at-in-Init-clause-came
returns-in_ok-at-in-Init-clause-came c = λ s H. dispatch.init_first _ _ _ _ s H _ _ c.in_ok-at-in-Init.at (search rules) c.init_statement.ensures.came c.in-Init.is

pub returns-in-Ok-clause-came : goal.returns-in-Ok-clause-came
returns-in-Ok-clause-came c = λ s H. dispatch.init_more _ _ _ _ s H _ _ c.in-Ok.at c.in-Ok.ensures c.init_statement-in-Ok.ensures.came c.in-Any.is

pub returns-in-Err-clause-came : goal.returns-in-Err-clause-came
returns-in-Err-clause-came c = λ s H. dispatch.either_first _ _ _ _ s H _ _ c.equation_or_prop.ensures.came _ c.in-Any.is c.in-Err.ensures

pub returns-in-Equation-clause-came : goal.returns-in-Equation-clause-came
returns-in-Equation-clause-came c = λ s H. search (rules, dispatch.either_more)

pub returns-in_ok-end_statement-in-End-clause-came : goal.returns-in_ok-end_statement-in-End-clause-came
returns-in_ok-end_statement-in-End-clause-came c = λ s H. search (rules, dispatch.end_read)

pub returns-in-Nothing-clause-came : goal.returns-in-Nothing-clause-came
returns-in-Nothing-clause-came c = λ s H. search (rules, dispatch.nothing_due)
