use Rattle.std.proofs.Common.{rules, arith}
use Rattle.std.proofs.lemmas.Result.{err_from_is_err_and}
use Rattle.cardreading.proofs.ReadLaws as laws
use Rattle.cardreading.proofs.both_passes.Goals as goal

pub returns-then-text-gt-TEXT : goal.returns-then-text-gt-TEXT
returns-then-text-gt-TEXT c = search (rules, laws.too_long)

pub returns-in_err-first_pass : goal.returns-in_err-first_pass
returns-in_err-first_pass c =
    let p = err_from_is_err_and c.from_residual.result c.from_residual.ensures.1 in
    rw (p.1, p.2) (laws.not_in_form _ (omega arith) _ _ c.in_err-first_pass.ensures)

pub returns : goal.returns
returns c = laws.in_form_read _ (omega arith) _ _ c.in_ok-first_pass.ensures c.second_pass.ensures
