use Rattle.std.proofs.lemmas.Result.{err_from_is_err_and}
use Rattle.firstpass.proofs.Laws as laws
use Rattle.firstpass.proofs.first_pass.Goals as goal

pub returns-in_err-hand : goal.returns-in_err-hand
returns-in_err-hand c =
    let p = err_from_is_err_and c.from_residual.result c.from_residual.ensures.1 in
    rw (p.1, p.2) (laws.pass_refused _ _ _ _ _ _ c.loop-card.invariant c.in-Some.ensures.0 _ c.in_err-hand.ensures)

pub loop-card-preserved : goal.loop-card-preserved
loop-card-preserved c = laws.pass_on _ _ _ _ _ _ c.loop-card.invariant c.in-Some.ensures.0 _ _ c.in-Some.ensures.1 c.in_ok-hand.ensures

pub returns : goal.returns
returns c = laws.pass_done _ _ _ _ c.in_default.ensures c.loop-card.invariant
