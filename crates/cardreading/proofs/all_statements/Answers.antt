use Rattle.std.proofs.lemmas.Result.{err_from_is_err_and}
use Rattle.cardlines.proofs.Laws.{nothing_small}
use Rattle.cardreading.proofs.WalkLaws as laws
use Rattle.cardreading.proofs.all_statements.Goals as goal

pub loop-opener-init : goal.loop-opener-init
loop-opener-init c =
    record {
      formed = rw (c.of-left.ensures.first, c.of-left.ensures.text) c.requires.0;
      small = rw (c.nothing-held.ensures, c.requires.1) nothing_small;
      walked = laws.walked_begun _ c.of-left.result _ _ c.of-left.ensures.text c.of-left.ensures.first c.nothing-held.ensures c.requires.1;
    }

pub returns-in_err-next : goal.returns-in_err-next
returns-in_err-next c =
    let p = err_from_is_err_and c.from_residual.result c.from_residual.ensures.1 in
    rw (p.1, p.2) (laws.walked_refused _ c.loop-opener.left _ _ c.loop-opener.invariant.walked c.in-Some.opener c.in-Some.ensures.0 _ c.in_err-next.ensures.came)

pub loop-opener-preserved : goal.loop-opener-preserved
loop-opener-preserved c =
    let step = c.in_ok-next.ensures.came in
    record {
      formed = step.formed;
      small = step.small;
      walked = laws.walked_on _ c.loop-opener.left _ _ c.loop-opener.invariant.walked c.in-Some.opener c.in-Some.ensures.0 _ c.in_ok-next.behind _ step;
    }

pub returns : goal.returns
returns c = laws.walked_end _ c.loop-opener.left _ _ c.loop-opener.invariant.walked c.in_default.ensures
