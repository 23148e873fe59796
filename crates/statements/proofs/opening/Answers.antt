use Rattle.std.proofs.Common.{◌∙◌, arith}
use Rattle.statements.proofs.Laws as laws
use Rattle.statements.proofs.opening.Goals as goal

pub loop-card-preserved : goal.loop-card-preserved
loop-card-preserved c =
    let kept = c.loop-card.invariant in
    record {
      same = kept.same ∙ laws.same_on c.loop-card.left c.in-Some.behind _ c.in-Some.ensures.0 c.in-Some.ensures.1 _ c.kind_of.ensures c.if-eq.ensures;
      formed = laws.formed_on c.loop-card.left c.in-Some.behind _ c.in-Some.ensures.0 c.in-Some.ensures.1 kept.formed;
      onward = omega (arith, kept.onward, c.in-Some.ensures.2);
    }

pub returns : goal.returns
returns c = laws.no_opener c.args.cards c.loop-card.left c.loop-card.invariant.same c.in_default.ensures
