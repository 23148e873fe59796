use Rattle.statements.proofs.Laws as laws
use Rattle.statements.proofs.is_continued.Goals as goal

pub loop-left-preserved : goal.loop-left-preserved
loop-left-preserved c = laws.text_comment_behind _ _ _ _ c.loop-left.invariant c.loop-left-test.ensures c.in-Some.ensures.0 c.in-Some.ensures.2

pub returns : goal.returns
returns c = laws.text_no_comment _ _ _ c.loop-left.invariant c.loop-left-test.ensures c.card_continues.ensures
