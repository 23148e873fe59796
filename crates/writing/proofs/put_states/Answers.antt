use borrow.Author.Rules.{rules}
use Rattle.writing.proofs.Laws as laws
use Rattle.writing.proofs.put_states.Goals as goal

pub loop-i-preserved : goal.loop-i-preserved
loop-i-preserved c = (
  search rules,
  laws.each_next (laws.state_frame c.args.kind) 19 _ _ _ _ _ (laws.length_state_frame c.args.kind) c.loop-i-test.true c.loop-i.invariant.1 c.put_number_frame.ensures.1,
)

pub returns : goal.returns
returns c = search (rules, laws.states-done)
