use Rattle.std.proofs.Common.{arith, ◌≡◌, ◌-◌, length}
use Rattle.evaluator.proofs.Laws as laws
use Rattle.evaluator.proofs.next.Goals as goal

pub loop-i-preserved : goal.loop-i-preserved
loop-i-preserved c = laws.next_on _ _ _ _ c.loop-i.invariant (omega arith)

pub returns : goal.returns
returns c =
    let e : c.loop-i.i ≡ length c.args.words.now - 1 = omega arith in
    laws.next_last _ _ _ _ (rw e at c.loop-i.invariant) (omega arith)
