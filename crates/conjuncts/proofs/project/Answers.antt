use Rattle.conjuncts.proofs.States as laws
use borrow.Author.Rules.{rules}
use native.Mathlib.Omega.{arith}
use Rattle.conjuncts.proofs.project.Goals as goal

pub loop-s-init : goal.loop-s-init
loop-s-init c = search (rules, laws.project_start)

pub loop-s-preserved : goal.loop-s-preserved
loop-s-preserved c =
    record { few = omega arith; seen = laws.project_on _ _ _ c.loop-s.n _ _ c.loop-s.row _ c.loop-s-test.true c.meet-seen.ensures c.add_state-n.ensures.2 c.loop-s.invariant.seen }

pub returns : goal.returns
returns c = search (rules, laws.project_done)
