use Rattle.sweeps.proofs.sweep_twice.Goals as goal

pub returns : goal.returns
returns c = rw c.settle-v.ensures.0 at c.sweep.ensures
