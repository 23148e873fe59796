use Rattle.std.proofs.Common.{rules, arith}
use Rattle.steps.proofs.Marks.{all_marked}
use Rattle.steps.proofs.mark.Goals as goal

pub returns : goal.returns
returns c =
    all_marked _ _ _ _ _ c.args.marks.now _ _ _ (omega arith) c.requires.1 c.each.ensures (search rules) c.step_marked.ensures
