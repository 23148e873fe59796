use mathlib.Core.Path.{◌∙◌}
use Rattle.lines.proofs.Laws as laws
use Rattle.lines.proofs.counts.Goals as goal

pub returns : goal.returns
returns c = c.eq.ensures ∙ laws.counts_are _ _ _ c.requires c.number_at.ensures
