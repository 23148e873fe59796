use mathlib.Core.Path.{◌∙◌}
use Rattle.decklines.proofs.Laws as laws
use Rattle.decklines.proofs.set_read.Goals as goal

pub returns : goal.returns
returns c = c.ok_or.ensures.value ∙ laws.set_said _ _ _ c.number_at.ensures
