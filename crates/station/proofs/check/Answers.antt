use mathlib.Core.Path.{ap, ◌∙◌}
use Rattle.decks.specs.Answers.{reply_to}
use Rattle.station.specs.Readings.{frames_readable}
use Rattle.station.proofs.OperationLaws as laws
use Rattle.station.proofs.check.Goals as goal

pub checked-requires : goal.checked-requires
checked-requires c = (_, frames_readable _, c.read-read.ensures)

pub returns : goal.returns
returns c = c.reply_to.ensures ∙ ap reply_to (c.checked.ensures _ (frames_readable _) c.read-read.ensures ∙ laws.checked_is _ _)
