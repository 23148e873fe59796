use Rattle.std.proofs.Common.{◌∙◌}
use Rattle.decks.proofs.States.{any_stands}
use Rattle.decks.proofs.stands_in.Goals as goal

pub returns : goal.returns
returns c = c.contains.ensures.value ∙ any_stands c.args.s c.args.states.now
