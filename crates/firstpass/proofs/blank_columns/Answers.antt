use Rattle.std.proofs.Common.{ap, ◌∙◌, arith}
use Rattle.cards.specs.Card.{every}
use Rattle.firstpass.specs.Passed.{between}
use Rattle.firstpass.proofs.Laws as laws
use Rattle.firstpass.proofs.blank_columns.Goals as goal

pub returns-in-Some : goal.returns-in-Some
returns-in-Some c = laws.blank-some _ _ _ _ _ c.requires c.min.ensures (c.all_between.ensures ∙ ap (every (between 32 32)) c.in-Some.ensures.lookup.0.2)

pub returns-in-None : goal.returns-in-None
returns-in-None c = laws.blank_none _ _ _ _ c.requires c.min.ensures (omega (arith, c.in-None.ensures.lookup.0))
