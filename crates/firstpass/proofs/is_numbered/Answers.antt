use Rattle.std.proofs.Common.{ap, ◌∙◌, arith}
use Rattle.cards.specs.Card.{every}
use Rattle.firstpass.specs.Passed.{between}
use Rattle.firstpass.proofs.Laws as laws
use Rattle.firstpass.proofs.is_numbered.Goals as goal

pub returns-in-Some : goal.returns-in-Some
returns-in-Some c = laws.number_digits _ _ _ c.blank_columns.ensures c.if-blank_columns.false c.in-Some.ensures.lookup.0.1 (c.all_between.ensures ∙ ap (every (between 48 57)) c.in-Some.ensures.lookup.0.2)

pub returns-in-None : goal.returns-in-None
returns-in-None c = laws.number_short _ _ c.blank_columns.ensures c.if-blank_columns.false (omega (arith, c.in-None.ensures.lookup.0))
