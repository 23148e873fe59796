use Rattle.cones.proofs.Answered as laws
use borrow.Author.Rules.{rules}
use Rattle.cones.proofs.cone.Goals as goal

pub returns-then-outside-ne0 : goal.returns-then-outside-ne0
returns-then-outside-ne0 c = search (rules, laws.answered_outside)

pub cone_of-set-requires : goal.cone_of-set-requires
cone_of-set-requires c = laws.given_some _ _ _ _ _ c.requires

pub returns : goal.returns
returns c = search (rules, laws.answered_cone)
