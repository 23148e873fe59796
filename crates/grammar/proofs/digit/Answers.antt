use Rattle.grammar.proofs.Numbers as laws
use Rattle.grammar.proofs.digit.Goals as goal

pub returns-in-None : goal.returns-in-None
returns-in-None c = laws.digit_off _ _ _ c.requires c.in-None.ensures
