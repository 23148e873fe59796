use Rattle.grammar.proofs.Ahead as laws
use Rattle.grammar.proofs.next_ink.Goals as goal

pub returns-in_err-place : goal.returns-in_err-place
returns-in_err-place c = rw c.from_residual.ensures (laws.ink_none _ _ c.requires c.in_err-place.ensures)

pub returns : goal.returns
returns c = laws.ink_there _ _ c.requires _ c.in_ok-place.ensures
