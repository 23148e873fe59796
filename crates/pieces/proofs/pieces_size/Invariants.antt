use Rattle.pieces.proofs.All as laws
use Rattle.pieces.proofs.pieces_size.Given as goal

abbrev pub invariant-loop-span : goal.invariant-loop-span
invariant-loop-span l = laws.SizeTo l.deck l.deps l.spans l.span-index l.n
