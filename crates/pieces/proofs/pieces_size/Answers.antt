use mathlib.Core.Path.{refl}
use Rattle.pieces.proofs.All as laws
use Rattle.pieces.proofs.pieces_size.Goals as goal

pub loop-span-init : goal.loop-span-init
loop-span-init c = laws.size_start _ _ _

pub piece_size-n-requires : goal.piece_size-n-requires
piece_size-n-requires c = laws.placed-some _ _ _ _ c.loop-span-test.true _ refl c.requires

pub overflow_add-n : goal.overflow_add-n
overflow_add-n c = laws.size_fits _ _ _ _ c.loop-span-test.true _ refl _ _ c.piece_size-n.ensures c.loop-span.invariant c.requires

pub loop-span-preserved : goal.loop-span-preserved
loop-span-preserved c = laws.size_on _ _ _ _ c.loop-span-test.true _ refl _ _ c.piece_size-n.ensures c.loop-span.invariant

pub returns : goal.returns
returns c = laws.size-done _ _ _ _ _ c.loop-span-test.false c.loop-span.invariant
