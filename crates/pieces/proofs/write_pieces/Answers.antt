use mathlib.Core.Path.{refl}
use borrow.Author.Rules.{rules}
use Rattle.pieces.proofs.All as laws
use Rattle.pieces.proofs.write_pieces.Goals as goal

pub loop-span-init : goal.loop-span-init
loop-span-init c = (refl, laws.filling_start _ _ _ _)

pub slice_bounds-write_piece-count : goal.slice_bounds-write_piece-count
slice_bounds-write_piece-count c = laws.used-within _ _ _ _ c.loop-span-test.true _ refl _ _ _ c.loop-span.invariant.0 c.loop-span.invariant.1 c.requires

pub write_piece-used-requires : goal.write_piece-used-requires
write_piece-used-requires c = laws.free-some _ _ _ _ c.loop-span-test.true _ refl _ _ _ c.loop-span.invariant.0 c.loop-span.invariant.1 c.requires

pub overflow_add-used : goal.overflow_add-used
overflow_add-used c = laws.used-fits _ _ _ _ c.loop-span-test.true _ refl _ _ _ c.loop-span.invariant.0 c.loop-span.invariant.1 _ _ c.write_piece-used.ensures c.requires

pub loop-span-preserved : goal.loop-span-preserved
loop-span-preserved c = (search rules, laws.filling_on _ _ _ _ c.loop-span-test.true _ refl _ _ _ c.loop-span.invariant.0 c.loop-span.invariant.1 _ _ c.write_piece-used.ensures)

pub returns : goal.returns
returns c = laws.filling_done _ _ _ _ _ _ _ c.loop-span-test.false c.loop-span.invariant.1
