use mathlib.Core.Path.{refl}
use Rattle.pieces.proofs.Piece as laws
use Rattle.pieces.proofs.write_piece.Goals as goal

pub slice_bounds-conjunct-end : goal.slice_bounds-conjunct-end
slice_bounds-conjunct-end c = let p = c.requires in laws.span_within _ _ _ _ c.property_nodes.ensures (p.0, p.1, p.2)

pub write_frames-requires : goal.write_frames-requires
write_frames-requires c = laws.room-some _ _ _ _ c.property_nodes.ensures _ c.kept_by-kept.ensures _ c.states.ensures _ refl _ c.rows.ensures _ c.requires

pub returns : goal.returns
returns c = laws.piece_wrote _ _ _ _ c.property_nodes.ensures _ c.kept_by-kept.ensures _ c.states.ensures _ refl _ c.rows.ensures _ _ _ c.write_frames.ensures
