use mathlib.Core.Path.{refl}
use Rattle.pieces.proofs.Piece as laws
use Rattle.pieces.proofs.piece_size.Goals as goal

pub slice_bounds-conjunct-end : goal.slice_bounds-conjunct-end
slice_bounds-conjunct-end c = laws.span_within _ _ _ _ c.property_nodes.ensures c.requires

pub frames_size-requires : goal.frames_size-requires
frames_size-requires c = laws.lent_some _ _ _ _ c.property_nodes.ensures _ c.kept_by-kept.ensures _ c.states.ensures _ refl _ c.rows.ensures c.requires

pub returns : goal.returns
returns c = laws.piece_counted _ _ _ _ c.property_nodes.ensures _ c.kept_by-kept.ensures _ c.states.ensures _ refl _ c.rows.ensures _ c.frames_size.ensures
