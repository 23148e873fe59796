use Rattle.pieces.proofs.Piece as laws
use Rattle.pieces.proofs.kept_by.Goals as goal

pub closing-cone-requires : goal.closing-cone-requires
closing-cone-requires c = laws.deps_long _ _ _ c.requires

pub returns : goal.returns
returns c =
    let count = c.project-count.ensures in
    laws.keeps _ _ _ _ c.property_nodes.ensures _ _ _ c.written_in-written.ensures c.closing-cone.ensures c.initial_states.ensures count.0 count.2
