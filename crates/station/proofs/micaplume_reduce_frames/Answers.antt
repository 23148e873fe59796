use borrow.Author.Rules.{rules}
use Rattle.station.proofs.OperationLaws as laws
use Rattle.station.proofs.PackLaws as packs
use Rattle.station.proofs.micaplume_reduce_frames.Goals as goal

pub export-requires : goal.export-requires
export-requires c = search (rules, packs.reduce_frames_packs)

pub returns : goal.returns
returns c = let w = c.reduce_frames.ensures in (laws.export_done _ _ _ _ w.0 c.export.ensures, w.1)
