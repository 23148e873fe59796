use borrow.Author.Rules.{rules}
use Rattle.station.proofs.OperationLaws as laws
use Rattle.station.proofs.PackLaws as packs
use Rattle.station.proofs.micaplume_cone.Goals as goal

pub export-requires : goal.export-requires
export-requires c = search (rules, packs.cone_packs)

pub returns : goal.returns
returns c = search (rules, laws.export_done)
