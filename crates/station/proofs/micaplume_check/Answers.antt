use borrow.Author.Rules.{rules}
use Rattle.station.proofs.OperationLaws as laws
use Rattle.station.proofs.PackLaws as packs
use Rattle.station.proofs.micaplume_check.Goals as goal

pub packed-requires : goal.packed-requires
packed-requires c = search (rules, packs.check_packs)

pub returns : goal.returns
returns c = search (rules, laws.packed-done)
