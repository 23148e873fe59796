use mathlib.Core.Path.{refl}
use lib.Dec.{lit<}
use Rattle.claimreading.proofs.Laws as laws
use Rattle.claimreading.proofs.count_line.Goals as goal

pub returns-then-ne : goal.returns-then-ne
returns-then-ne c = (tt, λ v m g. laws.count_kind_lem _ _ _ m g v c.requires.1 (laws.kind_not _ 21 _ c.pair_at.ensures (lit< tt) c.if-ne.ensures))

pub returns-then-not-counts : goal.returns-then-not-counts
returns-then-not-counts c = (tt, λ v m g. laws.count_wrong _ _ _ m g v c.requires.1 (laws.kind_so _ 21 _ c.pair_at.ensures (lit< tt) c.if-ne.ensures) c.if-not-counts.ensures)

pub returns : goal.returns
returns c = ((refl, refl, refl), λ v m g. laws.count_fine _ _ _ m g v c.requires.1 (laws.kind_so _ 21 _ c.pair_at.ensures (lit< tt) c.if-ne.ensures) c.if-not-counts.ensures)
