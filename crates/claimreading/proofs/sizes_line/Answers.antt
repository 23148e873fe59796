use mathlib.Core.Path.{refl}
use lib.Dec.{lit<}
use Rattle.claimreading.proofs.Laws as laws
use Rattle.claimreading.proofs.sizes_line.Goals as goal

pub returns-then-ne : goal.returns-then-ne
returns-then-ne c = (laws.sizes_kind _ _ (laws.kind_not _ 17 _ c.pair_at.ensures (lit< tt) c.if-ne.ensures), tt)

pub returns-in_default : goal.returns-in_default
returns-in_default c = (laws.sizes_number _ _ (laws.kind_so _ 17 _ c.pair_at.ensures (lit< tt) c.if-ne.ensures) c.in_default.ensures, tt)

pub returns-then-c-eq0 : goal.returns-then-c-eq0
returns-then-c-eq0 c = (laws.sizes_none _ _ (laws.kind_so _ 17 _ c.pair_at.ensures (lit< tt) c.if-ne.ensures) _ c.in-Some.ensures c.if-c-eq0.true, tt)

pub returns-then-p-c-gt-STATES : goal.returns-then-p-c-gt-STATES
returns-then-p-c-gt-STATES c = (laws.sizes_many _ _ (laws.kind_so _ 17 _ c.pair_at.ensures (lit< tt) c.if-ne.ensures) _ c.in-Some.ensures c.if-c-eq0.false c.if-p-c-gt-STATES.true, tt)

pub returns : goal.returns
returns c = (laws.sizes_fine _ _ (laws.kind_so _ 17 _ c.pair_at.ensures (lit< tt) c.if-ne.ensures) _ c.in-Some.ensures c.if-c-eq0.false c.if-p-c-gt-STATES.false, (c.if-p-c-gt-STATES.false, refl))
