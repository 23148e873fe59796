use mathlib.Core.Path.{refl}
use native.Mathlib.Omega.{arith}
use lib.Dec.{lit<}
use lib.ListN.{length-set}
use Rattle.claimreading.proofs.Laws as laws
use Rattle.claimreading.proofs.state_line.Goals as goal

pub returns-then-ne : goal.returns-then-ne
returns-then-ne c = (refl, tt, λ m g o. laws.state_kind_lem _ _ _ m g _ c.requires.1 (laws.kind_not _ 18 _ c.pair_at.ensures (lit< tt) c.if-ne.ensures) _)

pub returns-in_default : goal.returns-in_default
returns-in_default c = (refl, tt, λ m g o. laws.state_number _ _ _ m g _ c.requires.1 (laws.kind_so _ 18 _ c.pair_at.ensures (lit< tt) c.if-ne.ensures) c.in_default.ensures _)

pub returns-then-not-subset : goal.returns-then-not-subset
returns-then-not-subset c = (refl, tt, λ m g o. laws.state_outside _ _ _ m g _ c.requires.1 (laws.kind_so _ 18 _ c.pair_at.ensures (lit< tt) c.if-ne.ensures) _ c.in-Some.ensures c.if-not-subset.ensures _)

pub bounds-states-h : goal.bounds-states-h
bounds-states-h c = let k = laws.state_bytes c.args.line.now _ c.in-Some.ensures in c.requires.2 c.args.h.count (omega arith) (omega arith)

pub returns : goal.returns
returns c =
    let k = laws.state_bytes c.args.line.now _ c.in-Some.ensures in
    (length-set c.args.states.now _ _, (c.requires.0, omega arith), λ m g o. laws.state_fine _ _ _ m g _ c.requires.1 (laws.kind_so _ 18 _ c.pair_at.ensures (lit< tt) c.if-ne.ensures) _ c.in-Some.ensures _ o c.requires.2 c.requires.0 c.if-not-subset.ensures)
