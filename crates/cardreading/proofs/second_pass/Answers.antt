use Rattle.cardreading.proofs.ReadLaws as laws
use Rattle.cardreading.proofs.second_pass.Goals as goal

pub returns-then-ne : goal.returns-then-ne
returns-then-ne c = laws.statement_missing _ _ _ c.in_ok-held.ensures _ c.if-ne.ensures

pub sort-requires : goal.sort-requires
sort-requires c = laws.can_sort _ _ _ c.in_ok-held.ensures c.if-ne.ensures

pub finished-requires : goal.finished-requires
finished-requires c = laws.ready_sorted _ _ _ c.in_ok-held.ensures c.if-ne.ensures _ c.sort.ensures

pub returns : goal.returns
returns c = laws.deck_finished _ _ _ c.in_ok-held.ensures c.if-ne.ensures _ c.sort.ensures _ _ c.finished.ensures.read
