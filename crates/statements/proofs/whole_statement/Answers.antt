use Rattle.statements.proofs.Laws as laws
use Rattle.statements.proofs.whole_statement.Goals as goal

pub append-requires : goal.append-requires
append-requires c = (laws.room_none _ c.nothing-stmt.ensures, laws.field-short _ _ c.field.ensures)

pub loop-card-init : goal.loop-card-init
loop-card-init c = laws.begun _ _ _ _ c.requires c.field.ensures c.nothing-stmt.ensures c.append.ensures

pub returns-in-Empty : goal.returns-in-Empty
returns-in-Empty c = laws.taken_before_empty _ _ _ c.loop-card.invariant c.in-Some.behind _ c.in-Some.ensures.0 c.in-Some.ensures.1 c.in-Empty.ensures

pub returns-in-Opening : goal.returns-in-Opening
returns-in-Opening c = laws.taken_before_opening _ _ _ c.loop-card.invariant c.in-Some.behind _ c.in-Some.ensures.0 c.in-Some.ensures.1 c.in-Opening.ensures

pub append-requires-in-Continuing : goal.append-requires-in-Continuing
append-requires-in-Continuing c = (laws.room _ _ _ c.loop-card.invariant c.in-Some.behind _ c.in-Some.ensures.0 c.in-Some.ensures.1 c.in-Continuing.ensures, laws.field-short _ c.in-Some.card.now c.field-in-Continuing.ensures)

pub loop-card-preserved-in-Comment : goal.loop-card-preserved-in-Comment
loop-card-preserved-in-Comment c = laws.comment_passed _ _ _ c.loop-card.invariant c.in-Some.behind _ c.in-Some.ensures.0 c.in-Some.ensures.1 c.in-Comment.ensures c.in-Some.ensures.2

pub loop-card-preserved : goal.loop-card-preserved
loop-card-preserved c = laws.continuation_folded _ _ _ c.loop-card.invariant c.in-Some.behind _ c.in-Some.ensures.0 c.in-Some.ensures.1 _ _ c.in-Continuing.ensures c.in-Some.ensures.2 c.field-in-Continuing.ensures c.append-in-Continuing.ensures

pub returns : goal.returns
returns c = laws.taken_last _ _ _ c.loop-card.invariant c.in_default.ensures
