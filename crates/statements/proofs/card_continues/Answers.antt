use Rattle.statements.proofs.Laws as laws
use Rattle.statements.proofs.card_continues.Goals as goal

pub returns-then-column-eq32 : goal.returns-then-column-eq32
returns-then-column-eq32 c = laws.text_blank-continues _ _ c.column.ensures c.if-column-eq32.true
