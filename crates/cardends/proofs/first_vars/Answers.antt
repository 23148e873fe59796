use Rattle.std.proofs.Common.{arith}
use Rattle.cardends.proofs.FinishLaws as laws
use Rattle.cardends.proofs.first_vars.Goals as goal

pub returns-then-count-eq-VARIABLES : goal.returns-then-count-eq-VARIABLES
returns-then-count-eq-VARIABLES c = laws.all_first _ c.if-count-eq-VARIABLES.true

pub overflow_sub-result : goal.overflow_sub-result
overflow_sub-result c = laws.shifted_some _ (omega arith)

pub returns : goal.returns
returns c = laws.few-first _ (omega arith)
