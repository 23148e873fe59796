use native.Mathlib.Omega.{arith}
use Rattle.terms.proofs.Laws as laws
use Rattle.terms.proofs.is_constant.Goals as goal

pub returns-in-256 : goal.returns-in-256
returns-in-256 c = laws.constant_yes _ (omega arith) (omega arith)

pub returns-in_default : goal.returns-in_default
returns-in_default c = laws.constant_no _ (omega arith) (omega arith)

pub returns-in_default-2 : goal.returns-in_default-2
returns-in_default-2 c = laws.constant_no _ (omega arith) (omega arith)
