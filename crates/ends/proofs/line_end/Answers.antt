use native.Mathlib.Omega.{arith}
use Rattle.ends.proofs.Laws as laws
use borrow.Author.Rules.{rules}
use Rattle.ends.proofs.line_end.Goals as goal

pub returns-then-text-i-eq-LINE_END : goal.returns-then-text-i-eq-LINE_END
returns-then-text-i-eq-LINE_END c = search (rules, laws.line_met)

pub loop-i-preserved : goal.loop-i-preserved
loop-i-preserved c = search (rules, laws.line_on)

pub returns : goal.returns
returns c = (laws.line_last _ _ _ c.loop-i-test.false (omega arith) c.loop-i.invariant.line, omega arith, omega arith)
