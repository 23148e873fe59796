use native.Mathlib.Omega.{arith}
use Rattle.decklines.proofs.Laws as laws
use Rattle.decklines.proofs.expression_line.Goals as goal

pub returns-in-Ok : goal.returns-in-Ok
returns-in-Ok c = let h = c.in-Ok.ensures in (laws.expression_fine c.args.line.now c.args.at _ _ c.requires.0 h.0 c.if-e-line.true, (omega arith, h.1.2), h.3)

pub returns-in-Err-Deep : goal.returns-in-Err-Deep
returns-in-Err-Deep c = let h = c.in-Err-Deep.ensures in (laws.expression_deep c.args.line.now c.args.at _ _ (rw c.in-Err-Deep.field-0-is at h.0), tt, h.3)

pub returns-in-Ok-2 : goal.returns-in-Ok-2
returns-in-Ok-2 c = let h = c.in-Ok.ensures in (laws.expression_behind c.args.line.now c.args.at _ _ c.requires.0 h.0 c.if-e-line.false, tt, h.3)

pub returns-in-Err-Wrong : goal.returns-in-Err-Wrong
returns-in-Err-Wrong c = let h = c.in-Err-Wrong.ensures in (laws.expression_wrong c.args.line.now c.args.at _ _ (rw c.in-Err-Wrong.field-0-is at h.0), tt, h.3)
