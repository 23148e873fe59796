use mathlib.Core.Path.{refl}
use native.Mathlib.Omega.{arith}
use Rattle.std.proofs.lemmas.Result.{IfOk-weaker}
use Rattle.claimreading.proofs.Laws as laws
use Rattle.claimreading.proofs.claim_line.Goals as goal

pub returns-in-Sizes : goal.returns-in-Sizes
returns-in-Sizes c = (refl, IfOk-weaker c.sizes_line.result _ _ (λ x p. (p.0, omega arith)) c.sizes_line.ensures.1, λ s e f. laws.line_sizes _ _ _ _ s e _ _ f c.in-Sizes.is c.sizes_line.ensures.0)

pub returns-in-States-2 : goal.returns-in-States-2
returns-in-States-2 c = (refl, IfOk-weaker c.count_line.result _ _ (λ x p. (omega arith, omega arith)) c.count_line.ensures.0, λ s e f. laws.line_count _ _ _ _ s e _ _ f c.in-States.is c.if-h.false c.count_line.ensures.1)

pub returns-in-Nothing : goal.returns-in-Nothing
returns-in-Nothing c = (refl, tt, λ s e f. laws.line_none _ _ _ _ s e _ c.in-Nothing.is)
