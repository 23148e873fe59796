use mathlib.Core.Path.{◌∙◌}
use mathlib.Core.Logic.{◌⊎◌, inl, inr}
use Prim.Native.Nat.{ℕ, ◌<◌}
use native.Mathlib.Omega.{arith}
use Rattle.lines.proofs.Laws as laws
use Rattle.lines.proofs.pair_at.Goals as goal

short : (a b : ℕ) → (a < b) ⊎ (a < a) → a < b
short a b (inl h) = h
short a b (inr h) = absurd (omega arith)

pub returns-in_err-get : goal.returns-in_err-get
returns-in_err-get c = c.from_residual.ensures ∙ laws.no_pair_behind _ _ (short _ _ c.in_err-get.ensures.lookup.0)

pub returns-in_default : goal.returns-in_default
returns-in_default c = laws.no_pair_here c.args.line.now c.args.at _ c.in_ok-get.ensures.lookup.0.2 c.in_default.len_below

pub returns : goal.returns
returns c = laws.pair_here c.args.line.now c.args.at _ _ c.in_ok-get.ensures.lookup.0.2 c.in-len2-up.len_at_least c.pair.ensures
