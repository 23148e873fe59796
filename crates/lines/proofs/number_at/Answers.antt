use mathlib.Core.Path.{◌∙◌, ap}
use Prim.Native.Nat.{ℕ, ◌<◌}
use lib.ListN.{length}
use native.Mathlib.Omega.{arith}
use Rattle.std.specs.Prelude.{Some}
use Rattle.std.specs.Slice.Iter.{chunks_exact_rest}
use Rattle.lines.proofs.Laws as laws
use borrow.Author.Rules.{rules}
use Rattle.lines.proofs.number_at.Goals as goal

pub returns-then-line-at : goal.returns-then-line-at
returns-then-line-at c = search (rules, laws.number_unlike)

pub loop-digits-preserved : goal.loop-digits-preserved
loop-digits-preserved c = laws.left_zeros _ _ _ _ c.requires.2 c.in-len4-up.len_at_least c.if-not-zeros.ensures c.loop-digits.invariant

pub overflow_mul-value : goal.overflow_mul-value
overflow_mul-value c = let s = c.in-Some.ensures.steps in let h = laws.left_doubled _ _ _ _ _ _ _ c.requires.2 s.1.0 (s.1.1 ∙ c.loop-two.invariant.0) c.loop-two.invariant.1 in omega (arith, h)

pub returns-in_err-pair : goal.returns-in_err-pair
returns-in_err-pair c = let s = c.in-Some.ensures.steps in c.from_residual.ensures ∙ laws.left_wrong _ _ _ _ _ _ _ s.1.0 (s.1.1 ∙ c.loop-two.invariant.0) c.in_err-pair.ensures c.loop-two.invariant.1

pub overflow_add-value : goal.overflow_add-value
overflow_add-value c = let s = c.in-Some.ensures.steps in let h = laws.left_fits _ _ _ _ _ _ _ _ c.requires.2 s.1.0 (s.1.1 ∙ c.loop-two.invariant.0) (ap (λ (x : ℕ). Some x) c.from.ensures ∙ c.in_ok-pair.ensures) c.loop-two.invariant.1 in omega (arith, h)

pub loop-two-preserved : goal.loop-two-preserved
loop-two-preserved c = let s = c.in-Some.ensures.steps in (s.0 ∙ c.loop-two.invariant.0, laws.left_on _ _ _ _ _ _ _ _ c.requires.2 s.1.0 (s.1.1 ∙ c.loop-two.invariant.0) (ap (λ (x : ℕ). Some x) c.from.ensures ∙ c.in_ok-pair.ensures) c.loop-two.invariant.1)

pub returns : goal.returns
returns c = let s = c.in-None.ensures.steps in let k = c.loop-two.invariant.0 in let h : length (chunks_exact_rest c.loop-two.two-iterator) < 2 = omega (arith, s.1.0) in laws.left_done _ _ _ _ _ h c.loop-two.invariant.1
