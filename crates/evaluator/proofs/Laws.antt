-- Laws of words that are worked on one after the other.
use mathlib.Core.Path.{◌≡◌, sym, ap, ◌∙◌}
use mathlib.Core.Logic.{by_cases}
use mathlib.Core.List.{List}
use Prim.Native.Nat.{ℕ, suc, ◌+◌, ◌%◌, ◌<◌, ◌≤◌, min, max}
use native.Mathlib.Omega.{arith}
use native.Mathlib.Decide.{ℕ_discrete}
use borrow.Author.Tests.{lt-ltb, le-ltb}
use lib.Bits.{bit_and, bit_or, and_step, or_step}
use lib.ListN.{length, get_or, set, length-set, get_or-eq_default}
use lib.Seq.{get_or-set_same, get_or-set_other}
use Rattle.evaluator.specs.Pending.{top, topped, Made, Done, tops, following, next_word}

-- One word more.
pub done_next : (f : ℕ → ℕ → ℕ) (old new : List ℕ) (i x : ℕ) → Done f i old new → i < length old → x ≡ f i (get_or new i 0) → Done f (i + 1) old (set new i x)
done_next f old new i x d l h =
    record {
      same = length-set new i x ∙ d.same;
      before =
          λ j b k.
          by_cases
          (ℕ_discrete j i)
          (λ t. rw t (get_or-set_same new i x 0 (omega (arith, d.same)) ∙ h ∙ ap (f i) (d.behind i (omega arith))))
          (λ n. get_or-set_other new i j x 0 n ∙ d.before j (omega arith) k);
      behind = λ j b. get_or-set_other new i j x 0 (λ t. omega arith) ∙ d.behind j (omega arith);
    }

-- A step that can make nothing but what f makes of the word.
pub all_made : (Step : ℕ → ℕ → ℕ → Type 0) (f : ℕ → ℕ → ℕ) (old new : List ℕ)
    → Made Step old new
    → ((i r : ℕ) → i < length old → Step i (get_or old i 0) r → r ≡ f i (get_or old i 0))
    → Done f (length old) old new
all_made Step f old new m h =
    record {
      same = m.same;
      before = λ j _ l. h j (get_or new j 0) l (m.each j l);
      behind = λ j l. get_or-eq_default new 0 (omega (arith, m.same)) ∙ sym (get_or-eq_default old 0 l);
    }

-- ---- the lowest digit of two words joined

pub both_lowest : (v w : ℕ) → bit_and v w % 2 ≡ min (v % 2) (w % 2)
both_lowest v w = omega (arith, and_step v w)

pub either_lowest : (v w : ℕ) → bit_or v w % 2 ≡ max (v % 2) (w % 2)
either_lowest v w = omega (arith, or_step v w)

-- ---- one state on

pub following_next : (n p i : ℕ) → suc i < n → following n p i ≡ suc i
unfolding following
following_next n p i l = simp (lt-ltb _ _ l, following)

pub following_last : (n p i : ℕ) → n ≤ suc i → following n p i ≡ p
unfolding following
following_last n p i l = simp (le-ltb _ _ l, following)

module _ (p : ℕ) (old new : List ℕ) (i : ℕ) (d : Done (next_word p old) i old new) where
  -- At a state with one behind it.
  pub next_on : i + 1 < length old → Done (next_word p old) (i + 1) old (set new i (topped (get_or new i 0) (tops new (i + 1))))
  unfolding next_word
  next_on l =
      let z : i + 1 ≡ following (length old) p i = omega (arith, following_next (length old) p i) in
      done_next (next_word p old) old new i (topped (get_or new i 0) (tops new (i + 1))) d (omega arith)
      (ap (λ (x : ℕ). topped (get_or new i 0) (top x)) (d.behind (i + 1) (omega arith) ∙ ap (λ (x : ℕ). get_or old x 0) z))

  -- At the last state.
  pub next_last : i + 1 ≡ length old → Done (next_word p old) (length old) old (set new i (topped (get_or new i 0) (tops old p)))
  unfolding next_word
  next_last l =
      rw l at (done_next (next_word p old) old new i (topped (get_or new i 0) (tops old p)) d (omega arith)
      (ap (λ (x : ℕ). topped (get_or new i 0) (tops old x)) (sym (following_last (length old) p i (omega arith)))))
