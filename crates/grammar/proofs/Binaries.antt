-- Binary digits: one more, a character that is none, one too many, and the end.
use Rattle.std.proofs.Common.{◌≡◌, refl, sym, ap, ap₂, ◌∙◌, Bool, true, false, ◌||◌, List, [], ◌∷◌, ℕ, suc, ◌+◌, ◌-◌, ◌*◌, ◌%◌, ◌^◌, ◌<◌, ◌≤◌, Ok, Err, eqb, arith}
use mathlib.Core.Option.{none, some}
use mathlib.Core.Logic.{by_cases}
use native.Mathlib.Nat.{sub-zero, one-mul, zero-mul, pow-suc}
use native.Mathlib.Numerals.{add-one}
use native.Mathlib.Decide.{ℕ_discrete}
use borrow.Author.Tests.{eq-eqb, ne_eqb}
use lib.Dec.{lit<}
use lib.Pow.{shl_exact, pow_mono}
use Rattle.cards.specs.Read.{read_binary}
use Rattle.grammar.specs.declared.Ink.{Ink}
use Rattle.grammar.specs.declared.Digits.{Digits}
use Rattle.grammar.specs.Ahead.{ahead, InkAt}
use Rattle.grammar.specs.Readers.{NoDigit, DigitTo, Binaries}

-- ---- the definition, by the first character

binary_is : (v : ℕ) → 48 + v ≤ 49 → (eqb (48 + v) 48 || eqb (48 + v) 49) ≡ true
binary_is v h =
    by_cases
    (ℕ_discrete v 0)
    (λ z. ap (λ (b : Bool). b || eqb (48 + v) 49) (eq-eqb (48 + v) 48 (omega arith)))
    (λ n. ap₂ (λ (a b : Bool). a || b) (ne_eqb (48 + v) 48 (λ q. n (omega arith))) (eq-eqb (48 + v) 49 (omega arith)))

not_binary : (c : ℕ) → (48 ≤ c → c ≤ 49 → ⊥) → (eqb c 48 || eqb c 49) ≡ false
not_binary c n = ap₂ (λ (a b : Bool). a || b) (ne_eqb c 48 (λ q. n (omega arith) (omega arith))) (ne_eqb c 49 (λ q. n (omega arith) (omega arith)))

module _ (i s : ℕ) where
  binary_more : (k v : ℕ) (cs : List ℕ) → 48 + v ≤ 49 → read_binary i (suc k) s ((48 + v) ∷ cs) ≡ read_binary (suc i) k (s + v * 2 ^ i) cs
  unfolding read_binary
  binary_more k v cs h =
      let value : 48 + v - 48 ≡ v = omega arith in
      (simp (binary_is v h, read_binary)) ∙ ap (λ (x : ℕ). read_binary (suc i) k (s + x * 2 ^ i) cs) value

  binary_off : (k : ℕ) (cs : List ℕ) → NoDigit 49 cs → read_binary i (suc k) s cs ≡ none
  unfolding read_binary
  binary_off k [] n = refl
  binary_off k (c ∷ cs) n = simp (not_binary c n, read_binary)

  binary_end : read_binary i 0 s [] ≡ some s
  unfolding read_binary
  binary_end = refl

  binary_further : (c : ℕ) (cs : List ℕ) → read_binary i 0 s (c ∷ cs) ≡ none
  unfolding read_binary
  binary_further c cs = refl

-- ---- the state with one digit more

module _ (s i v : ℕ) (l : i < 64) (h : s < 2 ^ i) (b : 48 + v ≤ 49) where
  pub shifted : v * 2 ^ i % 2 ^ 64 ≡ v * 2 ^ i
  shifted = by_cases (ℕ_discrete v 0) (λ z. rw z (omega (arith, zero-mul (2 ^ i)))) (λ n. let one : v ≡ 1 = omega arith in rw one (shl_exact {a = 1} 1 i 64 (lit< tt) (omega arith)))

  pub digit_more : s + v * 2 ^ i < 2 ^ (i + 1)
  digit_more =
      let most : v * 2 ^ i ≤ 2 ^ i = by_cases (ℕ_discrete v 0) (λ z. rw z (omega (arith, zero-mul (2 ^ i)))) (λ n. let one : v ≡ 1 = omega arith in rw one (omega (arith, one-mul (2 ^ i)))) in
      omega (arith, most, pow-suc 2 i, ap (λ (n : ℕ). 2 ^ n) (add-one i))

  pub digit-fits : s + v * 2 ^ i % 2 ^ 64 < 2 ^ 64
  digit-fits = omega (arith, shifted, digit_more, pow_mono {i = suc i} {j = 64} (omega arith), ap (λ (n : ℕ). 2 ^ n) (add-one i))

-- ---- the reader's steps and answers

pub binary_begun : (chars : List ℕ) (at k : ℕ) → read_binary 0 k 0 (ahead chars at) ≡ read_binary 0 (k - 0) 0 (ahead chars at)
binary_begun chars at k = ap (λ (m : ℕ). read_binary 0 m 0 (ahead chars at)) (sym (sub-zero k))

-- What is left of the digits, from the state so far.
module _ (chars : List ℕ) (at k next i s : ℕ) (f : at ≤ next) (e : read_binary 0 k 0 (ahead chars at) ≡ read_binary i (k - i) s (ahead chars next)) where
  module _ (h : i < k) where
    left : k - i ≡ suc (k - (i + 1))
    left = omega arith

    pub binary_on : (d : Digits) → i < 64 → s < 2 ^ i → DigitTo 49 chars next (Ok d) → read_binary 0 k 0 (ahead chars at) ≡ read_binary (i + 1) (k - (i + 1)) (s + d.value * 2 ^ i % 2 ^ 64) (ahead chars d.next)
    binary_on d l b t =
        e
        ∙ ap₂ (λ (m : ℕ) (cs : List ℕ). read_binary i m s cs) left t.2
        ∙ binary_more i s (k - (i + 1)) d.value (ahead chars d.next) t.1
        ∙ ap₂ (λ (m v : ℕ). read_binary m (k - (i + 1)) (s + v) (ahead chars d.next)) (sym (add-one i)) (sym (shifted s i d.value l b t.1))

    pub binaries_none : (p : ℕ) → DigitTo 49 chars next (Err p) → Binaries chars at k (Err p)
    binaries_none p t = (
      record { from = omega (arith, t.0.from); within = t.0.within; settled = t.0.settled },
      e ∙ ap (λ (m : ℕ). read_binary i m s (ahead chars next)) left ∙ binary_off i s (k - (i + 1)) (ahead chars next) t.2,
    )

  module _ (h : k ≤ i) where
    no_more : k - i ≡ 0
    no_more = omega arith

    pub binaries_further : (c : Ink) → InkAt chars next c → Binaries chars at k (Err c.place)
    binaries_further c t = (
      record { from = omega (arith, t.from); within = omega (arith, t.within); settled = t.settled },
      e ∙ ap₂ (λ (m : ℕ) (cs : List ℕ). read_binary i m s cs) no_more t.first ∙ binary_further i s c.code (ahead chars c.next),
    )

    pub binaries_whole : ahead chars next ≡ [] → Binaries chars at k (Ok s)
    binaries_whole n = e ∙ ap₂ (λ (m : ℕ) (cs : List ℕ). read_binary i m s cs) no_more n ∙ binary_end i s
