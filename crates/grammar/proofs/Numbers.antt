-- Digits and numbers: no digit, a zero, one digit, two digits.
use Rattle.std.proofs.Common.{◌≡◌, refl, sym, ap, ap₂, ◌∙◌, Bool, true, false, ◌&&◌, List, [], ◌∷◌, ℕ, ◌+◌, ◌-◌, ◌*◌, ◌≤◌, length, Ok, Err, arith}
use borrow.Author.Tests.{eq-eqb, ne_eqb, le-leb, leb-true}
use lib.Dec.{leb}
use Rattle.cards.specs.Card.{is_digit}
use Rattle.cards.specs.Grammar.{Number, NoNumber, second_digit, read_number}
use Rattle.grammar.specs.declared.Digits.{Digits}
use Rattle.grammar.specs.declared.Ink.{Ink}
use Rattle.grammar.specs.Ahead.{ahead, InkAt}
use Rattle.grammar.specs.Readers.{NoDigit, DigitTo, Numbers}
use Rattle.grammar.proofs.Ahead.{faults_end, ends_alike, faults_ink}

-- ---- a digit

module _ (chars : List ℕ) (at last : ℕ) where
  pub digit_off : at ≤ length chars → ahead chars at ≡ [] → DigitTo last chars at (Err (length chars))
  digit_off h e = (faults_end chars at h, ends_alike chars at e, rw e tt)

  pub digit_other : (c : Ink) → InkAt chars at c → (48 ≤ c.code → c.code ≤ last → ⊥) → DigitTo last chars at (Err c.place)
  digit_other c i n = (faults_ink chars at c i, i.same, rw i.first n)

pub digit-bounds : (c : ℕ) → is_digit c ≡ true → (48 ≤ c) × (c ≤ 57)
digit-bounds c e = (leb-true 48 c (go (leb 48 c) (leb c 57) e).0, leb-true c 57 (go (leb 48 c) (leb c 57) e).1)
  where
    go : (a b : Bool) → a && b ≡ true → (a ≡ true) × (b ≡ true)
    go true b e = (refl, e)
    go false b e = cc

-- ---- the definitions, by the first character

digit_is : (v : ℕ) → 48 + v ≤ 57 → is_digit (48 + v) ≡ true
digit_is v h = ap₂ (λ (a b : Bool). a && b) (le-leb 48 (48 + v) (omega arith)) (le-leb (48 + v) 57 h)

not_digit : (c : ℕ) → (48 ≤ c → c ≤ 57 → ⊥) → is_digit c ≡ false
not_digit c n = go (leb 48 c) refl (leb c 57) refl
  where
    go : (a : Bool) → leb 48 c ≡ a → (b : Bool) → leb c 57 ≡ b → a && b ≡ false
    go true p true q = absurd (n (leb-true 48 c p) (leb-true c 57 q))
    go true p false q = refl
    go false p b q = refl

number_off : (cs : List ℕ) → NoDigit 57 cs → read_number cs ≡ NoNumber cs
unfolding read_number
number_off [] n = refl
number_off (c ∷ cs) n = simp (not_digit c n, read_number)

second_off : (v : ℕ) (cs : List ℕ) → NoDigit 57 cs → second_digit v cs ≡ Number v cs
unfolding second_digit
second_off v [] n = refl
second_off v (c ∷ cs) n = simp (not_digit c n, second_digit)

module _ (v : ℕ) (cs : List ℕ) (h : 48 + v ≤ 57) where
  value : 48 + v - 48 ≡ v
  value = omega arith

  number_zero : v ≡ 0 → read_number ((48 + v) ∷ cs) ≡ Number v cs
  unfolding read_number
  number_zero z = (simp (digit_is v h, eq-eqb (48 + v - 48) 0 (omega arith), read_number)) ∙ ap (λ (x : ℕ). Number x cs) (sym z)

  number_more : (v ≡ 0 → ⊥) → read_number ((48 + v) ∷ cs) ≡ second_digit v cs
  unfolding read_number
  number_more n = (simp (digit_is v h, ne_eqb (48 + v - 48) 0 (λ z. n (omega arith)), read_number)) ∙ ap (λ (x : ℕ). second_digit x cs) value

  second_on : (d : ℕ) → second_digit d ((48 + v) ∷ cs) ≡ Number (10 * d + v) cs
  unfolding second_digit
  second_on d = (simp (digit_is v h, second_digit)) ∙ ap (λ (x : ℕ). Number (10 * d + x) cs) value

-- ---- the reader's answers

module _ (chars : List ℕ) (at : ℕ) where
  pub numbers_none : (p : ℕ) → DigitTo 57 chars at (Err p) → Numbers chars at (Err p)
  numbers_none p t = (t.0, number_off (ahead chars at) t.2 ∙ ap NoNumber (sym t.1))

  module _ (d : Digits) (t : DigitTo 57 chars at (Ok d)) where
    pub numbers_zero : d.value ≡ 0 → Numbers chars at (Ok d)
    numbers_zero z = (t.0, omega arith, ap read_number t.2 ∙ number_zero d.value (ahead chars d.next) t.1 z)

    module _ (n : d.value ≡ 0 → ⊥) where
      more : read_number (ahead chars at) ≡ second_digit d.value (ahead chars d.next)
      more = ap read_number t.2 ∙ number_more d.value (ahead chars d.next) t.1 n

      pub numbers_one : (p : ℕ) → DigitTo 57 chars d.next (Err p) → Numbers chars at (Ok d)
      numbers_one p u = (t.0, omega (arith, t.1), more ∙ second_off d.value (ahead chars d.next) u.2)

      pub numbers_two : (e : Digits) → DigitTo 57 chars d.next (Ok e) → Numbers chars at (Ok (record { value = 10 * d.value + e.value; next = e.next }))
      numbers_two e u = (
        record { from = omega (arith, t.0.from, u.0.from); within = u.0.within },
        omega (arith, t.1, u.1),
        more ∙ ap (second_digit d.value) u.2 ∙ second_on e.value (ahead chars e.next) u.1 d.value,
      )
