-- What stands ahead of a reader: behind blanks, at a character that is none, and at the end.
use Rattle.std.specs.Prelude.{Some, None, position}
use Rattle.std.specs.List.{position_or_len}
use Rattle.std.proofs.Common.{◌≡◌, refl, sym, ap, ◌∙◌, true, false, not, List, [], ◌∷◌, ℕ, zero, suc, ◌+◌, ◌-◌, ◌<◌, ◌≤◌, length, take, drop, get_or, arith}
use Rattle.std.proofs.lemmas.Grind.{common_steps}
use Rattle.std.proofs.lemmas.List.{drop-drop, length-drop, get_or-drop}
use Rattle.std.proofs.lemmas.List.Quantifiers.{position-Some}
use Rattle.std.proofs.lemmas.List.Sums.{fails_before_first}
use native.Mathlib.Numerals.{add-one}
use borrow.Author.Tests.{eq-eqb, ne_eqb}
use lib.ListN.{drop_of_length-le}
use lib.Seq.{drop-cons, take_all}
use Rattle.lists.specs.Lists.{keep}
use Rattle.lists.proofs.Laws.{keep_pass, keep_fail}
use Rattle.cards.specs.Card.{is_blank}
use Rattle.cards.specs.Statement.{inked}
use Rattle.grammar.specs.declared.Ink.{Ink}
use Rattle.grammar.specs.Ahead.{ahead, InkAt}
use Rattle.grammar.specs.Readers.{Faults}

-- ---- blanks

passed : (l : List ℕ) (i : ℕ) → ((k : ℕ) → k < i → not (is_blank (get_or l k 0)) ≡ false) → inked (drop i l) ≡ inked l
unfolding keep
passed l zero h = refl
passed [] (suc i) h = refl
passed (x ∷ xs) (suc i) h = passed xs i (λ k q. h (suc k) (omega arith)) ∙ sym (keep_fail (λ c. not (is_blank c)) x xs (h 0 (omega arith)))

none_inked : (l : List ℕ) → position (λ c. not (is_blank c)) l ≡ None → (k : ℕ) → k < length l → not (is_blank (get_or l k 0)) ≡ false
none_inked l e k h =
    let most : length l ≤ position_or_len (λ c. not (is_blank c)) l = grind (arith, common_steps) in
    fails_before_first (λ c. not (is_blank c)) l k 0 (omega arith)

inked_nothing : inked [] ≡ []
unfolding keep
inked_nothing = refl

no_blank : (c : ℕ) → not (is_blank c) ≡ true → c ≡ 32 → ⊥
no_blank c e q = let z : not (is_blank c) ≡ false = ap not (eq-eqb c 32 q) in cc

-- ---- at a character that is none, and at the end

module _ (chars : List ℕ) (i : ℕ) where
  ahead_end : length chars ≤ i → ahead chars i ≡ []
  unfolding ahead keep
  ahead_end h = ap inked (drop_of_length-le chars {i = i} h)

  ahead_ink : i < length chars → (get_or chars i 0 ≡ 32 → ⊥) → ahead chars i ≡ get_or chars i 0 ∷ ahead chars (i + 1)
  unfolding ahead
  ahead_ink h n =
      ap inked (drop-cons chars i 0 h ∙ ap (λ (k : ℕ). get_or chars i 0 ∷ drop k chars) (sym (add-one i)))
      ∙ keep_pass (λ c. not (is_blank c)) (get_or chars i 0) (drop (i + 1) chars) (ap not (ne_eqb (get_or chars i 0) 32 n))

-- ---- the first of the characters ahead

module _ (chars : List ℕ) (at : ℕ) (h : at ≤ length chars) where
  all : take (length chars - at) (drop at chars) ≡ drop at chars
  all = take_all (length chars - at) (drop at chars) (omega (arith, length-drop at chars))

  module _ (i : ℕ) (e : Some i ≡ position (λ c. not (is_blank c)) (take (length chars - at) (drop at chars))) where
    found : (i < length (drop at chars)) × (not (is_blank (get_or (drop at chars) i 0)) ≡ true) × ((k : ℕ) → k < i → not (is_blank (get_or (drop at chars) k 0)) ≡ false)
    found = position-Some (λ c. not (is_blank c)) (drop at chars) i 0 (ap (position (λ c. not (is_blank c))) (sym all) ∙ sym e)

    pub ink_within : at + i < length chars
    ink_within = omega (arith, found.0, length-drop at chars)

    pub ink_there : InkAt chars at (record { code = get_or chars (at + i) 0; place = at + i; next = at + i + 1 })
    unfolding ahead
    ink_there =
        let settled : get_or chars (at + i) 0 ≡ 32 → ⊥ = no_blank _ (ap (λ (c : ℕ). not (is_blank c)) (sym (get_or-drop at chars i 0)) ∙ found.1) in
        let same : ahead chars (at + i) ≡ ahead chars at = ap inked (sym (drop-drop i at chars)) ∙ passed (drop at chars) i found.2 in
        record {
          from = omega arith;
          within = ink_within;
          onward = refl;
          settled = λ q. settled;
          same = same;
          first = sym same ∙ ahead_ink chars (at + i) ink_within settled;
        }

  pub ink_none : None ≡ position (λ c. not (is_blank c)) (take (length chars - at) (drop at chars)) → ahead chars at ≡ []
  unfolding ahead
  ink_none e =
      sym (passed (drop at chars) (length (drop at chars)) (none_inked (drop at chars) (ap (position (λ c. not (is_blank c))) (sym all) ∙ sym e)))
      ∙ ap inked (drop_of_length-le (drop at chars) {i = length (drop at chars)} (omega arith))
      ∙ inked_nothing

-- ---- the place of a fault

pub faults_end : (chars : List ℕ) (at : ℕ) → at ≤ length chars → Faults chars at (length chars)
faults_end chars at h = record { from = h; within = omega arith; settled = λ q. absurd (omega arith) }

pub ends_alike : (chars : List ℕ) (at : ℕ) → ahead chars at ≡ [] → ahead chars (length chars) ≡ ahead chars at
ends_alike chars at e = ahead_end chars (length chars) (omega arith) ∙ sym e

pub faults_ink : (chars : List ℕ) (at : ℕ) (c : Ink) → InkAt chars at c → Faults chars at c.place
faults_ink chars at c i = record { from = i.from; within = omega (arith, i.within); settled = i.settled }
