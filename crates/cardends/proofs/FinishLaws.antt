-- Laws of the end of a deck of cards: the set of the first variables, 15, then the deck.
use mathlib.Core.Path.{◌≡◌, refl, sym, ap, ap₂, ◌∙◌, subst}
use mathlib.Core.Bool.{true}
use mathlib.Core.List.{List}
use Prim.Native.Nat.{ℕ, zero, suc, ◌-◌, ◌*◌, ◌%◌, ◌^◌, ◌<◌, ◌≤◌}
use native.Mathlib.Omega.{arith}
use native.Mathlib.Nat.{one-mul}
use lib.Dec.{lit<}
use lib.ListN.{length}
use Rattle.std.specs.Prelude.{Ok, Err}
use lib.Pow.{pow_pos, shl_exact}
use Rattle.lists.specs.Lists.{Each, keep}
use Rattle.lists.proofs.Laws.{each_map, each_append, each_keep, take-padded}
use Rattle.sets.specs.Sets.{without, lowest_of}
use Rattle.logic.specs.Decks.{Equation, Deck, base}
use Rattle.decks.specs.declared.Refusal.TheVariants.{NoEquation}
use Rattle.decks.specs.declared.Deck.{Deck as Stored}
use Rattle.decks.specs.Answers.{Outcome}
use Rattle.decks.specs.Readings.{left_set, complete}
use Rattle.decks.specs.Stored.{lefts_of}
use Rattle.decks.specs.Lent.{ReadInto}
use Rattle.decks.proofs.Complete.{lacking, complete_none, complete-some}
use Rattle.decks.proofs.Stored.{length_lefts}
use Rattle.cards.specs.Typed.{first_vars, rising_from, deck_of}
use Rattle.cards.specs.Read.{Sofar}
use Rattle.cards.proofs.TypedLaws.{of_variable, allowed_lefts, length-rising}
use Rattle.sorting.specs.Sorting.{LeftsAre}
use Rattle.cardlines.specs.declared.Held.{Held}
use Rattle.cardends.specs.Sorted.{Sorted}

-- ---- the set of the first variables

pub all_first : (count : ℕ) → count ≡ 64 → 18446744073709551615 ≡ first_vars count
all_first count e = ap first_vars (sym e)

shifted : (count : ℕ) → count < 64 → 1 * 2 ^ count % 2 ^ 64 ≡ 2 ^ count
shifted count h = shl_exact {a = 1} 1 count 64 (lit< tt) (omega arith) ∙ one-mul (2 ^ count)

pub shifted_some : (count : ℕ) → count < 64 → 1 ≤ 1 * 2 ^ count % 2 ^ 64
shifted_some count h = omega (arith, shifted count h, pow_pos count)

pub few-first : (count : ℕ) → count < 64 → 1 * 2 ^ count % 2 ^ 64 - 1 ≡ first_vars count
few-first count h = ap (λ (n : ℕ). n - 1) (shifted count h)

-- ---- 15, then the deck

each_rising : (P : Equation → Type 0) (v k : ℕ) (qs : List Equation) → Each P qs → Each P (rising_from v k qs)
unfolding rising_from
each_rising P v zero qs h = tt
each_rising P v (suc k) qs h =
    each_append P (keep (of_variable v) qs) (rising_from (suc v) k qs)
    (each_keep (of_variable v) P qs (each_map P (λ (q : Equation). of_variable v q ≡ true → P q) qs (λ q p e. p) h))
    (each_rising P (suc v) k qs h)

module _ (held : Held) (deck : Stored) where
  module _ (s : Sofar) (r : Sorted s held deck) where
    count_held : held.count ≡ s.typed.count
    count_held = ap (λ (x : Held). x.count) r.held_is

    lefts_held : deck.equations.count ≡ length (lefts_of (deck_of s.typed).equations)
    lefts_held = r.equations_are.count_is ∙ sym (length_lefts (deck_of s.typed).equations)

    deck_lefts : LeftsAre (deck_of s.typed).equations deck.equations
    unfolding deck_of
    deck_lefts =
        record {
          first_are = rw (lefts_held, r.equations_are.lefts_are) (take-padded 256 (lefts_of (deck_of s.typed).equations));
          lefts_below =
              each_rising (λ (q : Equation). q.left < 64) 0 s.typed.count s.typed.equations
              (each_map (λ (q : Equation). q.left < s.typed.count) (λ (q : Equation). q.left < 64) s.typed.equations (λ q h. omega (arith, h, r.stated.begins.vars-most)) (allowed_lefts base s.typed r.stated.begins.equations-allowed));
        }

  pub vars-few : ((s : Sofar) × Sorted s held deck) → held.count ≤ 64
  vars-few (s, r) = omega (arith, count_held s r, r.stated.begins.vars-most)

  pub equations_few : ((s : Sofar) × Sorted s held deck) → deck.equations.count ≤ 256
  unfolding deck_of
  equations_few (s, r) =
      omega (arith, r.equations_are.count_is, length-rising s.typed.count s.typed.equations (allowed_lefts base s.typed r.stated.begins.equations-allowed), r.stated.begins.equations-most)

  module _ (vars covered m : ℕ) (vars_are : vars ≡ first_vars held.count) (covered-is : (qs : List Equation) → LeftsAre qs deck.equations → covered ≡ left_set qs) (missing-is : m ≡ without vars covered) where
    module _ (s : Sofar) (r : Sorted s held deck) where
      deck-vars : vars ≡ (deck_of s.typed).vars
      unfolding deck_of
      deck-vars = vars_are ∙ ap first_vars (count_held s r)

      lacking_is : m ≡ lacking (deck_of s.typed)
      lacking_is = missing-is ∙ ap₂ without deck-vars (covered-is (deck_of s.typed).equations (deck_lefts s r))

    pub lacks_one : (v : ℕ) (out : Stored) → (m ≡ 0 → ⊥) → v ≡ lowest_of m → (s : Sofar) → Sorted s held deck → ReadInto (complete (deck_of s.typed)) (Err (NoEquation v)) out
    lacks_one v out h l s r =
        subst (λ (o : Outcome Deck). ReadInto o (Err (NoEquation v)) out) (sym (complete-some (deck_of s.typed) m (lacking_is s r) h))
        (record { said_is = ap (λ (y : ℕ). Err (NoEquation y)) l; stands_in = tt })

    pub lacks_none : m ≡ 0 → (s : Sofar) → Sorted s held deck → ReadInto (complete (deck_of s.typed)) (Ok tt) (record deck { vars = vars })
    unfolding deck_of
    lacks_none h s r =
        let q = r.equations_are in
        subst (λ (o : Outcome Deck). ReadInto o (Ok tt) (record deck { vars = vars })) (sym (complete_none (deck_of s.typed) m (lacking_is s r) h))
        (record { said_is = refl; stands_in = rw (deck-vars s r, r.inits_are, r.initials_are, q.count_is, q.lefts_are, q.ends_are, q.nodes_are, r.property_is.0, r.property_is.1) refl })
