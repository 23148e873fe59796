-- Words: the characters ahead against the word, one by one.
use Rattle.std.proofs.Common.{◌≡◌, refl, sym, ap, ap₂, ◌∙◌, List, [], ◌∷◌, ℕ, ◌+◌, ◌<◌, ◌≤◌, length, drop, get_or, Ok, Err, arith}
use mathlib.Core.Option.{none, some}
use native.Mathlib.Numerals.{add-one}
use borrow.Author.Tests.{eq-eqb, ne_eqb}
use lib.ListN.{drop_of_length-le}
use lib.Seq.{drop-cons}
use Rattle.cards.specs.Read.{behind}
use Rattle.grammar.specs.declared.Ink.{Ink}
use Rattle.grammar.specs.Ahead.{ahead, InkAt}
use Rattle.grammar.specs.Readers.{amiss, Words}
use Rattle.grammar.proofs.Ahead.{faults_end, ends_alike}

module _ (w : ℕ) (ws : List ℕ) where
  word_off : (behind (w ∷ ws) [] ≡ none) × (amiss (w ∷ ws) [] ≡ [])
  unfolding behind amiss
  word_off = (refl, refl)

  word_same : (c : ℕ) (cs : List ℕ) → c ≡ w → (behind (w ∷ ws) (c ∷ cs) ≡ behind ws cs) × (amiss (w ∷ ws) (c ∷ cs) ≡ amiss ws cs)
  unfolding behind amiss
  word_same c cs e = (simp (eq-eqb w c (sym e), behind), simp (eq-eqb w c (sym e), amiss))

  word_other : (c : ℕ) (cs : List ℕ) → (c ≡ w → ⊥) → (behind (w ∷ ws) (c ∷ cs) ≡ none) × (amiss (w ∷ ws) (c ∷ cs) ≡ c ∷ cs)
  unfolding behind amiss
  word_other c cs n = (simp (ne_eqb w c (λ e. n (sym e)), behind), simp (ne_eqb w c (λ e. n (sym e)), amiss))

word_nothing : (cs : List ℕ) → behind [] cs ≡ some cs
unfolding behind
word_nothing cs = refl

-- What is left of the word, against what is left of the characters.
module _ (chars : List ℕ) (at : ℕ) (word : List ℕ) (next i : ℕ) where
  module _ (f : at ≤ next) (e : behind word (ahead chars at) ≡ behind (drop i word) (ahead chars next)) (a : amiss word (ahead chars at) ≡ amiss (drop i word) (ahead chars next)) where
    letters : i < length word → drop i word ≡ get_or word i 0 ∷ drop (i + 1) word
    letters h = drop-cons word i 0 h ∙ ap (λ (n : ℕ). get_or word i 0 ∷ drop n word) (sym (add-one i))

    pub words_off : next ≤ length chars → i < length word → ahead chars next ≡ [] → Words chars at word (Err (length chars))
    words_off m h n =
        let o = word_off (get_or word i 0) (drop (i + 1) word) in (
          faults_end chars at (omega arith),
          e ∙ ap₂ behind (letters h) n ∙ o.0,
          ends_alike chars next n ∙ n ∙ sym (a ∙ ap₂ amiss (letters h) n ∙ o.1),
        )

    pub words_found : next ≤ length chars → length word ≤ i → Words chars at word (Ok next)
    words_found m h = (
      record { from = f; within = m },
      e ∙ ap (λ (ws : List ℕ). behind ws (ahead chars next)) (drop_of_length-le word {i = i} h) ∙ word_nothing (ahead chars next),
    )

    module _ (c : Ink) (s : InkAt chars next c) (h : i < length word) where
      pub word_on : c.code ≡ get_or word i 0 → (behind word (ahead chars at) ≡ behind (drop (i + 1) word) (ahead chars c.next)) × (amiss word (ahead chars at) ≡ amiss (drop (i + 1) word) (ahead chars c.next))
      word_on q =
          let o = word_same (get_or word i 0) (drop (i + 1) word) c.code (ahead chars c.next) q in
          (e ∙ ap₂ behind (letters h) s.first ∙ o.0, a ∙ ap₂ amiss (letters h) s.first ∙ o.1)

      pub words_other : (c.code ≡ get_or word i 0 → ⊥) → Words chars at word (Err c.place)
      words_other n =
          let o = word_other (get_or word i 0) (drop (i + 1) word) c.code (ahead chars c.next) n in (
            record { from = omega (arith, s.from); within = omega (arith, s.within); settled = s.settled },
            e ∙ ap₂ behind (letters h) s.first ∙ o.0,
            s.same ∙ s.first ∙ sym (a ∙ ap₂ amiss (letters h) s.first ∙ o.1),
          )
