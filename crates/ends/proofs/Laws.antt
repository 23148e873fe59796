-- Laws of line ends.
use mathlib.Core.Path.{◌≡◌, sym, ap, ◌∙◌, subst}
use mathlib.Core.Bool.{Bool, false, ◌||◌}
use mathlib.Core.Logic.{⊎_elim}
use mathlib.Core.List.{List, [], ◌∷◌, ◌++◌}
use Prim.Native.Nat.{ℕ, zero, suc, ◌+◌, ◌-◌, ◌<◌, ◌≤◌}
use native.Mathlib.Omega.{arith}
use native.Mathlib.Numerals.{add-one}
use native.Mathlib.Decide.{ℕ_discrete, dec_lt}
use lib.Dec.{ltb, eqb}
use lib.ListN.{length, take, drop, get_or, length-append, length-drop, drop_of_length-le}
use lib.Seq.{drop_at, drop-cons, drop-drop}
use borrow.Author.Tests.{eq-eqb, ne_eqb, lt-ltb, le-ltb, ltb-false}
use Rattle.lists.specs.Lists.{◌among◌, ended, unended}
use Rattle.lists.proofs.Laws.{ended_none, ended_next, unended-whole, unended_next}
use Rattle.ends.specs.Ends.{line_length}

-- ---- the end of a line

length_at_end : (b : ℕ) (bs : List ℕ) → b ≡ 10 → line_length (b ∷ bs) ≡ 0
unfolding line_length
length_at_end b bs e = simp (eq-eqb b 10 e, line_length)

length_on : (b : ℕ) (bs : List ℕ) → (b ≡ 10 → ⊥) → line_length (b ∷ bs) ≡ suc (line_length bs)
unfolding line_length
length_on b bs n = simp (ne_eqb b 10 n, line_length)

module _ (text : List ℕ) (at i : ℕ) where
  pub line_met : i < length text → at + line_length (drop at text) ≡ i + line_length (drop i text) → get_or text i 0 ≡ 10 → i ≡ at + line_length (drop at text)
  line_met h e q = omega (arith, e, ap line_length (drop-cons text i 0 h) ∙ length_at_end (get_or text i 0) (drop (suc i) text) q)

  pub line_on : i < length text → at + line_length (drop at text) ≡ i + line_length (drop i text) → (get_or text i 0 ≡ 10 → ⊥) → at + line_length (drop at text) ≡ i + 1 + line_length (drop (i + 1) text)
  line_on h e n =
      omega (
        arith,
        e,
        ap line_length (drop-cons text i 0 h) ∙ length_on (get_or text i 0) (drop (suc i) text) n ∙ ap (λ (k : ℕ). suc (line_length (drop k text))) (sym (add-one i)),
      )

  pub line_last : length text ≤ i → i ≤ length text → at + line_length (drop at text) ≡ i + line_length (drop i text) → length text ≡ at + line_length (drop at text)
  unfolding line_length
  line_last h l e = omega (arith, e, ap line_length (drop_of_length-le text {i = i} h))

-- ---- blocks

-- The line ends at the first byte 10, so not at another byte, and not behind a byte 10.
ends_by : (t : List ℕ) (i : ℕ) → i < length t → get_or t i 0 ≡ 10 → line_length t ≤ i
ends_by [] i h q = absurd (omega (arith, h))
ends_by (b ∷ bs) zero h q = omega (arith, length_at_end b bs q)
ends_by (b ∷ bs) (suc i) h q = go (ℕ_discrete b 10) (ends_by bs i)
  where
    go : Dec (b ≡ 10) → (i < length bs → get_or bs i 0 ≡ 10 → line_length bs ≤ i) → line_length (b ∷ bs) ≤ suc i
    go (yes e) f = omega (arith, length_at_end b bs e)
    go (no n) f = omega (arith, length_on b bs n, f (omega (arith, h)) q)

not_there : (t : List ℕ) (i : ℕ) → i < length t → (get_or t i 0 ≡ 10 → ⊥) → line_length t ≡ i → ⊥
not_there [] i h n e = absurd (omega (arith, h))
not_there (b ∷ bs) zero h n e = absurd (omega (arith, e, length_on b bs n))
not_there (b ∷ bs) (suc i) h n e = go (ℕ_discrete b 10) (not_there bs i)
  where
    go : Dec (b ≡ 10) → (i < length bs → (get_or bs i 0 ≡ 10 → ⊥) → line_length bs ≡ i → ⊥) → ⊥
    go (yes q) f = absurd (omega (arith, e, length_at_end b bs q))
    go (no m) f = f (omega (arith, h)) n (omega (arith, e, length_on b bs m))

-- One byte more of a block.
pub within_next : (t : List ℕ) (i : ℕ) (found : Bool) → i < length t → found ≡ ltb (line_length t) i → (found || eqb (get_or t i 0) 10) ≡ ltb (line_length t) (i + 1)
within_next t i found h e = go (ℕ_discrete (get_or t i 0) 10) (dec_lt (line_length t) i)
  where
    go : Dec (get_or t i 0 ≡ 10) → Dec (line_length t < i) → (found || eqb (get_or t i 0) 10) ≡ ltb (line_length t) (i + 1)
    go d (yes l) = rw (e ∙ lt-ltb _ _ l) (sym (lt-ltb (line_length t) (i + 1) (omega arith)))
    go (yes z) (no m) = rw (e ∙ le-ltb (line_length t) i (omega arith)) (eq-eqb (get_or t i 0) 10 z ∙ sym (lt-ltb (line_length t) (i + 1) (omega (arith, ends_by t i h z))))
    go (no n) (no m) = rw (e ∙ le-ltb (line_length t) i (omega arith)) (ne_eqb (get_or t i 0) 10 n ∙ sym (le-ltb (line_length t) (i + 1) (past (not_there t i h n))))
      where
        past : (line_length t ≡ i → ⊥) → i + 1 ≤ line_length t
        past f = omega (arith, f)

-- A line that does not end within a block goes on behind it.
goes_on : (block rest : List ℕ) → length block ≤ line_length block → line_length (block ++ rest) ≡ length block + line_length rest
goes_on [] rest l = omega arith
goes_on (b ∷ bs) rest l = go (ℕ_discrete b 10) (goes_on bs rest)
  where
    go : Dec (b ≡ 10) → (length bs ≤ line_length bs → line_length (bs ++ rest) ≡ length bs + line_length rest) → line_length (b ∷ (bs ++ rest)) ≡ suc (length bs) + line_length rest
    go (yes e) f = absurd (omega (arith, l, length_at_end b bs e))
    go (no n) f = omega (arith, length_on b (bs ++ rest) n, f (omega (arith, l, length_on b bs n)))

module _ (text block rest : List ℕ) (i : ℕ) (e : drop i text ≡ block ++ rest) (n : length block ≡ 8) where
  pub block_within : i + 8 ≤ length text
  block_within = omega (arith, ap length e, length-append block rest, length-drop i text)

  pub block_behind : rest ≡ drop (i + 8) text
  block_behind = sym (drop_at block rest 8 n) ∙ ap (drop 8) (sym e) ∙ drop-drop 8 i text

  pub block_passed : (at : ℕ) (b : Bool) → b ≡ ltb (line_length block) (length block) → b ≡ false → at + line_length (drop at text) ≡ i + line_length (drop i text) → at + line_length (drop at text) ≡ i + 8 + line_length (drop (i + 8) text)
  block_passed at b q z h = omega (arith, h, ap line_length e ∙ goes_on block rest (ltb-false _ _ (sym q ∙ z)), ap line_length block_behind)

-- ---- what stands in a text from a place on

-- A line, and behind its byte 10 the rest of the text.
line_split : (t : List ℕ) → line_length t < length t → (10 among take (line_length t) t → ⊥) × (t ≡ take (line_length t) t ++ 10 ∷ drop (suc (line_length t)) t)
line_split [] h = absurd (omega (arith, h))
line_split (b ∷ bs) h = go (ℕ_discrete b 10) (line_split bs)
  where
    go : Dec (b ≡ 10) → (line_length bs < length bs → (10 among take (line_length bs) bs → ⊥) × (bs ≡ take (line_length bs) bs ++ 10 ∷ drop (suc (line_length bs)) bs)) → (10 among take (line_length (b ∷ bs)) (b ∷ bs) → ⊥) × (b ∷ bs ≡ take (line_length (b ∷ bs)) (b ∷ bs) ++ 10 ∷ drop (suc (line_length (b ∷ bs))) (b ∷ bs))
    go (yes e) f = rw (length_at_end b bs e) (λ m. m, ap (λ (x : ℕ). x ∷ bs) e)
    go (no n) f =
        let r = f (omega (arith, h, length_on b bs n)) in
        rw (length_on b bs n) (⊎_elim (λ e. n (sym e)) r.0, ap (λ (l : List ℕ). b ∷ l) r.1)

line_free : (t : List ℕ) → length t ≤ line_length t → 10 among t → ⊥
line_free [] h m = m
line_free (b ∷ bs) h m = go (ℕ_discrete b 10) (line_free bs)
  where
    go : Dec (b ≡ 10) → (length bs ≤ line_length bs → 10 among bs → ⊥) → ⊥
    go (yes e) f = absurd (omega (arith, h, length_at_end b bs e))
    go (no n) f = ⊎_elim (λ e. n (sym e)) (f (omega (arith, h, length_on b bs n))) m

module _ (text : List ℕ) (at end : ℕ) where
  line_and_rest : end ≡ at + line_length (drop at text) → end < length text → at ≤ end → (10 among take (end - at) (drop at text) → ⊥) × (drop at text ≡ take (end - at) (drop at text) ++ 10 ∷ drop (end + 1) text)
  line_and_rest e h i =
      let long : line_length (drop at text) ≡ end - at = omega arith in
      let behind : at + suc (end - at) ≡ end + 1 = omega arith in
      let s = line_split (drop at text) (omega (arith, length-drop at text)) in
      let t : (10 among take (end - at) (drop at text) → ⊥) × (drop at text ≡ take (end - at) (drop at text) ++ 10 ∷ drop (suc (end - at)) (drop at text)) = subst (λ (k : ℕ). (10 among take k (drop at text) → ⊥) × (drop at text ≡ take k (drop at text) ++ 10 ∷ drop (suc k) (drop at text))) long s in
      (t.0, t.1 ∙ ap (λ (l : List ℕ). take (end - at) (drop at text) ++ 10 ∷ l) (drop-drop (suc (end - at)) at text ∙ ap (λ (k : ℕ). drop k text) behind))

  -- The lines from a place on: the one that begins there, then those behind its byte 10.
  pub ended_at : end ≡ at + line_length (drop at text) → end < length text → at ≤ end → ended (drop at text) ≡ take (end - at) (drop at text) ∷ ended (drop (end + 1) text)
  ended_at e h i = let s = line_and_rest e h i in ap ended s.1 ∙ ended_next (take (end - at) (drop at text)) (drop (end + 1) text) s.0

  pub unended_at : end ≡ at + line_length (drop at text) → end < length text → at ≤ end → unended (drop at text) ≡ unended (drop (end + 1) text)
  unended_at e h i = let s = line_and_rest e h i in ap unended s.1 ∙ unended_next (take (end - at) (drop at text)) (drop (end + 1) text)

  -- Where no byte 10 follows there is no further line.
  pub ended_last : end ≡ at + line_length (drop at text) → length text ≤ end → at ≤ length text → ended (drop at text) ≡ []
  ended_last e h i = ended_none (drop at text) (line_free (drop at text) (omega (arith, length-drop at text)))

  pub unended_last : end ≡ at + line_length (drop at text) → length text ≤ end → at ≤ length text → unended (drop at text) ≡ drop at text
  unended_last e h i = unended-whole (drop at text) (line_free (drop at text) (omega (arith, length-drop at text)))
