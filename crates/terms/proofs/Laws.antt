-- How a pass over nodes begins, goes on by one node, and ends.
use mathlib.Core.Path.{◌≡◌, refl, sym, ap, ap₂, ◌∙◌}
use mathlib.Core.Bool.{Bool, true, false, ◌||◌}
use mathlib.Core.Logic.{by_cases}
use Rattle.std.specs.List.{list_any}
use mathlib.Core.List.{List, [], ◌∷◌}
use Prim.Native.Nat.{ℕ, suc, ◌+◌, ◌-◌, ◌%◌, ◌^◌, ◌<◌, ◌≤◌}
use native.Mathlib.Omega.{arith}
use native.Mathlib.Numerals.{add-one}
use native.Mathlib.Decide.{dec_lt}
use borrow.Author.Tests.{lt-ltb, le-ltb}
use lib.Dec.{ltb}
use lib.ListN.{length, drop, get_or, drop_of_length-le}
use lib.Seq.{drop-cons}
use lib.Bits.{or_zero_r}
use Rattle.sets.specs.Sets.{only, union, width}
use Rattle.sets.proofs.Laws.{union_assoc, only_mod, only_mod_high}
use Rattle.terms.specs.Nodes.{constant?, places_of, temporal?, spans, variable_of, variables_of, some_temporal}

-- ---- how many operands a node has

places_most : (c : ℕ) → places_of c ≤ 2
unfolding places_of
places_most c = go (ltb c 258) (ltb c 259) (ltb c 261) (ltb c 264)
  where
    go : (s t u v : Bool) → elim s [ true ↦ 0 | false ↦ elim t [ true ↦ 1 | false ↦ elim u [ true ↦ 2 | false ↦ elim v [ true ↦ 1 | false ↦ 2 ] ] ] ] ≤ 2
    go true t u v = omega arith
    go false true u v = omega arith
    go false false true v = omega arith
    go false false false true = omega arith
    go false false false false = omega arith

pub places_few : (c p : ℕ) → p ≡ places_of c → p ≤ 2
places_few c p q = omega (arith, places_most c)

-- ---- the end of an expression

pub spans_none : (cs : List ℕ) → spans 0 cs ≡ 0
unfolding spans
spans_none [] = refl
spans_none (c ∷ cs) = refl

pub spans-nil : (n : ℕ) → spans n [] ≡ 0
unfolding spans
spans-nil n = refl

module _ (cs : List ℕ) (i : ℕ) where
  pub next_node : i < length cs → drop i cs ≡ get_or cs i 0 ∷ drop (i + 1) cs
  next_node h = drop-cons cs i 0 h ∙ ap (λ (n : ℕ). get_or cs i 0 ∷ drop n cs) (sym (add-one i))

  module _ (all pending : ℕ) where
    pub end_met : all ≡ i + spans pending (drop i cs) → pending ≡ 0 → i ≡ all
    end_met e z = omega (arith, rw z at e, spans_none (drop i cs))

    pub end_off : all ≡ i + spans pending (drop i cs) → length cs ≤ i → i ≡ all
    end_off e h = omega (arith, rw (drop_of_length-le cs h) at e, spans-nil pending)

    pub end_room : (at c p : ℕ) → pending + at ≤ i + 1 → (pending ≡ 0 → ⊥) → p ≡ places_of c → pending - 1 + p + at ≤ i + 1 + 1
    end_room at c p h z q = omega (arith, places_most c)

    pub end_on : (p : ℕ) → all ≡ i + spans pending (drop i cs) → i < length cs → (pending ≡ 0 → ⊥) → p ≡ places_of (get_or cs i 0) → all ≡ i + 1 + spans (pending - 1 + p) (drop (i + 1) cs)
    unfolding spans
    end_on p e h z q =
        let m : pending ≡ suc (pending - 1) = omega arith in
        e ∙ ap₂ (λ (n : ℕ) (l : List ℕ). i + spans n l) m (next_node h) ∙ rw (← q) (omega arith)

-- ---- tests of a node

pub constant_no : (c : ℕ) → (c ≡ 256 → ⊥) → (c ≡ 257 → ⊥) → false ≡ constant? c
unfolding constant?
constant_no c n m = by_cases (dec_lt c 256) (λ h. simp (lt-ltb c 256 h, constant?)) (λ k. let l : 256 ≤ c = omega arith in let h : 258 ≤ c = omega arith in simp (le-ltb c 256 l, le-ltb c 258 h, constant?))

pub constant_yes : (c : ℕ) → 256 ≤ c → c < 258 → true ≡ constant? c
unfolding constant?
constant_yes c l h = simp (le-ltb c 256 l, lt-ltb c 258 h, constant?)

-- ---- variables written

pub variable_high : (c : ℕ) → 64 ≤ c → 0 ≡ variable_of c
unfolding variable_of
variable_high c h = simp (le-ltb c 64 h, variable_of)

pub variable_low : (c : ℕ) → c < 64 → variable_of c ≡ only c
unfolding variable_of
variable_low c h = simp (lt-ltb c 64 h, variable_of)

only-variable : (c : ℕ) → only c % 2 ^ width ≡ variable_of c
only-variable c = go (dec_lt c 64)
  where
    go : Dec (c < 64) → only c % 2 ^ width ≡ variable_of c
    go (yes h) = only_mod 64 c h ∙ sym (variable_low c h)
    go (no h) = sym (only_mod_high 64 c (omega arith)) ∙ variable_high c (omega arith)

module _ (cs : List ℕ) (i all set : ℕ) (e : all ≡ union set (variables_of (drop i cs))) where
  pub written_on : (n v u : ℕ) → i < length cs → n ≡ get_or cs i 0 → v ≡ only n % 2 ^ width → u ≡ union set v → all ≡ union u (variables_of (drop (i + 1) cs))
  unfolding variables_of
  written_on n v u h p q r =
      let w : v ≡ variable_of (get_or cs i 0) = q ∙ ap (λ (k : ℕ). only k % 2 ^ width) p ∙ only-variable (get_or cs i 0) in
      e ∙ ap (λ (l : List ℕ). union set (variables_of l)) (next_node cs i h) ∙ rw (← w) (union_assoc set v (variables_of (drop (i + 1) cs))) ∙ ap (λ (k : ℕ). union k (variables_of (drop (i + 1) cs))) (sym r)

  pub written_off : length cs ≤ i → set ≡ all
  unfolding variables_of
  written_off h = sym (or_zero_r set) ∙ sym (e ∙ ap (λ (l : List ℕ). union set (variables_of l)) (drop_of_length-le cs {i = i} h))

-- ---- the operators X F G U W

-- Whether one stands among the nodes, as the library's `any` says it.
pub any_temporal : (cs : List ℕ) → list_any (λ c. temporal? c) cs ≡ some_temporal cs
unfolding some_temporal
any_temporal [] = refl
any_temporal (c ∷ cs) = ap (λ b. temporal? c || b) (any_temporal cs)
