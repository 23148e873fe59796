-- Marks of steps, one equation after the other.
use mathlib.Core.Path.{◌≡◌, refl, sym, ap, ◌∙◌}
use mathlib.Core.Logic.{by_cases}
use mathlib.Core.List.{List, ◌++◌}
use Prim.Native.Nat.{ℕ, ◌+◌, ◌-◌, ◌<◌}
use native.Mathlib.Omega.{arith}
use native.Mathlib.Decide.{ℕ_discrete}
use lib.Dec.{eqb}
use lib.ListN.{length, get_or, set, take, drop, length-set, length-append, length-take, length-drop, get_or-append, get_or-eq_default}
use lib.Seq.{get_or-set_same, get_or-set_other, get_or-append_right}
use Rattle.std.proofs.lemmas.List.{get_or-take, get_or-drop}
use Rattle.sets.specs.Sets.{bit}
use Rattle.evaluator.specs.Pending.{Made, Done, following, tops}
use Rattle.evaluator.proofs.Laws.{following_next, following_last}
use Rattle.steps.specs.Steps.{marked, mark_word}

-- The mark u of step k, where it leads to the state at place `to`.
abbrev pub stepped : List ℕ → List ℕ → ℕ → ℕ → ℕ → ℕ → ℕ
stepped words states v k to u = marked (eqb (tops words k) (bit (get_or states to 0) v)) v u

-- All steps but the last lead to the state behind them, the last one to state p.
module _
    (words states : List ℕ) (p v : ℕ) (Step : ℕ → ℕ → ℕ → Type 0) (old front : List ℕ) (last x : ℕ)
    (one : last + 1 ≡ length old)
    (each : length old ≡ length states)
    (made : Made Step (take last old) front)
    (steps : (k r : ℕ) → k < last → Step k (get_or (take last old) k 0) r → r ≡ stepped words states v k (k + 1) (get_or (take last old) k 0))
    (home : x ≡ stepped words states v last p (get_or (front ++ drop last old) last 0))
  where
    front_long : length front ≡ last
    front_long = omega (arith, made.same, length-take {A = ℕ})

    all_long : length (front ++ drop last old) ≡ length old
    all_long = omega (arith, front_long, length-append front (drop last old), length-drop last old)

    new_long : length (set (front ++ drop last old) last x) ≡ length old
    new_long = length-set (front ++ drop last old) last x ∙ all_long

    last_marked : get_or (set (front ++ drop last old) last x) last 0 ≡ mark_word words states p v last (get_or old last 0)
    unfolding mark_word
    last_marked =
        let z : last + (last - length front) ≡ last = omega (arith, front_long) in
        let u : get_or (front ++ drop last old) last 0 ≡ get_or old last 0 =
        get_or-append_right front (drop last old) last 0 (omega (arith, front_long)) ∙ get_or-drop last old (last - length front) 0 ∙ ap (λ (i : ℕ). get_or old i 0) z in
        let w : following (length states) p last ≡ p = following_last (length states) p last (omega arith) in
        get_or-set_same (front ++ drop last old) last x 0 (omega (arith, all_long)) ∙ home ∙ rw (u, w) refl

    front_marked : (j : ℕ) → j < last → get_or (set (front ++ drop last old) last x) j 0 ≡ mark_word words states p v j (get_or old j 0)
    unfolding mark_word
    front_marked j k =
        let w : j + 1 ≡ following (length states) p j = omega (arith, following_next (length states) p j) in
        let t = steps j (get_or front j 0) k (made.each j (omega (arith, length-take {A = ℕ}))) in
        get_or-set_other (front ++ drop last old) last j x 0 (λ e. omega arith)
        ∙ get_or-append front (drop last old) 0 j (omega (arith, front_long))
        ∙ t
        ∙ rw (get_or-take last old j 0 k, w) refl

    pub all_marked : Done (mark_word words states p v) (length old) old (set (front ++ drop last old) last x)
    all_marked =
        record {
          same = new_long;
          before = λ j _ k. by_cases (ℕ_discrete j last) (λ t. rw t last_marked) (λ n. front_marked j (omega arith));
          behind = λ j k. get_or-eq_default (set (front ++ drop last old) last x) 0 (omega (arith, new_long)) ∙ sym (get_or-eq_default old 0 k);
        }
