-- The left sides of a deck's equations: the test of 15 says that every variable has an equation, and names the lowest without one.
use mathlib.Core.Path.{◌≡◌, refl, sym, ap, ◌∙◌, subst}
use mathlib.Core.Logic.{inl, inr, ⊎_elim, by_cases}
use mathlib.Core.List.{List, [], ◌∷◌, ◌++◌}
use Prim.Native.Nat.{ℕ, ◌^◌, ◌<◌}
use native.Mathlib.Omega.{arith}
use native.Mathlib.Decide.{ℕ_discrete}
use borrow.Author.Tests.{eq-eqb, ne_eqb}
use lib.Count.{count_trailing_zeros}
use Rattle.lists.specs.Lists.{Some}
use Rattle.sets.specs.Sets.{◌∋◌, only, union, without, Lowest, lowest_of}
use Rattle.sets.proofs.Laws.{bit_zero, union_assoc, union_nothing, bit-union, bit_or_zero, bit-only, only-bit, union_left, union_right, member_dec, subset_without, without_subset, without-left, without_out, without_in, without_lt, trailing_lowest, lowest_unique}
use Rattle.logic.specs.Decks.{Equation, Deck, base}
use Rattle.decks.specs.declared.Refusal.{Refusal}
use Rattle.decks.specs.declared.Refusal.TheVariants.{NoEquation}
use Rattle.decks.specs.Answers.{Outcome, Got, Refused}
use Rattle.decks.specs.Readings.{left_set, complete}
use Rattle.decks.proofs.Outcomes.{refused_got}

-- v has an equation.
abbrev pub HasEquation : List Equation → ℕ → Type 0
HasEquation qs v = Some (λ (q : Equation). q.left ≡ v) qs

-- Every variable has an equation.
abbrev pub AllHave : Deck → Type 0
AllHave d = (v : ℕ) → d.vars ∋ v → HasEquation d.equations v

pub left-set_member : (qs : List Equation) (v : ℕ) → HasEquation qs v → left_set qs ∋ v
unfolding left_set
left-set_member [] v x' = elim x' [ ]
left-set_member (q ∷ qs) v (inl e) = union_left (only q.left) (left_set qs) v (subst (λ (x : ℕ). only x ∋ v) (sym e) (bit-only v))
left-set_member (q ∷ qs) v (inr s) = union_right (only q.left) (left_set qs) v (left-set_member qs v s)

pub member_left-set : (qs : List Equation) (v : ℕ) → left_set qs ∋ v → HasEquation qs v
unfolding left_set
member_left-set [] v m = omega (arith, bit_zero v, m)
member_left-set (q ∷ qs) v m =
    ⊎_elim
    (λ z. inr (member_left-set qs v (omega (arith, bit-union (only q.left) (left_set qs) v, z, m))))
    (λ o. inl (sym (only-bit q.left v o)))
    (bit_or_zero (only q.left) v)

-- One equation more.
pub left_more : (q : Equation) (qs : List Equation) → left_set (qs ++ (q ∷ [])) ≡ union (left_set qs) (only q.left)
unfolding left_set
left_more q [] = union_nothing (only q.left)
left_more q (x ∷ xs) = ap (union (only x.left)) (left_more q xs) ∙ union_assoc (only x.left) (left_set xs) (only q.left)

-- The variables without an equation.
abbrev pub lacking : Deck → ℕ
lacking d = without d.vars (left_set d.equations)

-- They tell whether the deck is complete.
module _ (d : Deck) (missing : ℕ) (e : missing ≡ lacking d) where
  pub complete_none : missing ≡ 0 → complete d ≡ Got d
  unfolding complete
  complete_none h = simp (eq-eqb (lacking d) 0 (sym e ∙ h), complete)

  pub complete-some : (missing ≡ 0 → ⊥) → complete d ≡ Refused (NoEquation (lowest_of missing))
  unfolding complete
  complete-some h = rw e (simp (ne_eqb (lacking d) 0 (λ z. h (e ∙ z)), complete))

pub complete-all : (d : Deck) → AllHave d → complete d ≡ Got d
complete-all d f = complete_none d (lacking d) refl (subset_without d.vars (left_set d.equations) (λ v m. left-set_member d.equations v (f v m)))

pub all-complete : (d e : Deck) → complete d ≡ Got e → (d ≡ e) × AllHave d
all-complete d e h =
    by_cases
    (ℕ_discrete (lacking d) 0)
    (λ z. (let g = complete_none d (lacking d) refl z in cc, λ v m. member_left-set d.equations v (without_subset d.vars (left_set d.equations) z v m)))
    (λ n. refused_got (sym (complete-some d (lacking d) refl n) ∙ h))

-- v is the lowest variable without an equation.
abbrev pub LowestWithout : Deck → ℕ → Type 0
LowestWithout d v = (d.vars ∋ v) × (HasEquation d.equations v → ⊥) × ((w : ℕ) → w < v → d.vars ∋ w → HasEquation d.equations w)

lowest_lacking : (d : Deck) (v : ℕ) → Lowest (lacking d) v → LowestWithout d v
lowest_lacking d v h = (
  without-left d.vars (left_set d.equations) v h.0,
  λ s. without_out d.vars (left_set d.equations) v h.0 (left-set_member d.equations v s),
  λ w l m.
      by_cases
      (member_dec (left_set d.equations) w)
      (λ s. member_left-set d.equations w s)
      (λ n. absurd (h.1 w l (without_in d.vars (left_set d.equations) w m n))),
)

lacking_lowest : (d : Deck) (v : ℕ) → LowestWithout d v → Lowest (lacking d) v
lacking_lowest d v w = (
  without_in d.vars (left_set d.equations) v w.0 (λ s. w.1 (member_left-set d.equations v s)),
  λ j l m. without_out d.vars (left_set d.equations) j m (left-set_member d.equations j (w.2 j l (without-left d.vars (left_set d.equations) j m))),
)

-- 15 is given where a variable has no equation, and names the lowest such one.
pub refused_lowest : (d : Deck) (a : Refusal) → d.vars < 2 ^ base.variables → complete d ≡ Refused a → (v : ℕ) × (a ≡ NoEquation v) × LowestWithout d v
refused_lowest d a h e =
    by_cases
    (ℕ_discrete (lacking d) 0)
    (λ z. refused_got (sym e ∙ complete_none d (lacking d) refl z))
    (λ n. (
      count_trailing_zeros base.variables (lacking d),
      let g = complete-some d (lacking d) refl n in cc,
      lowest_lacking
          d
          (count_trailing_zeros base.variables (lacking d))
          (trailing_lowest base.variables (lacking d) (omega arith) (without_lt base.variables d.vars (left_set d.equations) h)),
    ))

pub lowest_refused : (d : Deck) (v : ℕ) → d.vars < 2 ^ base.variables → LowestWithout d v → complete d ≡ Refused (NoEquation v)
lowest_refused d v h w = go (complete d) refl
  where
    go : (r : Outcome Deck) → complete d ≡ r → complete d ≡ Refused (NoEquation v)
    go (Got e) p = absurd (w.1 ((all-complete d e p).1 v w.0))
    go (Refused a) p =
        let f = refused_lowest d a h p in
        let same : f.0 ≡ v = lowest_unique (lacking d) f.0 v (lacking_lowest d f.0 f.2) (lacking_lowest d v w) in
        p ∙ ap Refused (f.1 ∙ ap NoEquation same)
