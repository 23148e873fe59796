-- What is answered to a deck and a set.
use mathlib.Core.Path.{◌≡◌, refl, sym, ap, ◌∙◌}
use mathlib.Core.List.{List}
use Prim.Native.Nat.{ℕ, ◌^◌, ◌<◌}
use Rattle.lists.proofs.Laws.{each_map}
use Rattle.sets.specs.Sets.{◌⊆◌, without, size, Lowest, lowest_of, width}
use Rattle.sets.proofs.Laws.{inside_true, inside_false, subset_without, without_subset, without_lt, member_lt, subset_lt, lowest_found}
use Rattle.logic.specs.Expressions.{written}
use Rattle.logic.specs.Decks.{Equation, Deck, Allowed, Accepted, base}
use Rattle.logic.specs.Cones.{cone}
use Rattle.std.specs.Prelude.{Ok, Err}
use Rattle.decks.specs.declared.Refusal.TheVariants.{Outside}
use Rattle.decks.specs.declared.Deck.{Deck as Stored}
use Rattle.decks.specs.Lent.{HoldsEquations}
use Rattle.decks.specs.Stored.{stored}
use Rattle.decks.proofs.Stored.{stored_holds}
use Rattle.cones.specs.Dependencies.{Small, Given}
use Rattle.cones.specs.Cone.{lowest_outside, sized, cone_read}

-- ---- the equations of an accepted deck

pub accepted_given : (D : Deck) → Accepted base D → (lefts ends nodes : List ℕ) (n : ℕ) → HoldsEquations D.equations lefts ends nodes n → Given D.equations lefts ends nodes n
accepted_given D a lefts ends nodes n h =
    record {
      held = h;
      small =
          each_map
          (Allowed base D.vars)
          Small
          D.equations
          (λ q w.
          record {
            its = member_lt base.variables D.vars q.left a.vars_in w.its;
            uses = subset_lt base.variables (written q.right) D.vars w.uses a.vars_in;
          })
          a.equations-allowed;
    }

-- ---- what the answer says

module _ (D : Deck) (s : ℕ) where
  pub read_cone : s ⊆ D.vars → cone_read D s ≡ Ok (sized (cone D.equations s))
  unfolding cone_read
  read_cone f = simp (inside_true s D.vars f, cone_read)

  pub read_outside : (s ⊆ D.vars → ⊥) → cone_read D s ≡ Err (Outside 0 (lowest_outside D s))
  unfolding cone_read
  read_outside n = simp (inside_false s D.vars n, cone_read)

  -- The variable named is the lowest of the set that is not the deck's.
  pub outside_lowest : s < 2 ^ base.variables → (s ⊆ D.vars → ⊥) → Lowest (without s D.vars) (lowest_outside D s)
  outside_lowest h n = lowest_found (without s D.vars) (lowest_outside D s) refl (λ z. n (without_subset s D.vars z)) (without_lt width s D.vars h)

-- The rows of a deck in memory hold equations that a deck may have.
pub stored_given : (d : Stored) (D : Deck) → Accepted base D → d ≡ stored D → Given D.equations d.equations.lefts d.equations.ends d.equations.nodes d.equations.count
stored_given d D a e = accepted_given D a d.equations.lefts d.equations.ends d.equations.nodes d.equations.count (stored_holds D d e)

-- ---- a deck whose equations lie in rows

module _ (vars : ℕ) (lefts ends nodes : List ℕ) (equations : ℕ) where
  -- The rows hold equations that a deck may have.
  abbrev Holds : List Equation → Type 0
  Holds qs = Given qs lefts ends nodes equations

  pub given_some : (D : Deck) × Accepted base D × (vars ≡ D.vars) × HoldsEquations D.equations lefts ends nodes equations → (qs : List Equation) × Holds qs
  given_some (D, a, v, h) = (D.equations, accepted_given D a lefts ends nodes equations h)

  module _ (s outside : ℕ) (o : outside ≡ without s vars) (D : Deck) (e : vars ≡ D.vars) where
    outside_its : outside ≡ without s D.vars
    outside_its = o ∙ ap (without s) e

    pub answered_outside : (v : ℕ) → (outside ≡ 0 → ⊥) → v ≡ lowest_of outside → Err (Outside 0 v) ≡ cone_read D s
    answered_outside v n l = rw (l, outside_its) (sym (read_outside D s (λ f. n (outside_its ∙ subset_without s D.vars f))))

    pub answered_cone : (c n : ℕ)
        → outside ≡ 0
        → Accepted base D
        → HoldsEquations D.equations lefts ends nodes equations
        → ((qs : List Equation) → Holds qs → c ≡ cone qs s)
        → n ≡ size c
        → Ok (record { set = c; size = n }) ≡ cone_read D s
    answered_cone c n z a h f k =
        rw (k, f D.equations (accepted_given D a lefts ends nodes equations h)) (sym (read_cone D s (without_subset s D.vars (sym outside_its ∙ z))))
