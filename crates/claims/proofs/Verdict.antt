-- The verdict from what was worked out: the first state, the marks of the steps, the truth of the property.
use mathlib.Core.Path.{◌≡◌, refl, sym, ap, ap₂, ◌∙◌}
use mathlib.Core.Bool.{Bool, true, false, not}
use mathlib.Core.List.{List, [], ◌∷◌}
use Prim.Native.Nat.{ℕ, zero, suc, ◌+◌, ◌-◌, ◌%◌, ◌^◌, ◌<◌, ◌≤◌}
use native.Mathlib.Omega.{arith}
use borrow.Author.Tests.{eq-eqb, ne_eqb}
use lib.ListN.{length, take, get_or, replicate}
use lib.Pow.{pow_pos}
use lib.Bits.{or_zero_l}
use Rattle.std.specs.Prelude.{Ok, Err}
use Rattle.lists.specs.Lists.{stands, padded}
use Rattle.lists.proofs.Laws.{each_map, take-padded, length-padded}
use Rattle.sets.specs.Sets.{union, inside}
use Rattle.sets.proofs.Laws.{member_lt}
use Rattle.logic.specs.Decks.{Equation, Deck, Allowed, Accepted, base}
use Rattle.logic.specs.Meaning.{Claim, Sized, state_of, follower}
use Rattle.logic.specs.Verdicts.{Breaking, NotInitial as NotInitialState, NoStep as NoSuchStep, Holding as HoldingProperty, truth, taken, allowed, steps_from, verdict}
use Rattle.logic.proofs.Codes.{written-narrow}
use Rattle.logic.proofs.Verdict.{truth_lt}
use Rattle.terms.specs.Nodes.{Stands}
use Rattle.terms.proofs.Trees.{stands_at}
use Rattle.decks.specs.declared.Deck.{Deck as Stored}
use Rattle.decks.specs.declared.Refusal.TheVariants.{NotInitial, NoStep, Holding}
use Rattle.decks.specs.Stored.{stored}
use Rattle.decks.proofs.Stored.{stored_holds, stored_inits}
use Rattle.evaluator.specs.Pending.{All, following}
use Rattle.truths.specs.Worked.{claim_of, truth_word, Ready, Evaluated}
use Rattle.steps.specs.Steps.{behind, taken_word, Fit, Given, Zeros, NoneLacks, FirstLacking}
use Rattle.claims.specs.Checked.{verdict_answer}

-- ---- what the lent rows hold

fit-allowed : (vars : ℕ) (q : Equation) → vars < 2 ^ base.variables → Allowed base vars q → Fit q
fit-allowed vars q h a =
    record {
      its = member_lt base.variables vars q.left h a.its;
      narrow = written-narrow base.variables vars q.right (omega arith) h a.uses;
      plain = a.plain;
      shallow = a.shallow;
    }

module _ (s : Stored) (D : Deck) (ok : Accepted base D) (h : s ≡ stored D) where
  its-equations : Given D.equations s.equations.lefts s.equations.ends s.equations.nodes s.equations.count
  its-equations =
      record {
        held = stored_holds D s h;
        fit = each_map (Allowed base D.vars) Fit D.equations (λ q a. fit-allowed D.vars q ok.vars_in a) ok.equations-allowed;
      }

  pub equations_given : (qs : List Equation) × Given qs s.equations.lefts s.equations.ends s.equations.nodes s.equations.count
  equations_given = (D.equations, its-equations)

  pub initials-within : s.initials ≤ base.initials
  initials-within = rw h ok.inits-most

  property-stands : Stands s.property 0 D.property
  property-stands =
      rw h
      (stands_at [] _ D.property (written-narrow base.variables D.vars D.property (omega arith) ok.vars_in ok.property_in))

  vars_are : s.vars ≡ D.vars
  vars_are = rw h refl

  pub property_ready : (states : List ℕ) (p : ℕ) (words zeros : List ℕ)
      → words ≡ zeros
      → Zeros zeros
      → length zeros ≡ length states
      → p < length states
      → Ready s.property 0 states p words base.levels
  property_ready states p words zeros q z l k =
      record {
        its = D.property;
        stands = property-stands;
        shallow = ok.property-levels;
        few = omega arith;
        room = λ j b. rw (q, z j) (pow_pos 32);
        all = ap length q ∙ l;
        loop = k;
      }

  module _ (states : List ℕ) (p : ℕ) (k : p < length states) where
    -- ---- 20

    -- Whether the first state stands among the initial ones lent.
    abbrev Tested : Bool → List ℕ → Type 0
    Tested b inits = (b ≡ stands (get_or states 0 0) inits) × (inits ≡ take s.initials s.inits)

    is_initial : (b : Bool) (inits : List ℕ) → Tested b inits → b ≡ stands (state_of (claim_of p states) 0) D.inits
    is_initial b inits (q, e) = q ∙ ap (stands (get_or states 0 0)) (e ∙ stored_inits D s h)

    pub not_initial : (b : Bool) (inits : List ℕ) → Tested b inits → b ≡ false → Err NotInitial ≡ verdict_answer (verdict D (claim_of p states))
    unfolding verdict
    not_initial b inits q n = let f : stands (state_of (claim_of p states) 0) D.inits ≡ false = sym (is_initial b inits q) ∙ n in let v : verdict D (claim_of p states) ≡ NotInitialState = simp (f, verdict) in sym (ap verdict_answer v)

    initial : (b : Bool) (inits : List ℕ) → Tested b inits → b ≡ true → verdict D (claim_of p states) ≡ steps_from D (claim_of p states) (length states) 0
    unfolding verdict
    initial b inits q n =
        let f : stands (state_of (claim_of p states) 0) D.inits ≡ true = sym (is_initial b inits q) ∙ n in
        let l : p + (length states - p) ≡ length states = omega arith in
        let v : verdict D (claim_of p states) ≡ steps_from D (claim_of p states) (p + (length states - p)) 0 = simp (f, verdict) in
        v ∙ ap (λ (n : ℕ). steps_from D (claim_of p states) n 0) l

    -- ---- 21

    module _ (zeros marks : List ℕ) (z : Zeros zeros) (long : length zeros ≡ length states) (m : (qs : List Equation) → Given qs s.equations.lefts s.equations.ends s.equations.nodes s.equations.count → All (taken_word qs states p) zeros marks) where
      its_marks : All (taken_word D.equations states p) zeros marks
      its_marks = m D.equations its-equations

      step_allowed : (j : ℕ) → j < length states → allowed D (state_of (claim_of p states) j) (state_of (claim_of p states) (follower (claim_of p states) j)) ≡ inside s.vars (get_or marks j 0)
      unfolding allowed taken_word following follower
      step_allowed j l =
          let n : length states ≡ p + (length states - p) = omega arith in
          let b : j < length zeros = omega arith in
          let t : get_or marks j 0 ≡ taken D.equations (get_or states j 0) (behind states p j) =
          its_marks.before j b b ∙ ap (λ (u : ℕ). union u (taken D.equations (get_or states j 0) (behind states p j))) (z j) ∙ or_zero_l (taken D.equations (get_or states j 0) (behind states p j)) in
          let f : following (length states) p j ≡ follower (claim_of p states) j = ap (λ (n : ℕ). following n p j) n in
          rw (t, vars_are, f) refl

      marks_long : length marks ≡ length states
      marks_long = its_marks.same ∙ long

      -- The steps before r are allowed.
      module _ (r : ℕ) (within : r ≤ length marks) (before : (k : ℕ) → k < r → inside s.vars (get_or marks k 0) ≡ true) where
        steps_to : (j : ℕ) → j ≤ r → steps_from D (claim_of p states) (length states) 0 ≡ steps_from D (claim_of p states) (length states - j) j
        unfolding steps_from
        steps_to zero l = let q : length states ≡ length states - 0 = omega arith in ap (λ (n : ℕ). steps_from D (claim_of p states) n 0) q
        steps_to (suc j) l =
            let q : length states - j ≡ suc (length states - suc j) = omega (arith, within, marks_long) in
            let a = step_allowed j (omega (arith, within, marks_long)) ∙ before j (omega arith) in
            steps_to j (omega arith) ∙ ap (λ (n : ℕ). steps_from D (claim_of p states) n j) q ∙ simp (a, steps_from)

      module _ (b : Bool) (inits : List ℕ) (q : Tested b inits) (n : b ≡ true) where
        pub no_step : (r : ℕ) → FirstLacking s.vars marks r → Err (NoStep r) ≡ verdict_answer (verdict D (claim_of p states))
        unfolding steps_from
        no_step r first =
            let l : r < length states = omega (arith, first.within, marks_long) in
            let e : length states - r ≡ suc (length states - suc r) = omega arith in
            let a = step_allowed r l ∙ first.lacks in
            let lacking : steps_from D (claim_of p states) (length states - r) r ≡ NoSuchStep r = ap (λ (m : ℕ). steps_from D (claim_of p states) m r) e ∙ simp (a, steps_from) in
            sym (ap verdict_answer (initial b inits q n ∙ steps_to r (omega (arith, first.within)) first.before r (omega arith) ∙ lacking))

        pub only-property : NoneLacks s.vars marks → verdict D (claim_of p states) ≡ steps_from D (claim_of p states) 0 (length states)
        only-property none =
            let e : length states - length states ≡ 0 = omega arith in
            initial b inits q n
            ∙ steps_to (length states) (omega (arith, marks_long)) (λ k l. none k (omega (arith, marks_long))) (length states) (omega arith)
            ∙ ap (λ (m : ℕ). steps_from D (claim_of p states) m (length states)) e

  -- ---- 22

  module _ (states : List ℕ) (p : ℕ) (words after : List ℕ) (some : 0 < length after) (f : Evaluated s.property 0 states p words after) (v : verdict D (claim_of p states) ≡ steps_from D (claim_of p states) 0 (length states)) (w : ℕ) (its : w ≡ get_or after 0 0) where
    top_is : w % 2 ≡ truth (claim_of p states) D.property 0
    unfolding truth_word
    top_is =
        let g = f D.property property-stands in
        let x : 0 < length words = omega (arith, g.same) in
        let y = g.before 0 x x in
        omega (arith, truth_lt (claim_of p states) D.property 0)

    pub holding : w % 2 ≡ 1 → Err Holding ≡ verdict_answer (verdict D (claim_of p states))
    unfolding steps_from
    holding t =
        let a = eq-eqb (truth (claim_of p states) D.property 0) 1 (sym top_is ∙ t) in
        let h : steps_from D (claim_of p states) 0 (length states) ≡ HoldingProperty = simp (a, steps_from) in
        sym (ap verdict_answer (v ∙ h))

    pub breaking : (w % 2 ≡ 1 → ⊥) → Ok tt ≡ verdict_answer (verdict D (claim_of p states))
    unfolding steps_from
    breaking t =
        let a = ne_eqb (truth (claim_of p states) D.property 0) 1 (λ y. t (top_is ∙ y)) in
        let h : steps_from D (claim_of p states) 0 (length states) ≡ Breaking = simp (a, steps_from) in
        sym (ap verdict_answer (v ∙ h))

-- ---- a claim that was read, and room of zeros, as they are lent

pub claim_lent : (n : ℕ) (m : Claim) → Sized base m → claim_of m.p (take (m.p + m.c) (padded n m.states)) ≡ m
claim_lent n m s =
    let t : take (m.p + m.c) (padded n m.states) ≡ m.states = rw (← s.all) (take-padded n m.states) in
    let c : length m.states - m.p ≡ m.c = omega (arith, s.all) in
    rw t (ap (λ (k : ℕ). record { p = m.p; c = k; states = m.states }) c)

pub zeros_all : (n : ℕ) → Zeros (replicate n 0)
zeros_all zero i = refl
zeros_all (suc n) zero = refl
zeros_all (suc n) (suc i) = zeros_all n i

pub zeros_part : (n : ℕ) (ws : List ℕ) → Zeros ws → Zeros (take n ws)
zeros_part zero ws z i = refl
zeros_part (suc n) [] z i = refl
zeros_part (suc n) (w ∷ ws) z zero = z 0
zeros_part (suc n) (w ∷ ws) z (suc i) = zeros_part n ws (λ j. z (suc j)) i
