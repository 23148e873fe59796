-- The dependency table, and how it is filled equation by equation.
use mathlib.Core.Path.{◌≡◌, refl, sym, ap, ap₂, ◌∙◌}
use mathlib.Core.Logic.{inl, inr, by_cases}
use mathlib.Core.List.{List, [], ◌∷◌}
use Prim.Native.Nat.{ℕ, zero, suc, ◌+◌, ◌-◌, ◌<◌, ◌≤◌, min}
use native.Mathlib.Omega.{arith}
use native.Mathlib.Nat.{zero-add}
use native.Mathlib.Decide.{ℕ_discrete, dec_lt}
use borrow.Author.Tests.{eq-eqb, ne_eqb}
use lib.ListN.{length, take, drop, get_or, set, replicate, length-take, length-set, length-replicate, get_or-replicate, drop_of_length-le, get_or-eq_default}
use lib.Seq.{get_or-take, get_or-set_same, get_or-set_other, ext_get_or}
use lib.Bits.{or_zero_l, or_zero_r}
use Rattle.lists.specs.Lists.{◌among◌, part}
use Rattle.sets.specs.Sets.{◌∋◌, ◌⊆◌, union}
use Rattle.sets.proofs.Laws.{nothing_within, subset_refl, subset_trans, union_left, union_right, union-least, union_assoc}
use Rattle.logic.specs.Expressions.{Expr, written, Below}
use Rattle.logic.specs.Decks.{Equation, base, total_nodes}
use Rattle.logic.specs.Cones.{Closed}
use Rattle.logic.proofs.Codes.{below_more, written_below}
use Rattle.terms.specs.Nodes.{variables_of}
use Rattle.terms.proofs.Trees.{stands-written}
use Rattle.cones.specs.Dependencies.{depends_on, rows, table, Small, Given}
use Rattle.cones.proofs.Equations.{right-stands}
use Rattle.decks.proofs.Stored.{equation, each_equation, within, left_is, left-within, end_within, end_is, next_end, next_equation}

-- ---- what a variable depends on

depends_its : (q : Equation) (qs : List Equation) (v : ℕ) → q.left ≡ v → depends_on (q ∷ qs) v ≡ union (written q.right) (depends_on qs v)
unfolding depends_on
depends_its q qs v e = simp (eq-eqb q.left v e, depends_on)

depends_other : (q : Equation) (qs : List Equation) (v : ℕ) → (q.left ≡ v → ⊥) → depends_on (q ∷ qs) v ≡ depends_on qs v
unfolding depends_on
depends_other q qs v n = simp (ne_eqb q.left v n, depends_on)

-- What any of a variable's equations writes is in its set.
pub written_depends : (qs : List Equation) (q : Equation) → q among qs → written q.right ⊆ depends_on qs q.left
written_depends [] q x' = elim x' [ ]
written_depends (p ∷ qs) q (inl e) =
    rw e (rw (depends_its p qs p.left refl) (union_left (written p.right) (depends_on qs p.left)))
written_depends (p ∷ qs) q (inr m) =
    by_cases
    (ℕ_discrete p.left q.left)
    (λ e. rw (depends_its p qs q.left e) (subset_trans _ _ _ (written_depends qs q m) (union_right (written p.right) (depends_on qs q.left))))
    (λ n. rw (depends_other p qs q.left n) (written_depends qs q m))

-- A closed set has, with a variable, the variable's set.
pub depends_within : (qs : List Equation) (t v : ℕ) → Closed qs t → t ∋ v → depends_on qs v ⊆ t
unfolding depends_on
depends_within [] t v c m = nothing_within t
depends_within (q ∷ qs) t v c m =
    by_cases
    (ℕ_discrete q.left v)
    (λ e. rw (depends_its q qs v e) (union-least (written q.right) (depends_on qs v) t (c.0 (rw e m)) (depends_within qs t v c.1 m)))
    (λ n. rw (depends_other q qs v n) (depends_within qs t v c.1 m))

-- ---- the table's places

length-rows : (qs : List Equation) (n v : ℕ) → length (rows qs n v) ≡ n
unfolding rows
length-rows qs zero v = refl
length-rows qs (suc n) v = ap suc (length-rows qs n (suc v))

get_d_rows : (qs : List Equation) (n v i : ℕ) → i < n → get_or (rows qs n v) i 0 ≡ depends_on qs (v + i)
unfolding rows
get_d_rows qs zero v i h = absurd (omega arith)
get_d_rows qs (suc n) v zero h = let e : v ≡ v + 0 = omega arith in ap (depends_on qs) e
get_d_rows qs (suc n) v (suc i) h = let e : suc v + i ≡ v + suc i = omega arith in get_d_rows qs n (suc v) i (omega arith) ∙ ap (depends_on qs) e

pub length-table : (qs : List Equation) → length (table qs) ≡ base.variables
length-table qs = length-rows qs base.variables 0

pub table_at : (qs : List Equation) (v : ℕ) → v < base.variables → get_or (table qs) v 0 ≡ depends_on qs v
table_at qs v h = get_d_rows qs base.variables 0 v h ∙ ap (depends_on qs) (zero-add v)

-- Behind the last place there is nothing.
pub table-within : (qs : List Equation) (t v : ℕ) → Closed qs t → t ∋ v → get_or (table qs) v 0 ⊆ t
table-within qs t v c m = by_cases (dec_lt v base.variables) (λ h. rw (table_at qs v h) (depends_within qs t v c m)) (λ n. rw (get_or-eq_default (table qs) 0 {n = v} (omega (arith, length-table qs))) (nothing_within t))

-- ---- filling

-- The table with one more equation.
abbrev pub with_equation_lem : Equation → List ℕ → List ℕ
with_equation_lem q t = set t q.left (union (get_or t q.left 0) (written q.right))

-- The table with more equations, one after the other.
unfoldable pub with_equations : List Equation → List ℕ → List ℕ
with_equations [] t = t
with_equations (q ∷ qs) t = with_equations qs (with_equation_lem q t)

length_with : (qs : List Equation) (t : List ℕ) → length (with_equations qs t) ≡ length t
unfolding with_equations
length_with [] t = refl
length_with (q ∷ qs) t = length_with qs (with_equation_lem q t) ∙ length-set t q.left (union (get_or t q.left 0) (written q.right))

get_or_with : (qs : List Equation) (t : List ℕ) (v : ℕ) → v < length t → get_or (with_equations qs t) v 0 ≡ union (get_or t v 0) (depends_on qs v)
unfolding with_equations depends_on
get_or_with [] t v h = sym (or_zero_r (get_or t v 0))
get_or_with (q ∷ qs) t v h =
    get_or_with qs (with_equation_lem q t) v (rw (length-set t q.left (union (get_or t q.left 0) (written q.right))) h)
    ∙ by_cases
    (ℕ_discrete q.left v)
    (λ e.
    rw (depends_its q qs v e)
    (rw e (ap (λ (s : ℕ). union s (depends_on qs v)) (get_or-set_same t v (union (get_or t v 0) (written q.right)) 0 h) ∙ sym (union_assoc (get_or t v 0) (written q.right) (depends_on qs v)))))
    (λ n.
    rw (depends_other q qs v n)
    (ap (λ (s : ℕ). union s (depends_on qs v)) (get_or-set_other t q.left v (union (get_or t q.left 0) (written q.right)) 0 (λ e. n (sym e)))))

-- Filled from zeros with all equations, it is the table.
pub table_filled : (qs : List Equation) → table qs ≡ with_equations qs (replicate base.variables 0)
table_filled qs =
    ext_get_or 0 (table qs) (with_equations qs (replicate base.variables 0))
    (length-table qs ∙ sym (length_with qs (replicate base.variables 0) ∙ length-replicate {A = ℕ} base.variables 0))
    (λ v h.
    let l : v < base.variables = omega (arith, length-table qs) in
    table_at qs v l
    ∙ sym (
    get_or_with qs (replicate base.variables 0) v (omega (arith, length-replicate {A = ℕ} base.variables 0))
    ∙ ap (λ (s : ℕ). union s (depends_on qs v)) (get_or-replicate base.variables v 0 0 l)
    ∙ or_zero_l (depends_on qs v)
    ))

-- This turn's equation: it is one of the first n, and its variable and its end stand in the rows.
pub record Turn (lefts ends : List ℕ) (n i left end : ℕ) : Type 0 where
  pub here : i < n
  pub left_is : left ≡ get_or lefts i 0
  pub end_is : end ≡ get_or ends i 0

pub turn : (lefts ends : List ℕ) (n i left end : ℕ)
    → (i < length (take n lefts)) × (i < length (take n ends)) × ((d : ℕ) → left ≡ get_or (take n lefts) i d) × ((d : ℕ) → end ≡ get_or (take n ends) i d)
    → Turn lefts ends n i left end
turn lefts ends n i left end h =
    let here : i < n = omega (arith, h.0, length-take n lefts) in
    record { here = here; left_is = h.2 0 ∙ get_or-take n lefts i 0 here; end_is = h.3 0 ∙ get_or-take n ends i 0 here }

-- Where the filling stands: the equations before i are in the table, and the nodes of equation i begin at `from`.
pub record Filling (lefts ends cs : List ℕ) (n : ℕ) (deps : List ℕ) (i from : ℕ) : Type 0 where
  pub places : length deps ≡ base.variables
  pub begins : (qs : List Equation) → Given qs lefts ends cs n → from ≡ total_nodes (take i qs)
  pub all : (qs : List Equation) → Given qs lefts ends cs n → table qs ≡ with_equations (drop i qs) deps

module _ (lefts ends cs : List ℕ) (n : ℕ) where
  pub filling_starts : (deps : List ℕ) → deps ≡ replicate base.variables 0 → Filling lefts ends cs n deps 0 0
  unfolding total_nodes
  filling_starts deps e = rw e (record { places = length-replicate {A = ℕ} base.variables 0; begins = λ qs g. refl; all = λ qs g. table_filled qs })

  -- Each row has a place for each equation.
  places-enough : (qs : List Equation) → Given qs lefts ends cs n → (n ≤ length lefts) × (n ≤ length ends)
  places-enough qs g =
      by_cases
      (dec_lt 0 n)
      (λ h. let last : n - 1 < n = omega arith in (omega (arith, left-within qs lefts ends cs n (n - 1) g.held last), omega (arith, end_within qs lefts ends cs n (n - 1) g.held last)))
      (λ z. (omega arith, omega arith))

  pub ends_first : (qs : List Equation) × Given qs lefts ends cs n → n ≡ length (take n ends)
  ends_first (qs, g) = omega (arith, (places-enough qs g).1, length-take n ends)

  -- As many turns as both rows have places among the first n are those of all equations.
  pub filling_ends : (deps : List ℕ) (i from : ℕ) (qs : List Equation) → i ≡ min (length (take n lefts)) (length (take n ends)) → Filling lefts ends cs n deps i from → Given qs lefts ends cs n → deps ≡ table qs
  unfolding with_equations
  filling_ends deps i from qs e f g =
      let long = places-enough qs g in
      let all : n ≤ i = omega (arith, e, long.0, long.1, length-take n lefts, length-take n ends) in
      sym (f.all qs g ∙ ap (λ (l : List Equation). with_equations l deps) (drop_of_length-le qs {i = i} (omega (arith, g.held.count_is))))

  module _ (i : ℕ) (h : i < n) where
    module _ (qs : List Equation) (g : Given qs lefts ends cs n) where
      pub left_here : i < length lefts
      left_here = left-within qs lefts ends cs n i g.held h

      pub end_here : i < length ends
      end_here = end_within qs lefts ends cs n i g.held h

      small : Small (equation qs i)
      small = each_equation Small qs i g.small (within qs lefts ends cs n i g.held h)

      left-its : (v : ℕ) → v ≡ get_or lefts i 0 → v ≡ (equation qs i).left
      left-its v p = p ∙ left_is qs lefts ends cs n i g.held h

      end_its : (end : ℕ) → end ≡ get_or ends i 0 → end ≡ total_nodes (take (i + 1) qs)
      end_its end e = e ∙ end_is qs lefts ends cs n i g.held h

      pub left_place : (deps : List ℕ) (from v : ℕ) → Filling lefts ends cs n deps i from → v ≡ get_or lefts i 0 → v < length deps
      left_place deps from v f p = rw (left-its v p, f.places) small.its

      -- What is read between the ends is what the equation writes.
      written_here : (deps : List ℕ) (from end more : ℕ) → Filling lefts ends cs n deps i from → end ≡ get_or ends i 0 → more ≡ variables_of (part from end cs) → more ≡ written (equation qs i).right
      written_here deps from end more f e m =
          let right : Expr = (equation qs i).right in
          let fits : Below base.variables right = written_below base.variables (written right) right small.uses (subset_refl (written right)) in
          m
          ∙ ap₂ (λ (a b : ℕ). variables_of (part a b cs)) (f.begins qs g) (end_its end e ∙ next_end qs lefts ends cs n i g.held h)
          ∙ stands-written cs (total_nodes (take i qs)) right fits (right-stands qs lefts ends cs n i g.held h (below_more base.variables 256 right (omega arith) fits))

      all_next : (deps : List ℕ) (from v end more its : ℕ) → Filling lefts ends cs n deps i from → v ≡ get_or lefts i 0 → end ≡ get_or ends i 0 → more ≡ variables_of (part from end cs) → its ≡ union (get_or deps v 0) more → table qs ≡ with_equations (drop (i + 1) qs) (set deps v its)
      unfolding with_equations
      all_next deps from v end more its f p e m d =
          f.all qs g ∙ ap (λ (l : List Equation). with_equations l deps) (next_equation qs lefts ends cs n i g.held h) ∙ rw (d, written_here deps from end more f e m, left-its v p) refl

    pub filling_next : (deps : List ℕ) (from v end more its : ℕ) → Filling lefts ends cs n deps i from → v ≡ get_or lefts i 0 → end ≡ get_or ends i 0 → more ≡ variables_of (part from end cs) → its ≡ union (get_or deps v 0) more → Filling lefts ends cs n (set deps v its) (i + 1) end
    filling_next deps from v end more its f p e m d =
        record {
          places = length-set deps v its ∙ f.places;
          begins = λ qs g. end_its qs g end e;
          all = λ qs g. all_next qs g deps from v end more its f p e m d;
        }
