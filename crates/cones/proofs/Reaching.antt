-- Closing a set: each variable reached is visited once, and where none is left the set is the cone.
use mathlib.Core.Path.{◌≡◌, sym, ap, ◌∙◌, subst}
use mathlib.Core.List.{List}
use mathlib.Core.Logic.{⊎_elim}
use Prim.Native.Nat.{ℕ, ◌-◌, ◌%◌, ◌^◌, ◌<◌}
use native.Mathlib.Omega.{arith}
use lib.ListN.{length, get_or}
use lib.Count.{ones-le}
use Rattle.lists.proofs.Laws.{each_all}
use Rattle.sets.specs.Sets.{◌∋◌, ◌⊆◌, only, union, without, size, lowest_of, width}
use Rattle.sets.proofs.Laws.{bit-union, bit_or_zero, subset_trans, subset_antisym, union_left, union_right, union-least, only-bit, only-least, only-within, without-left, without_out, without_subset, without_lt, member_lt, size_new, lowest_found}
use Rattle.logic.specs.Expressions.{written}
use Rattle.logic.specs.Decks.{Equation, base}
use Rattle.logic.specs.Cones.{Closed, cone}
use Rattle.logic.proofs.Cone.{cone_is, cone-only}
use Rattle.cones.specs.Dependencies.{depends_on, table}
use Rattle.cones.proofs.Table.{written_depends, table_at, table-within}

-- With each variable, t has the variable's set in the table.
abbrev Follows : List ℕ → ℕ → Type 0
Follows deps t = (v : ℕ) → t ∋ v → get_or deps v 0 ⊆ t

-- Where the closing stands: what is reached holds the set, and no more than it must; what is visited is reached, and so are the visited variables' sets.
pub record Reaching (deps : List ℕ) (s reached visited : ℕ) : Type 0 where
  pub holds : s ⊆ reached
  pub must : (t : ℕ) → s ⊆ t → Follows deps t → reached ⊆ t
  pub seen : visited ⊆ reached
  pub followed : (v : ℕ) → visited ∋ v → get_or deps v 0 ⊆ reached

-- A variable reached is visited: its set is reached too.
reaching_visits : (deps : List ℕ) (s reached visited v : ℕ) → reached ∋ v → Reaching deps s reached visited → Reaching deps s (union reached (get_or deps v 0)) (union visited (only v))
reaching_visits deps s reached visited v m r =
    record {
      holds = grows s r.holds;
      must = λ t f c. union-least reached (get_or deps v 0) t (r.must t f c) (c v (r.must t f c v m));
      seen = union-least visited (only v) _ (grows visited r.seen) (grows (only v) (only-least v reached m));
      followed =
          λ w n. ⊎_elim (λ z. its w (only-bit v w (omega (arith, bit-union visited (only v) w, z, n)))) (λ o. grows (get_or deps w 0) (r.followed w o)) (bit_or_zero visited w);
    }
  where
    grows : (t : ℕ) → t ⊆ reached → t ⊆ union reached (get_or deps v 0)
    grows t f = subset_trans t reached (union reached (get_or deps v 0)) f (union_left reached (get_or deps v 0))

    its : (w : ℕ) → w ≡ v → get_or deps w 0 ⊆ union reached (get_or deps v 0)
    its w e = rw e (union_right reached (get_or deps v 0))

-- Where all that is reached is visited, it is the cone.
pub reaching_ends : (deps : List ℕ) (s reached visited : ℕ) (qs : List Equation) → reached < 2 ^ base.variables → visited ≡ reached → Reaching deps s reached visited → deps ≡ table qs → reached ≡ cone qs s
reaching_ends deps s reached visited qs h e r d = cone-only qs s reached (cone qs s) (record { holds = r.holds; closed = closed; least = λ t f c. r.must t f (rw d (λ v. table-within qs t v c)) }) (cone_is qs s)
  where
    closed : Closed qs reached
    closed =
        each_all
        (λ (q : Equation). reached ∋ q.left → written q.right ⊆ reached)
        qs
        (λ q m i.
        subset_trans
        (written q.right)
        (depends_on qs q.left)
        reached
        (written_depends qs q m)
        (subst
        (λ (w : ℕ). w ⊆ reached)
        (ap (λ (l : List ℕ). get_or l q.left 0) d ∙ table_at qs q.left (member_lt base.variables reached q.left h i))
        (r.followed q.left (rw e i))))

-- ---- the next variable to visit: the lowest one reached and not visited

module _ (deps : List ℕ) (s reached visited left v : ℕ) (h : reached < 2 ^ width) (n : visited ≡ reached → ⊥) (r : Reaching deps s reached visited) (l : left ≡ without reached visited) (e : v ≡ lowest_of left) where
  some_left : left ≡ 0 → ⊥
  some_left z = n (subset_antisym visited reached r.seen (without_subset reached visited (sym l ∙ z)))

  next_left : without reached visited ∋ v
  next_left = rw (← l) (lowest_found left v e some_left (rw l (without_lt width reached visited h))).0

  next_reached : reached ∋ v
  next_reached = without-left reached visited v next_left

  next_new : visited ∋ v → ⊥
  next_new = without_out reached visited v next_left

  next_small : v < width
  next_small = member_lt width reached v h next_reached

  pub next_within : length deps ≡ base.variables → v < length deps
  next_within k = rw k next_small

  module _ (its : ℕ) (o : its ≡ only v % 2 ^ width) where
    only_is : its ≡ only v
    only_is = only-within v its o next_small

    pub reaching_next : (its-set visited' reached' : ℕ) → its-set ≡ get_or deps v 0 → visited' ≡ union visited its → reached' ≡ union reached its-set → Reaching deps s reached' visited'
    reaching_next its-set visited' reached' d p q = rw (p, q, d, only_is) (reaching_visits deps s reached visited v next_reached r)

    -- One variable fewer is left to visit.
    pub reaching_less : (visited' : ℕ) → visited' ≡ union visited its → visited' < 2 ^ width → width - size visited' < width - size visited
    reaching_less visited' p k = omega (arith, ones-le width visited' k, ap size (p ∙ ap (union visited) only_is) ∙ size_new visited v next_new)
