-- The conjuncts of a property, and what a piece of an accepted deck is: an accepted deck over its conjunct's cone.
use mathlib.Core.Path.{◌≡◌, refl, sym, ap, ap₂, ◌∙◌, subst}
use mathlib.Core.Logic.{◌↔◌}
use mathlib.Core.Bool.{Bool, true, false}
use mathlib.Core.List.{List, [], ◌∷◌, map}
use Prim.Native.Nat.{ℕ, ◌≤◌}
use native.Mathlib.Omega.{arith}
use native.Mathlib.Nat.{le_refl}
use lib.Dec.{eqb}
use borrow.Author.Tests.{eqb-true}
use lib.ListN.{length, length-append, length-map}
use Rattle.lists.specs.Lists.{Each, Some, ◌among◌, keep, firsts}
use Rattle.lists.proofs.Laws.{each_at, each_all, each_map, some_find, find_some, each_append, append_each, each_of_map, among_of_map, map_among, firsts_distinct, length-firsts, among_firsts, firsts_among, among_keep, keep_among, each_keep, length-keep, keep-keep}
use Rattle.sets.specs.Sets.{◌∋◌, ◌⊆◌, has, meet}
use Rattle.sets.proofs.Laws.{subset_le, has_true, true_has, subset_refl, subset_trans, union_left, union_right, meet_right}
use Rattle.logic.specs.Expressions.{Expr, Const, Var, One, Two, And, Or, Until, Weak, nodes, levels, written}
use Rattle.logic.specs.Decks.{Equation, Deck, Limits, total_nodes, Rising, Allowed, Accepted}
use Rattle.logic.specs.Meaning.{Run, Holds}
use Rattle.logic.specs.Cones.{IsCone, cone}
use Rattle.logic.specs.Pieces.{split, cone_of, projected, equations_of, piece, pieces}
use Rattle.logic.proofs.Cone.{Carried, equations_for, cone_agree, cone_is, cone-closed, cone_in}

-- ---- the split

-- The property is true exactly where each of its conjuncts is.
pub split_and : (r : Run) (e : Expr) (k : ℕ) → Holds r e k ↔ Each (λ (a : Expr). Holds r a k) (split e)
unfolding split
split_and r (Const b) k = (λ h. (h, tt), λ h. h.0)
split_and r (Var v) k = (λ h. (h, tt), λ h. h.0)
split_and r (One o a) k = (λ h. (h, tt), λ h. h.0)
split_and r (Two And a b) k = (
  λ h. each_append (λ (a : Expr). Holds r a k) (split a) (split b) ((split_and r a k).0 h.0) ((split_and r b k).0 h.1),
  λ h. let p = append_each (λ (a : Expr). Holds r a k) (split a) (split b) h in ((split_and r a k).1 p.0, (split_and r b k).1 p.1),
)
split_and r (Two Or a b) k = (λ h. (h, tt), λ h. h.0)
split_and r (Two Until a b) k = (λ h. (h, tt), λ h. h.0)
split_and r (Two Weak a b) k = (λ h. (h, tt), λ h. h.0)

-- What holds of a property and, with each `(a&b)`, of a and of b, holds of its conjuncts.
pub split_each : (P : Expr → Type 0) → ((a b : Expr) → P (Two And a b) → P a × P b) → (e : Expr) → P e → Each P (split e)
unfolding split
split_each P f (Const b) p = (p, tt)
split_each P f (Var v) p = (p, tt)
split_each P f (One o a) p = (p, tt)
split_each P f (Two And a b) p = each_append P (split a) (split b) (split_each P f a (f a b p).0) (split_each P f b (f a b p).1)
split_each P f (Two Or a b) p = (p, tt)
split_each P f (Two Until a b) p = (p, tt)
split_each P f (Two Weak a b) p = (p, tt)

-- A conjunct is a part of the property: no other variables, no more nodes, no deeper.
pub record PartOf (e a : Expr) : Type 0 where
  pub writes : written a ⊆ written e
  pub fewer : nodes a ≤ nodes e
  pub shallower : levels a ≤ levels e

pub split_parts : (e : Expr) → Each (PartOf e) (split e)
unfolding written nodes levels
split_parts e = split_each (PartOf e) go e (record { writes = subset_refl (written e); fewer = le_refl (nodes e); shallower = le_refl (levels e) })
  where
    go : (a b : Expr) → PartOf e (Two And a b) → PartOf e a × PartOf e b
    go a b h = (
      record {
        writes = subset_trans (written a) (written (Two And a b)) (written e) (union_left (written a) (written b)) h.writes;
        fewer = omega (arith, h.fewer);
        shallower = omega (arith, h.shallower);
      },
      record {
        writes = subset_trans (written b) (written (Two And a b)) (written e) (union_right (written a) (written b)) h.writes;
        fewer = omega (arith, h.fewer);
        shallower = omega (arith, h.shallower);
      },
    )

-- A conjunct of a conjunct is itself.
pub split-split : (e : Expr) → Each (λ (a : Expr). split a ≡ a ∷ []) (split e)
unfolding split
split-split (Const b) = (refl, tt)
split-split (Var v) = (refl, tt)
split-split (One o a) = (refl, tt)
split-split (Two And a b) = each_append (λ (a : Expr). split a ≡ a ∷ []) (split a) (split b) (split-split a) (split-split b)
split-split (Two Or a b) = (refl, tt)
split-split (Two Until a b) = (refl, tt)
split-split (Two Weak a b) = (refl, tt)

-- Every property has a conjunct.
pub split-some : (e : Expr) → 1 ≤ length (split e)
unfolding split
split-some (Const b) = le_refl 1
split-some (Var v) = le_refl 1
split-some (One o a) = le_refl 1
split-some (Two And a b) = omega (arith, length-append (split a) (split b), split-some a)
split-some (Two Or a b) = le_refl 1
split-some (Two Until a b) = le_refl 1
split-some (Two Weak a b) = le_refl 1

-- ---- the pieces

-- One piece for each conjunct, with it as its property, in the order of the split.
pub pieces-split : (d : Deck) → map (λ (q : Deck). q.property) (pieces d) ≡ split d.property
unfolding pieces piece
pieces-split d = go (split d.property)
  where
    go : (es : List Expr) → map (λ (q : Deck). q.property) (map (piece d) es) ≡ es
    go [] = refl
    go (a ∷ es) = ap (λ (l : List Expr). a ∷ l) (go es)

-- Each piece's variables are the least set that holds its conjunct's variables and, with each variable, those written in any of its equations.
pub piece-least : (d : Deck) → Each (λ (q : Deck). IsCone d.equations (written q.property) q.vars) (pieces d)
unfolding pieces piece
piece-least d =
    each_of_map (piece d) (λ (q : Deck). IsCone d.equations (written q.property) q.vars) (split d.property)
    (each_all (λ (a : Expr). IsCone d.equations (written a) (cone_of d a)) (split d.property) (λ a m. cone_is d.equations (written a)))

-- The piece's equations are the deck's equations of the cone's variables.
pub equations_kept : (c : ℕ) (qs : List Equation) (q : Equation) → q among qs → c ∋ q.left → q among equations_of c qs
equations_kept c qs q m h = among_keep (λ (q : Equation). has c q.left) q qs (has_true c q.left h) m

pub kept_equations : (c : ℕ) (qs : List Equation) (q : Equation) → q among equations_of c qs → (q among qs) × (c ∋ q.left)
kept_equations c qs q m = let k = keep_among (λ (q : Equation). has c q.left) q qs m in (k.0, true_has c q.left k.1)

kept_nodes : (c : ℕ) (qs : List Equation) → total_nodes (equations_of c qs) ≤ total_nodes qs
unfolding total_nodes keep
kept_nodes c [] = le_refl 0
kept_nodes c (q ∷ qs) = go (has c q.left) (kept_nodes c qs)
  where
    go : (b : Bool) → total_nodes (equations_of c qs) ≤ total_nodes qs → total_nodes (elim b [ true ↦ q ∷ equations_of c qs | false ↦ equations_of c qs ]) ≤ total_nodes (q ∷ qs)
    go true h = omega arith
    go false h = omega arith

kept_rise : (c : ℕ) (qs : List Equation) → Rising qs → Rising (equations_of c qs)
unfolding keep
kept_rise c [] h = tt
kept_rise c (q ∷ qs) h = go (has c q.left) (kept_rise c qs h.1)
  where
    go : (b : Bool) → Rising (equations_of c qs) → Rising (elim b [ true ↦ q ∷ equations_of c qs | false ↦ equations_of c qs ])
    go true r = (each_keep (λ (o : Equation). has c o.left) (λ (o : Equation). q.left ≤ o.left) qs (each_map (λ (o : Equation). q.left ≤ o.left) (λ (o : Equation). has c o.left ≡ true → q.left ≤ o.left) qs (λ o l k. l) h.0), r)
    go false r = r

-- The piece's initial states are the deck's, seen on the cone.
pub among_projected : (c : ℕ) (ss : List ℕ) (s : ℕ) → s among ss → meet s c among projected c ss
among_projected c ss s m = among_firsts (meet s c) (map (λ (s : ℕ). meet s c) ss) (among_of_map (λ (s : ℕ). meet s c) ss s m)

pub projected_among : (c : ℕ) (ss : List ℕ) (t : ℕ) → t among projected c ss → (s : ℕ) × (s among ss) × (t ≡ meet s c)
projected_among c ss t m = map_among (λ (s : ℕ). meet s c) ss t (firsts_among t (map (λ (s : ℕ). meet s c) ss) m)

projected-some : (c : ℕ) (ss : List ℕ) → 1 ≤ length ss → 1 ≤ length (projected c ss)
unfolding firsts
projected-some c [] h = h
projected-some c (s ∷ ss) h = omega arith

projected-most : (c : ℕ) (ss : List ℕ) → length (projected c ss) ≤ length ss
projected-most c ss = omega (arith, length-firsts (map (λ (s : ℕ). meet s c) ss), length-map ss (λ (s : ℕ). meet s c))

projected_in : (c : ℕ) (ss : List ℕ) → Each (λ (s : ℕ). s ⊆ c) (projected c ss)
projected_in c ss =
    each_all (λ (s : ℕ). s ⊆ c) (projected c ss)
    (λ t m. let f = projected_among c ss t m in subst (λ (u : ℕ). u ⊆ c) (sym f.2) (meet_right f.0 c))

-- The piece of an expression that an accepted deck could have as its property is an accepted deck within the same limits.
pub piece-accepted : (L : Limits) (d : Deck) (e : Expr) → Accepted L d → written e ⊆ d.vars → nodes e ≤ L.property_nodes → levels e ≤ L.levels → Accepted L (piece d e)
unfolding piece
piece-accepted L d e a w n l =
    record {
      vars_in = omega (arith, subset_le (cone_of d e) d.vars inside, a.vars_in);
      inits-some = projected-some (cone_of d e) d.inits a.inits-some;
      inits-most = omega (arith, projected-most (cone_of d e) d.inits, a.inits-most);
      inits_distinct = firsts_distinct (map (λ (s : ℕ). meet s (cone_of d e)) d.inits);
      inits_in = projected_in (cone_of d e) d.inits;
      equations-most = omega (arith, length-keep (λ (q : Equation). has (cone_of d e) q.left) d.equations, a.equations-most);
      equations-nodes = omega (arith, kept_nodes (cone_of d e) d.equations, a.equations-nodes);
      equations_rise = kept_rise (cone_of d e) d.equations a.equations_rise;
      equations-allowed = each_all (Allowed L (cone_of d e)) (equations_of (cone_of d e) d.equations) allowed;
      equations-all = all;
      property_in = (cone_is d.equations (written e)).holds;
      property-nodes = n;
      property-levels = l;
    }
  where
    inside : cone_of d e ⊆ d.vars
    inside = cone_in L d (written e) a w

    allowed : (q : Equation) → q among equations_of (cone_of d e) d.equations → Allowed L (cone_of d e) q
    allowed q m =
        let k = kept_equations (cone_of d e) d.equations q m in
        let h = each_at (Allowed L d.vars) d.equations q a.equations-allowed k.0 in
        record { its = k.1; uses = each_at (Carried (cone_of d e)) d.equations q (cone-closed d.equations (written e)) k.0 k.1; plain = h.plain; shallow = h.shallow }

    all : (v : ℕ) → cone_of d e ∋ v → Some (λ (q : Equation). q.left ≡ v) (equations_of (cone_of d e) d.equations)
    all v i =
        let f = some_find (λ (q : Equation). q.left ≡ v) d.equations (a.equations-all v (inside v i)) in
        find_some (λ (q : Equation). q.left ≡ v) (equations_of (cone_of d e) d.equations) f.0
        (equations_kept (cone_of d e) d.equations f.0 f.1 (subst (λ (u : ℕ). cone_of d e ∋ u) (sym f.2) i)) f.2

-- Each piece of an accepted deck is an accepted deck within the same limits.
pub pieces-accepted : (L : Limits) (d : Deck) → Accepted L d → Each (Accepted L) (pieces d)
unfolding pieces
pieces-accepted L d a =
    each_of_map (piece d) (Accepted L) (split d.property)
    (each_map (PartOf d.property) (λ (e : Expr). Accepted L (piece d e)) (split d.property)
    (λ e h. piece-accepted L d e a (subset_trans (written e) (written d.property) d.vars h.writes a.property_in) (omega (arith, h.fewer, a.property-nodes)) (omega (arith, h.shallower, a.property-levels)))
    (split_parts d.property))

-- ---- agreeing decks, equal pieces

-- Equal equations of the cone's variables make equal cones.
pub cone-same : (qs qs' : List Equation) (s : ℕ) → equations_of (cone qs s) qs ≡ equations_of (cone qs s) qs' → cone qs' s ≡ cone qs s
cone-same qs qs' s e = cone_agree qs qs' s (λ v i. sym (one v i qs) ∙ ap (equations_for v) e ∙ one v i qs')
  where
    one : (v : ℕ) → cone qs s ∋ v → (os : List Equation) → equations_for v (equations_of (cone qs s) os) ≡ equations_for v os
    one v i os =
        keep-keep (λ (q : Equation). has (cone qs s) q.left) (λ (q : Equation). eqb q.left v) os
        (λ q h. has_true (cone qs s) q.left (subst (λ (u : ℕ). cone qs s ∋ u) (sym (eqb-true q.left v h)) i))

-- Decks that agree on the equations of a piece's cone and, in order, on the initial values of that cone have that piece in common.
pub piece-same : (d d' : Deck) (e : Expr) → equations_of (cone_of d e) d.equations ≡ equations_of (cone_of d e) d'.equations
    → map (λ (s : ℕ). meet s (cone_of d e)) d.inits ≡ map (λ (s : ℕ). meet s (cone_of d e)) d'.inits → piece d e ≡ piece d' e
unfolding piece
piece-same d d' e q i =
    ap₂ (λ (ss : List ℕ) (qs : List Equation). record { vars = cone_of d e; inits = firsts ss; equations = qs; property = e }) i q
    ∙ ap (λ (c : ℕ). record { vars = c; inits = projected c d'.inits; equations = equations_of c d'.equations; property = e }) (sym (cone-same d.equations d'.equations (written e) q))
