-- The end and the levels of an expression, from those of its operands.
use mathlib.Core.Path.{◌≡◌, refl, ap, ◌∙◌}
use mathlib.Core.List.{List}
use Prim.Native.Nat.{ℕ, ◌+◌, ◌<◌, ◌≤◌, max}
use native.Mathlib.Omega.{arith}
use lib.ListN.{length, get_or}
use Rattle.logic.specs.Expressions.{Expr, Const, Var, One, Two, nodes, levels}
use Rattle.logic.proofs.Codes.{nodes-some}
use Rattle.terms.specs.declared.Reach.{Reach}
use Rattle.terms.specs.Nodes.{places_of, operands, Stands}
use Rattle.terms.specs.Reaches.{Reaches}
use Rattle.terms.proofs.Laws.{places_few}
use Rattle.terms.proofs.Trees.{places_const, places_var, places_one, places_two, stands_node, stands-within, stands_operand, stands-first, stands-second}

module _ (cs : List ℕ) (i : ℕ) where
  pub stands_places : (e : Expr) → Stands cs i e → places_of (get_or cs i 0) ≡ operands e
  stands_places (Const b) s = ap places_of (stands_node cs i (Const b) s) ∙ places_const b
  stands_places (Var v) s = ap places_of (stands_node cs i (Var v) s) ∙ places_var v s.0
  stands_places (One o a) s = ap places_of (stands_node cs i (One o a) s) ∙ places_one o
  stands_places (Two o a b) s = ap places_of (stands_node cs i (Two o a b) s) ∙ places_two o

  pub reach_off : length cs ≤ i → Reaches cs i (record { end = i; levels = 0 })
  reach_off h =
      record {
        from = omega arith;
        within = omega arith;
        shallow = omega arith;
        ends = λ e s. absurd (omega (arith, nodes-some e, stands-within cs i e s));
        deep = λ e s. absurd (omega (arith, nodes-some e, stands-within cs i e s));
      }

  leaf_size : (e : Expr) → Stands cs i e → places_of (get_or cs i 0) ≡ 0 → (nodes e ≡ 1) × (levels e ≡ 1)
  unfolding nodes levels
  leaf_size (Const b) s z = (refl, refl)
  leaf_size (Var v) s z = (refl, refl)
  leaf_size (One o a) s z = absurd (omega (arith, stands_places (One o a) s))
  leaf_size (Two o a b) s z = absurd (omega (arith, stands_places (Two o a b) s))

  one_size : (x y : ℕ) (e : Expr)
      → Stands cs i e
      → places_of (get_or cs i 0) ≡ 1
      → ((a : Expr) → Stands cs (i + 1) a → (x ≡ i + 1 + nodes a) × (y ≡ levels a))
      → (x ≡ i + nodes e) × (y + 1 ≡ levels e)
  unfolding nodes levels
  one_size x y (Const b) s z f = absurd (omega (arith, stands_places (Const b) s))
  one_size x y (Var v) s z f = absurd (omega (arith, stands_places (Var v) s))
  one_size x y (One o a) s z f = omega (arith, f a (stands_operand cs i o a s))
  one_size x y (Two o a b) s z f = absurd (omega (arith, stands_places (Two o a b) s))

  two_size : (x y u v : ℕ) (e : Expr)
      → Stands cs i e
      → places_of (get_or cs i 0) ≡ 2
      → ((a : Expr) → Stands cs (i + 1) a → (x ≡ i + 1 + nodes a) × (y ≡ levels a))
      → ((b : Expr) → Stands cs x b → (u ≡ x + nodes b) × (v ≡ levels b))
      → (u ≡ i + nodes e) × (max y v + 1 ≡ levels e)
  unfolding nodes levels
  two_size x y u v (Const b) s z f g = absurd (omega (arith, stands_places (Const b) s))
  two_size x y u v (Var w) s z f g = absurd (omega (arith, stands_places (Var w) s))
  two_size x y u v (One o a) s z f g = absurd (omega (arith, stands_places (One o a) s))
  two_size x y u v (Two o a b) s z f g =
      let h : (x ≡ i + 1 + nodes a) × (y ≡ levels a) = f a (stands-first cs i o a b s) in
      let k : (u ≡ x + nodes b) × (v ≡ levels b) = g b (rw h.0 (stands-second cs i o a b s)) in
      omega (arith, h, k)

  module _ (p : ℕ) (a : Reach) where
    pub reach_leaf : i < length cs → p ≡ places_of (get_or cs i 0) → p ≡ 0 → Reaches cs i (record { end = i + 1; levels = 1 })
    reach_leaf l q z =
        record {
          from = omega arith;
          within = omega arith;
          shallow = omega arith;
          ends = λ e s. omega (arith, leaf_size e s (omega arith));
          deep = λ e s. omega (arith, leaf_size e s (omega arith));
        }

    pub reach_one : i < length cs → p ≡ places_of (get_or cs i 0) → p ≡ 1 → Reaches cs (i + 1) a → Reaches cs i (record { end = a.end; levels = a.levels + 1 })
    reach_one l q z r =
        record {
          from = omega (arith, r.from);
          within = omega (arith, r.within);
          shallow = omega (arith, r.shallow);
          ends = λ e s. (one_size a.end a.levels e s (omega arith) (λ b t. (r.ends b t, r.deep b t))).0;
          deep = λ e s. (one_size a.end a.levels e s (omega arith) (λ b t. (r.ends b t, r.deep b t))).1;
        }

    pub reach_two : (b : Reach) (m : ℕ)
        → i < length cs
        → p ≡ places_of (get_or cs i 0)
        → (p ≡ 0 → ⊥)
        → (p ≡ 1 → ⊥)
        → Reaches cs (i + 1) a
        → Reaches cs a.end b
        → m ≡ max a.levels b.levels
        → Reaches cs i (record { end = b.end; levels = m + 1 })
    reach_two b m l q y z r t k =
        record {
          from = omega (arith, r.from, t.from);
          within = omega (arith, r.within, t.within);
          shallow = omega (arith, r.shallow, t.shallow, r.from, t.from);
          ends = λ e s. (size e s).0;
          deep = λ e s. omega (arith, (size e s).1);
        }
      where
        size : (e : Expr) → Stands cs i e → (b.end ≡ i + nodes e) × (max a.levels b.levels + 1 ≡ levels e)
        size e s =
            two_size
            a.end
            a.levels
            b.end
            b.levels
            e
            s
            (omega (arith, places_few (get_or cs i 0) p q))
            (λ f u. (r.ends f u, r.deep f u))
            (λ f u. (t.ends f u, t.deep f u))
