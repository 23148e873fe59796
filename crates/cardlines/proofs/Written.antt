-- Laws of the expression just read: its variables, its operators, and its nodes in the scratch row.
use Rattle.std.proofs.Common.{◌≡◌, refl, sym, ap, ap₂, ◌∙◌, Bool, true, false, not, ◌&&◌, ◌||◌, List, [], ◌∷◌, ◌++◌, ℕ, ◌<◌, ◌≤◌, ltb, arith}
use Rattle.std.proofs.Math.Bool.{or-true, or-false, and-true}
use Rattle.std.proofs.lemmas.List.Folds.{list_all-append}
use mathlib.Core.Logic.{by_cases}
use native.Mathlib.Decide.{dec_lt}
use lib.Pow.{pow-lt}
use borrow.Author.Tests.{lt-ltb, le-ltb}
use Rattle.sets.specs.Sets.{◌∋◌, has, inside, only, union}
use Rattle.sets.proofs.Laws.{inside_true, inside_false, true_inside, false_inside, union-least, union_left, union_right, subset_trans, bit-only, only-least, bit_zero, has_true, has_false}
use Rattle.logic.specs.Expressions.{Op1, Not, Next, Future, Always, Op2, And, Or, Until, Weak, Expr, Const, Var, One, Two, written, code, const_node, node1, node2, Narrow}
use Rattle.cards.specs.Typed.{first_vars}
use Rattle.cards.proofs.TypedLaws.{member_first-vars, below_subset}
use Rattle.cardlines.specs.Held.{among?, within_all}

-- ---- variables among the first

first-vars_member : (n i : ℕ) → i < n → first_vars n ∋ i
first-vars_member n i h = below_subset n (only i) (pow-lt h) i (bit-only i)

pub has_first : (n i : ℕ) → i < n → has (first_vars n) i ≡ true
has_first n i h = has_true (first_vars n) i (first-vars_member n i h)

pub has_not_first : (n i : ℕ) → n ≤ i → has (first_vars n) i ≡ false
has_not_first n i h = has_false (first_vars n) i (λ m. omega (arith, h, member_first-vars n i m))

inside-union : (a b t : ℕ) → inside (union a b) t ≡ (inside a t && inside b t)
inside-union a b t = go (inside a t) (inside b t) refl refl
  where
    go : (x y : Bool) → inside a t ≡ x → inside b t ≡ y → inside (union a b) t ≡ (x && y)
    go true true p q = inside_true (union a b) t (union-least a b t (true_inside a t p) (true_inside b t q))
    go true false p q = inside_false (union a b) t (λ u. false_inside b t q (subset_trans b (union a b) t (union_right a b) u))
    go false true p q = inside_false (union a b) t (λ u. false_inside a t p (subset_trans a (union a b) t (union_left a b) u))
    go false false p q = inside_false (union a b) t (λ u. false_inside a t p (subset_trans a (union a b) t (union_left a b) u))

inside-only : (n v : ℕ) → inside (only v) (first_vars n) ≡ ltb v n
inside-only n v =
    by_cases
    (dec_lt v n)
    (λ h. inside_true (only v) (first_vars n) (only-least v (first_vars n) (first-vars_member n v h)) ∙ sym (lt-ltb v n h))
    (λ l. inside_false (only v) (first_vars n) (λ u. l (member_first-vars n v (u v (bit-only v)))) ∙ sym (le-ltb v n (omega arith)))

inside_nothing : (t : ℕ) → inside 0 t ≡ true
inside_nothing t = inside_true 0 t (λ i m. omega (arith, bit_zero i, m))

-- ---- variables among the nodes

module _ (n : ℕ) where
  operator_among : (c : ℕ) → 256 ≤ c → among? n c ≡ true
  operator_among c h = ap (λ (b : Bool). ltb c n || not b) (le-ltb c 256 h) ∙ or-true (ltb c n)

  variable_among : (v : ℕ) → v < 256 → among? n v ≡ ltb v n
  variable_among v h = ap (λ (b : Bool). ltb v n || not b) (lt-ltb v 256 h) ∙ or-false (ltb v n)

  operator_within : (c : ℕ) (cs : List ℕ) → 256 ≤ c → within_all n (c ∷ cs) ≡ within_all n cs
  operator_within c cs h = ap (λ (b : Bool). b && within_all n cs) (operator_among c h)

  const_high : (b : Bool) → 256 ≤ const_node b
  const_high true = omega arith
  const_high false = omega arith

  one_high : (o : Op1) → 256 ≤ node1 o
  one_high Not = omega arith
  one_high Next = omega arith
  one_high Future = omega arith
  one_high Always = omega arith

  two_high : (o : Op2) → 256 ≤ node2 o
  two_high And = omega arith
  two_high Or = omega arith
  two_high Until = omega arith
  two_high Weak = omega arith

  pub within-code : (e : Expr) → Narrow e → within_all n (code e) ≡ inside (written e) (first_vars n)
  unfolding code written
  within-code (Const b) w = operator_within (const_node b) [] (const_high b) ∙ sym (inside_nothing (first_vars n))
  within-code (Var v) w = and-true (among? n v) ∙ variable_among v w ∙ sym (inside-only n v)
  within-code (One o a) w = operator_within (node1 o) (code a) (one_high o) ∙ within-code a w
  within-code (Two o a b) w =
      operator_within (node2 o) (code a ++ code b) (two_high o)
      ∙ list_all-append (among? n) (code a) (code b)
      ∙ ap₂ (λ (x y : Bool). x && y) (within-code a w.0) (within-code b w.1)
      ∙ sym (inside-union (written a) (written b) (first_vars n))
