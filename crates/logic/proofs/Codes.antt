-- Prefix codes: an expression's nodes in prefix order can be read back in one way only.
use mathlib.Core.Path.{◌≡◌, refl, sym, ap, ◌∙◌}
use mathlib.Core.Bool.{Bool, true, false}
use mathlib.Core.List.{List, [], ◌∷◌, ◌++◌, append_assoc, append-nil, head-eq_of_cons-eq, tail-eq_of_cons-eq}
use Prim.Native.Nat.{ℕ, ◌-◌, ◌^◌, ◌<◌, ◌≤◌}
use native.Mathlib.Omega.{arith}
use borrow.Author.Tests.{lt-ltb}
use lib.Dec.{ltb}
use lib.ListN.{length, get_or, length-append}
use Rattle.lists.specs.Lists.{Each}
use Rattle.lists.proofs.Laws.{each_append}
use Rattle.sets.specs.Sets.{◌⊆◌}
use Rattle.sets.proofs.Laws.{bit-only, union_left, union_right, subset_trans, member_lt}
use Rattle.logic.specs.Expressions.{Expr, Const, Var, One, Two, Op1, Op2, Not, Next, Future, Always, And, Or, Until, Weak, nodes, levels, written, Below, Narrow, const_node, node1, node2, code}

-- ---- variables below a bound

pub below_more : (w u : ℕ) (e : Expr) → w ≤ u → Below w e → Below u e
below_more w u (Const b) h n = tt
below_more w u (Var v) h n = omega arith
below_more w u (One o e) h n = below_more w u e h n
below_more w u (Two o a b) h n = (below_more w u a h n.0, below_more w u b h n.1)

pub written_below : (w s : ℕ) (e : Expr) → s < 2 ^ w → written e ⊆ s → Below w e
unfolding written
written_below w s (Const b) h f = tt
written_below w s (Var v) h f = member_lt w s v h (f v (bit-only v))
written_below w s (One o e) h f = written_below w s e h f
written_below w s (Two o a b) h f = (
  written_below w s a h (subset_trans _ _ _ (union_left (written a) (written b)) f),
  written_below w s b h (subset_trans _ _ _ (union_right (written a) (written b)) f),
)

pub written-narrow : (w s : ℕ) (e : Expr) → w ≤ 256 → s < 2 ^ w → written e ⊆ s → Narrow e
written-narrow w s e l h f = below_more w 256 e l (written_below w s e h f)

-- ---- what a node is

-- A node is a whole expression, or an operator of one or two places.
data Head : Type 0 where
  Leaf : Expr → Head
  Place1 : Op1 → Head
  Place2 : Op2 → Head

-- The nodes from 256 on.
abbrev heads : List Head
heads =
    Leaf (Const false) ∷ Leaf (Const true) ∷ Place1 Not ∷ Place2 And ∷ Place2 Or ∷ Place1 Next ∷ Place1 Future ∷ Place1 Always ∷ Place2 Until ∷ Place2 Weak ∷ []

-- What the node of this number is.
unfoldable head_of : ℕ → Head
head_of n = elim (ltb n 256) [ true ↦ Leaf (Var n) | false ↦ get_or heads (n - 256) (Leaf (Const false)) ]

head_const : (b : Bool) → head_of (const_node b) ≡ Leaf (Const b)
unfolding head_of
head_const false = refl
head_const true = refl

head_var : (v : ℕ) → v < 256 → head_of v ≡ Leaf (Var v)
unfolding head_of
head_var v h = simp (lt-ltb v 256 h, head_of)

head_one : (o : Op1) → head_of (node1 o) ≡ Place1 o
unfolding head_of
head_one Not = refl
head_one Next = refl
head_one Future = refl
head_one Always = refl

head_two : (o : Op2) → head_of (node2 o) ≡ Place2 o
unfolding head_of
head_two And = refl
head_two Or = refl
head_two Until = refl
head_two Weak = refl

-- ---- the same code, the same expression

-- Equal heads of two lists are the same head.
same_head : {c d : ℕ} {l m : List ℕ} {h k : Head} → head_of c ≡ h → head_of d ≡ k → c ∷ l ≡ d ∷ m → h ≡ k
same_head p q e = sym p ∙ ap head_of (head-eq_of_cons-eq e) ∙ q

-- A number for each kind of node.
abbrev kind : Head → ℕ
kind (Leaf e) = 0
kind (Place1 o) = 1
kind (Place2 o) = 2

apart : {A : Type 0} {h k : Head} → h ≡ k → (kind h ≡ kind k → ⊥) → A
apart e f = absurd (f (ap kind e))

leaf_eq : {a b : Expr} → Leaf a ≡ Leaf b → a ≡ b
leaf_eq e = cc

-- A prefix code followed by anything is read back in one way only.
pub code_unique : (a b : Expr) (x y : List ℕ) → Narrow a → Narrow b → code a ++ x ≡ code b ++ y → (a ≡ b) × (x ≡ y)
unfolding code
code_unique (Const b) (Const c) x y n m e = (leaf_eq (same_head (head_const b) (head_const c) e), tail-eq_of_cons-eq e)
code_unique (Const b) (Var w) x y n m e = (leaf_eq (same_head (head_const b) (head_var w m) e), tail-eq_of_cons-eq e)
code_unique (Const b) (One p c) x y n m e = apart (same_head (head_const b) (head_one p) e) (λ z. omega arith)
code_unique (Const b) (Two p c d) x y n m e = apart (same_head (head_const b) (head_two p) e) (λ z. omega arith)
code_unique (Var v) (Const c) x y n m e = (leaf_eq (same_head (head_var v n) (head_const c) e), tail-eq_of_cons-eq e)
code_unique (Var v) (Var w) x y n m e = (leaf_eq (same_head (head_var v n) (head_var w m) e), tail-eq_of_cons-eq e)
code_unique (Var v) (One p c) x y n m e = apart (same_head (head_var v n) (head_one p) e) (λ z. omega arith)
code_unique (Var v) (Two p c d) x y n m e = apart (same_head (head_var v n) (head_two p) e) (λ z. omega arith)
code_unique (One o a) (Const c) x y n m e = apart (same_head (head_one o) (head_const c) e) (λ z. omega arith)
code_unique (One o a) (Var w) x y n m e = apart (same_head (head_one o) (head_var w m) e) (λ z. omega arith)
code_unique (One o a) (One p c) x y n m e = go (same_head (head_one o) (head_one p) e) (code_unique a c x y n m (tail-eq_of_cons-eq e))
  where
    go : Place1 o ≡ Place1 p → (a ≡ c) × (x ≡ y) → (One o a ≡ One p c) × (x ≡ y)
    go h r = let q : a ≡ c = r.0 in (cc, r.1)
code_unique (One o a) (Two p c d) x y n m e = apart (same_head (head_one o) (head_two p) e) (λ z. omega arith)
code_unique (Two o a b) (Const c) x y n m e = apart (same_head (head_two o) (head_const c) e) (λ z. omega arith)
code_unique (Two o a b) (Var w) x y n m e = apart (same_head (head_two o) (head_var w m) e) (λ z. omega arith)
code_unique (Two o a b) (One p c) x y n m e = apart (same_head (head_two o) (head_one p) e) (λ z. omega arith)
code_unique (Two o a b) (Two p c d) x y n m e =
    go
    (same_head (head_two o) (head_two p) e)
    (code_unique a c (code b ++ x) (code d ++ y) n.0 m.0 (sym (append_assoc (code a) (code b) x) ∙ tail-eq_of_cons-eq e ∙ append_assoc (code c) (code d) y))
    (code_unique b d x y n.1 m.1)
  where
    go : Place2 o ≡ Place2 p
        → (a ≡ c) × (code b ++ x ≡ code d ++ y)
        → (code b ++ x ≡ code d ++ y → (b ≡ d) × (x ≡ y))
        → (Two o a b ≡ Two p c d) × (x ≡ y)
    go h r f = let q : a ≡ c = r.0 in let s : b ≡ d = (f r.1).0 in (cc, (f r.1).1)

pub code_injective : (a b : Expr) → Narrow a → Narrow b → code a ≡ code b → a ≡ b
code_injective a b n m e = (code_unique a b [] [] n m (append-nil (code a) ∙ e ∙ sym (append-nil (code b)))).0

-- ---- sizes

pub nodes-some : (e : Expr) → 1 ≤ nodes e
unfolding nodes
nodes-some (Const b) = omega arith
nodes-some (Var v) = omega arith
nodes-some (One o e) = omega arith
nodes-some (Two o a b) = omega arith

pub length-code : (e : Expr) → length (code e) ≡ nodes e
unfolding code nodes
length-code (Const b) = refl
length-code (Var v) = refl
length-code (One o e) = omega (arith, length-code e)
length-code (Two o a b) = omega (arith, length-append (code a) (code b), length-code a, length-code b)

pub levels-some : (e : Expr) → 1 ≤ levels e
unfolding levels
levels-some (Const b) = omega arith
levels-some (Var v) = omega arith
levels-some (One o e) = omega arith
levels-some (Two o a b) = omega arith

pub levels-nodes : (e : Expr) → levels e ≤ nodes e
unfolding levels nodes
levels-nodes (Const b) = omega arith
levels-nodes (Var v) = omega arith
levels-nodes (One o e) = omega (arith, levels-nodes e)
levels-nodes (Two o a b) = omega (arith, levels-nodes a, levels-nodes b)

-- ---- each node is a number below 266

const_fits : (b : Bool) → const_node b < 266
const_fits false = omega arith
const_fits true = omega arith

one_fits : (o : Op1) → node1 o < 266
one_fits Not = omega arith
one_fits Next = omega arith
one_fits Future = omega arith
one_fits Always = omega arith

two_fits : (o : Op2) → node2 o < 266
two_fits And = omega arith
two_fits Or = omega arith
two_fits Until = omega arith
two_fits Weak = omega arith

pub code_fits : (e : Expr) → Narrow e → Each (λ (c : ℕ). c < 266) (code e)
unfolding code
code_fits (Const b) n = (const_fits b, tt)
code_fits (Var v) n = (omega arith, tt)
code_fits (One o e) n = (one_fits o, code_fits e n)
code_fits (Two o a b) n = (two_fits o, each_append (λ (c : ℕ). c < 266) (code a) (code b) (code_fits a n.0) (code_fits b n.1))
