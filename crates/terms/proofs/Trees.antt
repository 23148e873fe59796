-- What the passes over nodes give where the nodes are the code of an expression.
use mathlib.Core.Path.{◌≡◌, refl, sym, ap, ap₂, ◌∙◌}
use mathlib.Core.Bool.{Bool, true, false, ◌||◌}
use mathlib.Core.List.{List, [], ◌∷◌, ◌++◌, append_assoc}
use Prim.Native.Nat.{ℕ, suc, ◌+◌, ◌-◌, ◌<◌, ◌≤◌}
use native.Mathlib.Omega.{arith}
use borrow.Author.Tests.{lt-ltb, lt-leb}
use lib.ListN.{length, take, drop, get_or, length-append, length-drop}
use lib.Seq.{take_at, drop_at, drop-drop, get_or-drop}
use lib.Bits.{or_zero_l, or_zero_r}
use Rattle.sets.specs.Sets.{union}
use Rattle.logic.specs.Expressions.{Expr, Const, Var, One, Two, Op1, Op2, Not, Next, Future, Always, And, Or, Until, Weak, nodes, written, temporal, const_node, node1, node2, code, Below, Narrow}
use Rattle.logic.proofs.Codes.{code_unique, length-code, nodes-some}
use Rattle.terms.specs.Nodes.{places_of, temporal?, spans, variable_of, variables_of, some_temporal, Stands}
use Rattle.lists.specs.Lists.{part}
use Rattle.terms.proofs.Laws.{variable_low, variable_high}
use Rattle.sets.proofs.Laws.{union_assoc}

-- ---- how many operands a node has

pub places_const : (b : Bool) → places_of (const_node b) ≡ 0
unfolding places_of
places_const false = refl
places_const true = refl

pub places_var : (v : ℕ) → v < 256 → places_of v ≡ 0
unfolding places_of
places_var v h = let l : v < 258 = omega arith in simp (lt-ltb v 258 l, places_of)

pub places_one : (o : Op1) → places_of (node1 o) ≡ 1
unfolding places_of
places_one Not = refl
places_one Next = refl
places_one Future = refl
places_one Always = refl

pub places_two : (o : Op2) → places_of (node2 o) ≡ 2
unfolding places_of
places_two And = refl
places_two Or = refl
places_two Until = refl
places_two Weak = refl

-- ---- the end of an expression

pub spans-code : (e : Expr) (n : ℕ) (rest : List ℕ) → Narrow e → spans (suc n) (code e ++ rest) ≡ nodes e + spans n rest
unfolding spans code nodes
spans-code (Const b) n rest h = let z : n + places_of (const_node b) ≡ n = omega (arith, places_const b) in rw z (omega arith)
spans-code (Var v) n rest h = let z : n + places_of v ≡ n = omega (arith, places_var v h) in rw z (omega arith)
spans-code (One o e) n rest h = let z : n + places_of (node1 o) ≡ suc n = omega (arith, places_one o) in rw z (omega (arith, spans-code e n rest h))
spans-code (Two o a b) n rest h =
    let z : n + places_of (node2 o) ≡ suc (suc n) = omega (arith, places_two o) in
    rw (z, append_assoc (code a) (code b) rest) (omega (arith, spans-code a (suc n) (code b ++ rest) h.0, spans-code b n rest h.1))

-- ---- expressions that stand in the nodes

-- The first node of the expression's code.
abbrev pub head_node : Expr → ℕ
head_node (Const b) = const_node b
head_node (Var v) = v
head_node (One o e) = node1 o
head_node (Two o a b) = node2 o

-- The first node of the list, 0 if there is none.
code-head : (e : Expr) (rest : List ℕ) → get_or (code e ++ rest) 0 0 ≡ head_node e
unfolding code
code-head (Const b) rest = refl
code-head (Var v) rest = refl
code-head (One o e) rest = refl
code-head (Two o a b) rest = refl

pub stands_at : (before rest : List ℕ) (e : Expr) → Narrow e → Stands (before ++ (code e ++ rest)) (length before) e
stands_at before rest e n = (n, (rest, drop_at before (code e ++ rest) (length before) refl))

module _ (cs : List ℕ) (i : ℕ) where
  behind : (a rest : List ℕ) (n : ℕ) → length a ≡ n → drop i cs ≡ a ++ rest → drop (i + n) cs ≡ rest
  behind a rest n l e = sym (drop-drop n i cs) ∙ ap (drop n) e ∙ drop_at a rest n l

  -- No two expressions stand at one place.
  pub stands_unique : (e f : Expr) → Stands cs i e → Stands cs i f → e ≡ f
  stands_unique e f s t = (code_unique e f s.1.0 t.1.0 s.0 t.0 (sym s.1.1 ∙ t.1.1)).0

  pub stands_node : (e : Expr) → Stands cs i e → get_or cs i 0 ≡ head_node e
  stands_node e s =
      let z : i ≡ i + 0 = omega arith in
      ap (λ (n : ℕ). get_or cs n 0) z ∙ sym (get_or-drop i cs 0 0) ∙ ap (λ (l : List ℕ). get_or l 0 0) s.1.1 ∙ code-head e s.1.0

  pub stands-within : (e : Expr) → Stands cs i e → i + nodes e ≤ length cs
  stands-within e s =
      let z : length cs - i ≡ length (code e) + length s.1.0 = sym (length-drop i cs) ∙ ap length s.1.1 ∙ length-append (code e) s.1.0 in
      omega (arith, length-code e, nodes-some e)

  pub stands_operand : (o : Op1) (a : Expr) → Stands cs i (One o a) → Stands cs (i + 1) a
  unfolding code
  stands_operand o a s = (s.0, (s.1.0, behind (node1 o ∷ []) (code a ++ s.1.0) 1 refl s.1.1))

  both_operands : (o : Op2) (a b : Expr) (rest : List ℕ) → drop i cs ≡ code (Two o a b) ++ rest → drop (i + 1) cs ≡ code a ++ (code b ++ rest)
  unfolding code
  both_operands o a b rest e = behind (node2 o ∷ []) ((code a ++ code b) ++ rest) 1 refl e ∙ append_assoc (code a) (code b) rest

  pub stands-first : (o : Op2) (a b : Expr) → Stands cs i (Two o a b) → Stands cs (i + 1) a
  stands-first o a b s = (s.0.0, (code b ++ s.1.0, both_operands o a b s.1.0 s.1.1))

  pub part-code : (e : Expr) → Stands cs i e → part i (i + nodes e) cs ≡ code e
  part-code e s =
      let z : i + nodes e - i ≡ nodes e = omega arith in
      ap₂ (λ (n : ℕ) (l : List ℕ). take n l) z s.1.1 ∙ take_at (code e) s.1.0 (nodes e) (length-code e)

pub stands-second : (cs : List ℕ) (i : ℕ) (o : Op2) (a b : Expr) → Stands cs i (Two o a b) → Stands cs (i + 1 + nodes a) b
stands-second cs i o a b s =
    (s.0.1, (s.1.0, behind cs (i + 1) (code a) (code b ++ s.1.0) (nodes a) (length-code a) (both_operands cs i o a b s.1.0 s.1.1)))

-- ---- variables written

pub variables-append : (s t : List ℕ) → variables_of (s ++ t) ≡ union (variables_of s) (variables_of t)
unfolding variables_of
variables-append [] t = sym (or_zero_l (variables_of t))
variables-append (c ∷ cs) t = ap (union (variable_of c)) (variables-append cs t) ∙ union_assoc (variable_of c) (variables_of cs) (variables_of t)

variable_const : (b : Bool) → variable_of (const_node b) ≡ 0
variable_const false = sym (variable_high 256 (omega arith))
variable_const true = sym (variable_high 257 (omega arith))

node_high_1 : (o : Op1) → 64 ≤ node1 o
node_high_1 Not = omega arith
node_high_1 Next = omega arith
node_high_1 Future = omega arith
node_high_1 Always = omega arith

node_high_2 : (o : Op2) → 64 ≤ node2 o
node_high_2 And = omega arith
node_high_2 Or = omega arith
node_high_2 Until = omega arith
node_high_2 Weak = omega arith

pub variables-code : (e : Expr) → Below 64 e → variables_of (code e) ≡ written e
unfolding variables_of code written
variables-code (Const b) h = or_zero_r (variable_of (const_node b)) ∙ variable_const b
variables-code (Var v) h = or_zero_r (variable_of v) ∙ variable_low v h
variables-code (One o e) h = ap₂ union (sym (variable_high (node1 o) (node_high_1 o))) (variables-code e h) ∙ or_zero_l (written e)
variables-code (Two o a b) h =
    ap₂ union (sym (variable_high (node2 o) (node_high_2 o))) (variables-append (code a) (code b) ∙ ap₂ union (variables-code a h.0) (variables-code b h.1))
    ∙ or_zero_l (union (written a) (written b))

pub stands-written : (cs : List ℕ) (i : ℕ) (e : Expr) → Below 64 e → Stands cs i e → variables_of (part i (i + nodes e) cs) ≡ written e
stands-written cs i e h s = ap variables_of (part-code cs i e s) ∙ variables-code e h

-- ---- the operators X F G U W

-- general:
or_assoc : (p q r : Bool) → p || (q || r) ≡ (p || q) || r
or_assoc true q r = refl
or_assoc false q r = refl

or_else : (p q : Bool) → p || q ≡ elim p [ true ↦ true | false ↦ q ]
or_else true q = refl
or_else false q = refl

temporal-append : (s t : List ℕ) → some_temporal (s ++ t) ≡ some_temporal s || some_temporal t
unfolding some_temporal
temporal-append [] t = refl
temporal-append (c ∷ cs) t = ap (λ (b : Bool). temporal? c || b) (temporal-append cs t) ∙ or_assoc (temporal? c) (some_temporal cs) (some_temporal t)

pub temporal-code : (e : Expr) → Narrow e → some_temporal (code e) ≡ temporal e
unfolding some_temporal code temporal
temporal-code (Const false) h = refl
temporal-code (Const true) h = refl
temporal-code (Var v) h = ap (λ (b : Bool). b || false) (lt-leb _ v (omega arith))
temporal-code (One Not e) h = temporal-code e h
temporal-code (One Next e) h = refl
temporal-code (One Future e) h = refl
temporal-code (One Always e) h = refl
temporal-code (Two And a b) h = temporal-append (code a) (code b) ∙ rw (temporal-code a h.0, temporal-code b h.1) (or_else (temporal a) (temporal b))
temporal-code (Two Or a b) h = temporal-append (code a) (code b) ∙ rw (temporal-code a h.0, temporal-code b h.1) (or_else (temporal a) (temporal b))
temporal-code (Two Until a b) h = refl
temporal-code (Two Weak a b) h = refl

pub stands-temporal : (cs : List ℕ) (i : ℕ) (e : Expr) → Stands cs i e → some_temporal (part i (i + nodes e) cs) ≡ temporal e
stands-temporal cs i e s = ap some_temporal (part-code cs i e s) ∙ temporal-code e s.0
