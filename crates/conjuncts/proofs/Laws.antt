-- Laws of the places of conjuncts.
use mathlib.Core.Path.{◌≡◌, refl, sym, ap, ◌∙◌, subst}
use mathlib.Core.Bool.{true, false}
use mathlib.Core.List.{List, [], ◌∷◌, ◌++◌, append_assoc}
use Prim.Native.Nat.{ℕ, zero, suc, ◌+◌, ◌-◌, ◌*◌, ◌<◌, ◌≤◌}
use native.Mathlib.Omega.{arith}
use native.Mathlib.Numerals.{add-one}
use lib.ListN.{length, take, drop, get_or, set, length-append, length-take, length-drop}
use lib.Seq.{take_at, drop_at, take_all, take-suc-set}
use Rattle.lists.specs.Lists.{part}
use Rattle.logic.specs.Expressions.{Expr, Const, Var, One, Two, Not, Next, Future, Always, And, Or, Until, Weak, nodes, Narrow}
use Rattle.logic.specs.Expressions as Expressions
use Rattle.logic.specs.Pieces.{split}
use Rattle.logic.proofs.Codes.{nodes-some, length-code}
use Rattle.terms.specs.Nodes.{spans, Stands}
use Rattle.terms.proofs.Laws.{spans_none}
use Rattle.terms.proofs.Trees.{spans-code, stands-within, stands-first, stands-second, part-code}
use Rattle.conjuncts.specs.declared.Span.{Span}
use Rattle.conjuncts.specs.Conjuncts.{whole, bounds, Coded, Bounded, no_span}

-- ---- how many conjuncts

pub length-bounds : (n : ℕ) (e : Expr) → length (bounds n e) ≡ length (split e)
unfolding bounds split
length-bounds n (Const b) = refl
length-bounds n (Var v) = refl
length-bounds n (One o a) = refl
length-bounds n (Two And a b) =
    omega (arith, length-append (bounds (n + 1) a) (bounds (n + 1 + nodes a) b), length-append (split a) (split b), length-bounds (n + 1) a, length-bounds (n + 1 + nodes a) b)
length-bounds n (Two Or a b) = refl
length-bounds n (Two Until a b) = refl
length-bounds n (Two Weak a b) = refl

-- Every conjunct but one has an `&` beside it.
pub split-most : (e : Expr) → 2 * length (split e) ≤ nodes e + 1
unfolding split nodes
split-most (Const b) = omega arith
split-most (Var v) = omega arith
split-most (One o a) = omega (arith, nodes-some a)
split-most (Two And a b) = omega (arith, length-append (split a) (split b), split-most a, split-most b)
split-most (Two Or a b) = omega arith
split-most (Two Until a b) = omega arith
split-most (Two Weak a b) = omega arith

-- ---- the code of a property

-- A property whose code does not begin with `&` stands whole; one whose code does is an `&` of two.
module _ (offset : ℕ) where
  stands-whole : (e : Expr) → (get_or (Expressions.code e) 0 0 ≡ 259 → ⊥) → bounds offset e ≡ whole offset e
  unfolding bounds Expressions.code
  stands-whole (Const b) n = refl
  stands-whole (Var v) n = refl
  stands-whole (One o a) n = refl
  stands-whole (Two And a b) n = absurd (n refl)
  stands-whole (Two Or a b) n = refl
  stands-whole (Two Until a b) n = refl
  stands-whole (Two Weak a b) n = refl

-- The operands of an `&`.
record Joined (e : Expr) : Type 0 where
  pub a : Expr
  pub b : Expr
  pub joins : e ≡ Two And a b

is_joined : (e : Expr) → Narrow e → get_or (Expressions.code e) 0 0 ≡ 259 → Joined e
unfolding Expressions.code
is_joined (Const false) n h = absurd (omega (arith, h))
is_joined (Const true) n h = absurd (omega (arith, h))
is_joined (Var v) n h = absurd (omega (arith, h, n))
is_joined (One Not a) n h = absurd (omega (arith, h))
is_joined (One Next a) n h = absurd (omega (arith, h))
is_joined (One Future a) n h = absurd (omega (arith, h))
is_joined (One Always a) n h = absurd (omega (arith, h))
is_joined (Two And a b) n h = record { a = a; b = b; joins = refl }
is_joined (Two Or a b) n h = absurd (omega (arith, h))
is_joined (Two Until a b) n h = absurd (omega (arith, h))
is_joined (Two Weak a b) n h = absurd (omega (arith, h))

module _ (code : List ℕ) (offset : ℕ) (held : List Span) (most : ℕ) where
  pub code-some : (e : Expr) → Coded e code offset held most → 0 < length code
  code-some e c = omega (arith, ap length c.is_code, length-code e, nodes-some e)

  bounds-some : (n : ℕ) (e : Expr) → 1 ≤ length (bounds n e)
  unfolding bounds
  bounds-some n (Const b) = omega arith
  bounds-some n (Var v) = omega arith
  bounds-some n (One o a) = omega arith
  bounds-some n (Two And a b) = omega (arith, length-append (bounds (n + 1) a) (bounds (n + 1 + nodes a) b), bounds-some (n + 1) a)
  bounds-some n (Two Or a b) = omega arith
  bounds-some n (Two Until a b) = omega arith
  bounds-some n (Two Weak a b) = omega arith

  one_more : (e : Expr) → Coded e code offset held most → length held < most
  one_more e c = omega (arith, c.room, bounds-some offset e)

  module _ (e : Expr) (c : Coded e code offset held most) where
    head_node_lem : (x : ℕ) → get_or code 0 0 ≡ x → get_or (Expressions.code e) 0 0 ≡ x
    head_node_lem x h = sym (ap (λ (l : List ℕ). get_or l 0 0) c.is_code) ∙ h

    -- A property that stands whole is one span more.
    whole_held : (get_or code 0 0 ≡ 259 → ⊥) → held ++ record { from = offset; to = offset + length code } ∷ [] ≡ held ++ bounds offset e
    whole_held n =
        let size : nodes e ≡ length code = sym (ap length c.is_code ∙ length-code e) in
        ap
        (λ (l : List Span). held ++ l)
        (sym (stands-whole offset e (λ h. n (ap (λ (l : List ℕ). get_or l 0 0) c.is_code ∙ h)) ∙ ap (λ (k : ℕ). record { from = offset; to = offset + k } ∷ []) size))

  -- The two operands of an `&`, each in its part of the code.
  module _ (h : get_or code 0 0 ≡ 259) (m : ℕ) (q : m ≡ 0 + 1 + spans 1 (drop (0 + 1) code)) where
    record Halves (e : Expr) : Type 0 where
      pub a : Expr
      pub b : Expr
      pub joins : e ≡ Two And a b
      pub narrow_a : Narrow a
      pub narrow_b : Narrow b
      pub middle : m ≡ 1 + nodes a
      pub ends : length code ≡ 1 + (nodes a + nodes b)
      pub left : take (m - 1) (drop 1 code) ≡ Expressions.code a
      pub right : take (length code - m) (drop m code) ≡ Expressions.code b

    halves : (e : Expr) → Coded e code offset held most → Halves e
    unfolding Expressions.code
    halves e c = go (is_joined e c.narrow (head_node_lem e c 259 h))
      where
        go : Joined e → Halves e
        go j =
            let n : Narrow (Two And j.a j.b) = subst Narrow j.joins c.narrow in
            let whole_code : code ≡ 259 ∷ (Expressions.code j.a ++ Expressions.code j.b) = c.is_code ∙ ap Expressions.code j.joins in
            let behind : drop 1 code ≡ Expressions.code j.a ++ Expressions.code j.b = ap (drop 1) whole_code in
            let middle : m ≡ 1 + nodes j.a =
            omega (arith, q, ap (spans 1) behind, spans-code j.a 0 (Expressions.code j.b) n.0, spans_none (Expressions.code j.b)) in
            let ends : length code ≡ 1 + (nodes j.a + nodes j.b) =
            omega (arith, ap length whole_code, length-append (Expressions.code j.a) (Expressions.code j.b), length-code j.a, length-code j.b) in
            let size : length (Expressions.code j.a) ≡ m - 1 = omega (arith, middle, length-code j.a) in
            let seam : m ≡ suc (length (Expressions.code j.a)) = omega (arith, middle, length-code j.a) in
            let rest : drop m code ≡ Expressions.code j.b =
            ap (drop m) whole_code
            ∙ ap (λ (k : ℕ). drop k (259 ∷ (Expressions.code j.a ++ Expressions.code j.b))) seam
            ∙ drop_at (Expressions.code j.a) (Expressions.code j.b) (length (Expressions.code j.a)) refl in
            record {
              a = j.a;
              b = j.b;
              joins = j.joins;
              narrow_a = n.0;
              narrow_b = n.1;
              middle = middle;
              ends = ends;
              left = ap (take (m - 1)) behind ∙ take_at (Expressions.code j.a) (Expressions.code j.b) (m - 1) size;
              right = take_all (length code - m) (drop m code) (omega (arith, length-drop m code)) ∙ rest;
            }

    both_bounds : (e : Expr) (c : Coded e code offset held most) → bounds offset e ≡ bounds (offset + 1) (halves e c).a ++ bounds (offset + m) (halves e c).b
    unfolding bounds
    both_bounds e c =
        let s : Halves e = halves e c in
        let at : offset + 1 + nodes s.a ≡ offset + m = omega (arith, s.middle) in
        ap (bounds offset) s.joins ∙ ap (λ (k : ℕ). bounds (offset + 1) s.a ++ bounds k s.b) at

    pub second-within : (e : Expr) → Coded e code offset held most → m ≤ length code
    second-within e c = let s : Halves e = halves e c in omega (arith, s.middle, s.ends)

    pub first_falls : (t : ℕ) (e : Expr) → Coded e code offset held most → length code ≡ t → length (take (m - 1) (drop 1 code)) < t
    first_falls t e c z = omega (arith, length-take (m - 1) (drop 1 code), length-drop 1 code, code-some e c)

    pub second_falls : (t : ℕ) (e : Expr) → Coded e code offset held most → length code ≡ t → length (take (length code - m) (drop m code)) < t
    second_falls t e c z = omega (arith, length-take (length code - m) (drop m code), length-drop m code, code-some e c, q)

    first_coded : (e : Expr) (c : Coded e code offset held most) → Coded (halves e c).a (take (m - 1) (drop 1 code)) (offset + 1) held most
    first_coded e c =
        let s : Halves e = halves e c in
        record {
          narrow = s.narrow_a;
          is_code = s.left;
          fits = omega (arith, c.fits, ap length s.left, length-code s.a, s.ends, nodes-some s.b);
          room = omega (arith, c.room, ap length (both_bounds e c), length-append (bounds (offset + 1) s.a) (bounds (offset + m) s.b));
        }

    pub first_some : (e : Expr) → Coded e code offset held most → (a : Expr) × Coded a (take (m - 1) (drop 1 code)) (offset + 1) held most
    first_some e c = ((halves e c).a, first_coded e c)

    -- After the split of the first operand, which leaves the room as it was.
    module _ (more : List Span) (room : ℕ) (same : room ≡ most) (f : (a : Expr) → Coded a (take (m - 1) (drop 1 code)) (offset + 1) held most → more ≡ held ++ bounds (offset + 1) a) where
      second_coded : (e : Expr) (c : Coded e code offset held most) → Coded (halves e c).b (take (length code - m) (drop m code)) (offset + m) more room
      second_coded e c =
          let s : Halves e = halves e c in
          let done : more ≡ held ++ bounds (offset + 1) s.a = f s.a (first_coded e c) in
          let all = length-append (bounds (offset + 1) s.a) (bounds (offset + m) s.b) in
          record {
            narrow = s.narrow_b;
            is_code = s.right;
            fits = omega (arith, c.fits, ap length s.right, length-code s.b, s.ends, s.middle);
            room = omega (arith, c.room, same, ap length (both_bounds e c), all, ap length done, length-append held (bounds (offset + 1) s.a));
          }

      pub second-some : (e : Expr) → Coded e code offset held most → (b : Expr) × Coded b (take (length code - m) (drop m code)) (offset + m) more room
      second-some e c = ((halves e c).b, second_coded e c)

      pub both_split : (last : List Span)
          → ((b : Expr) → Coded b (take (length code - m) (drop m code)) (offset + m) more room → last ≡ more ++ bounds (offset + m) b)
          → (e : Expr) → Coded e code offset held most → last ≡ held ++ bounds offset e
      both_split last g e c =
          let s : Halves e = halves e c in
          g s.b (second_coded e c)
          ∙ ap (λ (l : List Span). l ++ bounds (offset + m) s.b) (f s.a (first_coded e c))
          ∙ append_assoc held (bounds (offset + 1) s.a) (bounds (offset + m) s.b)
          ∙ ap (λ (l : List Span). held ++ l) (sym (both_bounds e c))

-- ---- in a row

module _ (code : List ℕ) (offset : ℕ) (row : List Span) (count : ℕ) (few : count ≤ length row) (e : Expr) (c : Coded e code offset (take count row) (length row)) where
  pub place-there : count < length row
  place-there = omega (arith, few, length-take count row, one_more code offset (take count row) (length row) e c)

  pub whole_taken : (get_or code 0 0 ≡ 259 → ⊥) → take (count + 1) (set row count (record { from = offset; to = offset + length code })) ≡ take count row ++ bounds offset e
  whole_taken n =
      let s : Span = record { from = offset; to = offset + length code } in
      ap (λ (k : ℕ). take k (set row count s)) (add-one count)
      ∙ take-suc-set row count s place-there
      ∙ whole_held code offset (take count row) (length row) e c n

-- ---- what the spans bound

bounded_append : (l : List ℕ) (ss ts : List Span) (es fs : List Expr) → length ss ≡ length es → Bounded l ss es → Bounded l ts fs → Bounded l (ss ++ ts) (es ++ fs)
bounded_append l [] ts (e ∷ es) fs n b c = elim b [ ]
bounded_append l [] ts [] fs n b c = c
bounded_append l (s ∷ ss) ts [] fs n b c = absurd (omega arith)
bounded_append l (s ∷ ss) ts (e ∷ es) fs n b c = (b.0, bounded_append l ss ts es fs (omega (arith, n)) b.1 c)

stands_bounded : (l : List ℕ) (n : ℕ) (e : Expr) → Stands l n e → (n ≤ n + nodes e) × (n + nodes e ≤ length l) × (part n (n + nodes e) l ≡ Expressions.code e)
stands_bounded l n e s = (omega arith, stands-within l n e s, part-code l n e s)

-- In nodes where the property's code stands the spans bound the codes of its conjuncts.
pub bounds_bounded : (l : List ℕ) (n : ℕ) (e : Expr) → Stands l n e → Bounded l (bounds n e) (split e)
unfolding bounds split
bounds_bounded l n (Const b) s = (stands_bounded l n (Const b) s, tt)
bounds_bounded l n (Var v) s = (stands_bounded l n (Var v) s, tt)
bounds_bounded l n (One o a) s = (stands_bounded l n (One o a) s, tt)
bounds_bounded l n (Two And a b) s =
    bounded_append l (bounds (n + 1) a) (bounds (n + 1 + nodes a) b) (split a) (split b) (length-bounds (n + 1) a)
    (bounds_bounded l (n + 1) a (stands-first l n And a b s))
    (bounds_bounded l (n + 1 + nodes a) b (stands-second l n And a b s))
bounds_bounded l n (Two Or a b) s = (stands_bounded l n (Two Or a b) s, tt)
bounds_bounded l n (Two Until a b) s = (stands_bounded l n (Two Until a b) s, tt)
bounds_bounded l n (Two Weak a b) s = (stands_bounded l n (Two Weak a b) s, tt)

-- The code of conjunct i, and its span.
pub record BoundsAt (l : List ℕ) (ss : List Span) (e : Expr) (i : ℕ) : Type 0 where
  pub in_order : (get_or ss i no_span).from ≤ (get_or ss i no_span).to
  pub within : (get_or ss i no_span).to ≤ length l
  pub bounded : part (get_or ss i no_span).from (get_or ss i no_span).to l ≡ Expressions.code e
  pub there : i < length ss

pub bounded_at : (l : List ℕ) (ss : List Span) (es : List Expr) (i : ℕ) → Bounded l ss es → i < length es → BoundsAt l ss (get_or es i (Const false)) i
bounded_at l [] (e ∷ es) i b h = elim b [ ]
bounded_at l ss [] i b h = absurd (omega arith)
bounded_at l (s ∷ ss) (e ∷ es) zero b h = record { in_order = b.0.0; within = b.0.1; bounded = b.0.2; there = omega arith }
bounded_at l (s ∷ ss) (e ∷ es) (suc i) b h =
    let rest = bounded_at l ss es i b.1 (omega arith) in record { in_order = rest.in_order; within = rest.within; bounded = rest.bounded; there = omega (arith, rest.there) }
