-- The arrays that hold a deck's equations: equation by equation, and with one equation more.
use mathlib.Core.Path.{◌≡◌, refl, sym, ap, ◌∙◌, subst}
use mathlib.Core.Bool.{false}
use mathlib.Core.List.{List, [], ◌∷◌, ◌++◌, append_assoc, append-nil}
use Prim.Native.Nat.{ℕ, zero, suc, ◌+◌, ◌-◌, ◌<◌, ◌≤◌}
use native.Mathlib.Omega.{arith}
use native.Mathlib.Nat.{zero-add}
use lib.ListN.{length, take, drop, get_or, set, replicate, length-append, get_or-map}
use lib.Seq.{drop-cons}
use Rattle.lists.specs.Lists.{Each, padded, splice}
use Rattle.lists.proofs.Laws.{each_get_or, take-padded, get_or-padded, padded_snoc, padded-append}
use Rattle.logic.specs.Expressions.{Const, nodes, code}
use Rattle.logic.specs.Decks.{Equation, Deck, base, total_nodes}
use Rattle.logic.proofs.Codes.{length-code}
use Rattle.decks.specs.declared.Equations.{Equations}
use Rattle.decks.specs.declared.Rows.{Rows}
use Rattle.decks.specs.declared.Deck.{Deck as Stored}
use Rattle.decks.specs.Stored.{lefts_of, ends_of, codes, stored}
use Rattle.decks.specs.Lent.{HoldsEquations, Hold, in_rows}

-- What stands for an equation behind the last one.
abbrev no_equation : Equation
no_equation = record { left = 0; right = Const false }

-- Equation i.
abbrev pub equation : List Equation → ℕ → Equation
equation qs i = get_or qs i no_equation

pub each_equation : (P : Equation → Type 0) (qs : List Equation) (i : ℕ) → Each P qs → i < length qs → P (equation qs i)
each_equation P qs i = each_get_or P qs i no_equation

pub length_lefts : (qs : List Equation) → length (lefts_of qs) ≡ length qs
length_lefts [] = refl
length_lefts (x ∷ xs) = ap suc (length_lefts xs)

pub length-codes : (qs : List Equation) → length (codes qs) ≡ total_nodes qs
unfolding codes total_nodes
length-codes [] = refl
length-codes (q ∷ qs) = omega (arith, length-append (code q.right) (codes qs), length-code q.right, length-codes qs)

pub length-ends : (n : ℕ) (qs : List Equation) → length (ends_of n qs) ≡ length qs
unfolding ends_of
length-ends n [] = refl
length-ends n (q ∷ qs) = ap suc (length-ends (n + nodes q.right) qs)

pub lefts_at : (qs : List Equation) (i : ℕ) → get_or (lefts_of qs) i 0 ≡ (equation qs i).left
lefts_at qs i = get_or-map (λ (q : Equation). q.left) qs i no_equation

-- The nodes of the equations before the next one.
pub nodes-before : (qs : List Equation) (i : ℕ) → i < length qs → total_nodes (take (suc i) qs) ≡ total_nodes (take i qs) + nodes (equation qs i).right
unfolding total_nodes
nodes-before [] i h = absurd (omega arith)
nodes-before (q ∷ qs) zero h = omega arith
nodes-before (q ∷ qs) (suc i) h = omega (arith, nodes-before qs i (omega arith))

pub ends_at : (n : ℕ) (qs : List Equation) (i : ℕ) → i < length qs → get_or (ends_of n qs) i 0 ≡ n + total_nodes (take (suc i) qs)
unfolding ends_of total_nodes
ends_at n [] i h = absurd (omega arith)
ends_at n (q ∷ qs) zero h = omega arith
ends_at n (q ∷ qs) (suc i) h = omega (arith, ends_at (n + nodes q.right) qs i (omega arith))

pub codes_at : (qs : List Equation) (i : ℕ) → i < length qs → codes qs ≡ codes (take i qs) ++ (code (equation qs i).right ++ codes (drop (suc i) qs))
unfolding codes
codes_at [] i h = absurd (omega arith)
codes_at (q ∷ qs) zero h = refl
codes_at (q ∷ qs) (suc i) h =
    ap (λ (l : List ℕ). code q.right ++ l) (codes_at qs i (omega arith))
    ∙ sym (append_assoc (code q.right) (codes (take i qs)) (code (equation qs i).right ++ codes (drop (suc i) qs)))

long : (n : ℕ) (l : List ℕ) → length l ≤ length (padded n l)
long n l = omega (arith, length-append l (replicate (n - length l) 0))

module _ (qs : List Equation) (lefts ends cs : List ℕ) (n i : ℕ) (held : HoldsEquations qs lefts ends cs n) (h : i < n) where
  pub within : i < length qs
  within = omega (arith, held.count_is)

  pub left-within : i < length lefts
  left-within = rw held.lefts_are (omega (arith, within, long base.equations (lefts_of qs), length_lefts qs))

  pub end_within : i < length ends
  end_within = rw held.ends_are (omega (arith, within, long base.equations (ends_of 0 qs), length-ends 0 qs))

  pub left_is : get_or lefts i 0 ≡ (equation qs i).left
  left_is = rw held.lefts_are (get_or-padded base.equations (lefts_of qs) i ∙ lefts_at qs i)

  pub end_is : get_or ends i 0 ≡ total_nodes (take (i + 1) qs)
  end_is =
      let e : suc i ≡ i + 1 = omega arith in
      rw held.ends_are (get_or-padded base.equations (ends_of 0 qs) i ∙ ends_at 0 qs i within ∙ zero-add _ ∙ ap (λ (k : ℕ). total_nodes (take k qs)) e)

  pub next_end : total_nodes (take (i + 1) qs) ≡ total_nodes (take i qs) + nodes (equation qs i).right
  next_end =
      let e : i + 1 ≡ suc i = omega arith in
      ap (λ (k : ℕ). total_nodes (take k qs)) e ∙ nodes-before qs i within

  pub next_equation : drop i qs ≡ equation qs i ∷ drop (i + 1) qs
  next_equation =
      let e : suc i ≡ i + 1 = omega arith in
      drop-cons qs i no_equation within ∙ ap (λ (k : ℕ). equation qs i ∷ drop k qs) e

-- ---- one equation more

module _ (q : Equation) where
  pub total_more : (qs : List Equation) → total_nodes (qs ++ (q ∷ [])) ≡ total_nodes qs + nodes q.right
  unfolding total_nodes
  total_more [] = omega arith
  total_more (x ∷ xs) = omega (arith, total_more xs)

  pub lefts_more : (qs : List Equation) → lefts_of (qs ++ (q ∷ [])) ≡ lefts_of qs ++ (q.left ∷ [])
  lefts_more [] = refl
  lefts_more (x ∷ xs) = ap (λ (l : List ℕ). x.left ∷ l) (lefts_more xs)

  pub ends_more : (n : ℕ) (qs : List Equation) → ends_of n (qs ++ (q ∷ [])) ≡ ends_of n qs ++ ((n + total_nodes qs + nodes q.right) ∷ [])
  unfolding ends_of total_nodes
  ends_more n [] = let e : n + nodes q.right ≡ n + 0 + nodes q.right = omega arith in ap (λ (k : ℕ). k ∷ []) e
  ends_more n (x ∷ xs) =
      let e : n + nodes x.right + total_nodes xs + nodes q.right ≡ n + (nodes x.right + total_nodes xs) + nodes q.right = omega arith in
      ap (λ (l : List ℕ). (n + nodes x.right) ∷ l) (ends_more (n + nodes x.right) xs ∙ ap (λ (k : ℕ). ends_of (n + nodes x.right) xs ++ (k ∷ [])) e)

  pub codes_more : (qs : List Equation) → codes (qs ++ (q ∷ [])) ≡ codes qs ++ code q.right
  unfolding codes
  codes_more [] = append-nil (code q.right)
  codes_more (x ∷ xs) = ap (λ (l : List ℕ). code x.right ++ l) (codes_more xs) ∙ sym (append_assoc (code x.right) (codes xs) (code q.right))

-- The arrays with one equation more.
pub equations_more : (qs : List Equation) (q : Equation) (lefts ends nodes' : List ℕ) (n : ℕ) → length qs < 256 → HoldsEquations qs lefts ends nodes' n
    → HoldsEquations (qs ++ (q ∷ [])) (set lefts (length qs) q.left) (set ends (length qs) (total_nodes qs + nodes q.right)) (splice (total_nodes qs) (code q.right) nodes') (length (qs ++ (q ∷ [])))
equations_more qs q lefts ends nodes' n k h =
    record {
      lefts_are =
          ap (λ (l : List ℕ). set l (length qs) q.left) h.lefts_are
          ∙ ap (λ (i : ℕ). set (padded 256 (lefts_of qs)) i q.left) (sym (length_lefts qs))
          ∙ padded_snoc 256 (lefts_of qs) q.left (omega (arith, k, length_lefts qs))
          ∙ ap (padded 256) (sym (lefts_more q qs));
      ends_are =
          ap (λ (l : List ℕ). set l (length qs) (total_nodes qs + nodes q.right)) h.ends_are
          ∙ ap (λ (i : ℕ). set (padded 256 (ends_of 0 qs)) i (total_nodes qs + nodes q.right)) (sym (length-ends 0 qs))
          ∙ padded_snoc 256 (ends_of 0 qs) (total_nodes qs + nodes q.right) (omega (arith, k, length-ends 0 qs))
          ∙ ap (padded 256) (ap (λ (i : ℕ). ends_of 0 qs ++ (i ∷ [])) from_zero ∙ sym (ends_more q 0 qs));
      nodes_are =
          ap (splice (total_nodes qs) (code q.right)) h.nodes_are
          ∙ ap (λ (i : ℕ). splice i (code q.right) (padded 2048 (codes qs))) (sym (length-codes qs))
          ∙ padded-append 2048 (codes qs) (code q.right)
          ∙ ap (padded 2048) (sym (codes_more q qs));
      count_is = refl;
    }
  where
    from_zero : total_nodes qs + nodes q.right ≡ 0 + total_nodes qs + nodes q.right
    from_zero = omega arith

-- What a deck that stands in memory holds.
module _ (D : Deck) (s : Stored) (h : s ≡ stored D) where
  pub stored_holds : Hold D.equations s.equations
  stored_holds = record {
    lefts_are = ap (λ (x : Stored). x.equations.lefts) h;
    ends_are = ap (λ (x : Stored). x.equations.ends) h;
    nodes_are = ap (λ (x : Stored). x.equations.nodes) h;
    count_is = ap (λ (x : Stored). x.equations.count) h;
  }

  -- Rows that are its equations hold them too.
  pub stored_rows : (rows : Rows) → in_rows rows ≡ s.equations → Hold D.equations (in_rows rows)
  stored_rows rows e = subst (λ (x : Equations). Hold D.equations x) (sym e) stored_holds

  pub stored_inits : take s.initials s.inits ≡ D.inits
  stored_inits = ap (λ (x : Stored). take x.initials x.inits) h ∙ take-padded base.initials D.inits

  pub stored_property : take s.size s.property ≡ code D.property
  stored_property =
      ap (λ (x : Stored). take x.size x.property) h
      ∙ ap (λ (k : ℕ). take k (padded base.property_nodes (code D.property))) (sym (length-code D.property))
      ∙ take-padded base.property_nodes (code D.property)
