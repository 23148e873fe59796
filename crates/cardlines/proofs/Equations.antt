-- Laws of equations and of the property.
use Rattle.std.proofs.Common.{◌≡◌, refl, sym, ap, ap₂, ◌∙◌, subst, Bool, true, false, not, List, [], ◌∷◌, ◌++◌, ℕ, ◌+◌, ◌-◌, ◌<◌, ◌≤◌, length, take, drop, Result, Ok, Err, arith}
use mathlib.Core.Option.{none, some}
use lib.Seq.{take-append_seam, take_all}
use borrow.Author.Tests.{lt-ltb, le-ltb}
use Rattle.lists.specs.Lists.{padded, part}
use Rattle.lists.specs.Texts.{bytes}
use Rattle.sets.specs.Sets.{has, inside}
use Rattle.logic.specs.Expressions.{Expr, nodes, written, temporal, code, Narrow}
use Rattle.logic.specs.Decks.{Equation, total_nodes}
use Rattle.logic.proofs.Codes.{below_more, length-code}
use Rattle.terms.specs.Nodes.{some_temporal}
use Rattle.terms.proofs.Trees.{temporal-code}
use Rattle.decks.specs.declared.Refusal.{Refusal}
use Rattle.decks.specs.declared.Refusal.TheVariants.{NotDue, Outside, Temporal, ManyEquations, ManyNodes}
use Rattle.decks.specs.declared.Equations.{Equations}
use Rattle.decks.specs.Answers.{Outcome, Refused, afterwards}
use Rattle.decks.specs.Lent.{Hold}
use Rattle.cards.specs.Typed.{Typed, first_vars}
use Rattle.cards.specs.Read.{behind, Sofar, whole_expr, with_equation, equation_statement, prop_statement}
use Rattle.cards.proofs.WordLaws.{whole_expr_got}
use Rattle.grammar.specs.declared.Digits.{Digits}
use Rattle.grammar.specs.Ahead.{ahead}
use Rattle.grammar.specs.Readers.{Numbers, Words}
use Rattle.phrases.specs.declared.Stop.{Stop}
use Rattle.phrases.specs.Phrases.{refusal_of, Filled, Unfilled}
use Rattle.sorting.specs.Sorting.{used, added}
use Rattle.sorting.proofs.Laws.{used_is, added_holds}
use Rattle.cardlines.specs.Held.{within_all, EquationCame, PropCame}
use Rattle.cardlines.proofs.Written.{has_first, has_not_first, within-code}

-- ---- 9, 10, 13 and 14 of an equation

module _ (n count left : ℕ) (cs : List ℕ) (e : Equations) (t : Typed) (x : Expr) (C : count ≡ t.count) (H : Hold t.equations e) (N : Narrow x) (S : cs ≡ code x) where
  abbrev its : Equation
  its = record { left = left; right = x }

  within_as : inside (written x) (first_vars t.count) ≡ within_all count cs
  within_as = sym (ap₂ within_all C S ∙ within-code t.count x N)

  temporal_as : temporal x ≡ some_temporal (part 0 (length cs) cs)
  temporal_as = sym (ap some_temporal (take_all (length cs - 0) cs (omega arith) ∙ S) ∙ temporal-code x N)

  nodes_as : length cs ≡ nodes x
  nodes_as = ap (λ (l : List ℕ). length l) S ∙ length-code x

  pub with_outside : (w : ℕ) → w ≡ left → count ≤ w → with_equation n t its ≡ Refused (Outside 1 n)
  unfolding with_equation
  with_outside w q l = simp (ap not (has_not_first t.count left (omega (arith, l, q, C))), with_equation)

  module _ (w : ℕ) (q : w ≡ left) (l : w < count) where
    yes : not (has (first_vars t.count) left) ≡ false
    yes = ap not (has_first t.count left (omega (arith, l, q, C)))

    pub with_vars : (b : Bool) → b ≡ within_all count cs → not b ≡ true → with_equation n t its ≡ Refused (Outside 1 n)
    unfolding with_equation
    with_vars b B p = simp (yes, ap not (within_as ∙ sym B) ∙ p, with_equation)

    module _ (b : Bool) (B : b ≡ within_all count cs) (p : not b ≡ false) where
      inner : not (inside (written x) (first_vars t.count)) ≡ false
      inner = ap not (within_as ∙ sym B) ∙ p

      pub with_temporal : (d : Bool) → d ≡ some_temporal (part 0 (length cs) cs) → d ≡ true → with_equation n t its ≡ Refused (Temporal n)
      unfolding with_equation
      with_temporal d D z = simp (yes, inner, temporal_as ∙ sym D ∙ z, with_equation)

      module _ (d : Bool) (D : d ≡ some_temporal (part 0 (length cs) cs)) (z : d ≡ false) where
        plain : temporal x ≡ false
        plain = temporal_as ∙ sym D ∙ z

        pub with_many : 256 ≤ e.count → with_equation n t its ≡ Refused (ManyEquations n)
        unfolding with_equation
        with_many m = simp (yes, inner, plain, lt-ltb 256 (length t.equations + 1) (omega (arith, m, H.count_is)), with_equation)

        module _ (m : e.count < 256) (u : ℕ) (U : u ≡ used e) where
          few : length t.equations + 1 ≤ 256
          few = omega (arith, m, H.count_is)

          end : u + length cs ≡ total_nodes t.equations + nodes x
          end = omega (arith, U, used_is t.equations e H, nodes_as)

          pub with_nodes : 2048 < u + length cs → with_equation n t its ≡ Refused (ManyNodes n)
          unfolding with_equation
          with_nodes k = simp (yes, inner, plain, le-ltb 256 (length t.equations + 1) few, lt-ltb 2048 (total_nodes t.equations + nodes x) (omega (arith, k, end)), with_equation)

          pub with_fine : (out : Equations) → u + length cs ≤ 2048 → out ≡ added left cs e → EquationCame (with_equation n t its) t (Ok tt) out
          unfolding with_equation
          with_fine out k q = (
            its,
            simp (yes, inner, plain, le-ltb 256 (length t.equations + 1) few, le-ltb 2048 (total_nodes t.equations + nodes x) (omega (arith, k, end)), with_equation),
            subst (λ (y : Equations). Hold (t.equations ++ (its ∷ [])) y) (sym (q ∙ ap (λ (l : List ℕ). added left l e) S)) (added_holds t.equations its e (omega (arith, few)) H),
          )

-- ---- the expression read

module _ (chars : List ℕ) (at n : ℕ) (out after : List ℕ) (k : ℕ) (F : Filled chars at out k after) where
  stored : take k after ≡ code F.its
  stored =
      ap₂ (λ (j : ℕ) (l : List ℕ). take j l) (F.many ∙ sym (length-code F.its)) F.stored
      ∙ take-append_seam (code F.its) (drop (0 + length (code F.its)) out)

  narrow : Narrow F.its
  narrow = below_more 100 256 F.its (omega arith) (whole_expr_got n (ahead chars at) F.its (F.told n)).2

-- ---- `Vi=` and an expression

sign_as : bytes "=" ≡ 61 ∷ []
unfolding bytes
sign_as = refl

module _ (chars : List ℕ) (at n : ℕ) (t : Typed) where
  pub equation_number : (p : ℕ) → Numbers chars at (Err p) → equation_statement n (ahead chars at) t ≡ Refused (NotDue n)
  unfolding equation_statement
  equation_number p N = simp (N.1, equation_statement)

  module _ (d : Digits) (N : Numbers chars at (Ok d)) where
    pub equation_sign : (p : ℕ) → Words chars d.next (61 ∷ []) (Err p) → equation_statement n (ahead chars at) t ≡ Refused (NotDue n)
    unfolding equation_statement
    equation_sign p W =
        let b : behind (bytes "=") (ahead chars d.next) ≡ none = ap (λ (l : List ℕ). behind l (ahead chars d.next)) sign_as ∙ W.1 in
        simp (N.2, b, equation_statement)

    module _ (from : ℕ) (W : Words chars d.next (61 ∷ []) (Ok from)) where
      equation_read : equation_statement n (ahead chars at) t ≡ afterwards (whole_expr n (ahead chars from)) (λ x. with_equation n t (record { left = d.value; right = x }))
      unfolding equation_statement
      equation_read =
          let b : behind (bytes "=") (ahead chars d.next) ≡ some (ahead chars from) = ap (λ (l : List ℕ). behind l (ahead chars d.next)) sign_as ∙ W.1 in
          simp (N.2, b, equation_statement)

      module _ (out after : List ℕ) where
        pub equation_stopped : (s : Stop) → Unfilled chars from out s after → equation_statement n (ahead chars at) t ≡ Refused (refusal_of n s)
        equation_stopped s F = equation_read ∙ ap (λ (y : Outcome Expr). afterwards y (λ x. with_equation n t (record { left = d.value; right = x }))) (F.told n)

        pub equation_with : (k : ℕ) → Filled chars from out k after → (r : Result (Unit {0}) Refusal) (e : Equations)
            → ((x : Expr) → Narrow x → take k after ≡ code x → EquationCame (with_equation n t (record { left = d.value; right = x })) t r e)
            → EquationCame (equation_statement n (ahead chars at) t) t r e
        equation_with k F r e c =
            subst
            (λ (o : Outcome Sofar). EquationCame o t r e)
            (sym (equation_read ∙ ap (λ (y : Outcome Expr). afterwards y (λ x. with_equation n t (record { left = d.value; right = x }))) (F.told n)))
            (c F.its (narrow chars from n out after k F) (stored chars from n out after k F))

-- ---- `PROP`

module _ (chars : List ℕ) (at n count : ℕ) (t : Typed) (C : count ≡ t.count) (out after : List ℕ) where
  pub prop_stopped : (s : Stop) → Unfilled chars at out s after → prop_statement n (ahead chars at) t ≡ Refused (refusal_of n s)
  unfolding prop_statement
  prop_stopped s F = simp (F.told n, prop_statement)

  module _ (k : ℕ) (F : Filled chars at out k after) (b : Bool) (B : b ≡ within_all count (take k after)) where
    among : inside (written F.its) (first_vars t.count) ≡ b
    among = sym (B ∙ ap₂ within_all C (stored chars at n out after k F) ∙ within-code t.count F.its (narrow chars at n out after k F))

    pub prop_outside : not b ≡ true → prop_statement n (ahead chars at) t ≡ Refused (Outside 1 n)
    unfolding prop_statement
    prop_outside p = simp (F.told n, ap not among ∙ p, prop_statement)

    module _ (p : not b ≡ false) where
      pub prop_many : 128 < k → prop_statement n (ahead chars at) t ≡ Refused (ManyNodes n)
      unfolding prop_statement
      prop_many m = simp (F.told n, ap not among ∙ p, lt-ltb 128 (nodes F.its) (omega (arith, m, F.many)), prop_statement)

      pub prop_fine : (row : List ℕ) → k ≤ 128 → row ≡ padded 128 (take k after) → PropCame (prop_statement n (ahead chars at) t) t (Ok k) row
      unfolding prop_statement
      prop_fine row m q = (
        F.its,
        simp (F.told n, ap not among ∙ p, le-ltb 128 (nodes F.its) (omega (arith, m, F.many)), prop_statement),
        F.many,
        q ∙ ap (padded 128) (stored chars at n out after k F),
      )
