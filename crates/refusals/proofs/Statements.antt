-- The walk over the statements refuses exactly where a fault of 8 to 14 is the first.
use mathlib.Core.Path.{◌≡◌, refl, sym, ap, ◌∙◌, subst}
use mathlib.Core.Logic.{inl, inr, ⊎_elim, by_cases, ◌↔◌}
use mathlib.Core.Bool.{Bool, true, false, not}
use mathlib.Core.List.{List, [], ◌∷◌}
use Prim.Native.Nat.{ℕ, suc, ◌+◌, ◌^◌, ◌<◌}
use native.Mathlib.Omega.{arith}
use native.Mathlib.Decide.{dec_lt}
use borrow.Author.Tests.{ltb-true, ltb-false, not-false, not-true}
use lib.Dec.{ltb}
use lib.ListN.{length}
use lib.Pow.{pow-lt}
use Rattle.sets.specs.Sets.{◌∋◌, has, inside}
use Rattle.sets.proofs.Laws.{bit-only, true_has, has_true, true_inside, false_inside}
use Rattle.logic.specs.Expressions.{nodes, written, temporal}
use Rattle.logic.specs.Decks.{Equation, base, total_nodes}
use Rattle.decks.specs.declared.Refusal.TheVariants.{NotDue, Outside, Temporal, TooDeep, ManyInitials, ManyEquations, ManyNodes}
use Rattle.decks.specs.Answers.{Outcome, Got, Refused, refuse, afterwards}
use Rattle.decks.specs.Readings.{walk}
use Rattle.cards.specs.Statement.{Statement, inked}
use Rattle.cards.specs.Typed.{Typed, first_vars}
use Rattle.cards.specs.Read.{Sofar, begun, with_equation, statement_read}
use Rattle.decks.proofs.Outcomes.{refused_got, got_eq}
use Rattle.cards.proofs.TypedLaws.{member_first-vars, below_subset}
use Rattle.logic.proofs.Rights.{plain-temporal, temporal-plain}
use Rattle.refusals.specs.Order.{Conditions, Done, Try, one_by_one, backwards}
use Rattle.refusals.specs.StatementFaults.{Item, Count, Initial, Equals, Property, Ending, Says, DeepIn, NoForm, UsesOutside, NotPlain, InitialOver, EquationOver, NodesOver, item_faults, added, Typing, Behind, Saying, statement_faults}
use Rattle.refusals.proofs.OrderLaws.{true_false, Meets, meets_is, meets_here, meets_past, meets_test, meets_got, meets_keeps, alike_meets, meets_walk}
use Rattle.refusals.proofs.Items.{item_read, judged, due_judges, spelt_item, deep_item, Comes, item_comes}

-- ---- the judgement of one item

pub member_below : (n i : ℕ) → i < n → first_vars n ∋ i
member_below n i h = below_subset n (2 ^ i) (pow-lt h) i (bit-only i)

module _ (n : ℕ) (t : Typed) (q : Equation) where
  -- 9 of an equation: its left side, then its right.
  uses_meets : (c : Conditions) (Q : Sofar → Type 0) (r : Outcome Sofar)
      → Meets c Q r
      → Meets (Try (UsesOutside t (Equals q)) (Outside 1 n) c) Q (refuse (not (has (first_vars t.count) q.left)) (Outside 1 n) (refuse (not (inside (written q.right) (first_vars t.count))) (Outside 1 n) r))
  uses_meets c Q r m = left (has (first_vars t.count) q.left) refl
    where
      right : (b : Bool) → inside (written q.right) (first_vars t.count) ≡ b → q.left < t.count → Meets (Try (UsesOutside t (Equals q)) (Outside 1 n) c) Q (refuse (not b) (Outside 1 n) r)
      right true e l = meets_past _ _ _ _ _ (⊎_elim (λ h. omega arith) (λ f. f (true_inside (written q.right) (first_vars t.count) e))) m
      right false e l = meets_here _ _ _ _ (inr (false_inside (written q.right) (first_vars t.count) e))

      left : (b : Bool) → has (first_vars t.count) q.left ≡ b → Meets (Try (UsesOutside t (Equals q)) (Outside 1 n) c) Q (refuse (not b) (Outside 1 n) (refuse (not (inside (written q.right) (first_vars t.count))) (Outside 1 n) r))
      left true e = right (inside (written q.right) (first_vars t.count)) refl (member_first-vars t.count q.left (true_has (first_vars t.count) q.left e))
      left false e = meets_here _ _ _ _ (inl (by_cases (dec_lt q.left t.count) (λ h. true_false (sym (has_true (first_vars t.count) q.left (member_below t.count q.left h)) ∙ e)) (λ h. omega arith)))

  equation_judged : Meets (item_faults n t (Equals q)) (λ to. to ≡ added t (Equals q)) (with_equation n t q)
  unfolding with_equation
  equation_judged =
      uses_meets _ _ _
      (meets_test _ _ _ _ (temporal q.right) _ (λ e p. true_false (sym e ∙ plain-temporal q.right p)) (λ e f. f (temporal-plain q.right e)) (λ e.
      meets_past _ _ _ _ _ (λ h. h)
      (meets_test _ _ _ _ (ltb base.equations (length t.equations + 1)) _ (ltb-true base.equations (length t.equations + 1)) (λ e h. omega (arith, ltb-false base.equations (length t.equations + 1) e)) (λ e.
      meets_test _ _ _ _ (ltb base.equation_nodes (total_nodes t.equations + nodes q.right)) _
      (ltb-true base.equation_nodes (total_nodes t.equations + nodes q.right))
      (λ e h. omega (arith, ltb-false base.equation_nodes (total_nodes t.equations + nodes q.right) e))
      (λ e. meets_got _ _ refl)))))

-- What is said is judged by its faults in their order.
item_judged : (n : ℕ) (t : Typed) (i : Item) → Meets (item_faults n t i) (λ to. to ≡ added t i) (judged n t i)
item_judged n t (Count v) =
    meets_past _ _ _ _ _ (λ h. h) (meets_past _ _ _ _ _ (λ h. h) (meets_past _ _ _ _ _ (λ h. h) (meets_past _ _ _ _ _ (λ h. h) (meets_past _ _ _ _ _ (λ h. h) (meets_got _ _ refl)))))
item_judged n t (Initial s) =
    meets_past _ _ _ _ _ (λ h. h)
    (meets_past _ _ _ _ _ (λ h. h)
    (meets_test _ _ _ _ (ltb base.initials (length t.inits + 1)) _ (ltb-true base.initials (length t.inits + 1)) (λ e h. omega (arith, ltb-false base.initials (length t.inits + 1) e)) (λ e.
    meets_past _ _ _ _ _ (λ h. h) (meets_past _ _ _ _ _ (λ h. h) (meets_got _ _ refl)))))
item_judged n t (Equals q) = equation_judged n t q
item_judged n t (Property x) =
    meets_test _ _ _ _ (not (inside (written x) (first_vars t.count))) _
    (λ e. false_inside (written x) (first_vars t.count) (not-true (inside (written x) (first_vars t.count)) e))
    (λ e f. f (true_inside (written x) (first_vars t.count) (not-false (inside (written x) (first_vars t.count)) e)))
    (λ e.
    meets_past _ _ _ _ _ (λ h. h)
    (meets_past _ _ _ _ _ (λ h. h)
    (meets_past _ _ _ _ _ (λ h. h)
    (meets_test _ _ _ _ (ltb base.property_nodes (nodes x)) _ (ltb-true base.property_nodes (nodes x)) (λ e h. omega (arith, ltb-false base.property_nodes (nodes x) e)) (λ e. meets_got _ _ refl)))))
item_judged n t Ending =
    meets_past _ _ _ _ _ (λ h. h) (meets_past _ _ _ _ _ (λ h. h) (meets_past _ _ _ _ _ (λ h. h) (meets_past _ _ _ _ _ (λ h. h) (meets_past _ _ _ _ _ (λ h. h) (meets_got _ _ refl)))))

-- ---- what was typed, and what is said, are one

says_unique : (so : Sofar) (cs : List ℕ) (i j : Item) → Says so cs i → Says so cs j → i ≡ j
says_unique so cs i j (p, s) (q, r) = got_eq (sym (spelt_item so.due so.typed.count 0 cs i p s) ∙ spelt_item so.due so.typed.count 0 cs j q r)

pub typing_unique : (back : List Statement) (so to : Sofar) → Typing back so → Typing back to → so ≡ to
typing_unique [] so to e f = e ∙ sym f
typing_unique (s ∷ back) so to (was, i, t, y, n, e) (then, j, u, z, m, f) =
    let same : was ≡ then = typing_unique back was then t u in
    let item : i ≡ j = says_unique then (inked s.field) i j (subst (λ (w : Sofar). Says w (inked s.field) i) same y) z in
    e ∙ ap (λ (w : Sofar). added w.typed i) same ∙ ap (added then.typed) item ∙ sym f

module _ (back : List Statement) (so : Sofar) (t : Typing back so) where
  -- What holds of what was typed, and what holds of something typed.
  pub behind_is : (P : Sofar → Type 0) → Behind back P → P so
  behind_is P (to, u, p) = subst P (typing_unique back to so u t) p

  module _ (s : Statement) (i : Item) (y : Says so (inked s.field) i) where
    saying_is : (P : Typed → Item → Type 0) → P so.typed i ↔ Saying back s P
    saying_is P = (
      λ p. (so, t, (i, y, p)),
      λ h. let (j, z, p) = behind_is (λ (w : Sofar). (j : Item) × Says w (inked s.field) j × P w.typed j) h in subst (P so.typed) (says_unique so (inked s.field) j i z y) p,
    )

    said_meets : Meets (Try (Saying back s UsesOutside) (Outside 1 s.card) (Try (Saying back s NotPlain) (Temporal s.card) (Try (Saying back s InitialOver) (ManyInitials s.card) (Try (Saying back s EquationOver) (ManyEquations s.card) (Try (Saying back s NodesOver) (ManyNodes s.card) Done))))) (Typing (s ∷ back)) (judged s.card so.typed i)
    said_meets =
        alike_meets (item_faults s.card so.typed i) _ (Typing (s ∷ back)) (judged s.card so.typed i)
        (saying_is UsesOutside, refl, (saying_is NotPlain, refl, (saying_is InitialOver, refl, (saying_is EquationOver, refl, (saying_is NodesOver, refl, tt)))))
        (meets_keeps (item_faults s.card so.typed i) (λ to. to ≡ added so.typed i) (Typing (s ∷ back)) _ (item_judged s.card so.typed i) (λ to n e. (so, i, t, y, n, e)))

  -- A statement meets its faults in their order.
  statement_meets : (m : ℕ) (s : Statement) → Meets (statement_faults m back s) (Typing (s ∷ back)) (statement_read m s so)
  unfolding statement_read
  statement_meets m s = meets_is _ _ _ _ (due_judges n so.typed so.due cs) (go (item_read so.due so.typed.count n cs) refl (item_comes so.due so.typed.count n cs))
    where
      n : ℕ
      n = s.card

      cs : List ℕ
      cs = inked s.field

      deep-not-due : {P : Type 0} {x y : ℕ} → ◌≡◌ {A = Outcome Item} (Refused (TooDeep x)) (Refused (NotDue y)) → P
      deep-not-due e = let z : ◌≡◌ {A = ℕ} 0 1 = cc in absurd (omega arith)

      go : (r : Outcome Item) → item_read so.due so.typed.count n cs ≡ r → Comes so.due so.typed.count n cs r → Meets (statement_faults m back s) (Typing (s ∷ back)) (afterwards r (judged n so.typed))
      go (Got i) e c =
          meets_past _ _ _ _ _ (λ h. (behind_is (λ (w : Sofar). NoForm w cs) h).0 i c)
          (meets_past _ _ _ _ _ (λ h. refused_got (sym (deep_item so.due so.typed.count n cs (behind_is (λ (w : Sofar). DeepIn w.due cs) h)) ∙ e)) (said_meets s i c))
      go (Refused a) e (inl f) =
          let g = e ∙ ap Refused f in
          meets_is _ _ _ _ (ap Refused f)
          (meets_here _ _ _ _ (so, t, (λ i y. refused_got (sym g ∙ spelt_item so.due so.typed.count n cs i y.0 y.1), λ d. deep-not-due (sym (deep_item so.due so.typed.count n cs d) ∙ g))))
      go (Refused a) e (inr (f, d)) =
          meets_is _ _ _ _ (ap Refused f) (meets_past _ _ _ _ _ (λ h. (behind_is (λ (w : Sofar). NoForm w cs) h).1 d) (meets_here _ _ _ _ (so, t, d)))

-- All statements meet their faults, statement by statement.
pub statements-meet : (ss : List Statement) → Meets (one_by_one statement_faults 1 [] ss) (Typing (backwards [] ss)) (walk statement_read 1 ss begun)
statements-meet ss = meets_walk statement_read statement_faults Typing (λ back s so t. statement_meets back so t (suc (length back)) s) ss [] begun refl
