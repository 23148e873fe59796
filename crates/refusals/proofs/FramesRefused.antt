-- A deck in frames is refused exactly where one of its conditions is the first that holds.
use mathlib.Core.Path.{◌≡◌, refl, sym, ap, ◌∙◌, subst}
use mathlib.Core.Logic.{inl, inr, ⊎_elim, ◌↔◌}
use mathlib.Core.Bool.{Bool, true, false, not}
use mathlib.Core.List.{List, [], ◌∷◌}
use Prim.Native.Nat.{ℕ, suc, ◌+◌, ◌^◌, ◌<◌}
use native.Mathlib.Omega.{arith}
use borrow.Author.Tests.{ltb-true, ltb-false, not-false, not-true}
use lib.Dec.{ltb}
use lib.ListN.{length}
use Rattle.lists.specs.Lists.{ended, unended}
use Rattle.sets.specs.Sets.{◌∋◌, has, inside}
use Rattle.sets.proofs.Laws.{true_has, has_true, true_inside, false_inside}
use Rattle.logic.specs.Expressions.{nodes, written, temporal}
use Rattle.logic.specs.Decks.{Equation, Deck, base, total_nodes}
use Rattle.decks.specs.declared.Refusal.TheVariants.{BadFrame, Outside, Temporal, TooDeep, ManyInitials, ManyEquations, ManyNodes, NoEquation}
use Rattle.decks.specs.Answers.{Outcome, Got, Refused, refuse, afterwards}
use Rattle.decks.specs.Readings.{walk, complete}
use Rattle.frames.specs.Read.{Due, DueSet, DueInit, DueAny, DueEquation, DueCount, DueNone, Sofar, begun, with_equation, deck_line, deck_end, read_deck}
use Rattle.decks.proofs.Outcomes.{refused_got, got_eq}
use Rattle.logic.proofs.Rights.{plain-temporal, temporal-plain}
use Rattle.decks.proofs.Complete.{HasEquation}
use Rattle.refusals.specs.Order.{Conditions, Done, Try, one_by_one, backwards, rising}
use Rattle.refusals.specs.FrameFaults.{Frame, SetFrame, InitFrame, EquationFrame, PropertyFrame, CountFrame, WritesFrame, Holds, DeepLine, NoFrame, UsesOutside, NotPlain, InitialOver, EquationOver, NodesOver, frame_faults, added, Framing, Behind, Holding, line_faults}
use Rattle.refusals.specs.FramesOrder.{EndsEarly, Lacking, frames_order, Gives}
use Rattle.refusals.proofs.OrderLaws.{true_false, Meets, meets_is, meets_here, meets_past, meets_test, meets_got, meets_keeps, meets_afterwards, alike_meets, meets_walk, rising_alike}
use Rattle.refusals.proofs.Lacking.{Without, complete_meets}
use Rattle.refusals.proofs.Frames.{frame_read, judged, line_judges, holds_read, deep_read, Comes, line_comes}

-- ---- the judgement of one frame

module _ (n : ℕ) (d : Deck) (q : Equation) where
  -- 9 of an equation: its left side, then its right.
  uses_meets : (c : Conditions) (Q : Sofar → Type 0) (r : Outcome Sofar)
      → Meets c Q r
      → Meets (Try (UsesOutside d (EquationFrame q)) (Outside 1 n) c) Q (refuse (not (has d.vars q.left)) (Outside 1 n) (refuse (not (inside (written q.right) d.vars)) (Outside 1 n) r))
  uses_meets c Q r m = left (has d.vars q.left) refl
    where
      right : (b : Bool) → inside (written q.right) d.vars ≡ b → d.vars ∋ q.left → Meets (Try (UsesOutside d (EquationFrame q)) (Outside 1 n) c) Q (refuse (not b) (Outside 1 n) r)
      right true e l = meets_past _ _ _ _ _ (⊎_elim (λ f. f l) (λ f. f (true_inside (written q.right) d.vars e))) m
      right false e l = meets_here _ _ _ _ (inr (false_inside (written q.right) d.vars e))

      left : (b : Bool) → has d.vars q.left ≡ b → Meets (Try (UsesOutside d (EquationFrame q)) (Outside 1 n) c) Q (refuse (not b) (Outside 1 n) (refuse (not (inside (written q.right) d.vars)) (Outside 1 n) r))
      left true e = right (inside (written q.right) d.vars) refl (true_has d.vars q.left e)
      left false e = meets_here _ _ _ _ (inl (λ m. true_false (sym (has_true d.vars q.left m) ∙ e)))

  equation_judged : Meets (frame_faults n d (EquationFrame q)) (λ to. to ≡ added d (EquationFrame q)) (with_equation n d q)
  unfolding with_equation
  equation_judged =
      uses_meets _ _ _
      (meets_test _ _ _ _ (temporal q.right) _ (λ e p. true_false (sym e ∙ plain-temporal q.right p)) (λ e f. f (temporal-plain q.right e)) (λ e.
      meets_past _ _ _ _ _ (λ h. h)
      (meets_test _ _ _ _ (ltb base.equations (length d.equations + 1)) _ (ltb-true base.equations (length d.equations + 1)) (λ e h. omega (arith, ltb-false base.equations (length d.equations + 1) e)) (λ e.
      meets_test _ _ _ _ (ltb base.equation_nodes (total_nodes d.equations + nodes q.right)) _
      (ltb-true base.equation_nodes (total_nodes d.equations + nodes q.right))
      (λ e h. omega (arith, ltb-false base.equation_nodes (total_nodes d.equations + nodes q.right) e))
      (λ e. meets_got _ _ refl)))))

-- What a line holds is judged by its faults in their order.
frame_judged : (n : ℕ) (d : Deck) (f : Frame) → Meets (frame_faults n d f) (λ to. to ≡ added d f) (judged n d f)
frame_judged n d (SetFrame v) =
    meets_past _ _ _ _ _ (λ h. h) (meets_past _ _ _ _ _ (λ h. h) (meets_past _ _ _ _ _ (λ h. h) (meets_past _ _ _ _ _ (λ h. h) (meets_past _ _ _ _ _ (λ h. h) (meets_got _ _ refl)))))
frame_judged n d (InitFrame s) =
    meets_test _ _ _ _ (not (inside s d.vars)) _
    (λ e. false_inside s d.vars (not-true (inside s d.vars) e))
    (λ e f. f (true_inside s d.vars (not-false (inside s d.vars) e)))
    (λ e.
    meets_past _ _ _ _ _ (λ h. h)
    (meets_test _ _ _ _ (ltb base.initials (length d.inits + 1)) _ (ltb-true base.initials (length d.inits + 1)) (λ e h. omega (arith, ltb-false base.initials (length d.inits + 1) e)) (λ e.
    meets_past _ _ _ _ _ (λ h. h) (meets_past _ _ _ _ _ (λ h. h) (meets_got _ _ refl)))))
frame_judged n d (EquationFrame q) = equation_judged n d q
frame_judged n d (PropertyFrame x) =
    meets_test _ _ _ _ (not (inside (written x) d.vars)) _
    (λ e. false_inside (written x) d.vars (not-true (inside (written x) d.vars) e))
    (λ e f. f (true_inside (written x) d.vars (not-false (inside (written x) d.vars) e)))
    (λ e.
    meets_past _ _ _ _ _ (λ h. h)
    (meets_past _ _ _ _ _ (λ h. h)
    (meets_past _ _ _ _ _ (λ h. h)
    (meets_test _ _ _ _ (ltb base.property_nodes (nodes x)) _ (ltb-true base.property_nodes (nodes x)) (λ e h. omega (arith, ltb-false base.property_nodes (nodes x) e)) (λ e. meets_got _ _ refl)))))
frame_judged n d (CountFrame x) =
    meets_past _ _ _ _ _ (λ h. h) (meets_past _ _ _ _ _ (λ h. h) (meets_past _ _ _ _ _ (λ h. h) (meets_past _ _ _ _ _ (λ h. h) (meets_past _ _ _ _ _ (λ h. h) (meets_got _ _ refl)))))

-- ---- the deck so far, and what a line holds, are one

holds_unique : (so : Sofar) (n : ℕ) (l : List ℕ) (f g : Frame) → Holds so n l f → Holds so n l g → f ≡ g
holds_unique so n l f g h k = got_eq (sym (holds_read n so l f h) ∙ holds_read n so l g k)

pub framing_unique : (back : List (List ℕ)) (so to : Sofar) → Framing back so → Framing back to → so ≡ to
framing_unique [] so to e f = e ∙ sym f
framing_unique (l ∷ back) so to (was, f, t, y, n, e) (then, g, u, z, m, k) =
    let same : was ≡ then = framing_unique back was then t u in
    let frame : f ≡ g = holds_unique then (suc (length back)) l f g (subst (λ (w : Sofar). Holds w (suc (length back)) l f) same y) z in
    e ∙ ap (λ (w : Sofar). added w.deck f) same ∙ ap (added then.deck) frame ∙ sym k

-- No variable stands beyond the eight bytes of the set.
framing_small : (back : List (List ℕ)) (so : Sofar) → Framing back so → so.deck.vars < 2 ^ base.variables
framing_small [] so e = subst (λ (s : Sofar). s.deck.vars < 2 ^ base.variables) (sym e) (omega arith)
framing_small (l ∷ back) so (was, f, t, (p, y, i), n, e) = subst (λ (s : Sofar). s.deck.vars < 2 ^ base.variables) (sym e) (go f y (framing_small back was t))
  where
    go : (f : Frame) → WritesFrame l f → was.deck.vars < 2 ^ base.variables → (added was.deck f).deck.vars < 2 ^ base.variables
    go (SetFrame v) (e, h) s = h
    go (InitFrame x) y s = s
    go (EquationFrame q) y s = s
    go (PropertyFrame x) y s = s
    go (CountFrame x) y s = s

module _ (back : List (List ℕ)) (so : Sofar) (t : Framing back so) where
  -- What holds of some deck of the lines holds of the deck so far.
  pub behind_is : (P : Sofar → Type 0) → Behind back P → P so
  behind_is P (to, u, p) = subst P (framing_unique back to so u t) p

  module _ (l : List ℕ) (f : Frame) (y : Holds so (suc (length back)) l f) where
    holding_is : (P : Deck → Frame → Type 0) → P so.deck f ↔ Holding back l P
    holding_is P = (
      λ p. (so, t, (f, y, p)),
      λ h. let (g, z, p) = behind_is (λ (w : Sofar). (g : Frame) × Holds w (suc (length back)) l g × P w.deck g) h in subst (P so.deck) (holds_unique so (suc (length back)) l g f z y) p,
    )

    held_meets : Meets (Try (Holding back l UsesOutside) (Outside 1 (suc (length back))) (Try (Holding back l NotPlain) (Temporal (suc (length back))) (Try (Holding back l InitialOver) (ManyInitials (suc (length back))) (Try (Holding back l EquationOver) (ManyEquations (suc (length back))) (Try (Holding back l NodesOver) (ManyNodes (suc (length back))) Done))))) (Framing (l ∷ back)) (judged (suc (length back)) so.deck f)
    held_meets =
        alike_meets (frame_faults (suc (length back)) so.deck f) _ (Framing (l ∷ back)) (judged (suc (length back)) so.deck f)
        (holding_is UsesOutside, refl, (holding_is NotPlain, refl, (holding_is InitialOver, refl, (holding_is EquationOver, refl, (holding_is NodesOver, refl, tt)))))
        (meets_keeps (frame_faults (suc (length back)) so.deck f) (λ to. to ≡ added so.deck f) (Framing (l ∷ back)) _ (frame_judged (suc (length back)) so.deck f) (λ to n e. (so, f, t, y, n, e)))

  -- A line meets its faults in their order.
  line_meets : (l : List ℕ) → Meets (line_faults (suc (length back)) back l) (Framing (l ∷ back)) (deck_line (suc (length back)) l so)
  line_meets l = meets_is _ _ _ _ (line_judges n so l) (go (frame_read n so l) refl (line_comes n so l))
    where
      n : ℕ
      n = suc (length back)

      deep_bad : {P : Type 0} {x y : ℕ} → ◌≡◌ {A = Outcome Frame} (Refused (TooDeep x)) (Refused (BadFrame 1 y)) → P
      deep_bad e = let z : ◌≡◌ {A = ℕ} 0 1 = cc in absurd (omega arith)

      go : (r : Outcome Frame) → frame_read n so l ≡ r → Comes n so l r → Meets (line_faults n back l) (Framing (l ∷ back)) (afterwards r (judged n so.deck))
      go (Got f) e c =
          meets_past _ _ _ _ _ (λ h. (behind_is (λ (w : Sofar). NoFrame w n l) h).0 f c)
          (meets_past _ _ _ _ _ (λ h. refused_got (sym (deep_read n so l (behind_is (λ (w : Sofar). DeepLine w l) h)) ∙ e)) (held_meets l f c))
      go (Refused a) e (inl f) =
          let g = e ∙ ap Refused f in
          meets_is _ _ _ _ (ap Refused f) (meets_here _ _ _ _ (so, t, (λ x y. refused_got (sym g ∙ holds_read n so l x y), λ d. deep_bad (sym (deep_read n so l d) ∙ g))))
      go (Refused a) e (inr (f, d)) =
          meets_is _ _ _ _ (ap Refused f) (meets_past _ _ _ _ _ (λ h. (behind_is (λ (w : Sofar). NoFrame w n l) h).1 d) (meets_here _ _ _ _ (so, t, d)))

-- All lines meet their faults, line by line.
lines_meet : (ls : List (List ℕ)) → Meets (one_by_one line_faults 1 [] ls) (Framing (backwards [] ls)) (walk deck_line 1 ls begun)
lines_meet ls = meets_walk deck_line line_faults Framing (λ back l so t. line_meets back so t l) ls [] begun refl

-- ---- behind the last line

module _ (text : List ℕ) (so : Sofar) (t : Framing (backwards [] (ended text)) so) where
  lacking_is : (v : ℕ) → Without so.deck v ↔ Lacking text v
  lacking_is v = (λ h. (so, t, h), λ h. behind_is (backwards [] (ended text)) so t (λ (s : Sofar). (s.deck.vars ∋ v) × (HasEquation s.deck.equations v → ⊥)) h)

  end_meets : Meets (Try (EndsEarly text) (BadFrame 1 0) (rising (Lacking text) NoEquation base.variables 0)) (λ d. d ≡ so.deck) (deck_end (unended text) so)
  unfolding deck_end
  end_meets = ends (unended text) refl
    where
      M : Outcome Deck → Type 0
      M = Meets (Try (EndsEarly text) (BadFrame 1 0) (rising (Lacking text) NoEquation base.variables 0)) (λ d. d ≡ so.deck)

      early : (so.due ≡ DueNone → ⊥) → M (Refused (BadFrame 1 0))
      early n = meets_here _ _ _ _ (inr (so, t, n))

      whole : unended text ≡ [] → so.due ≡ DueNone → M (complete so.deck)
      whole u e =
          meets_past _ _ _ _ _ (⊎_elim (λ n. n u) (λ h. behind_is (backwards [] (ended text)) so t (λ (s : Sofar). s.due ≡ DueNone → ⊥) h e))
          (alike_meets _ _ _ _ (rising_alike (Without so.deck) (Lacking text) NoEquation base.variables 0 lacking_is) (complete_meets so.deck (framing_small (backwards [] (ended text)) so t)))

      go : unended text ≡ [] → (u : Due) → so.due ≡ u → M (elim u [
        | DueSet ↦ Refused (BadFrame 1 0)
        | DueInit ↦ Refused (BadFrame 1 0)
        | DueAny ↦ Refused (BadFrame 1 0)
        | DueEquation ↦ Refused (BadFrame 1 0)
        | DueCount ↦ Refused (BadFrame 1 0)
        | DueNone ↦ complete so.deck
      ])
      go u DueSet e = early (λ f. let z : DueSet ≡ DueNone = sym e ∙ f in let z : ◌≡◌ {A = ℕ} 0 1 = cc in omega arith)
      go u DueInit e = early (λ f. let z : DueInit ≡ DueNone = sym e ∙ f in let z : ◌≡◌ {A = ℕ} 0 1 = cc in omega arith)
      go u DueAny e = early (λ f. let z : DueAny ≡ DueNone = sym e ∙ f in let z : ◌≡◌ {A = ℕ} 0 1 = cc in omega arith)
      go u DueEquation e = early (λ f. let z : DueEquation ≡ DueNone = sym e ∙ f in let z : ◌≡◌ {A = ℕ} 0 1 = cc in omega arith)
      go u DueCount e = early (λ f. let z : DueCount ≡ DueNone = sym e ∙ f in let z : ◌≡◌ {A = ℕ} 0 1 = cc in omega arith)
      go u DueNone e = whole u e

      ends : (u : List ℕ) → unended text ≡ u → M (deck_end u so)
      ends [] e = go e so.due refl
      ends (c ∷ cs) e = meets_here _ _ _ _ (inl (λ f. let z : c ∷ cs ≡ [] = sym e ∙ f in let z : ◌≡◌ {A = ℕ} 0 1 = cc in omega arith))

-- ---- a deck in frames

pub frames_meet : (text : List ℕ) → Meets (frames_order text) (Gives text) (read_deck text)
unfolding read_deck
frames_meet text =
    meets_test _ _ _ _ (ltb base.text (length text)) _ (ltb-true base.text (length text)) (λ e h. omega (arith, ltb-false base.text (length text) e)) (λ e.
    meets_afterwards _ _ (Framing (backwards [] (ended text))) (Gives text) (walk deck_line 1 (ended text) begun) (λ s. deck_end (unended text) s) (lines_meet (ended text)) (λ so g t.
    meets_keeps _ _ (Gives text) (deck_end (unended text) so) (end_meets text so t) (λ d n e. (so, t, e))))

pub gives_unique : (text : List ℕ) (d e : Deck) → Gives text d → Gives text e → d ≡ e
gives_unique text d e (so, t, p) (to, u, q) = p ∙ ap (λ (s : Sofar). s.deck) (framing_unique (backwards [] (ended text)) so to t u) ∙ sym q
