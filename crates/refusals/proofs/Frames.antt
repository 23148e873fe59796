-- What a line of a deck holds is read exactly where its characters write it: the reader of a line, its judgement apart.
use mathlib.Core.Path.{◌≡◌, refl, sym, ap, ◌∙◌}
use mathlib.Core.Logic.{◌⊎◌, inl, inr, ⊎_elim}
use mathlib.Core.Bool.{Bool, true, false, not, ◌||◌}
use mathlib.Core.List.{List, [], ◌∷◌, ◌++◌}
use mathlib.Core.Option.{Option, none, some}
use Prim.Native.Nat.{ℕ, ◌+◌, ◌<◌, ◌≤◌}
use native.Mathlib.Omega.{arith}
use borrow.Author.Tests.{lt-ltb, le-ltb, ltb-true, ltb-false, eq-eqb, eqb-true, not-false}
use lib.Dec.{ltb, eqb}
use lib.ListN.{length, drop}
use Rattle.lists.specs.Lists.{stands}
use Rattle.lists.proofs.Laws.{stands_false, false_stands}
use Rattle.sets.specs.Sets.{inside}
use Rattle.logic.specs.Expressions.{Expr, Const, nodes, written}
use Rattle.logic.specs.Decks.{Deck, base}
use Rattle.decks.specs.declared.Refusal.{Refusal}
use Rattle.decks.specs.declared.Refusal.TheVariants.{BadFrame, TooDeep, Outside, ManyInitials, ManyNodes}
use Rattle.decks.specs.Answers.{Outcome, Got, Refused, refuse, afterwards}
use Rattle.frames.specs.Hex.{pair, pairs, byte_of, number}
use Rattle.frames.specs.Written.{set_bytes, set_kind, init_kind, equation_kind, property_kind, count_kind}
use Rattle.frames.specs.Read.{whole_expr, whole_number, kind_of, Due, DueSet, DueInit, DueAny, DueEquation, DueCount, DueNone, Sofar, set_line, init_line, last_left, with_equation, equation_line, property_line, count_line, permits, frame_line, deck_line}
use Rattle.frames.proofs.HexLaws.{byte_pair, pair_byte}
use Rattle.frames.proofs.LineLaws.{kind_line, line_kind, whole-number-pairs, whole-number_got, whole_expr_pairs, whole_expr_got}
use Rattle.decks.proofs.Outcomes.{refused_got}
use Rattle.refusals.specs.FrameFaults.{Frame, SetFrame, InitFrame, EquationFrame, PropertyFrame, CountFrame, EquationDue, Permits, Holds, DeepLine, added}
use Rattle.refusals.proofs.OrderLaws.{true_false}
use Rattle.refusals.proofs.PairsDeep.{far_refused, expr_refused}

-- ---- the reader of a line, its judgement apart

module _ (n : ℕ) (d : Deck) where
  abbrev bad : Outcome Frame
  bad = Refused (BadFrame 1 n)

  abbrev set_frame : List ℕ → Outcome Frame
  set_frame cs = afterwards (whole_number 1 n set_bytes cs) (λ v. Got (SetFrame v))

  abbrev init_frame : List ℕ → Outcome Frame
  init_frame cs = afterwards (whole_number 1 n set_bytes cs) (λ s. refuse (stands s d.inits) (BadFrame 1 n) (Got (InitFrame s)))

  abbrev right_frame : ℕ → List ℕ → Outcome Frame
  right_frame v cs =
      refuse (not (ltb v base.variables)) (BadFrame 1 n)
      (refuse (ltb v (last_left d.equations)) (BadFrame 1 n) (afterwards (whole_expr n cs) (λ e. Got (EquationFrame (record { left = v; right = e })))))

  abbrev equation_frame : List ℕ → Outcome Frame
  equation_frame [] = bad
  equation_frame (h ∷ []) = bad
  equation_frame (h ∷ l ∷ cs) = right_frame (byte_of h l) cs

  abbrev property_frame : List ℕ → Outcome Frame
  property_frame cs = afterwards (whole_expr n cs) (λ e. Got (PropertyFrame e))

  abbrev count_frame : List ℕ → Outcome Frame
  count_frame cs = afterwards (whole_number 1 n 2 cs) (λ x. refuse (not (eqb (x + 1) n)) (BadFrame 1 n) (Got (CountFrame x)))

  frame_of : ℕ → List ℕ → Outcome Frame
  frame_of k cs =
      elim (eqb k set_kind) [
        | true ↦ set_frame cs
        | false ↦
            elim (eqb k init_kind) [
              | true ↦ init_frame cs
              | false ↦ elim (eqb k equation_kind) [ true ↦ equation_frame cs | false ↦ elim (eqb k property_kind) [ true ↦ property_frame cs | false ↦ count_frame cs ] ]
            ]
      ]

pub frame_read : ℕ → Sofar → List ℕ → Outcome Frame
frame_read n so l = refuse (not (permits so.due (kind_of l))) (BadFrame 1 n) (frame_of n so.deck (kind_of l) (drop 2 l))

-- The judgement: 9, 10, 12, 13, 14.
abbrev pub judged : ℕ → Deck → Frame → Outcome Sofar
judged n d (SetFrame v) = Got (added d (SetFrame v))
judged n d (InitFrame s) =
    refuse (not (inside s d.vars)) (Outside 1 n) (refuse (ltb base.initials (length d.inits + 1)) (ManyInitials n) (Got (added d (InitFrame s))))
judged n d (EquationFrame q) = with_equation n d q
judged n d (PropertyFrame e) =
    refuse (not (inside (written e) d.vars)) (Outside 1 n) (refuse (ltb base.property_nodes (nodes e)) (ManyNodes n) (Got (added d (PropertyFrame e))))
judged n d (CountFrame x) = Got (added d (CountFrame x))

-- ---- a line is read as what it holds, judged

module _ (n : ℕ) (d : Deck) where
  abbrev Judges : Outcome Sofar → Outcome Frame → Type 0
  Judges r s = r ≡ afterwards s (judged n d)

  refuse_judges : (t : Bool) (a : Refusal) (r : Outcome Sofar) (s : Outcome Frame) → Judges r s → Judges (refuse t a r) (refuse t a s)
  refuse_judges true a r s e = refl
  refuse_judges false a r s e = e

  then_judges : {A : Type 0} (r : Outcome A) (f : A → Outcome Sofar) (g : A → Outcome Frame) → ((x : A) → Judges (f x) (g x)) → Judges (afterwards r f) (afterwards r g)
  then_judges (Got x) f g h = h x
  then_judges (Refused a) f g h = refl

  set_judges : (cs : List ℕ) → Judges (set_line n cs d) (set_frame n d cs)
  unfolding set_line
  set_judges cs = then_judges (whole_number 1 n set_bytes cs) _ (λ v. Got (SetFrame v)) (λ v. refl)

  init_judges : (cs : List ℕ) → Judges (init_line n cs d) (init_frame n d cs)
  unfolding init_line
  init_judges cs = then_judges (whole_number 1 n set_bytes cs) _ (λ s. refuse (stands s d.inits) (BadFrame 1 n) (Got (InitFrame s))) (λ s. refuse_judges (stands s d.inits) (BadFrame 1 n) _ (Got (InitFrame s)) refl)

  equation_judges : (cs : List ℕ) → Judges (equation_line n cs d) (equation_frame n d cs)
  unfolding equation_line
  equation_judges [] = refl
  equation_judges (h ∷ []) = refl
  equation_judges (h ∷ l ∷ cs) =
      refuse_judges (not (ltb (byte_of h l) base.variables)) (BadFrame 1 n) _ _
      (refuse_judges (ltb (byte_of h l) (last_left d.equations)) (BadFrame 1 n) _ _ (then_judges (whole_expr n cs) _ (λ e. Got (EquationFrame (record { left = byte_of h l; right = e }))) (λ e. refl)))

  property_judges : (cs : List ℕ) → Judges (property_line n cs d) (property_frame n d cs)
  unfolding property_line
  property_judges cs = then_judges (whole_expr n cs) _ (λ e. Got (PropertyFrame e)) (λ e. refl)

  count_judges : (cs : List ℕ) → Judges (count_line 1 n cs (record { due = DueNone; deck = d })) (count_frame n d cs)
  unfolding count_line
  count_judges cs = then_judges (whole_number 1 n 2 cs) _ (λ x. refuse (not (eqb (x + 1) n)) (BadFrame 1 n) (Got (CountFrame x))) (λ x. refuse_judges (not (eqb (x + 1) n)) (BadFrame 1 n) _ (Got (CountFrame x)) refl)

  choice_judges : (t : Bool) (r s : Outcome Sofar) (f g : Outcome Frame) → Judges r f → Judges s g → Judges (elim t [ true ↦ r | false ↦ s ]) (elim t [ true ↦ f | false ↦ g ])
  choice_judges true r s f g h k = h
  choice_judges false r s f g h k = k

  frame_judges : (k : ℕ) (cs : List ℕ) → Judges (frame_line k n cs d) (frame_of n d k cs)
  unfolding frame_line frame_of
  frame_judges k cs =
      choice_judges (eqb k set_kind) _ _ _ _ (set_judges cs)
      (choice_judges (eqb k init_kind) _ _ _ _ (init_judges cs)
      (choice_judges (eqb k equation_kind) _ _ _ _ (equation_judges cs) (choice_judges (eqb k property_kind) _ _ _ _ (property_judges cs) (count_judges cs))))

pub line_judges : (n : ℕ) (so : Sofar) (l : List ℕ) → deck_line n l so ≡ afterwards (frame_read n so l) (judged n so.deck)
unfolding deck_line frame_read
line_judges n so l = refuse_judges n so.deck (not (permits so.due (kind_of l))) (BadFrame 1 n) _ _ (frame_judges n so.deck (kind_of l) (drop 2 l))

-- ---- written, then read

-- The kind of each frame.
abbrev kind_number : Frame → ℕ
kind_number (SetFrame v) = set_kind
kind_number (InitFrame s) = init_kind
kind_number (EquationFrame q) = equation_kind
kind_number (PropertyFrame e) = property_kind
kind_number (CountFrame x) = count_kind

permitted : (u : Due) (f : Frame) → Permits u f → permits u (kind_number f) ≡ true
permitted u (SetFrame v) e = ap (λ (w : Due). permits w set_kind) e
permitted u (InitFrame s) (inl e) = ap (λ (w : Due). permits w init_kind) e
permitted u (InitFrame s) (inr e) = ap (λ (w : Due). permits w init_kind) e
permitted u (EquationFrame q) (inl e) = ap (λ (w : Due). permits w equation_kind) e
permitted u (EquationFrame q) (inr e) = ap (λ (w : Due). permits w equation_kind) e
permitted u (PropertyFrame x) (inl e) = ap (λ (w : Due). permits w property_kind) e
permitted u (PropertyFrame x) (inr e) = ap (λ (w : Due). permits w property_kind) e
permitted u (CountFrame x) e = ap (λ (w : Due). permits w count_kind) e

module _ (n : ℕ) (so : Sofar) where
  -- A line of a kind that may stand here is read by its content.
  line_read : (k : ℕ) (cs : List ℕ) → k < 256 → permits so.due k ≡ true → frame_read n so (pair k ++ cs) ≡ frame_of n so.deck k cs
  unfolding frame_read
  line_read k cs h p =
      ap (λ (j : ℕ). refuse (not (permits so.due j)) (BadFrame 1 n) (frame_of n so.deck j cs)) (kind_line k cs h)
      ∙ ap (λ (t : Bool). refuse (not t) (BadFrame 1 n) (frame_of n so.deck k cs)) p

  right_read : (v : ℕ) (cs : List ℕ) → v < base.variables → last_left so.deck.equations ≤ v → equation_frame n so.deck (pair v ++ cs) ≡ afterwards (whole_expr n cs) (λ e. Got (EquationFrame (record { left = v; right = e })))
  right_read v cs h l =
      ap (λ (x : ℕ). right_frame n so.deck x cs) (byte_pair v (omega arith))
      ∙ ap (λ (t : Bool). refuse (not t) (BadFrame 1 n) (refuse (ltb v (last_left so.deck.equations)) (BadFrame 1 n) (afterwards (whole_expr n cs) (λ e. Got (EquationFrame (record { left = v; right = e })))))) (lt-ltb v base.variables h)
      ∙ ap (λ (t : Bool). refuse t (BadFrame 1 n) (afterwards (whole_expr n cs) (λ e. Got (EquationFrame (record { left = v; right = e }))))) (le-ltb v (last_left so.deck.equations) l)

  pub holds_read : (l : List ℕ) (f : Frame) → Holds so n l f → frame_read n so l ≡ Got f
  unfolding frame_of
  holds_read l (SetFrame v) (p, (e, h), i) =
      ap (frame_read n so) e
      ∙ line_read set_kind (pairs set_bytes v) (omega arith) (permitted so.due (SetFrame v) p)
      ∙ ap (λ (r : Outcome ℕ). afterwards r (λ v. Got (SetFrame v))) (whole-number-pairs 1 n set_bytes v h)
  holds_read l (InitFrame s) (p, (e, h), i) =
      ap (frame_read n so) e
      ∙ line_read init_kind (pairs set_bytes s) (omega arith) (permitted so.due (InitFrame s) p)
      ∙ ap (λ (r : Outcome ℕ). afterwards r (λ s. refuse (stands s so.deck.inits) (BadFrame 1 n) (Got (InitFrame s)))) (whole-number-pairs 1 n set_bytes s h)
      ∙ ap (λ (t : Bool). refuse t (BadFrame 1 n) (Got (InitFrame s))) (stands_false s so.deck.inits i)
  holds_read l (EquationFrame q) (p, (h, (cs, e, (w, d, b))), i) =
      ap (frame_read n so) e
      ∙ line_read equation_kind (pair q.left ++ cs) (omega arith) (permitted so.due (EquationFrame q) p)
      ∙ right_read q.left cs h i
      ∙ ap (λ (r : Outcome Expr). afterwards r (λ e. Got (EquationFrame (record { left = q.left; right = e })))) (ap (whole_expr n) w ∙ whole_expr_pairs n q.right d b)
  holds_read l (PropertyFrame x) (p, (cs, e, (w, d, b)), i) =
      ap (frame_read n so) e
      ∙ line_read property_kind cs (omega arith) (permitted so.due (PropertyFrame x) p)
      ∙ ap (λ (r : Outcome Expr). afterwards r (λ e. Got (PropertyFrame e))) (ap (whole_expr n) w ∙ whole_expr_pairs n x d b)
  holds_read l (CountFrame x) (p, (e, h), i) =
      ap (frame_read n so) e
      ∙ line_read count_kind (pairs 2 x) (omega arith) (permitted so.due (CountFrame x) p)
      ∙ ap (λ (r : Outcome ℕ). afterwards r (λ x. refuse (not (eqb (x + 1) n)) (BadFrame 1 n) (Got (CountFrame x)))) (whole-number-pairs 1 n 2 x h)
      ∙ ap (λ (t : Bool). refuse (not t) (BadFrame 1 n) (Got (CountFrame x))) (eq-eqb (x + 1) n i)

  pub deep_read : (l : List ℕ) → DeepLine so l → frame_read n so l ≡ Refused (TooDeep n)
  unfolding frame_of
  deep_read l (p, inl (v, cs, h, i, e, far)) =
      ap (frame_read n so) e
      ∙ line_read equation_kind (pair v ++ cs) (omega arith) (permitted so.due (EquationFrame (record { left = v; right = Const false })) p)
      ∙ right_read v cs h i
      ∙ ap (λ (r : Outcome Expr). afterwards r (λ e. Got (EquationFrame (record { left = v; right = e })))) (far_refused n cs far)
  deep_read l (p, inr (cs, e, far)) =
      ap (frame_read n so) e
      ∙ line_read property_kind cs (omega arith) (permitted so.due (PropertyFrame (Const false)) p)
      ∙ ap (λ (r : Outcome Expr). afterwards r (λ e. Got (PropertyFrame e))) (far_refused n cs far)

-- ---- read, then written

set_permitted : (u : Due) → permits u set_kind ≡ true → u ≡ DueSet
set_permitted DueSet e = refl
set_permitted DueInit e = true_false (sym e)
set_permitted DueAny e = true_false (sym e)
set_permitted DueEquation e = true_false (sym e)
set_permitted DueCount e = true_false (sym e)
set_permitted DueNone e = true_false (sym e)

init_permitted : (u : Due) → permits u init_kind ≡ true → (u ≡ DueInit) ⊎ (u ≡ DueAny)
init_permitted DueSet e = true_false (sym e)
init_permitted DueInit e = inl refl
init_permitted DueAny e = inr refl
init_permitted DueEquation e = true_false (sym e)
init_permitted DueCount e = true_false (sym e)
init_permitted DueNone e = true_false (sym e)

equation_permitted : (u : Due) → permits u equation_kind ≡ true → EquationDue u
equation_permitted DueSet e = true_false (sym e)
equation_permitted DueInit e = true_false (sym e)
equation_permitted DueAny e = inl refl
equation_permitted DueEquation e = inr refl
equation_permitted DueCount e = true_false (sym e)
equation_permitted DueNone e = true_false (sym e)

property_permitted : (u : Due) → permits u property_kind ≡ true → EquationDue u
property_permitted DueSet e = true_false (sym e)
property_permitted DueInit e = true_false (sym e)
property_permitted DueAny e = inl refl
property_permitted DueEquation e = inr refl
property_permitted DueCount e = true_false (sym e)
property_permitted DueNone e = true_false (sym e)

-- A kind that is none of the first four and may stand here is 05, and a count is due.
one_of : (s t : Bool) → (s || t) ≡ true → (s ≡ true) ⊎ (t ≡ true)
one_of true t e = inl refl
one_of false t e = inr e

count_permitted : (u : Due) (k : ℕ) → permits u k ≡ true → eqb k set_kind ≡ false → eqb k init_kind ≡ false → eqb k equation_kind ≡ false → eqb k property_kind ≡ false → (u ≡ DueCount) × (k ≡ count_kind)
count_permitted DueSet k e a b c d = true_false (sym e ∙ a)
count_permitted DueInit k e a b c d = true_false (sym e ∙ b)
count_permitted DueAny k e a b c d = ⊎_elim (λ h. true_false (sym h ∙ b)) (λ g. ⊎_elim (λ h. true_false (sym h ∙ c)) (λ h. true_false (sym h ∙ d)) (one_of (eqb k equation_kind) (eqb k property_kind) g)) (one_of (eqb k init_kind) (eqb k equation_kind || eqb k property_kind) e)
count_permitted DueEquation k e a b c d = ⊎_elim (λ h. true_false (sym h ∙ c)) (λ h. true_false (sym h ∙ d)) (one_of (eqb k equation_kind) (eqb k property_kind) e)
count_permitted DueCount k e a b c d = (refl, eqb-true k count_kind e)
count_permitted DueNone k e a b c d = true_false (sym e)

number_refused : (n k : ℕ) (cs : List ℕ) (a : Refusal) → whole_number 1 n k cs ≡ Refused a → a ≡ BadFrame 1 n
unfolding whole_number
number_refused n k cs a h = go (number k cs) h
  where
    go : (r : Option ℕ) → ◌≡◌ {A = Outcome ℕ} (elim r [ none ↦ Refused (BadFrame 1 n) | some x ↦ Got x ]) (Refused a) → a ≡ BadFrame 1 n
    go none e = cc
    go (some x) e = refused_got (sym e)

module _ (n : ℕ) (so : Sofar) (l : List ℕ) where
  -- What the line comes to: what it holds, or 16, or 11 where it is met.
  abbrev pub Comes : Outcome Frame → Type 0
  Comes (Got f) = Holds so n l f
  Comes (Refused a) = (a ≡ BadFrame 1 n) ⊎ ((a ≡ TooDeep n) × DeepLine so l)

  refuse_comes : (t : Bool) (r : Outcome Frame) → (t ≡ false → Comes r) → Comes (refuse t (BadFrame 1 n) r)
  refuse_comes true r f = inl refl
  refuse_comes false r f = f refl

  -- A result is looked at further.
  then_comes : {A : Type 0} (r : Outcome A) (g : A → Outcome Frame) → ((x : A) → r ≡ Got x → Comes (g x)) → ((a : Refusal) → r ≡ Refused a → Comes (Refused a)) → Comes (afterwards r g)
  then_comes (Got x) g f h = f x refl
  then_comes (Refused a) g f h = h a refl

  set_comes : so.due ≡ DueSet → (cs : List ℕ) → l ≡ pair set_kind ++ cs → Comes (set_frame n so.deck cs)
  set_comes p cs e =
      then_comes (whole_number 1 n set_bytes cs) (λ v. Got (SetFrame v))
      (λ v h. let w = whole-number_got 1 n set_bytes cs v h in (p, (e ∙ ap (λ (x : List ℕ). pair set_kind ++ x) w.0, w.1), tt))
      (λ a h. inl (number_refused n set_bytes cs a h))

  init_comes : (so.due ≡ DueInit) ⊎ (so.due ≡ DueAny) → (cs : List ℕ) → l ≡ pair init_kind ++ cs → Comes (init_frame n so.deck cs)
  init_comes p cs e =
      then_comes (whole_number 1 n set_bytes cs) (λ s. refuse (stands s so.deck.inits) (BadFrame 1 n) (Got (InitFrame s)))
      (λ s h. refuse_comes (stands s so.deck.inits) (Got (InitFrame s)) (λ t. let w = whole-number_got 1 n set_bytes cs s h in (p, (e ∙ ap (λ (x : List ℕ). pair init_kind ++ x) w.0, w.1), false_stands s so.deck.inits t)))
      (λ a h. inl (number_refused n set_bytes cs a h))

  equation_comes : EquationDue so.due → (cs : List ℕ) → l ≡ pair equation_kind ++ cs → Comes (equation_frame n so.deck cs)
  equation_comes p [] e = inl refl
  equation_comes p (h ∷ []) e = inl refl
  equation_comes p (h ∷ k ∷ cs) e =
      refuse_comes (not (ltb (byte_of h k) base.variables)) _ (λ t.
      let low : byte_of h k < base.variables = ltb-true (byte_of h k) base.variables (not-false (ltb (byte_of h k) base.variables) t) in
      let start : l ≡ pair equation_kind ++ (pair (byte_of h k) ++ cs) = e ∙ ap (λ (x : List ℕ). pair equation_kind ++ (x ++ cs)) (sym (pair_byte h k (omega arith))) in
      refuse_comes (ltb (byte_of h k) (last_left so.deck.equations)) _ (λ u.
      let rising = ltb-false (byte_of h k) (last_left so.deck.equations) u in
      then_comes (whole_expr n cs) (λ x. Got (EquationFrame (record { left = byte_of h k; right = x })))
      (λ x g. (p, (low, (cs, start, whole_expr_got n cs x g)), rising))
      (λ a g. ⊎_elim inl (λ (d, far). inr (d, (p, inl (byte_of h k, cs, low, rising, start, far)))) (expr_refused n cs a g))))

  property_comes : EquationDue so.due → (cs : List ℕ) → l ≡ pair property_kind ++ cs → Comes (property_frame n so.deck cs)
  property_comes p cs e =
      then_comes (whole_expr n cs) (λ x. Got (PropertyFrame x))
      (λ x g. (p, (cs, e, whole_expr_got n cs x g), tt))
      (λ a g. ⊎_elim inl (λ (d, far). inr (d, (p, inr (cs, e, far)))) (expr_refused n cs a g))

  count_comes : so.due ≡ DueCount → (cs : List ℕ) → l ≡ pair count_kind ++ cs → Comes (count_frame n so.deck cs)
  count_comes p cs e =
      then_comes (whole_number 1 n 2 cs) (λ x. refuse (not (eqb (x + 1) n)) (BadFrame 1 n) (Got (CountFrame x)))
      (λ x h.
      refuse_comes (not (eqb (x + 1) n)) (Got (CountFrame x)) (λ t.
      let w = whole-number_got 1 n 2 cs x h in (p, (e ∙ ap (λ (y : List ℕ). pair count_kind ++ y) w.0, w.1), eqb-true (x + 1) n (not-false (eqb (x + 1) n) t))))
      (λ a h. inl (number_refused n 2 cs a h))

  -- The line begins with the pair of its kind.
  starts : (k : ℕ) → k < 256 → eqb (kind_of l) k ≡ true → l ≡ pair k ++ drop 2 l
  starts k h e = line_kind l k (eqb-true (kind_of l) k e) h

  kind_permits : (k : ℕ) → permits so.due (kind_of l) ≡ true → eqb (kind_of l) k ≡ true → permits so.due k ≡ true
  kind_permits k p e = ap (permits so.due) (sym (eqb-true (kind_of l) k e)) ∙ p

  frame_comes : permits so.due (kind_of l) ≡ true → Comes (frame_of n so.deck (kind_of l) (drop 2 l))
  unfolding frame_of
  frame_comes p = first (eqb (kind_of l) set_kind) refl
    where
      cs : List ℕ
      cs = drop 2 l

      d : Deck
      d = so.deck

      fourth : (t : Bool) → eqb (kind_of l) property_kind ≡ t → eqb (kind_of l) set_kind ≡ false → eqb (kind_of l) init_kind ≡ false → eqb (kind_of l) equation_kind ≡ false → Comes (elim t [ true ↦ property_frame n d cs | false ↦ count_frame n d cs ])
      fourth true e f g h = property_comes (property_permitted so.due (kind_permits property_kind p e)) cs (starts property_kind (omega arith) e)
      fourth false e f g h = let (u, k) = count_permitted so.due (kind_of l) p f g h e in count_comes u cs (line_kind l count_kind k (omega arith))

      third : (t : Bool) → eqb (kind_of l) equation_kind ≡ t → eqb (kind_of l) set_kind ≡ false → eqb (kind_of l) init_kind ≡ false → Comes (elim t [ true ↦ equation_frame n d cs | false ↦ elim (eqb (kind_of l) property_kind) [ true ↦ property_frame n d cs | false ↦ count_frame n d cs ] ])
      third true e f g = equation_comes (equation_permitted so.due (kind_permits equation_kind p e)) cs (starts equation_kind (omega arith) e)
      third false e f g = fourth (eqb (kind_of l) property_kind) refl f g e

      second : (t : Bool) → eqb (kind_of l) init_kind ≡ t → eqb (kind_of l) set_kind ≡ false → Comes (elim t [ true ↦ init_frame n d cs | false ↦ elim (eqb (kind_of l) equation_kind) [ true ↦ equation_frame n d cs | false ↦ elim (eqb (kind_of l) property_kind) [ true ↦ property_frame n d cs | false ↦ count_frame n d cs ] ] ])
      second true e f = init_comes (init_permitted so.due (kind_permits init_kind p e)) cs (starts init_kind (omega arith) e)
      second false e f = third (eqb (kind_of l) equation_kind) refl f e

      first : (t : Bool) → eqb (kind_of l) set_kind ≡ t → Comes (elim t [ true ↦ set_frame n d cs | false ↦ elim (eqb (kind_of l) init_kind) [ true ↦ init_frame n d cs | false ↦ elim (eqb (kind_of l) equation_kind) [ true ↦ equation_frame n d cs | false ↦ elim (eqb (kind_of l) property_kind) [ true ↦ property_frame n d cs | false ↦ count_frame n d cs ] ] ] ])
      first true e = set_comes (set_permitted so.due (kind_permits set_kind p e)) cs (starts set_kind (omega arith) e)
      first false e = second (eqb (kind_of l) init_kind) refl e

  pub line_comes : Comes (frame_read n so l)
  unfolding frame_read
  line_comes = refuse_comes (not (permits so.due (kind_of l))) _ (λ t. frame_comes (not-false (permits so.due (kind_of l)) t))
