-- A claim in frames is refused exactly where one of its conditions is the first that holds.
use mathlib.Core.Path.{◌≡◌, refl, sym, ap, ap₂, ◌∙◌, subst}
use mathlib.Core.Logic.{inl, inr, ⊎_elim, ◌↔◌}
use mathlib.Core.Bool.{Bool, true, false, not}
use mathlib.Core.List.{List, [], ◌∷◌, ◌++◌}
use mathlib.Core.Option.{Option, none, some}
use Prim.Native.Nat.{ℕ, suc, ◌+◌, ◌*◌, ◌/◌, ◌%◌, ◌^◌, ◌<◌, ◌≤◌}
use native.Mathlib.Omega.{arith}
use borrow.Author.Tests.{lt-ltb, le-ltb, ltb-true, ltb-false, eq-eqb, ne_eqb, eqb-true, eqb-false, not-false, not-true}
use lib.Dec.{ltb, eqb}
use lib.ListN.{length, drop}
use Rattle.lists.specs.Lists.{ended, unended}
use Rattle.sets.specs.Sets.{inside}
use Rattle.sets.proofs.Laws.{true_inside, false_inside}
use Rattle.logic.specs.Decks.{base}
use Rattle.logic.specs.Meaning.{Claim}
use Rattle.decks.specs.declared.Refusal.{Refusal}
use Rattle.decks.specs.declared.Refusal.TheVariants.{BadFrame, Outside}
use Rattle.decks.specs.Answers.{Outcome, Got, Refused, refuse, afterwards}
use Rattle.frames.specs.Hex.{pair, pairs, number}
use Rattle.frames.specs.Written.{set_bytes, claim_kind, state_kind, claim_count_kind}
use Rattle.frames.specs.Read.{whole_number, kind_of, count_line, ClaimSofar, ClaimDue, StatesDue, ClaimWhole, sizes_line, state_line, claim_line, claim_end, read_claim}
use Rattle.decks.specs.Readings.{walk}
use Rattle.frames.proofs.HexLaws.{pairs_four}
use Rattle.frames.proofs.LineLaws.{kind_line, line_kind, whole-number-pairs, whole-number_got}
use Rattle.decks.proofs.Outcomes.{refused_got, got_eq}
use Rattle.refusals.specs.Order.{Done, Try, one_by_one, backwards}
use Rattle.refusals.specs.ClaimFaults.{ClaimFrame, Sizes, State, Closing, Holds, added, UsesOutside, Framing, Behind, claim_faults, ClaimEndsEarly, claim_order, Gives}
use Rattle.refusals.proofs.OrderLaws.{Meets, meets_is, meets_here, meets_past, meets_test, meets_got, meets_keeps, meets_afterwards, alike_meets, meets_walk}

-- ---- the reader of a line, its judgement apart

abbrev sized : ℕ → ℕ → Outcome ClaimFrame
sized n x = refuse (eqb (x % 65536) 0) (BadFrame 2 n) (refuse (ltb base.states (x / 65536 + x % 65536)) (BadFrame 2 n) (Got (Sizes (x / 65536) (x % 65536))))

abbrev counted : ℕ → Claim → ℕ → Outcome ClaimFrame
counted n m x = refuse (not (eqb (x + 1) n)) (BadFrame 2 n) (Got (Closing m x))

abbrev state_due : ℕ → Claim → List ℕ → Outcome ClaimFrame
state_due n m l = refuse (not (eqb (kind_of l) state_kind)) (BadFrame 2 n) (afterwards (whole_number 2 n set_bytes (drop 2 l)) (λ s. Got (State m s)))

abbrev count_due : ℕ → Claim → List ℕ → Outcome ClaimFrame
count_due n m l = refuse (not (eqb (kind_of l) claim_count_kind)) (BadFrame 2 n) (afterwards (whole_number 2 n 2 (drop 2 l)) (counted n m))

claim_read : ℕ → ClaimSofar → List ℕ → Outcome ClaimFrame
claim_read n ClaimDue l = refuse (not (eqb (kind_of l) claim_kind)) (BadFrame 2 n) (afterwards (whole_number 2 n 4 (drop 2 l)) (sized n))
claim_read n (StatesDue m) l = elim (ltb (length m.states) (m.p + m.c)) [ true ↦ state_due n m l | false ↦ count_due n m l ]
claim_read n (ClaimWhole m) l = Refused (BadFrame 2 n)

abbrev judged : ℕ → ℕ → ClaimFrame → Outcome ClaimSofar
judged vars n (Sizes p c) = Got (added (Sizes p c))
judged vars n (State m s) = refuse (not (inside s vars)) (Outside 2 n) (Got (added (State m s)))
judged vars n (Closing m x) = Got (added (Closing m x))

module _ (vars n : ℕ) where
  abbrev Judges : Outcome ClaimSofar → Outcome ClaimFrame → Type 0
  Judges r s = r ≡ afterwards s (judged vars n)

  refuse_judges : (t : Bool) (a : Refusal) (r : Outcome ClaimSofar) (s : Outcome ClaimFrame) → Judges r s → Judges (refuse t a r) (refuse t a s)
  refuse_judges true a r s e = refl
  refuse_judges false a r s e = e

  then_judges : {A : Type 0} (r : Outcome A) (f : A → Outcome ClaimSofar) (g : A → Outcome ClaimFrame) → ((x : A) → Judges (f x) (g x)) → Judges (afterwards r f) (afterwards r g)
  then_judges (Got x) f g h = h x
  then_judges (Refused a) f g h = refl

  choice_judges : (t : Bool) (r s : Outcome ClaimSofar) (f g : Outcome ClaimFrame) → Judges r f → Judges s g → Judges (elim t [ true ↦ r | false ↦ s ]) (elim t [ true ↦ f | false ↦ g ])
  choice_judges true r s f g h k = h
  choice_judges false r s f g h k = k

  line_judges : (so : ClaimSofar) (l : List ℕ) → Judges (claim_line vars n l so) (claim_read n so l)
  unfolding claim_line claim_read sizes_line state_line count_line
  line_judges ClaimDue l =
      refuse_judges (not (eqb (kind_of l) claim_kind)) _ _ _
      (then_judges (whole_number 2 n 4 (drop 2 l)) _ (sized n) (λ x.
      refuse_judges (eqb (x % 65536) 0) _ _ _ (refuse_judges (ltb base.states (x / 65536 + x % 65536)) _ _ (Got (Sizes (x / 65536) (x % 65536))) refl)))
  line_judges (StatesDue m) l =
      choice_judges (ltb (length m.states) (m.p + m.c)) _ _ _ _
      (refuse_judges (not (eqb (kind_of l) state_kind)) _ _ _ (then_judges (whole_number 2 n set_bytes (drop 2 l)) _ (λ s. Got (State m s)) (λ s. refl)))
      (refuse_judges (not (eqb (kind_of l) claim_count_kind)) _ _ _ (then_judges (whole_number 2 n 2 (drop 2 l)) _ (counted n m) (λ x. refuse_judges (not (eqb (x + 1) n)) _ _ (Got (Closing m x)) refl)))
  line_judges (ClaimWhole m) l = refl

-- ---- written, then read

-- A line of the kind due is read by its content.
kind_read : (n k : ℕ) (cs : List ℕ) (f : List ℕ → Outcome ClaimFrame) → k < 256 → refuse (not (eqb (kind_of (pair k ++ cs)) k)) (BadFrame 2 n) (f cs) ≡ f cs
kind_read n k cs f h = ap (λ (t : Bool). refuse (not t) (BadFrame 2 n) (f cs)) (eq-eqb (kind_of (pair k ++ cs)) k (kind_line k cs h))

module _ (n : ℕ) where
  sizes_read : (p c : ℕ) → p < 256 ^ 2 → c < 256 ^ 2 → 1 ≤ c → p + c ≤ base.states → afterwards (whole_number 2 n 4 (pairs 2 p ++ pairs 2 c)) (sized n) ≡ Got (Sizes p c)
  sizes_read p c h k least most =
      let x : ℕ = p * 65536 + c in
      let small : x < 256 ^ 4 = omega arith in
      let high : x / 65536 ≡ p = omega arith in
      let low : x % 65536 ≡ c = omega arith in
      ap (λ (cs : List ℕ). afterwards (whole_number 2 n 4 cs) (sized n)) (sym (pairs_four p c k))
      ∙ ap (λ (r : Outcome ℕ). afterwards r (sized n)) (whole-number-pairs 2 n 4 x small)
      ∙ ap₂ (λ (i j : ℕ). refuse (eqb j 0) (BadFrame 2 n) (refuse (ltb base.states (i + j)) (BadFrame 2 n) (Got (Sizes i j)))) high low
      ∙ ap (λ (t : Bool). refuse t (BadFrame 2 n) (refuse (ltb base.states (p + c)) (BadFrame 2 n) (Got (Sizes p c)))) (ne_eqb c 0 (λ z. omega arith))
      ∙ ap (λ (t : Bool). refuse t (BadFrame 2 n) (Got (Sizes p c))) (le-ltb base.states (p + c) most)

  holds_read : (so : ClaimSofar) (l : List ℕ) (f : ClaimFrame) → Holds so n l f → claim_read n so l ≡ Got f
  unfolding claim_read
  holds_read so l (Sizes p c) (u, e, h, k, least, most) =
      ap₂ (claim_read n) u e
      ∙ kind_read n claim_kind (pairs 2 p ++ pairs 2 c) (λ cs. afterwards (whole_number 2 n 4 cs) (sized n)) (omega arith)
      ∙ sizes_read p c h k least most
  holds_read so l (State m s) (u, less, e, h) =
      ap₂ (claim_read n) u e
      ∙ ap (λ (t : Bool). elim t [ true ↦ state_due n m (pair state_kind ++ pairs set_bytes s) | false ↦ count_due n m (pair state_kind ++ pairs set_bytes s) ]) (lt-ltb (length m.states) (m.p + m.c) less)
      ∙ kind_read n state_kind (pairs set_bytes s) (λ cs. afterwards (whole_number 2 n set_bytes cs) (λ s. Got (State m s))) (omega arith)
      ∙ ap (λ (r : Outcome ℕ). afterwards r (λ s. Got (State m s))) (whole-number-pairs 2 n set_bytes s h)
  holds_read so l (Closing m x) (u, all, e, h, i) =
      ap₂ (claim_read n) u e
      ∙ ap (λ (t : Bool). elim t [ true ↦ state_due n m (pair claim_count_kind ++ pairs 2 x) | false ↦ count_due n m (pair claim_count_kind ++ pairs 2 x) ]) (le-ltb (length m.states) (m.p + m.c) all)
      ∙ kind_read n claim_count_kind (pairs 2 x) (λ cs. afterwards (whole_number 2 n 2 cs) (counted n m)) (omega arith)
      ∙ ap (λ (r : Outcome ℕ). afterwards r (counted n m)) (whole-number-pairs 2 n 2 x h)
      ∙ ap (λ (t : Bool). refuse (not t) (BadFrame 2 n) (Got (Closing m x))) (eq-eqb (x + 1) n i)

-- ---- read, then written

number_refused : (n k : ℕ) (cs : List ℕ) (a : Refusal) → whole_number 2 n k cs ≡ Refused a → a ≡ BadFrame 2 n
unfolding whole_number
number_refused n k cs a h = go (number k cs) h
  where
    go : (r : Option ℕ) → ◌≡◌ {A = Outcome ℕ} (elim r [ none ↦ Refused (BadFrame 2 n) | some x ↦ Got x ]) (Refused a) → a ≡ BadFrame 2 n
    go none e = cc
    go (some x) e = refused_got (sym e)

module _ (n : ℕ) (so : ClaimSofar) (l : List ℕ) where
  -- What the line comes to: what it holds, or 16.
  abbrev Comes : Outcome ClaimFrame → Type 0
  Comes (Got f) = Holds so n l f
  Comes (Refused a) = a ≡ BadFrame 2 n

  refuse_comes : (t : Bool) (r : Outcome ClaimFrame) → (t ≡ false → Comes r) → Comes (refuse t (BadFrame 2 n) r)
  refuse_comes true r f = refl
  refuse_comes false r f = f refl

  -- A line of kind k with k' pairs of content.
  content_comes : (k j : ℕ) (g : ℕ → Outcome ClaimFrame) → k < 256 → ((x : ℕ) → l ≡ pair k ++ pairs j x → x < 256 ^ j → Comes (g x)) → Comes (refuse (not (eqb (kind_of l) k)) (BadFrame 2 n) (afterwards (whole_number 2 n j (drop 2 l)) g))
  content_comes k j g h f = refuse_comes (not (eqb (kind_of l) k)) _ (λ t. go (whole_number 2 n j (drop 2 l)) refl (line_kind l k (eqb-true (kind_of l) k (not-false (eqb (kind_of l) k) t)) h))
    where
      go : (r : Outcome ℕ) → whole_number 2 n j (drop 2 l) ≡ r → l ≡ pair k ++ drop 2 l → Comes (afterwards r g)
      go (Got x) e w = let (v, b) = whole-number_got 2 n j (drop 2 l) x e in f x (w ∙ ap (λ (cs : List ℕ). pair k ++ cs) v) b
      go (Refused a) e w = number_refused n j (drop 2 l) a e

line_comes : (n : ℕ) (so : ClaimSofar) (l : List ℕ) → Comes n so l (claim_read n so l)
unfolding claim_read
line_comes n ClaimDue l =
    content_comes n ClaimDue l claim_kind 4 (sized n) (omega arith) (λ x w b.
    refuse_comes n ClaimDue l (eqb (x % 65536) 0) _ (λ given.
    refuse_comes n ClaimDue l (ltb base.states (x / 65536 + x % 65536)) (Got (Sizes (x / 65536) (x % 65536))) (λ most.
    let same : x ≡ x / 65536 * 65536 + x % 65536 = omega arith in
    let least : x % 65536 ≡ 0 → ⊥ = eqb-false (x % 65536) 0 given in (
      refl,
      w ∙ ap (λ (cs : List ℕ). pair claim_kind ++ cs) (ap (pairs 4) same ∙ pairs_four (x / 65536) (x % 65536) (omega arith)),
      omega arith,
      omega arith,
      omega (arith, least),
      ltb-false base.states (x / 65536 + x % 65536) most,
    ))))
line_comes n (StatesDue m) l = go (ltb (length m.states) (m.p + m.c)) refl
  where
    go : (t : Bool) → ltb (length m.states) (m.p + m.c) ≡ t → Comes n (StatesDue m) l (elim t [ true ↦ state_due n m l | false ↦ count_due n m l ])
    go true e = content_comes n (StatesDue m) l state_kind set_bytes (λ s. Got (State m s)) (omega arith) (λ s w b. (refl, ltb-true (length m.states) (m.p + m.c) e, w, b))
    go false e =
        content_comes n (StatesDue m) l claim_count_kind 2 (counted n m) (omega arith) (λ x w b.
        refuse_comes n (StatesDue m) l (not (eqb (x + 1) n)) (Got (Closing m x)) (λ t. (refl, ltb-false (length m.states) (m.p + m.c) e, w, b, eqb-true (x + 1) n (not-false (eqb (x + 1) n) t))))
line_comes n (ClaimWhole m) l = refl

-- ---- the claim so far, and what a line holds, are one

holds_unique : (so : ClaimSofar) (n : ℕ) (l : List ℕ) (f g : ClaimFrame) → Holds so n l f → Holds so n l g → f ≡ g
holds_unique so n l f g h k = got_eq (sym (holds_read n so l f h) ∙ holds_read n so l g k)

frame_judged : (vars n : ℕ) (f : ClaimFrame) → Meets (Try (UsesOutside vars f) (Outside 2 n) Done) (λ to. to ≡ added f) (judged vars n f)
frame_judged vars n (Sizes p c) = meets_past _ _ _ _ _ (λ h. h) (meets_got _ _ refl)
frame_judged vars n (State m s) =
    meets_test _ _ _ _ (not (inside s vars)) _
    (λ e. false_inside s vars (not-true (inside s vars) e))
    (λ e f. f (true_inside s vars (not-false (inside s vars) e)))
    (λ e. meets_got _ _ refl)
frame_judged vars n (Closing m x) = meets_past _ _ _ _ _ (λ h. h) (meets_got _ _ refl)

module _ (vars : ℕ) where
  framing_unique : (back : List (List ℕ)) (so to : ClaimSofar) → Framing vars back so → Framing vars back to → so ≡ to
  framing_unique [] so to e f = e ∙ sym f
  framing_unique (l ∷ back) so to (was, f, t, y, n, e) (then, g, u, z, m, k) =
      let same : was ≡ then = framing_unique back was then t u in
      let frame : f ≡ g = holds_unique then (suc (length back)) l f g (subst (λ (w : ClaimSofar). Holds w (suc (length back)) l f) same y) z in
      e ∙ ap added frame ∙ sym k

  module _ (back : List (List ℕ)) (so : ClaimSofar) (t : Framing vars back so) where
    -- What holds of some claim of the lines holds of the claim so far.
    behind_is : (P : ClaimSofar → Type 0) → Behind vars back P → P so
    behind_is P (to, u, p) = subst P (framing_unique back to so u t) p

    -- A line meets its faults in their order.
    line_meets : (l : List ℕ) → Meets (claim_faults vars (suc (length back)) back l) (Framing vars (l ∷ back)) (claim_line vars (suc (length back)) l so)
    line_meets l = meets_is _ _ _ _ (line_judges vars n so l) (go (claim_read n so l) refl (line_comes n so l))
      where
        n : ℕ
        n = suc (length back)

        outside_is : (f : ClaimFrame) → Holds so n l f → UsesOutside vars f ↔ Behind vars back (λ so. (g : ClaimFrame) × Holds so n l g × UsesOutside vars g)
        outside_is f y = (
          λ p. (so, t, (f, y, p)),
          λ h. let (g, z, p) = behind_is (λ (w : ClaimSofar). (g : ClaimFrame) × Holds w n l g × UsesOutside vars g) h in subst (UsesOutside vars) (holds_unique so n l g f z y) p,
        )

        go : (r : Outcome ClaimFrame) → claim_read n so l ≡ r → Comes n so l r → Meets (claim_faults vars n back l) (Framing vars (l ∷ back)) (afterwards r (judged vars n))
        go (Got f) e c =
            meets_past _ _ _ _ _ (λ h. behind_is (λ (w : ClaimSofar). (g : ClaimFrame) → Holds w n l g → ⊥) h f c)
            (alike_meets (Try (UsesOutside vars f) (Outside 2 n) Done) _ (Framing vars (l ∷ back)) (judged vars n f)
            (outside_is f c, refl, tt)
            (meets_keeps (Try (UsesOutside vars f) (Outside 2 n) Done) (λ to. to ≡ added f) (Framing vars (l ∷ back)) _ (frame_judged vars n f) (λ to m k. (so, f, t, c, m.0, k))))
        go (Refused a) e c = meets_is _ _ _ _ (ap Refused c) (meets_here _ _ _ _ (so, t, λ f y. refused_got (sym e ∙ holds_read n so l f y)))

  lines_meet : (ls : List (List ℕ)) → Meets (one_by_one (claim_faults vars) 1 [] ls) (Framing vars (backwards [] ls)) (walk (claim_line vars) 1 ls ClaimDue)
  lines_meet ls = meets_walk (claim_line vars) (claim_faults vars) (Framing vars) (λ back l so t. line_meets back so t l) ls [] ClaimDue refl

  -- ---- behind the last line

  end_meets : (text : List ℕ) (so : ClaimSofar) → Framing vars (backwards [] (ended text)) so → Meets (Try (ClaimEndsEarly vars text) (BadFrame 2 0) Done) (λ m. so ≡ ClaimWhole m) (claim_end (unended text) so)
  unfolding claim_end
  end_meets text so t = ends (unended text) so refl refl
    where
      M : Outcome Claim → Type 0
      M = Meets (Try (ClaimEndsEarly vars text) (BadFrame 2 0) Done) (λ m. so ≡ ClaimWhole m)

      ends : (u : List ℕ) (v : ClaimSofar) → unended text ≡ u → so ≡ v → M (claim_end u v)
      ends [] ClaimDue e f = meets_here _ _ _ _ (inr (so, t, λ m k. let z : ClaimDue ≡ ClaimWhole m = sym f ∙ k in let z : ◌≡◌ {A = ℕ} 0 1 = cc in omega arith))
      ends [] (StatesDue x) e f = meets_here _ _ _ _ (inr (so, t, λ m k. let z : StatesDue x ≡ ClaimWhole m = sym f ∙ k in let z : ◌≡◌ {A = ℕ} 0 1 = cc in omega arith))
      ends [] (ClaimWhole m) e f = meets_past _ _ _ _ _ (⊎_elim (λ n. n e) (λ h. behind_is (backwards [] (ended text)) so t (λ (w : ClaimSofar). (m : Claim) → w ≡ ClaimWhole m → ⊥) h m f)) (meets_got _ m f)
      ends (c ∷ cs) v e f = meets_here _ _ _ _ (inl (λ k. let z : c ∷ cs ≡ [] = sym e ∙ k in let z : ◌≡◌ {A = ℕ} 0 1 = cc in omega arith))

  pub claims_meet : (text : List ℕ) → Meets (claim_order vars text) (Gives vars text) (read_claim vars text)
  unfolding read_claim
  claims_meet text =
      meets_test _ _ _ _ (ltb base.text (length text)) _ (ltb-true base.text (length text)) (λ e h. omega (arith, ltb-false base.text (length text) e)) (λ e.
      meets_afterwards _ _ (Framing vars (backwards [] (ended text))) (Gives vars text) (walk (claim_line vars) 1 (ended text) ClaimDue) (λ s. claim_end (unended text) s) (lines_meet (ended text)) (λ so g t.
      meets_keeps _ _ (Gives vars text) (claim_end (unended text) so) (end_meets text so t) (λ m n e. (so, t, e))))

  pub gives_unique : (text : List ℕ) (m k : Claim) → Gives vars text m → Gives vars text k → m ≡ k
  gives_unique text m k (so, t, p) (to, u, q) = let e : ClaimWhole m ≡ ClaimWhole k = sym p ∙ framing_unique (backwards [] (ended text)) so to t u ∙ q in cc
