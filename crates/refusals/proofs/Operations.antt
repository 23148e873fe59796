-- Laws of the operations on a deck that is read: their refusals stand behind the reader's.
use mathlib.Core.Path.{◌≡◌, refl, sym, ap, ◌∙◌, subst}
use mathlib.Core.Logic.{◌⊎◌, inl, inr, ⊎_elim, by_cases, ◌↔◌}
use mathlib.Core.List.{List}
use Prim.Native.Nat.{ℕ, ◌+◌, ◌^◌, ◌<◌}
use native.Mathlib.Omega.{arith}
use native.Mathlib.Decide.{dec_lt}
use borrow.Author.Tests.{lt-ltb, le-ltb}
use lib.ListN.{length}
use Rattle.std.specs.Prelude.{Result, Ok, Err}
use Rattle.lists.specs.Lists.{Each, ◌among◌}
use Rattle.sets.specs.Sets.{◌∋◌, ◌⊆◌}
use Rattle.sets.proofs.Laws.{subset_dec, member_lt, without-left, without_out, without_in}
use Rattle.logic.specs.Decks.{Deck, base}
use Rattle.logic.specs.Meaning.{Claim, Sized, RunOf, Holds, state_of, ClaimStep, claim_run, position}
use Rattle.logic.specs.Verdicts.{Verdict, Breaking, NotInitial as NotInitialState, NoStep as NoSuchStep, Holding as HoldingProperty, verdict}
use Rattle.logic.proofs.Verdict.{position_is, accepted_exactly_when, refused_20_exactly_when, refused_21_exactly_when, refused_22_exactly_when}
use Rattle.decks.specs.declared.Refusal.{Refusal}
use Rattle.decks.specs.declared.Refusal.TheVariants.{Outside, NoStep, Holding}
use Rattle.decks.specs.Answers.{Outcome, Got, Refused}
use Rattle.texts.specs.Texts.{filled}
use Rattle.cones.specs.Cone.{lowest_outside, cone_read}
use Rattle.cones.proofs.Answered.{read_cone, read_outside, outside_lowest}
use Rattle.pieces.specs.Reduced.{piece_bytes, reduced}
use Rattle.claims.specs.Checked.{verdict_answer}
use Rattle.decks.proofs.Outcomes.{refused_got, got_eq, err_eq}
use Rattle.refusals.specs.Order.{Conditions, Done, Try, FirstOf, NoneOf, rising}
use Rattle.refusals.specs.OperationsOrder.{answer_to, cone_order, room_order, verdict_order}
use Rattle.refusals.proofs.OrderLaws.{Meets, first_unique, first_none, first-left, first-right, none_both, rising-first, rising_none}

-- ---- what meets conditions

-- It is refused as the first condition that holds says; where none holds, it succeeds.
abbrev pub Replies : {B : Type 0} → Conditions → Result B Refusal → Type 0
Replies c (Ok y) = NoneOf c
Replies c (Err a) = FirstOf c a

pub replies_exactly : {B : Type 0} (c : Conditions) (x : Result B Refusal) (a : Refusal) → Replies c x → (x ≡ Err a) ↔ FirstOf c a
replies_exactly c (Ok y) a n = (λ e. let z : ◌≡◌ {A = ℕ} 0 1 = cc in absurd (omega arith), λ f. absurd (first_none c a f n))
replies_exactly c (Err b) a f = (λ e. subst (FirstOf c) (err_eq e) f, λ g. ap Err (first_unique c b a f g))

module _ {A B : Type 0} (c : Conditions) (Q : A → Type 0) (a : Refusal) (f : A → Result B Refusal) (D : A → Type 0) (G : A → Type 0) where
  -- The reader's refusals, and behind them those of the operation on what the text is.
  pub answer_exactly : (r : Outcome A) → Meets c Q r → ((x : A) → (r ≡ Got x) ↔ D x) → ((x : A) → D x → (f x ≡ Err a) ↔ G x) → (answer_to r f ≡ Err a) ↔ (FirstOf c a ⊎ ((x : A) × D x × G x))
  unfolding Meets
  answer_exactly (Got y) (n, q) same g = (
    λ e. let d = (same y).0 refl in inr (y, d, (g y d).0 e),
    ⊎_elim (λ h. absurd (first_none c a h n)) (λ (x, d, h). ap f (got_eq ((same x).1 d)) ∙ (g x d).1 h),
  )
  answer_exactly (Refused b) m same g = (
    λ e. inl (subst (FirstOf c) (err_eq e) m),
    ⊎_elim (λ h. ap Err (first_unique c b a m h)) (λ (x, d, h). refused_got ((same x).1 d)),
  )

-- ---- 17

pub filled_replies : (text out : List ℕ) → Replies (room_order text out) (filled text out).report
unfolding filled
filled_replies text out =
    by_cases
    (dec_lt (length out) (length text))
    (λ h. simp (lt-ltb (length out) (length text) h, filled) (inl (h, refl)))
    (λ n. simp (le-ltb (length out) (length text) (omega arith), filled) (n, tt))

pub reduced_replies : (d : Deck) (out : List ℕ) → Replies (room_order (piece_bytes d) out) (reduced d (length out))
unfolding reduced
reduced_replies d out =
    by_cases
    (dec_lt (length out) (length (piece_bytes d)))
    (λ h. simp (lt-ltb (length out) (length (piece_bytes d)) h, reduced) (inl (h, refl)))
    (λ n. simp (le-ltb (length out) (length (piece_bytes d)) (omega arith), reduced) (n, tt))

-- ---- 9 of a cone

pub cone_replies : (d : Deck) (s : ℕ) → s < 2 ^ base.variables → Replies (cone_order d s) (cone_read d s)
cone_replies d s h =
    by_cases
    (subset_dec s d.vars)
    (λ f. rw (read_cone d s f) (rising_none _ _ base.variables 0 (λ v l k (m, n). n (f v m))))
    (λ n.
    let (m, low) = outside_lowest d s h n in
    let v : ℕ = lowest_outside d s in
    let its : s ∋ v = without-left s d.vars v m in
    rw (read_outside d s n)
    (rising-first (λ v. (s ∋ v) × (d.vars ∋ v → ⊥)) (Outside 0) base.variables 0 v (omega arith) (member_lt base.variables s v h its) (its, without_out s d.vars v m) (λ u l k (i, j). low u k (without_in s d.vars u i j))))

-- ---- 20, 21, 22

module _ (d : Deck) (m : Claim) (sized : Sized base m) (within : Each (λ (s : ℕ). s ⊆ d.vars) m.states) where
  abbrev Unallowed : ℕ → Type 0
  Unallowed i = ClaimStep d m i → ⊥

  run_steps : RunOf d (claim_run m) → (i : ℕ) → i < m.p + m.c → ClaimStep d m i
  unfolding position
  run_steps r i l = subst (ClaimStep d m) (position_is base m sized i l) (r.steps i)

  run_starts : RunOf d (claim_run m) → state_of m 0 among d.inits
  unfolding position
  run_starts r = r.starts

  -- A run of the deck passes 20 and 21.
  none_allowed : RunOf d (claim_run m) → NoneOf (rising Unallowed NoStep (m.p + m.c) 0)
  none_allowed r = rising_none Unallowed NoStep (m.p + m.c) 0 (λ i l h n. n (run_steps r i (omega arith)))

  pub verdict_replies : Replies (verdict_order d m) (verdict_answer (verdict d m))
  verdict_replies = go (verdict d m) refl
    where
      last : Conditions
      last = Try (Holds (claim_run m) d.property 0) Holding Done

      go : (v : Verdict) → verdict d m ≡ v → Replies (verdict_order d m) (verdict_answer v)
      go Breaking e =
          let (r, b) = (accepted_exactly_when base d m sized within).0 e in
          (λ n. n (run_starts r), none_both (rising Unallowed NoStep (m.p + m.c) 0) last (none_allowed r) (b, tt))
      go NotInitialState e = inl ((refused_20_exactly_when base d m sized within).0 e, refl)
      go (NoSuchStep i) e =
          let (s, l, f, n) = (refused_21_exactly_when base d m sized within i).0 e in
          inr (λ k. k s, first-left (rising Unallowed NoStep (m.p + m.c) 0) last (NoStep i) (rising-first Unallowed NoStep (m.p + m.c) 0 i (omega arith) (omega arith) n (λ j x y k. k (f j y))))
      go HoldingProperty e =
          let (r, h) = (refused_22_exactly_when base d m sized within).0 e in
          inr (λ n. n (run_starts r), first-right (rising Unallowed NoStep (m.p + m.c) 0) last Holding (none_allowed r) (inl (h, refl)))
