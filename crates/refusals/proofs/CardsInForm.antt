-- The first pass over the cards refuses exactly where a fault of 2 to 7 is the first.
use mathlib.Core.Path.{◌≡◌, refl, sym, ap, ◌∙◌, subst}
use mathlib.Core.Logic.{◌⊎◌, inl, inr, ⊎_elim, by_cases, ◌↔◌}
use mathlib.Core.Bool.{Bool, true, false, not, ◌||◌}
use mathlib.Core.List.{List, [], ◌∷◌}
use Prim.Native.Nat.{ℕ, zero, suc, ◌+◌, ◌<◌, ◌≤◌}
use Prim.Native.Char.{code as character}
use native.Mathlib.Omega.{arith}
use native.Mathlib.Decide.{dec_lt, ℕ_discrete}
use borrow.Author.Tests.{eq-eqb, eqb-true, eqb-false, ltb-true, ltb-false}
use lib.Dec.{eqb, ltb}
use lib.ListN.{length}
use Rattle.lists.specs.Lists.{keep}
use Rattle.lists.proofs.Laws.{keep_pass, keep_fail}
use Rattle.decks.specs.declared.Refusal.{Refusal}
use Rattle.decks.specs.declared.Refusal.TheVariants.{BadByte, TooWide, BadStart, NoneOpen, TooManyCards}
use Rattle.decks.specs.Answers.{Outcome, Got, Refused}
use Rattle.cards.specs.Card.{blank, continuations, columns, every, is_blank, is_comment, Kind, Comment, Empty, Opening, Continuing, kind_of, Open, Shut, Continued, opened, card_in_form, in_form}
use Rattle.cards.specs.Columns.{punched, remark}
use Rattle.cards.specs.Comments.{uncommented}
use Rattle.cards.proofs.ColumnLaws.{every-column}
use Rattle.cards.proofs.CardsExactlyWhen.{BytesIn, StartBlank, card_comes, column-every}
use Rattle.refusals.specs.Order.{Conditions, Done, Try, FirstOf, one_by_one, backwards}
use Rattle.refusals.specs.CardFaults.{ByteOutside, OverWide, StartPunched, Continues, Opens, OpenOver, ContinuesNone, Twentieth, card_faults}
use Rattle.refusals.proofs.OrderLaws.{true_false, Meets, meets_exactly, meets_here, meets_past, meets_test, meets_got, meets_walk}

-- ---- the bytes and columns of one card

byte_inside : (card : List ℕ) → BytesIn card → ByteOutside card → ⊥
byte_inside [] _ x3 = elim x3 [ ]
byte_inside (b ∷ bs) ((l, m), hs) (inl (inl h)) = omega arith
byte_inside (b ∷ bs) ((l, m), hs) (inl (inr h)) = omega arith
byte_inside (b ∷ bs) (h, hs) (inr s) = byte_inside bs hs s

byte_outside : (card : List ℕ) → (BytesIn card → ⊥) → ByteOutside card
byte_outside [] n = absurd (n tt)
byte_outside (b ∷ bs) n =
    by_cases
    (dec_lt b 32)
    (λ h. inl (inl h))
    (λ low. by_cases (dec_lt 126 b) (λ h. inl (inr h)) (λ high. inr (byte_outside bs (λ hs. n ((omega arith, omega arith), hs)))))

-- All of the k columns from c on are blank, or one is not.
column_search : (card : List ℕ) (k c : ℕ) → ((x : ℕ) → c ≤ x → x < c + k → punched card x ≡ character " ") ⊎ ((x : ℕ) × (c ≤ x) × (x < c + k) × (punched card x ≡ character " " → ⊥))
column_search card zero c = inl (λ x l h. absurd (omega arith))
column_search card (suc k) c =
    by_cases
    (ℕ_discrete (punched card c) (character " "))
    (λ e.
    ⊎_elim
    (λ f. inl (λ x l h. by_cases (ℕ_discrete c x) (λ s. subst (λ (y : ℕ). punched card y ≡ character " ") s e) (λ n. f x (omega arith) (omega arith))))
    (λ (x, l, h, n). inr (x, omega arith, omega arith, n))
    (column_search card k (suc c)))
    (λ n. inr (c, omega arith, omega arith, n))

start_punched : (card : List ℕ) → remark card ≡ false → (StartBlank card → ⊥) → StartPunched card
start_punched card r n =
    (r, ⊎_elim (λ f. absurd (n (λ c l h. f c l (omega arith)))) (λ (c, l, h, p). (c, l, omega arith, p)) (column_search card 5 1))

-- ---- kinds

-- What the kind of a card says of its columns.
abbrev KindIs : List ℕ → Kind → Type 0
KindIs card Comment = remark card ≡ true
KindIs card Empty = (remark card ≡ false) × ((c : ℕ) → 1 ≤ c → c ≤ 72 → punched card c ≡ character " ")
KindIs card Opening = Opens card
KindIs card Continuing = Continues card

neither : (s t : Bool) → (s || t) ≡ false → (s ≡ false) × (t ≡ false)
neither true t e = true_false e
neither false t e = (refl, e)

one_of : (s t : Bool) → (s || t) ≡ true → (s ≡ true) ⊎ (t ≡ true)
one_of true t e = inl refl
one_of false t e = inr e

kind_is_lem : (card : List ℕ) → KindIs card (kind_of card)
unfolding kind_of
kind_is_lem card = comment (is_comment card) refl
  where
    sixth : (t : Bool) → (eqb (punched card 6) blank || eqb (punched card 6) (character "0")) ≡ t → remark card ≡ false → every is_blank (columns 1 72 card) ≡ false → KindIs card (elim t [ true ↦ Opening | false ↦ Continuing ])
    sixth true e r p = (
      r,
      ⊎_elim (λ s. inl (eqb-true (punched card 6) blank s)) (λ s. inr (eqb-true (punched card 6) (character "0") s)) (one_of (eqb (punched card 6) blank) (eqb (punched card 6) (character "0")) e),
      ⊎_elim
          (λ f. true_false (sym (column-every is_blank 1 72 card (omega arith) (λ c l h. eq-eqb (punched card c) blank (f c l (omega arith)))) ∙ p))
          (λ (c, l, h, n). (c, l, omega arith, n))
          (column_search card 72 1),
    )
    sixth false e r p =
        let (s, t) = neither (eqb (punched card 6) blank) (eqb (punched card 6) (character "0")) e in
        (r, eqb-false (punched card 6) blank s, eqb-false (punched card 6) (character "0") t)

    empty : (t : Bool) → every is_blank (columns 1 72 card) ≡ t → remark card ≡ false → KindIs card (elim t [ true ↦ Empty | false ↦ elim (eqb (punched card 6) blank || eqb (punched card 6) (character "0")) [ true ↦ Opening | false ↦ Continuing ] ])
    empty true e r = (r, λ c l h. eqb-true (punched card c) blank (every-column is_blank 1 72 card (omega arith) e c l h))
    empty false e r = sixth (eqb (punched card 6) blank || eqb (punched card 6) (character "0")) refl r e

    comment : (t : Bool) → is_comment card ≡ t → KindIs card (elim t [
      | true ↦ Comment
      | false ↦ elim (every is_blank (columns 1 72 card)) [ true ↦ Empty | false ↦ elim (eqb (punched card 6) blank || eqb (punched card 6) (character "0")) [ true ↦ Opening | false ↦ Continuing ] ]
    ])
    comment true e = e
    comment false e = empty (every is_blank (columns 1 72 card)) refl e

opens-continues : (card : List ℕ) → Opens card → Continues card → ⊥
opens-continues card (r, inl e, p) (s, n, m) = n e
opens-continues card (r, inr e, p) (s, n, m) = m e

-- A blank card neither opens nor continues.
empty_opens_none : (card : List ℕ) → KindIs card Empty → Opens card → ⊥
empty_opens_none card (r, f) (s, p, (c, l, h, n)) = n (f c l h)

empty_continues_none : (card : List ℕ) → KindIs card Empty → Continues card → ⊥
empty_continues_none card (r, f) (s, n, m) = n (f 6 (omega arith) (omega arith))

-- ---- the open statement

open_unique : (back : List (List ℕ)) (k j : ℕ) → OpenOver k back → OpenOver j back → k ≡ j
open_unique [] k j p q = elim p [ ]
open_unique (c ∷ cs) zero zero p q = refl
open_unique (c ∷ cs) zero (suc j) p (q, r) = absurd (opens-continues c p q)
open_unique (c ∷ cs) (suc k) zero (p, r) q = absurd (opens-continues c q p)
open_unique (c ∷ cs) (suc k) (suc j) (p, r) (q, s) = ap suc (open_unique cs k j r s)

closed_none : (card : List ℕ) (back : List (List ℕ)) → (Opens card → ⊥) → (Continues card → ⊥) → (k : ℕ) → OpenOver k (card ∷ back) → ⊥
closed_none card back o c zero p = o p
closed_none card back o c (suc k) (p, q) = c p

-- What the open statement is behind cards that are no comments.
abbrev StandsOver : List (List ℕ) → Open → Type 0
StandsOver back Shut = (k : ℕ) → OpenOver k back → ⊥
StandsOver back (Continued k) = OpenOver k back × (k ≤ continuations)

-- What the first pass knows of the cards so far.
abbrev pub Stands : List (List ℕ) → Open → Type 0
Stands back o = StandsOver (uncommented back) o

-- A comment is left out of the cards so far, any other card is one of them.
comment_stands : (card : List ℕ) (back : List (List ℕ)) (o : Open) → remark card ≡ true → StandsOver (uncommented back) o → Stands (card ∷ back) o
comment_stands card back o r s = subst (λ (cs : List (List ℕ)). StandsOver cs o) (sym (keep_fail (λ (c : List ℕ). not (remark c)) card back (ap not r))) s

card-stands : (card : List ℕ) (back : List (List ℕ)) (o : Open) → remark card ≡ false → StandsOver (card ∷ uncommented back) o → Stands (card ∷ back) o
card-stands card back o r s = subst (λ (cs : List (List ℕ)). StandsOver cs o) (sym (keep_pass (λ (c : List ℕ). not (remark c)) card back (ap not r))) s

module _ (n : ℕ) (back : List (List ℕ)) (card : List ℕ) where
  -- 6 and 7.
  abbrev open_faults : Conditions
  open_faults = Try (ContinuesNone back card) (NoneOpen n) (Try (Twentieth back card) (TooManyCards n) Done)

  -- A card that does not continue passes 6 and 7.
  passed_meets : (o : Open) → (Continues card → ⊥) → Stands (card ∷ back) o → Meets open_faults (Stands (card ∷ back)) (Got o)
  passed_meets o c s = meets_past _ _ _ _ _ (λ h. c h.0) (meets_past _ _ _ _ _ (λ h. c h.0) (meets_got _ o s))

  opened_meets : (k : Kind) (o : Open) → KindIs card k → Stands back o → Meets open_faults (Stands (card ∷ back)) (opened n k o)
  unfolding opened
  opened_meets Comment o e s = passed_meets o (λ h. true_false (sym e ∙ h.0)) (comment_stands card back o e s)
  opened_meets Empty o e s =
      passed_meets Shut (empty_continues_none card e) (card-stands card back Shut e.0 (closed_none card (uncommented back) (empty_opens_none card e) (empty_continues_none card e)))
  opened_meets Opening o e s = passed_meets (Continued 0) (opens-continues card e) (card-stands card back (Continued 0) e.0 (e, omega arith))
  opened_meets Continuing Shut e s = meets_here _ _ _ _ (e, s)
  opened_meets Continuing (Continued k) e (s, l) =
      meets_past (ContinuesNone back card) (NoneOpen n) _ (Stands (card ∷ back)) _ (λ h. h.1 k s)
      (meets_test (Twentieth back card) (TooManyCards n) Done (Stands (card ∷ back)) (ltb continuations (k + 1)) (Got (Continued (k + 1)))
      (λ t. let full : k ≡ continuations = omega (arith, ltb-true continuations (k + 1) t) in (e, subst (λ (j : ℕ). OpenOver j (uncommented back)) full s))
      (λ t h. let full = open_unique (uncommented back) k continuations s h.1 in omega (arith, ltb-false continuations (k + 1) t))
      (λ t.
      let more : suc k ≡ k + 1 = omega arith in
      meets_got _ _ (card-stands card back (Continued (k + 1)) e.0 (subst (λ (j : ℕ). OpenOver j (card ∷ uncommented back)) more (e, s), ltb-false continuations (k + 1) t))))

  -- Card n meets its faults in their order.
  pub card_meets : (o : Open) → Stands back o → Meets (card_faults n back card) (Stands (card ∷ back)) (card_in_form n card o)
  card_meets o s =
      ⊎_elim
      (λ (e, b). subst M (sym e) (meets_here _ _ _ _ (byte_outside card b)))
      (⊎_elim
      (λ (e, b, w). subst M (sym e) (bytes _ _ b (meets_here _ _ _ _ w)))
      (⊎_elim
      (λ (e, b, w, r, p). subst M (sym e) (bytes _ _ b (widths _ _ w (meets_here _ _ _ _ (start_punched card r p)))))
      (⊎_elim
      (λ (e, b, w, r, p, m).
      subst M (sym e) (bytes _ _ b (widths _ _ w (starts _ _ p (meets_here _ _ _ _ (r, (λ f. m (record { start_blank = p; end_numbered = inl f }), λ f. m (record { start_blank = p; end_numbered = inr f }))))))))
      (λ (e, f).
      subst M (sym e)
      (bytes _ _ f.bytes_in
      (widths _ _ f.width
      (meets_past _ _ _ _ _ (λ h. unpunched (f.margins h.0).start_blank h)
      (meets_past _ _ _ _ _ (λ (r, (p, q)). ⊎_elim p q (f.margins r).end_numbered) (opened_meets (kind_of card) o (kind_is_lem card) s)))))))))
      (card_comes n card o)
    where
      M : Outcome Open → Type 0
      M = Meets (card_faults n back card) (Stands (card ∷ back))

      Q : Open → Type 0
      Q = Stands (card ∷ back)

      unpunched : StartBlank card → StartPunched card → ⊥
      unpunched p (r, (c, l, h, q)) = q (p c l h)

      bytes : (c : Conditions) (r : Outcome Open) → BytesIn card → Meets c Q r → Meets (Try (ByteOutside card) (BadByte n) c) Q r
      bytes c r b m = meets_past _ _ c Q r (byte_inside card b) m

      widths : (c : Conditions) (r : Outcome Open) → length card ≤ 80 → Meets c Q r → Meets (Try (OverWide card) (TooWide n) c) Q r
      widths c r w m = meets_past _ _ c Q r (λ h. omega (arith, h)) m

      starts : (c : Conditions) (r : Outcome Open) → StartBlank card → Meets c Q r → Meets (Try (StartPunched card) (BadStart n) c) Q r
      starts c r p m = meets_past _ _ c Q r (unpunched p) m

-- All cards meet their faults, card by card.
pub form_meets : (cards : List (List ℕ)) → Meets (one_by_one card_faults 1 [] cards) (Stands (backwards [] cards)) (in_form cards)
unfolding keep
form_meets cards = meets_walk card_in_form card_faults Stands (λ back card o s. card_meets (suc (length back)) back card o s) cards [] Shut (λ k h. h)

-- The first pass refuses exactly where the answer is that of the first fault, card by card, 2 to 7 in number order.
pub form_refused_exactly_when : (cards : List (List ℕ)) (a : Refusal) → (in_form cards ≡ Refused a) ↔ FirstOf (one_by_one card_faults 1 [] cards) a
form_refused_exactly_when cards a = meets_exactly (one_by_one card_faults 1 [] cards) (Stands (backwards [] cards)) (in_form cards) (form_meets cards) a
