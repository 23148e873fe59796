-- What one card comes to in the first pass: conditions on its columns alone for 2 to 5, and then what its kind opens, continues or closes.
use mathlib.Core.Path.{◌≡◌, refl, sym, ap, ◌∙◌, subst}
use mathlib.Core.Logic.{◌⊎◌, inl, inr, ⊎_elim, ◌↔◌}
use mathlib.Core.Bool.{Bool, true, false, not, ◌&&◌, ◌||◌}
use mathlib.Core.List.{List, [], ◌∷◌, map}
use Prim.Native.Nat.{ℕ, zero, suc, ◌+◌, ◌-◌, ◌<◌, ◌≤◌}
use Prim.Native.Char.{code as character}
use native.Mathlib.Omega.{arith}
use borrow.Author.Tests.{le-leb, eq-eqb, eqb-true, ltb-true, ltb-false}
use lib.Dec.{ltb}
use lib.ListN.{length, get_or}
use Rattle.lists.specs.Lists.{Each}
use Rattle.lists.proofs.Laws.{each_map}
use Rattle.decks.specs.declared.Refusal.TheVariants.{BadByte, TooWide, BadStart, BadNumber}
use Rattle.decks.specs.Answers.{Outcome, Got, Refused, refuse}
use Rattle.decks.specs.Readings.{walk}
use Rattle.cards.specs.Card.{blank, card_columns, columns, every, is_blank, is_digit, printable, is_comment, kind_of, numbered, Open, Shut, opened, card_in_form, in_form}
use Rattle.cards.specs.Columns.{punched, remark, Margins, Formed}
use Rattle.decks.proofs.Outcomes.{walk_got, walk_first}
use Rattle.cards.proofs.ColumnLaws.{placed, columns-placed, every_each, every-column, printable_byte}
use Rattle.cards.proofs.FormLaws.{numbered-margins, card-formed, cards_formed}

-- ---- the conditions

-- Every byte is one that a card may hold.
abbrev pub BytesIn : List ℕ → Type 0
BytesIn card = Each (λ (b : ℕ). (32 ≤ b) × (b ≤ 126)) card

-- Columns 1 to 5 are blank.
abbrev pub StartBlank : List ℕ → Type 0
StartBlank card = (c : ℕ) → 1 ≤ c → c ≤ 5 → punched card c ≡ character " "

-- What card n comes to: 2 to 5, each exactly where its fault is the first in number order, or else what its kind makes of the open statement.
abbrev pub CardComes : ℕ → List ℕ → Open → Outcome Open → Type 0
CardComes n card o r =
    ((r ≡ Refused (BadByte n)) × (BytesIn card → ⊥))
    ⊎ (((r ≡ Refused (TooWide n)) × BytesIn card × (80 < length card))
    ⊎ (((r ≡ Refused (BadStart n)) × BytesIn card × (length card ≤ 80) × (remark card ≡ false) × (StartBlank card → ⊥))
    ⊎ (((r ≡ Refused (BadNumber n)) × BytesIn card × (length card ≤ 80) × (remark card ≡ false) × StartBlank card × (Margins card → ⊥))
    ⊎ ((r ≡ opened n (kind_of card) o) × Formed card))))

-- ---- tests that are passed

true_false : {P : Type 0} → true ≡ false → P
true_false e = let z : ◌≡◌ {A = ℕ} 0 1 = cc in absurd (omega arith)

each_every : (t : ℕ → Bool) (cs : List ℕ) → Each (λ (c : ℕ). t c ≡ true) cs → every t cs ≡ true
unfolding every
each_every t [] h = refl
each_every t (c ∷ cs) h = simp (h.0, every) (each_every t cs h.1)

placed-every : (t : ℕ → Bool) (k i : ℕ) (card : List ℕ) → ((j : ℕ) → i ≤ j → j < i + k → t (get_or card j blank) ≡ true) → every t (placed i k card) ≡ true
unfolding placed every
placed-every t zero i card f = refl
placed-every t (suc k) i card f = simp (f i (omega arith) (omega arith), every) (placed-every t k (suc i) card (λ j l h. f j (omega arith) (omega arith)))

pub column-every : (t : ℕ → Bool) (a b : ℕ) (card : List ℕ) → 1 ≤ a → ((c : ℕ) → a ≤ c → c ≤ b → t (punched card c) ≡ true) → every t (columns a b card) ≡ true
column-every t a b card h f =
    ap (every t) (columns-placed a b card)
    ∙ placed-every t (suc b - a) (a - 1) card (λ j l m. let e : suc j - 1 ≡ j = omega arith in subst (λ (i : ℕ). t (get_or card i blank) ≡ true) e (f (suc j) (omega arith) (omega arith)))

bytes-every : (card : List ℕ) → BytesIn card → every printable card ≡ true
bytes-every card h = each_every printable card (each_map (λ (b : ℕ). (32 ≤ b) × (b ≤ 126)) (λ (c : ℕ). printable c ≡ true) card (λ b (l, m). simp (le-leb 32 b l, le-leb b 126 m)) h)

start_every : (card : List ℕ) → StartBlank card → every is_blank (columns 1 5 card) ≡ true
start_every card f = column-every is_blank 1 5 card (omega arith) (λ c l h. eq-eqb (punched card c) blank (f c l h))

either_of : (s t : Bool) → (s ≡ true) ⊎ (t ≡ true) → (s || t) ≡ true
either_of true t h = refl
either_of false t (inl e) = true_false (sym e)
either_of false t (inr e) = e

margins-numbered : (card : List ℕ) → Margins card → numbered card ≡ true
margins-numbered card m =
    either_of (every is_blank (columns 73 card_columns card)) (every is_digit (columns 73 card_columns card))
    (⊎_elim
    (λ f. inl (column-every is_blank 73 card_columns card (omega arith) (λ c l h. eq-eqb (punched card c) blank (f c l h))))
    (λ f. inr (column-every is_digit 73 card_columns card (omega arith) (λ c l h. let (p, q) = f c l h in simp (le-leb 48 (punched card c) p, le-leb (punched card c) 57 q))))
    m.end_numbered)

-- ---- one card

pub card_comes : (n : ℕ) (card : List ℕ) (o : Open) → CardComes n card o (card_in_form n card o)
unfolding card_in_form
card_comes n card o = bytes (every printable card) refl
  where
    numbers : (s t : Bool) → is_comment card ≡ s → numbered card ≡ t → BytesIn card → length card ≤ 80 → (remark card ≡ false → every is_blank (columns 1 5 card) ≡ true) → CardComes n card o (refuse (not s && not t) (BadNumber n) (opened n (kind_of card) o))
    numbers true t c e b w start = inr (inr (inr (inr (refl, record { bytes_in = b; width = w; margins = λ f. true_false (sym c ∙ f) }))))
    numbers false true c e b w start = inr (inr (inr (inr (refl, record { bytes_in = b; width = w; margins = λ f. numbered-margins card (start f) e }))))
    numbers false false c e b w start =
        inr (inr (inr (inl (
          refl,
          b,
          w,
          c,
          (λ x l h. eqb-true (punched card x) blank (every-column is_blank 1 5 card (omega arith) (start c) x l h)),
          λ m. true_false (sym (margins-numbered card m) ∙ e),
        ))))

    starts : (s t : Bool) → is_comment card ≡ s → every is_blank (columns 1 5 card) ≡ t → BytesIn card → length card ≤ 80 → CardComes n card o (refuse (not s && not t) (BadStart n) (refuse (not (is_comment card) && not (numbered card)) (BadNumber n) (opened n (kind_of card) o)))
    starts true t c e b w = numbers (is_comment card) (numbered card) refl refl b w (λ f. true_false (sym c ∙ f))
    starts false true c e b w = numbers (is_comment card) (numbered card) refl refl b w (λ f. e)
    starts false false c e b w = inr (inr (inl (refl, b, w, c, λ f. true_false (sym (start_every card f) ∙ e))))

    widths : (t : Bool) → ltb card_columns (length card) ≡ t → BytesIn card → CardComes n card o (refuse t (TooWide n) (refuse (not (is_comment card) && not (every is_blank (columns 1 5 card))) (BadStart n) (refuse (not (is_comment card) && not (numbered card)) (BadNumber n) (opened n (kind_of card) o))))
    widths true e b = inr (inl (refl, b, ltb-true card_columns (length card) e))
    widths false e b = starts (is_comment card) (every is_blank (columns 1 5 card)) refl refl b (ltb-false card_columns (length card) e)

    bytes : (t : Bool) → every printable card ≡ t → CardComes n card o (refuse (not t) (BadByte n) (refuse (ltb card_columns (length card)) (TooWide n) (refuse (not (is_comment card) && not (every is_blank (columns 1 5 card))) (BadStart n) (refuse (not (is_comment card) && not (numbered card)) (BadNumber n) (opened n (kind_of card) o)))))
    bytes true e = widths (ltb card_columns (length card)) refl (each_map (λ (c : ℕ). printable c ≡ true) (λ (b : ℕ). (32 ≤ b) × (b ≤ 126)) card printable_byte (every_each printable card e))
    bytes false e = inl (refl, λ h. true_false (sym (bytes-every card h) ∙ e))

pub formed-passes : (n : ℕ) (card : List ℕ) (o : Open) → Formed card → card_in_form n card o ≡ opened n (kind_of card) o
formed-passes n card o f =
    ⊎_elim
    (λ (e, b). absurd (b f.bytes_in))
    (⊎_elim
    (λ (e, b, w). absurd (omega (arith, w, f.width)))
    (⊎_elim
    (λ (e, b, w, r, s). absurd (s (f.margins r).start_blank))
    (⊎_elim (λ (e, b, w, r, s, m). absurd (m (f.margins r))) (λ (e, g). e))))
    (card_comes n card o)

-- ---- all cards

kinds_walk : (cards : List (List ℕ)) (n : ℕ) (o p : Open) → Each Formed cards → walk opened n (map kind_of cards) o ≡ Got p → walk card_in_form n cards o ≡ Got p
unfolding walk
kinds_walk [] n o p fs e = e
kinds_walk (c ∷ cs) n o p fs e =
    let w = walk_first opened n (kind_of c) (map kind_of cs) o p e in
    walk_got card_in_form n c cs o w.0 (formed-passes n c o fs.0 ∙ w.1) ∙ kinds_walk cs (suc n) w.0 p fs.1 w.2

walk_kinds : (cards : List (List ℕ)) (n : ℕ) (o p : Open) → walk card_in_form n cards o ≡ Got p → walk opened n (map kind_of cards) o ≡ Got p
unfolding walk
walk_kinds [] n o p e = e
walk_kinds (c ∷ cs) n o p e =
    let w = walk_first card_in_form n c cs o p e in
    walk_got opened n (kind_of c) (map kind_of cs) o w.0 (card-formed n c o w.0 w.1).1 ∙ walk_kinds cs (suc n) w.0 p w.2

-- The cards of a text are in form exactly when every card is formed as RULES 2.1 to 2.3 ask, and their kinds open, continue and close statements as it allows.
pub in_form_exactly : (cards : List (List ℕ)) (p : Open) → (in_form cards ≡ Got p) ↔ (Each Formed cards × (walk opened 1 (map kind_of cards) Shut ≡ Got p))
in_form_exactly cards p = (λ e. (cards_formed 1 cards Shut p e, walk_kinds cards 1 Shut p e), λ (fs, e). kinds_walk cards 1 Shut p fs e)
