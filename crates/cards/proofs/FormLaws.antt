-- Laws of cards in form: every card is formed as RULES 2.1 to 2.3 ask, and the statements together hold what columns 7 to 72 hold.
use mathlib.Core.Path.{◌≡◌, refl, sym, ap, ◌∙◌, subst}
use mathlib.Core.Logic.{◌⊎◌, inl, inr, ⊎_elim}
use mathlib.Core.Bool.{Bool, true, false, not, ◌&&◌, ◌||◌}
use mathlib.Core.List.{List, [], ◌∷◌, ◌++◌, map, append_assoc}
use Prim.Native.Nat.{ℕ, suc, ◌+◌, ◌≤◌}
use native.Mathlib.Omega.{arith}
use borrow.Author.Tests.{le-ltb, ltb-false, eqb-true}
use lib.Dec.{ltb, eqb}
use lib.ListN.{length, get_or}
use Rattle.lists.specs.Lists.{Each}
use Rattle.lists.proofs.Laws.{each_map, keep_append}
use Rattle.decks.specs.declared.Refusal.TheVariants.{BadNumber, NoneOpen, TooManyCards}
use Rattle.decks.specs.Answers.{Got, Refused, refuse}
use Rattle.decks.specs.Readings.{walk}
use Rattle.cards.specs.Card.{blank, field_end, card_columns, continuations, columns, every, is_blank, is_digit, printable, Kind, Comment, Empty, Opening, Continuing, is_comment, kind_of, numbered, Open, Shut, Continued, opened, card_in_form, in_form}
use Rattle.cards.specs.Statement.{Statement, field_of, Hand, Nothing, Held, laid, folded, gathered, statements_of}
use Rattle.cards.specs.Columns.{punched, remark, card_text, deck_text, together, Margins, Formed}
use Rattle.decks.proofs.Outcomes.{Given, given_got, got_given, refuse_given, refuse_not_given, refused_got, got_eq, walk_first}
use Rattle.cards.proofs.StatementLaws.{text_of}
use Rattle.cards.proofs.ColumnLaws.{field-text, blank-text, every_each, every-column, digit-columns, printable_byte}

-- general:

either_true : (s t : Bool) → (s || t) ≡ true → (s ≡ true) ⊎ (t ≡ true)
either_true true t e = inl refl
either_true false t e = inr e

-- Where a test that applies to s = false alone is passed.
apart_passed : (s t : Bool) → (not s && not t) ≡ false → s ≡ false → t ≡ true
apart_passed true t e f = let z : ◌≡◌ {A = ℕ} 0 1 = cc in absurd (omega arith)
apart_passed false true e f = refl
apart_passed false false e f = let z : ◌≡◌ {A = ℕ} 0 1 = cc in absurd (omega arith)

-- ---- one card

pub numbered-margins : (card : List ℕ) → every is_blank (columns 1 5 card) ≡ true → numbered card ≡ true → Margins card
numbered-margins card s e = record {
  start_blank = λ c l h. eqb-true (punched card c) blank (every-column is_blank 1 5 card (omega arith) s c l h);
  end_numbered =
      ⊎_elim
      (λ b. inl (λ c l h. eqb-true (punched card c) blank (every-column is_blank 73 card_columns card (omega arith) b c l h)))
      (λ d. inr (λ c l h. digit-columns (punched card c) (every-column is_digit 73 card_columns card (omega arith) d c l h)))
      (either_true (every is_blank (columns 73 card_columns card)) (every is_digit (columns 73 card_columns card)) e);
}

-- On a comment columns 73 to 80 are free; on any other card they are judged, behind columns 1 to 5.
comment_free : (n : ℕ) (card : List ℕ) (o : Open) → every printable card ≡ true → length card ≤ card_columns → is_comment card ≡ true → card_in_form n card o ≡ opened n (kind_of card) o
unfolding card_in_form
comment_free n card o b w c = simp (b, le-ltb card_columns (length card) w, c)

number_judged : (n : ℕ) (card : List ℕ) (o : Open) → every printable card ≡ true → length card ≤ card_columns → is_comment card ≡ false → every is_blank (columns 1 5 card) ≡ true → numbered card ≡ false → card_in_form n card o ≡ Refused (BadNumber n)
unfolding card_in_form
number_judged n card o b w c s e = simp (b, le-ltb card_columns (length card) w, c, s, e)

-- A card that passes is formed as RULES 2.1 to 2.3 ask, and opens, continues or closes as its kind says.
card_given : (n : ℕ) (card : List ℕ) (o : Open) → Given (λ (q : Open). Formed card × (opened n (kind_of card) o ≡ Got q)) (card_in_form n card o)
unfolding card_in_form
card_given n card o =
    let P : Open → Type 0 = λ q. Formed card × (opened n (kind_of card) o ≡ Got q) in
    refuse_not_given P (every printable card) _ _ (λ bytes.
    refuse_given P (ltb card_columns (length card)) _ _ (λ wide.
    refuse_given P (not (is_comment card) && not (every is_blank (columns 1 5 card))) _ _ (λ start.
    refuse_given P (not (is_comment card) && not (numbered card)) _ _ (λ number.
    given_got P (opened n (kind_of card) o) (λ q e. (
      record {
        bytes_in = each_map (λ (c : ℕ). printable c ≡ true) (λ (b : ℕ). (32 ≤ b) × (b ≤ 126)) card printable_byte (every_each printable card bytes);
        width = ltb-false card_columns (length card) wide;
        margins = λ c. numbered-margins card (apart_passed (is_comment card) (every is_blank (columns 1 5 card)) start c) (apart_passed (is_comment card) (numbered card) number c);
      },
      e,
    ))))))

pub card-formed : (n : ℕ) (card : List ℕ) (o p : Open) → card_in_form n card o ≡ Got p → Formed card × (opened n (kind_of card) o ≡ Got p)
card-formed n card o p e = got_given (λ (q : Open). Formed card × (opened n (kind_of card) o ≡ Got q)) (card_in_form n card o) p (card_given n card o) e

opened_comment : (n : ℕ) (o : Open) → opened n Comment o ≡ Got o
unfolding opened
opened_comment n o = refl

opened_empty : (n : ℕ) (o : Open) → opened n Empty o ≡ Got Shut
unfolding opened
opened_empty n o = refl

opened_opening : (n : ℕ) (o : Open) → opened n Opening o ≡ Got (Continued 0)
unfolding opened
opened_opening n o = refl

none_open : (n : ℕ) → opened n Continuing Shut ≡ Refused (NoneOpen n)
unfolding opened
none_open n = refl

continued : (n k : ℕ) (u : Open) → opened n Continuing (Continued k) ≡ Got u → u ≡ Continued (k + 1)
unfolding opened
continued n k u e = go (ltb continuations (k + 1)) e
  where
    go : (t : Bool) → refuse t (TooManyCards n) (Got (Continued (k + 1))) ≡ Got u → u ≡ Continued (k + 1)
    go true q = refused_got q
    go false q = sym (got_eq q)

-- Every card of cards in form is formed.
pub cards_formed : (n : ℕ) (cards : List (List ℕ)) (o p : Open) → walk card_in_form n cards o ≡ Got p → Each Formed cards
cards_formed n [] o p e = tt
cards_formed n (c ∷ cs) o p e = let w = walk_first card_in_form n c cs o p e in ((card-formed n c o w.0 w.1).0, cards_formed (suc n) cs w.0 p w.2)

-- ---- the statements together

-- What the kind says of columns 1 to 72.
abbrev KindSays : List ℕ → Kind → Type 0
KindSays card Comment = remark card ≡ true
KindSays card Empty = (remark card ≡ false) × (card_text card ≡ [])
KindSays card Opening = remark card ≡ false
KindSays card Continuing = remark card ≡ false

kind_says : (card : List ℕ) → KindSays card (kind_of card)
unfolding kind_of
kind_says card = first (is_comment card) refl
  where
    third : (t : Bool) → remark card ≡ false → KindSays card (elim t [ true ↦ Opening | false ↦ Continuing ])
    third true e = e
    third false e = e

    second : (t : Bool) → every is_blank (columns 1 field_end card) ≡ t → remark card ≡ false → KindSays card (elim t [ true ↦ Empty | false ↦ elim (is_blank (get_or card 5 blank) || eqb (get_or card 5 blank) 48) [ true ↦ Opening | false ↦ Continuing ] ])
    second true b e = (e, blank-text card b)
    second false b e = third (is_blank (get_or card 5 blank) || eqb (get_or card 5 blank) 48) e

    first : (t : Bool) → is_comment card ≡ t → KindSays card (elim t [ true ↦ Comment | false ↦ elim (every is_blank (columns 1 field_end card)) [ true ↦ Empty | false ↦ elim (is_blank (get_or card 5 blank) || eqb (get_or card 5 blank) 48) [ true ↦ Opening | false ↦ Continuing ] ] ])
    first true e = e
    first false e = second (every is_blank (columns 1 field_end card)) refl e

text-remark : (c : List ℕ) (cs : List (List ℕ)) → remark c ≡ true → deck_text (c ∷ cs) ≡ deck_text cs
unfolding deck_text
text-remark c cs e = simp (e, deck_text)

text-card : (c : List ℕ) (cs : List (List ℕ)) → remark c ≡ false → deck_text (c ∷ cs) ≡ card_text c ++ deck_text cs
unfolding deck_text
text-card c cs e = simp (e, deck_text)

-- The statement in hand stands open.
abbrev Agree : Open → Hand → Type 0
Agree Shut Nothing = Unit
Agree Shut (Held s) = ⊥
Agree (Continued k) Nothing = ⊥
Agree (Continued k) (Held s) = Unit

abbrev ink_held : Hand → List ℕ
ink_held Nothing = []
ink_held (Held s) = text_of s

texts_laid : (h : Hand) (ss : List Statement) → together (map text_of (laid h ss)) ≡ ink_held h ++ together (map text_of ss)
unfolding together
texts_laid Nothing ss = refl
texts_laid (Held s) ss = refl

-- The texts of the statements, one behind the other, are what columns 7 to 72 hold, behind the text in hand.
texts_gathered : (cards : List (List ℕ)) (n : ℕ) (o p : Open) (h : Hand) → Agree o h → walk card_in_form n cards o ≡ Got p → together (map text_of (gathered n cards h)) ≡ ink_held h ++ deck_text cards
unfolding gathered together deck_text
texts_gathered [] n o p h a e = texts_laid h []
texts_gathered (c ∷ cs) n o p h a e =
    let w = walk_first card_in_form n c cs o p e in
    go (kind_of c) (kind_says c) w.0 (card-formed n c o w.0 w.1).1 (λ g b. texts_gathered cs (suc n) w.0 p g b w.2)
  where
    closed : (u : Open) → Got Shut ≡ Got u → ((g : Hand) → Agree u g → together (map text_of (gathered (suc n) cs g)) ≡ ink_held g ++ deck_text cs) → together (map text_of (laid h (gathered (suc n) cs Nothing))) ≡ ink_held h ++ deck_text cs
    closed u q f = texts_laid h (gathered (suc n) cs Nothing) ∙ ap (λ (x : List ℕ). ink_held h ++ x) (f Nothing (subst (λ (v : Open). Agree v Nothing) (got_eq q) tt))

    goes_on : (o : Open) (h : Hand) → Agree o h → remark c ≡ false → (u : Open) → opened n Continuing o ≡ Got u → ((g : Hand) → Agree u g → together (map text_of (gathered (suc n) cs g)) ≡ ink_held g ++ deck_text cs) → together (map text_of (gathered (suc n) cs (folded n c h))) ≡ ink_held h ++ deck_text (c ∷ cs)
    goes_on Shut Nothing a r u q f = refused_got (sym (none_open n) ∙ q)
    goes_on Shut (Held s) a r u q f = absurd a
    goes_on (Continued k) Nothing a r u q f = absurd a
    goes_on (Continued k) (Held s) a r u q f =
        f (folded n c (Held s)) (subst (λ (v : Open). Agree v (folded n c (Held s))) (sym (continued n k u q)) tt)
        ∙ ap (λ (x : List ℕ). x ++ deck_text cs) (keep_append (λ (x : ℕ). not (is_blank x)) s.field (field_of c) ∙ ap (λ (x : List ℕ). text_of s ++ x) (field-text c))
        ∙ append_assoc (text_of s) (card_text c) (deck_text cs)
        ∙ ap (λ (x : List ℕ). text_of s ++ x) (sym (text-card c cs r))

    go : (k : Kind) → KindSays c k → (u : Open) → opened n k o ≡ Got u → ((g : Hand) → Agree u g → together (map text_of (gathered (suc n) cs g)) ≡ ink_held g ++ deck_text cs) → together (map text_of (elim k [
      | Comment ↦ gathered (suc n) cs h
      | Empty ↦ laid h (gathered (suc n) cs Nothing)
      | Opening ↦ laid h (gathered (suc n) cs (Held (record { card = n; further = []; field = field_of c })))
      | Continuing ↦ gathered (suc n) cs (folded n c h)
    ])) ≡ ink_held h ++ deck_text (c ∷ cs)
    go Comment k u q f = f h (subst (λ (v : Open). Agree v h) (got_eq (sym (opened_comment n o) ∙ q)) a) ∙ ap (λ (x : List ℕ). ink_held h ++ x) (sym (text-remark c cs k))
    go Empty k u q f = closed u (sym (opened_empty n o) ∙ q) f ∙ ap (λ (x : List ℕ). ink_held h ++ x) (sym (text-card c cs k.0 ∙ ap (λ (x : List ℕ). x ++ deck_text cs) k.1))
    go Opening k u q f =
        let s : Statement = record { card = n; further = []; field = field_of c } in
        texts_laid h (gathered (suc n) cs (Held s))
        ∙ ap (λ (x : List ℕ). ink_held h ++ x) (f (Held s) (subst (λ (v : Open). Agree v (Held s)) (got_eq (sym (opened_opening n o) ∙ q)) tt) ∙ ap (λ (x : List ℕ). x ++ deck_text cs) (field-text c) ∙ sym (text-card c cs k))
    go Continuing k u q f = goes_on o h a k u q f

-- The texts of the statements of cards in form, one behind the other, are what columns 7 to 72 of the cards hold.
pub statements-columns : (cards : List (List ℕ)) (p : Open) → in_form cards ≡ Got p → together (map text_of (statements_of cards)) ≡ deck_text cards
statements-columns cards p e = texts_gathered cards 1 Shut p Nothing tt e
