-- Laws of the statement in hand and of the walk from statement to statement.
use mathlib.Core.Path.{◌≡◌, refl, sym, ap, ap₂, ◌∙◌, subst}
use mathlib.Core.Logic.{by_cases}
use mathlib.Core.Bool.{Bool, true, false, ◌||◌}
use mathlib.Core.List.{List, [], ◌∷◌, ◌++◌}
use Prim.Native.Nat.{ℕ, suc, ◌+◌, ◌-◌, ◌*◌, ◌<◌, ◌≤◌, min}
use native.Mathlib.Omega.{arith}
use native.Mathlib.Numerals.{add-one}
use native.Mathlib.Decide.{dec_lt}
use lib.Dec.{ltb, eqb}
use lib.ListN.{length, take, drop, replicate, length-append, length-take, length-drop, length-replicate, get_or-eq_default}
use lib.Seq.{drop-drop, get_or-take}
use borrow.Rule.Slice.PartMut.{put_mid}
use borrow.Author.Tests.{ltb-false, eqb-true}
use Rattle.lists.specs.Lists.{splice, ended, unended}
use Rattle.lists.proofs.Laws.{padded-append, padded_snoc, splice-splice}
use Rattle.decks.specs.declared.Refusal.TheVariants.{TooManyCards}
use Rattle.decks.specs.Answers.{Got}
use Rattle.decks.specs.Readings.{walk}
use Rattle.decks.proofs.Outcomes.{got_eq, refuse_got, refuse_not, walk_first}
use Rattle.cards.proofs.FormLaws.{card-formed}
use Rattle.cards.specs.Card.{cards_of, blank, every, is_blank, is_comment, field_start, field_end, column, columns, continuations, Kind, Comment, Empty, Opening, Continuing, kind_of, Open, Continued, opened, card_in_form}
use Rattle.cards.specs.Statement.{Statement, Nothing, Held, gathered, field_of}
use Rattle.firstpass.specs.declared.CardKind.{CardKind}
use Rattle.firstpass.specs.declared.CardKind.TheVariants.{Comment as CommentCard, Empty as EmptyCard, Opening as OpeningCard, Continuing as ContinuingCard}
use Rattle.firstpass.specs.contracts.CardKind.{the_type}
use Rattle.firstpass.specs.declared.Cards.{Cards}
use denote.Enum.Bare.{sameb}
use Rattle.firstpass.specs.Passed.{free, kind_is}
use Rattle.firstpass.proofs.Laws.{first-card, field-filled, free_comment}
use Rattle.ends.specs.Ends.{line_length}
use Rattle.statements.specs.declared.Stmt.{Stmt}
use Rattle.statements.specs.declared.Opener.{Opener}
use Rattle.statements.specs.Hold.{held, stmt_of, Room, filled, with_card, opens, continues, first_continues, continued, Formed, following, from_opener, Placed, Takes}

-- ---- a field put behind those in hand

pub length-filled : (f : List ℕ) → length f ≤ 66 → length (filled f) ≡ 66
length-filled f h = omega (arith, length-append f (replicate (66 - length f) blank), length-replicate {A = ℕ} (66 - length f) blank)

-- A part of a row written over.
part_written : (a k : ℕ) (vs l : List ℕ) → k ≡ length vs → put_mid a k l vs ≡ splice a vs l
part_written a k vs l e = ap (λ (d : List ℕ). take a l ++ (vs ++ d)) (ap (λ (n : ℕ). drop n (drop a l)) e ∙ drop-drop (length vs) a l)

-- The characters with a field put behind those in hand, and blanks behind it.
pub field_written : (at j k : ℕ) (f f' blanks l : List ℕ) → length f ≤ 66 → at ≤ length l → j ≡ length f → k ≡ 66 - length f → f' ≡ f → blanks ≡ replicate (66 - length f) blank → put_mid (at + length f) k (put_mid at j l f') blanks ≡ splice at (filled f) l
field_written at j k f f' blanks l w h ej ek ef eb =
    let n : ℕ = 66 - length f in
    let long : k ≡ length (replicate n blank) = omega (arith, length-replicate {A = ℕ} n blank) in
    ap₂ (λ (x y : List ℕ). put_mid (at + length f) k (put_mid at j l x) y) ef eb
    ∙ ap (λ (x : List ℕ). put_mid (at + length f) k x (replicate n blank)) (part_written at j f l ej)
    ∙ part_written (at + length f) k (replicate n blank) (splice at f l) long
    ∙ splice-splice at f (replicate n blank) l h

-- One more card in hand.
pub held_more : (ks fs f : List ℕ) (n : ℕ) → length ks < 20 → length f ≤ 66 → with_card (held ks fs) n f ≡ held (ks ++ n ∷ []) (fs ++ filled f)
held_more ks fs f n k w =
    let used : length fs + 66 ≡ length (fs ++ filled f) = omega (arith, length-append fs (filled f), length-filled f w) in
    let count : length ks + 1 ≡ length (ks ++ n ∷ []) = omega (arith, length-append ks (n ∷ [])) in
    rw (padded-append 1320 fs (filled f), used, padded_snoc 20 ks n k, count) refl

-- ---- the cards in form

-- A card in form, what it makes of the open statement, and the cards behind it.
walk_next : (n : ℕ) (c : List ℕ) (cs : List (List ℕ)) (o p : Open) → walk card_in_form n (c ∷ cs) o ≡ Got p → (q : Open) × (opened n (kind_of c) o ≡ Got q) × (walk card_in_form (suc n) cs q ≡ Got p)
walk_next n c cs o p e = let (q, f, g) = walk_first card_in_form n c cs o p e in (q, (card-formed n c o q f).1, g)

-- Behind a card in form come cards in form.
pub formed_next : (n : ℕ) (c : List ℕ) (cs : List (List ℕ)) → Formed n (c ∷ cs) → Formed (suc n) cs
formed_next n c cs f = let w = walk_next n c cs f.before f.behind f.walked in record { before = w.0; behind = f.behind; walked = w.2 }

-- A card that opens no statement, with none in hand, is passed over.
passed_over : (n : ℕ) (c : List ℕ) (cs : List (List ℕ)) (k : Kind) → k ≡ kind_of c → opens k ≡ false → gathered n (c ∷ cs) Nothing ≡ gathered (suc n) cs Nothing
unfolding gathered
passed_over n c cs Comment e o = simp (← e, gathered)
passed_over n c cs Empty e o = simp (← e, gathered)
passed_over n c cs Opening e o = let z : ◌≡◌ {A = ℕ} 0 1 = cc in absurd (omega arith)
passed_over n c cs Continuing e o = simp (← e, gathered)

-- The one that opens one is in hand.
taken_up : (n : ℕ) (c : List ℕ) (cs : List (List ℕ)) → kind_of c ≡ Opening → gathered n (c ∷ cs) Nothing ≡ gathered (suc n) cs (Held (record { card = n; further = []; field = field_of c }))
unfolding gathered
taken_up n c cs e = simp (e, gathered)

-- The cards before which a statement ends.
abbrev ends : Kind → Bool
ends Comment = false
ends Empty = true
ends Opening = true
ends Continuing = false

-- Before a card that ends it the statement in hand is laid down.
laid_down : (n : ℕ) (c : List ℕ) (cs : List (List ℕ)) (s : Statement) (k : Kind) → k ≡ kind_of c → ends k ≡ true → gathered n (c ∷ cs) (Held s) ≡ s ∷ gathered n (c ∷ cs) Nothing
unfolding gathered
laid_down n c cs s Comment e o = let z : ◌≡◌ {A = ℕ} 0 1 = cc in absurd (omega arith)
laid_down n c cs s Empty e o = simp (← e, gathered)
laid_down n c cs s Opening e o = simp (← e, gathered)
laid_down n c cs s Continuing e o = let z : ◌≡◌ {A = ℕ} 0 1 = cc in absurd (omega arith)

-- What a card that does not end it makes of the statement in hand.
abbrev gone_on : Kind → ℕ → List ℕ → Statement → Statement
gone_on Comment n c s = s
gone_on Empty n c s = s
gone_on Opening n c s = s
gone_on Continuing n c s = record { card = s.card; further = s.further ++ (n ∷ []); field = s.field ++ field_of c }

gone_on_lem : (n : ℕ) (c : List ℕ) (cs : List (List ℕ)) (s : Statement) (k : Kind) → k ≡ kind_of c → ends k ≡ false → gathered n (c ∷ cs) (Held s) ≡ gathered (suc n) cs (Held (gone_on k n c s))
unfolding gathered
gone_on_lem n c cs s Comment e o = simp (← e, gathered)
gone_on_lem n c cs s Empty e o = let z : ◌≡◌ {A = ℕ} 0 1 = cc in absurd (omega arith)
gone_on_lem n c cs s Opening e o = let z : ◌≡◌ {A = ℕ} 0 1 = cc in absurd (omega arith)
gone_on_lem n c cs s Continuing e o = simp (← e, gathered)

-- ---- to the next card that opens a statement

other_kind : (kd : CardKind) → false ≡ sameb the_type kd OpeningCard → opens (kind_is kd) ≡ false
other_kind CommentCard e = refl
other_kind EmptyCard e = refl
other_kind OpeningCard e = sym e
other_kind ContinuingCard e = refl

-- The first of the cards that are left, and those behind it.
module _ (left behind : Cards) (card : List ℕ) (next : cards_of left.text.now ≡ card ∷ cards_of behind.text.now) (more : behind.n ≡ left.n + 1) where
  abbrev cards : List (List ℕ)
  cards = cards_of behind.text.now

  number : behind.n ≡ suc left.n
  number = more ∙ add-one left.n

  pub formed_on : Formed left.n (cards_of left.text.now) → Formed behind.n cards
  formed_on f = subst (λ (j : ℕ). Formed j cards) (sym number) (formed_next left.n card cards (subst (Formed left.n) next f))

  pub same_on : (kd : CardKind) → kind_is kd ≡ kind_of card → false ≡ sameb the_type kd OpeningCard → following left ≡ following behind
  same_on kd q n =
      ap (λ (x : List (List ℕ)). gathered left.n x Nothing) next
      ∙ passed_over left.n card cards (kind_is kd) q (other_kind kd n)
      ∙ ap (λ (j : ℕ). gathered j cards Nothing) (sym number)

pub none_left : (text : List ℕ) → length text ≡ 0 → cards_of text ≡ []
unfolding ended unended
none_left [] h = refl
none_left (b ∷ bs) h = absurd (omega arith)

pub no_opener : (all left : Cards) → following all ≡ following left → length left.text.now ≡ 0 → following all ≡ []
unfolding gathered
no_opener all left s h = s ∙ ap (λ (x : List (List ℕ)). gathered left.n x Nothing) (none_left left.text.now h)

-- ---- the statement in hand

-- What is in hand is a statement as memory holds it, with its cards in form so far, and all statements from its first card on are this one and what follows of the cards that are left.
pub record Taking (o : Opener) (stmt : Stmt) (left : Cards) : Type 0 where
  pub in_hand : Statement
  pub is : stmt ≡ stmt_of in_hand
  pub long : length in_hand.field ≡ 66 * (length in_hand.further + 1)
  pub follows : from_opener o ≡ gathered left.n (cards_of left.text.now) (Held in_hand)
  pub behind : Open
  pub walked : walk card_in_form left.n (cards_of left.text.now) (Continued (length in_hand.further)) ≡ Got behind
  pub onward : length left.text.now ≤ length o.behind.text.now

-- The part of a card that is its field.
abbrev part_of_field : List ℕ → List ℕ
part_of_field card = drop (field_start - 1) (take field_end card)

pub part-short : (card : List ℕ) → length (part_of_field card) ≤ 66
part-short card = omega (arith, length-drop 6 (take 72 card), length-take 72 card)

pub field-short : (part card : List ℕ) → part ≡ part_of_field card → length part ≤ 66
field-short part card e = rw e (part-short card)

pub room_none : (s : Stmt) → s ≡ held [] [] → Room s
room_none s e = rw e (omega arith, omega arith)

length-field : (card : List ℕ) → length (field_of card) ≡ 66
length-field card = ap length (sym (field-filled card)) ∙ length-filled (part_of_field card) (part-short card)

open_now : (n : ℕ) (o q : Open) (k : Kind) → k ≡ Opening → opened n k o ≡ Got q → Got q ≡ Got (Continued 0)
unfolding opened
open_now n o q k e g = sym g ∙ rw e refl

pub begun : (o : Opener) (none stmt : Stmt) (part : List ℕ) → Placed o → part ≡ part_of_field o.card.now → none ≡ held [] [] → stmt ≡ with_card none o.n part → Taking o stmt o.behind
begun o none stmt part p q z s =
    let k : ℕ = o.n in
    let c : List ℕ = o.card.now in
    let cs : List (List ℕ) = cards_of o.behind.text.now in
    let f = p.formed in
    let number : o.behind.n ≡ suc k = p.next ∙ add-one k in
    let w = walk_next k c cs f.before f.behind f.walked in
    let shut : w.0 ≡ Continued 0 = got_eq (open_now k f.before w.0 (kind_of c) p.opener w.1) in
    record {
      in_hand = record { card = k; further = []; field = field_of c };
      is = s ∙ ap (λ (x : Stmt). with_card x k part) z ∙ ap (with_card (held [] []) k) q ∙ held_more [] [] (part_of_field c) k (omega arith) (part-short c) ∙ ap (held (k ∷ [])) (field-filled c);
      long = length-field c;
      follows = taken_up k c cs p.opener ∙ ap (λ (j : ℕ). gathered j cs (Held (record { card = k; further = []; field = field_of c }))) (sym number);
      behind = f.behind;
      walked = ap (λ (j : ℕ). walk card_in_form j cs (Continued 0)) number ∙ ap (walk card_in_form (suc k) cs) (sym shut) ∙ w.2;
      onward = omega arith;
    }

-- A continuation in form is the nineteenth at most.
few_on : (n j : ℕ) (q : Open) → opened n Continuing (Continued j) ≡ Got q → j + 1 ≤ 19
unfolding opened
few_on n j q e = ltb-false 19 (j + 1) (refuse_not (ltb continuations (j + 1)) (TooManyCards n) (Got (Continued (j + 1))) q e)

-- The open statement and the one in hand have the same continuations.
state_on : (n : ℕ) (c : List ℕ) (s : Statement) (k : Kind) (q : Open) → ends k ≡ false → opened n k (Continued (length s.further)) ≡ Got q → q ≡ Continued (length (gone_on k n c s).further)
unfolding opened
state_on n c s Comment q o e = sym (got_eq e)
state_on n c s Empty q o e = let z : ◌≡◌ {A = ℕ} 0 1 = cc in absurd (omega arith)
state_on n c s Opening q o e = let z : ◌≡◌ {A = ℕ} 0 1 = cc in absurd (omega arith)
state_on n c s Continuing q o e =
    let j : ℕ = length s.further in
    let more : j + 1 ≡ length (s.further ++ n ∷ []) = omega (arith, length-append s.further (n ∷ [])) in
    sym (got_eq (refuse_got (ltb continuations (j + 1)) (TooManyCards n) (Got (Continued (j + 1))) q e)) ∙ ap Continued more

long_on : (n : ℕ) (c : List ℕ) (s : Statement) (k : Kind) → length s.field ≡ 66 * (length s.further + 1) → length (gone_on k n c s).field ≡ 66 * (length (gone_on k n c s).further + 1)
long_on n c s Comment h = h
long_on n c s Empty h = h
long_on n c s Opening h = h
long_on n c s Continuing h = omega (arith, length-append s.field (field_of c), length-append s.further (n ∷ []), length-field c)

module _ (o : Opener) (stmt : Stmt) (left : Cards) (t : Taking o stmt left) where
  taken : gathered left.n (cards_of left.text.now) (Held t.in_hand) ≡ t.in_hand ∷ following left → Takes o stmt left
  taken e =
      record {
        its = t.in_hand;
        stmt_is = t.is;
        first = t.follows ∙ e;
        onward = t.onward;
        formed = record { before = Continued (length t.in_hand.further); behind = t.behind; walked = t.walked };
      }

  -- At the end of the text the statement is taken.
  pub taken_last : length left.text.now ≡ 0 → Takes o stmt left
  unfolding gathered
  taken_last h = taken (rw (none_left left.text.now h) refl)

  module _ (behind : Cards) (card : List ℕ) (next : cards_of left.text.now ≡ card ∷ cards_of behind.text.now) (more : behind.n ≡ left.n + 1) where
    step : (q : Open) × (opened left.n (kind_of card) (Continued (length t.in_hand.further)) ≡ Got q) × (walk card_in_form (suc left.n) (cards_of behind.text.now) q ≡ Got t.behind)
    step = walk_next left.n card (cards_of behind.text.now) (Continued (length t.in_hand.further)) t.behind (subst (λ (x : List (List ℕ)). walk card_in_form left.n x (Continued (length t.in_hand.further)) ≡ Got t.behind) next t.walked)

    few : Continuing ≡ kind_of card → length t.in_hand.further + 1 ≤ 19
    few g = few_on left.n (length t.in_hand.further) step.0 (ap (λ (x : Kind). opened left.n x (Continued (length t.in_hand.further))) g ∙ step.1)

    -- A continuation in form finds room.
    pub room : Continuing ≡ kind_of card → Room stmt
    room g = let f = few g in rw t.is (omega (arith, t.long), omega arith)

    -- A card that does not end the statement is folded into it.
    gone : (k : Kind) (stmt' : Stmt) → k ≡ kind_of card → ends k ≡ false → length behind.text.now < length left.text.now → stmt' ≡ stmt_of (gone_on k left.n card t.in_hand) → Taking o stmt' behind
    gone k stmt' d f h s =
        let number : behind.n ≡ suc left.n = more ∙ add-one left.n in
        let cs : List (List ℕ) = cards_of behind.text.now in
        let st : Statement = gone_on k left.n card t.in_hand in
        let w1 : opened left.n k (Continued (length t.in_hand.further)) ≡ Got step.0 = ap (λ (x : Kind). opened left.n x (Continued (length t.in_hand.further))) d ∙ step.1 in
        record {
          in_hand = st;
          is = s;
          long = long_on left.n card t.in_hand k t.long;
          follows = t.follows ∙ ap (λ (x : List (List ℕ)). gathered left.n x (Held t.in_hand)) next ∙ gone_on_lem left.n card cs t.in_hand k d f ∙ ap (λ (j : ℕ). gathered j cs (Held st)) (sym number);
          behind = t.behind;
          walked = ap (λ (j : ℕ). walk card_in_form j cs (Continued (length st.further))) number ∙ ap (walk card_in_form (suc left.n) cs) (sym (state_on left.n card t.in_hand k step.0 f w1)) ∙ step.2;
          onward = omega (arith, t.onward);
        }

    pub comment_passed : Comment ≡ kind_of card → length behind.text.now < length left.text.now → Taking o stmt behind
    comment_passed d h = gone Comment stmt d refl h t.is

    pub continuation_folded : (stmt' : Stmt) (part : List ℕ) → Continuing ≡ kind_of card → length behind.text.now < length left.text.now → part ≡ part_of_field card → stmt' ≡ with_card stmt left.n part → Taking o stmt' behind
    continuation_folded stmt' part d h q s =
        gone Continuing stmt' d refl h
        (s
        ∙ ap₂ (λ (x : Stmt) (f : List ℕ). with_card x left.n f) t.is q
        ∙ held_more (t.in_hand.card ∷ t.in_hand.further) t.in_hand.field (part_of_field card) left.n (omega (arith, few d)) (part-short card)
        ∙ ap (λ (f : List ℕ). held (t.in_hand.card ∷ (t.in_hand.further ++ left.n ∷ [])) (t.in_hand.field ++ f)) (field-filled card))

    -- Before a card that ends it the statement is taken.
    taken_before : (k : Kind) → k ≡ kind_of card → ends k ≡ true → Takes o stmt left
    taken_before k d f =
        taken
        (ap (λ (x : List (List ℕ)). gathered left.n x (Held t.in_hand)) next
        ∙ laid_down left.n card (cards_of behind.text.now) t.in_hand k d f
        ∙ ap (λ (x : List (List ℕ)). t.in_hand ∷ gathered left.n x Nothing) (sym next))

    pub taken_before_empty : Empty ≡ kind_of card → Takes o stmt left
    taken_before_empty d = taken_before Empty d refl

    pub taken_before_opening : Opening ≡ kind_of card → Takes o stmt left
    taken_before_opening d = taken_before Opening d refl

-- ---- whether a card continues the statement before it

-- A kind by its three tests: a comment, a blank card, a card with a blank or `0` in column 6.
abbrev kind_by : Bool → Bool → Bool → Kind
kind_by a b c = elim a [ true ↦ Comment | false ↦ elim b [ true ↦ Empty | false ↦ elim c [ true ↦ Opening | false ↦ Continuing ] ] ]

kind_by_lem : (card : List ℕ) → kind_of card ≡ kind_by (is_comment card) (every is_blank (columns 1 field_end card)) (is_blank (column 6 card) || eqb (column 6 card) 48)
unfolding kind_of
kind_by_lem card = refl

not_continuing : (a b : Bool) → continues (kind_by a b true) ≡ false
not_continuing true b = refl
not_continuing false true = refl
not_continuing false false = refl

-- No card continues a statement that has a blank in column 6.
blank_mark : (card : List ℕ) → column 6 card ≡ blank → continues (kind_of card) ≡ false
blank_mark card e =
    ap continues (kind_by_lem card ∙ ap (λ (x : ℕ). kind_by (is_comment card) (every is_blank (columns 1 field_end card)) (is_blank x || eqb x 48)) e)
    ∙ not_continuing (is_comment card) (every is_blank (columns 1 field_end card))

pub blank-continues : (card : List ℕ) (c : ℕ) → c ≡ column 6 card → c ≡ 32 → false ≡ continues (kind_of card)
blank-continues card c e q = sym (blank_mark card (sym e ∙ q))

-- What stands behind the first card of a text, and the cards of the text.
abbrev rest_of : List ℕ → List ℕ
rest_of text = let next = min (length text) (line_length text + 1) in take (length text - next) (drop next text)

first_is : (text : List ℕ) → 0 < length text → cards_of text ≡ take (line_length text) text ∷ cards_of (rest_of text)
first_is text h = first-card text (line_length text) (min (length text) (line_length text + 1)) h (omega arith) refl

-- Nor does the first card of a text that has a blank there, where the card may end before column 6.
pub text_blank-continues : (text : List ℕ) (c : ℕ) → c ≡ column 6 text → c ≡ 32 → false ≡ first_continues (cards_of text)
unfolding ended unended
text_blank-continues [] c e q = refl
text_blank-continues (x ∷ xs) c e q =
    let text : List ℕ = x ∷ xs in
    let n : ℕ = line_length text in
    let there : column 6 (take n text) ≡ 32 =
    by_cases (dec_lt 5 n) (λ l. get_or-take n text 5 blank l ∙ sym e ∙ q) (λ m. get_or-eq_default (take n text) blank {n = 5} (omega (arith, length-take n text))) in
    blank-continues (take n text) _ refl there ∙ sym (ap first_continues (first_is text (omega arith)))

-- ---- whether the first of the cards that is no comment does

module _ (left card behind : List ℕ) (next : cards_of left ≡ card ∷ cards_of behind) where
  looked_at : (b : Bool) → b ≡ is_comment card → continued (cards_of left) ≡ elim b [ true ↦ continued (cards_of behind) | false ↦ continues (kind_of card) ]
  looked_at b n = ap continued next ∙ ap (λ (t : Bool). elim t [ true ↦ continued (cards_of behind) | false ↦ continues (kind_of card) ]) (sym n)

  pub no_comment : (all : Bool) → all ≡ continued (cards_of left) → false ≡ is_comment card → continues (kind_of card) ≡ all
  no_comment all e n = sym (e ∙ looked_at false n)

  pub comment_behind : (all : Bool) → all ≡ continued (cards_of left) → true ≡ is_comment card → all ≡ continued (cards_of behind)
  comment_behind all e n = e ∙ looked_at true n

pub none_continues : (left : List ℕ) (all : Bool) → length left ≡ 0 → all ≡ continued (cards_of left) → false ≡ all
none_continues left all h e = sym (e ∙ ap continued (none_left left h))

-- A text begins as a comment does exactly where its first card is one.
begins_comment : (text : List ℕ) → is_comment text ≡ is_comment (take (line_length text) text)
unfolding line_length
begins_comment [] = refl
begins_comment (x ∷ xs) = go (eqb x 10) refl
  where
    go : (t : Bool) → eqb x 10 ≡ t → is_comment (x ∷ xs) ≡ is_comment (take (elim t [ true ↦ 0 | false ↦ suc (line_length xs) ]) (x ∷ xs))
    go true e = rw (eqb-true x 10 e) refl
    go false e = refl

pub text_no_comment : (text : List ℕ) (all r : Bool) → all ≡ continued (cards_of text) → false ≡ is_comment text → r ≡ first_continues (cards_of text) → r ≡ all
unfolding ended unended
text_no_comment [] all r e n f = f ∙ sym e
text_no_comment (x ∷ xs) all r e n f =
    let text : List ℕ = x ∷ xs in
    let h : 0 < length text = omega arith in
    let first = first_is text h in
    f ∙ ap first_continues first ∙ no_comment text _ (rest_of text) first all e (n ∙ begins_comment text)

pub text_comment_behind : (text card behind : List ℕ) (all : Bool) → all ≡ continued (cards_of text) → true ≡ is_comment text → cards_of text ≡ card ∷ cards_of behind → length behind < length text → all ≡ continued (cards_of behind)
text_comment_behind text card behind all e n next h =
    let same : take (line_length text) text ∷ cards_of (rest_of text) ≡ card ∷ cards_of behind = sym (first_is text (omega arith)) ∙ next in
    let its : take (line_length text) text ≡ card = cc in
    comment_behind text card behind next all e (n ∙ begins_comment text ∙ ap is_comment its)

-- A statement that is not continued is laid down.
laid-before : (n : ℕ) (cs : List (List ℕ)) (s : Statement) → continued cs ≡ false → gathered n cs (Held s) ≡ s ∷ gathered n cs Nothing
unfolding gathered
laid-before n [] s e = refl
laid-before n (c ∷ cs) s e = go (kind_of c) refl (ap (λ (t : Bool). elim t [ true ↦ continued cs | false ↦ continues (kind_of c) ]) (free_comment c) ∙ e) (laid-before (suc n) cs s)
  where
    go : (k : Kind) → k ≡ kind_of c → elim (free k) [ true ↦ continued cs | false ↦ continues k ] ≡ false → (continued cs ≡ false → gathered (suc n) cs (Held s) ≡ s ∷ gathered (suc n) cs Nothing) → gathered n (c ∷ cs) (Held s) ≡ s ∷ gathered n (c ∷ cs) Nothing
    go Comment q f more = gone_on_lem n c cs s Comment q refl ∙ more f ∙ ap (λ (x : List Statement). s ∷ x) (sym (passed_over n c cs Comment q refl))
    go Empty q f more = laid_down n c cs s Empty q refl
    go Opening q f more = laid_down n c cs s Opening q refl
    go Continuing q f more = let z : ◌≡◌ {A = ℕ} 0 1 = cc in absurd (omega arith)

-- The statement of a card alone.
abbrev pub alone : ℕ → List ℕ → Statement
alone n card = record { card = n; further = []; field = field_of card }

-- A statement that no card continues is that of its card alone.
pub stands_alone : (o : Opener) → Placed o → false ≡ continued (cards_of o.behind.text.now) → from_opener o ≡ alone o.n o.card.now ∷ following o.behind
stands_alone o p c =
    let cs : List (List ℕ) = cards_of o.behind.text.now in
    taken_up o.n o.card.now cs p.opener
    ∙ laid-before (suc o.n) cs (alone o.n o.card.now) (sym c)
    ∙ ap (λ (j : ℕ). alone o.n o.card.now ∷ gathered j cs Nothing) (sym (p.next ∙ add-one o.n))

-- Behind a card that opens a statement all is in form.
pub behind-formed : (o : Opener) → Placed o → Formed o.behind.n (cards_of o.behind.text.now)
behind-formed o p = subst (λ (j : ℕ). Formed j (cards_of o.behind.text.now)) (sym (p.next ∙ add-one o.n)) (formed_next o.n o.card.now (cards_of o.behind.text.now) p.formed)
