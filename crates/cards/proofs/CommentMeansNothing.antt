-- A comment means nothing: the cards of a text come to what they come to without their comments, but for the numbers of the cards that a refusal names (RULES 2.3).
use mathlib.Core.Path.{◌≡◌, refl, sym, ap, ◌∙◌}
use mathlib.Core.Logic.{inl, inr}
use mathlib.Core.Bool.{Bool, true, false, not}
use mathlib.Core.List.{List, [], ◌∷◌, ◌++◌, map, map-append}
use mathlib.Core.Option.{Option, none, some}
use Prim.Native.Nat.{ℕ, suc, ◌+◌, ◌≤◌}
use native.Mathlib.Nat.{add-zero}
use native.Mathlib.Omega.{arith}
use borrow.Author.Tests.{le-ltb, eqb-false}
use lib.Dec.{ltb, eqb}
use lib.ListN.{length, get_or}
use Rattle.lists.specs.Lists.{Each, keep}
use Rattle.lists.specs.Texts.{bytes}
use Rattle.lists.proofs.Laws.{each_map, keep_append, keep_all}
use Rattle.logic.specs.Expressions.{Expr}
use Rattle.logic.specs.Decks.{Deck, base}
use Rattle.decks.specs.declared.Refusal.{Refusal}
use Rattle.decks.specs.declared.Refusal.TheVariants.{TooLong, BadByte, TooWide, BadStart, BadNumber, NoneOpen, TooManyCards, NotDue, Outside, Temporal, TooDeep, ManyInitials, ManyEquations, ManyNodes, NoEquation, BadFrame, NoRoom, NotInitial, NoStep, Holding}
use Rattle.decks.specs.declared.Reply.{Reply}
use Rattle.decks.specs.Answers.{Outcome, Got, Refused, refuse, afterwards, reply_of, reply_to, said}
use Rattle.decks.specs.Readings.{Whole, Wrong, Deep, walk, complete}
use Rattle.cards.specs.Card.{cards_of, Kind, Comment, Empty, Opening, Continuing, kind_of, Open, Shut, Continued, opened, card_in_form, in_form}
use Rattle.cards.specs.Statement.{Statement, Hand, Nothing, Held, laid, folded, gathered, statements_of}
use Rattle.cards.specs.Grammar.{Number, NoNumber, read_number, read_expr}
use Rattle.cards.specs.Typed.{Typed}
use Rattle.cards.specs.Columns.{remark, Formed}
use Rattle.cards.specs.Comments.{uncommented, numbers_from, number_of, CommentsFormed, SameButComments, SamePlace}
use Rattle.cards.specs.Read.{behind, Due, DueVars, DueInit, DueAny, DueEquation, DueEnd, DueNone, Sofar, begun, whole_expr, whole_number, vars_statement, read_binary, init_statement, with_equation, equation_statement, prop_statement, end_statement, equation_or_prop, due_statement, statement_read, cards_end, read_cards}
use Rattle.decks.proofs.Outcomes.{refused_got, walk_got, walk_once}
use Rattle.cards.proofs.StatementLaws.{sofar}
use Rattle.cards.proofs.FormLaws.{cards_formed}
use Rattle.cards.proofs.NothingDropped.{nothing_dropped}
use Rattle.cards.proofs.CardsExactlyWhen.{formed-passes}

-- ---- answers with their places moved

-- The answer with its place moved by φ. The place of 15 is a variable and stays, as does a place that is always 0.
abbrev pub moved : (ℕ → ℕ) → Refusal → Refusal
moved φ (TooLong t) = TooLong t
moved φ (BadByte p) = BadByte (φ p)
moved φ (TooWide p) = TooWide (φ p)
moved φ (BadStart p) = BadStart (φ p)
moved φ (BadNumber p) = BadNumber (φ p)
moved φ (NoneOpen p) = NoneOpen (φ p)
moved φ (TooManyCards p) = TooManyCards (φ p)
moved φ (NotDue p) = NotDue (φ p)
moved φ (Outside t p) = Outside t (φ p)
moved φ (Temporal p) = Temporal (φ p)
moved φ (TooDeep p) = TooDeep (φ p)
moved φ (ManyInitials p) = ManyInitials (φ p)
moved φ (ManyEquations p) = ManyEquations (φ p)
moved φ (ManyNodes p) = ManyNodes (φ p)
moved φ (NoEquation v) = NoEquation v
moved φ (BadFrame t p) = BadFrame t (φ p)
moved φ (NoRoom p) = NoRoom (φ p)
moved φ NotInitial = NotInitial
moved φ (NoStep p) = NoStep (φ p)
moved φ Holding = Holding

abbrev pub renumbered : {A : Type 0} → (ℕ → ℕ) → Outcome A → Outcome A
renumbered φ (Got x) = Got x
renumbered φ (Refused a) = Refused (moved φ a)

renumbered_got : {A : Type 0} (φ : ℕ → ℕ) (r : Outcome A) (x : A) → renumbered φ r ≡ Got x → r ≡ Got x
renumbered_got φ (Got y) x e = e
renumbered_got φ (Refused a) x e = refused_got e

module _ (φ : ℕ → ℕ) where
  refuse-moved : {A : Type 0} (t : Bool) (a : Refusal) (r : Outcome A) → renumbered φ (refuse t a r) ≡ refuse t (moved φ a) (renumbered φ r)
  refuse-moved true a r = refl
  refuse-moved false a r = refl

  afterwards-moved : {A B : Type 0} (r : Outcome A) (f : A → Outcome B) → renumbered φ (afterwards r f) ≡ afterwards (renumbered φ r) (λ x. renumbered φ (f x))
  afterwards-moved (Got x) f = refl
  afterwards-moved (Refused a) f = refl

  option-moved : {A : Type 0} (o : Option A) (f g : A → Outcome Sofar) (r s : Outcome Sofar) → ((x : A) → renumbered φ (f x) ≡ g x) → renumbered φ r ≡ s → renumbered {A = Sofar} φ (elim o [ some x ↦ f x | none ↦ r ]) ≡ elim o [ some x ↦ g x | none ↦ s ]
  option-moved (some x) f g r s e h = e x
  option-moved none f g r s e h = h

  -- ---- one card

  opened_moved : (n : ℕ) (k : Kind) (o : Open) → renumbered φ (opened n k o) ≡ opened (φ n) k o
  unfolding opened
  opened_moved n Comment o = refl
  opened_moved n Empty o = refl
  opened_moved n Opening o = refl
  opened_moved n Continuing Shut = refl
  opened_moved n Continuing (Continued k) = simp refuse-moved

  card_moved : (n : ℕ) (card : List ℕ) (o : Open) → renumbered φ (card_in_form n card o) ≡ card_in_form (φ n) card o
  unfolding card_in_form
  card_moved n card o = simp (refuse-moved, opened_moved)

  -- ---- one statement

  -- What f comes to for card n, moved, is what it comes to for card φ n.
  abbrev Moves : {A : Type 0} → ℕ → (ℕ → Outcome A) → Type 0
  Moves n f = renumbered φ (f n) ≡ f (φ n)

  expr-moved : (n : ℕ) (cs : List ℕ) → renumbered φ (whole_expr n cs) ≡ whole_expr (φ n) cs
  unfolding whole_expr
  expr-moved n cs =
      elim (read_expr base.levels cs) as (λ r. Moves {A = Expr} n (λ k. elim r [ Whole e [] ↦ Got e | Whole e (r ∷ rs) ↦ Refused (NotDue k) | Wrong rs ↦ Refused (NotDue k) | Deep rs ↦ Refused (TooDeep k) ])) [ Whole e [] ↦ refl | Whole e (r ∷ rs) ↦ refl | Wrong rs ↦ refl | Deep rs ↦ refl ]

  number-moved : (n most : ℕ) (cs : List ℕ) → renumbered φ (whole_number n most cs) ≡ whole_number (φ n) most cs
  unfolding whole_number
  number-moved n most cs =
      elim (read_number cs) as (λ r. Moves {A = ℕ} n (λ k. elim r [ Number v [] ↦ refuse (ltb most v) (NotDue k) (Got v) | Number v (r ∷ rs) ↦ Refused (NotDue k) | NoNumber rs ↦ Refused (NotDue k) ])) [ Number v [] ↦ simp refuse-moved | Number v (r ∷ rs) ↦ refl | NoNumber rs ↦ refl ]

  init-moved : (n : ℕ) (cs : List ℕ) (t : Typed) → renumbered φ (init_statement n cs t) ≡ init_statement (φ n) cs t
  unfolding init_statement
  init-moved n cs t = option-moved (read_binary 0 t.count 0 cs) _ _ _ _ (λ s. simp refuse-moved) refl

  equation-moved : (n : ℕ) (cs : List ℕ) (t : Typed) → renumbered φ (equation_statement n cs t) ≡ equation_statement (φ n) cs t
  unfolding equation_statement with_equation
  equation-moved n cs t =
      elim (read_number cs) as (λ r. Moves {A = Sofar} n (λ k. elim r [ NoNumber rs ↦ Refused (NotDue k) | Number v rs ↦ elim (behind (bytes "=") rs) [ none ↦ Refused (NotDue k) | some es ↦ afterwards (whole_expr k es) (λ e. with_equation k t (record { left = v; right = e })) ] ])) [
        | NoNumber rs ↦ refl
        | Number v rs ↦ option-moved (behind (bytes "=") rs) _ _ _ _ (λ es. simp (afterwards-moved, expr-moved, refuse-moved)) refl
      ]

  either-moved : (n : ℕ) (cs : List ℕ) (t : Typed) → renumbered φ (equation_or_prop n cs t) ≡ equation_or_prop (φ n) cs t
  unfolding equation_or_prop prop_statement
  either-moved n cs t =
      option-moved (behind (bytes "V") cs) _ _ _ _ (λ rs. equation-moved n rs t)
      (option-moved (behind (bytes "PROP") cs) _ _ _ _ (λ rs. simp (afterwards-moved, expr-moved, refuse-moved)) refl)

  due-moved : (u : Due) (n : ℕ) (cs : List ℕ) (t : Typed) → renumbered φ (due_statement u n cs t) ≡ due_statement u (φ n) cs t
  unfolding due_statement vars_statement end_statement
  due-moved DueVars n cs t = option-moved (behind (bytes "VARS") cs) _ _ _ _ (λ rs. simp (afterwards-moved, number-moved)) refl
  due-moved DueInit n cs t = option-moved (behind (bytes "INIT") cs) _ _ _ _ (λ rs. init-moved n rs t) refl
  due-moved DueAny n cs t = option-moved (behind (bytes "INIT") cs) _ _ _ _ (λ rs. init-moved n rs t) (either-moved n cs t)
  due-moved DueEquation n cs t = either-moved n cs t
  due-moved DueEnd n cs t = option-moved (behind (bytes "END") cs) _ _ _ _ (λ rs. elim rs as (λ l. Moves n (λ k. end_statement k l t)) [ [] ↦ refl | c ∷ more ↦ refl ]) refl
  due-moved DueNone n cs t = refl

  -- Behind the last statement no card is named.
  missing_moved : φ 0 ≡ 0 → (u : Due) (t : Typed) → renumbered φ (cards_end (sofar u t)) ≡ cards_end (sofar u t)
  unfolding cards_end complete
  missing_moved z DueVars t = rw z
  missing_moved z DueInit t = rw z
  missing_moved z DueAny t = rw z
  missing_moved z DueEquation t = rw z
  missing_moved z DueEnd t = rw z
  missing_moved z DueNone t = simp refuse-moved

  -- ---- the statements of the cards

  -- The statement with the numbers of its cards moved.
  abbrev elsewhere : Statement → Statement
  elsewhere s = record { card = φ s.card; further = map φ s.further; field = s.field }

  abbrev handed : Hand → Hand
  handed Nothing = Nothing
  handed (Held s) = Held (elsewhere s)

  laid_moved : (h : Hand) (ss : List Statement) → map elsewhere (laid h ss) ≡ laid (handed h) (map elsewhere ss)
  laid_moved Nothing ss = refl
  laid_moved (Held s) ss = refl

  folded_moved : (n : ℕ) (card : List ℕ) (h : Hand) → handed (folded n card h) ≡ folded (φ n) card (handed h)
  folded_moved n card Nothing = refl
  folded_moved n card (Held s) = rw (map-append φ s.further (n ∷ []))

  statements_moved : (ss : List Statement) (i : ℕ) (so : Sofar) → renumbered φ (walk statement_read i ss so) ≡ walk statement_read i (map elsewhere ss) so
  unfolding walk statement_read
  statements_moved [] i so = refl
  statements_moved (s ∷ ss) i so = simp (walk_once, afterwards-moved, due-moved, statements_moved ss)

  -- ---- the cards without their comments

  -- The cards cs, from number n on, come to what ds, from number m on, come to, moved: in the first pass, and as statements.
  abbrev Alike : ℕ → ℕ → List (List ℕ) → List (List ℕ) → Type 0
  Alike m n cs ds = ((o : Open) → renumbered φ (walk card_in_form m ds o) ≡ walk card_in_form n cs o) × ((h : Hand) → map elsewhere (gathered m ds h) ≡ gathered n cs (handed h))

  comment_kind : (c : List ℕ) → remark c ≡ true → kind_of c ≡ Comment
  unfolding kind_of
  comment_kind c e = simp (e, kind_of)

  comment_alike : (m n : ℕ) (c : List ℕ) (cs ds : List (List ℕ)) → remark c ≡ true → Formed c → Alike m (suc n) cs ds → Alike m n (c ∷ cs) ds
  unfolding opened gathered
  comment_alike m n c cs ds e f (walks, gathers) =
      (λ o. walks o ∙ sym (walk_got card_in_form n c cs o o (formed-passes n c o f ∙ simp (comment_kind c e))), λ h. gathers h ∙ simp (comment_kind c e, gathered))

  card_alike : (m : ℕ) (c : List ℕ) (cs ds : List (List ℕ)) → Alike (suc m) (suc (φ m)) cs ds → Alike m (φ m) (c ∷ cs) (c ∷ ds)
  unfolding gathered
  card_alike m c cs ds (walks, gathers) = (λ o. simp (walk_once, afterwards-moved, card_moved, walks), λ h. go h (kind_of c) refl)
    where
      go : (h : Hand) (k : Kind) → kind_of c ≡ k → map elsewhere (gathered m (c ∷ ds) h) ≡ gathered (φ m) (c ∷ cs) (handed h)
      go h Comment e = simp (e, gathered) (gathers h)
      go h Empty e = simp (e, gathered, laid_moved, gathers)
      go h Opening e = simp (e, gathered, laid_moved, gathers)
      go h Continuing e = simp (e, gathered, gathers, folded_moved)

  -- φ (m + i) is the number that the i-th card of cs that is no comment has, where the first of cs has number n.
  abbrev Counts : ℕ → ℕ → List (List ℕ) → Type 0
  Counts m n cs = (i : ℕ) → φ (m + i) ≡ get_or (numbers_from n cs) i 0

  all_alike : (cs : List (List ℕ)) (m n : ℕ) → CommentsFormed cs → Counts m n cs → Alike m n cs (uncommented cs)
  unfolding walk gathered keep numbers_from
  all_alike [] m n f k = (λ o. refl, λ h. laid_moved h [])
  all_alike (c ∷ cs) m n f k = go (remark c) refl (λ m n. all_alike cs m n f.1)
    where
      go : (t : Bool) → remark c ≡ t → ((m n : ℕ) → Counts m n cs → Alike m n cs (uncommented cs)) → Alike m n (c ∷ cs) (uncommented (c ∷ cs))
      go true e more = simp (e, keep) (comment_alike m n c cs (uncommented cs) e (f.0 e) (more m (suc n) (λ i. simp (e, numbers_from) at (k i))))
      go false e more =
          let first : φ m ≡ n = simp (e, numbers_from, add-zero) at (k 0) in
          let rest : Counts (suc m) (suc n) cs = λ i. let next : suc m + i ≡ m + suc i = omega arith in ap φ next ∙ (simp (e, numbers_from) at (k (suc i))) in
          simp (e, keep, ← first) (card_alike m c cs (uncommented cs) (rw (← first) at (more (suc m) (suc n) rest)))

-- ---- two texts

-- What the cards of a text that is not too long come to.
abbrev read_from : List (List ℕ) → Outcome Deck
read_from cards = afterwards (in_form cards) (λ o. afterwards (walk statement_read 1 (statements_of cards) begun) cards_end)

comments_moved : (cards : List (List ℕ)) → CommentsFormed cards → renumbered (number_of cards) (read_from (uncommented cards)) ≡ read_from cards
comments_moved cards f =
    let φ = number_of cards in
    let (walks, gathers) = all_alike φ cards 1 1 f (λ i. let one : 1 + i ≡ suc i = omega arith in ap φ one) in
    let ends : (so : Sofar) → renumbered φ (cards_end so) ≡ cards_end so = λ so. missing_moved φ refl so.due so.typed in
    simp (afterwards-moved, walks, statements_moved, gathers Nothing, ends)

read_moved : (text : List ℕ) → length text ≤ base.text → CommentsFormed (cards_of text) → read_cards text ≡ renumbered (number_of (cards_of text)) (read_from (uncommented (cards_of text)))
unfolding read_cards
read_moved text h f = simp (le-ltb base.text (length text) h) (sym (comments_moved (cards_of text) f))

-- Two texts of the same cards but for comments come to the same, be it a deck or a refusal: a card that one names, the other names too, each by its number in that text.
pub comment_moves_places : (one other : List ℕ)
    → SameButComments one other
    → (o : Outcome Deck) × (read_cards one ≡ renumbered (number_of (cards_of one)) o) × (read_cards other ≡ renumbered (number_of (cards_of other)) o)
comment_moves_places one other s = (
  read_from (uncommented (cards_of one)),
  read_moved one s.short.0 s.formed.0,
  rw s.same (read_moved other s.short.1 s.formed.1),
)

-- A text that is not too long and has the cards of an accepted one, but for comments, which are in form, is accepted as the same deck.
pub comment_means_nothing : (one other : List ℕ) (d : Deck)
    → uncommented (cards_of one) ≡ uncommented (cards_of other)
    → CommentsFormed (cards_of other)
    → length other ≤ base.text
    → read_cards one ≡ Got d
    → read_cards other ≡ Got d
comment_means_nothing one other d same formed short e =
    let (short-one, (o, form), typed) = (nothing_dropped one d).0 e in
    let formed-one : CommentsFormed (cards_of one) = each_map Formed (λ (card : List ℕ). remark card ≡ true → Formed card) (cards_of one) (λ card f c. f) (cards_formed 1 (cards_of one) Shut o form) in
    let (r, p, q) = comment_moves_places one other (record { same = same; formed = (formed-one, formed); short = (short-one, short) }) in
    q ∙ ap (renumbered (number_of (cards_of other))) (renumbered_got (number_of (cards_of one)) r d (sym p ∙ e))

-- ---- replies

-- Two replies, one to each text, say the same: one number, one text at fault, and places that name the same.
abbrev pub SameReply : List ℕ → List ℕ → Reply → Reply → Type 0
SameReply one other r s = (r.number ≡ s.number) × (r.text ≡ s.text) × SamePlace one other r.number r.place s.place

module _ (one other : List ℕ) where
  at_card : (number k : ℕ) → eqb number 15 ≡ false → SamePlace one other number (number_of (cards_of one) k) (number_of (cards_of other) k)
  at_card number k e = inr (eqb-false number 15 e, (k, refl, refl))

  moved_alike : (a : Refusal) → SameReply one other (reply_of (moved (number_of (cards_of one)) a)) (reply_of (moved (number_of (cards_of other)) a))
  moved_alike (TooLong t) = (refl, refl, at_card 1 0 refl)
  moved_alike (BadByte p) = (refl, refl, at_card 2 p refl)
  moved_alike (TooWide p) = (refl, refl, at_card 3 p refl)
  moved_alike (BadStart p) = (refl, refl, at_card 4 p refl)
  moved_alike (BadNumber p) = (refl, refl, at_card 5 p refl)
  moved_alike (NoneOpen p) = (refl, refl, at_card 6 p refl)
  moved_alike (TooManyCards p) = (refl, refl, at_card 7 p refl)
  moved_alike (NotDue p) = (refl, refl, at_card 8 p refl)
  moved_alike (Outside t p) = (refl, refl, at_card 9 p refl)
  moved_alike (Temporal p) = (refl, refl, at_card 10 p refl)
  moved_alike (TooDeep p) = (refl, refl, at_card 11 p refl)
  moved_alike (ManyInitials p) = (refl, refl, at_card 12 p refl)
  moved_alike (ManyEquations p) = (refl, refl, at_card 13 p refl)
  moved_alike (ManyNodes p) = (refl, refl, at_card 14 p refl)
  moved_alike (NoEquation v) = (refl, refl, inl (refl, refl))
  moved_alike (BadFrame t p) = (refl, refl, at_card 16 p refl)
  moved_alike (NoRoom p) = (refl, refl, at_card 17 p refl)
  moved_alike NotInitial = (refl, refl, at_card 20 0 refl)
  moved_alike (NoStep p) = (refl, refl, at_card 21 p refl)
  moved_alike Holding = (refl, refl, at_card 22 0 refl)

  outcomes_alike : {A : Type 0} (o : Outcome A) → SameReply one other (reply_to (said (renumbered (number_of (cards_of one)) o))) (reply_to (said (renumbered (number_of (cards_of other)) o)))
  outcomes_alike (Got x) = (refl, refl, at_card 0 0 refl)
  outcomes_alike (Refused a) = moved_alike a

-- The replies to two texts of the same cards but for comments say the same.
pub comment_same_reply : (one other : List ℕ)
    → SameButComments one other
    → SameReply one other (reply_to (said (read_cards one))) (reply_to (said (read_cards other)))
comment_same_reply one other s = let (o, e, f) = comment_moves_places one other s in rw (e, f) (outcomes_alike one other o)

-- ---- the cards that are no comments

-- A comment put in before, between or behind other cards leaves them as they were.
pub comment_put_in : (front back : List (List ℕ)) (comment : List ℕ) → remark comment ≡ true → uncommented (front ++ comment ∷ back) ≡ uncommented (front ++ back)
unfolding keep
comment_put_in front back comment e = simp (keep_append, e, keep)

-- Cards among which is no comment stay as they are.
pub no_comment_stays : (cards : List (List ℕ)) → Each (λ (card : List ℕ). remark card ≡ false) cards → uncommented cards ≡ cards
no_comment_stays cards h =
    keep_all (λ (card : List ℕ). not (remark card)) cards
    (each_map (λ (card : List ℕ). remark card ≡ false) (λ (card : List ℕ). not (remark card) ≡ true) cards (λ card e. ap not e) h)
