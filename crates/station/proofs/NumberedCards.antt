-- Every refusal of a text of cards has a number, and names a place within the text.
use mathlib.Core.Bool.{not, ◌&&◌}
use mathlib.Core.List.{List, [], ◌∷◌}
use mathlib.Core.Option.{Option, none, some}
use Prim.Native.Nat.{ℕ, suc, ◌+◌, ◌≤◌}
use native.Mathlib.Omega.{arith}
use lib.Dec.{ltb, lit≤}
use lib.ListN.{length, length-append}
use Rattle.lists.specs.Lists.{Each, ended, unended}
use Rattle.lists.specs.Texts.{bytes}
use Rattle.sets.specs.Sets.{has, inside}
use Rattle.logic.specs.Expressions.{Expr, nodes, written, temporal}
use Rattle.logic.specs.Decks.{Equation, Deck, base, total_nodes}
use Rattle.decks.specs.declared.Refusal.{Refusal}
use Rattle.decks.specs.declared.Refusal.TheVariants.{BadByte, TooWide, BadStart, BadNumber, TooManyCards, NotDue, Outside, Temporal, TooDeep, ManyInitials, ManyEquations, ManyNodes}
use Rattle.decks.specs.Answers.{Outcome, Got, Refused, refuse, afterwards}
use Rattle.decks.specs.Readings.{Reading, Whole, Wrong, Deep, walk, complete}
use Rattle.cards.specs.Card.{cards_of, last_card, card_columns, continuations, columns, every, is_blank, printable, Kind, Comment, Empty, Opening, Continuing, is_comment, kind_of, numbered, Open, Shut, Continued, opened, card_in_form, in_form}
use Rattle.cards.specs.Statement.{Statement, inked, field_of, Hand, Nothing, Held, laid, folded, gathered, statements_of}
use Rattle.cards.specs.Grammar.{Counted, Number, NoNumber, read_number, read_expr}
use Rattle.cards.specs.Typed.{Typed, first_vars, deck_of}
use Rattle.cards.specs.Read.{behind, Due, DueVars, DueInit, DueAny, DueEquation, DueEnd, DueNone, Sofar, begun, whole_expr, whole_number, vars_statement, read_binary, init_statement, with_equation, equation_statement, prop_statement, end_statement, on_word, equation_or_prop, due_statement, statement_read, cards_end, read_cards}
use Rattle.checking.proofs.Numbered.{farthest, Names, Numbered, refuse-numbered, afterwards-numbered, text-numbered, walk-numbered}
use Rattle.checking.proofs.NumberedClaims.{lines_few}
use Rattle.station.proofs.NumberedDecks.{each_numbered, complete-numbered}

-- ---- how many cards there are

last_few : (cs : List ℕ) → length (last_card cs) ≤ 1
last_few [] = lit≤ tt
last_few (c ∷ cs) = lit≤ tt

-- A text has at most a card more than bytes.
cards_few : (text : List ℕ) → length (cards_of text) ≤ length text + 1
cards_few text = omega (arith, length-append (ended text) (last_card (unended text)), lines_few text, last_few (unended text))

-- The first card of the statement in hand is one of the first m.
abbrev Among : ℕ → Hand → Type 0
Among m Nothing = Unit
Among m (Held s) = s.card ≤ m

abbrev Few : ℕ → Statement → Type 0
Few m s = s.card ≤ m

laid-few : (m : ℕ) (x : Hand) (ss : List Statement) → Among m x → Each (Few m) ss → Each (Few m) (laid x ss)
laid-few m Nothing ss h k = k
laid-few m (Held s) ss h k = (h, k)

folded-few : (m n : ℕ) (card : List ℕ) (x : Hand) → Among m x → Among m (folded n card x)
folded-few m n card Nothing h = tt
folded-few m n card (Held s) h = h

-- Statements begin at cards that there are.
gathered-few : (m n : ℕ) (cs : List (List ℕ)) (x : Hand) → n + length cs ≤ m + 1 → Among m x → Each (Few m) (gathered n cs x)
unfolding gathered
gathered-few m n [] x h k = laid-few m x [] k tt
gathered-few m n (c ∷ cs) x h k = go (kind_of c) (λ y l. gathered-few m (suc n) cs y (omega arith) l)
  where
    go : (t : Kind)
        → ((y : Hand) → Among m y → Each (Few m) (gathered (suc n) cs y))
        → Each (Few m) (elim t [
          | Comment ↦ gathered (suc n) cs x
          | Empty ↦ laid x (gathered (suc n) cs Nothing)
          | Opening ↦ laid x (gathered (suc n) cs (Held (record { card = n; further = []; field = field_of c })))
          | Continuing ↦ gathered (suc n) cs (folded n c x)
        ])
    go Comment more = more x k
    go Empty more = laid-few m x _ k (more Nothing tt)
    go Opening more = laid-few m x _ k (more _ (omega arith))
    go Continuing more = more _ (folded-few m n c x k)

-- ---- cards and statements

option_numbered : {A B : Type 0} (o : Option B) (a : Refusal) (f : B → Outcome A) → Names a → ((x : B) → Numbered (f x)) → Numbered {A = A} (elim o [ none ↦ Refused a | some x ↦ f x ])
option_numbered none a f h k = h
option_numbered (some x) a f h k = k x

word_numbered : (w cs : List ℕ) (f : List ℕ → Outcome Sofar) (other : Outcome Sofar) → ((rs : List ℕ) → Numbered (f rs)) → Numbered other → Numbered (on_word w cs f other)
word_numbered w cs f other h k = go (behind w cs)
  where
    go : (o : Option (List ℕ)) → Numbered {A = Sofar} (elim o [ some rs ↦ f rs | none ↦ other ])
    go none = k
    go (some rs) = h rs

module _ (n : ℕ) (h : n ≤ farthest) where
  opened-numbered : (k : Kind) (o : Open) → Numbered (opened n k o)
  unfolding opened
  opened-numbered Comment o = tt
  opened-numbered Empty o = tt
  opened-numbered Opening o = tt
  opened-numbered Continuing Shut = h
  opened-numbered Continuing (Continued k) = refuse-numbered (ltb continuations (k + 1)) (TooManyCards n) (Got (Continued (k + 1))) h tt

  card-numbered : (card : List ℕ) (o : Open) → Numbered (card_in_form n card o)
  unfolding card_in_form
  card-numbered card o =
      refuse-numbered (not (every printable card)) (BadByte n) _ h
      (refuse-numbered (ltb card_columns (length card)) (TooWide n) _ h
      (refuse-numbered (not (is_comment card) && not (every is_blank (columns 1 5 card))) (BadStart n) _ h
      (refuse-numbered (not (is_comment card) && not (numbered card)) (BadNumber n) _ h (opened-numbered (kind_of card) o))))

  -- ---- statements

  expr_numbered : (cs : List ℕ) → Numbered (whole_expr n cs)
  unfolding whole_expr
  expr_numbered cs = go (read_expr base.levels cs)
    where
      go : (r : Reading) → Numbered {A = Expr} (elim r [ Whole e [] ↦ Got e | Whole e (c ∷ rs) ↦ Refused (NotDue n) | Wrong rs ↦ Refused (NotDue n) | Deep rs ↦ Refused (TooDeep n) ])
      go (Whole e []) = tt
      go (Whole e (c ∷ rs)) = h
      go (Wrong rs) = h
      go (Deep rs) = h

  number-numbered : (most : ℕ) (cs : List ℕ) → Numbered (whole_number n most cs)
  unfolding whole_number
  number-numbered most cs = go (read_number cs)
    where
      go : (r : Counted) → Numbered {A = ℕ} (elim r [ Number v [] ↦ refuse (ltb most v) (NotDue n) (Got v) | Number v (c ∷ rs) ↦ Refused (NotDue n) | NoNumber rs ↦ Refused (NotDue n) ])
      go (Number v []) = refuse-numbered (ltb most v) (NotDue n) (Got v) h tt
      go (Number v (c ∷ rs)) = h
      go (NoNumber rs) = h

  vars-numbered : (cs : List ℕ) (t : Typed) → Numbered (vars_statement n cs t)
  unfolding vars_statement
  vars-numbered cs t = afterwards-numbered (whole_number n base.variables cs) _ (number-numbered base.variables cs) (λ v. tt)

  init_numbered : (cs : List ℕ) (t : Typed) → Numbered (init_statement n cs t)
  unfolding init_statement
  init_numbered cs t = option_numbered (read_binary 0 t.count 0 cs) (NotDue n) _ h (λ s. refuse-numbered (ltb base.initials (length t.inits + 1)) (ManyInitials n) _ h tt)

  with_equation_numbered : (t : Typed) (q : Equation) → Numbered (with_equation n t q)
  unfolding with_equation
  with_equation_numbered t q =
      refuse-numbered (not (has (first_vars t.count) q.left)) (Outside 1 n) _ (lit≤ tt, h)
      (refuse-numbered (not (inside (written q.right) (first_vars t.count))) (Outside 1 n) _ (lit≤ tt, h)
      (refuse-numbered (temporal q.right) (Temporal n) _ h
      (refuse-numbered (ltb base.equations (length t.equations + 1)) (ManyEquations n) _ h
      (refuse-numbered (ltb base.equation_nodes (total_nodes t.equations + nodes q.right)) (ManyNodes n) _ h tt))))

  equation_numbered : (cs : List ℕ) (t : Typed) → Numbered (equation_statement n cs t)
  unfolding equation_statement
  equation_numbered cs t = go (read_number cs)
    where
      go : (r : Counted)
          → Numbered {A = Sofar} (elim r [
            | NoNumber rs ↦ Refused (NotDue n)
            | Number v rs ↦
                elim (behind (bytes "=") rs) [
                  | none ↦ Refused (NotDue n)
                  | some es ↦ afterwards (whole_expr n es) (λ e. with_equation n t (record { left = v; right = e }))
                ]
          ])
      go (NoNumber rs) = h
      go (Number v rs) =
          option_numbered (behind (bytes "=") rs) (NotDue n) _ h
          (λ es. afterwards-numbered (whole_expr n es) _ (expr_numbered es) (λ e. with_equation_numbered t (record { left = v; right = e })))

  prop_numbered : (cs : List ℕ) (t : Typed) → Numbered (prop_statement n cs t)
  unfolding prop_statement
  prop_numbered cs t =
      afterwards-numbered (whole_expr n cs) _ (expr_numbered cs)
      (λ e.
      refuse-numbered (not (inside (written e) (first_vars t.count))) (Outside 1 n) _ (lit≤ tt, h)
      (refuse-numbered (ltb base.property_nodes (nodes e)) (ManyNodes n) _ h tt))

  end_numbered : (cs : List ℕ) (t : Typed) → Numbered (end_statement n cs t)
  unfolding end_statement
  end_numbered [] t = tt
  end_numbered (c ∷ cs) t = h

  equation_or_prop_numbered : (cs : List ℕ) (t : Typed) → Numbered (equation_or_prop n cs t)
  unfolding equation_or_prop
  equation_or_prop_numbered cs t =
      word_numbered (bytes "V") cs (λ rs. equation_statement n rs t) _ (λ rs. equation_numbered rs t)
      (word_numbered (bytes "PROP") cs (λ rs. prop_statement n rs t) (Refused (NotDue n)) (λ rs. prop_numbered rs t) h)

  due-numbered : (u : Due) (cs : List ℕ) (t : Typed) → Numbered (due_statement u n cs t)
  unfolding due_statement
  due-numbered DueVars cs t = word_numbered (bytes "VARS") cs (λ rs. vars_statement n rs t) (Refused (NotDue n)) (λ rs. vars-numbered rs t) h
  due-numbered DueInit cs t = word_numbered (bytes "INIT") cs (λ rs. init_statement n rs t) (Refused (NotDue n)) (λ rs. init_numbered rs t) h
  due-numbered DueAny cs t = word_numbered (bytes "INIT") cs (λ rs. init_statement n rs t) _ (λ rs. init_numbered rs t) (equation_or_prop_numbered cs t)
  due-numbered DueEquation cs t = equation_or_prop_numbered cs t
  due-numbered DueEnd cs t = word_numbered (bytes "END") cs (λ rs. end_statement n rs t) (Refused (NotDue n)) (λ rs. end_numbered rs t) h
  due-numbered DueNone cs t = h

statement-numbered : (i : ℕ) (s : Statement) (so : Sofar) → Few farthest s → Numbered (statement_read i s so)
unfolding statement_read
statement-numbered i s so h = due-numbered s.card h so.due (inked s.field) so.typed

-- ---- whole texts

cards_end_numbered : (s : Sofar) → Numbered (cards_end s)
unfolding cards_end
cards_end_numbered s = go s.due
  where
    go : (u : Due)
        → Numbered {A = Deck} (elim u [
          | DueVars ↦ Refused (NotDue 0)
          | DueInit ↦ Refused (NotDue 0)
          | DueAny ↦ Refused (NotDue 0)
          | DueEquation ↦ Refused (NotDue 0)
          | DueEnd ↦ Refused (NotDue 0)
          | DueNone ↦ complete (deck_of s.typed)
        ])
    go DueVars = lit≤ tt
    go DueInit = lit≤ tt
    go DueAny = lit≤ tt
    go DueEquation = lit≤ tt
    go DueEnd = lit≤ tt
    go DueNone = complete-numbered (deck_of s.typed)

pub cards_numbered : (text : List ℕ) → Numbered (read_cards text)
unfolding read_cards
cards_numbered text =
    text-numbered 1 text _ (lit≤ tt)
    (λ short.
    let few : 1 + length (cards_of text) ≤ farthest + 1 = omega (arith, short, cards_few text) in
    afterwards-numbered (in_form (cards_of text)) _ (walk-numbered card_in_form (λ n c o h. card-numbered n h c o) 1 (cards_of text) Shut few)
    (λ o.
    afterwards-numbered (walk statement_read 1 (statements_of (cards_of text)) begun) cards_end
    (each_numbered statement_read (Few farthest) statement-numbered 1 (statements_of (cards_of text)) begun (gathered-few farthest 1 (cards_of text) Nothing few tt))
    cards_end_numbered))
