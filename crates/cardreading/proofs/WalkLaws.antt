-- Laws of the walk from statement to statement.
use mathlib.Core.Path.{◌≡◌, sym, ap, ap₂, ◌∙◌, subst}
use mathlib.Core.List.{List, []}
use Prim.Native.Nat.{ℕ, suc}
use Rattle.std.specs.Prelude.{Ok}
use Rattle.decks.specs.declared.Refusal.{Refusal}
use Rattle.decks.specs.declared.Deck.{Deck}
use Rattle.decks.specs.Answers.{Outcome, Refused}
use Rattle.decks.specs.Readings.{walk}
use Rattle.decks.specs.Stored.{blank}
use Rattle.decks.proofs.Outcomes.{walk_got, walk_refused}
use Rattle.cards.specs.Card.{cards_of}
use Rattle.cards.specs.Statement.{Statement, Nothing, gathered, statements_of}
use Rattle.cards.specs.Read.{Sofar, begun, statement_read}
use Rattle.firstpass.specs.declared.Cards.{Cards}
use Rattle.statements.specs.declared.Opener.{Opener}
use Rattle.statements.specs.Hold.{following, from_opener}
use Rattle.cardlines.specs.declared.Held.{Held}
use Rattle.cardlines.specs.Held.{held_of, Holds, Came}
use Rattle.cardlines.proofs.Laws.{nothing_holds}
use Rattle.cardsteps.specs.Stepped.{Onward, Stopped}

-- What all statements of the text come to.
abbrev pub statements_read : List ℕ → Outcome Sofar
statements_read text = walk statement_read 1 (statements_of (cards_of text)) begun

-- The statements before the cards that are left are read: what they came to, what is held of it, and what the whole comes to from there on.
pub record Walked (text : List ℕ) (left : Cards) (held : Held) (deck : Deck) : Type 0 where
  pub sofar : Sofar
  pub holds : Holds sofar held deck
  pub next : ℕ
  pub rest_is : statements_read text ≡ walk statement_read next (following left) sofar

-- Before the first.
pub walked_begun : (text : List ℕ) (left : Cards) (held : Held) (deck : Deck) → left.text.now ≡ text → left.n ≡ 1 → held ≡ held_of begun → deck ≡ blank → Walked text left held deck
walked_begun text left held deck t n h d =
    record {
      sofar = begun;
      holds = subst (λ (x : Deck). Holds begun held x) (sym d) (subst (λ (x : Held). Holds begun x blank) (sym h) nothing_holds);
      next = 1;
      rest_is = ap₂ (λ (k : ℕ) (l : List ℕ). walk statement_read 1 (gathered k (cards_of l) Nothing) begun) (sym n) (sym t);
    }

module _ (text : List ℕ) (left : Cards) (held : Held) (deck : Deck) (w : Walked text left held deck) where
  -- No statement follows: all were taken.
  pub walked_end : following left ≡ [] → Came (statements_read text) (Ok held) deck
  unfolding walk
  walked_end none = (w.sofar, w.rest_is ∙ ap (λ (ss : List Statement). walk statement_read w.next ss w.sofar) none, w.holds)

  module _ (o : Opener) (same : following left ≡ from_opener o) where
    -- The statement that opens there is refused.
    pub walked_refused : (a : Refusal) → Stopped o held deck a → statements_read text ≡ Refused a
    unfolding statement_read
    walked_refused a t =
        w.rest_is
        ∙ ap (λ (ss : List Statement). walk statement_read w.next ss w.sofar) (same ∙ t.first)
        ∙ walk_refused statement_read w.next t.its t.further w.sofar a (t.came w.sofar w.holds)

    -- It is read.
    pub walked_on : (held' : Held) (left' : Cards) (deck' : Deck) → Onward o held deck held' left' deck' → Walked text left' held' deck'
    unfolding statement_read
    walked_on held' left' deck' t =
        let (so, e, h) = t.came w.sofar w.holds in
        record {
          sofar = so;
          holds = h;
          next = suc w.next;
          rest_is =
              w.rest_is
              ∙ ap (λ (ss : List Statement). walk statement_read w.next ss w.sofar) (same ∙ t.first)
              ∙ walk_got statement_read w.next t.its (following left') w.sofar so e;
        }
