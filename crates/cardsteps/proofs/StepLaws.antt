-- Laws of one statement of the text, read.
use mathlib.Core.Path.{◌≡◌, refl, sym, ap, ap₂, ◌∙◌, subst}
use mathlib.Core.Bool.{Bool, false, not}
use mathlib.Core.List.{List, [], ◌++◌, append-nil}
use Prim.Native.Nat.{ℕ, ◌-◌}
use native.Mathlib.Omega.{arith}
use lib.ListN.{length, take, drop, get_or, replicate}
use Rattle.std.specs.Prelude.{Result, Ok, Err}
use Rattle.lists.proofs.Laws.{take-padded, keep_append, keep_none, each_replicate}
use Rattle.decks.specs.declared.Refusal.{Refusal}
use Rattle.decks.specs.declared.Deck.{Deck}
use Rattle.decks.specs.Answers.{Outcome}
use Rattle.cards.specs.Card.{blank, is_blank, field_start, field_end, cards_of}
use Rattle.cards.specs.Statement.{Statement, field_of, inked}
use Rattle.cards.specs.Read.{Sofar, due_statement}
use Rattle.firstpass.proofs.Laws.{field-filled}
use Rattle.firstpass.specs.declared.Cards.{Cards}
use Rattle.statements.specs.declared.Stmt.{Stmt}
use Rattle.statements.specs.declared.Opener.{Opener}
use Rattle.statements.specs.Hold.{stmt_of, continued, Placed, Takes}
use Rattle.statements.proofs.Laws.{alone, stands_alone, behind-formed}
use Rattle.cardlines.specs.declared.Held.{Held}
use Rattle.cardlines.specs.Held.{Small, Holds, Came}
use Rattle.cardsteps.specs.Stepped.{Onward, Stopped}

-- ---- the characters of a statement, blanks left out

blanks_inked : (k : ℕ) → inked (replicate k blank) ≡ []
blanks_inked k = keep_none (λ (c : ℕ). not (is_blank c)) (replicate k blank) (each_replicate (λ (c : ℕ). not (is_blank c) ≡ false) k blank refl)

-- Those of a field as it stands on its card: the blanks that fill it up mean nothing.
field-inked : (field card : List ℕ) → field ≡ drop (field_start - 1) (take field_end card) → inked field ≡ inked (field_of card)
field-inked field card e =
    let k : ℕ = 66 - length field in
    let filled : field ++ replicate k blank ≡ field_of card = ap (λ (f : List ℕ). f ++ replicate (66 - length f) blank) e ∙ field-filled card in
    sym (append-nil (inked field))
    ∙ ap (λ (x : List ℕ). inked field ++ x) (sym (blanks_inked k))
    ∙ sym (keep_append (λ (c : ℕ). not (is_blank c)) field (replicate k blank))
    ∙ ap inked filled

characters_are : (s : Statement) (stmt : Stmt) (chars : List ℕ) → stmt ≡ stmt_of s → chars ≡ take stmt.used stmt.chars → chars ≡ s.field
characters_are s stmt chars e c = c ∙ ap (λ (x : Stmt). take x.used x.chars) e ∙ take-padded 1320 s.field

-- ---- what the reader of one statement says of it

module _ (held : Held) (deck deck' : Deck) (r : Result Held Refusal) where
  -- What it promises of the statement of card n, with these characters.
  abbrev Reads : ℕ → List ℕ → Type 0
  Reads n cs = (s : Sofar) → Holds s held deck → Came (due_statement s.due n (inked cs) s.typed) r deck'

  reads_same : (n m : ℕ) (cs ds : List ℕ) → n ≡ m → inked cs ≡ inked ds → Reads n cs → Reads m ds
  reads_same n m cs ds e f g = λ s h. subst (λ (o : Outcome Sofar). Came o r deck') (ap₂ (λ (k : ℕ) (x : List ℕ). due_statement s.due k x s.typed) e f) (g s h)

-- On one card.
module _ (o : Opener) (p : Placed o) (b : Bool) (c : b ≡ continued (cards_of o.behind.text.now)) (n : b ≡ false) (held : Held) (deck deck' : Deck) (field : List ℕ) (e : field ≡ drop (field_start - 1) (take field_end o.card.now)) where
  pub alone_onward : (next : Held) → Small next deck' → Reads held deck deck' (Ok next) o.n field → Onward o held deck next o.behind deck'
  alone_onward next m r =
      record {
        its = alone o.n o.card.now;
        first = stands_alone o p (sym n ∙ c);
        came = reads_same held deck deck' (Ok next) o.n o.n field (field_of o.card.now) refl (field-inked field o.card.now e) r;
        onward = omega arith;
        formed = behind-formed o p;
        small = m;
      }

  pub alone_stopped : (a : Refusal) → Reads held deck deck' (Err a) o.n field → Stopped o held deck a
  alone_stopped a r =
      record { its = alone o.n o.card.now; further = _; first = stands_alone o p (sym n ∙ c); came = reads_same held deck deck' (Err a) o.n o.n field (field_of o.card.now) refl (field-inked field o.card.now e) r }

-- With the cards that continue it.
pub continued_onward : (o : Opener) (stmt : Stmt) (left : Cards) → Takes o stmt left → (held : Held) (deck deck' : Deck) (chars : List ℕ) → chars ≡ take stmt.used stmt.chars
    → (next : Held) → Small next deck' → Reads held deck deck' (Ok next) (get_or stmt.cards 0 0) chars → Onward o held deck next left deck'
continued_onward o stmt left t held deck deck' chars e next m r =
    record {
      its = t.its;
      first = t.first;
      came = reads_same held deck deck' (Ok next) (get_or stmt.cards 0 0) t.its.card chars t.its.field (ap (λ (x : Stmt). get_or x.cards 0 0) t.stmt_is) (ap inked (characters_are t.its stmt chars t.stmt_is e)) r;
      onward = t.onward;
      formed = t.formed;
      small = m;
    }
