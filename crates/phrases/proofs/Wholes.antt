-- The expression that fills the rest of a statement: a fault in it, something behind it, nothing behind it.
use Rattle.std.proofs.Common.{◌≡◌, sym, ap, ◌∙◌, List, [], ◌∷◌, ℕ, arith}
use Rattle.logic.specs.Expressions.{Expr}
use Rattle.decks.specs.declared.Refusal.TheVariants.{NotDue}
use Rattle.decks.specs.Answers.{Got, Refused}
use Rattle.decks.specs.Readings.{Reading, Whole}
use Rattle.cards.specs.Grammar.{read_expr}
use Rattle.cards.specs.Read.{whole_expr}
use Rattle.grammar.specs.declared.Ink.{Ink}
use Rattle.grammar.specs.Ahead.{ahead, InkAt}
use Rattle.phrases.specs.declared.Phrase.{Phrase}
use Rattle.phrases.specs.declared.Stop.{Stop}
use Rattle.phrases.specs.declared.Stop.TheVariants.{Wrong as WrongAt, Deep as DeepAt}
use Rattle.phrases.specs.Phrases.{place_of, stopped, ReadsTo, StopsAt, rest_of, refusal_of, Filled, Unfilled}

module _ (n : ℕ) (cs : List ℕ) where
  whole_got : (e : Expr) → read_expr 32 cs ≡ Whole e [] → whole_expr n cs ≡ Got e
  unfolding whole_expr
  whole_got e p = simp (p, whole_expr)

  whole_more : (e : Expr) (r : ℕ) (rs : List ℕ) → read_expr 32 cs ≡ Whole e (r ∷ rs) → whole_expr n cs ≡ Refused (NotDue n)
  unfolding whole_expr
  whole_more e r rs p = simp (p, whole_expr)

  whole_stopped : (chars : List ℕ) (s : Stop) → read_expr 32 cs ≡ stopped chars s → whole_expr n cs ≡ Refused (refusal_of n s)
  unfolding whole_expr
  whole_stopped chars (WrongAt p) e = simp (e, whole_expr)
  whole_stopped chars (DeepAt p) e = simp (e, whole_expr)

stopped_rest : (chars : List ℕ) (s : Stop) (R : Reading) → R ≡ stopped chars s → ahead chars (place_of s) ≡ rest_of R
stopped_rest chars (WrongAt p) R e = sym (ap rest_of e)
stopped_rest chars (DeepAt p) R e = sym (ap rest_of e)

module _ (chars : List ℕ) (at : ℕ) (out after : List ℕ) where
  pub fills_fault : (s : Stop) → StopsAt chars at (read_expr 32 (ahead chars at)) out 0 s after → Unfilled chars at out s after
  fills_fault s t =
      record { fault = t.fault; long = t.long; rest = stopped_rest chars s _ t.told; told = λ n. whole_stopped n (ahead chars at) chars s t.told }

  module _ (e : Phrase) (f : ReadsTo chars at (read_expr 32 (ahead chars at)) out 0 0 e after) where
    pub fills_more : (c : Ink) → InkAt chars e.next c → Unfilled chars at out (WrongAt c.place) after
    fills_more c i =
        record {
          fault = record { from = omega (arith, f.from, i.from); within = omega (arith, i.within); settled = i.settled };
          long = f.long;
          rest = i.same ∙ sym (ap rest_of f.told);
          told = λ n. whole_more n (ahead chars at) f.its c.code (ahead chars c.next) (f.told ∙ ap (Whole f.its) i.first);
        }

    pub fills_whole : ahead chars e.next ≡ [] → Filled chars at out e.used after
    fills_whole z =
        record {
          its = f.its;
          few = omega (arith, f.few, f.within);
          long = f.long;
          told = λ n. whole_got n (ahead chars at) f.its (f.told ∙ ap (Whole f.its) z);
          many = omega (arith, f.many);
          stored = f.stored;
        }
