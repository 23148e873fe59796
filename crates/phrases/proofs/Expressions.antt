-- What the reader of an expression answers: no sign, no level left, a variable, a constant, an operator.
use Rattle.std.proofs.Common.{◌≡◌, refl, sym, ap, ap₂, ◌∙◌, List, [], ◌∷◌, ℕ, suc, ◌+◌, ◌-◌, ◌<◌, ◌≤◌, length, take, set, Some, None, Result, Ok, Err, arith}
use lib.ListN.{length-set}
use lib.Seq.{take-set-le}
use Rattle.lists.specs.Lists.{splice}
use Rattle.lists.proofs.Laws.{set-splice}
use Rattle.logic.specs.Expressions.{Op1, Const, Var, nodes, code, node1}
use Rattle.decks.specs.Readings.{Reading, Wrong, Deep}
use Rattle.cards.specs.Grammar.{Sign, Constant, Variable, Before, Bracket, sign_of, variable, begins, read_expr}
use Rattle.grammar.specs.declared.Ink.{Ink}
use Rattle.grammar.specs.declared.Digits.{Digits}
use Rattle.grammar.specs.Ahead.{ahead, InkAt}
use Rattle.grammar.specs.Readers.{Numbers}
use Rattle.grammar.proofs.Ahead.{faults_end, ends_alike, faults_ink}
use Rattle.phrases.specs.declared.Phrase.{Phrase}
use Rattle.phrases.specs.declared.Stop.{Stop}
use Rattle.phrases.specs.declared.Stop.TheVariants.{Wrong as WrongAt, Deep as DeepAt}
use Rattle.phrases.specs.declared.Sign.{Sign as Mark}
use Rattle.phrases.specs.declared.Sign.TheVariants.{Variable as VariableMark, Constant as ConstantMark, Operator as OperatorMark, Bracket as BracketMark}
use Rattle.phrases.specs.Phrases.{marked, ReadsTo, StopsAt, Reads}
use Rattle.phrases.proofs.Signs.{mark_none, mark_some, mark_variable, mark_constant, mark_operator, mark_bracket, expr_end, expr_none, expr_deep, expr_sign}

-- One node stored is a leaf.
module _ (out : List ℕ) (used x : ℕ) (h : used < length out) where
  stored_leaf : set out used x ≡ splice used (x ∷ []) out
  stored_leaf = set-splice out used x h

  stored-before : take used (set out used x) ≡ take used out
  stored-before = take-set-le used out used x (omega arith)

-- ---- a variable behind its `V`

pub variable_read : (chars : List ℕ) (at : ℕ) (out : List ℕ) (used : ℕ) (v : Digits) → used < length out → Numbers chars at (Ok v)
    → ReadsTo chars at (begins (read_expr 0) [] Variable (ahead chars at)) out used (used + 1) (record { next = v.next; used = used + 1 }) (set out used v.value)
unfolding nodes code
variable_read chars at out used v h n =
    record {
      its = Var v.value;
      from = n.0.from;
      within = n.0.within;
      few = omega (arith, n.0.from);
      long = length-set out used v.value;
      before = stored-before out used v.value h;
      told = ap variable n.2;
      many = refl;
      stored = stored_leaf out used v.value h;
    }

-- ---- an expression

module _ (chars : List ℕ) (at left : ℕ) (out : List ℕ) (used : ℕ) where
  pub reads_end : at ≤ length chars → ahead chars at ≡ [] → StopsAt chars at (read_expr left (ahead chars at)) out used (WrongAt (length chars)) out
  reads_end h e =
      record {
        fault = faults_end chars at h;
        long = refl;
        before = refl;
        told = ap (read_expr left) e ∙ expr_end left ∙ ap Wrong (sym e ∙ sym (ends_alike chars at e));
      }

  module _ (c : Ink) (i : InkAt chars at c) where
    pub reads_none : None ≡ marked (sign_of c.code) → StopsAt chars at (read_expr left (ahead chars at)) out used (WrongAt c.place) out
    reads_none z =
        record {
          fault = faults_ink chars at c i;
          long = refl;
          before = refl;
          told = ap (read_expr left) i.first ∙ expr_none left c.code (ahead chars c.next) (mark_none (sign_of c.code) z) ∙ ap Wrong (sym i.first ∙ sym i.same);
        }

    module _ (m : Mark) (p : Some m ≡ marked (sign_of c.code)) where
      pub reads_deep : left ≡ 0 → StopsAt chars at (read_expr left (ahead chars at)) out used (DeepAt c.place) out
      reads_deep z =
          record {
            fault = faults_ink chars at c i;
            long = refl;
            before = refl;
            told = ap₂ read_expr z i.first ∙ expr_deep c.code (ahead chars c.next) (mark_some (sign_of c.code) m p) ∙ ap Deep (sym i.first ∙ sym i.same);
          }

      module _ (n : left ≡ 0 → ⊥) where
        from_sign : (s : Sign) → sign_of c.code ≡ s → read_expr left (ahead chars at) ≡ begins (read_expr (left - 1)) (c.code ∷ ahead chars c.next) s (ahead chars c.next)
        from_sign s e =
            let more : left ≡ suc (left - 1) = omega arith in
            ap₂ read_expr more i.first ∙ expr_sign (left - 1) c.code (ahead chars c.next) s e

        -- What is read behind the first character, as a reading from that character on.
        behind_sign : (R : Reading) (r : Result Phrase Stop) (after : List ℕ) → read_expr left (ahead chars at) ≡ R → Reads chars c.next R out used (used + 1) r after → Reads chars at (read_expr left (ahead chars at)) out used used r after
        behind_sign R (Ok r) after e t =
            record {
              its = t.its;
              from = omega (arith, i.from, i.onward, t.from);
              within = t.within;
              few = omega (arith, i.from, i.onward, t.few);
              long = t.long;
              before = t.before;
              told = e ∙ t.told;
              many = t.many;
              stored = t.stored;
            }
        behind_sign R (Err s) after e t =
            record {
              fault = record { from = omega (arith, i.from, i.onward, t.fault.from); within = t.fault.within; settled = t.fault.settled };
              long = t.long;
              before = t.before;
              told = e ∙ t.told;
            }

        module _ (r : Result Phrase Stop) (after : List ℕ) where
          pub reads_variable : m ≡ VariableMark → Reads chars c.next (begins (read_expr 0) [] Variable (ahead chars c.next)) out used (used + 1) r after → Reads chars at (read_expr left (ahead chars at)) out used used r after
          reads_variable q t = behind_sign _ r after (from_sign Variable (mark_variable (sign_of c.code) (ap Some (sym q) ∙ p))) t

          pub reads_operand : (node k : ℕ) → m ≡ OperatorMark node → k ≡ left - 1 → ((o : Op1) → node ≡ node1 o → Reads chars c.next (begins (read_expr k) [] (Before o) (ahead chars c.next)) out used (used + 1) r after) → Reads chars at (read_expr left (ahead chars at)) out used used r after
          reads_operand node k q e t =
              let o = mark_operator (sign_of c.code) node (ap Some (sym q) ∙ p) in
              behind_sign _ r after (from_sign (Before o.0) o.1) (rw (← e) (t o.0 o.2))

          pub reads_pair : (k : ℕ) → m ≡ BracketMark → k ≡ left - 1 → Reads chars c.next (begins (read_expr k) [] Bracket (ahead chars c.next)) out used (used + 1) r after → Reads chars at (read_expr left (ahead chars at)) out used used r after
          reads_pair k q e t = behind_sign _ r after (from_sign Bracket (mark_bracket (sign_of c.code) (ap Some (sym q) ∙ p))) (rw (← e) t)

        pub reads_constant : (node : ℕ) → m ≡ ConstantMark node → used + (length chars - at) ≤ length out → ReadsTo chars at (read_expr left (ahead chars at)) out used used (record { next = c.next; used = used + 1 }) (set out used node)
        unfolding nodes code
        reads_constant node q room =
            let b = mark_constant (sign_of c.code) node (ap Some (sym q) ∙ p) in
            let h : used < length out = omega (arith, i.from, i.within) in
            record {
              its = Const b.0;
              from = omega (arith, i.from, i.onward);
              within = omega (arith, i.within, i.onward);
              few = omega (arith, i.from, i.onward);
              long = length-set out used node;
              before = stored-before out used node h;
              told = from_sign (Constant b.0) b.1;
              many = refl;
              stored = stored_leaf out used node h ∙ ap (λ (x : ℕ). splice used (x ∷ []) out) b.2;
            }
