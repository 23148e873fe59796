-- What the readers of operands answer: one operand; an operator between two, or none; two operands, and the bracket behind them, or none.
use Rattle.std.proofs.Common.{◌≡◌, refl, sym, ap, ap₂, ◌∙◌, List, [], ◌∷◌, ℕ, ◌+◌, ◌-◌, ◌≤◌, length, take, set, Some, None, Ok, Err, arith}
use mathlib.Core.Logic.{by_cases}
use mathlib.Core.Option.{none, some}
use native.Mathlib.Decide.{ℕ_discrete}
use borrow.Author.Tests.{eq-eqb, ne_eqb}
use lib.ListN.{length-set}
use lib.Seq.{take-set-le}
use Rattle.lists.specs.Lists.{splice}
use Rattle.lists.proofs.Laws.{splice-splice, take_less, set-before-splice}
use Rattle.logic.specs.Expressions.{Expr, Op1, Op2, One, Two, nodes, code, node1, node2}
use Rattle.logic.proofs.Codes.{length-code}
use Rattle.decks.specs.Readings.{Reading, Whole, Wrong, onward}
use Rattle.cards.specs.Grammar.{Before, Bracket, joint_of, past, past_joint, begins, read_expr}
use Rattle.cards.specs.Read.{behind}
use Rattle.grammar.specs.declared.Ink.{Ink}
use Rattle.grammar.specs.Ahead.{ahead, InkAt}
use Rattle.grammar.specs.Readers.{amiss, Words}
use Rattle.grammar.proofs.Ahead.{faults_end, ends_alike, faults_ink}
use Rattle.phrases.specs.declared.Phrase.{Phrase}
use Rattle.phrases.specs.declared.Joint.{Joint}
use Rattle.phrases.specs.declared.Stop.{Stop}
use Rattle.phrases.specs.declared.Stop.TheVariants.{Wrong as WrongAt, Deep as DeepAt}
use Rattle.phrases.specs.Phrases.{joint_node, Joins, stopped, ReadsTo, StopsAt}
use Rattle.phrases.proofs.Signs.{no_joint, some_joint, joint_off, joint_none, joint_some}

-- A reading that stopped stops what would go on from it.
stopped_onward : (chars : List ℕ) (s : Stop) (R : Reading) (f : Expr → List ℕ → Reading) → R ≡ stopped chars s → onward R f ≡ stopped chars s
stopped_onward chars (WrongAt p) R f e = ap (λ (r : Reading). onward r f) e
stopped_onward chars (DeepAt p) R f e = ap (λ (r : Reading). onward r f) e

-- ---- one operand, one place behind the one kept for the operator

module _ (chars : List ℕ) (at left : ℕ) (out : List ℕ) (used : ℕ) (mid : List ℕ) where
  module _ (room : used + 1 + (length chars - at) ≤ length out) (first : Phrase) (f : ReadsTo chars at (read_expr left (ahead chars at)) out (used + 1) (used + 1) first mid) where
    -- The operator's node before it.
    operator : (x : ℕ) → set mid used x ≡ splice used (x ∷ code f.its) out
    operator x =
        ap (λ (l : List ℕ). set l used x) f.stored
        ∙ set-before-splice used x (code f.its) out (omega (arith, length-code f.its, f.many, f.few, f.within))

    operator_before : (x : ℕ) → take used (set mid used x) ≡ take used out
    operator_before x = take-set-le used mid used x (omega arith) ∙ take_less used (used + 1) mid out (omega arith) f.before

    pub operand_whole : (o : Op1) (node : ℕ) → node ≡ node1 o → ReadsTo chars at (begins (read_expr left) [] (Before o) (ahead chars at)) out used (used + 1) first (set mid used node)
    unfolding nodes code
    operand_whole o node n =
        record {
          its = One o f.its;
          from = f.from;
          within = f.within;
          few = f.few;
          long = length-set mid used node ∙ f.long;
          before = operator_before node;
          told = ap (λ (R : Reading). onward R (λ a rest. Whole (One o a) rest)) f.told;
          many = omega (arith, f.many);
          stored = operator node ∙ ap (λ (x : ℕ). splice used (x ∷ code f.its) out) n;
        }

-- ---- the operator behind the first operand

module _ (chars : List ℕ) (at : ℕ) where
  pub joins_end : at ≤ length chars → ahead chars at ≡ [] → Joins chars at (Err (length chars))
  joins_end h e = (faults_end chars at h, λ f. ap (λ (cs : List ℕ). past_joint cs f) e ∙ joint_off f ∙ ap Wrong (sym e ∙ sym (ends_alike chars at e)))

  module _ (c : Ink) (i : InkAt chars at c) where
    pub joins_none : None ≡ joint_node (joint_of c.code) → Joins chars at (Err c.place)
    joins_none z = (
      faults_ink chars at c i,
      λ f. ap (λ (cs : List ℕ). past_joint cs f) i.first ∙ joint_none c.code (ahead chars c.next) f (no_joint (joint_of c.code) z) ∙ ap Wrong (sym i.first ∙ sym i.same),
    )

    pub joins_some : (node : ℕ) → Some node ≡ joint_node (joint_of c.code) → Joins chars at (Ok (record { node = node; next = c.next }))
    joins_some node z =
        let o = some_joint (joint_of c.code) node z in (
          record { from = omega (arith, i.from, i.onward); within = omega (arith, i.within, i.onward) },
          (o.0, o.2, λ f. ap (λ (cs : List ℕ). past_joint cs f) i.first ∙ joint_some c.code (ahead chars c.next) f o.0 o.1),
        )

-- ---- the bracket behind the second operand

past_some : (cs rest : List ℕ) (f : List ℕ → Reading) → behind (41 ∷ []) cs ≡ some rest → past 41 cs f ≡ f rest
unfolding behind past
past_some [] rest f e = cc
past_some (x ∷ cs) rest f e =
    by_cases
    (ℕ_discrete x 41)
    (λ q. let r : some cs ≡ some rest = sym (simp (eq-eqb 41 x (sym q), behind)) ∙ e in let s : cs ≡ rest = cc in (simp (eq-eqb x 41 q, past)) ∙ ap f s)
    (λ n. let r : none ≡ some rest = sym (simp (ne_eqb 41 x (λ q. n (sym q)), behind)) ∙ e in cc)

past_none : (cs : List ℕ) (f : List ℕ → Reading) → behind (41 ∷ []) cs ≡ none → past 41 cs f ≡ Wrong (amiss (41 ∷ []) cs)
unfolding behind past amiss
past_none [] f e = refl
past_none (x ∷ cs) f e =
    by_cases
    (ℕ_discrete x 41)
    (λ q. let r : some cs ≡ none = sym (simp (eq-eqb 41 x (sym q), behind)) ∙ e in cc)
    (λ n. let r : amiss (41 ∷ []) (x ∷ cs) ≡ x ∷ cs = simp (ne_eqb 41 x (λ q. n (sym q)), amiss) in (simp (ne_eqb x 41 n, past)) ∙ ap Wrong (sym r))

-- ---- two operands

module _ (chars : List ℕ) (at left : ℕ) (out : List ℕ) (used : ℕ) where
  abbrev Pair : Reading
  Pair = begins (read_expr left) [] Bracket (ahead chars at)

  -- What follows an operand a and its operator: another operand, and `)`.
  abbrev joined : Expr → Op2 → List ℕ → Reading
  joined a o rest = onward (read_expr left rest) (λ b rest. past 41 rest (λ rest. Whole (Two o a b) rest))

  module _ (room : used + 1 + (length chars - at) ≤ length out) (first : Phrase) (mid : List ℕ) (f : ReadsTo chars at (read_expr left (ahead chars at)) out (used + 1) (used + 1) first mid) where
    from_first : Pair ≡ past_joint (ahead chars first.next) (λ o rest. joined f.its o rest)
    from_first = ap (λ (R : Reading). onward R (λ a rest. past_joint rest (λ o rest. joined a o rest))) f.told

    module _ (t : Joint) (j : Joins chars first.next (Ok t)) where
      two : List ℕ
      two = set mid used t.node

      from_joint : Pair ≡ joined f.its j.1.0 (ahead chars t.next)
      from_joint = from_first ∙ j.1.2 _

      -- The first operand behind the operator.
      opened : set mid used t.node ≡ splice used (node2 j.1.0 ∷ code f.its) out
      opened = operator chars at left out used mid room first f t.node ∙ ap (λ (x : ℕ). splice used (x ∷ code f.its) out) j.1.1

      opened_before : take used (set mid used t.node) ≡ take used out
      opened_before = operator_before chars at left out used mid room first f t.node

      module _ (after : List ℕ) where
        pub pair_stopped : (s : Stop) → StopsAt chars t.next (read_expr left (ahead chars t.next)) (set mid used t.node) first.used s after → StopsAt chars at Pair out used s after
        pair_stopped s g =
            record {
              fault = record { from = omega (arith, f.from, j.0.from, g.fault.from); within = g.fault.within; settled = g.fault.settled };
              long = g.long ∙ length-set mid used t.node ∙ f.long;
              before = take_less used first.used after (set mid used t.node) (omega (arith, f.many)) g.before ∙ opened_before;
              told = from_joint ∙ stopped_onward chars s (read_expr left (ahead chars t.next)) _ g.told;
            }

        module _ (second : Phrase) (g : ReadsTo chars t.next (read_expr left (ahead chars t.next)) (set mid used t.node) first.used first.used second after) where
          from_second : Pair ≡ past 41 (ahead chars second.next) (λ rest. Whole (Two j.1.0 f.its g.its) rest)
          from_second = from_joint ∙ ap (λ (R : Reading). onward R (λ b rest. past 41 rest (λ rest. Whole (Two j.1.0 f.its b) rest))) g.told

          long : length after ≡ length out
          long = g.long ∙ length-set mid used t.node ∙ f.long

          before : take used after ≡ take used out
          before = take_less used first.used after (set mid used t.node) (omega (arith, f.many)) g.before ∙ opened_before

          pub pair_open : (p : ℕ) → Words chars second.next (41 ∷ []) (Err p) → StopsAt chars at Pair out used (WrongAt p) after
          pair_open p w =
              record {
                fault = record { from = omega (arith, f.from, j.0.from, g.from, w.0.from); within = w.0.within; settled = w.0.settled };
                long = long;
                before = before;
                told = from_second ∙ past_none (ahead chars second.next) _ w.1 ∙ ap Wrong (sym w.2);
              }

          pub pair-closed : (p : ℕ) → Words chars second.next (41 ∷ []) (Ok p) → ReadsTo chars at Pair out used (used + 1) (record { next = p; used = second.used }) after
          unfolding nodes code
          pair-closed p w =
              record {
                its = Two j.1.0 f.its g.its;
                from = omega (arith, f.from, j.0.from, g.from, w.0.from);
                within = w.0.within;
                few = omega (arith, f.few, j.0.from, g.few, w.0.from);
                long = long;
                before = before;
                told = from_second ∙ past_some (ahead chars second.next) (ahead chars p) _ w.1;
                many = omega (arith, f.many, g.many);
                stored =
                    g.stored
                    ∙ ap₂ (λ (m : ℕ) (x : List ℕ). splice m (code g.its) x) place opened
                    ∙ splice-splice used (node2 j.1.0 ∷ code f.its) (code g.its) out (omega arith);
              }
            where
              place : first.used ≡ used + length (node2 j.1.0 ∷ code f.its)
              place = omega (arith, f.many, length-code f.its)
