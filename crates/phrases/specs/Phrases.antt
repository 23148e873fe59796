-- What the readers of expressions promise: the card form's own reading of the characters ahead, and the expression's nodes in prefix order.
use Rattle.std.specs.Prelude.{◌≡◌, List, ℕ, ◌+◌, ◌≤◌, length, take, Option, Some, None, Result, Ok, Err}
use Rattle.std.proofs.Math.Option.{Option as Joined, none, some}
use Rattle.lists.specs.Lists.{splice}
use Rattle.logic.specs.Expressions.{Expr, Op2, nodes, code, const_node, node1, node2}
use Rattle.logic.specs.Decks.{base}
use Rattle.decks.specs.declared.Refusal.{Refusal}
use Rattle.decks.specs.declared.Refusal.TheVariants.{NotDue, TooDeep}
use Rattle.decks.specs.Answers.{Got, Refused}
use Rattle.decks.specs.Readings.{Reading, Whole, Wrong, Deep}
use Rattle.cards.specs.Grammar.{Sign, Constant, Variable, Before, Bracket, NoSign, past_joint, read_expr}
use Rattle.cards.specs.Read.{whole_expr}
use Rattle.grammar.specs.Ahead.{ahead}
use Rattle.grammar.specs.Readers.{Reaches, Faults}
use Rattle.phrases.specs.declared.Phrase.{Phrase}
use Rattle.phrases.specs.declared.Joint.{Joint}
use Rattle.phrases.specs.declared.Stop.{Stop}
use Rattle.phrases.specs.declared.Stop.TheVariants.{Wrong as WrongAt, Deep as DeepAt}
use Rattle.phrases.specs.declared.Sign.{Sign as Mark}
use Rattle.phrases.specs.declared.Sign.TheVariants.{Variable as VariableMark, Constant as ConstantMark, Operator as OperatorMark, Bracket as BracketMark}

-- What a character begins, with the node of a constant or of an operator before its operand.
abbrev pub marked : Sign → Option Mark
marked (Constant b) = Some (ConstantMark (const_node b))
marked Variable = Some VariableMark
marked (Before o) = Some (OperatorMark (node1 o))
marked Bracket = Some BracketMark
marked NoSign = None

-- The node of an operator between operands.
abbrev pub joint_node : Joined Op2 → Option ℕ
joint_node none = None
joint_node (some o) = Some (node2 o)

-- An operator stands ahead of place i, and what stands behind it; or what is there makes any reading that needs one wrong.
abbrev pub Joins : List ℕ → ℕ → Result Joint ℕ → Type 0
Joins chars i (Ok j) = Reaches chars i j.next × ((o : Op2) × (j.node ≡ node2 o) × ((f : Op2 → List ℕ → Reading) → past_joint (ahead chars i) f ≡ f o (ahead chars j.next)))
Joins chars i (Err p) = Faults chars i p × ((f : Op2 → List ℕ → Reading) → past_joint (ahead chars i) f ≡ Wrong (ahead chars p))

-- The place at which a reading stopped.
abbrev pub place_of : Stop → ℕ
place_of (WrongAt p) = p
place_of (DeepAt p) = p

-- The reading that stopped there.
abbrev pub stopped : List ℕ → Stop → Reading
stopped chars (WrongAt p) = Wrong (ahead chars p)
stopped chars (DeepAt p) = Deep (ahead chars p)

-- The reading is of an expression: its nodes stand in the array from the place `used` on. Never more nodes are added behind place `begun` than characters are read.
pub record ReadsTo (chars : List ℕ) (i : ℕ) (reading : Reading) (out : List ℕ) (used begun : ℕ) (r : Phrase) (after : List ℕ) : Type 0 where
  pub its : Expr
  pub from : i ≤ r.next
  pub within : r.next ≤ length chars
  pub few : r.used + i ≤ begun + r.next
  pub long : length after ≡ length out
  pub before : take used after ≡ take used out
  pub told : reading ≡ Whole its (ahead chars r.next)
  pub many : r.used ≡ used + nodes its
  pub stored : after ≡ splice used (code its) out

-- The reading stopped: the array before the place `used` is as it was.
pub record StopsAt (chars : List ℕ) (i : ℕ) (reading : Reading) (out : List ℕ) (used : ℕ) (s : Stop) (after : List ℕ) : Type 0 where
  pub fault : Faults chars i (place_of s)
  pub long : length after ≡ length out
  pub before : take used after ≡ take used out
  pub told : reading ≡ stopped chars s

-- r and the array after it say what the reading says.
abbrev pub Reads : List ℕ → ℕ → Reading → List ℕ → ℕ → ℕ → Result Phrase Stop → List ℕ → Type 0
Reads chars i reading out used begun (Ok r) after = ReadsTo chars i reading out used begun r after
Reads chars i reading out used begun (Err s) after = StopsAt chars i reading out used s after

-- What stands from where a reading stopped on.
abbrev pub rest_of : Reading → List ℕ
rest_of (Whole e rest) = rest
rest_of (Wrong rest) = rest
rest_of (Deep rest) = rest

-- The answer for a statement of card n whose expression stopped so.
abbrev pub refusal_of : ℕ → Stop → Refusal
refusal_of n (WrongAt p) = NotDue n
refusal_of n (DeepAt p) = TooDeep n

-- An expression fills the rest of the statement from place i on, of whichever card the statement is: its nodes stand first in the array.
pub record Filled (chars : List ℕ) (i : ℕ) (out : List ℕ) (used : ℕ) (after : List ℕ) : Type 0 where
  pub its : Expr
  pub few : used + i ≤ length chars
  pub long : length after ≡ length out
  pub told : (n : ℕ) → whole_expr n (ahead chars i) ≡ Got its
  pub many : used ≡ nodes its
  pub stored : after ≡ splice 0 (code its) out

-- No expression fills it.
pub record Unfilled (chars : List ℕ) (i : ℕ) (out : List ℕ) (s : Stop) (after : List ℕ) : Type 0 where
  pub fault : Faults chars i (place_of s)
  pub long : length after ≡ length out
  pub rest : ahead chars (place_of s) ≡ rest_of (read_expr base.levels (ahead chars i))
  pub told : (n : ℕ) → whole_expr n (ahead chars i) ≡ Refused (refusal_of n s)

-- r and the array after it say what `whole_expr` says.
abbrev pub Fills : List ℕ → ℕ → List ℕ → Result ℕ Stop → List ℕ → Type 0
Fills chars i out (Ok used) after = Filled chars i out used after
Fills chars i out (Err s) after = Unfilled chars i out s after
