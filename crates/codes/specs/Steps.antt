-- What the reader of one expression answers.
use Rattle.std.specs.Prelude.{◌≡◌, true, false, Option, Some, None, Result, Ok, Err, List, [], ◌∷◌, ℕ, zero, suc, ◌+◌, ◌-◌, ◌≤◌, ltb, length, drop}
use Rattle.lists.specs.Lists.{splice}
use Rattle.sets.specs.Sets.{only}
use Rattle.logic.specs.Expressions.{nodes, written, temporal}
use Rattle.frames.specs.Read.{Sign, Leaf, Before, Between, NoSign, kind_of}
use Rattle.decks.specs.Readings.{Reading, Whole, Wrong, Deep}
use Rattle.codes.specs.declared.Read.{Read}
use Rattle.codes.specs.declared.Stop.{Stop}
use Rattle.codes.specs.declared.Stop.TheVariants.{Wrong as StopWrong, Deep as StopDeep}

-- How many operands a sign has.
abbrev pub places_of : Sign → Option ℕ
places_of (Leaf e) = Some 0
places_of (Before o) = Some 1
places_of (Between o) = Some 2
places_of NoSign = None

-- The variable that a code is, as a set; nothing for any other code.
unfoldable pub leaf_vars : ℕ → ℕ
leaf_vars b = elim (ltb b 64) [ true ↦ only b | false ↦ 0 ]

-- What the reading of an expression comes to, in a line of n characters: what is written in it and where what stands behind it begins, or where it stopped.
abbrev pub step_of : ℕ → Reading → Result Read Stop
step_of n (Whole e cs) = Ok (record { written = record { nodes = nodes e; vars = written e; temporal = temporal e }; next = n - length cs })
step_of n (Wrong cs) = Err (StopWrong (n - length cs))
step_of n (Deep cs) = Err (StopDeep (n - length cs))

-- The place where it stopped.
abbrev pub place_of : Stop → ℕ
place_of (StopWrong i) = i
place_of (StopDeep i) = i

-- The node of a code.
unfoldable pub node_of : ℕ → ℕ
node_of b = elim (ltb b 64) [ true ↦ b | false ↦ b - 64 + 256 ]

-- The nodes of the first n pairs.
unfoldable pub nodes_of : ℕ → List ℕ → List ℕ
nodes_of zero cs = []
nodes_of (suc n) cs = node_of (kind_of cs) ∷ nodes_of n (drop 2 cs)

-- A row that keeps the nodes of n pairs from a place of a line on, wherever it has room for them.
pub record Kept (line : List ℕ) (at used n : ℕ) (was out : List ℕ) : Type 0 where
  pub long : length out ≡ length was
  pub nodes_are : used + n ≤ length was → out ≡ splice used (nodes_of n (drop at line)) was
