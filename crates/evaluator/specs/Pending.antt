-- Pending values: one word for each state of a claim, its lowest digit the value that was worked out last.
use Rattle.std.specs.Prelude.{◌≡◌, List, ℕ, suc, ◌+◌, ◌*◌, ◌/◌, ◌%◌, ◌^◌, ◌<◌, ◌≤◌, true, false, ltb, length, get_or}
use Rattle.sets.specs.Sets.{bit}

-- The value worked out last, and the one before it.
abbrev pub top : ℕ → ℕ
top w = w % 2

abbrev pub second : ℕ → ℕ
second w = w / 2 % 2

-- The word with one more value; with another value on top; with one value for its two topmost.
abbrev pub pushed : ℕ → ℕ → ℕ
pushed w x = 2 * w + x

abbrev pub topped : ℕ → ℕ → ℕ
topped w x = 2 * (w / 2) + x

abbrev pub joined : ℕ → ℕ → ℕ
joined w x = 2 * (w / 4) + x

-- The words up to but without place i are what f makes of them, the others are as they were.
pub record Done (f : ℕ → ℕ → ℕ) (i : ℕ) (old new : List ℕ) : Type 0 where
  pub same : length new ≡ length old
  pub before : (j : ℕ) → j < i → j < length old → get_or new j 0 ≡ f j (get_or old j 0)
  pub behind : (j : ℕ) → i ≤ j → get_or new j 0 ≡ get_or old j 0

-- Every word is what the step can make of its place and of the word that it was.
pub record Made (Step : ℕ → ℕ → ℕ → Type 0) (old new : List ℕ) : Type 0 where
  pub same : length new ≡ length old
  pub each : (i : ℕ) → i < length old → Step i (get_or old i 0) (get_or new i 0)

-- Every word is what f makes of it.
abbrev pub All : (ℕ → ℕ → ℕ) → List ℕ → List ℕ → Type 0
All f old new = Done f (length old) old new

-- Every word has room for one more value in k digits.
abbrev pub Below : ℕ → List ℕ → Type 0
Below k ws = (i : ℕ) → i < length ws → get_or ws i 0 < 2 ^ k

-- The pending value at state j that was worked out last.
abbrev pub tops : List ℕ → ℕ → ℕ
tops ws j = top (get_or ws j 0)

-- The state that follows state i, of n states, behind the last of which the run returns to p.
unfoldable pub following : ℕ → ℕ → ℕ → ℕ
following n p i = elim (ltb (suc i) n) [ true ↦ suc i | false ↦ p ]

-- What becomes of the word w at state i: the variable's value is pushed.
unfoldable pub variable_word : List ℕ → ℕ → ℕ → ℕ → ℕ
variable_word states v i w = pushed w (bit (get_or states i 0) v)

-- What `X` makes of the word w at state i, the words being ws.
unfoldable pub next_word : ℕ → List ℕ → ℕ → ℕ → ℕ
next_word p ws i w = topped w (tops ws (following (length ws) p i))
