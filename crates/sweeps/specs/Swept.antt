-- What `U` and `W` make of pending values, from the last state back.
use Rattle.std.specs.Prelude.{◌≡◌, List, ℕ, zero, suc, ◌-◌, ◌<◌, ◌≤◌, min, max, length, get_or}
use Rattle.evaluator.specs.Pending.{second, joined, tops}

-- The words from place i on are what f makes of them, the others are as they were.
pub record Swept (f : ℕ → ℕ → ℕ) (i : ℕ) (old new : List ℕ) : Type 0 where
  pub same : length new ≡ length old
  pub before : (j : ℕ) → j < i → get_or new j 0 ≡ get_or old j 0
  pub behind : (j : ℕ) → i ≤ j → j < length old → get_or new j 0 ≡ f j (get_or old j 0)

-- `(aUb)` or `(aWb)` at state i, k states before the end, where v stands behind the last: b, or a and the same one state on.
unfoldable pub sweep : (ℕ → ℕ) → (ℕ → ℕ) → ℕ → ℕ → ℕ → ℕ
sweep a b v zero i = v
sweep a b v (suc k) i = max (b i) (min (a i) (sweep a b v k (suc i)))

-- The pending value at state j that was worked out before the last one.
abbrev pub seconds : List ℕ → ℕ → ℕ
seconds ws j = second (get_or ws j 0)

-- The value at state p, worked out once round.
abbrev pub settled : ℕ → ℕ → List ℕ → ℕ
settled p z ws = sweep (seconds ws) (tops ws) z (length ws - p) p

-- What `U` (v settled from 0) or `W` (from 1) makes of the word w at state i, the words being ws.
unfoldable pub swept_word : ℕ → List ℕ → ℕ → ℕ → ℕ
swept_word v ws i w = joined w (sweep (seconds ws) (tops ws) v (length ws - i) i)
