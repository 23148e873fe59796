-- A set of variables and a state are both numbers: digit i is 1 where Vi is in the set, or has the value 1 in the state.
-- No width is fixed: a number bounds its own digits.
use Rattle.std.specs.Prelude.{◌≡◌, Bool, ℕ, ◌-◌, ◌/◌, ◌%◌, ◌^◌, ◌<◌, eqb}
use Rattle.std.specs.Int.Bits.{bit_and, bit_or}
use Rattle.std.specs.Int.Count.{ones, count_trailing_zeros}

-- Digit i of s.
abbrev pub bit : ℕ → ℕ → ℕ
bit s i = s / 2 ^ i % 2

-- Vi is in s.
infix 50 ◌∋◌
abbrev pub ◌∋◌ : ℕ → ℕ → Type 0
s ∋ i = bit s i ≡ 1

-- Whether Vi is in s.
abbrev pub has : ℕ → ℕ → Bool
has s i = eqb (bit s i) 1

-- Every variable of s is in t.
infix 50 ◌⊆◌
abbrev pub ◌⊆◌ : ℕ → ℕ → Type 0
s ⊆ t = (i : ℕ) → s ∋ i → t ∋ i

-- The set of Vi alone.
abbrev pub only : ℕ → ℕ
only i = 2 ^ i

-- The variables in s or in t.
abbrev pub union : ℕ → ℕ → ℕ
union s t = bit_or s t

-- The variables in both.
abbrev pub meet : ℕ → ℕ → ℕ
meet s t = bit_and s t

-- The variables of s that are not in t.
abbrev pub without : ℕ → ℕ → ℕ
without s t = s - bit_and s t

-- Whether every variable of s is in t.
abbrev pub inside : ℕ → ℕ → Bool
inside s t = eqb (meet s t) s

-- The number of variables in s: the ones among its digits.
abbrev pub size : ℕ → ℕ
size s = ones s

-- i is the lowest variable of s.
abbrev pub Lowest : ℕ → ℕ → Type 0
Lowest s i = (s ∋ i) × ((j : ℕ) → j < i → s ∋ j → ⊥)

-- The variables that a word has room for are those below this.
abbrev pub width : ℕ
width = 64

-- The lowest variable of s below the width; the width where there is none.
abbrev pub lowest_of : ℕ → ℕ
lowest_of s = count_trailing_zeros width s
