-- What the readers of numbers in a line answer.
use Rattle.std.specs.Prelude.{Bool, true, false, ◌&&◌, List, ℕ, ◌+◌, ltb, eqb, drop, Option, Some, None}
use Rattle.std.proofs.Math.Option.{Option as Found, none, some}
use Rattle.frames.specs.Hex.{number}
use Rattle.frames.specs.Read.{kind_of}

-- A number where it is below n, and otherwise none.
abbrev pub below : ℕ → ℕ → Option ℕ
below n x = elim (ltb x n) [ true ↦ Some x | false ↦ None ]

-- A digit's number, where there is one: 16 stands for none.
abbrev pub digit_read : ℕ → Option ℕ
digit_read d = below 16 d

-- A pair's byte, where there is one: 256 stands for none.
abbrev pub pair_read : ℕ → Option ℕ
pair_read b = below 256 b

-- A number read, or not.
abbrev pub number_read : Found ℕ → Option ℕ
number_read none = None
number_read (some n) = Some n

-- Whether the first two pairs are both `00`.
unfoldable pub both_zero : List ℕ → Bool
both_zero cs = eqb (kind_of cs) 0 && eqb (kind_of (drop 2 cs)) 0

-- Whether the two bytes of a 05 or 15 are the number of frames before line n.
unfoldable pub count_is : ℕ → List ℕ → Bool
count_is n cs = elim (number 2 cs) [ none ↦ false | some x ↦ eqb (x + 1) n ]
