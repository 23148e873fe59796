-- Upper-case hexadecimal pairs.
use Rattle.std.specs.Prelude.{true, false, List, [], ◌∷◌, ◌++◌, ℕ, zero, suc, ◌+◌, ◌-◌, ◌*◌, ◌/◌, ◌%◌, ◌^◌, ltb, leb}
use Rattle.std.proofs.Math.Option.{Option, none, some}
use Prim.Native.Char.{code as character}

-- The digit of a number below 16.
unfoldable pub hex_digit : ℕ → ℕ
hex_digit n = elim (ltb n 10) [ true ↦ character "0" + n | false ↦ character "A" + (n - 10) ]

-- The pair of a byte.
abbrev pub pair : ℕ → List ℕ
pair n = hex_digit (n / 16) ∷ hex_digit (n % 16) ∷ []

-- The k lowest bytes of n, high byte first.
unfoldable pub pairs : ℕ → ℕ → List ℕ
pairs zero n = []
pairs (suc k) n = pair (n / 256 ^ k % 256) ++ pairs k n

-- The number of a digit; 16 for any other character.
unfoldable pub digit_of : ℕ → ℕ
digit_of c =
    elim (ltb c (character "0")) [
      | true ↦ 16
      | false ↦
          elim (leb c (character "9")) [
            | true ↦ c - character "0"
            | false ↦
                elim (ltb c (character "A")) [
                  | true ↦ 16
                  | false ↦ elim (leb c (character "F")) [ true ↦ c - character "A" + 10 | false ↦ 16 ]
                ]
          ]
    ]

-- The byte of two characters; 256 where they are no pair.
unfoldable pub byte_of : ℕ → ℕ → ℕ
byte_of h l = elim (ltb (digit_of h) 16) [ true ↦ elim (ltb (digit_of l) 16) [ true ↦ 16 * digit_of h + digit_of l | false ↦ 256 ] | false ↦ 256 ]

-- The number that exactly k pairs give behind those read as n, and nothing after them.
unfoldable pub number_from : ℕ → ℕ → List ℕ → Option ℕ
number_from zero n [] = some n
number_from zero n (c ∷ cs) = none
number_from (suc k) n [] = none
number_from (suc k) n (h ∷ []) = none
number_from (suc k) n (h ∷ l ∷ cs) = elim (ltb (byte_of h l) 256) [ true ↦ number_from k (256 * n + byte_of h l) cs | false ↦ none ]

-- The number of exactly k pairs.
abbrev pub number : ℕ → List ℕ → Option ℕ
number k cs = number_from k 0 cs
