-- Laws of hexadecimal pairs: what is written is read back, and only what is written is read.
use mathlib.Core.Path.{◌≡◌, refl, sym, ap, ap₂, ◌∙◌}
use mathlib.Core.Logic.{◌⊎◌, inl, inr, ⊎_elim, by_cases}
use mathlib.Core.List.{List, [], ◌∷◌, ◌++◌}
use mathlib.Core.Option.{none, some}
use Prim.Native.Nat.{ℕ, zero, suc, ◌+◌, ◌-◌, ◌*◌, ◌/◌, ◌%◌, ◌^◌, ◌<◌, ◌≤◌}
use native.Mathlib.Omega.{arith}
use native.Mathlib.Nat.{mod-lt, mod-eq_of_lt, div-add-mod', div-div-eq-div-mul, pow-suc}
use native.Mathlib.Decide.{dec_lt, dec_le}
use borrow.Author.Tests.{lt-ltb, le-ltb, le-leb, lt-leb}
use lib.Arith.{mod-mul}
use lib.ListN.{length}
use Rattle.lists.specs.Lists.{Each}
use Rattle.frames.specs.Hex.{hex_digit, pair, pairs, digit_of, byte_of, number_from, number}

-- ---- digits

hex_low : (n : ℕ) → n < 10 → hex_digit n ≡ 48 + n
unfolding hex_digit
hex_low n h = simp (lt-ltb n 10 h, hex_digit)

hex_high : (n : ℕ) → 10 ≤ n → hex_digit n ≡ 65 + (n - 10)
unfolding hex_digit
hex_high n h = simp (le-ltb n 10 h, hex_digit)

digit_low : (c : ℕ) → 48 ≤ c → c ≤ 57 → digit_of c ≡ c - 48
unfolding digit_of
digit_low c h k = simp (le-ltb c 48 h, le-leb c 57 k, digit_of)

digit_high : (c : ℕ) → 65 ≤ c → c ≤ 70 → digit_of c ≡ c - 65 + 10
unfolding digit_of
digit_high c h k = simp (le-ltb c 48 (omega arith), lt-leb c 57 (omega arith), le-ltb c 65 h, le-leb c 70 k, digit_of)

none_below : (c : ℕ) → c < 48 → digit_of c ≡ 16
unfolding digit_of
none_below c h = simp (lt-ltb c 48 h, digit_of)

none_between : (c : ℕ) → 57 < c → c < 65 → digit_of c ≡ 16
unfolding digit_of
none_between c h k = simp (le-ltb c 48 (omega arith), lt-leb c 57 h, lt-ltb c 65 k, digit_of)

none_above : (c : ℕ) → 70 < c → digit_of c ≡ 16
unfolding digit_of
none_above c h = simp (le-ltb c 48 (omega arith), lt-leb c 57 (omega arith), le-ltb c 65 (omega arith), lt-leb c 70 h, digit_of)

-- A digit is one of `0` to `9` and `A` to `F`.
digit_cases : (c : ℕ) → digit_of c < 16 → ((48 ≤ c) × (c ≤ 57)) ⊎ ((65 ≤ c) × (c ≤ 70))
digit_cases c h = go (dec_lt c 48) (dec_le c 57) (dec_lt c 65) (dec_le c 70)
  where
    go : Dec (c < 48) → Dec (c ≤ 57) → Dec (c < 65) → Dec (c ≤ 70) → ((48 ≤ c) × (c ≤ 57)) ⊎ ((65 ≤ c) × (c ≤ 70))
    go (yes a) b d e = absurd (omega (arith, none_below c a))
    go (no a) (yes b) d e = inl (omega arith)
    go (no a) (no b) (yes d) e = absurd (omega (arith, none_between c (omega arith) d))
    go (no a) (no b) (no d) (yes e) = inr (omega arith)
    go (no a) (no b) (no d) (no e) = absurd (omega (arith, none_above c (omega arith)))

pub digit_hex : (n : ℕ) → n < 16 → digit_of (hex_digit n) ≡ n
digit_hex n h =
    by_cases
    (dec_lt n 10)
    (λ l. ap digit_of (hex_low n l) ∙ digit_low (48 + n) (omega arith) (omega arith) ∙ omega arith)
    (λ m. ap digit_of (hex_high n (omega arith)) ∙ digit_high (65 + (n - 10)) (omega arith) (omega arith) ∙ omega arith)

pub hex_digit_lem : (c : ℕ) → digit_of c < 16 → hex_digit (digit_of c) ≡ c
hex_digit_lem c h =
    ⊎_elim
    (λ r. ap hex_digit (digit_low c r.0 r.1) ∙ hex_low (c - 48) (omega arith) ∙ omega arith)
    (λ r. ap hex_digit (digit_high c r.0 r.1) ∙ hex_high (c - 65 + 10) (omega arith) ∙ omega arith)
    (digit_cases c h)

-- No hexadecimal digit is a blank, a byte 10 or any other character below `0`.
pub hex_from_zero : (n : ℕ) → 48 ≤ hex_digit n
hex_from_zero n = by_cases (dec_lt n 10) (λ l. omega (arith, hex_low n l)) (λ m. omega (arith, hex_high n (omega arith)))

-- ---- pairs

pub byte_digits : (h l : ℕ) → digit_of h < 16 → digit_of l < 16 → byte_of h l ≡ 16 * digit_of h + digit_of l
unfolding byte_of
byte_digits h l p q = simp (lt-ltb (digit_of h) 16 p, lt-ltb (digit_of l) 16 q, byte_of)

byte_none_high : (h l : ℕ) → 16 ≤ digit_of h → byte_of h l ≡ 256
unfolding byte_of
byte_none_high h l p = simp (le-ltb (digit_of h) 16 p, byte_of)

byte_none_low : (h l : ℕ) → digit_of h < 16 → 16 ≤ digit_of l → byte_of h l ≡ 256
unfolding byte_of
byte_none_low h l p q = simp (lt-ltb (digit_of h) 16 p, le-ltb (digit_of l) 16 q, byte_of)

-- Two characters are a pair exactly when both are digits.
pub digits_of_byte : (h l : ℕ) → byte_of h l < 256 → (digit_of h < 16) × (digit_of l < 16)
digits_of_byte h l b =
    by_cases
    (dec_lt (digit_of h) 16)
    (λ p. by_cases (dec_lt (digit_of l) 16) (λ q. (p, q)) (λ n. absurd (omega (arith, byte_none_low h l p (omega arith)))))
    (λ n. absurd (omega (arith, byte_none_high h l (omega arith))))

pub byte_pair : (n : ℕ) → n < 256 → byte_of (hex_digit (n / 16)) (hex_digit (n % 16)) ≡ n
byte_pair n h =
    let high : digit_of (hex_digit (n / 16)) ≡ n / 16 = digit_hex (n / 16) (omega arith) in
    let low : digit_of (hex_digit (n % 16)) ≡ n % 16 = digit_hex (n % 16) (omega arith) in
    byte_digits (hex_digit (n / 16)) (hex_digit (n % 16)) (omega arith) (omega arith) ∙ omega arith

pub pair_byte : (h l : ℕ) → byte_of h l < 256 → pair (byte_of h l) ≡ h ∷ l ∷ []
pair_byte h l b =
    let d = digits_of_byte h l b in
    let e = byte_digits h l d.0 d.1 in
    let high : byte_of h l / 16 ≡ digit_of h = omega arith in
    let low : byte_of h l % 16 ≡ digit_of l = omega arith in
    ap₂ (λ (x y : ℕ). x ∷ y ∷ []) (ap hex_digit high ∙ hex_digit_lem h d.0) (ap hex_digit low ∙ hex_digit_lem l d.1)

-- ---- numbers of k bytes

number_next : (k m h l : ℕ) (cs : List ℕ) → byte_of h l < 256 → number_from (suc k) m (h ∷ l ∷ cs) ≡ number_from k (256 * m + byte_of h l) cs
unfolding number_from
number_next k m h l cs b = simp (lt-ltb (byte_of h l) 256 b, number_from)

number_off : (k m h l : ℕ) (cs : List ℕ) → 256 ≤ byte_of h l → number_from (suc k) m (h ∷ l ∷ cs) ≡ none
unfolding number_from
number_off k m h l cs b = simp (le-ltb (byte_of h l) 256 b, number_from)

byte_power : (k : ℕ) → 0 < 256 ^ k
byte_power zero = omega arith
byte_power (suc k) = omega (arith, byte_power k, pow-suc 256 k)

-- One byte more: the digit of weight 256 ^ k stands before the k lowest.
more_bytes : (k m n : ℕ) → (256 * m + n / 256 ^ k % 256) * 256 ^ k + n % 256 ^ k ≡ m * 256 ^ suc k + n % 256 ^ suc k
more_bytes k m n =
    let power : 256 ^ suc k ≡ 256 * 256 ^ k = pow-suc 256 k ∙ omega arith in
    rw power (omega (arith, mod-mul n {m = 256} {c = 256 ^ k} (omega arith) (byte_power k)))

number-from-pairs : (k m n : ℕ) → number_from k m (pairs k n) ≡ some (m * 256 ^ k + n % 256 ^ k)
unfolding number_from pairs
number-from-pairs zero m n = ap some (omega arith)
number-from-pairs (suc k) m n =
    let byte : n / 256 ^ k % 256 < 256 = mod-lt (n / 256 ^ k) (omega arith) in
    let same = byte_pair (n / 256 ^ k % 256) byte in
    number_next k m _ _ (pairs k n) (omega arith)
    ∙ ap (λ (b : ℕ). number_from k (256 * m + b) (pairs k n)) same
    ∙ number-from-pairs k (256 * m + n / 256 ^ k % 256) n
    ∙ ap some (more_bytes k m n)

pub number-pairs : (k n : ℕ) → n < 256 ^ k → number k (pairs k n) ≡ some n
number-pairs k n h = number-from-pairs k 0 n ∙ ap some (omega (arith, mod-eq_of_lt h))

-- What is read as n behind m is the k lowest bytes of n, and m stands above them.
from-number : (k m : ℕ) (cs : List ℕ) (n : ℕ) → number_from k m cs ≡ some n → (cs ≡ pairs k n) × (n / 256 ^ k ≡ m)
unfolding number_from pairs
from-number zero m [] n e = let same : m ≡ n = cc in (refl, omega arith)
from-number zero m (c ∷ cs) n e = let z : ◌≡◌ {A = ℕ} 0 1 = cc in absurd (omega arith)
from-number (suc k) m [] n e = let z : ◌≡◌ {A = ℕ} 0 1 = cc in absurd (omega arith)
from-number (suc k) m (h ∷ []) n e = let z : ◌≡◌ {A = ℕ} 0 1 = cc in absurd (omega arith)
from-number (suc k) m (h ∷ l ∷ cs) n e =
    by_cases
    (dec_lt (byte_of h l) 256)
    (λ b.
    let rest = from-number k (256 * m + byte_of h l) cs n (sym (number_next k m h l cs b) ∙ e) in
    let byte : n / 256 ^ k % 256 ≡ byte_of h l = omega (arith, rest.1) in
    let power : 256 ^ suc k ≡ 256 ^ k * 256 = pow-suc 256 k in (
      ap₂ (λ (x y : List ℕ). x ++ y) (sym (pair_byte h l b)) rest.0 ∙ ap (λ (x : ℕ). pair x ++ pairs k n) (sym byte),
      ap (λ (p : ℕ). n / p) power ∙ sym (div-div-eq-div-mul n (256 ^ k) 256) ∙ omega (arith, rest.1),
    ))
    (λ b. let off = number_off k m h l cs (omega arith) in let z : ◌≡◌ {A = ℕ} 0 1 = cc in absurd (omega arith))

pub pairs-number : (k : ℕ) (cs : List ℕ) (n : ℕ) → number k cs ≡ some n → (cs ≡ pairs k n) × (n < 256 ^ k)
pairs-number k cs n e =
    let found = from-number k 0 cs n e in
    (found.0, omega (arith, ap (λ (q : ℕ). q * 256 ^ k + n % 256 ^ k) found.1, div-add-mod' n (256 ^ k), mod-lt n (byte_power k)))

pub length_pairs : (k n : ℕ) → length (pairs k n) ≡ 2 * k
unfolding pairs
length_pairs zero n = refl
length_pairs (suc k) n = omega (arith, length_pairs k n)

pub pairs-from_zero : (k n : ℕ) → Each (λ c. 48 ≤ c) (pairs k n)
unfolding pairs
pairs-from_zero zero n = tt
pairs-from_zero (suc k) n = (hex_from_zero _, (hex_from_zero _, pairs-from_zero k n))

-- Four bytes are two numbers of two.
pub pairs_four : (p c : ℕ) → c < 65536 → pairs 4 (p * 65536 + c) ≡ pairs 2 p ++ pairs 2 c
unfolding pairs
pairs_four p c h =
    let x : ℕ = p * 65536 + c in
    let a : x / 16777216 % 256 ≡ p / 256 % 256 = omega arith in
    let b : x / 65536 % 256 ≡ p / 1 % 256 = omega arith in
    let d : x / 256 % 256 ≡ c / 256 % 256 = omega arith in
    let e : x / 1 % 256 ≡ c / 1 % 256 = omega arith in
    ap₂ (λ (i j : ℕ). pair i ++ (pair j ++ (pair (x / 256 % 256) ++ (pair (x / 1 % 256) ++ [])))) a b
    ∙ ap₂ (λ (i j : ℕ). pair (p / 256 % 256) ++ (pair (p / 1 % 256) ++ (pair i ++ (pair j ++ [])))) d e
