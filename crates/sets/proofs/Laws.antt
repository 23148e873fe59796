-- Laws of sets and states as numbers, over any width or none.
use mathlib.Core.Path.{◌≡◌, refl, sym, ap, ap₂, ◌∙◌, subst}
use mathlib.Core.Logic.{◌⊎◌, inl, inr, ⊎_elim, by_cases}
use mathlib.Core.Bool.{true, false}
use Prim.Native.Nat.{ℕ, zero, suc, ◌+◌, ◌-◌, ◌*◌, ◌/◌, ◌%◌, ◌^◌, ◌<◌, ◌≤◌, min, max}
use native.Mathlib.Omega.{arith}
use native.Mathlib.Nat.{div-eq_of_lt, zero-div, mod-lt, pow-suc, lt_of_lt_of_le, div-add-mod', mod-eq_of_lt, mul-mod_left, min-le_left, max-add-min, add_comm}
use native.Mathlib.Decide.{dec_lt, ℕ_discrete}
use borrow.Author.Tests.{eqb-true, eqb-false, eq-eqb, ne_eqb}
use lib.Arith.{bin_ind}
use lib.Pow.{pow_pos, pow-lt, pow_mono, pow-add, shl-shr, shr-shr}
use lib.Bits.{and_step, or_step, and_shr, or_shr, and_le_l, and_le_r, and_comm, and_self, or_lt}
use lib.Count.{ones, ones_step, ones_cat, count_trailing_zeros, under, trailing_of_zero}
use Rattle.sets.specs.Sets.{bit, ◌∋◌, has, ◌⊆◌, only, union, meet, without, inside, size, Lowest, width, lowest_of}

-- ---- one digit

pub bit_or_zero : (s i : ℕ) → (bit s i ≡ 0) ⊎ (bit s i ≡ 1)
bit_or_zero s i = go (s / 2 ^ i % 2) (mod-lt (s / 2 ^ i) (omega arith))
  where
    go : (b : ℕ) → b < 2 → (b ≡ 0) ⊎ (b ≡ 1)
    go zero h = inl refl
    go (suc zero) h = inr refl
    go (suc (suc b)) h = absurd (omega arith)

pub bit_lt : (s i : ℕ) → bit s i < 2
bit_lt s i = mod-lt (s / 2 ^ i) (omega arith)

pub bit-union : (s t i : ℕ) → bit (union s t) i ≡ max (bit s i) (bit t i)
bit-union s t i = ap (λ (m : ℕ). m % 2) (or_shr s t i) ∙ omega (arith, or_step (s / 2 ^ i) (t / 2 ^ i))

pub bit-meet : (s t i : ℕ) → bit (meet s t) i ≡ min (bit s i) (bit t i)
bit-meet s t i = ap (λ (m : ℕ). m % 2) (and_shr s t i) ∙ omega (arith, and_step (s / 2 ^ i) (t / 2 ^ i))

-- A set bounds its own members.
pub bit_high : (s i : ℕ) → s < 2 ^ i → bit s i ≡ 0
bit_high s i h = ap (λ (m : ℕ). m % 2) (div-eq_of_lt h)

pub lt_pow : (i : ℕ) → i < 2 ^ i
lt_pow zero = omega arith
lt_pow (suc i) = omega (arith, lt_pow i, pow-suc 2 i)

-- The digit above the lowest, of half the number.
pub bit_half : (s i : ℕ) → bit s (suc i) ≡ bit (s / 2) i
bit_half s i = ap (λ (m : ℕ). m % 2) (ap (λ (k : ℕ). s / 2 ^ k) (omega arith) ∙ sym (shr-shr s 1 i))

pub bit_zero : (i : ℕ) → bit 0 i ≡ 0
bit_zero i = ap (λ (m : ℕ). m % 2) (zero-div (2 ^ i))

pub bit_lowest : (s : ℕ) → bit s 0 ≡ s % 2
bit_lowest s = ap (λ (m : ℕ). m % 2) (omega arith)

-- Two numbers with the same digits are one number.
all_zero : (t : ℕ) → ((i : ℕ) → bit t i ≡ 0) → 0 ≡ t
all_zero =
    bin_ind
    (λ (t : ℕ). ((i : ℕ) → bit t i ≡ 0) → 0 ≡ t)
    (λ h. refl)
    (λ t ih h. omega (arith, ih (λ i. sym (bit_half t i) ∙ h (suc i)), bit_lowest t, h 0))

pub ext : (s t : ℕ) → ((i : ℕ) → bit s i ≡ bit t i) → s ≡ t
ext =
    bin_ind
    (λ (s : ℕ). (t : ℕ) → ((i : ℕ) → bit s i ≡ bit t i) → s ≡ t)
    (λ t h. all_zero t (λ i. sym (h i) ∙ bit_zero i))
    (λ s ih t h. omega (arith, ih (t / 2) (λ i. sym (bit_half s i) ∙ h (suc i) ∙ bit_half t i), bit_lowest s, bit_lowest t, h 0))

-- ---- members and subsets

pub has_true : (s i : ℕ) → s ∋ i → has s i ≡ true
has_true s i h = eq-eqb (bit s i) 1 h

pub true_has : (s i : ℕ) → has s i ≡ true → s ∋ i
true_has s i h = eqb-true (bit s i) 1 h

pub has_false : (s i : ℕ) → (s ∋ i → ⊥) → has s i ≡ false
has_false s i h = ne_eqb (bit s i) 1 h

pub false_has : (s i : ℕ) → has s i ≡ false → s ∋ i → ⊥
false_has s i h = eqb-false (bit s i) 1 h

pub not_in : (s i : ℕ) → (s ∋ i → ⊥) → bit s i ≡ 0
not_in s i h = ⊎_elim (λ z. z) (λ o. absurd (h o)) (bit_or_zero s i)

pub member_dec : (s i : ℕ) → Dec (s ∋ i)
member_dec s i = ⊎_elim (λ z. no (λ o. omega (arith, z, o))) (λ o. yes o) (bit_or_zero s i)

pub subset_refl : (s : ℕ) → s ⊆ s
subset_refl s i h = h

pub nothing_within : (t : ℕ) → 0 ⊆ t
nothing_within t i z = absurd (omega (arith, z, bit_zero i))

pub subset_trans : (s t u : ℕ) → s ⊆ t → t ⊆ u → s ⊆ u
subset_trans s t u f g i h = g i (f i h)

pub subset_antisym : (s t : ℕ) → s ⊆ t → t ⊆ s → s ≡ t
subset_antisym s t f g = ext s t (λ i. go i (bit_or_zero s i) (bit_or_zero t i))
  where
    go : (i : ℕ) → (bit s i ≡ 0) ⊎ (bit s i ≡ 1) → (bit t i ≡ 0) ⊎ (bit t i ≡ 1) → bit s i ≡ bit t i
    go i (inl a) (inl b) = a ∙ sym b
    go i (inl a) (inr b) = g i b ∙ sym b
    go i (inr a) b = a ∙ sym (f i a)

pub union_left : (s t : ℕ) → s ⊆ union s t
union_left s t i h = omega (arith, bit-union s t i, bit_lt t i, h)

pub union_right : (s t : ℕ) → t ⊆ union s t
union_right s t i h = omega (arith, bit-union s t i, bit_lt s i, h)

pub union-least : (s t u : ℕ) → s ⊆ u → t ⊆ u → union s t ⊆ u
union-least s t u f g i h = ⊎_elim (λ z. g i (omega (arith, bit-union s t i, z, h))) (λ o. f i o) (bit_or_zero s i)

pub union_assoc : (s t u : ℕ) → union s (union t u) ≡ union (union s t) u
union_assoc s t u =
    ext
    (union s (union t u))
    (union (union s t) u)
    (λ i. omega (arith, bit-union s (union t u) i, bit-union t u i, bit-union (union s t) u i, bit-union s t i))

pub union_nothing : (s : ℕ) → union s 0 ≡ union 0 s
union_nothing s = ext (union s 0) (union 0 s) (λ i. omega (arith, bit-union s 0 i, bit-union 0 s i))

pub union_cases : (s t i : ℕ) → union s t ∋ i → (s ∋ i) ⊎ (t ∋ i)
union_cases s t i h = ⊎_elim (λ z. inr (omega (arith, bit-union s t i, z, h))) (λ o. inl o) (bit_or_zero s i)

pub meet_left : (s t : ℕ) → meet s t ⊆ s
meet_left s t i h = omega (arith, bit-meet s t i, bit_lt s i, bit_lt t i, h)

pub meet_right : (s t : ℕ) → meet s t ⊆ t
meet_right s t i h = omega (arith, bit-meet s t i, bit_lt s i, bit_lt t i, h)

pub meet-most : (s t u : ℕ) → u ⊆ s → u ⊆ t → u ⊆ meet s t
meet-most s t u f g i h = omega (arith, bit-meet s t i, f i h, g i h)

-- ---- a state seen on a set

pub bit-meet_in : (s c i : ℕ) → c ∋ i → bit (meet s c) i ≡ bit s i
bit-meet_in s c i h = omega (arith, bit-meet s c i, bit_lt s i, h)

pub bit-meet_out : (s c i : ℕ) → (c ∋ i → ⊥) → bit (meet s c) i ≡ 0
bit-meet_out s c i n = omega (arith, bit-meet s c i, not_in c i n)

-- Two states look alike on the set exactly when they agree on its variables.
pub agree_meet : (s t c : ℕ) → ((i : ℕ) → c ∋ i → bit s i ≡ bit t i) → meet s c ≡ meet t c
agree_meet s t c f =
    ext
    (meet s c)
    (meet t c)
    (λ i.
    by_cases
    (member_dec c i)
    (λ m. bit-meet_in s c i m ∙ f i m ∙ sym (bit-meet_in t c i m))
    (λ n. bit-meet_out s c i n ∙ sym (bit-meet_out t c i n)))

pub meet_agree : (s t c i : ℕ) → meet s c ≡ meet t c → c ∋ i → bit s i ≡ bit t i
meet_agree s t c i e m = sym (bit-meet_in s c i m) ∙ ap (λ (x : ℕ). bit x i) e ∙ bit-meet_in t c i m

-- ---- one variable's set

pub bit-only : (v : ℕ) → only v ∋ v
bit-only v = ap (λ (m : ℕ). m % 2) (ap (λ (m : ℕ). m / 2 ^ v) (omega arith) ∙ shl-shr 1 v)

only_below : (d i : ℕ) → bit (2 ^ (suc d + i)) i ≡ 0
only_below d i =
    ap (λ (m : ℕ). m % 2) (ap (λ (m : ℕ). m / 2 ^ i) (pow-add 2 (suc d) i) ∙ shl-shr (2 ^ suc d) i) ∙ omega (arith, pow-suc 2 d)

pub only-bit : (v i : ℕ) → only v ∋ i → i ≡ v
only-bit v i h = go (dec_lt v i) (dec_lt i v)
  where
    go : Dec (v < i) → Dec (i < v) → i ≡ v
    go (yes l) d = absurd (omega (arith, h, bit_high (2 ^ v) i (pow-lt l)))
    go (no n) (yes l) = let e : v ≡ suc (v - suc i) + i = omega arith in absurd (omega (arith, only_below (v - suc i) i, rw e at h))
    go (no n) (no m) = omega arith

pub only-least : (v s : ℕ) → s ∋ v → only v ⊆ s
only-least v s h i o = subst (λ (j : ℕ). s ∋ j) (sym (only-bit v i o)) h

-- ---- difference

-- A number less another is taken digit by digit where no digit borrows.
less_half : (s m h c : ℕ) → m ≡ h * 2 + c → h ≤ s / 2 → c ≤ s % 2 → (s - m) / 2 ≡ s / 2 - h
less_half s m h c e l d = omega arith

less_lowest : (s m h c : ℕ) → m ≡ h * 2 + c → h ≤ s / 2 → c ≤ s % 2 → (s - m) % 2 ≡ s % 2 - c
less_lowest s m h c e l d = omega arith

without-digit : (s t : ℕ) → ((t i : ℕ) → bit (without (s / 2) t) i ≡ bit (s / 2) i - bit t i) → (i : ℕ) → bit (without s t) i ≡ bit s i - bit t i
without-digit s t ih zero =
    bit_lowest (without s t)
    ∙ less_lowest s (meet s t) (meet (s / 2) (t / 2)) (min (s % 2) (t % 2)) (and_step s t) (and_le_l (s / 2) (t / 2)) (min-le_left (s % 2) (t % 2))
    ∙ omega (arith, bit_lowest s, bit_lowest t)
without-digit s t ih (suc i) =
    bit_half (without s t) i
    ∙ ap (λ (w : ℕ). bit w i) (less_half s (meet s t) (meet (s / 2) (t / 2)) (min (s % 2) (t % 2)) (and_step s t) (and_le_l (s / 2) (t / 2)) (min-le_left (s % 2) (t % 2)))
    ∙ ih (t / 2) i
    ∙ omega (arith, bit_half s i, bit_half t i)

pub bit-without : (s t i : ℕ) → bit (without s t) i ≡ bit s i - bit t i
bit-without =
    bin_ind
    (λ (s : ℕ). (t i : ℕ) → bit (without s t) i ≡ bit s i - bit t i)
    (λ t i. omega (arith, bit_zero i))
    (λ s ih t i. without-digit s t ih i)

pub without-left : (s t : ℕ) → without s t ⊆ s
without-left s t i h = omega (arith, bit-without s t i, bit_lt s i, h)

pub without_out : (s t i : ℕ) → without s t ∋ i → t ∋ i → ⊥
without_out s t i h o = omega (arith, bit-without s t i, bit_lt s i, h, o)

pub without_in : (s t i : ℕ) → s ∋ i → (t ∋ i → ⊥) → without s t ∋ i
without_in s t i h n = omega (arith, bit-without s t i, h, not_in t i n)

-- ---- subset as a test, and subset as order

pub subset_meet : (s t : ℕ) → s ⊆ t → meet s t ≡ s
subset_meet s t f = subset_antisym (meet s t) s (meet_left s t) (meet-most s t s (subset_refl s) f)

pub meet_subset : (s t : ℕ) → meet s t ≡ s → s ⊆ t
meet_subset s t e i h = meet_right s t i (rw e h)

pub subset_without : (s t : ℕ) → s ⊆ t → without s t ≡ 0
subset_without s t f = omega (arith, subset_meet s t f)

pub without_subset : (s t : ℕ) → without s t ≡ 0 → s ⊆ t
without_subset s t e = meet_subset s t (omega (arith, and_le_l s t, e))

pub subset_union : (s t : ℕ) → s ⊆ t → union s t ≡ t
subset_union s t f = subset_antisym (union s t) t (union-least s t t f (subset_refl t)) (union_right s t)

pub inside_true : (s t : ℕ) → s ⊆ t → inside s t ≡ true
inside_true s t f = eq-eqb (meet s t) s (subset_meet s t f)

pub true_inside : (s t : ℕ) → inside s t ≡ true → s ⊆ t
true_inside s t e = meet_subset s t (eqb-true (meet s t) s e)

pub inside_false : (s t : ℕ) → (s ⊆ t → ⊥) → inside s t ≡ false
inside_false s t n = ne_eqb (meet s t) s (λ e. n (meet_subset s t e))

pub false_inside : (s t : ℕ) → inside s t ≡ false → s ⊆ t → ⊥
false_inside s t e f = eqb-false (meet s t) s e (subset_meet s t f)

pub subset_dec : (s t : ℕ) → Dec (s ⊆ t)
subset_dec s t = by_cases (ℕ_discrete (meet s t) s) (λ e. yes (meet_subset s t e)) (λ n. no (λ f. n (subset_meet s t f)))

pub subset_le : (s t : ℕ) → s ⊆ t → s ≤ t
subset_le s t f = omega (arith, and_le_r s t, subset_meet s t f)

-- ---- the width: s < 2 ^ k exactly when every member is below k

pub member_lt : (k s i : ℕ) → s < 2 ^ k → s ∋ i → i < k
member_lt k s i h m = by_cases (dec_lt i k) (λ l. l) (λ n. absurd (omega (arith, bit_high s i (lt_of_lt_of_le h (pow_mono {i = k} {j = i} (omega arith))), m)))

pub members_lt : (k s : ℕ) → ((i : ℕ) → s ∋ i → i < k) → s < 2 ^ k
members_lt k s f =
    let none : 0 ≡ s / 2 ^ k = all_zero (s / 2 ^ k) (λ i. ap (λ (m : ℕ). m % 2) (shr-shr s k i) ∙ not_in s (k + i) (λ m. omega (arith, f (k + i) m))) in
    omega (arith, ap (λ (q : ℕ). q * 2 ^ k + s % 2 ^ k) none ∙ div-add-mod' s (2 ^ k), mod-lt s (pow_pos k))

pub union_lt : (k s t : ℕ) → s < 2 ^ k → t < 2 ^ k → union s t < 2 ^ k
union_lt = or_lt

pub meet_lt : (k s t : ℕ) → s < 2 ^ k → meet s t < 2 ^ k
meet_lt k s t h = omega (arith, and_le_l s t, h)

pub without_lt : (k s t : ℕ) → s < 2 ^ k → without s t < 2 ^ k
without_lt k s t h = omega arith

pub subset_lt : (k s t : ℕ) → s ⊆ t → t < 2 ^ k → s < 2 ^ k
subset_lt k s t f h = omega (arith, subset_le s t f)

-- A variable from the width on: its digit is 0, and nothing of its own set is left below the width.
pub digit_high : (k s v : ℕ) → s < 2 ^ k → k ≤ v → 0 ≡ bit s v
digit_high k s v h l = sym (not_in s v (λ m. omega (arith, member_lt k s v h m)))

pub only_mod : (k v : ℕ) → v < k → only v % 2 ^ k ≡ only v
only_mod k v l = mod-eq_of_lt (pow-lt l)

pub only-within : (v s : ℕ) → s ≡ only v % 2 ^ width → v < width → s ≡ only v
only-within v s e l = e ∙ only_mod width v l

pub union-within : (s v t u : ℕ) → u ≡ union s t → t ≡ only v % 2 ^ width → v < width → u ≡ union s (only v)
union-within s v t u e o l = e ∙ ap (union s) (only-within v t o l)

pub only_mod_high : (k v : ℕ) → k ≤ v → 0 ≡ only v % 2 ^ k
only_mod_high k v l =
    let e : v ≡ v - k + k = omega arith in
    sym (ap (λ (m : ℕ). only m % 2 ^ k) e ∙ ap (λ (m : ℕ). m % 2 ^ k) (pow-add 2 (v - k) k) ∙ mul-mod_left (2 ^ (v - k)) (2 ^ k))

-- ---- sizes

size_digits : (m h c : ℕ) → c < 2 → m ≡ h * 2 + c → size m ≡ c + size h
size_digits m h c l e =
    let half : m / 2 ≡ h = omega arith in
    let lowest : m % 2 ≡ c = omega arith in
    ones_step m ∙ ap₂ (λ (x y : ℕ). x + size y) lowest half

-- What two sets share is counted twice by their sizes.
pub size-union-meet : (s t : ℕ) → size (union s t) + size (meet s t) ≡ size s + size t
size-union-meet =
    bin_ind
    (λ (s : ℕ). (t : ℕ) → size (union s t) + size (meet s t) ≡ size s + size t)
    (λ t. add_comm (size t) (size 0))
    (λ s ih t.
    omega (
      arith,
      size_digits (union s t) (union (s / 2) (t / 2)) (max (s % 2) (t % 2)) (omega arith) (or_step s t),
      size_digits (meet s t) (meet (s / 2) (t / 2)) (min (s % 2) (t % 2)) (omega arith) (and_step s t),
      max-add-min (s % 2) (t % 2),
      ones_step s,
      ones_step t,
      ih (t / 2),
    ))

pub size_zero : size 0 ≡ 0
unfolding ones
size_zero = refl

pub zero_size : (s : ℕ) → size s ≡ 0 → s ≡ 0
zero_size = bin_ind (λ (s : ℕ). size s ≡ 0 → s ≡ 0) (λ e. refl) (λ s ih e. omega (arith, ih (omega (arith, ones_step s, e)), ones_step s, e))

pub size-only : (v : ℕ) → size (only v) ≡ 1
unfolding ones
size-only v = let e : 2 ^ v ≡ 1 * 2 ^ v + 0 = omega arith in ap size e ∙ ones_cat v 1 0 (pow_pos v)

pub meet_member : (s v : ℕ) → s ∋ v → meet s (only v) ≡ only v
meet_member s v h = and_comm s (only v) ∙ subset_meet (only v) s (only-least v s h)

pub meet_none : (s v : ℕ) → (s ∋ v → ⊥) → meet s (only v) ≡ 0
meet_none s v n = sym (all_zero (meet s (only v)) (λ i. not_in (meet s (only v)) i (λ m. n (subst (λ (j : ℕ). s ∋ j) (only-bit v i (meet_right s (only v) i m)) (meet_left s (only v) i m)))))

-- A set is what it has without t and what it shares with t.
pub without-meet-union : (s t : ℕ) → union (without s t) (meet s t) ≡ s
without-meet-union s t =
    ext (union (without s t) (meet s t)) s (λ i. bit-union (without s t) (meet s t) i ∙ omega (arith, bit-without s t i, bit-meet s t i, bit_lt s i, bit_lt t i))

pub without-meet : (s t : ℕ) → meet (without s t) (meet s t) ≡ 0
without-meet s t =
    ext
    (meet (without s t) (meet s t))
    0
    (λ i. bit-meet (without s t) (meet s t) i ∙ omega (arith, bit-without s t i, bit-meet s t i, bit_lt s i, bit_lt t i, bit_zero i))

pub size-without : (s t : ℕ) → size (without s t) + size (meet s t) ≡ size s
size-without s t = omega (arith, size-union-meet (without s t) (meet s t), ap size (without-meet-union s t), ap size (without-meet s t), size_zero)

-- A new variable is one more, one taken out is one less.
pub size_new : (s v : ℕ) → (s ∋ v → ⊥) → size (union s (only v)) ≡ size s + 1
size_new s v n = omega (arith, size-union-meet s (only v), ap size (meet_none s v n), size_zero, size-only v)

pub size_less : (s v : ℕ) → s ∋ v → size (without s (only v)) + 1 ≡ size s
size_less s v h = omega (arith, size-without s (only v), ap size (meet_member s v h), size-only v)

pub size_subset : (s t : ℕ) → s ⊆ t → size s ≤ size t
size_subset s t f = omega (arith, size-without t s, ap size (and_comm t s ∙ subset_meet s t f))

pub size_proper : (s t : ℕ) → s ⊆ t → (s ≡ t → ⊥) → size s < size t
size_proper s t f n =
    by_cases
    (ℕ_discrete (size (without t s)) 0)
    (λ e. absurd (n (subset_antisym s t f (without_subset t s (zero_size (without t s) e)))))
    (λ d. omega (arith, size-without t s, ap size (and_comm t s ∙ subset_meet s t f)))

-- ---- the lowest member

pub lowest_unique : (s v w : ℕ) → Lowest s v → Lowest s w → v ≡ w
lowest_unique s v w a b = by_cases (dec_lt v w) (λ l. absurd (b.1 v l a.0)) (λ n. by_cases (dec_lt w v) (λ l. absurd (a.1 w l b.0)) (λ m. omega arith))

lowest_odd : (s : ℕ) → s % 2 ≡ 1 → Lowest s 0
lowest_odd s e = (bit_lowest s ∙ e, λ j l. absurd (omega arith))

lowest_even : (s v : ℕ) → s % 2 ≡ 0 → Lowest (s / 2) v → Lowest s (suc v)
lowest_even s v e h = (bit_half s v ∙ h.0, below)
  where
    below : (j : ℕ) → j < suc v → s ∋ j → ⊥
    below zero l m = omega (arith, bit_lowest s, m)
    below (suc j) l m = h.1 j (omega arith) (sym (bit_half s j) ∙ m)

trailing_odd : (k s : ℕ) → s % 2 ≡ 1 → count_trailing_zeros (suc k) s ≡ 0
unfolding count_trailing_zeros
trailing_odd k s e = ap (λ (d : ℕ). under d (count_trailing_zeros k (s / 2))) e

trailing_even : (k s : ℕ) → s % 2 ≡ 0 → count_trailing_zeros (suc k) s ≡ suc (count_trailing_zeros k (s / 2))
unfolding count_trailing_zeros
trailing_even k s e = ap (λ (d : ℕ). under d (count_trailing_zeros k (s / 2))) e

pub trailing_lowest : (k s : ℕ) → 0 < s → s < 2 ^ k → Lowest s (count_trailing_zeros k s)
trailing_lowest zero s p h = absurd (omega arith)
trailing_lowest (suc k) s p h =
    by_cases
    (ℕ_discrete (s % 2) 0)
    (λ e.
    subst (Lowest s) (sym (trailing_even k s e)) (lowest_even s (count_trailing_zeros k (s / 2)) e (trailing_lowest k (s / 2) (omega arith) (omega (arith, pow-suc 2 k)))))
    (λ n. let e : s % 2 ≡ 1 = omega arith in subst (Lowest s) (sym (trailing_odd k s e)) (lowest_odd s e))

-- What is answered for the lowest variable of a word is it, and is below the width; for the empty set it is the width.
pub lowest_found : (s v : ℕ) → v ≡ lowest_of s → (s ≡ 0 → ⊥) → s < 2 ^ width → Lowest s v
lowest_found s v e n h = subst (Lowest s) (sym e) (trailing_lowest width s (omega arith) h)

pub lowest_lt : (s v : ℕ) → v ≡ lowest_of s → (s ≡ 0 → ⊥) → s < 2 ^ width → v < width
lowest_lt s v e n h = member_lt width s v h (lowest_found s v e n h).0

pub lowest_none : lowest_of 0 ≡ width
lowest_none = trailing_of_zero width

pub lowest_some : (s : ℕ) → 0 < s → (v : ℕ) × Lowest s v
lowest_some s p = (count_trailing_zeros s s, trailing_lowest s s p (lt_pow s))

pub without-only : (s v : ℕ) → s ∋ v → without s (only v) ≡ s - only v
without-only s v h = ap (λ (m : ℕ). s - m) (meet_member s v h)

pub without_falls : (s v : ℕ) → s ∋ v → without s (only v) < s
without_falls s v h = omega (arith, without-only s v h, subset_le (only v) s (only-least v s h), pow_pos v)

meet_less_odd : (s : ℕ) → s % 2 ≡ 1 → meet s (s - 1) ≡ s - 1
meet_less_odd s e =
    let half : (s - 1) / 2 ≡ s / 2 = omega arith in
    omega (arith, and_step s (s - 1), ap (meet (s / 2)) half ∙ and_self (s / 2))

meet_less_even : (s : ℕ) → s % 2 ≡ 0 → 0 < s → meet s (s - 1) ≡ meet (s / 2) (s / 2 - 1) * 2
meet_less_even s e p =
    let half : (s - 1) / 2 ≡ s / 2 - 1 = omega arith in
    omega (arith, and_step s (s - 1), ap (meet (s / 2)) half)

meet_less : (v s : ℕ) → Lowest s v → meet s (s - 1) ≡ s - only v
meet_less zero s h = meet_less_odd s (sym (bit_lowest s) ∙ h.0)
meet_less (suc v) s h =
    let even : s % 2 ≡ 0 = sym (bit_lowest s) ∙ not_in s 0 (h.1 0 (omega arith)) in
    let low : Lowest (s / 2) v = (sym (bit_half s v) ∙ h.0, λ j l m. h.1 (suc j) (omega arith) (bit_half s j ∙ m)) in
    let most : only v ≤ s / 2 = subset_le (only v) (s / 2) (only-least v (s / 2) low.0) in
    meet_less_even s even (omega (arith, most, pow_pos v)) ∙ omega (arith, meet_less v (s / 2) low, most, pow-suc 2 v, even)

-- Taking the lowest variable out.
pub meet_less_one : (s v : ℕ) → Lowest s v → meet s (s - 1) ≡ without s (only v)
meet_less_one s v h = meet_less v s h ∙ sym (without-only s v h.0)

pub meet_less_falls : (s : ℕ) → 0 < s → meet s (s - 1) < s
meet_less_falls s p = omega (arith, and_le_r s (s - 1))
