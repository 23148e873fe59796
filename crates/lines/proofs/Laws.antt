-- Laws of pairs and numbers.
use mathlib.Core.Path.{◌≡◌, refl, sym, ap, ◌∙◌, subst}
use mathlib.Core.Bool.{Bool, true, false, not, ◌&&◌}
use mathlib.Core.List.{List, [], ◌∷◌, ◌++◌}
use mathlib.Core.Option.{Option as Found, none, some}
use Prim.Native.Nat.{ℕ, suc, ◌+◌, ◌-◌, ◌*◌, ◌/◌, ◌^◌, ◌<◌, ◌≤◌}
use native.Mathlib.Omega.{arith}
use native.Mathlib.Nat.{pow-suc, pow-le-pow_right}
use native.Mathlib.Decide.{ℕ_discrete}
use lib.Dec.{ltb, leb, eqb, lit<}
use lib.ListN.{length, take, drop, get_or, length-drop, length-append}
use lib.Seq.{take-length, drop-append_seam}
use borrow.Author.Tests.{lt-ltb, le-ltb, le-leb, lt-leb, eq-eqb, ne_eqb, eqb-true, ltb-true, ltb-false}
use Rattle.std.specs.Prelude.{Option, Some, None, slice_range}
use Rattle.std.specs.Option.{option_eq}
use Rattle.std.proofs.lemmas.List.{nil_from_length}
use Rattle.frames.specs.Hex.{digit_of, byte_of, number_from, number}
use Rattle.frames.proofs.HexLaws.{pairs-number, length_pairs}
use Rattle.decks.specs.declared.Refusal.TheVariants.{BadFrame}
use Rattle.decks.specs.Answers.{Got, Refused, refuse}
use Rattle.frames.specs.Read.{kind_of, whole_number, count_line}
use Rattle.lines.specs.Numbers.{below, digit_read, pair_read, number_read, both_zero, count_is}

-- ---- numbers below a bound

below_some : (n x : ℕ) → x < n → Some x ≡ below n x
below_some n x h = sym (simp (lt-ltb x n h, below))

below_none : (n x : ℕ) → n ≤ x → None ≡ below n x
below_none n x h = sym (simp (le-ltb x n h, below))

-- What a number that was read below n says of it.
pub some_below : (n x y : ℕ) → Some y ≡ below n x → (x < n) × (y ≡ x)
some_below n x y e = go (ltb x n) refl e
  where
    go : (b : Bool) → ltb x n ≡ b → Some y ≡ elim b [ true ↦ Some x | false ↦ None ] → (x < n) × (y ≡ x)
    go true p q = (ltb-true x n p, cc)
    go false p q = cc

pub none_below : (n x : ℕ) → None ≡ below n x → n ≤ x
none_below n x e = go (ltb x n) refl e
  where
    go : (b : Bool) → ltb x n ≡ b → ◌≡◌ {A = Option ℕ} None (elim b [ true ↦ Some x | false ↦ None ]) → n ≤ x
    go true p q = cc
    go false p q = ltb-false x n p

-- ---- digits

module _ (c : ℕ) where
  pub digit-decimal : 48 ≤ c → c ≤ 57 → Some (c - 48) ≡ digit_read (digit_of c)
  unfolding digit_of
  digit-decimal h k = let z : digit_of c ≡ c - 48 = simp (le-ltb c 48 h, le-leb c 57 k, digit_of) in rw z (below_some 16 (c - 48) (omega arith))

  pub digit_letter : 65 ≤ c → c ≤ 70 → Some (c - 65 + 10) ≡ digit_read (digit_of c)
  unfolding digit_of
  digit_letter h k = let i : 48 ≤ c = omega arith in let j : 57 < c = omega arith in let z : digit_of c ≡ c - 65 + 10 = simp (le-ltb c 48 i, lt-leb c 57 j, le-ltb c 65 h, le-leb c 70 k, digit_of) in rw z (below_some 16 (c - 65 + 10) (omega arith))

  pub digit_low : c < 48 → None ≡ digit_read (digit_of c)
  unfolding digit_of
  digit_low h = let z : digit_of c ≡ 16 = simp (lt-ltb c 48 h, digit_of) in rw z refl

  pub digit-between : 57 < c → c < 65 → None ≡ digit_read (digit_of c)
  unfolding digit_of
  digit-between h k = let i : 48 ≤ c = omega arith in let z : digit_of c ≡ 16 = simp (le-ltb c 48 i, lt-leb c 57 h, lt-ltb c 65 k, digit_of) in rw z refl

  pub digit_high : 70 < c → None ≡ digit_read (digit_of c)
  unfolding digit_of
  digit_high h = let i : 48 ≤ c = omega arith in let j : 57 < c = omega arith in let k : 65 ≤ c = omega arith in let z : digit_of c ≡ 16 = simp (le-ltb c 48 i, lt-leb c 57 j, le-ltb c 65 k, lt-leb c 70 h, digit_of) in rw z refl

-- ---- pairs

module _ (h l : ℕ) where
  pub pair_wrong_high : None ≡ digit_read (digit_of h) → None ≡ pair_read (byte_of h l)
  unfolding byte_of
  pair_wrong_high e = let z : byte_of h l ≡ 256 = simp (le-ltb (digit_of h) 16 (none_below 16 (digit_of h) e), byte_of) in rw z refl

  module _ (a : ℕ) where
    pub pair_wrong_low : Some a ≡ digit_read (digit_of h) → None ≡ digit_read (digit_of l) → None ≡ pair_read (byte_of h l)
    unfolding byte_of
    pair_wrong_low e f = let p = some_below 16 (digit_of h) a e in let z : byte_of h l ≡ 256 = simp (lt-ltb (digit_of h) 16 p.0, le-ltb (digit_of l) 16 (none_below 16 (digit_of l) f), byte_of) in rw z refl

    pub pair_whole : (b : ℕ) → Some a ≡ digit_read (digit_of h) → Some b ≡ digit_read (digit_of l) → Some (16 * a + b) ≡ pair_read (byte_of h l)
    unfolding byte_of
    pair_whole b e f =
        let p = some_below 16 (digit_of h) a e in
        let q = some_below 16 (digit_of l) b f in
        let z : byte_of h l ≡ 16 * digit_of h + digit_of l = simp (lt-ltb (digit_of h) 16 p.0, lt-ltb (digit_of l) 16 q.0, byte_of) in
        let w : 16 * a + b ≡ byte_of h l = omega (arith, z, p.1, q.1) in
        ap (λ (x : ℕ). Some x) w ∙ below_some 256 (byte_of h l) (omega (arith, z, p.0, q.0))

pub kind_short : (cs : List ℕ) → length cs < 2 → kind_of cs ≡ 256
unfolding kind_of
kind_short [] h = refl
kind_short (c ∷ []) h = refl
kind_short (c ∷ d ∷ cs) h = absurd (omega arith)

kind_long : (cs : List ℕ) → kind_of cs < 256 → 2 ≤ length cs
unfolding kind_of
kind_long [] h = absurd (omega arith)
kind_long (c ∷ []) h = absurd (omega arith)
kind_long (c ∷ d ∷ cs) h = omega arith

module _ (l : List ℕ) (at : ℕ) where
  no_pair : length (drop at l) < 2 → None ≡ pair_read (kind_of (drop at l))
  no_pair h = rw (kind_short (drop at l) h) refl

  pub no_pair_behind : length l < at → None ≡ pair_read (kind_of (drop at l))
  no_pair_behind h = no_pair (omega (arith, length-drop at l))

kind_first : (cs : List ℕ) → 2 ≤ length cs → kind_of cs ≡ byte_of (get_or cs 0 0) (get_or cs 1 0)
unfolding kind_of
kind_first [] h = absurd (omega arith)
kind_first (c ∷ []) h = absurd (omega arith)
kind_first (c ∷ d ∷ cs) h = refl

module _ (l : List ℕ) (at : ℕ) (s : List ℕ) where
  from_here : s ≡ slice_range l at (length l) → s ≡ drop at l
  from_here e = e ∙ ap (λ (n : ℕ). take n (drop at l)) (sym (length-drop at l)) ∙ take-length (drop at l)

  pub no_pair_here : s ≡ slice_range l at (length l) → length s < 2 → None ≡ pair_read (kind_of (drop at l))
  no_pair_here e h = let w : s ≡ drop at l = from_here e in no_pair l at (rw w at h)

  pub pair_here : (r : Option ℕ) → s ≡ slice_range l at (length l) → 2 ≤ length s → r ≡ pair_read (byte_of (get_or s 0 0) (get_or s 1 0)) → r ≡ pair_read (kind_of (drop at l))
  pair_here r e h q = let w : s ≡ drop at l = from_here e in q ∙ ap pair_read (sym (kind_first s h) ∙ ap kind_of w)

-- A pair that was read stands within the line.
pub pair_inside : (l : List ℕ) (at r : ℕ) → r ≡ kind_of (drop at l) → r < 256 → at + 2 ≤ length l
pair_inside l at r e h = omega (arith, kind_long (drop at l) (rw (← e) h), length-drop at l)

-- ---- zeros

digit_zero : (c : ℕ) → digit_of c ≡ 0 → c ≡ 48
unfolding digit_of
digit_zero c e = go (ltb c 48) refl (leb c 57) refl (ltb c 65) refl (leb c 70) refl
  where
    go : (p : Bool) → ltb c 48 ≡ p → (q : Bool) → leb c 57 ≡ q → (r : Bool) → ltb c 65 ≡ r → (s : Bool) → leb c 70 ≡ s → c ≡ 48
    go true p q₁ q r₁ r s₁ s = let z : digit_of c ≡ 16 = simp (p, digit_of) in absurd (omega (arith, z, e))
    go false p true q r₁ r s₁ s = let z : digit_of c ≡ c - 48 = simp (p, q, digit_of) in omega (arith, z, e, ltb-false c 48 p)
    go false p false q true r s₁ s = let z : digit_of c ≡ 16 = simp (p, q, r, digit_of) in absurd (omega (arith, z, e))
    go false p false q false r true s = let z : digit_of c ≡ c - 65 + 10 = simp (p, q, r, s, digit_of) in absurd (omega (arith, z, e))
    go false p false q false r false s = let z : digit_of c ≡ 16 = simp (p, q, r, s, digit_of) in absurd (omega (arith, z, e))

zero_pair : (h l : ℕ) → h ≡ 48 → l ≡ 48 → byte_of h l ≡ 0
unfolding byte_of digit_of
zero_pair h l e f = ap (λ (x : ℕ). byte_of x l) e ∙ ap (byte_of 48) f

byte_zero : (h l : ℕ) → byte_of h l ≡ 0 → (h ≡ 48) × (l ≡ 48)
unfolding byte_of
byte_zero h l e = go (ltb (digit_of h) 16) refl (ltb (digit_of l) 16) refl
  where
    go : (a : Bool) → ltb (digit_of h) 16 ≡ a → (b : Bool) → ltb (digit_of l) 16 ≡ b → (h ≡ 48) × (l ≡ 48)
    go true p true q = let z : byte_of h l ≡ 16 * digit_of h + digit_of l = simp (p, q, byte_of) in (digit_zero h (omega (arith, z, e)), digit_zero l (omega (arith, z, e)))
    go true p false q = let z : byte_of h l ≡ 256 = simp (p, q, byte_of) in absurd (omega (arith, z, e))
    go false p b q = let z : byte_of h l ≡ 256 = simp (p, byte_of) in absurd (omega (arith, z, e))

-- Two pairs are zero where their characters, in one number, are four `0`.
pub zeros_are : (a b c d : ℕ) → a < 256 → b < 256 → c < 256 → d < 256 → eqb (a + 256 * b + 65536 * (c + 256 * d)) 808464432 ≡ both_zero (a ∷ b ∷ c ∷ d ∷ [])
unfolding both_zero kind_of
zeros_are a b c d la lb lc ld = sym (go (ℕ_discrete (a + 256 * b + 65536 * (c + 256 * d)) 808464432))
  where
    go : Dec (a + 256 * b + 65536 * (c + 256 * d) ≡ 808464432) → (eqb (byte_of a b) 0 && eqb (byte_of c d) 0) ≡ eqb (a + 256 * b + 65536 * (c + 256 * d)) 808464432
    go (yes s) =
        ap (λ (z : Bool). z && eqb (byte_of c d) 0) (eq-eqb (byte_of a b) 0 (zero_pair a b (omega arith) (omega arith)))
        ∙ eq-eqb (byte_of c d) 0 (zero_pair c d (omega arith) (omega arith))
        ∙ sym (eq-eqb (a + 256 * b + 65536 * (c + 256 * d)) 808464432 s)
    go (no n) = other (ℕ_discrete (byte_of a b) 0) (ℕ_discrete (byte_of c d) 0) ∙ sym (ne_eqb (a + 256 * b + 65536 * (c + 256 * d)) 808464432 n)
      where
        other : Dec (byte_of a b ≡ 0) → Dec (byte_of c d ≡ 0) → (eqb (byte_of a b) 0 && eqb (byte_of c d) 0) ≡ false
        other (yes e) (yes f) = let p = byte_zero a b e in let q = byte_zero c d f in absurd (n (omega (arith, p.0, p.1, q.0, q.1)))
        other (yes e) (no f) = ap (λ (z : Bool). z && eqb (byte_of c d) 0) (eq-eqb (byte_of a b) 0 e) ∙ ne_eqb (byte_of c d) 0 f
        other (no e) f = ap (λ (z : Bool). z && eqb (byte_of c d) 0) (ne_eqb (byte_of a b) 0 e)

-- ---- numbers

number_short : (k v : ℕ) (cs : List ℕ) → 256 ≤ kind_of cs → number_from (suc k) v cs ≡ none
unfolding kind_of number_from
number_short k v [] h = refl
number_short k v (c ∷ []) h = refl
number_short k v (c ∷ d ∷ cs) h = simp (le-ltb (byte_of c d) 256 h, number_from)

number_on : (k v : ℕ) (cs : List ℕ) → kind_of cs < 256 → number_from (suc k) v cs ≡ number_from k (256 * v + kind_of cs) (drop 2 cs)
unfolding kind_of number_from
number_on k v [] h = absurd (omega arith)
number_on k v (c ∷ []) h = absurd (omega arith)
number_on k v (c ∷ d ∷ cs) h = simp (lt-ltb (byte_of c d) 256 h, number_from)

-- The number of the k pairs from a place of the line on is that of the pairs left, behind what was read.
pub record Left (line : List ℕ) (at k : ℕ) (rest : List ℕ) (value : ℕ) : Type 0 where
  pub pairs_left : length rest ≡ 2 * (length rest / 2)
  pub few : length rest ≤ 2 * k
  pub small : value < 256 ^ (k - length rest / 2)
  pub number_is : number k (drop at line) ≡ number_from (length rest / 2) value rest

first_kind : (a b : ℕ) (cs : List ℕ) → kind_of (a ∷ b ∷ cs) ≡ byte_of a b
unfolding kind_of
first_kind a b cs = refl

both_zeros : (a b c d : ℕ) → true ≡ both_zero (a ∷ b ∷ c ∷ d ∷ []) → (byte_of a b ≡ 0) × (byte_of c d ≡ 0)
unfolding both_zero kind_of
both_zeros a b c d e = go (eqb (byte_of a b) 0) refl (eqb (byte_of c d) 0) refl e
  where
    go : (p : Bool) → eqb (byte_of a b) 0 ≡ p → (q : Bool) → eqb (byte_of c d) 0 ≡ q → true ≡ (p && q) → (byte_of a b ≡ 0) × (byte_of c d ≡ 0)
    go true p true q z = (eqb-true (byte_of a b) 0 p, eqb-true (byte_of c d) 0 q)
    go true p false q z = cc
    go false p b q z = cc

-- Where nothing was read there is room for every pair.
zero_room : (i : ℕ) → 0 < 256 ^ i
zero_room i = let le : 0 ≤ i = omega arith in let p : 256 ^ 0 ≤ 256 ^ i = pow-le-pow_right (lit< tt) le in omega (arith, p)

length-two : (two : List ℕ) → length two ≡ 2 → two ≡ get_or two 0 0 ∷ get_or two 1 0 ∷ []
length-two [] h = absurd (omega arith)
length-two (a ∷ []) h = absurd (omega arith)
length-two (a ∷ b ∷ []) h = refl
length-two (a ∷ b ∷ c ∷ cs) h = absurd (omega arith)

-- The pair that stands first.
pub two_kind : (rest two more : List ℕ) → rest ≡ two ++ more → length two ≡ 2 → byte_of (get_or two 0 0) (get_or two 1 0) ≡ kind_of rest
unfolding kind_of
two_kind rest two more e t = sym (ap kind_of (e ∙ ap (λ (l : List ℕ). l ++ more) (length-two two t)))

module _ (line : List ℕ) (at k : ℕ) where
  pub left_begun : (rest : List ℕ) → length line ≡ at + 2 * k → rest ≡ take (length line - at) (drop at line) → Left line at k rest 0
  left_begun rest h e =
      let long : length (drop at line) ≡ length line - at = length-drop at line in
      let all : rest ≡ drop at line = e ∙ ap (λ (n : ℕ). take n (drop at line)) (sym long) ∙ take-length (drop at line) in
      let pairs : length rest ≡ 2 * k = omega (arith, ap length all) in
      let half : length rest / 2 ≡ k = omega arith in
      record {
        pairs_left = omega arith;
        few = omega arith;
        small = zero_room (k - length rest / 2);
        number_is = ap (λ (n : ℕ). number_from n 0 (drop at line)) (sym half) ∙ ap (number_from (length rest / 2) 0) (sym all);
      }

  module _ (rest two more : List ℕ) (value : ℕ) where
    -- One pair further.
    pub left_next : (b : ℕ) → k ≤ 8 → rest ≡ two ++ more → length two ≡ 2 → b ≡ kind_of rest → b < 256 → Left line at k rest value → Left line at k more (256 * value + b)
    left_next b m e t p q l =
        let long : length rest ≡ length two + length more = ap length e ∙ length-append two more in
        let one : length rest / 2 ≡ suc (length more / 2) = omega (arith, l.pairs_left) in
        let place : k - length more / 2 ≡ suc (k - length rest / 2) = omega (arith, l.few) in
        let past : drop 2 rest ≡ more = ap (drop 2) e ∙ ap (λ (n : ℕ). drop n (two ++ more)) (sym t) ∙ drop-append_seam two more in
        record {
          pairs_left = omega (arith, l.pairs_left);
          few = omega (arith, l.few);
          small = rw place (omega (arith, l.small, q, pow-suc 256 (k - length rest / 2)));
          number_is =
              l.number_is
              ∙ ap (λ (n : ℕ). number_from n value rest) one
              ∙ number_on (length more / 2) value rest (rw (← p) q)
              ∙ ap (λ (n : ℕ). number_from (length more / 2) (256 * value + n) (drop 2 rest)) (sym p)
              ∙ ap (number_from (length more / 2) (256 * value + b)) past;
        }

    pub left_wrong : rest ≡ two ++ more → length two ≡ 2 → None ≡ pair_read (byte_of (get_or two 0 0) (get_or two 1 0)) → Left line at k rest value → None ≡ number_read (number k (drop at line))
    left_wrong e t q l =
        let long : length rest ≡ length two + length more = ap length e ∙ length-append two more in
        let one : length rest / 2 ≡ suc (length more / 2) = omega (arith, l.pairs_left) in
        let wrong : 256 ≤ kind_of rest = omega (arith, two_kind rest two more e t, none_below 256 (byte_of (get_or two 0 0) (get_or two 1 0)) q) in
        sym (ap number_read (l.number_is ∙ ap (λ (n : ℕ). number_from n value rest) one ∙ number_short (length more / 2) value rest wrong))

    module _ (b : ℕ) (m : k ≤ 8) (e : rest ≡ two ++ more) (t : length two ≡ 2) (q : Some b ≡ pair_read (byte_of (get_or two 0 0) (get_or two 1 0))) (l : Left line at k rest value) where
      pub left_on : Left line at k more (256 * value + b)
      left_on = let p = some_below 256 (byte_of (get_or two 0 0) (get_or two 1 0)) b q in left_next b m e t (p.1 ∙ two_kind rest two more e t) (omega (arith, p.0, p.1)) l

      pub left_fits : 256 * value + b < 2 ^ 64
      left_fits = let le : k - length more / 2 ≤ 8 = omega arith in let p : 256 ^ (k - length more / 2) ≤ 256 ^ 8 = pow-le-pow_right (lit< tt) le in omega (arith, left_on.small, p)

    pub left_doubled : k ≤ 8 → rest ≡ two ++ more → length two ≡ 2 → Left line at k rest value → 256 * value < 2 ^ 64
    left_doubled m e t l =
        let long : length rest ≡ length two + length more = ap length e ∙ length-append two more in
        let le : k - length rest / 2 ≤ 7 = omega (arith, l.few) in
        let p : 256 ^ (k - length rest / 2) ≤ 256 ^ 7 = pow-le-pow_right (lit< tt) le in
        omega (arith, l.small, p)

  pub left_done : (rest : List ℕ) (value : ℕ) → length rest < 2 → Left line at k rest value → Some value ≡ number_read (number k (drop at line))
  unfolding number_from
  left_done rest value h l =
      let none_left : length rest / 2 ≡ 0 = omega arith in
      let nothing : length rest ≡ 0 = omega (arith, l.pairs_left) in
      sym (ap number_read (l.number_is ∙ ap (λ (n : ℕ). number_from n value rest) none_left ∙ ap (number_from 0 value) (nil_from_length rest nothing)))

  -- Two pairs of zeros are passed over.
  pub left_zeros : (rest : List ℕ) → k ≤ 8 → 4 ≤ length rest → true ≡ both_zero (get_or rest 0 0 ∷ get_or rest 1 0 ∷ get_or rest 2 0 ∷ get_or rest 3 0 ∷ []) → Left line at k rest 0 → Left line at k (take (length rest - 4) (drop 4 rest)) 0
  left_zeros [] m h e l = absurd (omega arith)
  left_zeros (a ∷ []) m h e l = absurd (omega arith)
  left_zeros (a ∷ b ∷ []) m h e l = absurd (omega arith)
  left_zeros (a ∷ b ∷ c ∷ []) m h e l = absurd (omega arith)
  left_zeros (a ∷ b ∷ c ∷ d ∷ rest) m h e l =
      let z = both_zeros a b c d e in
      let long : length rest ≡ length (a ∷ b ∷ c ∷ d ∷ rest) - 4 = omega arith in
      let all : rest ≡ take (length (a ∷ b ∷ c ∷ d ∷ rest) - 4) rest = sym (take-length rest) ∙ ap (λ (n : ℕ). take n rest) long in
      let one : Left line at k (c ∷ d ∷ rest) 0 = left_next (a ∷ b ∷ c ∷ d ∷ rest) (a ∷ b ∷ []) (c ∷ d ∷ rest) 0 0 m refl refl (sym (first_kind a b (c ∷ d ∷ rest) ∙ z.0)) (lit< tt) l in
      subst (λ (x : List ℕ). Left line at k x 0) all (left_next (c ∷ d ∷ rest) (c ∷ d ∷ []) rest 0 0 m refl refl (sym (first_kind c d rest ∙ z.1)) (lit< tt) one)

-- What the number read says of the number.
read_good : (o : Found ℕ) (r : Option ℕ) (x : ℕ) → r ≡ number_read o → r ≡ Some x → o ≡ some x
read_good none r x e q = let z : None ≡ Some x = sym e ∙ q in cc
read_good (some y) r x e q = let z : Some y ≡ Some x = sym e ∙ q in cc

read_bad : (o : Found ℕ) (r : Option ℕ) → r ≡ number_read o → r ≡ None → o ≡ none
read_bad none r e q = refl
read_bad (some y) r e q = let z : Some y ≡ None = sym e ∙ q in cc

-- A number that was read has two digits for each of its bytes.
pub number-long : (k : ℕ) (cs : List ℕ) (r : Option ℕ) (x : ℕ) → r ≡ number_read (number k cs) → r ≡ Some x → length cs ≡ 2 * k
number-long k cs r x e q = ap length (pairs-number k cs x (read_good (number k cs) r x e q)).0 ∙ length_pairs k x

-- A line of another length has no number.
pub number_unlike : (l : List ℕ) (at k : ℕ) → 1 ≤ k → (length l ≡ at + 2 * k → ⊥) → None ≡ number_read (number k (drop at l))
number_unlike l at k h n = go (number_read (number k (drop at l))) refl
  where
    go : (r : Option ℕ) → r ≡ number_read (number k (drop at l)) → None ≡ r
    go None e = refl
    go (Some x) e = absurd (n (omega (arith, number-long k (drop at l) (Some x) x e refl, length-drop at l)))

module _ (t n k : ℕ) (cs : List ℕ) (r : Option ℕ) where
  pub whole-number_none : r ≡ number_read (number k cs) → r ≡ None → whole_number t n k cs ≡ Refused (BadFrame t n)
  unfolding whole_number
  whole-number_none e q = simp (read_bad (number k cs) r e q, whole_number)

  pub whole-number-some : (x : ℕ) → r ≡ number_read (number k cs) → r ≡ Some x → whole_number t n k cs ≡ Got x
  unfolding whole_number
  whole-number-some x e q = simp (read_good (number k cs) r x e q, whole_number)

-- 05 and 15 by their count.
pub count_line_lem : {S : Type 0} (t n : ℕ) (cs : List ℕ) (s : S) → count_line t n cs s ≡ refuse (not (count_is n cs)) (BadFrame t n) (Got s)
unfolding count_line count_is whole_number
count_line_lem t n cs s = go (number 2 cs) refl
  where
    go : (o : Found ℕ) → number 2 cs ≡ o → count_line t n cs s ≡ refuse (not (count_is n cs)) (BadFrame t n) (Got s)
    go none e = simp (e, count_line, count_is, whole_number)
    go (some x) e = simp (e, count_line, count_is, whole_number)

pub counts_are : (n : ℕ) (cs : List ℕ) (r : Option ℕ) → 1 ≤ n → r ≡ number_read (number 2 cs) → option_eq eqb r (Some (n - 1)) ≡ count_is n cs
unfolding count_is
counts_are n cs r h e = ap (λ (x : Option ℕ). option_eq eqb x (Some (n - 1))) e ∙ go (number 2 cs) refl
  where
    same : (x : ℕ) → Dec (x ≡ n - 1) → eqb x (n - 1) ≡ eqb (x + 1) n
    same x (yes s) = eq-eqb x (n - 1) s ∙ sym (eq-eqb (x + 1) n (omega arith))
    same x (no d) = ne_eqb x (n - 1) d ∙ sym (ne_eqb (x + 1) n (λ s. d (omega arith)))

    go : (o : Found ℕ) → number 2 cs ≡ o → option_eq eqb (number_read o) (Some (n - 1)) ≡ count_is n cs
    go none e = sym (simp (e, count_is))
    go (some x) e = same x (ℕ_discrete x (n - 1)) ∙ sym (simp (e, count_is))
