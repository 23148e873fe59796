-- Laws of texts written part by part.
use mathlib.Core.Path.{◌≡◌, refl, sym, ap, ◌∙◌}
use mathlib.Core.List.{List, [], ◌∷◌, ◌++◌, append_assoc, append-nil}
use Prim.Native.Nat.{ℕ, zero, suc, ◌+◌, ◌-◌, ◌*◌, ◌/◌, ◌%◌, ◌^◌, ◌<◌, ◌≤◌}
use native.Mathlib.Omega.{arith}
use native.Mathlib.Nat.{zero-add, div-one}
use native.Mathlib.Numerals.{add-one}
use lib.ListN.{length, take, drop, get_or, length-append, drop_of_length-le}
use lib.Seq.{take_all, drop-cons}
use borrow.Rule.Slice.PartMut.{mid_of, put_mid}
use borrow.Author.Tests.{lt-ltb, le-ltb}
use Rattle.std.specs.Int.{w64, byte_at, bytes_high_first, to_be_bytes}
use Rattle.std.specs.List.{flat_map}
use Rattle.lists.specs.Lists.{splice}
use Rattle.lists.proofs.Laws.{splice-splice, splice-rest}
use Rattle.frames.specs.Hex.{hex_digit, pair, pairs}
use Rattle.frames.specs.Written.{set_bytes, code_byte, node_pairs, frame, state_frames}
use Rattle.frames.proofs.HexLaws.{length_pairs}
use Rattle.frames.proofs.ExprLaws.{length_node_pairs}

-- ---- one part written behind the other

-- A part behind what is written.
pub splice-behind : (used : ℕ) (front more out₀ out ys : List ℕ) → out ≡ splice 0 front out₀ → used ≡ length front
    → ys ≡ splice 0 more (mid_of used (length out - used) out) → put_mid used (length out - used) out ys ≡ splice 0 (front ++ more) out₀
splice-behind used front more out₀ out ys o u e =
    let long : used ≡ 0 + length front = omega arith in
    splice-rest used more out ys e
    ∙ ap (λ (l : List ℕ). splice used more l) o
    ∙ ap (λ (k : ℕ). splice k more (splice 0 front out₀)) long
    ∙ splice-splice 0 front more out₀ (omega arith)

-- Three parts, one behind the other.
pub three_parts : (u v : ℕ) (a b c out₀ x y z : List ℕ) → x ≡ splice 0 a out₀ → u ≡ length a → y ≡ splice 0 b (mid_of u (length x - u) x) → v ≡ length a + length b
    → z ≡ splice 0 c (mid_of v (length (put_mid u (length x - u) x y) - v) (put_mid u (length x - u) x y))
    → put_mid v (length (put_mid u (length x - u) x y) - v) (put_mid u (length x - u) x y) z ≡ splice 0 (a ++ (b ++ c)) out₀
three_parts u v a b c out₀ x y z ex eu ey ev ez =
    splice-behind v (a ++ b) c out₀ (put_mid u (length x - u) x y) z (splice-behind u a b out₀ x y ex eu ey) (omega (arith, length-append a b)) ez
    ∙ ap (λ (l : List ℕ). splice 0 l out₀) (append_assoc a b c)

-- Of the whole text all but the rest stands in the buffer, in used bytes from its start on.
pub record Wrote (whole rest : List ℕ) (used : ℕ) (out₀ out : List ℕ) : Type 0 where
  pub front : List ℕ
  pub whole_is : whole ≡ front ++ rest
  pub used_is : used ≡ length front
  pub out_is : out ≡ splice 0 front out₀

module _ (whole rest : List ℕ) (used : ℕ) (out₀ out : List ℕ) where
  -- The next part, written into what is free.
  pub wrote_part : (more ys : List ℕ) → Wrote whole (more ++ rest) used out₀ out → ys ≡ splice 0 more (mid_of used (length out - used) out)
      → Wrote whole rest (used + length more) out₀ (put_mid used (length out - used) out ys)
  wrote_part more ys w e =
      record {
        front = w.front ++ more;
        whole_is = w.whole_is ∙ sym (append_assoc w.front more rest);
        used_is = omega (arith, w.used_is, length-append w.front more);
        out_is = splice-behind used w.front more out₀ out ys w.out_is w.used_is e;
      }

  pub wrote_length : Wrote whole rest used out₀ out → used + length rest ≡ length whole
  wrote_length w = omega (arith, w.used_is, ap (λ (l : List ℕ). length l) w.whole_is, length-append w.front rest)

  pub all_wrote : Wrote whole rest used out₀ out → rest ≡ [] → out ≡ splice 0 whole out₀
  all_wrote w e = w.out_is ∙ ap (λ (l : List ℕ). splice 0 l out₀) (sym (w.whole_is ∙ ap (λ (l : List ℕ). w.front ++ l) e ∙ append-nil w.front))

-- ---- a text for each element

-- Of the texts of the elements, each written by f, those before place i stand in the buffer, in used bytes from its start on.
abbrev pub EachTo : (ℕ → List ℕ) → List ℕ → ℕ → ℕ → List ℕ → List ℕ → Type 0
EachTo f xs i used out₀ out = Wrote (flat_map f xs) (flat_map f (drop i xs)) used out₀ out

pub each_next : (f : ℕ → List ℕ) (w : ℕ) (xs : List ℕ) (i : ℕ) (out₀ out ys : List ℕ) → ((x : ℕ) → length (f x) ≡ w) → i < length xs
    → EachTo f xs i (w * i) out₀ out → ys ≡ splice 0 (f (get_or xs i 0)) (mid_of (w * i) (length out - w * i) out)
    → EachTo f xs (i + 1) (w * (i + 1)) out₀ (put_mid (w * i) (length out - w * i) out ys)
each_next f w xs i out₀ out ys long h e r =
    let more : List ℕ = f (get_or xs i 0) in
    let next : flat_map f (drop i xs) ≡ more ++ flat_map f (drop (i + 1) xs) = ap (flat_map f) (drop-cons xs i 0 h ∙ ap (λ (k : ℕ). get_or xs i 0 ∷ drop k xs) (sym (add-one i))) in
    let used : w * i + length more ≡ w * (i + 1) = omega (arith, long (get_or xs i 0)) in
    rw (← used) (wrote_part (flat_map f xs) (flat_map f (drop (i + 1) xs)) (w * i) out₀ out more ys (rw next at e) r)

pub each-done : (f : ℕ → List ℕ) (xs : List ℕ) (i used : ℕ) (out₀ out : List ℕ) → length xs ≤ i → EachTo f xs i used out₀ out → out ≡ splice 0 (flat_map f xs) out₀
each-done f xs i used out₀ out h e = all_wrote (flat_map f xs) (flat_map f (drop i xs)) used out₀ out e (ap (flat_map f) (drop_of_length-le xs h))

-- ---- bytes

pub digit_low : (n : ℕ) → n < 10 → 48 + n ≡ hex_digit n
unfolding hex_digit
digit_low n h = simp (lt-ltb n 10 h, hex_digit)

pub digit_high : (n : ℕ) → 10 ≤ n → 65 + (n - 10) ≡ hex_digit n
unfolding hex_digit
digit_high n h = simp (le-ltb n 10 h, hex_digit)

-- ---- numbers

-- The last k of eight bytes.
abbrev pub last_bytes : ℕ → List ℕ → List ℕ
last_bytes k bytes = take (8 - (8 - k)) (drop (8 - k) bytes)

length_high_first : (k n : ℕ) → length (bytes_high_first k n) ≡ k
length_high_first zero n = refl
length_high_first (suc k) n = ap suc (length_high_first k n)

drop-high_first : (k j n : ℕ) → drop j (bytes_high_first (j + k) n) ≡ bytes_high_first k n
drop-high_first k zero n = ap (λ (m : ℕ). bytes_high_first m n) (zero-add k)
drop-high_first k (suc j) n =
    let e : suc j + k ≡ suc (j + k) = omega arith in
    ap (λ (m : ℕ). drop (suc j) (bytes_high_first m n)) e ∙ drop-high_first k j n

last_bytes_are : (k n : ℕ) → k ≤ 8 → last_bytes k (bytes_high_first 8 n) ≡ bytes_high_first k n
last_bytes_are k n h =
    let all : 8 ≡ 8 - k + k = omega arith in
    ap (λ (m : ℕ). last_bytes k (bytes_high_first m n)) all
    ∙ ap (take (8 - (8 - k))) (drop-high_first k (8 - k) n)
    ∙ take_all (8 - (8 - k)) (bytes_high_first k n) (omega (arith, length_high_first k n))

byte_is : (i n : ℕ) → byte_at i n ≡ n / 256 ^ i % 256
byte_is zero n = ap (λ (m : ℕ). m % 256) (sym (div-one n))
byte_is (suc i) n = refl

pairs_are : (k n : ℕ) → flat_map pair (bytes_high_first k n) ≡ pairs k n
unfolding pairs
pairs_are zero n = refl
pairs_are (suc k) n = ap (λ (b : ℕ). pair b ++ flat_map pair (bytes_high_first k n)) (byte_is k n) ∙ ap (λ (l : List ℕ). pair (n / 256 ^ k % 256) ++ l) (pairs_are k n)

pub number-done : (k n i used : ℕ) (bytes out₀ out : List ℕ) → k ≤ 8 → bytes ≡ to_be_bytes w64 n → length (last_bytes k bytes) ≤ i → EachTo pair (last_bytes k bytes) i used out₀ out
    → out ≡ splice 0 (pairs k n) out₀
number-done k n i used bytes out₀ out h b d e =
    each-done pair (last_bytes k bytes) i used out₀ out d e
    ∙ ap (λ (l : List ℕ). splice 0 l out₀) (ap (λ (l : List ℕ). flat_map pair (last_bytes k l)) b ∙ ap (flat_map pair) (last_bytes_are k n h) ∙ pairs_are k n)

pub number-frame : (kind k n : ℕ) (out₀ x y z : List ℕ) → x ≡ splice 0 (pair kind) out₀ → y ≡ splice 0 (pairs k n) (mid_of 2 (length x - 2) x)
    → z ≡ splice 0 (10 ∷ []) (mid_of (2 * k + 2) (length (put_mid 2 (length x - 2) x y) - (2 * k + 2)) (put_mid 2 (length x - 2) x y))
    → put_mid (2 * k + 2) (length (put_mid 2 (length x - 2) x y) - (2 * k + 2)) (put_mid 2 (length x - 2) x y) z ≡ splice 0 (frame kind (pairs k n)) out₀
number-frame kind k n out₀ x y z ex ey ez = three_parts 2 (2 * k + 2) (pair kind) (pairs k n) (10 ∷ []) out₀ x y z ex refl ey (omega (arith, length_pairs k n)) ez

-- ---- states

-- The frame of a state.
abbrev pub state_frame : ℕ → ℕ → List ℕ
state_frame kind s = frame kind (pairs set_bytes s)

pub length_state_frame : (kind s : ℕ) → length (state_frame kind s) ≡ 19
length_state_frame kind s = omega (arith, length-append (pairs 8 s) (10 ∷ []), length_pairs 8 s)

pub states_are : (kind : ℕ) (states : List ℕ) → flat_map (state_frame kind) states ≡ state_frames kind states
unfolding state_frames
states_are kind [] = refl
states_are kind (s ∷ ss) = ap (λ (l : List ℕ). state_frame kind s ++ l) (states_are kind ss)

pub states-done : (kind : ℕ) (states : List ℕ) (i used : ℕ) (out₀ out : List ℕ) → length states ≤ i → EachTo (state_frame kind) states i used out₀ out → out ≡ splice 0 (state_frames kind states) out₀
states-done kind states i used out₀ out h e = each-done (state_frame kind) states i used out₀ out h e ∙ ap (λ (l : List ℕ). splice 0 l out₀) (states_are kind states)

-- ---- nodes

pub code_low : (n : ℕ) → n < 256 → n ≡ code_byte n
unfolding code_byte
code_low n h = simp (lt-ltb n 256 h, code_byte)

pub code_high : (n : ℕ) → 256 ≤ n → n - 256 + 64 ≡ code_byte n
unfolding code_byte
code_high n h = simp (le-ltb n 256 h, code_byte)

-- The pair of a node's code.
abbrev pub node_pair : ℕ → List ℕ
node_pair n = pair (code_byte n)

pub nodes_are : (nodes : List ℕ) → flat_map node_pair nodes ≡ node_pairs nodes
unfolding node_pairs
nodes_are [] = refl
nodes_are (n ∷ ns) = ap (λ (l : List ℕ). node_pair n ++ l) (nodes_are ns)

pub nodes-done : (nodes : List ℕ) (i used : ℕ) (out₀ out : List ℕ) → length nodes ≤ i → EachTo node_pair nodes i used out₀ out → out ≡ splice 0 (node_pairs nodes) out₀
nodes-done nodes i used out₀ out h e = each-done node_pair nodes i used out₀ out h e ∙ ap (λ (l : List ℕ). splice 0 l out₀) (nodes_are nodes)

pub nodes_line : (nodes out₀ x y : List ℕ) → x ≡ splice 0 (node_pairs nodes) out₀ → y ≡ splice 0 (10 ∷ []) (mid_of (2 * length nodes) (length x - 2 * length nodes) x)
    → put_mid (2 * length nodes) (length x - 2 * length nodes) x y ≡ splice 0 (node_pairs nodes ++ (10 ∷ [])) out₀
nodes_line nodes out₀ x y ex ey =
    splice-behind (2 * length nodes) (node_pairs nodes) (10 ∷ []) out₀ x y ex (omega (arith, length_node_pairs nodes)) ey
