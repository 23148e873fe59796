-- Laws of expressions in pairs: what is written is read back, only what is written is read, and one level more changes nothing but a depth.
use mathlib.Core.Path.{◌≡◌, refl, sym, ap, ◌∙◌, subst}
use mathlib.Core.Logic.{by_cases}
use mathlib.Core.Bool.{Bool, true, false}
use mathlib.Core.List.{List, [], ◌∷◌, ◌++◌, append_assoc}
use Prim.Native.Nat.{ℕ, zero, suc, ◌+◌, ◌-◌, ◌*◌, ◌^◌, ◌<◌, ◌≤◌}
use native.Mathlib.Omega.{arith}
use native.Mathlib.Decide.{dec_lt}
use borrow.Author.Tests.{lt-ltb, le-ltb}
use lib.ListN.{length, get_or}
use lib.Pow.{pow_pos, pow-lt}
use Rattle.lists.specs.Lists.{Each}
use Rattle.sets.proofs.Laws.{union_lt}
use Rattle.logic.specs.Expressions.{Expr, Const, Var, One, Two, Op1, Op2, Not, Next, Future, Always, And, Or, Until, Weak, levels, written, const_node, node1, node2, code, Below}
use Rattle.logic.proofs.Codes.{levels-some}
use Rattle.frames.specs.Hex.{pair, byte_of}
use Rattle.frames.specs.Written.{code_byte, node_pairs}
use Rattle.frames.specs.Read.{Sign, Leaf, Before, Between, NoSign, signs, sign_of, levelled, begins, read_expr}
use Rattle.decks.specs.Readings.{Reading, Whole, Wrong, Deep, onward}
use Rattle.decks.proofs.Levels.{Same, same-onward, Shallow, shallow-same}
use Rattle.frames.proofs.HexLaws.{byte_pair, pair_byte, hex_from_zero}

-- ---- the code of a sign

-- The node whose code begins what the sign says.
abbrev pub Begins : ℕ → Sign → Type 0
Begins n (Leaf (Const b)) = n ≡ code_byte (const_node b)
Begins n (Leaf (Var v)) = (n ≡ code_byte v) × (v < 64)
Begins n (Leaf (One o a)) = ⊥
Begins n (Leaf (Two o a b)) = ⊥
Begins n (Before o) = n ≡ code_byte (node1 o)
Begins n (Between o) = n ≡ code_byte (node2 o)
Begins n NoSign = Unit

pub code_byte_variable : (v : ℕ) → v < 256 → code_byte v ≡ v
unfolding code_byte
code_byte_variable v h = simp (lt-ltb v 256 h, code_byte)

pub sign_variable : (v : ℕ) → v < 64 → sign_of v ≡ Leaf (Var v)
unfolding sign_of
sign_variable v h = simp (lt-ltb v 64 h, sign_of)

pub sign_above : (n : ℕ) → 64 ≤ n → sign_of n ≡ get_or signs (n - 64) NoSign
unfolding sign_of
sign_above n h = simp (le-ltb n 64 h, sign_of)

above_begins : (k : ℕ) → Begins (64 + k) (get_or signs k NoSign)
unfolding code_byte
above_begins zero = refl
above_begins (suc zero) = refl
above_begins (suc (suc zero)) = refl
above_begins (suc (suc (suc zero))) = refl
above_begins (suc (suc (suc (suc zero)))) = refl
above_begins (suc (suc (suc (suc (suc zero))))) = refl
above_begins (suc (suc (suc (suc (suc (suc zero)))))) = refl
above_begins (suc (suc (suc (suc (suc (suc (suc zero))))))) = refl
above_begins (suc (suc (suc (suc (suc (suc (suc (suc zero)))))))) = refl
above_begins (suc (suc (suc (suc (suc (suc (suc (suc (suc zero))))))))) = refl
above_begins (suc (suc (suc (suc (suc (suc (suc (suc (suc (suc k)))))))))) = tt

pub sign_begins : (n : ℕ) → Begins n (sign_of n)
sign_begins n =
    by_cases
    (dec_lt n 64)
    (λ l. rw (sign_variable n l) (sym (code_byte_variable n (omega arith)), l))
    (λ m. let e : 64 + (n - 64) ≡ n = omega arith in rw (sign_above n (omega arith)) (subst (λ (k : ℕ). Begins k (get_or signs (n - 64) NoSign)) e (above_begins (n - 64))))

const_sign_lem : (b : Bool) → (code_byte (const_node b) < 256) × (sign_of (code_byte (const_node b)) ≡ Leaf (Const b))
unfolding code_byte sign_of
const_sign_lem false = (omega arith, refl)
const_sign_lem true = (omega arith, refl)

variable_sign : (v : ℕ) → v < 64 → (code_byte v < 256) × (sign_of (code_byte v) ≡ Leaf (Var v))
variable_sign v h = let e = code_byte_variable v (omega arith) in (omega arith, ap sign_of e ∙ sign_variable v h)

pub one_sign : (o : Op1) → (code_byte (node1 o) < 256) × (sign_of (code_byte (node1 o)) ≡ Before o)
unfolding code_byte sign_of
one_sign Not = (omega arith, refl)
one_sign Next = (omega arith, refl)
one_sign Future = (omega arith, refl)
one_sign Always = (omega arith, refl)

pub two_sign : (o : Op2) → (code_byte (node2 o) < 256) × (sign_of (code_byte (node2 o)) ≡ Between o)
unfolding code_byte sign_of
two_sign And = (omega arith, refl)
two_sign Or = (omega arith, refl)
two_sign Until = (omega arith, refl)
two_sign Weak = (omega arith, refl)

-- ---- written, then read

-- A node's pair is read as its sign.
pub read_node : (left n : ℕ) (s : Sign) (cs : List ℕ)
    → (code_byte n < 256) × (sign_of (code_byte n) ≡ s)
    → read_expr (suc left) (pair (code_byte n) ++ cs) ≡ begins (read_expr left) (pair (code_byte n) ++ cs) s cs
unfolding read_expr
read_node left n s cs h = ap (λ (t : Sign). begins (read_expr left) (pair (code_byte n) ++ cs) t cs) (ap sign_of (byte_pair (code_byte n) h.0) ∙ h.1)

pub node_pairs-append : (ms ns : List ℕ) → node_pairs (ms ++ ns) ≡ node_pairs ms ++ node_pairs ns
unfolding node_pairs
node_pairs-append [] ns = refl
node_pairs-append (m ∷ ms) ns = ap (λ (l : List ℕ). pair (code_byte m) ++ l) (node_pairs-append ms ns)

pub length_node_pairs : (ns : List ℕ) → length (node_pairs ns) ≡ 2 * length ns
unfolding node_pairs
length_node_pairs [] = refl
length_node_pairs (n ∷ ns) = omega (arith, length_node_pairs ns)

pub node_pairs-from_zero : (ns : List ℕ) → Each (λ c. 48 ≤ c) (node_pairs ns)
unfolding node_pairs
node_pairs-from_zero [] = tt
node_pairs-from_zero (n ∷ ns) = (hex_from_zero _, (hex_from_zero _, node_pairs-from_zero ns))

-- The pairs of two operands, one behind the other.
two_pairs : (a b : Expr) (rest : List ℕ) → node_pairs (code a ++ code b) ++ rest ≡ node_pairs (code a) ++ (node_pairs (code b) ++ rest)
two_pairs a b rest = ap (λ (l : List ℕ). l ++ rest) (node_pairs-append (code a) (code b)) ∙ append_assoc (node_pairs (code a)) (node_pairs (code b)) rest

-- A written expression is read back, with what stands behind it.
pub expr_written_read : (e : Expr) (left : ℕ) (rest : List ℕ) → levels e ≤ left → Below 64 e → read_expr left (node_pairs (code e) ++ rest) ≡ Whole e rest
unfolding levels code node_pairs
expr_written_read e zero rest h n = absurd (omega (arith, levels-some e))
expr_written_read (Const b) (suc left) rest h n = read_node left (const_node b) _ rest (const_sign_lem b)
expr_written_read (Var v) (suc left) rest h n = read_node left v _ rest (variable_sign v n)
expr_written_read (One o a) (suc left) rest h n =
    read_node left (node1 o) _ (node_pairs (code a) ++ rest) (one_sign o)
    ∙ ap (λ (r : Reading). onward r (λ b last. Whole (One o b) last)) (expr_written_read a left rest (omega arith) n)
expr_written_read (Two o a b) (suc left) rest h n =
    read_node left (node2 o) _ (node_pairs (code a ++ code b) ++ rest) (two_sign o)
    ∙ ap
    (λ (r : Reading). onward r (λ c more. onward (read_expr left more) (λ d last. Whole (Two o c d) last)))
    (ap (read_expr left) (two_pairs a b rest) ∙ expr_written_read a left (node_pairs (code b) ++ rest) (omega arith) n.0)
    ∙ ap (λ (r : Reading). onward r (λ d last. Whole (Two o a d) last)) (expr_written_read b left rest (omega arith) n.1)

-- ---- read, then written

-- What a reading says of the pairs that it was made from: a whole expression is written there.
abbrev Says : ℕ → List ℕ → Reading → Type 0
Says left cs (Whole e rest) = (cs ≡ node_pairs (code e) ++ rest) × (levels e ≤ left) × Below 64 e
Says left cs (Wrong rs) = Unit
Says left cs (Deep rs) = Unit

-- The pair of a code, where the characters are that pair.
pub begun-pair : (h l n : ℕ) (cs : List ℕ) → byte_of h l ≡ code_byte n → code_byte n < 256 → h ∷ l ∷ cs ≡ pair (code_byte n) ++ cs
begun-pair h l n cs e b = ap (λ (p : List ℕ). p ++ cs) (sym (pair_byte h l (omega arith)) ∙ ap pair e)

levelled-says : (cs rest : List ℕ) (s : Sign) → Says 0 cs (levelled cs s rest)
levelled-says cs rest (Leaf e) = tt
levelled-says cs rest (Before o) = tt
levelled-says cs rest (Between o) = tt
levelled-says cs rest NoSign = tt

module _ (left h l : ℕ) (cs : List ℕ) where
  says_one : (o : Op1) (r : Reading) → byte_of h l ≡ code_byte (node1 o) → Says left cs r → Says (suc left) (h ∷ l ∷ cs) (onward r (λ a rest. Whole (One o a) rest))
  unfolding code node_pairs levels
  says_one o (Whole a rest) e s = (begun-pair h l (node1 o) cs e (one_sign o).0 ∙ ap (λ (t : List ℕ). pair (code_byte (node1 o)) ++ t) s.0, omega arith, s.2)
  says_one o (Wrong rs) e s = tt
  says_one o (Deep rs) e s = tt

  says_two : (o : Op2) (a : Expr) (more : List ℕ) (r : Reading)
      → byte_of h l ≡ code_byte (node2 o)
      → Says left cs (Whole a more)
      → Says left more r
      → Says (suc left) (h ∷ l ∷ cs) (onward r (λ b rest. Whole (Two o a b) rest))
  unfolding code node_pairs levels
  says_two o a more (Whole b rest) e s t = (
    begun-pair h l (node2 o) cs e (two_sign o).0
        ∙ ap (λ (u : List ℕ). pair (code_byte (node2 o)) ++ u) (s.0 ∙ ap (λ (u : List ℕ). node_pairs (code a) ++ u) t.0 ∙ sym (two_pairs a b rest)),
    omega arith,
    (s.2, t.2),
  )
  says_two o a more (Wrong rs) e s t = tt
  says_two o a more (Deep rs) e s t = tt

  says-onward : (o : Op2) (r : Reading)
      → byte_of h l ≡ code_byte (node2 o)
      → Says left cs r
      → ((more : List ℕ) → Says left more (read_expr left more))
      → Says (suc left) (h ∷ l ∷ cs) (onward r (λ a more. onward (read_expr left more) (λ b rest. Whole (Two o a b) rest)))
  says-onward o (Whole a more) e s f = says_two o a more (read_expr left more) e s (f more)
  says-onward o (Wrong rs) e s f = tt
  says-onward o (Deep rs) e s f = tt

  begins-says : (s : Sign)
      → Begins (byte_of h l) s
      → ((more : List ℕ) → Says left more (read_expr left more))
      → Says (suc left) (h ∷ l ∷ cs) (begins (read_expr left) (h ∷ l ∷ cs) s cs)
  unfolding code node_pairs levels
  begins-says (Leaf (Const b)) e f = (begun-pair h l (const_node b) cs e (const_sign_lem b).0, omega arith, tt)
  begins-says (Leaf (Var v)) e f = (begun-pair h l v cs e.0 (variable_sign v e.1).0, omega arith, e.1)
  begins-says (Leaf (One o a)) e f = absurd e
  begins-says (Leaf (Two o a b)) e f = absurd e
  begins-says (Before o) e f = says_one o (read_expr left cs) e (f cs)
  begins-says (Between o) e f = says-onward o (read_expr left cs) e (f cs) f
  begins-says NoSign e f = tt

read_says : (left : ℕ) (cs : List ℕ) → Says left cs (read_expr left cs)
unfolding read_expr
read_says zero [] = tt
read_says zero (h ∷ []) = tt
read_says zero (h ∷ l ∷ cs) = levelled-says (h ∷ l ∷ cs) cs (sign_of (byte_of h l))
read_says (suc left) [] = tt
read_says (suc left) (h ∷ []) = tt
read_says (suc left) (h ∷ l ∷ cs) = begins-says left h l cs (sign_of (byte_of h l)) (sign_begins (byte_of h l)) (read_says left)

-- What is read as an expression is that expression written, within the levels and with variables below 64.
pub expr_read_written : (left : ℕ) (cs : List ℕ) (e : Expr) (rest : List ℕ)
    → read_expr left cs ≡ Whole e rest
    → (cs ≡ node_pairs (code e) ++ rest) × (levels e ≤ left) × Below 64 e
expr_read_written left cs e rest h = subst (Says left cs) h (read_says left cs)

-- The variables below w are the expressions with a written set below 2 ^ w.
pub below_written : (w : ℕ) (e : Expr) → Below w e → written e < 2 ^ w
unfolding written
below_written w (Const b) n = pow_pos w
below_written w (Var v) n = pow-lt n
below_written w (One o a) n = below_written w a n
below_written w (Two o a b) n = union_lt w (written a) (written b) (below_written w a n.0) (below_written w b n.1)

-- ---- one level more

same-levelled : (operand : List ℕ → Reading) (all cs : List ℕ) (s : Sign) → Same (levelled all s cs) (begins operand all s cs)
same-levelled operand all cs (Leaf e) = tt
same-levelled operand all cs (Before o) = tt
same-levelled operand all cs (Between o) = tt
same-levelled operand all cs NoSign = refl

same-begins : (f g : List ℕ → Reading) (all cs : List ℕ) (s : Sign) → ((rs : List ℕ) → Same (f rs) (g rs)) → Same (begins f all s cs) (begins g all s cs)
same-begins f g all cs (Leaf e) k = refl
same-begins f g all cs (Before o) k = same-onward (f cs) (g cs) _ _ (k cs) (λ a rest. refl)
same-begins f g all cs (Between o) k = same-onward (f cs) (g cs) _ _ (k cs) (λ a rest. same-onward (f rest) (g rest) _ _ (k rest) (λ b last. refl))
same-begins f g all cs NoSign k = refl

same-levels : (left : ℕ) (cs : List ℕ) → Same (read_expr left cs) (read_expr (suc left) cs)
unfolding read_expr
same-levels zero [] = refl
same-levels zero (h ∷ []) = refl
same-levels zero (h ∷ l ∷ cs) = same-levelled (read_expr zero) (h ∷ l ∷ cs) cs (sign_of (byte_of h l))
same-levels (suc left) [] = refl
same-levels (suc left) (h ∷ []) = refl
same-levels (suc left) (h ∷ l ∷ cs) = same-begins (read_expr left) (read_expr (suc left)) (h ∷ l ∷ cs) cs (sign_of (byte_of h l)) (same-levels left)

-- One level more changes neither a result nor a fault and its place.
pub more_levels : (left : ℕ) (cs : List ℕ) → Shallow (read_expr left cs) → read_expr (suc left) cs ≡ read_expr left cs
more_levels left cs = shallow-same (read_expr left cs) (read_expr (suc left) cs) (same-levels left cs)
