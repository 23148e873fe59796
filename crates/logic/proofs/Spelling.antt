-- Card spellings: an expression as it is typed can be read back in one way only, as long as no digit follows it.
use mathlib.Core.Path.{◌≡◌, refl, sym, ap, ◌∙◌}
use mathlib.Core.Logic.{◌⊎◌, inl, inr}
use mathlib.Core.Bool.{Bool, true, false}
use mathlib.Core.List.{List, [], ◌∷◌, ◌++◌, append_assoc, append-nil, head-eq_of_cons-eq, tail-eq_of_cons-eq}
use Prim.Native.Nat.{ℕ, ◌+◌, ◌/◌, ◌%◌, ◌<◌, ◌≤◌}
use Prim.Native.Char.{code as character}
use native.Mathlib.Omega.{arith}
use native.Mathlib.Decide.{dec_lt}
use borrow.Author.Tests.{lt-ltb, le-ltb}
use lib.Dec.{eqb}
use lib.ListN.{length, length-append}
use Rattle.lists.specs.Lists.{Each, ◌among◌}
use Rattle.lists.proofs.Laws.{each_at, each_map, each_append}
use Rattle.logic.specs.Expressions.{Expr, Const, Var, One, Two, Op1, Op2, Not, Next, Future, Always, And, Or, Until, Weak, nodes, const_sign, sign1, sign2, decimal, spelling, Below}

-- ---- numbers

abbrev pub Digit : ℕ → Type 0
Digit c = (character "0" ≤ c) × (c ≤ character "9")

-- The text does not begin with a digit.
abbrev pub NoDigit : List ℕ → Type 0
NoDigit [] = Unit
NoDigit (c ∷ cs) = Digit c → ⊥

pub decimal_one : (n : ℕ) → n < 10 → decimal n ≡ (character "0" + n) ∷ []
unfolding decimal
decimal_one n h = simp (lt-ltb n 10 h, decimal)

pub decimal_two : (n : ℕ) → 10 ≤ n → decimal n ≡ (character "0" + n / 10) ∷ (character "0" + n % 10) ∷ []
unfolding decimal
decimal_two n h = simp (le-ltb n 10 h, decimal)

one_not_two : (v w : ℕ) (x y : List ℕ) → NoDigit x → v < 10 → 10 ≤ w → decimal v ++ x ≡ decimal w ++ y → ⊥
one_not_two v w x y q h k e = go x q (tail-eq_of_cons-eq (simp (decimal_one v h, decimal_two w k) at e))
  where
    go : (x : List ℕ) → NoDigit x → x ≡ (character "0" + w % 10) ∷ y → ⊥
    go [] q e = let z : ◌≡◌ {A = ℕ} 0 1 = cc in omega arith
    go (c ∷ cs) q e = let z : c ≡ 48 + w % 10 = head-eq_of_cons-eq e in q (omega arith, omega arith)

pub decimal_unique : (v w : ℕ) (x y : List ℕ) → v < 100 → w < 100 → NoDigit x → NoDigit y → decimal v ++ x ≡ decimal w ++ y → (v ≡ w) × (x ≡ y)
decimal_unique v w x y h k p q e = go (dec_lt v 10) (dec_lt w 10)
  where
    go : Dec (v < 10) → Dec (w < 10) → (v ≡ w) × (x ≡ y)
    go (yes a) (yes b) =
        let f : (48 + v) ∷ x ≡ (48 + w) ∷ y = simp (decimal_one v a, decimal_one w b) at e in
        let g : 48 + v ≡ 48 + w = head-eq_of_cons-eq f in
        (omega arith, tail-eq_of_cons-eq f)
    go (yes a) (no b) = absurd (one_not_two v w x y p a (omega arith) e)
    go (no a) (yes b) = absurd (one_not_two w v y x q b (omega arith) (sym e))
    go (no a) (no b) =
        let f : (48 + v / 10) ∷ (48 + v % 10) ∷ x ≡ (48 + w / 10) ∷ (48 + w % 10) ∷ y = simp (decimal_two v (omega arith), decimal_two w (omega arith)) at e in
        let g : 48 + v / 10 ≡ 48 + w / 10 = head-eq_of_cons-eq f in
        let i : 48 + v % 10 ≡ 48 + w % 10 = head-eq_of_cons-eq (tail-eq_of_cons-eq f) in
        (omega arith, tail-eq_of_cons-eq (tail-eq_of_cons-eq f))

pub decimal_injective : (v w : ℕ) → v < 100 → w < 100 → decimal v ≡ decimal w → v ≡ w
decimal_injective v w h k e = (decimal_unique v w [] [] h k tt tt (append-nil (decimal v) ∙ e ∙ sym (append-nil (decimal w)))).0

-- ---- what a character begins

-- A constant, a variable, an operator before its operand, an expression in parentheses, an operator between its operands, or none of these.
data Sign : Type 0 where
  Whole : Bool → Sign
  Before : Op1 → Sign
  Between : Op2 → Sign
  Letter Open Other : Sign

abbrev signs : List (ℕ × Sign)
signs =
    (character "0", Whole false) ∷ (character "1", Whole true) ∷ (character "V", Letter) ∷ (character "(", Open) ∷ (character "~", Before Not) ∷ (character "X", Before Next) ∷ (character "F", Before Future) ∷ (character "G", Before Always) ∷ (character "&", Between And) ∷ (character "+", Between Or) ∷ (character "U", Between Until) ∷ (character "W", Between Weak) ∷ []

unfoldable found : List (ℕ × Sign) → ℕ → Sign
found [] c = Other
found (s ∷ ss) c = elim (eqb s.0 c) [ true ↦ s.1 | false ↦ found ss c ]

abbrev sign_of : ℕ → Sign
sign_of c = found signs c

sign_const : (b : Bool) → sign_of (const_sign b) ≡ Whole b
unfolding found
sign_const false = refl
sign_const true = refl

sign_one : (o : Op1) → sign_of (sign1 o) ≡ Before o
unfolding found
sign_one Not = refl
sign_one Next = refl
sign_one Future = refl
sign_one Always = refl

sign_two : (o : Op2) → sign_of (sign2 o) ≡ Between o
unfolding found
sign_two And = refl
sign_two Or = refl
sign_two Until = refl
sign_two Weak = refl

sign_var : sign_of (character "V") ≡ Letter
unfolding found
sign_var = refl

sign_open : sign_of (character "(") ≡ Open
unfolding found
sign_open = refl

-- ---- the same spelling, the same expression

same_sign : {c d : ℕ} {l m : List ℕ} {h k : Sign} → sign_of c ≡ h → sign_of d ≡ k → c ∷ l ≡ d ∷ m → h ≡ k
same_sign p q e = sym p ∙ ap sign_of (head-eq_of_cons-eq e) ∙ q

-- A number for each kind of character.
abbrev kind : Sign → ℕ
kind (Whole b) = 0
kind (Before o) = 1
kind (Between o) = 2
kind Letter = 3
kind Open = 4
kind Other = 5

apart : {A : Type 0} {h k : Sign} → h ≡ k → (kind h ≡ kind k → ⊥) → A
apart e f = absurd (f (ap kind e))

two_no_digit : (o : Op2) → Digit (sign2 o) → ⊥
two_no_digit And d = omega arith
two_no_digit Or d = omega arith
two_no_digit Until d = omega arith
two_no_digit Weak d = omega arith

spelling_two : (o : Op2) (a b : Expr) (x : List ℕ) → spelling (Two o a b) ++ x ≡ character "(" ∷ (spelling a ++ (sign2 o ∷ (spelling b ++ (character ")" ∷ x))))
unfolding spelling
spelling_two o a b x = simp (append_assoc)

-- A spelling that no digit follows is read back in one way only.
pub spelling_unique : (a b : Expr) (x y : List ℕ) → Below 100 a → Below 100 b → NoDigit x → NoDigit y → spelling a ++ x ≡ spelling b ++ y → (a ≡ b) × (x ≡ y)
unfolding spelling
spelling_unique (Const b) (Const c) x y n m p q e = let h : Whole b ≡ Whole c = same_sign (sign_const b) (sign_const c) e in (cc, tail-eq_of_cons-eq e)
spelling_unique (Const b) (Var w) x y n m p q e = apart (same_sign (sign_const b) sign_var e) (λ z. omega arith)
spelling_unique (Const b) (One o c) x y n m p q e = apart (same_sign (sign_const b) (sign_one o) e) (λ z. omega arith)
spelling_unique (Const b) (Two o c d) x y n m p q e = apart (same_sign (sign_const b) sign_open e) (λ z. omega arith)
spelling_unique (Var v) (Const c) x y n m p q e = apart (same_sign sign_var (sign_const c) e) (λ z. omega arith)
spelling_unique (Var v) (Var w) x y n m p q e = let r : (v ≡ w) × (x ≡ y) = decimal_unique v w x y n m p q (tail-eq_of_cons-eq e) in (ap Var r.0, r.1)
spelling_unique (Var v) (One o c) x y n m p q e = apart (same_sign sign_var (sign_one o) e) (λ z. omega arith)
spelling_unique (Var v) (Two o c d) x y n m p q e = apart (same_sign sign_var sign_open e) (λ z. omega arith)
spelling_unique (One o a) (Const c) x y n m p q e = apart (same_sign (sign_one o) (sign_const c) e) (λ z. omega arith)
spelling_unique (One o a) (Var w) x y n m p q e = apart (same_sign (sign_one o) sign_var e) (λ z. omega arith)
spelling_unique (One o a) (One s c) x y n m p q e =
    let h : Before o ≡ Before s = same_sign (sign_one o) (sign_one s) e in
    let r : (a ≡ c) × (x ≡ y) = spelling_unique a c x y n m p q (tail-eq_of_cons-eq e) in
    let t : a ≡ c = r.0 in
    (cc, r.1)
spelling_unique (One o a) (Two s c d) x y n m p q e = apart (same_sign (sign_one o) sign_open e) (λ z. omega arith)
spelling_unique (Two o a b) (Const c) x y n m p q e = apart (same_sign sign_open (sign_const c) e) (λ z. omega arith)
spelling_unique (Two o a b) (Var w) x y n m p q e = apart (same_sign sign_open sign_var e) (λ z. omega arith)
spelling_unique (Two o a b) (One s c) x y n m p q e = apart (same_sign sign_open (sign_one s) e) (λ z. omega arith)
spelling_unique (Two o a b) (Two s c d) x y n m p q e =
    let r : (a ≡ c) × (sign2 o ∷ (spelling b ++ (character ")" ∷ x)) ≡ sign2 s ∷ (spelling d ++ (character ")" ∷ y))) =
    spelling_unique
    a
    c
    (sign2 o ∷ (spelling b ++ (character ")" ∷ x)))
    (sign2 s ∷ (spelling d ++ (character ")" ∷ y)))
    n.0
    m.0
    (two_no_digit o)
    (two_no_digit s)
    (tail-eq_of_cons-eq (sym (spelling_two o a b x) ∙ e ∙ spelling_two s c d y)) in
    let h : Between o ≡ Between s = same_sign (sign_two o) (sign_two s) r.1 in
    let f : (b ≡ d) × (character ")" ∷ x ≡ character ")" ∷ y) =
    spelling_unique b d (character ")" ∷ x) (character ")" ∷ y) n.1 m.1 (λ g. omega arith) (λ g. omega arith) (tail-eq_of_cons-eq r.1) in
    let t : a ≡ c = r.0 in
    let u : b ≡ d = f.0 in
    (cc, tail-eq_of_cons-eq f.1)

pub spelling_injective : (a b : Expr) → Below 100 a → Below 100 b → spelling a ≡ spelling b → a ≡ b
spelling_injective a b n m e = (spelling_unique a b [] [] n m tt tt (append-nil (spelling a) ∙ e ∙ sym (append-nil (spelling b)))).0

-- ---- characters and length

abbrev pub marks : List ℕ
marks =
    character "V" ∷ character "X" ∷ character "F" ∷ character "G" ∷ character "U" ∷ character "W" ∷ character "~" ∷ character "&" ∷ character "+" ∷ character "(" ∷ character ")" ∷ []

-- A character of the grammar: a digit, or one of `VXFGUW~&+()`.
abbrev pub Typed : ℕ → Type 0
Typed c = Digit c ⊎ (c among marks)

pub typed_visible : (c : ℕ) → Typed c → (32 < c) × (c < 127)
typed_visible c (inl d) = omega arith
typed_visible c (inr m) = each_at (λ (k : ℕ). (32 < k) × (k < 127)) marks c (omega arith) m

typed_const : (b : Bool) → Typed (const_sign b)
typed_const false = inl (omega arith)
typed_const true = inl (omega arith)

typed_one : (o : Op1) → Typed (sign1 o)
typed_one Not = search (inl, inr) depth 15
typed_one Next = search (inl, inr) depth 15
typed_one Future = search (inl, inr) depth 15
typed_one Always = search (inl, inr) depth 15

typed_two : (o : Op2) → Typed (sign2 o)
typed_two And = search (inl, inr) depth 15
typed_two Or = search (inl, inr) depth 15
typed_two Until = search (inl, inr) depth 15
typed_two Weak = search (inl, inr) depth 15

decimal-typed : (n : ℕ) → n < 100 → Each Typed (decimal n)
decimal-typed n h = go (dec_lt n 10)
  where
    go : Dec (n < 10) → Each Typed (decimal n)
    go (yes a) = rw (decimal_one n a) (inl (omega arith), tt)
    go (no a) = rw (decimal_two n (omega arith)) (inl (omega arith), (inl (omega arith), tt))

pub spelling-typed : (e : Expr) → Below 100 e → Each Typed (spelling e)
unfolding spelling
spelling-typed (Const b) n = (typed_const b, tt)
spelling-typed (Var v) n = (search (inl, inr) depth 15, decimal-typed v n)
spelling-typed (One o e) n = (typed_one o, spelling-typed e n)
spelling-typed (Two o a b) n = (
  search (inl, inr) depth 15,
  each_append Typed (spelling a) _ (spelling-typed a n.0) (typed_two o, each_append Typed (spelling b) _ (spelling-typed b n.1) (search (inl, inr) depth 15, tt)),
)

-- Every character is a visible one: none is a blank.
pub spelling_visible : (e : Expr) → Below 100 e → Each (λ (c : ℕ). (32 < c) × (c < 127)) (spelling e)
spelling_visible e n = each_map Typed (λ (c : ℕ). (32 < c) × (c < 127)) (spelling e) typed_visible (spelling-typed e n)

pub nodes-spelling : (e : Expr) → nodes e ≤ length (spelling e)
unfolding nodes spelling
nodes-spelling (Const b) = omega arith
nodes-spelling (Var v) = omega arith
nodes-spelling (One o e) = omega (arith, nodes-spelling e)
nodes-spelling (Two o a b) =
    omega (arith, nodes-spelling a, nodes-spelling b, length-append (spelling a) (sign2 o ∷ (spelling b ++ (character ")" ∷ []))), length-append (spelling b) (character ")" ∷ []))
