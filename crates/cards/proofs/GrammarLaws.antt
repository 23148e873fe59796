-- Laws of the grammar: what is spelt is read back, only what is spelt is read, and one level more changes nothing but a depth.
use mathlib.Core.Path.{◌≡◌, refl, sym, ap, ap₂, ◌∙◌, subst}
use mathlib.Core.Logic.{◌⊎◌, inl, inr, ⊎_elim, by_cases}
use mathlib.Core.Bool.{Bool, true, false, ◌&&◌}
use mathlib.Core.List.{List, [], ◌∷◌, ◌++◌, append_assoc}
use mathlib.Core.Option.{Option, none, some}
use Prim.Native.Nat.{ℕ, zero, suc, ◌+◌, ◌-◌, ◌*◌, ◌/◌, ◌%◌, ◌<◌, ◌≤◌}
use Prim.Native.Char.{code as character}
use native.Mathlib.Omega.{arith}
use native.Mathlib.Decide.{dec_lt, ℕ_discrete}
use borrow.Author.Tests.{le-leb, leb-true, eq-eqb, ne_eqb, eqb-true}
use lib.Dec.{eqb, leb}
use Rattle.lists.specs.Lists.{chosen}
use Rattle.logic.specs.Expressions.{Expr, Const, Var, One, Two, Op1, Op2, Not, Next, Future, Always, And, Or, Until, Weak, levels, const_sign, sign1, sign2, decimal, spelling, Below}
use Rattle.logic.proofs.Codes.{levels-some}
use Rattle.logic.proofs.Spelling.{Digit, NoDigit, decimal_one, decimal_two}
use Rattle.decks.specs.Readings.{Reading, Whole, Wrong, Deep, onward}
use Rattle.decks.proofs.Levels.{Same, same_refl, same-onward, Shallow, shallow-same}
use Rattle.cards.specs.Card.{is_digit}
use Rattle.cards.specs.Grammar.{Counted, Number, NoNumber, digit_value, second_digit, read_number, Sign, Constant, Variable, Before, Bracket, NoSign, sign_of, joint_of, past, past_joint, variable, levelled, begins, read_expr}

-- ---- digits

pub digit_true : (c : ℕ) → Digit c → is_digit c ≡ true
digit_true c d = simp (le-leb 48 c d.0, le-leb c 57 d.1)

pub digit_false : (c : ℕ) → (Digit c → ⊥) → is_digit c ≡ false
digit_false c n = go (leb 48 c) refl (leb c 57) refl
  where
    go : (s : Bool) → leb 48 c ≡ s → (t : Bool) → leb c 57 ≡ t → (s && t) ≡ false
    go true e true f = absurd (n (leb-true 48 c e, leb-true c 57 f))
    go true e false f = refl
    go false e t f = refl

pub digit_dec : (c : ℕ) → (Digit c × (is_digit c ≡ true)) ⊎ ((Digit c → ⊥) × (is_digit c ≡ false))
digit_dec c = by_cases (dec_lt c 48) (λ l. out (λ d. omega arith)) (λ l. by_cases (dec_lt 57 c) (λ h. out (λ d. omega arith)) (λ h. inl ((omega arith, omega arith), digit_true c (omega arith, omega arith))))
  where
    out : (Digit c → ⊥) → (Digit c × (is_digit c ≡ true)) ⊎ ((Digit c → ⊥) × (is_digit c ≡ false))
    out n = inr (n, digit_false c n)

-- ---- numbers

second_none : (d : ℕ) (rest : List ℕ) → NoDigit rest → second_digit d rest ≡ Number d rest
unfolding second_digit
second_none d [] n = refl
second_none d (c ∷ cs) n = simp (digit_false c n, second_digit)

second_one : (d c : ℕ) (cs : List ℕ) → Digit c → second_digit d (c ∷ cs) ≡ Number (10 * d + digit_value c) cs
unfolding second_digit
second_one d c cs h = simp (digit_true c h, second_digit)

number_zero : (c : ℕ) (cs : List ℕ) → c ≡ 48 → read_number (c ∷ cs) ≡ Number 0 cs
unfolding read_number
number_zero c cs e = rw e

number_more : (c : ℕ) (cs : List ℕ) → Digit c → (digit_value c ≡ 0 → ⊥) → read_number (c ∷ cs) ≡ second_digit (digit_value c) cs
unfolding read_number
number_more c cs d n = simp (digit_true c d, ne_eqb (digit_value c) 0 n, read_number)

number_none : (c : ℕ) (cs : List ℕ) → (Digit c → ⊥) → read_number (c ∷ cs) ≡ NoNumber (c ∷ cs)
unfolding read_number
number_none c cs n = simp (digit_false c n, read_number)

-- A number that no digit follows is read back, with what stands behind it.
pub decimal_read : (v : ℕ) (rest : List ℕ) → v < 100 → NoDigit rest → read_number (decimal v ++ rest) ≡ Number v rest
decimal_read v rest h n = by_cases (dec_lt v 10) (λ l. rw (decimal_one v l) (one l)) (λ m. rw (decimal_two v (omega arith)) (two (omega arith)))
  where
    one : v < 10 → read_number ((48 + v) ∷ rest) ≡ Number v rest
    one l = by_cases (ℕ_discrete v 0) (λ z. number_zero (48 + v) rest (omega arith) ∙ ap (λ (x : ℕ). Number x rest) (sym z)) (λ z. let e : 48 + v - 48 ≡ v = omega arith in number_more (48 + v) rest (omega arith, omega arith) (λ q. z (omega arith)) ∙ second_none (48 + v - 48) rest n ∙ ap (λ (x : ℕ). Number x rest) e)

    two : 10 ≤ v → read_number ((48 + v / 10) ∷ (48 + v % 10) ∷ rest) ≡ Number v rest
    two m =
        let e : 10 * (48 + v / 10 - 48) + (48 + v % 10 - 48) ≡ v = omega arith in
        number_more (48 + v / 10) ((48 + v % 10) ∷ rest) (omega arith, omega arith) (λ q. omega arith)
        ∙ second_one (48 + v / 10 - 48) (48 + v % 10) rest (omega arith, omega arith)
        ∙ ap (λ (x : ℕ). Number x rest) e

-- What is read as a number is that number spelt, with one or two digits and no leading zero.
abbrev Counts : List ℕ → Counted → Type 0
Counts cs (Number v rest) = (cs ≡ decimal v ++ rest) × (v < 100)
Counts cs (NoNumber rs) = Unit

number_counts : (cs : List ℕ) → Counts cs (read_number cs)
unfolding read_number
number_counts [] = tt
number_counts (c ∷ cs) = ⊎_elim (λ d. by_cases (ℕ_discrete c 48) zeroth (other cs d.0)) (λ n. rw (number_none c cs n.0) tt) (digit_dec c)
  where
    zeroth : c ≡ 48 → Counts (c ∷ cs) (read_number (c ∷ cs))
    zeroth e = rw (number_zero c cs e) (ap (λ (x : ℕ). x ∷ cs) e ∙ ap (λ (l : List ℕ). l ++ cs) (sym (decimal_one 0 (omega arith))), omega arith)

    alone : (rs : List ℕ) → Digit c → (c ≡ 48 → ⊥) → NoDigit rs → Counts (c ∷ rs) (read_number (c ∷ rs))
    alone rs d z n =
        let e : c ≡ 48 + (c - 48) = omega arith in
        rw (number_more c rs d (λ q. z (omega arith)), second_none (c - 48) rs n) (ap (λ (x : ℕ). x ∷ rs) e ∙ ap (λ (l : List ℕ). l ++ rs) (sym (decimal_one (c - 48) (omega arith))), omega arith)

    both : (x : ℕ) (xs : List ℕ) → Digit c → (c ≡ 48 → ⊥) → Digit x → Counts (c ∷ x ∷ xs) (read_number (c ∷ x ∷ xs))
    both x xs d z f =
        let v : ℕ = 10 * (c - 48) + (x - 48) in
        let e : c ≡ 48 + v / 10 = omega arith in
        let g : x ≡ 48 + v % 10 = omega arith in
        rw (number_more c (x ∷ xs) d (λ q. z (omega arith)), second_one (c - 48) x xs f) (ap₂ (λ (y z : ℕ). y ∷ z ∷ xs) e g ∙ ap (λ (l : List ℕ). l ++ xs) (sym (decimal_two v (omega arith))), omega arith)

    other : (rs : List ℕ) → Digit c → (c ≡ 48 → ⊥) → Counts (c ∷ rs) (read_number (c ∷ rs))
    other [] d z = alone [] d z tt
    other (x ∷ xs) d z = ⊎_elim (λ f. both x xs d z f.0) (λ n. alone (x ∷ xs) d z n.0) (digit_dec x)

pub read_decimal : (cs : List ℕ) (v : ℕ) (rest : List ℕ) → read_number cs ≡ Number v rest → (cs ≡ decimal v ++ rest) × (v < 100)
read_decimal cs v rest e = subst (Counts cs) e (number_counts cs)

-- ---- signs

module _ {A : Type 0} (P : A → Type 0) where
  -- P of what is chosen, from P of either.
  chosen_either : (t : Bool) (x y : A) → (t ≡ true → P x) → P y → P (chosen t x y)
  chosen_either true x y f p = f refl
  chosen_either false x y f p = p

-- The character that begins what the sign says.
abbrev pub Begins : ℕ → Sign → Type 0
Begins c (Constant b) = c ≡ const_sign b
Begins c Variable = c ≡ character "V"
Begins c (Before o) = c ≡ sign1 o
Begins c Bracket = c ≡ character "("
Begins c NoSign = Unit

abbrev pub Joins : ℕ → Option Op2 → Type 0
Joins c (some o) = c ≡ sign2 o
Joins c none = Unit

pub sign_begins : (c : ℕ) → Begins c (sign_of c)
unfolding sign_of
sign_begins c =
    chosen_either (Begins c) (eqb c 48) _ _ (eqb-true c 48)
    (chosen_either (Begins c) (eqb c 49) _ _ (eqb-true c 49)
    (chosen_either (Begins c) (eqb c 86) _ _ (eqb-true c 86)
    (chosen_either (Begins c) (eqb c 126) _ _ (eqb-true c 126)
    (chosen_either (Begins c) (eqb c 88) _ _ (eqb-true c 88)
    (chosen_either (Begins c) (eqb c 70) _ _ (eqb-true c 70)
    (chosen_either (Begins c) (eqb c 71) _ _ (eqb-true c 71) (chosen_either (Begins c) (eqb c 40) _ _ (eqb-true c 40) tt)))))))

pub joint_joins : (c : ℕ) → Joins c (joint_of c)
unfolding joint_of
joint_joins c =
    chosen_either (Joins c) (eqb c 38) _ _ (eqb-true c 38)
    (chosen_either (Joins c) (eqb c 43) _ _ (eqb-true c 43) (chosen_either (Joins c) (eqb c 85) _ _ (eqb-true c 85) (chosen_either (Joins c) (eqb c 87) _ _ (eqb-true c 87) tt)))

const_sign_lem : (b : Bool) → sign_of (const_sign b) ≡ Constant b
unfolding sign_of
const_sign_lem false = refl
const_sign_lem true = refl

pub one_sign : (o : Op1) → sign_of (sign1 o) ≡ Before o
unfolding sign_of
one_sign Not = refl
one_sign Next = refl
one_sign Future = refl
one_sign Always = refl

two_joint : (o : Op2) → joint_of (sign2 o) ≡ some o
unfolding joint_of
two_joint And = refl
two_joint Or = refl
two_joint Until = refl
two_joint Weak = refl

pub two_no_digit : (o : Op2) → Digit (sign2 o) → ⊥
two_no_digit And d = omega arith
two_no_digit Or d = omega arith
two_no_digit Until d = omega arith
two_no_digit Weak d = omega arith

-- ---- read, then spelt

spelling_two : (o : Op2) (a b : Expr) (rest : List ℕ) → spelling (Two o a b) ++ rest ≡ character "(" ∷ (spelling a ++ (sign2 o ∷ (spelling b ++ (character ")" ∷ rest))))
unfolding spelling
spelling_two o a b rest = simp (append_assoc)

-- What a reading says of the characters that it was made from: a whole expression is spelt there.
abbrev Says : ℕ → List ℕ → Reading → Type 0
Says left cs (Whole e rest) = (cs ≡ spelling e ++ rest) × (levels e ≤ left) × Below 100 e
Says left cs (Wrong rs) = Unit
Says left cs (Deep rs) = Unit

levelled-says : (cs : List ℕ) (s : Sign) → Says 0 cs (levelled cs s)
levelled-says cs (Constant b) = tt
levelled-says cs Variable = tt
levelled-says cs (Before o) = tt
levelled-says cs Bracket = tt
levelled-says cs NoSign = tt

module _ (left : ℕ) (all : List ℕ) where
  onward-says : (cs : List ℕ) (r : Reading) (f : Expr → List ℕ → Reading) → Says left cs r → ((e : Expr) (rest : List ℕ) → Says left cs (Whole e rest) → Says (suc left) all (f e rest)) → Says (suc left) all (onward r f)
  onward-says cs (Whole e rest) f s k = k e rest s
  onward-says cs (Wrong rs) f s k = tt
  onward-says cs (Deep rs) f s k = tt

  past-says : (c : ℕ) (cs : List ℕ) (f : List ℕ → Reading) → ((rest : List ℕ) → cs ≡ c ∷ rest → Says (suc left) all (f rest)) → Says (suc left) all (past c cs f)
  unfolding past
  past-says c [] f k = tt
  past-says c (x ∷ xs) f k = go (eqb x c) refl
    where
      go : (t : Bool) → eqb x c ≡ t → Says (suc left) all (elim t [ true ↦ f xs | false ↦ Wrong (x ∷ xs) ])
      go true e = k xs (ap (λ (y : ℕ). y ∷ xs) (eqb-true x c e))
      go false e = tt

  joint_says : (cs : List ℕ) (f : Op2 → List ℕ → Reading) → ((o : Op2) (rest : List ℕ) → cs ≡ sign2 o ∷ rest → Says (suc left) all (f o rest)) → Says (suc left) all (past_joint cs f)
  unfolding past_joint
  joint_says [] f k = tt
  joint_says (x ∷ xs) f k = go (joint_of x) (joint_joins x)
    where
      go : (j : Option Op2) → Joins x j → Says (suc left) all (elim j [ some o ↦ f o xs | none ↦ Wrong (x ∷ xs) ])
      go (some o) e = k o xs (ap (λ (y : ℕ). y ∷ xs) e)
      go none e = tt

module _ (left c : ℕ) (cs : List ℕ) (operand : List ℕ → Reading) (says : (rs : List ℕ) → Says left rs (operand rs)) where
  variable-says : (r : Counted) → c ≡ character "V" → Counts cs r → Says (suc left) (c ∷ cs) (variable r)
  unfolding spelling levels
  variable-says (Number v rest) e k = (ap₂ (λ (x : ℕ) (l : List ℕ). x ∷ l) e k.0, omega arith, k.1)
  variable-says (NoNumber rs) e k = tt

  begins-says : (s : Sign) → Begins c s → Says (suc left) (c ∷ cs) (begins operand (c ∷ cs) s cs)
  unfolding spelling levels
  begins-says (Constant b) e = (ap (λ (x : ℕ). x ∷ cs) e, omega arith, tt)
  begins-says Variable e = variable-says (read_number cs) e (number_counts cs)
  begins-says (Before o) e = onward-says left (c ∷ cs) cs (operand cs) _ (says cs) (λ a rest w. (ap₂ (λ (x : ℕ) (l : List ℕ). x ∷ l) e w.0, omega arith, w.2))
  begins-says Bracket e =
      onward-says left (c ∷ cs) cs (operand cs) _ (says cs) (λ a more w.
      joint_says left (c ∷ cs) more _ (λ o second j.
      onward-says left (c ∷ cs) second (operand second) _ (says second) (λ b last v.
      past-says left (c ∷ cs) (character ")") last _ (λ rest p. (
        ap₂ (λ (x : ℕ) (l : List ℕ). x ∷ l) e (w.0 ∙ ap (λ (l : List ℕ). spelling a ++ l) (j ∙ ap (λ (l : List ℕ). sign2 o ∷ l) (v.0 ∙ ap (λ (l : List ℕ). spelling b ++ l) p))) ∙ sym (spelling_two o a b rest),
        omega arith,
        (w.2, v.2),
      )))))
  begins-says NoSign e = tt

read_says : (left : ℕ) (cs : List ℕ) → Says left cs (read_expr left cs)
unfolding read_expr
read_says zero [] = tt
read_says zero (c ∷ cs) = levelled-says (c ∷ cs) (sign_of c)
read_says (suc left) [] = tt
read_says (suc left) (c ∷ cs) = begins-says left c cs (read_expr left) (read_says left) (sign_of c) (sign_begins c)

-- What is read as an expression is that expression spelt, within the levels and with numbers of one or two digits.
pub read_spelling : (left : ℕ) (cs : List ℕ) (e : Expr) (rest : List ℕ) → read_expr left cs ≡ Whole e rest → (cs ≡ spelling e ++ rest) × (levels e ≤ left) × Below 100 e
read_spelling left cs e rest h = subst (Says left cs) h (read_says left cs)

-- ---- spelt, then read

-- A character is read as its sign.
pub read_sign : (left c : ℕ) (s : Sign) (cs : List ℕ) → sign_of c ≡ s → read_expr (suc left) (c ∷ cs) ≡ begins (read_expr left) (c ∷ cs) s cs
unfolding read_expr
read_sign left c s cs e = ap (λ (t : Sign). begins (read_expr left) (c ∷ cs) t cs) e

variable_sign : sign_of (character "V") ≡ Variable
unfolding sign_of
variable_sign = refl

pub bracket_sign : sign_of (character "(") ≡ Bracket
unfolding sign_of
bracket_sign = refl

past_same : (c : ℕ) (xs : List ℕ) (f : List ℕ → Reading) → past c (c ∷ xs) f ≡ f xs
unfolding past
past_same c xs f = simp (eq-eqb c c refl, past)

pub past_joint_lem : (o : Op2) (xs : List ℕ) (f : Op2 → List ℕ → Reading) → past_joint (sign2 o ∷ xs) f ≡ f o xs
unfolding past_joint
past_joint_lem o xs f = simp (two_joint o, past_joint)

-- An expression that no digit follows is read back, with what stands behind it.
pub spelling_read : (e : Expr) (left : ℕ) (rest : List ℕ) → levels e ≤ left → Below 100 e → NoDigit rest → read_expr left (spelling e ++ rest) ≡ Whole e rest
unfolding levels spelling
spelling_read e zero rest h n d = absurd (omega (arith, levels-some e))
spelling_read (Const b) (suc left) rest h n d = read_sign left (const_sign b) _ rest (const_sign_lem b)
spelling_read (Var v) (suc left) rest h n d = read_sign left (character "V") _ (decimal v ++ rest) variable_sign ∙ ap variable (decimal_read v rest n d)
spelling_read (One o a) (suc left) rest h n d =
    read_sign left (sign1 o) _ (spelling a ++ rest) (one_sign o)
    ∙ ap (λ (r : Reading). onward r (λ b last. Whole (One o b) last)) (spelling_read a left rest (omega arith) n d)
spelling_read (Two o a b) (suc left) rest h n d =
    let last : List ℕ = character ")" ∷ rest in
    let second : List ℕ = spelling b ++ last in
    ap (read_expr (suc left)) (spelling_two o a b rest)
    ∙ read_sign left (character "(") _ (spelling a ++ (sign2 o ∷ second)) bracket_sign
    ∙ ap
    (λ (r : Reading). onward r (λ x more. past_joint more (λ p more. onward (read_expr left more) (λ y more. past (character ")") more (λ more. Whole (Two p x y) more)))))
    (spelling_read a left (sign2 o ∷ second) (omega arith) n.0 (two_no_digit o))
    ∙ past_joint_lem o second (λ p more. onward (read_expr left more) (λ y more. past (character ")") more (λ more. Whole (Two p a y) more)))
    ∙ ap
    (λ (r : Reading). onward r (λ y more. past (character ")") more (λ more. Whole (Two o a y) more)))
    (spelling_read b left last (omega arith) n.1 (λ q. omega arith))
    ∙ past_same (character ")") rest (λ more. Whole (Two o a b) more)

-- ---- one level more

same_joint : (cs : List ℕ) (f g : Op2 → List ℕ → Reading) → ((o : Op2) (rs : List ℕ) → Same (f o rs) (g o rs)) → Same (past_joint cs f) (past_joint cs g)
unfolding past_joint
same_joint [] f g k = refl
same_joint (x ∷ xs) f g k = go (joint_of x)
  where
    go : (j : Option Op2) → Same (elim j [ some o ↦ f o xs | none ↦ Wrong (x ∷ xs) ]) (elim j [ some o ↦ g o xs | none ↦ Wrong (x ∷ xs) ])
    go (some o) = k o xs
    go none = refl

same-levelled : (operand : List ℕ → Reading) (all cs : List ℕ) (s : Sign) → Same (levelled all s) (begins operand all s cs)
same-levelled operand all cs (Constant b) = tt
same-levelled operand all cs Variable = tt
same-levelled operand all cs (Before o) = tt
same-levelled operand all cs Bracket = tt
same-levelled operand all cs NoSign = same_refl (levelled all NoSign)

same-begins : (f g : List ℕ → Reading) (all cs : List ℕ) (s : Sign) → ((rs : List ℕ) → Same (f rs) (g rs)) → Same (begins f all s cs) (begins g all s cs)
same-begins f g all cs (Constant b) k = refl
same-begins f g all cs Variable k = same_refl (variable (read_number cs))
same-begins f g all cs (Before o) k = same-onward (f cs) (g cs) _ _ (k cs) (λ a rest. refl)
same-begins f g all cs Bracket k =
    same-onward (f cs) (g cs) _ _ (k cs) (λ a more.
    same_joint more _ _ (λ o second. same-onward (f second) (g second) _ _ (k second) (λ b last. same_refl (past (character ")") last (λ rest. Whole (Two o a b) rest)))))
same-begins f g all cs NoSign k = refl

pub same-levels : (left : ℕ) (cs : List ℕ) → Same (read_expr left cs) (read_expr (suc left) cs)
unfolding read_expr
same-levels zero [] = refl
same-levels zero (c ∷ cs) = same-levelled (read_expr zero) (c ∷ cs) cs (sign_of c)
same-levels (suc left) [] = refl
same-levels (suc left) (c ∷ cs) = same-begins (read_expr left) (read_expr (suc left)) (c ∷ cs) cs (sign_of c) (same-levels left)

-- One level more changes neither a result nor a fault and its place.
pub more_levels : (left : ℕ) (cs : List ℕ) → Shallow (read_expr left cs) → read_expr (suc left) cs ≡ read_expr left cs
more_levels left cs = shallow-same (read_expr left cs) (read_expr (suc left) cs) (same-levels left cs)
