-- What the card form's reading of an expression keeps: its result under one level more, and the bounds of what it gives.
use mathlib.Core.Path.{◌≡◌, refl, subst}
use mathlib.Core.Bool.{Bool, true, false}
use mathlib.Core.List.{List, [], ◌∷◌}
use mathlib.Core.Option.{Option, none, some}
use Prim.Native.Nat.{ℕ, zero, suc, ◌+◌, ◌*◌, ◌<◌, ◌≤◌}
use native.Mathlib.Omega.{arith}
use lib.Dec.{eqb}
use lib.ListN.{length}
use Rattle.logic.specs.Expressions.{Expr, Op2, nodes, levels, Below}
use Rattle.decks.specs.Readings.{Reading, Whole, Wrong, Deep, onward}
use Rattle.cards.specs.Card.{is_digit}
use Rattle.cards.specs.Grammar.{Sign, Constant, Variable, Before, Bracket, NoSign, Counted, Number, NoNumber, digit_value, second_digit, read_number, sign_of, joint_of, past, past_joint, variable, levelled, begins, read_expr}
use Rattle.decks.proofs.Levels.{Same}
use Rattle.cards.proofs.GrammarLaws.{same-levels}
use Rattle.grammar.proofs.Numbers.{digit-bounds}

-- ---- bounds

-- Of at most n characters and l levels: no more nodes than characters read, no more levels, no variable of three digits.
abbrev pub Bounded : ℕ → ℕ → Reading → Type 0
Bounded l n (Whole e rest) = (nodes e + length rest ≤ n) × (levels e ≤ l) × Below 100 e
Bounded l n (Wrong rest) = Unit
Bounded l n (Deep rest) = Unit

bounded_onward : (l n m k : ℕ) (R : Reading) (f : Expr → List ℕ → Reading) → Bounded l n R → ((e : Expr) (rest : List ℕ) → (nodes e + length rest ≤ n) × (levels e ≤ l) × Below 100 e → Bounded k m (f e rest)) → Bounded k m (onward R f)
bounded_onward l n m k (Whole e rest) f b h = h e rest b
bounded_onward l n m k (Wrong rest) f b h = tt
bounded_onward l n m k (Deep rest) f b h = tt

bounded_past : (l n c : ℕ) (cs : List ℕ) (f : List ℕ → Reading) → ((rest : List ℕ) → 1 + length rest ≤ length cs → Bounded l n (f rest)) → Bounded l n (past c cs f)
unfolding past
bounded_past l n c [] f h = tt
bounded_past l n c (x ∷ cs) f h = go (eqb x c)
  where
    go : (b : Bool) → Bounded l n (elim b [ true ↦ f cs | false ↦ Wrong (x ∷ cs) ])
    go true = h cs (omega arith)
    go false = tt

bounded_joint : (l n : ℕ) (cs : List ℕ) (f : Op2 → List ℕ → Reading) → ((o : Op2) (rest : List ℕ) → 1 + length rest ≤ length cs → Bounded l n (f o rest)) → Bounded l n (past_joint cs f)
unfolding past_joint
bounded_joint l n [] f h = tt
bounded_joint l n (x ∷ cs) f h = go (joint_of x)
  where
    go : (j : Option Op2) → Bounded l n (elim j [ some o ↦ f o cs | none ↦ Wrong (x ∷ cs) ])
    go (some o) = h o cs (omega arith)
    go none = tt

-- A number has at most two digits.
abbrev Counts : ℕ → Counted → Type 0
Counts n (Number v rest) = (v < 100) × (length rest ≤ n)
Counts n (NoNumber rest) = Unit

counts_second : (d : ℕ) (cs : List ℕ) → d < 10 → Counts (length cs) (second_digit d cs)
unfolding second_digit
counts_second d [] h = (omega arith, omega arith)
counts_second d (c ∷ cs) h = go (is_digit c) refl
  where
    go : (b : Bool) → is_digit c ≡ b → Counts (suc (length cs)) (elim b [ true ↦ Number (10 * d + digit_value c) cs | false ↦ Number d (c ∷ cs) ])
    go true e = (omega (arith, digit-bounds c e), omega arith)
    go false e = (omega arith, omega arith)

counts_number : (cs : List ℕ) → Counts (length cs) (read_number cs)
unfolding read_number
counts_number [] = tt
counts_number (c ∷ cs) = go (is_digit c) refl (eqb (digit_value c) 0)
  where
    longer : (R : Counted) → Counts (length cs) R → Counts (suc (length cs)) R
    longer (Number v rest) b = (b.0, omega (arith, b.1))
    longer (NoNumber rest) b = tt

    go : (b : Bool) → is_digit c ≡ b → (z : Bool) → Counts (suc (length cs)) (elim b [ true ↦ elim z [ true ↦ Number 0 cs | false ↦ second_digit (digit_value c) cs ] | false ↦ NoNumber (c ∷ cs) ])
    go true e true = (omega arith, omega arith)
    go true e false = longer (second_digit (digit_value c) cs) (counts_second (digit_value c) cs (omega (arith, digit-bounds c e)))
    go false e z = tt

bounded_variable : (l n : ℕ) (R : Counted) → Counts n R → Bounded (suc l) (suc n) (variable R)
unfolding nodes levels
bounded_variable l n (Number v rest) b = (omega (arith, b.1), omega arith, b.0)
bounded_variable l n (NoNumber rest) b = tt

bounded_begins : (l : ℕ) (f : List ℕ → Reading) → ((cs : List ℕ) → Bounded l (length cs) (f cs)) → (all : List ℕ) (s : Sign) (cs : List ℕ) → Bounded (suc l) (suc (length cs)) (begins f all s cs)
unfolding nodes levels
bounded_begins l f h all (Constant b) cs = (omega arith, omega arith, tt)
bounded_begins l f h all Variable cs = bounded_variable l (length cs) (read_number cs) (counts_number cs)
bounded_begins l f h all (Before o) cs =
    bounded_onward l (length cs) (suc (length cs)) (suc l) (f cs) _ (h cs) (λ a rest b. (omega (arith, b.0), omega (arith, b.1), b.2))
bounded_begins l f h all Bracket cs =
    bounded_onward
    l
    (length cs)
    (suc (length cs))
    (suc l)
    (f cs)
    _
    (h cs)
    (λ a rest b.
    bounded_joint
    (suc l)
    (suc (length cs))
    rest
    _
    (λ o left k.
    bounded_onward
    l
    (length left)
    (suc (length cs))
    (suc l)
    (f left)
    _
    (h left)
    (λ e more d.
    bounded_past
    (suc l)
    (suc (length cs))
    41
    more
    _
    (λ last j. (omega (arith, b.0, k, d.0, j), omega (arith, b.1, d.1), (b.2, d.2))))))
bounded_begins l f h all NoSign cs = tt

bounded_level : (l n : ℕ) (all : List ℕ) (s : Sign) → Bounded l n (levelled all s)
bounded_level l n all (Constant b) = tt
bounded_level l n all Variable = tt
bounded_level l n all (Before o) = tt
bounded_level l n all Bracket = tt
bounded_level l n all NoSign = tt

-- An expression read has no more nodes than the characters read for it, and no more levels than were left.
pub expr_bounded : (l : ℕ) (cs : List ℕ) → Bounded l (length cs) (read_expr l cs)
unfolding read_expr
expr_bounded zero [] = tt
expr_bounded zero (c ∷ cs) = bounded_level 0 (length (c ∷ cs)) (c ∷ cs) (sign_of c)
expr_bounded (suc l) [] = tt
expr_bounded (suc l) (c ∷ cs) = bounded_begins l (read_expr l) (expr_bounded l) (c ∷ cs) (sign_of c) cs

module _ (l : ℕ) (cs : List ℕ) (e : Expr) (rest : List ℕ) (p : read_expr l cs ≡ Whole e rest) where
  bounds : (nodes e + length rest ≤ length cs) × (levels e ≤ l) × Below 100 e
  bounds = subst (λ (R : Reading). Bounded l (length cs) R) p (expr_bounded l cs)

  pub nodes-characters : nodes e + length rest ≤ length cs
  nodes-characters = bounds.0

  pub levels-left : levels e ≤ l
  levels-left = bounds.1

  pub variables_below : Below 100 e
  variables_below = bounds.2

  pub whole_more_levels : read_expr (suc l) cs ≡ Whole e rest
  whole_more_levels = subst (λ (R : Reading). Same R (read_expr (suc l) cs)) p (same-levels l cs)

module _ (l : ℕ) (cs rest : List ℕ) (p : read_expr l cs ≡ Wrong rest) where
  pub wrong_more_levels : read_expr (suc l) cs ≡ Wrong rest
  wrong_more_levels = subst (λ (R : Reading). Same R (read_expr (suc l) cs)) p (same-levels l cs)
