-- When the rest of a statement is an expression, is too deep, or is neither: conditions on the characters alone.
use mathlib.Core.Path.{◌≡◌, refl, sym, ap, ap₂, ◌∙◌, subst}
use mathlib.Core.Logic.{◌⊎◌, inl, inr, ⊎_elim, ◌↔◌}
use mathlib.Core.Bool.{Bool, true, false}
use mathlib.Core.List.{List, [], ◌∷◌, ◌++◌, append_assoc}
use mathlib.Core.Option.{Option, none, some}
use Prim.Native.Nat.{ℕ, zero, suc, ◌≤◌}
use Prim.Native.Char.{code as character}
use native.Mathlib.Omega.{arith}
use lib.Dec.{eqb}
use Rattle.lists.specs.Lists.{◌among◌}
use Rattle.logic.specs.Expressions.{Expr, One, Two, Op1, Op2, Not, Next, Future, Always, levels, const_sign, sign1, sign2, spelling, Below}
use Rattle.logic.specs.Decks.{base}
use Rattle.decks.specs.declared.Refusal.TheVariants.{NotDue, TooDeep}
use Rattle.decks.specs.Answers.{Outcome, Got, Refused}
use Rattle.decks.specs.Readings.{Reading, Whole, Wrong, Deep, onward}
use Rattle.cards.specs.Grammar.{Counted, Number, NoNumber, read_number, Sign, Constant, Variable, Before, Bracket, NoSign, sign_of, joint_of, past, past_joint, variable, levelled, begins, read_expr}
use Rattle.cards.specs.Read.{whole_expr}
use Rattle.cards.specs.Deep.{beginners, BeginsOne, Opens, Spells, TooFar}
use Rattle.decks.proofs.Outcomes.{refused_got}
use Rattle.cards.proofs.GrammarLaws.{Begins, sign_begins, Joins, joint_joins, read_sign, one_sign, bracket_sign, past_joint_lem, two_no_digit, spelling_read, read_spelling}
use Rattle.cards.proofs.WordLaws.{whole_expr_spelt, whole_expr_got}

-- ---- what a deep reading says

-- Where it stopped.
abbrev Stops : ℕ → List ℕ → Reading → Type 0
Stops left cs (Whole e rs) = Unit
Stops left cs (Wrong rs) = Unit
Stops left cs (Deep rs) = (front : List ℕ) × (cs ≡ front ++ rs) × Opens left front × BeginsOne rs

const_begins : (b : Bool) → const_sign b among beginners
const_begins false = inl refl
const_begins true = inr (inl refl)

one_begins : (o : Op1) → sign1 o among beginners
one_begins Not = inr (inr (inr (inl refl)))
one_begins Next = inr (inr (inr (inr (inl refl))))
one_begins Future = inr (inr (inr (inr (inr (inl refl)))))
one_begins Always = inr (inr (inr (inr (inr (inr (inl refl))))))

levelled_stops : (c : ℕ) (cs : List ℕ) (s : Sign) → Begins c s → Stops 0 (c ∷ cs) (levelled (c ∷ cs) s)
levelled_stops c cs (Constant b) e = ([], refl, refl, subst (λ (x : ℕ). x among beginners) (sym e) (const_begins b))
levelled_stops c cs Variable e = ([], refl, refl, inr (inr (inl e)))
levelled_stops c cs (Before o) e = ([], refl, refl, subst (λ (x : ℕ). x among beginners) (sym e) (one_begins o))
levelled_stops c cs Bracket e = ([], refl, refl, inr (inr (inr (inr (inr (inr (inr (inl e))))))))
levelled_stops c cs NoSign e = tt

module _ (left c : ℕ) (cs : List ℕ) (stops : (rs : List ℕ) → Stops left rs (read_expr left rs)) where
  variable_stops : (r : Counted) → Stops (suc left) (c ∷ cs) (variable r)
  variable_stops (Number v rest) = tt
  variable_stops (NoNumber rs) = tt

  closing_stops : (x : ℕ) (last : List ℕ) (e : Expr) → Stops (suc left) (c ∷ cs) (past x last (λ rest. Whole e rest))
  unfolding past
  closing_stops x [] e = tt
  closing_stops x (y ∷ ys) e = go (eqb y x)
    where
      go : (t : Bool) → Stops (suc left) (c ∷ cs) (elim t [ true ↦ Whole e ys | false ↦ Wrong (y ∷ ys) ])
      go true = tt
      go false = tt

  one_stops : (o : Op1) → c ≡ sign1 o → (r : Reading) → Stops left cs r → Stops (suc left) (c ∷ cs) (onward r (λ a rest. Whole (One o a) rest))
  one_stops o e (Whole a rest) s = tt
  one_stops o e (Wrong rs) s = tt
  one_stops o e (Deep rs) (front, f, p, b) = (sign1 o ∷ front, ap₂ (λ (x : ℕ) (l : List ℕ). x ∷ l) e f, inl (o, front, refl, p), b)

  second_stops : (a : Expr) (o : Op2) (second : List ℕ) → c ≡ character "(" → cs ≡ spelling a ++ (sign2 o ∷ second) → levels a ≤ left → Below 100 a → (r : Reading) → Stops left second r → Stops (suc left) (c ∷ cs) (onward r (λ b rest. past (character ")") rest (λ rest. Whole (Two o a b) rest)))
  second_stops a o second e w l n (Whole b last) s = closing_stops (character ")") last (Two o a b)
  second_stops a o second e w l n (Wrong rs) s = tt
  second_stops a o second e w l n (Deep rs) (front, f, p, b) = (
    character "(" ∷ (spelling a ++ (sign2 o ∷ front)),
    ap₂ (λ (x : ℕ) (l : List ℕ). x ∷ l) e (w ∙ ap (λ (l : List ℕ). spelling a ++ (sign2 o ∷ l)) f ∙ sym (append_assoc (spelling a) (sign2 o ∷ front) rs)),
    inr (inr (a, o, front, refl, l, n, p)),
    b,
  )

  joint_stops : (a : Expr) (more : List ℕ) → c ≡ character "(" → cs ≡ spelling a ++ more → levels a ≤ left → Below 100 a → Stops (suc left) (c ∷ cs) (past_joint more (λ o rest. onward (read_expr left rest) (λ b rest. past (character ")") rest (λ rest. Whole (Two o a b) rest))))
  unfolding past_joint
  joint_stops a [] e w l n = tt
  joint_stops a (x ∷ xs) e w l n = go (joint_of x) (joint_joins x)
    where
      go : (j : Option Op2) → Joins x j → Stops (suc left) (c ∷ cs) (elim j [ some o ↦ onward (read_expr left xs) (λ b rest. past (character ")") rest (λ rest. Whole (Two o a b) rest)) | none ↦ Wrong (x ∷ xs) ])
      go (some o) q = second_stops a o xs e (w ∙ ap (λ (y : ℕ). spelling a ++ (y ∷ xs)) q) l n (read_expr left xs) (stops xs)
      go none q = tt

  first_stops : c ≡ character "(" → (r : Reading) → read_expr left cs ≡ r → Stops left cs r → Stops (suc left) (c ∷ cs) (onward r (λ a rest. past_joint rest (λ o rest. onward (read_expr left rest) (λ b rest. past (character ")") rest (λ rest. Whole (Two o a b) rest)))))
  first_stops e (Whole a more) q s = let w = read_spelling left cs a more q in joint_stops a more e w.0 w.1 w.2
  first_stops e (Wrong rs) q s = tt
  first_stops e (Deep rs) q (front, f, p, b) = (character "(" ∷ front, ap₂ (λ (x : ℕ) (l : List ℕ). x ∷ l) e f, inr (inl (front, refl, p)), b)

  begins_stops : (s : Sign) → Begins c s → Stops (suc left) (c ∷ cs) (begins (read_expr left) (c ∷ cs) s cs)
  begins_stops (Constant b) e = tt
  begins_stops Variable e = variable_stops (read_number cs)
  begins_stops (Before o) e = one_stops o e (read_expr left cs) (stops cs)
  begins_stops Bracket e = first_stops e (read_expr left cs) refl (stops cs)
  begins_stops NoSign e = tt

read_stops : (left : ℕ) (cs : List ℕ) → Stops left cs (read_expr left cs)
unfolding read_expr
read_stops zero [] = tt
read_stops zero (c ∷ cs) = levelled_stops c cs (sign_of c) (sign_begins c)
read_stops (suc left) [] = tt
read_stops (suc left) (c ∷ cs) = begins_stops left c cs (read_stops left) (sign_of c) (sign_begins c)

-- ---- and where it stops

beginner_deep : (rest : List ℕ) → BeginsOne rest → read_expr zero rest ≡ Deep rest
unfolding read_expr sign_of
beginner_deep (c ∷ cs) (inr (inr (inr (inr (inr (inr (inr (inr x10)))))))) = elim x10 [ ]
beginner_deep [] x' = elim x' [ ]
beginner_deep (c ∷ cs) (inl e) = rw e
beginner_deep (c ∷ cs) (inr (inl e)) = rw e
beginner_deep (c ∷ cs) (inr (inr (inl e))) = rw e
beginner_deep (c ∷ cs) (inr (inr (inr (inl e)))) = rw e
beginner_deep (c ∷ cs) (inr (inr (inr (inr (inl e))))) = rw e
beginner_deep (c ∷ cs) (inr (inr (inr (inr (inr (inl e)))))) = rw e
beginner_deep (c ∷ cs) (inr (inr (inr (inr (inr (inr (inl e))))))) = rw e
beginner_deep (c ∷ cs) (inr (inr (inr (inr (inr (inr (inr (inl e)))))))) = rw e

-- What stands before an expression k levels down is read, and then the expression is too deep.
opens-deep : (k : ℕ) (front rest : List ℕ) → Opens k front → BeginsOne rest → read_expr k (front ++ rest) ≡ Deep rest
opens-deep zero front rest e b = ap (λ (l : List ℕ). read_expr zero (l ++ rest)) e ∙ beginner_deep rest b
opens-deep (suc k) front rest (inl (o, more, e, p)) b =
    ap (λ (l : List ℕ). read_expr (suc k) (l ++ rest)) e
    ∙ read_sign k (sign1 o) _ (more ++ rest) (one_sign o)
    ∙ ap (λ (r : Reading). onward r (λ a last. Whole (One o a) last)) (opens-deep k more rest p b)
opens-deep (suc k) front rest (inr (inl (more, e, p))) b =
    ap (λ (l : List ℕ). read_expr (suc k) (l ++ rest)) e
    ∙ read_sign k (character "(") _ (more ++ rest) bracket_sign
    ∙ ap
    (λ (r : Reading). onward r (λ x more. past_joint more (λ p more. onward (read_expr k more) (λ y more. past (character ")") more (λ more. Whole (Two p x y) more)))))
    (opens-deep k more rest p b)
opens-deep (suc k) front rest (inr (inr (a, o, more, e, l, n, p))) b =
    ap (λ (l : List ℕ). read_expr (suc k) (l ++ rest)) e
    ∙ ap (λ (l : List ℕ). read_expr (suc k) (character "(" ∷ l)) (append_assoc (spelling a) (sign2 o ∷ more) rest)
    ∙ read_sign k (character "(") _ (spelling a ++ (sign2 o ∷ (more ++ rest))) bracket_sign
    ∙ ap
    (λ (r : Reading). onward r (λ x more. past_joint more (λ p more. onward (read_expr k more) (λ y more. past (character ")") more (λ more. Whole (Two p x y) more)))))
    (spelling_read a k (sign2 o ∷ (more ++ rest)) l n (two_no_digit o))
    ∙ past_joint_lem o (more ++ rest) (λ p more. onward (read_expr k more) (λ y more. past (character ")") more (λ more. Whole (Two p a y) more)))
    ∙ ap (λ (r : Reading). onward r (λ y more. past (character ")") more (λ more. Whole (Two o a y) more))) (opens-deep k more rest p b)

-- ---- the expression that fills the rest of a statement

-- It is taken exactly where the rest is its spelling.
pub whole_expr_exactly : (n : ℕ) (cs : List ℕ) (e : Expr) → (whole_expr n cs ≡ Got e) ↔ Spells cs e
whole_expr_exactly n cs e = (whole_expr_got n cs e, λ (p, l, b). ap (whole_expr n) p ∙ whole_expr_spelt n e l b)

too_far_deep : (n : ℕ) (cs : List ℕ) → TooFar cs → whole_expr n cs ≡ Refused (TooDeep n)
unfolding whole_expr
too_far_deep n cs (front, rest, e, p, b) = let d : read_expr base.levels cs ≡ Deep rest = ap (read_expr base.levels) e ∙ opens-deep base.levels front rest p b in simp (d, whole_expr)

-- Which of the three it comes to.
abbrev Comes : ℕ → List ℕ → Outcome Expr → Type 0
Comes n cs r = (((e : Expr) × (r ≡ Got e)) ⊎ ((r ≡ Refused (TooDeep n)) × TooFar cs)) ⊎ (r ≡ Refused (NotDue n))

whole_expr_comes : (n : ℕ) (cs : List ℕ) → Comes n cs (whole_expr n cs)
unfolding whole_expr
whole_expr_comes n cs = go (read_expr base.levels cs) (read_stops base.levels cs)
  where
    go : (r : Reading) → Stops base.levels cs r → Comes n cs (elim r [ Whole e [] ↦ Got e | Whole e (r ∷ rs) ↦ Refused (NotDue n) | Wrong rs ↦ Refused (NotDue n) | Deep rs ↦ Refused (TooDeep n) ])
    go (Whole e []) s = inl (inl (e, refl))
    go (Whole e (r ∷ rs)) s = inr refl
    go (Wrong rs) s = inr refl
    go (Deep rs) (front, f, p, b) = inl (inr (refl, (front, rs, f, p, b)))

deep-not-due : {P : Type 0} {n m : ℕ} → ◌≡◌ {A = Outcome Expr} (Refused (TooDeep n)) (Refused (NotDue m)) → P
deep-not-due e = let z : ◌≡◌ {A = ℕ} 0 1 = cc in absurd (omega arith)

-- 11 is given exactly where an expression begins at level 33, with all to the left of it in order, whatever follows.
pub too_deep_exactly : (n : ℕ) (cs : List ℕ) → (whole_expr n cs ≡ Refused (TooDeep n)) ↔ TooFar cs
too_deep_exactly n cs = (λ h. ⊎_elim (⊎_elim (λ (e, g). refused_got (sym h ∙ g)) (λ (d, f). f)) (λ w. deep-not-due (sym h ∙ w)) (whole_expr_comes n cs), too_far_deep n cs)

-- 8 is given exactly where it is neither an expression's spelling nor too deep.
pub wrong_exactly : (n : ℕ) (cs : List ℕ) → (whole_expr n cs ≡ Refused (NotDue n)) ↔ (((e : Expr) → Spells cs e → ⊥) × (TooFar cs → ⊥))
wrong_exactly n cs = (
  λ h. (λ e s. refused_got (sym h ∙ (whole_expr_exactly n cs e).1 s), λ f. deep-not-due (sym (too_far_deep n cs f) ∙ h)),
  λ (ns, nf). ⊎_elim (⊎_elim (λ (e, g). absurd (ns e ((whole_expr_exactly n cs e).0 g))) (λ (d, f). absurd (nf f))) (λ w. w) (whole_expr_comes n cs),
)
