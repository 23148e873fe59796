-- When the pairs of a line are an expression, are too deep, or are neither: conditions on the pairs alone.
use mathlib.Core.Path.{◌≡◌, refl, sym, ap, ◌∙◌}
use mathlib.Core.Logic.{◌⊎◌, inl, inr, by_cases}
use mathlib.Core.Bool.{true, false}
use mathlib.Core.List.{List, [], ◌∷◌, ◌++◌, append_assoc}
use Prim.Native.Nat.{ℕ, zero, suc, ◌-◌, ◌<◌, ◌≤◌}
use native.Mathlib.Omega.{arith}
use native.Mathlib.Decide.{dec_lt}
use lib.ListN.{get_or}
use Rattle.logic.specs.Expressions.{Expr, Const, Var, One, Two, Op1, Op2, Not, Next, Future, Always, And, Or, Until, Weak, levels, node1, node2, code, Below}
use Rattle.logic.specs.Decks.{base}
use Rattle.decks.specs.declared.Refusal.{Refusal}
use Rattle.decks.specs.declared.Refusal.TheVariants.{BadFrame, TooDeep}
use Rattle.decks.specs.Answers.{Outcome, Got, Refused}
use Rattle.frames.specs.Hex.{pair, byte_of}
use Rattle.frames.specs.Written.{code_byte, node_pairs}
use Rattle.frames.specs.Read.{Sign, Leaf, Before, Between, NoSign, signs, sign_of, levelled, begins, read_expr, whole_expr}
use Rattle.decks.specs.Readings.{Reading, Whole, Wrong, Deep, onward}
use Rattle.frames.proofs.HexLaws.{byte_pair, pair_byte}
use Rattle.frames.proofs.ExprLaws.{Begins, code_byte_variable, sign_variable, sign_above, sign_begins, one_sign, two_sign, read_node, begun-pair, expr_written_read, expr_read_written}
use Rattle.decks.proofs.Outcomes.{refused_got}
use Rattle.refusals.specs.FrameFaults.{BeginsCode, OpensPairs, TooFarDown}

-- ---- where a deep reading stopped

abbrev Stops : ℕ → List ℕ → Reading → Type 0
Stops left cs (Whole e rs) = Unit
Stops left cs (Wrong rs) = Unit
Stops left cs (Deep rs) = (front : List ℕ) × (cs ≡ front ++ rs) × OpensPairs left front × BeginsCode rs

-- A sign's code is one of 00 to 49.
code_low : (n : ℕ) (s : Sign) → Begins n s → (s ≡ NoSign) ⊎ (n < 74)
unfolding code_byte
code_low n (Leaf (Const false)) e = inr (omega arith)
code_low n (Leaf (Const true)) e = inr (omega arith)
code_low n (Leaf (Var v)) (e, h) = inr (omega (arith, e ∙ code_byte_variable v (omega arith)))
code_low n (Leaf (One o a)) e = absurd e
code_low n (Leaf (Two o a b)) e = absurd e
code_low n (Before Not) e = inr (omega arith)
code_low n (Before Next) e = inr (omega arith)
code_low n (Before Future) e = inr (omega arith)
code_low n (Before Always) e = inr (omega arith)
code_low n (Between And) e = inr (omega arith)
code_low n (Between Or) e = inr (omega arith)
code_low n (Between Until) e = inr (omega arith)
code_low n (Between Weak) e = inr (omega arith)
code_low n NoSign e = inl refl

code-begins : (h l : ℕ) (cs : List ℕ) → byte_of h l < 74 → BeginsCode (h ∷ l ∷ cs)
code-begins h l cs b = (byte_of h l, cs, b, ap (λ (p : List ℕ). p ++ cs) (sym (pair_byte h l (omega arith))))

levelled_stops : (h l : ℕ) (cs : List ℕ) (s : Sign) → (s ≡ NoSign) ⊎ (byte_of h l < 74) → Stops 0 (h ∷ l ∷ cs) (levelled (h ∷ l ∷ cs) s cs)
levelled_stops h l cs (Leaf e) (inl n) = let z : ◌≡◌ {A = ℕ} 0 1 = cc in absurd (omega arith)
levelled_stops h l cs (Leaf e) (inr b) = ([], refl, refl, code-begins h l cs b)
levelled_stops h l cs (Before o) (inl n) = let z : ◌≡◌ {A = ℕ} 0 1 = cc in absurd (omega arith)
levelled_stops h l cs (Before o) (inr b) = ([], refl, refl, code-begins h l cs b)
levelled_stops h l cs (Between o) (inl n) = let z : ◌≡◌ {A = ℕ} 0 1 = cc in absurd (omega arith)
levelled_stops h l cs (Between o) (inr b) = ([], refl, refl, code-begins h l cs b)
levelled_stops h l cs NoSign b = tt

module _ (left h l : ℕ) (cs : List ℕ) (stops : (rs : List ℕ) → Stops left rs (read_expr left rs)) where
  one_stops : (o : Op1) → byte_of h l ≡ code_byte (node1 o) → (r : Reading) → Stops left cs r → Stops (suc left) (h ∷ l ∷ cs) (onward r (λ a rest. Whole (One o a) rest))
  one_stops o e (Whole a rest) s = tt
  one_stops o e (Wrong rs) s = tt
  one_stops o e (Deep rs) (front, f, p, b) = (
    pair (code_byte (node1 o)) ++ front,
    begun-pair h l (node1 o) cs e (one_sign o).0 ∙ ap (λ (t : List ℕ). pair (code_byte (node1 o)) ++ t) f,
    inl (o, front, refl, p),
    b,
  )

  second_stops : (o : Op2) → byte_of h l ≡ code_byte (node2 o) → (a : Expr) (more : List ℕ) → cs ≡ node_pairs (code a) ++ more → levels a ≤ left → Below 64 a → (r : Reading) → Stops left more r → Stops (suc left) (h ∷ l ∷ cs) (onward r (λ b last. Whole (Two o a b) last))
  second_stops o e a more w d n (Whole b last) s = tt
  second_stops o e a more w d n (Wrong rs) s = tt
  second_stops o e a more w d n (Deep rs) (front, f, p, b) = (
    pair (code_byte (node2 o)) ++ (node_pairs (code a) ++ front),
    begun-pair h l (node2 o) cs e (two_sign o).0
        ∙ ap (λ (t : List ℕ). pair (code_byte (node2 o)) ++ t) (w ∙ ap (λ (t : List ℕ). node_pairs (code a) ++ t) f ∙ sym (append_assoc (node_pairs (code a)) front rs)),
    inr (inr (o, a, front, refl, d, n, p)),
    b,
  )

  first_stops : (o : Op2) → byte_of h l ≡ code_byte (node2 o) → (r : Reading) → read_expr left cs ≡ r → Stops left cs r → Stops (suc left) (h ∷ l ∷ cs) (onward r (λ a rest. onward (read_expr left rest) (λ b last. Whole (Two o a b) last)))
  first_stops o e (Whole a more) q s = let w = expr_read_written left cs a more q in second_stops o e a more w.0 w.1 w.2 (read_expr left more) (stops more)
  first_stops o e (Wrong rs) q s = tt
  first_stops o e (Deep rs) q (front, f, p, b) = (
    pair (code_byte (node2 o)) ++ front,
    begun-pair h l (node2 o) cs e (two_sign o).0 ∙ ap (λ (t : List ℕ). pair (code_byte (node2 o)) ++ t) f,
    inr (inl (o, front, refl, p)),
    b,
  )

  begins_stops : (s : Sign) → Begins (byte_of h l) s → Stops (suc left) (h ∷ l ∷ cs) (begins (read_expr left) (h ∷ l ∷ cs) s cs)
  begins_stops (Leaf x) e = tt
  begins_stops (Before o) e = one_stops o e (read_expr left cs) (stops cs)
  begins_stops (Between o) e = first_stops o e (read_expr left cs) refl (stops cs)
  begins_stops NoSign e = tt

read_stops : (left : ℕ) (cs : List ℕ) → Stops left cs (read_expr left cs)
unfolding read_expr
read_stops zero [] = tt
read_stops zero (h ∷ []) = tt
read_stops zero (h ∷ l ∷ cs) = levelled_stops h l cs (sign_of (byte_of h l)) (code_low (byte_of h l) (sign_of (byte_of h l)) (sign_begins (byte_of h l)))
read_stops (suc left) [] = tt
read_stops (suc left) (h ∷ []) = tt
read_stops (suc left) (h ∷ l ∷ cs) = begins_stops left h l cs (read_stops left) (sign_of (byte_of h l)) (sign_begins (byte_of h l))

-- ---- and where it stops

above_deep : (all cs : List ℕ) (k : ℕ) → k < 10 → levelled all (get_or signs k NoSign) cs ≡ Deep all
above_deep all cs zero h = refl
above_deep all cs (suc zero) h = refl
above_deep all cs (suc (suc zero)) h = refl
above_deep all cs (suc (suc (suc zero))) h = refl
above_deep all cs (suc (suc (suc (suc zero)))) h = refl
above_deep all cs (suc (suc (suc (suc (suc zero))))) h = refl
above_deep all cs (suc (suc (suc (suc (suc (suc zero)))))) h = refl
above_deep all cs (suc (suc (suc (suc (suc (suc (suc zero))))))) h = refl
above_deep all cs (suc (suc (suc (suc (suc (suc (suc (suc zero)))))))) h = refl
above_deep all cs (suc (suc (suc (suc (suc (suc (suc (suc (suc zero))))))))) h = refl
above_deep all cs (suc (suc (suc (suc (suc (suc (suc (suc (suc (suc k)))))))))) h = absurd (omega arith)

code-deep : (all cs : List ℕ) (c : ℕ) → c < 74 → levelled all (sign_of c) cs ≡ Deep all
code-deep all cs c h =
    by_cases
    (dec_lt c 64)
    (λ l. ap (λ (s : Sign). levelled all s cs) (sign_variable c l))
    (λ m. ap (λ (s : Sign). levelled all s cs) (sign_above c (omega arith)) ∙ above_deep all cs (c - 64) (omega arith))

begins-deep : (rest : List ℕ) → BeginsCode rest → read_expr zero rest ≡ Deep rest
unfolding read_expr
begins-deep rest (c, more, h, e) =
    ap (read_expr zero) e
    ∙ ap (λ (n : ℕ). levelled (pair c ++ more) (sign_of n) more) (byte_pair c (omega arith))
    ∙ code-deep (pair c ++ more) more c h
    ∙ ap Deep (sym e)

-- What stands before an expression k levels down is read, and then the expression is too deep.
opens-deep : (k : ℕ) (front rest : List ℕ) → OpensPairs k front → BeginsCode rest → read_expr k (front ++ rest) ≡ Deep rest
opens-deep zero front rest e b = ap (λ (l : List ℕ). read_expr zero (l ++ rest)) e ∙ begins-deep rest b
opens-deep (suc k) front rest (inl (o, more, e, p)) b =
    ap (λ (l : List ℕ). read_expr (suc k) (l ++ rest)) e
    ∙ read_node k (node1 o) _ (more ++ rest) (one_sign o)
    ∙ ap (λ (r : Reading). onward r (λ a last. Whole (One o a) last)) (opens-deep k more rest p b)
opens-deep (suc k) front rest (inr (inl (o, more, e, p))) b =
    ap (λ (l : List ℕ). read_expr (suc k) (l ++ rest)) e
    ∙ read_node k (node2 o) _ (more ++ rest) (two_sign o)
    ∙ ap (λ (r : Reading). onward r (λ c rest. onward (read_expr k rest) (λ d last. Whole (Two o c d) last))) (opens-deep k more rest p b)
opens-deep (suc k) front rest (inr (inr (o, a, more, e, l, n, p))) b =
    ap (λ (l : List ℕ). read_expr (suc k) (l ++ rest)) e
    ∙ read_node k (node2 o) _ ((node_pairs (code a) ++ more) ++ rest) (two_sign o)
    ∙ ap
    (λ (r : Reading). onward r (λ c rest. onward (read_expr k rest) (λ d last. Whole (Two o c d) last)))
    (ap (read_expr k) (append_assoc (node_pairs (code a)) more rest) ∙ expr_written_read a k (more ++ rest) l n)
    ∙ ap (λ (r : Reading). onward r (λ d last. Whole (Two o a d) last)) (opens-deep k more rest p b)

-- ---- the expression that fills the rest of a line

pub far_refused : (n : ℕ) (cs : List ℕ) → TooFarDown cs → whole_expr n cs ≡ Refused (TooDeep n)
unfolding whole_expr
far_refused n cs (front, rest, e, p, b) = let d : read_expr base.levels cs ≡ Deep rest = ap (read_expr base.levels) e ∙ opens-deep base.levels front rest p b in simp (d, whole_expr)

pub expr_refused : (n : ℕ) (cs : List ℕ) (a : Refusal) → whole_expr n cs ≡ Refused a → (a ≡ BadFrame 1 n) ⊎ ((a ≡ TooDeep n) × TooFarDown cs)
unfolding whole_expr
expr_refused n cs a h = go (read_expr base.levels cs) (read_stops base.levels cs) h
  where
    go : (r : Reading) → Stops base.levels cs r → ◌≡◌ {A = Outcome Expr} (elim r [ Whole e [] ↦ Got e | Whole e (r ∷ rs) ↦ Refused (BadFrame 1 n) | Wrong rs ↦ Refused (BadFrame 1 n) | Deep rs ↦ Refused (TooDeep n) ]) (Refused a) → (a ≡ BadFrame 1 n) ⊎ ((a ≡ TooDeep n) × TooFarDown cs)
    go (Whole e []) s q = refused_got (sym q)
    go (Whole e (r ∷ rs)) s q = inl cc
    go (Wrong rs) s q = inl cc
    go (Deep rs) (front, f, p, b) q = inr (cc, (front, rs, f, p, b))
