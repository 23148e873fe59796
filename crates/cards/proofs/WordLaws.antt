-- Laws of the parts of a statement: its word, its number, its binary digits, its expression.
use mathlib.Core.Path.{◌≡◌, refl, sym, ap, ap₂, ◌∙◌, subst}
use mathlib.Core.Logic.{◌⊎◌, inl, inr, ⊎_elim, ◌↔◌}
use mathlib.Core.Bool.{Bool, true, false, ◌||◌}
use mathlib.Core.List.{List, [], ◌∷◌, ◌++◌, append-nil}
use mathlib.Core.Option.{Option, none, some}
use Prim.Native.Nat.{ℕ, zero, suc, ◌+◌, ◌-◌, ◌*◌, ◌%◌, ◌^◌, ◌<◌, ◌≤◌}
use native.Mathlib.Omega.{arith}
use native.Mathlib.Nat.{add_comm, mod-lt, mod-eq_of_lt, mod-one}
use borrow.Author.Tests.{le-ltb, ltb-false, eq-eqb, ne_eqb, eqb-true}
use lib.Dec.{eqb, ltb}
use lib.Pow.{pow_pos, mod-pow-add}
use Rattle.sets.specs.Sets.{bit}
use Rattle.sets.proofs.Laws.{bit_or_zero}
use Rattle.logic.specs.Expressions.{Expr, levels, decimal, spelling, Below}
use Rattle.logic.specs.Decks.{base}
use Rattle.decks.specs.declared.Refusal.TheVariants.{NotDue}
use Rattle.decks.specs.Answers.{Outcome, Got, refuse}
use Rattle.decks.specs.Readings.{Reading, Whole, Wrong, Deep}
use Rattle.cards.specs.Grammar.{Counted, Number, NoNumber, digit_value, read_number, read_expr}
use Rattle.cards.specs.Typed.{binary_from}
use Rattle.cards.specs.Read.{behind, whole_expr, whole_number, read_binary, Sofar, on_word}
use Rattle.decks.proofs.Outcomes.{Given, refused_got, got_eq}
use Rattle.cards.proofs.GrammarLaws.{decimal_read, read_decimal, spelling_read, read_spelling}

-- general:

pub none_some : {A : Type 0} {P : Type 0} {x : A} → none ≡ some x → P
none_some e = let z : ◌≡◌ {A = ℕ} 0 1 = cc in absurd (omega arith)

pub some_eq : {A : Type 0} {x y : A} → some x ≡ some y → x ≡ y
some_eq e = cc

-- The lowest digits of s, one more of them.
mod_next : (s i : ℕ) → s % 2 ^ suc i ≡ s % 2 ^ i + bit s i * 2 ^ i
mod_next s i = let e : suc i ≡ 1 + i = omega arith in ap (λ (k : ℕ). s % 2 ^ k) e ∙ mod-pow-add s 1 i ∙ add_comm (bit s i * 2 ^ i) (s % 2 ^ i)

-- Two numbers below p beside two digits for p.
digits_same : (p a b x y : ℕ) → a < p → b < p → (x ≡ 0) ⊎ (x ≡ 1) → (y ≡ 0) ⊎ (y ≡ 1) → a + x * p ≡ b + y * p → (a ≡ b) × (x ≡ y)
digits_same p a b x y l m (inl e) (inl f) h = let k : a + 0 * p ≡ b + 0 * p = ap (λ (z : ℕ). a + z * p) (sym e) ∙ h ∙ ap (λ (z : ℕ). b + z * p) f in (omega arith, e ∙ sym f)
digits_same p a b x y l m (inl e) (inr f) h = let k : a + 0 * p ≡ b + 1 * p = ap (λ (z : ℕ). a + z * p) (sym e) ∙ h ∙ ap (λ (z : ℕ). b + z * p) f in absurd (omega arith)
digits_same p a b x y l m (inr e) (inl f) h = let k : a + 1 * p ≡ b + 0 * p = ap (λ (z : ℕ). a + z * p) (sym e) ∙ h ∙ ap (λ (z : ℕ). b + z * p) f in absurd (omega arith)
digits_same p a b x y l m (inr e) (inr f) h = let k : a + 1 * p ≡ b + 1 * p = ap (λ (z : ℕ). a + z * p) (sym e) ∙ h ∙ ap (λ (z : ℕ). b + z * p) f in (omega arith, e ∙ sym f)

-- ---- words

behind-same : (w : ℕ) (ws cs : List ℕ) → behind (w ∷ ws) (w ∷ cs) ≡ behind ws cs
unfolding behind
behind-same w ws cs = simp (eq-eqb w w refl, behind)

behind_other : (w c : ℕ) (ws cs : List ℕ) → (w ≡ c → ⊥) → behind (w ∷ ws) (c ∷ cs) ≡ none
unfolding behind
behind_other w c ws cs n = simp (ne_eqb w c n, behind)

pub word_behind : (w rs : List ℕ) → behind w (w ++ rs) ≡ some rs
unfolding behind
word_behind [] rs = refl
word_behind (w ∷ ws) rs = behind-same w ws (ws ++ rs) ∙ word_behind ws rs

pub behind_word : (w cs rs : List ℕ) → behind w cs ≡ some rs → cs ≡ w ++ rs
unfolding behind
behind_word [] cs rs e = some_eq e
behind_word (w ∷ ws) [] rs e = none_some e
behind_word (w ∷ ws) (c ∷ cs) rs e = go (eqb w c) refl (behind_word ws cs rs)
  where
    go : (t : Bool) → eqb w c ≡ t → (behind ws cs ≡ some rs → cs ≡ ws ++ rs) → c ∷ cs ≡ w ∷ (ws ++ rs)
    go true p f = let q = eqb-true w c p in ap₂ (λ (x : ℕ) (l : List ℕ). x ∷ l) (sym q) (f (sym (behind-same w ws cs) ∙ ap (λ (x : ℕ). behind (w ∷ ws) (x ∷ cs)) q ∙ e))
    go false p f = none_some (simp (p, behind) at e)

-- What stands behind the word is found exactly where the text begins with the word.
pub behind_exactly : (w cs rs : List ℕ) → behind w cs ≡ some rs ↔ cs ≡ w ++ rs
behind_exactly w cs rs = (behind_word w cs rs, λ e. ap (behind w) e ∙ word_behind w rs)

pub on_word_lem : (w rs : List ℕ) (f : List ℕ → Outcome Sofar) (other : Outcome Sofar) → on_word w (w ++ rs) f other ≡ f rs
on_word_lem w rs f other = ap (λ (b : Option (List ℕ)). elim b [ some rs ↦ f rs | none ↦ other ]) (word_behind w rs)

pub on_other : (w cs : List ℕ) (f : List ℕ → Outcome Sofar) (other : Outcome Sofar) → behind w cs ≡ none → on_word w cs f other ≡ other
on_other w cs f other e = ap (λ (b : Option (List ℕ)). elim b [ some rs ↦ f rs | none ↦ other ]) e

pub word_given : (P : Sofar → Type 0) (w cs : List ℕ) (f : List ℕ → Outcome Sofar) (other : Outcome Sofar) → ((rs : List ℕ) → cs ≡ w ++ rs → Given P (f rs)) → Given P other → Given P (on_word w cs f other)
word_given P w cs f other k g = go (behind w cs) refl
  where
    go : (b : Option (List ℕ)) → behind w cs ≡ b → Given P (elim b [ some rs ↦ f rs | none ↦ other ])
    go (some rs) e = k rs (behind_word w cs rs e)
    go none e = g

-- ---- a number, an expression that fill the rest

pub whole-number-spelt : (n most v : ℕ) → v ≤ most → most < 100 → whole_number n most (decimal v) ≡ Got v
unfolding whole_number
whole-number-spelt n most v h m =
    let e : read_number (decimal v) ≡ Number v [] = ap read_number (sym (append-nil (decimal v))) ∙ decimal_read v [] (omega arith) tt in
    simp (e, le-ltb most v h, whole_number)

pub whole-number_got : (n most : ℕ) (cs : List ℕ) (v : ℕ) → whole_number n most cs ≡ Got v → (cs ≡ decimal v) × (v ≤ most)
unfolding whole_number
whole-number_got n most cs v h = go (read_number cs) refl
  where
    low : (x : ℕ) (t : Bool) → ltb most x ≡ t → refuse t (NotDue n) (Got x) ≡ Got v → (x ≡ v) × (x ≤ most)
    low x true p e = refused_got e
    low x false p e = (got_eq e, ltb-false most x p)

    go : (r : Counted) → read_number cs ≡ r → (cs ≡ decimal v) × (v ≤ most)
    go (Number x []) p =
        let f : refuse (ltb most x) (NotDue n) (Got x) ≡ Got v = simp (p, whole_number) at h in
        let k = low x (ltb most x) refl f in
        subst (λ (y : ℕ). (cs ≡ decimal y) × (y ≤ most)) k.0 ((read_decimal cs x [] p).0 ∙ append-nil (decimal x), k.1)
    go (Number x (r ∷ rs)) p = refused_got (simp (p, whole_number) at h)
    go (NoNumber rs) p = refused_got (simp (p, whole_number) at h)

pub whole_expr_spelt : (n : ℕ) (e : Expr) → levels e ≤ base.levels → Below 100 e → whole_expr n (spelling e) ≡ Got e
unfolding whole_expr
whole_expr_spelt n e h b =
    let whole = ap (read_expr base.levels) (sym (append-nil (spelling e))) ∙ spelling_read e base.levels [] h b tt in simp (whole, whole_expr)

pub whole_expr_got : (n : ℕ) (cs : List ℕ) (e : Expr) → whole_expr n cs ≡ Got e → (cs ≡ spelling e) × (levels e ≤ base.levels) × Below 100 e
unfolding whole_expr
whole_expr_got n cs e h = go (read_expr base.levels cs) refl
  where
    go : (r : Reading) → read_expr base.levels cs ≡ r → (cs ≡ spelling e) × (levels e ≤ base.levels) × Below 100 e
    go (Whole a []) p =
        let f : Got a ≡ Got e = simp (p, whole_expr) at h in
        let w = read_spelling base.levels cs a [] p in
        subst (λ (x : Expr). (cs ≡ spelling x) × (levels x ≤ base.levels) × Below 100 x) (got_eq f) (w.0 ∙ append-nil (spelling a), w.1, w.2)
    go (Whole a (r ∷ rs)) p = refused_got (simp (p, whole_expr) at h)
    go (Wrong rs) p = refused_got (simp (p, whole_expr) at h)
    go (Deep rs) p = refused_got (simp (p, whole_expr) at h)

-- ---- binary digits

binary_digit_lem : (c : ℕ) → (c ≡ 48) ⊎ (c ≡ 49) → (eqb c 48 || eqb c 49) ≡ true
binary_digit_lem c (inl e) = rw e
binary_digit_lem c (inr e) = rw e

digit_binary : (c : ℕ) → (eqb c 48 || eqb c 49) ≡ true → (c ≡ 48) ⊎ (c ≡ 49)
digit_binary c h = go (eqb c 48) refl h
  where
    go : (t : Bool) → eqb c 48 ≡ t → (t || eqb c 49) ≡ true → (c ≡ 48) ⊎ (c ≡ 49)
    go true e k = inl (eqb-true c 48 e)
    go false e k = inr (eqb-true c 49 k)

binary_next : (i k s c : ℕ) (cs : List ℕ) → (c ≡ 48) ⊎ (c ≡ 49) → read_binary i (suc k) s (c ∷ cs) ≡ read_binary (suc i) k (s + digit_value c * 2 ^ i) cs
unfolding read_binary
binary_next i k s c cs h = simp (binary_digit_lem c h, read_binary)

-- The binary digits of x from i on, behind its lower ones, are read as its lowest i + k.
binary_read_from : (i k x : ℕ) → read_binary i k (x % 2 ^ i) (binary_from i k x) ≡ some (x % 2 ^ (i + k))
unfolding binary_from read_binary
binary_read_from i zero x = let e : i ≡ i + 0 = omega arith in ap (λ (j : ℕ). some (x % 2 ^ j)) e
binary_read_from i (suc k) x =
    let d : 48 + bit x i - 48 ≡ bit x i = omega arith in
    let e : suc i + k ≡ i + suc k = omega arith in
    binary_next i k (x % 2 ^ i) (48 + bit x i) (binary_from (suc i) k x) (⊎_elim (λ z. inl (omega arith)) (λ z. inr (omega arith)) (bit_or_zero x i))
    ∙ ap (λ (s : ℕ). read_binary (suc i) k s (binary_from (suc i) k x)) (ap (λ (b : ℕ). x % 2 ^ i + b * 2 ^ i) d ∙ sym (mod_next x i))
    ∙ binary_read_from (suc i) k x
    ∙ ap (λ (j : ℕ). some (x % 2 ^ j)) e

-- A state's binary digits are read as that state.
pub binary_read : (k x : ℕ) → x < 2 ^ k → read_binary 0 k 0 (binary_from 0 k x) ≡ some x
binary_read k x h =
    let e : 0 ≡ x % 2 ^ 0 = sym (mod-one x) in
    let f : 0 + k ≡ k = omega arith in
    ap (λ (s : ℕ). read_binary 0 k s (binary_from 0 k x)) e ∙ binary_read_from 0 k x ∙ ap (λ (j : ℕ). some (x % 2 ^ j)) f ∙ ap some (mod-eq_of_lt h)

-- What is read as a state, behind digits that gave s, is the digits of that state from i on.
read_binary_from : (i k s : ℕ) (cs : List ℕ) (x : ℕ) → s < 2 ^ i → read_binary i k s cs ≡ some x → (cs ≡ binary_from i k x) × (x % 2 ^ i ≡ s) × (x < 2 ^ (i + k))
unfolding read_binary binary_from
read_binary_from i zero s [] x h e =
    let same : s ≡ x = some_eq e in
    let f : i ≡ i + 0 = omega arith in
    (refl, ap (λ (y : ℕ). y % 2 ^ i) (sym same) ∙ mod-eq_of_lt h, subst (λ (j : ℕ). x < 2 ^ j) f (subst (λ (y : ℕ). y < 2 ^ i) same h))
read_binary_from i zero s (c ∷ cs) x h e = none_some e
read_binary_from i (suc k) s [] x h e = none_some e
read_binary_from i (suc k) s (c ∷ cs) x h e = go (eqb c 48 || eqb c 49) refl (read_binary_from (suc i) k (s + digit_value c * 2 ^ i) cs x)
  where
    value : (c ≡ 48) ⊎ (c ≡ 49) → (digit_value c ≡ 0) ⊎ (digit_value c ≡ 1)
    value (inl p) = inl (omega arith)
    value (inr p) = inr (omega arith)

    fits : (d : ℕ) → (d ≡ 0) ⊎ (d ≡ 1) → s + d * 2 ^ i < 2 ^ suc i
    fits d (inl p) = rw p (omega arith)
    fits d (inr p) = rw p (omega arith)

    go : (t : Bool)
        → (eqb c 48 || eqb c 49) ≡ t
        → (s + digit_value c * 2 ^ i < 2 ^ suc i → read_binary (suc i) k (s + digit_value c * 2 ^ i) cs ≡ some x → (cs ≡ binary_from (suc i) k x) × (x % 2 ^ suc i ≡ s + digit_value c * 2 ^ i) × (x < 2 ^ (suc i + k)))
        → (c ∷ cs ≡ (48 + bit x i) ∷ binary_from (suc i) k x) × (x % 2 ^ i ≡ s) × (x < 2 ^ (i + suc k))
    go true p f =
        let b = digit_binary c p in
        let r = f (fits (digit_value c) (value b)) (sym (binary_next i k s c cs b) ∙ e) in
        let same = digits_same (2 ^ i) (x % 2 ^ i) s (bit x i) (digit_value c) (mod-lt x (pow_pos i)) h (bit_or_zero x i) (value b) (sym (mod_next x i) ∙ r.1) in
        let first : c ≡ 48 + bit x i = ⊎_elim (λ z. omega (arith, same.1, z)) (λ z. omega (arith, same.1, z)) b in
        let more : suc i + k ≡ i + suc k = omega arith in
        (ap₂ (λ (y : ℕ) (l : List ℕ). y ∷ l) first r.0, same.0, subst (λ (j : ℕ). x < 2 ^ j) more r.2)
    go false p f = none_some (simp (p, read_binary) at e)

pub read_binary_lem : (k : ℕ) (cs : List ℕ) (x : ℕ) → read_binary 0 k 0 cs ≡ some x → (cs ≡ binary_from 0 k x) × (x < 2 ^ k)
read_binary_lem k cs x e = let r = read_binary_from 0 k 0 cs x (pow_pos 0) e in let f : 0 + k ≡ k = omega arith in (r.0, subst (λ (j : ℕ). x < 2 ^ j) f r.2)
