-- Laws of the reader of one expression.
use mathlib.Core.Path.{◌≡◌, refl, sym, ap, ◌∙◌, subst}
use mathlib.Core.Logic.{by_cases}
use mathlib.Core.Bool.{Bool, true, false, ◌||◌}
use mathlib.Core.List.{List, [], ◌∷◌, ◌++◌}
use Prim.Native.Nat.{ℕ, zero, suc, ◌+◌, ◌-◌, ◌*◌, ◌/◌, ◌%◌, ◌^◌, ◌<◌, ◌≤◌}
use native.Mathlib.Omega.{arith}
use native.Mathlib.Nat.{mod-eq_of_lt, zero-add, div-div-eq-div-mul, pow-suc, pow-succ'}
use native.Mathlib.Decide.{dec_lt, ℕ_discrete}
use lib.Dec.{ltb, leb}
use lib.Pow.{pow_pos, pow-lt}
use lib.Bits.{or_zero_l}
use lib.Count.{count_trailing_zeros, under}
use lib.ListN.{length, take, drop, get_or, set, length-append, length-drop, length-set, get_or-eq_default}
use lib.Seq.{drop-drop, drop-append_seam, set_out, take-length}
use borrow.Author.Tests.{lt-ltb, le-ltb}
use Rattle.std.specs.Prelude.{Option, Some, None, Result, Ok, Err}
use Rattle.lists.specs.Lists.{splice}
use Rattle.lists.proofs.Laws.{splice_nothing, splice-splice, set-splice}
use Rattle.sets.specs.Sets.{only, union, lowest_of}
use Rattle.sets.proofs.Laws.{union_assoc}
use Rattle.logic.specs.Expressions.{Expr, Op1, Op2, Var, One, Two, nodes, written, temporal, node1, node2, code}
use Rattle.frames.specs.Hex.{byte_of}
use Rattle.frames.specs.Read.{Sign, Leaf, Before, Between, NoSign, signs, sign_of, signed, levelled, begins, read_expr, kind_of}
use Rattle.decks.specs.Readings.{Reading, Whole, Wrong, Deep, onward}
use Rattle.codes.specs.Steps.{places_of, leaf_vars, step_of, node_of, nodes_of, Kept}
use Rattle.codes.specs.declared.Read.{Read}
use Rattle.codes.specs.declared.Stop.{Stop}
use Rattle.codes.specs.declared.Stop.TheVariants.{Wrong as StopWrong, Deep as StopDeep}
use Rattle.lines.specs.Numbers.{pair_read}
use Rattle.lines.proofs.Laws.{kind_short, some_below, none_below, two_kind}

-- ---- codes

-- What holds of each variable, of each code from 64 to 73 and of each number behind them holds of every number.
code_cases : (P : ℕ → Type 0)
    → ((v : ℕ) → v < 64 → P v)
    → P 64
    → P 65
    → P 66
    → P 67
    → P 68
    → P 69
    → P 70
    → P 71
    → P 72
    → P 73
    → ((b : ℕ) → 74 ≤ b → P b)
    → (b : ℕ) → P b
code_cases P low p0 p1 p2 p3 p4 p5 p6 p7 p8 p9 high b = go (dec_lt b 64)
  where
    from : (i : ℕ) → P (64 + i)
    from zero = p0
    from (suc zero) = p1
    from (suc (suc zero)) = p2
    from (suc (suc (suc zero))) = p3
    from (suc (suc (suc (suc zero)))) = p4
    from (suc (suc (suc (suc (suc zero))))) = p5
    from (suc (suc (suc (suc (suc (suc zero)))))) = p6
    from (suc (suc (suc (suc (suc (suc (suc zero))))))) = p7
    from (suc (suc (suc (suc (suc (suc (suc (suc zero)))))))) = p8
    from (suc (suc (suc (suc (suc (suc (suc (suc (suc zero))))))))) = p9
    from (suc (suc (suc (suc (suc (suc (suc (suc (suc (suc i)))))))))) = high (64 + suc (suc (suc (suc (suc (suc (suc (suc (suc (suc i)))))))))) (omega arith)

    go : Dec (b < 64) → P b
    go (yes h) = low b h
    go (no n) = let e : 64 + (b - 64) ≡ b = omega arith in subst P e (from (b - 64))

sign_var : (v : ℕ) → v < 64 → sign_of v ≡ Leaf (Var v)
unfolding sign_of
sign_var v h = simp (lt-ltb v 64 h, sign_of)

sign_none : (b : ℕ) → 74 ≤ b → sign_of b ≡ NoSign
unfolding sign_of
sign_none b h =
    let low : 64 ≤ b = omega arith in
    let chosen : sign_of b ≡ get_or signs (b - 64) NoSign = simp (le-ltb b 64 low, sign_of) in
    chosen ∙ get_or-eq_default signs NoSign {n = b - 64} (omega arith)

or_temporal : (a b : Expr) → elim (temporal a) [ true ↦ true | false ↦ temporal b ] ≡ temporal a || temporal b
or_temporal a b = go (temporal a)
  where
    go : (t : Bool) → elim t [ true ↦ true | false ↦ temporal b ] ≡ t || temporal b
    go true = refl
    go false = refl

-- What a code says of the expressions that begin with it.
abbrev Begun : ℕ → Sign → Type 0
Begun b (Leaf e) = (nodes e ≡ 1) × (written e ≡ leaf_vars b) × (temporal e ≡ false) × (code e ≡ node_of b ∷ [])
Begun b (Before o) = (node1 o ≡ node_of b) × ((e : Expr) → temporal (One o e) ≡ leb 69 b || temporal e)
Begun b (Between o) = (node2 o ≡ node_of b) × ((e f : Expr) → temporal (Two o e f) ≡ leb 69 b || (temporal e || temporal f))
Begun b NoSign = Unit

code-begun : (b : ℕ) → Begun b (sign_of b)
unfolding sign_of leaf_vars node_of nodes written temporal code
code-begun =
    code_cases
    (λ b. Begun b (sign_of b))
    (λ v h. subst (Begun v) (sym (sign_var v h)) (refl, sym (simp (lt-ltb v 64 h, leaf_vars)), refl, ap (λ (n : ℕ). n ∷ []) (sym (simp (lt-ltb v 64 h, node_of)))))
    (refl, refl, refl, refl)
    (refl, refl, refl, refl)
    (refl, λ e. refl)
    (refl, or_temporal)
    (refl, or_temporal)
    (refl, λ e. refl)
    (refl, λ e. refl)
    (refl, λ e. refl)
    (refl, λ e f. refl)
    (refl, λ e f. refl)
    (λ b h. subst (Begun b) (sym (sign_none b h)) tt)

-- The operands of a sign, by its code.
unfoldable places_at : ℕ → Option ℕ
places_at b =
    elim (ltb b 66) [
      | true ↦ Some 0
      | false ↦ elim (ltb b 67) [ true ↦ Some 1 | false ↦ elim (ltb b 69) [ true ↦ Some 2 | false ↦ elim (ltb b 72) [ true ↦ Some 1 | false ↦ elim (ltb b 74) [ true ↦ Some 2 | false ↦ None ] ] ] ]
    ]

places_at_lem : (b : ℕ) → places_at b ≡ places_of (sign_of b)
unfolding sign_of places_at
places_at_lem =
    code_cases
    (λ b. places_at b ≡ places_of (sign_of b))
    (λ v h. let k : v < 66 = omega arith in let z : places_at v ≡ Some 0 = simp (lt-ltb v 66 k, places_at) in z ∙ sym (ap places_of (sign_var v h)))
    refl refl refl refl refl refl refl refl refl refl
    (λ b h.
    let h6 : 66 ≤ b = omega arith in
    let h7 : 67 ≤ b = omega arith in
    let h9 : 69 ≤ b = omega arith in
    let h2 : 72 ≤ b = omega arith in
    let z : places_at b ≡ None = simp (le-ltb b 66 h6, le-ltb b 67 h7, le-ltb b 69 h9, le-ltb b 72 h2, le-ltb b 74 h, places_at) in
    z ∙ sym (ap places_of (sign_none b h)))

module _ (b : ℕ) where
  pub places_leaf : b ≤ 65 → Some 0 ≡ places_of (sign_of b)
  unfolding places_at
  places_leaf h = let i : b < 66 = omega arith in let z : places_at b ≡ Some 0 = simp (lt-ltb b 66 i, places_at) in sym z ∙ places_at_lem b

  pub places_not : b ≡ 66 → Some 1 ≡ places_of (sign_of b)
  unfolding places_at
  places_not h = let z : places_at 66 ≡ Some 1 = refl in sym z ∙ ap places_at (sym h) ∙ places_at_lem b

  pub places_and : 67 ≤ b → b ≤ 68 → Some 2 ≡ places_of (sign_of b)
  unfolding places_at
  places_and h i = let h6 : 66 ≤ b = omega arith in let h9 : b < 69 = omega arith in let z : places_at b ≡ Some 2 = simp (le-ltb b 66 h6, le-ltb b 67 h, lt-ltb b 69 h9, places_at) in sym z ∙ places_at_lem b

  pub places_next : 69 ≤ b → b ≤ 71 → Some 1 ≡ places_of (sign_of b)
  unfolding places_at
  places_next h i = let h6 : 66 ≤ b = omega arith in let h7 : 67 ≤ b = omega arith in let h2 : b < 72 = omega arith in let z : places_at b ≡ Some 1 = simp (le-ltb b 66 h6, le-ltb b 67 h7, le-ltb b 69 h, lt-ltb b 72 h2, places_at) in sym z ∙ places_at_lem b

  pub places_until : 72 ≤ b → b ≤ 73 → Some 2 ≡ places_of (sign_of b)
  unfolding places_at
  places_until h i = let h6 : 66 ≤ b = omega arith in let h7 : 67 ≤ b = omega arith in let h9 : 69 ≤ b = omega arith in let h4 : b < 74 = omega arith in let z : places_at b ≡ Some 2 = simp (le-ltb b 66 h6, le-ltb b 67 h7, le-ltb b 69 h9, le-ltb b 72 h, lt-ltb b 74 h4, places_at) in sym z ∙ places_at_lem b

  pub places_none : 74 ≤ b → None ≡ places_of (sign_of b)
  places_none h = sym (ap places_of (sign_none b h))

  pub vars-variable : (r : ℕ) → b < 64 → r ≡ only b % 2 ^ 64 → r ≡ leaf_vars b
  unfolding leaf_vars
  vars-variable r h e = let z : leaf_vars b ≡ only b = simp (lt-ltb b 64 h, leaf_vars) in e ∙ mod-eq_of_lt (pow-lt h) ∙ sym z

  pub vars_none : 64 ≤ b → 0 ≡ leaf_vars b
  unfolding leaf_vars
  vars_none h = let z : leaf_vars b ≡ 0 = simp (le-ltb b 64 h, leaf_vars) in sym z

  pub node_variable : b < 64 → b ≡ node_of b
  unfolding node_of
  node_variable h = let z : node_of b ≡ b = simp (lt-ltb b 64 h, node_of) in sym z

  pub node_sign : 64 ≤ b → b - 64 + 256 ≡ node_of b
  unfolding node_of
  node_sign h = let z : node_of b ≡ b - 64 + 256 = simp (le-ltb b 64 h, node_of) in sym z

-- ---- what a sign begins

module _ {A : Type 0} (f : Sign → List ℕ → A) where
  signed_is : (cs : List ℕ) → signed cs f ≡ f (sign_of (kind_of cs)) (drop 2 cs)
  unfolding kind_of sign_of
  signed_is [] = refl
  signed_is (c ∷ []) = refl
  signed_is (c ∷ d ∷ cs) = refl

sign_long : (cs : List ℕ) → (sign_of (kind_of cs) ≡ NoSign → ⊥) → 2 ≤ length cs
unfolding kind_of sign_of
sign_long [] n = absurd (n refl)
sign_long (c ∷ []) n = absurd (n refl)
sign_long (c ∷ d ∷ cs) n = omega arith

read_none : (left : ℕ) (cs : List ℕ) → sign_of (kind_of cs) ≡ NoSign → read_expr left cs ≡ Wrong cs
unfolding read_expr
read_none zero cs e = signed_is (levelled cs) cs ∙ ap (λ (s : Sign). levelled cs s (drop 2 cs)) e
read_none (suc left) cs e = signed_is (begins (read_expr left) cs) cs ∙ ap (λ (s : Sign). begins (read_expr left) cs s (drop 2 cs)) e

read_deep : (cs : List ℕ) → (sign_of (kind_of cs) ≡ NoSign → ⊥) → read_expr 0 cs ≡ Deep cs
unfolding read_expr
read_deep cs n = signed_is (levelled cs) cs ∙ go (sign_of (kind_of cs)) n
  where
    go : (s : Sign) → (s ≡ NoSign → ⊥) → levelled cs s (drop 2 cs) ≡ Deep cs
    go (Leaf e) n = refl
    go (Before o) n = refl
    go (Between o) n = refl
    go NoSign n = absurd (n refl)

read_begins : (left : ℕ) (cs : List ℕ) (s : Sign) → sign_of (kind_of cs) ≡ s → read_expr (suc left) cs ≡ begins (read_expr left) cs s (drop 2 cs)
unfolding read_expr
read_begins left cs s e = signed_is (begins (read_expr left) cs) cs ∙ ap (λ (t : Sign). begins (read_expr left) cs t (drop 2 cs)) e

-- ---- what a whole expression takes of the pairs

nodes_of_add : (m k : ℕ) (cs : List ℕ) → nodes_of (m + k) cs ≡ nodes_of m cs ++ nodes_of k (drop (2 * m) cs)
unfolding nodes_of
nodes_of_add zero k cs = ap (λ (n : ℕ). nodes_of n cs) (zero-add k)
nodes_of_add (suc m) k cs =
    let e : suc m + k ≡ suc (m + k) = omega arith in
    let f : 2 + 2 * m ≡ 2 * suc m = omega arith in
    ap (λ (n : ℕ). nodes_of n cs) e
    ∙ ap (λ (l : List ℕ). node_of (kind_of cs) ∷ l) (nodes_of_add m k (drop 2 cs) ∙ ap (λ (l : List ℕ). nodes_of m (drop 2 cs) ++ nodes_of k l) (drop-drop (2 * m) 2 cs ∙ ap (λ (n : ℕ). drop n cs) f))

-- A whole expression takes two characters for each node, and these give its code.
pub record Spans (cs : List ℕ) (e : Expr) (rest : List ℕ) : Type 0 where
  pub room : 2 * nodes e ≤ length cs
  pub rest_is : rest ≡ drop (2 * nodes e) cs
  pub code_is : nodes_of (nodes e) cs ≡ code e

abbrev Spanned : List ℕ → Reading → Type 0
Spanned cs (Whole e rest) = Spans cs e rest
Spanned cs (Wrong rest) = Unit
Spanned cs (Deep rest) = Unit

through : (cs ds : List ℕ) (r : Reading) (f : Expr → List ℕ → Reading) → Spanned cs r → ((e : Expr) (rest : List ℕ) → Spans cs e rest → Spanned ds (f e rest)) → Spanned ds (onward r f)
through cs ds (Whole e rest) f s g = g e rest s
through cs ds (Wrong rest) f s g = tt
through cs ds (Deep rest) f s g = tt

module _ (cs : List ℕ) where
  leaf_spans : (e : Expr) → sign_of (kind_of cs) ≡ Leaf e → Spans cs e (drop 2 cs)
  unfolding nodes_of
  leaf_spans e q =
      let b : Begun (kind_of cs) (Leaf e) = subst (Begun (kind_of cs)) q (code-begun (kind_of cs)) in
      let long : 2 ≤ length cs = sign_long cs (λ n. absurd (apart (sym n ∙ q))) in
      let two : 2 ≡ 2 * nodes e = omega (arith, b.0) in
      record {
        room = omega (arith, b.0);
        rest_is = ap (λ (n : ℕ). drop n cs) two;
        code_is = ap (λ (n : ℕ). nodes_of n cs) b.0 ∙ sym b.3;
      }
    where
      apart : NoSign ≡ Leaf e → ⊥
      apart n = cc

  one_spans : (o : Op1) (e : Expr) (rest : List ℕ) → sign_of (kind_of cs) ≡ Before o → Spans (drop 2 cs) e rest → Spans cs (One o e) rest
  unfolding nodes code nodes_of
  one_spans o e rest q s =
      let b : Begun (kind_of cs) (Before o) = subst (Begun (kind_of cs)) q (code-begun (kind_of cs)) in
      let long : 2 ≤ length cs = sign_long cs (λ n. absurd (apart (sym n ∙ q))) in
      let two : 2 + 2 * nodes e ≡ 2 * (1 + nodes e) = omega arith in
      let more : 1 + nodes e ≡ suc (nodes e) = omega arith in
      record {
        room = omega (arith, s.room, length-drop 2 cs);
        rest_is = s.rest_is ∙ drop-drop (2 * nodes e) 2 cs ∙ ap (λ (n : ℕ). drop n cs) two;
        code_is = ap (λ (n : ℕ). nodes_of n cs) more ∙ ap (λ (l : List ℕ). node_of (kind_of cs) ∷ l) s.code_is ∙ ap (λ (n : ℕ). n ∷ code e) (sym b.0);
      }
    where
      apart : NoSign ≡ Before o → ⊥
      apart n = cc

  two_spans : (o : Op2) (e f : Expr) (mid rest : List ℕ) → sign_of (kind_of cs) ≡ Between o → Spans (drop 2 cs) e mid → Spans mid f rest → Spans cs (Two o e f) rest
  unfolding nodes code nodes_of
  two_spans o e f mid rest q s t =
      let b : Begun (kind_of cs) (Between o) = subst (Begun (kind_of cs)) q (code-begun (kind_of cs)) in
      let long : 2 ≤ length cs = sign_long cs (λ n. absurd (apart (sym n ∙ q))) in
      let middle : length mid ≡ length cs - 2 - 2 * nodes e = ap (λ (l : List ℕ). length l) s.rest_is ∙ omega (arith, length-drop (2 * nodes e) (drop 2 cs), length-drop 2 cs) in
      let two : 2 + 2 * nodes e + 2 * nodes f ≡ 2 * (1 + (nodes e + nodes f)) = omega arith in
      let more : 1 + (nodes e + nodes f) ≡ suc (nodes e + nodes f) = omega arith in
      record {
        room = omega (arith, s.room, t.room, length-drop 2 cs, middle);
        rest_is = t.rest_is ∙ ap (drop (2 * nodes f)) (s.rest_is ∙ drop-drop (2 * nodes e) 2 cs) ∙ drop-drop (2 * nodes f) (2 + 2 * nodes e) cs ∙ ap (λ (n : ℕ). drop n cs) two;
        code_is = ap (λ (n : ℕ). nodes_of n cs) more ∙ ap (λ (l : List ℕ). node_of (kind_of cs) ∷ l) (nodes_of_add (nodes e) (nodes f) (drop 2 cs) ∙ ap (λ (l : List ℕ). l ++ nodes_of (nodes f) (drop (2 * nodes e) (drop 2 cs))) s.code_is ∙ ap (λ (l : List ℕ). code e ++ nodes_of (nodes f) l) (sym s.rest_is) ∙ ap (λ (l : List ℕ). code e ++ l) t.code_is) ∙ ap (λ (n : ℕ). n ∷ (code e ++ code f)) (sym b.0);
      }
    where
      apart : NoSign ≡ Between o → ⊥
      apart n = cc

spanned : (left : ℕ) (cs : List ℕ) → Spanned cs (read_expr left cs)
spanned zero cs = go (sign_of (kind_of cs)) refl
  where
    deep : (sign_of (kind_of cs) ≡ NoSign → ⊥) → Spanned cs (read_expr 0 cs)
    deep n = subst (Spanned cs) (sym (read_deep cs n)) tt

    go : (s : Sign) → sign_of (kind_of cs) ≡ s → Spanned cs (read_expr 0 cs)
    go (Leaf e) q = deep (λ n. let z = sym n ∙ q in cc)
    go (Before o) q = deep (λ n. let z = sym n ∙ q in cc)
    go (Between o) q = deep (λ n. let z = sym n ∙ q in cc)
    go NoSign q = subst (Spanned cs) (sym (read_none 0 cs q)) tt
spanned (suc left) cs = go (spanned left) (sign_of (kind_of cs)) refl
  where
    go : ((ds : List ℕ) → Spanned ds (read_expr left ds)) → (s : Sign) → sign_of (kind_of cs) ≡ s → Spanned cs (read_expr (suc left) cs)
    go h (Leaf e) q = subst (Spanned cs) (sym (read_begins left cs (Leaf e) q)) (leaf_spans cs e q)
    go h (Before o) q =
        subst
        (Spanned cs)
        (sym (read_begins left cs (Before o) q))
        (through (drop 2 cs) cs (read_expr left (drop 2 cs)) (λ a rest. Whole (One o a) rest) (h (drop 2 cs)) (λ a rest s. one_spans cs o a rest q s))
    go h (Between o) q =
        subst
        (Spanned cs)
        (sym (read_begins left cs (Between o) q))
        (through (drop 2 cs) cs (read_expr left (drop 2 cs)) (λ a rest. onward (read_expr left rest) (λ b last. Whole (Two o a b) last)) (h (drop 2 cs))
        (λ a mid s. through mid cs (read_expr left mid) (λ b last. Whole (Two o a b) last) (h mid) (λ b last t. two_spans cs o a b mid last q s t)))
    go h NoSign q = subst (Spanned cs) (sym (read_none (suc left) cs q)) tt

pub whole-spans : (left : ℕ) (cs : List ℕ) (e : Expr) (rest : List ℕ) → read_expr left cs ≡ Whole e rest → Spans cs e rest
whole-spans left cs e rest q = subst (Spanned cs) q (spanned left cs)

-- ---- the steps of the reader

-- What a whole expression, one that stopped wrong and one that stopped too deep answer.
abbrev pub whole_step : ℕ → ℕ → ℕ → Bool → Result Read Stop
whole_step next n v t = Ok (record { written = record { nodes = n; vars = v; temporal = t }; next = next })

-- A reading that did not stop is whole.
pub whole_when : (n : ℕ) (a : Read) (r : Reading) → Ok a ≡ step_of n r → (e : Expr) × (rest : List ℕ) × (r ≡ Whole e rest)
whole_when n a (Whole e cs) p = (e, cs, refl)
whole_when n a (Wrong cs) p = cc
whole_when n a (Deep cs) p = cc

read_eq : (a b : Read) → ◌≡◌ {A = Result Read Stop} (Ok a) (Ok b) → a ≡ b
read_eq a b e = cc

-- Where a whole expression ends, what is left begins.
pub whole_next : (l : List ℕ) (at left : ℕ) (a : Read) (e : Expr) (rest : List ℕ) → at ≤ length l → Ok a ≡ step_of (length l) (read_expr left (drop at l)) → read_expr left (drop at l) ≡ Whole e rest → (a.next ≡ at + 2 * nodes e) × (a.next ≤ length l) × (rest ≡ drop a.next l)
whole_next l at left a e rest h p q =
    let s : Spans (drop at l) e rest = whole-spans left (drop at l) e rest q in
    let r : rest ≡ drop (at + 2 * nodes e) l = s.rest_is ∙ drop-drop (2 * nodes e) at l in
    let same : a ≡ record { written = record { nodes = nodes e; vars = written e; temporal = temporal e }; next = length l - length rest } = read_eq _ _ (p ∙ ap (step_of (length l)) q) in
    let n : a.next ≡ length l - length rest = ap (λ (x : Read). x.next) same in
    let i : a.next ≡ at + 2 * nodes e = n ∙ omega (arith, s.room, ap (λ (x : List ℕ). length x) r, length-drop at l, length-drop (at + 2 * nodes e) l) in
    (i, omega (arith, i, s.room, length-drop at l), r ∙ ap (λ (x : ℕ). drop x l) (sym i))

-- ---- the operands to come

-- A level before others, where the digit is set.
abbrev due : ℕ → ℕ → List ℕ → List ℕ
due zero l ls = ls
due (suc b) l ls = l ∷ ls

-- The levels left for the operands to come: digit j of the word's d digits is set where the sign j + 1 levels up has its second operand to come; l levels are left at hand.
unfoldable pub levels : ℕ → ℕ → ℕ → List ℕ
levels zero w l = []
levels (suc d) w l = due (w % 2) l (levels d (w / 2) (l + 1))

levels_none : (d l : ℕ) → levels d 0 l ≡ []
unfolding levels
levels_none zero l = refl
levels_none (suc d) l = levels_none d (l + 1)

levels_more : (d w b l : ℕ) → b < 2 → levels (suc d) (2 * w + b) l ≡ due b l (levels d w (l + 1))
unfolding levels
levels_more d w b l h =
    let low : (2 * w + b) % 2 ≡ b = omega arith in
    let high : (2 * w + b) / 2 ≡ w = omega arith in
    ap (λ (x : ℕ). due x l (levels d ((2 * w + b) / 2) (l + 1))) low ∙ ap (λ (x : ℕ). due b l (levels d x (l + 1))) high

-- The nearest operand to come, z signs up.
record Nearest (d w l z : ℕ) : Type 0 where
  few : z < d
  some : 0 < w / 2 ^ z
  less : w / 2 ^ z - 1 < 2 ^ (d - z)
  levels_are : levels d w l ≡ (l + z) ∷ levels (d - z) (w / 2 ^ z - 1) (l + z)

nearest_here : (d w l : ℕ) → w % 2 ≡ 1 → w < 2 ^ suc d → Nearest (suc d) w l 0
unfolding levels
nearest_here d w l e h =
    let all : w / 2 ^ 0 ≡ w = omega arith in
    let down : w / 2 ^ 0 - 1 ≡ 2 * (w / 2) + 0 = omega (arith, all, e) in
    let same : l ≡ l + 0 = omega arith in
    let whole : suc d ≡ suc d - 0 = omega arith in
    record {
      few = omega arith;
      some = omega (arith, all, e);
      less = subst (λ (x : ℕ). w / 2 ^ 0 - 1 < 2 ^ x) whole (omega (arith, all, h));
      levels_are =
          ap (λ (x : ℕ). due x l (levels d (w / 2) (l + 1))) e
          ∙ ap (λ (x : List ℕ). l ∷ x) (sym (levels_more d (w / 2) 0 l (omega arith)) ∙ ap (λ (x : ℕ). levels (suc d) x l) (sym down))
          ∙ ap (λ (x : ℕ). x ∷ levels (suc d) (w / 2 ^ 0 - 1) x) same
          ∙ ap (λ (x : ℕ). (l + 0) ∷ levels x (w / 2 ^ 0 - 1) (l + 0)) whole;
    }

nearest_above : (d w l z : ℕ) → w % 2 ≡ 0 → Nearest d (w / 2) (l + 1) z → Nearest (suc d) w l (suc z)
unfolding levels
nearest_above d w l z e n =
    let part : w / 2 / 2 ^ z ≡ w / 2 ^ suc z = div-div-eq-div-mul w 2 (2 ^ z) ∙ ap (λ (x : ℕ). w / x) (sym (pow-succ' 2 z)) in
    let up : l + 1 + z ≡ l + suc z = omega arith in
    let left : d - z ≡ suc d - suc z = omega arith in
    record {
      few = omega (arith, n.few);
      some = rw (← part) n.some;
      less = subst (λ (x : ℕ). w / 2 ^ suc z - 1 < 2 ^ x) left (subst (λ (x : ℕ). x - 1 < 2 ^ (d - z)) part n.less);
      levels_are =
          ap (λ (x : ℕ). due x l (levels d (w / 2) (l + 1))) e
          ∙ n.levels_are
          ∙ ap (λ (x : ℕ). (l + 1 + z) ∷ levels (d - z) (x - 1) (l + 1 + z)) part
          ∙ ap (λ (x : ℕ). x ∷ levels (d - z) (w / 2 ^ suc z - 1) x) up
          ∙ ap (λ (x : ℕ). (l + suc z) ∷ levels x (w / 2 ^ suc z - 1) (l + suc z)) left;
    }

nearest : (k d w l : ℕ) → d ≤ k → w < 2 ^ d → (w ≡ 0 → ⊥) → Nearest d w l (count_trailing_zeros k w)
unfolding count_trailing_zeros
nearest k zero w l h m n = absurd (n (omega arith))
nearest zero (suc d) w l h m n = absurd (omega arith)
nearest (suc k) (suc d) w l h m n =
    by_cases (ℕ_discrete (w % 2) 0)
    (λ e.
    let z : under (w % 2) (count_trailing_zeros k (w / 2)) ≡ suc (count_trailing_zeros k (w / 2)) = ap (λ (x : ℕ). under x (count_trailing_zeros k (w / 2))) e in
    subst (Nearest (suc d) w l) (sym z) (nearest_above d w l (count_trailing_zeros k (w / 2)) e (nearest k d (w / 2) (l + 1) (omega arith) (omega (arith, pow-suc 2 d)) (λ y. n (omega arith)))))
    (λ o.
    let e : w % 2 ≡ 1 = omega arith in
    let z : under (w % 2) (count_trailing_zeros k (w / 2)) ≡ 0 = ap (λ (x : ℕ). under x (count_trailing_zeros k (w / 2))) e in
    subst (Nearest (suc d) w l) (sym z) (nearest_here d w l e m))

-- ---- the reading so far, and what is still to be read

-- What a reading comes to, once it is known what a whole one comes to.
abbrev goes : (Expr → List ℕ → Result Read Stop) → ℕ → Reading → Result Read Stop
goes f n (Whole e rest) = f e rest
goes f n (Wrong rest) = Err (StopWrong (n - length rest))
goes f n (Deep rest) = Err (StopDeep (n - length rest))

goes_onward : (f : Expr → List ℕ → Result Read Stop) (n : ℕ) (r : Reading) (g : Expr → List ℕ → Reading) → goes f n (onward r g) ≡ goes (λ e rest. goes f n (g e rest)) n r
goes_onward f n (Whole e rest) g = refl
goes_onward f n (Wrong rest) g = refl
goes_onward f n (Deep rest) g = refl

goes_same : (f g : Expr → List ℕ → Result Read Stop) (n : ℕ) (r : Reading) → ((e : Expr) (rest : List ℕ) → f e rest ≡ g e rest) → goes f n r ≡ goes g n r
goes_same f g n (Whole e rest) h = h e rest
goes_same f g n (Wrong rest) h = refl
goes_same f g n (Deep rest) h = refl

-- The answer in a line of n characters, behind k nodes with the variables v, where an expression of each of these levels is still to be read, one behind the other.
unfoldable pub reads : ℕ → List ℕ → List ℕ → ℕ → ℕ → Bool → Result Read Stop
reads n [] cs k v t = whole_step (n - length cs) k v t
reads n (l ∷ ls) cs k v t = goes (λ e rest. reads n ls rest (k + nodes e) (union v (written e)) (t || temporal e)) n (read_expr l cs)

or_false : (t : Bool) → t || false ≡ t
or_false true = refl
or_false false = refl

pub or_here : (a t : Bool) → a ≡ true → a ≡ a || t
or_here true t h = refl
or_here false t h = cc

pub or_there : (a t : Bool) → a ≡ false → t ≡ a || t
or_there true t h = cc
or_there false t h = refl

or_swap : (t u x : Bool) → t || (u || x) ≡ (u || t) || x
or_swap true true x = refl
or_swap true false x = refl
or_swap false true x = refl
or_swap false false x = refl

or_assoc : (t x y : Bool) → t || (x || y) ≡ (t || x) || y
or_assoc true x y = refl
or_assoc false x y = refl

reads_alone : (n l : ℕ) (cs : List ℕ) → reads n (l ∷ []) cs 0 0 false ≡ step_of n (read_expr l cs)
unfolding reads
reads_alone n l cs = go (read_expr l cs)
  where
    go : (r : Reading) → goes (λ e rest. whole_step (n - length rest) (0 + nodes e) (union 0 (written e)) (false || temporal e)) n r ≡ step_of n r
    go (Whole e rest) = ap (λ (x : ℕ). whole_step (n - length rest) x (union 0 (written e)) (temporal e)) (zero-add (nodes e)) ∙ ap (λ (x : ℕ). whole_step (n - length rest) (nodes e) x (temporal e)) (or_zero_l (written e))
    go (Wrong rest) = refl
    go (Deep rest) = refl

module _ (n : ℕ) (ls cs : List ℕ) (k v : ℕ) (t : Bool) where
  reads_wrong : (l : ℕ) → sign_of (kind_of cs) ≡ NoSign → reads n (l ∷ ls) cs k v t ≡ Err (StopWrong (n - length cs))
  unfolding reads
  reads_wrong l q = ap (goes (λ e rest. reads n ls rest (k + nodes e) (union v (written e)) (t || temporal e)) n) (read_none l cs q)

  reads_deep : (sign_of (kind_of cs) ≡ NoSign → ⊥) → reads n (0 ∷ ls) cs k v t ≡ Err (StopDeep (n - length cs))
  unfolding reads
  reads_deep q = ap (goes (λ e rest. reads n ls rest (k + nodes e) (union v (written e)) (t || temporal e)) n) (read_deep cs q)

  reads_leaf : (l : ℕ) (e : Expr) → sign_of (kind_of cs) ≡ Leaf e → reads n (suc l ∷ ls) cs k v t ≡ reads n ls (drop 2 cs) (k + 1) (union v (leaf_vars (kind_of cs))) t
  unfolding reads
  reads_leaf l e q =
      let f : Begun (kind_of cs) (Leaf e) = subst (Begun (kind_of cs)) q (code-begun (kind_of cs)) in
      ap (goes (λ e rest. reads n ls rest (k + nodes e) (union v (written e)) (t || temporal e)) n) (read_begins l cs (Leaf e) q)
      ∙ ap (λ (x : ℕ). reads n ls (drop 2 cs) (k + x) (union v (written e)) (t || temporal e)) f.0
      ∙ ap (λ (x : ℕ). reads n ls (drop 2 cs) (k + 1) (union v x) (t || temporal e)) f.1
      ∙ ap (λ (x : Bool). reads n ls (drop 2 cs) (k + 1) (union v (leaf_vars (kind_of cs))) (t || x)) f.2
      ∙ ap (reads n ls (drop 2 cs) (k + 1) (union v (leaf_vars (kind_of cs)))) (or_false t)

  reads_one : (l : ℕ) (o : Op1) → sign_of (kind_of cs) ≡ Before o → reads n (suc l ∷ ls) cs k v t ≡ reads n (l ∷ ls) (drop 2 cs) (k + 1) v (leb 69 (kind_of cs) || t)
  unfolding reads nodes written
  reads_one l o q =
      let u : Bool = leb 69 (kind_of cs) in
      let f : Begun (kind_of cs) (Before o) = subst (Begun (kind_of cs)) q (code-begun (kind_of cs)) in
      let on : Expr → List ℕ → Result Read Stop = λ e rest. reads n ls rest (k + nodes e) (union v (written e)) (t || temporal e) in
      ap (goes on n) (read_begins l cs (Before o) q)
      ∙ goes_onward on n (read_expr l (drop 2 cs)) (λ a rest. Whole (One o a) rest)
      ∙ goes_same (λ a rest. on (One o a) rest) (λ a rest. reads n ls rest (k + 1 + nodes a) (union v (written a)) ((u || t) || temporal a)) n (read_expr l (drop 2 cs))
      (λ a rest.
      let more : k + (1 + nodes a) ≡ k + 1 + nodes a = omega arith in
      ap (λ (x : ℕ). reads n ls rest x (union v (written a)) (t || temporal (One o a))) more
      ∙ ap (reads n ls rest (k + 1 + nodes a) (union v (written a))) (ap (λ (x : Bool). t || x) (f.1 a) ∙ or_swap t u (temporal a)))

  reads_two : (l : ℕ) (o : Op2) → sign_of (kind_of cs) ≡ Between o → reads n (suc l ∷ ls) cs k v t ≡ reads n (l ∷ l ∷ ls) (drop 2 cs) (k + 1) v (leb 69 (kind_of cs) || t)
  unfolding reads nodes written
  reads_two l o q =
      let u : Bool = leb 69 (kind_of cs) in
      let f : Begun (kind_of cs) (Between o) = subst (Begun (kind_of cs)) q (code-begun (kind_of cs)) in
      let on : Expr → List ℕ → Result Read Stop = λ e rest. reads n ls rest (k + nodes e) (union v (written e)) (t || temporal e) in
      let then : Expr → Expr → List ℕ → Result Read Stop = λ a b last. reads n ls last (k + 1 + nodes a + nodes b) (union (union v (written a)) (written b)) (((u || t) || temporal a) || temporal b) in
      ap (goes on n) (read_begins l cs (Between o) q)
      ∙ goes_onward on n (read_expr l (drop 2 cs)) (λ a rest. onward (read_expr l rest) (λ b last. Whole (Two o a b) last))
      ∙ goes_same (λ a rest. goes on n (onward (read_expr l rest) (λ b last. Whole (Two o a b) last))) (λ a rest. goes (then a) n (read_expr l rest)) n (read_expr l (drop 2 cs))
      (λ a rest.
      goes_onward on n (read_expr l rest) (λ b last. Whole (Two o a b) last)
      ∙ goes_same (λ b last. on (Two o a b) last) (then a) n (read_expr l rest)
      (λ b last.
      let more : k + (1 + (nodes a + nodes b)) ≡ k + 1 + nodes a + nodes b = omega arith in
      let ever : t || temporal (Two o a b) ≡ ((u || t) || temporal a) || temporal b = ap (λ (x : Bool). t || x) (f.1 a b) ∙ or_swap t u (temporal a || temporal b) ∙ or_assoc (u || t) (temporal a) (temporal b) in
      ap (λ (x : ℕ). reads n ls last x (union v (union (written a) (written b))) (t || temporal (Two o a b))) more
      ∙ ap (λ (x : ℕ). reads n ls last (k + 1 + nodes a + nodes b) x (t || temporal (Two o a b))) (union_assoc v (written a) (written b))
      ∙ ap (reads n ls last (k + 1 + nodes a + nodes b) (union (union v (written a)) (written b))) ever))

some_eq : {a b : ℕ} → Some a ≡ Some b → a ≡ b
some_eq e = cc

module _ (b k : ℕ) where
  no_sign : None ≡ places_of (sign_of b) → sign_of b ≡ NoSign
  no_sign q = go (sign_of b) q
    where
      go : (s : Sign) → None ≡ places_of s → s ≡ NoSign
      go (Leaf e) r = cc
      go (Before o) r = cc
      go (Between o) r = cc
      go NoSign r = refl

  a_sign : Some k ≡ places_of (sign_of b) → sign_of b ≡ NoSign → ⊥
  a_sign p q = let z : Some k ≡ None = p ∙ ap places_of q in cc

  places_most : Some k ≡ places_of (sign_of b) → k ≤ 2
  places_most p = go (sign_of b) p
    where
      go : (s : Sign) → Some k ≡ places_of s → k ≤ 2
      go (Leaf e) r = let z : k ≡ 0 = cc in omega arith
      go (Before o) r = let z : k ≡ 1 = cc in omega arith
      go (Between o) r = let z : k ≡ 2 = cc in omega arith
      go NoSign r = cc

module _ (line : List ℕ) (at left i l w k v : ℕ) (t : Bool) where
  -- The answer on the whole is that on what is still to be read from the place i on, behind what was read.
  abbrev pub Sofar : Type 0
  Sofar = step_of (length line) (read_expr left (drop at line)) ≡ reads (length line) (l ∷ levels (left - l) w l) (drop i line) k v t

  place_is : i ≤ length line → length line - length (drop i line) ≡ i
  place_is h = omega (arith, length-drop i line)

  sofar_over : Sofar → i ≤ length line → length line ≤ i + 1 → Err (StopWrong i) ≡ step_of (length line) (read_expr left (drop at line))
  unfolding sign_of
  sofar_over s h o =
      let none : sign_of (kind_of (drop i line)) ≡ NoSign = ap sign_of (kind_short (drop i line) (omega (arith, length-drop i line))) in
      sym (s ∙ reads_wrong (length line) (levels (left - l) w l) (drop i line) k v t l none ∙ ap (λ (x : ℕ). Err (StopWrong x)) (place_is h))

  module _ (b p : ℕ) where
    sofar_wrong : Sofar → i ≤ length line → b ≡ kind_of (drop i line) → None ≡ places_of (sign_of b) → Err (StopWrong i) ≡ step_of (length line) (read_expr left (drop at line))
    sofar_wrong s h e q =
        sym (s ∙ reads_wrong (length line) (levels (left - l) w l) (drop i line) k v t l (ap sign_of (sym e) ∙ no_sign b p q) ∙ ap (λ (x : ℕ). Err (StopWrong x)) (place_is h))

    sofar_deep : Sofar → i ≤ length line → b ≡ kind_of (drop i line) → Some p ≡ places_of (sign_of b) → l ≡ 0 → Err (StopDeep i) ≡ step_of (length line) (read_expr left (drop at line))
    sofar_deep s h e q z =
        let none : (sign_of (kind_of (drop i line)) ≡ NoSign → ⊥) = λ n. a_sign b p q (ap sign_of e ∙ n) in
        sym
        (s
        ∙ ap (λ (x : ℕ). reads (length line) (x ∷ levels (left - l) w l) (drop i line) k v t) z
        ∙ reads_deep (length line) (levels (left - l) w l) (drop i line) k v t none
        ∙ ap (λ (x : ℕ). Err (StopDeep x)) (place_is h))

    -- A leaf: what comes next are the operands to come.
    leaf_read : (x u : ℕ) → Sofar → b ≡ kind_of (drop i line) → Some p ≡ places_of (sign_of b) → (l ≡ 0 → ⊥) → p ≡ 0 → x ≡ leaf_vars b → u ≡ union v x → step_of (length line) (read_expr left (drop at line)) ≡ reads (length line) (levels (left - l) w l) (drop (i + 2) line) (k + 1) u t
    leaf_read x u s e q m z f g = go (sign_of b) refl
      where
        go : (y : Sign) → sign_of b ≡ y → step_of (length line) (read_expr left (drop at line)) ≡ reads (length line) (levels (left - l) w l) (drop (i + 2) line) (k + 1) u t
        go (Leaf a) r =
            let more : l ≡ suc (l - 1) = omega arith in
            let vars : union v (leaf_vars (kind_of (drop i line))) ≡ u = ap (λ (y : ℕ). union v (leaf_vars y)) (sym e) ∙ ap (union v) (sym f) ∙ sym g in
            s
            ∙ ap (λ (y : ℕ). reads (length line) (y ∷ levels (left - l) w l) (drop i line) k v t) more
            ∙ reads_leaf (length line) (levels (left - l) w l) (drop i line) k v t (l - 1) a (ap sign_of (sym e) ∙ r)
            ∙ ap (λ (y : List ℕ). reads (length line) (levels (left - l) w l) y (k + 1) (union v (leaf_vars (kind_of (drop i line)))) t) (drop-drop 2 i line)
            ∙ ap (λ (y : ℕ). reads (length line) (levels (left - l) w l) (drop (i + 2) line) (k + 1) y t) vars
        go (Before o) r = let y : p ≡ 1 = some_eq (q ∙ ap places_of r) in absurd (omega arith)
        go (Between o) r = let y : p ≡ 2 = some_eq (q ∙ ap places_of r) in absurd (omega arith)
        go NoSign r = absurd (a_sign b p q r)

    sofar_whole : (x u : ℕ) → Sofar → i + 1 < length line → b ≡ kind_of (drop i line) → Some p ≡ places_of (sign_of b) → (l ≡ 0 → ⊥) → p ≡ 0 → x ≡ leaf_vars b → u ≡ union v x → w ≡ 0 → whole_step (i + 2) (k + 1) u t ≡ step_of (length line) (read_expr left (drop at line))
    unfolding reads
    sofar_whole x u s h e q m z f g o =
        let place : length line - length (drop (i + 2) line) ≡ i + 2 = omega (arith, length-drop (i + 2) line) in
        sym
        (leaf_read x u s e q m z f g
        ∙ ap (λ (y : ℕ). reads (length line) (levels (left - l) y l) (drop (i + 2) line) (k + 1) u t) o
        ∙ ap (λ (y : List ℕ). reads (length line) y (drop (i + 2) line) (k + 1) u t) (levels_none (left - l) l)
        ∙ ap (λ (y : ℕ). whole_step y (k + 1) u t) place)

    module _ (s : ℕ) where
      comes : l ≤ left → left ≤ 64 → w < 2 ^ (left - l) → (w ≡ 0 → ⊥) → s ≡ lowest_of w → Nearest (left - l) w l s
      comes h m j n e = subst (Nearest (left - l) w l) (sym e) (nearest 64 (left - l) w l (omega arith) j n)

      pub comes_some : l ≤ left → left ≤ 64 → w < 2 ^ (left - l) → (w ≡ 0 → ⊥) → s ≡ lowest_of w → 1 ≤ w / 2 ^ s
      comes_some h m j n e = (comes h m j n e).some

      comes_near : l ≤ left → left ≤ 64 → w < 2 ^ (left - l) → (w ≡ 0 → ⊥) → s ≡ lowest_of w → l + s ≤ left
      comes_near h m j n e = omega (arith, (comes h m j n e).few)

      left_less : left - l - s ≡ left - (l + s)
      left_less = omega arith

      comes_less : l ≤ left → left ≤ 64 → w < 2 ^ (left - l) → (w ≡ 0 → ⊥) → s ≡ lowest_of w → w / 2 ^ s - 1 < 2 ^ (left - (l + s))
      comes_less h m j n e = subst (λ (y : ℕ). w / 2 ^ s - 1 < 2 ^ y) left_less (comes h m j n e).less

      sofar_leaf : (x u : ℕ) → Sofar → b ≡ kind_of (drop i line) → Some p ≡ places_of (sign_of b) → (l ≡ 0 → ⊥) → p ≡ 0 → x ≡ leaf_vars b → u ≡ union v x → l ≤ left → left ≤ 64 → w < 2 ^ (left - l) → (w ≡ 0 → ⊥) → s ≡ lowest_of w → step_of (length line) (read_expr left (drop at line)) ≡ reads (length line) ((l + s) ∷ levels (left - (l + s)) (w / 2 ^ s - 1) (l + s)) (drop (i + 2) line) (k + 1) u t
      sofar_leaf x u r e q m z f g a d j n o =
          leaf_read x u r e q m z f g
          ∙ ap (λ (y : List ℕ). reads (length line) y (drop (i + 2) line) (k + 1) u t) (comes a d j n o).levels_are
          ∙ ap (λ (y : ℕ). reads (length line) ((l + s) ∷ levels y (w / 2 ^ s - 1) (l + s)) (drop (i + 2) line) (k + 1) u t) left_less

    -- A sign: its operands come next.
    sofar_less : (c : ℕ) → l ≤ left → (l ≡ 0 → ⊥) → w < 2 ^ (left - l) → Some p ≡ places_of (sign_of b) → (p ≡ 0 → ⊥) → c ≡ p - 1 → 2 * w + c < 2 ^ (left - (l - 1))
    sofar_less c h m j q z e =
        let more : left - (l - 1) ≡ suc (left - l) = omega arith in
        subst (λ (y : ℕ). 2 * w + c < 2 ^ y) (sym more) (omega (arith, pow-suc 2 (left - l), e, places_most b p q))

    sofar_sign : (c : ℕ) (a u : Bool) → Sofar → b ≡ kind_of (drop i line) → Some p ≡ places_of (sign_of b) → (l ≡ 0 → ⊥) → (p ≡ 0 → ⊥) → l ≤ left → a ≡ leb 69 b → u ≡ (a || t) → c ≡ p - 1 → step_of (length line) (read_expr left (drop at line)) ≡ reads (length line) ((l - 1) ∷ levels (left - (l - 1)) (2 * w + c) (l - 1)) (drop (i + 2) line) (k + 1) v u
    sofar_sign c a u s e q m z h f g d = go (sign_of b) refl
      where
        more : l ≡ suc (l - 1)
        more = omega arith

        ever : leb 69 (kind_of (drop i line)) || t ≡ u
        ever = ap (λ (y : ℕ). leb 69 y || t) (sym e) ∙ ap (λ (y : Bool). y || t) (sym f) ∙ sym g

        -- The levels behind the digit of the sign are those before it.
        behind : (y : ℕ) → c ≡ y → y < 2 → levels (left - (l - 1)) (2 * w + c) (l - 1) ≡ due y (l - 1) (levels (left - l) w l)
        behind y r o =
            let deeper : left - (l - 1) ≡ suc (left - l) = omega arith in
            let back : l - 1 + 1 ≡ l = omega arith in
            ap (λ (j : ℕ). levels (left - (l - 1)) (2 * w + j) (l - 1)) r
            ∙ ap (λ (j : ℕ). levels j (2 * w + y) (l - 1)) deeper
            ∙ levels_more (left - l) w y (l - 1) o
            ∙ ap (λ (j : ℕ). due y (l - 1) (levels (left - l) w j)) back

        begin : Sofar → step_of (length line) (read_expr left (drop at line)) ≡ reads (length line) (suc (l - 1) ∷ levels (left - l) w l) (drop i line) k v t
        begin r = r ∙ ap (λ (y : ℕ). reads (length line) (y ∷ levels (left - l) w l) (drop i line) k v t) more

        finish : (ls : List ℕ) → (levels (left - (l - 1)) (2 * w + c) (l - 1) ≡ ls) → reads (length line) ((l - 1) ∷ ls) (drop 2 (drop i line)) (k + 1) v (leb 69 (kind_of (drop i line)) || t) ≡ reads (length line) ((l - 1) ∷ levels (left - (l - 1)) (2 * w + c) (l - 1)) (drop (i + 2) line) (k + 1) v u
        finish ls r =
            ap (λ (y : List ℕ). reads (length line) ((l - 1) ∷ ls) y (k + 1) v (leb 69 (kind_of (drop i line)) || t)) (drop-drop 2 i line)
            ∙ ap (reads (length line) ((l - 1) ∷ ls) (drop (i + 2) line) (k + 1) v) ever
            ∙ ap (λ (y : List ℕ). reads (length line) ((l - 1) ∷ y) (drop (i + 2) line) (k + 1) v u) (sym r)

        go : (y : Sign) → sign_of b ≡ y → step_of (length line) (read_expr left (drop at line)) ≡ reads (length line) ((l - 1) ∷ levels (left - (l - 1)) (2 * w + c) (l - 1)) (drop (i + 2) line) (k + 1) v u
        go (Leaf x) r = absurd (z (some_eq (q ∙ ap places_of r)))
        go (Before o) r =
            let one : p ≡ 1 = some_eq (q ∙ ap places_of r) in
            let none : c ≡ 0 = omega arith in
            begin s ∙ reads_one (length line) (levels (left - l) w l) (drop i line) k v t (l - 1) o (ap sign_of (sym e) ∙ r) ∙ finish (levels (left - l) w l) (behind 0 none (omega arith))
        go (Between o) r =
            let two : p ≡ 2 = some_eq (q ∙ ap places_of r) in
            let one : c ≡ 1 = omega arith in
            begin s ∙ reads_two (length line) (levels (left - l) w l) (drop i line) k v t (l - 1) o (ap sign_of (sym e) ∙ r) ∙ finish ((l - 1) ∷ levels (left - l) w l) (behind 1 one (omega arith))
        go NoSign r = absurd (a_sign b p q r)

none_pending : (n : ℕ) → 0 < 2 ^ n
none_pending n = pow_pos n

-- Nothing was read, and the whole is still to be read.
sofar_begun : (line : List ℕ) (at left : ℕ) → Sofar line at left at left 0 0 0 false
unfolding levels
sofar_begun line at left =
    sym (ap (λ (y : List ℕ). reads (length line) (left ∷ y) (drop at line) 0 0 false) (levels_none (left - left) left) ∙ reads_alone (length line) left (drop at line))

-- ---- nodes stored

length-nodes_of : (n : ℕ) (cs : List ℕ) → length (nodes_of n cs) ≡ n
unfolding nodes_of
length-nodes_of zero cs = refl
length-nodes_of (suc n) cs = ap suc (length-nodes_of n (drop 2 cs))

nodes_of_next : (i : ℕ) (cs : List ℕ) → nodes_of (i + 1) cs ≡ nodes_of i cs ++ node_of (kind_of (drop (2 * i) cs)) ∷ []
unfolding nodes_of
nodes_of_next i cs = nodes_of_add i 1 cs

pub set_none : (l : List ℕ) (i x : ℕ) → length l ≤ i → l ≡ set l i x
set_none l i x h = sym (set_out l i x h)

module _ (line : List ℕ) (at used : ℕ) (was : List ℕ) where
  kept_none : Kept line at used 0 was was
  unfolding nodes_of
  kept_none = record { long = refl; nodes_are = λ h. sym (splice_nothing used was) }

  kept_next : (n i b v : ℕ) (out now : List ℕ) → Kept line at used n was out → i ≡ at + 2 * n → b ≡ kind_of (drop i line) → v ≡ node_of b → now ≡ set out (used + n) v → Kept line at used (n + 1) was now
  kept_next n i b v out now k e p q r = record { long = ap (λ (l : List ℕ). length l) r ∙ length-set out (used + n) v ∙ k.long; nodes_are = more }
    where
      more : used + (n + 1) ≤ length was → now ≡ splice used (nodes_of (n + 1) (drop at line)) was
      more h =
          let is : length (nodes_of n (drop at line)) ≡ n = length-nodes_of n (drop at line) in
          let place : at + 2 * n ≡ i = omega (arith, e) in
          let node : v ≡ node_of (kind_of (drop (2 * n) (drop at line))) = q ∙ ap node_of p ∙ ap (λ (l : List ℕ). node_of (kind_of l)) (sym (drop-drop (2 * n) at line ∙ ap (λ (j : ℕ). drop j line) place)) in
          let there : used + n ≡ used + length (nodes_of n (drop at line)) = omega (arith, is) in
          r
          ∙ set-splice out (used + n) v (omega (arith, k.long))
          ∙ ap (λ (x : ℕ). splice x (v ∷ []) out) there
          ∙ ap (splice (used + length (nodes_of n (drop at line))) (v ∷ [])) (k.nodes_are (omega arith))
          ∙ splice-splice used (nodes_of n (drop at line)) (v ∷ []) was (omega (arith, is))
          ∙ ap (λ (x : ℕ). splice used (nodes_of n (drop at line) ++ x ∷ []) was) node
          ∙ ap (λ (l : List ℕ). splice used l was) (sym (nodes_of_next n (drop at line)))

-- ---- the reader at a pair

-- What is so before each pair: what was read, what is still to be read, and the nodes kept.
pub record Going (line : List ℕ) (at left used : ℕ) (was out rest : List ℕ) (l w k v : ℕ) (t : Bool) : Type 0 where
  pub rest_is : rest ≡ drop (at + 2 * k) line
  pub within : at + 2 * k ≤ length line
  pub fewer : l ≤ left
  pub small : w < 2 ^ (left - l)
  pub kept : Kept line at used k was out
  pub sofar : Sofar line at left (at + 2 * k) l w k v t

module _ (line : List ℕ) (at left used : ℕ) (was : List ℕ) where
  pub going_begun : (rest : List ℕ) → at ≤ length line → rest ≡ take (length line - at) (drop at line) → Going line at left used was was rest left 0 0 0 false
  going_begun rest h e =
      let all : rest ≡ drop at line = e ∙ ap (λ (n : ℕ). take n (drop at line)) (sym (length-drop at line)) ∙ take-length (drop at line) in
      let here : at ≡ at + 2 * 0 = omega arith in
      record {
        rest_is = all ∙ ap (λ (n : ℕ). drop n line) here;
        within = omega arith;
        fewer = omega arith;
        small = none_pending (left - left);
        kept = kept_none line at used was;
        sofar = subst (λ (n : ℕ). Sofar line at left n left 0 0 0 false) here (sofar_begun line at left);
      }

module _ {line : List ℕ} {at left used : ℕ} {was out rest : List ℕ} {l w k v : ℕ} {t : Bool} (g : Going line at left used was out rest l w k v t) where
  pub going_over : length rest < 2 → Err (StopWrong (at + 2 * k)) ≡ step_of (length line) (read_expr left (drop at line))
  going_over h = sofar_over line at left (at + 2 * k) l w k v t g.sofar g.within (omega (arith, ap (λ (x : List ℕ). length x) g.rest_is, length-drop (at + 2 * k) line))

  module _ (two more : List ℕ) (e : rest ≡ two ++ more) (m : length two ≡ 2) where
    kind_here : byte_of (get_or two 0 0) (get_or two 1 0) ≡ kind_of (drop (at + 2 * k) line)
    kind_here = two_kind rest two more e m ∙ ap kind_of g.rest_is

    pub going_room : at + 2 * k + 2 ≤ length line
    going_room = omega (arith, g.within, ap (λ (x : List ℕ). length x) g.rest_is, length-drop (at + 2 * k) line, ap (λ (x : List ℕ). length x) e, length-append two more)

    further : at + 2 * k + 2 ≡ at + 2 * (k + 1)
    further = omega arith

    more_is : more ≡ drop (at + 2 * (k + 1)) line
    more_is =
        sym (drop-append_seam two more)
        ∙ ap (λ (n : ℕ). drop n (two ++ more)) m
        ∙ ap (drop 2) (sym e ∙ g.rest_is)
        ∙ drop-drop 2 (at + 2 * k) line
        ∙ ap (λ (n : ℕ). drop n line) further

    pub going_none : None ≡ pair_read (byte_of (get_or two 0 0) (get_or two 1 0)) → Err (StopWrong (at + 2 * k)) ≡ step_of (length line) (read_expr left (drop at line))
    going_none q =
        let high : 74 ≤ byte_of (get_or two 0 0) (get_or two 1 0) = omega (arith, none_below 256 (byte_of (get_or two 0 0) (get_or two 1 0)) q) in
        sofar_wrong line at left (at + 2 * k) l w k v t (byte_of (get_or two 0 0) (get_or two 1 0)) 0 g.sofar g.within kind_here (places_none (byte_of (get_or two 0 0) (get_or two 1 0)) high)

    module _ {b : ℕ} (q : Some b ≡ pair_read (byte_of (get_or two 0 0) (get_or two 1 0))) where
      code_here : b ≡ kind_of (drop (at + 2 * k) line)
      code_here = (some_below 256 (byte_of (get_or two 0 0) (get_or two 1 0)) b q).1 ∙ kind_here

      pub going_wrong : None ≡ places_of (sign_of b) → Err (StopWrong (at + 2 * k)) ≡ step_of (length line) (read_expr left (drop at line))
      going_wrong p = sofar_wrong line at left (at + 2 * k) l w k v t b 0 g.sofar g.within code_here p

      module _ {o : ℕ} (p : Some o ≡ places_of (sign_of b)) where
        pub going_deep : l ≡ 0 → Err (StopDeep (at + 2 * k)) ≡ step_of (length line) (read_expr left (drop at line))
        going_deep z = sofar_deep line at left (at + 2 * k) l w k v t b o g.sofar g.within code_here p z

        module _ {node : ℕ} {now : List ℕ} (nd : node ≡ node_of b) (st : now ≡ set out (used + k) node) (nz : l ≡ 0 → ⊥) where
          pub going_kept : Kept line at used (k + 1) was now
          going_kept = kept_next line at used was k (at + 2 * k) b node out now g.kept refl code_here nd st

          module _ (leaf : o ≡ 0) {x u : ℕ} (xl : x ≡ leaf_vars b) (us : u ≡ union v x) where
            pub going_whole : w ≡ 0 → whole_step (at + 2 * (k + 1)) (k + 1) u t ≡ step_of (length line) (read_expr left (drop at line))
            going_whole wz = ap (λ (n : ℕ). whole_step n (k + 1) u t) (sym further) ∙ sofar_whole line at left (at + 2 * k) l w k v t b o x u g.sofar (omega (arith, going_room)) code_here p nz leaf xl us wz

            pub going_leaf : {z : ℕ} → left ≤ 64 → (w ≡ 0 → ⊥) → z ≡ lowest_of w → Going line at left used was now more (l + z) (w / 2 ^ z - 1) (k + 1) u t
            going_leaf {z = z} few wn ze =
                record {
                  rest_is = more_is;
                  within = omega (arith, going_room);
                  fewer = comes_near line at left (at + 2 * k) l w k v t b o z g.fewer few g.small wn ze;
                  small = comes_less line at left (at + 2 * k) l w k v t b o z g.fewer few g.small wn ze;
                  kept = going_kept;
                  sofar = subst (λ (n : ℕ). Sofar line at left n (l + z) (w / 2 ^ z - 1) (k + 1) u t) further (sofar_leaf line at left (at + 2 * k) l w k v t b o z x u g.sofar code_here p nz leaf xl us g.fewer few g.small wn ze);
                }

          pub going_sign : {c : ℕ} {u : Bool} → (o ≡ 0 → ⊥) → u ≡ (leb 69 b || t) → c ≡ o - 1 → Going line at left used was now more (l - 1) (2 * w + c) (k + 1) v u
          going_sign {c = c} {u = u} on ue ce =
              record {
                rest_is = more_is;
                within = omega (arith, going_room);
                fewer = omega (arith, g.fewer);
                small = sofar_less line at left (at + 2 * k) l w k v t b o c g.fewer nz g.small p on ce;
                kept = going_kept;
                sofar = subst (λ (n : ℕ). Sofar line at left n (l - 1) (2 * w + c) (k + 1) v u) further (sofar_sign line at left (at + 2 * k) l w k v t b o c (leb 69 b) u g.sofar code_here p nz on g.fewer refl ue ce);
              }
