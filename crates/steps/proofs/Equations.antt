-- The marks that the equations leave, one after the other.
use mathlib.Core.Path.{◌≡◌, refl, sym, ap, ap₂, ◌∙◌}
use mathlib.Core.Logic.{◌⊎◌, inl, inr, by_cases}
use mathlib.Core.Bool.{Bool, true, false}
use mathlib.Core.List.{List, ◌∷◌}
use Prim.Native.Nat.{ℕ, ◌+◌, ◌-◌, ◌/◌, ◌%◌, ◌^◌, ◌<◌, ◌≤◌, min, max}
use native.Mathlib.Omega.{arith}
use native.Mathlib.Decide.{dec_le}
use lib.Dec.{eqb}
use lib.ListN.{length, take, drop, get_or, length-take, length-drop, drop_of_length-le}
use lib.Seq.{ext_get_or}
use lib.Pow.{pow_pos}
use lib.Bits.{or_zero_r}
use Rattle.std.proofs.lemmas.List.{drop_more, get_or-take}
use Rattle.sets.specs.Sets.{bit, only, union, width}
use Rattle.sets.proofs.Laws.{only_mod, union_assoc}
use Rattle.logic.specs.Expressions.{Expr, Const, Var, One, Two, Not, Next, Future, Always, And, Or, Until, Weak, Plain, value}
use Rattle.logic.specs.Decks.{Equation, base, total_nodes}
use Rattle.logic.specs.Meaning.{Claim, state_of}
use Rattle.logic.specs.Verdicts.{truth, taken}
use Rattle.logic.proofs.Verdict.{truth_lt}
use Rattle.terms.specs.Nodes.{Stands}
use Rattle.cones.proofs.Equations.{right-stands}
use Rattle.decks.proofs.Stored.{equation, each_equation, within, left_is, left-within, end_within, end_is, next_equation}
use Rattle.evaluator.specs.Pending.{All, tops}
use Rattle.truths.specs.Worked.{claim_of, truth_word, Worked, Ready, Evaluated}
use Rattle.truths.proofs.Operators.{all_as, all_then}
use Rattle.steps.specs.Steps.{behind, marked, mark_word, equation_word, taken_word, Marks, Fit, Given, Zeros}

-- ---- plain expressions: truth at a state is the value in it

pub truth-value : (m : Claim) (e : Expr) (i : ℕ) → Plain e → truth m e i ≡ value (state_of m i) e
unfolding truth value Plain
truth-value m (Const b) i h = refl
truth-value m (Var v) i h = refl
truth-value m (One Not a) i h = ap (λ (x : ℕ). 1 - x) (truth-value m a i h)
truth-value m (One Next a) i h = absurd h
truth-value m (One Future a) i h = absurd h
truth-value m (One Always a) i h = absurd h
truth-value m (Two And a b) i h = ap₂ min (truth-value m a i h.0) (truth-value m b i h.1)
truth-value m (Two Or a b) i h = ap₂ max (truth-value m a i h.0) (truth-value m b i h.1)
truth-value m (Two Until a b) i h = absurd h
truth-value m (Two Weak a b) i h = absurd h

-- ---- one equation

module _ (ns : List ℕ) (i : ℕ) (states : List ℕ) (p : ℕ) (words mid : List ℕ) (r : Ready ns i states p words base.levels) (f : Evaluated ns i states p words mid) where
  its_worked : Worked (claim_of p states) r.its words mid
  its_worked = f r.its r.stands

  pub mid_long : length mid ≡ length states
  mid_long = its_worked.same ∙ r.all

  -- Without its topmost value each word is what it was.
  pub popped : (last : List ℕ) → All (λ i w. w / 2) mid last → last ≡ words
  unfolding truth_word
  popped last d =
      ext_get_or 0 last words (d.same ∙ its_worked.same)
      (λ j l.
      let k : j < length words = omega (arith, d.same, its_worked.same) in
      let k' : j < length mid = omega (arith, its_worked.same) in
      let a = d.before j k' k' in
      let b = its_worked.before j k k in
      omega (arith, truth_lt (claim_of p states) r.its j))

  pub equation_marked : (v : ℕ) (old new : List ℕ) → length old ≡ length states → All (mark_word mid states p v) old new → Marks ns i states p v old new
  unfolding mark_word equation_word truth_word
  equation_marked v old new l d e s h =
      all_as (mark_word mid states p v) old new d (equation_word e states p v)
      (λ k b.
      let w = f e s in
      let n : k < length words = omega (arith, r.all) in
      let t : tops mid k ≡ value (get_or states k 0) e =
      (let q = w.before k n n in let y : tops mid k ≡ truth (claim_of p states) e k = omega (arith, truth_lt (claim_of p states) e k) in y ∙ truth-value (claim_of p states) e k h) in
      rw t refl)

-- ---- all equations

-- What stands first behind the first i numbers of a row.
first_behind : (xs : List ℕ) (i x : ℕ) (rest : List ℕ) → drop i xs ≡ x ∷ rest → (i < length xs) × (x ≡ get_or xs i 0) × (rest ≡ drop (i + 1) xs)
first_behind xs i x rest e =
    let l : i < length xs = omega (arith, ap length e, length-drop i xs) in
    let m = drop_more xs i 0 l in
    (l, cc, cc)

-- The numbers of equation i, the rows being walked in step.
module _ (lefts ends : List ℕ) (n i left end : ℕ) (lefts_on ends_on : List ℕ) where
  pub walked : drop i (take n lefts) ≡ left ∷ lefts_on
      → drop i ends ≡ end ∷ ends_on
      → (i < n) × (left ≡ get_or lefts i 0) × (end ≡ get_or ends i 0) × (lefts_on ≡ drop (i + 1) (take n lefts)) × (ends_on ≡ drop (i + 1) ends)
  walked a b =
      let s = first_behind (take n lefts) i left lefts_on a in
      let t = first_behind ends i end ends_on b in
      let h : i < n = omega (arith, s.0, length-take n lefts) in
      (h, s.1 ∙ get_or-take n lefts i 0 h, t.1, s.2, t.2)

taken_more : (q : Equation) (qs : List Equation) (s t u : ℕ) → q.left < width → union (marked (eqb (value s q.right) (bit t q.left)) q.left u) (taken qs s t) ≡ union u (taken (q ∷ qs) s t)
unfolding taken marked
taken_more q qs s t u l = go (eqb (value s q.right) (bit t q.left))
  where
    go : (b : Bool) → union (elim b [ true ↦ union u (only q.left % 2 ^ width) | false ↦ u ]) (taken qs s t) ≡ union u (elim b [ true ↦ union (only q.left) (taken qs s t) | false ↦ taken qs s t ])
    go true = ap (λ (x : ℕ). union (union u x) (taken qs s t)) (only_mod width q.left l) ∙ sym (union_assoc u (only q.left) (taken qs s t))
    go false = refl

-- Where the marking stands: the nodes of equation i begin at `from`, and with the marks of the equations left all are marked.
pub record Marking (lefts ends cs : List ℕ) (n : ℕ) (states : List ℕ) (p : ℕ) (start marks : List ℕ) (i from : ℕ) : Type 0 where
  pub long : length marks ≡ length states
  pub begins : (qs : List Equation) → Given qs lefts ends cs n → from ≡ total_nodes (take i qs)
  pub rest : (qs : List Equation) → Given qs lefts ends cs n → (new : List ℕ) → All (taken_word (drop i qs) states p) marks new → All (taken_word qs states p) start new

module _ (lefts ends cs : List ℕ) (n : ℕ) where
  left_here : (i : ℕ) (qs : List Equation) → Given qs lefts ends cs n → i < n → i < length lefts
  left_here i qs g h = left-within qs lefts ends cs n i g.held h

  end_here : (i : ℕ) (qs : List Equation) → Given qs lefts ends cs n → i < n → i < length ends
  end_here i qs g h = end_within qs lefts ends cs n i g.held h

  -- Where one of the rows is walked to its end, all equations are behind.
  pub walked_over : (i : ℕ) (qs : List Equation) → Given qs lefts ends cs n → (length (drop i (take n lefts)) ≡ 0) ⊎ (length (drop i ends) ≡ 0) → n ≤ i
  walked_over i qs g o = by_cases (dec_le n i) (λ h. h) (λ h. absurd (none (omega arith) o))
    where
      none : i < n → (length (drop i (take n lefts)) ≡ 0) ⊎ (length (drop i ends) ≡ 0) → ⊥
      none h (inl e) = omega (arith, left_here i qs g h, length-drop i (take n lefts), length-take n lefts)
      none h (inr e) = omega (arith, end_here i qs g h, length-drop i ends)

module _ (lefts ends cs : List ℕ) (n : ℕ) (states : List ℕ) (p : ℕ) (start : List ℕ) where
  pub marking_starts : length start ≡ length states → Marking lefts ends cs n states p start start 0 0
  unfolding total_nodes
  marking_starts l = record { long = l; begins = λ qs g. refl; rest = λ qs g new d. d }

  pub marking_ends : (marks : List ℕ) (i from : ℕ) → n ≤ i → Marking lefts ends cs n states p start marks i from → (qs : List Equation) → Given qs lefts ends cs n → All (taken_word qs states p) start marks
  unfolding taken_word taken
  marking_ends marks i from h m qs g =
      m.rest qs g marks
      (rw (drop_of_length-le qs {i = i} (omega (arith, g.held.count_is))) (record { same = refl; before = λ j b l. sym (or_zero_r (get_or marks j 0)); behind = λ j b. refl }))

  module _ (i from : ℕ) (marks : List ℕ) (h : i < n) (m : Marking lefts ends cs n states p start marks i from) where
    module _ (qs : List Equation) (g : Given qs lefts ends cs n) where
      fits : Fit (equation qs i)
      fits = each_equation Fit qs i g.fit (within qs lefts ends cs n i g.held h)

      right_here : Stands cs from (equation qs i).right
      right_here = rw (m.begins qs g) (right-stands qs lefts ends cs n i g.held h fits.narrow)

      pub equation_ready : (zeros words : List ℕ)
          → words ≡ zeros
          → Zeros zeros
          → length zeros ≡ length states
          → p < length states
          → Ready cs from states p words base.levels × (length marks ≡ length states) × (p < length states)
      equation_ready zeros words e z l k = (
        record {
          its = (equation qs i).right;
          stands = right_here;
          shallow = fits.shallow;
          few = omega arith;
          room = λ j b. rw (e, z j) (pow_pos 32);
          all = ap length e ∙ l;
          loop = k;
        },
        m.long,
        k,
      )

    pub marking_next : (after : List ℕ) (v end : ℕ)
        → v ≡ get_or lefts i 0
        → end ≡ get_or ends i 0
        → Marks cs from states p v marks after
        → length after ≡ length marks
        → Marking lefts ends cs n states p start after (i + 1) end
    unfolding taken_word equation_word
    marking_next after v end a e k l =
        record {
          long = l ∙ m.long;
          begins = λ qs g. e ∙ end_is qs lefts ends cs n i g.held h;
          rest =
              λ qs g new d.
              let q : Equation = equation qs i in
              let its : v ≡ q.left = a ∙ left_is qs lefts ends cs n i g.held h in
              let one : All (equation_word q.right states p q.left) marks after = rw its at (k q.right (right_here qs g) (fits qs g).plain) in
              m.rest qs g new
              (rw (next_equation qs lefts ends cs n i g.held h)
              (all_then (equation_word q.right states p q.left) (taken_word (drop (i + 1) qs) states p) (taken_word (q ∷ drop (i + 1) qs) states p) marks after new one d
              (λ j b.
              rw (one.before j b b) (taken_more q (drop (i + 1) qs) (get_or states j 0) (behind states p j) (get_or marks j 0) (fits qs g).its))));
        }
