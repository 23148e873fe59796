-- What each operator makes of pending values that are truths.
use mathlib.Core.Path.{◌≡◌, refl, sym, ap, ap₂, ◌∙◌}
use mathlib.Core.Bool.{true, false}
use mathlib.Core.List.{List}
use Prim.Native.Nat.{ℕ, zero, suc, ◌+◌, ◌-◌, ◌/◌, ◌<◌, ◌≤◌, min, max}
use native.Mathlib.Omega.{arith}
use lib.ListN.{length, get_or, get_or-eq_default}
use Rattle.logic.specs.Expressions.{Expr, Const, One, Two, Not, Next, Future, Always, And, Or, Until, Weak}
use Rattle.logic.specs.Decks.{Limits}
use Rattle.logic.specs.Meaning.{Claim, Sized, follower}
use Rattle.logic.specs.Verdicts.{unrolled, truth}
use Rattle.logic.proofs.Verdict.{follower_next, follower_last, follower_lt, truth_lt, truth_is, until_enough, weak_enough}
use Rattle.evaluator.specs.Pending.{top, second, pushed, topped, joined, All, tops, following, next_word}
use Rattle.sweeps.specs.Swept.{sweep, seconds, settled, swept_word}
use Rattle.truths.specs.Worked.{truth_word, Worked}

-- ---- one pass after the other

module _ (f : ℕ → ℕ → ℕ) (old new : List ℕ) (d : All f old new) where
  all_at : (i n : ℕ) → length old ≡ n → i < n → get_or new i 0 ≡ f i (get_or old i 0)
  all_at i n e l = d.before i (omega arith) (omega arith)

  pub all_as : (h : ℕ → ℕ → ℕ) → ((i : ℕ) → i < length old → f i (get_or old i 0) ≡ h i (get_or old i 0)) → All h old new
  all_as h e = record { same = d.same; before = λ j b l. d.before j b l ∙ e j l; behind = d.behind }

pub all_then : (f g h : ℕ → ℕ → ℕ) (old mid new : List ℕ)
    → All f old mid
    → All g mid new
    → ((i : ℕ) → i < length old → g i (get_or mid i 0) ≡ h i (get_or old i 0))
    → All h old new
all_then f g h old mid new d k e =
    record {
      same = k.same ∙ d.same;
      before = λ j b l. k.before j (omega (arith, d.same)) (omega (arith, d.same)) ∙ e j l;
      behind = λ j b. k.behind j (omega (arith, d.same)) ∙ d.behind j b;
    }

-- ---- two sweeps are enough

sweep-same : (a b x y : ℕ → ℕ) (v k i n : ℕ) → i + k ≤ n → ((j : ℕ) → j < n → a j ≡ x j) → ((j : ℕ) → j < n → b j ≡ y j) → sweep a b v k i ≡ sweep x y v k i
unfolding sweep
sweep-same a b x y v zero i n l f g = refl
sweep-same a b x y v (suc k) i n l f g =
    let h = sweep-same a b x y v k (suc i) n (omega arith) f g in
    let p = f i (omega arith) in
    let q = g i (omega arith) in
    rw (h, p, q) refl

module _ (m : Claim) (z : ℕ) (x y : ℕ → ℕ) where
  -- To the last state and behind it back to p.
  straight : (k j i : ℕ) → i + suc k ≡ m.p + m.c → unrolled m z x y (suc k + j) i ≡ sweep x y (unrolled m z x y j m.p) (suc k) i
  unfolding unrolled sweep
  straight zero j i e =
      let l = follower_last m i (omega arith) in
      let n : suc zero + j ≡ suc j = omega arith in
      rw n (rw l refl)
  straight (suc k) j i e =
      let l = follower_next m i (omega arith) in
      let n : suc (suc k) + j ≡ suc (suc k + j) = omega arith in
      rw n (rw l (rw (straight k j (suc i) (omega arith)) refl))

  -- The second sweep starts from what the first one found at p.
  pub twice : (i : ℕ) → 1 ≤ m.c → i < m.p + m.c → sweep x y (sweep x y z m.c m.p) (m.p + m.c - i) i ≡ unrolled m z x y (m.p + m.c - i + m.c) i
  unfolding unrolled
  twice i one l =
      let k : ℕ = m.p + m.c - i - 1 in
      let u : m.p + m.c - i ≡ suc k = omega arith in
      let w : m.c ≡ suc (m.c - 1) = omega arith in
      let s : m.c ≡ suc (m.c - 1) + 0 = omega arith in
      let first : sweep x y z m.c m.p ≡ unrolled m z x y m.c m.p =
      ap (λ (n : ℕ). sweep x y z n m.p) w ∙ sym (straight (m.c - 1) 0 m.p (omega arith)) ∙ ap (λ (n : ℕ). unrolled m z x y n m.p) (sym s) in
      ap₂ (λ (v n : ℕ). sweep x y v n i) first u ∙ sym (straight k m.c i (omega arith)) ∙ ap (λ (n : ℕ). unrolled m z x y (n + m.c) i) (sym u)

module _ (L : Limits) (m : Claim) (sized : Sized L m) (old : List ℕ) (long : length old ≡ m.p + m.c) where
  -- The sweeps over two pending values x and y give e, where e is so unrolled.
  swept_truth : (mid new : List ℕ) (x y : ℕ → ℕ) (z : ℕ) (e : Expr)
      → length mid ≡ m.p + m.c
      → ((i : ℕ) → x i < 2)
      → ((i : ℕ) → y i < 2)
      → ((i : ℕ) → i < m.p + m.c → get_or mid i 0 ≡ pushed (pushed (get_or old i 0) (x i)) (y i))
      → ((n i : ℕ) → i < m.p + m.c → max i m.p + m.c ≤ i + n → unrolled m z x y n i ≡ truth m e i)
      → All (swept_word (settled m.p z mid) mid) mid new
      → Worked m e old new
  unfolding swept_word truth_word
  swept_truth mid new x y z e ml x-digit y-digit was enough d =
      record {
        same = d.same ∙ ml ∙ sym long;
        before = λ j b l. d.before j (omega arith) (omega arith) ∙ here j (omega arith);
        behind = λ j b. d.behind j (omega arith) ∙ get_or-eq_default mid 0 (omega arith) ∙ sym (get_or-eq_default old 0 b);
      }
    where
      xs : (j : ℕ) → j < m.p + m.c → seconds mid j ≡ x j
      xs j l = let w = was j l in omega (arith, x-digit j, y-digit j)

      ys : (j : ℕ) → j < m.p + m.c → tops mid j ≡ y j
      ys j l = let w = was j l in omega (arith, x-digit j, y-digit j)

      c_is : length mid - m.p ≡ m.c
      c_is = omega arith

      value : (i : ℕ) → i < m.p + m.c → sweep (seconds mid) (tops mid) (settled m.p z mid) (length mid - i) i ≡ truth m e i
      value i l =
          let n : length mid - i ≡ m.p + m.c - i = omega arith in
          let first : settled m.p z mid ≡ sweep x y z m.c m.p = ap (λ (k : ℕ). sweep (seconds mid) (tops mid) z k m.p) c_is ∙ sweep-same (seconds mid) (tops mid) x y z m.c m.p (m.p + m.c) (omega arith) xs ys in
          ap₂ (λ (v k : ℕ). sweep (seconds mid) (tops mid) v k i) first n
          ∙ sweep-same (seconds mid) (tops mid) x y (sweep x y z m.c m.p) (m.p + m.c - i) i (m.p + m.c) (omega arith) xs ys
          ∙ twice m z x y i sized.some l
          ∙ enough (m.p + m.c - i + m.c) i l (omega arith)

      here : (i : ℕ) → i < m.p + m.c → joined (get_or mid i 0) (sweep (seconds mid) (tops mid) (settled m.p z mid) (length mid - i) i) ≡ pushed (get_or old i 0) (truth m e i)
      here i l = let w = was i l in let v = value i l in rw v (omega (arith, x-digit i, y-digit i))

  module _ (a : Expr) (mid new : List ℕ) (wa : Worked m a old mid) where
    its-length : length mid ≡ m.p + m.c
    its-length = wa.same ∙ long

    was_a : (i : ℕ) → i < m.p + m.c → get_or mid i 0 ≡ pushed (get_or old i 0) (truth m a i)
    unfolding truth_word
    was_a i l = all_at (truth_word m a) old mid wa i (m.p + m.c) long l

    pub not_worked : All (λ i w. topped w (1 - top w)) mid new → Worked m (One Not a) old new
    unfolding truth truth_word
    not_worked d = all_then (truth_word m a) (λ i w. topped w (1 - top w)) (truth_word m (One Not a)) old mid new wa d (λ i l. let w = was_a i (omega arith) in omega (arith, truth_lt m a i))

    pub next_worked : All (next_word m.p mid) mid new → Worked m (One Next a) old new
    unfolding truth truth_word next_word following follower
    next_worked d =
        all_then (truth_word m a) (next_word m.p mid) (truth_word m (One Next a)) old mid new wa d
        (λ i l.
        let w = was_a i (omega arith) in
        let e : following (length mid) m.p i ≡ follower m i = ap (λ (n : ℕ). following n m.p i) its-length in
        let u = was_a (follower m i) (follower_lt m sized.some i) in
        rw e (omega (arith, truth_lt m a i, truth_lt m a (follower m i))))

    pub future_worked : (up : List ℕ) → All (λ i w. pushed (topped w 1) (top w)) mid up → All (swept_word (settled m.p 0 up) up) up new → Worked m (One Future a) old new
    unfolding truth
    future_worked up d k =
        swept_truth up new (λ j. 1) (truth m a) 0 (One Future a) (d.same ∙ its-length) (λ i. omega arith) (truth_lt m a)
        (λ i l. let w = was_a i l in let u = all_at (λ i w. pushed (topped w 1) (top w)) mid up d i (m.p + m.c) its-length l in omega (arith, truth_lt m a i))
        (λ n i h l. until_enough L m sized (Const true) a (λ j. 1) (truth m a) (λ j. omega arith) (truth_lt m a) (λ j. (λ t. refl, λ t. tt)) (truth_is L m sized a) n i h l)
        k

    pub always_worked : (x : ℕ) (up : List ℕ) → x ≡ 0 → All (λ i w. pushed w x) mid up → All (swept_word (settled m.p 1 up) up) up new → Worked m (One Always a) old new
    unfolding truth
    always_worked x up z d k =
        swept_truth up new (truth m a) (λ j. 0) 1 (One Always a) (d.same ∙ its-length) (truth_lt m a) (λ i. omega arith)
        (λ i l. let w = was_a i l in let u = all_at (λ i w. pushed w x) mid up d i (m.p + m.c) its-length l in omega (arith, truth_lt m a i))
        (λ n i h l. weak_enough L m sized a (Const false) (truth m a) (λ j. 0) (truth_lt m a) (λ j. omega arith) (truth_is L m sized a) (λ j. (λ t. absurd t, λ t. omega arith)) n i h l)
        k

  module _ (a b : Expr) (half mid new : List ℕ) (wa : Worked m a old half) (wb : Worked m b half mid) where
    both_length : length mid ≡ m.p + m.c
    both_length = wb.same ∙ wa.same ∙ long

    was_both : (i : ℕ) → i < m.p + m.c → get_or mid i 0 ≡ pushed (pushed (get_or old i 0) (truth m a i)) (truth m b i)
    unfolding truth_word
    was_both i l = all_at (truth_word m b) half mid wb i (m.p + m.c) (wa.same ∙ long) l ∙ ap (λ (w : ℕ). pushed w (truth m b i)) (all_at (truth_word m a) old half wa i (m.p + m.c) long l)

    -- Both values pushed, then one for the two.
    joined_worked : (f : ℕ → ℕ → ℕ) (e : Expr) → All f mid new → ((i : ℕ) → i < m.p + m.c → f i (get_or mid i 0) ≡ pushed (get_or old i 0) (truth m e i)) → Worked m e old new
    unfolding truth_word
    joined_worked f e d h =
        record {
          same = d.same ∙ both_length ∙ sym long;
          before = λ j k l. d.before j (omega (arith, both_length)) (omega (arith, both_length)) ∙ h j (omega arith);
          behind = λ j k. d.behind j (omega (arith, both_length)) ∙ get_or-eq_default mid 0 (omega (arith, both_length)) ∙ sym (get_or-eq_default old 0 k);
        }

    parts : (i : ℕ) → i < m.p + m.c → (second (get_or mid i 0) ≡ truth m a i) × (top (get_or mid i 0) ≡ truth m b i) × (get_or mid i 0 / 4 ≡ get_or old i 0)
    parts i l = let w = was_both i l in (omega (arith, truth_lt m a i, truth_lt m b i), omega (arith, truth_lt m b i), omega (arith, truth_lt m a i, truth_lt m b i))

    pub and_worked : All (λ i w. joined w (min (second w) (top w))) mid new → Worked m (Two And a b) old new
    unfolding truth
    and_worked d = joined_worked (λ i w. joined w (min (second w) (top w))) (Two And a b) d (λ i l. let h = parts i l in rw (h.0, h.1, h.2) refl)

    pub or_worked : All (λ i w. joined w (max (second w) (top w))) mid new → Worked m (Two Or a b) old new
    unfolding truth
    or_worked d = joined_worked (λ i w. joined w (max (second w) (top w))) (Two Or a b) d (λ i l. let h = parts i l in rw (h.0, h.1, h.2) refl)

    pub until_worked : All (swept_word (settled m.p 0 mid) mid) mid new → Worked m (Two Until a b) old new
    unfolding truth
    until_worked d =
        swept_truth mid new (truth m a) (truth m b) 0 (Two Until a b) both_length (truth_lt m a) (truth_lt m b) was_both
        (until_enough L m sized a b (truth m a) (truth m b) (truth_lt m a) (truth_lt m b) (truth_is L m sized a) (truth_is L m sized b))
        d

    pub weak_worked : All (swept_word (settled m.p 1 mid) mid) mid new → Worked m (Two Weak a b) old new
    unfolding truth
    weak_worked d =
        swept_truth mid new (truth m a) (truth m b) 1 (Two Weak a b) both_length (truth_lt m a) (truth_lt m b) was_both
        (weak_enough L m sized a b (truth m a) (truth m b) (truth_lt m a) (truth_lt m b) (truth_is L m sized a) (truth_is L m sized b))
        d
