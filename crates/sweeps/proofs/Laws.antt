-- Laws of words that are worked on from the last state back.
use mathlib.Core.Path.{◌≡◌, refl, sym, ◌∙◌}
use mathlib.Core.Logic.{by_cases}
use mathlib.Core.List.{List, [], ◌∷◌, reverse}
use Prim.Native.Nat.{ℕ, zero, suc, ◌+◌, ◌-◌, ◌<◌, ◌≤◌, min, max}
use native.Mathlib.Omega.{arith}
use native.Mathlib.Decide.{ℕ_discrete}
use lib.ListN.{length, get_or, set, take, drop, length-set, length-drop, get_or-eq_default, drop_of_length-le}
use lib.Seq.{get_or-set_same, get_or-set_other, drop-cons, take_all}
use Rattle.std.specs.List.{fold}
use Rattle.std.proofs.lemmas.List.{reverse-append}
use Rattle.std.proofs.lemmas.List.Sums.{fold-append}
use Rattle.evaluator.specs.Pending.{top, second, joined, Done, tops}
use Rattle.sweeps.specs.Swept.{Swept, sweep, seconds, settled, swept_word}

-- What is carried from a state to the one before it, whose word is w.
abbrev pub carry : ℕ → ℕ → ℕ
carry v w = max (top w) (min (second w) (top v))

module _ (ws : List ℕ) (z : ℕ) (small : z < 2) where
  abbrev at_state : ℕ → ℕ
  at_state i = sweep (seconds ws) (tops ws) z (length ws - i) i

  -- Behind the last state there is z.
  pub sweep_none : (n : ℕ) → n ≡ length ws → z ≡ at_state n
  unfolding sweep
  sweep_none n e = let k : length ws - n ≡ 0 = omega arith in rw k refl

  sweep_lt : (k i : ℕ) → sweep (seconds ws) (tops ws) z k i < 2
  unfolding sweep
  sweep_lt zero i = small
  sweep_lt (suc k) i = omega arith

  -- One state back.
  pub sweep_back : (i v : ℕ) → i < length ws → v ≡ at_state (suc i) → carry v (get_or ws i 0) ≡ at_state i
  unfolding sweep
  sweep_back i v l e =
      let k : length ws - i ≡ suc (length ws - suc i) = omega arith in
      let t : top v ≡ v = omega (arith, sweep_lt (length ws - suc i) (suc i)) in
      rw (k, t, e) refl

  fold_sweep : (k i : ℕ) → i + k ≡ length ws → fold carry z (reverse (drop i ws)) ≡ at_state i
  fold_sweep zero i e = rw (drop_of_length-le ws {i = i} (omega arith)) (sweep_none i (omega arith))
  fold_sweep (suc k) i e =
      let l : i < length ws = omega arith in
      rw (drop-cons ws i 0, reverse-append (get_or ws i 0 ∷ []) (drop (suc i) ws), fold-append carry z)
      (sweep_back i _ l (fold_sweep k (suc i) (omega arith)))

  -- The fold over the words from the last one back to that of state p.
  pub fold_settled : (p v : ℕ) → p < length ws → v ≡ fold carry z (reverse (take (length ws - p) (drop p ws))) → (v ≡ settled p z ws) × (v < 2)
  fold_settled p v l e =
      let k : length (drop p ws) ≤ length ws - p = omega (arith, length-drop {A = ℕ}) in
      let s : v ≡ settled p z ws = rw take_all at e ∙ fold_sweep (length ws - p) p (omega arith) in
      (s, omega (arith, s, sweep_lt (length ws - p) p))

module _ (f : ℕ → ℕ → ℕ) (old : List ℕ) where
  pub swept_none : (n : ℕ) → n ≡ length old → Swept f n old old
  swept_none n e = record { same = refl; before = λ j l. refl; behind = λ j l h. absurd (omega arith) }

  swept_next : (new : List ℕ) (i x : ℕ) → Swept f (suc i) old new → i < length old → x ≡ f i (get_or old i 0) → Swept f i old (set new i x)
  swept_next new i x d l h =
      record {
        same = length-set new i x ∙ d.same;
        before = λ j b. get_or-set_other new i j x 0 (λ t. omega arith) ∙ d.before j (omega arith);
        behind =
            λ j b k.
            by_cases
            (ℕ_discrete j i)
            (λ t. rw t (get_or-set_same new i x 0 (omega (arith, d.same)) ∙ h))
            (λ n. get_or-set_other new i j x 0 n ∙ d.behind j (omega arith) k);
      }

  -- Before the first word there is none left.
  pub swept_all : (new : List ℕ) (i : ℕ) → i ≤ 0 → Swept f i old new → Done f (length old) old new
  swept_all new i z d =
      record {
        same = d.same;
        before = λ j h k. d.behind j (omega arith) k;
        behind = λ j h. get_or-eq_default new 0 (omega (arith, d.same)) ∙ sym (get_or-eq_default old 0 h);
      }

-- One state back, its word read, worked out and stored.
module _ (old new : List ℕ) (z : ℕ) (small : z < 2) (v u i : ℕ) (some : 0 < i) (l : i ≤ length old) (e : v ≡ at_state old z small i) (d : Swept (swept_word z old) i old new) (q : u ≡ carry v (get_or new (i - 1) 0)) where
  carried_back : u ≡ at_state old z small (i - 1)
  carried_back =
      let n : suc (i - 1) ≡ i = omega arith in
      let k : get_or new (i - 1) 0 ≡ get_or old (i - 1) 0 = d.before (i - 1) (omega arith) in
      rw (q, k) (sweep_back old z small (i - 1) v (omega arith) (rw n e))

  pub swept_back : (u ≡ at_state old z small (i - 1)) × Swept (swept_word z old) (i - 1) old (set new (i - 1) (joined (get_or new (i - 1) 0) u))
  unfolding swept_word
  swept_back =
      let n : suc (i - 1) ≡ i = omega arith in
      let k : get_or new (i - 1) 0 ≡ get_or old (i - 1) 0 = d.before (i - 1) (omega arith) in
      (carried_back, swept_next (swept_word z old) old new (i - 1) (joined (get_or new (i - 1) 0) u) (rw n d) (omega arith) (rw (k, carried_back) refl))
