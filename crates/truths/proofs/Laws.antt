-- The truth of an expression from those of its operands, node by node.
use mathlib.Core.Path.{◌≡◌, refl, sym, ap, ◌∙◌}
use mathlib.Core.Bool.{true, false}
use mathlib.Core.List.{List}
use Prim.Native.Nat.{ℕ, suc, ◌+◌, ◌-◌, ◌<◌, ◌≤◌, min, max}
use native.Mathlib.Omega.{arith}
use mir.Val.{Fits}
use mir.Syntax.{w64}
use lib.ListN.{length, get_or}
use lib.Pow.{pow_mono}
use Rattle.logic.specs.Expressions.{Expr, Const, Var, One, Two, Op2, Not, Next, Future, Always, And, Or, Until, Weak, nodes, levels}
use Rattle.logic.specs.Decks.{Limits}
use Rattle.logic.specs.Meaning.{Claim, Sized}
use Rattle.logic.specs.Verdicts.{truth}
use Rattle.logic.proofs.Codes.{nodes-some, levels-some}
use Rattle.logic.proofs.Verdict.{truth_lt}
use Rattle.terms.specs.Nodes.{places_of, operands, Stands}
use Rattle.terms.proofs.Levels.{stands_places}
use Rattle.terms.proofs.Trees.{head_node, stands_node, stands-within, stands_operand, stands-first, stands-second}
use Rattle.evaluator.specs.Pending.{top, second, pushed, topped, joined, All, Below, variable_word, next_word}
use Rattle.sweeps.specs.Swept.{settled, swept_word}
use Rattle.truths.specs.Worked.{claim_of, truth_word, Worked, Leaf, Applied1, Applied2, Ready, Ends, Evaluated}
use Rattle.truths.proofs.Operators.{all_as, not_worked, next_worked, future_worked, always_worked, and_worked, or_worked, until_worked, weak_worked}

-- ---- constants and variables

module _ (states : List ℕ) (node : ℕ) (old new : List ℕ) where
  pub leaf_variable : (v : ℕ) → (node ≡ 256 → ⊥) → (node ≡ 257 → ⊥) → v ≡ node → All (variable_word states v) old new → Leaf states node old new
  unfolding variable_word truth_word truth
  leaf_variable v x y q d m (Const false) s n z h = absurd (x h)
  leaf_variable v x y q d m (Const true) s n z h = absurd (y h)
  leaf_variable v x y q d m (Var u) s n z h = all_as (variable_word states v) old new d (truth_word m (Var u)) (λ i l. rw (s, q, h) refl)
  leaf_variable v x y q d m (One o a) s n z h = absurd (omega arith)
  leaf_variable v x y q d m (Two o a b) s n z h = absurd (omega arith)

  pub leaf_one : node ≡ 257 → All (λ i w. pushed w 1) old new → Leaf states node old new
  unfolding truth_word truth
  leaf_one q d m (Const false) s n z h = absurd (omega arith)
  leaf_one q d m (Const true) s n z h = all_as (λ i w. pushed w 1) old new d (truth_word m (Const true)) (λ i l. refl)
  leaf_one q d m (Var u) s n z h = absurd (omega (arith, n, q, h))
  leaf_one q d m (One o a) s n z h = absurd (omega arith)
  leaf_one q d m (Two o a b) s n z h = absurd (omega arith)

  pub leaf_zero : node ≡ 256 → All (λ i w. pushed w 0) old new → Leaf states node old new
  unfolding truth_word truth
  leaf_zero q d m (Const false) s n z h = all_as (λ i w. pushed w 0) old new d (truth_word m (Const false)) (λ i l. refl)
  leaf_zero q d m (Const true) s n z h = absurd (omega arith)
  leaf_zero q d m (Var u) s n z h = absurd (omega (arith, n, q, h))
  leaf_zero q d m (One o a) s n z h = absurd (omega arith)
  leaf_zero q d m (Two o a b) s n z h = absurd (omega arith)

-- ---- operators

module _ (p node : ℕ) (mid new : List ℕ) where
  pub applied_not : node ≡ 258 → All (λ i w. topped w (1 - top w)) mid new → Applied1 p node mid new
  applied_not q d L m Not a old s e l h w = not_worked L m s old l a mid new w d
  applied_not q d L m Next a old s e l h w = absurd (omega arith)
  applied_not q d L m Future a old s e l h w = absurd (omega arith)
  applied_not q d L m Always a old s e l h w = absurd (omega arith)

  pub applied_next : node ≡ 261 → All (next_word p mid) mid new → Applied1 p node mid new
  applied_next q d L m Not a old s e l h w = absurd (omega arith)
  applied_next q d L m Next a old s e l h w = next_worked L m s old l a mid new w (rw e d)
  applied_next q d L m Future a old s e l h w = absurd (omega arith)
  applied_next q d L m Always a old s e l h w = absurd (omega arith)

  pub applied_future : (up : List ℕ)
      → node ≡ 262
      → All (λ i w. pushed (topped w 1) (top w)) mid up
      → All (swept_word (settled p 0 up) up) up new
      → Applied1 p node mid new
  applied_future up q d k L m Not a old s e l h w = absurd (omega arith)
  applied_future up q d k L m Next a old s e l h w = absurd (omega arith)
  applied_future up q d k L m Future a old s e l h w = future_worked L m s old l a mid new w up d (rw e k)
  applied_future up q d k L m Always a old s e l h w = absurd (omega arith)

  pub applied_always : (up : List ℕ)
      → (node ≡ 258 → ⊥)
      → (node ≡ 261 → ⊥)
      → (node ≡ 262 → ⊥)
      → All (λ i w. pushed w 0) mid up
      → All (swept_word (settled p 1 up) up) up new
      → Applied1 p node mid new
  applied_always up x y z d k L m Not a old s e l h w = absurd (x h)
  applied_always up x y z d k L m Next a old s e l h w = absurd (y h)
  applied_always up x y z d k L m Future a old s e l h w = absurd (z h)
  applied_always up x y z d k L m Always a old s e l h w = always_worked L m s old l a mid new w 0 up refl d (rw e k)

  pub applied_and : node ≡ 259 → All (λ i w. joined w (min (second w) (top w))) mid new → Applied2 p node mid new
  applied_and q d L m And a b old half s e l h w v = and_worked L m s old l a b half mid new w v d
  applied_and q d L m Or a b old half s e l h w v = absurd (omega arith)
  applied_and q d L m Until a b old half s e l h w v = absurd (omega arith)
  applied_and q d L m Weak a b old half s e l h w v = absurd (omega arith)

  pub applied_or : node ≡ 260 → All (λ i w. joined w (max (second w) (top w))) mid new → Applied2 p node mid new
  applied_or q d L m And a b old half s e l h w v = absurd (omega arith)
  applied_or q d L m Or a b old half s e l h w v = or_worked L m s old l a b half mid new w v d
  applied_or q d L m Until a b old half s e l h w v = absurd (omega arith)
  applied_or q d L m Weak a b old half s e l h w v = absurd (omega arith)

  pub applied_until : node ≡ 264 → All (swept_word (settled p 0 mid) mid) mid new → Applied2 p node mid new
  applied_until q d L m And a b old half s e l h w v = absurd (omega arith)
  applied_until q d L m Or a b old half s e l h w v = absurd (omega arith)
  applied_until q d L m Until a b old half s e l h w v = until_worked L m s old l a b half mid new w v (rw e d)
  applied_until q d L m Weak a b old half s e l h w v = absurd (omega arith)

  pub applied_weak : (node ≡ 259 → ⊥) → (node ≡ 260 → ⊥) → (node ≡ 264 → ⊥) → All (swept_word (settled p 1 mid) mid) mid new → Applied2 p node mid new
  applied_weak x y z d L m And a b old half s e l h w v = absurd (x h)
  applied_weak x y z d L m Or a b old half s e l h w v = absurd (y h)
  applied_weak x y z d L m Until a b old half s e l h w v = absurd (z h)
  applied_weak x y z d L m Weak a b old half s e l h w v = weak_worked L m s old l a b half mid new w v (rw e d)

-- ---- room for more values

below_more : (j k : ℕ) (ws : List ℕ) → j ≤ k → Below j ws → Below k ws
below_more j k ws l b i h = omega (arith, b i h, pow_mono {i = j} {j = k} l)

-- One value more needs one digit more.
worked_below : (m : Claim) (e : Expr) (k : ℕ) (old new : List ℕ) → Below k old → Worked m e old new → Below (suc k) new
unfolding truth_word
worked_below m e k old new b w i h =
    let l : i < length old = omega (arith, w.same) in
    let q = w.before i l l in
    omega (arith, b i l, truth_lt m e i)

-- ---- the expression and its operands

module _ (ns : List ℕ) (i : ℕ) where
  module _ (states : List ℕ) (p : ℕ) where
    -- The sizes of a claim of these states.
    long : p < length states → length states ≡ p + (length states - p)
    long l = omega arith

    sized : p < length states → (L : Limits) × Sized L (claim_of p states)
    sized l = (
      record { text = 0; variables = 0; initials = 0; equations = 0; equation_nodes = 0; property_nodes = 0; levels = 0; states = p + (length states - p) },
      record { some = omega arith; all = long l; most = omega arith },
    )

    module _ (words : List ℕ) (left : ℕ) (r : Ready ns i states p words left) where
      pub node_within : i < length ns
      node_within = omega (arith, stands-within ns i r.its r.stands, nodes-some r.its)

      pub next_fits : Fits w64 (length ns) → Fits w64 (i + 1)
      next_fits l = omega (arith, l, node_within)

      pub left-some : 1 ≤ left
      left-some = omega (arith, r.shallow, levels-some r.its)

      pub left_falls : (t : ℕ) → left ≡ t → left - 1 < t
      left_falls t q = omega (arith, left-some)

      pub leaf_ready : Below 63 words × (length words ≡ length states)
      leaf_ready = (below_more (64 - left) 63 words (omega (arith, left-some)) r.room, r.all)

      module _ (node o : ℕ) (its-node : node ≡ get_or ns i 0) (its-places : o ≡ places_of node) where
        operands_are : (e : Expr) → Stands ns i e → o ≡ operands e
        operands_are e s = its-places ∙ ap places_of its-node ∙ stands_places ns i e s

        head_is : (e : Expr) → Stands ns i e → node ≡ head_node e
        head_is e s = its-node ∙ stands_node ns i e s

        pub leaf_evaluated : (new : List ℕ) → o ≡ 0 → Leaf states node words new → Evaluated ns i states p words new
        leaf_evaluated new z f e s = f (claim_of p states) e refl s.0 (sym (operands_are e s) ∙ z) (head_is e s)

        pub leaf_ends : o ≡ 0 → Ends ns i (i + 1)
        unfolding nodes
        leaf_ends z (Const b) s = refl
        leaf_ends z (Var v) s = refl
        leaf_ends z (One q a) s = absurd (omega (arith, operands_are (One q a) s))
        leaf_ends z (Two q a b) s = absurd (omega (arith, operands_are (Two q a b) s))

        pub first_ready : (o ≡ 0 → ⊥) → Ready ns (i + 1) states p words (left - 1)
        unfolding levels
        first_ready z = go r.its r.stands r.shallow
          where
            go : (e : Expr) → Stands ns i e → levels e ≤ left → Ready ns (i + 1) states p words (left - 1)
            go (Const b) s l = absurd (z (operands_are (Const b) s))
            go (Var v) s l = absurd (z (operands_are (Var v) s))
            go (One q a) s l =
                record {
                  its = a;
                  stands = stands_operand ns i q a s;
                  shallow = omega arith;
                  few = omega (arith, r.few);
                  room = below_more (64 - left) (64 - (left - 1)) words (omega arith) r.room;
                  all = r.all;
                  loop = r.loop;
                }
            go (Two q a b) s l =
                record {
                  its = a;
                  stands = stands-first ns i q a b s;
                  shallow = omega arith;
                  few = omega (arith, r.few);
                  room = below_more (64 - left) (64 - (left - 1)) words (omega arith) r.room;
                  all = r.all;
                  loop = r.loop;
                }

        pub one_room : (mid : List ℕ) → o ≡ 1 → Evaluated ns (i + 1) states p words mid → Below 63 mid
        unfolding levels
        one_room mid z f = go r.its r.stands r.shallow
          where
            go : (e : Expr) → Stands ns i e → levels e ≤ left → Below 63 mid
            go (Const b) s l = absurd (omega (arith, operands_are (Const b) s))
            go (Var v) s l = absurd (omega (arith, operands_are (Var v) s))
            go (One q a) s l =
                below_more (suc (64 - left)) 63 mid (omega (arith, levels-some a)) (worked_below (claim_of p states) a (64 - left) words mid r.room (f a (stands_operand ns i q a s)))
            go (Two q a b) s l = absurd (omega (arith, operands_are (Two q a b) s))

        pub one_evaluated : (mid new : List ℕ) → o ≡ 1 → Evaluated ns (i + 1) states p words mid → Applied1 p node mid new → Evaluated ns i states p words new
        one_evaluated mid new z f g (Const b) s = absurd (omega (arith, operands_are (Const b) s))
        one_evaluated mid new z f g (Var v) s = absurd (omega (arith, operands_are (Var v) s))
        one_evaluated mid new z f g (One q a) s =
            let fit = sized r.loop in
            g fit.0 (claim_of p states) q a words fit.1 refl (r.all ∙ long r.loop) (head_is (One q a) s) (f a (stands_operand ns i q a s))
        one_evaluated mid new z f g (Two q a b) s = absurd (omega (arith, operands_are (Two q a b) s))

        pub one_ends : (end : ℕ) → o ≡ 1 → Ends ns (i + 1) end → Ends ns i end
        unfolding nodes
        one_ends end z f (Const b) s = absurd (omega (arith, operands_are (Const b) s))
        one_ends end z f (Var v) s = absurd (omega (arith, operands_are (Var v) s))
        one_ends end z f (One q a) s = omega (arith, f a (stands_operand ns i q a s))
        one_ends end z f (Two q a b) s = absurd (omega (arith, operands_are (Two q a b) s))

        module _ (mid : List ℕ) (other : ℕ) (x : o ≡ 0 → ⊥) (y : o ≡ 1 → ⊥) (its_end : Ends ns (i + 1) other) (f : Evaluated ns (i + 1) states p words mid) where
          second-stands : (q : Op2) (a b : Expr) → Stands ns i (Two q a b) → Stands ns other b
          second-stands q a b s = rw (its_end a (stands-first ns i q a b s)) (stands-second ns i q a b s)

          pub two_ends : (end : ℕ) → Ends ns other end → Ends ns i end
          unfolding nodes
          two_ends end g (Const b) s = absurd (x (operands_are (Const b) s))
          two_ends end g (Var v) s = absurd (x (operands_are (Var v) s))
          two_ends end g (One q a) s = absurd (y (operands_are (One q a) s))
          two_ends end g (Two q a b) s = omega (arith, its_end a (stands-first ns i q a b s), g b (second-stands q a b s))

          pub second_ready : Ready ns other states p mid (left - 1)
          unfolding levels
          second_ready = go r.its r.stands r.shallow
            where
              go : (e : Expr) → Stands ns i e → levels e ≤ left → Ready ns other states p mid (left - 1)
              go (Const b) s l = absurd (x (operands_are (Const b) s))
              go (Var v) s l = absurd (x (operands_are (Var v) s))
              go (One q a) s l = absurd (y (operands_are (One q a) s))
              go (Two q a b) s l =
                  let w = f a (stands-first ns i q a b s) in
                  record {
                    its = b;
                    stands = second-stands q a b s;
                    shallow = omega arith;
                    few = omega (arith, r.few);
                    room = below_more (suc (64 - left)) (64 - (left - 1)) mid (omega (arith, r.few)) (worked_below (claim_of p states) a (64 - left) words mid r.room w);
                    all = w.same ∙ r.all;
                    loop = r.loop;
                  }

          module _ (last : List ℕ) (g : Evaluated ns other states p mid last) where
            pub two_evaluated : (new : List ℕ) → Applied2 p node last new → Evaluated ns i states p words new
            two_evaluated new h (Const b) s = absurd (x (operands_are (Const b) s))
            two_evaluated new h (Var v) s = absurd (x (operands_are (Var v) s))
            two_evaluated new h (One q a) s = absurd (y (operands_are (One q a) s))
            two_evaluated new h (Two q a b) s =
                let fit = sized r.loop in
                h fit.0 (claim_of p states) q a b words mid fit.1 refl (r.all ∙ long r.loop) (head_is (Two q a b) s) (f a (stands-first ns i q a b s)) (g b (second-stands q a b s))
