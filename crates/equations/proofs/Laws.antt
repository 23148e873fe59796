-- Laws of the equations of a set, written and counted.
use mathlib.Core.Path.{◌≡◌, refl, sym, ap, ◌∙◌}
use mathlib.Core.Bool.{Bool, true, false, cond}
use mathlib.Core.List.{List, [], ◌∷◌, ◌++◌, append_assoc}
use Prim.Native.Nat.{ℕ, zero, suc, ◌+◌, ◌-◌, ◌*◌, ◌^◌, ◌<◌, ◌≤◌}
use native.Mathlib.Omega.{arith}
use native.Mathlib.Decide.{dec_lt}
use lib.Pow.{pow_mono}
use lib.ListN.{length, take, drop, get_or, replicate, length-append, length-drop, drop_of_length-le}
use lib.Seq.{drop_at, take_at}
use borrow.Rule.Slice.PartMut.{mid_of, put_mid}
use Rattle.std.specs.List.{count_by}
use Rattle.std.proofs.lemmas.List.Recursion.{is_count_by}
use Rattle.lists.specs.Lists.{keep, padded, splice}
use Rattle.lists.proofs.Laws.{each_take, each_drop, keep_pass, keep_fail, take-padded, part-rest}
use Rattle.sets.specs.Sets.{has, bit}
use Rattle.sets.proofs.Laws.{true_has, bit_high}
use Rattle.logic.specs.Expressions.{code}
use Rattle.logic.specs.Decks.{Equation, base, total_nodes}
use Rattle.logic.specs.Pieces.{equations_of}
use Rattle.logic.proofs.Codes.{length-code}
use Rattle.decks.specs.declared.Equations.{Equations}
use Rattle.decks.specs.Stored.{lefts_of, codes}
use Rattle.decks.specs.Lent.{HoldsEquations, Hold}
use Rattle.decks.proofs.Stored.{equation, length_lefts, length-codes, codes_at, within, end_within, left_is, end_is, next_end, next_equation}
use Rattle.frames.specs.Hex.{pair}
use Rattle.frames.specs.Written.{equation_kind, node_pairs, frame, equation_frames}
use Rattle.frames.proofs.ExprLaws.{length_node_pairs}
use Rattle.writing.specs.Parts.{Nodes}
use Rattle.writing.proofs.Laws.{Wrote, three_parts, wrote_part, wrote_length, all_wrote}
use Rattle.equations.specs.Right.{right_nodes}

-- ---- one equation

pub equation_frame_lem : (left : ℕ) (nodes out₀ x y z : List ℕ) → x ≡ splice 0 (pair 3) out₀ → y ≡ splice 0 (pair left) (mid_of 2 (length x - 2) x)
    → z ≡ splice 0 (node_pairs nodes ++ (10 ∷ [])) (mid_of 4 (length (put_mid 2 (length x - 2) x y) - 4) (put_mid 2 (length x - 2) x y))
    → put_mid 4 (length (put_mid 2 (length x - 2) x y) - 4) (put_mid 2 (length x - 2) x y) z ≡ splice 0 (frame equation_kind (pair left ++ node_pairs nodes)) out₀
equation_frame_lem left nodes out₀ x y z ex ey ez = three_parts 2 4 (pair 3) (pair left) (node_pairs nodes ++ (10 ∷ [])) out₀ x y z ex refl ey refl ez

-- The variables of a set are below 64.
member_low : (vars left : ℕ) → vars < 2 ^ 64 → has vars left ≡ true → left < 64
member_low vars left h e =
    elim (dec_lt left 64) [
      | yes l ↦ l
      | no n ↦
          let b : bit vars left ≡ 1 = true_has vars left e in
          let p : 2 ^ 64 ≤ 2 ^ left = pow_mono {i = 64} {j = left} (omega arith) in
          absurd (omega (arith, b, bit_high vars left (omega (arith, p, h))))
    ]

pub member_fits : (vars left : ℕ) (b : Bool) → vars < 2 ^ 64 → b ≡ has vars left → b ≡ true → left < 256
member_fits vars left b h e t = omega (arith, member_low vars left h (sym e ∙ t))

length_equation_frame : (left : ℕ) (ns : List ℕ) → length (frame equation_kind (pair left ++ node_pairs ns)) ≡ 2 * length ns + 5
length_equation_frame left ns = omega (arith, length-append (pair left ++ node_pairs ns) (10 ∷ []), length_node_pairs ns)

-- ---- the right side of equation i

module _ (qs : List Equation) (e : Equations) (h : Hold qs e) where
  begin_is : (i : ℕ) → i < e.count → get_or (0 ∷ e.ends) i 0 ≡ total_nodes (take i qs)
  unfolding total_nodes
  begin_is zero k = refl
  begin_is (suc i) k = let s : i + 1 ≡ suc i = omega arith in end_is qs e.lefts e.ends e.nodes e.count i h (omega arith) ∙ ap (λ (j : ℕ). total_nodes (take j qs)) s

  module _ (i : ℕ) (k : i < e.count) where
    abbrev its : Equation
    its = equation qs i

    its_end : get_or e.ends i 0 ≡ get_or (0 ∷ e.ends) i 0 + length (code its.right)
    its_end =
        omega (
          arith,
          begin_is i k,
          end_is qs e.lefts e.ends e.nodes e.count i h k,
          next_end qs e.lefts e.ends e.nodes e.count i h k,
          length-code its.right,
        )

    pub end_there : i < length e.ends
    end_there = end_within qs e.lefts e.ends e.nodes e.count i h k

    pub right_rises : get_or (0 ∷ e.ends) i 0 ≤ get_or e.ends i 0
    right_rises = omega (arith, its_end)

    front : List ℕ
    front = codes (take i qs)

    behind : List ℕ
    behind = codes (drop (suc i) qs) ++ replicate (base.equation_nodes - length (codes qs)) 0

    nodes_split : e.nodes ≡ front ++ (code its.right ++ behind)
    unfolding front behind
    nodes_split =
        let zeros : List ℕ = replicate (base.equation_nodes - length (codes qs)) 0 in
        let rest : List ℕ = codes (drop (suc i) qs) in
        h.nodes_are
        ∙ ap (λ (l : List ℕ). l ++ zeros) (codes_at qs i (within qs e.lefts e.ends e.nodes e.count i h k))
        ∙ append_assoc (codes (take i qs)) (code its.right ++ rest) zeros
        ∙ ap (λ (l : List ℕ). codes (take i qs) ++ l) (append_assoc (code its.right) rest zeros)

    length-front : length front ≡ get_or (0 ∷ e.ends) i 0
    unfolding front
    length-front = length-codes (take i qs) ∙ sym (begin_is i k)

    pub right_within : get_or e.ends i 0 ≤ length e.nodes
    right_within =
        omega (
          arith,
          its_end,
          length-front,
          ap (λ (l : List ℕ). length l) nodes_split,
          length-append front (code its.right ++ behind),
          length-append (code its.right) behind,
        )

    pub right_is : right_nodes i e ≡ code its.right
    right_is =
        let from = get_or (0 ∷ e.ends) i 0 in
        let to = get_or e.ends i 0 in
        ap (λ (l : List ℕ). take (to - from) (drop from l)) nodes_split
        ∙ ap (take (to - from)) (drop_at front (code its.right ++ behind) from length-front)
        ∙ take_at (code its.right) behind (to - from) (omega (arith, its_end))

    pub left_its : get_or e.lefts i 0 ≡ its.left
    left_its = left_is qs e.lefts e.ends e.nodes e.count i h k

    next_its : drop i qs ≡ its ∷ drop (i + 1) qs
    next_its = next_equation qs e.lefts e.ends e.nodes e.count i h k

pub right_some : (i : ℕ) (e : Equations) → Nodes e.nodes → Nodes (right_nodes i e)
right_some i e ns = each_take (λ (n : ℕ). n < 266) _ (drop (get_or (0 ∷ e.ends) i 0) e.nodes) (each_drop (λ (n : ℕ). n < 266) (get_or (0 ∷ e.ends) i 0) e.nodes ns)

-- ---- the frames of the equations of a set

-- The frame of equation i.
abbrev pub frame_at : ℕ → Equations → List ℕ
frame_at i e = frame equation_kind (pair (get_or e.lefts i 0) ++ node_pairs (right_nodes i e))

abbrev frames : ℕ → List Equation → List ℕ
frames vars qs = equation_frames (equations_of vars qs)

module _ (vars : ℕ) (qs : List Equation) (e : Equations) (h : Hold qs e) (i : ℕ) (k : i < e.count) (b : Bool) (m : b ≡ has vars (get_or e.lefts i 0)) where
  of_set : has vars (equation qs i).left ≡ b
  of_set = ap (has vars) (sym (left_its qs e h i k)) ∙ sym m

  -- An equation of a variable of the set is written,
  pub frames_in : b ≡ true → frames vars (drop i qs) ≡ frame_at i e ++ frames vars (drop (i + 1) qs)
  unfolding equation_frames
  frames_in t =
      let q : Equation = equation qs i in
      let same : frame equation_kind (pair q.left ++ node_pairs (code q.right)) ≡ frame_at i e =
      ap (λ (v : ℕ). frame equation_kind (pair v ++ node_pairs (code q.right))) (sym (left_its qs e h i k))
      ∙ ap (λ (l : List ℕ). frame equation_kind (pair (get_or e.lefts i 0) ++ node_pairs l)) (sym (right_is qs e h i k)) in
      ap (frames vars) (next_its qs e h i k)
      ∙ ap equation_frames (keep_pass (λ (r : Equation). has vars r.left) q (drop (i + 1) qs) (of_set ∙ t))
      ∙ ap (λ (l : List ℕ). l ++ frames vars (drop (i + 1) qs)) same

  -- and one of another is not.
  pub frames_out : b ≡ false → frames vars (drop i qs) ≡ frames vars (drop (i + 1) qs)
  frames_out f =
      ap (frames vars) (next_its qs e h i k) ∙ ap equation_frames (keep_fail (λ (r : Equation). has vars r.left) (equation qs i) (drop (i + 1) qs) (of_set ∙ f))

frames_none : (vars : ℕ) (qs : List Equation) (e : Equations) (i : ℕ) → Hold qs e → e.count ≤ i → frames vars (drop i qs) ≡ []
unfolding equation_frames keep
frames_none vars qs e i h k = ap (frames vars) (drop_of_length-le qs (omega (arith, h.count_is)))

-- Of the equations the frames of those of the set are written before equation i.
abbrev pub EquationsTo : ℕ → Equations → ℕ → ℕ → List ℕ → List ℕ → Type 0
EquationsTo vars e i used out₀ out = (qs : List Equation) → Hold qs e → Wrote (frames vars qs) (frames vars (drop i qs)) used out₀ out

module _ (vars : ℕ) (e : Equations) where
  module _ (i used : ℕ) (out₀ out : List ℕ) (t : EquationsTo vars e i used out₀ out) where
    module _ (qs : List Equation) (h : Hold qs e) (room : length (frames vars qs) ≤ length out₀) (same : length out ≡ length out₀) where
      -- What is written is within the buffer.
      pub used-within : used ≤ length out
      used-within = omega (arith, room, same, wrote_length _ _ used out₀ out (t qs h))

      module _ (k : i < e.count) (b : Bool) (m : b ≡ has vars (get_or e.lefts i 0)) (y : b ≡ true) where
        -- The next frame is within what is free.
        pub next-within : used + (2 * length (right_nodes i e) + 5) ≤ length out
        next-within =
            omega (
              arith,
              room,
              same,
              wrote_length _ _ used out₀ out (t qs h),
              ap (λ (l : List ℕ). length l) (frames_in vars qs e h i k b m y),
              length-append (frame_at i e) (frames vars (drop (i + 1) qs)),
              length_equation_frame (get_or e.lefts i 0) (right_nodes i e),
            )

        pub next-free : 2 * length (right_nodes i e) + 5 ≤ length (mid_of used (length out - used) out)
        next-free = omega (arith, next-within, ap (λ (l : List ℕ). length l) (part-rest used out), length-drop used out)

    module _ (k : i < e.count) (b : Bool) (m : b ≡ has vars (get_or e.lefts i 0)) where
      pub next_in : (ns ys : List ℕ) (r : ℕ) → b ≡ true → ns ≡ right_nodes i e → r ≡ 2 * length ns + 5
          → ys ≡ splice 0 (frame equation_kind (pair (get_or e.lefts i 0) ++ node_pairs ns)) (mid_of used (length out - used) out)
          → EquationsTo vars e (i + 1) (used + r) out₀ (put_mid used (length out - used) out ys)
      next_in ns ys r y en er ey qs h =
          let left = get_or e.lefts i 0 in
          let w : Wrote (frames vars qs) (frames vars (drop i qs)) used out₀ out = t qs h in
          let more : frames vars (drop i qs) ≡ frame equation_kind (pair left ++ node_pairs ns) ++ frames vars (drop (i + 1) qs) =
          frames_in vars qs e h i k b m y ∙ ap (λ (l : List ℕ). frame equation_kind (pair left ++ node_pairs l) ++ frames vars (drop (i + 1) qs)) (sym en) in
          rw (er ∙ sym (length_equation_frame left ns))
          (wrote_part (frames vars qs) (frames vars (drop (i + 1) qs)) used out₀ out (frame equation_kind (pair left ++ node_pairs ns)) ys (rw more at w) ey)

      pub next_out : b ≡ false → EquationsTo vars e (i + 1) used out₀ out
      next_out f qs h = let w : Wrote (frames vars qs) (frames vars (drop i qs)) used out₀ out = t qs h in rw (frames_out vars qs e h i k b m f) at w

    module _ (k : e.count ≤ i) (qs : List Equation) (h : Hold qs e) where
      pub equations-bytes : used ≡ length (frames vars qs)
      equations-bytes = omega (arith, wrote_length _ _ used out₀ out (t qs h), ap (λ (l : List ℕ). length l) (frames_none vars qs e i h k))

      pub equations_wrote : out ≡ splice 0 (frames vars qs) out₀
      equations_wrote = all_wrote _ _ used out₀ out (t qs h) (frames_none vars qs e i h k)

-- ---- counts and sizes

-- Of the equations the bytes of those of the set are counted before equation i.
abbrev pub SizeTo : ℕ → Equations → ℕ → ℕ → Type 0
SizeTo vars e i n = (qs : List Equation) (ns : List ℕ) → HoldsEquations qs e.lefts e.ends ns e.count → n + length (frames vars (drop i qs)) ≡ length (frames vars qs)

-- The size needs no nodes: whatever they are.
abbrev with_nodes : Equations → List ℕ → Equations
with_nodes e ns = record { count = e.count; lefts = e.lefts; ends = e.ends; nodes = ns }

pub rises_somewhere : (e : Equations) (i : ℕ) → ((qs : List Equation) × (ns : List ℕ) × HoldsEquations qs e.lefts e.ends ns e.count) → i < e.count → get_or (0 ∷ e.ends) i 0 ≤ get_or e.ends i 0
rises_somewhere e i (qs, ns, h) k = right_rises qs (with_nodes e ns) h i k

module _ (vars : ℕ) (e : Equations) (i n : ℕ) (t : SizeTo vars e i n) where
  module _ (k : i < e.count) (b : Bool) (m : b ≡ has vars (get_or e.lefts i 0)) where
    pub size_in : (from to : ℕ) → b ≡ true → from ≡ get_or (0 ∷ e.ends) i 0 → to ≡ get_or e.ends i 0 → SizeTo vars e (i + 1) (n + (2 * (to - from) + 5))
    size_in from to y ef et qs ns h =
        let e' = with_nodes e ns in
        omega (
          arith,
          t qs ns h,
          its_end qs e' h i k,
          ap (λ (l : List ℕ). length l) (right_is qs e' h i k),
          ap (λ (l : List ℕ). length l) (frames_in vars qs e' h i k b m y),
          length-append (frame_at i e') (frames vars (drop (i + 1) qs)),
          length_equation_frame (get_or e.lefts i 0) (right_nodes i e'),
        )

    pub size_out : b ≡ false → SizeTo vars e (i + 1) n
    size_out f qs ns h = ap (λ (l : List ℕ). n + length l) (sym (frames_out vars qs (with_nodes e ns) h i k b m f)) ∙ t qs ns h

  pub size-done : e.count ≤ i → (qs : List Equation) (ns : List ℕ) → HoldsEquations qs e.lefts e.ends ns e.count → n ≡ length (frames vars qs)
  size-done k qs ns h = omega (arith, t qs ns h, ap (λ (l : List ℕ). length l) (frames_none vars qs (with_nodes e ns) i h k))

-- A count by the library's word.
pub counted : (t : ℕ → Bool) (l : List ℕ) → length (keep t l) ≡ count_by t l
unfolding keep
counted t l = is_count_by (λ (m : List ℕ). length (keep t m)) t refl (λ x xs. go x xs (t x) refl) l
  where
    go : (x : ℕ) (xs : List ℕ) (b : Bool) → t x ≡ b → length (keep t (x ∷ xs)) ≡ cond (t x) (1 + length (keep t xs)) (length (keep t xs))
    go x xs true e = ap (λ (m : List ℕ). length m) (keep_pass t x xs e) ∙ rw e (omega arith)
    go x xs false e = ap (λ (m : List ℕ). length m) (keep_fail t x xs e) ∙ rw e refl

length-keep_lefts : (vars : ℕ) (qs : List Equation) → length (keep (has vars) (lefts_of qs)) ≡ length (equations_of vars qs)
unfolding keep
length-keep_lefts vars [] = refl
length-keep_lefts vars (q ∷ qs) = go (has vars q.left) refl (length-keep_lefts vars qs)
  where
    go : (b : Bool) → has vars q.left ≡ b → length (keep (has vars) (lefts_of qs)) ≡ length (equations_of vars qs)
        → length (keep (has vars) (lefts_of (q ∷ qs))) ≡ length (equations_of vars (q ∷ qs))
    go true e h =
        ap (λ (l : List ℕ). length l) (keep_pass (has vars) q.left (lefts_of qs) e)
        ∙ ap suc h
        ∙ sym (ap (λ (l : List Equation). length l) (keep_pass (λ (r : Equation). has vars r.left) q qs e))
    go false e h =
        ap (λ (l : List ℕ). length l) (keep_fail (has vars) q.left (lefts_of qs) e)
        ∙ h
        ∙ sym (ap (λ (l : List Equation). length l) (keep_fail (λ (r : Equation). has vars r.left) q qs e))

-- The variables of the set on the left sides are as many as its equations.
pub count_is_equations : (vars : ℕ) (qs : List Equation) (e : Equations) → Hold qs e → length (keep (has vars) (take e.count e.lefts)) ≡ length (equations_of vars qs)
count_is_equations vars qs e h =
    let long : e.count ≡ length (lefts_of qs) = omega (arith, h.count_is, length_lefts qs) in
    ap (λ (l : List ℕ). length (keep (has vars) l))
    (ap (λ (l : List ℕ). take e.count l) h.lefts_are ∙ ap (λ (k : ℕ). take k (padded base.equations (lefts_of qs))) long ∙ take-padded base.equations (lefts_of qs))
    ∙ length-keep_lefts vars qs
