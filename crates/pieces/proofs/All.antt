-- Laws of all pieces, one behind the other.
use mathlib.Core.Path.{◌≡◌, refl, sym, ap, ap₂, ◌∙◌}
use mathlib.Core.Bool.{false}
use mathlib.Core.List.{List, [], ◌∷◌, ◌++◌, map, map-append, append-nil, append_assoc}
use Prim.Native.Nat.{ℕ, zero, suc, ◌+◌, ◌-◌, ◌*◌, ◌<◌, ◌≤◌}
use native.Mathlib.Omega.{arith}
use native.Mathlib.Numerals.{add-one}
use mir.Val.{Fits}
use mir.Syntax.{w64}
use lib.ListN.{length, take, drop, get_or, length-append, length-drop, take-append-drop}
use lib.Seq.{take-suc, take_all}
use borrow.Rule.Slice.PartMut.{mid_of, put_mid}
use Rattle.lists.specs.Lists.{splice}
use Rattle.lists.proofs.Laws.{each_get_or, splice_nothing, splice-splice, splice-rest, part-rest}
use Rattle.sets.specs.Sets.{◌⊆◌}
use Rattle.sets.proofs.Laws.{subset_trans}
use Rattle.logic.specs.Expressions.{Expr, Const, code, written}
use Rattle.logic.specs.Decks.{Deck, Accepted, base}
use Rattle.logic.specs.Pieces.{split, piece, pieces}
use Rattle.logic.proofs.Pieces.{PartOf, split_parts, piece-accepted}
use Rattle.frames.specs.Written.{deck_frames}
use Rattle.frames.proofs.SizeLaws.{deck-within-text}
use Rattle.decks.specs.declared.Deck.{Deck as Stored}
use Rattle.conjuncts.specs.declared.Span.{Span}
use Rattle.conjuncts.specs.Conjuncts.{no_span}
use Rattle.conjuncts.proofs.Laws.{BoundsAt, bounded_at, split-most}
use Rattle.pieces.specs.Laid.{Placed, Bound}
use Rattle.pieces.specs.Reduced.{all_frames, piece_bytes}

-- ---- the first pieces of a deck

pub all_frames_append : (ds es : List Deck) → all_frames (ds ++ es) ≡ all_frames ds ++ all_frames es
unfolding all_frames
all_frames_append [] es = refl
all_frames_append (d ∷ ds) es = ap (λ (l : List ℕ). deck_frames d ++ l) (all_frames_append ds es) ∙ sym (append_assoc (deck_frames d) (all_frames ds) (all_frames es))

-- The bytes of the first i pieces.
abbrev pub first_bytes : Deck → ℕ → List ℕ
first_bytes D i = all_frames (map (piece D) (take i (split D.property)))

-- Conjunct i of the property.
abbrev pub conjunct : Deck → ℕ → Expr
conjunct D i = get_or (split D.property) i (Const false)

pub none_yet : (D : Deck) → first_bytes D 0 ≡ []
unfolding all_frames
none_yet D = refl

pub one_more : (D : Deck) (i : ℕ) → i < length (split D.property) → first_bytes D (i + 1) ≡ first_bytes D i ++ deck_frames (piece D (conjunct D i))
unfolding all_frames
one_more D i h =
    ap (λ (es : List Expr). all_frames (map (piece D) es)) (ap (λ (k : ℕ). take k (split D.property)) (add-one i) ∙ take-suc (split D.property) i (Const false) h)
    ∙ ap all_frames (map-append (piece D) (take i (split D.property)) (conjunct D i ∷ []))
    ∙ all_frames_append (map (piece D) (take i (split D.property))) (piece D (conjunct D i) ∷ [])
    ∙ ap (λ (l : List ℕ). first_bytes D i ++ l) (append-nil (deck_frames (piece D (conjunct D i))))

pub all_of_them : (D : Deck) (i : ℕ) → length (split D.property) ≤ i → first_bytes D i ≡ piece_bytes D
unfolding pieces
all_of_them D i h = ap (λ (es : List Expr). all_frames (map (piece D) es)) (take_all i (split D.property) h)

first-within-all : (D : Deck) (i : ℕ) → length (first_bytes D i) ≤ length (piece_bytes D)
unfolding pieces
first-within-all D i =
    let es : List Expr = split D.property in
    omega (
      arith,
      length-append (first_bytes D i) (all_frames (map (piece D) (drop i es))),
      ap length (all_frames_append (map (piece D) (take i es)) (map (piece D) (drop i es))),
      ap (λ (l : List Deck). length (all_frames l)) (map-append (piece D) (take i es) (drop i es)),
      ap (λ (l : List Expr). length (all_frames (map (piece D) l))) (take-append-drop i es),
    )

-- ---- an accepted deck's conjuncts

module _ (D : Deck) (a : Accepted base D) where
  conjunct_part : (i : ℕ) → i < length (split D.property) → PartOf D.property (conjunct D i)
  conjunct_part i h = each_get_or (PartOf D.property) (split D.property) i (Const false) (split_parts D.property) h

  conjunct_inside : (i : ℕ) → i < length (split D.property) → written (conjunct D i) ⊆ D.vars
  conjunct_inside i h = subset_trans (written (conjunct D i)) (written D.property) D.vars (conjunct_part i h).writes a.property_in

  pub piece-within : (i : ℕ) → i < length (split D.property) → length (deck_frames (piece D (conjunct D i))) ≤ 64800
  piece-within i h =
      let p = conjunct_part i h in
      deck-within-text (piece D (conjunct D i)) (piece-accepted base D (conjunct D i) a (conjunct_inside i h) (omega (arith, p.fewer, a.property-nodes)) (omega (arith, p.shallower, a.property-levels)))

  first-within : (i : ℕ) → i ≤ length (split D.property) → length (first_bytes D i) ≤ 64800 * i
  first-within zero h = omega (arith, ap length (none_yet D))
  first-within (suc i) h =
      let e : suc i ≡ i + 1 = omega arith in
      omega (
        arith,
        ap (λ (k : ℕ). length (first_bytes D k)) e,
        ap length (one_more D i (omega arith)),
        length-append (first_bytes D i) (deck_frames (piece D (conjunct D i))),
        piece-within i (omega arith),
        first-within i (omega arith),
      )

  pub count-few : length (split D.property) ≤ 64
  count-few = omega (arith, split-most D.property, a.property-nodes)

-- ---- in memory

module _ (deck : Stored) (deps : List ℕ) (spans : List Span) where
  abbrev pub Here : Deck → Type 0
  Here D = Bound D deck deps spans

  -- The bytes of the first i pieces are counted.
  abbrev pub SizeTo : ℕ → ℕ → Type 0
  SizeTo i n = (D : Deck) → Here D → n ≡ length (first_bytes D i)

  -- The buffer holds the first i pieces, in this many bytes.
  abbrev pub Filling : List ℕ → ℕ → ℕ → List ℕ → Type 0
  Filling out₀ i used out = (D : Deck) → Here D → length (piece_bytes D) ≤ length out₀ → (used ≡ length (first_bytes D i)) × (out ≡ splice 0 (first_bytes D i) out₀)

  pub size_start : SizeTo 0 0
  size_start D b = ap length (sym (none_yet D))

  pub filling_start : (out : List ℕ) → Filling out 0 0 out
  filling_start out D b h = (size_start D b, sym (ap (λ (l : List ℕ). splice 0 l out) (none_yet D) ∙ splice_nothing 0 out))

  pub size-done : (i n : ℕ) → length spans ≤ i → SizeTo i n → (D : Deck) → Here D → n ≡ length (piece_bytes D)
  size-done i n h s D b = s D b ∙ ap length (all_of_them D i (omega (arith, b.count_is)))

  pub filling_done : (out₀ : List ℕ) (i used : ℕ) (out : List ℕ) → length spans ≤ i → Filling out₀ i used out
      → (D : Deck) → Here D → length (piece_bytes D) ≤ length out₀ → (used ≡ length (piece_bytes D)) × (out ≡ splice 0 (piece_bytes D) out₀)
  filling_done out₀ i used out h s D b room =
      let all : first_bytes D i ≡ piece_bytes D = all_of_them D i (omega (arith, b.count_is)) in
      ((s D b room).0 ∙ ap length all, (s D b room).1 ∙ ap (λ (l : List ℕ). splice 0 l out₀) all)

  module _ (i : ℕ) (h : i < length spans) (span : Span) (e : span ≡ get_or spans i no_span) where
    placed : (D : Deck) → Here D → Placed D (conjunct D i) deck deps span
    placed D b =
        let few : i < length (split D.property) = omega (arith, b.count_is) in
        let at : BoundsAt (code D.property) spans (conjunct D i) i = bounded_at (code D.property) spans (split D.property) i b.conjuncts few in
        rw e (
        record {
          laid = b.laid;
          inside = conjunct_inside D b.laid.accepted i few;
          in_order = at.in_order;
          to_in = at.within;
          is_code = at.bounded;
        }
        )

    pub placed-some : (D : Deck) × Here D → (D : Deck) × (x : Expr) × Placed D x deck deps span
    placed-some (D, b) = (D, conjunct D i, placed D b)

    -- One piece counted.
    module _ (n r : ℕ) (g : (D : Deck) (x : Expr) → Placed D x deck deps span → r ≡ length (deck_frames (piece D x))) (s : SizeTo i n) where
      pub size_fits : (D : Deck) × Here D → Fits w64 (n + r)
      size_fits (D, b) =
          let a : Accepted base D = b.laid.accepted in
          let few : i < length (split D.property) = omega (arith, b.count_is) in
          omega (arith, s D b, g D (conjunct D i) (placed D b), first-within D a i (omega (arith, few)), piece-within D a i few, count-few D a)

      pub size_on : SizeTo (i + 1) (n + r)
      size_on D b =
          omega (
            arith,
            s D b,
            g D (conjunct D i) (placed D b),
            ap length (one_more D i (omega (arith, b.count_is))),
            length-append (first_bytes D i) (deck_frames (piece D (conjunct D i))),
          )

    -- One piece written.
    module _ (out₀ : List ℕ) (used : ℕ) (out : List ℕ) (long : length out ≡ length out₀) (s : Filling out₀ i used out) where
      -- The next piece has room behind the bytes used.
      next_within : (D : Deck) → Here D → length (piece_bytes D) ≤ length out₀ → used + length (deck_frames (piece D (conjunct D i))) ≤ length out
      next_within D b room =
          omega (
            arith,
            long,
            room,
            (s D b room).0,
            first-within-all D (i + 1),
            ap length (one_more D i (omega (arith, b.count_is))),
            length-append (first_bytes D i) (deck_frames (piece D (conjunct D i))),
          )

      pub used-within : (D : Deck) × Here D × (length (piece_bytes D) ≤ length out₀) → used ≤ length out
      used-within (D, b, room) = omega (arith, next_within D b room)

      pub free-some : (D : Deck) × Here D × (length (piece_bytes D) ≤ length out₀)
          → (D : Deck) × (x : Expr) × Placed D x deck deps span × (length (deck_frames (piece D x)) ≤ length (mid_of used (length out - used) out))
      free-some (D, b, room) = (D, conjunct D i, placed D b, omega (arith, next_within D b room, ap length (part-rest used out), length-drop used out))

      module _ (n : ℕ) (y : List ℕ)
          (g : (D : Deck) (x : Expr) → Placed D x deck deps span
          → (n ≡ length (deck_frames (piece D x))) × (y ≡ splice 0 (deck_frames (piece D x)) (mid_of used (length out - used) out))) where
        pub used-fits : (D : Deck) × Here D × (length (piece_bytes D) ≤ length out₀) → Fits w64 (used + n)
        used-fits (D, b, room) =
            let a : Accepted base D = b.laid.accepted in
            let few : i < length (split D.property) = omega (arith, b.count_is) in
            omega (arith, (s D b room).0, (g D (conjunct D i) (placed D b)).0, first-within D a i (omega (arith, few)), piece-within D a i few, count-few D a)

        pub filling_on : Filling out₀ (i + 1) (used + n) (put_mid used (length out - used) out y)
        filling_on D b room =
            let p : Deck = piece D (conjunct D i) in
            let done = g D (conjunct D i) (placed D b) in
            let before = s D b room in
            let behind : used ≡ 0 + length (first_bytes D i) = omega (arith, before.0) in
            let more : first_bytes D (i + 1) ≡ first_bytes D i ++ deck_frames p = one_more D i (omega (arith, b.count_is)) in (
              omega (arith, before.0, done.0, ap length more, length-append (first_bytes D i) (deck_frames p)),
              splice-rest used (deck_frames p) out y done.1
                  ∙ ap₂ (λ (k : ℕ) (l : List ℕ). splice k (deck_frames p) l) behind before.1
                  ∙ splice-splice 0 (first_bytes D i) (deck_frames p) out₀ (omega arith)
                  ∙ ap (λ (l : List ℕ). splice 0 l out₀) (sym more),
            )
