-- Laws of a deck in memory: its table and its conjuncts, and what is answered.
use mathlib.Core.Path.{◌≡◌, sym, ap, ◌∙◌}
use mathlib.Core.List.{List, [], ◌∷◌, map, append-nil}
use Prim.Native.Nat.{ℕ, suc, ◌<◌, ◌≤◌}
use native.Mathlib.Omega.{arith}
use borrow.Author.Tests.{lt-ltb, le-ltb}
use lib.ListN.{length, take}
use Rattle.std.specs.Prelude.{Ok, Err, refl}
use Rattle.lists.specs.Lists.{splice}
use Rattle.logic.specs.Expressions.{Expr, code, Narrow}
use Rattle.logic.specs.Decks.{Equation, Deck, Accepted, base}
use Rattle.logic.specs.Pieces.{split, piece, pieces}
use Rattle.logic.proofs.Codes.{written-narrow, length-code}
use Rattle.decks.specs.declared.Rows.{Rows}
use Rattle.decks.specs.declared.Deck.{Deck as Stored}
use Rattle.decks.specs.declared.Refusal.TheVariants.{NoRoom}
use Rattle.decks.specs.Stored.{stored}
use Rattle.decks.specs.Lent.{in_rows}
use Rattle.decks.proofs.Stored.{stored_rows, stored_property}
use Rattle.cones.specs.Dependencies.{Given, table}
use Rattle.cones.proofs.Answered.{accepted_given}
use Rattle.conjuncts.specs.declared.Span.{Span}
use Rattle.conjuncts.specs.Conjuncts.{bounds, Coded}
use Rattle.conjuncts.proofs.Laws.{length-bounds, split-most, bounds_bounded}
use Rattle.pieces.specs.Laid.{Bound}
use Rattle.pieces.specs.Reduced.{piece_bytes, reduced, reduced_into}

module _ (deck : Stored) where
  abbrev Whole : Deck → Type 0
  Whole D = Accepted base D × (deck ≡ stored D)

  property-narrow : (D : Deck) → Accepted base D → Narrow D.property
  property-narrow D a = written-narrow 64 D.vars D.property (omega arith) a.vars_in a.property_in

  -- The rows hold equations that a deck may have.
  abbrev Holds : Rows → List Equation → Type 0
  Holds rows qs = Given qs rows.lefts.now rows.ends.now rows.nodes.now rows.count

  module _ (rows : Rows) (r : in_rows rows ≡ deck.equations) where
    its_given : (D : Deck) → Accepted base D → deck ≡ stored D → Holds rows D.equations
    its_given D a e = accepted_given D a _ _ _ _ (stored_rows D deck e rows r)

    pub given_some : (D : Deck) × Accepted base D × (deck ≡ stored D) → (qs : List Equation) × Holds rows qs
    given_some (D, a, e) = (D.equations, its_given D a e)

  module _ (property : List ℕ) (q : property ≡ take deck.size deck.property) where
    property_coded : (D : Deck) → Accepted base D → deck ≡ stored D → Coded D.property property 0 [] 64
    property_coded D a e =
        let same : property ≡ code D.property = q ∙ stored_property D deck e in
        record {
          narrow = property-narrow D a;
          is_code = same;
          fits = omega (arith, ap length same, length-code D.property, a.property-nodes);
          room = omega (arith, length-bounds 0 D.property, split-most D.property, a.property-nodes);
        }

    pub coded_some : (D : Deck) × Accepted base D × (deck ≡ stored D) → (x : Expr) × Coded x property 0 [] 64
    coded_some (D, a, e) = (D.property, property_coded D a e)

    -- The table and the spans worked out.
    module _ (deps : List ℕ) (spans held : List Span) (rows : Rows) (r : in_rows rows ≡ deck.equations) (t : (qs : List Equation) → Holds rows qs → deps ≡ table qs)
        (h : spans ≡ held) (s : (x : Expr) → Coded x property 0 [] 64 → held ≡ bounds 0 x) where
      its_spans : (D : Deck) → Accepted base D → deck ≡ stored D → spans ≡ bounds 0 D.property
      its_spans D a e = h ∙ s D.property (property_coded D a e)

      spans_counted : (D : Deck) → Accepted base D → deck ≡ stored D → length spans ≡ length (split D.property)
      spans_counted D a e = ap length (its_spans D a e) ∙ length-bounds 0 D.property

      pub its_bound : (D : Deck) → Accepted base D → deck ≡ stored D → Bound D deck deps spans
      its_bound D a e =
          record {
            laid = record { accepted = a; deck_is = e; table_is = t D.equations (its_given rows r D a e) };
            conjuncts = rw (its_spans D a e) (bounds_bounded (code D.property) 0 D.property (property-narrow D a, ([], sym (append-nil (code D.property)))));
            count_is = spans_counted D a e;
          }

      pub bound_some : (D : Deck) × Accepted base D × (deck ≡ stored D) → (D : Deck) × Bound D deck deps spans
      bound_some (D, a, e) = (D, its_bound D a e)

      pub room-some : (needed room : ℕ) → ((D : Deck) → Bound D deck deps spans → needed ≡ length (piece_bytes D)) → needed ≤ room → (D : Deck) × Accepted base D × (deck ≡ stored D)
          → (D : Deck) × Bound D deck deps spans × (length (piece_bytes D) ≤ room)
      room-some needed room f k (D, a, e) = (D, its_bound D a e, omega (arith, f D (its_bound D a e), k))

      pub pieces_counted : (D : Deck) → Accepted base D → deck ≡ stored D → length spans ≡ length (pieces D)
      unfolding pieces
      pieces_counted D a e = spans_counted D a e ∙ sym (length-map (split D.property))
        where
          length-map : (es : List Expr) → length (map (piece D) es) ≡ length es
          length-map [] = refl
          length-map (x ∷ es) = ap (λ (k : ℕ). suc k) (length-map es)

-- ---- what is answered

module _ (D : Deck) (needed : ℕ) (out : List ℕ) (q : needed ≡ length (piece_bytes D)) where
  pub room-there : needed ≤ length out → length (piece_bytes D) ≤ length out
  room-there h = omega (arith, q, h)

  pub refused_answer : length out < needed → Err (NoRoom needed) ≡ reduced D (length out)
  unfolding reduced
  refused_answer h = rw q (sym (simp (lt-ltb (length out) (length (piece_bytes D)) (omega (arith, q, h)), reduced)))

  pub refused_buffer : length out < needed → out ≡ reduced_into D out
  unfolding reduced_into
  refused_buffer h = sym (simp (lt-ltb (length out) (length (piece_bytes D)) (omega (arith, q, h)), reduced_into))

  pub fine_answer : (count n : ℕ) → needed ≤ length out → count ≡ length (pieces D) → n ≡ length (piece_bytes D) → Ok (record { pieces = count; bytes = n }) ≡ reduced D (length out)
  unfolding reduced
  fine_answer count n h k m = rw (k, m) (sym (simp (le-ltb (length out) (length (piece_bytes D)) (omega (arith, q, h)), reduced)))

  pub fine_buffer : (last : List ℕ) → needed ≤ length out → last ≡ splice 0 (piece_bytes D) out → last ≡ reduced_into D out
  unfolding reduced_into
  fine_buffer last h o = o ∙ sym (simp (le-ltb (length out) (length (piece_bytes D)) (omega (arith, q, h)), reduced_into))
