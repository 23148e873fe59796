-- Laws of one piece: its cone, its initial states and its frames.
use mathlib.Core.Path.{◌≡◌, refl, ap, ◌∙◌}
use mathlib.Core.List.{List}
use Prim.Native.Nat.{ℕ, zero, suc, ◌-◌, ◌≤◌, ◌<◌}
use native.Mathlib.Omega.{arith}
use lib.ListN.{length, take, drop, length-take, length-drop}
use Rattle.lists.specs.Lists.{splice, part}
use Rattle.lists.proofs.Laws.{each_take, each_drop}
use Rattle.logic.specs.Expressions.{Expr, code}
use Rattle.logic.specs.Decks.{Equation, Deck, base}
use Rattle.logic.specs.Cones.{cone}
use Rattle.logic.specs.Pieces.{projected, piece}
use Rattle.logic.proofs.Codes.{written_below}
use Rattle.decks.specs.declared.Rows.{Rows}
use Rattle.decks.specs.declared.Deck.{Deck as Stored}
use Rattle.decks.specs.Lent.{in_rows}
use Rattle.decks.proofs.Stored.{stored_inits, stored_property}
use Rattle.terms.specs.Nodes.{variables_of}
use Rattle.terms.proofs.Trees.{variables-code}
use Rattle.cones.specs.Dependencies.{rows, table}
use Rattle.frames.specs.Written.{deck_frames}
use Rattle.texts.specs.Lent.{Lent, deck_of, frames_of}
use Rattle.texts.proofs.Laws.{stored_lent}
use Rattle.conjuncts.specs.declared.Span.{Span}
use Rattle.pieces.specs.declared.Kept.{Kept}
use Rattle.pieces.specs.Laid.{Placed, Keeps}

length-rows : (qs : List Equation) (n v : ℕ) → length (rows qs n v) ≡ n
unfolding rows
length-rows qs zero v = refl
length-rows qs (suc n) v = ap (λ (k : ℕ). suc k) (length-rows qs n (suc v))

module _ (deck : Stored) (deps : List ℕ) (span : Span) where
  abbrev Here : Deck → Expr → Type 0
  Here D e = Placed D e deck deps span

  pub deps_long : (D : Deck) × (e : Expr) × Here D e → length deps ≡ base.variables
  deps_long (D, e, p) = ap length p.laid.table_is ∙ length-rows D.equations 64 0

  -- The nodes of the property as they are lent.
  module _ (property : List ℕ) (q : property ≡ take deck.size deck.property) where
    its-code : (D : Deck) (e : Expr) → Here D e → property ≡ code D.property
    its-code D e p = q ∙ stored_property D deck p.laid.deck_is

    its-part : (D : Deck) (e : Expr) → Here D e → part span.from span.to property ≡ code e
    its-part D e p = ap (λ (l : List ℕ). part span.from span.to l) (its-code D e p) ∙ p.is_code

    pub span_within : (D : Deck) × (e : Expr) × Here D e → span.to ≤ length property
    span_within (D, e, p) = omega (arith, p.to_in, ap length (its-code D e p))

    -- The cone worked out, and the states seen on it.
    pub keeps : (k : Kept) (w : ℕ) (inits : List ℕ) → w ≡ variables_of (part span.from span.to property) → ((qs : List Equation) → deps ≡ table qs → k.cone ≡ cone qs w)
        → inits ≡ take deck.initials deck.inits → k.count ≤ length inits → take k.count k.states ≡ projected k.cone inits → (D : Deck) (e : Expr) → Here D e → Keeps D e k
    keeps k w inits h f i l t D e p =
        record {
          cone_is =
              f D.equations p.laid.table_is
              ∙ ap (cone D.equations) (h ∙ ap variables_of (its-part D e p) ∙ variables-code e (written_below 64 D.vars e p.laid.accepted.vars_in p.inside));
          few = omega (arith, l, ap length (i ∙ stored_inits D deck p.laid.deck_is), p.laid.accepted.inits-most);
          states_are = t ∙ ap (projected k.cone) (i ∙ stored_inits D deck p.laid.deck_is);
        }

    module _ (k : Kept) (kept : (D : Deck) (e : Expr) → Here D e → Keeps D e k) (states : List ℕ) (these : states ≡ take k.count k.states) where
      its_frames : (D : Deck) (e : Expr) → Here D e → frames_of k.cone states D.equations e ≡ deck_frames (piece D e)
      unfolding piece
      its_frames D e p =
          let its = kept D e p in
          ap (λ (ss : List ℕ). deck_frames (deck_of k.cone ss D.equations e)) (these ∙ its.states_are)
          ∙ ap (λ (c : ℕ). deck_frames (deck_of c (projected c D.inits) D.equations e)) its.cone_is

      module _ (conjunct : List ℕ) (r : conjunct ≡ part span.from span.to property) (rows : Rows) (these_rows : in_rows rows ≡ deck.equations) where
        its_lent : (D : Deck) (e : Expr) → Here D e → Lent D.equations e states rows conjunct
        its_lent D e p =
            let whole = stored_lent D p.laid.accepted deck p.laid.deck_is (take deck.initials deck.inits) property rows refl q these_rows in
            record {
              holds-equations = whole.holds-equations;
              holds-property = r ∙ its-part D e p;
              nodes_in = whole.nodes_in;
              property_in = rw r (each_take (λ (n : ℕ). n < 266) (span.to - span.from) (drop span.from property) (each_drop (λ (n : ℕ). n < 266) span.from property whole.property_in));
              initials-most = omega (arith, (kept D e p).few, ap length these, length-take k.count k.states);
              equations-most = whole.equations-most;
              property-most = omega (arith, whole.property-most, ap length r, length-take (span.to - span.from) (drop span.from property), length-drop span.from property);
            }

        pub lent_some : (D : Deck) × (e : Expr) × Here D e → (qs : List Equation) × (x : Expr) × Lent qs x states rows conjunct
        lent_some (D, e, p) = (D.equations, e, its_lent D e p)

        pub room-some : (room : ℕ) → (D : Deck) × (e : Expr) × Here D e × (length (deck_frames (piece D e)) ≤ room)
            → (qs : List Equation) × (x : Expr) × Lent qs x states rows conjunct × (length (frames_of k.cone states qs x) ≤ room)
        room-some room (D, e, p, h) = (D.equations, e, its_lent D e p, omega (arith, h, ap length (its_frames D e p)))

        pub piece_counted : (n : ℕ) → ((qs : List Equation) (x : Expr) → Lent qs x states rows conjunct → n ≡ length (frames_of k.cone states qs x))
            → (D : Deck) (e : Expr) → Here D e → n ≡ length (deck_frames (piece D e))
        piece_counted n g D e p = g D.equations e (its_lent D e p) ∙ ap length (its_frames D e p)

        pub piece_wrote : (n : ℕ) (out₀ out : List ℕ)
            → ((qs : List Equation) (x : Expr) → Lent qs x states rows conjunct → (n ≡ length (frames_of k.cone states qs x)) × (out ≡ splice 0 (frames_of k.cone states qs x) out₀))
            → (D : Deck) (e : Expr) → Here D e → (n ≡ length (deck_frames (piece D e))) × (out ≡ splice 0 (deck_frames (piece D e)) out₀)
        piece_wrote n out₀ out g D e p =
            let done = g D.equations e (its_lent D e p) in (
              done.0 ∙ ap length (its_frames D e p),
              done.1 ∙ ap (λ (l : List ℕ). splice 0 l out₀) (its_frames D e p),
            )
