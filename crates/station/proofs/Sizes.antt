-- The lengths of a buffer that always suffice: for a deck, and for all its pieces.
use mathlib.Core.Path.{◌≡◌, refl, sym, ap, ◌∙◌}
use mathlib.Core.List.{List, [], ◌∷◌, ◌++◌, map}
use Prim.Native.Nat.{ℕ, ◌+◌, ◌*◌, ◌≤◌}
use native.Mathlib.Omega.{arith}
use lib.ListN.{length, length-append, length-map}
use Rattle.lists.specs.Lists.{Each}
use Rattle.logic.specs.Expressions.{Expr, Const, Var, One, Two, And, Or, Until, Weak, nodes}
use Rattle.logic.specs.Decks.{Deck, Accepted, base}
use Rattle.logic.specs.Pieces.{split, pieces}
use Rattle.logic.proofs.Pieces.{pieces-split, pieces-accepted}
use Rattle.decks.specs.Answers.{Outcome, Got}
use Rattle.frames.specs.Written.{deck_frames}
use Rattle.frames.specs.Read.{read_deck}
use Rattle.frames.proofs.DeckTheorems.{deck_read_accepted}
use Rattle.frames.proofs.SizeLaws.{length-deck_frames}
use Rattle.pieces.specs.Reduced.{all_frames, piece_bytes}
use Rattle.pieces.proofs.All.{count-few}
use Rattle.cards.specs.Read.{read_cards}
use Rattle.cards.proofs.NothingDropped.{cards_accepted}
use Rattle.replies.specs.declared.CountReply.{CountReply}
use Rattle.replies.specs.Replies.{write_reply, reduce_reply}
use Rattle.checking.proofs.Numbered.{Numbered}
use Rattle.station.specs.Promises.{WritesCards, WritesFrames, ReducesCards, ReducesFrames}
use Rattle.station.proofs.NumberedCards.{cards_numbered}
use Rattle.station.proofs.NumberedFrames.{deck-numbered}
use Rattle.station.proofs.ReplyLaws.{write_no_room, reduce_no_room}

abbrev pub deck_most : ℕ
deck_most = 6877

abbrev pub pieces_most : ℕ
pieces_most = 423874

pub deck-most : (d : Deck) → Accepted base d → length (deck_frames d) ≤ deck_most
deck-most d ok = omega (arith, length-deck_frames d, ok.inits-most, ok.equations-most, ok.equations-nodes, ok.property-nodes)

-- The nodes of all expressions of a list.
nodes_of : List Expr → ℕ
nodes_of [] = 0
nodes_of (e ∷ es) = nodes e + nodes_of es

nodes-append : (es fs : List Expr) → nodes_of (es ++ fs) ≡ nodes_of es + nodes_of fs
unfolding nodes_of
nodes-append [] fs = omega arith
nodes-append (e ∷ es) fs = omega (arith, nodes-append es fs)

-- Between two conjuncts stands one node that is in neither.
split-nodes : (e : Expr) → nodes_of (split e) + length (split e) ≡ nodes e + 1
unfolding nodes_of split nodes
split-nodes (Const b) = refl
split-nodes (Var v) = refl
split-nodes (One o a) = omega arith
split-nodes (Two And a b) = omega (arith, nodes-append (split a) (split b), length-append (split a) (split b), split-nodes a, split-nodes b)
split-nodes (Two Or a b) = omega arith
split-nodes (Two Until a b) = omega arith
split-nodes (Two Weak a b) = omega arith

all_most : (ds : List Deck) → Each (Accepted base) ds → length (all_frames ds) ≤ 6621 * length ds + 2 * nodes_of (map (λ (d : Deck). d.property) ds)
unfolding all_frames nodes_of
all_most [] ok = omega arith
all_most (d ∷ ds) ok =
    omega (arith, length-append (deck_frames d) (all_frames ds), length-deck_frames d, ok.0.inits-most, ok.0.equations-most, ok.0.equations-nodes, all_most ds ok.1)

pub pieces-most : (d : Deck) → Accepted base d → length (piece_bytes d) ≤ pieces_most
pieces-most d ok =
    omega (
      arith,
      all_most (pieces d) (pieces-accepted base d ok),
      length-map (pieces d) (λ (q : Deck). q.property),
      ap length (pieces-split d),
      ap nodes_of (pieces-split d),
      split-nodes d.property,
      count-few d ok,
      ok.property-nodes,
    )

-- ---- buffers of these lengths are not refused with 17

module _ (o : Outcome Deck) (numbered : Numbered o) (accepted : (d : Deck) → o ≡ Got d → Accepted base d) (out : List ℕ) where
  write_room : deck_most ≤ length out → (write_reply o out).number ≡ 17 → ⊥
  write_room h z = let (d, e, l) = write_no_room o out numbered z in omega (arith, h, l, deck-most d (accepted d e))

  reduce_room : pieces_most ≤ length out → (reduce_reply o out).number ≡ 17 → ⊥
  reduce_room h z = let (d, e, l, p) = reduce_no_room o out numbered z in omega (arith, h, l, pieces-most d (accepted d e))

module _ (text out : List ℕ) (r : CountReply) (after : List ℕ) where
  pub room_writes_cards : WritesCards text out r after → deck_most ≤ length out → r.number ≡ 17 → ⊥
  room_writes_cards p h z = write_room (read_cards text) (cards_numbered text) (cards_accepted text) out h (sym (ap (λ (x : CountReply). x.number) p.0) ∙ z)

  pub room_writes_frames : WritesFrames text out r after → deck_most ≤ length out → r.number ≡ 17 → ⊥
  room_writes_frames p h z = write_room (read_deck text) (deck-numbered text) (deck_read_accepted text) out h (sym (ap (λ (x : CountReply). x.number) p.0) ∙ z)

  pub room_reduces_cards : ReducesCards text out r after → pieces_most ≤ length out → r.number ≡ 17 → ⊥
  room_reduces_cards p h z = reduce_room (read_cards text) (cards_numbered text) (cards_accepted text) out h (sym (ap (λ (x : CountReply). x.number) p.0) ∙ z)

  pub room_reduces_frames : ReducesFrames text out r after → pieces_most ≤ length out → r.number ≡ 17 → ⊥
  room_reduces_frames p h z = reduce_room (read_deck text) (deck-numbered text) (deck_read_accepted text) out h (sym (ap (λ (x : CountReply). x.number) p.0) ∙ z)
