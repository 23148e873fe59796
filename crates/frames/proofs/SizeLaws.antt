-- The sizes of written decks and claims: the bytes counted are the bytes written, and what is accepted fits a text.
use mathlib.Core.Path.{◌≡◌, refl}
use mathlib.Core.List.{List, [], ◌∷◌, ◌++◌}
use Prim.Native.Nat.{ℕ, ◌+◌, ◌*◌, ◌≤◌}
use native.Mathlib.Omega.{arith}
use lib.ListN.{length, length-append}
use Rattle.logic.specs.Expressions.{nodes, code}
use Rattle.logic.specs.Decks.{Equation, Deck, Accepted, base, total_nodes}
use Rattle.logic.specs.Meaning.{Claim, Sized}
use Rattle.logic.proofs.Codes.{length-code}
use Rattle.frames.specs.Hex.{pair, pairs}
use Rattle.frames.specs.Written.{set_bytes, set_kind, init_kind, equation_kind, property_kind, count_kind, claim_kind, state_kind, claim_count_kind, node_pairs, frame, state_frames, equation_frames, deck_frames, claim_frames}
use Rattle.frames.specs.Sizes.{deck_bytes, claim_bytes}
use Rattle.frames.proofs.HexLaws.{length_pairs}
use Rattle.frames.proofs.ExprLaws.{length_node_pairs}

length-frame : (k : ℕ) (content : List ℕ) → length (frame k content) ≡ 3 + length content
length-frame k content = omega (arith, length-append content (10 ∷ []))

length_state_frame : (k s : ℕ) → length (frame k (pairs set_bytes s)) ≡ 19
length_state_frame k s = omega (arith, length-frame k (pairs set_bytes s), length_pairs set_bytes s)

pub length_state_frames : (k : ℕ) (ss : List ℕ) → length (state_frames k ss) ≡ 19 * length ss
unfolding state_frames
length_state_frames k [] = refl
length_state_frames k (s ∷ ss) = omega (arith, length-append (frame k (pairs set_bytes s)) (state_frames k ss), length_state_frame k s, length_state_frames k ss)

length_equation_frame : (q : Equation) → length (frame equation_kind (pair q.left ++ node_pairs (code q.right))) ≡ 5 + 2 * nodes q.right
length_equation_frame q =
    omega (arith, length-frame equation_kind (pair q.left ++ node_pairs (code q.right)), length_node_pairs (code q.right), length-code q.right)

pub length_equation_frames : (qs : List Equation) → length (equation_frames qs) ≡ 5 * length qs + 2 * total_nodes qs
unfolding equation_frames total_nodes
length_equation_frames [] = refl
length_equation_frames (q ∷ qs) =
    omega (
      arith,
      length-append (frame equation_kind (pair q.left ++ node_pairs (code q.right))) (equation_frames qs),
      length_equation_frame q,
      length_equation_frames qs,
    )

pub length-deck_frames : (d : Deck) → length (deck_frames d) ≡ deck_bytes d
unfolding deck_frames
length-deck_frames d =
    let set : List ℕ = frame set_kind (pairs set_bytes d.vars) in
    let inits : List ℕ = state_frames init_kind d.inits in
    let equations : List ℕ = equation_frames d.equations in
    let property : List ℕ = frame property_kind (node_pairs (code d.property)) in
    let count : List ℕ = frame count_kind (pairs 2 (length d.inits + length d.equations + 2)) in
    omega (
      arith,
      length-append set (inits ++ (equations ++ (property ++ count))),
      length-append inits (equations ++ (property ++ count)),
      length-append equations (property ++ count),
      length-append property count,
      length_state_frame set_kind d.vars,
      length_state_frames init_kind d.inits,
      length_equation_frames d.equations,
      length-frame property_kind (node_pairs (code d.property)),
      length_node_pairs (code d.property),
      length-code d.property,
      length-frame count_kind (pairs 2 (length d.inits + length d.equations + 2)),
      length_pairs 2 (length d.inits + length d.equations + 2),
    )

pub length_claim_frames : (m : Claim) → length (claim_frames m) ≡ claim_bytes m
unfolding claim_frames
length_claim_frames m =
    let sizes : List ℕ = frame claim_kind (pairs 2 m.p ++ pairs 2 m.c) in
    let states : List ℕ = state_frames state_kind m.states in
    let count : List ℕ = frame claim_count_kind (pairs 2 (length m.states + 1)) in
    omega (
      arith,
      length-append sizes (states ++ count),
      length-append states count,
      length-frame claim_kind (pairs 2 m.p ++ pairs 2 m.c),
      length-append (pairs 2 m.p) (pairs 2 m.c),
      length_pairs 2 m.p,
      length_pairs 2 m.c,
      length_state_frames state_kind m.states,
      length-frame claim_count_kind (pairs 2 (length m.states + 1)),
      length_pairs 2 (length m.states + 1),
    )

-- An accepted deck's frames are within the length of a text, and so are a claim's.
pub deck-within-text : (d : Deck) → Accepted base d → length (deck_frames d) ≤ base.text
deck-within-text d ok = omega (arith, length-deck_frames d, ok.inits-most, ok.equations-most, ok.equations-nodes, ok.property-nodes)

pub claim_within-text : (m : Claim) → Sized base m → length (claim_frames m) ≤ base.text
claim_within-text m ok = omega (arith, length_claim_frames m, ok.all, ok.most)
