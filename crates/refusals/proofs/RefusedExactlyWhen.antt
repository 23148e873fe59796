-- Refused exactly when: an answer is given exactly where its condition holds and none before it in the order of RULES 7.3 to 7.5.
use mathlib.Core.Path.{◌≡◌, refl, sym, ◌∙◌}
use mathlib.Core.Logic.{◌⊎◌, ◌↔◌}
use mathlib.Core.List.{List}
use Prim.Native.Nat.{ℕ, ◌^◌, ◌<◌}
use lib.ListN.{length}
use Rattle.std.specs.Prelude.{Err}
use Rattle.logic.specs.Decks.{Deck, base}
use Rattle.logic.specs.Meaning.{Claim}
use Rattle.logic.specs.Verdicts.{verdict}
use Rattle.decks.specs.declared.Refusal.{Refusal}
use Rattle.decks.specs.Answers.{Outcome, Got, Refused}
use Rattle.cards.specs.Read.{read_cards}
use Rattle.frames.specs.Written.{deck_frames}
use Rattle.frames.specs.Read.{read_deck, read_claim}
use Rattle.frames.proofs.DeckTheorems.{deck_read_exactly_when}
use Rattle.frames.proofs.ClaimTheorems.{claim_read_exactly_when}
use Rattle.texts.specs.Texts.{deck_written}
use Rattle.cones.specs.Cone.{cone_read}
use Rattle.pieces.specs.Reduced.{piece_bytes, reduced}
use Rattle.claims.specs.Checked.{verdict_answer, claim_checked, deck_checked, checked}
use Rattle.refusals.specs.Order.{FirstOf, NoneOf}
use Rattle.refusals.specs.CardsOrder.{cards_order, Gives}
use Rattle.refusals.specs.FramesOrder.{frames_order, Gives as GivesDeck}
use Rattle.refusals.specs.ClaimFaults.{claim_order, Gives as GivesClaim}
use Rattle.refusals.specs.OperationsOrder.{answer_to, IsDeck, IsClaim, cone_order, room_order, verdict_order}
use Rattle.refusals.proofs.OrderLaws.{meets_exactly, meets_result}
use Rattle.refusals.proofs.CardsRefused.{cards_meet, gives_unique}
use Rattle.refusals.proofs.FramesRefused.{frames_meet, gives_unique as gives-unique-deck}
use Rattle.refusals.proofs.ClaimsRefused.{claims_meet, gives_unique as gives-unique-claim}
use Rattle.refusals.proofs.Operations.{replies_exactly, answer_exactly, filled_replies, reduced_replies, cone_replies, verdict_replies}

-- ---- reading

-- A text of cards is refused with an answer exactly where that is the answer of the first of its conditions that holds.
pub cards_refused_exactly_when : (text : List ℕ) (a : Refusal) → (read_cards text ≡ Refused a) ↔ FirstOf (cards_order text) a
cards_refused_exactly_when text a = meets_exactly (cards_order text) (Gives text) (read_cards text) (cards_meet text) a

-- It is accepted exactly where none holds, and the deck is what its statements give.
pub cards_accepted_exactly_when : (text : List ℕ) (d : Deck) → (read_cards text ≡ Got d) ↔ (NoneOf (cards_order text) × Gives text d)
cards_accepted_exactly_when text d = meets_result (cards_order text) (Gives text) (read_cards text) (cards_meet text) (gives_unique text) d

-- A text of frames is refused as a deck with an answer exactly where that is the answer of the first of its conditions that holds.
pub frames_refused_exactly_when : (text : List ℕ) (a : Refusal) → (read_deck text ≡ Refused a) ↔ FirstOf (frames_order text) a
frames_refused_exactly_when text a = meets_exactly (frames_order text) (GivesDeck text) (read_deck text) (frames_meet text) a

-- It is accepted exactly where none holds, and the deck is what its lines give.
pub frames_accepted_exactly_when : (text : List ℕ) (d : Deck) → (read_deck text ≡ Got d) ↔ (NoneOf (frames_order text) × GivesDeck text d)
frames_accepted_exactly_when text d = meets_result (frames_order text) (GivesDeck text) (read_deck text) (frames_meet text) (gives-unique-deck text) d

-- A text of frames is refused as a claim on a deck with these variables exactly where the answer is that of the first of its conditions that holds.
pub claim_refused_exactly_when : (vars : ℕ) (text : List ℕ) (a : Refusal) → (read_claim vars text ≡ Refused a) ↔ FirstOf (claim_order vars text) a
claim_refused_exactly_when vars text a = meets_exactly (claim_order vars text) (GivesClaim vars text) (read_claim vars text) (claims_meet vars text) a

-- It is accepted exactly where none holds, and the claim is what its lines give.
pub claim_accepted_exactly_when : (vars : ℕ) (text : List ℕ) (m : Claim) → (read_claim vars text ≡ Got m) ↔ (NoneOf (claim_order vars text) × GivesClaim vars text m)
claim_accepted_exactly_when vars text m = meets_result (claim_order vars text) (GivesClaim vars text) (read_claim vars text) (claims_meet vars text) (gives-unique-claim vars text) m

-- ---- operations: the deck's refusals, and behind them, where the text is the deck d, their own

module _ (text : List ℕ) (a : Refusal) where
  -- The cone of a set: 9.
  pub cone_refused_exactly_when : (s : ℕ)
      → s < 2 ^ base.variables
      → (answer_to (read_deck text) (λ d. cone_read d s) ≡ Err a) ↔ (FirstOf (frames_order text) a ⊎ ((d : Deck) × IsDeck text d × FirstOf (cone_order d s) a))
  cone_refused_exactly_when s h =
      answer_exactly (frames_order text) (GivesDeck text) a (λ d. cone_read d s) (IsDeck text) (λ d. FirstOf (cone_order d s) a) (read_deck text) (frames_meet text) (deck_read_exactly_when text) (λ d i.
      replies_exactly (cone_order d s) (cone_read d s) a (cone_replies d s h))

  module _ (out : List ℕ) where
    -- Writing the deck of cards as frames into a lent buffer: 17.
    pub cards_write_refused_exactly_when : (answer_to (read_cards text) (λ d. (deck_written d out).report) ≡ Err a) ↔ (FirstOf (cards_order text) a ⊎ ((d : Deck) × (NoneOf (cards_order text) × Gives text d) × FirstOf (room_order (deck_frames d) out) a))
    cards_write_refused_exactly_when =
        answer_exactly (cards_order text) (Gives text) a (λ d. (deck_written d out).report) (λ d. NoneOf (cards_order text) × Gives text d) (λ d. FirstOf (room_order (deck_frames d) out) a) (read_cards text) (cards_meet text) (cards_accepted_exactly_when text) (λ d i.
        replies_exactly (room_order (deck_frames d) out) (deck_written d out).report a (filled_replies (deck_frames d) out))

    -- Writing the deck of frames: 17.
    pub frames_write_refused_exactly_when : (answer_to (read_deck text) (λ d. (deck_written d out).report) ≡ Err a) ↔ (FirstOf (frames_order text) a ⊎ ((d : Deck) × IsDeck text d × FirstOf (room_order (deck_frames d) out) a))
    frames_write_refused_exactly_when =
        answer_exactly (frames_order text) (GivesDeck text) a (λ d. (deck_written d out).report) (IsDeck text) (λ d. FirstOf (room_order (deck_frames d) out) a) (read_deck text) (frames_meet text) (deck_read_exactly_when text) (λ d i.
        replies_exactly (room_order (deck_frames d) out) (deck_written d out).report a (filled_replies (deck_frames d) out))

    -- Writing all pieces of the deck of cards: 17 with the bytes of all of them.
    pub cards_reduce_refused_exactly_when : (answer_to (read_cards text) (λ d. reduced d (length out)) ≡ Err a) ↔ (FirstOf (cards_order text) a ⊎ ((d : Deck) × (NoneOf (cards_order text) × Gives text d) × FirstOf (room_order (piece_bytes d) out) a))
    cards_reduce_refused_exactly_when =
        answer_exactly (cards_order text) (Gives text) a (λ d. reduced d (length out)) (λ d. NoneOf (cards_order text) × Gives text d) (λ d. FirstOf (room_order (piece_bytes d) out) a) (read_cards text) (cards_meet text) (cards_accepted_exactly_when text) (λ d i.
        replies_exactly (room_order (piece_bytes d) out) (reduced d (length out)) a (reduced_replies d out))

    -- Writing all pieces of the deck of frames: 17.
    pub frames_reduce_refused_exactly_when : (answer_to (read_deck text) (λ d. reduced d (length out)) ≡ Err a) ↔ (FirstOf (frames_order text) a ⊎ ((d : Deck) × IsDeck text d × FirstOf (room_order (piece_bytes d) out) a))
    frames_reduce_refused_exactly_when =
        answer_exactly (frames_order text) (GivesDeck text) a (λ d. reduced d (length out)) (IsDeck text) (λ d. FirstOf (room_order (piece_bytes d) out) a) (read_deck text) (frames_meet text) (deck_read_exactly_when text) (λ d i.
        replies_exactly (room_order (piece_bytes d) out) (reduced d (length out)) a (reduced_replies d out))

  module _ (claim : List ℕ) where
    claim_answer : (d : Deck) (r : Outcome Claim) → claim_checked d r ≡ answer_to r (λ m. verdict_answer (verdict d m))
    claim_answer d (Got m) = refl
    claim_answer d (Refused b) = refl

    check_answer : (r : Outcome Deck) → deck_checked r claim ≡ answer_to r (λ d. answer_to (read_claim d.vars claim) (λ m. verdict_answer (verdict d m)))
    check_answer (Got d) = claim_answer d (read_claim d.vars claim)
    check_answer (Refused b) = refl

    -- Checking a claimed run: the deck's refusals, the claim's, and then 20, 21, 22.
    pub check_refused_exactly_when : (checked text claim ≡ Err a)
        ↔ (FirstOf (frames_order text) a
        ⊎ ((d : Deck) × IsDeck text d × (FirstOf (claim_order d.vars claim) a ⊎ ((m : Claim) × IsClaim d.vars claim m × FirstOf (verdict_order d m) a))))
    unfolding checked
    check_refused_exactly_when =
        let e = check_answer (read_deck text) in
        let both =
        answer_exactly (frames_order text) (GivesDeck text) a (λ d. answer_to (read_claim d.vars claim) (λ m. verdict_answer (verdict d m))) (IsDeck text)
        (λ d. FirstOf (claim_order d.vars claim) a ⊎ ((m : Claim) × IsClaim d.vars claim m × FirstOf (verdict_order d m) a)) (read_deck text) (frames_meet text) (deck_read_exactly_when text) (λ d (w, ok).
        answer_exactly (claim_order d.vars claim) (GivesClaim d.vars claim) a (λ m. verdict_answer (verdict d m)) (IsClaim d.vars claim) (λ m. FirstOf (verdict_order d m) a) (read_claim d.vars claim) (claims_meet d.vars claim) (λ m. claim_read_exactly_when d.vars claim m ok.vars_in) (λ m (v, sized, within).
        replies_exactly (verdict_order d m) (verdict_answer (verdict d m)) a (verdict_replies d m sized within))) in
        (λ h. both.0 (sym e ∙ h), λ h. e ∙ both.1 h)
