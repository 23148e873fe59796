-- Number, text and place of every reply fit the word that is exported.
use mathlib.Core.Path.{◌≡◌, refl, sym, ap, subst}
use mathlib.Core.Logic.{⊎_elim, by_cases}
use mathlib.Core.List.{List}
use Prim.Native.Nat.{ℕ, ◌/◌, ◌%◌, ◌^◌, ◌<◌}
use native.Mathlib.Omega.{arith}
use lib.Dec.{lit<}
use lib.ListN.{length}
use lib.Count.{trailing_le}
use Rattle.lists.specs.Lists.{Each}
use Rattle.sets.specs.Sets.{◌⊆◌, without, width}
use Rattle.sets.proofs.Laws.{subset_dec}
use Rattle.logic.specs.Decks.{Deck, Accepted, base}
use Rattle.logic.specs.Meaning.{Claim, Sized}
use Rattle.logic.specs.Verdicts.{Verdict, Breaking, NotInitial as NotInitialState, NoStep as NoSuchStep, Holding as HoldingProperty, verdict}
use Rattle.logic.proofs.Verdict.{refused_21_exactly_when}
use Rattle.decks.specs.declared.Refusal.{Refusal}
use Rattle.decks.specs.declared.Refusal.TheVariants.{NoRoom}
use Rattle.decks.specs.declared.Reply.{Reply}
use Rattle.decks.specs.Answers.{Outcome, Got, Refused, fine, reply_of, reply_to}
use Rattle.frames.specs.Written.{deck_frames}
use Rattle.frames.specs.Read.{read_deck, read_claim}
use Rattle.frames.proofs.DeckTheorems.{deck_read_accepted}
use Rattle.frames.proofs.ClaimTheorems.{claim_read_sized}
use Rattle.cards.specs.Read.{read_cards}
use Rattle.cards.proofs.NothingDropped.{cards_accepted}
use Rattle.texts.specs.Texts.{Filled}
use Rattle.cones.proofs.Answered.{read_cone, read_outside}
use Rattle.pieces.specs.Reduced.{piece_bytes}
use Rattle.claims.specs.Checked.{verdict_answer, claim_checked, deck_checked, checked}
use Rattle.replies.specs.declared.CountReply.{CountReply}
use Rattle.replies.specs.Replies.{written_reply, write_reply, reduced_reply, reduce_reply, sized_reply, cone_reply}
use Rattle.checking.proofs.Numbered.{Names, Numbered, fault}
use Rattle.checking.proofs.NumberedClaims.{claim_numbered}
use Rattle.exports.specs.Exported.{packed, Packs, CountsPack}
use Rattle.station.proofs.NumberedCards.{cards_numbered}
use Rattle.station.proofs.NumberedFrames.{deck-numbered}
use Rattle.station.proofs.ReplyLaws.{filled_as, reduced_as}
use Rattle.station.proofs.Sizes.{deck-most, pieces-most}

-- ---- answers

abbrev PackedReply : Reply → Type 0
PackedReply r = Packs r.number r.text r.place

abbrev Packed : Refusal → Type 0
Packed a = PackedReply (reply_of a)

fine_packs : PackedReply fine
fine_packs = (lit< tt, lit< tt, omega arith)

fault_packs : (a : Refusal) → Names a → Packed a
fault_packs a h = let (l, n, t, p) = fault a h in (omega arith, omega arith, omega arith)

room_packs : (n : ℕ) → n < 2 ^ 48 → Packed (NoRoom n)
room_packs n h = (lit< tt, lit< tt, h)

-- ---- operations

module _ (o : Outcome Deck) (numbered : Numbered o) (accepted : (d : Deck) → o ≡ Got d → Accepted base d) where
  write_packs_of : (out : List ℕ) → CountsPack (write_reply o out)
  write_packs_of out = go o numbered accepted
    where
      go : (o : Outcome Deck) → Numbered o → ((d : Deck) → o ≡ Got d → Accepted base d) → CountsPack (write_reply o out)
      go (Refused a) h k = fault_packs a h
      go (Got d) h k =
          ⊎_elim
          (λ (l, e). subst CountsPack (sym (ap (λ (f : Filled). written_reply f.report) e)) (room_packs (length (deck_frames d)) (omega (arith, deck-most d (k d refl)))))
          (λ (l, e). subst CountsPack (sym (ap (λ (f : Filled). written_reply f.report) e)) fine_packs)
          (filled_as (deck_frames d) out)

  reduce_packs_of : (out : List ℕ) → CountsPack (reduce_reply o out)
  reduce_packs_of out = go o numbered accepted
    where
      go : (o : Outcome Deck) → Numbered o → ((d : Deck) → o ≡ Got d → Accepted base d) → CountsPack (reduce_reply o out)
      go (Refused a) h k = fault_packs a h
      go (Got d) h k =
          ⊎_elim
          (λ (l, e, b). subst CountsPack (sym (ap reduced_reply e)) (room_packs (length (piece_bytes d)) (omega (arith, pieces-most d (k d refl)))))
          (λ (l, e, b). subst CountsPack (sym (ap reduced_reply e)) fine_packs)
          (reduced_as d out)

  cone_packs_of : (s : ℕ) → CountsPack (cone_reply o s)
  cone_packs_of s = go o numbered
    where
      go : (o : Outcome Deck) → Numbered o → CountsPack (cone_reply o s)
      go (Refused a) h = fault_packs a h
      go (Got d) h =
          by_cases
          (subset_dec s d.vars)
          (λ f. subst CountsPack (sym (ap sized_reply (read_cone d s f))) fine_packs)
          (λ f. subst CountsPack (sym (ap sized_reply (read_outside d s f))) (lit< tt, lit< tt, omega (arith, trailing_le width (without s d.vars))))

module _ (text : List ℕ) where
  pub write_cards_packs : (out : List ℕ) (r : CountReply) → r ≡ write_reply (read_cards text) out → CountsPack r
  write_cards_packs out r e = subst CountsPack (sym e) (write_packs_of (read_cards text) (cards_numbered text) (cards_accepted text) out)

  pub write_frames_packs : (out : List ℕ) (r : CountReply) → r ≡ write_reply (read_deck text) out → CountsPack r
  write_frames_packs out r e = subst CountsPack (sym e) (write_packs_of (read_deck text) (deck-numbered text) (deck_read_accepted text) out)

  pub reduce_cards_packs : (out : List ℕ) (r : CountReply) → r ≡ reduce_reply (read_cards text) out → CountsPack r
  reduce_cards_packs out r e = subst CountsPack (sym e) (reduce_packs_of (read_cards text) (cards_numbered text) (cards_accepted text) out)

  pub reduce_frames_packs : (out : List ℕ) (r : CountReply) → r ≡ reduce_reply (read_deck text) out → CountsPack r
  reduce_frames_packs out r e = subst CountsPack (sym e) (reduce_packs_of (read_deck text) (deck-numbered text) (deck_read_accepted text) out)

  pub cone_packs : (s : ℕ) (r : CountReply) → r ≡ cone_reply (read_deck text) s → CountsPack r
  cone_packs s r e = subst CountsPack (sym e) (cone_packs_of (read_deck text) (deck-numbered text) (deck_read_accepted text) s)

-- ---- verdicts

verdict_packs : (d : Deck) (m : Claim) → Sized base m → Each (λ (s : ℕ). s ⊆ d.vars) m.states → PackedReply (reply_to (verdict_answer (verdict d m)))
verdict_packs d m sized within = go (verdict d m) refl
  where
    go : (v : Verdict) → verdict d m ≡ v → PackedReply (reply_to (verdict_answer v))
    go Breaking e = fine_packs
    go NotInitialState e = (lit< tt, lit< tt, omega arith)
    go (NoSuchStep i) e = (lit< tt, lit< tt, omega (arith, ((refused_21_exactly_when base d m sized within i).0 e).1, sized.most))
    go HoldingProperty e = (lit< tt, lit< tt, omega arith)

pub check_packs : (deck claim : List ℕ) (r : Reply) → r ≡ reply_to (checked deck claim) → Packs r.number r.text r.place
unfolding checked
check_packs deck claim r e = subst (λ (x : Reply). Packs x.number x.text x.place) (sym e) (first (read_deck deck) (deck-numbered deck))
  where
    second : (d : Deck) (o : Outcome Claim) → read_claim d.vars claim ≡ o → Numbered o → PackedReply (reply_to (claim_checked d o))
    second d (Got m) f h = let (sized, within) = claim_read_sized d.vars claim m f in verdict_packs d m sized within
    second d (Refused a) f h = fault_packs a h

    first : (o : Outcome Deck) → Numbered o → PackedReply (reply_to (deck_checked o claim))
    first (Got d) h = second d (read_claim d.vars claim) refl (claim_numbered d.vars claim)
    first (Refused a) h = fault_packs a h

-- ---- the word

-- The word tells number, text and place.
pub unpacked : (n t p : ℕ) → Packs n t p → (packed n t p % 256 ≡ n) × (packed n t p / 256 % 256 ≡ t) × (packed n t p / 65536 ≡ p)
unpacked n t p (x, y, z) = (omega arith, omega arith, omega arith)
