-- What a reply's number says of the reading, the room and the buffer.
use mathlib.Core.Path.{◌≡◌, refl, sym, ap, ◌∙◌, subst}
use mathlib.Core.Logic.{◌⊎◌, inl, inr, ⊎_elim, by_cases}
use mathlib.Core.List.{List}
use Prim.Native.Nat.{ℕ, ◌+◌, ◌<◌, ◌≤◌}
use native.Mathlib.Omega.{arith}
use native.Mathlib.Decide.{dec_le}
use borrow.Author.Tests.{lt-ltb, le-ltb}
use lib.ListN.{length, take, drop}
use Rattle.std.specs.Prelude.{Result, Ok, Err}
use Rattle.lists.specs.Lists.{splice}
use Rattle.lists.proofs.Laws.{take-splice, drop-splice}
use Rattle.sets.specs.Sets.{◌⊆◌, size}
use Rattle.sets.proofs.Laws.{subset_dec}
use Rattle.logic.specs.Decks.{Deck}
use Rattle.logic.specs.Cones.{cone}
use Rattle.logic.specs.Pieces.{pieces}
use Rattle.logic.specs.Meaning.{Claim}
use Rattle.logic.specs.Verdicts.{Verdict, Breaking, NotInitial as NotInitialState, NoStep as NoSuchStep, Holding as HoldingProperty, verdict}
use Rattle.decks.specs.declared.Refusal.{Refusal}
use Rattle.decks.specs.declared.Refusal.TheVariants.{TooLong, BadByte, TooWide, BadStart, BadNumber, NoneOpen, TooManyCards, NotDue, Outside, Temporal, TooDeep, ManyInitials, ManyEquations, ManyNodes, NoEquation, BadFrame, NoRoom, NotInitial, NoStep, Holding}
use Rattle.decks.specs.Answers.{Outcome, Got, Refused, reply_of, reply_to}
use Rattle.decks.specs.Stored.{blank}
use Rattle.frames.specs.Written.{deck_frames}
use Rattle.frames.specs.Read.{read_deck, read_claim}
use Rattle.texts.specs.Texts.{Filled, filled, deck_written}
use Rattle.cones.specs.declared.SizedCone.{SizedCone}
use Rattle.cones.specs.Cone.{cone_read}
use Rattle.cones.proofs.Answered.{read_cone, read_outside}
use Rattle.claims.specs.Checked.{verdict_answer, claim_checked, deck_checked, checked}
use Rattle.pieces.specs.declared.Reduced.{Reduced}
use Rattle.pieces.specs.Reduced.{piece_bytes, reduced, reduced_into}
use Rattle.replies.specs.declared.CountReply.{CountReply}
use Rattle.replies.specs.Replies.{read_reply, written_reply, write_reply, write_buffer, reduced_reply, reduce_reply, reduce_buffer, sized_reply, cone_reply}
use Rattle.checking.proofs.Numbered.{Numbered, fault}
use Rattle.checking.proofs.NumberedClaims.{claim_numbered}
use Rattle.station.proofs.NumberedFrames.{deck-numbered}

-- ---- answers

-- No refusal has the number 0.
pub some_number : (a : Refusal) → (reply_of a).number ≡ 0 → ⊥
some_number (TooLong t) e = omega (arith, e)
some_number (BadByte p) e = omega (arith, e)
some_number (TooWide p) e = omega (arith, e)
some_number (BadStart p) e = omega (arith, e)
some_number (BadNumber p) e = omega (arith, e)
some_number (NoneOpen p) e = omega (arith, e)
some_number (TooManyCards p) e = omega (arith, e)
some_number (NotDue p) e = omega (arith, e)
some_number (Outside t p) e = omega (arith, e)
some_number (Temporal p) e = omega (arith, e)
some_number (TooDeep p) e = omega (arith, e)
some_number (ManyInitials p) e = omega (arith, e)
some_number (ManyEquations p) e = omega (arith, e)
some_number (ManyNodes p) e = omega (arith, e)
some_number (NoEquation p) e = omega (arith, e)
some_number (BadFrame t p) e = omega (arith, e)
some_number (NoRoom p) e = omega (arith, e)
some_number NotInitial e = omega (arith, e)
some_number (NoStep p) e = omega (arith, e)
some_number Holding e = omega (arith, e)

-- Success names no text and no place.
pub zero_names_nothing : (done : Result (Unit {0}) Refusal) → (reply_to done).number ≡ 0 → ((reply_to done).text ≡ 0) × ((reply_to done).place ≡ 0)
zero_names_nothing (Ok x) e = (refl, refl)
zero_names_nothing (Err a) e = absurd (some_number a e)

-- Nor does a reply with counts.
abbrev NamesNothing : CountReply → Type 0
NamesNothing r = r.number ≡ 0 → (r.text ≡ 0) × (r.place ≡ 0)

written_names_nothing : (r : Result ℕ Refusal) → NamesNothing (written_reply r)
written_names_nothing (Ok n) e = (refl, refl)
written_names_nothing (Err a) e = absurd (some_number a e)

reduced_names_nothing : (r : Result Reduced Refusal) → NamesNothing (reduced_reply r)
reduced_names_nothing (Ok x) e = (refl, refl)
reduced_names_nothing (Err a) e = absurd (some_number a e)

sized_names_nothing : (r : Result SizedCone Refusal) → NamesNothing (sized_reply r)
sized_names_nothing (Ok x) e = (refl, refl)
sized_names_nothing (Err a) e = absurd (some_number a e)

-- ---- reading

pub read_refused : (o : Outcome Deck) → ((read_reply o).number ≡ 0 → ⊥) → (read_reply o).deck ≡ blank
read_refused (Got d) n = absurd (n refl)
read_refused (Refused a) n = refl

pub read_success : (o : Outcome Deck) → (read_reply o).number ≡ 0 → ((read_reply o).text ≡ 0) × ((read_reply o).place ≡ 0)
read_success (Got d) z = (refl, refl)
read_success (Refused a) z = absurd (some_number a z)

pub read_got : (o : Outcome Deck) → Numbered o → (read_reply o).number ≡ 0 → (d : Deck) × (o ≡ Got d)
read_got (Got d) h z = (d, refl)
read_got (Refused a) h z = absurd (omega (arith, (fault a h).0, z))

-- ---- texts into buffers

-- The first bytes of a buffer over which a text was put, and those behind it.
module _ (n : ℕ) (vs out after : List ℕ) (e : n ≡ length vs) (f : after ≡ splice 0 vs out) where
  from_zero : n ≡ 0 + length vs
  from_zero = omega (arith, e)

  pub first-bytes : take n after ≡ vs
  first-bytes = ap (λ (m : ℕ). take m after) from_zero ∙ ap (take (0 + length vs)) f ∙ take-splice 0 vs out (omega arith)

  pub behind-bytes : drop n after ≡ drop n out
  behind-bytes = ap (λ (m : ℕ). drop m after) from_zero ∙ ap (drop (0 + length vs)) f ∙ drop-splice 0 vs out (omega arith) ∙ ap (λ (m : ℕ). drop m out) (sym from_zero)

-- The text does not fit and nothing changes, or it fits and stands in the first bytes.
pub filled_as : (text out : List ℕ)
    → ((length out < length text) × (filled text out ≡ record { report = Err (NoRoom (length text)); buffer = out }))
    ⊎ ((length text ≤ length out) × (filled text out ≡ record { report = Ok (length text); buffer = splice 0 text out }))
unfolding filled
filled_as text out =
    by_cases
    (dec_le (length text) (length out))
    (λ h. inr (h, simp (le-ltb (length out) (length text) h, filled)))
    (λ n. let h : length out < length text = omega arith in inl (h, simp (lt-ltb (length out) (length text) h, filled)))

-- A write that is refused.
pub write_refused : (o : Outcome Deck) (out : List ℕ)
    → ((write_reply o out).number ≡ 0 → ⊥)
    → ((write_reply o out).first ≡ 0) × ((write_reply o out).second ≡ 0) × (write_buffer o out ≡ out)
write_refused (Got d) out n =
    ⊎_elim
    (λ (h, e). (ap (λ (f : Filled). (written_reply f.report).first) e, ap (λ (f : Filled). (written_reply f.report).second) e, ap (λ (f : Filled). f.buffer) e))
    (λ (h, e). absurd (n (ap (λ (f : Filled). (written_reply f.report).number) e)))
    (filled_as (deck_frames d) out)
write_refused (Refused a) out n = (refl, refl, refl)

pub write_success : (o : Outcome Deck) (out : List ℕ) → (write_reply o out).number ≡ 0 → ((write_reply o out).text ≡ 0) × ((write_reply o out).place ≡ 0)
write_success (Got d) out z = written_names_nothing (deck_written d out).report z
write_success (Refused a) out z = absurd (some_number a z)

-- A write that succeeds: the deck that was read stands in the buffer's first bytes.
pub write_got : (o : Outcome Deck) (out : List ℕ) → Numbered o → (write_reply o out).number ≡ 0
    → (d : Deck) × (o ≡ Got d) × (length (deck_frames d) ≤ length out) × ((write_reply o out).first ≡ length (deck_frames d)) × (write_buffer o out ≡ splice 0 (deck_frames d) out)
write_got (Got d) out h z =
    ⊎_elim
    (λ (l, e). absurd (omega (arith, z, ap (λ (f : Filled). (written_reply f.report).number) e)))
    (λ (l, e). (d, refl, l, ap (λ (f : Filled). (written_reply f.report).first) e, ap (λ (f : Filled). f.buffer) e))
    (filled_as (deck_frames d) out)
write_got (Refused a) out h z = absurd (omega (arith, (fault a h).0, z))

-- A write without room.
pub write_no_room : (o : Outcome Deck) (out : List ℕ) → Numbered o → (write_reply o out).number ≡ 17 → (d : Deck) × (o ≡ Got d) × (length out < length (deck_frames d))
write_no_room (Got d) out h z =
    ⊎_elim
    (λ (l, e). (d, refl, l))
    (λ (l, e). absurd (omega (arith, z, ap (λ (f : Filled). (written_reply f.report).number) e)))
    (filled_as (deck_frames d) out)
write_no_room (Refused a) out h z = absurd (omega (arith, (fault a h).1, z))

-- ---- reductions

-- The pieces do not fit and nothing changes, or they fit and stand in the first bytes.
pub reduced_as : (d : Deck) (out : List ℕ)
    → ((length out < length (piece_bytes d)) × (reduced d (length out) ≡ Err (NoRoom (length (piece_bytes d)))) × (reduced_into d out ≡ out))
    ⊎ ((length (piece_bytes d) ≤ length out) × (reduced d (length out) ≡ Ok (record { pieces = length (pieces d); bytes = length (piece_bytes d) })) × (reduced_into d out ≡ splice 0 (piece_bytes d) out))
unfolding reduced reduced_into
reduced_as d out =
    by_cases
    (dec_le (length (piece_bytes d)) (length out))
    (λ h. inr (h, simp (le-ltb (length out) (length (piece_bytes d)) h, reduced), simp (le-ltb (length out) (length (piece_bytes d)) h, reduced_into)))
    (λ n.
    let h : length out < length (piece_bytes d) = omega arith in
    inl (h, simp (lt-ltb (length out) (length (piece_bytes d)) h, reduced), simp (lt-ltb (length out) (length (piece_bytes d)) h, reduced_into)))

-- A reduction that is refused.
pub reduce_refused : (o : Outcome Deck) (out : List ℕ)
    → ((reduce_reply o out).number ≡ 0 → ⊥)
    → ((reduce_reply o out).first ≡ 0) × ((reduce_reply o out).second ≡ 0) × (reduce_buffer o out ≡ out)
reduce_refused (Got d) out n =
    ⊎_elim
    (λ (h, e, b). (ap (λ (r : Result Reduced Refusal). (reduced_reply r).first) e, ap (λ (r : Result Reduced Refusal). (reduced_reply r).second) e, b))
    (λ (h, e, b). absurd (n (ap (λ (r : Result Reduced Refusal). (reduced_reply r).number) e)))
    (reduced_as d out)
reduce_refused (Refused a) out n = (refl, refl, refl)

pub reduce_success : (o : Outcome Deck) (out : List ℕ) → (reduce_reply o out).number ≡ 0 → ((reduce_reply o out).text ≡ 0) × ((reduce_reply o out).place ≡ 0)
reduce_success (Got d) out z = reduced_names_nothing (reduced d (length out)) z
reduce_success (Refused a) out z = absurd (some_number a z)

-- A reduction that succeeds: the pieces are counted, and stand in the buffer's first bytes.
pub reduce_got : (o : Outcome Deck) (out : List ℕ) → Numbered o → (reduce_reply o out).number ≡ 0
    → (d : Deck)
    × (o ≡ Got d)
    × (length (piece_bytes d) ≤ length out)
    × ((reduce_reply o out).first ≡ length (pieces d))
    × ((reduce_reply o out).second ≡ length (piece_bytes d))
    × (reduce_buffer o out ≡ splice 0 (piece_bytes d) out)
reduce_got (Got d) out h z =
    ⊎_elim
    (λ (l, e, b). absurd (omega (arith, z, ap (λ (r : Result Reduced Refusal). (reduced_reply r).number) e)))
    (λ (l, e, b). (d, refl, l, ap (λ (r : Result Reduced Refusal). (reduced_reply r).first) e, ap (λ (r : Result Reduced Refusal). (reduced_reply r).second) e, b))
    (reduced_as d out)
reduce_got (Refused a) out h z = absurd (omega (arith, (fault a h).0, z))

-- A reduction without room: the place is the bytes that all pieces need.
pub reduce_no_room : (o : Outcome Deck) (out : List ℕ) → Numbered o → (reduce_reply o out).number ≡ 17
    → (d : Deck) × (o ≡ Got d) × (length out < length (piece_bytes d)) × ((reduce_reply o out).place ≡ length (piece_bytes d))
reduce_no_room (Got d) out h z =
    ⊎_elim
    (λ (l, e, b). (d, refl, l, ap (λ (r : Result Reduced Refusal). (reduced_reply r).place) e))
    (λ (l, e, b). absurd (omega (arith, z, ap (λ (r : Result Reduced Refusal). (reduced_reply r).number) e)))
    (reduced_as d out)
reduce_no_room (Refused a) out h z = absurd (omega (arith, (fault a h).1, z))

-- ---- cones

pub cone_refused : (o : Outcome Deck) (s : ℕ) → ((cone_reply o s).number ≡ 0 → ⊥) → ((cone_reply o s).first ≡ 0) × ((cone_reply o s).second ≡ 0)
cone_refused (Got d) s n =
    by_cases
    (subset_dec s d.vars)
    (λ f. absurd (n (ap (λ (r : Result SizedCone Refusal). (sized_reply r).number) (read_cone d s f))))
    (λ f. let e = read_outside d s f in (ap (λ (r : Result SizedCone Refusal). (sized_reply r).first) e, ap (λ (r : Result SizedCone Refusal). (sized_reply r).second) e))
cone_refused (Refused a) s n = (refl, refl)

pub cone_success : (o : Outcome Deck) (s : ℕ) → (cone_reply o s).number ≡ 0 → ((cone_reply o s).text ≡ 0) × ((cone_reply o s).place ≡ 0)
cone_success (Got d) s z = sized_names_nothing (cone_read d s) z
cone_success (Refused a) s z = absurd (some_number a z)

pub cone_got : (o : Outcome Deck) (s : ℕ) → Numbered o → (cone_reply o s).number ≡ 0
    → (d : Deck) × (o ≡ Got d) × (s ⊆ d.vars) × ((cone_reply o s).first ≡ cone d.equations s) × ((cone_reply o s).second ≡ size (cone d.equations s))
cone_got (Got d) s h z =
    by_cases
    (subset_dec s d.vars)
    (λ f. let e = read_cone d s f in (d, refl, f, ap (λ (r : Result SizedCone Refusal). (sized_reply r).first) e, ap (λ (r : Result SizedCone Refusal). (sized_reply r).second) e))
    (λ f. absurd (omega (arith, z, ap (λ (r : Result SizedCone Refusal). (sized_reply r).number) (read_outside d s f))))
cone_got (Refused a) s h z = absurd (omega (arith, (fault a h).0, z))

-- ---- claims

-- Both texts read: the deck as d, the claim on its variables as m.
abbrev pub BothRead : List ℕ → List ℕ → Deck → Claim → Type 0
BothRead deck claim d m = (read_deck deck ≡ Got d) × (read_claim d.vars claim ≡ Got m)

-- Where both texts are read the verdict answers.
pub both_checked : (deck claim : List ℕ) (d : Deck) (m : Claim) → BothRead deck claim d m → checked deck claim ≡ verdict_answer (verdict d m)
unfolding checked
both_checked deck claim d m (e, f) = ap (λ (o : Outcome Deck). deck_checked o claim) e ∙ ap (claim_checked d) f

-- The numbers that name a fault of a text.
abbrev pub OfText : ℕ → Type 0
OfText n = (1 ≤ n) × (n ≤ 16)

-- An answer without a number of a text's fault comes from a verdict.
pub checked_both : (deck claim : List ℕ) → (OfText (reply_to (checked deck claim)).number → ⊥)
    → (d : Deck) × (m : Claim) × BothRead deck claim d m × (checked deck claim ≡ verdict_answer (verdict d m))
unfolding checked
checked_both deck claim n = first (read_deck deck) refl (deck-numbered deck)
  where
    second : (d : Deck) → read_deck deck ≡ Got d → (o : Outcome Claim) → read_claim d.vars claim ≡ o → Numbered o
        → (e : Deck) × (m : Claim) × BothRead deck claim e m × (deck_checked (read_deck deck) claim ≡ verdict_answer (verdict e m))
    second d e (Got m) f h = (d, m, (e, f), ap (λ (o : Outcome Deck). deck_checked o claim) e ∙ ap (claim_checked d) f)
    second d e (Refused a) f h =
        absurd (n (subst (λ (b : Result (Unit {0}) Refusal). OfText (reply_to b).number) (sym (ap (λ (o : Outcome Deck). deck_checked o claim) e ∙ ap (claim_checked d) f)) ((fault a h).0, (fault a h).1)))

    first : (o : Outcome Deck) → read_deck deck ≡ o → Numbered o
        → (e : Deck) × (m : Claim) × BothRead deck claim e m × (deck_checked (read_deck deck) claim ≡ verdict_answer (verdict e m))
    first (Got d) e h = second d e (read_claim d.vars claim) refl (claim_numbered d.vars claim)
    first (Refused a) e h = absurd (n (subst (λ (b : Result (Unit {0}) Refusal). OfText (reply_to b).number) (sym (ap (λ (o : Outcome Deck). deck_checked o claim) e)) ((fault a h).0, (fault a h).1)))

-- The verdict of each number.
pub verdict_0 : (v : Verdict) → (reply_to (verdict_answer v)).number ≡ 0 → v ≡ Breaking
verdict_0 Breaking e = refl
verdict_0 NotInitialState e = absurd (omega (arith, e))
verdict_0 (NoSuchStep i) e = absurd (omega (arith, e))
verdict_0 HoldingProperty e = absurd (omega (arith, e))

pub verdict_20 : (v : Verdict) → (reply_to (verdict_answer v)).number ≡ 20 → v ≡ NotInitialState
verdict_20 Breaking e = absurd (omega (arith, e))
verdict_20 NotInitialState e = refl
verdict_20 (NoSuchStep i) e = absurd (omega (arith, e))
verdict_20 HoldingProperty e = absurd (omega (arith, e))

pub verdict_21 : (v : Verdict) → (reply_to (verdict_answer v)).number ≡ 21 → v ≡ NoSuchStep (reply_to (verdict_answer v)).place
verdict_21 Breaking e = absurd (omega (arith, e))
verdict_21 NotInitialState e = absurd (omega (arith, e))
verdict_21 (NoSuchStep i) e = refl
verdict_21 HoldingProperty e = absurd (omega (arith, e))

pub verdict_22 : (v : Verdict) → (reply_to (verdict_answer v)).number ≡ 22 → v ≡ HoldingProperty
verdict_22 Breaking e = absurd (omega (arith, e))
verdict_22 NotInitialState e = absurd (omega (arith, e))
verdict_22 (NoSuchStep i) e = absurd (omega (arith, e))
verdict_22 HoldingProperty e = refl
