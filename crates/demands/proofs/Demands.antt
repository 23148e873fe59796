-- The three demands, as theorems about what the operations promise. Hypotheses speak of texts, lent buffers and replies alone.
use mathlib.Core.Path.{◌≡◌, refl, sym, ap, ◌∙◌, subst}
use mathlib.Core.Logic.{◌↔◌}
use mathlib.Core.List.{List, map}
use Prim.Native.Nat.{ℕ, ◌+◌, ◌<◌, ◌≤◌}
use native.Mathlib.Omega.{arith}
use lib.ListN.{length, take, drop}
use Rattle.lists.specs.Lists.{Each, Some, ◌among◌, splice}
use Rattle.sets.specs.Sets.{◌⊆◌, size}
use Rattle.logic.specs.Expressions.{written}
use Rattle.logic.specs.Decks.{Deck, Accepted, base}
use Rattle.logic.specs.Meaning.{Claim, Holds, RunOf, Breaks, Broken, ClaimStep, claim_run, state_of}
use Rattle.logic.specs.Cones.{IsCone}
use Rattle.logic.specs.Pieces.{split, pieces}
use Rattle.logic.specs.Verdicts.{Verdict, Breaking, NotInitial as NotInitialState, NoStep as NoSuchStep, Holding as HoldingProperty, verdict}
use Rattle.logic.proofs.Cone.{cone_is}
use Rattle.logic.proofs.Verdict.{accepted_exactly_when, refused_20_exactly_when, refused_21_exactly_when, refused_22_exactly_when}
use Rattle.decks.specs.declared.Reply.{Reply}
use Rattle.decks.specs.Answers.{Outcome, Got, Refused, reply_to, said}
use Rattle.decks.specs.Stored.{stored, blank}
use Rattle.frames.specs.Written.{deck_frames}
use Rattle.frames.specs.Read.{read_deck}
use Rattle.frames.proofs.DeckTheorems.{deck-written_read, deck_read_written, deck_read_accepted}
use Rattle.frames.proofs.ClaimTheorems.{claim_read_sized}
use Rattle.cards.specs.Card.{cards_of, Open, in_form}
use Rattle.cards.specs.Statement.{Statement, inked, statements_of}
use Rattle.cards.specs.Typed.{Typed, spelt, deck_of, Fits}
use Rattle.cards.specs.Read.{read_cards}
use Rattle.cards.specs.Comments.{uncommented, CommentsFormed, SameButComments, SamePlace}
use Rattle.cards.proofs.NothingDropped.{nothing_dropped, cards_accepted}
use Rattle.cards.proofs.CommentMeansNothing.{SameReply, comment_means_nothing, comment_same_reply}
use Rattle.pieces.specs.Reduced.{all_frames, piece_bytes}
use Rattle.pieces.proofs.Theorems.{pieces_read_back}
use Rattle.claims.specs.Checked.{verdict_answer, checked}
use Rattle.replies.specs.declared.DeckReply.{DeckReply}
use Rattle.replies.specs.declared.CountReply.{CountReply}
use Rattle.replies.specs.Replies.{read_reply, write_reply, write_buffer, reduce_reply, reduce_buffer, cone_reply}
use Rattle.checking.proofs.Numbered.{Numbered}
use Rattle.station.specs.Promises.{ReadsCards, ReadsFrames, WritesCards, WritesFrames, ReducesCards, ReducesFrames, FindsCone, ChecksClaim}
use Rattle.station.proofs.NumberedCards.{cards_numbered}
use Rattle.station.proofs.NumberedFrames.{deck-numbered}
use Rattle.station.proofs.ReplyLaws.{zero_names_nothing, read_refused, read_success, read_got, first-bytes, behind-bytes, write_refused, write_success, write_got, reduce_refused, reduce_success, reduce_got, reduce_no_room, cone_refused, cone_success, cone_got, BothRead, both_checked, OfText, checked_both, verdict_0, verdict_20, verdict_21, verdict_22}

-- ==== Demand 1
-- Every text handed in gets a reply: a deck, a cone, reduced decks, a verdict on a claimed run, or one numbered refusal with its place.
-- Nothing is asked of the caller beforehand. A refusal returns nothing else and changes no lent memory.

-- ---- every text gets a reply

pub replies_reads_cards : (text : List ℕ) → (r : DeckReply) × ReadsCards text r
replies_reads_cards text = (read_reply (read_cards text), refl)

pub replies_reads_frames : (text : List ℕ) → (r : DeckReply) × ReadsFrames text r
replies_reads_frames text = (read_reply (read_deck text), refl)

pub replies_writes_cards : (text out : List ℕ) → (r : CountReply) × (after : List ℕ) × WritesCards text out r after
replies_writes_cards text out = (write_reply (read_cards text) out, write_buffer (read_cards text) out, (refl, refl))

pub replies_writes_frames : (text out : List ℕ) → (r : CountReply) × (after : List ℕ) × WritesFrames text out r after
replies_writes_frames text out = (write_reply (read_deck text) out, write_buffer (read_deck text) out, (refl, refl))

pub replies_reduces_cards : (text out : List ℕ) → (r : CountReply) × (after : List ℕ) × ReducesCards text out r after
replies_reduces_cards text out = (reduce_reply (read_cards text) out, reduce_buffer (read_cards text) out, (refl, refl))

pub replies_reduces_frames : (text out : List ℕ) → (r : CountReply) × (after : List ℕ) × ReducesFrames text out r after
replies_reduces_frames text out = (reduce_reply (read_deck text) out, reduce_buffer (read_deck text) out, (refl, refl))

pub replies_finds_cone : (text : List ℕ) (s : ℕ) → (r : CountReply) × FindsCone text s r
replies_finds_cone text s = (cone_reply (read_deck text) s, refl)

pub replies_checks_claim : (deck claim : List ℕ) → (r : Reply) × ChecksClaim deck claim r
replies_checks_claim deck claim = (reply_to (checked deck claim), refl)

-- ---- a refusal returns nothing else and changes no lent memory

-- The deck of zeros is returned.
abbrev pub NoDeck : DeckReply → Type 0
NoDeck r = (r.number ≡ 0 → ⊥) → r.deck ≡ blank

-- Zero counts, or the empty set with size 0, are returned.
abbrev pub NoCounts : CountReply → Type 0
NoCounts r = (r.number ≡ 0 → ⊥) → (r.first ≡ 0) × (r.second ≡ 0)

-- Zero counts are returned, and the buffer is as it was.
abbrev pub NoChange : List ℕ → CountReply → List ℕ → Type 0
NoChange out r after = (r.number ≡ 0 → ⊥) → (r.first ≡ 0) × (r.second ≡ 0) × (after ≡ out)

module _ (text : List ℕ) (r : DeckReply) where
  pub refused_changes_nothing_reads_cards : ReadsCards text r → NoDeck r
  refused_changes_nothing_reads_cards p = subst NoDeck (sym p) (read_refused (read_cards text))

  pub refused_changes_nothing_reads_frames : ReadsFrames text r → NoDeck r
  refused_changes_nothing_reads_frames p = subst NoDeck (sym p) (read_refused (read_deck text))

module _ (text out : List ℕ) (r : CountReply) (after : List ℕ) where
  changes_nothing : (s : CountReply) (buffer : List ℕ) → (r ≡ s) × (after ≡ buffer) → NoChange out s buffer → NoChange out r after
  changes_nothing s buffer (p, q) n = subst (λ (x : CountReply). NoChange out x after) (sym p) (subst (NoChange out s) (sym q) n)

  pub refused_changes_nothing_writes_cards : WritesCards text out r after → NoChange out r after
  refused_changes_nothing_writes_cards p = changes_nothing _ _ p (write_refused (read_cards text) out)

  pub refused_changes_nothing_writes_frames : WritesFrames text out r after → NoChange out r after
  refused_changes_nothing_writes_frames p = changes_nothing _ _ p (write_refused (read_deck text) out)

  pub refused_changes_nothing_reduces_cards : ReducesCards text out r after → NoChange out r after
  refused_changes_nothing_reduces_cards p = changes_nothing _ _ p (reduce_refused (read_cards text) out)

  pub refused_changes_nothing_reduces_frames : ReducesFrames text out r after → NoChange out r after
  refused_changes_nothing_reduces_frames p = changes_nothing _ _ p (reduce_refused (read_deck text) out)

pub refused_changes_nothing_finds_cone : (text : List ℕ) (s : ℕ) (r : CountReply) → FindsCone text s r → NoCounts r
refused_changes_nothing_finds_cone text s r p = subst NoCounts (sym p) (cone_refused (read_deck text) s)

-- ---- number 0 is success, with text and place 0

abbrev pub NamesNothing : ℕ → ℕ → ℕ → Type 0
NamesNothing number text place = number ≡ 0 → (text ≡ 0) × (place ≡ 0)

abbrev deck_names : DeckReply → Type 0
deck_names r = NamesNothing r.number r.text r.place

abbrev count_names : CountReply → Type 0
count_names r = NamesNothing r.number r.text r.place

module _ (text : List ℕ) (r : DeckReply) where
  pub success_names_nothing_reads_cards : ReadsCards text r → NamesNothing r.number r.text r.place
  success_names_nothing_reads_cards p = subst deck_names (sym p) (read_success (read_cards text))

  pub success_names_nothing_reads_frames : ReadsFrames text r → NamesNothing r.number r.text r.place
  success_names_nothing_reads_frames p = subst deck_names (sym p) (read_success (read_deck text))

module _ (text out : List ℕ) (r : CountReply) (after : List ℕ) where
  pub success_names_nothing_writes_cards : WritesCards text out r after → NamesNothing r.number r.text r.place
  success_names_nothing_writes_cards p = subst count_names (sym p.0) (write_success (read_cards text) out)

  pub success_names_nothing_writes_frames : WritesFrames text out r after → NamesNothing r.number r.text r.place
  success_names_nothing_writes_frames p = subst count_names (sym p.0) (write_success (read_deck text) out)

  pub success_names_nothing_reduces_cards : ReducesCards text out r after → NamesNothing r.number r.text r.place
  success_names_nothing_reduces_cards p = subst count_names (sym p.0) (reduce_success (read_cards text) out)

  pub success_names_nothing_reduces_frames : ReducesFrames text out r after → NamesNothing r.number r.text r.place
  success_names_nothing_reduces_frames p = subst count_names (sym p.0) (reduce_success (read_deck text) out)

pub success_names_nothing_finds_cone : (text : List ℕ) (s : ℕ) (r : CountReply) → FindsCone text s r → NamesNothing r.number r.text r.place
success_names_nothing_finds_cone text s r p = subst count_names (sym p) (cone_success (read_deck text) s)

pub success_names_nothing_checks_claim : (deck claim : List ℕ) (r : Reply) → ChecksClaim deck claim r → NamesNothing r.number r.text r.place
success_names_nothing_checks_claim deck claim r p =
    subst (λ (x : Reply). NamesNothing x.number x.text x.place) (sym p) (zero_names_nothing (checked deck claim))

-- ---- number 0 returns an accepted deck

pub success_returns_deck_reads_cards : (text : List ℕ) (r : DeckReply) → ReadsCards text r → r.number ≡ 0 → (d : Deck) × Accepted base d × (r.deck ≡ stored d)
success_returns_deck_reads_cards text r p z =
    let (d, e) = read_got (read_cards text) (cards_numbered text) (sym (ap (λ (x : DeckReply). x.number) p) ∙ z) in
    (d, cards_accepted text d e, ap (λ (x : DeckReply). x.deck) (p ∙ ap read_reply e))

pub success_returns_deck_reads_frames : (text : List ℕ) (r : DeckReply) → ReadsFrames text r → r.number ≡ 0 → (d : Deck) × Accepted base d × (r.deck ≡ stored d)
success_returns_deck_reads_frames text r p z =
    let (d, e) = read_got (read_deck text) (deck-numbered text) (sym (ap (λ (x : DeckReply). x.number) p) ∙ z) in
    (d, deck_read_accepted text d e, ap (λ (x : DeckReply). x.deck) (p ∙ ap read_reply e))

-- ==== Demand 2
-- The card reading follows the FORTRAN 77 fixed form as RULES 2 narrows it. Splitting, cone, reduced deck and the truth of a property on a run are those of Ray, Matthews and Tuttle (RULES 4, 5).
-- Frames written and read again give the same deck, and frames read and written again give the same bytes.

-- Cards are accepted exactly when the text is no longer than allowed, every card is in form, and the statements, without their blanks, are the spelling of something typed that keeps the limits; the deck returned is what was typed. So no character is dropped.
pub cards_accepted_exactly_when : (text : List ℕ) (r : DeckReply) → ReadsCards text r
    → (r.number ≡ 0)
    ↔ ((length text ≤ base.text)
    × ((o : Open) × (in_form (cards_of text) ≡ Got o))
    × ((t : Typed) × (map (λ (s : Statement). inked s.field) (statements_of (cards_of text)) ≡ spelt t) × Fits base t × (r.deck ≡ stored (deck_of t))))
cards_accepted_exactly_when text r p = (
  λ z.
      let (d, e) = read_got (read_cards text) (cards_numbered text) (sym (ap (λ (x : DeckReply). x.number) p) ∙ z) in
      let (short, form, (t, spells, fits, is)) = (nothing_dropped text d).0 e in
      (short, form, (t, spells, fits, ap (λ (x : DeckReply). x.deck) (p ∙ ap read_reply e) ∙ ap stored is)),
  λ (short, form, (t, spells, fits, is)).
      let e : read_cards text ≡ Got (deck_of t) = (nothing_dropped text (deck_of t)).1 (short, form, (t, spells, fits, refl)) in
      ap (λ (x : DeckReply). x.number) (p ∙ ap read_reply e),
)

-- Comment cards mean nothing. An accepted text stays accepted with any comments put in or taken out, if they are in form and it is not too long then: the reply is the same with the same deck, and so is all that is written of it, and all that it is reduced to, into a lent buffer.
module _ (one other : List ℕ) (q : DeckReply) (reads : ReadsCards one q) (accepted : q.number ≡ 0) (same : uncommented (cards_of one) ≡ uncommented (cards_of other)) (formed : CommentsFormed (cards_of other)) (short : length other ≤ base.text) where
  same-deck : read_cards other ≡ read_cards one
  same-deck =
      let (d, e) = read_got (read_cards one) (cards_numbered one) (sym (ap (λ (x : DeckReply). x.number) reads) ∙ accepted) in
      comment_means_nothing one other d same formed short e ∙ sym e

  pub comment_means_nothing_reads_cards : (s : DeckReply) → ReadsCards other s → s ≡ q
  comment_means_nothing_reads_cards s p = p ∙ ap read_reply same-deck ∙ sym reads

  pub comment_means_nothing_writes_cards : (out : List ℕ) (r s : CountReply) (after later : List ℕ) → WritesCards one out r after → WritesCards other out s later → (s ≡ r) × (later ≡ after)
  comment_means_nothing_writes_cards out r s after later (p, b) (o, c) = (o ∙ ap (λ (x : Outcome Deck). write_reply x out) same-deck ∙ sym p, c ∙ ap (λ (x : Outcome Deck). write_buffer x out) same-deck ∙ sym b)

  pub comment_means_nothing_reduces_cards : (out : List ℕ) (r s : CountReply) (after later : List ℕ) → ReducesCards one out r after → ReducesCards other out s later → (s ≡ r) × (later ≡ after)
  comment_means_nothing_reduces_cards out r s after later (p, b) (o, c) = (o ∙ ap (λ (x : Outcome Deck). reduce_reply x out) same-deck ∙ sym p, c ∙ ap (λ (x : Outcome Deck). reduce_buffer x out) same-deck ∙ sym b)

abbrev told : DeckReply → Reply
told r = record { number = r.number; text = r.text; place = r.place }

abbrev counted : CountReply → Reply
counted r = record { number = r.number; text = r.text; place = r.place }

read_told : (o : Outcome Deck) → told (read_reply o) ≡ reply_to (said o)
read_told (Got d) = refl
read_told (Refused a) = refl

write_told : (o : Outcome Deck) (out : List ℕ) → ((read_reply o).number ≡ 0 → ⊥) → counted (write_reply o out) ≡ told (read_reply o)
write_told (Got d) out n = absurd (n refl)
write_told (Refused a) out n = refl

reduce_told : (o : Outcome Deck) (out : List ℕ) → ((read_reply o).number ≡ 0 → ⊥) → counted (reduce_reply o out) ≡ told (read_reply o)
reduce_told (Got d) out n = absurd (n refl)
reduce_told (Refused a) out n = refl

-- Two texts of the same cards but for comments, accepted or refused: the replies have one number and one text, and name one card by the number that it has in each text, or one variable. Where they are refused, so they are by every operation on cards.
module _ (one other : List ℕ) (same : SameButComments one other) where
  alike : (x y : Reply) → x ≡ told (read_reply (read_cards one)) → y ≡ told (read_reply (read_cards other)) → SameReply one other x y
  alike x y p q =
      subst (λ (z : Reply). SameReply one other z y) (sym (p ∙ read_told (read_cards one)))
      (subst (SameReply one other (reply_to (said (read_cards one)))) (sym (q ∙ read_told (read_cards other))) (comment_same_reply one other same))

  pub comment_same_refusal_reads_cards : (r s : DeckReply) → ReadsCards one r → ReadsCards other s
      → (r.number ≡ s.number) × (r.text ≡ s.text) × SamePlace one other r.number r.place s.place
  comment_same_refusal_reads_cards r s p q = alike (told r) (told s) (ap told p) (ap told q)

  module _ (q : DeckReply) (reads : ReadsCards one q) (refused : q.number ≡ 0 → ⊥) where
    one_refused : (read_reply (read_cards one)).number ≡ 0 → ⊥
    one_refused z = refused (ap (λ (x : DeckReply). x.number) reads ∙ z)

    other_refused : (read_reply (read_cards other)).number ≡ 0 → ⊥
    other_refused z = one_refused ((alike (told (read_reply (read_cards one))) (told (read_reply (read_cards other))) refl refl).0 ∙ z)

    pub comment_same_refusal_writes_cards : (out : List ℕ) (r s : CountReply) (after later : List ℕ) → WritesCards one out r after → WritesCards other out s later
        → (r.number ≡ s.number) × (r.text ≡ s.text) × SamePlace one other r.number r.place s.place
    comment_same_refusal_writes_cards out r s after later (o, b) (p, c) =
        alike (counted r) (counted s) (ap counted o ∙ write_told (read_cards one) out one_refused) (ap counted p ∙ write_told (read_cards other) out other_refused)

    pub comment_same_refusal_reduces_cards : (out : List ℕ) (r s : CountReply) (after later : List ℕ) → ReducesCards one out r after → ReducesCards other out s later
        → (r.number ≡ s.number) × (r.text ≡ s.text) × SamePlace one other r.number r.place s.place
    comment_same_refusal_reduces_cards out r s after later (o, b) (p, c) =
        alike (counted r) (counted s) (ap counted o ∙ reduce_told (read_cards one) out one_refused) (ap counted p ∙ reduce_told (read_cards other) out other_refused)

-- A text of frames is accepted exactly when it is the frames of an accepted deck; the deck returned is that one.
pub frames_accepted_exactly_when : (text : List ℕ) (r : DeckReply) → ReadsFrames text r → (r.number ≡ 0) ↔ ((d : Deck) × (text ≡ deck_frames d) × Accepted base d × (r.deck ≡ stored d))
frames_accepted_exactly_when text r p = (
  λ z.
      let (d, e) = read_got (read_deck text) (deck-numbered text) (sym (ap (λ (x : DeckReply). x.number) p) ∙ z) in
      (d, deck_read_written text d e, deck_read_accepted text d e, ap (λ (x : DeckReply). x.deck) (p ∙ ap read_reply e)),
  λ (d, is, ok, same). ap (λ (x : DeckReply). x.number) (p ∙ ap read_reply (ap read_deck is ∙ deck-written_read d ok)),
)

-- Frames read and written again give the same bytes: as many as are counted, from the buffer's first byte on; bytes beyond stay as they were.
pub frames_read_written : (text out : List ℕ) (r : CountReply) (after : List ℕ) → WritesFrames text out r after → r.number ≡ 0
    → (r.first ≡ length text) × (take r.first after ≡ text) × (drop r.first after ≡ drop r.first out)
frames_read_written text out r after (p, q) z =
    let (d, e, room, count, buffer) = write_got (read_deck text) out (deck-numbered text) (sym (ap (λ (x : CountReply). x.number) p) ∙ z) in
    let is : text ≡ deck_frames d = deck_read_written text d e in
    let n : r.first ≡ length text = ap (λ (x : CountReply). x.first) p ∙ count ∙ ap length (sym is) in
    let b : after ≡ splice 0 text out = q ∙ buffer ∙ ap (λ (v : List ℕ). splice 0 v out) (sym is) in
    (n, first-bytes r.first text out after n b, behind-bytes r.first text out after n b)

-- Frames written and read again give the same deck, whether it came as frames or as cards; bytes beyond stay as they were.
pub frames_written_read : (text out : List ℕ) (r : CountReply) (after : List ℕ) (s t : DeckReply)
    → WritesFrames text out r after → r.number ≡ 0 → ReadsFrames text s → ReadsFrames (take r.first after) t → s ≡ t
frames_written_read text out r after s t w z p q = p ∙ ap (λ (x : List ℕ). read_reply (read_deck x)) (sym (frames_read_written text out r after w z).1) ∙ sym q

pub cards_written_read : (text out : List ℕ) (r : CountReply) (after : List ℕ) (s t : DeckReply)
    → WritesCards text out r after → r.number ≡ 0 → ReadsCards text s → ReadsFrames (take r.first after) t
    → (s ≡ t) × (drop r.first after ≡ drop r.first out)
cards_written_read text out r after s t (p, q) z cards frames =
    let (d, e, room, count, buffer) = write_got (read_cards text) out (cards_numbered text) (sym (ap (λ (x : CountReply). x.number) p) ∙ z) in
    let n : r.first ≡ length (deck_frames d) = ap (λ (x : CountReply). x.first) p ∙ count in
    let b : after ≡ splice 0 (deck_frames d) out = q ∙ buffer in
    let first : take r.first after ≡ deck_frames d = first-bytes r.first (deck_frames d) out after n b in
    let back : read_deck (take r.first after) ≡ Got d = ap read_deck first ∙ deck-written_read d (cards_accepted text d e) in
    (cards ∙ ap read_reply e ∙ ap read_reply (sym back) ∙ sym frames, behind-bytes r.first (deck_frames d) out after n b)

-- The cone returned is the least set that holds the set given and, with each variable, all variables written in any of its equations; its size is the number of its ones.
pub cone_found : (text : List ℕ) (s : ℕ) (r : CountReply) → FindsCone text s r → r.number ≡ 0
    → (d : Deck) × (read_deck text ≡ Got d) × (s ⊆ d.vars) × IsCone d.equations s r.first × (r.second ≡ size r.first)
cone_found text s r p z =
    let (d, e, inside, set, ones) = cone_got (read_deck text) s (deck-numbered text) (sym (ap (λ (x : CountReply). x.number) p) ∙ z) in
    let c = ap (λ (x : CountReply). x.first) p ∙ set in
    (d, e, inside, subst (IsCone d.equations s) (sym c) (cone_is d.equations s), ap (λ (x : CountReply). x.second) p ∙ ones ∙ ap size (sym c))

-- ==== Demand 3
-- For every accepted deck, each reduced deck keeps the least set of variables that holds its property's variables and every variable written in an equation of one it holds.
-- Some run of the whole deck that ends in a repeating loop breaks the property exactly when such a run of at least one reduced deck breaks that deck's property.

-- What entitles us to check the decks ds, to which d is reduced, and sign for d.
pub record ReducedTo (d : Deck) (ds : List Deck) : Type 0 where
  -- the property of the i-th is the i-th conjunct of the deck's
  pub conjuncts : map (λ (q : Deck). q.property) ds ≡ split d.property
  pub least : Each (λ (q : Deck). IsCone d.equations (written q.property) q.vars) ds
  pub broken_exactly_when : Broken d ↔ Some Broken ds
  -- the frames of each read as it
  pub reads_back : Each (λ (q : Deck). read_deck (deck_frames q) ≡ Got q) ds

-- A reply and a buffer that hold exactly the frames of the decks ds, one behind the other.
pub record HoldsFrames (out : List ℕ) (r : CountReply) (after : List ℕ) (ds : List Deck) : Type 0 where
  pub counted : r.first ≡ length ds
  pub bytes_counted : r.second ≡ length (all_frames ds)
  pub bytes-written : take r.second after ≡ all_frames ds
  pub beyond : drop r.second after ≡ drop r.second out

entitled : (d : Deck) → Accepted base d → ReducedTo d (pieces d)
entitled d ok =
    let e = pieces_read_back d ok in
    record { conjuncts = e.conjuncts; least = e.least; broken_exactly_when = e.demand; reads_back = e.read_back }

holds_frames : (o : Outcome Deck) (out : List ℕ) (r : CountReply) (after : List ℕ) → Numbered o → (r ≡ reduce_reply o out) × (after ≡ reduce_buffer o out) → r.number ≡ 0
    → (d : Deck) × (o ≡ Got d) × HoldsFrames out r after (pieces d)
holds_frames o out r after h (p, q) z =
    let (d, e, room, count, bytes, buffer) = reduce_got o out h (sym (ap (λ (x : CountReply). x.number) p) ∙ z) in
    let n : r.second ≡ length (piece_bytes d) = ap (λ (x : CountReply). x.second) p ∙ bytes in
    let b : after ≡ splice 0 (piece_bytes d) out = q ∙ buffer in (
      d,
      e,
      record {
        counted = ap (λ (x : CountReply). x.first) p ∙ count;
        bytes_counted = n;
        bytes-written = first-bytes r.second (piece_bytes d) out after n b;
        beyond = behind-bytes r.second (piece_bytes d) out after n b;
      },
    )

-- Of every text that is reduced: the bytes written are exactly the frames of decks to which the deck is reduced.
pub demand_3_reduces_cards : (text out : List ℕ) (r : CountReply) (after : List ℕ) → ReducesCards text out r after → r.number ≡ 0
    → (d : Deck) × (ds : List Deck) × (read_cards text ≡ Got d) × HoldsFrames out r after ds × ReducedTo d ds
demand_3_reduces_cards text out r after w z =
    let (d, e, h) = holds_frames (read_cards text) out r after (cards_numbered text) w z in
    (d, pieces d, e, h, entitled d (cards_accepted text d e))

pub demand_3_reduces_frames : (text out : List ℕ) (r : CountReply) (after : List ℕ) → ReducesFrames text out r after → r.number ≡ 0
    → (d : Deck) × (ds : List Deck) × (read_deck text ≡ Got d) × HoldsFrames out r after ds × ReducedTo d ds
demand_3_reduces_frames text out r after w z =
    let (d, e, h) = holds_frames (read_deck text) out r after (deck-numbered text) w z in
    (d, pieces d, e, h, entitled d (deck_read_accepted text d e))

-- Where the room is too small (17): there are such decks, and the place is the bytes that their frames need, more than were lent.
pub demand_3_no_room_cards : (text out : List ℕ) (r : CountReply) (after : List ℕ) → ReducesCards text out r after → r.number ≡ 17
    → (d : Deck) × (ds : List Deck) × (read_cards text ≡ Got d) × (r.place ≡ length (all_frames ds)) × (length out < r.place) × ReducedTo d ds
demand_3_no_room_cards text out r after (p, q) z =
    let (d, e, room, place) = reduce_no_room (read_cards text) out (cards_numbered text) (sym (ap (λ (x : CountReply). x.number) p) ∙ z) in
    let n : r.place ≡ length (piece_bytes d) = ap (λ (x : CountReply). x.place) p ∙ place in
    (d, pieces d, e, n, omega (arith, n, room), entitled d (cards_accepted text d e))

pub demand_3_no_room_frames : (text out : List ℕ) (r : CountReply) (after : List ℕ) → ReducesFrames text out r after → r.number ≡ 17
    → (d : Deck) × (ds : List Deck) × (read_deck text ≡ Got d) × (r.place ≡ length (all_frames ds)) × (length out < r.place) × ReducedTo d ds
demand_3_no_room_frames text out r after (p, q) z =
    let (d, e, room, place) = reduce_no_room (read_deck text) out (deck-numbered text) (sym (ap (λ (x : CountReply). x.number) p) ∙ z) in
    let n : r.place ≡ length (piece_bytes d) = ap (λ (x : CountReply). x.place) p ∙ place in
    (d, pieces d, e, n, omega (arith, n, room), entitled d (deck_read_accepted text d e))

-- ==== The claimed run
-- Is a failing run reported on a small deck one that the station could make?

-- What is asked of a deck and a claim that were both read.
abbrev pub Read : List ℕ → List ℕ → (Deck → Claim → Type 0) → Type 0
Read deck claim P = (d : Deck) × (m : Claim) × BothRead deck claim d m × P d m

module _ (deck claim : List ℕ) (r : Reply) (says : ChecksClaim deck claim r) where
  -- A number that is no text's fault is a verdict's.
  read_verdict : (n : ℕ) → r.number ≡ n → (OfText n → ⊥) → Read deck claim (λ d m. r ≡ reply_to (verdict_answer (verdict d m)))
  read_verdict n e other =
      let same : (reply_to (checked deck claim)).number ≡ n = sym (ap (λ (x : Reply). x.number) says) ∙ e in
      let (d, m, both, is) = checked_both deck claim (λ h. other (subst OfText same h)) in
      (d, m, both, says ∙ ap reply_to is)

  verdict_read : (d : Deck) (m : Claim) (v : Verdict) → BothRead deck claim d m → verdict d m ≡ v → r ≡ reply_to (verdict_answer v)
  verdict_read d m v both e = says ∙ ap reply_to (both_checked deck claim d m both) ∙ ap (λ (x : Verdict). reply_to (verdict_answer x)) e

  -- Accepted exactly when both texts are read, and the claim's run is a run of the deck and breaks its property.
  pub claim_accepted_exactly_when : (r.number ≡ 0) ↔ Read deck claim (λ d m. RunOf d (claim_run m) × Breaks (claim_run m) d.property)
  claim_accepted_exactly_when = (
    λ e.
        let (d, m, both, is) = read_verdict 0 e (λ h. omega (arith, h.0)) in
        let (sized, within) = claim_read_sized d.vars claim m both.1 in
        (d, m, both, (accepted_exactly_when base d m sized within).0 (verdict_0 (verdict d m) (sym (ap (λ (x : Reply). x.number) is) ∙ e))),
    λ (d, m, both, meant).
        let (sized, within) = claim_read_sized d.vars claim m both.1 in
        ap (λ (x : Reply). x.number) (verdict_read d m Breaking both ((accepted_exactly_when base d m sized within).1 meant)),
  )

  -- 20 exactly when both texts are read, and the claim's first state is not initial.
  pub claim_20_exactly_when : (r.number ≡ 20) ↔ Read deck claim (λ d m. state_of m 0 among d.inits → ⊥)
  claim_20_exactly_when = (
    λ e.
        let (d, m, both, is) = read_verdict 20 e (λ h. omega (arith, h.1)) in
        let (sized, within) = claim_read_sized d.vars claim m both.1 in
        (d, m, both, (refused_20_exactly_when base d m sized within).0 (verdict_20 (verdict d m) (sym (ap (λ (x : Reply). x.number) is) ∙ e))),
    λ (d, m, both, meant).
        let (sized, within) = claim_read_sized d.vars claim m both.1 in
        ap (λ (x : Reply). x.number) (verdict_read d m NotInitialState both ((refused_20_exactly_when base d m sized within).1 meant)),
  )

  -- 21 at place i exactly when both texts are read, the first state is initial, and i is the lowest step that the deck does not allow.
  pub claim_21_exactly_when : (i : ℕ)
      → ((r.number ≡ 21) × (r.place ≡ i))
      ↔ Read deck claim (λ d m. (state_of m 0 among d.inits) × (i < m.p + m.c) × ((j : ℕ) → j < i → ClaimStep d m j) × (ClaimStep d m i → ⊥))
  claim_21_exactly_when i = (
    λ (e, f).
        let (d, m, both, is) = read_verdict 21 e (λ h. omega (arith, h.1)) in
        let (sized, within) = claim_read_sized d.vars claim m both.1 in
        let step : verdict d m ≡ NoSuchStep i = verdict_21 (verdict d m) (sym (ap (λ (x : Reply). x.number) is) ∙ e) ∙ ap NoSuchStep (sym (ap (λ (x : Reply). x.place) is) ∙ f) in
        (d, m, both, (refused_21_exactly_when base d m sized within i).0 step),
    λ (d, m, both, meant).
        let (sized, within) = claim_read_sized d.vars claim m both.1 in
        let is = verdict_read d m (NoSuchStep i) both ((refused_21_exactly_when base d m sized within i).1 meant) in
        (ap (λ (x : Reply). x.number) is, ap (λ (x : Reply). x.place) is),
  )

  -- 22 exactly when both texts are read, the claim's run is a run of the deck, and the property holds on it.
  pub claim_22_exactly_when : (r.number ≡ 22) ↔ Read deck claim (λ d m. RunOf d (claim_run m) × Holds (claim_run m) d.property 0)
  claim_22_exactly_when = (
    λ e.
        let (d, m, both, is) = read_verdict 22 e (λ h. omega (arith, h.1)) in
        let (sized, within) = claim_read_sized d.vars claim m both.1 in
        (d, m, both, (refused_22_exactly_when base d m sized within).0 (verdict_22 (verdict d m) (sym (ap (λ (x : Reply). x.number) is) ∙ e))),
    λ (d, m, both, meant).
        let (sized, within) = claim_read_sized d.vars claim m both.1 in
        ap (λ (x : Reply). x.number) (verdict_read d m HoldingProperty both ((refused_22_exactly_when base d m sized within).1 meant)),
  )
