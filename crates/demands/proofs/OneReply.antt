-- Two replies that satisfy an operation's promise are one reply, and the lent buffer is one afterwards, on refusals as on success.
use mathlib.Core.Path.{◌≡◌, sym, ◌∙◌}
use mathlib.Core.List.{List}
use Prim.Native.Nat.{ℕ}
use Rattle.decks.specs.declared.Reply.{Reply}
use Rattle.replies.specs.declared.DeckReply.{DeckReply}
use Rattle.replies.specs.declared.CountReply.{CountReply}
use Rattle.station.specs.Promises.{ReadsCards, ReadsFrames, WritesCards, WritesFrames, ReducesCards, ReducesFrames, FindsCone, ChecksClaim}

module _ (text : List ℕ) (r s : DeckReply) where
  pub one_reply_reads_cards : ReadsCards text r → ReadsCards text s → r ≡ s
  one_reply_reads_cards p q = p ∙ sym q

  pub one_reply_reads_frames : ReadsFrames text r → ReadsFrames text s → r ≡ s
  one_reply_reads_frames p q = p ∙ sym q

module _ (text out : List ℕ) (r s : CountReply) (after later : List ℕ) where
  pub one_reply_writes_cards : WritesCards text out r after → WritesCards text out s later → (r ≡ s) × (after ≡ later)
  one_reply_writes_cards p q = (p.0 ∙ sym q.0, p.1 ∙ sym q.1)

  pub one_reply_writes_frames : WritesFrames text out r after → WritesFrames text out s later → (r ≡ s) × (after ≡ later)
  one_reply_writes_frames p q = (p.0 ∙ sym q.0, p.1 ∙ sym q.1)

  pub one_reply_reduces_cards : ReducesCards text out r after → ReducesCards text out s later → (r ≡ s) × (after ≡ later)
  one_reply_reduces_cards p q = (p.0 ∙ sym q.0, p.1 ∙ sym q.1)

  pub one_reply_reduces_frames : ReducesFrames text out r after → ReducesFrames text out s later → (r ≡ s) × (after ≡ later)
  one_reply_reduces_frames p q = (p.0 ∙ sym q.0, p.1 ∙ sym q.1)

pub one_reply_finds_cone : (text : List ℕ) (set : ℕ) (r s : CountReply) → FindsCone text set r → FindsCone text set s → r ≡ s
one_reply_finds_cone text set r s p q = p ∙ sym q

pub one_reply_checks_claim : (deck claim : List ℕ) (r s : Reply) → ChecksClaim deck claim r → ChecksClaim deck claim s → r ≡ s
one_reply_checks_claim deck claim r s p q = p ∙ sym q
