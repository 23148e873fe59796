-- Laws of the operations: a check, and what they export.
use mathlib.Core.Path.{◌≡◌, refl, ap, ◌∙◌, subst}
use mathlib.Core.List.{List}
use Prim.Native.Nat.{ℕ}
use Rattle.decks.specs.declared.Reply.{Reply}
use Rattle.frames.specs.Read.{read_deck}
use Rattle.claims.specs.Checked.{deck_checked, checked}
use Rattle.replies.specs.declared.CountReply.{CountReply}
use Rattle.exports.specs.Exported.{packed, packed_reply, Exported}

-- ---- checking

pub checked_is : (deck claim : List ℕ) → deck_checked (read_deck deck) claim ≡ checked deck claim
unfolding checked
checked_is deck claim = refl

-- ---- exports

-- What an operation promises, exported.
pub export_done : (s t : CountReply) (r : ℕ) (counts : List ℕ) → s ≡ t → Exported s r counts → Exported t r counts
export_done s t r counts e x = subst (λ (u : CountReply). Exported u r counts) e x

pub packed-done : (r s : Reply) (n : ℕ) → r ≡ s → n ≡ packed r.number r.text r.place → n ≡ packed_reply s
packed-done r s n e f = f ∙ ap packed_reply e
