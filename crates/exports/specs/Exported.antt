-- Replies as the exports for C give them.
use Rattle.std.specs.Prelude.{◌≡◌, List, [], ◌∷◌, ℕ, ◌+◌, ◌*◌, ◌^◌, ◌<◌}
use Rattle.decks.specs.declared.Reply.{Reply}
use Rattle.replies.specs.declared.CountReply.{CountReply}

-- Number, text and place in one word.
abbrev pub packed : ℕ → ℕ → ℕ → ℕ
packed number text place = number + 256 * text + 65536 * place

abbrev pub packed_reply : Reply → ℕ
packed_reply r = packed r.number r.text r.place

-- The word has eight bytes: number and text have one each, the place has six.
abbrev pub Packs : ℕ → ℕ → ℕ → Type 0
Packs number text place = (number < 256) × (text < 256) × (place < 2 ^ 48)

abbrev pub CountsPack : CountReply → Type 0
CountsPack s = Packs s.number s.text s.place

-- The word returned, and the two counts.
abbrev pub Exported : CountReply → ℕ → List ℕ → Type 0
Exported s r counts = (r ≡ packed s.number s.text s.place) × (counts ≡ s.first ∷ s.second ∷ [])
