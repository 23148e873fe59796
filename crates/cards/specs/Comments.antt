-- Comments mean nothing: the cards without them, and what two texts of the same cards but for comments may differ in (RULES 2.3).
use Rattle.std.specs.Prelude.{◌≡◌, ◌⊎◌, true, false, not, List, [], ◌∷◌, ℕ, suc, ◌≤◌, length, get_or}
use Rattle.lists.specs.Lists.{Each, keep}
use Rattle.logic.specs.Decks.{base}
use Rattle.cards.specs.Card.{cards_of}
use Rattle.cards.specs.Columns.{remark, Formed}

-- The cards that are no comments.
abbrev pub uncommented : List (List ℕ) → List (List ℕ)
uncommented cards = keep (λ (card : List ℕ). not (remark card)) cards

-- Their numbers, where the first of all the cards has number n.
unfoldable pub numbers_from : ℕ → List (List ℕ) → List ℕ
numbers_from n [] = []
numbers_from n (card ∷ cards) = elim (remark card) [ true ↦ numbers_from (suc n) cards | false ↦ n ∷ numbers_from (suc n) cards ]

-- The number that the k-th card that is no comment has among all the cards; 0 where there is none.
abbrev pub number_of : List (List ℕ) → ℕ → ℕ
number_of cards k = get_or (0 ∷ numbers_from 1 cards) k 0

-- Every comment holds bytes from 32 to 126 alone and has 80 columns at most.
abbrev pub CommentsFormed : List (List ℕ) → Type 0
CommentsFormed cards = Each (λ (card : List ℕ). remark card ≡ true → Formed card) cards

-- Two texts, neither too long, of the same cards but for comments, which are all in form.
pub record SameButComments (one other : List ℕ) : Type 0 where
  pub same : uncommented (cards_of one) ≡ uncommented (cards_of other)
  pub formed : CommentsFormed (cards_of one) × CommentsFormed (cards_of other)
  pub short : (length one ≤ base.text) × (length other ≤ base.text)

-- The places p and q of two replies with one number, to these texts, name the same: a variable (15), or one card by the number that it has in each.
abbrev pub SamePlace : List ℕ → List ℕ → ℕ → ℕ → ℕ → Type 0
SamePlace one other number p q =
    ((number ≡ 15) × (p ≡ q))
    ⊎ ((number ≡ 15 → ⊥) × ((k : ℕ) × (p ≡ number_of (cards_of one) k) × (q ≡ number_of (cards_of other) k)))
