-- Every refusal of a reader has one of the numbers 1 to 16, and names the deck or the claim and a place within the longest text.
use mathlib.Core.Path.{◌≡◌, refl}
use mathlib.Core.Bool.{Bool, true, false}
use mathlib.Core.List.{List, [], ◌∷◌}
use Prim.Native.Nat.{ℕ, suc, ◌+◌, ◌≤◌}
use native.Mathlib.Omega.{arith}
use borrow.Author.Tests.{ltb-false}
use lib.Dec.{ltb, lit≤}
use lib.ListN.{length}
use Rattle.logic.specs.Decks.{base}
use Rattle.decks.specs.declared.Refusal.{Refusal}
use Rattle.decks.specs.declared.Refusal.TheVariants.{TooLong, BadByte, TooWide, BadStart, BadNumber, NoneOpen, TooManyCards, NotDue, Outside, Temporal, TooDeep, ManyInitials, ManyEquations, ManyNodes, NoEquation, BadFrame, NoRoom, NotInitial, NoStep, Holding}
use Rattle.decks.specs.declared.Reply.{Reply}
use Rattle.decks.specs.Answers.{Outcome, Got, Refused, reply_of, refuse, afterwards}
use Rattle.decks.specs.Readings.{walk}

-- A text has a card more than bytes at most.
abbrev pub farthest : ℕ
farthest = base.text + 1

-- The answers that a reader may refuse with, and what is to be known of their texts and places.
abbrev pub Names : Refusal → Type 0
Names (TooLong t) = t ≤ 2
Names (BadByte p) = p ≤ farthest
Names (TooWide p) = p ≤ farthest
Names (BadStart p) = p ≤ farthest
Names (BadNumber p) = p ≤ farthest
Names (NoneOpen p) = p ≤ farthest
Names (TooManyCards p) = p ≤ farthest
Names (NotDue p) = p ≤ farthest
Names (Outside t p) = (t ≤ 2) × (p ≤ farthest)
Names (Temporal p) = p ≤ farthest
Names (TooDeep p) = p ≤ farthest
Names (ManyInitials p) = p ≤ farthest
Names (ManyEquations p) = p ≤ farthest
Names (ManyNodes p) = p ≤ farthest
Names (NoEquation p) = p ≤ farthest
Names (BadFrame t p) = (t ≤ 2) × (p ≤ farthest)
Names (NoRoom p) = ⊥
Names NotInitial = ⊥
Names (NoStep p) = ⊥
Names Holding = ⊥

-- A number of a text's fault, the text and the place within bounds.
abbrev pub Fault : Reply → Type 0
Fault r = (1 ≤ r.number) × (r.number ≤ 16) × (r.text ≤ 2) × (r.place ≤ farthest)

pub fault : (a : Refusal) → Names a → Fault (reply_of a)
fault (TooLong t) h = (lit≤ tt, lit≤ tt, h, lit≤ tt)
fault (BadByte p) h = (lit≤ tt, lit≤ tt, lit≤ tt, h)
fault (TooWide p) h = (lit≤ tt, lit≤ tt, lit≤ tt, h)
fault (BadStart p) h = (lit≤ tt, lit≤ tt, lit≤ tt, h)
fault (BadNumber p) h = (lit≤ tt, lit≤ tt, lit≤ tt, h)
fault (NoneOpen p) h = (lit≤ tt, lit≤ tt, lit≤ tt, h)
fault (TooManyCards p) h = (lit≤ tt, lit≤ tt, lit≤ tt, h)
fault (NotDue p) h = (lit≤ tt, lit≤ tt, lit≤ tt, h)
fault (Outside t p) h = (lit≤ tt, lit≤ tt, h.0, h.1)
fault (Temporal p) h = (lit≤ tt, lit≤ tt, lit≤ tt, h)
fault (TooDeep p) h = (lit≤ tt, lit≤ tt, lit≤ tt, h)
fault (ManyInitials p) h = (lit≤ tt, lit≤ tt, lit≤ tt, h)
fault (ManyEquations p) h = (lit≤ tt, lit≤ tt, lit≤ tt, h)
fault (ManyNodes p) h = (lit≤ tt, lit≤ tt, lit≤ tt, h)
fault (NoEquation p) h = (lit≤ tt, lit≤ tt, lit≤ tt, h)
fault (BadFrame t p) h = (lit≤ tt, lit≤ tt, h.0, h.1)
fault (NoRoom p) h = absurd h
fault NotInitial h = absurd h
fault (NoStep p) h = absurd h
fault Holding h = absurd h

-- A refusal is one of them.
abbrev pub Numbered : {A : Type 0} → Outcome A → Type 0
Numbered (Got x) = Unit
Numbered (Refused a) = Names a

module _ {A : Type 0} where
  pub refuse-numbered : (t : Bool) (a : Refusal) (r : Outcome A) → Names a → Numbered r → Numbered (refuse t a r)
  refuse-numbered true a r h k = h
  refuse-numbered false a r h k = k

  pub afterwards-numbered : {B : Type 0} (r : Outcome A) (f : A → Outcome B) → Numbered r → ((x : A) → Numbered (f x)) → Numbered (afterwards r f)
  afterwards-numbered (Got x) f h k = k x
  afterwards-numbered (Refused a) f h k = h

  -- What is behind the test of a text's length knows that it is short.
  pub text-numbered : (t : ℕ) (text : List ℕ) (r : Outcome A) → t ≤ 2 → (length text ≤ base.text → Numbered r) → Numbered (refuse (ltb base.text (length text)) (TooLong t) r)
  text-numbered t text r h k = go (ltb base.text (length text)) (λ e. k (ltb-false base.text (length text) e))
    where
      go : (b : Bool) → (b ≡ false → Numbered r) → Numbered (refuse b (TooLong t) r)
      go true k = h
      go false k = k refl

module _ {A S : Type 0} (f : ℕ → A → S → Outcome S) where
  pub behind-numbered : (n : ℕ) (xs : List A) (r : Outcome S) → Numbered r → ((t : S) → Numbered (walk f (suc n) xs t)) → Numbered {A = S} (elim r [ Got t ↦ walk f (suc n) xs t | Refused a ↦ Refused a ])
  behind-numbered n xs (Got t) k more = more t
  behind-numbered n xs (Refused a) k more = k

  -- One by one, where each can be told by its number.
  pub walk-numbered : ((n : ℕ) (x : A) (s : S) → n ≤ farthest → Numbered (f n x s)) → (n : ℕ) (xs : List A) (s : S) → n + length xs ≤ farthest + 1 → Numbered (walk f n xs s)
  unfolding walk
  walk-numbered h n [] s l = tt
  walk-numbered h n (x ∷ xs) s l = behind-numbered n xs (f n x s) (h n x s (omega arith)) (λ t. walk-numbered h (suc n) xs t (omega arith))
