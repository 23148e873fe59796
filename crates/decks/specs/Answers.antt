-- Refusals: the number, the text at fault (1 deck, 2 claim, 0 neither) and the place of each (RULES 7.2).
use Rattle.std.specs.Prelude.{Bool, true, false, ℕ, Result, Ok, Err}
use Rattle.decks.specs.declared.Refusal.{Refusal}
use Rattle.decks.specs.declared.Refusal.TheVariants.{TooLong, BadByte, TooWide, BadStart, BadNumber, NoneOpen, TooManyCards, NotDue, Outside, Temporal, TooDeep, ManyInitials, ManyEquations, ManyNodes, NoEquation, BadFrame, NoRoom, NotInitial, NoStep, Holding}
use Rattle.decks.specs.declared.Reply.{Reply}

abbrev says : ℕ → ℕ → ℕ → Reply
says n t p = record { number = n; text = t; place = p }

-- Nothing is refused.
abbrev pub fine : Reply
fine = says 0 0 0

abbrev pub reply_of : Refusal → Reply
reply_of (TooLong t) = says 1 t 0
reply_of (BadByte p) = says 2 1 p
reply_of (TooWide p) = says 3 1 p
reply_of (BadStart p) = says 4 1 p
reply_of (BadNumber p) = says 5 1 p
reply_of (NoneOpen p) = says 6 1 p
reply_of (TooManyCards p) = says 7 1 p
reply_of (NotDue p) = says 8 1 p
reply_of (Outside t p) = says 9 t p
reply_of (Temporal p) = says 10 1 p
reply_of (TooDeep p) = says 11 1 p
reply_of (ManyInitials p) = says 12 1 p
reply_of (ManyEquations p) = says 13 1 p
reply_of (ManyNodes p) = says 14 1 p
reply_of (NoEquation p) = says 15 1 p
reply_of (BadFrame t p) = says 16 t p
reply_of (NoRoom p) = says 17 0 p
reply_of NotInitial = says 20 2 0
reply_of (NoStep p) = says 21 2 p
reply_of Holding = says 22 2 0

-- The reply to what was done: fine, or its refusal.
abbrev pub reply_to : Result (Unit {0}) Refusal → Reply
reply_to (Ok x) = fine
reply_to (Err a) = reply_of a

-- What a reader comes to: a result, or one refusal.
pub data Outcome (A : Type 0) : Type 0 where
  Got : A → Outcome A
  Refused : Refusal → Outcome A

-- What is said of it: that there is a result, or the refusal.
abbrev pub said : {A : Type 0} → Outcome A → Result (Unit {0}) Refusal
said (Got x) = Ok tt
said (Refused a) = Err a

-- One refusal of a list of them in the order of RULES 7.3 to 7.5: given where the test says so, and otherwise the rest decides.
abbrev pub refuse : {A : Type 0} → Bool → Refusal → Outcome A → Outcome A
refuse true a r = Refused a
refuse false a r = r

-- First the one, then, from what it came to, the other.
abbrev pub afterwards : {A B : Type 0} → Outcome A → (A → Outcome B) → Outcome B
afterwards (Got x) f = f x
afterwards (Refused a) f = Refused a
