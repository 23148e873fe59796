-- The conditions of the operations on a deck that is read, in the order of RULES 7.5: a cone's 9, 17, and 20 to 22.
use Rattle.std.specs.Prelude.{◌≡◌, List, ℕ, ◌+◌, ◌<◌, length, Result, Err}
use Rattle.lists.specs.Lists.{Each, ◌among◌}
use Rattle.sets.specs.Sets.{◌∋◌, ◌⊆◌}
use Rattle.logic.specs.Decks.{Deck, Accepted, base}
use Rattle.logic.specs.Meaning.{Claim, Sized, Holds, state_of, ClaimStep, claim_run}
use Rattle.decks.specs.declared.Refusal.{Refusal}
use Rattle.decks.specs.declared.Refusal.TheVariants.{Outside, NoRoom, NotInitial, NoStep, Holding}
use Rattle.decks.specs.Answers.{Outcome, Got, Refused}
use Rattle.frames.specs.Written.{deck_frames, claim_frames}
use Rattle.refusals.specs.Order.{Conditions, Done, Try, followed, rising}

-- What an operation on what is read comes to: the reader's refusal, or else what the operation itself does.
abbrev pub answer_to : {A B : Type 0} → Outcome A → (A → Result B Refusal) → Result B Refusal
answer_to (Got x) f = f x
answer_to (Refused a) f = Err a

-- The text is the frames of the deck, and the deck keeps the rules of a deck.
abbrev pub IsDeck : List ℕ → Deck → Type 0
IsDeck text d = (text ≡ deck_frames d) × Accepted base d

-- The text is the frames of the claim, and the claim keeps its sizes and the variables.
abbrev pub IsClaim : ℕ → List ℕ → Claim → Type 0
IsClaim vars text m = (text ≡ claim_frames m) × Sized base m × Each (λ (s : ℕ). s ⊆ vars) m.states

-- 9 of a cone: a variable of the set is not the deck's, the lowest first.
abbrev pub cone_order : Deck → ℕ → Conditions
cone_order d s = rising (λ v. (s ∋ v) × (d.vars ∋ v → ⊥)) (Outside 0) base.variables 0

-- 17: the output needs more bytes than lent.
abbrev pub room_order : List ℕ → List ℕ → Conditions
room_order output lent = Try (length lent < length output) (NoRoom (length output)) Done

-- 20: the first state is not initial; 21: a step is not allowed, the lowest first; 22: the property holds on the claimed run.
abbrev pub verdict_order : Deck → Claim → Conditions
verdict_order d m =
    Try (state_of m 0 among d.inits → ⊥) NotInitial
    (followed (rising (λ i. ClaimStep d m i → ⊥) NoStep (m.p + m.c) 0) (Try (Holds (claim_run m) d.property 0) Holding Done))
