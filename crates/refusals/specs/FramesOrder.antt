-- The conditions of a deck in frames in the order of RULES 7.4.
use Rattle.std.specs.Prelude.{◌≡◌, ◌⊎◌, List, [], ℕ, ◌<◌, length}
use Rattle.lists.specs.Lists.{Some, ended, unended}
use Rattle.sets.specs.Sets.{◌∋◌}
use Rattle.logic.specs.Decks.{Equation, Deck, base}
use Rattle.decks.specs.declared.Refusal.TheVariants.{TooLong, BadFrame, NoEquation}
use Rattle.frames.specs.Read.{DueNone}
use Rattle.refusals.specs.Order.{Conditions, Try, followed, one_by_one, backwards, rising}
use Rattle.refusals.specs.FrameFaults.{Behind, line_faults}

-- 16 at place 0: a line without byte 10 stands behind the others, or another frame is due.
abbrev pub EndsEarly : List ℕ → Type 0
EndsEarly text = (unended text ≡ [] → ⊥) ⊎ Behind (backwards [] (ended text)) (λ so. so.due ≡ DueNone → ⊥)

-- 15: Vv is a variable and has no equation.
abbrev pub Lacking : List ℕ → ℕ → Type 0
Lacking text v = Behind (backwards [] (ended text)) (λ so. (so.deck.vars ∋ v) × (Some (λ (q : Equation). q.left ≡ v) so.deck.equations → ⊥))

-- 1; line by line 16 and 11, then 9 to 14; 16 for an early end; 15, the lowest variable first.
abbrev pub frames_order : List ℕ → Conditions
frames_order text =
    Try (base.text < length text) (TooLong 1)
    (followed (one_by_one line_faults 1 [] (ended text)) (Try (EndsEarly text) (BadFrame 1 0) (rising (Lacking text) NoEquation base.variables 0)))

-- Its lines give this deck.
abbrev pub Gives : List ℕ → Deck → Type 0
Gives text d = Behind (backwards [] (ended text)) (λ so. d ≡ so.deck)
