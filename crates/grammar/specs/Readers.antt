-- What the readers of numbers, words and binary digits promise: the card form's own reading of the characters ahead.
use Rattle.std.specs.Prelude.{◌≡◌, true, false, List, [], ◌∷◌, ℕ, ◌+◌, ◌<◌, ◌≤◌, eqb, length, Result, Ok, Err}
use Rattle.std.proofs.Math.Option.{none, some}
use Prim.Native.Char.{code as character}
use Rattle.cards.specs.Grammar.{Number, NoNumber, read_number}
use Rattle.cards.specs.Read.{behind, read_binary}
use Rattle.grammar.specs.declared.Digits.{Digits}
use Rattle.grammar.specs.Ahead.{ahead, Settled}

-- Place p is one that a reader that began at place i came to.
pub record Reaches (chars : List ℕ) (i p : ℕ) : Type 0 where
  pub from : i ≤ p
  pub within : p ≤ length chars

-- Place p is where a reader that began at place i met a fault: it holds no blank, or is the end.
pub record Faults (chars : List ℕ) (i p : ℕ) : Type 0 where
  pub from : i ≤ p
  pub within : p ≤ length chars
  pub settled : Settled chars p

-- No digit up to the last begins these characters.
abbrev pub NoDigit : ℕ → List ℕ → Type 0
NoDigit last [] = Unit
NoDigit last (c ∷ cs) = character "0" ≤ c → c ≤ last → ⊥

-- A digit up to the last stands ahead of place i, and what stands behind it; or there is none.
abbrev pub DigitTo : ℕ → List ℕ → ℕ → Result Digits ℕ → Type 0
DigitTo last chars i (Ok d) = Reaches chars i d.next × (character "0" + d.value ≤ last) × (ahead chars i ≡ (character "0" + d.value) ∷ ahead chars d.next)
DigitTo last chars i (Err p) = Faults chars i p × (ahead chars p ≡ ahead chars i) × NoDigit last (ahead chars i)

-- r says what `read_number` says of the characters ahead of place i.
abbrev pub Numbers : List ℕ → ℕ → Result Digits ℕ → Type 0
Numbers chars i (Ok d) = Reaches chars i d.next × (d.value < 100) × (read_number (ahead chars i) ≡ Number d.value (ahead chars d.next))
Numbers chars i (Err p) = Faults chars i p × (read_number (ahead chars i) ≡ NoNumber (ahead chars p))

-- What stands from the first fault on, where the word does not begin these characters.
unfoldable pub amiss : List ℕ → List ℕ → List ℕ
amiss [] cs = cs
amiss (w ∷ ws) [] = []
amiss (w ∷ ws) (c ∷ cs) = elim (eqb w c) [ true ↦ amiss ws cs | false ↦ c ∷ cs ]

-- r says whether the word begins the characters ahead of place i, and what stands behind it.
abbrev pub Words : List ℕ → ℕ → List ℕ → Result ℕ ℕ → Type 0
Words chars i word (Ok p) = Reaches chars i p × (behind word (ahead chars i) ≡ some (ahead chars p))
Words chars i word (Err p) = Faults chars i p × (behind word (ahead chars i) ≡ none) × (ahead chars p ≡ amiss word (ahead chars i))

-- r says what state the characters ahead of place i give, read as k binary digits.
abbrev pub Binaries : List ℕ → ℕ → ℕ → Result ℕ ℕ → Type 0
Binaries chars i k (Ok s) = read_binary 0 k 0 (ahead chars i) ≡ some s
Binaries chars i k (Err p) = Faults chars i p × (read_binary 0 k 0 (ahead chars i) ≡ none)
