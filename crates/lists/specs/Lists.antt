-- Words about lists that the definitions of the other crates share.
use Rattle.std.specs.Prelude.{◌≡◌, ◌⊎◌, Bool, true, false, List, [], ◌∷◌, ◌++◌, ℕ, ◌+◌, ◌-◌, length, take, drop, replicate, eqb}

-- The one where the test says so, else the other.
abbrev pub chosen : {A : Type 0} → Bool → A → A → A
chosen true x y = x
chosen false x y = y

-- P of every member.
abbrev pub Each : {A : Type 0} → (A → Type 0) → List A → Type 0
Each P [] = Unit
Each P (x ∷ xs) = P x × Each P xs

-- P of at least one member.
abbrev pub Some : {A : Type 0} → (A → Type 0) → List A → Type 0
Some P [] = ⊥
Some P (x ∷ xs) = P x ⊎ Some P xs

-- x stands in the list.
infix 50 ◌among◌
abbrev pub ◌among◌ : {A : Type 0} → A → List A → Type 0
x among xs = Some (λ y. x ≡ y) xs

-- No two members are equal.
abbrev pub Distinct : List ℕ → Type 0
Distinct [] = Unit
Distinct (x ∷ xs) = (x among xs → ⊥) × Distinct xs

-- The members that pass the test, in their order.
unfoldable pub keep : {A : Type 0} → (A → Bool) → List A → List A
keep t [] = []
keep t (x ∷ xs) = elim (t x) [ true ↦ x ∷ keep t xs | false ↦ keep t xs ]

-- Whether x stands in the list.
unfoldable pub stands : ℕ → List ℕ → Bool
stands x [] = false
stands x (y ∷ ys) = elim (eqb x y) [ true ↦ true | false ↦ stands x ys ]

-- The list without the members that equal x.
unfoldable pub others : ℕ → List ℕ → List ℕ
others x [] = []
others x (y ∷ ys) = elim (eqb x y) [ true ↦ others x ys | false ↦ y ∷ others x ys ]

-- Equal members dropped, the first of them kept.
unfoldable pub firsts : List ℕ → List ℕ
firsts [] = []
firsts (x ∷ xs) = x ∷ others x (firsts xs)

-- The members from place i up to but without place j.
abbrev pub part : ℕ → ℕ → List ℕ → List ℕ
part i j l = take (j - i) (drop i l)

-- The list, filled up with zeros to n places.
abbrev pub padded : ℕ → List ℕ → List ℕ
padded n l = l ++ replicate (n - length l) 0

-- The buffer l with vs put over its places from i on.
abbrev pub splice : ℕ → List ℕ → List ℕ → List ℕ
splice i vs l = take i l ++ (vs ++ drop (i + length vs) l)

-- The byte at the front of the first line, where there is a line.
unfoldable pub fronted : ℕ → List (List ℕ) → List (List ℕ)
fronted b [] = []
fronted b (l ∷ ls) = (b ∷ l) ∷ ls

-- The lines of a text that byte 10 ends, without it, in their order.
unfoldable pub ended : List ℕ → List (List ℕ)
ended [] = []
ended (b ∷ bs) = elim (eqb b 10) [ true ↦ [] ∷ ended bs | false ↦ fronted b (ended bs) ]

-- What stands behind the last byte 10 of a text.
unfoldable pub unended : List ℕ → List ℕ
unended [] = []
unended (b ∷ bs) = elim (stands 10 (b ∷ bs)) [ true ↦ unended bs | false ↦ b ∷ bs ]

-- The lines one behind the other, each followed by byte 10.
unfoldable pub joined : List (List ℕ) → List ℕ
joined [] = []
joined (l ∷ ls) = l ++ 10 ∷ joined ls
