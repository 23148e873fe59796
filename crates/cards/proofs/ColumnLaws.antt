-- Laws of columns by their numbers, and of the cards of a text.
use mathlib.Core.Path.{◌≡◌, refl, sym, ap, ap₂, ◌∙◌, subst}
use mathlib.Core.Logic.{inl, inr, by_cases}
use mathlib.Core.Bool.{Bool, true, false, not, ◌&&◌}
use mathlib.Core.List.{List, [], ◌∷◌, ◌++◌, append-nil, cons≢nil}
use Prim.Native.Nat.{ℕ, zero, suc, ◌+◌, ◌-◌, ◌<◌, ◌≤◌}
use native.Mathlib.Omega.{arith}
use native.Mathlib.Decide.{dec_lt}
use borrow.Author.Tests.{leb-true}
use lib.Dec.{leb, eqb}
use lib.ListN.{length, take, drop, get_or, replicate, drop_of_length-le, get_or-eq_default}
use lib.Seq.{drop-cons}
use Rattle.lists.specs.Lists.{Each, ◌among◌, keep, joined, ended, unended}
use Rattle.lists.proofs.Laws.{each_append, append_each, keep_pass, keep_fail, ended_none, unended-whole, joined-ended, ended-free, unended-free, ended-joined, unended-joined, ended-joined-append, unended-joined-append}
use Rattle.cards.specs.Card.{last_card, cards_of, blank, field_start, field_end, columns, every, is_blank, is_digit, printable}
use Rattle.cards.specs.Statement.{field_of, inked}
use Rattle.cards.specs.Columns.{CardsAre, punched, ink_from, card_text}

-- general:

both_true : (s t : Bool) → (s && t) ≡ true → (s ≡ true) × (t ≡ true)
both_true true t e = (refl, e)
both_true false t e = let z : ◌≡◌ {A = ℕ} 0 1 = cc in absurd (omega arith)

-- ---- columns by their numbers

-- The bytes at the k places from i on, blanks behind the end.
unfoldable pub placed : ℕ → ℕ → List ℕ → List ℕ
placed i zero card = []
placed i (suc k) card = get_or card i blank ∷ placed (suc i) k card

take-placed : (k m i : ℕ) (card : List ℕ) → k ≤ m → take k (drop i card ++ replicate m blank) ≡ placed i k card
unfolding placed
take-placed zero m i card h = refl
take-placed (suc k) zero i card h = absurd (omega arith)
take-placed (suc k) (suc m) i card h = by_cases (dec_lt i (length card)) (inside (take-placed k (suc m) (suc i) card (omega arith))) (λ n. behind (omega arith) (take-placed k m (suc i) card (omega arith)))
  where
    inside : take k (drop (suc i) card ++ replicate (suc m) blank) ≡ placed (suc i) k card → i < length card → take (suc k) (drop i card ++ replicate (suc m) blank) ≡ get_or card i blank ∷ placed (suc i) k card
    inside f l = ap (λ (x : List ℕ). take (suc k) (x ++ replicate (suc m) blank)) (drop-cons card i blank l) ∙ ap (λ (x : List ℕ). get_or card i blank ∷ x) f

    behind : length card ≤ i → take k (drop (suc i) card ++ replicate m blank) ≡ placed (suc i) k card → take (suc k) (drop i card ++ replicate (suc m) blank) ≡ get_or card i blank ∷ placed (suc i) k card
    behind l f =
        ap (λ (x : List ℕ). take (suc k) (x ++ replicate (suc m) blank)) (drop_of_length-le card {i = i} l)
        ∙ ap₂ (λ (b : ℕ) (x : List ℕ). b ∷ x) (sym (get_or-eq_default card blank {n = i} l)) (ap (λ (x : List ℕ). take k (x ++ replicate m blank)) (sym (drop_of_length-le card {i = suc i} (omega arith))) ∙ f)

pub columns-placed : (a b : ℕ) (card : List ℕ) → columns a b card ≡ placed (a - 1) (suc b - a) card
unfolding columns
columns-placed a b card = take-placed (suc b - a) (suc b - a) (a - 1) card (omega arith)

inked_pass : (c : ℕ) (cs : List ℕ) → eqb c blank ≡ true → inked (c ∷ cs) ≡ inked cs
inked_pass c cs e = keep_fail (λ (x : ℕ). not (is_blank x)) c cs (ap not e)

inked-keep : (c : ℕ) (cs : List ℕ) → eqb c blank ≡ false → inked (c ∷ cs) ≡ c ∷ inked cs
inked-keep c cs e = keep_pass (λ (x : ℕ). not (is_blank x)) c cs (ap not e)

inked_next : (b : ℕ) (cs rest : List ℕ) → inked cs ≡ rest → inked (b ∷ cs) ≡ elim (eqb b blank) [ true ↦ rest | false ↦ b ∷ rest ]
inked_next b cs rest f = go (eqb b blank) refl
  where
    go : (t : Bool) → eqb b blank ≡ t → inked (b ∷ cs) ≡ elim t [ true ↦ rest | false ↦ b ∷ rest ]
    go true e = inked_pass b cs e ∙ f
    go false e = inked-keep b cs e ∙ ap (λ (x : List ℕ). b ∷ x) f

-- The inked places are the inked columns.
inked-placed : (k i : ℕ) (card : List ℕ) → inked (placed i k card) ≡ ink_from (suc i) k card
unfolding placed ink_from keep
inked-placed zero i card = refl
inked-placed (suc k) i card =
    let at : i ≡ suc i - 1 = omega arith in
    inked_next (get_or card i blank) (placed (suc i) k card) (ink_from (suc (suc i)) k card) (inked-placed k (suc i) card)
    ∙ ap (λ (j : ℕ). elim (eqb (get_or card j blank) blank) [ true ↦ ink_from (suc (suc i)) k card | false ↦ get_or card j blank ∷ ink_from (suc (suc i)) k card ]) at

-- The statement field without its blanks is what columns 7 to 72 hold.
pub field-text : (card : List ℕ) → inked (field_of card) ≡ card_text card
field-text card = ap inked (columns-placed field_start field_end card) ∙ inked-placed 66 6 card

-- ---- every character

every_first : (t : ℕ → Bool) (c : ℕ) (cs : List ℕ) → every t (c ∷ cs) ≡ true → (t c ≡ true) × (every t cs ≡ true)
unfolding every
every_first t c cs e = go (t c) refl e
  where
    go : (b : Bool) → t c ≡ b → elim b [ true ↦ every t cs | false ↦ false ] ≡ true → (t c ≡ true) × (every t cs ≡ true)
    go true p q = (p, q)
    go false p q = let z : ◌≡◌ {A = ℕ} 0 1 = cc in absurd (omega arith)

pub every_each : (t : ℕ → Bool) (cs : List ℕ) → every t cs ≡ true → Each (λ (c : ℕ). t c ≡ true) cs
every_each t [] e = tt
every_each t (c ∷ cs) e = let f = every_first t c cs e in (f.0, every_each t cs f.1)

every-placed : (t : ℕ → Bool) (k i : ℕ) (card : List ℕ) → every t (placed i k card) ≡ true → (j : ℕ) → i ≤ j → j < i + k → t (get_or card j blank) ≡ true
unfolding placed
every-placed t zero i card e j l h = absurd (omega arith)
every-placed t (suc k) i card e j l h =
    let f = every_first t (get_or card i blank) (placed (suc i) k card) e in
    by_cases (dec_lt i j) (λ m. every-placed t k (suc i) card f.1 j m (omega arith)) (λ n. let s : i ≡ j = omega arith in subst (λ (x : ℕ). t (get_or card x blank) ≡ true) s f.0)

-- Every one of columns a to b passes the test.
pub every-column : (t : ℕ → Bool) (a b : ℕ) (card : List ℕ) → 1 ≤ a → every t (columns a b card) ≡ true → (c : ℕ) → a ≤ c → c ≤ b → t (punched card c) ≡ true
every-column t a b card h e c l m = every-placed t (suc b - a) (a - 1) card (ap (every t) (sym (columns-placed a b card)) ∙ e) (c - 1) (omega arith) (omega arith)

every-blank : (k i : ℕ) (card : List ℕ) → ((j : ℕ) → i ≤ j → j < i + k → is_blank (get_or card j blank) ≡ true) → inked (placed i k card) ≡ []
unfolding placed keep
every-blank zero i card f = refl
every-blank (suc k) i card f = inked_pass (get_or card i blank) (placed (suc i) k card) (f i (omega arith) (omega arith)) ∙ every-blank k (suc i) card (λ j l h. f j (omega arith) (omega arith))

-- Columns 7 to 72 of a blank card hold nothing.
pub blank-text : (card : List ℕ) → every is_blank (columns 1 field_end card) ≡ true → card_text card ≡ []
blank-text card e =
    sym (inked-placed 66 6 card)
    ∙ every-blank 66 6 card (λ j l h. every-placed is_blank 72 0 card (ap (every is_blank) (sym (columns-placed 1 field_end card)) ∙ e) j (omega arith) (omega arith))

pub digit-columns : (c : ℕ) → is_digit c ≡ true → (48 ≤ c) × (c ≤ 57)
digit-columns c e = let b = both_true (leb 48 c) (leb c 57) e in (leb-true 48 c b.0, leb-true c 57 b.1)

pub printable_byte : (c : ℕ) → printable c ≡ true → (32 ≤ c) × (c ≤ 126)
printable_byte c e = let b = both_true (leb 32 c) (leb c 126) e in (leb-true 32 c b.0, leb-true c 126 b.1)

-- ---- the cards of a text

joined_last : (front : List (List ℕ)) (last : List ℕ) → (last ≡ [] → ⊥) → Each (λ (card : List ℕ). 10 among card → ⊥) front → (10 among last → ⊥) → cards_of (joined front ++ last) ≡ front ++ last ∷ []
joined_last front last n fs ls =
    ap₂
    (λ (x : List (List ℕ)) (y : List ℕ). x ++ last_card y)
    (ended-joined-append front last fs ∙ ap (λ (x : List (List ℕ)). front ++ x) (ended_none last ls) ∙ append-nil front)
    (unended-joined-append front last ∙ unended-whole last ls)
    ∙ ap (λ (x : List (List ℕ)). front ++ x) (go last n)
  where
    go : (l : List ℕ) → (l ≡ [] → ⊥) → last_card l ≡ l ∷ []
    go [] f = absurd (f refl)
    go (b ∷ bs) f = refl

-- A text is cut into cards in one way only.
pub cards_are : (text : List ℕ) (cards : List (List ℕ)) → CardsAre text cards → cards_of text ≡ cards
cards_are text cards (fs, inl e) =
    ap cards_of e ∙ ap₂ (λ (x : List (List ℕ)) (y : List ℕ). x ++ last_card y) (ended-joined cards fs) (unended-joined cards) ∙ append-nil cards
cards_are text cards (fs, inr c) =
    let front = c.0 in
    let last = c.1 in
    let free = append_each (λ (card : List ℕ). 10 among card → ⊥) front (last ∷ []) (subst (Each (λ (card : List ℕ). 10 among card → ⊥)) c.3 fs) in
    ap cards_of c.4 ∙ joined_last front last c.2 free.0 free.1.0 ∙ sym c.3

-- And it is cut into cards.
pub are_cards : (text : List ℕ) → CardsAre text (cards_of text)
are_cards text = go (unended text) (unended-free text) (joined-ended text)
  where
    go : (last : List ℕ) → (10 among last → ⊥) → joined (ended text) ++ last ≡ text → CardsAre text (ended text ++ last_card last)
    go [] f e = rw (append-nil (ended text)) (ended-free text, inl (sym e ∙ append-nil (joined (ended text))))
    go (b ∷ bs) f e = (each_append (λ (card : List ℕ). 10 among card → ⊥) (ended text) ((b ∷ bs) ∷ []) (ended-free text) (f, tt), inr (ended text, b ∷ bs, cons≢nil, refl, sym e))
