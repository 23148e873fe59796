-- Laws of one card and of the first pass.
use mathlib.Core.Path.{◌≡◌, refl, sym, ap, ap₂, ◌∙◌}
use mathlib.Core.Logic.{by_cases, ◌⊎◌, ⊎_elim}
use mathlib.Core.Bool.{Bool, true, false, not, ◌&&◌, ◌||◌, and-true}
use mathlib.Core.List.{List, [], ◌∷◌, ◌++◌, append-nil}
use Prim.Native.Nat.{ℕ, zero, suc, ◌+◌, ◌-◌, ◌<◌, ◌≤◌, min}
use native.Mathlib.Omega.{arith}
use native.Mathlib.Numerals.{add-one}
use native.Mathlib.Decide.{ℕ_discrete, dec_le, dec_lt}
use lib.Dec.{leb, eqb}
use lib.ListN.{length, take, drop, get_or, replicate, length-drop, length-take, drop_of_length-le}
use lib.Seq.{take_all, drop-cons, drop-drop}
use borrow.Author.Tests.{lt-leb, le-leb, lt-ltb, le-ltb, eq-eqb, ne_eqb}
use Rattle.lists.specs.Lists.{ended, unended}
use Rattle.lists.proofs.Laws.{take_min, drop-take, take-filled}
use Rattle.decks.specs.declared.Refusal.{Refusal}
use Rattle.decks.specs.declared.Refusal.TheVariants.{BadByte, TooWide, BadStart, BadNumber}
use Rattle.decks.specs.Answers.{Outcome, Got, Refused}
use Rattle.decks.specs.Readings.{walk}
use Rattle.decks.proofs.Outcomes.{walk_got, walk_refused}
use Rattle.ends.specs.Ends.{line_length}
use Rattle.ends.proofs.Laws.{ended_at, unended_at, ended_last, unended_last}
use Rattle.cards.specs.Card.{last_card, cards_of, blank, card_columns, field_start, field_end, field_columns, column, columns, every, is_blank, is_digit, printable, is_comment, numbered, Kind, Comment, Empty, Opening, Continuing, kind_of, Open, Shut, Continued, opened, card_in_form, in_form}
use Rattle.firstpass.specs.declared.CardKind.{CardKind}
use Rattle.firstpass.specs.declared.CardKind.TheVariants.{Comment as CommentCard, Empty as EmptyCard, Opening as OpeningCard, Continuing as ContinuingCard}
use Rattle.firstpass.specs.Passed.{between, free, kind_is, open_of, outcome_of}
use Rattle.std.specs.Prelude.{Option, Some, None, Result, Ok, Err}
use Rattle.decks.specs.Answers.{said}

-- ---- where a card ends

-- The cards from a place on: the one that begins there, then those behind its end.
pub cards_next : (text : List ℕ) (at end : ℕ) → at < length text → end ≡ at + line_length (drop at text) → cards_of (drop at text) ≡ take (end - at) (drop at text) ∷ cards_of (drop (end + 1) text)
unfolding ended unended
cards_next text at end h e = by_cases (dec_lt end (length text)) ended_here (λ n. last_here (omega arith))
  where
    ended_here : end < length text → cards_of (drop at text) ≡ take (end - at) (drop at text) ∷ cards_of (drop (end + 1) text)
    ended_here l = rw (ended_at text at end e l (omega arith), unended_at text at end e l (omega arith)) refl

    last_here : length text ≤ end → cards_of (drop at text) ≡ take (end - at) (drop at text) ∷ cards_of (drop (end + 1) text)
    last_here l =
        rw (ended_last text at end e l (omega arith), unended_last text at end e l (omega arith), take_all (end - at) (drop at text) (omega (arith, length-drop at text)), drop_of_length-le text {i = end + 1} (omega arith))
        (ap last_card (drop-cons text at 0 h) ∙ ap (λ (t : List ℕ). t ∷ []) (sym (drop-cons text at 0 h)))

-- The first card of what is left of a text, and the cards behind it.
pub first-card : (text : List ℕ) (end next : ℕ) → 0 < length text → end ≡ 0 + line_length text → next ≡ min (length text) (end + 1) → cards_of text ≡ take end text ∷ cards_of (take (length text - next) (drop next text))
first-card text end next h e f =
    let rest : take (length text - next) (drop next text) ≡ drop (end + 1) text =
    take_all (length text - next) (drop next text) (omega (arith, length-drop next text))
    ∙ by_cases
    (dec_le (end + 1) (length text))
    (λ l. let z : next ≡ end + 1 = omega arith in ap (λ (k : ℕ). drop k text) z)
    (λ l. drop_of_length-le text {i = next} (omega arith) ∙ sym (drop_of_length-le text {i = end + 1} (omega arith))) in
    let whole : end - 0 ≡ end = omega arith in
    cards_next text 0 end h e ∙ ap₂ (λ (k : ℕ) (t : List ℕ). take k text ∷ cards_of t) whole (sym rest)

-- ---- every character of a part

module _ (t : ℕ → Bool) where
  every_pass : (c : ℕ) (cs : List ℕ) → t c ≡ true → every t (c ∷ cs) ≡ every t cs
  unfolding every
  every_pass c cs e = simp (e, every)

  every_fail : (c : ℕ) (cs : List ℕ) → t c ≡ false → every t (c ∷ cs) ≡ false
  unfolding every
  every_fail c cs e = simp (e, every)

  every-replicate : (n x : ℕ) → t x ≡ true → every t (replicate n x) ≡ true
  unfolding every
  every-replicate zero x e = refl
  every-replicate (suc n) x e = every_pass x (replicate n x) e ∙ every-replicate n x e

  -- What a list is filled up with passes too, or does not.
  pub every-filled : (cs : List ℕ) (n x : ℕ) → t x ≡ true → every t (cs ++ replicate n x) ≡ every t cs
  unfolding every
  every-filled [] n x e = every-replicate n x e
  every-filled (c ∷ cs) n x e = ap (λ (b : Bool). elim (t c) [ true ↦ b | false ↦ false ]) (every-filled cs n x e)

  pub every-filled_not : (cs : List ℕ) (n x : ℕ) → t x ≡ false → every t (cs ++ replicate (suc n) x) ≡ false
  unfolding every
  every-filled_not [] n x e = every_fail x (replicate n x) e
  every-filled_not (c ∷ cs) n x e = go (t c) refl (every-filled_not cs n x e)
    where
      go : (b : Bool) → t c ≡ b → every t (cs ++ replicate (suc n) x) ≡ false → every t (c ∷ (cs ++ replicate (suc n) x)) ≡ false
      go true q f = every_pass c (cs ++ replicate (suc n) x) q ∙ f
      go false q f = every_fail c (cs ++ replicate (suc n) x) q

blank-between : (c : ℕ) → between 32 32 c ≡ is_blank c
blank-between c =
    by_cases
    (ℕ_discrete c 32)
    (λ e. simp (le-leb 32 c (omega arith), le-leb c 32 (omega arith)) (sym (eq-eqb c 32 e)))
    (λ n.
    rw (ne_eqb c 32 n)
    (by_cases
    (dec_le 32 c)
    (λ h. simp (le-leb 32 c h, lt-leb c 32 (omega arith)))
    (λ h. simp (lt-leb 32 c (omega arith)))))

every-blank : (cs : List ℕ) → every (between 32 32) cs ≡ every is_blank cs
unfolding every
every-blank [] = refl
every-blank (c ∷ cs) =
    ap (λ (b : Bool). elim b [ true ↦ every (between 32 32) cs | false ↦ false ]) (blank-between c)
    ∙ ap (λ (b : Bool). elim (is_blank c) [ true ↦ b | false ↦ false ]) (every-blank cs)

module _ (part : List ℕ) (low high : ℕ) where
  -- All those before number i, and all from it on.
  abbrev pub SoFar : ℕ → Bool → Type 0
  SoFar i all = (all && every (between low high) (drop i part)) ≡ every (between low high) part

  pub one_more : (i : ℕ) (all : Bool) → i < length part → SoFar i all → SoFar (i + 1) (all && leb low (get_or part i 0) && leb (get_or part i 0) high)
  unfolding every
  one_more i all h e =
      let x : ℕ = get_or part i 0 in
      let k : i + 1 ≡ suc i = add-one i in
      ap (λ (j : ℕ). all && leb low x && leb x high && every (between low high) (drop j part)) k
      ∙ go all (leb low x) (leb x high) (every (between low high) (drop (suc i) part))
      ∙ ap (λ (l : List ℕ). all && every (between low high) l) (sym (drop-cons part i 0 h))
      ∙ e
    where
      go : (a b c e : Bool) → (a && b && c && e) ≡ (a && elim (b && c) [ true ↦ e | false ↦ false ])
      go true true true e = refl
      go true true false e = refl
      go true false c e = refl
      go false b c e = refl

  pub all_so_far : (i : ℕ) (all : Bool) → length part ≤ i → SoFar i all → all ≡ every (between low high) part
  unfolding every
  all_so_far i all h e = sym (and-true all) ∙ ap (λ (l : List ℕ). all && every (between low high) l) (sym (drop_of_length-le part {i = i} h)) ∙ e

-- ---- blocks of characters

module _ (t : ℕ → Bool) where
  -- The first k characters, and those behind them.
  every-split : (k : ℕ) (l : List ℕ) → every t l ≡ (every t (take k l) && every t (drop k l))
  unfolding every
  every-split zero l = refl
  every-split (suc k) [] = refl
  every-split (suc k) (c ∷ cs) = go (t c) (every-split k cs)
    where
      go : (b : Bool) → every t cs ≡ (every t (take k cs) && every t (drop k cs)) → elim b [ true ↦ every t cs | false ↦ false ] ≡ (elim b [ true ↦ every t (take k cs) | false ↦ false ] && every t (drop k cs))
      go true e = e
      go false e = refl

module _ (part : List ℕ) (low high i : ℕ) (e : every (between low high) part ≡ every (between low high) (drop i part)) where
  split_here : every (between low high) part ≡ (every (between low high) (take (i + 8 - i) (drop i part)) && every (between low high) (drop (i + 8) part))
  split_here =
      let k : 8 ≡ i + 8 - i = omega arith in
      e
      ∙ every-split (between low high) 8 (drop i part)
      ∙ ap (λ (l : List ℕ). every (between low high) (take 8 (drop i part)) && every (between low high) l) (drop-drop 8 i part)
      ∙ ap (λ (n : ℕ). every (between low high) (take n (drop i part)) && every (between low high) (drop (i + 8) part)) k

  pub block_fails : false ≡ every (between low high) (take (i + 8 - i) (drop i part)) → false ≡ every (between low high) part
  block_fails q = sym (split_here ∙ ap (λ (x : Bool). x && every (between low high) (drop (i + 8) part)) (sym q))

  pub block_passes : true ≡ every (between low high) (take (i + 8 - i) (drop i part)) → every (between low high) part ≡ every (between low high) (drop (i + 8) part)
  block_passes q = split_here ∙ ap (λ (x : Bool). x && every (between low high) (drop (i + 8) part)) (sym q)

  pub rest_done : (r : Bool) → r ≡ every (between low high) (take (length part - i) (drop i part)) → r ≡ every (between low high) part
  rest_done r q = q ∙ ap (every (between low high)) (take_all (length part - i) (drop i part) (omega (arith, length-drop i part))) ∙ sym e

-- ---- the columns of a card

-- Columns a to b are what the card has there, filled with blanks.
pub columns-filled : (a b : ℕ) (card : List ℕ) → columns a b card ≡ take (suc b - a) (drop (a - 1) card) ++ replicate (suc b - a - length (drop (a - 1) card)) blank
unfolding columns
columns-filled a b card = take-filled (suc b - a) (suc b - a) (drop (a - 1) card) blank (omega arith)

-- The statement field, filled with blanks to its 66 columns, is columns 7 to 72.
pub field-filled : (card : List ℕ) → drop (field_start - 1) (take field_end card) ++ replicate (field_columns - length (drop (field_start - 1) (take field_end card))) blank ≡ columns field_start field_end card
field-filled card =
    let d : List ℕ = drop 6 card in
    let left : 66 - length (take 66 d) ≡ 66 - length d = omega (arith, length-take 66 d) in
    ap (λ (l : List ℕ). l ++ replicate (66 - length l) blank) (drop-take 6 66 card)
    ∙ ap (λ (k : ℕ). take 66 d ++ replicate k blank) left
    ∙ sym (columns-filled 7 72 card)

module _ (card : List ℕ) where
  pub field-part : (start end : ℕ) → start ≡ min (length card) 6 → end ≡ min (length card) 72 → take (end - start) (drop start card) ≡ drop (field_start - 1) (take field_end card)
  field-part start end e f =
      by_cases
      (dec_le 6 (length card))
      (λ h.
      let at : start ≡ 6 = omega arith in
      let long : end - start ≡ min 66 (length (drop 6 card)) = omega (arith, length-drop 6 card) in
      ap (λ (k : ℕ). take k (drop start card)) long
      ∙ ap (λ (k : ℕ). take (min 66 (length (drop 6 card))) (drop k card)) at
      ∙ take_min 66 (drop 6 card)
      ∙ sym (drop-take 6 66 card))
      (λ h.
      let none : end - start ≡ 0 = omega arith in
      ap (λ (k : ℕ). take k (drop start card)) none ∙ sym (drop_of_length-le (take 72 card) {i = 6} (omega (arith, length-take 72 card))))

  module _ (first last end : ℕ) where
    blank_part : 1 ≤ first → end ≡ min last (length card) → every is_blank (columns first last card) ≡ every (between 32 32) (take (end - (first - 1)) (drop (first - 1) card))
    blank_part h e =
        let d : List ℕ = drop (first - 1) card in
        let n : ℕ = suc last - first in
        let cut : min n (length d) ≡ end - (first - 1) = omega (arith, length-drop (first - 1) card) in
        ap (every is_blank) (columns-filled first last card)
        ∙ every-filled is_blank (take n d) (n - length d) blank refl
        ∙ ap (every is_blank) (sym (take_min n d) ∙ ap (λ (k : ℕ). take k d) cut)
        ∙ sym (every-blank (take (end - (first - 1)) d))

    pub blank_none : 1 ≤ first → end ≡ min last (length card) → end ≤ first - 1 → true ≡ every is_blank (columns first last card)
    unfolding every
    blank_none h e i = let z : end - (first - 1) ≡ 0 = omega arith in sym (blank_part h e ∙ ap (λ (k : ℕ). every (between 32 32) (take k (drop (first - 1) card))) z)

    pub blank-some : (r : Bool) → 1 ≤ first → end ≡ min last (length card) → r ≡ every (between 32 32) (take (end - (first - 1)) (drop (first - 1) card)) → r ≡ every is_blank (columns first last card)
    blank-some r h e q = q ∙ sym (blank_part h e)

  module _ (b : Bool) where
    pub number_short : b ≡ every is_blank (columns 73 card_columns card) → b ≡ false → length card < card_columns → false ≡ numbered card
    number_short e q h =
        let d : List ℕ = drop 72 card in
        let more : 8 - length d ≡ suc (7 - length d) = omega (arith, length-drop 72 card) in
        sym (
        ap (λ (t : Bool). t || every is_digit (columns 73 card_columns card)) (sym e ∙ q)
        ∙ ap (every is_digit) (columns-filled 73 card_columns card ∙ ap (λ (k : ℕ). take 8 d ++ replicate k blank) more)
        ∙ every-filled_not is_digit (take 8 d) (7 - length d) blank refl)

    pub number_digits : (r : Bool) → b ≡ every is_blank (columns 73 card_columns card) → b ≡ false → card_columns ≤ length card → r ≡ every (between 48 57) (take 8 (drop 72 card)) → r ≡ numbered card
    number_digits r e q h f =
        let d : List ℕ = drop 72 card in
        let none : 8 - length d ≡ 0 = omega (arith, length-drop 72 card) in
        f
        ∙ sym (
        ap (λ (t : Bool). t || every is_digit (columns 73 card_columns card)) (sym e ∙ q)
        ∙ ap (every is_digit) (columns-filled 73 card_columns card ∙ ap (λ (k : ℕ). take 8 d ++ replicate k blank) none ∙ append-nil (take 8 d)))

-- ---- the kind of a card

module _ (card : List ℕ) where
  module _ (b : Bool) where
    pub kind_comment : b ≡ is_comment card → b ≡ true → Comment ≡ kind_of card
    unfolding kind_of
    kind_comment e q = sym (simp (sym e ∙ q, kind_of))

    module _ (w : Bool) where
      pub kind_empty : b ≡ is_comment card → b ≡ false → w ≡ every is_blank (columns 1 field_end card) → w ≡ true → Empty ≡ kind_of card
      unfolding kind_of
      kind_empty e q f p = sym (simp (sym e ∙ q, sym f ∙ p, kind_of))

      module _ (x : ℕ) where
        pub kind_opening : b ≡ is_comment card → b ≡ false → w ≡ every is_blank (columns 1 field_end card) → w ≡ false → x ≡ column 6 card → (x ≡ 32) ⊎ (x ≡ 48) → Opening ≡ kind_of card
        unfolding kind_of
        kind_opening e q f p g o =
            ⊎_elim
            (λ k. sym (simp (sym e ∙ q, sym f ∙ p, eq-eqb (column 6 card) 32 (sym g ∙ k), kind_of)))
            (λ k. let n : eqb (column 6 card) 32 ≡ false = ne_eqb (column 6 card) 32 (λ z. omega (arith, sym g ∙ k)) in sym (simp (sym e ∙ q, sym f ∙ p, n, eq-eqb (column 6 card) 48 (sym g ∙ k), kind_of)))
            o

        pub kind_continuing : b ≡ is_comment card → b ≡ false → w ≡ every is_blank (columns 1 field_end card) → w ≡ false → x ≡ column 6 card → (x ≡ 32 → ⊥) → (x ≡ 48 → ⊥) → Continuing ≡ kind_of card
        unfolding kind_of
        kind_continuing e q f p g n o = sym (simp (sym e ∙ q, sym f ∙ p, ne_eqb (column 6 card) 32 (λ k. n (g ∙ k)), ne_eqb (column 6 card) 48 (λ k. o (g ∙ k)), kind_of))

-- ---- one card: 2 to 7 in number order

-- The kinds that 4 and 5 pass over are those of comments.
pub free_comment : (card : List ℕ) → free (kind_of card) ≡ is_comment card
unfolding kind_of
free_comment card = go (is_comment card) (every is_blank (columns 1 field_end card)) (is_blank (column 6 card) || eqb (column 6 card) 48)
  where
    go : (b w z : Bool) → free (elim b [ true ↦ Comment | false ↦ elim w [ true ↦ Empty | false ↦ elim z [ true ↦ Opening | false ↦ Continuing ] ] ]) ≡ b
    go true w z = refl
    go false true z = refl
    go false false true = refl
    go false false false = refl

module _ (n : ℕ) (card : List ℕ) (o : Open) where
  pub bad_byte : false ≡ every printable card → Refused (BadByte n) ≡ card_in_form n card o
  unfolding card_in_form
  bad_byte e = sym (simp (sym e, card_in_form))

  module _ (e : true ≡ every printable card) where
    pub too_wide : card_columns < length card → Refused (TooWide n) ≡ card_in_form n card o
    unfolding card_in_form
    too_wide w = sym (simp (sym e, lt-ltb card_columns (length card) w, card_in_form))

    module _ (w : length card ≤ card_columns) where
      pub comment_judged : false ≡ not (is_comment card) → opened n (kind_of card) o ≡ card_in_form n card o
      unfolding card_in_form
      comment_judged i = sym (simp (sym e, le-ltb card_columns (length card) w, sym i, card_in_form))

      pub bad_start : true ≡ not (is_comment card) → false ≡ every is_blank (columns 1 5 card) → Refused (BadStart n) ≡ card_in_form n card o
      unfolding card_in_form
      bad_start i j = sym (simp (sym e, le-ltb card_columns (length card) w, sym i, sym j, card_in_form))

      pub bad_number : true ≡ not (is_comment card) → true ≡ every is_blank (columns 1 5 card) → false ≡ numbered card → Refused (BadNumber n) ≡ card_in_form n card o
      unfolding card_in_form
      bad_number i j k = sym (simp (sym e, le-ltb card_columns (length card) w, sym i, sym j, sym k, card_in_form))

      pub card_judged : true ≡ not (is_comment card) → true ≡ every is_blank (columns 1 5 card) → true ≡ numbered card → opened n (kind_of card) o ≡ card_in_form n card o
      unfolding card_in_form
      card_judged i j k = sym (simp (sym e, le-ltb card_columns (length card) w, sym i, sym j, sym k, card_in_form))

-- ---- the first pass

module _ (text left card behind : List ℕ) (n : ℕ) (o : Open) (passing : in_form (cards_of text) ≡ walk card_in_form n (cards_of left) o) (next : cards_of left ≡ card ∷ cards_of behind) where
  here : in_form (cards_of text) ≡ walk card_in_form n (card ∷ cards_of behind) o
  here = passing ∙ ap (λ (cs : List (List ℕ)). walk card_in_form n cs o) next

  pub pass_refused : (a : Refusal) → Refused a ≡ card_in_form n card o → Err a ≡ said (in_form (cards_of text))
  pass_refused a f = sym (ap said (here ∙ walk_refused card_in_form n card (cards_of behind) o a (sym f)))

  pub pass_on : (m : ℕ) (k : Option ℕ) → m ≡ n + 1 → Got (open_of k) ≡ card_in_form n card o → in_form (cards_of text) ≡ walk card_in_form m (cards_of behind) (open_of k)
  pass_on m k e f = here ∙ walk_got card_in_form n card (cards_of behind) o (open_of k) (sym f) ∙ ap (λ (j : ℕ). walk card_in_form j (cards_of behind) (open_of k)) (sym (e ∙ add-one n))

pub pass_done : (text left : List ℕ) (n : ℕ) (o : Open) → length left ≡ 0 → in_form (cards_of text) ≡ walk card_in_form n (cards_of left) o → Ok tt ≡ said (in_form (cards_of text))
unfolding walk ended unended
pass_done text [] n o h i = sym (ap said i)
pass_done text (b ∷ bs) n o h i = absurd (omega arith)

-- What the first pass says of cards that are in form, and of those that are not.
pub passed_fine : (cards : List (List ℕ)) → Ok tt ≡ said (in_form cards) → (o : Open) × (in_form cards ≡ Got o)
passed_fine cards = go (in_form cards)
  where
    go : (r : Outcome Open) → Ok tt ≡ said r → (o : Open) × (r ≡ Got o)
    go (Got o) e = (o, refl)
    go (Refused a) e = absurd cc

pub passed_refused : (cards : List (List ℕ)) (a : Refusal) → Err a ≡ said (in_form cards) → in_form cards ≡ Refused a
passed_refused cards a = go (in_form cards)
  where
    go : (r : Outcome Open) → Err a ≡ said r → r ≡ Refused a
    go (Got o) e = absurd cc
    go (Refused b) e = cc

-- ---- what an answer says

abbrev carded_of : Outcome Open → Result (Option ℕ) Refusal
carded_of (Got Shut) = Ok None
carded_of (Got (Continued k)) = Ok (Some k)
carded_of (Refused a) = Err a

carded_outcome : (r : Result (Option ℕ) Refusal) → carded_of (outcome_of r) ≡ r
carded_outcome (Ok None) = refl
carded_outcome (Ok (Some k)) = refl
carded_outcome (Err a) = refl

-- Two answers that mean the same are one.
pub one_carded : (r s : Result (Option ℕ) Refusal) → outcome_of r ≡ outcome_of s → r ≡ s
one_carded r s e = sym (carded_outcome r) ∙ ap carded_of e ∙ carded_outcome s

abbrev named_kind : Kind → CardKind
named_kind Comment = CommentCard
named_kind Empty = EmptyCard
named_kind Opening = OpeningCard
named_kind Continuing = ContinuingCard

named_kind_lem : (k : CardKind) → named_kind (kind_is k) ≡ k
named_kind_lem CommentCard = refl
named_kind_lem EmptyCard = refl
named_kind_lem OpeningCard = refl
named_kind_lem ContinuingCard = refl

pub one_kind : (j k : CardKind) → kind_is j ≡ kind_is k → j ≡ k
one_kind j k e = sym (named_kind_lem j) ∙ ap named_kind e ∙ named_kind_lem k
