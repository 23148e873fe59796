-- Laws of the statements of a deck of cards: what is due, `VARS`, `INIT` and `END`.
use Rattle.std.proofs.Common.{◌≡◌, refl, sym, ap, ap₂, ◌∙◌, subst, Bool, true, false, List, [], ◌∷◌, ◌++◌, ℕ, ◌+◌, ◌<◌, ◌≤◌, length, take, set, Option, Some, None, Ok, Err, is_some, arith}
use mathlib.Core.Option.{Option as Behind, none, some}
use lib.ListN.{length-append}
use borrow.Author.Tests.{lt-ltb, le-ltb}
use Rattle.lists.specs.Lists.{chosen, stands, firsts, padded}
use Rattle.lists.specs.Texts.{bytes}
use Rattle.lists.proofs.Laws.{take-padded, padded_snoc, stands-firsts, true_stands, false_stands, firsts_new, firsts_again, length-firsts}
use Rattle.decks.specs.declared.Refusal.TheVariants.{NotDue, ManyInitials}
use Rattle.decks.specs.declared.Deck.{Deck}
use Rattle.decks.specs.Answers.{Outcome, Got, Refused}
use Rattle.decks.specs.Stored.{blank, ends_of, codes}
use Rattle.cards.specs.Grammar.{Number, NoNumber, read_number}
use Rattle.cards.specs.Typed.{Typed}
use Rattle.cards.specs.Read.{behind, Due, DueVars, DueInit, DueAny, DueEquation, DueEnd, DueNone, Sofar, begun, whole_number, vars_statement, read_binary, init_statement, end_statement, on_word, due_statement}
use Rattle.grammar.specs.declared.Ink.{Ink}
use Rattle.grammar.specs.declared.Digits.{Digits}
use Rattle.grammar.specs.Ahead.{ahead, Inks}
use Rattle.grammar.specs.Readers.{Numbers, Words, Binaries}
use Rattle.cardlines.specs.declared.Due.{Due as DueNow}
use Rattle.cardlines.specs.declared.Due.TheVariants.{Vars, Init, Any, Equation as AnEquation, End, Nothing}
use Rattle.cardlines.specs.declared.Held.{Held}
use Rattle.cardlines.specs.Held.{due_is, held_of, Small, Holds, Came, with_count, VarsCame, EndCame, kept}

-- ---- before the first statement

pub nothing_holds : Holds begun (held_of begun) blank
unfolding firsts ends_of codes
nothing_holds = record { held_is = refl; inits_are = refl; initials_are = refl; equations_are = record { lefts_are = refl; ends_are = refl; nodes_are = refl; count_is = refl }; property_is = tt }

pub nothing_small : Small (held_of begun) blank
nothing_small = record { variables-most = omega arith; typed-most = omega arith; initials-most = omega arith; equations-most = record { count-most = omega arith; nodes-most = omega arith } }

-- ---- what is due

abbrev pub due_back : DueNow → Due
due_back Vars = DueVars
due_back Init = DueInit
due_back Any = DueAny
due_back AnEquation = DueEquation
due_back End = DueEnd
due_back Nothing = DueNone

pub due_known : (d : Due) → due_back (due_is d) ≡ d
due_known DueVars = refl
due_known DueInit = refl
due_known DueAny = refl
due_known DueEquation = refl
due_known DueEnd = refl
due_known DueNone = refl

-- ---- words and numbers

module _ (chars : List ℕ) (i : ℕ) where
  pub ink_more : (r : Option Ink) → Inks chars i r → is_some r ≡ true → (c : ℕ) × (cs : List ℕ) × (ahead chars i ≡ c ∷ cs)
  ink_more (Some c) I e = (c.code, ahead chars c.next, I.first)
  ink_more None I e = cc

  pub ink_end : (r : Option Ink) → Inks chars i r → is_some r ≡ false → ahead chars i ≡ []
  ink_end (Some c) I e = cc
  ink_end None I e = I

module _ (w cs : List ℕ) (f : List ℕ → Outcome Sofar) (other : Outcome Sofar) where
  pub on_none : behind w cs ≡ none → on_word w cs f other ≡ other
  on_none e = ap (λ (o : Behind (List ℕ)). elim o [ some rs ↦ f rs | none ↦ other ]) e

  pub on_some : (rs : List ℕ) → behind w cs ≡ some rs → on_word w cs f other ≡ f rs
  on_some rs e = ap (λ (o : Behind (List ℕ)). elim o [ some rs ↦ f rs | none ↦ other ]) e

module _ (n : ℕ) (cs : List ℕ) where
  number_none : (rs : List ℕ) → read_number cs ≡ NoNumber rs → whole_number n 64 cs ≡ Refused (NotDue n)
  unfolding whole_number
  number_none rs e = simp (e, whole_number)

  number_more : (v r : ℕ) (rs : List ℕ) → read_number cs ≡ Number v (r ∷ rs) → whole_number n 64 cs ≡ Refused (NotDue n)
  unfolding whole_number
  number_more v r rs e = simp (e, whole_number)

  number_large : (v : ℕ) (rs : List ℕ) → read_number cs ≡ Number v rs → 64 < v → whole_number n 64 cs ≡ Refused (NotDue n)
  unfolding whole_number
  number_large v [] e h = simp (e, lt-ltb 64 v h, whole_number)
  number_large v (r ∷ rs) e h = simp (e, whole_number)

  number_fine : (v : ℕ) → read_number cs ≡ Number v [] → v ≤ 64 → whole_number n 64 cs ≡ Got v
  unfolding whole_number
  number_fine v e h = simp (e, le-ltb 64 v h, whole_number)

-- ---- `VARS`

module _ (chars : List ℕ) (n : ℕ) where
  vars-due : (t : Typed) → due_statement DueVars n (ahead chars 0) t ≡ on_word (86 ∷ 65 ∷ 82 ∷ 83 ∷ []) (ahead chars 0) (λ rs. vars_statement n rs t) (Refused (NotDue n))
  unfolding due_statement bytes
  vars-due t = refl

  pub vars_word : (p : ℕ) → Words chars 0 (86 ∷ 65 ∷ 82 ∷ 83 ∷ []) (Err p) → VarsCame n (ahead chars 0) (Err (NotDue n))
  vars_word p W t = vars-due t ∙ on_none (86 ∷ 65 ∷ 82 ∷ 83 ∷ []) (ahead chars 0) (λ rs. vars_statement n rs t) (Refused (NotDue n)) W.1

  module _ (at : ℕ) (W : Words chars 0 (86 ∷ 65 ∷ 82 ∷ 83 ∷ []) (Ok at)) where
    vars_read : (t : Typed) → due_statement DueVars n (ahead chars 0) t ≡ vars_statement n (ahead chars at) t
    vars_read t = vars-due t ∙ on_some (86 ∷ 65 ∷ 82 ∷ 83 ∷ []) (ahead chars 0) (λ rs. vars_statement n rs t) (Refused (NotDue n)) (ahead chars at) W.1

    vars_refused : whole_number n 64 (ahead chars at) ≡ Refused (NotDue n) → VarsCame n (ahead chars 0) (Err (NotDue n))
    unfolding vars_statement
    vars_refused e t = let z : vars_statement n (ahead chars at) t ≡ Refused (NotDue n) = simp (e, vars_statement) in vars_read t ∙ z

    pub vars-number : (p : ℕ) → Numbers chars at (Err p) → VarsCame n (ahead chars 0) (Err (NotDue n))
    vars-number p N = vars_refused (number_none n (ahead chars at) (ahead chars p) N.1)

    module _ (d : Digits) (N : Numbers chars at (Ok d)) (k : ℕ) (K : k ≡ d.value) where
      pub vars_large : 64 < k → VarsCame n (ahead chars 0) (Err (NotDue n))
      vars_large l = vars_refused (number_large n (ahead chars at) d.value (ahead chars d.next) N.2 (omega arith))

      module _ (r : Option Ink) (I : Inks chars d.next r) where
        pub vars_more : is_some r ≡ true → VarsCame n (ahead chars 0) (Err (NotDue n))
        vars_more e =
            let m = ink_more chars d.next r I e in
            vars_refused (number_more n (ahead chars at) d.value m.0 m.1 (N.2 ∙ ap (Number d.value) m.2))

        pub vars_fine : is_some r ≡ false → k ≤ 64 → VarsCame n (ahead chars 0) (Ok k)
        unfolding vars_statement
        vars_fine e l = (
          l,
          λ t.
              let number : whole_number n 64 (ahead chars at) ≡ Got d.value = number_fine n (ahead chars at) d.value (N.2 ∙ ap (Number d.value) (ink_end chars d.next r I e)) (omega arith) in
              let z : vars_statement n (ahead chars at) t ≡ Got (record { due = DueInit; typed = with_count d.value t }) = simp (number, vars_statement) in
              vars_read t ∙ z ∙ ap (λ (x : ℕ). Got (record { due = DueInit; typed = with_count x t })) (sym K),
        )

  -- ---- `END`

  end_due : (t : Typed) → due_statement DueEnd n (ahead chars 0) t ≡ on_word (69 ∷ 78 ∷ 68 ∷ []) (ahead chars 0) (λ rs. end_statement n rs t) (Refused (NotDue n))
  unfolding due_statement bytes
  end_due t = refl

  end_more : (c : ℕ) (cs : List ℕ) (t : Typed) → end_statement n (c ∷ cs) t ≡ Refused (NotDue n)
  unfolding end_statement
  end_more c cs t = refl

  end_fills : (t : Typed) → end_statement n [] t ≡ Got (record { due = DueNone; typed = t })
  unfolding end_statement
  end_fills t = refl

  pub end_word : (p : ℕ) → Words chars 0 (69 ∷ 78 ∷ 68 ∷ []) (Err p) → EndCame n (ahead chars 0) (Err (NotDue n))
  end_word p W t = end_due t ∙ on_none (69 ∷ 78 ∷ 68 ∷ []) (ahead chars 0) (λ rs. end_statement n rs t) (Refused (NotDue n)) W.1

  module _ (at : ℕ) (W : Words chars 0 (69 ∷ 78 ∷ 68 ∷ []) (Ok at)) (r : Option Ink) (I : Inks chars at r) where
    end_read : (t : Typed) → due_statement DueEnd n (ahead chars 0) t ≡ end_statement n (ahead chars at) t
    end_read t = end_due t ∙ on_some (69 ∷ 78 ∷ 68 ∷ []) (ahead chars 0) (λ rs. end_statement n rs t) (Refused (NotDue n)) (ahead chars at) W.1

    pub end_wrong : is_some r ≡ true → EndCame n (ahead chars 0) (Err (NotDue n))
    end_wrong e t =
        let m = ink_more chars at r I e in
        end_read t ∙ ap (λ (cs : List ℕ). end_statement n cs t) m.2 ∙ end_more m.0 m.1 t

    pub end_fine : is_some r ≡ false → EndCame n (ahead chars 0) (Ok tt)
    end_fine e t = end_read t ∙ ap (λ (cs : List ℕ). end_statement n cs t) (ink_end chars at r I e) ∙ end_fills t

-- ---- `INIT`

module _ (chars : List ℕ) (at n : ℕ) (h : Held) (deck : Deck) (s : Sofar) (H : Holds s h deck) where
  count_as : h.count ≡ s.typed.count
  count_as = ap (λ (x : Held). x.count) H.held_is

  typed_as : h.typed ≡ length s.typed.inits
  typed_as = ap (λ (x : Held). x.typed) H.held_is

  binaries : (r : Behind ℕ) → read_binary 0 h.count 0 (ahead chars at) ≡ r → read_binary 0 s.typed.count 0 (ahead chars at) ≡ r
  binaries r e = ap (λ (k : ℕ). read_binary 0 k 0 (ahead chars at)) (sym count_as) ∙ e

  pub init_number : (p : ℕ) → Binaries chars at h.count (Err p) → init_statement n (ahead chars at) s.typed ≡ Refused (NotDue n)
  unfolding init_statement
  init_number p B = simp (binaries none B.1, init_statement)

  module _ (state : ℕ) (B : Binaries chars at h.count (Ok state)) where
    pub init_many : 64 ≤ h.typed → init_statement n (ahead chars at) s.typed ≡ Refused (ManyInitials n)
    unfolding init_statement
    init_many l = simp (binaries (some state) B, lt-ltb 64 (length s.typed.inits + 1) (omega (arith, l, typed_as)), init_statement)

    module _ (l : h.typed < 64) where
      abbrev next : Sofar
      next = record { due = DueAny; typed = record { count = s.typed.count; inits = s.typed.inits ++ (state ∷ []); equations = s.typed.equations; property = s.typed.property } }

      taken : init_statement n (ahead chars at) s.typed ≡ Got next
      unfolding init_statement
      taken = simp (binaries (some state) B, le-ltb 64 (length s.typed.inits + 1) (omega (arith, l, typed_as)), init_statement)

      held_next : record { due = Any; count = h.count; typed = h.typed + 1 } ≡ held_of next
      held_next =
          let more : h.typed + 1 ≡ length (s.typed.inits ++ (state ∷ [])) = omega (arith, typed_as, length-append s.typed.inits (state ∷ [])) in
          ap₂ (λ (i j : ℕ). record { due = Any; count = i; typed = j }) count_as more

      known : stands state (take deck.initials deck.inits) ≡ stands state s.typed.inits
      known =
          ap₂ (λ (k : ℕ) (m : List ℕ). stands state (take k m)) H.initials_are H.inits_are
          ∙ ap (stands state) (take-padded 64 (firsts s.typed.inits))
          ∙ stands-firsts state s.typed.inits

      again : stands state (take deck.initials deck.inits) ≡ true → Holds next (record { due = Any; count = h.count; typed = h.typed + 1 }) deck
      again c =
          let same : firsts (s.typed.inits ++ (state ∷ [])) ≡ firsts s.typed.inits = firsts_again state s.typed.inits (true_stands state s.typed.inits (sym known ∙ c)) in
          record {
            held_is = held_next;
            inits_are = H.inits_are ∙ ap (padded 64) (sym same);
            initials_are = H.initials_are ∙ ap (λ (m : List ℕ). length m) (sym same);
            equations_are = H.equations_are;
            property_is = tt;
          }

      new : stands state (take deck.initials deck.inits) ≡ false → Holds next (record { due = Any; count = h.count; typed = h.typed + 1 }) (record deck { inits = set deck.inits deck.initials state; initials = deck.initials + 1 })
      new c =
          let old : List ℕ = firsts s.typed.inits in
          let more : firsts (s.typed.inits ++ (state ∷ [])) ≡ old ++ (state ∷ []) = firsts_new state s.typed.inits (false_stands state s.typed.inits (sym known ∙ c)) in
          let few : length old < 64 = omega (arith, l, typed_as, length-firsts s.typed.inits) in
          record {
            held_is = held_next;
            inits_are = ap₂ (λ (m : List ℕ) (k : ℕ). set m k state) H.inits_are H.initials_are ∙ padded_snoc 64 old state few ∙ ap (padded 64) (sym more);
            initials_are = omega (arith, H.initials_are, ap (λ (m : List ℕ). length m) more, length-append old (state ∷ []));
            equations_are = H.equations_are;
            property_is = tt;
          }

      holds_next : (c : Bool) → stands state (take deck.initials deck.inits) ≡ c → Holds next (record { due = Any; count = h.count; typed = h.typed + 1 }) (chosen c deck (record deck { inits = set deck.inits deck.initials state; initials = deck.initials + 1 }))
      holds_next true c = again c
      holds_next false c = new c

      pub init_fine : (out : Deck) → out ≡ kept state deck → Came (init_statement n (ahead chars at) s.typed) (Ok (record { due = Any; count = h.count; typed = h.typed + 1 })) out
      init_fine out q = (
        next,
        taken,
        subst (λ (d : Deck). Holds next (record { due = Any; count = h.count; typed = h.typed + 1 }) d) (sym q) (holds_next (stands state (take deck.initials deck.inits)) refl),
      )
