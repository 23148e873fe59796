-- Laws of the reader of decks.
use mathlib.Core.Path.{◌≡◌, refl, sym, ap, ◌∙◌, subst}
use mathlib.Core.Bool.{Bool, true, false, not}
use mathlib.Core.List.{List, [], ◌∷◌, ◌++◌}
use Prim.Native.Nat.{ℕ, ◌+◌, ◌-◌, ◌<◌, ◌≤◌}
use native.Mathlib.Omega.{arith}
use native.Mathlib.Numerals.{add-one}
use lib.Dec.{ltb, eqb}
use lib.ListN.{length, take, drop, replicate, length-append, drop_of_length-le}
use lib.Seq.{drop-cons}
use borrow.Author.Tests.{lt-ltb, le-ltb, ltb-false, ne_eqb, eqb-true}
use Rattle.std.specs.Prelude.{Some, None, Result, Ok, Err}
use Rattle.lists.specs.Lists.{stands, padded, ended, unended}
use Rattle.sets.specs.Sets.{has, inside, without, lowest_of}
use Rattle.logic.specs.Expressions.{Expr, nodes, written, temporal, code}
use Rattle.logic.specs.Decks.{Equation, Deck, total_nodes}
use Rattle.decks.specs.declared.Refusal.{Refusal}
use Rattle.decks.specs.declared.Refusal.TheVariants.{TooLong, BadFrame, NoEquation}
use Rattle.decks.specs.declared.Deck.{Deck as Stored}
use Rattle.decks.specs.Answers.{Outcome, Got, Refused, refuse, afterwards}
use Rattle.decks.specs.Stored.{ends_of, codes, stored_equations, blank}
use Rattle.decks.specs.Lent.{Hold, ReadInto}
use Rattle.decks.proofs.Stored.{total_more}
use Rattle.decks.proofs.Complete.{complete_none, complete-some}
use Rattle.frames.specs.Hex.{byte_of}
use Rattle.frames.specs.Read.{Due, DueSet, DueInit, DueAny, DueEquation, DueCount, DueNone, Sofar, begun, kind_of, whole_number, whole_expr, set_line, init_line, last_left, with_equation, equation_line, property_line, count_line, permits, frame_line, deck_line, deck_end, read_deck}
use Rattle.decks.specs.Readings.{walk, left_set, complete}
use Rattle.decks.proofs.Outcomes.{Given, refuse_given, afterwards_given}
use Rattle.lines.specs.Numbers.{pair_read, count_is}
use Rattle.ends.specs.Ends.{line_length}
use Rattle.lines.proofs.Laws.{count_line_lem, pair_inside, some_below, none_below}
use Rattle.ends.proofs.Laws.{ended_at, unended_at, ended_last, unended_last}
use Rattle.decklines.specs.declared.Due.TheVariants.{Nothing}
use Rattle.decklines.specs.declared.Held.{Held}
use Rattle.decklines.specs.Held.{due_of, held_of, line_of, deck_of, property_of, size_of, with_vars, with_vars_alone, with_inits, with_equations, with_property, DeckAfter, Came}
use Rattle.decklines.proofs.Laws.{said_got, said_refused}
use Rattle.reading.specs.Within.{Within}

false_true : {P : Type 0} → false ≡ true → P
false_true e = cc

-- ---- what is due where a kind is permitted

due-set : (u : Due) (k : ℕ) → permits u k ≡ true → k ≡ 1 → u ≡ DueSet
due-set DueSet k p h = refl
due-set DueInit k p h = false_true (sym (ap (permits DueInit) h) ∙ p)
due-set DueAny k p h = false_true (sym (ap (permits DueAny) h) ∙ p)
due-set DueEquation k p h = false_true (sym (ap (permits DueEquation) h) ∙ p)
due-set DueCount k p h = false_true (sym (ap (permits DueCount) h) ∙ p)
due-set DueNone k p h = false_true p

due-count : (u : Due) (k : ℕ) → permits u k ≡ true → (k ≡ 1 → ⊥) → (k ≡ 2 → ⊥) → (k ≡ 3 → ⊥) → (k ≡ 4 → ⊥) → (u ≡ DueCount) × (k ≡ 5)
due-count DueSet k p a b c d = absurd (a (eqb-true k 1 p))
due-count DueInit k p a b c d = absurd (b (eqb-true k 2 p))
due-count DueAny k p a b c d = false_true (sym (simp (ne_eqb k 2 b, ne_eqb k 3 c, ne_eqb k 4 d)) ∙ p)
due-count DueEquation k p a b c d = false_true (sym (simp (ne_eqb k 3 c, ne_eqb k 4 d)) ∙ p)
due-count DueCount k p a b c d = (refl, eqb-true k 5 p)
due-count DueNone k p a b c d = false_true p

-- The property is still to come.
abbrev Early : Due → Type 0
Early DueSet = Unit
Early DueInit = Unit
Early DueAny = Unit
Early DueEquation = Unit
Early DueCount = ⊥
Early DueNone = ⊥

early_kind : (u : Due) (k : ℕ) → permits u k ≡ true → (k ≡ 5 → ⊥) → Early u
early_kind DueSet k p h = tt
early_kind DueInit k p h = tt
early_kind DueAny k p h = tt
early_kind DueEquation k p h = tt
early_kind DueCount k p h = h (eqb-true k 5 p)
early_kind DueNone k p h = false_true p

-- ---- 05

module _ (cs : List ℕ) (n : ℕ) (h : Held) (s : Sofar) where
  abbrev counted : Sofar
  counted = record { due = DueNone; deck = s.deck }

  pub count_wrong : false ≡ count_is n cs → Err (BadFrame 1 n) ≡ line_of (count_line 1 n cs (record { due = DueNone; deck = s.deck }))
  count_wrong e =
      let z : count_line 1 n cs counted ≡ Refused (BadFrame 1 n) = count_line_lem 1 n cs counted ∙ ap (λ (x : Bool). refuse (not x) (BadFrame 1 n) (Got counted)) (sym e) in
      ap line_of (sym z)

  pub count-right : h ≡ held_of s → true ≡ count_is n cs → Ok (record { due = Nothing; used = h.used; last = h.last; covered = h.covered }) ≡ line_of (count_line 1 n cs (record { due = DueNone; deck = s.deck }))
  count-right i e =
      let z : count_line 1 n cs counted ≡ Got counted = count_line_lem 1 n cs counted ∙ ap (λ (x : Bool). refuse (not x) (BadFrame 1 n) (Got counted)) (sym e) in
      ap (λ (y : Held). Ok (record { due = Nothing; used = y.used; last = y.last; covered = y.covered })) i
      ∙ ap line_of (sym z)

-- ---- the deck lent behind each line is that of the lines so far

early_property : (u : Due) (e : Expr) → Early u → property_of u e ≡ replicate 128 0
early_property DueSet e h = refl
early_property DueInit e h = refl
early_property DueAny e h = refl
early_property DueEquation e h = refl
early_property DueCount e h = absurd h
early_property DueNone e h = absurd h

early_size : (u : Due) (e : Expr) → Early u → size_of u e ≡ 0
early_size DueSet e h = refl
early_size DueInit e h = refl
early_size DueAny e h = refl
early_size DueEquation e h = refl
early_size DueCount e h = absurd h
early_size DueNone e h = absurd h

came_whole : (f : Sofar → Stored) (o : Outcome Sofar) (r : Result Held Refusal) (out : Stored) → Given (λ t. f t ≡ deck_of t) o → Came f o r out → Came deck_of o r out
came_whole f (Got t) r out g c = record { line_is = c.line_is; deck_is = c.deck_is ∙ g }
came_whole f (Refused a) r out g c = record { line_is = c.line_is; deck_is = tt }

set_whole : (n : ℕ) (cs : List ℕ) (e : Deck) (d : Stored) → d ≡ deck_of begun → Given (λ t. with_vars d t ≡ deck_of t) (set_line n cs e)
unfolding set_line
set_whole n cs e d f = afterwards_given (λ t. with_vars d t ≡ deck_of t) (whole_number 1 n 8 cs) _ (λ v g. ap (λ (x : Stored). record x { vars = v }) f)

set_alone_whole : (n : ℕ) (cs : List ℕ) (e : Deck) (d : Stored) → d ≡ deck_of begun → Given (λ t. with_vars_alone d t ≡ deck_of t) (set_line n cs e)
unfolding set_line
set_alone_whole n cs e d f = afterwards_given (λ t. with_vars_alone d t ≡ deck_of t) (whole_number 1 n 8 cs) _ (λ v g. ap (λ (x : Stored). record x { vars = v; initials = 0; equations = record x.equations { count = 0 }; size = 0 }) f)

module _ (n : ℕ) (s : Sofar) (d : Stored) (f : d ≡ deck_of s) where
  abbrev early_deck : Stored
  early_deck = record { vars = s.deck.vars; inits = padded 64 s.deck.inits; initials = length s.deck.inits; equations = stored_equations s.deck.equations; property = replicate 128 0; size = 0 }

  early_whole : Early s.due → d ≡ early_deck
  early_whole early =
      f
      ∙ ap (λ (y : List ℕ). record early_deck { property = y; size = size_of s.due s.deck.property }) (early_property s.due s.deck.property early)
      ∙ ap (λ (y : ℕ). record early_deck { size = y }) (early_size s.due s.deck.property early)

  init_whole : Early s.due → (cs : List ℕ) → Given (λ t. with_inits d t ≡ deck_of t) (init_line n cs s.deck)
  unfolding init_line
  init_whole early cs =
      afterwards_given (λ t. with_inits d t ≡ deck_of t) (whole_number 1 n 8 cs) _ (λ v e.
      refuse_given (λ t. with_inits d t ≡ deck_of t) (stands v s.deck.inits) _ _ (λ g.
      refuse_given (λ t. with_inits d t ≡ deck_of t) (not (inside v s.deck.vars)) _ _ (λ i.
      refuse_given (λ t. with_inits d t ≡ deck_of t) (ltb 64 (length s.deck.inits + 1)) _ _ (λ k.
      ap (λ (x : Stored). record x { inits = padded 64 (s.deck.inits ++ (v ∷ [])); initials = length (s.deck.inits ++ (v ∷ [])) }) (early_whole early)))))

  with_whole : Early s.due → (x : Equation) → Given (λ t. with_equations d t ≡ deck_of t) (with_equation n s.deck x)
  unfolding with_equation
  with_whole early x =
      refuse_given (λ t. with_equations d t ≡ deck_of t) (not (has s.deck.vars x.left)) _ _ (λ a.
      refuse_given (λ t. with_equations d t ≡ deck_of t) (not (inside (written x.right) s.deck.vars)) _ _ (λ b.
      refuse_given (λ t. with_equations d t ≡ deck_of t) (temporal x.right) _ _ (λ c.
      refuse_given (λ t. with_equations d t ≡ deck_of t) (ltb 256 (length s.deck.equations + 1)) _ _ (λ e.
      refuse_given (λ t. with_equations d t ≡ deck_of t) (ltb 2048 (total_nodes s.deck.equations + nodes x.right)) _ _ (λ g.
      ap (λ (y : Stored). record y { equations = stored_equations (s.deck.equations ++ (x ∷ [])) }) (early_whole early))))))

  equation_whole : Early s.due → (cs : List ℕ) → Given (λ t. with_equations d t ≡ deck_of t) (equation_line n cs s.deck)
  unfolding equation_line
  equation_whole early [] = tt
  equation_whole early (x ∷ []) = tt
  equation_whole early (x ∷ y ∷ cs) =
      refuse_given (λ t. with_equations d t ≡ deck_of t) (not (ltb (byte_of x y) 64)) _ _ (λ a.
      refuse_given (λ t. with_equations d t ≡ deck_of t) (ltb (byte_of x y) (last_left s.deck.equations)) _ _ (λ b.
      afterwards_given (λ t. with_equations d t ≡ deck_of t) (whole_expr n cs) _ (λ e g. with_whole early (record { left = byte_of x y; right = e }))))

  property_whole : (cs : List ℕ) → Given (λ t. with_property d t ≡ deck_of t) (property_line n cs s.deck)
  unfolding property_line
  property_whole cs =
      afterwards_given (λ t. with_property d t ≡ deck_of t) (whole_expr n cs) _ (λ e g.
      refuse_given (λ t. with_property d t ≡ deck_of t) (not (inside (written e) s.deck.vars)) _ _ (λ a.
      refuse_given (λ t. with_property d t ≡ deck_of t) (ltb 128 (nodes e)) _ _ (λ b. ap (λ (x : Stored). record x { property = padded 128 (code e); size = nodes e }) f)))

-- ---- each line stays within the limits

module _ (n : ℕ) (d : Deck) where
  set_within : (cs : List ℕ) → Given Within (set_line n cs d)
  unfolding set_line total_nodes
  set_within cs = afterwards_given Within (whole_number 1 n 8 cs) _ (λ v e. record { inits-within = omega arith; equations-within = omega arith; nodes-within = omega arith; set_first = λ z. cc })

  module _ (i : length d.inits ≤ 64) (q : length d.equations ≤ 256) (k : total_nodes d.equations ≤ 2048) where
    init_within : (cs : List ℕ) → Given Within (init_line n cs d)
    unfolding init_line
    init_within cs =
        afterwards_given Within (whole_number 1 n 8 cs) _ (λ v e.
        refuse_given Within (stands v d.inits) _ _ (λ f.
        refuse_given Within (not (inside v d.vars)) _ _ (λ g.
        refuse_given Within (ltb 64 (length d.inits + 1)) _ _ (λ h.
        record { inits-within = omega (arith, ltb-false 64 (length d.inits + 1) h, length-append d.inits (v ∷ [])); equations-within = q; nodes-within = k; set_first = λ z. cc }))))

    with_within : (x : Equation) → Given Within (with_equation n d x)
    unfolding with_equation
    with_within x =
        refuse_given Within (not (has d.vars x.left)) _ _ (λ a.
        refuse_given Within (not (inside (written x.right) d.vars)) _ _ (λ b.
        refuse_given Within (temporal x.right) _ _ (λ c.
        refuse_given Within (ltb 256 (length d.equations + 1)) _ _ (λ e.
        refuse_given Within (ltb 2048 (total_nodes d.equations + nodes x.right)) _ _ (λ f.
        record {
          inits-within = i;
          equations-within = omega (arith, ltb-false 256 (length d.equations + 1) e, length-append d.equations (x ∷ []));
          nodes-within = omega (arith, ltb-false 2048 (total_nodes d.equations + nodes x.right) f, total_more x d.equations);
          set_first = λ z. cc;
        })))))

    equation_within : (cs : List ℕ) → Given Within (equation_line n cs d)
    unfolding equation_line
    equation_within [] = tt
    equation_within (x ∷ []) = tt
    equation_within (x ∷ y ∷ cs) =
        refuse_given Within (not (ltb (byte_of x y) 64)) _ _ (λ a.
        refuse_given Within (ltb (byte_of x y) (last_left d.equations)) _ _ (λ b.
        afterwards_given Within (whole_expr n cs) _ (λ e f. with_within (record { left = byte_of x y; right = e }))))

    property_within : (cs : List ℕ) → Given Within (property_line n cs d)
    unfolding property_line
    property_within cs =
        afterwards_given Within (whole_expr n cs) _ (λ e f.
        refuse_given Within (not (inside (written e) d.vars)) _ _ (λ g.
        refuse_given Within (ltb 128 (nodes e)) _ _ (λ h. record { inits-within = i; equations-within = q; nodes-within = k; set_first = λ z. cc })))

    count_within : (cs : List ℕ) → Given Within (count_line 1 n cs (record { due = DueNone; deck = d }))
    count_within cs =
        subst (Given Within) (sym (count_line_lem 1 n cs (record { due = DueNone; deck = d })))
        (refuse_given Within (not (count_is n cs)) _ _ (λ g. record { inits-within = i; equations-within = q; nodes-within = k; set_first = λ z. cc }))

    frame_within : (t : ℕ) (cs : List ℕ) → Given Within (frame_line t n cs d)
    unfolding frame_line
    frame_within t cs = go (eqb t 1) (eqb t 2) (eqb t 3) (eqb t 4)
      where
        go : (a b c e : Bool) → Given Within (elim a [ true ↦ set_line n cs d | false ↦ elim b [ true ↦ init_line n cs d | false ↦ elim c [ true ↦ equation_line n cs d | false ↦ elim e [ true ↦ property_line n cs d | false ↦ count_line 1 n cs (record { due = DueNone; deck = d }) ] ] ] ])
        go true b c e = set_within cs
        go false true c e = init_within cs
        go false false true e = equation_within cs
        go false false false true = property_within cs
        go false false false false = count_within cs

line_within : (n : ℕ) (line : List ℕ) (s : Sofar) → Within s → Given Within (deck_line n line s)
unfolding deck_line
line_within n line s w = refuse_given Within (not (permits s.due (kind_of line))) _ _ (λ f. frame_within n s.deck w.inits-within w.equations-within w.nodes-within (kind_of line) (drop 2 line))

-- ---- a line by its kind

module _ (k n : ℕ) (cs : List ℕ) (d : Deck) where
  frame-set : k ≡ 1 → frame_line k n cs d ≡ set_line n cs d
  unfolding frame_line
  frame-set h = ap (λ (x : ℕ). frame_line x n cs d) h

  frame_init : k ≡ 2 → frame_line k n cs d ≡ init_line n cs d
  unfolding frame_line
  frame_init h = ap (λ (x : ℕ). frame_line x n cs d) h

  frame_equation : k ≡ 3 → frame_line k n cs d ≡ equation_line n cs d
  unfolding frame_line
  frame_equation h = ap (λ (x : ℕ). frame_line x n cs d) h

  frame-property : k ≡ 4 → frame_line k n cs d ≡ property_line n cs d
  unfolding frame_line
  frame-property h = ap (λ (x : ℕ). frame_line x n cs d) h

  frame-count : k ≡ 5 → frame_line k n cs d ≡ count_line 1 n cs (record { due = DueNone; deck = d })
  unfolding frame_line
  frame-count h = ap (λ (x : ℕ). frame_line x n cs d) h

-- ---- a line

came_refused : (o : Outcome Sofar) (a : Refusal) (d : Stored) → o ≡ Refused a → Came deck_of o (Err a) d
came_refused o a d e = subst (λ (x : Outcome Sofar). Came deck_of x (Err a) d) (sym e) (record { line_is = refl; deck_is = tt })

module _ (line : List ℕ) (n : ℕ) (s : Sofar) where
  permits_none : (u : Due) (k : ℕ) → 256 ≤ k → permits u k ≡ false
  permits_none DueSet k h = ne_eqb k 1 (λ e. omega arith)
  permits_none DueInit k h = ne_eqb k 2 (λ e. omega arith)
  permits_none DueAny k h = simp (ne_eqb k 2 (λ e. omega arith), ne_eqb k 3 (λ e. omega arith), ne_eqb k 4 (λ e. omega arith))
  permits_none DueEquation k h = simp (ne_eqb k 3 (λ e. omega arith), ne_eqb k 4 (λ e. omega arith))
  permits_none DueCount k h = ne_eqb k 5 (λ e. omega arith)
  permits_none DueNone k h = refl

  not_due : permits s.due (kind_of line) ≡ false → deck_line n line s ≡ Refused (BadFrame 1 n)
  unfolding deck_line
  not_due e = ap (λ (x : Bool). refuse (not x) (BadFrame 1 n) (frame_line (kind_of line) n (drop 2 line) s.deck)) e

  pub line_none : (out : Stored) → None ≡ pair_read (kind_of line) → Came deck_of (deck_line n line s) (Err (BadFrame 1 n)) out
  line_none out e = came_refused (deck_line n line s) (BadFrame 1 n) out (not_due (permits_none s.due (kind_of line) (none_below 256 (kind_of line) e)))

  module _ (k : ℕ) (q : Some k ≡ pair_read (kind_of line)) (h : Held) (i : h ≡ held_of s) where
    -- What the judge of kinds promises of a result.
    abbrev pub Judged : Bool → Type 0
    Judged b = (d : Due) → h.due ≡ due_of d → b ≡ permits d k

    kind_is : k ≡ kind_of line
    kind_is = (some_below 256 (kind_of line) k q).1

    permits_as : (b : Bool) → Judged b → permits s.due k ≡ b
    permits_as b j = sym (j s.due (ap (λ (x : Held). x.due) i))

    pub line_not_due : (out : Stored) → Judged false → Came deck_of (deck_line n line s) (Err (BadFrame 1 n)) out
    line_not_due out j = came_refused (deck_line n line s) (BadFrame 1 n) out (not_due (ap (permits s.due) (sym kind_is) ∙ permits_as false j))

    module _ (j : Judged true) where
      at_kind : deck_line n line s ≡ frame_line k n (drop 2 line) s.deck
      unfolding deck_line
      at_kind =
          ap (λ (x : ℕ). refuse (not (permits s.due x)) (BadFrame 1 n) (frame_line x n (drop 2 line) s.deck)) (sym kind_is)
          ∙ ap (λ (x : Bool). refuse (not x) (BadFrame 1 n) (frame_line k n (drop 2 line) s.deck)) (permits_as true j)

      line_early : (k ≡ 5 → ⊥) → Early s.due
      line_early f = early_kind s.due k (permits_as true j) f

      module _ (r : Result Held Refusal) (d out : Stored) (w : Within s) (f : d ≡ deck_of s) where
        by_kind : (o : Outcome Sofar) → frame_line k n (drop 2 line) s.deck ≡ o → (f : Sofar → Stored) → Given (λ t. f t ≡ deck_of t) o → Came f o r out → Came deck_of (deck_line n line s) r out
        by_kind o e f g c = subst (λ (x : Outcome Sofar). Came deck_of x r out) (sym (at_kind ∙ e)) (came_whole f o r out g c)

        vars_are : d.vars ≡ s.deck.vars
        vars_are = ap (λ (x : Stored). x.vars) f

        by_set : (o : Sofar → Stored) → (d ≡ deck_of begun → Given (λ t. o t ≡ deck_of t) (set_line n (drop 2 line) s.deck)) → k ≡ 1 → ((s : Sofar) → Came o (set_line n (drop 2 line) s.deck) r out) → Came deck_of (deck_line n line s) r out
        by_set o g e c =
            let z : s ≡ begun = w.set_first (due-set s.due k (permits_as true j) e) in
            by_kind (set_line n (drop 2 line) s.deck) (frame-set k n (drop 2 line) s.deck e) o (g (f ∙ ap deck_of z)) (c s)

        pub line_set : k ≡ 1 → ((s : Sofar) → Came (with_vars d) (set_line n (drop 2 line) s.deck) r out) → Came deck_of (deck_line n line s) r out
        line_set = by_set (with_vars d) (set_whole n (drop 2 line) s.deck d)

        pub line_set_alone : k ≡ 1 → ((s : Sofar) → Came (with_vars_alone d) (set_line n (drop 2 line) s.deck) r out) → Came deck_of (deck_line n line s) r out
        line_set_alone = by_set (with_vars_alone d) (set_alone_whole n (drop 2 line) s.deck d)

        pub line_init : k ≡ 2 → ((s : Sofar) → h ≡ held_of s → d.vars ≡ s.deck.vars → d.inits ≡ padded 64 s.deck.inits → d.initials ≡ length s.deck.inits → Came (with_inits d) (init_line n (drop 2 line) s.deck) r out) → Came deck_of (deck_line n line s) r out
        line_init e c =
            by_kind (init_line n (drop 2 line) s.deck) (frame_init k n (drop 2 line) s.deck e) (with_inits d) (init_whole n s d f (line_early (λ z. omega arith)) (drop 2 line))
            (c s i vars_are (ap (λ (x : Stored). x.inits) f) (ap (λ (x : Stored). x.initials) f))

        pub line_equation : k ≡ 3 → ((s : Sofar) → h ≡ held_of s → d.vars ≡ s.deck.vars → Hold s.deck.equations d.equations → Came (with_equations d) (equation_line n (drop 2 line) s.deck) r out) → Came deck_of (deck_line n line s) r out
        line_equation e c =
            let hold : Hold s.deck.equations d.equations = record {
              lefts_are = ap (λ (x : Stored). x.equations.lefts) f;
              ends_are = ap (λ (x : Stored). x.equations.ends) f;
              nodes_are = ap (λ (x : Stored). x.equations.nodes) f;
              count_is = ap (λ (x : Stored). x.equations.count) f;
            } in
            by_kind (equation_line n (drop 2 line) s.deck) (frame_equation k n (drop 2 line) s.deck e) (with_equations d) (equation_whole n s d f (line_early (λ z. omega arith)) (drop 2 line)) (c s i vars_are hold)

        pub line_property : k ≡ 4 → ((s : Sofar) → h ≡ held_of s → d.vars ≡ s.deck.vars → (r ≡ line_of (property_line n (drop 2 line) s.deck)) × (d.property ≡ replicate 128 0 → Came (with_property d) (property_line n (drop 2 line) s.deck) r out)) → Came deck_of (deck_line n line s) r out
        line_property e c =
            by_kind (property_line n (drop 2 line) s.deck) (frame-property k n (drop 2 line) s.deck e) (with_property d) (property_whole n s d f (drop 2 line))
            ((c s i vars_are).1 (ap (λ (x : Stored). x.property) f ∙ early_property s.due s.deck.property (line_early (λ z. omega arith))))

      pub line_count : (r : Result Held Refusal) (d : Stored) → d ≡ deck_of s → (k ≡ 1 → ⊥) → (k ≡ 2 → ⊥) → (k ≡ 3 → ⊥) → (k ≡ 4 → ⊥) → ((s : Sofar) → h ≡ held_of s → r ≡ line_of (count_line 1 n (drop 2 line) (record { due = DueNone; deck = s.deck }))) → Came deck_of (deck_line n line s) r d
      line_count r d f a b₂ b₃ b₄ c =
          subst (λ (o : Outcome Sofar). Came deck_of o r d) (sym (at_kind ∙ frame-count k n (drop 2 line) s.deck due.1 ∙ count_line_lem 1 n (drop 2 line) last))
          (go (count_is n (drop 2 line)) (c s i ∙ ap line_of (count_line_lem 1 n (drop 2 line) last)))
        where
          due : (s.due ≡ DueCount) × (k ≡ 5)
          due = due-count s.due k (permits_as true j) a b₂ b₃ b₄

          last : Sofar
          last = record { due = DueNone; deck = s.deck }

          same : d ≡ deck_of (record { due = DueNone; deck = s.deck })
          same = f ∙ ap (λ (u : Due). deck_of (record { due = u; deck = s.deck })) due.0

          go : (y : Bool) → r ≡ line_of (refuse (not y) (BadFrame 1 n) (Got (record { due = DueNone; deck = s.deck }))) → Came deck_of (refuse (not y) (BadFrame 1 n) (Got (record { due = DueNone; deck = s.deck }))) r d
          go false l = record { line_is = l; deck_is = tt }
          go true l = record { line_is = l; deck_is = same }

-- A line with a kind has room for it.
pub kind_within : (line : List ℕ) (k : ℕ) → Some k ≡ pair_read (kind_of line) → k ≡ 4 → 2 ≤ length line
kind_within line k q e = pair_inside line 0 k (some_below 256 (kind_of line) k q).1 (omega arith)

-- ---- from line to line

-- The text from line n on, behind lines that came to s.
abbrev rest : ℕ → List ℕ → Sofar → Outcome Deck
rest n t s = afterwards (walk deck_line n (ended t) s) (λ u. deck_end (unended t) u)

-- What the next line comes to.
abbrev onward : ℕ → List ℕ → Outcome Sofar → Outcome Deck
onward n t (Got s) = rest n t s
onward n t (Refused a) = Refused a

rest_line : (n : ℕ) (t line more : List ℕ) (s : Sofar) → ended t ≡ line ∷ ended more → unended t ≡ unended more → rest n t s ≡ onward (n + 1) more (deck_line n line s)
unfolding walk
rest_line n t line more s e u =
    ap (λ (l : List (List ℕ)). afterwards (walk deck_line n l s) (λ u. deck_end (unended t) u)) e
    ∙ ap (λ (l : List ℕ). afterwards (walk deck_line n (line ∷ ended more) s) (λ u. deck_end l u)) u
    ∙ go (deck_line n line s) refl
  where
    go : (o : Outcome Sofar) → deck_line n line s ≡ o → afterwards (walk deck_line n (line ∷ ended more) s) (λ u. deck_end (unended more) u) ≡ onward (n + 1) more o
    go (Got x) p = simp (p, walk) (ap (λ (k : ℕ). rest k more x) (sym (add-one n)))
    go (Refused a) p = simp (p, walk)

-- The lines before place at are read: what is held, what stands in the deck, and what the whole comes to from there on.
pub record Reached (text : List ℕ) (deck : Stored) (held : Held) (at n : ℕ) : Type 0 where
  pub sofar : Sofar
  pub within : Within sofar
  pub held_is : held ≡ held_of sofar
  pub deck_is : deck ≡ deck_of sofar
  pub rest_is : read_deck text ≡ rest n (drop at text) sofar

-- ---- behind the last line

early_end : (u : Due) (d : Deck) → (due_of u ≡ Nothing → ⊥) → deck_end [] (record { due = u; deck = d }) ≡ Refused (BadFrame 1 0)
unfolding deck_end
early_end DueSet d h = refl
early_end DueInit d h = refl
early_end DueAny d h = refl
early_end DueEquation d h = refl
early_end DueCount d h = refl
early_end DueNone d h = absurd (h refl)

whole_end : (u : Due) (d : Deck) → due_of u ≡ Nothing → (u ≡ DueNone) × (deck_end [] (record { due = u; deck = d }) ≡ complete d)
unfolding deck_end
whole_end DueSet d h = cc
whole_end DueInit d h = cc
whole_end DueAny d h = cc
whole_end DueEquation d h = cc
whole_end DueCount d h = cc
whole_end DueNone d h = (refl, refl)

read_refused : (o : Outcome Deck) (a : Refusal) (d : Stored) → o ≡ Refused a → ReadInto o (Err a) d
read_refused o a d e = subst (λ (x : Outcome Deck). ReadInto x (Err a) d) (sym e) (record { said_is = refl; stands_in = tt })

module _ (text : List ℕ) where
  pub too_long : (d : Stored) → 64800 < length text → ReadInto (read_deck text) (Err (TooLong 1)) d
  unfolding read_deck
  too_long d h = read_refused (read_deck text) (TooLong 1) d (simp (lt-ltb 64800 (length text) h, read_deck))

  blank_is : blank ≡ deck_of begun
  unfolding ends_of codes
  blank_is = refl

  pub reached_begun : (d : Stored) (h : Held) → d ≡ blank → length text ≤ 64800 → h ≡ held_of begun → Reached text d h 0 1
  unfolding read_deck total_nodes
  reached_begun d h b l e =
      record {
        sofar = begun;
        within = record { inits-within = omega arith; equations-within = omega arith; nodes-within = omega arith; set_first = λ z. refl };
        held_is = e;
        deck_is = b ∙ blank_is;
        rest_is = simp (le-ltb 64800 (length text) l, read_deck);
      }

  module _ {deck : Stored} {held : Held} {at n : ℕ} (d : Reached text deck held at n) where
    rest_none : ended (drop at text) ≡ [] → read_deck text ≡ deck_end (unended (drop at text)) d.sofar
    unfolding walk
    rest_none e = d.rest_is ∙ ap (λ (l : List (List ℕ)). afterwards (walk deck_line n l d.sofar) (λ u. deck_end (unended (drop at text)) u)) e

    pub reached_early : (end : ℕ) → at < length text → end ≡ at + line_length (drop at text) → end ≡ length text → ReadInto (read_deck text) (Err (BadFrame 1 0)) deck
    unfolding deck_end
    reached_early end h e i =
        let l : length text ≤ end = omega arith in
        let m : at ≤ length text = omega arith in
        read_refused (read_deck text) (BadFrame 1 0) deck (rest_none (ended_last text at end e l m) ∙ ap (λ (l : List ℕ). deck_end l d.sofar) (unended_last text at end e l m ∙ drop-cons text at 0 h))

    -- What the reader of a line promises of a result and of the deck behind it, at the line that ends at a place.
    abbrev pub LineCame : ℕ → Result Held Refusal → Stored → Type 0
    LineCame end r out = (s : Sofar) → Within s → held ≡ held_of s → deck ≡ deck_of s → Came deck_of (deck_line n (take (end - at) (drop at text)) s) r out

    module _ (end : ℕ) (e : end ≡ at + line_length (drop at text)) (l : end ≤ length text) (k : end ≡ length text → ⊥) (i : at ≤ end) (r : Result Held Refusal) (out : Stored) (c : LineCame end r out) where
      abbrev outcome : Outcome Sofar
      outcome = deck_line n (take (end - at) (drop at text)) d.sofar

      came : Came deck_of outcome r out
      came = c d.sofar d.within d.held_is d.deck_is

      the_line : read_deck text ≡ onward (n + 1) (drop (end + 1) text) outcome
      the_line =
          let h : end < length text = omega arith in
          d.rest_is ∙ rest_line n (drop at text) (take (end - at) (drop at text)) (drop (end + 1) text) d.sofar (ended_at text at end e h i) (unended_at text at end e h i)

      pub reached_refused : (a : Refusal) → r ≡ Err a → ReadInto (read_deck text) (Err a) out
      reached_refused a q = read_refused (read_deck text) a out (the_line ∙ ap (onward (n + 1) (drop (end + 1) text)) (said_refused held_of outcome a (sym q ∙ came.line_is)))

      pub reached_on : (x : Held) → r ≡ Ok x → Reached text out x (end + 1) (n + 1)
      reached_on x q =
          let g = said_got held_of outcome x (sym q ∙ came.line_is) in
          record {
            sofar = g.0;
            within = subst (Given Within) g.1 (line_within n (take (end - at) (drop at text)) d.sofar d.within);
            held_is = g.2;
            deck_is = subst (λ (o : Outcome Sofar). DeckAfter deck_of o out) g.1 came.deck_is;
            rest_is = the_line ∙ ap (onward (n + 1) (drop (end + 1) text)) g.1;
          }

    behind : length text ≤ at → read_deck text ≡ deck_end [] d.sofar
    unfolding ended unended
    behind h = rest_none (ap ended (drop_of_length-le text {i = at} h)) ∙ ap (λ (l : List ℕ). deck_end (unended l) d.sofar) (drop_of_length-le text {i = at} h)

    due_is : held.due ≡ due_of d.sofar.due
    due_is = ap (λ (x : Held). x.due) d.held_is

    pub reached_unfinished : length text ≤ at → (held.due ≡ Nothing → ⊥) → ReadInto (read_deck text) (Err (BadFrame 1 0)) deck
    reached_unfinished h i = read_refused (read_deck text) (BadFrame 1 0) deck (behind h ∙ early_end d.sofar.due d.sofar.deck (λ z. i (due_is ∙ z)))

    module _ (h : length text ≤ at) (i : held.due ≡ Nothing) (missing : ℕ) (m : missing ≡ without deck.vars held.covered) where
      lacks : missing ≡ without d.sofar.deck.vars (left_set d.sofar.deck.equations)
      lacks = m ∙ ap (λ (x : Stored). without x.vars held.covered) d.deck_is ∙ ap (λ (x : Held). without d.sofar.deck.vars x.covered) d.held_is

      end_is : read_deck text ≡ complete d.sofar.deck
      end_is = behind h ∙ (whole_end d.sofar.due d.sofar.deck (sym due_is ∙ i)).1

      pub reached_missing : (missing ≡ 0 → ⊥) → (v : ℕ) → v ≡ lowest_of missing → ReadInto (read_deck text) (Err (NoEquation v)) deck
      reached_missing z v q = read_refused (read_deck text) (NoEquation v) deck (end_is ∙ complete-some d.sofar.deck missing lacks z ∙ ap (λ (x : ℕ). Refused (NoEquation x)) (sym q))

      pub reached_done : missing ≡ 0 → ReadInto (read_deck text) (Ok tt) deck
      reached_done z =
          subst (λ (o : Outcome Deck). ReadInto o (Ok tt) deck) (sym (end_is ∙ complete_none d.sofar.deck missing lacks z))
          (record { said_is = refl; stands_in = d.deck_is ∙ ap (λ (u : Due). deck_of (record { due = u; deck = d.sofar.deck })) (whole_end d.sofar.due d.sofar.deck (sym due_is ∙ i)).0 })
