-- Laws of the statement that is due.
use Rattle.std.proofs.Common.{◌≡◌, refl, sym, ap, ◌∙◌, subst, List, [], ◌∷◌, ℕ, Result, Ok, Err}
use Rattle.lists.specs.Texts.{bytes}
use Rattle.decks.specs.declared.Refusal.{Refusal}
use Rattle.decks.specs.declared.Refusal.TheVariants.{NotDue}
use Rattle.decks.specs.declared.Equations.{Equations}
use Rattle.decks.specs.declared.Deck.{Deck}
use Rattle.decks.specs.Answers.{Outcome, Refused}
use Rattle.decks.specs.Lent.{Hold}
use Rattle.cards.specs.Statement.{inked}
use Rattle.cards.specs.Typed.{Typed}
use Rattle.cards.specs.Read.{Due, DueInit, DueAny, DueEquation, DueNone, Sofar, init_statement, equation_statement, prop_statement, equation_or_prop, on_word, due_statement}
use Rattle.grammar.specs.Ahead.{ahead}
use Rattle.grammar.specs.Readers.{Words}
use Rattle.cardlines.specs.declared.Due.{Due as DueNow}
use Rattle.cardlines.specs.declared.Due.TheVariants.{Vars, Init, Any, Equation as AnEquation, End, Nothing}
use Rattle.cardlines.specs.declared.Held.{Held}
use Rattle.cardlines.specs.Held.{PropertyHeld, Holds, Came, VarsCame, EndCame, EquationCame, PropCame}
use Rattle.cardlines.proofs.Laws.{due_back, due_known, on_none, on_some}

module _ (chars : List ℕ) (n : ℕ) (h : Held) (deck : Deck) (s : Sofar) (H : Holds s h deck) where
  count_as : h.count ≡ s.typed.count
  count_as = ap (λ (x : Held). x.count) H.held_is

  -- ---- an equation or the property

  either_is : equation_or_prop n (ahead chars 0) s.typed ≡ on_word (86 ∷ []) (ahead chars 0) (λ rs. equation_statement n rs s.typed) (on_word (80 ∷ 82 ∷ 79 ∷ 80 ∷ []) (ahead chars 0) (λ rs. prop_statement n rs s.typed) (Refused (NotDue n)))
  unfolding equation_or_prop bytes
  either_is = refl

  module _ (at : ℕ) (W : Words chars 0 (86 ∷ []) (Ok at)) where
    equation_begun : equation_or_prop n (ahead chars 0) s.typed ≡ equation_statement n (ahead chars at) s.typed
    equation_begun =
        either_is
        ∙ on_some (86 ∷ []) (ahead chars 0) (λ rs. equation_statement n rs s.typed) (on_word (80 ∷ 82 ∷ 79 ∷ 80 ∷ []) (ahead chars 0) (λ rs. prop_statement n rs s.typed) (Refused (NotDue n))) (ahead chars at) W.1

    pub equation_stopped : (a : Refusal) → ((t : Typed) → h.count ≡ t.count → Hold t.equations deck.equations → equation_statement n (ahead chars at) t ≡ Refused a) → equation_or_prop n (ahead chars 0) s.typed ≡ Refused a
    equation_stopped a c = equation_begun ∙ c s.typed count_as H.equations_are

    pub equation_read : (e : Equations) → ((t : Typed) → h.count ≡ t.count → Hold t.equations deck.equations → EquationCame (equation_statement n (ahead chars at) t) t (Ok tt) e)
        → Came (equation_or_prop n (ahead chars 0) s.typed) (Ok (record { due = AnEquation; count = h.count; typed = h.typed })) (record deck { equations = e })
    equation_read e c =
        let r = c s.typed count_as H.equations_are in (
          _,
          equation_begun ∙ r.1,
          record {
            held_is = ap (λ (x : Held). record { due = AnEquation; count = x.count; typed = x.typed }) H.held_is;
            inits_are = H.inits_are;
            initials_are = H.initials_are;
            equations_are = r.2;
            property_is = tt;
          },
        )

  module _ (q : ℕ) (V : Words chars 0 (86 ∷ []) (Err q)) where
    no_equation : equation_or_prop n (ahead chars 0) s.typed ≡ on_word (80 ∷ 82 ∷ 79 ∷ 80 ∷ []) (ahead chars 0) (λ rs. prop_statement n rs s.typed) (Refused (NotDue n))
    no_equation =
        either_is
        ∙ on_none (86 ∷ []) (ahead chars 0) (λ rs. equation_statement n rs s.typed) (on_word (80 ∷ 82 ∷ 79 ∷ 80 ∷ []) (ahead chars 0) (λ rs. prop_statement n rs s.typed) (Refused (NotDue n))) V.1

    pub prop_none : (p : ℕ) → Words chars 0 (80 ∷ 82 ∷ 79 ∷ 80 ∷ []) (Err p) → equation_or_prop n (ahead chars 0) s.typed ≡ Refused (NotDue n)
    prop_none p W = no_equation ∙ on_none (80 ∷ 82 ∷ 79 ∷ 80 ∷ []) (ahead chars 0) (λ rs. prop_statement n rs s.typed) (Refused (NotDue n)) W.1

    module _ (at : ℕ) (W : Words chars 0 (80 ∷ 82 ∷ 79 ∷ 80 ∷ []) (Ok at)) where
      prop_begun : equation_or_prop n (ahead chars 0) s.typed ≡ prop_statement n (ahead chars at) s.typed
      prop_begun = no_equation ∙ on_some (80 ∷ 82 ∷ 79 ∷ 80 ∷ []) (ahead chars 0) (λ rs. prop_statement n rs s.typed) (Refused (NotDue n)) (ahead chars at) W.1

      pub prop_stopped : (a : Refusal) → ((t : Typed) → h.count ≡ t.count → prop_statement n (ahead chars at) t ≡ Refused a) → equation_or_prop n (ahead chars 0) s.typed ≡ Refused a
      prop_stopped a c = prop_begun ∙ c s.typed count_as

      pub prop_read : (k : ℕ) (row : List ℕ) → ((t : Typed) → h.count ≡ t.count → PropCame (prop_statement n (ahead chars at) t) t (Ok k) row)
          → Came (equation_or_prop n (ahead chars 0) s.typed) (Ok (record { due = End; count = h.count; typed = h.typed })) (record deck { property = row; size = k })
      prop_read k row c =
          let r = c s.typed count_as in (
            _,
            prop_begun ∙ r.1,
            record {
              held_is = ap (λ (x : Held). record { due = End; count = x.count; typed = x.typed }) H.held_is;
              inits_are = H.inits_are;
              initials_are = H.initials_are;
              equations_are = H.equations_are;
              property_is = (r.2, r.3);
            },
          )

  -- ---- by what is due

  all_ahead : inked chars ≡ ahead chars 0
  unfolding ahead
  all_ahead = refl

  -- The statement that is due, by what is held.
  due_as : (d : DueNow) → h.due ≡ d → due_statement s.due n (inked chars) s.typed ≡ due_statement (due_back d) n (ahead chars 0) s.typed
  due_as d e =
      ap (λ (x : Due). due_statement x n (inked chars) s.typed) (sym (due_known s.due) ∙ ap due_back (sym (ap (λ (x : Held). x.due) H.held_is) ∙ e))
      ∙ ap (λ (cs : List ℕ). due_statement (due_back d) n cs s.typed) all_ahead

  pub vars_stopped : (a : Refusal) → h.due ≡ Vars → VarsCame n (ahead chars 0) (Err a) → due_statement s.due n (inked chars) s.typed ≡ Refused a
  vars_stopped a e c = due_as Vars e ∙ c s.typed

  pub vars_read : (k : ℕ) → h.due ≡ Vars → VarsCame n (ahead chars 0) (Ok k) → Came (due_statement s.due n (inked chars) s.typed) (Ok (record { due = Init; count = k; typed = h.typed })) deck
  vars_read k e c = (
    _,
    due_as Vars e ∙ c.1 s.typed,
    record {
      held_is = ap (λ (x : Held). record { due = Init; count = k; typed = x.typed }) H.held_is;
      inits_are = H.inits_are;
      initials_are = H.initials_are;
      equations_are = H.equations_are;
      property_is = tt;
    },
  )

  pub end_stopped : (a : Refusal) → h.due ≡ End → EndCame n (ahead chars 0) (Err a) → due_statement s.due n (inked chars) s.typed ≡ Refused a
  end_stopped a e c = due_as End e ∙ c s.typed

  -- Where `END` is due the property stands.
  ended : (d : Due) → due_back End ≡ d → PropertyHeld d s.typed.property deck.size deck.property → PropertyHeld DueNone s.typed.property deck.size deck.property
  ended d e p = subst (λ (x : Due). PropertyHeld x s.typed.property deck.size deck.property) (sym e) p

  pub end_read : h.due ≡ End → EndCame n (ahead chars 0) (Ok tt) → Came (due_statement s.due n (inked chars) s.typed) (Ok (record { due = Nothing; count = h.count; typed = h.typed })) deck
  end_read e c = (
    _,
    due_as End e ∙ c s.typed,
    record {
      held_is = ap (λ (x : Held). record { due = Nothing; count = x.count; typed = x.typed }) H.held_is;
      inits_are = H.inits_are;
      initials_are = H.initials_are;
      equations_are = H.equations_are;
      property_is = ended s.due (ap due_back (sym e ∙ ap (λ (x : Held). x.due) H.held_is) ∙ due_known s.due) H.property_is;
    },
  )

  pub nothing_due : h.due ≡ Nothing → due_statement s.due n (inked chars) s.typed ≡ Refused (NotDue n)
  unfolding due_statement
  nothing_due e = due_as Nothing e

  due_init : due_statement DueInit n (ahead chars 0) s.typed ≡ on_word (73 ∷ 78 ∷ 73 ∷ 84 ∷ []) (ahead chars 0) (λ rs. init_statement n rs s.typed) (Refused (NotDue n))
  unfolding due_statement bytes
  due_init = refl

  due_any : due_statement DueAny n (ahead chars 0) s.typed ≡ on_word (73 ∷ 78 ∷ 73 ∷ 84 ∷ []) (ahead chars 0) (λ rs. init_statement n rs s.typed) (equation_or_prop n (ahead chars 0) s.typed)
  unfolding due_statement bytes
  due_any = refl

  due_equation : due_statement DueEquation n (ahead chars 0) s.typed ≡ equation_or_prop n (ahead chars 0) s.typed
  unfolding due_statement
  due_equation = refl

  came_same : (o p : Outcome Sofar) (r : Result Held Refusal) (out : Deck) → o ≡ p → Came p r out → Came o r out
  came_same o p r out e c = subst (λ (x : Outcome Sofar). Came x r out) (sym e) c

  pub init_none : (p : ℕ) → h.due ≡ Init → Words chars 0 (73 ∷ 78 ∷ 73 ∷ 84 ∷ []) (Err p) → due_statement s.due n (inked chars) s.typed ≡ Refused (NotDue n)
  init_none p e W = due_as Init e ∙ due_init ∙ on_none (73 ∷ 78 ∷ 73 ∷ 84 ∷ []) (ahead chars 0) (λ rs. init_statement n rs s.typed) (Refused (NotDue n)) W.1

  module _ (r : Result Held Refusal) (out : Deck) where
    module _ (at : ℕ) (W : Words chars 0 (73 ∷ 78 ∷ 73 ∷ 84 ∷ []) (Ok at)) (c : (s : Sofar) → Holds s h deck → Came (init_statement n (ahead chars at) s.typed) r out) where
      pub init_first : h.due ≡ Init → Came (due_statement s.due n (inked chars) s.typed) r out
      init_first e =
          came_same _ _ r out
          (due_as Init e ∙ due_init ∙ on_some (73 ∷ 78 ∷ 73 ∷ 84 ∷ []) (ahead chars 0) (λ rs. init_statement n rs s.typed) (Refused (NotDue n)) (ahead chars at) W.1)
          (c s H)

      pub init_more : h.due ≡ Any → Came (due_statement s.due n (inked chars) s.typed) r out
      init_more e =
          came_same _ _ r out
          (due_as Any e ∙ due_any ∙ on_some (73 ∷ 78 ∷ 73 ∷ 84 ∷ []) (ahead chars 0) (λ rs. init_statement n rs s.typed) (equation_or_prop n (ahead chars 0) s.typed) (ahead chars at) W.1)
          (c s H)

    module _ (c : (s : Sofar) → Holds s h deck → Came (equation_or_prop n (ahead chars 0) s.typed) r out) where
      pub either_first : (p : ℕ) → h.due ≡ Any → Words chars 0 (73 ∷ 78 ∷ 73 ∷ 84 ∷ []) (Err p) → Came (due_statement s.due n (inked chars) s.typed) r out
      either_first p e W =
          came_same _ _ r out
          (due_as Any e ∙ due_any ∙ on_none (73 ∷ 78 ∷ 73 ∷ 84 ∷ []) (ahead chars 0) (λ rs. init_statement n rs s.typed) (equation_or_prop n (ahead chars 0) s.typed) W.1)
          (c s H)

      pub either_more : h.due ≡ AnEquation → Came (due_statement s.due n (inked chars) s.typed) r out
      either_more e = came_same _ _ r out (due_as AnEquation e ∙ due_equation) (c s H)
