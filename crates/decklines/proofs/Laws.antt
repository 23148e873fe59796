-- Laws of the lines of a deck.
use mathlib.Core.Path.{◌≡◌, refl, sym, ap, ◌∙◌, subst}
use mathlib.Core.Bool.{Bool, true, false, not}
use mathlib.Core.List.{List, [], ◌∷◌, ◌++◌}
use Prim.Native.Nat.{ℕ, ◌+◌, ◌-◌, ◌%◌, ◌^◌, ◌<◌, ◌≤◌}
use native.Mathlib.Omega.{arith}
use lib.Dec.{ltb}
use lib.ListN.{length, take, drop, set, replicate, length-append, length-drop, length-replicate}
use lib.Seq.{drop-drop}
use borrow.Author.Tests.{lt-ltb, le-ltb}
use Rattle.std.specs.Prelude.{Option, Some, None, Result, Ok, Err}
use Rattle.std.specs.Option.{ok_or}
use Rattle.lists.specs.Lists.{stands, padded, splice}
use Rattle.lists.proofs.Laws.{padded-append, padded_snoc, padded-nil, take-padded}
use Rattle.sets.specs.Sets.{has, inside, only, union}
use Rattle.sets.proofs.Laws.{only-within}
use Rattle.logic.specs.Expressions.{Expr, nodes, written, temporal, code}
use Rattle.logic.specs.Decks.{Deck, Equation, total_nodes}
use Rattle.decks.specs.declared.Refusal.{Refusal}
use Rattle.decks.specs.declared.Refusal.TheVariants.{BadFrame, Outside, Temporal, TooDeep, ManyInitials, ManyEquations, ManyNodes}
use Rattle.decks.specs.declared.Deck.{Deck as Stored}
use Rattle.decks.specs.declared.Equations.{Equations}
use Rattle.decks.specs.Answers.{Outcome, Got, Refused, refuse, afterwards}
use Rattle.decks.specs.Stored.{codes, stored_equations}
use Rattle.decks.specs.Lent.{Hold}
use Rattle.decks.proofs.Outcomes.{refuse_got, got_eq}
use Rattle.decks.proofs.Complete.{left_more}
use Rattle.decks.proofs.Stored.{total_more, equations_more}
use Rattle.frames.specs.Hex.{number}
use Rattle.frames.specs.Read.{DueInit, DueAny, DueEquation, DueCount, Sofar, begun, read_expr, whole_number, whole_expr, set_line, init_line, property_line, with_equation, equation_line, kind_of, last_left}
use Rattle.decks.specs.Readings.{Reading, Whole, Wrong, Deep, left_set}
use Rattle.lines.specs.Numbers.{number_read, pair_read}
use Rattle.lines.proofs.Laws.{whole-number_none, whole-number-some, pair_inside, some_below, none_below}
use Rattle.codes.specs.declared.Read.{Read}
use Rattle.codes.specs.declared.Stop.{Stop}
use Rattle.codes.specs.declared.Stop.TheVariants.{Wrong as StopWrong, Deep as StopDeep}
use Rattle.codes.specs.declared.Written.{Written}
use Rattle.codes.specs.Steps.{step_of, nodes_of, Kept}
use Rattle.codes.proofs.Steps.{whole-spans, whole_when, whole_next}
use Rattle.decklines.specs.declared.Due.TheVariants.{Set as SetKind, Init, Any, Equation as EquationKind, Count}
use Rattle.decklines.specs.declared.Held.{Held}
use Rattle.decklines.specs.Held.{said_as, written_of, held_of, line_of, with_vars, with_vars_alone, with_inits, with_equations, with_property, Came, Room}

-- ---- what is said of an outcome

module _ {A B : Type 0} (f : A → B) where
  pub said_got : (o : Outcome A) (b : B) → Ok b ≡ said_as f o → (x : A) × (o ≡ Got x) × (b ≡ f x)
  said_got (Got x) b e = (x, refl, cc)
  said_got (Refused a) b e = cc

  pub said_refused : (o : Outcome A) (a : Refusal) → Err a ≡ said_as f o → o ≡ Refused a
  said_refused (Got x) a e = cc
  said_refused (Refused b) a e = let z : b ≡ a = cc in ap (λ (y : Refusal). Refused y) z

pub nothing_held : ◌≡◌ {A = Held} (record { due = SetKind; used = 0; last = 0; covered = 0 }) (held_of begun)
unfolding total_nodes last_left left_set
nothing_held = refl

came_refused : (f : Sofar → Stored) (o : Outcome Sofar) (a : Refusal) (d : Stored) → o ≡ Refused a → Came f o (Err a) d
came_refused f o a d e = subst (λ (x : Outcome Sofar). Came f x (Err a) d) (sym e) (record { line_is = refl; deck_is = tt })

came_got : (f : Sofar → Stored) (o : Outcome Sofar) (t : Sofar) (r : Result Held Refusal) (d : Stored) → o ≡ Got t → r ≡ line_of (Got t) → d ≡ f t → Came f o r d
came_got f o t r d e l k = subst (λ (x : Outcome Sofar). Came f x r d) (sym e) (record { line_is = l; deck_is = k })

-- ---- the deck lent

abbrev pub lent : ℕ → List ℕ → ℕ → Equations → List ℕ → ℕ → Stored
lent v i k q p z = record { vars = v; inits = i; initials = k; equations = q; property = p; size = z }

-- A padded row has all its places.
padded-long : (n : ℕ) (l : List ℕ) → n ≤ length (padded n l)
padded-long n l = omega (arith, length-append l (replicate (n - length l) 0), length-replicate {A = ℕ} (n - length l) 0)

-- ---- sets and states

pub set_said : (n : ℕ) (cs : List ℕ) (r : Option ℕ) → r ≡ number_read (number 8 cs) → ok_or r (BadFrame 1 n) ≡ said_as (λ (x : ℕ). x) (whole_number 1 n 8 cs)
set_said n cs None e = ap (said_as (λ (x : ℕ). x)) (sym (whole-number_none 1 n 8 cs None e refl))
set_said n cs (Some v) e = ap (said_as (λ (x : ℕ). x)) (sym (whole-number-some 1 n 8 cs (Some v) v e refl))

-- ---- 01

module _ (n : ℕ) (cs : List ℕ) (s : Sofar) where
  -- Whatever is said of the deck lent.
  module _ (f : Sofar → Stored) where
    set_wrong : (a : Refusal) (out : Stored) → Err a ≡ said_as (λ (x : ℕ). x) (whole_number 1 n 8 cs) → Came f (set_line n cs s.deck) (Err a) out
    unfolding set_line
    set_wrong a out w = came_refused f (set_line n cs s.deck) a out (simp (said_refused (λ (x : ℕ). x) (whole_number 1 n 8 cs) a w, set_line))

    set_right : (v : ℕ) → Ok v ≡ said_as (λ (x : ℕ). x) (whole_number 1 n 8 cs) → (h : Held) → h ≡ held_of begun → Came f (set_line n cs s.deck) (Ok (record { due = Init; used = h.used; last = h.last; covered = h.covered })) (f (record { due = DueInit; deck = record { vars = v; inits = []; equations = []; property = s.deck.property } }))
    unfolding set_line
    set_right v w h e =
        let g = said_got (λ (x : ℕ). x) (whole_number 1 n 8 cs) v w in
        came_got f (set_line n cs s.deck) (record { due = DueInit; deck = record { vars = v; inits = []; equations = []; property = s.deck.property } }) _ _
        (simp (g.1, g.2, set_line))
        (ap (λ (x : Held). Ok (record { due = Init; used = x.used; last = x.last; covered = x.covered })) e)
        refl

  module _ (d : Stored) where
    pub set_refused : (a : Refusal) (out : Stored) → Err a ≡ said_as (λ (x : ℕ). x) (whole_number 1 n 8 cs) → Came (with_vars d) (set_line n cs s.deck) (Err a) out
    set_refused a out w = set_wrong (with_vars d) a out w

    pub set_fine : (v : ℕ) → Ok v ≡ said_as (λ (x : ℕ). x) (whole_number 1 n 8 cs) → (h : Held) → h ≡ held_of begun → Came (with_vars d) (set_line n cs s.deck) (Ok (record { due = Init; used = h.used; last = h.last; covered = h.covered })) (lent v d.inits d.initials d.equations d.property d.size)
    set_fine v w h e = set_right (with_vars d) v w h e

    pub set_alone_refused : (a : Refusal) (out : Stored) → Err a ≡ said_as (λ (x : ℕ). x) (whole_number 1 n 8 cs) → Came (with_vars_alone d) (set_line n cs s.deck) (Err a) out
    set_alone_refused a out w = set_wrong (with_vars_alone d) a out w

    pub set_alone_fine : (v : ℕ) → Ok v ≡ said_as (λ (x : ℕ). x) (whole_number 1 n 8 cs) → (h : Held) → h ≡ held_of begun → Came (with_vars_alone d) (set_line n cs s.deck) (Ok (record { due = Init; used = h.used; last = h.last; covered = h.covered })) (lent v d.inits 0 (record d.equations { count = 0 }) d.property 0)
    set_alone_fine v w h e = set_right (with_vars_alone d) v w h e

-- ---- 02

module _ (n : ℕ) (cs : List ℕ) (s : Sofar) (d : Stored) where
  pub init_number : (a : Refusal) (out : Stored) → Err a ≡ said_as (λ (x : ℕ). x) (whole_number 1 n 8 cs) → Came (with_inits d) (init_line n cs s.deck) (Err a) out
  unfolding init_line
  init_number a out w = came_refused (with_inits d) (init_line n cs s.deck) a out (simp (said_refused (λ (x : ℕ). x) (whole_number 1 n 8 cs) a w, init_line))

  module _ (p : d.vars ≡ s.deck.vars) (q : d.inits ≡ padded 64 s.deck.inits) (r : d.initials ≡ length s.deck.inits) (v : ℕ) (w : Ok v ≡ said_as (λ (x : ℕ). x) (whole_number 1 n 8 cs)) (states : List ℕ) (i : states ≡ take d.initials d.inits) where
    the_number : whole_number 1 n 8 cs ≡ Got v
    the_number = let g = said_got (λ (x : ℕ). x) (whole_number 1 n 8 cs) v w in g.1 ∙ ap (λ (x : ℕ). Got x) (sym g.2)

    known : (b : Bool) → b ≡ stands v states → stands v s.deck.inits ≡ b
    known b g = sym (g ∙ ap (stands v) (i ∙ ap (λ (x : ℕ). take x d.inits) r ∙ ap (take (length s.deck.inits)) q ∙ take-padded 64 s.deck.inits))

    judged : (b : Bool) → b ≡ inside v d.vars → inside v s.deck.vars ≡ b
    judged b g = sym (g ∙ ap (inside v) p)

    pub init_equal : (out : Stored) → true ≡ stands v states → Came (with_inits d) (init_line n cs s.deck) (Err (BadFrame 1 n)) out
    unfolding init_line
    init_equal out g = came_refused (with_inits d) (init_line n cs s.deck) (BadFrame 1 n) out (simp (the_number, known true g, init_line))

    pub init_outside : (out : Stored) → false ≡ stands v states → false ≡ inside v d.vars → Came (with_inits d) (init_line n cs s.deck) (Err (Outside 1 n)) out
    unfolding init_line
    init_outside out g k = came_refused (with_inits d) (init_line n cs s.deck) (Outside 1 n) out (simp (the_number, known false g, judged false k, init_line))

    pub init_many : (out : Stored) → false ≡ stands v states → true ≡ inside v d.vars → 64 < d.initials + 1 → Came (with_inits d) (init_line n cs s.deck) (Err (ManyInitials n)) out
    unfolding init_line
    init_many out g k m =
        let l : 64 < length s.deck.inits + 1 = omega (arith, m, r) in
        came_refused (with_inits d) (init_line n cs s.deck) (ManyInitials n) out (simp (the_number, known false g, judged true k, lt-ltb 64 (length s.deck.inits + 1) l, init_line))

    pub init_fine : (h : Held) → h ≡ held_of s → false ≡ stands v states → true ≡ inside v d.vars → d.initials + 1 ≤ 64 → Came (with_inits d) (init_line n cs s.deck) (Ok (record { due = Any; used = h.used; last = h.last; covered = h.covered })) (lent d.vars (set d.inits d.initials v) (d.initials + 1) d.equations d.property d.size)
    unfolding init_line
    init_fine h e g k m =
        let D : Deck = s.deck in
        let l : length D.inits + 1 ≤ 64 = omega (arith, m, r) in
        let row : set d.inits d.initials v ≡ padded 64 (D.inits ++ (v ∷ [])) =
        ap (λ (x : List ℕ). set x d.initials v) q
        ∙ ap (λ (x : ℕ). set (padded 64 D.inits) x v) r
        ∙ padded_snoc 64 D.inits v (omega (arith, l))
        in
        let long : d.initials + 1 ≡ length (D.inits ++ (v ∷ [])) = omega (arith, r, length-append D.inits (v ∷ [])) in
        came_got (with_inits d) (init_line n cs D) (record { due = DueAny; deck = record { vars = D.vars; inits = D.inits ++ (v ∷ []); equations = D.equations; property = D.property } }) _ _
        (simp (the_number, known false g, judged true k, le-ltb 64 (length D.inits + 1) l, init_line))
        (ap (λ (x : Held). Ok (record { due = Any; used = x.used; last = x.last; covered = x.covered })) e)
        (ap (λ (x : List ℕ). lent d.vars x (d.initials + 1) d.equations d.property d.size) row ∙ ap (λ (x : ℕ). lent d.vars (padded 64 (D.inits ++ (v ∷ []))) x d.equations d.property d.size) long)

-- ---- expressions

module _ (line : List ℕ) (at n : ℕ) where
  abbrev pub ReadAs : Result Read Stop → Type 0
  ReadAs r = r ≡ step_of (length line) (read_expr 32 (drop at line))

  pub expression_deep : (i : ℕ) → ReadAs (Err (StopDeep i)) → Err (TooDeep n) ≡ said_as written_of (whole_expr n (drop at line))
  unfolding whole_expr
  expression_deep i p = ap (said_as written_of) (sym (go (read_expr 32 (drop at line)) refl p))
    where
      go : (x : Reading) → read_expr 32 (drop at line) ≡ x → Err (StopDeep i) ≡ step_of (length line) x → whole_expr n (drop at line) ≡ Refused (TooDeep n)
      go (Whole y cs) k j = cc
      go (Wrong cs) k j = cc
      go (Deep cs) k j = simp (k, whole_expr)

  pub expression_wrong : (i : ℕ) → ReadAs (Err (StopWrong i)) → Err (BadFrame 1 n) ≡ said_as written_of (whole_expr n (drop at line))
  unfolding whole_expr
  expression_wrong i p = ap (said_as written_of) (sym (go (read_expr 32 (drop at line)) refl p))
    where
      go : (x : Reading) → read_expr 32 (drop at line) ≡ x → Err (StopWrong i) ≡ step_of (length line) x → whole_expr n (drop at line) ≡ Refused (BadFrame 1 n)
      go (Whole y cs) k j = cc
      go (Wrong cs) k j = simp (k, whole_expr)
      go (Deep cs) k j = cc

  module _ (e : Read) (h : at ≤ length line) (p : ReadAs (Ok e)) where
    the_whole : (y : Expr) × (cs : List ℕ) × (read_expr 32 (drop at line) ≡ Whole y cs) × (length cs ≡ length line - e.next) × (e.next ≤ length line)
    the_whole =
        let w = whole_when (length line) e (read_expr 32 (drop at line)) p in
        let g = whole_next line at 32 e w.0 w.1 h p w.2 in
        (w.0, w.1, w.2, ap (λ (l : List ℕ). length l) g.2 ∙ length-drop e.next line, g.1)

    pub expression_behind : (e.next ≡ length line → ⊥) → Err (BadFrame 1 n) ≡ said_as written_of (whole_expr n (drop at line))
    unfolding whole_expr
    expression_behind m = let w = the_whole in ap (said_as written_of) (sym (go w.0 w.1 w.2 w.3 w.4))
      where
        go : (y : Expr) (cs : List ℕ) → read_expr 32 (drop at line) ≡ Whole y cs → length cs ≡ length line - e.next → e.next ≤ length line → whole_expr n (drop at line) ≡ Refused (BadFrame 1 n)
        go y [] i j k = absurd (m (omega (arith, j, k)))
        go y (c ∷ cs) i j k = simp (i, whole_expr)

    pub expression_fine : e.next ≡ length line → Ok e.written ≡ said_as written_of (whole_expr n (drop at line))
    unfolding whole_expr
    expression_fine m = let w = the_whole in go w.0 w.1 w.2 w.3
      where
        same : (y : Expr) (cs : List ℕ) → Ok e ≡ step_of (length line) (Whole y cs) → e.written ≡ written_of y
        same y cs q = let z : e ≡ record { written = written_of y; next = length line - length cs } = cc in ap (λ (x : Read). x.written) z

        go : (y : Expr) (cs : List ℕ) → read_expr 32 (drop at line) ≡ Whole y cs → length cs ≡ length line - e.next → Ok e.written ≡ said_as written_of (whole_expr n (drop at line))
        go y [] i j = let z : whole_expr n (drop at line) ≡ Got y = simp (i, whole_expr) in ap (λ (x : Written). Ok x) (same y [] (p ∙ ap (step_of (length line)) i)) ∙ ap (said_as written_of) (sym z)
        go y (c ∷ cs) i j = absurd (omega (arith, j, m))

-- An expression that fills the line gives its code.
pub filled : (n : ℕ) (cs : List ℕ) (e : Expr) → whole_expr n cs ≡ Got e → nodes_of (nodes e) cs ≡ code e
unfolding whole_expr
filled n cs e q = go (read_expr 32 cs) refl
  where
    go : (x : Reading) → read_expr 32 cs ≡ x → nodes_of (nodes e) cs ≡ code e
    go (Whole y []) i = let z : Got y ≡ Got e = sym (simp (i, whole_expr)) ∙ q in let w : y ≡ e = cc in subst (λ (k : Expr). nodes_of (nodes k) cs ≡ code k) w (whole-spans 32 cs y [] i).code_is
    go (Whole y (c ∷ ds)) i = let z : Refused (BadFrame 1 n) ≡ Got e = sym (simp (i, whole_expr)) ∙ q in cc
    go (Wrong ds) i = let z : Refused (BadFrame 1 n) ≡ Got e = sym (simp (i, whole_expr)) ∙ q in cc
    go (Deep ds) i = let z : Refused (TooDeep n) ≡ Got e = sym (simp (i, whole_expr)) ∙ q in cc

-- ---- 04

module _ (n : ℕ) (cs : List ℕ) (s : Sofar) (d : Stored) where
  pub property_refused : (a : Refusal) (out : Stored) → Err a ≡ said_as written_of (whole_expr n cs) → Came (with_property d) (property_line n cs s.deck) (Err a) out
  unfolding property_line
  property_refused a out w = came_refused (with_property d) (property_line n cs s.deck) a out (simp (said_refused written_of (whole_expr n cs) a w, property_line))

  module _ (f : d.vars ≡ s.deck.vars) (e : Written) (w : Ok e ≡ said_as written_of (whole_expr n cs)) where
    within : (y : Expr) → e ≡ written_of y → (b : Bool) → b ≡ inside e.vars d.vars → inside (written y) s.deck.vars ≡ b
    within y i b g = sym (g ∙ ap (λ (x : Written). inside x.vars d.vars) i ∙ ap (inside (written y)) f)

    pub property_outside : (out : Stored) → false ≡ inside e.vars d.vars → Came (with_property d) (property_line n cs s.deck) (Err (Outside 1 n)) out
    unfolding property_line
    property_outside out g = let y = said_got written_of (whole_expr n cs) e w in came_refused (with_property d) (property_line n cs s.deck) (Outside 1 n) out (simp (y.1, within y.0 y.2 false g, property_line))

    pub property_many : (out : Stored) → true ≡ inside e.vars d.vars → 128 < e.nodes → Came (with_property d) (property_line n cs s.deck) (Err (ManyNodes n)) out
    unfolding property_line
    property_many out g m =
        let y = said_got written_of (whole_expr n cs) e w in
        let l : 128 < nodes y.0 = omega (arith, m, ap (λ (x : Written). x.nodes) y.2) in
        came_refused (with_property d) (property_line n cs s.deck) (ManyNodes n) out (simp (y.1, within y.0 y.2 true g, lt-ltb 128 (nodes y.0) l, property_line))

    pub property-stored : (h : Held) (out : List ℕ) → h ≡ held_of s → true ≡ inside e.vars d.vars → e.nodes ≤ 128 → out ≡ splice 0 (nodes_of e.nodes cs) d.property → (Ok (record { due = Count; used = h.used; last = h.last; covered = h.covered }) ≡ line_of (property_line n cs s.deck)) × (d.property ≡ replicate 128 0 → Came (with_property d) (property_line n cs s.deck) (Ok (record { due = Count; used = h.used; last = h.last; covered = h.covered })) (lent d.vars d.inits d.initials d.equations out e.nodes))
    unfolding property_line
    property-stored h out i g m st =
        let D : Deck = s.deck in
        let y = said_got written_of (whole_expr n cs) e w in
        let many : e.nodes ≡ nodes y.0 = ap (λ (x : Written). x.nodes) y.2 in
        let l : nodes y.0 ≤ 128 = omega arith in
        let z : property_line n cs D ≡ Got (record { due = DueCount; deck = record { vars = D.vars; inits = D.inits; equations = D.equations; property = y.0 } }) = simp (y.1, within y.0 y.2 true g, le-ltb 128 (nodes y.0) l, property_line) in
        let said : Ok (record { due = Count; used = h.used; last = h.last; covered = h.covered }) ≡ line_of (Got (record { due = DueCount; deck = record { vars = D.vars; inits = D.inits; equations = D.equations; property = y.0 } })) = ap (λ (x : Held). Ok (record { due = Count; used = x.used; last = x.last; covered = x.covered })) i in (
          said ∙ ap line_of (sym z),
          λ zeros.
              let row : out ≡ padded 128 (code y.0) =
              st
              ∙ ap (λ (x : List ℕ). splice 0 x d.property) (ap (λ (k : ℕ). nodes_of k cs) many ∙ filled n cs y.0 y.1)
              ∙ ap (splice 0 (code y.0)) (zeros ∙ sym (padded-nil 128))
              ∙ padded-append 128 [] (code y.0)
              in
              came_got (with_property d) (property_line n cs D) _ _ _ z said
              (ap (λ (x : List ℕ). lent d.vars d.inits d.initials d.equations x e.nodes) row ∙ ap (λ (x : ℕ). lent d.vars d.inits d.initials d.equations (padded 128 (code y.0)) x) many),
        )

-- ---- one equation more

module _ (q : Equation) where
  last_more : (qs : List Equation) → last_left (qs ++ (q ∷ [])) ≡ q.left
  unfolding last_left
  last_more [] = refl
  last_more (x ∷ []) = refl
  last_more (x ∷ y ∷ xs) = last_more (y ∷ xs)

-- ---- 03 judged

equation_is : (n : ℕ) (cs : List ℕ) (d : Deck) → equation_line n cs d ≡ refuse (not (ltb (kind_of cs) 64)) (BadFrame 1 n) (refuse (ltb (kind_of cs) (last_left d.equations)) (BadFrame 1 n) (afterwards (whole_expr n (drop 2 cs)) (λ e. with_equation n d (record { left = kind_of cs; right = e }))))
unfolding equation_line kind_of
equation_is n [] d = refl
equation_is n (c ∷ []) d = refl
equation_is n (c ∷ e ∷ cs) d = refl

-- The deck with one equation more.
abbrev added : Deck → Equation → Sofar
added d q = record { due = DueEquation; deck = record { vars = d.vars; inits = d.inits; equations = d.equations ++ (q ∷ []); property = d.property } }

with_got : (n : ℕ) (d : Deck) (q : Equation) (t : Sofar) → with_equation n d q ≡ Got t → t ≡ added d q
unfolding with_equation
with_got n d q t e =
    let r4 : Outcome Sofar = refuse (ltb 2048 (total_nodes d.equations + nodes q.right)) (ManyNodes n) (Got (added d q)) in
    let r3 : Outcome Sofar = refuse (ltb 256 (length d.equations + 1)) (ManyEquations n) r4 in
    let r2 : Outcome Sofar = refuse (temporal q.right) (Temporal n) r3 in
    let r1 : Outcome Sofar = refuse (not (inside (written q.right) d.vars)) (Outside 1 n) r2 in
    let e1 : r1 ≡ Got t = refuse_got (not (has d.vars q.left)) (Outside 1 n) r1 t e in
    let e2 : r2 ≡ Got t = refuse_got (not (inside (written q.right) d.vars)) (Outside 1 n) r2 t e1 in
    let e3 : r3 ≡ Got t = refuse_got (temporal q.right) (Temporal n) r3 t e2 in
    let e4 : r4 ≡ Got t = refuse_got (ltb 256 (length d.equations + 1)) (ManyEquations n) r4 t e3 in
    let e5 : Got (added d q) ≡ Got t = refuse_got (ltb 2048 (total_nodes d.equations + nodes q.right)) (ManyNodes n) (Got (added d q)) t e4 in
    sym (got_eq e5)

module _ (n v : ℕ) (h : Held) (s : Sofar) (e : Written) (x : Expr) (vars count : ℕ) (i : h ≡ held_of s) (a : vars ≡ s.deck.vars) (b : count ≡ length s.deck.equations) (p : e ≡ written_of x) where
  abbrev the_equation : Equation
  the_equation = record { left = v; right = x }

  left_as : (m : Bool) → m ≡ has vars v → has s.deck.vars v ≡ m
  left_as m g = sym (g ∙ ap (λ (y : ℕ). has y v) a)

  vars_as : (m : Bool) → m ≡ inside e.vars vars → inside (written x) s.deck.vars ≡ m
  vars_as m g = sym (g ∙ ap (λ (y : Written). inside y.vars vars) p ∙ ap (inside (written x)) a)

  temporal_as : (m : Bool) → e.temporal ≡ m → temporal x ≡ m
  temporal_as m g = sym (ap (λ (y : Written). y.temporal) p) ∙ g

  refused_line : (z : Refusal) → with_equation n s.deck the_equation ≡ Refused z → Err z ≡ line_of (with_equation n s.deck the_equation)
  refused_line z w = ap line_of (sym w)

  pub equation_left : false ≡ has vars v → Err (Outside 1 n) ≡ line_of (with_equation n s.deck (record { left = v; right = x }))
  unfolding with_equation
  equation_left m = refused_line (Outside 1 n) (simp (left_as false m, with_equation))

  module _ (m : true ≡ has vars v) where
    pub equation_vars : false ≡ inside e.vars vars → Err (Outside 1 n) ≡ line_of (with_equation n s.deck (record { left = v; right = x }))
    unfolding with_equation
    equation_vars g = refused_line (Outside 1 n) (simp (left_as true m, vars_as false g, with_equation))

    module _ (g : true ≡ inside e.vars vars) where
      pub equation_temporal : e.temporal ≡ true → Err (Temporal n) ≡ line_of (with_equation n s.deck (record { left = v; right = x }))
      unfolding with_equation
      equation_temporal c = refused_line (Temporal n) (simp (left_as true m, vars_as true g, temporal_as true c, with_equation))

      module _ (c : e.temporal ≡ false) where
        pub equation_many : 256 < count + 1 → Err (ManyEquations n) ≡ line_of (with_equation n s.deck (record { left = v; right = x }))
        unfolding with_equation
        equation_many d =
            let many : 256 < length s.deck.equations + 1 = omega arith in
            refused_line (ManyEquations n) (simp (left_as true m, vars_as true g, temporal_as false c, lt-ltb 256 (length s.deck.equations + 1) many, with_equation))

        module _ (d : count + 1 ≤ 256) where
          few : length s.deck.equations + 1 ≤ 256
          few = omega arith

          own : e.nodes ≡ nodes x
          own = ap (λ (y : Written). y.nodes) p

          before : h.used ≡ total_nodes s.deck.equations
          before = ap (λ (y : Held). y.used) i

          pub equation_nodes_lem : 2048 < h.used + e.nodes → Err (ManyNodes n) ≡ line_of (with_equation n s.deck (record { left = v; right = x }))
          unfolding with_equation
          equation_nodes_lem k =
              let large : 2048 < total_nodes s.deck.equations + nodes x = omega (arith, own, before) in
              refused_line (ManyNodes n) (simp (left_as true m, vars_as true g, temporal_as false c, le-ltb 256 (length s.deck.equations + 1) few, lt-ltb 2048 (total_nodes s.deck.equations + nodes x) large, with_equation))

          pub equation_taken : (only-v w : ℕ) → v < 64 → h.used + e.nodes ≤ 2048 → only-v ≡ only v % 2 ^ 64 → w ≡ union h.covered only-v → Ok (record { due = EquationKind; used = h.used + e.nodes; last = v; covered = w }) ≡ line_of (with_equation n s.deck (record { left = v; right = x }))
          unfolding with_equation
          equation_taken only-v w l k z j =
              let D : Deck = s.deck in
              let small : total_nodes D.equations + nodes x ≤ 2048 = omega (arith, own, before) in
              let got : with_equation n D the_equation ≡ Got (added D the_equation) = simp (left_as true m, vars_as true g, temporal_as false c, le-ltb 256 (length D.equations + 1) few, le-ltb 2048 (total_nodes D.equations + nodes x) small, with_equation) in
              let used : h.used + e.nodes ≡ total_nodes (D.equations ++ (the_equation ∷ [])) = omega (arith, own, before, total_more the_equation D.equations) in
              let last : v ≡ last_left (D.equations ++ (the_equation ∷ [])) = sym (last_more the_equation D.equations) in
              let covered : w ≡ left_set (D.equations ++ (the_equation ∷ [])) = j ∙ ap (union h.covered) (only-within v only-v z l) ∙ ap (λ (y : Held). union y.covered (only v)) i ∙ sym (left_more the_equation D.equations) in
              ap (λ (y : ℕ). Ok (record { due = EquationKind; used = y; last = v; covered = w })) used
              ∙ ap (λ (y : ℕ). Ok (record { due = EquationKind; used = total_nodes (D.equations ++ (the_equation ∷ [])); last = y; covered = w })) last
              ∙ ap (λ (y : ℕ). Ok (record { due = EquationKind; used = total_nodes (D.equations ++ (the_equation ∷ [])); last = last_left (D.equations ++ (the_equation ∷ [])); covered = y })) covered
              ∙ ap line_of (sym got)

-- ---- 03 read and stored

-- A variable's pair stands within the line.
pub variable-within : (line : List ℕ) (v : ℕ) → Some v ≡ pair_read (kind_of (drop 2 line)) → 4 ≤ length line
variable-within line v q = let p = some_below 256 (kind_of (drop 2 line)) v q in pair_inside line 2 (kind_of (drop 2 line)) refl p.0

module _ (line : List ℕ) (n v : ℕ) (h : Held) (s : Sofar) (d : Stored) where
  pub equation_none : None ≡ pair_read (kind_of (drop 2 line)) → (out : Stored) → Came (with_equations d) (equation_line n (drop 2 line) s.deck) (Err (BadFrame 1 n)) out
  equation_none e out =
      let w : 64 ≤ kind_of (drop 2 line) = omega (arith, none_below 256 (kind_of (drop 2 line)) e) in
      came_refused (with_equations d) (equation_line n (drop 2 line) s.deck) (BadFrame 1 n) out (equation_is n (drop 2 line) s.deck ∙ simp (le-ltb (kind_of (drop 2 line)) 64 w))

  module _ (q : Some v ≡ pair_read (kind_of (drop 2 line))) where
    pair_is : v ≡ kind_of (drop 2 line)
    pair_is = (some_below 256 (kind_of (drop 2 line)) v q).1

    pub equation_high : 64 ≤ v → (out : Stored) → Came (with_equations d) (equation_line n (drop 2 line) s.deck) (Err (BadFrame 1 n)) out
    equation_high k out = came_refused (with_equations d) (equation_line n (drop 2 line) s.deck) (BadFrame 1 n) out (equation_is n (drop 2 line) s.deck ∙ simp (le-ltb (kind_of (drop 2 line)) 64 (rw (← pair_is) k)))

    pub equation_falls : h ≡ held_of s → v < 64 → v < h.last → (out : Stored) → Came (with_equations d) (equation_line n (drop 2 line) s.deck) (Err (BadFrame 1 n)) out
    equation_falls i k l out =
        let w : kind_of (drop 2 line) < last_left s.deck.equations = omega (arith, l, pair_is, ap (λ (y : Held). y.last) i) in
        came_refused (with_equations d) (equation_line n (drop 2 line) s.deck) (BadFrame 1 n) out (equation_is n (drop 2 line) s.deck ∙ simp (lt-ltb (kind_of (drop 2 line)) 64 (rw (← pair_is) k), lt-ltb (kind_of (drop 2 line)) (last_left s.deck.equations) w))

    rises : h ≡ held_of s → v < 64 → h.last ≤ v → equation_line n (drop 2 line) s.deck ≡ afterwards (whole_expr n (drop 4 line)) (λ e. with_equation n s.deck (record { left = v; right = e }))
    rises i k l =
        let w : last_left s.deck.equations ≤ kind_of (drop 2 line) = omega (arith, l, pair_is, ap (λ (y : Held). y.last) i) in
        let z : equation_line n (drop 2 line) s.deck ≡ afterwards (whole_expr n (drop 2 (drop 2 line))) (λ e. with_equation n s.deck (record { left = kind_of (drop 2 line); right = e })) =
        equation_is n (drop 2 line) s.deck ∙ simp (lt-ltb (kind_of (drop 2 line)) 64 (rw (← pair_is) k), le-ltb (kind_of (drop 2 line)) (last_left s.deck.equations) w)
        in
        z
        ∙ ap (λ (l : List ℕ). afterwards (whole_expr n l) (λ e. with_equation n s.deck (record { left = kind_of (drop 2 line); right = e }))) (drop-drop 2 2 line)
        ∙ ap (λ (k : ℕ). afterwards (whole_expr n (drop 4 line)) (λ e. with_equation n s.deck (record { left = k; right = e }))) (sym pair_is)

    module _ (i : h ≡ held_of s) (k : v < 64) (l : h.last ≤ v) where
      pub equation_refused : (a : Refusal) → Err a ≡ said_as written_of (whole_expr n (drop 4 line)) → (out : Stored) → Came (with_equations d) (equation_line n (drop 2 line) s.deck) (Err a) out
      equation_refused a w out =
          came_refused (with_equations d) (equation_line n (drop 2 line) s.deck) a out
          (rises i k l ∙ ap (λ (o : Outcome Expr). afterwards o (λ e. with_equation n s.deck (record { left = v; right = e }))) (said_refused written_of (whole_expr n (drop 4 line)) a w))

      module _ (e : Written) (w : Ok e ≡ said_as written_of (whole_expr n (drop 4 line))) where
        the_expr : (x : Expr) × (whole_expr n (drop 4 line) ≡ Got x) × (e ≡ written_of x)
        the_expr = said_got written_of (whole_expr n (drop 4 line)) e w

        passed : (x : Expr) → whole_expr n (drop 4 line) ≡ Got x → equation_line n (drop 2 line) s.deck ≡ with_equation n s.deck (record { left = v; right = x })
        passed x y = rises i k l ∙ ap (λ (o : Outcome Expr). afterwards o (λ e. with_equation n s.deck (record { left = v; right = e }))) y

        -- What the judge of 03 promises of a result, at what was read.
        abbrev pub Judged : ℕ → ℕ → Result Held Refusal → Type 0
        Judged vars count r = (s : Sofar) (x : Expr) → h ≡ held_of s → vars ≡ s.deck.vars → count ≡ length s.deck.equations → e ≡ written_of x → r ≡ line_of (with_equation n s.deck (record { left = v; right = x }))

        module _ (f : d.vars ≡ s.deck.vars) (hold : Hold s.deck.equations d.equations) where
          pub equation_judged_not : (a : Refusal) (out : Stored) → Judged d.vars d.equations.count (Err a) → Came (with_equations d) (equation_line n (drop 2 line) s.deck) (Err a) out
          equation_judged_not a out j =
              let x = the_expr in
              let z = j s x.0 i f hold.count_is x.2 in
              came_refused (with_equations d) (equation_line n (drop 2 line) s.deck) a out (passed x.0 x.1 ∙ said_refused held_of (with_equation n s.deck (record { left = v; right = x.0 })) a z)

          pub equation_stored : (r : Held) (out : List ℕ) → Kept line 4 h.used e.nodes d.equations.nodes out → Judged d.vars d.equations.count (Ok r) → Room v h e d r → Came (with_equations d) (equation_line n (drop 2 line) s.deck) (Ok r) (lent d.vars d.inits d.initials (record { count = d.equations.count + 1; lefts = set d.equations.lefts d.equations.count v; ends = set d.equations.ends d.equations.count r.used; nodes = out }) d.property d.size)
          equation_stored r out kept j room =
              let x = the_expr in
              let D : Deck = s.deck in
              let qs : List Equation = D.equations in
              let q : Equation = record { left = v; right = x.0 } in
              let got = said_got held_of (with_equation n D q) r (j s x.0 i f hold.count_is x.2) in
              let t : got.0 ≡ added D q = with_got n D q got.0 got.1 in
              let before : h.used ≡ total_nodes qs = ap (λ (y : Held). y.used) i in
              let own : e.nodes ≡ nodes x.0 = ap (λ (y : Written). y.nodes) x.2 in
              let used : r.used ≡ total_nodes qs + nodes x.0 = omega (arith, room.used_is, before, own) in
              let more = equations_more qs q d.equations.lefts d.equations.ends d.equations.nodes d.equations.count (omega (arith, room.few, hold.count_is)) hold in
              let lefts : set d.equations.lefts d.equations.count v ≡ (stored_equations (qs ++ (q ∷ []))).lefts = ap (λ (y : ℕ). set d.equations.lefts y v) hold.count_is ∙ more.lefts_are in
              let ends : set d.equations.ends d.equations.count r.used ≡ (stored_equations (qs ++ (q ∷ []))).ends =
              ap (λ (y : ℕ). set d.equations.ends y r.used) hold.count_is ∙ ap (set d.equations.ends (length qs)) used ∙ more.ends_are
              in
              let rows : out ≡ (stored_equations (qs ++ (q ∷ []))).nodes =
              kept.nodes_are (omega (arith, room.used_is, room.most, ap (λ (y : List ℕ). length y) hold.nodes_are, padded-long 2048 (codes qs)))
              ∙ ap (λ (y : ℕ). splice y (nodes_of e.nodes (drop 4 line)) d.equations.nodes) before
              ∙ ap (λ (y : List ℕ). splice (total_nodes qs) y d.equations.nodes) (ap (λ (y : ℕ). nodes_of y (drop 4 line)) own ∙ filled n (drop 4 line) x.0 x.1)
              ∙ more.nodes_are
              in
              let count : d.equations.count + 1 ≡ length (qs ++ (q ∷ [])) = omega (arith, hold.count_is, length-append qs (q ∷ [])) in
              came_got (with_equations d) (equation_line n (drop 2 line) D) (added D q) _ _
              (passed x.0 x.1 ∙ got.1 ∙ ap (λ (y : Sofar). Got y) t)
              (ap (λ (y : Held). Ok y) got.2 ∙ ap (λ (y : Sofar). Ok (held_of y)) t)
              (ap (λ (y : List ℕ). lent d.vars d.inits d.initials (record { count = d.equations.count + 1; lefts = y; ends = set d.equations.ends d.equations.count r.used; nodes = out }) d.property d.size) lefts
              ∙ ap (λ (y : List ℕ). lent d.vars d.inits d.initials (record { count = d.equations.count + 1; lefts = (stored_equations (qs ++ (q ∷ []))).lefts; ends = y; nodes = out }) d.property d.size) ends
              ∙ ap (λ (y : List ℕ). lent d.vars d.inits d.initials (record { count = d.equations.count + 1; lefts = (stored_equations (qs ++ (q ∷ []))).lefts; ends = (stored_equations (qs ++ (q ∷ []))).ends; nodes = y }) d.property d.size) rows
              ∙ ap (λ (y : ℕ). lent d.vars d.inits d.initials (record { count = y; lefts = (stored_equations (qs ++ (q ∷ []))).lefts; ends = (stored_equations (qs ++ (q ∷ []))).ends; nodes = (stored_equations (qs ++ (q ∷ []))).nodes }) d.property d.size) count)
