-- Every refusal of a deck of frames has a number, and names a text and a place within it.
use mathlib.Core.Bool.{not}
use mathlib.Core.List.{List, [], ◌∷◌}
use Prim.Native.Nat.{ℕ, ◌+◌, ◌≤◌}
use native.Mathlib.Omega.{arith}
use lib.Dec.{ltb, eqb, lit≤}
use lib.ListN.{length, drop}
use Rattle.lists.specs.Lists.{stands, ended, unended}
use Rattle.sets.specs.Sets.{has, inside}
use Rattle.logic.specs.Expressions.{Expr, nodes, written, temporal}
use Rattle.logic.specs.Decks.{Equation, Deck, base, total_nodes}
use Rattle.decks.specs.declared.Refusal.TheVariants.{Outside, Temporal, TooDeep, ManyInitials, ManyEquations, ManyNodes, BadFrame}
use Rattle.decks.specs.Answers.{Outcome, Got, Refused}
use Rattle.decks.specs.Readings.{Reading, Whole, Wrong, Deep, walk, complete}
use Rattle.frames.specs.Hex.{byte_of}
use Rattle.frames.specs.Written.{set_bytes, set_kind, init_kind, equation_kind, property_kind}
use Rattle.frames.specs.Read.{read_expr, whole_expr, whole_number, kind_of, Due, DueSet, DueInit, DueAny, DueEquation, DueCount, DueNone, Sofar, begun, set_line, init_line, last_left, with_equation, equation_line, property_line, permits, frame_line, deck_line, deck_end, read_deck}
use Rattle.checking.proofs.Numbered.{farthest, Numbered, refuse-numbered, afterwards-numbered, text-numbered, walk-numbered}
use Rattle.checking.proofs.NumberedClaims.{lines_few, either_numbered, number-numbered, count-numbered}
use Rattle.station.proofs.NumberedDecks.{complete-numbered}

module _ (n : ℕ) (h : n ≤ farthest) where
  -- Line n is not as it has to be.
  one : (1 ≤ 2) × (n ≤ farthest)
  one = (lit≤ tt, h)

  expr_numbered : (cs : List ℕ) → Numbered (whole_expr n cs)
  unfolding whole_expr
  expr_numbered cs = go (read_expr base.levels cs)
    where
      go : (r : Reading) → Numbered {A = Expr} (elim r [ Whole e [] ↦ Got e | Whole e (c ∷ rs) ↦ Refused (BadFrame 1 n) | Wrong rs ↦ Refused (BadFrame 1 n) | Deep rs ↦ Refused (TooDeep n) ])
      go (Whole e []) = tt
      go (Whole e (c ∷ rs)) = one
      go (Wrong rs) = one
      go (Deep rs) = h

  set-numbered : (cs : List ℕ) (d : Deck) → Numbered (set_line n cs d)
  unfolding set_line
  set-numbered cs d = afterwards-numbered (whole_number 1 n set_bytes cs) _ (number-numbered n 1 one set_bytes cs) (λ v. tt)

  init_numbered : (cs : List ℕ) (d : Deck) → Numbered (init_line n cs d)
  unfolding init_line
  init_numbered cs d =
      afterwards-numbered (whole_number 1 n set_bytes cs) _ (number-numbered n 1 one set_bytes cs)
      (λ s.
      refuse-numbered (stands s d.inits) (BadFrame 1 n) _ one
      (refuse-numbered (not (inside s d.vars)) (Outside 1 n) _ one
      (refuse-numbered (ltb base.initials (length d.inits + 1)) (ManyInitials n) _ h tt)))

  with_equation_numbered : (d : Deck) (q : Equation) → Numbered (with_equation n d q)
  unfolding with_equation
  with_equation_numbered d q =
      refuse-numbered (not (has d.vars q.left)) (Outside 1 n) _ one
      (refuse-numbered (not (inside (written q.right) d.vars)) (Outside 1 n) _ one
      (refuse-numbered (temporal q.right) (Temporal n) _ h
      (refuse-numbered (ltb base.equations (length d.equations + 1)) (ManyEquations n) _ h
      (refuse-numbered (ltb base.equation_nodes (total_nodes d.equations + nodes q.right)) (ManyNodes n) _ h tt))))

  equation_numbered : (cs : List ℕ) (d : Deck) → Numbered (equation_line n cs d)
  unfolding equation_line
  equation_numbered [] d = one
  equation_numbered (x ∷ []) d = one
  equation_numbered (x ∷ y ∷ cs) d =
      refuse-numbered (not (ltb (byte_of x y) base.variables)) (BadFrame 1 n) _ one
      (refuse-numbered (ltb (byte_of x y) (last_left d.equations)) (BadFrame 1 n) _ one
      (afterwards-numbered (whole_expr n cs) _ (expr_numbered cs) (λ e. with_equation_numbered d (record { left = byte_of x y; right = e }))))

  property-numbered : (cs : List ℕ) (d : Deck) → Numbered (property_line n cs d)
  unfolding property_line
  property-numbered cs d =
      afterwards-numbered (whole_expr n cs) _ (expr_numbered cs)
      (λ e.
      refuse-numbered (not (inside (written e) d.vars)) (Outside 1 n) _ one
      (refuse-numbered (ltb base.property_nodes (nodes e)) (ManyNodes n) _ h tt))

  frame-numbered : (k : ℕ) (cs : List ℕ) (d : Deck) → Numbered (frame_line k n cs d)
  unfolding frame_line
  frame-numbered k cs d =
      either_numbered (eqb k set_kind) (set_line n cs d) _ (set-numbered cs d)
      (either_numbered (eqb k init_kind) (init_line n cs d) _ (init_numbered cs d)
      (either_numbered (eqb k equation_kind) (equation_line n cs d) _ (equation_numbered cs d)
      (either_numbered (eqb k property_kind) (property_line n cs d) _ (property-numbered cs d) (count-numbered n 1 one cs (record { due = DueNone; deck = d })))))

  deck_line_numbered : (l : List ℕ) (s : Sofar) → Numbered (deck_line n l s)
  unfolding deck_line
  deck_line_numbered l s = refuse-numbered (not (permits s.due (kind_of l))) (BadFrame 1 n) _ one (frame-numbered (kind_of l) (drop 2 l) s.deck)

deck_end_numbered : (cs : List ℕ) (s : Sofar) → Numbered (deck_end cs s)
unfolding deck_end
deck_end_numbered [] s = go s.due
  where
    early : Outcome Deck
    early = Refused (BadFrame 1 0)

    go : (u : Due) → Numbered {A = Deck} (elim u [ DueSet ↦ early | DueInit ↦ early | DueAny ↦ early | DueEquation ↦ early | DueCount ↦ early | DueNone ↦ complete s.deck ])
    go DueSet = one 0 (lit≤ tt)
    go DueInit = one 0 (lit≤ tt)
    go DueAny = one 0 (lit≤ tt)
    go DueEquation = one 0 (lit≤ tt)
    go DueCount = one 0 (lit≤ tt)
    go DueNone = complete-numbered s.deck
deck_end_numbered (c ∷ cs) s = one 0 (lit≤ tt)

pub deck-numbered : (text : List ℕ) → Numbered (read_deck text)
unfolding read_deck
deck-numbered text =
    text-numbered 1 text _ (lit≤ tt)
    (λ short.
    afterwards-numbered (walk deck_line 1 (ended text) begun) _
    (walk-numbered deck_line (λ n l s h. deck_line_numbered n h l s) 1 (ended text) begun (omega (arith, short, lines_few text)))
    (λ s. deck_end_numbered (unended text) s))
