-- A written accepted deck, line by line: each line is read as the part of the deck that it was written from.
use mathlib.Core.Path.{◌≡◌, refl, sym, ap, ◌∙◌, subst}
use mathlib.Core.Logic.{inl}
use mathlib.Core.Bool.{Bool, true, false, not}
use mathlib.Core.List.{List, [], ◌∷◌, ◌++◌, append_assoc, append-nil}
use Prim.Native.Nat.{ℕ, suc, ◌+◌, ◌<◌, ◌≤◌}
use native.Mathlib.Omega.{arith}
use borrow.Author.Tests.{lt-ltb, le-ltb}
use lib.ListN.{length, length-append}
use Rattle.lists.specs.Lists.{◌among◌, Distinct}
use Rattle.lists.proofs.Laws.{each_at, among_right, stands_false, distinct_before}
use Rattle.sets.specs.Sets.{◌⊆◌}
use Rattle.sets.proofs.Laws.{has_true, inside_true, member_lt, subset_lt}
use Rattle.logic.specs.Expressions.{Const, nodes, written}
use Rattle.logic.specs.Decks.{Equation, Deck, Accepted, Allowed, Rising, base, total_nodes}
use Rattle.logic.proofs.Codes.{written_below}
use Rattle.decks.specs.declared.Refusal.TheVariants.{BadFrame}
use Rattle.decks.specs.Answers.{Got, refuse}
use Rattle.frames.specs.Hex.{pairs}
use Rattle.frames.specs.Written.{set_bytes, set_kind, init_kind, equation_kind, property_kind, count_kind}
use Rattle.frames.specs.Read.{Due, DueInit, DueAny, DueEquation, DueCount, DueNone, Sofar, begun, set_line, init_line, last_left, with_equation, equation_line, property_line, permits, frame_line, deck_line}
use Rattle.decks.specs.Readings.{walk}
use Rattle.frames.proofs.HexLaws.{byte_pair}
use Rattle.frames.proofs.LineLaws.{line, kind_line, state_lines, whole-number-pairs, whole_expr_pairs, count_line_pairs}
use Rattle.decks.proofs.Outcomes.{walk_got}
use Rattle.frames.proofs.DeckLaws.{rising-before, equation_content, equation_lines, property_content, property_of, count_content, count_of, deck_lines}
use Rattle.logic.proofs.Rights.{plain-temporal, total_append}

-- What the lines so far came to.
abbrev pub sofar : Due → Deck → Sofar
sofar u d = record { due = u; deck = d }

-- A frame of a kind that is due.
frame-due : (k n : ℕ) (cs : List ℕ) (s : Sofar) → k < 256 → permits s.due k ≡ true → deck_line n (line k cs) s ≡ frame_line k n cs s.deck
unfolding deck_line
frame-due k n cs s h p =
    ap (λ (x : ℕ). refuse (not (permits s.due x)) (BadFrame 1 n) (frame_line x n cs s.deck)) (kind_line k cs h)
    ∙ ap (λ (b : Bool). refuse (not b) (BadFrame 1 n) (frame_line k n cs s.deck)) p

module _ (d : Deck) (ok : Accepted base d) where
  -- The deck with some of its initial states and equations, before its property.
  abbrev partly : List ℕ → List Equation → Deck
  partly ss qs = record { vars = d.vars; inits = ss; equations = qs; property = Const false }

  set_read : (n : ℕ) → deck_line n (line set_kind (pairs set_bytes d.vars)) begun ≡ Got (sofar DueInit (partly [] []))
  unfolding frame_line set_line
  set_read n = frame-due set_kind n (pairs set_bytes d.vars) begun (omega arith) refl ∙ simp (whole-number-pairs 1 n set_bytes d.vars ok.vars_in)

  init_read : (n : ℕ) (u : Due) (past : List ℕ) (s : ℕ) (rest : List ℕ)
      → permits u init_kind ≡ true
      → past ++ s ∷ rest ≡ d.inits
      → deck_line n (line init_kind (pairs set_bytes s)) (sofar u (partly past [])) ≡ Got (sofar DueAny (partly (past ++ s ∷ []) []))
  unfolding frame_line init_line
  init_read n u past s rest p e =
      let within : s ⊆ d.vars = each_at (λ t. t ⊆ d.vars) d.inits s ok.inits_in (subst (λ (l : List ℕ). s among l) e (among_right past (s ∷ rest) s (inl refl))) in
      let new : s among past → ⊥ = distinct_before past s rest (subst Distinct (sym e) ok.inits_distinct) in
      let most : length past + 1 ≤ base.initials = omega (arith, ap length e, length-append past (s ∷ rest), ok.inits-most) in
      frame-due init_kind n (pairs set_bytes s) (sofar u (partly past [])) (omega arith) p
      ∙ simp (
        whole-number-pairs 1 n set_bytes s (subset_lt base.variables s d.vars within ok.vars_in),
        stands_false s past new,
        inside_true s d.vars within,
        le-ltb base.initials (length past + 1) most,
      )

  equation_read : (n : ℕ) (u : Due) (past : List Equation) (q : Equation) (rest : List Equation)
      → permits u equation_kind ≡ true
      → past ++ q ∷ rest ≡ d.equations
      → deck_line n (line equation_kind (equation_content q)) (sofar u (partly d.inits past)) ≡ Got (sofar DueEquation (partly d.inits (past ++ q ∷ [])))
  unfolding frame_line equation_line with_equation total_nodes
  equation_read n u past q rest p e =
      let fine : Allowed base d.vars q = each_at (Allowed base d.vars) d.equations q ok.equations-allowed (subst (λ (l : List Equation). q among l) e (among_right past (q ∷ rest) q (inl refl))) in
      let below : q.left < base.variables = member_lt base.variables d.vars q.left ok.vars_in fine.its in
      let rises : last_left past ≤ q.left = rising-before past q rest (subst Rising (sym e) ok.equations_rise) in
      let most : length past + 1 ≤ base.equations = omega (arith, ap length e, length-append past (q ∷ rest), ok.equations-most) in
      let sum : total_nodes past + nodes q.right ≤ base.equation_nodes = omega (arith, ap total_nodes e, total_append past (q ∷ rest), ok.equations-nodes) in
      frame-due equation_kind n (equation_content q) (sofar u (partly d.inits past)) (omega arith) p
      ∙ simp (
        byte_pair q.left (omega arith),
        lt-ltb q.left base.variables below,
        le-ltb q.left (last_left past) rises,
        whole_expr_pairs n q.right fine.shallow (written_below 64 d.vars q.right ok.vars_in fine.uses),
        has_true d.vars q.left fine.its,
        inside_true (written q.right) d.vars fine.uses,
        plain-temporal q.right fine.plain,
        le-ltb base.equations (length past + 1) most,
        le-ltb base.equation_nodes (total_nodes past + nodes q.right) sum,
      )

  property_read : (n : ℕ) (u : Due) → permits u property_kind ≡ true → deck_line n (property_of d) (sofar u (partly d.inits d.equations)) ≡ Got (sofar DueCount d)
  unfolding frame_line property_line
  property_read n u p =
      frame-due property_kind n (property_content d) (sofar u (partly d.inits d.equations)) (omega arith) p
      ∙ simp (
        whole_expr_pairs n d.property ok.property-levels (written_below 64 d.vars d.property ok.vars_in ok.property_in),
        inside_true (written d.property) d.vars ok.property_in,
        le-ltb base.property_nodes (nodes d.property) ok.property-nodes,
      )

  count_read : (n : ℕ) → n ≡ length d.inits + length d.equations + 3 → deck_line n (count_of d) (sofar DueCount d) ≡ Got (sofar DueNone d)
  unfolding frame_line
  count_read n e =
      frame-due count_kind n (count_content d) (sofar DueCount d) (omega arith) refl
      ∙ count_line_pairs 1 n (length d.inits + length d.equations + 2) (sofar DueNone d) (omega (arith, ok.inits-most, ok.equations-most)) (omega arith)

  -- An equation or the property is due.
  abbrev Open : Due → Type 0
  Open u = (permits u equation_kind ≡ true) × (permits u property_kind ≡ true)

  last_walk : (n : ℕ) (u : Due)
      → Open u
      → n ≡ length d.inits + length d.equations + 2
      → walk deck_line n (property_of d ∷ count_of d ∷ []) (sofar u (partly d.inits d.equations)) ≡ Got (sofar DueNone d)
  unfolding walk
  last_walk n u o e =
      walk_got deck_line n (property_of d) (count_of d ∷ []) _ _ (property_read n u o.1) ∙ walk_got deck_line (suc n) (count_of d) [] _ _ (count_read (suc n) (omega arith))

  equations-walk : (qs past : List Equation) (n : ℕ) (u : Due)
      → Open u
      → past ++ qs ≡ d.equations
      → n ≡ length d.inits + length past + 2
      → walk deck_line n (equation_lines qs ++ (property_of d ∷ count_of d ∷ [])) (sofar u (partly d.inits past)) ≡ Got (sofar DueNone d)
  equations-walk [] past n u o e m =
      let all : past ≡ d.equations = sym (append-nil past) ∙ e in
      ap (λ (qs : List Equation). walk deck_line n (property_of d ∷ count_of d ∷ []) (sofar u (partly d.inits qs))) all ∙ last_walk n u o (omega (arith, ap length all))
  equations-walk (q ∷ qs) past n u o e m =
      walk_got deck_line n (line equation_kind (equation_content q)) (equation_lines qs ++ (property_of d ∷ count_of d ∷ [])) _ _ (equation_read n u past q qs o.0 e)
      ∙ equations-walk qs (past ++ q ∷ []) (suc n) DueEquation (refl, refl) (append_assoc past (q ∷ []) qs ∙ e) (omega (arith, length-append past (q ∷ [])))

  inits-walk : (ss past : List ℕ) (n : ℕ)
      → past ++ ss ≡ d.inits
      → n ≡ length past + 2
      → walk deck_line n (state_lines init_kind ss ++ (equation_lines d.equations ++ (property_of d ∷ count_of d ∷ []))) (sofar DueAny (partly past [])) ≡ Got (sofar DueNone d)
  inits-walk [] past n e m =
      let all : past ≡ d.inits = sym (append-nil past) ∙ e in
      ap (λ (ss : List ℕ). walk deck_line n (equation_lines d.equations ++ (property_of d ∷ count_of d ∷ [])) (sofar DueAny (partly ss []))) all
      ∙ equations-walk d.equations [] n DueAny (refl, refl) refl (omega (arith, ap length all))
  inits-walk (s ∷ ss) past n e m =
      walk_got deck_line n (line init_kind (pairs set_bytes s)) _ _ _ (init_read n DueAny past s ss refl e)
      ∙ inits-walk ss (past ++ s ∷ []) (suc n) (append_assoc past (s ∷ []) ss ∙ e) (omega (arith, length-append past (s ∷ [])))

  first_walk : (ss : List ℕ)
      → ss ≡ d.inits
      → walk deck_line 2 (state_lines init_kind ss ++ (equation_lines d.equations ++ (property_of d ∷ count_of d ∷ []))) (sofar DueInit (partly [] [])) ≡ Got (sofar DueNone d)
  first_walk [] e = absurd (omega (arith, ap length e, ok.inits-some))
  first_walk (s ∷ ss) e = walk_got deck_line 2 (line init_kind (pairs set_bytes s)) _ _ _ (init_read 2 DueInit [] s ss refl e) ∙ inits-walk ss (s ∷ []) 3 e refl

  -- The lines of an accepted deck come to that deck.
  pub deck-walk : walk deck_line 1 (deck_lines d) begun ≡ Got (sofar DueNone d)
  deck-walk =
      walk_got deck_line 1 (line set_kind (pairs set_bytes d.vars)) _ _ _ (set_read 1)
      ∙ ap
      (λ (ls : List (List ℕ)). walk deck_line 2 ls (sofar DueInit (partly [] [])))
      (append_assoc (state_lines init_kind d.inits) (equation_lines d.equations) (property_of d ∷ count_of d ∷ []))
      ∙ first_walk d.inits refl
