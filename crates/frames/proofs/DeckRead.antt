-- A deck as it is read, line by line: the lines so far are those of the deck in hand, and it keeps the rules so far.
use mathlib.Core.Path.{◌≡◌, refl, sym, ap, ap₂, ◌∙◌, subst}
use mathlib.Core.Logic.{◌⊎◌, inl, inr, ⊎_elim}
use mathlib.Core.Bool.{Bool, true, false, ◌||◌}
use mathlib.Core.List.{List, [], ◌∷◌, ◌++◌, append_assoc, append-nil, map-append}
use Prim.Native.Nat.{ℕ, suc, ◌+◌, ◌^◌, ◌<◌, ◌≤◌}
use native.Mathlib.Omega.{arith}
use borrow.Author.Tests.{ltb-true, ltb-false, eqb-true}
use lib.Dec.{ltb, eqb}
use lib.ListN.{length, drop, length-append}
use Rattle.lists.specs.Lists.{Each, ◌among◌, Distinct, stands, joined, ended, unended}
use Rattle.lists.proofs.Laws.{each_append, false_stands, distinct_snoc, joined-ended}
use Rattle.sets.specs.Sets.{◌⊆◌, has, inside}
use Rattle.sets.proofs.Laws.{true_has, true_inside}
use Rattle.logic.specs.Expressions.{nodes, levels, written, temporal, code}
use Rattle.logic.specs.Decks.{Equation, Deck, Accepted, Allowed, Rising, base, total_nodes}
use Rattle.decks.specs.Answers.{Outcome, Got, Refused}
use Rattle.frames.specs.Hex.{pairs, byte_of}
use Rattle.frames.specs.Written.{set_bytes, set_kind, init_kind, equation_kind, property_kind, count_kind, node_pairs, deck_frames}
use Rattle.frames.specs.Read.{Due, DueSet, DueInit, DueAny, DueEquation, DueCount, DueNone, Sofar, begun, whole_number, whole_expr, kind_of, set_line, init_line, last_left, with_equation, equation_line, property_line, count_line, permits, frame_line, deck_line, deck_end, read_deck}
use Rattle.decks.specs.Readings.{walk, complete}
use Rattle.frames.proofs.HexLaws.{pair_byte}
use Rattle.frames.proofs.LineLaws.{line, line_kind, state_lines, whole-number_got, whole_expr_got, count_line_given}
use Rattle.decks.proofs.Outcomes.{Given, got_given, refuse_given, refuse_not_given, afterwards_given, walk_keeps}
use Rattle.decks.proofs.Complete.{all-complete}
use Rattle.frames.proofs.DeckLaws.{rising_snoc, equation_content, equation_lines, head_lines, property_of, count_content, count_of, deck_lines, deck_frames_joined, length-head_lines}
use Rattle.logic.proofs.Rights.{temporal-plain, total_append}
use Rattle.frames.proofs.DeckWritten.{sofar}

-- What holds of the deck in hand from 01 on.
record Begun (d : Deck) : Type 0 where
  vars_in : d.vars < 2 ^ base.variables
  inits-most : length d.inits ≤ base.initials
  inits_distinct : Distinct d.inits
  inits_in : Each (λ (s : ℕ). s ⊆ d.vars) d.inits
  equations-most : length d.equations ≤ base.equations
  equations-nodes : total_nodes d.equations ≤ base.equation_nodes
  equations_rise : Rising d.equations
  equations-allowed : Each (Allowed base d.vars) d.equations

-- What holds of it from 04 on.
record Stated (d : Deck) : Type 0 where
  begins : Begun d
  inits-some : 1 ≤ length d.inits
  property_in : written d.property ⊆ d.vars
  property-nodes : nodes d.property ≤ base.property_nodes
  property-levels : levels d.property ≤ base.levels

abbrev Known : Due → Deck → Type 0
Known DueSet d = Unit
Known DueInit d = Begun d × (d.equations ≡ [])
Known DueAny d = Begun d × (d.equations ≡ []) × (1 ≤ length d.inits)
Known DueEquation d = Begun d × (1 ≤ length d.inits)
Known DueCount d = Stated d
Known DueNone d = Stated d

-- The lines that the deck in hand was read from.
abbrev lines_of : Due → Deck → List (List ℕ)
lines_of DueSet d = []
lines_of DueInit d = head_lines d
lines_of DueAny d = head_lines d
lines_of DueEquation d = head_lines d
lines_of DueCount d = head_lines d ++ (property_of d ∷ [])
lines_of DueNone d = deck_lines d

-- The lines so far are those of the deck in hand, and it keeps the rules so far.
abbrev Kept : List (List ℕ) → Sofar → Type 0
Kept past s = (past ≡ lines_of s.due s.deck) × Known s.due s.deck

-- One line more behind those of the deck in hand.
one_more : (k : ℕ) (past lines : List (List ℕ)) (l cs content : List ℕ) → past ≡ lines → l ≡ line k cs → cs ≡ content → past ++ l ∷ [] ≡ lines ++ (line k content ∷ [])
one_more k past lines l cs content e f g = ap₂ (λ (ls : List (List ℕ)) (m : List ℕ). ls ++ m ∷ []) e (f ∙ ap (line k) g)

set_kept : (n : ℕ) (l cs : List ℕ) (d : Deck) → l ≡ line set_kind cs → Given (Kept (l ∷ [])) (set_line n cs d)
unfolding set_line total_nodes
set_kept n l cs d e =
    afterwards_given (Kept (l ∷ [])) (whole_number 1 n set_bytes cs) _ (λ v h.
    let w = whole-number_got 1 n set_bytes cs v h in (
      one_more set_kind [] [] l cs (pairs set_bytes v) refl e w.0,
      (
        record {
          vars_in = w.1;
          inits-most = omega arith;
          inits_distinct = tt;
          inits_in = tt;
          equations-most = omega arith;
          equations-nodes = omega arith;
          equations_rise = tt;
          equations-allowed = tt;
        },
        refl,
      ),
    ))

-- The lines with one initial state more, where there is no equation yet.
init_lines : (ss : List ℕ) (s : ℕ) (qs : List Equation)
    → qs ≡ []
    → state_lines init_kind (ss ++ s ∷ []) ++ equation_lines qs ≡ (state_lines init_kind ss ++ equation_lines qs) ++ (line init_kind (pairs set_bytes s) ∷ [])
init_lines ss s qs e =
    rw e (append-nil (state_lines init_kind (ss ++ s ∷ [])) ∙ map-append (λ (x : ℕ). line init_kind (pairs set_bytes x)) ss (s ∷ []) ∙ ap (λ (ls : List (List ℕ)). ls ++ (line init_kind (pairs set_bytes s) ∷ [])) (sym (append-nil (state_lines init_kind ss))))

-- The deck in hand with one initial state more.
init_added : (past : List (List ℕ)) (l cs : List ℕ) (d : Deck) (s : ℕ) → l ≡ line init_kind cs → past ≡ head_lines d → Begun d → d.equations ≡ [] → cs ≡ pairs set_bytes s → (s among d.inits → ⊥) → s ⊆ d.vars → length d.inits + 1 ≤ base.initials → Kept (past ++ l ∷ []) (sofar DueAny (record { vars = d.vars; inits = d.inits ++ (s ∷ []); equations = d.equations; property = d.property }))
init_added past l cs d s e h b z c new within most = (
  one_more init_kind past (head_lines d) l cs (pairs set_bytes s) h e c
      ∙ ap (λ (ls : List (List ℕ)). line set_kind (pairs set_bytes d.vars) ∷ ls) (sym (init_lines d.inits s d.equations z)),
  (
    record {
      vars_in = b.vars_in;
      inits-most = omega (arith, length-append d.inits (s ∷ []));
      inits_distinct = distinct_snoc s d.inits b.inits_distinct new;
      inits_in = each_append (λ (t : ℕ). t ⊆ d.vars) d.inits (s ∷ []) b.inits_in (within, tt);
      equations-most = b.equations-most;
      equations-nodes = b.equations-nodes;
      equations_rise = b.equations_rise;
      equations-allowed = b.equations-allowed;
    },
    z,
    omega (arith, length-append d.inits (s ∷ [])),
  ),
)

init_kept : (past : List (List ℕ)) (n : ℕ) (l cs : List ℕ) (d : Deck)
    → l ≡ line init_kind cs
    → past ≡ head_lines d
    → Begun d
    → d.equations ≡ []
    → Given (Kept (past ++ l ∷ [])) (init_line n cs d)
unfolding init_line
init_kept past n l cs d e h b z =
    let K : Sofar → Type 0 = Kept (past ++ l ∷ []) in
    afterwards_given K (whole_number 1 n set_bytes cs) _ (λ s w.
    refuse_given K (stands s d.inits) _ _ (λ new.
    refuse_not_given K (inside s d.vars) _ _ (λ within.
    refuse_given K (ltb base.initials (length d.inits + 1)) _ _ (λ most.
    init_added
    past
    l
    cs
    d
    s
    e
    h
    b
    z
    (whole-number_got 1 n set_bytes cs s w).0
    (false_stands s d.inits new)
    (true_inside s d.vars within)
    (ltb-false base.initials (length d.inits + 1) most)))))

-- The lines with one equation more.
equation_lines_lem : (ss : List ℕ) (qs : List Equation) (q : Equation)
    → state_lines init_kind ss ++ equation_lines (qs ++ q ∷ []) ≡ (state_lines init_kind ss ++ equation_lines qs) ++ (line equation_kind (equation_content q) ∷ [])
equation_lines_lem ss qs q =
    ap (λ (ls : List (List ℕ)). state_lines init_kind ss ++ ls) (map-append (λ (r : Equation). line equation_kind (equation_content r)) qs (q ∷ []))
    ∙ sym (append_assoc (state_lines init_kind ss) (equation_lines qs) (line equation_kind (equation_content q) ∷ []))

with_equation_kept : (past : List (List ℕ)) (n : ℕ) (l cs : List ℕ) (d : Deck) (q : Equation)
    → l ≡ line equation_kind cs
    → cs ≡ equation_content q
    → past ≡ head_lines d
    → Begun d
    → 1 ≤ length d.inits
    → last_left d.equations ≤ q.left
    → levels q.right ≤ base.levels
    → Given (Kept (past ++ l ∷ [])) (with_equation n d q)
unfolding with_equation total_nodes
with_equation_kept past n l cs d q e c h b i rises shallow =
    let K : Sofar → Type 0 = Kept (past ++ l ∷ []) in
    refuse_not_given K (has d.vars q.left) _ _ (λ its.
    refuse_not_given K (inside (written q.right) d.vars) _ _ (λ uses.
    refuse_given K (temporal q.right) _ _ (λ plain.
    refuse_given K (ltb base.equations (length d.equations + 1)) _ _ (λ most.
    refuse_given K (ltb base.equation_nodes (total_nodes d.equations + nodes q.right)) _ _ (λ sum. (
      one_more equation_kind past (head_lines d) l cs (equation_content q) h e c
          ∙ ap (λ (ls : List (List ℕ)). line set_kind (pairs set_bytes d.vars) ∷ ls) (sym (equation_lines_lem d.inits d.equations q)),
      (
        record {
          vars_in = b.vars_in;
          inits-most = b.inits-most;
          inits_distinct = b.inits_distinct;
          inits_in = b.inits_in;
          equations-most = omega (arith, ltb-false base.equations (length d.equations + 1) most, length-append d.equations (q ∷ []));
          equations-nodes = omega (arith, ltb-false base.equation_nodes (total_nodes d.equations + nodes q.right) sum, total_append d.equations (q ∷ []));
          equations_rise = rising_snoc d.equations q b.equations_rise rises;
          equations-allowed =
              each_append (Allowed base d.vars) d.equations (q ∷ []) b.equations-allowed (
                record {
                  its = true_has d.vars q.left its;
                  uses = true_inside (written q.right) d.vars uses;
                  plain = temporal-plain q.right plain;
                  shallow = shallow;
                },
                tt,
              );
        },
        i,
      ),
    ))))))

equation_kept : (past : List (List ℕ)) (n : ℕ) (l cs : List ℕ) (d : Deck)
    → l ≡ line equation_kind cs
    → past ≡ head_lines d
    → Begun d
    → 1 ≤ length d.inits
    → Given (Kept (past ++ l ∷ [])) (equation_line n cs d)
unfolding equation_line
equation_kept past n l [] d e h b i = tt
equation_kept past n l (x ∷ []) d e h b i = tt
equation_kept past n l (x ∷ y ∷ cs) d e h b i =
    let K : Sofar → Type 0 = Kept (past ++ l ∷ []) in
    refuse_not_given K (ltb (byte_of x y) base.variables) _ _ (λ low.
    refuse_given K (ltb (byte_of x y) (last_left d.equations)) _ _ (λ rises.
    afterwards_given K (whole_expr n cs) _ (λ a w.
    let below : byte_of x y < base.variables = ltb-true (byte_of x y) base.variables low in
    let whole = whole_expr_got n cs a w in
    with_equation_kept
    past
    n
    l
    (x ∷ y ∷ cs)
    d
    (record { left = byte_of x y; right = a })
    e
    (ap₂ (λ (s t : List ℕ). s ++ t) (sym (pair_byte x y (omega arith))) whole.0)
    h
    b
    i
    (ltb-false (byte_of x y) (last_left d.equations) rises)
    whole.1)))

property_kept : (past : List (List ℕ)) (n : ℕ) (l cs : List ℕ) (d : Deck)
    → l ≡ line property_kind cs
    → past ≡ head_lines d
    → Begun d
    → 1 ≤ length d.inits
    → Given (Kept (past ++ l ∷ [])) (property_line n cs d)
unfolding property_line
property_kept past n l cs d e h b i =
    let K : Sofar → Type 0 = Kept (past ++ l ∷ []) in
    afterwards_given K (whole_expr n cs) _ (λ a w.
    refuse_not_given K (inside (written a) d.vars) _ _ (λ within.
    refuse_given K (ltb base.property_nodes (nodes a)) _ _ (λ most.
    let whole = whole_expr_got n cs a w in (
      one_more property_kind past (head_lines d) l cs (node_pairs (code a)) h e whole.0,
      record {
        begins =
            record {
              vars_in = b.vars_in;
              inits-most = b.inits-most;
              inits_distinct = b.inits_distinct;
              inits_in = b.inits_in;
              equations-most = b.equations-most;
              equations-nodes = b.equations-nodes;
              equations_rise = b.equations_rise;
              equations-allowed = b.equations-allowed;
            };
        inits-some = i;
        property_in = true_inside (written a) d.vars within;
        property-nodes = ltb-false base.property_nodes (nodes a) most;
        property-levels = whole.1;
      },
    ))))

count_kept : (past : List (List ℕ)) (l cs : List ℕ) (d : Deck)
    → l ≡ line count_kind cs
    → past ≡ head_lines d ++ (property_of d ∷ [])
    → Stated d
    → Given (Kept (past ++ l ∷ [])) (count_line 1 (suc (length past)) cs (sofar DueNone d))
count_kept past l cs d e h b =
    count_line_given 1 (suc (length past)) (Kept (past ++ l ∷ [])) cs (sofar DueNone d) (λ x c m.
    let before : x ≡ length d.inits + length d.equations + 2 =
    omega (arith, ap length h, length-append (head_lines d) (property_of d ∷ []), length-head_lines d) in (
      one_more count_kind past (head_lines d ++ (property_of d ∷ [])) l cs (count_content d) h e (c ∙ ap (pairs 2) before)
          ∙ append_assoc (head_lines d) (property_of d ∷ []) (count_of d ∷ []),
      b,
    ))

either : (s t : Bool) → (s || t) ≡ true → (s ≡ true) ⊎ (t ≡ true)
either true t e = inl refl
either false t e = inr e

module _ (past : List (List ℕ)) (l : List ℕ) where
  abbrev kept : Outcome Sofar → Type 0
  kept = Given (Kept (past ++ l ∷ []))

  of_kind : (k : ℕ) (d : Deck)
      → k < 256
      → (l ≡ line k (drop 2 l) → kept (frame_line k (suc (length past)) (drop 2 l) d))
      → eqb (kind_of l) k ≡ true
      → kept (frame_line (kind_of l) (suc (length past)) (drop 2 l) d)
  of_kind k d h f e = let is = eqb-true (kind_of l) k e in rw is (f (line_kind l k is h))

  of_due : (u : Due) (d : Deck) → Kept past (sofar u d) → permits u (kind_of l) ≡ true → kept (frame_line (kind_of l) (suc (length past)) (drop 2 l) d)
  unfolding frame_line
  of_due DueSet d k p = of_kind set_kind d (omega arith) (λ e. rw k.0 (set_kept 1 l (drop 2 l) d e)) p
  of_due DueInit d k p = of_kind init_kind d (omega arith) (λ e. init_kept past (suc (length past)) l (drop 2 l) d e k.0 k.1.0 k.1.1) p
  of_due DueAny d k p =
      ⊎_elim
      (of_kind init_kind d (omega arith) (λ e. init_kept past (suc (length past)) l (drop 2 l) d e k.0 k.1.0 k.1.1))
      (λ r.
      ⊎_elim
      (of_kind equation_kind d (omega arith) (λ e. equation_kept past (suc (length past)) l (drop 2 l) d e k.0 k.1.0 k.1.2))
      (of_kind property_kind d (omega arith) (λ e. property_kept past (suc (length past)) l (drop 2 l) d e k.0 k.1.0 k.1.2))
      (either (eqb (kind_of l) equation_kind) (eqb (kind_of l) property_kind) r))
      (either (eqb (kind_of l) init_kind) (eqb (kind_of l) equation_kind || eqb (kind_of l) property_kind) p)
  of_due DueEquation d k p =
      ⊎_elim
      (of_kind equation_kind d (omega arith) (λ e. equation_kept past (suc (length past)) l (drop 2 l) d e k.0 k.1.0 k.1.1))
      (of_kind property_kind d (omega arith) (λ e. property_kept past (suc (length past)) l (drop 2 l) d e k.0 k.1.0 k.1.1))
      (either (eqb (kind_of l) equation_kind) (eqb (kind_of l) property_kind) p)
  of_due DueCount d k p = of_kind count_kind d (omega arith) (λ e. count_kept past l (drop 2 l) d e k.0 k.1) p
  of_due DueNone d k p = let z : ◌≡◌ {A = ℕ} 0 1 = cc in absurd (omega arith)

  -- Every line keeps what the lines before it kept.
  line_kept : (s : Sofar) → Kept past s → kept (deck_line (suc (length past)) l s)
  unfolding deck_line
  line_kept s k = refuse_not_given (Kept (past ++ l ∷ [])) (permits s.due (kind_of l)) _ _ (of_due s.due s.deck k)

-- The text is the deck's frames, and the deck is accepted.
abbrev pub Returns : List ℕ → Deck → Type 0
Returns t d = (t ≡ deck_frames d) × Accepted base d

complete_given : (t : List ℕ) (d : Deck) → t ≡ deck_frames d → Stated d → Given (Returns t) (complete d)
complete_given t d e k = go (complete d) refl
  where
    go : (r : Outcome Deck) → complete d ≡ r → Given (Returns t) r
    go (Refused a) p = tt
    go (Got f) p =
        let all = all-complete d f p in
        subst (Returns t) all.0 (
          e,
          record {
            vars_in = k.begins.vars_in;
            inits-some = k.inits-some;
            inits-most = k.begins.inits-most;
            inits_distinct = k.begins.inits_distinct;
            inits_in = k.begins.inits_in;
            equations-most = k.begins.equations-most;
            equations-nodes = k.begins.equations-nodes;
            equations_rise = k.begins.equations_rise;
            equations-allowed = k.begins.equations-allowed;
            equations-all = all.1;
            property_in = k.property_in;
            property-nodes = k.property-nodes;
            property-levels = k.property-levels;
          },
        )

end_given : (t rest : List ℕ) (u : Due) (d : Deck) → joined (ended t) ++ rest ≡ t → Kept (ended t) (sofar u d) → Given (Returns t) (deck_end rest (sofar u d))
unfolding deck_end
end_given t (c ∷ cs) u d e k = tt
end_given t [] DueSet d e k = tt
end_given t [] DueInit d e k = tt
end_given t [] DueAny d e k = tt
end_given t [] DueEquation d e k = tt
end_given t [] DueCount d e k = tt
end_given t [] DueNone d e k = complete_given t d (sym e ∙ append-nil (joined (ended t)) ∙ ap joined k.0 ∙ sym (deck_frames_joined d)) k.1

-- Whatever reads as a deck returns.
pub deck_given : (t : List ℕ) → Given (Returns t) (read_deck t)
unfolding read_deck
deck_given t =
    refuse_given (Returns t) (ltb base.text (length t)) _ _ (λ short.
    afterwards_given (Returns t) (walk deck_line 1 (ended t) begun) _ (λ s e.
    end_given t (unended t) s.due s.deck (joined-ended t) (
    got_given (Kept (ended t)) (walk deck_line 1 (ended t) begun) s (walk_keeps deck_line 1 Kept (λ past l u k. let one : 1 + length past ≡ suc (length past) = omega arith in rw one (line_kept past l u k)) (ended t) [] begun (refl, tt)) e)))
