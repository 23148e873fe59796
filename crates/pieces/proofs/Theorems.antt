-- What a deck's pieces are entitled to, and which decks have a piece's bytes in common.
use mathlib.Core.Path.{◌≡◌, refl, sym, ap, ap₂, ◌∙◌, subst}
use mathlib.Core.Logic.{◌↔◌, inl, inr, by_cases}
use mathlib.Core.Bool.{true, false}
use mathlib.Core.List.{List, [], ◌∷◌, map, head-eq_of_cons-eq, tail-eq_of_cons-eq}
use Prim.Native.Nat.{ℕ, ◌≤◌}
use native.Mathlib.Omega.{arith}
use native.Mathlib.Decide.{ℕ_discrete}
use borrow.Author.Tests.{eq-eqb, ne_eqb, eqb-true}
use lib.Dec.{eqb}
use Rattle.lists.specs.Lists.{Each, Some, ◌among◌}
use Rattle.lists.proofs.Laws.{each_all, each_map, each_at, map_each, each_keep, keep_pass, keep_fail, keep_among, keep_none, keep-keep}
use Rattle.sets.specs.Sets.{◌∋◌, bit, has, meet}
use Rattle.sets.proofs.Laws.{has_true, true_has}
use Rattle.logic.specs.Expressions.{Expr, written}
use Rattle.logic.specs.Decks.{Equation, Deck, Accepted, Rising, base}
use Rattle.logic.specs.Meaning.{Broken}
use Rattle.logic.specs.Cones.{IsCone}
use Rattle.logic.specs.Pieces.{split, cone_of, equations_of, piece, pieces}
use Rattle.logic.proofs.Cone.{equations_for, cone_agree}
use Rattle.logic.proofs.Pieces.{pieces-split, pieces-accepted, piece-least, piece-same}
use Rattle.logic.proofs.Demand3.{demand_3}
use Rattle.decks.specs.Answers.{Got}
use Rattle.frames.specs.Written.{deck_frames}
use Rattle.frames.specs.Read.{read_deck}
use Rattle.frames.proofs.DeckTheorems.{deck-written_read}
use Rattle.pieces.specs.Reduced.{all_frames, piece_bytes}

-- ---- what reads back from the bytes written

-- What is promised of a deck's pieces.
pub record Entitled (D : Deck) : Type 0 where
  -- The bytes are the frames of the pieces, one behind the other.
  pub bytes : piece_bytes D ≡ all_frames (pieces D)
  -- Each conjunct has its own piece, in the order of the split.
  pub conjuncts : map (λ (d : Deck). d.property) (pieces D) ≡ split D.property
  -- Each piece keeps the rules and limits of a deck (RULES 3, 6.2).
  pub accepted : Each (Accepted base) (pieces D)
  -- Each piece reads back from its frames.
  pub read_back : Each (λ (d : Deck). read_deck (deck_frames d) ≡ Got d) (pieces D)
  -- The variables of each piece are the least set that holds those written in its conjunct and, with each variable, all written in its equations.
  pub least : Each (λ (d : Deck). IsCone D.equations (written d.property) d.vars) (pieces D)
  -- Some looping run of the deck breaks its property exactly when some looping run of a piece breaks that piece's property.
  pub demand : Broken D ↔ Some Broken (pieces D)

pub pieces_read_back : (D : Deck) → Accepted base D → Entitled D
pieces_read_back D a =
    record {
      bytes = refl;
      conjuncts = pieces-split D;
      accepted = pieces-accepted base D a;
      read_back = each_map (Accepted base) (λ (d : Deck). read_deck (deck_frames d) ≡ Got d) (pieces D) deck-written_read (pieces-accepted base D a);
      least = piece-least D;
      demand = demand_3 base D a;
    }

-- ---- agreeing decks, equal bytes

-- general: lists by rising variable that have the same equations of each variable are one list.
for_first : (q : Equation) (qs : List Equation) → equations_for q.left (q ∷ qs) ≡ q ∷ equations_for q.left qs
for_first q qs = keep_pass (λ (r : Equation). eqb r.left q.left) q qs (eq-eqb q.left q.left refl)

for_none : (v : ℕ) (q : Equation) (qs : List Equation) → (q.left ≡ v → ⊥) → equations_for v (q ∷ qs) ≡ equations_for v qs
for_none v q qs n = keep_fail (λ (r : Equation). eqb r.left v) q qs (ne_eqb q.left v n)

-- The first equation of a list stands in every list that has the same equations of its variable.
first_among : (q : Equation) (qs rs : List Equation) → equations_for q.left (q ∷ qs) ≡ equations_for q.left rs → q among rs
first_among q qs rs e =
    (keep_among (λ (r : Equation). eqb r.left q.left) q rs (subst (λ (l : List Equation). q among l) (sym (for_first q qs) ∙ e) (inl refl))).0

first_lowest : (q r : Equation) (rs : List Equation) → Rising (r ∷ rs) → q among (r ∷ rs) → r.left ≤ q.left
first_lowest q r rs h (inl e) = let same : q.left ≡ r.left = ap (λ (x : Equation). x.left) e in omega arith
first_lowest q r rs h (inr m) = each_at (λ (s : Equation). r.left ≤ s.left) rs q h.0 m

rising_one : (ps qs : List Equation) → Rising ps → Rising qs → ((v : ℕ) → equations_for v ps ≡ equations_for v qs) → ps ≡ qs
rising_one [] [] h k f = refl
rising_one [] (q ∷ qs) h k f = absurd (first_among q qs [] (sym (f q.left)))
rising_one (p ∷ ps) [] h k f = absurd (first_among p ps [] (f p.left))
rising_one (p ∷ ps) (q ∷ qs) h k f =
    let below : q.left ≤ p.left = first_lowest p q qs k (first_among p ps (q ∷ qs) (f p.left)) in
    let above : p.left ≤ q.left = first_lowest q p ps h (first_among q qs (p ∷ ps) (sym (f q.left))) in
    let same : p.left ≡ q.left = omega arith in
    let firsts : p ∷ equations_for p.left ps ≡ q ∷ equations_for p.left qs =
    sym (for_first p ps) ∙ f p.left ∙ keep_pass (λ (r : Equation). eqb r.left p.left) q qs (eq-eqb q.left p.left (sym same)) in
    ap₂ (λ (x : Equation) (xs : List Equation). x ∷ xs) (head-eq_of_cons-eq firsts)
    (rising_one ps qs h.1 k.1
    (λ v.
    by_cases
    (ℕ_discrete p.left v)
    (λ e. subst (λ (u : ℕ). equations_for u ps ≡ equations_for u qs) e (tail-eq_of_cons-eq firsts))
    (λ n. sym (for_none v p ps n) ∙ f v ∙ for_none v q qs (λ e. n (same ∙ e)))))

for_kept : (c v : ℕ) → c ∋ v → (qs : List Equation) → equations_for v (equations_of c qs) ≡ equations_for v qs
for_kept c v i qs =
    keep-keep (λ (q : Equation). has c q.left) (λ (q : Equation). eqb q.left v) qs
    (λ q h. has_true c q.left (subst (λ (u : ℕ). c ∋ u) (sym (eqb-true q.left v h)) i))

for_left_out : (c v : ℕ) → (c ∋ v → ⊥) → (qs : List Equation) → equations_for v (equations_of c qs) ≡ []
for_left_out c v n qs =
    keep_none (λ (q : Equation). eqb q.left v) (equations_of c qs)
    (each_keep (λ (q : Equation). has c q.left) (λ (q : Equation). eqb q.left v ≡ false) qs
    (each_all (λ (q : Equation). has c q.left ≡ true → eqb q.left v ≡ false) qs
    (λ q m t. ne_eqb q.left v (λ e. n (subst (λ (u : ℕ). c ∋ u) e (true_has c q.left t))))))

-- Equal equations of each variable of the set make equal equations of the set.
equations-same : (c : ℕ) (ps qs : List Equation) → Rising (equations_of c ps) → Rising (equations_of c qs)
    → ((v : ℕ) → c ∋ v → equations_for v ps ≡ equations_for v qs) → equations_of c ps ≡ equations_of c qs
equations-same c ps qs h k f =
    rising_one (equations_of c ps) (equations_of c qs) h k
    (λ v.
    by_cases
    (ℕ_discrete (bit c v) 1)
    (λ i. for_kept c v i ps ∙ f v i ∙ sym (for_kept c v i qs))
    (λ n. for_left_out c v n ps ∙ sym (for_left_out c v n qs)))

-- The equations of an accepted deck's piece stand by rising variable.
piece-rises : (d : Deck) (j : Expr) → Accepted base d → j among split d.property → Rising (equations_of (cone_of d j) d.equations)
unfolding pieces piece
piece-rises d j a m =
    (each_at (λ (x : Expr). Accepted base (piece d x)) (split d.property) j (map_each (piece d) (Accepted base) (split d.property) (pieces-accepted base d a)) m).equations_rise

-- Two accepted decks with the same property, that agree on the equations of a conjunct's cone and, in order, on the initial values of that cone,
-- have that cone in common and give its piece the same bytes.
pub agreeing_decks_equal_bytes : (d e : Deck) (j : Expr) → Accepted base d → Accepted base e → d.property ≡ e.property → j among split d.property
    → ((v : ℕ) → cone_of d j ∋ v → equations_for v d.equations ≡ equations_for v e.equations)
    → map (λ (s : ℕ). meet s (cone_of d j)) d.inits ≡ map (λ (s : ℕ). meet s (cone_of d j)) e.inits
    → (cone_of e j ≡ cone_of d j) × (deck_frames (piece d j) ≡ deck_frames (piece e j))
agreeing_decks_equal_bytes d e j a b p m f i =
    let cones : cone_of e j ≡ cone_of d j = cone_agree d.equations e.equations (written j) f in
    let rises : Rising (equations_of (cone_of d j) e.equations) =
    subst (λ (c : ℕ). Rising (equations_of c e.equations)) cones (piece-rises e j b (subst (λ (x : Expr). j among split x) p m)) in
    (cones, ap deck_frames (piece-same d e j (equations-same (cone_of d j) d.equations e.equations (piece-rises d j a m) rises f) i))
