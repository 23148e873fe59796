-- Laws of the reader of claims.
use mathlib.Core.Path.{◌≡◌, refl, sym, ap, ◌∙◌, subst}
use mathlib.Core.Bool.{Bool, true, false, not}
use mathlib.Core.List.{List, [], ◌∷◌, ◌++◌}
use Prim.Native.Nat.{ℕ, ◌+◌, ◌-◌, ◌*◌, ◌/◌, ◌%◌, ◌<◌, ◌≤◌}
use native.Mathlib.Omega.{arith}
use native.Mathlib.Numerals.{add-one}
use lib.Dec.{ltb, eqb}
use lib.ListN.{length, take, drop, set, replicate, length-append, length-drop, length-set, drop_of_length-le}
use lib.Seq.{drop-cons, length-take-le}
use borrow.Author.Tests.{lt-ltb, le-ltb, eq-eqb, ne_eqb}
use Rattle.std.specs.Prelude.{Option, Some, None, Result, Ok, Err}
use Rattle.std.specs.Option.{option_eq}
use Rattle.lists.specs.Lists.{padded, ended, unended}
use Rattle.lists.proofs.Laws.{padded_snoc, padded-nil}
use Rattle.sets.specs.Sets.{inside}
use Rattle.logic.specs.Meaning.{Claim}
use Rattle.decks.specs.declared.Refusal.{Refusal}
use Rattle.decks.specs.declared.Refusal.TheVariants.{TooLong, BadFrame, Outside}
use Rattle.decks.specs.Answers.{Outcome, Got, Refused, refuse, afterwards}
use Rattle.frames.specs.Hex.{number}
use Rattle.frames.specs.Read.{kind_of, whole_number, count_line, ClaimSofar, ClaimDue, StatesDue, ClaimWhole, sizes_line, state_line, claim_line, claim_end, read_claim}
use Rattle.decks.specs.Readings.{walk}
use Rattle.lines.specs.Numbers.{pair_read, number_read, count_is}
use Rattle.ends.specs.Ends.{line_length}
use Rattle.lines.proofs.Laws.{some_below, none_below, whole-number_none, whole-number-some, number-long, count_line_lem}
use Rattle.ends.proofs.Laws.{ended_at, unended_at, ended_last, unended_last}
use Rattle.claimreading.specs.declared.Due.TheVariants.{Sizes, States, Nothing}
use Rattle.claimreading.specs.declared.Held.{Held}
use Rattle.claimreading.specs.Held.{held_of, line_of, HoldsStates, RoomFor, StatesAfter, Came, ClaimCame}

-- ---- what is said of an outcome

line_got : (o : Outcome ClaimSofar) (h : Held) → Ok h ≡ line_of o → (s : ClaimSofar) × (o ≡ Got s) × (h ≡ held_of s)
line_got (Got s) h e = (s, refl, cc)
line_got (Refused a) h e = cc

line_refused : (o : Outcome ClaimSofar) (a : Refusal) → Err a ≡ line_of o → o ≡ Refused a
line_refused (Got s) a e = cc
line_refused (Refused b) a e = let z : b ≡ a = cc in ap (λ (y : Refusal). Refused y) z

came_refused : (o : Outcome ClaimSofar) (a : Refusal) (states : List ℕ) → o ≡ Refused a → Came o (Err a) states
came_refused o a states e = subst (λ (x : Outcome ClaimSofar). Came x (Err a) states) (sym e) (record { line_is = refl; states_are = tt })

-- ---- kinds

module _ (line : List ℕ) (k : ℕ) (o : Option ℕ) (p : o ≡ pair_read (kind_of line)) where
  kind_asked : k < 256 → option_eq eqb o (Some k) ≡ eqb (kind_of line) k
  kind_asked h = go o p
    where
      go : (x : Option ℕ) → x ≡ pair_read (kind_of line) → option_eq eqb x (Some k) ≡ eqb (kind_of line) k
      go None e = let w : 256 ≤ kind_of line = none_below 256 (kind_of line) e in sym (ne_eqb (kind_of line) k (λ z. omega arith))
      go (Some x) e = ap (λ (y : ℕ). eqb y k) (some_below 256 (kind_of line) x e).1

  pub kind_not : k < 256 → true ≡ not (option_eq eqb o (Some k)) → eqb (kind_of line) k ≡ false
  kind_not h e = go (eqb (kind_of line) k) refl
    where
      go : (b : Bool) → eqb (kind_of line) k ≡ b → eqb (kind_of line) k ≡ false
      go false q = q
      go true q = let z : true ≡ not true = e ∙ ap not (kind_asked h ∙ q) in cc

  pub kind_so : k < 256 → false ≡ not (option_eq eqb o (Some k)) → eqb (kind_of line) k ≡ true
  kind_so h e = go (eqb (kind_of line) k) refl
    where
      go : (b : Bool) → eqb (kind_of line) k ≡ b → eqb (kind_of line) k ≡ true
      go true q = q
      go false q = let z : false ≡ not false = e ∙ ap not (kind_asked h ∙ q) in cc

-- ---- 11

module _ (line : List ℕ) (n : ℕ) where
  sizes_due : (v : ℕ) → claim_line v n line ClaimDue ≡ claim_line 0 n line ClaimDue
  unfolding claim_line
  sizes_due v = refl

  pub sizes_kind : eqb (kind_of line) 17 ≡ false → Err (BadFrame 2 n) ≡ line_of (claim_line 0 n line ClaimDue)
  unfolding claim_line
  sizes_kind e = let z : claim_line 0 n line ClaimDue ≡ Refused (BadFrame 2 n) = simp (e, claim_line) in ap line_of (sym z)

  module _ (e : eqb (kind_of line) 17 ≡ true) where
    sizes_on : claim_line 0 n line ClaimDue ≡ sizes_line n (drop 2 line)
    unfolding claim_line
    sizes_on = simp (e, claim_line)

    pub sizes_number : None ≡ number_read (number 4 (drop 2 line)) → Err (BadFrame 2 n) ≡ line_of (claim_line 0 n line ClaimDue)
    unfolding sizes_line
    sizes_number i = let z : sizes_line n (drop 2 line) ≡ Refused (BadFrame 2 n) = simp (whole-number_none 2 n 4 (drop 2 line) None i refl, sizes_line) in ap line_of (sym (sizes_on ∙ z))

    module _ (v : ℕ) (i : Some v ≡ number_read (number 4 (drop 2 line))) where
      pub sizes_none : v % 65536 ≡ 0 → Err (BadFrame 2 n) ≡ line_of (claim_line 0 n line ClaimDue)
      unfolding sizes_line
      sizes_none w = let z : sizes_line n (drop 2 line) ≡ Refused (BadFrame 2 n) = simp (whole-number-some 2 n 4 (drop 2 line) (Some v) v i refl, eq-eqb (v % 65536) 0 w, sizes_line) in ap line_of (sym (sizes_on ∙ z))

      pub sizes_many : (v % 65536 ≡ 0 → ⊥) → 1024 < v / 65536 + v % 65536 → Err (BadFrame 2 n) ≡ line_of (claim_line 0 n line ClaimDue)
      unfolding sizes_line
      sizes_many w m = let z : sizes_line n (drop 2 line) ≡ Refused (BadFrame 2 n) = simp (whole-number-some 2 n 4 (drop 2 line) (Some v) v i refl, ne_eqb (v % 65536) 0 w, lt-ltb 1024 (v / 65536 + v % 65536) m, sizes_line) in ap line_of (sym (sizes_on ∙ z))

      pub sizes_fine : (v % 65536 ≡ 0 → ⊥) → v / 65536 + v % 65536 ≤ 1024 → Ok (record { due = States; p = v / 65536; c = v % 65536; count = 0 }) ≡ line_of (claim_line 0 n line ClaimDue)
      unfolding sizes_line
      sizes_fine w m =
          let z : sizes_line n (drop 2 line) ≡ Got (StatesDue (record { p = v / 65536; c = v % 65536; states = [] })) = simp (whole-number-some 2 n 4 (drop 2 line) (Some v) v i refl, ne_eqb (v % 65536) 0 w, le-ltb 1024 (v / 65536 + v % 65536) m, sizes_line) in
          sym (ap line_of (sizes_on ∙ z))

-- ---- what is due

due_sizes : (s : ClaimSofar) (h : Held) → h ≡ held_of s → h.due ≡ Sizes → s ≡ ClaimDue
due_sizes ClaimDue h e q = refl
due_sizes (StatesDue m) h e q = let z : States ≡ Sizes = sym (ap (λ (x : Held). x.due) e) ∙ q in cc
due_sizes (ClaimWhole m) h e q = let z : Nothing ≡ Sizes = sym (ap (λ (x : Held). x.due) e) ∙ q in cc

due_states : (s : ClaimSofar) (h : Held) → h ≡ held_of s → h.due ≡ States → (m : Claim) × (s ≡ StatesDue m)
due_states ClaimDue h e q = let z : Sizes ≡ States = sym (ap (λ (x : Held). x.due) e) ∙ q in cc
due_states (StatesDue m) h e q = (m, refl)
due_states (ClaimWhole m) h e q = let z : Nothing ≡ States = sym (ap (λ (x : Held). x.due) e) ∙ q in cc

due_nothing : (s : ClaimSofar) (h : Held) → h ≡ held_of s → h.due ≡ Nothing → (m : Claim) × (s ≡ ClaimWhole m)
due_nothing ClaimDue h e q = let z : Sizes ≡ Nothing = sym (ap (λ (x : Held). x.due) e) ∙ q in cc
due_nothing (StatesDue m) h e q = let z : States ≡ Nothing = sym (ap (λ (x : Held). x.due) e) ∙ q in cc
due_nothing (ClaimWhole m) h e q = (m, refl)

-- ---- a line

after_refusal : (a : Refusal) (b : Bool) (o : Outcome ClaimSofar) (l : List ℕ) → StatesAfter o l → StatesAfter (refuse b a o) l
after_refusal a true o l h = tt
after_refusal a false o l h = h

after_number : (o : Outcome ℕ) (f : ℕ → Outcome ClaimSofar) (l : List ℕ) → ((x : ℕ) → StatesAfter (f x) l) → StatesAfter (afterwards o f) l
after_number (Got x) f l h = h x
after_number (Refused a) f l h = tt

-- The sizes are read, no state yet.
abbrev begun : ℕ → ClaimSofar
begun x = StatesDue (record { p = x / 65536; c = x % 65536; states = [] })

-- 11 leaves the row as it was: zeros.
sizes_states : (n : ℕ) (line states : List ℕ) → HoldsStates ClaimDue states → StatesAfter (claim_line 0 n line ClaimDue) states
unfolding claim_line sizes_line
sizes_states n line states z =
    after_refusal (BadFrame 2 n) (not (eqb (kind_of line) 17)) (sizes_line n (drop 2 line)) states
    (after_number (whole_number 2 n 4 (drop 2 line))
    (λ x. refuse (eqb (x % 65536) 0) (BadFrame 2 n) (refuse (ltb 1024 (x / 65536 + x % 65536)) (BadFrame 2 n) (Got (begun x))))
    states
    (λ x.
    after_refusal (BadFrame 2 n) (eqb (x % 65536) 0) (refuse (ltb 1024 (x / 65536 + x % 65536)) (BadFrame 2 n) (Got (begun x))) states
    (after_refusal (BadFrame 2 n) (ltb 1024 (x / 65536 + x % 65536)) (Got (begun x)) states (record { states_are = z.states_are; states-fit = z.states-fit }))))

-- ---- room

-- A line that is a state has 18 characters.
pub state_bytes : (line : List ℕ) (y : ℕ) → Some y ≡ number_read (number 8 (drop 2 line)) → length line ≡ 18
state_bytes line y e = omega (arith, number-long 8 (drop 2 line) (Some y) y e refl, length-drop 2 line)

pub room_kept : (bytes : ℕ) (states out : List ℕ) → RoomFor bytes states → length out ≡ length states → RoomFor bytes out
room_kept bytes states out room e i a b = omega (arith, room i a b, e)

-- ---- 12 and 15

module _ (line : List ℕ) (n : ℕ) (h : Held) (m : Claim) (g : h ≡ held_of (StatesDue m)) where
  -- Before the last state: 12.
  more : (vars : ℕ) → h.count < h.p + h.c → claim_line vars n line (StatesDue m) ≡ refuse (not (eqb (kind_of line) 18)) (BadFrame 2 n) (state_line vars n (drop 2 line) m)
  unfolding claim_line
  more vars l = let w : length m.states < m.p + m.c = omega (arith, ap (λ (x : Held). x.count) g, ap (λ (x : Held). x.p) g, ap (λ (x : Held). x.c) g) in simp (lt-ltb (length m.states) (m.p + m.c) w, claim_line)

  -- Behind the last state: 15.
  last : (vars : ℕ) → h.p + h.c ≤ h.count → claim_line vars n line (StatesDue m) ≡ refuse (not (eqb (kind_of line) 21)) (BadFrame 2 n) (refuse (not (count_is n (drop 2 line))) (BadFrame 2 n) (Got (ClaimWhole m)))
  unfolding claim_line
  last vars l =
      let w : m.p + m.c ≤ length m.states = omega (arith, ap (λ (x : Held). x.count) g, ap (λ (x : Held). x.p) g, ap (λ (x : Held). x.c) g) in
      let z : claim_line vars n line (StatesDue m) ≡ refuse (not (eqb (kind_of line) 21)) (BadFrame 2 n) (count_line 2 n (drop 2 line) (ClaimWhole m)) = simp (le-ltb (length m.states) (m.p + m.c) w, claim_line) in
      z ∙ ap (λ (o : Outcome ClaimSofar). refuse (not (eqb (kind_of line) 21)) (BadFrame 2 n) o) (count_line_lem 2 n (drop 2 line) (ClaimWhole m))

  module _ (vars : ℕ) (l : h.count < h.p + h.c) where
    pub state_kind_lem : eqb (kind_of line) 18 ≡ false → (out : List ℕ) → Came (claim_line vars n line (StatesDue m)) (Err (BadFrame 2 n)) out
    state_kind_lem d out = came_refused (claim_line vars n line (StatesDue m)) (BadFrame 2 n) out (more vars l ∙ simp d)

    module _ (d : eqb (kind_of line) 18 ≡ true) where
      a_state : claim_line vars n line (StatesDue m) ≡ state_line vars n (drop 2 line) m
      a_state = more vars l ∙ simp d

      pub state_number : None ≡ number_read (number 8 (drop 2 line)) → (out : List ℕ) → Came (claim_line vars n line (StatesDue m)) (Err (BadFrame 2 n)) out
      unfolding state_line
      state_number v out = came_refused (claim_line vars n line (StatesDue m)) (BadFrame 2 n) out (a_state ∙ simp (whole-number_none 2 n 8 (drop 2 line) None v refl, state_line))

      module _ (y : ℕ) (v : Some y ≡ number_read (number 8 (drop 2 line))) where
        pub state_outside : false ≡ inside y vars → (out : List ℕ) → Came (claim_line vars n line (StatesDue m)) (Err (Outside 2 n)) out
        unfolding state_line
        state_outside z out = came_refused (claim_line vars n line (StatesDue m)) (Outside 2 n) out (a_state ∙ simp (whole-number-some 2 n 8 (drop 2 line) (Some y) y v refl, sym z, state_line))

        pub state_fine : (states : List ℕ) → HoldsStates (StatesDue m) states → RoomFor (19 * h.count + length line + 1) states → h.p + h.c ≤ 1024 → true ≡ inside y vars → Came (claim_line vars n line (StatesDue m)) (Ok (record { due = h.due; p = h.p; c = h.c; count = h.count + 1 })) (set states h.count y)
        unfolding state_line
        state_fine states o room a z =
            let next : Claim = record { p = m.p; c = m.c; states = m.states ++ (y ∷ []) } in
            let t : state_line vars n (drop 2 line) m ≡ Got (StatesDue next) = simp (whole-number-some 2 n 8 (drop 2 line) (Some y) y v refl, sym z, state_line) in
            let many : h.count ≡ length m.states = ap (λ (x : Held). x.count) g in
            let here : h.count < length states = room h.count (omega arith) (omega (arith, state_bytes line y v)) in
            let long : h.count + 1 ≡ length (m.states ++ (y ∷ [])) = omega (arith, many, length-append m.states (y ∷ [])) in
            let size : length (set states h.count y) ≡ length states = length-set states h.count y in
            subst (λ (x : Outcome ClaimSofar). Came x (Ok (record { due = h.due; p = h.p; c = h.c; count = h.count + 1 })) (set states h.count y)) (sym (a_state ∙ t))
            (record {
              line_is = ap (λ (x : ℕ). Ok (record { due = h.due; p = h.p; c = h.c; count = x })) long ∙ ap (λ (x : Held). Ok (record { due = x.due; p = x.p; c = x.c; count = length (m.states ++ (y ∷ [])) })) g;
              states_are =
                  record {
                    states_are =
                        ap (λ (x : List ℕ). set x h.count y) o.states_are
                        ∙ ap (λ (i : ℕ). set (padded (length states) m.states) i y) many
                        ∙ padded_snoc (length states) m.states y (omega (arith, here, many))
                        ∙ ap (λ (i : ℕ). padded i (m.states ++ (y ∷ []))) (sym size);
                    states-fit = omega (arith, here, long, size);
                  };
            })

  module _ (vars : ℕ) (l : h.p + h.c ≤ h.count) where
    pub count_kind_lem : eqb (kind_of line) 21 ≡ false → Err (BadFrame 2 n) ≡ line_of (claim_line vars n line (StatesDue m))
    count_kind_lem d = let t : claim_line vars n line (StatesDue m) ≡ Refused (BadFrame 2 n) = last vars l ∙ simp d in ap line_of (sym t)

    module _ (d : eqb (kind_of line) 21 ≡ true) where
      pub count_wrong : false ≡ count_is n (drop 2 line) → Err (BadFrame 2 n) ≡ line_of (claim_line vars n line (StatesDue m))
      count_wrong z = let t : claim_line vars n line (StatesDue m) ≡ Refused (BadFrame 2 n) = last vars l ∙ simp (d, sym z) in ap line_of (sym t)

      pub count_fine : true ≡ count_is n (drop 2 line) → Ok (record { due = Nothing; p = h.p; c = h.c; count = h.count }) ≡ line_of (claim_line vars n line (StatesDue m))
      count_fine z =
          let t : claim_line vars n line (StatesDue m) ≡ Got (ClaimWhole m) = last vars l ∙ simp (d, sym z) in
          ap (λ (x : Held). Ok (record { due = Nothing; p = x.p; c = x.c; count = x.count })) g ∙ ap line_of (sym t)

-- ---- a line by what is due

module _ (line : List ℕ) (vars n : ℕ) (h : Held) (s : ClaimSofar) (e : h ≡ held_of s) where
  pub line_sizes : (r : Result Held Refusal) (states : List ℕ) → HoldsStates s states → h.due ≡ Sizes → r ≡ line_of (claim_line 0 n line ClaimDue) → Came (claim_line vars n line s) r states
  line_sizes r states f d q =
      let z : s ≡ ClaimDue = due_sizes s h e d in
      let t : claim_line 0 n line ClaimDue ≡ claim_line vars n line s = sym (sizes_due line n vars) ∙ ap (claim_line vars n line) (sym z) in
      let g : HoldsStates ClaimDue states = subst (λ (x : ClaimSofar). HoldsStates x states) z f in
      subst (λ (o : Outcome ClaimSofar). Came o r states) t (record { line_is = q; states_are = sizes_states n line states g })

  pub line_state : (r : Result Held Refusal) (states out : List ℕ) → HoldsStates s states → h.due ≡ States → ((m : Claim) → h ≡ held_of (StatesDue m) → HoldsStates (StatesDue m) states → Came (claim_line vars n line (StatesDue m)) r out) → Came (claim_line vars n line s) r out
  line_state r states out f d c =
      let z = due_states s h e d in
      subst (λ (x : ClaimSofar). Came (claim_line vars n line x) r out) (sym z.1) (c z.0 (e ∙ ap held_of z.1) (subst (λ (x : ClaimSofar). HoldsStates x states) z.1 f))

  counted : (m : Claim) (states : List ℕ) → HoldsStates (StatesDue m) states → length m.states ≡ h.count → h.p + h.c ≤ h.count → h ≡ held_of (StatesDue m) → StatesAfter (claim_line vars n line (StatesDue m)) states
  counted m states f k l g =
      subst (λ (o : Outcome ClaimSofar). StatesAfter o states) (sym (last line n h m g vars l))
      (after_refusal (BadFrame 2 n) (not (eqb (kind_of line) 21)) (refuse (not (count_is n (drop 2 line))) (BadFrame 2 n) (Got (ClaimWhole m))) states
      (after_refusal (BadFrame 2 n) (not (count_is n (drop 2 line))) (Got (ClaimWhole m)) states (record { states_are = f.states_are; states-fit = f.states-fit })))

  pub line_count : (r : Result Held Refusal) (states : List ℕ) → HoldsStates s states → h.due ≡ States → h.p + h.c ≤ h.count → ((v : ℕ) (m : Claim) → h ≡ held_of (StatesDue m) → r ≡ line_of (claim_line v n line (StatesDue m))) → Came (claim_line vars n line s) r states
  line_count r states f d l c =
      let z = due_states s h e d in
      let g : h ≡ held_of (StatesDue z.0) = e ∙ ap held_of z.1 in
      subst (λ (x : ClaimSofar). Came (claim_line vars n line x) r states) (sym z.1)
      (record { line_is = c vars z.0 g; states_are = counted z.0 states (subst (λ (x : ClaimSofar). HoldsStates x states) z.1 f) (sym (ap (λ (x : Held). x.count) g)) l g })

  pub line_none : (out : List ℕ) → h.due ≡ Nothing → Came (claim_line vars n line s) (Err (BadFrame 2 n)) out
  unfolding claim_line
  line_none out d = let z = due_nothing s h e d in came_refused (claim_line vars n line s) (BadFrame 2 n) out (ap (claim_line vars n line) z.1)

-- ---- from line to line

-- The text from line n on, behind lines that came to s.
abbrev rest : ℕ → ℕ → List ℕ → ClaimSofar → Outcome Claim
rest vars n t s = afterwards (walk (claim_line vars) n (ended t) s) (λ u. claim_end (unended t) u)

-- What the next line comes to.
abbrev onward : ℕ → ℕ → List ℕ → Outcome ClaimSofar → Outcome Claim
onward vars n t (Got s) = rest vars n t s
onward vars n t (Refused a) = Refused a

rest_line : (vars n : ℕ) (t line more : List ℕ) (s : ClaimSofar) → ended t ≡ line ∷ ended more → unended t ≡ unended more → rest vars n t s ≡ onward vars (n + 1) more (claim_line vars n line s)
unfolding walk
rest_line vars n t line more s e u =
    ap (λ (l : List (List ℕ)). afterwards (walk (claim_line vars) n l s) (λ u. claim_end (unended t) u)) e
    ∙ ap (λ (l : List ℕ). afterwards (walk (claim_line vars) n (line ∷ ended more) s) (λ u. claim_end l u)) u
    ∙ go (claim_line vars n line s) refl
  where
    go : (o : Outcome ClaimSofar) → claim_line vars n line s ≡ o → afterwards (walk (claim_line vars) n (line ∷ ended more) s) (λ u. claim_end (unended more) u) ≡ onward vars (n + 1) more o
    go (Got x) p = simp (p, walk) (ap (λ (k : ℕ). rest vars k more x) (sym (add-one n)))
    go (Refused a) p = simp (p, walk)

-- The lines before place at are read: what is held, and what the whole comes to from there on.
pub record Reached (text : List ℕ) (vars : ℕ) (states : List ℕ) (held : Held) (at n : ℕ) : Type 0 where
  pub sofar : ClaimSofar
  pub held_is : held ≡ held_of sofar
  pub states-held : HoldsStates sofar states
  pub small : held.p + held.c ≤ 1024
  pub few : 19 * held.count ≤ at
  pub rest_is : read_claim vars text ≡ rest vars n (drop at text) sofar

claim_refused : (o : Outcome Claim) (a : Refusal) (states : List ℕ) → o ≡ Refused a → ClaimCame o (Err a) states
claim_refused o a states e = subst (λ (x : Outcome Claim). ClaimCame x (Err a) states) (sym e) (record { read_is = refl; row_holds = tt })

module _ (text : List ℕ) (vars : ℕ) where
  pub too_long : (states : List ℕ) → 64800 < length text → ClaimCame (read_claim vars text) (Err (TooLong 2)) states
  unfolding read_claim
  too_long states h = claim_refused (read_claim vars text) (TooLong 2) states (simp (lt-ltb 64800 (length text) h, read_claim))

  pub reached_begun : (states : List ℕ) (h : Held) → states ≡ replicate (length states) 0 → length text ≤ 64800 → h ≡ held_of ClaimDue → Reached text vars states h 0 1
  unfolding read_claim
  reached_begun states h f l e =
      record {
        sofar = ClaimDue;
        held_is = e;
        states-held = record { states_are = f ∙ sym (padded-nil (length states)); states-fit = omega arith };
        small = omega (arith, ap (λ (x : Held). x.p + x.c) e);
        few = omega (arith, ap (λ (x : Held). x.count) e);
        rest_is = simp (le-ltb 64800 (length text) l, read_claim);
      }

  module _ {states : List ℕ} {held : Held} {at n : ℕ} (d : Reached text vars states held at n) where
    rest_none : ended (drop at text) ≡ [] → read_claim vars text ≡ claim_end (unended (drop at text)) d.sofar
    unfolding walk
    rest_none e = d.rest_is ∙ ap (λ (l : List (List ℕ)). afterwards (walk (claim_line vars) n l d.sofar) (λ u. claim_end (unended (drop at text)) u)) e

    module _ (end : ℕ) (e : end ≡ at + line_length (drop at text)) where
      pub reached_early : at < length text → end ≡ length text → ClaimCame (read_claim vars text) (Err (BadFrame 2 0)) states
      unfolding claim_end
      reached_early h i =
          let l : length text ≤ end = omega arith in
          let m : at ≤ length text = omega arith in
          claim_refused (read_claim vars text) (BadFrame 2 0) states (rest_none (ended_last text at end e l m) ∙ ap (λ (l : List ℕ). claim_end l d.sofar) (unended_last text at end e l m ∙ drop-cons text at 0 h))

      module _ (l : end ≤ length text) (k : end ≡ length text → ⊥) (i : at ≤ end) where
        -- The line takes as many bytes as it has characters, and one.
        line_size : length (take (end - at) (drop at text)) ≡ end - at
        line_size = length-take-le (end - at) (drop at text) (omega (arith, length-drop at text))

        pub line_room : RoomFor (length text) states → RoomFor (19 * held.count + length (take (end - at) (drop at text)) + 1) states
        line_room room m a b = room m a (omega (arith, line_size, d.few))

        -- What the reader of a line promises of a result, at this line.
        abbrev pub LineCame : Result Held Refusal → List ℕ → Type 0
        LineCame r out = (s : ClaimSofar) → held ≡ held_of s → HoldsStates s states → Came (claim_line vars n (take (end - at) (drop at text)) s) r out

        module _ (r : Result Held Refusal) (out : List ℕ) (c : LineCame r out) where
          abbrev outcome : Outcome ClaimSofar
          outcome = claim_line vars n (take (end - at) (drop at text)) d.sofar

          came : Came outcome r out
          came = c d.sofar d.held_is d.states-held

          the_line : read_claim vars text ≡ onward vars (n + 1) (drop (end + 1) text) outcome
          the_line =
              let h : end < length text = omega arith in
              d.rest_is ∙ rest_line vars n (drop at text) (take (end - at) (drop at text)) (drop (end + 1) text) d.sofar (ended_at text at end e h i) (unended_at text at end e h i)

          pub reached_refused : (a : Refusal) → r ≡ Err a → ClaimCame (read_claim vars text) (Err a) out
          reached_refused a q = claim_refused (read_claim vars text) a out (the_line ∙ ap (onward vars (n + 1) (drop (end + 1) text)) (line_refused outcome a (sym q ∙ came.line_is)))

          pub reached_on : (x : Held) → r ≡ Ok x → x.p + x.c ≤ 1024 → 19 * x.count ≤ 19 * held.count + length (take (end - at) (drop at text)) + 1 → Reached text vars out x (end + 1) (n + 1)
          reached_on x q small few =
              let g = line_got outcome x (sym q ∙ came.line_is) in
              record {
                sofar = g.0;
                held_is = g.2;
                states-held = subst (λ (o : Outcome ClaimSofar). StatesAfter o out) g.1 came.states_are;
                small = small;
                few = omega (arith, line_size, d.few);
                rest_is = the_line ∙ ap (onward vars (n + 1) (drop (end + 1) text)) g.1;
              }

    behind : length text ≤ at → read_claim vars text ≡ claim_end [] d.sofar
    unfolding ended unended
    behind h = rest_none (ap ended (drop_of_length-le text {i = at} h)) ∙ ap (λ (l : List ℕ). claim_end (unended l) d.sofar) (drop_of_length-le text {i = at} h)

    pub reached_unfinished : length text ≤ at → (held.due ≡ Nothing → ⊥) → ClaimCame (read_claim vars text) (Err (BadFrame 2 0)) states
    unfolding claim_end
    reached_unfinished h i = claim_refused (read_claim vars text) (BadFrame 2 0) states (behind h ∙ go d.sofar d.held_is)
      where
        go : (s : ClaimSofar) → held ≡ held_of s → claim_end [] s ≡ Refused (BadFrame 2 0)
        go ClaimDue e = refl
        go (StatesDue m) e = refl
        go (ClaimWhole m) e = absurd (i (ap (λ (x : Held). x.due) e))

    pub reached_done : length text ≤ at → held.due ≡ Nothing → ClaimCame (read_claim vars text) (Ok (record { p = held.p; c = held.c })) states
    unfolding claim_end
    reached_done h i =
        let z = due_nothing d.sofar held d.held_is i in
        let e : held ≡ held_of (ClaimWhole z.0) = d.held_is ∙ ap held_of z.1 in
        let f : HoldsStates (ClaimWhole z.0) states = subst (λ (x : ClaimSofar). HoldsStates x states) z.1 d.states-held in
        subst (λ (o : Outcome Claim). ClaimCame o (Ok (record { p = held.p; c = held.c })) states) (sym (behind h ∙ ap (claim_end []) z.1))
        (record { read_is = ap (λ (x : Held). Ok (record { p = x.p; c = x.c })) e; row_holds = (f.states_are, f.states-fit) })
