-- Laws of decks and claims written as frames.
use mathlib.Core.Path.{◌≡◌, refl, sym, ap, ◌∙◌}
use mathlib.Core.Bool.{true}
use mathlib.Core.List.{List, [], ◌∷◌, ◌++◌, append_assoc}
use Prim.Native.Nat.{ℕ, suc, ◌+◌, ◌-◌, ◌*◌, ◌<◌, ◌≤◌}
use native.Mathlib.Omega.{arith}
use native.Mathlib.Nat.{zero-add}
use borrow.Author.Tests.{lt-ltb, le-ltb}
use lib.ListN.{length, take, get_or, replicate, length-append, length-take, length-drop}
use lib.Seq.{take_all}
use borrow.Rule.Slice.PartMut.{mid_of, put_mid}
use Rattle.std.specs.Prelude.{Ok, Err}
use Rattle.lists.specs.Lists.{Each, keep, padded, splice}
use Rattle.lists.proofs.Laws.{each_replicate, each_append, each_map, keep_all, length-splice, splice-rest, part-rest, take-padded}
use Rattle.sets.specs.Sets.{has, ◌⊆◌}
use Rattle.sets.proofs.Laws.{has_true}
use Rattle.logic.specs.Expressions.{Expr, code}
use Rattle.logic.specs.Expressions as Expressions
use Rattle.logic.specs.Decks.{Equation, Deck, Allowed, Accepted, base, total_nodes}
use Rattle.logic.specs.Meaning.{Sized}
use Rattle.logic.specs.Pieces.{equations_of}
use Rattle.logic.proofs.Codes.{below_more, written_below, length-code, code_fits}
use Rattle.decks.specs.declared.Equations.{Equations}
use Rattle.decks.specs.declared.Rows.{Rows}
use Rattle.decks.specs.declared.Deck.{Deck as Stored}
use Rattle.decks.specs.declared.Refusal.TheVariants.{NoRoom}
use Rattle.decks.specs.Stored.{ends_of, codes, stored}
use Rattle.decks.specs.Lent.{Hold, in_rows}
use Rattle.decks.proofs.Stored.{length-ends, ends_at, stored_holds, stored_rows, stored_inits, stored_property}
use Rattle.frames.specs.Hex.{pair, pairs}
use Rattle.frames.specs.Written.{claim_kind, state_kind, claim_count_kind, claim_frames, set_bytes, set_kind, init_kind, property_kind, count_kind, node_pairs, frame, state_frames, equation_frames, deck_frames}
use Rattle.frames.proofs.HexLaws.{length_pairs, pairs_four}
use Rattle.frames.proofs.ExprLaws.{length_node_pairs}
use Rattle.frames.proofs.SizeLaws.{length_state_frames, length_equation_frames, length-deck_frames, length_claim_frames}
use Rattle.writing.specs.Parts.{Nodes}
use Rattle.writing.proofs.Laws.{splice-behind, three_parts}
use Rattle.equations.proofs.Laws.{count_is_equations}
use Rattle.texts.specs.Texts.{Filled, filled}
use Rattle.texts.specs.Lent.{Lent, deck_of, frames_of, claim_of}

-- ---- 01 and 02s; 04 and 05

pub head_frames : (vars : ℕ) (inits : List ℕ) (r : ℕ) (out₀ x y : List ℕ) → r ≡ 2 * 8 + 3 → x ≡ splice 0 (frame set_kind (pairs set_bytes vars)) out₀
    → y ≡ splice 0 (state_frames init_kind inits) (mid_of r (length x - r) x)
    → put_mid r (length x - r) x y ≡ splice 0 (frame set_kind (pairs set_bytes vars) ++ state_frames init_kind inits) out₀
head_frames vars inits r out₀ x y er ex ey =
    splice-behind r (frame set_kind (pairs set_bytes vars)) (state_frames init_kind inits) out₀ x y ex
    (omega (arith, length-append (pairs set_bytes vars) (10 ∷ []), length_pairs set_bytes vars)) ey

pub tail_frames : (property : List ℕ) (frames r : ℕ) (out₀ x y z : List ℕ) → x ≡ splice 0 (pair 4) out₀ → r ≡ 2 * length property + 1
    → y ≡ splice 0 (node_pairs property ++ (10 ∷ [])) (mid_of 2 (length x - 2) x)
    → z ≡ splice 0 (frame 5 (pairs 2 frames)) (mid_of (r + 2) (length (put_mid 2 (length x - 2) x y) - (r + 2)) (put_mid 2 (length x - 2) x y))
    → put_mid (r + 2) (length (put_mid 2 (length x - 2) x y) - (r + 2)) (put_mid 2 (length x - 2) x y) z
    ≡ splice 0 (frame property_kind (node_pairs property) ++ frame count_kind (pairs 2 frames)) out₀
tail_frames property frames r out₀ x y z ex er ey ez =
    three_parts 2 (r + 2) (pair 4) (node_pairs property ++ (10 ∷ [])) (frame 5 (pairs 2 frames)) out₀ x y z ex refl ey
    (omega (arith, er, length-append (node_pairs property) (10 ∷ []), length_node_pairs property)) ez

-- ---- the deck of a set

-- What the writer of the equations has done.
abbrev pub EquationsPut : ℕ → Rows → ℕ → List ℕ → List ℕ → Type 0
EquationsPut vars e m x y = (qs : List Equation) → Hold qs (in_rows e) → (m ≡ length (equation_frames (equations_of vars qs))) × (y ≡ splice 0 (equation_frames (equations_of vars qs)) x)

module _ (vars : ℕ) (qs : List Equation) (x : Expr) (inits : List ℕ) (e : Rows) (property : List ℕ) (l : Lent qs x inits e property) where
  long : length (frames_of vars inits qs x) ≡ 19 * length inits + 19 + length (equation_frames (equations_of vars qs)) + (2 * length property + 10)
  long =
      omega (
        arith,
        length-deck_frames (deck_of vars inits qs x),
        length_equation_frames (equations_of vars qs),
        length-code x,
        ap (λ (m : List ℕ). length m) l.holds-property,
      )

  pub frames_size : (n : ℕ) → n ≡ length (equation_frames (equations_of vars qs)) → 19 * length inits + 19 + n + (2 * length property + 10) ≡ length (frames_of vars inits qs x)
  frames_size n h = omega (arith, long)

  pub head-room : (n : ℕ) → length (frames_of vars inits qs x) ≤ n → 19 * length inits + 19 ≤ n
  head-room n h = omega (arith, long)

  module _ (out₀ head : List ℕ) (h : ℕ) (room : length (frames_of vars inits qs x) ≤ length out₀) (same : length head ≡ length out₀) (eh : h ≡ 19 * length inits + 19) where
    pub head-within : h ≤ length head
    head-within = omega (arith, long)

    pub equations-free : length (equation_frames (equations_of vars qs)) ≤ length (mid_of h (length head - h) head)
    equations-free = omega (arith, long, ap (λ (k : List ℕ). length k) (part-rest h head), length-drop h head)

    module _ (m : ℕ) (y : List ℕ) (o : EquationsPut vars e m (mid_of h (length head - h) head) y) where
      put_bytes : m ≡ length (equation_frames (equations_of vars qs))
      put_bytes = (o qs l.holds-equations).0

      length_put : length (put_mid h (length head - h) head y) ≡ length out₀
      length_put =
          ap (λ (k : List ℕ). length k) (splice-rest h (equation_frames (equations_of vars qs)) head y (o qs l.holds-equations).1)
          ∙ length-splice h (equation_frames (equations_of vars qs)) head (omega (arith, long))
          ∙ same

      pub put_within : h + m ≤ length (put_mid h (length head - h) head y)
      put_within = omega (arith, long, put_bytes, length_put)

      pub tail_free : 2 * length property + 10 ≤ length (mid_of (h + m) (length (put_mid h (length head - h) head y) - (h + m)) (put_mid h (length head - h) head y))
      tail_free =
          omega (
            arith,
            long,
            put_bytes,
            length_put,
            ap (λ (k : List ℕ). length k) (part-rest (h + m) (put_mid h (length head - h) head y)),
            length-drop (h + m) (put_mid h (length head - h) head y),
          )

  pub frames_bytes : (head y : List ℕ) (h m r : ℕ) → h ≡ 19 * length inits + 19 → EquationsPut vars e m head y → r ≡ 2 * length property + 10 → h + m + r ≡ length (frames_of vars inits qs x)
  frames_bytes head y h m r eh o er = omega (arith, long, (o qs l.holds-equations).0)

  pub frames_wrote : (out₀ head y z : List ℕ) (h m n : ℕ) → h ≡ 19 * length inits + 19
      → head ≡ splice 0 (frame set_kind (pairs set_bytes vars) ++ state_frames init_kind inits) out₀
      → EquationsPut vars e m (mid_of h (length head - h) head) y
      → n ≡ length (keep (has vars) (take e.count e.lefts.now))
      → z ≡ splice 0 (frame property_kind (node_pairs property) ++ frame count_kind (pairs 2 (length inits + n + 2)))
      (mid_of (h + m) (length (put_mid h (length head - h) head y) - (h + m)) (put_mid h (length head - h) head y))
      → put_mid (h + m) (length (put_mid h (length head - h) head y) - (h + m)) (put_mid h (length head - h) head y) z ≡ splice 0 (frames_of vars inits qs x) out₀
  unfolding deck_frames
  frames_wrote out₀ head y z h m n eh ex o en ez =
      let set : List ℕ = frame set_kind (pairs set_bytes vars) in
      let states : List ℕ = state_frames init_kind inits in
      let mids : List ℕ = equation_frames (equations_of vars qs) in
      let last : List ℕ → ℕ → List ℕ = λ ns k. frame property_kind (node_pairs ns) ++ frame count_kind (pairs 2 k) in
      let count : length inits + n + 2 ≡ length inits + length (equations_of vars qs) + 2 = omega (arith, en, count_is_equations vars qs (in_rows e) l.holds-equations) in
      let before : h ≡ length (set ++ states) =
      omega (arith, length-append set states, length-append (pairs set_bytes vars) (10 ∷ []), length_pairs set_bytes vars, length_state_frames init_kind inits) in
      three_parts h (h + m) (set ++ states) mids (last property (length inits + n + 2)) out₀ head y z ex before (o qs l.holds-equations).1
      (omega (arith, before, (o qs l.holds-equations).0)) ez
      ∙ ap (λ (t : List ℕ). splice 0 t out₀)
      (append_assoc set states (mids ++ last property (length inits + n + 2))
      ∙ ap (λ (k : ℕ). set ++ (states ++ (mids ++ last property k))) count
      ∙ ap (λ (ns : List ℕ). set ++ (states ++ (mids ++ last ns (length inits + length (equations_of vars qs) + 2)))) l.holds-property)

-- ---- texts into buffers

module _ (text out : List ℕ) (needed : ℕ) (e : needed ≡ length text) where
  refused : length out < needed → filled text out ≡ record { report = Err (NoRoom (length text)); buffer = out }
  unfolding filled
  refused h = simp (lt-ltb (length out) (length text) (omega (arith, e, h)), filled)

  accepted : needed ≤ length out → filled text out ≡ record { report = Ok (length text); buffer = splice 0 text out }
  unfolding filled
  accepted h = simp (le-ltb (length out) (length text) (omega (arith, e, h)), filled)

  pub refused_report : length out < needed → Err (NoRoom needed) ≡ (filled text out).report
  refused_report h = ap (λ (k : ℕ). Err (NoRoom k)) e ∙ sym (ap (λ (f : Filled). f.report) (refused h))

  pub refused_buffer : length out < needed → out ≡ (filled text out).buffer
  refused_buffer h = sym (ap (λ (f : Filled). f.buffer) (refused h))

  pub accepted-report : (n : ℕ) → needed ≤ length out → n ≡ length text → Ok n ≡ (filled text out).report
  accepted-report n h k = ap (λ (m : ℕ). Ok m) k ∙ sym (ap (λ (f : Filled). f.report) (accepted h))

  pub accepted-buffer : (last : List ℕ) → needed ≤ length out → last ≡ splice 0 text out → last ≡ (filled text out).buffer
  accepted-buffer last h o = o ∙ sym (ap (λ (f : Filled). f.buffer) (accepted h))

-- ---- claims

pub claim_frames_lem : (p c : ℕ) (states : List ℕ) (h m : ℕ) (out₀ x y z : List ℕ) → p + c ≤ 1024 → p + c ≤ length states → h ≡ 2 * 4 + 3
    → x ≡ splice 0 (frame claim_kind (pairs 4 (p * 65536 + c))) out₀ → m ≡ 19 * (p + c)
    → y ≡ splice 0 (state_frames state_kind (take (p + c) states)) (mid_of h (length x - h) x)
    → z ≡ splice 0 (frame claim_count_kind (pairs 2 (p + c + 1))) (mid_of (h + m) (length (put_mid h (length x - h) x y) - (h + m)) (put_mid h (length x - h) x y))
    → put_mid (h + m) (length (put_mid h (length x - h) x y) - (h + m)) (put_mid h (length x - h) x y) z ≡ splice 0 (claim_frames (claim_of p c states)) out₀
unfolding claim_frames
claim_frames_lem p c states h m out₀ x y z few there eh ex em ey ez =
    let first : List ℕ → List ℕ = λ l. frame claim_kind l in
    let mids : List ℕ = state_frames state_kind (take (p + c) states) in
    let last : ℕ → List ℕ = λ k. frame claim_count_kind (pairs 2 k) in
    let count : p + c + 1 ≡ length (take (p + c) states) + 1 = omega (arith, length-take (p + c) states) in
    let head : h ≡ length (first (pairs 4 (p * 65536 + c))) = omega (arith, length-append (pairs 4 (p * 65536 + c)) (10 ∷ []), length_pairs 4 (p * 65536 + c)) in
    three_parts h (h + m) (first (pairs 4 (p * 65536 + c))) mids (last (p + c + 1)) out₀ x y z ex head ey
    (omega (arith, head, length_state_frames state_kind (take (p + c) states), length-take (p + c) states)) ez
    ∙ ap (λ (k : ℕ). splice 0 (first (pairs 4 (p * 65536 + c)) ++ (mids ++ last k)) out₀) count
    ∙ ap (λ (l : List ℕ). splice 0 (first l ++ (mids ++ last (length (take (p + c) states) + 1))) out₀) (pairs_four p c (omega arith))

module _ (p c : ℕ) (states : List ℕ) (s : Sized base (claim_of p c states)) where
  pub claim_bytes_lem : 19 * (p + c) + 18 ≡ length (claim_frames (claim_of p c states))
  claim_bytes_lem = omega (arith, length_claim_frames (claim_of p c states), s.all)

  pub claim_counted : (r : ℕ) → r ≡ 19 * (p + c) + 18 → r ≡ length (claim_frames (claim_of p c states))
  claim_counted r e = e ∙ claim_bytes_lem

-- ---- decks in memory

nodes-padded : (n : ℕ) (ns : List ℕ) → Nodes ns → Nodes (padded n ns)
nodes-padded n ns ps = each_append (λ (x : ℕ). x < 266) ns (replicate (n - length ns) 0) ps (each_replicate (λ (x : ℕ). x < 266) (n - length ns) 0 (omega arith))

-- The nodes of all equations end where those of the last one do.
last_end : (qs : List Equation) → get_or (ends_of 0 qs) (length (ends_of 0 qs) - 1) 0 ≡ total_nodes qs
unfolding ends_of total_nodes
last_end [] = refl
last_end (q ∷ qs) =
    let last : length (ends_of 0 (q ∷ qs)) - 1 ≡ length qs = omega (arith, length-ends 0 (q ∷ qs)) in
    ap (λ (k : ℕ). get_or (ends_of 0 (q ∷ qs)) k 0) last
    ∙ ends_at 0 (q ∷ qs) (length qs) (omega arith)
    ∙ zero-add _
    ∙ ap total_nodes (take_all (suc (length qs)) (q ∷ qs) (omega arith))

module _ (D : Deck) (a : Accepted base D) where
  narrow : (x : Expr) → (Expressions.written x) ⊆ D.vars → Nodes (code x)
  narrow x f = code_fits x (below_more 64 256 x (omega arith) (written_below 64 D.vars x a.vars_in f))

  all-narrow : (qs : List Equation) → Each (Allowed base D.vars) qs → Nodes (codes qs)
  unfolding codes
  all-narrow [] ps = tt
  all-narrow (q ∷ qs) ps = each_append (λ (n : ℕ). n < 266) (code q.right) (codes qs) (narrow q.right ps.0.uses) (all-narrow qs ps.1)

  module _ (d : Stored) (e : d ≡ stored D) where
    pub deck_counts : (d.initials ≤ base.initials) × (d.equations.count ≤ base.equations) × (d.size ≤ base.property_nodes)
    deck_counts = (
      omega (arith, a.inits-most, ap (λ (x : Stored). x.initials) e),
      omega (arith, a.equations-most, ap (λ (x : Stored). x.equations.count) e),
      omega (arith, a.property-nodes, ap (λ (x : Stored). x.size) e),
    )

    pub deck_bytes_lem : (n : ℕ) (ends : List ℕ) → ends ≡ take d.equations.count d.equations.ends → n ≡ get_or ends (length ends - 1) 0
        → 19 * d.initials + 5 * length ends + 2 * (n + d.size) + 29 ≡ length (deck_frames D)
    deck_bytes_lem n ends h q =
        let held = stored_holds D d e in
        let same : ends ≡ ends_of 0 D.equations =
        h
        ∙ ap (λ (l : List ℕ). take d.equations.count l) held.ends_are
        ∙ ap (λ (k : ℕ). take k (padded base.equations (ends_of 0 D.equations))) (held.count_is ∙ sym (length-ends 0 D.equations))
        ∙ take-padded base.equations (ends_of 0 D.equations) in
        omega (
          arith,
          q,
          ap (λ (l : List ℕ). get_or l (length l - 1) 0) same ∙ last_end D.equations,
          ap (λ (l : List ℕ). length l) same ∙ length-ends 0 D.equations,
          length-deck_frames D,
          ap (λ (x : Stored). x.initials) e,
          ap (λ (x : Stored). x.size) e,
        )

    -- An accepted deck in memory is lent as it stands.
    pub stored_lent : (inits property : List ℕ) (equations : Rows) → inits ≡ take d.initials d.inits → property ≡ take d.size d.property → in_rows equations ≡ d.equations
        → Lent D.equations D.property inits equations property
    stored_lent inits property equations i p r =
        let states : inits ≡ D.inits = i ∙ stored_inits D d e in
        let nodes : property ≡ code D.property = p ∙ stored_property D d e in
        record {
          holds-equations = stored_rows D d e equations r;
          holds-property = nodes;
          nodes_in = rw (ap (λ (x : Equations). x.nodes) r ∙ ap (λ (x : Stored). x.equations.nodes) e) (nodes-padded base.equation_nodes (codes D.equations) (all-narrow D.equations a.equations-allowed));
          property_in = rw nodes (narrow D.property a.property_in);
          initials-most = omega (arith, a.inits-most, ap (λ (l : List ℕ). length l) states);
          equations-most = omega (arith, deck_counts.1, ap (λ (x : Equations). x.count) r);
          property-most = omega (arith, a.property-nodes, length-code D.property, ap (λ (l : List ℕ). length l) nodes);
        }

    pub stored_frames : (inits : List ℕ) → inits ≡ take d.initials d.inits → frames_of d.vars inits D.equations D.property ≡ deck_frames D
    stored_frames inits i =
        ap (λ (l : List ℕ). frames_of d.vars l D.equations D.property) (i ∙ stored_inits D d e)
        ∙ ap (λ (x : Stored). frames_of x.vars D.inits D.equations D.property) e
        ∙ ap (λ (qs : List Equation). deck_frames (record { vars = D.vars; inits = D.inits; equations = qs; property = D.property }))
        (keep_all (λ (q : Equation). has D.vars q.left) D.equations
        (each_map (Allowed base D.vars) (λ (q : Equation). has D.vars q.left ≡ true) D.equations (λ q k. has_true D.vars q.left k.its) a.equations-allowed))

    module _ (inits property : List ℕ) (i : inits ≡ take d.initials d.inits) (p : property ≡ take d.size d.property) where
      pub deck_room : (needed room : ℕ) → needed ≡ length (deck_frames D) → needed ≤ room → length (frames_of d.vars inits D.equations D.property) ≤ room
      deck_room needed room h k = omega (arith, h, ap (λ (l : List ℕ). length l) (stored_frames inits i))

      module _ (equations : Rows) (r : in_rows equations ≡ d.equations) (n : ℕ) (out₀ out : List ℕ)
          (f : (qs : List Equation) (x : Expr) → Lent qs x inits equations property → (n ≡ length (frames_of d.vars inits qs x)) × (out ≡ splice 0 (frames_of d.vars inits qs x) out₀)) where
        pub deck_length : n ≡ length (deck_frames D)
        deck_length = (f D.equations D.property (stored_lent inits property equations i p r)).0 ∙ ap (λ (l : List ℕ). length l) (stored_frames inits i)

        pub deck_wrote : out ≡ splice 0 (deck_frames D) out₀
        deck_wrote = (f D.equations D.property (stored_lent inits property equations i p r)).1 ∙ ap (λ (l : List ℕ). splice 0 l out₀) (stored_frames inits i)
