-- Laws of decks as lines: the lines of a deck's frames, and what the tests of its lines say.
use mathlib.Core.Path.{◌≡◌, refl, sym, ap, ◌∙◌}
use mathlib.Core.List.{List, [], ◌∷◌, ◌++◌, map, append_assoc, append-nil}
use Prim.Native.Nat.{ℕ, ◌+◌, ◌≤◌}
use native.Mathlib.Omega.{arith}
use lib.ListN.{length, length-append, length-map}
use Rattle.lists.specs.Lists.{Each, ◌among◌, joined}
use Rattle.lists.proofs.Laws.{each_append}
use Rattle.logic.specs.Expressions.{code}
use Rattle.logic.specs.Decks.{Equation, Deck, Rising}
use Rattle.frames.specs.Hex.{pair, pairs}
use Rattle.frames.specs.Written.{set_bytes, set_kind, init_kind, equation_kind, property_kind, count_kind, node_pairs, frame, state_frames, equation_frames, deck_frames}
use Rattle.frames.specs.Read.{last_left}
use Rattle.frames.proofs.HexLaws.{hex_from_zero, pairs-from_zero}
use Rattle.frames.proofs.ExprLaws.{node_pairs-from_zero}
use Rattle.frames.proofs.LineLaws.{line, frame-joined, state_lines, state_frames_joined, line_free, state_lines_free}

-- ---- rising left sides

-- The last left side is the highest.
rising-most : (q : Equation) (qs : List Equation) → Rising (q ∷ qs) → q.left ≤ last_left (q ∷ qs)
unfolding last_left
rising-most q [] h = omega arith
rising-most q (r ∷ qs) h = omega (arith, rising-most r qs h.1, h.0.0)

pub rising_snoc : (qs : List Equation) (q : Equation) → Rising qs → last_left qs ≤ q.left → Rising (qs ++ q ∷ [])
unfolding last_left
rising_snoc [] q h l = (tt, tt)
rising_snoc (p ∷ []) q h l = ((l, tt), (tt, tt))
rising_snoc (p ∷ r ∷ qs) q h l = (
  each_append (λ s. p.left ≤ s.left) (r ∷ qs) (q ∷ []) h.0 (omega (arith, rising-most r qs h.1, h.0.0, l), tt),
  rising_snoc (r ∷ qs) q h.1 l,
)

pub rising-before : (ps : List Equation) (q : Equation) (qs : List Equation) → Rising (ps ++ q ∷ qs) → last_left ps ≤ q.left
unfolding last_left
rising-before [] q qs h = omega arith
rising-before (p ∷ []) q qs h = h.0.0
rising-before (p ∷ r ∷ ps) q qs h = rising-before (r ∷ ps) q qs h.1

-- ---- the lines of a deck

abbrev pub equation_content : Equation → List ℕ
equation_content q = pair q.left ++ node_pairs (code q.right)

abbrev pub equation_lines : List Equation → List (List ℕ)
equation_lines qs = map (λ (q : Equation). line equation_kind (equation_content q)) qs

-- 01, the 02s and the 03s.
abbrev pub head_lines : Deck → List (List ℕ)
head_lines d = line set_kind (pairs set_bytes d.vars) ∷ (state_lines init_kind d.inits ++ equation_lines d.equations)

-- 04.
abbrev pub property_content : Deck → List ℕ
property_content d = node_pairs (code d.property)

abbrev pub property_of : Deck → List ℕ
property_of d = line property_kind (property_content d)

-- 05.
abbrev pub count_content : Deck → List ℕ
count_content d = pairs 2 (length d.inits + length d.equations + 2)

abbrev pub count_of : Deck → List ℕ
count_of d = line count_kind (count_content d)

abbrev pub deck_lines : Deck → List (List ℕ)
deck_lines d = head_lines d ++ (property_of d ∷ count_of d ∷ [])

equation_frames_joined : (qs : List Equation) (ls : List (List ℕ)) → equation_frames qs ++ joined ls ≡ joined (equation_lines qs ++ ls)
unfolding equation_frames
equation_frames_joined [] ls = refl
equation_frames_joined (q ∷ qs) ls =
    append_assoc (frame equation_kind (equation_content q)) (equation_frames qs) (joined ls)
    ∙ ap (λ (t : List ℕ). frame equation_kind (equation_content q) ++ t) (equation_frames_joined qs ls)
    ∙ frame-joined equation_kind (equation_content q) (equation_lines qs ++ ls)

-- A deck's frames are its lines, each followed by byte 10.
pub deck_frames_joined : (d : Deck) → deck_frames d ≡ joined (deck_lines d)
unfolding deck_frames joined
deck_frames_joined d =
    let set : List ℕ = frame set_kind (pairs set_bytes d.vars) in
    let last : List (List ℕ) = property_of d ∷ count_of d ∷ [] in
    ap
    (λ (t : List ℕ). set ++ (state_frames init_kind d.inits ++ (equation_frames d.equations ++ t)))
    (ap (λ (t : List ℕ). frame property_kind (property_content d) ++ t) (sym (append-nil (frame count_kind (count_content d))) ∙ frame-joined count_kind (count_content d) [])
    ∙ frame-joined property_kind (property_content d) (count_of d ∷ []))
    ∙ ap (λ (t : List ℕ). set ++ (state_frames init_kind d.inits ++ t)) (equation_frames_joined d.equations last)
    ∙ ap (λ (t : List ℕ). set ++ t) (state_frames_joined init_kind d.inits (equation_lines d.equations ++ last))
    ∙ frame-joined set_kind (pairs set_bytes d.vars) (state_lines init_kind d.inits ++ (equation_lines d.equations ++ last))
    ∙ ap
    (λ (ls : List (List ℕ)). joined (line set_kind (pairs set_bytes d.vars) ∷ ls))
    (sym (append_assoc (state_lines init_kind d.inits) (equation_lines d.equations) last))

equation_lines_free : (qs : List Equation) → Each (λ l. 10 among l → ⊥) (equation_lines qs)
equation_lines_free [] = tt
equation_lines_free (q ∷ qs) = (line_free equation_kind (equation_content q) (hex_from_zero _, (hex_from_zero _, node_pairs-from_zero (code q.right))), equation_lines_free qs)

pub deck_lines_free : (d : Deck) → Each (λ l. 10 among l → ⊥) (deck_lines d)
deck_lines_free d = (
  line_free set_kind (pairs set_bytes d.vars) (pairs-from_zero set_bytes d.vars),
  each_append
      (λ l. 10 among l → ⊥)
      (state_lines init_kind d.inits ++ equation_lines d.equations)
      (property_of d ∷ count_of d ∷ [])
      (each_append (λ l. 10 among l → ⊥) (state_lines init_kind d.inits) (equation_lines d.equations) (state_lines_free init_kind d.inits) (equation_lines_free d.equations))
      (line_free property_kind (property_content d) (node_pairs-from_zero (code d.property)), (line_free count_kind (count_content d) (pairs-from_zero 2 (length d.inits + length d.equations + 2)), tt)),
)

pub length-head_lines : (d : Deck) → length (head_lines d) ≡ length d.inits + length d.equations + 1
length-head_lines d =
    omega (
      arith,
      length-append (state_lines init_kind d.inits) (equation_lines d.equations),
      length-map d.inits (λ (s : ℕ). line init_kind (pairs set_bytes s)),
      length-map d.equations (λ (q : Equation). line equation_kind (equation_content q)),
    )
