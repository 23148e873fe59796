-- Laws of lines: what a line of each form is read as, what a line that is read was.
use mathlib.Core.Path.{◌≡◌, refl, sym, ap, ◌∙◌}
use mathlib.Core.List.{List, [], ◌∷◌, ◌++◌, map, append_assoc, append-nil}
use mathlib.Core.Option.{Option, none, some}
use Prim.Native.Nat.{ℕ, ◌+◌, ◌^◌, ◌<◌, ◌≤◌}
use native.Mathlib.Omega.{arith}
use borrow.Author.Tests.{eq-eqb, eqb-true}
use lib.Dec.{eqb}
use lib.ListN.{drop}
use Rattle.lists.specs.Lists.{Each, ◌among◌, joined}
use Rattle.lists.proofs.Laws.{each_at}
use Rattle.logic.specs.Expressions.{Expr, levels, code, Below}
use Rattle.logic.specs.Decks.{base}
use Rattle.decks.specs.Answers.{Got}
use Rattle.decks.proofs.Outcomes.{Given, refused_got, refuse_not_given, afterwards_given}
use Rattle.frames.specs.Hex.{pair, pairs, number}
use Rattle.frames.specs.Written.{set_bytes, frame, state_frames, node_pairs}
use Rattle.frames.specs.Read.{read_expr, whole_expr, whole_number, kind_of, count_line}
use Rattle.decks.specs.Readings.{Reading, Whole, Wrong, Deep}
use Rattle.frames.proofs.HexLaws.{byte_pair, pair_byte, hex_from_zero, pairs-from_zero, number-pairs, pairs-number}
use Rattle.frames.proofs.ExprLaws.{expr_written_read, expr_read_written}

-- ---- lines

-- A frame without its byte 10: its kind and its content.
abbrev pub line : ℕ → List ℕ → List ℕ
line k content = pair k ++ content

pub kind_line : (k : ℕ) (content : List ℕ) → k < 256 → kind_of (line k content) ≡ k
unfolding kind_of
kind_line k content h = byte_pair k h

pub line_kind : (l : List ℕ) (k : ℕ) → kind_of l ≡ k → k < 256 → l ≡ line k (drop 2 l)
unfolding kind_of
line_kind [] k e h = absurd (omega arith)
line_kind (c ∷ []) k e h = absurd (omega arith)
line_kind (c ∷ d ∷ cs) k e h = ap (λ (p : List ℕ). p ++ cs) (sym (pair_byte c d (omega arith)) ∙ ap pair e)

pub frame-joined : (k : ℕ) (content : List ℕ) (ls : List (List ℕ)) → frame k content ++ joined ls ≡ joined (line k content ∷ ls)
unfolding joined
frame-joined k content ls = ap (λ (t : List ℕ). pair k ++ t) (append_assoc content (10 ∷ []) (joined ls))

-- The lines of states.
abbrev pub state_lines : ℕ → List ℕ → List (List ℕ)
state_lines k ss = map (λ (s : ℕ). line k (pairs set_bytes s)) ss

pub state_frames_joined : (k : ℕ) (ss : List ℕ) (ls : List (List ℕ)) → state_frames k ss ++ joined ls ≡ joined (state_lines k ss ++ ls)
unfolding state_frames
state_frames_joined k [] ls = refl
state_frames_joined k (s ∷ ss) ls =
    append_assoc (frame k (pairs set_bytes s)) (state_frames k ss) (joined ls)
    ∙ ap (λ (t : List ℕ). frame k (pairs set_bytes s) ++ t) (state_frames_joined k ss ls)
    ∙ frame-joined k (pairs set_bytes s) (state_lines k ss ++ ls)

-- Characters from `0` on hold no byte 10.
pub from_zero_free : (l : List ℕ) → Each (λ c. 48 ≤ c) l → 10 among l → ⊥
from_zero_free l h m = let z = each_at (λ c. 48 ≤ c) l 10 h m in omega arith

pub line_free : (k : ℕ) (content : List ℕ) → Each (λ c. 48 ≤ c) content → 10 among line k content → ⊥
line_free k content h = from_zero_free (line k content) (hex_from_zero _, (hex_from_zero _, h))

pub state_lines_free : (k : ℕ) (ss : List ℕ) → Each (λ l. 10 among l → ⊥) (state_lines k ss)
state_lines_free k [] = tt
state_lines_free k (s ∷ ss) = (line_free k (pairs set_bytes s) (pairs-from_zero set_bytes s), state_lines_free k ss)

-- ---- contents

pub whole-number-pairs : (t n k x : ℕ) → x < 256 ^ k → whole_number t n k (pairs k x) ≡ Got x
unfolding whole_number
whole-number-pairs t n k x h = simp (number-pairs k x h, whole_number)

pub whole-number_got : (t n k : ℕ) (cs : List ℕ) (x : ℕ) → whole_number t n k cs ≡ Got x → (cs ≡ pairs k x) × (x < 256 ^ k)
unfolding whole_number
whole-number_got t n k cs x e = go (number k cs) refl
  where
    go : (r : Option ℕ) → number k cs ≡ r → (cs ≡ pairs k x) × (x < 256 ^ k)
    go none p = refused_got (simp (p, whole_number) at e)
    go (some y) p = let f : whole_number t n k cs ≡ Got y = simp (p, whole_number) in pairs-number k cs x (cc)

pub whole_expr_pairs : (n : ℕ) (e : Expr) → levels e ≤ base.levels → Below 64 e → whole_expr n (node_pairs (code e)) ≡ Got e
unfolding whole_expr
whole_expr_pairs n e h b = let whole = ap (read_expr base.levels) (sym (append-nil (node_pairs (code e)))) ∙ expr_written_read e base.levels [] h b in simp (whole, whole_expr)

pub whole_expr_got : (n : ℕ) (cs : List ℕ) (e : Expr) → whole_expr n cs ≡ Got e → (cs ≡ node_pairs (code e)) × (levels e ≤ base.levels) × Below 64 e
unfolding whole_expr
whole_expr_got n cs e h = go (read_expr base.levels cs) refl
  where
    go : (r : Reading) → read_expr base.levels cs ≡ r → (cs ≡ node_pairs (code e)) × (levels e ≤ base.levels) × Below 64 e
    go (Whole a []) p =
        let f : whole_expr n cs ≡ Got a = simp (p, whole_expr) in
        let w = expr_read_written base.levels cs e [] (cc) in
        (w.0 ∙ append-nil (node_pairs (code e)), w.1, w.2)
    go (Whole a (r ∷ rs)) p = refused_got (simp (p, whole_expr) at h)
    go (Wrong rs) p = refused_got (simp (p, whole_expr) at h)
    go (Deep rs) p = refused_got (simp (p, whole_expr) at h)

-- 05 and 15: x frames before line x + 1.
module _ {S : Type 0} (t n : ℕ) where
  pub count_line_given : (P : S → Type 0) (cs : List ℕ) (s : S) → ((x : ℕ) → cs ≡ pairs 2 x → x + 1 ≡ n → P s) → Given P (count_line t n cs s)
  unfolding count_line
  count_line_given P cs s f =
      afterwards_given P (whole_number t n 2 cs) _ (λ x e. refuse_not_given P (eqb (x + 1) n) _ (Got s) (λ q. f x (whole-number_got t n 2 cs x e).0 (eqb-true (x + 1) n q)))

  pub count_line_pairs : (x : ℕ) (s : S) → x < 65536 → x + 1 ≡ n → count_line t n (pairs 2 x) s ≡ Got s
  unfolding count_line
  count_line_pairs x s h e = simp (whole-number-pairs t n 2 x h, eq-eqb (x + 1) n e, count_line)
