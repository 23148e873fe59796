-- Laws of what is printed: the frame FF in a buffer, a deck's text or FF, a cone or FF.
use mathlib.Core.Path.{◌≡◌, refl, sym, ap, ap₂, ◌∙◌, subst}
use mathlib.Core.Logic.{⊎_elim, by_cases}
use mathlib.Core.List.{List, [], ◌∷◌, ◌++◌, append_assoc}
use Prim.Native.Nat.{ℕ, ◌+◌, ◌-◌, ◌/◌, ◌%◌, ◌<◌, ◌≤◌}
use native.Mathlib.Omega.{arith}
use native.Mathlib.Decide.{dec_le}
use borrow.Author.Tests.{lt-ltb, le-ltb, eq-eqb, ne_eqb}
use borrow.Rule.Slice.PartMut.{mid_of, put_mid}
use lib.ListN.{length, set, take, drop, length-append}
use lib.Seq.{drop-drop}
use Rattle.std.specs.Prelude.{Result, Ok, Err}
use Rattle.std.specs.Fmt.{decimal as std_decimal}
use Rattle.std.proofs.lemmas.Fmt.{decimal_digit, decimal_step}
use Rattle.lists.specs.Lists.{splice}
use Rattle.lists.proofs.Laws.{set-splice, splice-splice}
use Rattle.frames.specs.Hex.{pair, pairs}
use Rattle.frames.specs.Written.{deck_frames}
use Rattle.frames.specs.Read.{read_deck}
use Rattle.logic.specs.Expressions.{decimal}
use Rattle.logic.specs.Decks.{Deck}
use Rattle.decks.specs.declared.Refusal.{Refusal}
use Rattle.decks.specs.declared.Refusal.TheVariants.{NoRoom}
use Rattle.decks.specs.declared.Reply.{Reply}
use Rattle.decks.specs.Answers.{Outcome, Got, Refused, reply_of, reply_to}
use Rattle.pieces.specs.declared.Reduced.{Reduced}
use Rattle.pieces.specs.Reduced.{piece_bytes}
use Rattle.texts.specs.Texts.{Filled, filled}
use Rattle.claims.specs.Checked.{checked}
use Rattle.replies.specs.declared.CountReply.{CountReply}
use Rattle.replies.specs.Replies.{written_reply, write_reply, write_buffer, reduced_reply, reduce_reply, reduce_buffer, cone_reply}
use Rattle.station.proofs.ReplyLaws.{some_number, reduced_as}
use Rattle.writing.proofs.Laws.{splice-behind}
use Rattle.printing.specs.Printed.{Prints, refusal_frame, reply_frame, answer_frame, printed_as, printed_into, deck_printed_into, replied, size_text, cone_line, cone_printed, cone_printed_into, verdict_into}

-- ---- texts into buffers

no_room : (vs out : List ℕ) → length out < length vs → filled vs out ≡ record { report = Err (NoRoom (length vs)); buffer = out }
unfolding filled
no_room vs out h = simp (lt-ltb (length out) (length vs) h, filled)

fits : (vs out : List ℕ) → length vs ≤ length out → filled vs out ≡ record { report = Ok (length vs); buffer = splice 0 vs out }
unfolding filled
fits vs out h = simp (le-ltb (length out) (length vs) h, filled)

prints_as : (f g : Filled) (n : ℕ) (after : List ℕ) → f ≡ g → Prints f n after → Prints g n after
prints_as f g n after e p = subst (λ (x : Filled). Prints x n after) e p

module _ (vs out : List ℕ) where
  not_put : length out < length vs → Prints (filled vs out) 0 out
  not_put h = prints_as _ _ 0 out (sym (no_room vs out h)) (record { bytes_are = refl; buffer_is = refl })

  put : (n : ℕ) (after : List ℕ) → n ≤ length out → n ≡ length vs → after ≡ splice 0 vs out → Prints (filled vs out) n after
  put n after h p q = prints_as _ _ n after (sym (fits vs out (omega (arith, p)))) (record { bytes_are = p; buffer_is = q })

-- ---- the frame FF

module _ (number text place : ℕ) where
  refusal_bytes : length (refusal_frame number text place) ≡ 15
  unfolding refusal_frame pairs
  refusal_bytes = refl

  -- Its parts, one behind the other.
  refusal_parts : pair 255 ++ pairs 1 number ++ pairs 1 text ++ pairs 4 place ++ (10 ∷ []) ≡ refusal_frame number text place
  unfolding refusal_frame pairs
  refusal_parts = refl

  four_parts : (length (pair 255 ++ pairs 1 number) ≡ 4) × (length (pair 255 ++ pairs 1 number ++ pairs 1 text) ≡ 6) × (length (pair 255 ++ pairs 1 number ++ pairs 1 text ++ pairs 4 place) ≡ 14)
  unfolding pairs
  four_parts = (refl, refl, refl)

  pub no_refusal : (out : List ℕ) → length out < 15 → Prints (filled (refusal_frame number text place) out) 0 out
  no_refusal out h = not_put (refusal_frame number text place) out (omega (arith, h, refusal_bytes))

  module _ (out : List ℕ) (h : 15 ≤ length out) (a : List ℕ) (ea : a ≡ splice 0 (pair 255) out) (y : List ℕ) (ey : y ≡ splice 0 (pairs 1 number) (mid_of 2 (length a - 2) a)) where
    abbrev second : List ℕ
    second = put_mid 2 (length a - 2) a y

    module _ (z : List ℕ) (ez : z ≡ splice 0 (pairs 1 text) (mid_of 4 (length second - 4) second)) where
      abbrev third : List ℕ
      third = put_mid 4 (length second - 4) second z

      module _ (u : List ℕ) (eu : u ≡ splice 0 (pairs 4 place) (mid_of 6 (length third - 6) third)) where
        abbrev fourth : List ℕ
        fourth = put_mid 6 (length third - 6) third u

        pub refusal_put : (v : List ℕ) → v ≡ splice 0 (10 ∷ []) (mid_of 14 (length fourth - 14) fourth) → Prints (filled (refusal_frame number text place) out) 15 (put_mid 14 (length fourth - 14) fourth v)
        refusal_put v ev =
            let b = splice-behind 2 (pair 255) (pairs 1 number) out a y ea refl ey in
            let c = splice-behind 4 (pair 255 ++ pairs 1 number) (pairs 1 text) out second z b (sym four_parts.0) ez in
            let d = splice-behind 6 (pair 255 ++ pairs 1 number ++ pairs 1 text) (pairs 4 place) out third u c (sym four_parts.1) eu in
            let e = splice-behind 14 (pair 255 ++ pairs 1 number ++ pairs 1 text ++ pairs 4 place) (10 ∷ []) out fourth v d (sym four_parts.2) ev in
            put (refusal_frame number text place) out 15 _ h (sym refusal_bytes) (e ∙ ap (λ (l : List ℕ). splice 0 l out) refusal_parts)

-- ---- what a reply leaves to print

module _ (r : CountReply) (bytes : ℕ) (out : List ℕ) where
  success_left : r.number ≡ 0 → replied r bytes out ≡ record { report = Ok bytes; buffer = out }
  unfolding replied
  success_left z = simp (eq-eqb r.number 0 z, replied)

  refusal_left : (r.number ≡ 0 → ⊥) → replied r bytes out ≡ filled (reply_frame r) out
  unfolding replied
  refusal_left z = simp (ne_eqb r.number 0 z, replied)

  pub reply_stands : r.number ≡ 0 → Prints (replied r bytes out) bytes out
  reply_stands z = prints_as _ _ bytes out (sym (success_left z)) (record { bytes_are = refl; buffer_is = refl })

  pub reply_refused : (n : ℕ) (after : List ℕ) → (r.number ≡ 0 → ⊥) → Prints (filled (reply_frame r) out) n after → Prints (replied r bytes out) n after
  reply_refused n after z = prints_as _ _ n after (sym (refusal_left z))

-- ---- a deck's text, or FF

module _ (text : Deck → List ℕ) (d : Deck) (out : List ℕ) where
  printed-text : length (text d) ≤ length out → printed_as text (Got d) (length out) ≡ text d
  unfolding printed_as
  printed-text h = simp (le-ltb (length out) (length (text d)) h, printed_as)

  printed_no_room : length out < length (text d) → printed_as text (Got d) (length out) ≡ answer_frame (reply_of (NoRoom (length (text d))))
  unfolding printed_as
  printed_no_room h = simp (lt-ltb (length out) (length (text d)) h, printed_as)

  -- A reply that says that the text was written, or that it does not fit.
  text-printed : (r : CountReply) (bytes : ℕ) (mid : List ℕ)
      → length (text d) ≤ length out → r.number ≡ 0 → bytes ≡ length (text d) → mid ≡ splice 0 (text d) out
      → replied r bytes mid ≡ filled (printed_as text (Got d) (length out)) out
  text-printed r bytes mid h z b m =
      success_left r bytes mid z
      ∙ ap₂ (λ (k : ℕ) (l : List ℕ). record { report = Ok k; buffer = l }) b m
      ∙ sym (ap (λ (v : List ℕ). filled v out) (printed-text h) ∙ fits (text d) out h)

  no_room-printed : (r : CountReply) (bytes : ℕ) (mid : List ℕ)
      → length out < length (text d) → (r.number ≡ 0 → ⊥) → reply_frame r ≡ answer_frame (reply_of (NoRoom (length (text d)))) → mid ≡ out
      → replied r bytes mid ≡ filled (printed_as text (Got d) (length out)) out
  no_room-printed r bytes mid h z f m =
      refusal_left r bytes mid z
      ∙ ap₂ (λ (v : List ℕ) (l : List ℕ). filled v l) (f ∙ sym (printed_no_room h)) m

refused_printed : (text : Deck → List ℕ) (a : Refusal) (r : CountReply) (bytes : ℕ) (out : List ℕ)
    → (r.number ≡ 0 → ⊥) → reply_frame r ≡ answer_frame (reply_of a) → replied r bytes out ≡ filled (printed_as text (Refused a) (length out)) out
unfolding printed_as
refused_printed text a r bytes out h f = refusal_left r bytes out h ∙ ap (λ (v : List ℕ). filled v out) f

reduction_printed : (o : Outcome Deck) (out : List ℕ) → replied (reduce_reply o out) (reduce_reply o out).second (reduce_buffer o out) ≡ printed_into o out
reduction_printed (Got d) out =
    ⊎_elim
    (λ (l, e, b).
    no_room-printed piece_bytes d out (reduce_reply (Got d) out) (reduce_reply (Got d) out).second (reduce_buffer (Got d) out) l
    (λ z. omega (arith, z, ap (λ (x : Result Reduced Refusal). (reduced_reply x).number) e))
    (ap (λ (x : Result Reduced Refusal). reply_frame (reduced_reply x)) e)
    b)
    (λ (l, e, b).
    text-printed piece_bytes d out (reduce_reply (Got d) out) (reduce_reply (Got d) out).second (reduce_buffer (Got d) out) l
    (ap (λ (x : Result Reduced Refusal). (reduced_reply x).number) e)
    (ap (λ (x : Result Reduced Refusal). (reduced_reply x).second) e)
    b)
    (reduced_as d out)
reduction_printed (Refused a) out = refused_printed piece_bytes a (reduce_reply (Refused a) out) 0 out (some_number a) refl

writing_printed : (o : Outcome Deck) (out : List ℕ) → replied (write_reply o out) (write_reply o out).first (write_buffer o out) ≡ deck_printed_into o out
writing_printed (Got d) out =
    by_cases
    (dec_le (length (deck_frames d)) (length out))
    (λ l.
    let e = fits (deck_frames d) out l in
    text-printed deck_frames d out (write_reply (Got d) out) (write_reply (Got d) out).first (write_buffer (Got d) out) l
    (ap (λ (f : Filled). (written_reply f.report).number) e)
    (ap (λ (f : Filled). (written_reply f.report).first) e)
    (ap (λ (f : Filled). f.buffer) e))
    (λ n.
    let l : length out < length (deck_frames d) = omega arith in
    let e = no_room (deck_frames d) out l in
    no_room-printed deck_frames d out (write_reply (Got d) out) (write_reply (Got d) out).first (write_buffer (Got d) out) l
    (λ z. omega (arith, z, ap (λ (f : Filled). (written_reply f.report).number) e))
    (ap (λ (f : Filled). reply_frame (written_reply f.report)) e)
    (ap (λ (f : Filled). f.buffer) e))
writing_printed (Refused a) out = refused_printed deck_frames a (write_reply (Refused a) out) 0 out (some_number a) refl

module _ (o : Outcome Deck) (out mid after : List ℕ) (r : CountReply) (n : ℕ) where
  pub pieces-printed : (r ≡ reduce_reply o out) × (mid ≡ reduce_buffer o out) → Prints (replied r r.second mid) n after → Prints (printed_into o out) n after
  pieces-printed (e, b) = prints_as _ _ n after (ap₂ (λ (s : CountReply) (l : List ℕ). replied s s.second l) e b ∙ reduction_printed o out)

  pub deck-printed : (r ≡ write_reply o out) × (mid ≡ write_buffer o out) → Prints (replied r r.first mid) n after → Prints (deck_printed_into o out) n after
  deck-printed (e, b) = prints_as _ _ n after (ap₂ (λ (s : CountReply) (l : List ℕ). replied s s.first l) e b ∙ writing_printed o out)

-- ---- a cone, or FF

-- The digits of a number below 100.
decimal_is : (n : ℕ) → n < 100 → std_decimal n ≡ decimal n
unfolding decimal
decimal_is n h =
    by_cases
    (dec_le 10 n)
    (λ l.
    decimal_step n l (omega arith)
    ∙ ap (λ (ds : List ℕ). ds ++ ((48 + n % 10) ∷ [])) (decimal_digit (n / 10) (omega arith))
    ∙ sym (simp (le-ltb n 10 l, decimal)))
    (λ k. let l : n < 10 = omega arith in decimal_digit n l ∙ sym (simp (lt-ltb n 10 l, decimal)))

set-bytes : (s : ℕ) → length (pairs 8 s) ≡ 16
unfolding pairs
set-bytes s = refl

-- A part of a buffer with as many bytes in its place.
copy-splice : (i k : ℕ) (xs ys : List ℕ) → k ≡ length ys → put_mid i k xs ys ≡ splice i ys xs
copy-splice i k xs ys h = ap (λ (l : List ℕ). take i xs ++ (ys ++ l)) (drop-drop k i xs ∙ ap (λ (j : ℕ). drop (i + j) xs) h)

module _ (s size : ℕ) (digits : List ℕ) (e : digits ≡ std_decimal (size % 100)) where
  -- Its parts, one behind the other.
  line_parts : pairs 8 s ++ (32 ∷ []) ++ digits ++ (10 ∷ []) ≡ cone_line s size
  unfolding cone_line size_text
  line_parts =
      ap (λ (ds : List ℕ). pairs 8 s ++ (32 ∷ []) ++ ds ++ (10 ∷ [])) (e ∙ decimal_is (size % 100) (omega arith))
      ∙ append_assoc (pairs 8 s ++ (32 ∷ [])) (decimal (size % 100)) (10 ∷ [])
      ∙ append_assoc (pairs 8 s) (32 ∷ []) (decimal (size % 100) ++ (10 ∷ []))

  line_front : length (pairs 8 s ++ (32 ∷ []) ++ digits) ≡ 17 + length digits
  line_front = omega (arith, set-bytes s, length-append (pairs 8 s) (32 ∷ []), length-append (pairs 8 s ++ (32 ∷ [])) digits)

  line_bytes : length (cone_line s size) ≡ 17 + length digits + 1
  line_bytes =
      sym (ap (λ (l : List ℕ). length l) line_parts) ∙ omega (arith, line_front, length-append (pairs 8 s ++ (32 ∷ []) ++ digits) (10 ∷ []))

  pub no_cone : (out : List ℕ) → length out ≤ 17 + length digits → Prints (filled (cone_line s size) out) 0 out
  no_cone out h = not_put (cone_line s size) out (omega (arith, h, line_bytes))

  module _ (out : List ℕ) (h : 17 + length digits < length out) (x : List ℕ) (ex : x ≡ splice 0 (pairs 8 s) out) (long : length x ≡ length out) (k : ℕ) (ek : k ≡ length digits) (y : List ℕ) (ey : y ≡ digits) where
    abbrev copied : List ℕ
    copied = put_mid 17 k (set x 16 32) y

    copied_is : copied ≡ splice 0 (pairs 8 s ++ (32 ∷ []) ++ digits) out
    copied_is =
        let front : 16 ≡ 0 + length (pairs 8 s) = omega (arith, set-bytes s) in
        let blank : set x 16 32 ≡ splice 0 (pairs 8 s ++ (32 ∷ [])) out =
        set-splice x 16 32 (omega (arith, h, long))
        ∙ ap₂ (λ (j : ℕ) (l : List ℕ). splice j (32 ∷ []) l) front ex
        ∙ splice-splice 0 (pairs 8 s) (32 ∷ []) out (omega arith) in
        let behind : 17 ≡ 0 + length (pairs 8 s ++ (32 ∷ [])) = omega (arith, set-bytes s, length-append (pairs 8 s) (32 ∷ [])) in
        ap (λ (l : List ℕ). put_mid 17 k (set x 16 32) l) ey
        ∙ copy-splice 17 k (set x 16 32) digits ek
        ∙ ap₂ (λ (j : ℕ) (l : List ℕ). splice j digits l) behind blank
        ∙ splice-splice 0 (pairs 8 s ++ (32 ∷ [])) digits out (omega arith)

    pub cone_put : (z : List ℕ) → z ≡ splice 0 (10 ∷ []) (mid_of (17 + length digits) (length copied - (17 + length digits)) copied)
        → Prints (filled (cone_line s size) out) (17 + length digits + 1) (put_mid (17 + length digits) (length copied - (17 + length digits)) copied z)
    cone_put z ez =
        put (cone_line s size) out (17 + length digits + 1) _ (omega (arith, h)) (sym line_bytes)
        (splice-behind (17 + length digits) (pairs 8 s ++ (32 ∷ []) ++ digits) (10 ∷ []) out copied z copied_is (sym line_front) ez
        ∙ ap (λ (l : List ℕ). splice 0 l out) line_parts)

module _ (text : List ℕ) (s : ℕ) (r : CountReply) (out after : List ℕ) (n : ℕ) (e : r ≡ cone_reply (read_deck text) s) where
  cone_line_lem : r.number ≡ 0 → cone_printed r ≡ cone_line r.first r.second
  unfolding cone_printed
  cone_line_lem z = simp (eq-eqb r.number 0 z, cone_printed)

  cone_refusal : (r.number ≡ 0 → ⊥) → cone_printed r ≡ reply_frame r
  unfolding cone_printed
  cone_refusal z = simp (ne_eqb r.number 0 z, cone_printed)

  cone-same : filled (cone_printed r) out ≡ cone_printed_into (read_deck text) s out
  cone-same = ap (λ (q : CountReply). filled (cone_printed q) out) e

  pub cone-printed : r.number ≡ 0 → Prints (filled (cone_line r.first r.second) out) n after → Prints (cone_printed_into (read_deck text) s out) n after
  cone-printed z = prints_as _ _ n after (ap (λ (v : List ℕ). filled v out) (sym (cone_line_lem z)) ∙ cone-same)

  pub cone_refused : (r.number ≡ 0 → ⊥) → Prints (filled (reply_frame r) out) n after → Prints (cone_printed_into (read_deck text) s out) n after
  cone_refused z = prints_as _ _ n after (ap (λ (v : List ℕ). filled v out) (sym (cone_refusal z)) ∙ cone-same)

-- ---- a verdict

pub verdict-printed : (deck claim out after : List ℕ) (r : Reply) (n : ℕ)
    → r ≡ reply_to (checked deck claim) → Prints (filled (refusal_frame r.number r.text r.place) out) n after → Prints (verdict_into deck claim out) n after
verdict-printed deck claim out after r n e = prints_as _ _ n after (ap (λ (q : Reply). filled (refusal_frame q.number q.text q.place) out) e)
