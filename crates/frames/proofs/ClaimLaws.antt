-- Laws of claims as lines: the lines of a claim's frames, what each is read as, and what a claim that is read keeps.
use mathlib.Core.Path.{◌≡◌, refl, sym, ap, ap₂, ◌∙◌, subst}
use mathlib.Core.Logic.{inl}
use mathlib.Core.Bool.{not}
use mathlib.Core.List.{List, [], ◌∷◌, ◌++◌, append_assoc, append-nil, map-append}
use Prim.Native.Nat.{ℕ, suc, ◌+◌, ◌*◌, ◌/◌, ◌%◌, ◌^◌, ◌<◌, ◌≤◌}
use native.Mathlib.Omega.{arith}
use native.Mathlib.Decide.{dec_lt}
use borrow.Author.Tests.{lt-ltb, le-ltb, ltb-false, eqb-true, eqb-false, ne_eqb}
use lib.Dec.{ltb, eqb}
use lib.ListN.{length, drop, length-append, length-map}
use Rattle.lists.specs.Lists.{Each, ◌among◌, joined, ended, unended}
use Rattle.lists.proofs.Laws.{each_at, each_append, among_right, joined-ended}
use Rattle.sets.specs.Sets.{◌⊆◌, inside}
use Rattle.sets.proofs.Laws.{inside_true, true_inside, subset_lt}
use Rattle.logic.specs.Decks.{base}
use Rattle.logic.specs.Meaning.{Claim, Sized}
use Rattle.decks.specs.declared.Refusal.TheVariants.{BadFrame}
use Rattle.decks.specs.Answers.{Outcome, Got, refuse}
use Rattle.frames.specs.Hex.{pairs}
use Rattle.frames.specs.Written.{set_bytes, claim_kind, state_kind, claim_count_kind, frame, state_frames, claim_frames}
use Rattle.frames.specs.Read.{ClaimSofar, ClaimDue, StatesDue, ClaimWhole, whole_number, kind_of, count_line, sizes_line, state_line, claim_line, claim_end, read_claim}
use Rattle.decks.specs.Readings.{walk}
use Rattle.frames.proofs.HexLaws.{pairs-from_zero, pairs_four}
use Rattle.frames.proofs.LineLaws.{line, kind_line, line_kind, frame-joined, state_lines, state_frames_joined, line_free, state_lines_free, whole-number-pairs, whole-number_got, count_line_pairs, count_line_given}
use Rattle.decks.proofs.Outcomes.{Given, got_given, refuse_given, refuse_not_given, afterwards_given, walk_got, walk_keeps}

-- ---- the lines of a claim

abbrev pub sizes_content : Claim → List ℕ
sizes_content m = pairs 2 m.p ++ pairs 2 m.c

abbrev pub count_content : Claim → List ℕ
count_content m = pairs 2 (length m.states + 1)

-- 11 and the 12s.
abbrev pub head_lines : Claim → List (List ℕ)
head_lines m = line claim_kind (sizes_content m) ∷ state_lines state_kind m.states

-- 15.
abbrev pub count_of : Claim → List ℕ
count_of m = line claim_count_kind (count_content m)

abbrev pub claim_lines : Claim → List (List ℕ)
claim_lines m = head_lines m ++ (count_of m ∷ [])

pub claim_frames_joined : (m : Claim) → claim_frames m ≡ joined (claim_lines m)
unfolding claim_frames joined
claim_frames_joined m =
    ap
    (λ (t : List ℕ). frame claim_kind (sizes_content m) ++ (state_frames state_kind m.states ++ t))
    (sym (append-nil (frame claim_count_kind (count_content m))) ∙ frame-joined claim_count_kind (count_content m) [])
    ∙ ap (λ (t : List ℕ). frame claim_kind (sizes_content m) ++ t) (state_frames_joined state_kind m.states (count_of m ∷ []))
    ∙ frame-joined claim_kind (sizes_content m) (state_lines state_kind m.states ++ (count_of m ∷ []))

pub claim_lines_free : (m : Claim) → Each (λ l. 10 among l → ⊥) (claim_lines m)
claim_lines_free m = (
  line_free claim_kind (sizes_content m) (each_append (λ c. 48 ≤ c) (pairs 2 m.p) (pairs 2 m.c) (pairs-from_zero 2 m.p) (pairs-from_zero 2 m.c)),
  each_append
      (λ l. 10 among l → ⊥)
      (state_lines state_kind m.states)
      (count_of m ∷ [])
      (state_lines_free state_kind m.states)
      (line_free claim_count_kind (count_content m) (pairs-from_zero 2 (length m.states + 1)), tt),
)

-- The claim with the states given.
abbrev with : Claim → List ℕ → Claim
with m ss = record { p = m.p; c = m.c; states = ss }

-- ---- written, then read

module _ (vars : ℕ) (small : vars < 2 ^ base.variables) (m : Claim) (ok : Sized base m) (within : Each (λ (s : ℕ). s ⊆ vars) m.states) where
  sizes_read : (n : ℕ) → claim_line vars n (line claim_kind (sizes_content m)) ClaimDue ≡ Got (StatesDue (with m []))
  unfolding claim_line sizes_line
  sizes_read n =
      let x : ℕ = m.p * 65536 + m.c in
      let p : x / 65536 ≡ m.p = omega (arith, ok.most) in
      let c : x % 65536 ≡ m.c = omega (arith, ok.most) in
      let four : sizes_content m ≡ pairs 4 x = sym (pairs_four m.p m.c (omega (arith, ok.most))) in
      simp (
        four,
        kind_line claim_kind (pairs 4 x) (omega arith),
        whole-number-pairs 2 n 4 x (omega (arith, ok.most)),
        p,
        c,
        ne_eqb m.c 0 (omega (arith, ok.some)),
        le-ltb base.states (m.p + m.c) ok.most,
      )

  state_read : (n : ℕ) (past : List ℕ) (s : ℕ) (rest : List ℕ)
      → past ++ s ∷ rest ≡ m.states
      → claim_line vars n (line state_kind (pairs set_bytes s)) (StatesDue (with m past)) ≡ Got (StatesDue (with m (past ++ s ∷ [])))
  unfolding claim_line state_line
  state_read n past s rest e =
      let inner : s ⊆ vars = each_at (λ t. t ⊆ vars) m.states s within (subst (λ (l : List ℕ). s among l) e (among_right past (s ∷ rest) s (inl refl))) in
      simp (
        lt-ltb (length past) (m.p + m.c) (omega (arith, ap length e, length-append past (s ∷ rest), ok.all)),
        kind_line state_kind (pairs set_bytes s) (omega arith),
        whole-number-pairs 2 n set_bytes s (subset_lt base.variables s vars inner small),
        inside_true s vars inner,
        claim_line,
      )

  count_read : (n : ℕ) → n ≡ length m.states + 2 → claim_line vars n (count_of m) (StatesDue m) ≡ Got (ClaimWhole m)
  unfolding claim_line
  count_read n e =
      simp (
        le-ltb (length m.states) (m.p + m.c) (omega (arith, ok.all)),
        kind_line claim_count_kind (count_content m) (omega arith),
        count_line_pairs 2 n (length m.states + 1) (ClaimWhole m) (omega (arith, ok.all, ok.most)) (omega arith),
        claim_line,
      )

  states-walk : (ss past : List ℕ) (n : ℕ)
      → past ++ ss ≡ m.states
      → n ≡ length past + 2
      → walk (claim_line vars) n (state_lines state_kind ss ++ (count_of m ∷ [])) (StatesDue (with m past)) ≡ Got (ClaimWhole m)
  unfolding walk
  states-walk [] past n e i =
      let all : past ≡ m.states = sym (append-nil past) ∙ e in
      ap (λ (ss : List ℕ). walk (claim_line vars) n (count_of m ∷ []) (StatesDue (with m ss))) all
      ∙ walk_got (claim_line vars) n (count_of m) [] (StatesDue m) (ClaimWhole m) (count_read n (omega (arith, ap length all)))
  states-walk (s ∷ ss) past n e i =
      walk_got (claim_line vars) n (line state_kind (pairs set_bytes s)) (state_lines state_kind ss ++ (count_of m ∷ [])) _ _ (state_read n past s ss e)
      ∙ states-walk ss (past ++ s ∷ []) (suc n) (append_assoc past (s ∷ []) ss ∙ e) (omega (arith, length-append past (s ∷ [])))

  -- The lines of a claim come to that claim.
  pub claim_walk : walk (claim_line vars) 1 (claim_lines m) ClaimDue ≡ Got (ClaimWhole m)
  claim_walk = walk_got (claim_line vars) 1 (line claim_kind (sizes_content m)) _ _ _ (sizes_read 1) ∙ states-walk m.states [] 2 refl refl

-- ---- read, then written

module _ (vars : ℕ) where
  -- What holds of the claim in hand from 11 on.
  record Begun (m : Claim) : Type 0 where
    some : 1 ≤ m.c
    most : m.p + m.c ≤ base.states
    room : length m.states ≤ m.p + m.c
    within : Each (λ (s : ℕ). s ⊆ vars) m.states

  -- The lines so far are those of the claim in hand, and it keeps the rules so far.
  abbrev Kept : List (List ℕ) → ClaimSofar → Type 0
  Kept past ClaimDue = past ≡ []
  Kept past (StatesDue m) = (past ≡ head_lines m) × Begun m
  Kept past (ClaimWhole m) = (past ≡ claim_lines m) × Begun m × (length m.states ≡ m.p + m.c)

  sizes_kept : (n : ℕ) (l cs : List ℕ) → l ≡ line claim_kind cs → Given (Kept (l ∷ [])) (sizes_line n cs)
  unfolding sizes_line
  sizes_kept n l cs e =
      let K : ClaimSofar → Type 0 = Kept (l ∷ []) in
      afterwards_given K (whole_number 2 n 4 cs) _ (λ x w.
      refuse_given K (eqb (x % 65536) 0) _ _ (λ more.
      refuse_given K (ltb base.states (x / 65536 + x % 65536)) _ _ (λ most.
      let whole = whole-number_got 2 n 4 cs x w in
      let split : x / 65536 * 65536 + x % 65536 ≡ x = omega arith in
      let four : cs ≡ pairs 2 (x / 65536) ++ pairs 2 (x % 65536) =
      whole.0 ∙ ap (pairs 4) (sym split) ∙ pairs_four (x / 65536) (x % 65536) (omega arith) in
      let nonzero : x % 65536 ≡ 0 → ⊥ = eqb-false (x % 65536) 0 more in (
        ap (λ (k : List ℕ). k ∷ []) (e ∙ ap (line claim_kind) four),
        record {
          some = omega arith;
          most = ltb-false base.states (x / 65536 + x % 65536) most;
          room = omega arith;
          within = tt;
        },
      ))))

  state_kept : (past : List (List ℕ)) (n : ℕ) (l cs : List ℕ) (m : Claim)
      → l ≡ line state_kind cs
      → past ≡ head_lines m
      → Begun m
      → length m.states < m.p + m.c
      → Given (Kept (past ++ l ∷ [])) (state_line vars n cs m)
  unfolding state_line
  state_kept past n l cs m e h b less =
      let K : ClaimSofar → Type 0 = Kept (past ++ l ∷ []) in
      afterwards_given K (whole_number 2 n set_bytes cs) _ (λ s w.
      refuse_not_given K (inside s vars) _ _ (λ inner. (
        ap₂ (λ (ls : List (List ℕ)) (k : List ℕ). ls ++ k ∷ []) h (e ∙ ap (line state_kind) (whole-number_got 2 n set_bytes cs s w).0)
            ∙ ap (λ (ls : List (List ℕ)). line claim_kind (sizes_content m) ∷ ls) (sym (map-append (λ (t : ℕ). line state_kind (pairs set_bytes t)) m.states (s ∷ []))),
        record {
          some = b.some;
          most = b.most;
          room = omega (arith, length-append m.states (s ∷ []));
          within = each_append (λ (t : ℕ). t ⊆ vars) m.states (s ∷ []) b.within (true_inside s vars inner, tt);
        },
      )))

  count_kept : (past : List (List ℕ)) (l cs : List ℕ) (m : Claim)
      → l ≡ line claim_count_kind cs
      → past ≡ head_lines m
      → Begun m
      → m.p + m.c ≤ length m.states
      → Given (Kept (past ++ l ∷ [])) (count_line 2 (suc (length past)) cs (ClaimWhole m))
  count_kept past l cs m e h b all =
      count_line_given 2 (suc (length past)) (Kept (past ++ l ∷ [])) cs (ClaimWhole m) (λ x c k.
      let before : x ≡ length m.states + 1 = omega (arith, ap length h, length-map m.states (λ (s : ℕ). line state_kind (pairs set_bytes s))) in (
        ap₂ (λ (ls : List (List ℕ)) (r : List ℕ). ls ++ r ∷ []) h (e ∙ ap (line claim_count_kind) (c ∙ ap (pairs 2) before)),
        b,
        omega (arith, b.room),
      ))

  of_kind : (K : ClaimSofar → Type 0) (k n : ℕ) (l : List ℕ) (r : Outcome ClaimSofar)
      → k < 256
      → (l ≡ line k (drop 2 l) → Given K r)
      → Given K (refuse (not (eqb (kind_of l) k)) (BadFrame 2 n) r)
  of_kind K k n l r h f = refuse_not_given K (eqb (kind_of l) k) (BadFrame 2 n) r (λ e. f (line_kind l k (eqb-true (kind_of l) k e) h))

  -- Every line keeps what the lines before it kept.
  line_kept : (past : List (List ℕ)) (l : List ℕ) (s : ClaimSofar) → Kept past s → Given (Kept (past ++ l ∷ [])) (claim_line vars (suc (length past)) l s)
  unfolding claim_line
  line_kept past l ClaimDue k = rw k (of_kind (Kept (l ∷ [])) claim_kind 1 l (sizes_line 1 (drop 2 l)) (omega arith) (sizes_kept 1 l (drop 2 l)))
  line_kept past l (StatesDue m) k = go (dec_lt (length m.states) (m.p + m.c))
    where
      go : Dec (length m.states < m.p + m.c) → Given (Kept (past ++ l ∷ [])) (claim_line vars (suc (length past)) l (StatesDue m))
      go (yes less) =
          simp (lt-ltb (length m.states) (m.p + m.c) less, claim_line)
          (of_kind (Kept (past ++ l ∷ [])) state_kind (suc (length past)) l (state_line vars (suc (length past)) (drop 2 l) m) (omega arith) (λ e. state_kept past (suc (length past)) l (drop 2 l) m e k.0 k.1 less))
      go (no all) =
          simp (le-ltb (length m.states) (m.p + m.c) (omega arith), claim_line)
          (of_kind (Kept (past ++ l ∷ [])) claim_count_kind (suc (length past)) l (count_line 2 (suc (length past)) (drop 2 l) (ClaimWhole m)) (omega arith) (λ e. count_kept past l (drop 2 l) m e k.0 k.1 (omega arith)))
  line_kept past l (ClaimWhole m) k = tt

  -- The text is the claim's frames, and the claim keeps its sizes and the variables.
  abbrev pub Returns : List ℕ → Claim → Type 0
  Returns t m = (t ≡ claim_frames m) × Sized base m × Each (λ (s : ℕ). s ⊆ vars) m.states

  end_given : (t rest : List ℕ) (s : ClaimSofar) → joined (ended t) ++ rest ≡ t → Kept (ended t) s → Given (Returns t) (claim_end rest s)
  unfolding claim_end
  end_given t [] ClaimDue e k = tt
  end_given t [] (StatesDue m) e k = tt
  end_given t [] (ClaimWhole m) e k = (
    sym e ∙ append-nil (joined (ended t)) ∙ ap joined k.0 ∙ sym (claim_frames_joined m),
    record { some = k.1.some; all = k.2; most = k.1.most },
    k.1.within,
  )
  end_given t (c ∷ cs) s e k = tt

  -- Whatever reads as a claim returns.
  pub claim_given : (t : List ℕ) → Given (Returns t) (read_claim vars t)
  unfolding read_claim
  claim_given t =
      refuse_given (Returns t) (ltb base.text (length t)) _ _ (λ short.
      afterwards_given (Returns t) (walk (claim_line vars) 1 (ended t) ClaimDue) _ (λ s e.
      end_given t (unended t) s (joined-ended t) (
      got_given (Kept (ended t)) (walk (claim_line vars) 1 (ended t) ClaimDue) s (walk_keeps (claim_line vars) 1 Kept (λ past l u k. let one : 1 + length past ≡ suc (length past) = omega arith in rw one (line_kept past l u k)) (ended t) [] ClaimDue refl) e)))
