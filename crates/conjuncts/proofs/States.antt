-- Laws of initial states seen on a set of variables.
use mathlib.Core.Path.{◌≡◌, refl, sym, ap, ◌∙◌}
use mathlib.Core.Bool.{Bool, true, false}
use mathlib.Core.List.{List, [], ◌∷◌, ◌++◌, map, map-append}
use Prim.Native.Nat.{ℕ, ◌+◌, ◌<◌, ◌≤◌}
use native.Mathlib.Numerals.{add-one}
use lib.ListN.{length, take, get_or, set}
use lib.Seq.{take-suc, take-suc-set, take_all}
use Rattle.lists.specs.Lists.{stands, firsts}
use Rattle.lists.proofs.Laws.{true_stands, false_stands, stands-firsts, firsts_new, firsts_again}
use Rattle.sets.specs.Sets.{meet}
use Rattle.logic.specs.Pieces.{projected}

-- ---- one more state

module _ (row : List ℕ) (n s : ℕ) (b : Bool) (e : b ≡ stands s (take n row)) where
  known : (xs : List ℕ) → take n row ≡ firsts xs → b ≡ stands s xs
  known xs q = e ∙ ap (stands s) q ∙ stands-firsts s xs

  pub state_again : b ≡ true → (xs : List ℕ) → take n row ≡ firsts xs → take n row ≡ firsts (xs ++ s ∷ [])
  state_again t xs q = q ∙ sym (firsts_again s xs (true_stands s xs (sym (known xs q) ∙ t)))

  pub state_new : b ≡ false → n < length row → (xs : List ℕ) → take n row ≡ firsts xs → take (n + 1) (set row n s) ≡ firsts (xs ++ s ∷ [])
  state_new t h xs q =
      ap (λ (k : ℕ). take k (set row n s)) (add-one n)
      ∙ take-suc-set row n s h
      ∙ ap (λ (l : List ℕ). l ++ s ∷ []) q
      ∙ sym (firsts_new s xs (false_stands s xs (sym (known xs q) ∙ t)))

-- ---- all of them

module _ (inits : List ℕ) (c : ℕ) where
  pub project_start : (row : List ℕ) → take 0 row ≡ projected c (take 0 inits)
  unfolding firsts
  project_start row = refl

  pub project_done : (i n : ℕ) (row : List ℕ) → length inits ≤ i → take n row ≡ projected c (take i inits) → take n row ≡ projected c inits
  project_done i n row h e = e ∙ ap (projected c) (take_all i inits h)

  pub project_on : (i n t r : ℕ) (row x : List ℕ) → i < length inits → t ≡ meet (get_or inits i 0) c
      → ((xs : List ℕ) → take n row ≡ firsts xs → take r x ≡ firsts (xs ++ t ∷ []))
      → take n row ≡ projected c (take i inits) → take r x ≡ projected c (take (i + 1) inits)
  project_on i n t r row x h q f e =
      let before : List ℕ = map (λ (s : ℕ). meet s c) (take i inits) in
      f before e
      ∙ ap (λ (k : ℕ). firsts (before ++ k ∷ [])) q
      ∙ ap firsts (sym (map-append (λ (s : ℕ). meet s c) (take i inits) (get_or inits i 0 ∷ [])))
      ∙ ap (projected c) (sym (take-suc inits i 0 h) ∙ ap (λ (k : ℕ). take k inits) (sym (add-one i)))
