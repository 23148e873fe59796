-- The right sides stand in the array of nodes.
use mathlib.Core.Path.{◌≡◌, sym, ap, ◌∙◌, subst}
use mathlib.Core.List.{List, ◌++◌, append_assoc}
use Prim.Native.Nat.{ℕ, suc, ◌-◌, ◌<◌}
use lib.ListN.{length, take, drop, replicate}
use Rattle.logic.specs.Expressions.{code, Narrow}
use Rattle.logic.specs.Decks.{Equation, base, total_nodes}
use Rattle.terms.specs.Nodes.{Stands}
use Rattle.terms.proofs.Trees.{stands_at}
use Rattle.decks.specs.Stored.{codes}
use Rattle.decks.specs.Lent.{HoldsEquations}
use Rattle.decks.proofs.Stored.{equation, within, length-codes, codes_at}

module _ (qs : List Equation) (lefts ends cs : List ℕ) (n i : ℕ) (held : HoldsEquations qs lefts ends cs n) (h : i < n) where
  pub right-stands : Narrow (equation qs i).right → Stands cs (total_nodes (take i qs)) (equation qs i).right
  right-stands w =
      let zeros : List ℕ = replicate (base.equation_nodes - length (codes qs)) 0 in
      let before : List ℕ = codes (take i qs) in
      let its : List ℕ = code (equation qs i).right in
      let rest : List ℕ = codes (drop (suc i) qs) in
      let all : cs ≡ before ++ (its ++ (rest ++ zeros)) =
      held.nodes_are ∙ ap (λ (l : List ℕ). l ++ zeros) (codes_at qs i (within qs lefts ends cs n i held h)) ∙ append_assoc before (its ++ rest) zeros ∙ ap (λ (l : List ℕ). before ++ l) (append_assoc its rest zeros) in
      subst
      (λ (k : ℕ). Stands cs k (equation qs i).right)
      (length-codes (take i qs))
      (subst (λ (l : List ℕ). Stands l (length before) (equation qs i).right) (sym all) (stands_at before (rest ++ zeros) (equation qs i).right w))
