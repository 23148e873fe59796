use Rattle.std.proofs.Common.{rules}
use Rattle.cardlines.proofs.Equations as laws
use Rattle.cardlines.proofs.add_equation.Goals as goal
use Rattle.cardlines.proofs.add_equation.Goals.{then-count-from-via-then-count-from, then-count-from-via-else-count-from+then-not-all_within}

pub returns-then-count-from-clause-came : goal.returns-then-count-from-clause-came
returns-then-count-from-clause-came c = λ t x C H N S.
    elim c.then-count-from.branch [
      | then-count-from-via-then-count-from w ↦ search (rules, laws.with_outside)
      | then-count-from-via-else-count-from+then-not-all_within w ↦ search (rules, laws.with_vars)
    ]

pub returns-then-has_temporal-clause-came : goal.returns-then-has_temporal-clause-came
returns-then-has_temporal-clause-came c = λ t x C H N S. search (rules, laws.with_temporal)

pub returns-then-equations-ge-EQUATIONS-clause-came : goal.returns-then-equations-ge-EQUATIONS-clause-came
returns-then-equations-ge-EQUATIONS-clause-came c = λ t x C H N S. search (rules, laws.with_many)

pub returns-then-used-nodes-gt-EQUATION_NODES-clause-came : goal.returns-then-used-nodes-gt-EQUATION_NODES-clause-came
returns-then-used-nodes-gt-EQUATION_NODES-clause-came c = λ t x C H N S. search (rules, laws.with_nodes)

pub returns-clause-came : goal.returns-clause-came
returns-clause-came c = λ t x C H N S. search (rules, laws.with_fine)
