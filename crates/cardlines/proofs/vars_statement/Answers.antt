use Rattle.std.proofs.Common.{rules, arith}
use Rattle.cardlines.proofs.Laws as laws
use Rattle.cardlines.proofs.vars_statement.Goals as goal
use Rattle.cardlines.proofs.vars_statement.Goals.{then-count-gt-VARIABLES-via-then-count-gt-VARIABLES, then-count-gt-VARIABLES-via-else-count-gt-VARIABLES+then-is_some}

pub returns-in_err-at : goal.returns-in_err-at
returns-in_err-at c = search (rules, laws.vars_word)

pub returns-in_err-v : goal.returns-in_err-v
returns-in_err-v c = search (rules, laws.vars-number)

pub returns-then-count-gt-VARIABLES : goal.returns-then-count-gt-VARIABLES
returns-then-count-gt-VARIABLES c =
    elim c.then-count-gt-VARIABLES.branch [
      | then-count-gt-VARIABLES-via-then-count-gt-VARIABLES w ↦
          laws.vars_large _ _ c.in_ok-at.at (search rules) c.in_ok-v.v (search rules) _ c.from-count.ensures w.if-count-gt-VARIABLES.true
      | then-count-gt-VARIABLES-via-else-count-gt-VARIABLES+then-is_some w ↦
          laws.vars_more _ _ c.in_ok-at.at (search rules) c.in_ok-v.v (search rules) _ c.from-count.ensures _ w.next_ink.ensures (search rules)
    ]

pub returns : goal.returns
returns c = laws.vars_fine _ _ c.in_ok-at.at (search rules) c.in_ok-v.v (search rules) _ c.from-count.ensures _ c.next_ink.ensures (search rules) (omega arith)
