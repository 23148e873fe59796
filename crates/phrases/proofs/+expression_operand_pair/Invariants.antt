use Rattle.phrases.proofs.+expression_operand_pair.Given as goal

-- The levels left fall at each call.
abbrev pub decreases-expression : goal.decreases-expression
decreases-expression l = l.left

abbrev pub decreases-operand : goal.decreases-operand
decreases-operand l = l.left

abbrev pub decreases-pair : goal.decreases-pair
decreases-pair l = l.left
