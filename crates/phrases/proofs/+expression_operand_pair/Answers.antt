use Rattle.std.proofs.Common.{rules, arith}
use Rattle.phrases.proofs.Expressions as leaves
use Rattle.phrases.proofs.Operators as operators
use Rattle.phrases.proofs.+expression_operand_pair.Goals as goal

pub expression-returns-in_default : goal.expression-returns-in_default
expression-returns-in_default t c = leaves.reads_end _ _ _ _ _ (omega (arith, c.requires)) c.in_default.ensures

pub expression-returns-in_default-sign_of : goal.expression-returns-in_default-sign_of
expression-returns-in_default-sign_of t c = leaves.reads_none _ _ _ _ _ c.in-Some.c c.in-Some.ensures c.in_default-sign_of.ensures

pub expression-returns-then-left-lt2 : goal.expression-returns-then-left-lt2
expression-returns-then-left-lt2 t c = leaves.reads_deep _ _ _ _ _ c.in-Some.c c.in-Some.ensures _ c.in-Some-sign_of.ensures (omega arith)

pub expression-returns-in-Variable : goal.expression-returns-in-Variable
expression-returns-in-Variable t c = search (rules, leaves.reads_variable)

pub expression-returns-in-Constant : goal.expression-returns-in-Constant
expression-returns-in-Constant t c = search (rules, leaves.reads_constant)

pub expression-returns-in-Operator : goal.expression-returns-in-Operator
expression-returns-in-Operator t c = search (rules, leaves.reads_operand)

pub expression-returns-in-Bracket : goal.expression-returns-in-Bracket
expression-returns-in-Bracket t c = search (rules, leaves.reads_pair)

pub operand-returns : goal.operand-returns
operand-returns t c = λ o n. search (rules, operators.operand_whole)

pub pair-returns-in_err-second : goal.pair-returns-in_err-second
pair-returns-in_err-second t c = search (rules, operators.pair_stopped)

pub pair-returns-in_err-next : goal.pair-returns-in_err-next
pair-returns-in_err-next t c = search (rules, operators.pair_open)

pub pair-returns : goal.pair-returns
pair-returns t c = search (rules, operators.pair-closed)
