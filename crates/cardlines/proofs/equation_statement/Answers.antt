use Rattle.std.proofs.Common.{rules}
use Rattle.cardlines.proofs.Equations as laws
use Rattle.cardlines.proofs.equation_statement.Goals as goal

pub returns-in_err-v-clause-came : goal.returns-in_err-v-clause-came
returns-in_err-v-clause-came c = λ t C H. search (rules, laws.equation_number)

pub returns-in_err-from-clause-came : goal.returns-in_err-from-clause-came
returns-in_err-from-clause-came c = λ t C H. search (rules, laws.equation_sign)

pub returns-in_err-used-clause-came : goal.returns-in_err-used-clause-came
returns-in_err-used-clause-came c = λ t C H. search (rules, laws.equation_stopped)

pub returns-clause-came : goal.returns-clause-came
returns-clause-came c = λ t C H.
    laws.equation_with c.args.chars.now c.args.at c.args.n t c.in_ok-v.v (search rules) c.in_ok-from.from (search rules)
    c.args.scratch.now c.whole_expression.new.out c.in_ok-used.used (search rules) _ _
    (λ x N S. c.add_equation.ensures.came t x C H N S)
