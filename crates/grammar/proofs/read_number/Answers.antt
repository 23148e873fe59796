use Rattle.std.proofs.Common.{rules}
use Rattle.grammar.proofs.Numbers as laws
use Rattle.grammar.proofs.read_number.Goals as goal

pub returns-in_err-first : goal.returns-in_err-first
returns-in_err-first c = search (rules, laws.numbers_none)

pub returns-then-first-eq0 : goal.returns-then-first-eq0
returns-then-first-eq0 c = search (rules, laws.numbers_zero)

pub returns-in-Ok : goal.returns-in-Ok
returns-in-Ok c = search (rules, laws.numbers_two)

pub returns-in-Err : goal.returns-in-Err
returns-in-Err c = search (rules, laws.numbers_one)
