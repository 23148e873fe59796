use Rattle.std.proofs.Common.{rules}
use Rattle.phrases.proofs.Wholes as laws
use Rattle.phrases.proofs.whole_expression.Goals as goal

pub returns-in_err-e : goal.returns-in_err-e
returns-in_err-e c = search (rules, laws.fills_fault)

pub returns-in-Some : goal.returns-in-Some
returns-in-Some c = laws.fills_more _ _ _ _ _ c.in_ok-e.ensures c.in-Some.c c.in-Some.ensures

pub returns : goal.returns
returns c = search (rules, laws.fills_whole)
