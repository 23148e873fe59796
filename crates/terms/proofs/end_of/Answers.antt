use native.Mathlib.Omega.{arith}
use Rattle.terms.proofs.Laws as laws
use borrow.Author.Rules.{rules}
use Rattle.terms.proofs.end_of.Goals as goal

pub overflow_add-pending : goal.overflow_add-pending
overflow_add-pending c = omega (arith, laws.places_few _ _ c.places.ensures)

pub returns-then-pending-eq0 : goal.returns-then-pending-eq0
returns-then-pending-eq0 c = search (rules, laws.end_met)

pub loop-i-preserved : goal.loop-i-preserved
loop-i-preserved c = search (rules, laws.end_on, laws.end_room, arith)

pub returns : goal.returns
returns c = search (rules, laws.end_off)
