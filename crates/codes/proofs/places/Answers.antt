use native.Mathlib.Omega.{arith}
use Rattle.codes.proofs.Steps as steps
use Rattle.codes.proofs.places.Goals as goal

pub returns-then-b-lt-NOT : goal.returns-then-b-lt-NOT
returns-then-b-lt-NOT c = steps.places_leaf _ (omega arith)

pub returns-then-b-lt-AND : goal.returns-then-b-lt-AND
returns-then-b-lt-AND c = steps.places_not _ (omega arith)

pub returns-then-b-lt-NEXT : goal.returns-then-b-lt-NEXT
returns-then-b-lt-NEXT c = steps.places_and _ (omega arith) (omega arith)

pub returns-then-b-lt-UNTIL : goal.returns-then-b-lt-UNTIL
returns-then-b-lt-UNTIL c = steps.places_next _ (omega arith) (omega arith)

pub returns-then-b-lt-NO_CODE : goal.returns-then-b-lt-NO_CODE
returns-then-b-lt-NO_CODE c = steps.places_until _ (omega arith) (omega arith)

pub returns-else-b-lt-NO_CODE : goal.returns-else-b-lt-NO_CODE
returns-else-b-lt-NO_CODE c = steps.places_none _ (omega arith)
