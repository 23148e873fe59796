use Rattle.std.proofs.Common.{rules}
use Rattle.firstpass.proofs.Laws as laws
use Rattle.firstpass.proofs.kind_of.Goals as goal

pub returns-then-is_comment : goal.returns-then-is_comment
returns-then-is_comment c = search (rules, laws.kind_comment)

pub returns-then-blank_columns : goal.returns-then-blank_columns
returns-then-blank_columns c = search (rules, laws.kind_empty)

pub returns-in-32 : goal.returns-in-32
returns-in-32 c = search (rules, laws.kind_opening)

pub returns-in_default : goal.returns-in_default
returns-in_default c = search (rules, laws.kind_continuing)
