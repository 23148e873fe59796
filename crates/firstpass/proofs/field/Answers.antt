use Rattle.std.proofs.Common.{rules}
use Rattle.firstpass.proofs.Laws as laws
use Rattle.firstpass.proofs.field.Goals as goal

pub returns : goal.returns
returns c = search (rules, laws.field-part)
