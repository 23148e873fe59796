use borrow.Author.Rules.{rules}
use Rattle.writing.proofs.Laws as laws
use Rattle.writing.proofs.put_number_frame.Goals as goal

pub returns : goal.returns
returns c = search (rules, laws.number-frame)
