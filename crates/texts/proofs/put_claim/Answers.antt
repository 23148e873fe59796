use borrow.Author.Rules.{rules}
use Rattle.texts.proofs.Laws as laws
use Rattle.texts.proofs.put_claim.Goals as goal

pub returns : goal.returns
returns c = search (rules, laws.claim_frames_lem)
