use borrow.Author.Rules.{rules}
use Rattle.texts.proofs.Laws as laws
use Rattle.texts.proofs.write_claim.Goals as goal

pub returns-then-out-size : goal.returns-then-out-size
returns-then-out-size c = search (rules, laws.refused_report, laws.refused_buffer, laws.claim_bytes_lem)

pub returns : goal.returns
returns c = search (rules, laws.accepted-report, laws.accepted-buffer, laws.claim_bytes_lem, laws.claim_counted)
