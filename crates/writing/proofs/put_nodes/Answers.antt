use mathlib.Core.Path.{refl}
use borrow.Author.Rules.{rules}
use Rattle.writing.proofs.Laws as laws
use Rattle.writing.proofs.put_nodes.Goals as goal

pub loop-i-preserved : goal.loop-i-preserved
loop-i-preserved c = (
  search rules,
  laws.each_next laws.node_pair 2 _ _ _ _ _ (λ n. refl) c.loop-i-test.true c.loop-i.invariant.1 (rw c.code_of.ensures at c.put_byte.ensures),
)

pub returns : goal.returns
returns c = search (rules, laws.nodes-done)
