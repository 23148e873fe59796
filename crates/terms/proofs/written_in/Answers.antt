use Rattle.std.proofs.Common.{◌∙◌, ap}
use Rattle.terms.specs.Nodes.{variables_of}
use Rattle.terms.proofs.Laws as laws
use borrow.Author.Rules.{rules}
use Rattle.terms.proofs.written_in.Goals as goal

pub loop-node-preserved : goal.loop-node-preserved
loop-node-preserved c = search (rules, laws.written_on)

pub returns : goal.returns
returns c = laws.written_off _ _ _ _ c.loop-node.invariant c.loop-node-test.false ∙ ap variables_of c.part-node-items.ensures
