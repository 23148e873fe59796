use mathlib.Core.Path.{ap, ◌∙◌}
use native.Mathlib.Omega.{arith}
use Rattle.sets.specs.Sets.{has}
use Rattle.decks.specs.Lent.{in_rows}
use Rattle.equations.proofs.Laws as laws
use Rattle.equations.proofs.equations_size.Goals as goal
use Rattle.equations.proofs.equations_size.Goals.{then-member, else-member}

pub loop-i-preserved : goal.loop-i-preserved
loop-i-preserved c =
    let m = c.member.ensures ∙ ap (has c.args.vars) c.from.ensures in
    elim c.if-member.branch [
      | then-member w ↦ rw w.n-is (omega arith, laws.size_in _ (in_rows c.args.equations) _ _ c.loop-i.invariant.1 c.loop-i-test.true _ m _ _ w.if-member.true w.begin_of-from.ensures w.from-to.ensures)
      | else-member w ↦ rw w.n-is (omega arith, laws.size_out _ (in_rows c.args.equations) _ _ c.loop-i.invariant.1 c.loop-i-test.true _ m w.if-member.false)
    ]

pub overflow_sub-n : goal.overflow_sub-n
overflow_sub-n c = rw (c.begin_of-from.ensures, c.from-to.ensures) (laws.rises_somewhere (in_rows c.args.equations) _ c.requires.1 c.loop-i-test.true)

pub returns : goal.returns
returns c = (omega arith, laws.size-done _ (in_rows c.args.equations) _ _ c.loop-i.invariant.1 c.loop-i-test.false)
