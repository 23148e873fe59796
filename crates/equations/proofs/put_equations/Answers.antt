use mathlib.Core.Path.{ap, ◌∙◌}
use borrow.Author.Rules.{rules}
use Rattle.sets.specs.Sets.{has}
use Rattle.decks.specs.Lent.{in_rows}
use Rattle.equations.proofs.Laws as laws
use Rattle.equations.proofs.put_equations.Goals as goal
use Rattle.equations.proofs.put_equations.Goals.{then-member, else-member}

pub put_equation-used-requires : goal.put_equation-used-requires
put_equation-used-requires c =
    let p = c.requires.1 in
    let m = c.member.ensures ∙ ap (has c.args.vars) c.from.ensures in (
      laws.member_fits c.args.vars _ _ (search rules) m c.if-member.true,
      rw c.right_of.ensures (laws.next-free _ _ _ _ _ _ c.loop-i.invariant.1 p.0 p.1 p.2 c.loop-i.invariant.0 c.loop-i-test.true _ m c.if-member.true),
      rw c.right_of.ensures (laws.right_some c.loop-i.i (in_rows c.args.equations) c.requires.0),
    )

pub loop-i-preserved : goal.loop-i-preserved
loop-i-preserved c =
    let m = c.member.ensures ∙ ap (has c.args.vars) c.from.ensures in
    elim c.if-member.branch [
      | then-member w ↦ rw (w.out-is, w.used-is) (search rules, laws.next_in _ _ _ _ _ _ c.loop-i.invariant.1 c.loop-i-test.true _ m _ _ _ w.if-member.true w.right_of.ensures w.put_equation-used.ensures.0 w.put_equation-used.ensures.1)
      | else-member w ↦ rw (w.out-is, w.used-is) (search rules, laws.next_out _ _ _ _ _ _ c.loop-i.invariant.1 c.loop-i-test.true _ m w.if-member.false)
    ]

pub returns : goal.returns
returns c = λ qs h. (laws.equations-bytes _ _ _ _ _ _ c.loop-i.invariant.1 c.loop-i-test.false qs h, laws.equations_wrote _ _ _ _ _ _ c.loop-i.invariant.1 c.loop-i-test.false qs h)
