use native.Mathlib.Omega.{arith}
use Rattle.decks.specs.Lent.{in_rows}
use Rattle.equations.proofs.Laws as laws
use Rattle.equations.proofs.right_of.Goals as goal

pub begin_of-from-requires : goal.begin_of-from-requires
begin_of-from-requires c = omega (arith, laws.end_there _ (in_rows c.args.equations) c.requires.1 _ c.requires.2)

pub bounds-equations-i : goal.bounds-equations-i
bounds-equations-i c = laws.end_there _ (in_rows c.args.equations) c.requires.1 _ c.requires.2

pub slice_bounds-result-count : goal.slice_bounds-result-count
slice_bounds-result-count c = rw (c.begin_of-from.ensures, c.from-to.ensures) (laws.right_rises _ (in_rows c.args.equations) c.requires.1 _ c.requires.2)

pub slice_bounds-result-start : goal.slice_bounds-result-start
slice_bounds-result-start c = slice_bounds-result-count c

pub slice_bounds-result-end : goal.slice_bounds-result-end
slice_bounds-result-end c = rw c.from-to.ensures (laws.right_within _ (in_rows c.args.equations) c.requires.1 _ c.requires.2)

pub offset_bounds-equations-from : goal.offset_bounds-equations-from
offset_bounds-equations-from c =
    let r = laws.right_rises _ (in_rows c.args.equations) c.requires.1 _ c.requires.2 in
    let w = laws.right_within _ (in_rows c.args.equations) c.requires.1 _ c.requires.2 in
    omega (arith, c.begin_of-from.ensures, r, w, c.ranges.equations)
