use mathlib.Core.Path.{◌∙◌}
use borrow.Author.Rules.{rules}
use native.Mathlib.Omega.{arith}
use Rattle.conjuncts.proofs.Laws as laws
use Rattle.conjuncts.proofs.+split_row.Goals as goal

pub bounds-code-0 : goal.bounds-code-0
bounds-code-0 t c = laws.code-some _ _ _ _ _ c.requires.1.1

pub bounds-row-count : goal.bounds-row-count
bounds-row-count t c = laws.place-there _ _ _ _ c.requires.0 _ c.requires.1.1

pub returns-then-code-ne-AND : goal.returns-then-code-ne-AND
returns-then-code-ne-AND t c = (omega (arith, laws.place-there _ _ _ _ c.requires.0 _ c.requires.1.1), search rules, λ e h. laws.whole_taken _ _ _ _ c.requires.0 e h (search rules))

pub slice_bounds-split_row-end : goal.slice_bounds-split_row-end
slice_bounds-split_row-end t c = search (rules, laws.second-within)

pub split_row-n-requires : goal.split_row-n-requires
split_row-n-requires t c = (search (rules, laws.first_falls), (c.requires.0, laws.first_some _ _ _ _ (search rules) _ c.second-second.ensures _ c.requires.1.1))

pub split_row-requires : goal.split_row-requires
split_row-requires t c =
    let first = c.split_row-n.ensures in (
      search (rules, laws.second_falls),
      (omega (arith, first.0, first.1), laws.second-some _ _ _ _ (search rules) _ c.second-second.ensures _ _ first.1 first.2 _ c.requires.1.1),
    )

pub returns : goal.returns
returns t c =
    let first = c.split_row-n.ensures in
    let both = c.split_row.ensures in
    (omega (arith, both.0, first.1), both.1 ∙ first.1, laws.both_split _ _ _ _ (search rules) _ c.second-second.ensures _ _ first.1 first.2 _ both.2)
