use mathlib.Core.Path.{◌∙◌}
use borrow.Author.Rules.{rules}
use Rattle.printing.proofs.PrintLaws as laws
use Rattle.printing.proofs.put_cone.Goals as goal

pub returns-then-out-end : goal.returns-then-out-end
returns-then-out-end c = laws.no_cone _ _ _ (c.as_bytes-digits.ensures.value ∙ c.format.ensures.text) _ c.if-out-end.true

pub returns : goal.returns
returns c =
    let digits = c.as_bytes-digits.ensures.value ∙ c.format.ensures.text in
    laws.cone_put _ _ _ digits _ c.if-out-end.false _ c.put_number.ensures (search rules) _ (search rules) _ c.copy_from_slice.ensures.after _ c.put_end.ensures
