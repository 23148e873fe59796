use Rattle.std.proofs.Common.{◌∙◌, ap}
use Rattle.std.proofs.lemmas.Iterator.{YieldsList-from_slice}
use Rattle.std.proofs.lemmas.Iterator.Search.{any_from_yields_List}
use Rattle.terms.specs.Nodes.{temporal?, some_temporal}
use Rattle.terms.proofs.Laws as laws
use borrow.Author.Rules.{rules}
use borrow.Author.Tests.{tests}
use Rattle.terms.proofs.has_temporal.Goals as goal

pub returns : goal.returns
returns c =
    any_from_yields_List (λ n. temporal? n) _ _ _ c.any.ensures.ran (YieldsList-from_slice c.part.result.now cc) (λ x b q k. search (rules, tests))
    ∙ laws.any_temporal c.part.result.now
    ∙ ap some_temporal c.part.ensures
