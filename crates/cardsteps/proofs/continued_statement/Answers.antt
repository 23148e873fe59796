use Rattle.cardsteps.proofs.StepLaws as laws
use Rattle.cardsteps.proofs.continued_statement.Goals as goal

pub returns-clause-came : goal.returns-clause-came
returns-clause-came c =
    laws.continued_onward c.args.opener c.whole_statement.result.0 c.whole_statement.result.1 c.whole_statement.ensures _ _ _ _ c.characters.ensures _ c.in_ok-next.ensures.small c.in_ok-next.ensures.came
