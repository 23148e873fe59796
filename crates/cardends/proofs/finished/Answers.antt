use Rattle.cardends.proofs.FinishLaws as laws
use Rattle.cardends.proofs.finished.Goals as goal

pub first_vars-vars-requires : goal.first_vars-vars-requires
first_vars-vars-requires c = laws.vars-few _ _ c.requires

pub left_set-requires : goal.left_set-requires
left_set-requires c = laws.equations_few _ _ c.requires

pub returns-then-missing-ne0-clause-read : goal.returns-then-missing-ne0-clause-read
returns-then-missing-ne0-clause-read c = laws.lacks_one _ _ _ _ _ c.first_vars-vars.ensures c.left_set.ensures c.without-missing.ensures _ _ c.if-missing-ne0.true c.lowest.ensures

pub returns-clause-read : goal.returns-clause-read
returns-clause-read c = laws.lacks_none _ _ _ _ _ c.first_vars-vars.ensures c.left_set.ensures c.without-missing.ensures c.if-missing-ne0.false
