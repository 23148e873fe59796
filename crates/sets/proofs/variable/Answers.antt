use Rattle.sets.proofs.Laws.{only_mod_high}
use borrow.Author.Rules.{rules}
use Rattle.sets.proofs.variable.Goals as goal

pub returns-then-v-ge-WIDTH : goal.returns-then-v-ge-WIDTH
returns-then-v-ge-WIDTH c = search (rules, only_mod_high)
