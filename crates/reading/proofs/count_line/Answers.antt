use Rattle.reading.proofs.Laws as laws
use Rattle.reading.proofs.count_line.Goals as goal

pub returns-then-not-counts : goal.returns-then-not-counts
returns-then-not-counts c = λ s i. laws.count_wrong _ _ c.args.h s c.if-not-counts.ensures

pub returns : goal.returns
returns c = λ s i. laws.count-right _ _ _ s i c.if-not-counts.ensures
