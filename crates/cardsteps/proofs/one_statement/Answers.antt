use Rattle.std.proofs.Common.{arith}
use Rattle.std.proofs.lemmas.Result.{err_from_is_err_and}
use Rattle.statements.proofs.Laws.{field-short}
use Rattle.cardsteps.proofs.StepLaws as laws
use Rattle.cardsteps.proofs.one_statement.Goals as goal

pub statement_read-requires : goal.statement_read-requires
statement_read-requires c = let short = field-short _ c.args.opener.card.now c.field-field.ensures in (omega (arith, short), c.requires.1)

pub returns-in_err-next-clause-came : goal.returns-in_err-next-clause-came
returns-in_err-next-clause-came c =
    let p = err_from_is_err_and c.from_residual.result c.from_residual.ensures.1 in
    rw (p.1, p.2) (laws.alone_stopped c.args.opener c.requires.0 _ c.is_continued.ensures c.if-is_continued.false _ _ c.statement_read.new.deck _ c.field-field.ensures _ c.in_err-next.ensures.came)

pub returns-clause-came : goal.returns-clause-came
returns-clause-came c =
    laws.alone_onward c.args.opener c.requires.0 _ c.is_continued.ensures c.if-is_continued.false _ _ _ _ c.field-field.ensures _ c.in_ok-next.ensures.small c.in_ok-next.ensures.came
