use mathlib.Core.Path.{sym}
use native.Mathlib.Omega.{arith}
use denote.Enum.Bare.{differs_true, differs_false}
use Rattle.decklines.specs.contracts.Due.{the_type}
use Rattle.std.proofs.lemmas.Result.{err_from_is_err_and}
use Rattle.reading.proofs.Laws as laws
use borrow.Author.Rules.{rules}
use Rattle.reading.proofs.all_lines.Goals as goal

pub returns-then-text-gt-TEXT : goal.returns-then-text-gt-TEXT
returns-then-text-gt-TEXT c = laws.too_long _ _ c.if-text-gt-TEXT.true

pub loop-at-init : goal.loop-at-init
loop-at-init c = (omega arith, omega arith, omega arith, c.if-text-gt-TEXT.false, laws.reached_begun _ _ _ c.requires c.if-text-gt-TEXT.false c.nothing-held.ensures)

pub returns-then-end-text : goal.returns-then-end-text
returns-then-end-text c = laws.reached_early _ c.loop-at.invariant.4 _ c.loop-at-test.true c.line_end-end.ensures.0 c.if-end-text.true

pub returns-in_err-held : goal.returns-in_err-held
returns-in_err-held c =
    let p = err_from_is_err_and c.from_residual.result c.from_residual.ensures.1 in
    rw (p.1, p.2) (laws.reached_refused _ c.loop-at.invariant.4 _ c.line_end-end.ensures.0 c.line_end-end.ensures.2 c.if-end-text.false c.line_end-end.ensures.1 _ _ c.deck_line.ensures _ c.in_err-held.was)

pub loop-at-preserved : goal.loop-at-preserved
loop-at-preserved c = (omega arith, omega arith, omega arith, omega arith, laws.reached_on _ c.loop-at.invariant.4 _ c.line_end-end.ensures.0 c.line_end-end.ensures.2 c.if-end-text.false c.line_end-end.ensures.1 _ _ c.deck_line.ensures _ c.in_ok-held.was)

pub returns-then-ne : goal.returns-then-ne
returns-then-ne c = laws.reached_unfinished _ c.loop-at.invariant.4 c.loop-at-test.false (differs_true the_type _ _ (sym c.if-ne.ensures))

pub returns-then-missing-ne0 : goal.returns-then-missing-ne0
returns-then-missing-ne0 c = laws.reached_missing _ c.loop-at.invariant.4 c.loop-at-test.false (differs_false the_type (search rules) _ _ (sym c.if-ne.ensures)) _ c.without-missing.ensures c.if-missing-ne0.true _ c.lowest.ensures

pub returns : goal.returns
returns c = laws.reached_done _ c.loop-at.invariant.4 c.loop-at-test.false (differs_false the_type (search rules) _ _ (sym c.if-ne.ensures)) _ c.without-missing.ensures c.if-missing-ne0.false
