use mathlib.Core.Path.{refl, sym, ◌∙◌}
use native.Mathlib.Omega.{arith}
use denote.Enum.Bare.{differs_true, differs_false}
use Rattle.std.proofs.lemmas.Result.{err_from_is_err_and}
use Rattle.claimreading.specs.contracts.Due.{the_type}
use Rattle.claimreading.proofs.Laws as laws
use borrow.Author.Rules.{rules}
use Rattle.claimreading.proofs.read_claim.Goals as goal

pub returns-then-text-gt-TEXT : goal.returns-then-text-gt-TEXT
returns-then-text-gt-TEXT c = (refl, laws.too_long _ _ _ c.if-text-gt-TEXT.true)

pub loop-at-init : goal.loop-at-init
loop-at-init c = (omega arith, omega arith, omega arith, c.if-text-gt-TEXT.false, refl, c.requires.1, laws.reached_begun _ _ _ _ c.requires.0 c.if-text-gt-TEXT.false c.nothing-held.ensures)

pub returns-then-end-text : goal.returns-then-end-text
returns-then-end-text c = (c.loop-at.invariant.4, laws.reached_early _ _ c.loop-at.invariant.6 _ c.line_end-end.ensures.0 c.loop-at-test.true c.if-end-text.true)

pub claim_line-requires : goal.claim_line-requires
claim_line-requires c = (c.loop-at.invariant.1, c.loop-at.invariant.6.small, laws.line_room _ _ c.loop-at.invariant.6 _ c.line_end-end.ensures.0 c.line_end-end.ensures.2 c.if-end-text.false c.line_end-end.ensures.1 c.loop-at.invariant.5)

pub returns-in_err-held : goal.returns-in_err-held
returns-in_err-held c =
    let p = err_from_is_err_and c.from_residual.result c.from_residual.ensures.1 in
    rw (p.1, p.2) (c.claim_line.ensures.0 ∙ c.loop-at.invariant.4, laws.reached_refused _ _ c.loop-at.invariant.6 _ c.line_end-end.ensures.0 c.line_end-end.ensures.2 c.if-end-text.false c.line_end-end.ensures.1 _ _ c.claim_line.ensures.2 _ c.in_err-held.was)

pub loop-at-preserved : goal.loop-at-preserved
loop-at-preserved c =
    let h = c.in_ok-held.ensures in
    (omega arith, omega arith, omega arith, omega arith, h.0 ∙ c.loop-at.invariant.4, laws.room_kept _ _ _ c.loop-at.invariant.5 h.0, laws.reached_on _ _ c.loop-at.invariant.6 _ c.line_end-end.ensures.0 c.line_end-end.ensures.2 c.if-end-text.false c.line_end-end.ensures.1 _ _ c.claim_line.ensures.2 _ c.in_ok-held.was h.1.0 h.1.1)

pub returns-then-ne : goal.returns-then-ne
returns-then-ne c = (c.loop-at.invariant.4, laws.reached_unfinished _ _ c.loop-at.invariant.6 c.loop-at-test.false (differs_true the_type _ _ (sym c.if-ne.ensures)))

pub returns : goal.returns
returns c = (c.loop-at.invariant.4, laws.reached_done _ _ c.loop-at.invariant.6 c.loop-at-test.false (differs_false the_type (search rules) _ _ (sym c.if-ne.ensures)))
