use mathlib.Core.Path.{refl}
use borrow.Author.Rules.{rules}
use Rattle.claims.proofs.Verdict as laws
use Rattle.claims.proofs.verdict_on.Goals as goal

pub returns-then-not-stands_in : goal.returns-then-not-stands_in
returns-then-not-stands_in c D ok h =
    laws.not_initial _ D ok h c.args.states.now c.args.p c.requires.1 _ _ (c.stands_in.ensures, c.initial_states.ensures) c.if-not-stands_in.true

pub mark_all-requires : goal.mark_all-requires
mark_all-requires c = let (D, ok, h) = c.requires.0 in (laws.equations_given _ D ok h, c.requires.2, c.requires.4, c.requires.5, c.requires.1)

pub returns-in-Some : goal.returns-in-Some
returns-in-Some c D ok h =
    laws.no_step _ D ok h c.args.states.now c.args.p c.requires.1 _ _ c.requires.3 c.requires.5 c.mark_all.ensures.1 _ _ (c.stands_in.ensures, c.initial_states.ensures) c.if-not-stands_in.false _ c.in-Some.ensures

pub evaluate-requires : goal.evaluate-requires
evaluate-requires c = let (D, ok, h) = c.requires.0 in laws.property_ready _ D ok h c.args.states.now c.args.p _ _ c.mark_all.ensures.0 c.requires.2 c.requires.4 c.requires.1

pub returns-then-words-eq1 : goal.returns-then-words-eq1
returns-then-words-eq1 c D ok h =
    let left = laws.only-property _ D ok h c.args.states.now c.args.p c.requires.1 _ _ c.requires.3 c.requires.5 c.mark_all.ensures.1 _ _ (c.stands_in.ensures, c.initial_states.ensures) c.if-not-stands_in.false c.in_default.ensures in
    laws.holding _ D ok h c.args.states.now c.args.p _ _ (search rules) c.evaluate.ensures.1 left _ refl c.if-words-eq1.true

pub returns : goal.returns
returns c D ok h =
    let left = laws.only-property _ D ok h c.args.states.now c.args.p c.requires.1 _ _ c.requires.3 c.requires.5 c.mark_all.ensures.1 _ _ (c.stands_in.ensures, c.initial_states.ensures) c.if-not-stands_in.false c.in_default.ensures in
    laws.breaking _ D ok h c.args.states.now c.args.p _ _ (search rules) c.evaluate.ensures.1 left _ refl c.if-words-eq1.false
