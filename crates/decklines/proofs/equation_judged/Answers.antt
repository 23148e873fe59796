use mathlib.Core.Path.{refl}
use native.Mathlib.Omega.{arith}
use Rattle.decklines.proofs.Laws as laws
use Rattle.decklines.proofs.equation_judged.Goals as goal

pub returns-then-not-member : goal.returns-then-not-member
returns-then-not-member c = (λ s x i a b p. laws.equation_left c.args.n c.args.v c.args.h s c.args.e x c.args.deck.now.vars c.args.deck.now.equations.count i a b p (rw c.from.ensures at c.if-not-member.ensures), tt)

pub returns-then-not-subset : goal.returns-then-not-subset
returns-then-not-subset c = (λ s x i a b p. laws.equation_vars c.args.n c.args.v c.args.h s c.args.e x c.args.deck.now.vars c.args.deck.now.equations.count i a b p (rw c.from.ensures at c.if-not-member.ensures) c.if-not-subset.ensures, tt)

pub returns-then-e : goal.returns-then-e
returns-then-e c = (λ s x i a b p. laws.equation_temporal c.args.n c.args.v c.args.h s c.args.e x c.args.deck.now.vars c.args.deck.now.equations.count i a b p (rw c.from.ensures at c.if-not-member.ensures) c.if-not-subset.ensures c.if-e.true, tt)

pub returns-then-deck-gt-EQUATIONS : goal.returns-then-deck-gt-EQUATIONS
returns-then-deck-gt-EQUATIONS c = (λ s x i a b p. laws.equation_many c.args.n c.args.v c.args.h s c.args.e x c.args.deck.now.vars c.args.deck.now.equations.count i a b p (rw c.from.ensures at c.if-not-member.ensures) c.if-not-subset.ensures c.if-e.false c.if-deck-gt-EQUATIONS.true, tt)

pub returns-then-h-e-gt-EQUATION_NODES : goal.returns-then-h-e-gt-EQUATION_NODES
returns-then-h-e-gt-EQUATION_NODES c = (λ s x i a b p. laws.equation_nodes_lem c.args.n c.args.v c.args.h s c.args.e x c.args.deck.now.vars c.args.deck.now.equations.count i a b p (rw c.from.ensures at c.if-not-member.ensures) c.if-not-subset.ensures c.if-e.false c.if-deck-gt-EQUATIONS.false c.if-h-e-gt-EQUATION_NODES.true, tt)

pub returns : goal.returns
returns c = ((λ s x i a b p. laws.equation_taken c.args.n c.args.v c.args.h s c.args.e x c.args.deck.now.vars c.args.deck.now.equations.count i a b p (rw c.from.ensures at c.if-not-member.ensures) c.if-not-subset.ensures c.if-e.false c.if-deck-gt-EQUATIONS.false _ _ c.requires.0 c.if-h-e-gt-EQUATION_NODES.false (rw c.from-2.ensures at c.variable.ensures) c.union.ensures), record { few = omega arith; most = omega arith; used_is = refl })
