use native.Mathlib.Omega.{arith}
use Rattle.reading.proofs.Laws as laws
use Rattle.reading.proofs.deck_line.Goals as goal

pub returns-in_default : goal.returns-in_default
returns-in_default c = λ s w i f. laws.line_none _ _ s _ c.in_default.ensures

pub returns-then-not-permitted : goal.returns-then-not-permitted
returns-then-not-permitted c = λ s w i f. laws.line_not_due _ _ s _ c.in-Some.ensures _ i _ c.if-not-permitted.ensures

pub property_line-requires : goal.property_line-requires
property_line-requires c = laws.kind_within c.args.line.now _ c.in-Some.ensures c.in-4.is

pub returns-in-1 : goal.returns-in-1
returns-in-1 c = λ s w i f. laws.line_set_alone _ _ s _ c.in-Some.ensures _ i c.if-not-permitted.ensures _ _ _ w f c.in-1.is c.set_alone.ensures.came

pub returns-in-2 : goal.returns-in-2
returns-in-2 c = λ s w i f. laws.line_init _ _ s _ c.in-Some.ensures _ i c.if-not-permitted.ensures _ _ _ w f c.in-2.is c.init_line.ensures.came

pub returns-in-3 : goal.returns-in-3
returns-in-3 c = λ s w i f. laws.line_equation _ _ s _ c.in-Some.ensures _ i c.if-not-permitted.ensures _ _ _ w f c.in-3.is c.equation_line.ensures.came

pub returns-in-4 : goal.returns-in-4
returns-in-4 c = λ s w i f. laws.line_property _ _ s _ c.in-Some.ensures _ i c.if-not-permitted.ensures _ _ _ w f c.in-4.is c.property_line.ensures.came

pub returns-in_default-kind : goal.returns-in_default-kind
returns-in_default-kind c = λ s w i f. laws.line_count _ _ s _ c.in-Some.ensures _ i c.if-not-permitted.ensures _ _ f (λ e. omega arith) (λ e. omega arith) (λ e. omega arith) (λ e. omega arith) c.count_line.ensures
