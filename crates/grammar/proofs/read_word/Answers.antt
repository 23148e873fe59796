use Rattle.std.proofs.Common.{rules, arith}
use Rattle.grammar.proofs.Words as laws
use Rattle.grammar.proofs.read_word.Goals as goal

pub returns-in-Some-2 : goal.returns-in-Some-2
returns-in-Some-2 c = search (rules, laws.words_other)

pub returns-in-None : goal.returns-in-None
returns-in-None c = search (rules, laws.words_off)

pub loop-w-preserved : goal.loop-w-preserved
loop-w-preserved c =
    let i = c.in-Some.ensures in
    let v = c.loop-w.invariant in
    let on = laws.word_on _ _ _ _ _ v.0 v.2 v.3 c.in-Some.c i (omega arith) c.if-c-w.true in
    (omega (arith, v.0, i.from, i.onward), omega (arith, i.within, i.onward), on.0, on.1)

pub returns : goal.returns
returns c = search (rules, laws.words_found)
