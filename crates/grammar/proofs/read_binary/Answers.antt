use Rattle.std.proofs.Common.{rules, arith, ◌+◌, ◌*◌, ◌%◌, ◌^◌, ◌<◌}
use Rattle.grammar.proofs.Binaries as laws
use Rattle.grammar.proofs.read_binary.Goals as goal

pub returns-in_err-d : goal.returns-in_err-d
returns-in_err-d c = search (rules, laws.binaries_none)

pub loop-i-preserved : goal.loop-i-preserved
loop-i-preserved c =
    let d = c.in_ok-d.ensures in
    let v = c.loop-i.invariant in
    let s = c.loop-i.state in
    let i = c.loop-i.i in
    let l : i < 64 = omega arith in
    let more : s + c.in_ok-d.d.value * 2 ^ i % 2 ^ 64 < 2 ^ (i + 1) = omega (arith, laws.shifted s i c.in_ok-d.d.value l v.2 d.1, laws.digit_more s i c.in_ok-d.d.value l v.2 d.1) in
    rw c.from.ensures (omega (arith, v.0, d.0.from), d.0.within, more, laws.binary_on _ _ _ _ _ _ v.0 v.3 (omega arith) c.in_ok-d.d l v.2 d)

pub returns-in-Some : goal.returns-in-Some
returns-in-Some c = search (rules, laws.binaries_further)

pub returns : goal.returns
returns c = search (rules, laws.binaries_whole)
