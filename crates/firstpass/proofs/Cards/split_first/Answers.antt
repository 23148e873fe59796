use Rattle.std.proofs.Common.{◌-◌, ◌<◌, length, drop, refl, arith, rules, length-take, length-drop}
use Rattle.firstpass.proofs.Laws as laws
use Rattle.firstpass.proofs.Cards.split_first.Goals as goal

pub returns : goal.returns
returns c =
    let text = c.args.self.text.now in
    let next = c.min-next.result in
    let some : 0 < length text = search rules in
    (laws.first-card _ _ _ some c.line_end-end.ensures.0 c.min-next.ensures, refl, omega (arith, length-take (length text - next) (drop next text), length-drop next text))
