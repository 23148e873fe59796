use Rattle.std.proofs.Common.{◌≡◌, ◌+◌, ◌-◌, ℕ, List, length, replicate, set, ap, rules, arith}
use Rattle.statements.proofs.Laws as laws
use Rattle.statements.proofs.append.Goals as goal

pub returns : goal.returns
returns c =
    let f = c.args.field.now in
    let s = c.args.stmt.now in
    let blanks : c.fill.new.self ≡ replicate (66 - length f) 32 = search rules in
    let chars = laws.field_written s.used (s.used + length f - s.used) (s.used + 66 - (s.used + length f)) f _ _ s.chars c.requires.1 (search rules) (omega arith) (omega arith) c.copy_from_slice.ensures.after blanks in
    ap (λ (l : List ℕ). record { chars = l; used = s.used + 66; cards = set s.cards s.count c.args.n; count = s.count + 1 }) chars
