use Rattle.std.proofs.Common.{◌≡◌, ◌-◌, ◌^◌, ◌<◌, ◌≤◌, length}
use Rattle.cards.specs.Read.{read_binary}
use Rattle.grammar.specs.Ahead.{ahead}
use Rattle.grammar.proofs.read_binary.Given as goal

abbrev pub invariant-loop-i : goal.invariant-loop-i
invariant-loop-i l = (l.at ≤ l.next) × (l.next ≤ length l.chars) × (l.state < 2 ^ l.i) × (read_binary 0 l.k 0 (ahead l.chars l.at) ≡ read_binary l.i (l.k - l.i) l.state (ahead l.chars l.next))
