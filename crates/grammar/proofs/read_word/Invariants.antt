use Rattle.std.proofs.Common.{◌≡◌, ◌≤◌, length, drop}
use Rattle.cards.specs.Read.{behind}
use Rattle.grammar.specs.Ahead.{ahead}
use Rattle.grammar.specs.Readers.{amiss}
use Rattle.grammar.proofs.read_word.Given as goal

abbrev pub invariant-loop-w : goal.invariant-loop-w
invariant-loop-w l = (l.at ≤ l.next) × (l.next ≤ length l.chars) × (behind l.word (ahead l.chars l.at) ≡ behind (drop l.w-index l.word) (ahead l.chars l.next)) × (amiss l.word (ahead l.chars l.at) ≡ amiss (drop l.w-index l.word) (ahead l.chars l.next))
