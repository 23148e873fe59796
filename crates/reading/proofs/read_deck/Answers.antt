use Rattle.std.proofs.Common.{◌∙◌}
use Rattle.decks.proofs.Lent.{rows_blank}
use Rattle.reading.proofs.read_deck.Goals as goal

pub all_lines-done-requires : goal.all_lines-done-requires
all_lines-done-requires c = c.uncount.ensures ∙ rows_blank c.args.deck.now c.requires
