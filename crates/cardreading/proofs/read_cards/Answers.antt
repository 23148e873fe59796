use Rattle.std.proofs.Common.{◌∙◌}
use Rattle.decks.proofs.Lent.{rows_blank}
use Rattle.cardreading.proofs.read_cards.Goals as goal

pub both_passes-done-requires : goal.both_passes-done-requires
both_passes-done-requires c = c.uncount.ensures ∙ rows_blank c.args.deck.now c.requires
