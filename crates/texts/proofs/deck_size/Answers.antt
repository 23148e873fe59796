use mathlib.Core.Path.{refl, ap, ◌∙◌}
use lib.ListN.{length, take}
use Prim.Native.Nat.{◌-◌}
use Rattle.std.specs.Option.{unwrap_or}
use Rattle.std.proofs.lemmas.Option.{unwrap_or-slice_get}
use Rattle.texts.proofs.Laws as laws
use Rattle.texts.proofs.deck_size.Goals as goal

pub returns : goal.returns
returns c = λ D a e.
    let ends = take c.args.deck.now.equations.count c.args.deck.now.equations.ends in
    let last = c.from-nodes.ensures ∙ c.unwrap_or.ensures ∙ ap (λ o. unwrap_or o 0) (c.copied.ensures ∙ c.last.ensures.value) in
    laws.deck_bytes_lem D a _ e _ ends refl (last ∙ unwrap_or-slice_get ends (length ends - 1) 0)
