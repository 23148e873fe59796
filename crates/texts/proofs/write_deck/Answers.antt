use Rattle.texts.proofs.Laws as laws
use Rattle.texts.proofs.write_deck.Goals as goal

pub returns-then-out-needed : goal.returns-then-out-needed
returns-then-out-needed c = λ D a e.
    let n = c.deck_size-needed.ensures D a e in
    let h = c.if-out-needed.true in
    (laws.refused_report _ _ _ n h, laws.refused_buffer _ _ _ n h)

pub write_frames-requires : goal.write_frames-requires
write_frames-requires c =
    let p = c.requires in
    let n = c.deck_size-needed.ensures p.0 p.1 p.2 in
    let i = c.initial_states.ensures in
    let q = c.property_nodes.ensures in
    (p.0.equations, p.0.property, laws.stored_lent p.0 p.1 _ p.2 _ _ _ i q c.rows.ensures, laws.deck_room p.0 p.1 _ p.2 _ _ i q _ _ n c.if-out-needed.false)

pub returns : goal.returns
returns c = λ D a e.
    let n = c.deck_size-needed.ensures D a e in
    let i = c.initial_states.ensures in
    let q = c.property_nodes.ensures in
    let h = c.if-out-needed.false in
    let f = c.write_frames.ensures in
    (laws.accepted-report _ _ _ n _ h (laws.deck_length D a _ e _ _ i q _ c.rows.ensures _ _ _ f), laws.accepted-buffer _ _ _ n _ h (laws.deck_wrote D a _ e _ _ i q _ c.rows.ensures _ _ _ f))
