use borrow.Author.Rules.{rules}
use Rattle.texts.proofs.Laws as laws
use Rattle.texts.proofs.write_frames.Goals as goal

pub put_head-head-requires : goal.put_head-head-requires
put_head-head-requires c = search (rules, laws.head-room)

pub slice_bounds-put_equations-count : goal.slice_bounds-put_equations-count
slice_bounds-put_equations-count c = search (rules, laws.head-within)

pub slice_bounds-put_equations-start : goal.slice_bounds-put_equations-start
slice_bounds-put_equations-start c = search (rules, laws.head-within)

pub put_equations-middle-requires : goal.put_equations-middle-requires
put_equations-middle-requires c = search (rules, laws.equations-free)

pub slice_bounds-put_tail-count : goal.slice_bounds-put_tail-count
slice_bounds-put_tail-count c = search (rules, laws.put_within)

pub slice_bounds-put_tail-start : goal.slice_bounds-put_tail-start
slice_bounds-put_tail-start c = search (rules, laws.put_within)

pub put_tail-last-requires : goal.put_tail-last-requires
put_tail-last-requires c = search (rules, laws.tail_free)

pub returns : goal.returns
returns c = λ qs e l. (laws.frames_bytes _ qs e _ _ _ l _ _ _ _ _ c.put_head-head.ensures.0 c.put_equations-middle.ensures c.put_tail-last.ensures.0, search (rules, laws.frames_wrote))
