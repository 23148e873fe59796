use Rattle.std.proofs.Common.{take, ◌∙◌}
use Rattle.std.proofs.lemmas.List.{length_push}
use Rattle.std.proofs.lemmas.Slice.Zip.{zip_turn, zip_end}
use Rattle.cones.proofs.Table as laws
use borrow.Author.Rules.{rules}
use Rattle.cones.proofs.dependencies.Goals as goal

pub slice_bounds-zip-end : goal.slice_bounds-zip-end
slice_bounds-zip-end c = laws.ends_first _ _ _ _ c.requires.0

pub loop-left-init : goal.loop-left-init
loop-left-init c = search (rules, laws.filling_starts)

pub bounds-deps-v : goal.bounds-deps-v
bounds-deps-v c =
    let e = c.args.equations in
    let t = laws.turn e.lefts.now e.ends.now e.count _ _ _ (zip_turn (take e.count e.lefts.now) (take e.count e.ends.now) c.loop-left.yielded c.into_iter-left-iterator.result c.loop-left.left-iterator c.next.new.self c.next.result (cc) (cc) c.loop-left.yielded_by _ c.in-Some.is c.next.ensures.steps) in
    laws.left_place _ _ _ _ _ t.here c.requires.0.0 c.requires.0.1 _ _ _ c.loop-left.invariant (c.from-v.ensures ∙ t.left_is)

pub loop-left-preserved : goal.loop-left-preserved
loop-left-preserved c =
    let e = c.args.equations in
    let t = laws.turn e.lefts.now e.ends.now e.count _ _ _ (zip_turn (take e.count e.lefts.now) (take e.count e.ends.now) c.loop-left.yielded c.into_iter-left-iterator.result c.loop-left.left-iterator c.next.new.self c.next.result (cc) (cc) c.loop-left.yielded_by _ c.in-Some.is c.next.ensures.steps) in
    rw (length_push c.loop-left.yielded (c.in-Some.left, c.in-Some.end)) (laws.filling_next _ _ _ _ _ t.here _ _ _ _ _ _ c.loop-left.invariant (c.from-v.ensures ∙ t.left_is) (c.from-end.ensures ∙ t.end_is) c.written_in-more.ensures c.union.ensures)

pub returns : goal.returns
returns c qs g =
    let e = c.args.equations in
    let t = zip_end (take e.count e.lefts.now) (take e.count e.ends.now) c.loop-left.yielded c.into_iter-left-iterator.result c.loop-left.left-iterator c.next.new.self c.next.result (cc) (cc) c.loop-left.yielded_by c.in-None.is c.next.ensures.steps in
    laws.filling_ends _ _ _ _ _ _ _ qs t c.loop-left.invariant g
