use mathlib.Core.Path.{refl}
use native.Mathlib.Omega.{arith}
use Rattle.pieces.proofs.Stored as laws
use Rattle.pieces.proofs.reduce.Goals as goal

pub dependencies-requires : goal.dependencies-requires
dependencies-requires c = (laws.given_some _ c.rows.result c.rows.ensures c.requires, refl)

pub split_property-conjuncts-requires : goal.split_property-conjuncts-requires
split_property-conjuncts-requires c = (omega arith, laws.coded_some _ _ c.property_nodes.ensures c.requires)

pub pieces_size-needed-requires : goal.pieces_size-needed-requires
pieces_size-needed-requires c =
    laws.bound_some _ _ c.property_nodes.ensures _ _ _ c.rows.result c.rows.ensures c.dependencies.ensures c.as_slice-spans.ensures c.split_property-conjuncts.ensures c.requires

pub returns-then-out-needed : goal.returns-then-out-needed
returns-then-out-needed c = λ D a e.
    let b = laws.its_bound _ _ c.property_nodes.ensures _ _ _ c.rows.result c.rows.ensures c.dependencies.ensures c.as_slice-spans.ensures c.split_property-conjuncts.ensures D a e in
    let q = c.pieces_size-needed.ensures D b in
    let h = c.if-out-needed.true in
    (laws.refused_answer D _ _ q h, laws.refused_buffer D _ _ q h)

pub write_pieces-n-requires : goal.write_pieces-n-requires
write_pieces-n-requires c =
    let n = c.pieces_size-needed.ensures in
    laws.room-some _ _ c.property_nodes.ensures _ _ _ c.rows.result c.rows.ensures c.dependencies.ensures c.as_slice-spans.ensures c.split_property-conjuncts.ensures _ _ n c.if-out-needed.false c.requires

pub returns : goal.returns
returns c = λ D a e.
    let p = c.property_nodes.ensures in
    let t = c.dependencies.ensures in
    let s = c.split_property-conjuncts.ensures in
    let b = laws.its_bound _ _ p _ _ _ c.rows.result c.rows.ensures t c.as_slice-spans.ensures s D a e in
    let q = c.pieces_size-needed.ensures D b in
    let h = c.if-out-needed.false in
    let done = c.write_pieces-n.ensures D b (laws.room-there D _ _ q h) in
    (laws.fine_answer D _ _ q _ _ h (laws.pieces_counted _ _ p _ _ _ c.rows.result c.rows.ensures t c.as_slice-spans.ensures s D a e) done.0, laws.fine_buffer D _ _ q _ h done.1)
