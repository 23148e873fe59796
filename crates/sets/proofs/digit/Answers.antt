use Prim.Native.Nat.{◌<◌, ◌^◌}
use native.Mathlib.Omega.{arith}
use Rattle.sets.proofs.Laws.{digit_high}
use borrow.Author.Rules.{rules}
use Rattle.sets.specs.Sets.{width}
use Rattle.sets.proofs.digit.Goals as goal

pub returns-then-v-ge-WIDTH : goal.returns-then-v-ge-WIDTH
returns-then-v-ge-WIDTH c = let h : c.args.s < 2 ^ width = omega arith in search (rules, digit_high)
