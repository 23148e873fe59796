use mathlib.Core.Path.{refl}
use borrow.Author.Rules.{rules}
use Rattle.frames.specs.Hex.{pair}
use Rattle.writing.proofs.Laws as laws
use Rattle.writing.proofs.put_number.Goals as goal

pub loop-i-preserved : goal.loop-i-preserved
loop-i-preserved c = (search rules, laws.each_next pair 2 _ _ _ _ _ (λ n. refl) c.loop-i-test.true c.loop-i.invariant.1 c.put_byte.ensures)

pub returns : goal.returns
returns c = laws.number-done c.args.k c.args.n _ _ c.to_be_bytes-bytes.result _ _ c.requires.0 c.to_be_bytes-bytes.ensures c.loop-i-test.false c.loop-i.invariant.1
