use Rattle.std.proofs.Common.{◌≡◌, length, take, drop}
use Rattle.steps.proofs.Equations.{Marking}
use Rattle.steps.proofs.mark_all.Given as goal

abbrev pub invariant-loop-left : goal.invariant-loop-left
invariant-loop-left l =
    record {
      words_kept : l.words ≡ l.initial.words;
      lefts_behind : l.left-iterator.a.rest.now ≡ drop (length l.yielded) (take l.equations.count l.equations.lefts);
      ends_behind : l.left-iterator.b.rest.now ≡ drop (length l.yielded) l.equations.ends;
      marking : Marking l.equations.lefts l.equations.ends l.equations.nodes l.equations.count l.states l.p l.initial.marks l.marks (length l.yielded) l.at;
    }
