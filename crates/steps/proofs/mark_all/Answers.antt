use Rattle.std.proofs.Common.{rules, arith, refl, sym, ◌∙◌, ◌≡◌, ◌+◌, ◌++◌, [], ◌∷◌, ◌⊎◌, inl, inr, length, length-append}
use Rattle.steps.proofs.Equations as laws
use Rattle.steps.proofs.mark_all.Goals as goal

pub loop-left-init : goal.loop-left-init
loop-left-init c = record { words_kept = refl; lefts_behind = search rules; ends_behind = search rules; marking = laws.marking_starts _ _ _ _ _ _ _ c.requires.3 }

pub mark_equation-requires : goal.mark_equation-requires
mark_equation-requires c =
    let a = c.in-Some.ensures.steps in
    let i = c.loop-left.invariant in
    let s = laws.walked c.args.equations.now.lefts c.args.equations.now.ends c.args.equations.now.count (length c.loop-left.yielded) _ _ _ _ (sym i.lefts_behind ∙ a.0) (sym i.ends_behind ∙ a.1) in
    laws.equation_ready _ _ _ _ _ _ _ _ _ _ s.0 i.marking c.requires.0.0 c.requires.0.1 _ _ i.words_kept c.requires.1 c.requires.2 c.requires.4

pub loop-left-preserved : goal.loop-left-preserved
loop-left-preserved c =
    let a = c.in-Some.ensures.steps in
    let i = c.loop-left.invariant in
    let s = laws.walked c.args.equations.now.lefts c.args.equations.now.ends c.args.equations.now.count (length c.loop-left.yielded) _ _ _ _ (sym i.lefts_behind ∙ a.0) (sym i.ends_behind ∙ a.1) in
    let e : length (c.loop-left.yielded ++ ((c.in-Some.left, c.in-Some.end) ∷ [])) ≡ length c.loop-left.yielded + 1 = length-append c.loop-left.yielded _ in
    record {
      words_kept = c.mark_equation.ensures.0 ∙ i.words_kept;
      lefts_behind = rw e s.3;
      ends_behind = rw e s.4;
      marking = rw e (laws.marking_next _ _ _ _ _ _ _ _ _ _ s.0 i.marking _ _ _ (c.from.ensures ∙ s.1) (c.from-at.ensures ∙ s.2) c.mark_equation.ensures.1 (omega arith));
    }

pub returns : goal.returns
returns c =
    let i = c.loop-left.invariant in
    let e : (length c.loop-left.left-iterator.a.rest.now ≡ 0) ⊎ (length c.loop-left.left-iterator.b.rest.now ≡ 0) = elim c.in-None.ensures.steps [ inl (x, (h, k)) ↦ inl h | inr (x, (h, k)) ↦ inr h ] in
    (i.words_kept, laws.marking_ends _ _ _ _ _ _ _ _ _ _ (laws.walked_over _ _ _ _ (length c.loop-left.yielded) c.requires.0.0 c.requires.0.1 (rw (← i.lefts_behind, ← i.ends_behind) e)) i.marking)
