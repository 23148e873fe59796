use Rattle.std.proofs.Common.{◌∙◌, ap, refl, arith}
use lib.ListN.{length-replicate}
use Rattle.std.proofs.Common.{ℕ}
use Rattle.checking.proofs.Laws as laws
use Rattle.checking.proofs.judged.Goals as goal

pub whole_as_slice-read_claim : goal.whole_as_slice-read_claim
whole_as_slice-read_claim g c = omega (arith, c.requires.1)

pub overflow_add-count : goal.overflow_add-count
overflow_add-count g c = let read = c.in_ok-m in let most = laws.count_most _ _ _ _ read.ensures.1 read.m refl in omega (arith, most)

pub shared_whole_as_front-verdict_on : goal.shared_whole_as_front-verdict_on
shared_whole_as_front-verdict_on g c = let read = c.in_ok-m in (laws.within _ _ _ _ read.ensures.1 read.m refl _ (read.ensures.0 ∙ length-replicate {A = ℕ} _ 0), omega (arith, c.requires.1))

pub whole_as_front-verdict_on : goal.whole_as_front-verdict_on
whole_as_front-verdict_on g c = let read = c.in_ok-m in (laws.within _ _ _ _ read.ensures.1 read.m refl _ (read.ensures.0 ∙ length-replicate {A = ℕ} _ 0), omega (arith, c.requires.1))

pub whole_as_front-verdict_on-2 : goal.whole_as_front-verdict_on-2
whole_as_front-verdict_on-2 g c = let read = c.in_ok-m in (laws.within _ _ _ _ read.ensures.1 read.m refl _ (read.ensures.0 ∙ length-replicate {A = ℕ} _ 0), omega (arith, c.requires.1))

pub verdict_on-requires : goal.verdict_on-requires
verdict_on-requires g c =
    let read = c.in_ok-m in
    let q = laws.verdict_asked _ _ _ _ read.ensures.1 read.m refl _ _ _ (read.ensures.0 ∙ length-replicate {A = ℕ} _ 0) refl refl in
    (c.requires.0, q.0, q.1, q.2, q.3, q.4)

pub returns : goal.returns
returns g c = let read = c.in_ok-m in λ D ok h. laws.verdict-done _ _ _ _ read.ensures.1 read.m refl _ D (ap (λ x. x.vars) h) (c.verdict_on.ensures D ok h)
