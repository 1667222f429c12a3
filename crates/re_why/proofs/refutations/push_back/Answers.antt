use Rattle.std.proofs.Common.{◌≤◌, length, subst, sym}
use Rattle.re_why.proofs.Bounds.{fits_target}
use Rattle.re_why.proofs.refutations.push_back.Goals as goal

pub problem_at-requires : goal.problem_at-requires
problem_at-requires c = subst (λ k. k ≤ length c.args.certificate.now.steps) (sym c.back-back.ensures.back) (fits_target c.args.certificate.now c.back-back.ensures.bound)
