use Rattle.std.proofs.Common.{◌<◌, arith, length}
use Rattle.re_texts.proofs.FittingParts.{back_ready}
use Rattle.re_texts.proofs.printed_certificate.target.Goals as goal

pub problem_at-requires : goal.problem_at-requires
problem_at-requires c =
    let low : c.args.certificate.now.back < length c.args.certificate.now.steps = back_ready c.args.certificate.now c.back.ensures.bound c.requires in
    let same = c.back.ensures.back in
    omega arith
