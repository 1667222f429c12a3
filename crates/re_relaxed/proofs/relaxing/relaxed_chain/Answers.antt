use Rattle.std.proofs.Common.{length, subst}
use Rattle.std.specs.Prelude.{IfSome}
use Rattle.re_cert.specs.declared.certificate.Kind.TheVariants.{Lower}
use Rattle.re_shaping.specs.Extensions.{GoesOn}
use Rattle.re_labels.specs.declared.TheConstants.{MAX_LABELS}
use Rattle.re_relaxed.proofs.Accepted.{accepted_sound}
use Rattle.re_relaxed.proofs.relaxing.relaxed_chain.Goals as goal

pub new-requires-in-Some-3-clause-lower : goal.new-requires-in-Some-3-clause-lower
new-requires-in-Some-3-clause-lower c = (subst (λ found. IfSome found (GoesOn Lower 1 MAX_LABELS c.args.chain.now.certificate)) c.in-Some-3.is c.in_ok-longer.ensures.goes_on).of_kind

pub new-requires-in-Some-3-clause-sound : goal.new-requires-in-Some-3-clause-sound
new-requires-in-Some-3-clause-sound c =
    let goes = subst (λ found. IfSome found (GoesOn Lower 1 MAX_LABELS c.args.chain.now.certificate)) c.in-Some-3.is c.in_ok-longer.ensures.goes_on in
    accepted_sound c.in-Some-3.longer Lower (length c.in-Some-3.longer.steps) goes.valid
