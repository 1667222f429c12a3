use Rattle.re_texts.proofs.FittingParts.{step_parts}
use Rattle.re_texts.proofs.printed_certificate.push_step.Goals as goal

pub push_map-requires : goal.push_map-requires
push_map-requires c = (step_parts c.requires.0 c.args.before.now c.args.step.now c.requires.1).3
