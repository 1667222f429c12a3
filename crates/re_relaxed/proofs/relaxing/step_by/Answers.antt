use Rattle.std.proofs.Common.{◌<◌, [], ◌∷◌, length, arith}
use Rattle.re_labels.proofs.Replacing.{AllByRecursion-image_at}
use Rattle.re_relaxed.proofs.relaxing.step_by.Goals as goal

pub relaxed_step-requires-clause-below : goal.relaxed_step-requires-clause-below
relaxed_step-requires-clause-below c = λ label l.
    let within : label < length c.args.images.now = omega arith in
    (AllByRecursion-image_at c.args.images.now (label ∷ []) (length c.args.relaxed.now.names) c.requires.below (within, tt)).0
