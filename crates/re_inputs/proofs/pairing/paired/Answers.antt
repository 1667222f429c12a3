use Rattle.std.proofs.Common.{◌<◌, ◌∙◌, subst, sym}
use Rattle.std.specs.List.{AllByRecursion}
use Rattle.re_labels.proofs.Replacing.{AllByRecursion-image_at}
use Rattle.re_inputs.proofs.pairing.paired.Goals as goal

pub push_pairs-requires-clause-ys : goal.push_pairs-requires-clause-ys
push_pairs-requires-clause-ys c =
    subst (AllByRecursion (λ y. y < c.args.m)) (sym (c.as_slice.ensures.value ∙ c.placed-second.ensures))
    (AllByRecursion-image_at c.args.ys.now c.args.order.now c.args.m c.requires.ys c.requires.places)
