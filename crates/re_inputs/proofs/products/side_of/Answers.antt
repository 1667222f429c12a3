use Rattle.std.proofs.Common.{◌<◌, length, subst, sym}
use Rattle.std.specs.List.{AllByRecursion}
use Rattle.re_inputs.proofs.PairingLemmas.{pairs_low}
use Rattle.re_labels.specs.Constraints.{Constraint}
use Rattle.re_inputs.proofs.products.side_of.Goals as goal

pub image-requires-clause-known : goal.image-requires-clause-known
image-requires-clause-known c =
    subst (λ (pairs : Constraint). AllByRecursion (AllByRecursion (λ label. label < length c.args.labels.now)) pairs.configs) (sym c.in_ok-pairs.ensures.pairs)
    (pairs_low c.args.n c.args.m (length c.args.labels.now) c.args.own.now c.args.given.now c.requires.own.least c.requires.own.most c.requires.count)
