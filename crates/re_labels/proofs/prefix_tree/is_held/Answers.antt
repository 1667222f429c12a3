use Rattle.re_labels.proofs.TreeLeaves.{gap-new}
use Rattle.std.proofs.Common.{length}
use Rattle.re_labels.proofs.prefix_tree.is_held.Goals as goal

pub gap_of-requires-clause-on_way : goal.gap_of-requires-clause-on_way
gap_of-requires-clause-on_way c key tree = tree.root

pub returns-in-Some : goal.returns-in-Some
returns-in-Some c =
    let tree = c.requires in (
      λ h. absurd cc,
      λ held. absurd (gap-new (length c.args.config.now) c.args.nodes.now tree.0 tree.1 c.args.config.now c.in-Some.field-0.depth c.in-Some.field-0.parent c.in-Some.field-0.between.before c.in-Some.field-0.between.after
          c.in-Some.ensures.inside (c.in-Some.ensures.gap tree.0 tree.1) held),
    )
