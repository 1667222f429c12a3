use Rattle.std.proofs.Common.{arith, ap, length, length-append}
use Rattle.re_labels.proofs.TreeSteps.{length-way_nodes}
use Rattle.re_labels.specs.TreeGrowth.{way_nodes}
use Rattle.re_labels.proofs.prefix_tree.grow.Goals as goal

pub join_way-requires : goal.join_way-requires
join_way-requires c = (
  c.args.nodes.now.items,
  record {
    table = c.requires.table;
    found = c.requires.found;
    few = c.requires.few;
    behind = omega (arith, c.len-start.ensures, c.args.nodes.now.ok.0);
    way = c.add_way.ensures.items;
  },
)

pub returns-clause-held : goal.returns-clause-held
returns-clause-held c = c.join_way.ensures.held c.args.nodes.now.items (record {
  table = c.requires.table;
  found = c.requires.found;
  few = c.requires.few;
  behind = omega (arith, c.len-start.ensures, c.args.nodes.now.ok.0);
  way = c.add_way.ensures.items;
})

pub returns-clause-len : goal.returns-clause-len
returns-clause-len c =
    omega (
      arith,
      c.join_way.ensures.len,
      ap length c.add_way.ensures.items,
      length-append c.args.nodes.now.items (way_nodes c.args.config.now c.args.gap.depth c.args.gap.parent c.args.gap.between.after (length c.args.nodes.now.items)),
      length-way_nodes c.args.config.now c.args.gap.depth c.args.gap.parent c.args.gap.between.after (length c.args.nodes.now.items) c.requires.found.inside,
      c.args.nodes.now.ok.0,
      c.add_way.new.nodes.ok.0,
    )
