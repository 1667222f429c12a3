use Rattle.std.proofs.Common.{◌++◌, ◌∷◌, [], ℕ, List, ◌∙◌, arith, ap, get_or, sym, subst, length}
use Rattle.re_labels.proofs.TreeSteps.{way-leaf}
use Rattle.re_labels.proofs.TreeWalks.{read-node}
use Rattle.re_labels.specs.declared.constraint_table.TheConstants.{MAX_CONFIGURATIONS}
use Rattle.re_labels.specs.declared.prefix_tree.Kind.TheVariants.{Leaf}
use Rattle.re_labels.specs.declared.prefix_tree.Node.{Node}
use Rattle.re_labels.specs.TreeGrowth.{IsFound, IsLonger}
use Rattle.re_labels.proofs.prefix_tree.grow_behind.Goals as goal

longer : (c : goal.After-join_way-arg-1) → IsLonger MAX_CONFIGURATIONS c.args.nodes.now.items c.push_reserved.new.self.items c.args.config.now c.args.last c.index.result.now.parent c.args.near 0 c.len-start.result
longer c =
    let nodes = c.args.nodes.now.items in
    let read = read-node nodes c.args.near c.index.result.now c.requires.found.before_within c.index.ensures in
    let node : List ℕ → List ℕ → Node = λ labels config. record { label = get_or labels c.args.last 0; next = 0; parent = c.index.result.now.parent; kind = Leaf config } in
    record {
      table = c.requires.table;
      found = subst (λ (n : Node). IsFound nodes c.args.config.now c.args.last n.parent c.args.near 0) (sym read) c.requires.found;
      few = c.requires.few;
      behind = omega (arith, c.len-start.ensures, c.args.nodes.now.ok.0);
      way = c.push_reserved.ensures.items ∙ (λ i. nodes ++ node (c.labels.ensures.labels i) (c.copy.ensures i) ∷ []) ∙ ap (λ w. nodes ++ w) (sym (way-leaf c.args.config.now c.args.last c.index.result.now.parent (length nodes) c.requires.last));
    }

pub join_way-requires : goal.join_way-requires
join_way-requires c = (c.args.nodes.now.items, longer c)
