use Rattle.std.proofs.Common.{sym, subst, List}
use Rattle.re_labels.proofs.TreeSteps.{IsTable-empty}
use Rattle.re_labels.specs.Constraints.{IsConstraint}
use Rattle.re_labels.specs.PrefixTrees.{IsTable, held_configs}
use Rattle.re_labels.specs.declared.prefix_tree.Node.{Node}
use Rattle.re_labels.proofs.constraint_table.Constraint.new.Goals as goal
use Rattle.re_labels.specs.declared.constraint_table.TheConstants.{MAX_CONFIGURATIONS}
use Rattle.re_labels.specs.declared.TheConstants.{MAX_LABELS}

pub invariant_of-result : goal.invariant_of-result
invariant_of-result c =
    subst (λ (l : List Node). IsTable c.args.degree MAX_CONFIGURATIONS l × IsConstraint MAX_LABELS (record { degree = c.args.degree; configs = held_configs l })) (sym c.new.ensures.items)
    (IsTable-empty c.args.degree MAX_CONFIGURATIONS, record { least = c.requires.least; most = c.requires.most; configs = tt; ascends = tt })
