use Rattle.std.proofs.Common.{◌≡◌, List, ℕ, [], subst}
use Rattle.std.specs.Prelude.{IsTrue, ◌↔◌}
use Rattle.re_labels.proofs.Fitting.{allowed-completes}
use Rattle.re_labels.specs.Constraints.{Constraint}
use Rattle.re_labels.specs.Fitting.{Completes}
use Rattle.re_labels.specs.GoodRows.{is_allowed}
use Rattle.re_labels.specs.PrefixTrees.{held_configs}
use Rattle.re_labels.specs.declared.prefix_tree.Node.{Node}
use Rattle.re_labels.proofs.constraint_table.Constraint.allows.Goals as goal
use Rattle.re_labels.specs.declared.TheConstants.{MAX_LABELS}

pub returns : goal.returns
returns c =
    let seen : Constraint = record { degree = c.self.inside.degree; configs = held_configs c.self.inside.nodes.items } in
    subst (λ (k : Constraint). c.draws_from.result ≡ is_allowed k c.args.row.now) c.self.view_is
    (subst (λ (row : List (List ℕ)). c.draws_from.result ≡ is_allowed seen row) c.sets.ensures.sets
    (allowed-completes seen MAX_LABELS c.self.invariant.1 c.sets.result.now c.draws_from.result
    (subst (λ (l : List Node). IsTrue c.draws_from.result ↔ Completes (held_configs l) [] c.sets.result.now) c.as_slice.ensures.value c.draws_from.ensures)))
