use Rattle.std.proofs.Common.{◌≡◌, ◌∙◌, ◌+◌, ap, sym, subst, length}
use Rattle.re_labels.proofs.Insertions.{IsConstraint-each}
use Rattle.re_labels.specs.PrefixTrees.{IsTable, held_configs}
use Rattle.re_labels.specs.declared.constraint_table.TheConstants.{MAX_CONFIGURATIONS}
use Rattle.re_labels.proofs.constraint_table.Constraint.insert_each.Goals as goal

pub invariant_of-self-2 : goal.invariant_of-self-2
invariant_of-self-2 c =
    let degree : length c.args.labels.now + 1 ≡ c.self.inside.degree = c.requires.fit ∙ ap (λ s. s.degree) (sym c.self.view_is) in (
      subst (λ d. IsTable d MAX_CONFIGURATIONS c.put_each.new.nodes.items) degree c.put_each.ensures.table,
      IsConstraint-each c.self.inside.degree (held_configs c.self.inside.nodes.items) (held_configs c.make_root.new.nodes.items) (held_configs c.put_each.new.nodes.items) c.args.labels.now c.args.lasts c.put_each.result
          c.self.invariant.1 c.make_root.ensures.held degree c.requires.below c.count-count.ensures.set.1 c.put_each.ensures.held c.put_each.ensures.err,
    )
