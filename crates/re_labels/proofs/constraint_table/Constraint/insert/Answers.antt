use Rattle.std.proofs.Common.{◌≡◌, ◌∙◌, ap, sym, subst, length}
use Rattle.std.specs.Prelude.{Contains, IfOk, IsTrue, ◌↔◌}
use Rattle.re_labels.proofs.Insertions.{IsConstraint-either}
use Rattle.re_labels.specs.PrefixTrees.{IsTable, held_configs}
use Rattle.re_labels.proofs.constraint_table.Constraint.insert.Goals as goal
use Rattle.re_labels.specs.declared.constraint_table.TheConstants.{MAX_CONFIGURATIONS}

pub invariant_of-self-2 : goal.invariant_of-self-2
invariant_of-self-2 c =
    let degree : length c.args.config ≡ c.self.inside.degree = c.requires ∙ ap (λ s. s.degree) (sym c.self.view_is) in (
      subst (λ d. IsTable d MAX_CONFIGURATIONS c.put.new.nodes.items) degree c.put.ensures.table,
      IsConstraint-either c.self.inside.degree (held_configs c.self.inside.nodes.items) (held_configs c.make_root.new.nodes.items) (held_configs c.put.new.nodes.items) c.args.config c.put.result
          c.self.invariant.1 c.make_root.ensures.held degree c.labels-labels.ensures.config c.put.ensures.held c.put.ensures.err,
    )

pub returns-clause-is_new : goal.returns-clause-is_new
returns-clause-is_new c =
    subst (λ l. IfOk c.put.result (λ is_new. IsTrue is_new ↔ (Contains l c.args.config → ⊥))) (c.make_root.ensures.held ∙ ap (λ s. s.configs) c.self.view_is) c.put.ensures.is_new
