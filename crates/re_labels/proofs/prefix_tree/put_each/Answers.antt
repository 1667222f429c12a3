use Rattle.std.proofs.Common.{◌≡◌, ◌≤◌, ◌<◌, ◌++◌, ◌∷◌, [], ◌∙◌, ap, append_assoc, arith, length, refl, subst, sym, rules}
use Rattle.std.specs.List.{AllByRecursion}
use Rattle.re_labels.proofs.LeastLabels.{first-is}
use Rattle.re_labels.specs.declared.TheConstants.{MAX_LABELS}
use Rattle.re_labels.specs.Lists.{IsRising}
use Rattle.re_labels.specs.ListSets.{list_set}
use Rattle.re_labels.specs.Sets.{IsLabelSet, without_label}
use Rattle.re_labels.proofs.Runs.{all_behind, held_more, held_none, held_others, held_over, length-config, set_rest}
use Rattle.re_labels.specs.Constraints.{with_each}
use Rattle.re_labels.specs.PrefixTrees.{IsTable, held_configs}
use Rattle.re_labels.specs.TreeGrowth.{IsChildBefore}
use Rattle.re_labels.specs.declared.constraint_table.TheConstants.{MAX_CONFIGURATIONS}
use Rattle.re_labels.proofs.prefix_tree.put_each.Goals as goal

pub each-init : goal.each-init
each-init c = record {
  set = c.count-count.ensures.set;
  table = c.requires.table;
  filled = c.requires.filled;
  held = ([], refl, held_none c.args.nodes.now.items c.args.labels.now);
}

pub grow_run-requires-clause-behind : goal.grow_run-requires-clause-behind
grow_run-requires-clause-behind c =
    let labels = c.args.labels.now in
    let last = c.in-Some.last in
    let rest = without_label c.each.left last in
    let parts : c.each.left ≡ last ∷ rest = first-is c.each.left last c.each.invariant.set.0 (sym c.first.ensures ∙ c.in-Some.is) in
    let here = c.if-goes_on.ensures refl in
    let nodes = c.as_slice-then-leaf_count-count-le-MAX_CONFIGURATIONS.ensures.value ∙ sym c.in_default-reserve.ensures.items in
    subst (λ l. AllByRecursion (λ last. IsChildBefore l labels c.at-near.result last × IsRising (λ x y. x ≤ y) (labels ++ last ∷ [])) c.each.left) nodes
    (subst (AllByRecursion (λ last. IsChildBefore c.as_slice-then-leaf_count-count-le-MAX_CONFIGURATIONS.result.now labels c.at-near.result last × IsRising (λ x y. x ≤ y) (labels ++ last ∷ []))) (sym parts)
    (all_behind c.as_slice-then-leaf_count-count-le-MAX_CONFIGURATIONS.result.now labels c.at-near.result last rest (subst (IsRising (λ x y. x < y)) parts c.each.invariant.set.0) here.0 here.1))

pub returns-then-goes_on-clause-held : goal.returns-then-goes_on-clause-held
returns-then-goes_on-clause-held c =
    held_others (held_configs c.args.nodes.now.items) (held_configs c.each.nodes.items) (held_configs c.grow_run.new.nodes.items) c.args.labels.now c.each.invariant.held.0 c.each.left c.args.lasts
    c.each.invariant.held.2 c.each.invariant.held.1 (c.grow_run.ensures.held ∙ ap (λ l. list_set (held_configs l ++ with_each c.args.labels.now c.each.left)) c.in_default-reserve.ensures.items)

pub put-requires-clause-table : goal.put-requires-clause-table
put-requires-clause-table c = subst (λ d. IsTable d MAX_CONFIGURATIONS c.each.nodes.items) (sym (length-config c.args.labels.now c.config_with.result c.in-Some.last c.config_with.ensures)) c.each.invariant.table

pub returns-in_err-put-clause-table : goal.returns-in_err-put-clause-table
returns-in_err-put-clause-table c = subst (λ d. IsTable d MAX_CONFIGURATIONS c.put.new.nodes.items) (length-config c.args.labels.now c.config_with.result c.in-Some.last c.config_with.ensures) c.put.ensures.table

pub returns-in_err-put-clause-full : goal.returns-in_err-put-clause-full
returns-in_err-put-clause-full c = λ e.
    let last = c.in-Some.last in
    let parts = first-is c.each.left last c.each.invariant.set.0 (sym c.first.ensures ∙ c.in-Some.is) in
    let full = c.put.ensures.full.0 (search (e, rules)) in
    held_over MAX_CONFIGURATIONS (held_configs c.args.nodes.now.items) (held_configs c.each.nodes.items) c.args.labels.now c.config_with.result c.each.invariant.held.0 c.each.left (without_label c.each.left last) c.args.lasts last
    c.each.invariant.held.2 parts c.each.invariant.held.1 c.config_with.ensures full.0 full.1

pub each-smaller : goal.each-smaller
each-smaller c = let parts = first-is c.each.left c.in-Some.last c.each.invariant.set.0 (sym c.first.ensures ∙ c.in-Some.is) in omega (arith, ap length parts, ap length c.remove-left.ensures)

pub each-preserved : goal.each-preserved
each-preserved c =
    let labels = c.args.labels.now in
    let last = c.in-Some.last in
    let rest = c.remove-left.result in
    let new = c.put.new.nodes.items in
    let parts : c.each.left ≡ last ∷ rest = first-is c.each.left last c.each.invariant.set.0 (sym c.first.ensures ∙ c.in-Some.is) ∙ ap (λ l. last ∷ l) (sym c.remove-left.ensures) in
    record {
      set = set_rest MAX_LABELS last rest (subst (IsLabelSet MAX_LABELS) parts c.each.invariant.set);
      table = subst (λ d. IsTable d MAX_CONFIGURATIONS new) (length-config labels c.config_with.result last c.config_with.ensures) c.put.ensures.table;
      filled = c.put.ensures.filled;
      held = (
        c.each.invariant.held.0 ++ last ∷ [],
        append_assoc c.each.invariant.held.0 (last ∷ []) rest ∙ ap (λ l. c.each.invariant.held.0 ++ l) (sym parts) ∙ c.each.invariant.held.1,
        held_more (held_configs c.args.nodes.now.items) (held_configs c.each.nodes.items) (held_configs new) labels c.config_with.result c.each.invariant.held.0 last c.each.invariant.held.2 c.config_with.ensures c.in_ok-put.ensures.held,
      );
    }
