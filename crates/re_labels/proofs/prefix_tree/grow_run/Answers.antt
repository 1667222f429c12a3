use Rattle.std.proofs.Common.{◌≡◌, ◌≤◌, ◌++◌, ◌∷◌, [], ◌∙◌, ap, append_assoc, arith, length, refl, subst, sym}
use Rattle.std.specs.List.{AllByRecursion}
use Rattle.re_labels.proofs.LeastLabels.{first-is}
use Rattle.re_labels.proofs.Sorting.{sorted_again}
use Rattle.re_labels.specs.declared.TheConstants.{MAX_LABELS}
use Rattle.re_labels.specs.Lists.{IsRising}
use Rattle.re_labels.specs.Sets.{IsLabelSet, without_label}
use Rattle.re_labels.proofs.Insertions.{length-with_list_most}
use Rattle.re_labels.proofs.Runs.{behind_next, found_next, held_more, held_none, length-config, set_rest}
use Rattle.re_labels.specs.PrefixTrees.{IsPrefixTree, IsTable, held_configs}
use Rattle.re_labels.specs.TreeGrowth.{IsChildBefore}
use Rattle.re_labels.specs.declared.constraint_table.TheConstants.{MAX_CONFIGURATIONS}
use Rattle.re_labels.proofs.prefix_tree.grow_run.Goals as goal

pub run-init : goal.run-init
run-init c = record {
  set = c.requires.set;
  table = c.requires.table;
  behind = c.requires.behind;
  few = c.requires.few;
  room = c.requires.room;
  held = ([], refl, held_none c.args.nodes.now.items c.args.labels.now);
}

pub grow_behind-at-requires-clause-last : goal.grow_behind-at-requires-clause-last
grow_behind-at-requires-clause-last c = sym (length-config c.args.labels.now c.config_with.result c.in-Some.last c.config_with.ensures)

pub grow_behind-at-requires-clause-table : goal.grow_behind-at-requires-clause-table
grow_behind-at-requires-clause-table c = subst (λ d. IsTable d MAX_CONFIGURATIONS c.run.nodes.items) (sym (length-config c.args.labels.now c.config_with.result c.in-Some.last c.config_with.ensures)) c.run.invariant.table

pub grow_behind-at-requires-clause-found : goal.grow_behind-at-requires-clause-found
grow_behind-at-requires-clause-found c =
    let labels = c.args.labels.now in
    let parts : c.run.left ≡ c.in-Some.last ∷ without_label c.run.left c.in-Some.last = first-is c.run.left c.in-Some.last c.run.invariant.set.0 (sym c.first.ensures ∙ c.in-Some.is) in
    let here = (subst (AllByRecursion (λ last. IsChildBefore c.run.nodes.items labels c.run.at last × IsRising (λ x y. x ≤ y) (labels ++ last ∷ []))) parts c.run.invariant.behind).0 in
    let is : c.config_with.result ≡ labels ++ c.in-Some.last ∷ [] = c.config_with.ensures ∙ sorted_again (labels ++ c.in-Some.last ∷ []) here.1 in
    let long = length-config labels c.config_with.result c.in-Some.last c.config_with.ensures in
    let tree = subst (λ d. IsPrefixTree d c.run.nodes.items) (sym long) c.run.invariant.table.tree in
    found_next c.run.nodes.items labels c.config_with.result c.run.at c.in-Some.last tree here.0 is

pub run-smaller : goal.run-smaller
run-smaller c = let parts = first-is c.run.left c.in-Some.last c.run.invariant.set.0 (sym c.first.ensures ∙ c.in-Some.is) in omega (arith, ap length parts, ap length c.remove-left.ensures)

pub run-preserved : goal.run-preserved
run-preserved c =
    let labels = c.args.labels.now in
    let last = c.in-Some.last in
    let rest = c.remove-left.result in
    let new = c.grow_behind-at.new.nodes.items in
    let parts : c.run.left ≡ last ∷ rest = first-is c.run.left last c.run.invariant.set.0 (sym c.first.ensures ∙ c.in-Some.is) ∙ ap (λ l. last ∷ l) (sym c.remove-left.ensures) in
    let set : IsLabelSet MAX_LABELS (last ∷ rest) = subst (IsLabelSet MAX_LABELS) parts c.run.invariant.set in
    let here = (subst (AllByRecursion (λ last. IsChildBefore c.run.nodes.items labels c.run.at last × IsRising (λ x y. x ≤ y) (labels ++ last ∷ []))) parts c.run.invariant.behind).0 in
    let is : c.config_with.result ≡ labels ++ last ∷ [] = c.config_with.ensures ∙ sorted_again (labels ++ last ∷ []) here.1 in
    let long = length-config labels c.config_with.result last c.config_with.ensures in
    record {
      set = set_rest MAX_LABELS last rest set;
      table = subst (λ d. IsTable d MAX_CONFIGURATIONS new) long c.grow_behind-at.ensures.table;
      behind = behind_next new labels c.config_with.result c.grow_behind-at.result last rest set.0 c.grow_behind-at.ensures.leaf is here.1;
      few = omega (arith, c.run.invariant.few, ap length parts, ap length c.grow_behind-at.ensures.held, length-with_list_most (held_configs c.run.nodes.items) c.config_with.result);
      room = omega (arith, c.run.invariant.room, ap length parts, c.grow_behind-at.ensures.len, c.grow_behind-at.ensures.capacity, long);
      held = (
        c.run.invariant.held.0 ++ last ∷ [],
        append_assoc c.run.invariant.held.0 (last ∷ []) rest ∙ ap (λ l. c.run.invariant.held.0 ++ l) (sym parts) ∙ c.run.invariant.held.1,
        held_more (held_configs c.args.nodes.now.items) (held_configs c.run.nodes.items) (held_configs new) labels c.config_with.result c.run.invariant.held.0 last c.run.invariant.held.2 c.config_with.ensures c.grow_behind-at.ensures.held,
      );
    }
