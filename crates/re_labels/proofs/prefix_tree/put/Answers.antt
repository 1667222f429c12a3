use Rattle.std.proofs.Common.{◌≡◌, ◌∙◌, ap, sym, subst, length, List, ℕ, refl}
use Rattle.std.specs.Prelude.{Contains}
use Rattle.re_labels.proofs.ListSets.{rising-list_set}
use Rattle.re_labels.proofs.Searching.{with_list-held}
use Rattle.re_labels.proofs.TreeLeaves.{gap-new}
use Rattle.re_labels.specs.PrefixTrees.{IsPrefixTree, held_configs, leaf_configs}
use Rattle.re_labels.specs.TreeGrowth.{IsFound}
use Rattle.re_labels.specs.declared.prefix_tree.Node.{Node}
use Rattle.re_labels.proofs.prefix_tree.put.Goals as goal

absent : (nodes read : List Node) (config : List ℕ) (depth parent before after : ℕ) → read ≡ nodes → IsPrefixTree (length config) nodes → IsFound read config depth parent before after → Contains (held_configs nodes) config → ⊥
absent nodes read config depth parent before after same tree found =
    let is : IsFound nodes config depth parent before after = subst (λ l. IsFound l config depth parent before after) same found in
    gap-new (length config) nodes tree.0 tree.1 config depth parent before after is.inside (is.gap tree.0 tree.1)

pub returns-in-None-clause-held : goal.returns-in-None-clause-held
returns-in-None-clause-held c =
    let nodes = c.args.nodes.now.items in
    sym (with_list-held (held_configs nodes) c.args.config.now (rising-list_set (leaf_configs nodes)) (subst (λ l. Contains (held_configs l) c.args.config.now) c.as_slice.ensures.value c.in-None.ensures))

pub returns-then-leaf_count-eq-MAX_CONFIGURATIONS-clause-full :
    goal.returns-then-leaf_count-eq-MAX_CONFIGURATIONS-clause-full
returns-then-leaf_count-eq-MAX_CONFIGURATIONS-clause-full c =
    let nodes = c.args.nodes.now.items in (
      λ _. (
        ap (λ l. length (held_configs l)) (sym c.as_slice-2.ensures.value) ∙ sym c.leaf_count.ensures ∙ c.if-leaf_count-eq-MAX_CONFIGURATIONS.true,
        absent nodes c.as_slice.result.now c.args.config.now c.in-Some.gap.depth c.in-Some.gap.parent c.in-Some.gap.between.before c.in-Some.gap.between.after
            c.as_slice.ensures.value c.requires.table.tree c.in-Some.ensures,
      ),
      λ _. refl,
    )

pub returns-clause-is_new : goal.returns-clause-is_new
returns-clause-is_new c =
    let nodes = c.args.nodes.now.items in (
      λ _. absent nodes c.as_slice.result.now c.args.config.now c.in-Some.gap.depth c.in-Some.gap.parent c.in-Some.gap.between.before c.in-Some.gap.between.after
          c.as_slice.ensures.value c.requires.table.tree c.in-Some.ensures,
      λ _. refl,
    )
