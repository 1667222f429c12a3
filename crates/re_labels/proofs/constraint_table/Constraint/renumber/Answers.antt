use Rattle.std.proofs.Common.{◌≡◌, ◌<◌, ◌++◌, ◌∙◌, ℕ, List, ap, drop, length, map, sym, subst, take}
use Rattle.std.specs.List.{AllByRecursion}
use Rattle.re_labels.proofs.Membership.{length-map'}
use Rattle.re_labels.proofs.Insertions.{known-leaves}
use Rattle.re_labels.proofs.Renumbering.{renumbered, renumbered-held}
use Rattle.re_labels.proofs.TreeSteps.{written_back}
use Rattle.re_labels.specs.Constraints.{images_of}
use Rattle.re_labels.specs.PrefixTrees.{leaf_configs}
use Rattle.re_labels.specs.Renumbered.{node_image}
use Rattle.re_labels.specs.declared.prefix_tree.Node.{Node}
use Rattle.re_labels.proofs.constraint_table.Constraint.renumber.Goals as goal
use Rattle.re_labels.specs.declared.constraint_table.TheConstants.{MAX_CONFIGURATIONS}

all_written : (images : List ℕ) (len : ℕ) (items read new : List Node) → len ≡ length items → read ≡ items → new ≡ map (node_image images) read → take len (new ++ drop (length new) items) ≡ map (node_image images) items
all_written images len items read new count same is =
    let all = is ∙ ap (map (node_image images)) same in
    written_back len new items (count ∙ sym (ap length all ∙ length-map' (node_image images) items)) ∙ all

pub invariant_of-self : goal.invariant_of-self
invariant_of-self c =
    let items = c.self.inside.nodes.items in
    let P : List ℕ → Type 0 = AllByRecursion (λ label. label < length c.args.images.now) in
    renumbered c.args.images.now c.self.inside.degree MAX_CONFIGURATIONS items _ c.requires.rises c.requires.below
    (subst (AllByRecursion P) (ap (λ s. s.configs) (sym c.self.view_is)) c.requires.known) c.self.invariant.1
    (all_written c.args.images.now _ items c.as_mut_slice.result.now c.renumber_nodes.new.nodes c.self.inside.nodes.ok.0 c.as_mut_slice.ensures.value c.renumber_nodes.ensures)
    c.self.invariant.0

pub returns-clause-configs : goal.returns-clause-configs
returns-clause-configs c =
    let items = c.self.inside.nodes.items in
    let P : List ℕ → Type 0 = AllByRecursion (λ label. label < length c.args.images.now) in
    renumbered-held c.args.images.now c.self.inside.degree MAX_CONFIGURATIONS items _ c.requires.rises c.requires.below
    (subst (AllByRecursion P) (ap (λ s. s.configs) (sym c.self.view_is)) c.requires.known) c.self.invariant.1
    (all_written c.args.images.now _ items c.as_mut_slice.result.now c.renumber_nodes.new.nodes c.self.inside.nodes.ok.0 c.as_mut_slice.ensures.value c.renumber_nodes.ensures)
    ∙ ap (images_of c.args.images.now) c.self.view_is

pub renumber_nodes-requires-clause-known : goal.renumber_nodes-requires-clause-known
renumber_nodes-requires-clause-known c =
    let P : List ℕ → Type 0 = AllByRecursion (λ label. label < length c.args.images.now) in
    subst (λ l. AllByRecursion P (leaf_configs l)) (sym c.as_mut_slice.ensures.value)
    (known-leaves P c.self.inside.nodes.items (subst (AllByRecursion P) (ap (λ s. s.configs) (sym c.self.view_is)) c.requires.known))
