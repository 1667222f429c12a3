use Rattle.std.proofs.Common.{◌≡◌, ◌<◌, ◌∙◌, List, ℕ, length, map, ap, sym, subst, arith}
use Rattle.std.specs.Prelude.{IfOk}
use Rattle.std.specs.List.{AllByRecursion}
use Rattle.std.specs.List.Sorted.{IsPermutation}
use Rattle.re_labels.specs.ListSets.{list_set}
use Rattle.re_labels.specs.declared.TheConstants.{MAX_LABELS}
use Rattle.re_labels.specs.Configs.{image_of}
use Rattle.re_labels.proofs.Insertions.{images-length, known-leaves, leaf-images-fit, leaf-images-set}
use Rattle.re_labels.specs.Constraints.{images_of}
use Rattle.re_labels.specs.PrefixTrees.{leaf_configs}
use Rattle.re_labels.specs.declared.prefix_tree.Node.{Node}
use Rattle.re_labels.proofs.constraint_table.Constraint.image.Goals as goal

moved : (images : List ℕ) (held given : List Node) (all shown : List (List ℕ)) → given ≡ held → shown ≡ all → IsPermutation (map (image_of images) (leaf_configs given)) all → IsPermutation (map (image_of images) (leaf_configs held)) shown
moved images held given all shown e f m = subst (λ l. IsPermutation (map (image_of images) (leaf_configs held)) l) (sym f) (subst (λ l. IsPermutation (map (image_of images) (leaf_configs l)) all) e m)

pub leaf_images-requires-clause-known : goal.leaf_images-requires-clause-known
leaf_images-requires-clause-known c =
    let P : List ℕ → Type 0 = AllByRecursion (λ label. label < length c.args.images.now) in
    subst (λ l. AllByRecursion P (leaf_configs l)) (sym c.as_slice.ensures.value)
    (known-leaves P c.self.inside.nodes.items (subst (AllByRecursion P) (ap (λ s. s.configs) (sym c.self.view_is)) c.requires.known))

pub collected-requires-clause-fit : goal.collected-requires-clause-fit
collected-requires-clause-fit c =
    let m = moved c.args.images.now c.self.inside.nodes.items c.as_slice.result.now c.in_ok-all.all.items c.as_slice-2.result.now c.as_slice.ensures.value c.as_slice-2.ensures.value c.in_ok-all.ensures in
    leaf-images-fit c.self.inside.degree MAX_LABELS c.self.inside.nodes.items c.args.images.now c.as_slice-2.result.now c.self.invariant.1 m

pub collected-requires-clause-few : goal.collected-requires-clause-few
collected-requires-clause-few c =
    let m = moved c.args.images.now c.self.inside.nodes.items c.as_slice.result.now c.in_ok-all.all.items c.as_slice-2.result.now c.as_slice.ensures.value c.as_slice-2.ensures.value c.in_ok-all.ensures in
    omega (arith, images-length (leaf_configs c.self.inside.nodes.items) c.args.images.now c.as_slice-2.result.now m, c.self.invariant.0.once, c.self.invariant.0.few)

pub returns-clause-configs : goal.returns-clause-configs
returns-clause-configs c =
    let m = moved c.args.images.now c.self.inside.nodes.items c.as_slice.result.now c.in_ok-all.all.items c.as_slice-2.result.now c.as_slice.ensures.value c.as_slice-2.ensures.value c.in_ok-all.ensures in
    let same : list_set c.as_slice-2.result.now ≡ images_of c.args.images.now c.args.self.now =
    leaf-images-set c.self.inside.nodes.items c.args.images.now c.as_slice-2.result.now m ∙ ap (images_of c.args.images.now) c.self.view_is in
    subst (λ l. IfOk c.collected.result (λ constraint. constraint.configs ≡ l)) same c.collected.ensures.configs
