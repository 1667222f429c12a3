use Rattle.std.proofs.Common.{◌≡◌, map, ap, ◌∙◌, arith}
use Rattle.std.specs.Prelude.{flat_map}
use Rattle.re_labels.specs.Lists.{count_from}
use Rattle.re_laws.specs.Shown.{tree_of_branch, tree_of_children}
use Rattle.re_laws.specs.Trees.{more}
use Rattle.re_laws.proofs.ListCode.{counted_more}
use Rattle.re_laws.proofs.listing.longer_lists.Goals as goal

pub loop-index-preserved : goal.loop-index-preserved
loop-index-preserved c =
    counted_more (λ back. flat_map (λ branch. map (more back tt branch) (map (λ children. tree_of_children children.items) c.args.tails.now.items)) (map tree_of_branch c.args.branches.now.items)) (map (λ children. tree_of_children children.items) c.loop-index.lists.items) (map (λ children. tree_of_children children.items) c.add_lists.new.lists.items) c.loop-index.index c.loop-index.invariant c.in_ok-add_lists.ensures

pub returns : goal.returns
returns c =
    let past = c.loop-index-test.false in
    let within = c.loop-index.auto.index-end in
    let all : c.loop-index.index ≡ c.args.other = omega arith in
    c.loop-index.invariant ∙ ap (λ n. flat_map (λ back. flat_map (λ branch. map (more back tt branch) (map (λ children. tree_of_children children.items) c.args.tails.now.items)) (map tree_of_branch c.args.branches.now.items)) (count_from 1 n)) all
