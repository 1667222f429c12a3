use Rattle.std.proofs.Common.{◌≡◌, ◌∙◌, ◌<◌, length, map, subst, sym, ℕ}
use Rattle.std.specs.List.{AllByRecursion}
use Rattle.re_check.proofs.PairLists.{second_below}
use Rattle.re_why.proofs.end_witness.renaming_witness.Goals as goal

pub renames-requires-clause-labels : goal.renames-requires-clause-labels
renames-requires-clause-labels c =
    let same : c.in-Some.map ≡ map (λ (pair : ℕ × ℕ). pair.1) c.args.pairs.now = c.in-Some.ensures.0 ∙ c.as_slice.ensures.value ∙ c.second_labels-images.ensures in
    subst (AllByRecursion (λ image. image < length c.args.target.now.names)) (sym same) (second_below c.args.last.now c.args.target.now c.args.pairs.now c.requires.fits)
