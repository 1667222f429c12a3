use Rattle.std.proofs.Common.{map, sym, ◌∙◌, ap}
use Rattle.re_problem.specs.NamedProblems.{unnamed}
use Rattle.re_labels.specs.declared.sides.Degrees.{Degrees}
use Rattle.re_laws.specs.AllViews.{all_views}
use Rattle.re_laws.specs.Shown.{tree_of_view}
use Rattle.re_algo.specs.Constructions.{slower_table}
use Rattle.re_algo.proofs.FasterCode.{same_table}
use Rattle.re_algo.proofs.SlowerCode.{all_choose, slower_built, slower_solved}
use Rattle.re_step.specs.Derivations.{Derivation}
use Rattle.re_algo.proofs.slowing.slow_table.Goals as goal

pub slow_answers-requires : goal.slow_answers-requires
slow_answers-requires c =
    all_choose (unnamed c.args.problem.now) c.args.table.now c.active.ensures.problem.problem c.degrees-degrees.ensures.table c.requires.active c.requires.passive c.requires.solves c.requires.few c.active.result.now c.as_slice-sets.result.now (map tree_of_view c.as_slice.result.now) c.args.radius c.active.ensures.active (c.as_slice-sets.ensures.value ∙ ap (λ (d : Derivation). d.sets) (c.derived.view_is ∙ c.requires.derived))
    (ap (map tree_of_view) c.as_slice.ensures.value ∙ (c.in_ok-views.ensures ∙ ap (λ (d : Degrees). all_views d.active d.passive c.args.radius) c.degrees-degrees-2.ensures.degrees)) c.requires.radius

pub unreachable-requires : goal.unreachable-requires
unreachable-requires c =
    let made = (slower_built (unnamed c.args.problem.now) c.args.table.now c.active.ensures.problem.problem c.degrees-degrees.ensures.table c.requires.active c.requires.passive c.requires.solves c.requires.few c.degrees-degrees-2.result c.args.radius c.in_ok-answers.answers.items c.active.result.now c.as_slice-sets.result.now (map tree_of_view c.as_slice.result.now) c.degrees-degrees-2.ensures.degrees c.requires.radius c.active.ensures.active (c.as_slice-sets.ensures.value ∙ ap (λ (d : Derivation). d.sets) (c.derived.view_is ∙ c.requires.derived))
    (ap (map tree_of_view) c.as_slice.ensures.value ∙ (c.in_ok-views.ensures ∙ ap (λ (d : Degrees). all_views d.active d.passive c.args.radius) c.degrees-degrees-2.ensures.degrees)) c.in_ok-answers.ensures) in
    let none = c.in-None.is in let is = c.build.ensures in
    cc

pub returns-clause-table : goal.returns-clause-table
returns-clause-table c =
    same_table c.in-Some.more (slower_table (unnamed c.args.problem.now) c.args.table.now) (sym c.in-Some.is ∙ (c.build.ensures ∙ (slower_built (unnamed c.args.problem.now) c.args.table.now c.active.ensures.problem.problem c.degrees-degrees.ensures.table c.requires.active c.requires.passive c.requires.solves c.requires.few c.degrees-degrees-2.result c.args.radius c.in_ok-answers.answers.items c.active.result.now c.as_slice-sets.result.now (map tree_of_view c.as_slice.result.now) c.degrees-degrees-2.ensures.degrees c.requires.radius c.active.ensures.active (c.as_slice-sets.ensures.value ∙ ap (λ (d : Derivation). d.sets) (c.derived.view_is ∙ c.requires.derived))
    (ap (map tree_of_view) c.as_slice.ensures.value ∙ (c.in_ok-views.ensures ∙ ap (λ (d : Degrees). all_views d.active d.passive c.args.radius) c.degrees-degrees-2.ensures.degrees)) c.in_ok-answers.ensures)))

pub returns-clause-solves : goal.returns-clause-solves
returns-clause-solves c =
    slower_solved (unnamed c.args.problem.now) c.args.table.now c.active.ensures.problem.problem c.degrees-degrees.ensures.table c.requires.active c.requires.passive c.requires.solves c.requires.few c.in-Some.more
    (same_table c.in-Some.more (slower_table (unnamed c.args.problem.now) c.args.table.now) (sym c.in-Some.is ∙ (c.build.ensures ∙ (slower_built (unnamed c.args.problem.now) c.args.table.now c.active.ensures.problem.problem c.degrees-degrees.ensures.table c.requires.active c.requires.passive c.requires.solves c.requires.few c.degrees-degrees-2.result c.args.radius c.in_ok-answers.answers.items c.active.result.now c.as_slice-sets.result.now (map tree_of_view c.as_slice.result.now) c.degrees-degrees-2.ensures.degrees c.requires.radius c.active.ensures.active (c.as_slice-sets.ensures.value ∙ ap (λ (d : Derivation). d.sets) (c.derived.view_is ∙ c.requires.derived))
    (ap (map tree_of_view) c.as_slice.ensures.value ∙ (c.in_ok-views.ensures ∙ ap (λ (d : Degrees). all_views d.active d.passive c.args.radius) c.degrees-degrees-2.ensures.degrees)) c.in_ok-answers.ensures))))
