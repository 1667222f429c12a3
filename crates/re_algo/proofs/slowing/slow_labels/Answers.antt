use Rattle.std.proofs.Common.{◌∙◌, ap, sym}
use Rattle.std.specs.Prelude.{find}
use Rattle.re_algo.proofs.SlowCode.{some_of}
use Rattle.re_algo.specs.Choosing.{sets_around}
use Rattle.re_choice.proofs.Beginning.{some_found}
use Rattle.re_labels.specs.Rows.{choices}
use Rattle.re_labels.specs.Constraints.{has_config}
use Rattle.re_laws.specs.Shown.{tree_of_view}
use Rattle.re_algo.proofs.slowing.slow_labels.Goals as goal

pub unreachable-requires : goal.unreachable-requires
unreachable-requires c =
    let around = c.as_slice.ensures.value ∙ c.in_ok-around.ensures in
    some_found (has_config c.args.active.now) (choices (sets_around c.args.sets.now c.args.table.now.degrees.passive c.args.table.now (tree_of_view c.args.view.now))) c.requires.some
    (ap (λ sets. find (has_config c.args.active.now) (choices sets)) (sym around) ∙ sym c.first_choice.ensures ∙ c.in-None.is)

pub returns : goal.returns
returns c =
    let around = c.as_slice.ensures.value ∙ c.in_ok-around.ensures in
    some_of c.in-Some.labels (find (has_config c.args.active.now) (choices (sets_around c.args.sets.now c.args.table.now.degrees.passive c.args.table.now (tree_of_view c.args.view.now))))
    (sym c.in-Some.is ∙ c.first_choice.ensures ∙ ap (λ sets. find (has_config c.args.active.now) (choices sets)) around)
