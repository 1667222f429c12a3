use Rattle.std.proofs.Common.{◌∙◌, map}
use Rattle.std.proofs.lemmas.List.{length-map}
use Rattle.re_labels.specs.Rows.{set_at}
use Rattle.re_problem.proofs.ImageRows.{sets_are}
use Rattle.re_problem.proofs.images.is_allowed.Goals as goal
use Rattle.re_labels.proofs.SetsInOrder.{in_order-allowed, in_order-length}

pub allows-requires : goal.allows-requires
allows-requires c =
    in_order-length (map (set_at c.args.sets.now) c.args.config.now) c.row_of_sets.result (sets_are c.args.sets.now c.args.config.now c.requires.sets c.requires.known) c.row_of_sets.ensures
    ∙ length-map c.args.config.now (set_at c.args.sets.now) ∙ c.requires.degree

pub returns : goal.returns
returns c =
    c.allows.ensures ∙ in_order-allowed c.args.constraint.now (map (set_at c.args.sets.now) c.args.config.now) c.row_of_sets.result (sets_are c.args.sets.now c.args.config.now c.requires.sets c.requires.known) c.row_of_sets.ensures
