use Rattle.std.proofs.Common.{◌≡◌, ◌<◌, ◌∙◌, ◌&&◌, true, List, ap, length, sym, subst}
use Rattle.std.specs.List.{AllByRecursion}
use Rattle.re_walks.proofs.FirstEntries.{entries-low}
use Rattle.re_check.proofs.StepTests.{allowed-test}
use Rattle.re_check.specs.Clauses.{keep_allowed}
use Rattle.re_check.specs.RowEntries.{row_entries}
use Rattle.re_labels.specs.declared.TheConstants.{MAX_LABELS}
use Rattle.re_problem.specs.Steps.{SetEntry}
use Rattle.re_settings.specs.Fits.{are_images}
use Rattle.re_settings.proofs.passing.passes.Goals as goal

pub keeps_allowed-requires-clause-labels : goal.keeps_allowed-requires-clause-labels
keeps_allowed-requires-clause-labels c =
    subst (AllByRecursion (λ (e : SetEntry). e.label < MAX_LABELS)) (sym (c.as_slice.ensures.value ∙ c.in_ok-entries.ensures)) (entries-low c.args.places.now c.args.labels.now c.requires.labels)

pub returns : goal.returns
returns c =
    let entries : List SetEntry = row_entries c.args.places.now c.args.labels.now in
    let images : true ≡ are_images c.args.problem.now.active (length c.args.problem.now.names) c.args.configs.now c.args.labels.now
    = sym c.if-not-are_images.false ∙ c.are_images.ensures ∙ ap (λ k. are_images k c.len-n.result c.args.configs.now c.args.labels.now) c.active.ensures.active
    ∙ ap (λ n. are_images c.args.problem.now.active n c.args.configs.now c.args.labels.now) (c.len-n.ensures.len ∙ ap length c.names.ensures.names) in
    allowed-test c.args.passive.now c.passive.result.now c.as_slice.result.now c.keeps_allowed.result c.keeps_allowed.ensures
    ∙ ap (λ k. keep_allowed c.args.passive.now k c.as_slice.result.now) c.passive.ensures.passive
    ∙ ap (keep_allowed c.args.passive.now c.args.problem.now.passive) (c.as_slice.ensures.value ∙ c.in_ok-entries.ensures)
    ∙ (λ i. images i && keep_allowed c.args.passive.now c.args.problem.now.passive entries)
