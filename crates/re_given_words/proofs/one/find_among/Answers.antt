use Rattle.std.proofs.Common.{◌∙◌, ap}
use Rattle.std.specs.List.{list_all, position}
use Rattle.re_labels.specs.Orders.{multisets}
use Rattle.re_given_words.specs.RowTests.{has_choice}
use Rattle.re_given_words.proofs.one.find_among.Goals as goal

pub returns : goal.returns
returns c =
    c.first_row.ensures
    ∙ ap (λ all. position (λ row. list_all (has_choice c.args.active.now row) all) c.args.rows.now) (c.as_slice.ensures.value ∙ c.in_ok-multisets.ensures ∙ ap (λ d. multisets d 0 c.args.ports) c.degree.ensures.degree)
