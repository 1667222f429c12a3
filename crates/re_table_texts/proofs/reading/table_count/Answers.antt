use Rattle.std.proofs.Common.{ap, sym, ◌∙◌}
use Rattle.re_labels.specs.Sides.{degree_of}
use Rattle.re_labels.specs.declared.sides.Degrees.{Degrees}
use Rattle.re_labels.specs.declared.sides.Side.TheVariants.{Active, Passive}
use Rattle.re_algo.specs.Counting.{view_count}
use Rattle.re_table_texts.proofs.reading.table_count.Goals as goal

pub returns-in-Some : goal.returns-in-Some
returns-in-Some c = (
  sym c.are_all.ensures ∙ c.if-not-are_all.false,
  sym c.may_stand.ensures ∙ c.if-not-may_stand.false,
  sym c.in-Some.is ∙ c.view_count.ensures ∙ ap (λ (d : Degrees). view_count (degree_of d Active) (degree_of d Passive) c.args.radius) c.degrees.ensures.degrees,
)
