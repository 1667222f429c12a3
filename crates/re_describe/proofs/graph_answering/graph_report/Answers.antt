use Rattle.std.proofs.Common.{ap, ◌∙◌}
use Rattle.re_frame.specs.Outcomes.{Outcome}
use Rattle.re_describe.proofs.graph_answering.graph_report.Goals as goal

pub returns : goal.returns
returns c = record {
  status = ap (λ (o : Outcome). o.status) c.done.ensures;
  front = c.in_ok-front.front.items;
  back = c.in_ok-back.back.items;
  parts = record { begins = c.in_ok-front.ensures; ends = c.in_ok-back.ensures };
  text = ap (λ (o : Outcome). o.text) c.done.ensures ∙ c.in_ok-in_drawn_form.ensures;
  never = c.requires;
}
