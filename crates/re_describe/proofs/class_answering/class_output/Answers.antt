use Rattle.std.proofs.Common.{ap, ◌∙◌}
use Rattle.re_frame.specs.Outcomes.{Outcome}
use Rattle.re_describe.proofs.class_answering.class_output.Goals as goal

pub returns : goal.returns
returns c = record {
  status = ap (λ (o : Outcome). o.status) c.done.ensures;
  markdown = c.in_ok-markdown.markdown.items;
  report = c.in_ok-markdown.ensures;
  text = ap (λ (o : Outcome). o.text) c.done.ensures ∙ c.in_ok-in_form.ensures;
}
