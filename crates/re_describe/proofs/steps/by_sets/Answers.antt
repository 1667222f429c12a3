use Rattle.std.proofs.Common.{◌∙◌, ap, subst}
use Rattle.re_boxes.specs.HeldStrength.{ups_in}
use Rattle.re_boxes.specs.Strength.{HasStronger}
use Rattle.re_describe.specs.Steps.{AreMeant, by_sets_text}
use Rattle.re_describe.proofs.steps.by_sets.Goals as goal

pub returns : goal.returns
returns c = record {
  ups = ups_in c.of-strength.result.ups.items;
  stronger = subst (λ n. HasStronger c.args.passive.now n (ups_in c.of-strength.result.ups.items)) c.len-labels.ensures.len c.of-strength.ensures.stronger;
  meant = c.in_ok-meant.meant.items;
  means = subst (λ n. AreMeant (ups_in c.of-strength.result.ups.items) n c.args.entries.now c.in_ok-meant.meant.items) (c.of-strength.ensures.labels ∙ c.len-labels.ensures.len) c.in_ok-meant.ensures;
  said = c.in_ok-text.ensures ∙ ap (λ m. by_sets_text c.args.names.now c.args.next.now c.args.number m) c.as_slice.ensures.value;
}
