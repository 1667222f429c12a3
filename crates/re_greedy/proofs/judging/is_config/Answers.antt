use Rattle.std.proofs.Common.{◌≡◌, ◌∙◌, ap, subst}
use Rattle.std.specs.Prelude.{Contains, IsTrue, ◌↔◌}
use Rattle.re_greedy.proofs.judging.is_config.Goals as goal
use Rattle.re_labels.proofs.Sorting.{sorted_again}
use Rattle.re_labels.specs.Configs.{sorted}

pub returns : goal.returns
returns c =
    let e : c.from_labels.result ≡ c.args.labels.now = c.from_labels.ensures ∙ ap sorted c.labels.ensures.labels ∙ sorted_again c.args.labels.now c.labels.ensures.config.ascends in
    subst (λ l. IsTrue c.contains.result ↔ Contains c.args.constraint.now.configs l) e c.contains.ensures
