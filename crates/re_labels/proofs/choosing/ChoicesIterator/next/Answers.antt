use Rattle.std.proofs.Common.{◌≤◌, ◌^◌, ◌+◌, ◌∷◌, drop, map, ap, length, subst, sym, ◌∙◌, arith}
use Rattle.re_labels.proofs.Rounds.{choices_next, few-choices}
use Rattle.re_labels.specs.Configs.{sorted}
use Rattle.re_labels.specs.Rows.{IsChosen, choices}
use Rattle.re_labels.proofs.choosing.ChoicesIterator.next.Goals as goal
use Rattle.re_labels.specs.declared.TheConstants.{MAX_LABELS}

pub overflow_add-self : goal.overflow_add-self
overflow_add-self c =
    let row = c.self.inside.row in
    let here = subst (λ r. IsChosen r c.self.inside.next c.chosen-rounds.result.0 c.chosen-rounds.result.1.items) c.sets.ensures.sets c.chosen-rounds.ensures.chosen in
    let few : length (choices row) ≤ MAX_LABELS ^ 6 = few-choices 6 row c.sets.ensures.row.sets c.sets.ensures.six in
    omega (arith, few, (choices_next row c.self.inside.next c.chosen-rounds.result.0 c.chosen-rounds.result.1.items here c.if-rounds-gt0.false).0)

pub returns-clause-steps : goal.returns-clause-steps
returns-clause-steps c =
    let row = c.self.inside.row in
    let here = subst (λ r. IsChosen r c.self.inside.next c.chosen-rounds.result.0 c.chosen-rounds.result.1.items) c.sets.ensures.sets c.chosen-rounds.ensures.chosen in
    sym c.self.view_is
    ∙ (choices_next row c.self.inside.next c.chosen-rounds.result.0 c.chosen-rounds.result.1.items here c.if-rounds-gt0.false).1
    ∙ ap (λ config. config ∷ drop (c.self.inside.next + 1) (map sorted (choices row))) (sym (c.from_labels.ensures ∙ ap sorted c.as_slice.ensures.value))
