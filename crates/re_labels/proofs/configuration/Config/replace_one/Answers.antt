use Rattle.std.proofs.Common.{◌≡◌, ◌<◌, eqb, sym, ap, ◌∙◌, subst, length, Some}
use Rattle.std.proofs.Math.Seq.{take-set-lt}
use Rattle.std.proofs.lemmas.List.Quantifiers.{position-Some}
use Rattle.std.specs.List.{position}
use Rattle.std.specs.Prelude.{slice_set}
use Rattle.re_labels.proofs.Replacing.{replaced-at}
use Rattle.re_labels.specs.Configs.{sorted}
use Rattle.re_labels.proofs.configuration.Config.replace_one.Goals as goal

pub returns-clause-replaced : goal.returns-clause-replaced
returns-clause-replaced c =
    let place : position (λ x. eqb x c.args.from) c.args.self.now ≡ Some c.in_ok-place.place =
    subst (λ l. position (λ x. eqb x c.args.from) l ≡ Some c.in_ok-place.place) c.labels.ensures.labels (sym c.place_of_label.ensures.place ∙ c.in_ok-place.was) in
    let within : c.in_ok-place.place < c.self.inside.count =
    subst (λ n. c.in_ok-place.place < n) (ap length (sym c.self.view_is) ∙ c.self.invariant.2.count) (position-Some (λ x. eqb x c.args.from) c.args.self.now c.in_ok-place.place 0 place).0 in
    c.from_labels.ensures ∙ ap sorted (take-set-lt c.self.inside.count c.self.inside.held c.in_ok-place.place c.args.to within
    ∙ ap (λ l. slice_set l c.in_ok-place.place c.args.to) c.self.view_is ∙ sym (replaced-at c.args.self.now c.args.from c.args.to c.in_ok-place.place place))
