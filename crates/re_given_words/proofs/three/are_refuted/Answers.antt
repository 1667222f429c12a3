use Rattle.std.proofs.Common.{◌≡◌, ◌<◌, ◌∙◌, ℕ, length, map, ap, subst, sym}
use Rattle.std.specs.List.{AllByRecursion, flat_map}
use Rattle.re_labels.specs.Lists.{count_from}
use Rattle.re_labels.specs.Rows.{IsChoice}
use Rattle.re_labels.specs.Constraints.{Constraint}
use Rattle.re_labels.specs.Orders.{multisets}
use Rattle.re_problem.specs.NamedProblems.{unnamed}
use Rattle.re_given_words.proofs.MeetingSets.{none-shown, spots-inside}
use Rattle.re_given_words.specs.Asking.{IsChoiceOf, port_spots}
use Rattle.re_given_words.specs.Three.{spot_ports, types_of}
use Rattle.re_given_words.proofs.three.are_refuted.Goals as goal

pub choices_of-requires-clause-inside : goal.choices_of-requires-clause-inside
choices_of-requires-clause-inside c =
    let size_is : c.degree-size.result ≡ c.args.problem.now.active.degree = c.degree-size.ensures.degree ∙ ap (λ (side : Constraint). side.degree) c.active.ensures.active in
    let degree_is : c.degree-degree.result ≡ c.args.problem.now.passive.degree = c.degree-degree.ensures.degree ∙ ap (λ (side : Constraint). side.degree) c.passive.ensures.passive in
    spots-inside (unnamed c.args.problem.now) c.as_slice-ports.result.now c.as_slice-types.result.now c.degree-size.result (c.as_slice-ports.ensures.value ∙ c.in_ok-ports.ensures)
    (c.as_slice-types.ensures.value ∙ c.in_ok-types.ensures ∙ (λ i. multisets (size_is i) 0 (degree_is i))) size_is

pub returns-in-Unsatisfiable : goal.returns-in-Unsatisfiable
returns-in-Unsatisfiable c = λ yes shown.
    let size_is : c.degree-size.result ≡ c.args.problem.now.active.degree = c.degree-size.ensures.degree ∙ ap (λ (side : Constraint). side.degree) c.active.ensures.active in
    let degree_is : c.degree-degree.result ≡ c.args.problem.now.passive.degree = c.degree-degree.ensures.degree ∙ ap (λ (side : Constraint). side.degree) c.passive.ensures.passive in
    let types_are : c.as_slice-types.result.now ≡ types_of (unnamed c.args.problem.now) = c.as_slice-types.ensures.value ∙ c.in_ok-types.ensures ∙ (λ i. multisets (size_is i) 0 (degree_is i)) in
    let ports_are : c.as_slice-ports.result.now ≡ spot_ports (unnamed c.args.problem.now) = c.as_slice-ports.ensures.value ∙ c.in_ok-ports.ensures ∙ ap (flat_map (λ ports. ports)) types_are in
    let are : AllByRecursion (λ meeting. IsChoice meeting (map (port_spots c.as_slice-ports.result.now) (count_from 0 c.degree-degree.result))) c.as_slice-meetings.result.now =
    subst (AllByRecursion (λ meeting. IsChoice meeting (map (port_spots c.as_slice-ports.result.now) (count_from 0 c.degree-degree.result)))) (sym c.as_slice-meetings.ensures.value) c.in_ok-meetings.ensures.meetings in
    let typed : AllByRecursion (λ choice. (t : ℕ) × (t < length c.as_slice-types.result.now) × IsChoiceOf c.as_slice-ports.result.now c.as_slice-meetings.result.now c.degree-degree.result c.degree-size.result t choice) c.as_slice.result.now =
    subst (AllByRecursion (λ choice. (t : ℕ) × (t < length c.as_slice-types.result.now) × IsChoiceOf c.as_slice-ports.result.now c.as_slice-meetings.result.now c.degree-degree.result c.degree-size.result t choice)) (sym c.as_slice.ensures.value) c.in_ok-choices.ensures in
    none-shown (unnamed c.args.problem.now) c.names.ensures.problem.problem c.as_slice-ports.result.now c.degree-degree.result c.degree-size.result (length c.as_slice-types.result.now) c.as_slice-meetings.result.now c.as_slice.result.now
    ports_are degree_is size_is (ap length types_are) are typed (λ sets made. c.in_ok-answer.ensures.no c.in-Unsatisfiable.is (c.in_ok-clauses.ensures sets made)) shown
