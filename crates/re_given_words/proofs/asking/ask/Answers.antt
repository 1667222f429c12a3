use Rattle.std.proofs.Common.{◌≡◌, ◌∙◌, ℕ, List, length, ap, subst, sym}
use Rattle.std.specs.Prelude.{Contains}
use Rattle.std.specs.List.{AllByRecursion}
use Rattle.re_clauses.specs.Clauses.{Satisfies}
use Rattle.re_labels.specs.Constraints.{Constraint, Has}
use Rattle.re_given_words.proofs.Values.{rows-met, tried, up-met, values}
use Rattle.re_given_words.specs.Asking.{AreMade, IsBad}
use Rattle.re_given_words.proofs.asking.ask.Goals as goal

-- the parts of the problem, as they are read
read_made : (c : goal.After-drop-bad-2) (sets : ℕ → List ℕ)
    → AreMade c.args.problem.now.active c.args.problem.now.passive (length c.args.problem.now.names) c.args.problem.now.passive.degree c.args.meetings c.args.choices.now sets
    → AreMade c.active-active.result.now c.passive-passive.result.now c.len-labels.result c.degree-degree.result c.args.meetings c.args.choices.now sets
read_made c sets made =
    let active : c.args.problem.now.active ≡ c.active-active.result.now = sym c.active-active.ensures.active in
    let passive : c.args.problem.now.passive ≡ c.passive-passive.result.now = sym c.passive-passive.ensures.passive in
    let labels : length c.args.problem.now.names ≡ c.len-labels.result = ap length (sym c.names.ensures.names) ∙ sym c.len-labels.ensures.len in
    let degree : c.args.problem.now.passive.degree ≡ c.degree-degree.result = ap (λ (side : Constraint). side.degree) passive ∙ sym c.degree-degree.ensures.degree in
    subst (λ d. AreMade c.active-active.result.now c.passive-passive.result.now c.len-labels.result d c.args.meetings c.args.choices.now sets) degree
    (subst (λ n. AreMade c.active-active.result.now c.passive-passive.result.now n c.args.problem.now.passive.degree c.args.meetings c.args.choices.now sets) labels
    (subst (λ side. AreMade c.active-active.result.now side (length c.args.problem.now.names) c.args.problem.now.passive.degree c.args.meetings c.args.choices.now sets) passive
    (subst (λ side. AreMade side c.args.problem.now.passive (length c.args.problem.now.names) c.args.problem.now.passive.degree c.args.meetings c.args.choices.now sets) active made)))

pub returns : goal.returns
returns c = λ sets made_there.
    let made = read_made c sets made_there in
    let orders : List (List ℕ) = c.as_slice-2.result.now in
    let all : (labels : List ℕ) → Has c.active-active.result.now labels → Contains c.as_slice-2.result.now labels =
    λ labels held. subst (λ l. Contains l labels) (sym c.as_slice-2.ensures.value) (c.in_ok-orders.ensures labels held) in
    let bad : AllByRecursion (IsBad c.passive-passive.result.now c.len-labels.result) c.as_slice.result.now = subst (AllByRecursion (IsBad c.passive-passive.result.now c.len-labels.result)) (sym c.as_slice.ensures.value) c.in_ok-bad.ensures in
    let told = values c.active-active.result.now c.passive-passive.result.now c.len-labels.result c.degree-degree.result c.args.meetings c.args.choices.now c.as_slice-2.result.now sets made in (
      told,
      c.in_ok-ask_choices.ensures told (tried _ _ _ _ _ _ _ sets made all)
          (c.in_ok-ask_up_sets.ensures told (up-met _ _ _ _ _ _ _ sets made)
          (c.in_ok-ask_rows.ensures told (rows-met _ _ _ _ _ _ _ sets made c.as_slice.result.now bad)
          (subst (Satisfies told) (sym c.new-clauses.ensures) tt))),
    )
