-- The bound of a chain, its maps by rows, and the steps to the closure of a relaxation of its last problem and back: it fits, and it is accepted.
use Rattle.std.proofs.Common.{◌≡◌, ℕ, ◌+◌, ◌≤◌, true, List, [], ◌∷◌, ◌++◌, length, leb, map, None, refl, sym, ap, ◌∙◌, subst, inr, arith}
use Rattle.std.specs.Prelude.{◌&&◌}
use Rattle.std.specs.List.{AllByRecursion, list_all}
use Rattle.re_algo.specs.Constructions.{IsSeen, top_places}
use Rattle.re_cert.specs.Bounds.{Bound, BoundStep, is_bound, is_by_row, last_problem, next_problems, one_form, renaming_fits, step_fits, steps_fit}
use Rattle.re_cert.specs.declared.certificate.Kind.TheVariants.{Fixed}
use Rattle.re_cert.specs.declared.certificate.TheConstants.{MAX_STEPS}
use Rattle.re_shaping.proofs.FirstSteps.{row_step-fits}
use Rattle.re_chains.specs.Chains.{IsOverProblems, IsSoundLower}
use Rattle.re_shaping.proofs.RowForms.{next-same, step-form, steps-fit, steps-sound}
use Rattle.re_shaping.specs.RowForms.{by_rows, step_by_rows}
use Rattle.re_check.proofs.Meaning.{named-last}
use Rattle.re_check.proofs.StepMeaning.{lower_clauses}
use Rattle.re_check.specs.Clauses.{step_fault}
use Rattle.re_labels.specs.declared.TheConstants.{MAX_ROWS}
use Rattle.re_shaping.specs.Extensions.{GoesOn}
use Rattle.re_labels.proofs.Membership.{AllByRecursion-from_contains, length-map'}
use Rattle.re_labels.proofs.Tests.{and-true, true-and}
use Rattle.re_labels.specs.declared.TheConstants.{MAX_LABELS}
use Rattle.re_problem.specs.NamedProblems.{IsNamedProblem, NamedProblem, unnamed}
use Rattle.re_problem.specs.ProblemTexts.{last_or}
use Rattle.re_problem.specs.Steps.LowerMap.{by_row}
use Rattle.re_problem.specs.Steps.{IsLowerStepByRow, IsRelaxed}
use Rattle.re_problem.specs.Zero.{zero_place}
use Rattle.re_labels.specs.GoodRows.{max_rows}
use Rattle.re_closure_laws.specs.Lines.{Family, below, problem_of}
use Rattle.re_closure.proofs.Joined.{IsLonger, fits, fits_fixed, goes_on, is_formed, made_is, step_longer}
use Rattle.re_closure.proofs.NamedFamilies.{named_between, unnamed_of}
use Rattle.re_closure.proofs.RaisedSteps.{raised_seen, raised_step_law}
use Rattle.re_closure.proofs.RowLemmas.{few_maximal}
use Rattle.re_closure.specs.Closed.{IsClosureOf, made_bound}
use Rattle.re_closure.specs.Diagrams.{raised}
use Rattle.re_closure.specs.Closures.{HasRoom}
use Rattle.re_closure.specs.Limits.{IsSmallClosure, PassesLimit}
use Rattle.re_closure.specs.RaisedClosures.{IsRaisedClosed, MayRise, RaisedLimitIs, raised_bound, raised_images, raised_step}
use Rattle.re_closure.specs.Sides.{bound_by, named_of}
use Rattle.re_closure.specs.declared.closure.Closure.{Closure}
use Rattle.re_closure.specs.declared.types.ClosureLimit.{ClosureLimit}
use Rattle.re_closure.specs.declared.types.ClosureLimit.TheVariants.{Combinations, Configurations, Labels, Rows, Steps}

rows_formed : (before : NamedProblem) (steps : List BoundStep) → steps_fit Fixed before steps ≡ true → list_all (is_formed true) (map step_by_rows steps) ≡ true
rows_formed before [] fit = refl
rows_formed before (s ∷ steps) fit =
    let two = and-true (step_fits Fixed before s) (steps_fit Fixed s.next steps) fit in
    true-and (is_by_row (step_by_rows s).map) (list_all (is_formed true) (map step_by_rows steps)) (step-form Fixed before s two.0) (rows_formed s.next steps two.1)

module _ (chain : Bound) (is : is_bound chain ≡ true) (sound : IsSoundLower chain) (over : IsOverProblems chain) where
  fit : steps_fit Fixed chain.first chain.steps ≡ true
  fit =
      let (front, back) = and-true (leb (length chain.steps) MAX_STEPS && steps_fit chain.kind chain.first chain.steps && one_form chain.steps) (renaming_fits chain) is in
      let (fitting, form) = and-true (leb (length chain.steps) MAX_STEPS && steps_fit chain.kind chain.first chain.steps) (one_form chain.steps) front in
      fits_fixed chain.first chain.steps
      (ap (λ k. steps_fit k chain.first chain.steps) (sym sound.lower) ∙ (and-true (leb (length chain.steps) MAX_STEPS) (steps_fit chain.kind chain.first chain.steps) fitting).1)

  -- the chain with its maps by rows
  pub written_begun : IsLonger chain.first true (map step_by_rows chain.steps) (last_problem chain)
  written_begun = record {
    fits = steps-fit Fixed 1 chain.first chain.steps fit sound.sound;
    valid = steps-sound 1 chain.first chain.steps sound.sound;
    formed = rows_formed chain.first chain.steps fit;
    ends = ap (last_or chain.first) (next-same chain.steps);
  }

module _ (chain : Bound) (is : is_bound chain ≡ true) (sound : IsSoundLower chain) (over : IsOverProblems chain) (relaxed : NamedProblem) (fine : IsNamedProblem relaxed)
    (labels : length (last_problem chain).names ≡ length relaxed.names) (rel : IsRelaxed (unnamed (last_problem chain)) (unnamed relaxed) (λ x. x))
    (few : length (max_rows (last_problem chain).passive (length (last_problem chain).names)) ≤ MAX_ROWS) where
  abbrev P : NamedProblem
  P = last_problem chain

  problem : IsNamedProblem (last_problem chain)
  problem = named-last chain.first (next_problems chain.steps) over.first over.next

  pub over_written : IsOverProblems (by_rows chain)
  over_written = record { first = over.first; next = subst (AllByRecursion IsNamedProblem) (sym (next-same chain.steps)) over.next }

  -- what the program asks of the rows
  pub all_rows_seen : AllByRecursion (IsSeen (max_rows relaxed.passive (length relaxed.names))) (max_rows (last_problem chain).passive (length (last_problem chain).names))
  all_rows_seen = AllByRecursion-from_contains (IsSeen (max_rows relaxed.passive (length relaxed.names))) (max_rows P.passive (length P.names))
      (raised_seen (unnamed P) (unnamed relaxed) labels rel problem.problem fine.names.few)

  module _ (active passive : Family) (small : IsSmallClosure (unnamed relaxed) active passive) (room : length chain.steps + 3 ≤ MAX_STEPS)
      (few_active : length (max_rows (below active) (length active.sets)) ≤ MAX_ROWS) (few_passive : length (max_rows (below passive) (length passive.sets)) ≤ MAX_ROWS)
      (not_zero : zero_place (problem_of active passive) ≡ None) where
    abbrev t1 : BoundStep
    t1 = raised_step (unnamed P) (unnamed relaxed) active passive

    step : IsLowerStepByRow (unnamed (last_problem chain)) (unnamed (named_of passive active)) (max_rows (last_problem chain).passive (length (last_problem chain).names))
        (raised_images (unnamed (last_problem chain)) (unnamed relaxed) passive)
    step = subst (λ q. IsLowerStepByRow (unnamed P) q t1.rows (raised_images (unnamed P) (unnamed relaxed) passive)) (sym (unnamed_of passive active))
        (raised_step_law (unnamed P) (unnamed relaxed) active passive fine.problem labels rel small.closure)

    met1 : step_fault (last_problem chain) (raised_step (unnamed (last_problem chain)) (unnamed relaxed) active passive) ≡ None
    met1 = (lower_clauses P t1 refl).1 step

    fit1 : step_fits Fixed (last_problem chain) (raised_step (unnamed (last_problem chain)) (unnamed relaxed) active passive) ≡ true
    fit1 = row_step-fits P (named_of passive active) (raised_images (unnamed P) (unnamed relaxed) passive) (named_between (unnamed relaxed) active passive fine.problem small.closure small.labels) few step Fixed refl

    one : IsLonger chain.first true (map step_by_rows chain.steps ++ raised_step (unnamed (last_problem chain)) (unnamed relaxed) active passive ∷ []) (named_of passive active)
    one = step_longer chain.first true (map step_by_rows chain.steps) P t1 fit1 met1 refl (written_begun chain is sound over)

    room_written : length (by_rows chain).steps + 3 ≤ MAX_STEPS
    room_written = omega (arith, room, length-map' step_by_rows chain.steps)

    pub raised-fits : is_bound (bound_by true (by_rows chain) (raised_step (unnamed (last_problem chain)) (unnamed relaxed) active passive) active passive) ≡ true
    raised-fits = fits (by_rows chain) over_written (unnamed relaxed) fine.problem active passive small room_written few_active few_passive not_zero true t1 refl one

    pub raised-goes_on : GoesOn Fixed 3 MAX_LABELS (by_rows chain) (bound_by true (by_rows chain) (raised_step (unnamed (last_problem chain)) (unnamed relaxed) active passive) active passive)
    raised-goes_on = goes_on (by_rows chain) over_written (unnamed relaxed) fine.problem active passive small room_written few_active few_passive not_zero true t1 refl one

-- ---- what is computed of the closure
module _ (chain : Bound) (is : is_bound chain ≡ true) (sound : IsSoundLower chain) (over : IsOverProblems chain) (relaxed : NamedProblem) (fine : IsNamedProblem relaxed)
    (labels : length (last_problem chain).names ≡ length relaxed.names) (rel : IsRelaxed (unnamed (last_problem chain)) (unnamed relaxed) (λ x. x))
    (few : length (max_rows (last_problem chain).passive (length (last_problem chain).names)) ≤ MAX_ROWS) (room : length chain.steps + 3 ≤ MAX_STEPS)
    (closure : Closure) (of : IsClosureOf (unnamed relaxed) closure) (none : zero_place (unnamed closure.closed) ≡ None) where
  abbrev A : Family
  A = of.active

  abbrev B : Family
  B = of.passive

  not_zero_of : zero_place (problem_of of.active of.passive) ≡ None
  not_zero_of = ap zero_place (sym (unnamed_of A B)) ∙ ap (λ p. zero_place (unnamed p)) (sym of.computed.closed_is) ∙ none

  few_out : length (max_rows (below of.active) (length of.active.sets)) ≤ MAX_ROWS
  few_out = subst (λ l. length l ≤ MAX_ROWS) of.computed.out_is.rows of.computed.out_is.few

  few_back : length (max_rows (below of.passive) (length of.passive.sets)) ≤ MAX_ROWS
  few_back = subst (λ l. length l ≤ MAX_ROWS) of.computed.back_is.rows of.computed.back_is.few

  -- the step that the program makes
  module _ (rows : List (List (List ℕ))) (rows_are : rows ≡ max_rows (last_problem chain).passive (length (last_problem chain).names)) (s : BoundStep)
      (made : s ≡ record { lower = true; next = closure.between; rows = rows; map = by_row (map (top_places (max_rows relaxed.passive (length relaxed.names)) closure.sets.items) rows) }) where
    step_is : s ≡ raised_step (unnamed (last_problem chain)) (unnamed relaxed) of.active of.passive
    step_is = made ∙ (λ i. record {
      lower = true;
      next = of.computed.between_is i;
      rows = rows_are i;
      map = by_row (map (top_places (max_rows relaxed.passive (length relaxed.names)) (of.computed.sets_are i)) (rows_are i));
    })

    same : made_bound true (by_rows chain) s closure ≡ bound_by true (by_rows chain) (raised_step (unnamed (last_problem chain)) (unnamed relaxed) of.active of.passive) of.active of.passive
    same = made_is (unnamed relaxed) A B closure of.computed true (by_rows chain) s ∙ ap (λ t. bound_by true (by_rows chain) t A B) step_is

    pub made-fits : is_bound (made_bound true (by_rows chain) s closure) ≡ true
    made-fits = ap is_bound same ∙ raised-fits chain is sound over relaxed fine labels rel few A B of.computed.small room few_out few_back not_zero_of

    pub made-closed : (edges : List (ℕ × ℕ)) → relaxed ≡ raised edges (last_problem chain) → MayRise edges (last_problem chain) → (bound : Bound) → bound ≡ made_bound true (by_rows chain) s closure → IsRaisedClosed edges chain bound
    made-closed edges raised_is may bound is_made =
        let whole : bound ≡ raised_bound edges chain A B = is_made ∙ same ∙ ap (λ (p : NamedProblem). bound_by true (by_rows chain) (raised_step (unnamed (last_problem chain)) (unnamed p) A B) A B) raised_is in
        record {
          may = may;
          active = A;
          passive = B;
          closure = subst (λ (p : NamedProblem). IsSmallClosure (unnamed p) A B) raised_is of.computed.small;
          not_zero = not_zero_of;
          bound_is = whole;
          goes_on = subst (GoesOn Fixed 3 MAX_LABELS (by_rows chain)) (sym (is_made ∙ same)) (raised-goes_on chain is sound over relaxed fine labels rel few A B of.computed.small room few_out few_back not_zero_of);
        }

-- ---- the rows that the program asks for
pub few_tops : (relaxed : NamedProblem) → IsNamedProblem relaxed → (closure : Closure) → IsClosureOf (unnamed relaxed) closure → length (max_rows relaxed.passive (length relaxed.names)) ≤ MAX_ROWS
few_tops relaxed fine closure of =
    let few = few_maximal (unnamed relaxed) of.active of.passive fine.problem of.computed.small.closure in
    let lines = of.computed.small.passive_lines in
    omega (arith, few, lines)

-- a limit of the closure of the raised problem is one that is told
pub raised_limit_of : (edges : List (ℕ × ℕ)) (chain : Bound) (passed : ClosureLimit) → HasRoom chain → MayRise edges (last_problem chain) → PassesLimit (unnamed (raised edges (last_problem chain))) passed → RaisedLimitIs edges chain passed
raised_limit_of edges chain Rows room may told = (room, inr (may, told))
raised_limit_of edges chain Combinations room may told = (room, (may, told))
raised_limit_of edges chain (Labels count) room may told = (room, (may, told))
raised_limit_of edges chain Configurations room may told = (room, inr (may, told))
raised_limit_of edges chain Steps room may told = absurd told
