-- What may be given to a chain with a diagram, by what is found of the closure of the raised problem.
use Rattle.std.proofs.Common.{◌≡◌, ◌+◌, ◌<◌, ◌≤◌, ℕ, zero, suc, true, List, [], ◌∷◌, ◌++◌, None, leb, length, length-append, map, refl, sym, subst, inr, arith}
use Rattle.std.proofs.lemmas.Bool.Decides.{nat_tests}
use Rattle.std.specs.Prelude.{Contains}
use Rattle.std.specs.List.{AllByRecursion}
use Rattle.re_cert.proofs.FittingStates.{one_more}
use Rattle.re_cert.specs.Bounds.{Bound, BoundStep, is_bound, last_problem, next_problems, step_fits, steps_fit}
use Rattle.re_cert.specs.declared.certificate.Kind.TheVariants.{Fixed, Lower}
use Rattle.re_cert.specs.declared.certificate.TheConstants.{MAX_STEPS}
use Rattle.re_shaping.proofs.FirstSteps.{relaxed-fits, relaxed-meets}
use Rattle.re_shaping.proofs.LastSteps.{chain_with-bound}
use Rattle.re_shaping.specs.Relaxing.{relaxed_limit}
use Rattle.re_chains.specs.Chains.{IsOverProblems, IsSound, IsSoundLower}
use Rattle.re_shaping.specs.RowForms.{step_by_rows}
use Rattle.re_check.proofs.Meaning.{named-last}
use Rattle.re_check.specs.Clauses.{step_fault}
use Rattle.re_labels.specs.Configs.{IsConfig, image_at}
use Rattle.re_frame.specs.Outcomes.{Outcome}
use Rattle.re_settings.specs.declared.setting.Setting.TheVariants.{Alone}
use Rattle.re_labels.proofs.Membership.{AllByRecursion-contains, length-map'}
use Rattle.re_labels.proofs.Tests.{and-true, true-and}
use Rattle.re_labels.specs.Lists.{count_from}
use Rattle.re_problem.specs.NamedProblems.{IsNamedProblem, NamedProblem, unnamed}
use Rattle.re_problem.specs.Steps.{IsRelaxed}
use Rattle.re_problem.specs.Zero.{zero_place}
use Rattle.re_labels.specs.Constraints.{Constraint, Has, IsConstraint}
use Rattle.re_search.proofs.Paths.{fits-more, valid-more}
use Rattle.re_closure.proofs.Joined.{IsLonger, is_formed, one_form-of}
use Rattle.re_closure.proofs.RaisedJoined.{written_begun}
use Rattle.re_closure.proofs.RaisedProblems.{raised-named, raised-relaxed}
use Rattle.re_settings.specs.declared.setting.Setting.TheVariants.{Alone}
use Rattle.re_closure.specs.ClosureWords.{IsRaisedLimitLine, IsRaisedLine, MayFindRaisedBehind, MayFindRaisedWithin, MayFindWithin, MayGoOnRaised}
use Rattle.re_closure.specs.Diagrams.{raised}
use Rattle.re_closure.specs.RaisedClosures.{raised_chain, step_to_raised}
use Rattle.re_closure_laws.proofs.Itself.{own_image}

-- a limit is passed
pub raised_limit_within : (more : ℕ) (edges : List (ℕ × ℕ)) (chain : Bound) (outcome : Outcome) → zero_place (unnamed (last_problem chain)) ≡ None → IsRaisedLimitLine edges chain outcome → MayFindRaisedWithin more edges chain outcome
raised_limit_within zero edges chain outcome none line = subst (λ p. MayFindRaisedBehind (IsRaisedLine edges chain) p edges chain outcome) (sym none) (inr (inr line))
raised_limit_within (suc more) edges chain outcome none line =
    subst (λ p. MayFindRaisedBehind (MayGoOnRaised edges chain (MayFindWithin more Alone (raised_chain edges chain))) p edges chain outcome) (sym none) (inr (inr line))

-- ---- the chain with the step to the derived problem of the raised problem
module _ (problem relaxed : NamedProblem) (fine : IsNamedProblem problem) (is : IsRelaxed (unnamed problem) (unnamed relaxed) (λ x. x)) where
  abbrev n : ℕ
  n = length problem.names

  own_config : (config : List ℕ) → AllByRecursion (λ x. x < length problem.names) config → map (image_at (count_from 0 (length problem.names))) config ≡ map (λ x. x) config
  own_config [] low = refl
  own_config (x ∷ config) low = λ i. own_image n x low.0 i ∷ own_config config low.1 i

  own_held : (constraint other : Constraint) → IsConstraint (length problem.names) constraint → ((config : List ℕ) → Contains constraint.configs config → Has other (map (λ x. x) config)) → (config : List ℕ)
      → Contains constraint.configs config → Has other (map (image_at (count_from 0 (length problem.names))) config)
  own_held constraint other of has config held =
      subst (Has other) (sym (own_config config (AllByRecursion-contains (IsConfig constraint.degree n) constraint.configs config of.configs held).below)) (has config held)

  -- the same relaxation by the images that the program holds
  pub own_relaxed : IsRelaxed (unnamed problem) (unnamed relaxed) (image_at (count_from 0 (length problem.names)))
  own_relaxed = record {
    active_degree = is.active_degree;
    passive_degree = is.passive_degree;
    active = own_held problem.active relaxed.active fine.problem.active is.active;
    passive = own_held problem.passive relaxed.passive fine.problem.passive is.passive;
  }

module _ (edges : List (ℕ × ℕ)) (chain : Bound) (is : is_bound chain ≡ true) (sound : IsSoundLower chain) (over : IsOverProblems chain) (room : length chain.steps + 3 ≤ MAX_STEPS)
    (limit : relaxed_limit (last_problem chain) (raised edges (last_problem chain)) ≡ None) where
  abbrev P : NamedProblem
  P = last_problem chain

  abbrev s : BoundStep
  s = step_to_raised edges P

  problem : IsNamedProblem (last_problem chain)
  problem = named-last chain.first (next_problems chain.steps) over.first over.next

  rel : IsRelaxed (unnamed (last_problem chain)) (unnamed (raised edges (last_problem chain))) (image_at (count_from 0 (length (last_problem chain).names)))
  rel = own_relaxed P (raised edges P) problem (raised-relaxed edges P problem)

  low : (label : ℕ) → label < length (last_problem chain).names → image_at (count_from 0 (length (last_problem chain).names)) label < length (raised edges (last_problem chain)).names
  low label l = subst (λ x. x < length P.names) (sym (own_image (length P.names) label l)) l

  met : step_fault (last_problem chain) (step_to_raised edges (last_problem chain)) ≡ None
  met = relaxed-meets P (raised edges P) (image_at (count_from 0 (length P.names))) low rel (raised-named edges P problem) limit

  fit : step_fits Lower (last_problem chain) (step_to_raised edges (last_problem chain)) ≡ true
  fit = relaxed-fits P (raised edges P) (image_at (count_from 0 (length P.names))) low rel (raised-named edges P problem) limit Lower refl

  begun : IsLonger chain.first true (map step_by_rows chain.steps) (last_problem chain)
  begun = written_begun chain is sound over

  pub raised_chain-sound : IsSound (raised_chain edges chain)
  raised_chain-sound = valid-more 1 chain.first (map step_by_rows chain.steps) s begun.valid (subst (λ p. step_fault p s ≡ None) (sym begun.ends) met)

  pub raised_chain-bound : is_bound (raised_chain edges chain) ≡ true
  raised_chain-bound =
      let rows : List BoundStep = map step_by_rows chain.steps in
      let short : leb (length (rows ++ s ∷ [])) MAX_STEPS ≡ true = (let l = length-append rows (s ∷ []) in let m = length-map' step_by_rows chain.steps in let f : length (rows ++ s ∷ []) ≤ MAX_STEPS = omega (arith, l, m, room) in grind (arith, nat_tests)) in
      chain_with-bound Lower chain.first (rows ++ s ∷ []) short
      (fits-more Lower chain.first rows s (lower_fixed chain.first rows begun.fits) (subst (λ p. step_fits Lower p s ≡ true) (sym begun.ends) fit))
      (one_form-of true (rows ++ s ∷ []) (one_more (is_formed true) rows s begun.formed refl))
    where
      lower_fixed : (before : NamedProblem) (steps : List BoundStep) → steps_fit Fixed before steps ≡ true → steps_fit Lower before steps ≡ true
      lower_fixed before [] h = h
      lower_fixed before (s ∷ steps) h =
          let two = and-true (step_fits Fixed before s) (steps_fit Fixed s.next steps) h in
          true-and (step_fits Lower before s) (steps_fit Lower s.next steps) two.0 (lower_fixed s.next steps two.1)
