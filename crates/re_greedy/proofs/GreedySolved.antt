-- A greedy problem is solved given a proper colouring: one colour after another.
use Rattle.std.proofs.Common.{◌≡◌, ℕ, zero, suc, ◌+◌, ◌*◌, ◌≤◌, ◌<◌, List, ◌⊎◌, map, length, refl, sym, ◌∙◌, ap, subst, arith, inl, inr}
use Rattle.std.specs.Prelude.{Contains, replicate}
use Rattle.std.specs.List.{AllByRecursion}
use Rattle.std.proofs.lemmas.List.{length-map, map-id}
use Rattle.re_labels.proofs.Sorting.{length-sorted}
use Rattle.re_labels.specs.Configs.{IsConfig, sorted}
use Rattle.re_local.proofs.ColouredHops.{IsProblem-colouring, in_replicate}
use Rattle.re_given.proofs.Colourings.{IsInput-colouring}
use Rattle.re_given.proofs.Itself.{SolvableGiven-itself}
use Rattle.re_given.proofs.MappingGiven.{SolvableGiven-relaxed}
use Rattle.re_given.specs.Given.{SolvableGiven}
use Rattle.re_given.specs.Inputs.{IsInput}
use Rattle.re_given.specs.Unavoidable.{colouring}
use Rattle.re_greedy.proofs.Colours.{colour_around, colours_around}
use Rattle.re_greedy.proofs.Parts.{all_alike, put_out, put_out_all, put_out_none, waiting_all}
use Rattle.re_greedy.proofs.Stages.{Acts, IsProblem-stage, active_there, passive_there, stage, stage_active, stage_passive}
use Rattle.re_greedy.proofs.Turns.{SolvableGiven-turn}
use Rattle.re_greedy.specs.Greedy.{IsGreedy}
use Rattle.re_labels.proofs.Membership.{AllByRecursion-contains, AllByRecursion-from_contains, Contains-map_cases, Distinct, Distinct-map}
use Rattle.re_problem.specs.Problems.{IsProblem, Problem}
use Rattle.re_problem.specs.Steps.{IsRelaxed}
use Rattle.re_labels.specs.Constraints.{Constraint, Has}

module _ (problem : Problem) (partial : List (List ℕ)) (c : ℕ) (is : IsProblem problem) (greedy : IsGreedy problem partial) (enough : problem.passive.degree ≤ c) where
  abbrev n : ℕ
  n = problem.labels

  abbrev a : ℕ
  a = problem.active.degree

  abbrev p : ℕ
  p = problem.passive.degree

  abbrev member : Constraint
  member = record { degree = problem.passive.degree; configs = partial }

  abbrev at_turn : ℕ → Problem
  at_turn q = stage problem partial c q

  input_of : (q : ℕ) → IsInput (at_turn q) (colouring a p c)
  input_of q = IsInput-colouring (at_turn q) c (IsProblem-stage problem partial c q is) enough

  is_colouring : IsProblem (colouring a p c)
  is_colouring = IsProblem-colouring a p c is.active.least is.active.most is.passive.least is.passive.most

  -- ---- at first all nodes show their colours
  shown_below : (zs : List ℕ) → AllByRecursion (λ x. x < c) zs → AllByRecursion (λ z. z < n + c) (map (λ x. n + x) zs)
  shown_below zs below =
      AllByRecursion-from_contains (λ z. z < n + c) (map (λ x. n + x) zs) (λ z at.
      let (x, there, e) = Contains-map_cases (λ x. n + x) zs z at in
      let low : x < c = AllByRecursion-contains (λ x. x < c) zs x below there in
      omega (arith, low, e))

  coloured : IsRelaxed (colouring a p c) (at_turn 0) (λ x. n + x)
  coloured = record {
    active_degree = refl;
    passive_degree = refl;
    active = λ config held.
        let least = is.active.least in
        let (x, low, same) = colour_around a p c config (omega (arith, least)) held in
        let config_is : IsConfig a c config = AllByRecursion-contains (IsConfig a c) (colouring a p c).active.configs config is_colouring.active.configs held in
        let count = config_is.count in
        let shown : map (λ x. n + x) config ≡ replicate (length config) (n + x) =
        all_alike (λ x. n + x) (n + x) config (λ y at. ap (λ x. n + x) (in_replicate a x y (subst (λ zs. Contains zs y) same at))) in
        active_there problem partial c 0 (map (λ x. n + x) config) (length-map config (λ x. n + x) ∙ count) (shown_below config config_is.below)
        (inr (n + x, omega arith, omega (arith, low), subst (λ k. map (λ x. n + x) config ≡ replicate k (n + x)) count shown));
    passive = λ config held.
        let (config_is, different) = colours_around a p c config held in
        passive_there problem partial c 0 (map (λ x. n + x) config) (length-map config (λ x. n + x) ∙ config_is.count) (shown_below config config_is.below) (record {
          put = subst (Has member) (sym (put_out_none n config)) greedy.none;
          different = subst Distinct (sym (waiting_all n config)) (Distinct-map (λ x. n + x) config (λ x y e. (let same : x ≡ y = omega (arith, e) in same)) different);
          late = λ z at. (
              let (x, there, e) = Contains-map_cases (λ x. n + x) config z at in
              let high : n + 0 ≤ z = omega (arith, e) in
              inr high);
        });
  }

  -- ---- at last all have put out their labels
  done : IsRelaxed (at_turn c) problem (λ x. x)
  done = record {
    active_degree = refl;
    passive_degree = refl;
    active = λ config held. (
        let (config_is, does) = stage_active problem partial c c config held in
        subst (Has problem.active) (sym (map-id config)) (put config does));
    passive = λ config held. (
        let (config_is, around) = stage_passive problem partial c c config held in
        let all : put_out n config ≡ config =
        put_out_all n config (λ z at. low z (AllByRecursion-contains (λ z. z < n + c) config z config_is.below at) (around.late z at)) in
        let has : Has member config = subst (Has member) all around.put in
        subst (Has problem.passive) (sym (map-id config)) (whole config config_is.count has));
  }
    where
      put : (config : List ℕ) → Acts problem c c config → Has problem.active config
      put config (inl has) = has
      put config (inr (x, late, low, e)) = absurd (omega (arith, late, low))

      low : (z : ℕ) → z < n + c → (z < n) ⊎ (n + c ≤ z) → z < n
      low z below (inl l) = l
      low z below (inr h) = absurd (omega (arith, below, h))

      whole : (config : List ℕ) → length config ≡ p → Has member config → Has problem.passive config
      whole config count has = greedy.full (sorted config) has (length-sorted config ∙ count)

  -- ---- one colour after another
  turns : (q : ℕ) → q ≤ c → SolvableGiven (at_turn q) (colouring a p c) (2 * q)
  turns zero l =
      let none : 0 ≡ 2 * 0 = omega arith in
      subst (SolvableGiven (at_turn 0) (colouring a p c)) none
      (SolvableGiven-relaxed (colouring a p c) (at_turn 0) (colouring a p c) (λ x. n + x) 0 is_colouring (IsProblem-stage problem partial c 0 is) (IsInput-colouring (colouring a p c) c is_colouring enough) coloured
      (SolvableGiven-itself (colouring a p c) (IsInput-colouring (colouring a p c) c is_colouring enough)))
  turns (suc q) l =
      let hops : suc (suc (2 * q)) ≡ 2 * suc q = omega arith in
      subst (SolvableGiven (at_turn (suc q)) (colouring a p c)) hops
      (SolvableGiven-turn problem partial c q is greedy (omega (arith, l)) (colouring a p c) (2 * q) (input_of (suc q)) (turns q (omega (arith, l))))

  pub SolvableGiven-greedy : SolvableGiven problem (colouring a p c) (2 * c)
  SolvableGiven-greedy =
      SolvableGiven-relaxed (at_turn c) problem (colouring a p c) (λ x. x) (2 * c) (IsProblem-stage problem partial c c is) is (input_of c) done
      (turns c (omega arith))
