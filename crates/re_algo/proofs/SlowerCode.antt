-- The slower table is the construction with one round more.
use Rattle.std.proofs.Common.{◌≡◌, ℕ, zero, suc, pred, ◌*◌, ◌^◌, ◌≤◌, ◌<◌, true, List, [], ◌∷◌, map, length, refl, sym, ◌∙◌, ap, arith, subst, Some, ◌⊎◌, inl, inr}
use Rattle.std.specs.Prelude.{Contains}
use Rattle.std.specs.List.{AllByRecursion, list_any}
use Rattle.std.proofs.Math.Nat.{mul-le-mul, pow-suc, pow-zero}
use Rattle.std.proofs.Math.Pow.{pow_mono}
use Rattle.std.proofs.lemmas.Nat.{pow_pos}
use Rattle.std.proofs.lemmas.Bool.Decides.{nat_tests}
use Rattle.std.proofs.lemmas.List.{length-map}
use Rattle.re_labels.proofs.ChoicesOfRows.{choices-IsChoice}
use Rattle.re_labels.specs.Rows.{choices, set_at}
use Rattle.re_labels.proofs.Membership.{AllByRecursion-from_contains, Contains-map_cases, any_true}
use Rattle.re_labels.specs.declared.sides.Degrees.{Degrees}
use Rattle.re_laws.proofs.SlowRounds.{SolvesBy-upper, slow_is}
use Rattle.re_laws.specs.Algorithms.{Plain, Solves, SolvesBy, around}
use Rattle.re_laws.specs.Slow.{slow}
use Rattle.re_algo.proofs.Counts.{base_within, length-all_trees}
use Rattle.re_algo.specs.Counting.{tree_count}
use Rattle.re_algo.specs.declared.counting.TheConstants.{MAX_VIEWS}
use Rattle.re_problem.proofs.DerivedProblem.{IsUpper-derived}
use Rattle.re_problem.specs.Derived.{derived}
use Rattle.re_problem.specs.Problems.{IsProblem, Problem}
use Rattle.re_labels.proofs.Goodness.{Has-has_config}
use Rattle.re_labels.specs.Constraints.{Constraint, has_config}
use Rattle.re_labels.specs.GoodRows.{max_sets}
use Rattle.re_laws.proofs.AllViewsLemmas.{all_views-IsView}
use Rattle.re_laws.specs.AllViews.{all_views}
use Rattle.re_laws.specs.Trees.{IsView}
use Rattle.re_algo.proofs.FasterCode.{view_as}
use Rattle.re_algo.proofs.SeenGood.{count_is}
use Rattle.re_algo.proofs.TableLaws.{Solves-map, built, degrees_are}
use Rattle.re_algo.specs.Choosing.{HasChoice, choice_at}
use Rattle.re_algo.specs.Constructions.{slower_table}
use Rattle.re_algo.specs.Tables.{AnswerTable, IsTable, built_table, entries, given, views_of}

-- views double at least from radius to radius
doubles : (d e t n : ℕ) → 2 ≤ d → 2 ≤ e → 1 ≤ n → 2 ^ t ≤ tree_count d e t n
doubles d e zero n two two' some = rw pow-zero (omega arith)
doubles d e (suc t) n two two' some =
    let b : ℕ = tree_count e d t (pred e) in
    let below : 2 ^ t ≤ b = doubles e d t (pred e) two' two (omega arith) in
    let more : 2 ^ t * 2 ≤ b * e = mul-le-mul {n₁ = 2 ^ t} {m₁ = 2} {n₂ = b} {m₂ = e} below two' in
    let up : b * e ≤ (b * e) ^ n = base_within (b * e) n (let p = pow_pos t in omega arith) some in
    rw pow-suc (omega arith)

pub radius_small : (table : AnswerTable) → IsTable table → table.radius < 17
radius_small table is =
    let many : 2 ^ table.radius ≤ tree_count table.degrees.active table.degrees.passive table.radius table.degrees.active = doubles table.degrees.active table.degrees.passive table.radius table.degrees.active is.active_least is.passive_least (let l = is.active_least in omega arith) in
    let few : length (views_of table) ≤ MAX_VIEWS = is.few in
    let count : length (views_of table) ≡ tree_count table.degrees.active table.degrees.passive table.radius table.degrees.active = length-all_trees table.degrees.active table.degrees.passive table.radius table.degrees.active in
    go (le_or_lt 17 table.radius) (omega arith)
  where
    le_or_lt : (m n : ℕ) → (m ≤ n) ⊎ (n < m)
    le_or_lt m n = grind (arith, nat_tests)

    go : (17 ≤ table.radius) ⊎ (table.radius < 17) → 2 ^ table.radius ≤ 65536 → table.radius < 17
    go (inl large) few = let up : 2 ^ 17 ≤ 2 ^ table.radius = pow_mono large in absurd (omega arith)
    go (inr small) few = small

module _ (problem : Problem) (table : AnswerTable) (is : IsProblem problem) (table_is : IsTable table)
    (active : table.degrees.active ≡ problem.passive.degree) (passive : table.degrees.passive ≡ problem.active.degree) (solves : Solves (derived problem) table.radius (entries table)) where
  abbrev sets : List (List ℕ)
  sets = max_sets problem.passive problem.labels

  slow_solves : SolvesBy problem (suc table.radius) (slow problem (set_at sets) table.radius (given table))
  slow_solves = SolvesBy-upper problem (derived problem) (set_at sets) table.radius (given table) (IsUpper-derived problem) solves.solves

  pub has_choice : (v : Plain) → IsView table.degrees.passive table.degrees.active (suc table.radius) v → HasChoice problem.active sets table v
  has_choice v view =
      let (chosen, held) = slow_is problem (derived problem) (set_at sets) table.radius (given table) (IsUpper-derived problem) solves.solves v (rw (← passive, ← active) view) in
      record {
        view = view;
        some = subst (λ d. list_any (has_config problem.active) (choices (map (set_at sets) (around d table.radius (given table) v))) ≡ true) (sym passive) (any_true (has_config problem.active) (choices (map (set_at sets) (around problem.active.degree table.radius (given table) v))) (slow problem (set_at sets) table.radius (given table) v)
            (choices-IsChoice (map (set_at sets) (around problem.active.degree table.radius (given table) v)) (slow problem (set_at sets) table.radius (given table) v) chosen)
            (Has-has_config problem.active (slow problem (set_at sets) table.radius (given table) v) held));
      }

  pub choice_is : (v : Plain) → choice_at problem.active sets table v ≡ slow problem (set_at sets) table.radius (given table) v
  choice_is v = rw passive refl

  pub slower_is : length (all_views table.degrees.passive table.degrees.active (suc table.radius)) ≤ MAX_VIEWS → IsTable (slower_table problem table)
  slower_is few = record {
    active_least = table_is.passive_least;
    active_most = table_is.passive_most;
    passive_least = table_is.active_least;
    passive_most = table_is.active_most;
    few = few;
    count = length-map (views_of (slower_table problem table)) (slow problem (set_at sets) table.radius (given table));
    ports = AllByRecursion-from_contains (λ labels. length labels ≡ table.degrees.passive) (slower_table problem table).answers (λ labels held.
        let (v, listed, e) = Contains-map_cases (slow problem (set_at sets) table.radius (given table)) (views_of (slower_table problem table)) labels held in
        let view = all_views-IsView table.degrees.passive table.degrees.active (suc table.radius) v listed in
        let count : length (slow problem (set_at sets) table.radius (given table) v) ≡ problem.active.degree = count_is problem is (suc table.radius) (slow problem (set_at sets) table.radius (given table)) slow_solves.active v
        (view_as table.degrees.passive table.degrees.active (suc table.radius) problem.active.degree problem.passive.degree (suc table.radius) v passive active refl view) in
        ap length (sym e) ∙ (count ∙ sym passive));
  }

  pub slower_solves : length (all_views table.degrees.passive table.degrees.active (suc table.radius)) ≤ MAX_VIEWS → Solves problem (slower_table problem table).radius (entries (slower_table problem table))
  slower_solves few = Solves-map problem (slower_table problem table) (slow problem (set_at sets) table.radius (given table)) (slower_is few) passive active refl slow_solves

-- what is built of the choices at all views
module _ (problem : Problem) (table : AnswerTable) (is : IsProblem problem) (table_is : IsTable table)
    (active : table.degrees.active ≡ problem.passive.degree) (passive : table.degrees.passive ≡ problem.active.degree) (solves : Solves (derived problem) table.radius (entries table))
    (few : length (all_views problem.active.degree problem.passive.degree (suc table.radius)) ≤ MAX_VIEWS) where
  few_here : length (all_views table.degrees.passive table.degrees.active (suc table.radius)) ≤ MAX_VIEWS
  few_here = let same : length (all_views table.degrees.passive table.degrees.active (suc table.radius)) ≡ length (all_views problem.active.degree problem.passive.degree (suc table.radius)) =
      ap (λ d. length (all_views d table.degrees.active (suc table.radius))) passive ∙ ap (λ e. length (all_views problem.active.degree e (suc table.radius))) active in omega arith

  pub all_choose : (constraint : Constraint) (sets : List (List ℕ)) (trees : List Plain) (radius : ℕ) → constraint ≡ problem.active → sets ≡ max_sets problem.passive problem.labels → trees ≡ all_views problem.active.degree problem.passive.degree radius → radius ≡ suc table.radius → AllByRecursion (HasChoice constraint sets table) trees
  all_choose constraint sets trees radius constraint_is sets_are trees_are radius_is =
      subst (λ constraint. AllByRecursion (HasChoice constraint sets table) trees) (sym constraint_is) (subst (λ sets. AllByRecursion (HasChoice problem.active sets table) trees) (sym sets_are)
      (AllByRecursion-from_contains (HasChoice problem.active (max_sets problem.passive problem.labels) table) trees (λ v held.
      has_choice problem table is table_is active passive solves v (view_as problem.active.degree problem.passive.degree radius table.degrees.passive table.degrees.active (suc table.radius) v (sym passive) (sym active) radius_is
      (all_views-IsView problem.active.degree problem.passive.degree radius v (subst (λ trees. Contains trees v) trees_are held))))))

  pub slower_built : (degrees : Degrees) (radius : ℕ) (answers : List (List ℕ)) (constraint : Constraint) (sets : List (List ℕ)) (trees : List Plain) → degrees ≡ record { active = problem.active.degree; passive = problem.passive.degree } → radius ≡ suc table.radius → constraint ≡ problem.active
      → sets ≡ max_sets problem.passive problem.labels → trees ≡ all_views problem.active.degree problem.passive.degree radius → answers ≡ map (choice_at constraint sets table) trees → built_table degrees radius answers ≡ Some (slower_table problem table)
  slower_built degrees radius answers constraint sets trees degrees_is radius_is constraint_is sets_are trees_are answers_are =
      built degrees radius answers (slower_table problem table) (degrees_are degrees table.degrees.passive table.degrees.active (ap (λ (d : Degrees). d.active) degrees_is ∙ sym passive) (ap (λ (d : Degrees). d.passive) degrees_is ∙ sym active)) radius_is
      (answers_are ∙ (ap (λ constraint. map (choice_at constraint sets table) trees) constraint_is ∙ (ap (λ sets. map (choice_at problem.active sets table) trees) sets_are
      ∙ (ap (map (choice_at problem.active (max_sets problem.passive problem.labels) table)) (trees_are ∙ (ap (all_views problem.active.degree problem.passive.degree) radius_is
      ∙ (ap (λ d. all_views d problem.passive.degree (suc table.radius)) (sym passive) ∙ ap (λ e. all_views table.degrees.passive e (suc table.radius)) (sym active))))
      ∙ each (all_views table.degrees.passive table.degrees.active (suc table.radius))))))
      (slower_is problem table is table_is active passive solves few_here)
    where
      each : (trees : List Plain) → map (choice_at problem.active (max_sets problem.passive problem.labels) table) trees ≡ map (slow problem (set_at (max_sets problem.passive problem.labels)) table.radius (given table)) trees
      each [] = refl
      each (v ∷ trees) =
          let here = choice_is problem table is table_is active passive solves v in
          let rest = each trees in
          cc

  pub slower_solved : (more : AnswerTable) → more ≡ slower_table problem table → Solves problem more.radius (entries more)
  slower_solved more same = subst (λ (more : AnswerTable). Solves problem more.radius (entries more)) (sym same) (slower_solves problem table is table_is active passive solves few_here)
