-- The table of an upper bound is a table that solves its first problem.
use Rattle.std.proofs.Common.{◌≡◌, ℕ, ◌<◌, List, [], map, length, refl, sym, ap, ◌∙◌, subst}
use Rattle.std.specs.Prelude.{IsSome, Some}
use Rattle.std.specs.List.{AllByRecursion}
use Rattle.std.proofs.lemmas.List.{get_or-map, length-map}
use Rattle.re_cert.proofs.Stages.{count-stages}
use Rattle.re_labels.proofs.Membership.{AllByRecursion-from_contains, Contains-map_cases}
use Rattle.re_labels.specs.declared.sides.Degrees.{Degrees}
use Rattle.re_algo.proofs.CountCode.{some-listed}
use Rattle.re_algo.proofs.Places.{tree_at}
use Rattle.re_problem.specs.NamedProblems.{IsNamedProblem, unnamed}
use Rattle.re_laws.proofs.AllViewsLemmas.{Contains-all_views, Distinct-all_views, all_views-IsView}
use Rattle.re_laws.specs.AllViews.{all_views}
use Rattle.re_laws.specs.Trees.{IsView, leaf}
use Rattle.re_algo.specs.Counting.{listed, view_count, view_place}
use Rattle.re_laws.proofs.ExtractedRounds.{extracted_solves}
use Rattle.re_laws.proofs.Tables.{SolvesBy-same}
use Rattle.re_laws.specs.Algorithms.{Plain, Solves, SolvesBy}
use Rattle.re_laws.specs.Extracted.{IsUpperBound, extracted}
use Rattle.re_cert.specs.Bounds.{Bound}
use Rattle.re_cert.specs.Stages.{stages_of}
use Rattle.re_algo.proofs.FitsCode.{yes_is}
use Rattle.re_algo.proofs.JudgeCode.{labels_within}
use Rattle.re_algo.proofs.SeenGood.{count_is}
use Rattle.re_algo.proofs.GivenAnswers.{answer-paired, views-paired}
use Rattle.re_algo.proofs.TableLaws.{built, degrees_are}
use Rattle.re_algo.specs.Tables.{IsTable, built_table, entries, given}
use Rattle.re_algo.specs.Verdicts.{table_verdict}
use Rattle.re_algo.specs.declared.solving.TableVerdict.TheVariants.{Yes}
use Rattle.re_extract.specs.UpperTables.{upper_table}

module _ (bound : Bound) (is : IsUpperBound (unnamed bound.first) (stages_of bound.steps)) where
  abbrev algorithm : Plain → List ℕ
  algorithm = extracted (unnamed bound.first) (stages_of bound.steps)

  abbrev views : List Plain
  views = all_views bound.first.active.degree bound.first.passive.degree (length bound.steps)

  solving : SolvesBy (unnamed bound.first) (length bound.steps) algorithm
  solving = subst (λ n. SolvesBy (unnamed bound.first) n algorithm) (count-stages bound.steps) (extracted_solves (unnamed bound.first) (stages_of bound.steps) is)

  gives : (v : Plain) → IsView bound.first.active.degree bound.first.passive.degree (length bound.steps) v → given (upper_table bound) v ≡ algorithm v
  gives v view =
      let placed = tree_at bound.first.active.degree bound.first.passive.degree (length bound.steps) bound.first.active.degree v view in
      let place : ℕ = view_place bound.first.active.degree bound.first.passive.degree v in
      ap (given (upper_table bound)) (sym placed.1)
      ∙ (answer-paired views (map algorithm views) place (Distinct-all_views bound.first.active.degree bound.first.passive.degree (length bound.steps)) (length-map views algorithm) placed.0
      ∙ (get_or-map algorithm views place leaf [] placed.0 ∙ ap algorithm placed.1))

  pub upper_solves : Solves (unnamed bound.first) (length bound.steps) (entries (upper_table bound))
  upper_solves = record {
    entries = λ v view. rw (views-paired views (map algorithm views) (length-map views algorithm)) (Contains-all_views bound.first.active.degree bound.first.passive.degree (length bound.steps) v view);
    solves = SolvesBy-same (unnamed bound.first) (length bound.steps) algorithm (given (upper_table bound)) (λ v view. sym (gives v view)) solving;
  }

module _ (bound : Bound) (is : IsUpperBound (unnamed bound.first) (stages_of bound.steps)) (named : IsNamedProblem bound.first)
    (some : IsSome (view_count bound.first.active.degree bound.first.passive.degree (length bound.steps))) where
  pub upper_is : IsTable (upper_table bound)
  upper_is = record {
    active_least = named.problem.active.least;
    active_most = named.problem.active.most;
    passive_least = named.problem.passive.least;
    passive_most = named.problem.passive.most;
    few = some-listed (length (views bound is)) some;
    count = length-map (views bound is) (algorithm bound is);
    ports = AllByRecursion-from_contains (λ labels. length labels ≡ bound.first.active.degree) (map (algorithm bound is) (views bound is)) (λ labels held.
        let (v, listed, e) = Contains-map_cases (algorithm bound is) (views bound is) labels held in
        let view = all_views-IsView bound.first.active.degree bound.first.passive.degree (length bound.steps) v listed in
        ap length (sym e) ∙ count_is (unnamed bound.first) named.problem (length bound.steps) (algorithm bound is) (solving bound is).active v view);
  }

  pub upper_verdict : table_verdict (unnamed bound.first) (upper_table bound) ≡ Yes
  upper_verdict = (yes_is (unnamed bound.first) (upper_table bound) (table_verdict (unnamed bound.first) (upper_table bound)) named.problem upper_is refl refl refl).1 (upper_solves bound is)

  pub upper_labels : AllByRecursion (AllByRecursion (λ label. label < length bound.first.names)) (upper_table bound).answers
  upper_labels = AllByRecursion-from_contains (AllByRecursion (λ label. label < length bound.first.names)) (map (algorithm bound is) (views bound is)) (λ labels held.
      let (v, listed, e) = Contains-map_cases (algorithm bound is) (views bound is) labels held in
      let view = all_views-IsView bound.first.active.degree bound.first.passive.degree (length bound.steps) v listed in
      subst (AllByRecursion (λ label. label < length bound.first.names)) e (labels_within (length bound.first.names) bound.first.active (algorithm bound is v) named.problem.active ((solving bound is).active v view)))

  pub filled_is : (degrees : Degrees) (radius : ℕ) (answers : List (List ℕ)) → degrees.active ≡ bound.first.active.degree → degrees.passive ≡ bound.first.passive.degree → radius ≡ length bound.steps → answers ≡ map (algorithm bound is) (views bound is)
      → built_table degrees radius answers ≡ Some (upper_table bound)
  filled_is degrees radius answers active passive rounds are =
      built degrees radius answers (upper_table bound) (degrees_are degrees bound.first.active.degree bound.first.passive.degree active passive) rounds are upper_is
