-- How long the canonical text of a problem is.
use Rattle.std.proofs.Common.{◌≡◌, ℕ, suc, ◌≤◌, ◌+◌, ◌*◌, ◌&&◌, Bool, true, false, cond, eqb, leb, List, [], ◌∷◌, ◌++◌, length, length-append, flat_map, map, replicate, refl, ap, ◌∙◌, arith, decimal}
use Rattle.std.specs.List.{AllByRecursion}
use Rattle.std.proofs.lemmas.Bool.Decides.{nat_tests}
use Rattle.std.proofs.lemmas.Grind.{flat_map-append}
use Rattle.std.proofs.lemmas.List.{length-replicate}
use Rattle.re_texts.proofs.BlocksWritten.{have_names}
use Rattle.re_texts.proofs.ConfigLines.{HoldRuns, IsNamed, config_runs, name_at, unrolled, unrolled_runs}
use Rattle.re_texts.proofs.ReadBack.{text_ended}
use Rattle.re_texts.proofs.RunItems.{degree_digit}
use Rattle.re_texts.specs.CanonicalLines.{CanonicalSizeLaw, block_lines, lines_for}
use Rattle.re_labels.specs.Configs.{IsConfig}
use Rattle.re_labels.proofs.Tests.{and-true, eqb-true}
use Rattle.re_labels.specs.Names.{IsNames, is_name}
use Rattle.re_problem.specs.CanonicalTexts.{Run, canonical, config_text, is_bare, label_text, power_text, run_text, runs, spaced}
use Rattle.re_problem.specs.ProblemTexts.{ended}

name_size : (name : List ℕ) → is_name name ≡ true → length name ≤ 16
name_size name named = few (length name) (and-true (leb 1 (length name)) (leb (length name) 16) (and-true (leb 1 (length name) && leb (length name) 16) _ named).0).1
  where
    few : (n : ℕ) → leb n 16 ≡ true → n ≤ 16
    few n test = grind (arith, nat_tests)

label_size : (name : List ℕ) → is_name name ≡ true → length (label_text name) ≤ 18
label_size name named = go (is_bare name)
  where
    go : (bare : Bool) → length (cond bare name (40 ∷ (name ++ 41 ∷ []))) ≤ 18
    go true = omega (arith, name_size name named)
    go false = omega (arith, name_size name named, length-append name (41 ∷ []))

power_size : (count : ℕ) → 1 ≤ count → count ≤ 6 → length (power_text count) + 18 ≤ 18 * count
power_size count some few = go (eqb count 1) refl
  where
    many : eqb count 1 ≡ false → 2 ≤ count
    many test = grind (arith, nat_tests)

    go : (one : Bool) → eqb count 1 ≡ one → length (cond one [] (94 ∷ decimal count)) + 18 ≤ 18 * count
    go true test = omega (arith, eqb-true count 1 test)
    go false test = let low = many test in omega (arith, low, ap length (degree_digit count low few))

module _ (names : List (List ℕ)) where
  runs_size : (rs : List Run) → HoldRuns (IsNamed names) 6 rs → length (flat_map (λ next. 32 ∷ next) (map (run_text names) rs)) ≤ 19 * length (unrolled rs)
  runs_size [] held = omega arith
  runs_size (run ∷ rs) held =
      let text : length (run_text names run) ≡ length (label_text (name_at names run.label)) + length (power_text run.count) = length-append (label_text (name_at names run.label)) (power_text run.count) in
      let all : length (run_text names run ++ flat_map (λ next. 32 ∷ next) (map (run_text names) rs)) ≡ length (run_text names run) + length (flat_map (λ next. 32 ∷ next) (map (run_text names) rs)) =
      length-append (run_text names run) (flat_map (λ next. 32 ∷ next) (map (run_text names) rs)) in
      let labels : length (replicate run.count run.label ++ unrolled rs) ≡ run.count + length (unrolled rs) = length-append (replicate run.count run.label) (unrolled rs) ∙ ap (λ n. n + length (unrolled rs)) (length-replicate run.count run.label) in
      omega (arith, text, all, labels, label_size (name_at names run.label) held.0.0, power_size run.count held.0.1 held.0.2, runs_size rs held.1)

  spaced_size : (texts : List (List ℕ)) → length (spaced texts) ≤ length (flat_map (λ next. 32 ∷ next) texts)
  spaced_size [] = omega arith
  spaced_size (text ∷ texts) = omega arith

  module _ (is : IsNames names) (degree : ℕ) (low : 2 ≤ degree) (high : degree ≤ 6) where
    config_size : (config : List ℕ) → IsConfig degree (length names) config → length (config_text names config) ≤ 114
    config_size [] ours = omega arith
    config_size (x ∷ more) ours =
        let few : length (x ∷ more) ≤ 6 = omega (arith, ours.count) in
        let held = config_runs names x more (have_names names is degree low high (x ∷ more) ours.below) few in
        omega (arith, few, spaced_size (map (run_text names) (runs (x ∷ more))), runs_size (runs (x ∷ more)) held, ap length (unrolled_runs (x ∷ more)))

    configs_size : (configs : List (List ℕ)) → AllByRecursion (IsConfig degree (length names)) configs → length (ended (map (config_text names) configs)) ≤ 115 * length configs
    configs_size [] ours = omega arith
    configs_size (config ∷ configs) ours =
        let line : length (config_text names config ++ 10 ∷ []) ≡ length (config_text names config) + 1 = length-append (config_text names config) (10 ∷ []) in
        let all : length ((config_text names config ++ 10 ∷ []) ++ ended (map (config_text names) configs)) ≡ length (config_text names config ++ 10 ∷ []) + length (ended (map (config_text names) configs)) =
        length-append (config_text names config ++ 10 ∷ []) (ended (map (config_text names) configs)) in
        omega (arith, line, all, config_size config ours.0, configs_size configs ours.1)

    lines_size : (configs : List (List ℕ)) → AllByRecursion (IsConfig degree (length names)) configs → length (ended (lines_for names degree configs)) ≤ 115 * length configs + 3
    lines_size [] ours = let digit : length (((37 ∷ decimal degree) ++ 10 ∷ []) ++ []) ≡ 3 = ap (λ digits. length (((37 ∷ digits) ++ 10 ∷ []) ++ [])) (degree_digit degree low high) in omega arith
    lines_size (config ∷ configs) ours = omega (arith, configs_size (config ∷ configs) ours)

pub canonical_size_law : CanonicalSizeLaw
canonical_size_law problem is =
    let active = is.problem.active in
    let passive = is.problem.passive in
    let active_size : length (ended (block_lines problem.names problem.active)) ≤ 115 * length problem.active.configs + 3 = lines_size problem.names is.names problem.active.degree active.least active.most problem.active.configs active.configs in
    let passive_size : length (ended (block_lines problem.names problem.passive)) ≤ 115 * length problem.passive.configs + 3 = lines_size problem.names is.names problem.passive.degree passive.least passive.most problem.passive.configs passive.configs in
    let whole : length (canonical problem) ≡ length (ended (block_lines problem.names problem.active)) + suc (length (ended (block_lines problem.names problem.passive))) =
    ap length (text_ended problem ∙ flat_map-append (λ l. l ++ 10 ∷ []) (block_lines problem.names problem.active) ([] ∷ block_lines problem.names problem.passive))
    ∙ length-append (ended (block_lines problem.names problem.active)) (10 ∷ ended (block_lines problem.names problem.passive)) in
    omega arith
