-- The lines of a constraint are a block that writes it.
use Rattle.std.proofs.Common.{◌≡◌, ℕ, zero, suc, ◌<◌, ◌≤◌, ◌+◌, true, false, not, ◌&&◌, ◌||◌, eqb, leb, List, [], ◌∷◌, ◌++◌, length, flat_map, map, refl, sym, ap, ◌∙◌, subst, arith, inl, inr, decimal, Some, None, is_some}
use Rattle.std.specs.List.{AllByRecursion}
use Rattle.std.proofs.lemmas.Bool.Decides.{nat_tests}
use Rattle.std.proofs.lemmas.List.{map-append, append-nil}
use Rattle.re_texts.proofs.ConfigLines.{IsNamed, config_again, config_allowed, config_degree, config_feed, config_filled, config_items, config_names, config_no_degree, config_spells, config_written, name_at, relabelled}
use Rattle.re_texts.proofs.RunItems.{degree_digit}
use Rattle.re_texts.proofs.StandingLines.{AllFilled, AllStand, MayStand}
use Rattle.re_texts.specs.CanonicalLines.{block_lines, lines_for}
use Rattle.re_labels.specs.Configs.{IsConfig, sorted}
use Rattle.re_problem.proofs.HeldLabels.{names_alone}
use Rattle.re_problem.specs.Bytes.{bad_byte, is_empty_line}
use Rattle.re_problem.specs.Items.{empty_degree}
use Rattle.re_problem.specs.ItemSteps.{is_nil}
use Rattle.re_labels.proofs.Membership.{AllByRecursion-In, Contains-In, In, In-flat_map, In-flat_map_from, In-map, In-map_from, all-push}
use Rattle.re_labels.proofs.Tests.{eqb-same}
use Rattle.re_labels.specs.ListSets.{list_set}
use Rattle.re_labels.specs.Lists.{IsBefore, IsRising}
use Rattle.re_labels.specs.Names.{IsName, IsNames}
use Rattle.re_problem.proofs.ListSizes.{length-list_set}
use Rattle.re_problem.proofs.EndedLines.{NoFeed}
use Rattle.re_problem.proofs.TextLines.{length-push}
use Rattle.re_problem.specs.CanonicalTexts.{config_text}
use Rattle.re_problem.specs.NamedProblems.{OccursIn}
use Rattle.re_problem.specs.ProblemTexts.{begins_empty, block_configs, block_degree, degree_as, degree_fault, fault_if, line_degree, line_items, names_in, spelled_in, spells}
use Rattle.re_problem.specs.declared.fault.InputFault.TheVariants.{DegreeOutOfRange, WrongDegree}
use Rattle.re_labels.specs.Constraints.{Constraint, IsConstraint}
use Rattle.re_labels.proofs.LabelPlaces.{each_degree}
use Rattle.re_labels.specs.declared.constraint_table.TheConstants.{MAX_CONFIGURATIONS}

-- the names that stand on the lines
abbrev pub written_names : List (List ℕ) → List (List ℕ)
written_names lines = flat_map (λ line. names_in (line_items line)) lines

-- the lines have no fault as a block, and are read as the constraint
pub record Writes (names : List (List ℕ)) (constraint : Constraint) (lines : List (List ℕ)) : Type 0 where
  pub filled : AllFilled lines
  pub feed : AllByRecursion NoFeed lines
  pub some : is_nil lines ≡ false
  pub stand : length constraint.configs ≤ MAX_CONFIGURATIONS → AllStand [] lines
  pub degree : block_degree lines ≡ constraint.degree
  pub configs : block_configs names lines ≡ constraint.configs
  pub names_held : (name : List ℕ) → In name (written_names lines) → In name names
  pub names_written : (label : ℕ) → OccursIn constraint label → In (name_at names label) (written_names lines)

fit_degree : (number degree : ℕ) → 2 ≤ degree → degree ≤ 6 → degree_fault number [] degree ≡ None
fit_degree number degree low high = λ i. fault_if (not (least i && most i)) (DegreeOutOfRange degree)
  where
    least : leb 2 degree ≡ true
    least = grind (arith, nat_tests)

    most : leb degree 6 ≡ true
    most = grind (arith, nat_tests)

-- ---- an empty constraint
abbrev percent_line : ℕ → List ℕ
percent_line degree = 37 ∷ decimal degree

record EmptyLine (degree : ℕ) (line : List ℕ) : Type 0 where
  filled : is_empty_line line ≡ false
  allowed : bad_byte line ≡ None
  no_items : line_items line ≡ None
  written : empty_degree line ≡ Some degree
  feed : NoFeed line

empty_line : (degree : ℕ) → 2 ≤ degree → degree ≤ 6 → EmptyLine degree (percent_line degree)
empty_line degree low high =
    subst (λ digits. EmptyLine degree (37 ∷ digits)) (sym (degree_digit degree low high))
    (each_degree (λ n. EmptyLine n (37 ∷ (48 + n) ∷ [])) (by_cases 2 refl refl refl refl refl) (by_cases 3 refl refl refl refl refl) (by_cases 4 refl refl refl refl refl)
    (by_cases 5 refl refl refl refl refl) (by_cases 6 refl refl refl refl refl) degree low high)
  where
    by_cases : (n : ℕ) → let line : List ℕ = 37 ∷ (48 + n) ∷ [] in is_empty_line line ≡ false → bad_byte line ≡ None → line_items line ≡ None → empty_degree line ≡ Some n → eqb (48 + n) 10 ≡ false → EmptyLine n line
    by_cases n f a i w e = record { filled = f; allowed = a; no_items = i; written = w; feed = (refl, (e, tt)) }

module _ (names : List (List ℕ)) (constraint : Constraint) (none : constraint.configs ≡ []) (low : 2 ≤ constraint.degree) (high : constraint.degree ≤ 6) where
  line_is : EmptyLine constraint.degree (percent_line constraint.degree)
  line_is = empty_line constraint.degree low high

  degree_is : line_degree (percent_line constraint.degree) ≡ constraint.degree
  degree_is = λ i. degree_as (line_is.no_items i) (line_is.written i)

  nothing_spelled : (others : List (List ℕ)) → block_configs others (percent_line constraint.degree ∷ []) ≡ []
  nothing_spelled others = ap (λ items. list_set (spelled_in others items ++ [])) line_is.no_items

  no_names : written_names (percent_line constraint.degree ∷ []) ≡ []
  no_names = ap (λ items. names_in items ++ []) line_is.no_items

  empty_written : Writes names constraint (percent_line constraint.degree ∷ [])
  empty_written = record {
    filled = (line_is.filled, tt);
    feed = (line_is.feed, tt);
    some = refl;
    stand = λ few. (
      record {
        filled = line_is.filled;
        allowed = line_is.allowed;
        formed = λ i. is_some (line_is.no_items i) || is_some (line_is.written i);
        degree = λ number. ap (degree_fault number []) degree_is ∙ fit_degree number constraint.degree low high;
        few = λ others. subst (λ c. length c ≤ MAX_CONFIGURATIONS) (sym (nothing_spelled others)) (omega arith);
      },
      tt,
    );
    degree = degree_is;
    configs = nothing_spelled names ∙ sym none;
    names_held = λ name i. absurd (subst (In name) no_names i);
    names_written = λ label occurs. absurd (subst (In occurs.0) none (Contains-In occurs.0 constraint.configs occurs.1));
  }

-- ---- configurations
In-name_at : (names : List (List ℕ)) (label : ℕ) → label < length names → In (name_at names label) names
In-name_at [] label below = absurd (omega arith)
In-name_at (name ∷ names) zero below = inl refl
In-name_at (name ∷ names) (suc label) below = inr (In-name_at names label (omega arith))

record ConfigLine (names : List (List ℕ)) (config : List ℕ) (line : List ℕ) : Type 0 where
  filled : is_empty_line line ≡ false
  allowed : bad_byte line ≡ None
  items : is_some (line_items line) ≡ true
  no_degree : empty_degree line ≡ None
  feed : NoFeed line
  degree : line_degree line ≡ length config
  spelled : (others : List (List ℕ)) → spells others line ≡ sorted (map (relabelled names others) config) ∷ []
  names_are : (name : List ℕ) → In name (names_in (line_items line)) → (label : ℕ) × In label config × (name ≡ name_at names label)
  names_in : (label : ℕ) → In label config → In (name_at names label) (names_in (line_items line))

module _ (names : List (List ℕ)) (is : IsNames names) (degree : ℕ) (low : 2 ≤ degree) (high : degree ≤ 6) where
  abbrev IsOurs : List ℕ → Type 0
  IsOurs config = IsConfig degree (length names) config

  abbrev line_of : List ℕ → List ℕ
  line_of config = config_text names config

  has_name : (label : ℕ) → label < length names → IsNamed names label
  has_name label below = AllByRecursion-In IsName names (name_at names label) is.each (In-name_at names label below)

  pub have_names : (labels : List ℕ) → AllByRecursion (λ x. x < length names) labels → AllByRecursion (IsNamed names) labels
  have_names [] below = tt
  have_names (x ∷ labels) below = (has_name x below.0, have_names labels below.1)

  config_line : (config : List ℕ) → IsOurs config → ConfigLine names config (line_of config)
  config_line [] ours = absurd (omega (arith, ours.count))
  config_line (x ∷ more) ours =
      let named = have_names (x ∷ more) ours.below in
      let few : length (x ∷ more) ≤ 6 = omega (arith, ours.count) in
      record {
        filled = config_filled names x more named few;
        allowed = config_allowed names x more named few;
        items = ap is_some (config_items names x more named few);
        no_degree = config_no_degree names x more named few;
        feed = config_feed names x more named few;
        degree = config_degree names x more named few;
        spelled = config_spells names x more named few;
        names_are = config_names names x more named few;
        names_in = config_written names x more named few;
      }

  spelled_each : (others : List (List ℕ)) (configs : List (List ℕ)) → AllByRecursion IsOurs configs → length (flat_map (spells others) (map line_of configs)) ≡ length configs
  spelled_each others [] ours = refl
  spelled_each others (config ∷ configs) ours =
      ap (λ l. length (l ++ flat_map (spells others) (map line_of configs))) ((config_line config ours.0).spelled others) ∙ ap suc (spelled_each others configs ours.1)

  line_stands : (done : List (List ℕ)) (config : List ℕ) → AllByRecursion IsOurs done → IsOurs config → length done + 1 ≤ MAX_CONFIGURATIONS → MayStand (map line_of done) (line_of config)
  line_stands done config before ours room =
      let line = config_line config ours in
      record {
        filled = line.filled;
        allowed = line.allowed;
        formed = λ i. not (begins done before i) && (line.items i || (is_nil (map line_of done) && is_some (empty_degree (line_of config))));
        degree = λ number. ap (degree_fault number (map line_of done)) (line.degree ∙ ours.count) ∙ fits number done before;
        few = λ others. counted others;
      }
    where
      begins : (done : List (List ℕ)) → AllByRecursion IsOurs done → begins_empty (map line_of done) ≡ false
      begins [] before = refl
      begins (first ∷ done) before = ap is_some (config_line first before.0).no_degree

      fits : (number : ℕ) (done : List (List ℕ)) → AllByRecursion IsOurs done → degree_fault number (map line_of done) degree ≡ None
      fits number [] before = fit_degree number degree low high
      fits number (first ∷ done) before =
          ap (λ d. fault_if (not (eqb degree d)) (WrongDegree number)) ((config_line first before.0).degree ∙ before.0.count)
          ∙ ap (λ t. fault_if (not t) (WrongDegree number)) (eqb-same degree)

      counted : (others : List (List ℕ)) → length (block_configs others (map line_of done ++ line_of config ∷ [])) ≤ MAX_CONFIGURATIONS
      counted others =
          let all : AllByRecursion IsOurs (done ++ config ∷ []) = all-push IsOurs done config before ours in
          let count : length (flat_map (spells others) (map line_of (done ++ config ∷ []))) ≡ length (done ++ config ∷ []) = spelled_each others (done ++ config ∷ []) all in
          subst (λ l. length (block_configs others l) ≤ MAX_CONFIGURATIONS) (map-append line_of done (config ∷ []))
          (omega (arith, count, length-push done config, length-list_set (flat_map (spells others) (map line_of (done ++ config ∷ [])))))

  lines_stand : (done configs : List (List ℕ)) → AllByRecursion IsOurs done → AllByRecursion IsOurs configs → length done + length configs ≤ MAX_CONFIGURATIONS → AllStand (map line_of done) (map line_of configs)
  lines_stand done [] before ours few = tt
  lines_stand done (config ∷ configs) before ours few = (
    line_stands done config before ours.0 (omega (arith, few)),
    subst (λ l. AllStand l (map line_of configs)) (map-append line_of done (config ∷ []))
        (lines_stand (done ++ config ∷ []) configs (all-push IsOurs done config before ours.0) ours.1 (omega (arith, few, length-push done config))),
  )

  all_filled : (configs : List (List ℕ)) → AllByRecursion IsOurs configs → AllFilled (map line_of configs)
  all_filled [] ours = tt
  all_filled (config ∷ configs) ours = ((config_line config ours.0).filled, all_filled configs ours.1)

  all_free : (configs : List (List ℕ)) → AllByRecursion IsOurs configs → AllByRecursion NoFeed (map line_of configs)
  all_free [] ours = tt
  all_free (config ∷ configs) ours = ((config_line config ours.0).feed, all_free configs ours.1)

  spelled_again : (configs : List (List ℕ)) → AllByRecursion IsOurs configs → flat_map (spells names) (map line_of configs) ≡ configs
  spelled_again [] ours = refl
  spelled_again (config ∷ configs) ours =
      λ i. ((config_line config ours.0).spelled names ∙ ap (λ c. c ∷ []) (config_again names degree config is.ascends ours.0)) i ++ spelled_again configs ours.1 i

  held_names : (configs : List (List ℕ)) → AllByRecursion IsOurs configs → (name : List ℕ) → In name (written_names (map line_of configs)) → In name names
  held_names configs ours name i =
      let at = In-flat_map_from (λ line. names_in (line_items line)) name (map line_of configs) i in
      let config = In-map_from line_of at.0 configs at.1 in
      let is_ours = AllByRecursion-In IsOurs configs config.0 ours config.1 in
      let label = (config_line config.0 is_ours).names_are name (subst (λ line. In name (names_in (line_items line))) config.2 at.2) in
      subst (λ n. In n names) (sym label.2) (In-name_at names label.0 (AllByRecursion-In (λ x. x < length names) config.0 label.0 is_ours.below label.1))

  all_names_written : (configs : List (List ℕ)) (config : List ℕ) (label : ℕ) → AllByRecursion IsOurs configs → In config configs → In label config → In (name_at names label) (written_names (map line_of configs))
  all_names_written configs config label ours i j =
      In-flat_map (λ line. names_in (line_items line)) (line_of config) (name_at names label) (map line_of configs) (In-map line_of config configs i)
      ((config_line config (AllByRecursion-In IsOurs configs config ours i)).names_in label j)

  configs_written : (config : List ℕ) (configs : List (List ℕ)) → AllByRecursion IsOurs (config ∷ configs) → IsRising IsBefore (config ∷ configs)
      → Writes names (record { degree = degree; configs = config ∷ configs }) (map line_of (config ∷ configs))
  configs_written config configs ours rising = record {
    filled = all_filled (config ∷ configs) ours;
    feed = all_free (config ∷ configs) ours;
    some = refl;
    stand = λ few. lines_stand [] (config ∷ configs) tt ours (omega (arith, few));
    degree = (config_line config ours.0).degree ∙ ours.0.count;
    configs = ap list_set (spelled_again (config ∷ configs) ours ∙ sym (append-nil (config ∷ configs))) ∙ sym (names_alone (config ∷ configs) rising);
    names_held = held_names (config ∷ configs) ours;
    names_written = λ label occurs. all_names_written (config ∷ configs) occurs.0 label ours (Contains-In occurs.0 (config ∷ configs) occurs.1) (Contains-In label occurs.0 occurs.2);
  }

-- the lines of a constraint
pub block_written : (names : List (List ℕ)) (constraint : Constraint) → IsNames names → IsConstraint (length names) constraint → Writes names constraint (block_lines names constraint)
block_written names constraint is held = go constraint.configs refl
  where
    go : (configs : List (List ℕ)) → constraint.configs ≡ configs → Writes names constraint (lines_for names constraint.degree configs)
    go [] none = empty_written names constraint none held.least held.most
    go (config ∷ configs) are =
        let same : constraint ≡ record { degree = constraint.degree; configs = config ∷ configs } = (λ i. record { degree = constraint.degree; configs = are i }) in
        subst (λ c. Writes names c (map (config_text names) (config ∷ configs))) (sym same)
        (configs_written names is constraint.degree held.least held.most config configs
        (subst (AllByRecursion (IsConfig constraint.degree (length names))) are held.configs) (subst (IsRising IsBefore) are held.ascends))
