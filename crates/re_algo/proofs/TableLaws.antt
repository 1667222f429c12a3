-- What tables and their verdicts mean.
use Rattle.std.proofs.Common.{◌≡◌, ℕ, suc, ◌<◌, Bool, true, false, List, [], ◌∷◌, map, length, get_or, refl, sym, ◌∙◌, ap, arith, Option, Some, None, not, ◌&&◌, ◌==◌}
use Rattle.std.proofs.lemmas.List.{get_or-map, get_or_default}
use Rattle.std.specs.Prelude.{Contains, IfSome, nat_le, if◌then◌else◌}
use Rattle.std.specs.List.{AllByRecursion, list_all}
use Rattle.std.proofs.lemmas.Bool.Decides.{nat_tests}
use Rattle.std.proofs.lemmas.List.Elements.{Contains-get_or}
use Rattle.re_labels.proofs.Membership.{Contains-In, In-Contains, all-In, all-In_from}
use Rattle.re_labels.proofs.Tests.{true-and}
use Rattle.re_labels.specs.declared.sides.Degrees.{Degrees}
use Rattle.re_laws.proofs.Tables.{SolvesBy-same}
use Rattle.re_algo.specs.declared.counting.TheConstants.{MAX_VIEWS}
use Rattle.re_laws.specs.Algorithms.{Entry, Plain, Solves, SolvesBy, around}
use Rattle.re_problem.proofs.FedLines.{unnot}
use Rattle.re_problem.proofs.ZeroPlaces.{none-fails}
use Rattle.re_problem.proofs.FirstPlaces.{position-absent}
use Rattle.re_problem.specs.Problems.{Problem}
use Rattle.re_labels.proofs.Goodness.{Has-has_config, has_config-Has}
use Rattle.re_labels.specs.Constraints.{Has, has_config}
use Rattle.re_algo.proofs.Places.{tree_at}
use Rattle.re_algo.specs.Counting.{view_place}
use Rattle.re_laws.proofs.AllViewsLemmas.{Contains-all_views, Distinct-all_views, all_views-IsView}
use Rattle.re_laws.specs.AllViews.{all_views}
use Rattle.re_laws.specs.Trees.{IsView, leaf}
use Rattle.re_algo.proofs.GivenAnswers.{answer-paired, views-paired}
use Rattle.re_algo.specs.Laws.{GivenLaw, VerdictLaw}
use Rattle.re_algo.specs.Tables.{AnswerTable, IsTable, built_table, entries, given, is_filled, views_of}
use Rattle.re_algo.specs.Verdicts.{first_not_active, fits_passive, judged}
use Rattle.re_algo.specs.declared.solving.TableVerdict.TheVariants.{Yes}

-- a table gives at a view the answer at the view's place
pub given_law : GivenLaw
given_law table v is view =
    let d : ℕ = table.degrees.active in
    let e : ℕ = table.degrees.passive in
    let placed = tree_at d e table.radius d v view in
    ap (given table) (sym placed.1) ∙ answer-paired (views_of table) table.answers (view_place d e v) (Distinct-all_views d e table.radius) is.count placed.0

-- what it gives at the view of a place
pub given-at : (table : AnswerTable) → IsTable table → (k : ℕ) → k < length (views_of table) → given table (get_or (views_of table) k leaf) ≡ get_or table.answers k []
given-at table is k l = answer-paired (views_of table) table.answers k (Distinct-all_views table.degrees.active table.degrees.passive table.radius) is.count l

-- what it gives at a view is one of its answers
pub given-Contains : (table : AnswerTable) → IsTable table → (v : Plain) → IsView table.degrees.active table.degrees.passive table.radius v → Contains table.answers (given table v)
given-Contains table is v view =
    let placed = tree_at table.degrees.active table.degrees.passive table.radius table.degrees.active v view in
    rw (given_law table v is view) (Contains-get_or table.answers (view_place table.degrees.active table.degrees.passive v) [] (let c = is.count in omega (arith, placed.0)))

pub listed-given : (table : AnswerTable) → IsTable table → (v : Plain) → IsView table.degrees.active table.degrees.passive table.radius v → Contains (map (λ (entry : Entry). entry.view) (entries table)) v
listed-given table is v view = rw (views-paired (views_of table) table.answers is.count) (Contains-all_views table.degrees.active table.degrees.passive table.radius v view)

-- where no answer is at fault, the labels of each active node are a configuration
pub all_active : (problem : Problem) (table : AnswerTable) → IsTable table → first_not_active problem table ≡ None → (v : Plain) → IsView table.degrees.active table.degrees.passive table.radius v → Has problem.active (given table v)
all_active problem table is none v view =
    let placed = tree_at table.degrees.active table.degrees.passive table.radius table.degrees.active v view in
    let within : view_place table.degrees.active table.degrees.passive v < length table.answers = (let c = is.count in omega (arith, placed.0)) in
    let passes = none-fails (λ labels. not (has_config problem.active labels)) table.answers none (view_place table.degrees.active table.degrees.passive v) [] within in
    rw (given_law table v is view) (has_config-Has problem.active (get_or table.answers (view_place table.degrees.active table.degrees.passive v) []) (unnot (has_config problem.active (get_or table.answers (view_place table.degrees.active table.degrees.passive v) [])) passes))

-- and the other way round
pub none_active : (problem : Problem) (table : AnswerTable) → IsTable table → ((v : Plain) → IsView table.degrees.active table.degrees.passive table.radius v → Has problem.active (given table v)) → first_not_active problem table ≡ None
none_active problem table is each = position-absent (λ labels. not (has_config problem.active labels)) table.answers [] (λ k l.
    let within : k < length (views_of table) = (let c = is.count in omega arith) in
    let v : Plain = get_or (views_of table) k leaf in
    let view : IsView table.degrees.active table.degrees.passive table.radius v = all_views-IsView table.degrees.active table.degrees.passive table.radius v (Contains-get_or (views_of table) k leaf within) in
    let held : has_config problem.active (get_or table.answers k []) ≡ true = rw (given-at table is k within) at (Has-has_config problem.active (given table v) (each v view)) in
    ap not held)

only_yes : (fault : Option ℕ) (fits : Bool) → judged fault fits ≡ Yes → (fault ≡ None) × (fits ≡ true)
only_yes (Some k) fits e = absurd (cc)
only_yes None true e = (refl, refl)
only_yes None false e = absurd (cc)

-- passive nodes are content where the test of all their views is passed
pub all_passive : (problem : Problem) (table : AnswerTable) → fits_passive problem table ≡ true → (s : Plain) → IsView problem.passive.degree problem.active.degree (suc table.radius) s → Has problem.passive (around problem.passive.degree table.radius (given table) s)
all_passive problem table fits s view =
    has_config-Has problem.passive (around problem.passive.degree table.radius (given table) s)
    (all-In (λ s. has_config problem.passive (around problem.passive.degree table.radius (given table) s)) (all_views problem.passive.degree problem.active.degree (suc table.radius)) fits s
    (Contains-In s (all_views problem.passive.degree problem.active.degree (suc table.radius)) (Contains-all_views problem.passive.degree problem.active.degree (suc table.radius) s view)))

pub passive_all : (problem : Problem) (table : AnswerTable) → ((s : Plain) → IsView problem.passive.degree problem.active.degree (suc table.radius) s → Has problem.passive (around problem.passive.degree table.radius (given table) s)) → fits_passive problem table ≡ true
passive_all problem table each =
    all-In_from (λ s. has_config problem.passive (around problem.passive.degree table.radius (given table) s)) (all_views problem.passive.degree problem.active.degree (suc table.radius)) (λ s held.
    Has-has_config problem.passive (around problem.passive.degree table.radius (given table) s)
    (each s (all_views-IsView problem.passive.degree problem.active.degree (suc table.radius) s (In-Contains s (all_views problem.passive.degree problem.active.degree (suc table.radius)) held))))

pub verdict_law : VerdictLaw
verdict_law problem table problem_is is active passive = (
  λ yes.
      let (none, fits) = only_yes (first_not_active problem table) (fits_passive problem table) yes in
      record {
        entries = λ v view. listed-given table is v (rw (active, passive) view);
        solves = record {
          active = λ v view. all_active problem table is none v (rw (active, passive) view);
          passive = all_passive problem table fits;
        };
      },
  λ solves.
      let none : first_not_active problem table ≡ None = none_active problem table is (λ v view. solves.solves.active v (rw (← active, ← passive) view)) in
      let fits : fits_passive problem table ≡ true = passive_all problem table solves.solves.passive in
      rw (none, fits) refl,
)

-- the place of a view is that of an answer
pub place_within : (table : AnswerTable) (v : Plain) (place : ℕ) (items : List (List ℕ)) → IsTable table → IsView table.degrees.active table.degrees.passive table.radius v → place ≡ view_place table.degrees.active table.degrees.passive v → items ≡ table.answers → place < length items
place_within table v place items is view place_is same =
    let below = (tree_at table.degrees.active table.degrees.passive table.radius table.degrees.active v view).0 in
    let count = is.count in
    let l = ap length same in
    omega arith

-- what is found there is what the table gives
pub found_at : {A : Type 0} (table : AnswerTable) (v : Plain) (place : ℕ) (items : List (List ℕ)) (found : Option A) (shown : A → List ℕ) → IsTable table → IsView table.degrees.active table.degrees.passive table.radius v → place ≡ view_place table.degrees.active table.degrees.passive v → items ≡ table.answers
    → IfSome found (λ x. shown x ≡ get_or items place (shown x)) → IfSome found (λ x. shown x ≡ given table v)
found_at table v place items None shown is view place_is same found = tt
found_at table v place items (Some x) shown is view place_is same found =
    let below : place < length items = place_within table v place items is view place_is same in
    found ∙ (get_or_default items place (shown x) [] below ∙ (ap (λ l. get_or l place []) same ∙ (ap (λ k. get_or table.answers k []) place_is ∙ sym (given_law table v is view))))

-- a table of a function's answers gives at each view what the function does
pub given-map : (table : AnswerTable) (f : Plain → List ℕ) → IsTable table → table.answers ≡ map f (views_of table) → (v : Plain) → IsView table.degrees.active table.degrees.passive table.radius v → given table v ≡ f v
given-map table f is same v view =
    let (below, at) = tree_at table.degrees.active table.degrees.passive table.radius table.degrees.active v view in
    given_law table v is view ∙ (ap (λ l. get_or l (view_place table.degrees.active table.degrees.passive v) []) same ∙ (get_or-map f (views_of table) (view_place table.degrees.active table.degrees.passive v) leaf [] below ∙ ap f at))

-- and solves what the function solves
pub Solves-map : (problem : Problem) (table : AnswerTable) (f : Plain → List ℕ) → IsTable table → table.degrees.active ≡ problem.active.degree → table.degrees.passive ≡ problem.passive.degree → table.answers ≡ map f (views_of table) → SolvesBy problem table.radius f → Solves problem table.radius (entries table)
Solves-map problem table f is active passive same solves = record {
  entries = λ v view. listed-given table is v (rw (active, passive) view);
  solves = SolvesBy-same problem table.radius f (given table) (λ v view. sym (given-map table f is same v (rw (active, passive) view))) solves;
}

-- a table is filled
pub is_filled-true : (table : AnswerTable) → IsTable table → is_filled table ≡ true
is_filled-true table is =
    let few : nat_le (length (views_of table)) MAX_VIEWS ≡ true = (let l = is.few in grind (arith, nat_tests)) in
    let count : (length table.answers == length (views_of table)) ≡ true = (let e = is.count in grind (arith, nat_tests)) in
    true-and (nat_le (length (views_of table)) MAX_VIEWS && length table.answers == length (views_of table)) (list_all (λ labels. length labels == table.degrees.active) table.answers)
    (true-and (nat_le (length (views_of table)) MAX_VIEWS) (length table.answers == length (views_of table)) few count)
    (each table.answers is.ports)
  where
    each : (answers : List (List ℕ)) → AllByRecursion (λ labels. length labels ≡ table.degrees.active) answers → list_all (λ labels. length labels == table.degrees.active) answers ≡ true
    each [] ports = refl
    each (labels ∷ answers) ports =
        let here : length labels ≡ table.degrees.active = ports.0 in
        let first : (length labels == table.degrees.active) ≡ true = grind (arith, nat_tests) in
        true-and (length labels == table.degrees.active) (list_all (λ labels. length labels == table.degrees.active) answers) first (each answers ports.1)

-- what is built of parts that are a table
pub built : (degrees : Degrees) (radius : ℕ) (answers : List (List ℕ)) (table : AnswerTable) → degrees ≡ table.degrees → radius ≡ table.radius → answers ≡ table.answers → IsTable table → built_table degrees radius answers ≡ Some table
built degrees radius answers table d r a is =
    ap (λ (degrees : Degrees). built_table degrees radius answers) d ∙ (ap (λ radius. built_table table.degrees radius answers) r ∙ (ap (built_table table.degrees table.radius) a
    ∙ ap (λ b. if b then Some table else None) (is_filled-true table is)))

pub degrees_are : (degrees : Degrees) (a p : ℕ) → degrees.active ≡ a → degrees.passive ≡ p → degrees ≡ record { active = a; passive = p }
degrees_are degrees a p at_active at_passive =
    let with_active : ℕ → Degrees = λ (m : ℕ). record { active = m; passive = degrees.passive } in
    let with_passive : ℕ → Degrees = λ (m : ℕ). record { active = a; passive = m } in
    ap with_active at_active ∙ ap with_passive at_passive
