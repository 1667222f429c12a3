-- The rows that are seen in the pass over all active views, and the verdict.
use Rattle.std.proofs.Common.{◌≡◌, ◌≢◌, ℕ, zero, suc, ◌+◌, ◌-◌, ◌≤◌, ◌<◌, Bool, true, false, not, List, [], ◌∷◌, length, get_or, refl, sym, ◌∙◌, ap, arith, add-one, Option, Some, None, ◌&&◌, ◌==◌}
use Rattle.std.specs.Prelude.{Contains, filter, ◌↔◌}
use Rattle.std.specs.List.{AllByRecursion, list_all, list_any, position}
use Rattle.std.proofs.lemmas.List.{get_or_default}
use Rattle.std.proofs.lemmas.List.Elements.{Contains-get_or}
use Rattle.re_labels.specs.Configs.{support_of}
use Rattle.re_labels.proofs.Membership.{AllByRecursion-In, AllByRecursion-from_In, AllByRecursion-from_contains, AllByRecursion-weaker, Contains-map_cases, all-In, all-In_from, any_found, count_from_range}
use Rattle.re_labels.proofs.Numbers.{IsLabelSet-count_from, IsLabelSet-filter}
use Rattle.re_labels.proofs.Tests.{and-true, eqb-true, same_tests}
use Rattle.re_labels.specs.Lists.{count_from}
use Rattle.re_labels.specs.Sets.{IsLabelSet}
use Rattle.re_labels.specs.declared.TheConstants.{MAX_LABELS}
use Rattle.re_laws.proofs.Ports.{AllByRecursion-count}
use Rattle.re_laws.specs.Algorithms.{Plain, Solves, around, at_port, back_at, same_view}
use Rattle.re_laws.specs.Fast.{seen, seen_row}
use Rattle.re_problem.proofs.FedLines.{unnot}
use Rattle.re_problem.specs.Problems.{IsProblem, Problem}
use Rattle.re_labels.proofs.Goodness.{IsGood-is_good, has_config-Has, is_good-IsGood}
use Rattle.re_labels.specs.Constraints.{Constraint, Has, IsConstraint, has_config}
use Rattle.re_labels.specs.GoodRows.{IsGood, is_good}
use Rattle.re_laws.proofs.AllViewsLemmas.{all_views-IsView}
use Rattle.re_laws.specs.AllViews.{all_views}
use Rattle.re_laws.specs.Trees.{IsView, leaf, shift}
use Rattle.re_algo.proofs.Added.{filter-within}
use Rattle.re_algo.proofs.Adding.{map-at_each}
use Rattle.re_algo.proofs.JudgeCode.{labels_within}
use Rattle.re_algo.proofs.PassCode.{length-tested_row}
use Rattle.re_algo.proofs.SeenGood.{label_below, seen_law}
use Rattle.re_problem.proofs.ZeroPlaces.{none-fails}
use Rattle.re_algo.proofs.TableLaws.{all_active, all_passive, given-at, passive_all, verdict_law}
use Rattle.re_algo.specs.SeenRows.{puts, repeated, seen_rows, some_puts, tested_row, tested_rows}
use Rattle.re_algo.specs.Tables.{AnswerTable, IsTable, entries, given, views_of}
use Rattle.re_algo.specs.Verdicts.{first_not_active, fits_passive, judged, table_verdict}
use Rattle.re_algo.specs.declared.solving.TableVerdict.{TableVerdict}
use Rattle.re_algo.specs.declared.solving.TableVerdict.TheVariants.{Active, Yes}

-- the rows of the pass are those that are seen
tested_seen_at : (problem : Problem) → IsProblem problem → problem.labels ≤ MAX_LABELS → (t : ℕ) (f : Plain → List ℕ) → ((u : Plain) → IsView problem.active.degree problem.passive.degree (suc t) u → Has problem.active (f u))
    → tested_rows problem.active.degree problem.passive.degree t (some_puts problem.active.degree t f (all_views problem.active.degree problem.passive.degree (suc t))) ≡ seen_rows problem (suc t) f
tested_seen_at problem is few t f active =
    map-at_each (λ w. tested_row problem.passive.degree (some_puts problem.active.degree t f (all_views problem.active.degree problem.passive.degree (suc t)) w)) (seen_row problem t f) (all_views problem.passive.degree problem.active.degree t) leaf (λ j l.
    let w : Plain = get_or (all_views problem.passive.degree problem.active.degree t) j leaf in
    map-at_each (λ i. filter (some_puts problem.active.degree t f (all_views problem.active.degree problem.passive.degree (suc t)) w i) (count_from 0 MAX_LABELS)) (seen problem t f w) (count_from 1 problem.passive.degree) 0 (λ k m.
    let i : ℕ = get_or (count_from 1 problem.passive.degree) k 0 in
    filter-within (some_puts problem.active.degree t f (all_views problem.active.degree problem.passive.degree (suc t)) w i) problem.labels MAX_LABELS few (λ x held. small w i x held)))
  where
    small : (w : Plain) (i x : ℕ) → some_puts problem.active.degree t f (all_views problem.active.degree problem.passive.degree (suc t)) w i x ≡ true → x < problem.labels
    small w i x held =
        let (u, listed, some) = any_found (λ u. list_any (puts t u (f u) w i x) (count_from 1 problem.active.degree)) (all_views problem.active.degree problem.passive.degree (suc t)) held in
        let (q, port, put) = any_found (puts t u (f u) w i x) (count_from 1 problem.active.degree) some in
        let (low, high) = count_from_range 1 problem.active.degree q port in
        let label : at_port (f u) q ≡ x = eqb-true (at_port (f u) q) x (and-true (back_at u q == i && same_view (shift t u q) w) (at_port (f u) q == x) put).1 in
        let below : at_port (f u) q < problem.labels = label_below problem is (suc t) f active u q (all_views-IsView problem.active.degree problem.passive.degree (suc t) u listed) low (omega arith) in
        omega arith

pub tested_seen : (problem : Problem) → IsProblem problem → problem.labels ≤ MAX_LABELS → (d e r : ℕ) (f : Plain → List ℕ) → d ≡ problem.active.degree → e ≡ problem.passive.degree → r ≢ 0
    → ((u : Plain) → IsView d e r u → Has problem.active (f u)) → tested_rows d e (r - 1) (some_puts d (r - 1) f (all_views d e r)) ≡ seen_rows problem r f
tested_seen problem is few d e zero f d_is e_is some active = absurd (some refl)
tested_seen problem is few d e (suc t) f d_is e_is some active =
    let less : suc t - 1 ≡ t = omega arith in
    let same : tested_rows d e (suc t - 1) (some_puts d (suc t - 1) f (all_views d e (suc t))) ≡ tested_rows d e t (some_puts d t f (all_views d e (suc t))) = ap (λ r. tested_rows d e r (some_puts d r f (all_views d e (suc t)))) less in
    same ∙ (ap (λ d. tested_rows d e t (some_puts d t f (all_views d e (suc t)))) d_is ∙ (ap (λ e. tested_rows problem.active.degree e t (some_puts problem.active.degree t f (all_views problem.active.degree e (suc t)))) e_is
    ∙ tested_seen_at problem is few t f (λ u view. active u (rw (d_is, e_is) view))))

-- each answer that is a configuration has labels below the bound
pub answers_below : (n : ℕ) (constraint : Constraint) (answers : List (List ℕ)) → IsConstraint n constraint → n ≤ MAX_LABELS → position (λ labels. not (has_config constraint labels)) answers ≡ None → AllByRecursion (AllByRecursion (λ label. label < MAX_LABELS)) answers
answers_below n constraint answers is few none = AllByRecursion-from_contains (AllByRecursion (λ label. label < MAX_LABELS)) answers (λ labels (k, l, e).
    let passes : not (has_config constraint (get_or answers k labels)) ≡ false = none-fails (λ labels. not (has_config constraint labels)) answers none k labels l in
    let below = labels_within n constraint labels is (has_config-Has constraint labels (unnot (has_config constraint labels) (rw e at passes))) in
    AllByRecursion-weaker (λ label. label < n) (λ label. label < MAX_LABELS) (λ x l. omega arith) labels below)

-- the answer at the one view of radius 0
pub first_answer : (table : AnswerTable) (items : List (List ℕ)) (item : List ℕ) → IsTable table → table.radius ≡ 0 → items ≡ table.answers → item ≡ get_or items 0 item → (item ≡ get_or table.answers 0 []) × Contains table.answers item
first_answer table items item is none same item_is =
    let views_are : views_of table ≡ leaf ∷ [] = ap (all_views table.degrees.active table.degrees.passive) none in
    let below : 0 < length table.answers = (let l = ap length views_are in let m = is.count in omega arith) in
    let first : item ≡ get_or table.answers 0 [] = item_is ∙ (ap (λ l. get_or l 0 item) same ∙ get_or_default table.answers 0 item [] below) in
    (first, rw first (Contains-get_or table.answers 0 [] below))

pub one_good : (p : List (List ℕ) → Bool) (row : List (List ℕ)) → p row ≡ list_all p (row ∷ [])
one_good p row = go (p row)
  where
    go : (b : Bool) → b ≡ (b && true)
    go true = refl
    go false = refl

pub repeated_sets : (e : ℕ) (set : List ℕ) → IsLabelSet MAX_LABELS set → AllByRecursion (IsLabelSet MAX_LABELS) (repeated e set)
repeated_sets e set is = AllByRecursion-count (IsLabelSet MAX_LABELS) (λ port. set) 1 e (λ k l. is)

pub tested_sets : (e : ℕ) (passes : ℕ → ℕ → Bool) → AllByRecursion (IsLabelSet MAX_LABELS) (tested_row e passes)
tested_sets e passes = AllByRecursion-count (IsLabelSet MAX_LABELS) (λ i. filter (passes i) (count_from 0 MAX_LABELS)) 1 e (λ k l. IsLabelSet-filter (passes (1 + k)) MAX_LABELS (count_from 0 MAX_LABELS) (IsLabelSet-count_from 0 MAX_LABELS MAX_LABELS (omega arith)))

pub rows_fit : (d e t degree : ℕ) (passes : Plain → ℕ → ℕ → Bool) (rows : List (List (List ℕ))) → rows ≡ tested_rows d e t passes → e ≡ degree → AllByRecursion (λ row. (length row ≡ degree) × AllByRecursion (IsLabelSet MAX_LABELS) row) rows
rows_fit d e t degree passes rows same count = AllByRecursion-from_contains (λ row. (length row ≡ degree) × AllByRecursion (IsLabelSet MAX_LABELS) row) rows (λ row held.
    let (w, listed, is) = Contains-map_cases (λ w. tested_row e (passes w)) (all_views e d t) row (rw same at held) in
    rw (← is) (length-tested_row e (passes w) ∙ count, tested_sets e (passes w)))

-- without communication there is one row
pub one_row : (problem : Problem) (table : AnswerTable) (labels : List ℕ) → IsTable table → table.radius ≡ 0 → labels ≡ get_or table.answers 0 [] → seen_rows problem table.radius (given table) ≡ repeated problem.passive.degree (support_of labels) ∷ []
one_row problem table labels is none labels_is =
    let views_are : views_of table ≡ leaf ∷ [] = ap (all_views table.degrees.active table.degrees.passive) none in
    let below : 0 < length (views_of table) = (let l = ap length views_are in omega arith) in
    let at : given table leaf ≡ labels = ap (given table) (sym (ap (λ l. get_or l 0 leaf) views_are)) ∙ (given-at table is 0 below ∙ sym labels_is) in
    ap (λ r. seen_rows problem r (given table)) none ∙ ap (λ labels. repeated problem.passive.degree (support_of labels) ∷ []) at

-- passive nodes are content exactly where the rows that are seen are good
pub fits_is : (problem : Problem) (table : AnswerTable) → IsProblem problem → IsTable table → table.degrees.active ≡ problem.active.degree → table.degrees.passive ≡ problem.passive.degree → first_not_active problem table ≡ None
    → fits_passive problem table ≡ list_all (is_good problem.passive) (seen_rows problem table.radius (given table))
fits_is problem table problem_is is active passive none =
    same_tests (fits_passive problem table) (list_all (is_good problem.passive) (seen_rows problem table.radius (given table)))
    (λ fits. all-In_from (is_good problem.passive) (seen_rows problem table.radius (given table)) (λ row held.
    IsGood-is_good problem.passive row (AllByRecursion-In (IsGood problem.passive) (seen_rows problem table.radius (given table)) row (law.0 (all_passive problem table fits)) held)))
    (λ good. passive_all problem table (law.1 (AllByRecursion-from_In (IsGood problem.passive) (seen_rows problem table.radius (given table)) (λ row held.
    is_good-IsGood problem.passive row (all-In (is_good problem.passive) (seen_rows problem table.radius (given table)) good row held)))))
  where
    law : ((s : Plain) → IsView problem.passive.degree problem.active.degree (suc table.radius) s → Has problem.passive (around problem.passive.degree table.radius (given table) s))
        ↔ AllByRecursion (IsGood problem.passive) (seen_rows problem table.radius (given table))
    law = seen_law problem table.radius (given table) problem_is (λ u view. all_active problem table is none u (rw (active, passive) view))

-- the verdict that is answered
pub answered : (problem : Problem) (table : AnswerTable) (good : Bool) (verdict : TableVerdict) → IsProblem problem → IsTable table → table.degrees.active ≡ problem.active.degree → table.degrees.passive ≡ problem.passive.degree → first_not_active problem table ≡ None
    → good ≡ list_all (is_good problem.passive) (seen_rows problem table.radius (given table)) → verdict ≡ judged None good → verdict ≡ table_verdict problem table
answered problem table good verdict problem_is is active passive none good_is verdict_is =
    verdict_is ∙ (ap (judged None) (good_is ∙ sym (fits_is problem table problem_is is active passive none)) ∙ ap (λ fault. judged fault (fits_passive problem table)) (sym none))

pub yes_is : (problem : Problem) (table : AnswerTable) (verdict : TableVerdict) → IsProblem problem → IsTable table → table.degrees.active ≡ problem.active.degree → table.degrees.passive ≡ problem.passive.degree → verdict ≡ table_verdict problem table → (verdict ≡ Yes) ↔ Solves problem table.radius (entries table)
yes_is problem table verdict problem_is is active passive same =
    let law = verdict_law problem table problem_is is active passive in
    (λ yes. law.0 (sym same ∙ yes), λ solves. same ∙ law.1 solves)

-- the first place at fault is the verdict
pub faulty : (problem : Problem) (table : AnswerTable) (fault : Option ℕ) (place : ℕ) → fault ≡ first_not_active problem table → fault ≡ Some place → Active (place + 1) ≡ table_verdict problem table
faulty problem table fault place fault_is is =
    ap Active (add-one place) ∙ ap (λ fault. judged fault (fits_passive problem table)) (sym is ∙ fault_is)

-- what is searched for in the program's answers
pub fault_of : (problem : Problem) (table : AnswerTable) (constraint : Constraint) (answers : List (List ℕ)) (fault : Option ℕ) → constraint ≡ problem.active → answers ≡ table.answers → fault ≡ position (λ labels. not (has_config constraint labels)) answers → fault ≡ first_not_active problem table
fault_of problem table constraint answers fault same same' is =
    is ∙ (ap (λ (constraint : Constraint). position (λ labels. not (has_config constraint labels)) answers) same ∙ ap (position (λ labels. not (has_config problem.active labels))) same')
