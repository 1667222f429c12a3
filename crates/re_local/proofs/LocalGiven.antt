-- A local algorithm solves a problem given identifiers, wherever these are all different.
use Rattle.std.proofs.Common.{◌≡◌, ℕ, zero, suc, ◌+◌, ◌*◌, ◌/◌, ◌≤◌, ◌<◌, Some, List, [], ◌∷◌, map, length, refl, sym, ◌∙◌, ap, subst, arith, one-add}
use Rattle.std.specs.Prelude.{Contains, replicate}
use Rattle.std.specs.List.{AllByRecursion}
use Rattle.std.proofs.Math.Nat.{mul_comm}
use Rattle.std.proofs.lemmas.List.{length-map, map-append, map-id}
use Rattle.std.proofs.lemmas.Nat.{div-mul-add, div_below}
use Rattle.re_labels.proofs.LawsOfRows.{multisets_law}
use Rattle.re_labels.proofs.Rearranging.{Contains-Rearranged}
use Rattle.re_labels.proofs.Sorting.{IsConfig-sorted, Rearranged-sorted, length-sorted, sorted_again, sorted_map}
use Rattle.re_labels.specs.Configs.{IsConfig, sorted}
use Rattle.re_labels.specs.Orders.{multisets}
use Rattle.re_labels.proofs.Replicated.{alike_rise}
use Rattle.re_given.proofs.GivenTables.{SolvableGiven-by}
use Rattle.re_given.proofs.Relabelled.{IsTree-relabelled, backs-relabelled, relabelled, relabelled-known, relabelled-shift}
use Rattle.re_given.specs.Given.{SolvableGiven, SolvesGivenBy, around_known}
use Rattle.re_given.specs.InputViews.{FitsAround, InputView, known}
use Rattle.re_given.specs.Inputs.{IsInput}
use Rattle.re_labels.proofs.Membership.{AllByRecursion-contains, AllByRecursion-from_contains, AllByRecursion-weaker, Contains-count_from, Contains-filter_cases, Contains-map, Contains-map_cases, count_from_range}
use Rattle.re_labels.specs.Lists.{count_from}
use Rattle.re_laws.proofs.Ports.{map-count}
use Rattle.re_laws.specs.Algorithms.{at_port}
use Rattle.re_local.specs.Identifiers.{IdHypergraph, id_labels, identifiers}
use Rattle.re_layers.specs.Networks.{AreDifferent}
use Rattle.re_local.specs.LocalAlgorithms.{SolvableLabelled, SolvableLocal, SolvesApart, behind_active, behind_passive, labelled, identified, shown}
use Rattle.re_local.specs.Separating.{AreApart}
use Rattle.re_problem.proofs.StepLaws.{map-map}
use Rattle.re_problem.specs.Problems.{Problem}
use Rattle.re_labels.specs.Constraints.{Constraint, Has}
use Rattle.re_laws.proofs.ViewLaws.{IsChild, child_of}
use Rattle.re_laws.specs.Trees.{Child, IsView, backs, child_at, end, leaf, more, shift}

-- ---- what is shown under other labels
mutual
  pub behind_active-relabelled : (image : ℕ → ℕ) (x : InputView) → behind_active (relabelled image x) ≡ map image (behind_active x)
  behind_active-relabelled image leaf = refl
  behind_active-relabelled image end = refl
  behind_active-relabelled image (more back label branch rest) =
      let here : behind_passive (relabelled image branch) ≡ map image (behind_passive branch) = behind_passive-relabelled image branch in
      let there : behind_active (relabelled image rest) ≡ map image (behind_active rest) = behind_active-relabelled image rest in
      rw (map-append image (behind_passive branch) (behind_active rest), here, there) refl

  pub behind_passive-relabelled : (image : ℕ → ℕ) (x : InputView) → behind_passive (relabelled image x) ≡ map image (behind_passive x)
  behind_passive-relabelled image leaf = refl
  behind_passive-relabelled image end = refl
  behind_passive-relabelled image (more back label branch rest) =
      let here : behind_active (relabelled image branch) ≡ map image (behind_active branch) = behind_active-relabelled image branch in
      let there : behind_passive (relabelled image rest) ≡ map image (behind_passive rest) = behind_passive-relabelled image rest in
      rw (map-append image (behind_active branch) (behind_passive rest), here, there) refl

pub shown-relabelled : (image : ℕ → ℕ) (x : InputView) → shown (relabelled image x) ≡ map image (shown x)
shown-relabelled image leaf = refl
shown-relabelled image end = refl
shown-relabelled image (more back label branch rest) = ap (◌∷◌ (image label)) (behind_active-relabelled image (more back label branch rest))

-- ---- under other labels
-- the images of labels that may stand around a node may stand around it by the second constraint
abbrev pub TakesTo : (ℕ → ℕ) → Constraint → Constraint → Type 0
TakesTo image own next = (labels : List ℕ) → Has own labels → Has next (map image labels)

pub FitsAround-taken : (image : ℕ → ℕ) (own other own' other' : Constraint) → TakesTo image own own' → TakesTo image other other' → (seen : List ℕ) (x : InputView) → FitsAround own other seen x → FitsAround own' other' (map image seen) (relabelled image x)
FitsAround-taken image own other own' other' takes takes' seen leaf h = tt
FitsAround-taken image own other own' other' takes takes' seen end h = takes seen h
FitsAround-taken image own other own' other' takes takes' seen (more back label branch rest) h =
    (FitsAround-taken image other own other' own' takes' takes (label ∷ []) branch h.0, FitsAround-taken image own other own' other' takes takes' (label ∷ seen) rest h.1)

-- what stands around a node, where an algorithm answers by other labels
pub around_known-relabelled : (image : ℕ → ℕ) (f : InputView → List ℕ) (T d e : ℕ) (v : InputView) → IsView d e (suc (suc T)) v
    → around_known d T (λ k. f (relabelled image k)) v ≡ around_known d T f (relabelled image v)
around_known-relabelled image f T d e v is =
    map-count (λ port. at_port (f (relabelled image (known T (shift (suc T) v port)))) (at_port (backs v) port))
    (λ port. at_port (f (known T (shift (suc T) (relabelled image v) port))) (at_port (backs (relabelled image v)) port)) 1 d
    (λ k l. rw one-add (each k l (child_of d e (suc T) d v is k l)))
  where
    each : (k : ℕ) → k < d → (c : Child ℕ) × (child_at k v ≡ Some c) × IsChild e d (suc T) c
        → at_port (f (relabelled image (known T (shift (suc T) v (suc k))))) (at_port (backs v) (suc k)) ≡ at_port (f (known T (shift (suc T) (relabelled image v) (suc k)))) (at_port (backs (relabelled image v)) (suc k))
    each k l (c, at, child) =
        let seen : relabelled image (known T (shift (suc T) v (suc k))) ≡ known T (shift (suc T) (relabelled image v) (suc k)) =
        relabelled-known image T (shift (suc T) v (suc k)) ∙ ap (known T) (relabelled-shift image (suc T) v (suc k) c at) in
        rw (seen, backs-relabelled image v) refl

module _ (problem input next : Problem) (image id : ℕ → ℕ) (T : ℕ) (f : InputView → List ℕ) (active_to : TakesTo image input.active next.active) (passive_to : TakesTo image input.passive next.passive) (solves : SolvesApart problem next id T f) where
  pub SolvesApart-taken : SolvesApart problem input (λ label. id (image label)) T (λ k. f (relabelled image k))
  SolvesApart-taken = record {
    active = λ v is fits apart.
        rw (relabelled-known image T v) (solves.active (relabelled image v) (IsTree-relabelled image problem.active.degree problem.passive.degree (suc T) problem.active.degree v is)
        (FitsAround-taken image input.active input.passive next.active next.passive active_to passive_to [] v fits)
        (subst AreDifferent (sym (ap (map id) (shown-relabelled image v) ∙ map-map id image (shown v))) apart));
    passive = λ v is fits apart.
        rw (around_known-relabelled image f T problem.passive.degree problem.active.degree v is) (solves.passive (relabelled image v) (IsTree-relabelled image problem.passive.degree problem.active.degree (suc (suc T)) problem.passive.degree v is)
        (FitsAround-taken image input.passive input.active next.passive next.active passive_to active_to [] v fits)
        (subst AreDifferent (sym (ap (map id) (behind_passive-relabelled image v) ∙ map-map id image (behind_passive v))) apart));
  }

-- ---- from labels to identifiers
alike_labels : (a x i n : ℕ) → i + n ≤ a → map (λ label. label / a) (count_from (x * a + i) n) ≡ replicate n x
alike_labels a x i zero l = refl
alike_labels a x i (suc n) l =
    let first : (x * a + i) / a ≡ x = div-mul-add x a i (omega arith) in
    let next : x * a + suc i ≡ suc (x * a + i) = omega arith in
    let rest : map (λ label. label / a) (count_from (suc (x * a + i)) n) ≡ replicate n x =
    subst (λ start. map (λ label. label / a) (count_from start n) ≡ replicate n x) next (alike_labels a x (suc i) n (omega arith)) in
    rw (first, rest) refl

named_active : (a p N : ℕ) → TakesTo (λ label. label / a) (labelled a p N).active (identified a p N).active
named_active a p N labels has =
    let (x, held, is) = Contains-map_cases (id_labels a) (count_from 0 N) (sorted labels) has in
    let start : x * a + 0 ≡ x * a = omega arith in
    let alike : map (λ label. label / a) (id_labels a x) ≡ replicate a x = subst (λ s. map (λ label. label / a) (count_from s a) ≡ replicate a x) start (alike_labels a x 0 a (omega arith)) in
    let same : sorted (map (λ label. label / a) labels) ≡ replicate a x =
    sym (sorted_map (λ label. label / a) labels) ∙ (ap (λ (config : List ℕ). sorted (map (λ label. label / a) config)) (sym is) ∙ (ap sorted alike ∙ sorted_again (replicate a x) (alike_rise a x))) in
    rw same (Contains-map (replicate a) (count_from 0 N) x held)

divided_below : (a N x : ℕ) → x < a * N → x / a < N
divided_below zero N x l = absurd (let none : 0 * N ≡ 0 = omega arith in omega arith)
divided_below (suc a) N x l = div_below x (suc a) N (omega arith) (rw (mul_comm N (suc a)) l)

named_passive : (a p N : ℕ) → TakesTo (λ label. label / a) (labelled a p N).passive (identified a p N).passive
named_passive a p N labels has =
    let is : IsConfig p (a * N) (sorted labels) = ((multisets_law p (a * N)).1 (sorted labels)).0 has in
    let count : length (map (λ label. label / a) labels) ≡ p = length-map labels (λ label. label / a) ∙ (sym (length-sorted labels) ∙ is.count) in
    let below : AllByRecursion (λ x. x < N) (map (λ label. label / a) labels) = AllByRecursion-from_contains (λ x. x < N) (map (λ label. label / a) labels) each in
    ((multisets_law p N).1 (sorted (map (λ label. label / a) labels))).1 (IsConfig-sorted p N (map (λ label. label / a) labels) count below)
  where
    each : (y : ℕ) → Contains (map (λ label. label / a) labels) y → y < N
    each y held =
        let (label, at, e) = Contains-map_cases (λ label. label / a) labels y held in
        let is : IsConfig p (a * N) (sorted labels) = ((multisets_law p (a * N)).1 (sorted labels)).0 has in
        let low : label / a < N = divided_below a N label (AllByRecursion-contains (λ x. x < a * N) (sorted labels) label is.below (Contains-Rearranged label (Rearranged-sorted labels) at)) in
        subst (λ z. z < N) e low

pub SolvableLabelled-local : (problem : Problem) (N T : ℕ) → SolvableLocal problem N T → SolvableLabelled problem N T
SolvableLabelled-local problem N T (f, solves) =
    let a : ℕ = problem.active.degree in
    let p : ℕ = problem.passive.degree in (
      λ k. f (relabelled (λ label. label / problem.active.degree) k),
      SolvesApart-taken problem (labelled a p N) (identified a p N) (λ label. label / a) (λ x. x) T f (named_active a p N) (named_passive a p N) solves,
    )

-- ---- fewer identifiers
wider_active : (a p N wide : ℕ) → N ≤ wide → TakesTo (λ x. x) (identified a p N).active (identified a p wide).active
wider_active a p N wide l labels has =
    let (x, held, is) = Contains-map_cases (replicate a) (count_from 0 N) (sorted labels) has in
    let there : Contains (map (replicate a) (count_from 0 wide)) (sorted labels) =
    subst (Contains (map (replicate a) (count_from 0 wide))) is (Contains-map (replicate a) (count_from 0 wide) x (Contains-count_from 0 wide x (omega arith) (let m = (count_from_range 0 N x held).1 in omega arith))) in
    rw (map-id labels) there

wider_passive : (a p N wide : ℕ) → N ≤ wide → TakesTo (λ x. x) (identified a p N).passive (identified a p wide).passive
wider_passive a p N wide l labels has =
    let is : IsConfig p N (sorted labels) = ((multisets_law p N).1 (sorted labels)).0 has in
    let wider : IsConfig p wide (sorted labels) = record { count = is.count; below = AllByRecursion-weaker (λ x. x < N) (λ x. x < wide) (λ x i. omega arith) (sorted labels) is.below; ascends = is.ascends } in
    rw (map-id labels) (((multisets_law p wide).1 (sorted labels)).1 wider)

pub SolvableLocal-fewer : (problem : Problem) (N wide T : ℕ) → N ≤ wide → SolvableLocal problem wide T → SolvableLocal problem N T
SolvableLocal-fewer problem N wide T l (f, solves) =
    let a : ℕ = problem.active.degree in
    let p : ℕ = problem.passive.degree in (
      λ k. f (relabelled (λ x. x) k),
      SolvesApart-taken problem (identified a p N) (identified a p wide) (λ x. x) (λ x. x) T f (wider_active a p N wide l) (wider_passive a p N wide l) solves,
    )

-- ---- given the identifiers of a hypergraph
labelled_active : (a p N : ℕ) (hyper : IdHypergraph) → TakesTo (λ label. label) (identifiers a p N hyper).active (labelled a p N).active
labelled_active a p N hyper labels has = rw (map-id labels) has

labelled_passive : (a p N : ℕ) (hyper : IdHypergraph) → TakesTo (λ label. label) (identifiers a p N hyper).passive (labelled a p N).passive
labelled_passive a p N hyper labels has = rw (map-id labels) (Contains-filter_cases hyper (multisets p 0 (a * N)) (sorted labels) has).0

pub SolvesGivenBy-apart : (problem input : Problem) (id : ℕ → ℕ) (T : ℕ) (f : InputView → List ℕ) → IsInput problem input → AreApart input id T → SolvesApart problem input id T f → SolvesGivenBy problem input T f
SolvesGivenBy-apart problem input id T f is apart solves = record {
  active = λ v view fits.
      let here : IsView input.active.degree input.passive.degree (suc T) v = rw (is.active_degree, is.passive_degree) view in
      solves.active v view fits (apart.active v here fits);
  passive = λ v view fits.
      let here : IsView input.passive.degree input.active.degree (suc (suc T)) v = rw (is.active_degree, is.passive_degree) view in
      solves.passive v view fits (apart.passive v here fits);
}

pub SolvableGiven-labelled : (problem : Problem) (N T : ℕ) (hyper : IdHypergraph) → let input : Problem = identifiers problem.active.degree problem.passive.degree N hyper in
    IsInput problem input → AreApart input (λ label. label / problem.active.degree) T → SolvableLabelled problem N T → SolvableGiven problem input T
SolvableGiven-labelled problem N T hyper is apart (f, solves) =
    let a : ℕ = problem.active.degree in
    let p : ℕ = problem.passive.degree in
    let input : Problem = identifiers a p N hyper in
    SolvableGiven-by problem input T (λ k. f (relabelled (λ label. label) k)) is
    (SolvesGivenBy-apart problem input (λ label. label / a) T (λ k. f (relabelled (λ label. label) k)) is apart
    (SolvesApart-taken problem input (labelled a p N) (λ label. label) (λ label. label / a) T f (labelled_active a p N hyper) (labelled_passive a p N hyper) solves))
