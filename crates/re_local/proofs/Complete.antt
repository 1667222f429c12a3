-- The hypergraph that joins all different identifiers.
use Rattle.std.proofs.Common.{◌≡◌, ℕ, zero, suc, pred, ◌+◌, ◌-◌, ◌*◌, ◌/◌, ◌^◌, ◌≤◌, ◌<◌, eqb, true, List, [], ◌∷◌, ◌++◌, map, length, refl, sym, ◌∙◌, ap, subst, arith, append-nil, inl, inr}
use Rattle.std.specs.Prelude.{Contains, replicate}
use Rattle.std.specs.List.{AllByRecursion}
use Rattle.std.proofs.Math.Nat.{pow-succ', pow-zero}
use Rattle.std.proofs.lemmas.Bool.Decides.{leb_tells}
use Rattle.std.proofs.lemmas.Nat.{div-mul-add}
use Rattle.re_labels.proofs.ChoicesOfRows.{choices-IsChoice}
use Rattle.re_labels.proofs.Rearranging.{Rearranged-map, Rearranged-sym}
use Rattle.re_labels.proofs.Rounds.{length-choices}
use Rattle.re_labels.proofs.Sorting.{IsConfig-sorted, Rearranged-sorted}
use Rattle.re_labels.specs.Configs.{IsConfig, sorted, support_of}
use Rattle.re_labels.specs.Orders.{multisets}
use Rattle.re_labels.specs.Rearranging.{Rearranged}
use Rattle.re_labels.specs.Rows.{IsChoice, choices}
use Rattle.re_given.proofs.Colourings.{colours_there, pigeonhole}
use Rattle.re_given.proofs.Fitting.{Has-around}
use Rattle.re_given.proofs.GrownInputs.{Has-occurs}
use Rattle.re_given.specs.InputViews.{Fits, InputView, payloads}
use Rattle.re_given.specs.Unavoidable.{colouring}
use Rattle.re_labels.proofs.Membership.{AllByRecursion-contains, AllByRecursion-from_contains, Contains-count_from, Contains-filter_cases, Contains-here, Contains-none, Distinct, Distinct-count_from, count_from_range, length-count_from}
use Rattle.re_labels.proofs.Numbers.{IsLabelSet-count_from}
use Rattle.re_labels.proofs.Tests.{eqb-true}
use Rattle.re_labels.specs.Lists.{count_from}
use Rattle.re_labels.specs.Sets.{IsLabelSet}
use Rattle.re_local.proofs.ColouredLocal.{different_Rearranged, rising_strictly}
use Rattle.re_local.proofs.FewerRounds.{IsPart, held, part_contains, part_different, part_empty}
use Rattle.re_local.proofs.Supports.{Distinct-support}
use Rattle.re_local.proofs.UnavoidableIdentifiers.{first_ports, joined_there, label_there, labels_at_below, length-labels_at, same_port}
use Rattle.re_local.specs.Identifiers.{AreAlike, JoinsAlike, identifiers, labels_at}
use Rattle.re_layers.specs.Networks.{AreDifferent}
use Rattle.re_local.specs.LocalAlgorithms.{behind_active, behind_passive, shown}
use Rattle.re_local.specs.Separating.{AreApart, HasAllEdges, Separates, complete}
use Rattle.re_local.proofs.VirtualLabels.{different_rising}
use Rattle.re_labels.proofs.Goodness.{Has-Rearranged, Has-has_config, has_config-Has}
use Rattle.re_labels.specs.Constraints.{Has}
use Rattle.re_laws.specs.Trees.{IsTree, IsView, end, leaf, more}

pub different_distinct : (xs : List ℕ) → Distinct xs → AreDifferent xs
different_distinct [] d = tt
different_distinct (x ∷ xs) d = (d.0, different_distinct xs d.1)

-- lists of a labels below n
pub alike_choice : (n : ℕ) (labels : List ℕ) → AllByRecursion (λ x. x < n) labels → IsChoice labels (replicate (length labels) (count_from 0 n))
alike_choice n [] h = tt
alike_choice n (x ∷ labels) h = (Contains-count_from 0 n x (omega arith) (let l = h.0 in omega arith), alike_choice n labels h.1)

pub length-alike : (n a : ℕ) → length (choices (replicate a (count_from 0 n))) ≡ n ^ a
length-alike n zero = sym (pow-zero n)
length-alike n (suc a) =
    length-choices (count_from 0 n) (replicate a (count_from 0 n)) ∙ (ap (λ k. k * length (choices (replicate a (count_from 0 n)))) (length-count_from 0 n) ∙ (ap (λ k. n * k) (length-alike n a) ∙ sym (pow-succ' n a)))

-- ---- different identifiers are joined
-- the identifiers of labels
ids_labels_at : (a : ℕ) (ids ports : List ℕ) → length ids ≡ length ports → AllByRecursion (λ i. i < a) ports → map (λ u. u / a) (labels_at a ids ports) ≡ ids
ids_labels_at a [] [] same low = refl
ids_labels_at a [] (i ∷ ports) same low = absurd (omega (arith, same))
ids_labels_at a (x ∷ ids) [] same low = absurd (omega (arith, same))
ids_labels_at a (x ∷ ids) (i ∷ ports) same low =
    ap (λ z. z ∷ map (λ u. u / a) (labels_at a ids ports)) (div-mul-add x a i low.0) ∙ ap (λ l. x ∷ l) (ids_labels_at a ids ports (omega (arith, same)) low.1)

different_joined : (a p N : ℕ) (ids ports : List ℕ) → length ids ≡ p → AllByRecursion (λ x. x < N) ids → AreDifferent ids → length ports ≡ p → AllByRecursion (λ i. i < a) ports
    → complete a p N (sorted (labels_at a ids ports)) ≡ true
different_joined a p N ids ports count below different ports_count low =
    let is : IsConfig p N (sorted ids) = IsConfig-sorted p N ids count below in
    let has : Has (colouring a p N).passive ids =
    colours_there a p N (sorted ids) is.count (rising_strictly (sorted ids) is.ascends (different_Rearranged (Rearranged-sorted ids) different), is.below) in
    let moved : Rearranged (map (λ u. u / a) (labels_at a ids ports)) (map (λ u. u / a) (sorted (labels_at a ids ports))) =
    Rearranged-map (λ u. u / a) (Rearranged-sorted (labels_at a ids ports)) in
    let same : map (λ u. u / a) (labels_at a ids ports) ≡ ids = ids_labels_at a ids ports (count ∙ sym ports_count) low in
    Has-has_config (colouring a p N).passive (map (λ u. u / a) (sorted (labels_at a ids ports)))
    (Has-Rearranged (colouring a p N).passive moved (subst (Has (colouring a p N).passive) (sym same) has))

pub different_there : (a p N : ℕ) (ids ports : List ℕ) → length ids ≡ p → AllByRecursion (λ x. x < N) ids → AreDifferent ids → length ports ≡ p → AllByRecursion (λ i. i < a) ports
    → Has (identifiers a p N (complete a p N)).passive (labels_at a ids ports)
different_there a p N ids ports count below different ports_count low =
    joined_there a p N (complete a p N) (labels_at a ids ports) (length-labels_at a ids ports (count ∙ sym ports_count) ∙ ports_count) (labels_at_below a N ids ports below low)
    (different_joined a p N ids ports count below different ports_count low)

pub some_below : (N k : ℕ) → k ≤ N → AllByRecursion (λ x. x < N) (count_from 0 k)
some_below N k l = AllByRecursion-from_contains (λ x. x < N) (count_from 0 k) (λ x held. let (low, high) = count_from_range 0 k x held in omega arith)

-- p different identifiers with this one
with_others : (p N x : ℕ) → 1 ≤ p → p ≤ N → x < N → (ids : List ℕ) × (length ids ≡ p) × AllByRecursion (λ y. y < N) ids × AreDifferent ids × Contains ids x
with_others p N x some many l = elim (leb_tells p x) [
  | inl t ↦ (
    x ∷ count_from 0 (p - 1),
    (let count = length-count_from 0 (p - 1) in omega (arith, count, some)),
    (l, some_below N (p - 1) (omega arith)),
    ((λ at. (let (low, high) = count_from_range 0 (p - 1) x at in let apart = t.1 in omega (arith, high, apart, some))), different_distinct (count_from 0 (p - 1)) (Distinct-count_from 0 (p - 1))),
    Contains-here x (count_from 0 (p - 1)),
  )
  | inr t ↦ (
    count_from 0 p,
    length-count_from 0 p,
    some_below N p many,
    different_distinct (count_from 0 p) (Distinct-count_from 0 p),
    Contains-count_from 0 p x (omega arith) (let below = t.1 in omega (arith, below)),
  )
]

pub edges_complete : (a p N : ℕ) → 1 ≤ p → p ≤ N → HasAllEdges a p N (complete a p N)
edges_complete a p N some many x i l il =
    let (ids, count, below, different, at) = with_others p N x some many l in
    let (ports_count, low) = first_ports a p i il in
    Has-occurs (identifiers a p N (complete a p N)).passive (labels_at a ids (same_port i p)) (x * a + i) (different_there a p N ids (same_port i p) count below different ports_count low)
    (subst (λ k. Contains (labels_at a ids (same_port i k)) (x * a + i)) count (label_there a x i ids at))

-- the first so many of a list
first_of : (k : ℕ) (zs : List ℕ) → k ≤ length zs → (xs : List ℕ) × (length xs ≡ k) × IsPart xs zs
first_of zero zs l = ([], refl, part_empty zs)
first_of (suc k) [] l = absurd (omega (arith, l))
first_of (suc k) (z ∷ zs) l = let (xs, count, part) = first_of k zs (omega (arith, l)) in (z ∷ xs, ap suc count, held part)

joins_complete : (a p N n : ℕ) → 1 ≤ p → (p - 1) * n ^ a < N → JoinsAlike a p N (complete a p N) n
joins_complete a p N n some many list_of each = go (pigeonhole list_of (p - 1) N lists (count_from 0 N) (IsLabelSet-count_from 0 N N (omega arith)) listed enough)
  where
    lists : List (List ℕ)
    lists = choices (replicate a (count_from 0 n))

    listed : (x : ℕ) → Contains (count_from 0 N) x → Contains lists (list_of x)
    listed x at =
        let (count, below) = each x (let l = (count_from_range 0 N x at).1 in omega arith) in
        choices-IsChoice (replicate a (count_from 0 n)) (list_of x) (subst (λ k. IsChoice (list_of x) (replicate k (count_from 0 n))) count (alike_choice n (list_of x) below))

    enough : (p - 1) * length lists < length (count_from 0 N)
    enough = rw (length-alike n a, length-count_from 0 N) many

    go : (y : List ℕ) × (zs : List ℕ) × IsLabelSet N zs × (p - 1 < length zs) × ((z : ℕ) → Contains zs z → list_of z ≡ y)
        → (list : List ℕ) × ((ports : List ℕ) → length ports ≡ p → AllByRecursion (λ i. i < a) ports → AreAlike a N (complete a p N) list_of list ports)
    go (list, zs, set, count, same) = (list, λ ports is low. alike (first_of p zs (omega (arith, count, some))) ports is low)
      where
        alike : (ids : List ℕ) × (length ids ≡ p) × IsPart ids zs → (ports : List ℕ) → length ports ≡ p → AllByRecursion (λ i. i < a) ports → AreAlike a N (complete a p N) list_of list ports
        alike (ids, ids_count, part) ports is low =
            let below : AllByRecursion (λ x. x < N) ids = AllByRecursion-from_contains (λ x. x < N) ids (λ x at. AllByRecursion-contains (λ x. x < N) zs x set.1 (part_contains x part at)) in
            record {
              ids = ids;
              count = ids_count ∙ sym is;
              below = below;
              lists = AllByRecursion-from_contains (λ x. list_of x ≡ list) ids (λ x at. same x (part_contains x part at));
              joined = different_joined a p N ids ports ids_count below (part_different part (different_rising zs set.0)) is low;
            }

-- nothing is shown behind the edges of the last layer
pub none_behind : (d e n : ℕ) (x : InputView) → IsTree d e 1 n x → behind_active x ≡ []
none_behind d e n leaf h = absurd h
none_behind d e n end h = refl
none_behind d e zero (more back label branch rest) h = absurd h
none_behind d e (suc n) (more back label leaf rest) h = none_behind d e n rest h.3
none_behind d e (suc n) (more back label end rest) h = absurd h.2
none_behind d e (suc n) (more back label (more back' label' branch' rest') rest) h = absurd h.2

-- and a passive node sees those of its own edges alone
only_payloads : (p a n : ℕ) (v : InputView) → IsTree p a 2 n v → behind_passive v ≡ payloads v
only_payloads p a n leaf tree = absurd tree
only_payloads p a n end tree = refl
only_payloads p a zero (more back label branch rest) tree = absurd tree
only_payloads p a (suc n) (more back label branch rest) tree =
    ap (λ (b : List ℕ). (label ∷ b) ++ behind_passive rest) (none_behind a p (pred a) branch tree.2) ∙ ap (λ (r : List ℕ). label ∷ r) (only_payloads p a n rest tree.3)

-- labels around a passive node have different identifiers
different_around : (a p N : ℕ) (labels : List ℕ) → Has (identifiers a p N (complete a p N)).passive labels → AreDifferent (map (λ u. u / a) labels)
different_around a p N labels has =
    let joined : complete a p N (sorted labels) ≡ true = (Contains-filter_cases (complete a p N) (multisets p 0 (a * N)) (sorted labels) has).1 in
    let ids : List ℕ = map (λ u. u / a) (sorted labels) in
    let colours : Has (colouring a p N).passive ids = has_config-Has (colouring a p N).passive ids joined in
    let same : length (support_of (sorted ids)) ≡ length (sorted ids) = eqb-true (length (support_of (sorted ids))) (length (sorted ids))
    (Contains-filter_cases (λ edges. eqb (length (support_of edges)) (length edges)) (multisets p 0 N) (sorted ids) colours).1 in
    let different : AreDifferent ids = different_Rearranged (Rearranged-sym (Rearranged-sorted ids)) (different_distinct (sorted ids) (Distinct-support (sorted ids) same)) in
    different_Rearranged (Rearranged-map (λ u. u / a) (Rearranged-sym (Rearranged-sorted labels))) different

apart_complete : (a p N : ℕ) → AreApart (identifiers a p N (complete a p N)) (λ label. label / a) 0
apart_complete a p N = record { active = on_active; passive = on_passive }
  where
    on_active : (v : InputView) → IsView a p 1 v → Fits (identifiers a p N (complete a p N)).active (identifiers a p N (complete a p N)).passive v → AreDifferent (map (λ label. label / a) (shown v))
    on_active leaf view fits = tt
    on_active end view fits = tt
    on_active (more back label branch rest) view fits =
        subst (λ (labels : List ℕ). AreDifferent (map (λ label. label / a) (label ∷ labels))) (sym (none_behind a p a (more back label branch rest) view)) (λ none. Contains-none (label / a) none, tt)

    on_passive : (v : InputView) → IsView p a 2 v → Fits (identifiers a p N (complete a p N)).passive (identifiers a p N (complete a p N)).active v → AreDifferent (map (λ label. label / a) (behind_passive v))
    on_passive v view fits =
        let has : Has (identifiers a p N (complete a p N)).passive (payloads v ++ []) =
        Has-around (identifiers a p N (complete a p N)).passive (identifiers a p N (complete a p N)).active p a 1 p [] v view fits in
        subst (λ (labels : List ℕ). AreDifferent (map (λ label. label / a) labels)) (append-nil (payloads v) ∙ sym (only_payloads p a p v view)) (different_around a p N (payloads v ++ []) has)

pub Separates-complete : (a p N n : ℕ) → 1 ≤ a → 1 ≤ p → p ≤ N → (p - 1) * n ^ a < N → Separates a p N n 0 (complete a p N)
Separates-complete a p N n some some' enough many = record { edges = edges_complete a p N some' enough; joins = joins_complete a p N n some' many; apart = apart_complete a p N }
