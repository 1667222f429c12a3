-- Identifiers are unavoidable where the hypergraph joins enough of them.
use Rattle.std.proofs.Common.{inl, inr, ◌≡◌, ℕ, zero, suc, ◌+◌, ◌*◌, ◌≤◌, ◌<◌, true, List, [], ◌∷◌, length, get_or, refl, sym, ap, ◌∙◌, subst, arith}
use Rattle.std.specs.List.{AllByRecursion, AllZip}
use Rattle.std.specs.Prelude.{Contains, replicate}
use Rattle.std.proofs.lemmas.Nat.{mul-add-lt}
use Rattle.re_labels.proofs.LawsOfRows.{multisets_law}
use Rattle.re_labels.proofs.Sorting.{IsConfig-sorted}
use Rattle.re_labels.specs.Configs.{sorted}
use Rattle.re_labels.specs.Orders.{multisets}
use Rattle.re_given.specs.Unavoidable.{IsMet, IsUnavoidable}
use Rattle.re_local.specs.Identifiers.{AreAlike, IdHypergraph, JoinsAlike, id_labels, identifiers, labels_at}
use Rattle.re_labels.proofs.Membership.{Contains-cases, Contains-count_from, Contains-filter, Contains-here, Contains-later, Contains-map, Contains-none, get_or-count_from, length-count_from}
use Rattle.re_labels.specs.Lists.{count_from}
use Rattle.re_problem.specs.Steps.{Becomes}
use Rattle.re_labels.specs.Constraints.{Has}

-- ---- labels of identifiers at ports
pub length-labels_at : (a : ℕ) (ids ports : List ℕ) → length ids ≡ length ports → length (labels_at a ids ports) ≡ length ports
length-labels_at a [] [] same = refl
length-labels_at a [] (i ∷ ports) same = absurd (omega (arith, same))
length-labels_at a (x ∷ ids) [] same = absurd (omega (arith, same))
length-labels_at a (x ∷ ids) (i ∷ ports) same = ap suc (length-labels_at a ids ports (omega (arith, same)))

pub labels_at_below : (a N : ℕ) (ids ports : List ℕ) → AllByRecursion (λ x. x < N) ids → AllByRecursion (λ i. i < a) ports → AllByRecursion (λ u. u < a * N) (labels_at a ids ports)
labels_at_below a N [] ports below low = tt
labels_at_below a N (x ∷ ids) [] below low = tt
labels_at_below a N (x ∷ ids) (i ∷ ports) below low = (mul-add-lt x a i N below.0 low.0, labels_at_below a N ids ports below.1 low.1)

-- labels that are joined stand around a passive node
pub joined_there : (a p N : ℕ) (hyper : IdHypergraph) (labels : List ℕ) → length labels ≡ p → AllByRecursion (λ u. u < a * N) labels → hyper (sorted labels) ≡ true → Has (identifiers a p N hyper).passive labels
joined_there a p N hyper labels count below joined =
    Contains-filter hyper (multisets p 0 (a * N)) (sorted labels) (((multisets_law p (a * N)).1 (sorted labels)).1 (IsConfig-sorted p (a * N) labels count below)) joined

-- labels of a list, each with a place of it
ports_of : (list drawn : List ℕ) → AllByRecursion (Contains list) drawn → (ports : List ℕ) × (length ports ≡ length drawn) × AllByRecursion (λ i. i < length list) ports × AllZip (λ i y. get_or list i y ≡ y) ports drawn
ports_of list [] each = ([], refl, tt, tt)
ports_of list (y ∷ drawn) each =
    let (i, l, at) = each.0 in
    let (ports, same, low, there) = ports_of list drawn each.1 in
    (i ∷ ports, ap suc same, (l, low), (at, there))

-- a port, p times
abbrev pub same_port : ℕ → ℕ → List ℕ
same_port i p = replicate p i

pub first_ports : (a p i : ℕ) → i < a → (length (same_port i p) ≡ p) × AllByRecursion (λ j. j < a) (same_port i p)
first_ports a zero i some = (refl, tt)
first_ports a (suc p) i some = let (count, low) = first_ports a p i some in (ap suc count, (some, low))

-- a label of an identifier at one and the same port
pub label_there : (a x i : ℕ) (ids : List ℕ) → Contains ids x → Contains (labels_at a ids (same_port i (length ids))) (x * a + i)
label_there a x i [] at = absurd (Contains-none x at)
label_there a x i (y ∷ ids) at = elim (Contains-cases x y ids at) [
  | inl e ↦ subst (λ z. Contains ((z * a + i) ∷ labels_at a ids (same_port i (length ids))) (x * a + i)) e (Contains-here (x * a + i) (labels_at a ids (same_port i (length ids))))
  | inr later ↦ Contains-later (x * a + i) (y * a + i) (labels_at a ids (same_port i (length ids))) (label_there a x i ids later)
]

module _ (a p N n : ℕ) (hyper : IdHypergraph) (image : List ℕ → List ℕ) where
  -- the list of an identifier
  abbrev list_of : ℕ → List ℕ
  list_of x = image (id_labels a x)

  identifier_there : (x : ℕ) → x < N → Contains (identifiers a p N hyper).active.configs (id_labels a x)
  identifier_there x l = Contains-map (id_labels a) (count_from 0 N) x (Contains-count_from 0 N x (omega arith) (omega arith))

  -- an identifier's label becomes the label at its place in the identifier's list
  becomes_at : (list : List ℕ) (x i y : ℕ) → x < N → i < length list → length list ≡ a → list_of x ≡ list → get_or list i y ≡ y → Becomes (identifiers a p N hyper).active image (x * a + i) y
  becomes_at list x i y l m count same at = (
    id_labels a x,
    identifier_there x l,
    (
      i,
      omega (arith, m, count, length-count_from (x * a) a),
      omega (arith, m, ap length same, count),
      get_or-count_from (x * a) a i (x * a + i) (omega (arith, m, count)),
      ap (λ (l : List ℕ). get_or l i y) same ∙ at,
    ),
  )

  become : (list ids ports drawn : List ℕ) → length list ≡ a → length ids ≡ length ports → AllByRecursion (λ x. x < N) ids → AllByRecursion (λ x. list_of x ≡ list) ids → AllByRecursion (λ i. i < length list) ports
      → AllZip (λ i y. get_or list i y ≡ y) ports drawn → AllZip (Becomes (identifiers a p N hyper).active image) (labels_at a ids ports) drawn
  become list [] [] [] many same below lists low at = tt
  become list [] [] (y ∷ drawn) many same below lists low at = absurd at
  become list [] (i ∷ ports) drawn many same below lists low at = absurd (omega (arith, same))
  become list (x ∷ ids) [] drawn many same below lists low at = absurd (omega (arith, same))
  become list (x ∷ ids) (i ∷ ports) [] many same below lists low at = absurd at
  become list (x ∷ ids) (i ∷ ports) (y ∷ drawn) many same below lists low at =
      (becomes_at list x i y below.0 low.0 many lists.0 at.0, become list ids ports drawn many (omega (arith, same)) below.1 lists.1 low.1 at.1)

  met_by_alike : (list : List ℕ) → length list ≡ a → ((ports : List ℕ) → length ports ≡ p → AllByRecursion (λ i. i < a) ports → AreAlike a N hyper list_of list ports) → IsMet (identifiers a p N hyper) image list
  met_by_alike list many alike drawn count each =
      let (ports, same, low, at) = ports_of list drawn each in
      let ports_low : AllByRecursion (λ i. i < a) ports = subst (λ k. AllByRecursion (λ i. i < k) ports) many low in
      let all : AreAlike a N hyper list_of list ports = alike ports (same ∙ count) ports_low in (
        labels_at a all.ids ports,
        become list all.ids ports drawn many all.count all.below all.lists low at,
        joined_there a p N hyper (labels_at a all.ids ports) (length-labels_at a all.ids ports all.count ∙ (same ∙ count)) (labels_at_below a N all.ids ports all.below ports_low) all.joined,
      )

-- identifiers with one list, of which there is one
pub first_alike : (a p N : ℕ) (hyper : IdHypergraph) (list_of : ℕ → List ℕ) (list : List ℕ) → 1 ≤ a → 1 ≤ p → ((ports : List ℕ) → length ports ≡ p → AllByRecursion (λ i. i < a) ports → AreAlike a N hyper list_of list ports)
    → (x : ℕ) × (x < N) × (list_of x ≡ list)
first_alike a p N hyper list_of list some more alike =
    let (count, low) = first_ports a p 0 (omega arith) in
    let all : AreAlike a N hyper list_of list (same_port 0 p) = alike (same_port 0 p) count low in
    go all.ids (omega (arith, all.count, count, more)) all.below all.lists
  where
    go : (ids : List ℕ) → 1 ≤ length ids → AllByRecursion (λ x. x < N) ids → AllByRecursion (λ x. list_of x ≡ list) ids → (x : ℕ) × (x < N) × (list_of x ≡ list)
    go [] l below lists = absurd (omega (arith, l))
    go (x ∷ ids) l below lists = (x, below.0, lists.0)

pub identifiers_unavoidable : (a p N n : ℕ) (hyper : IdHypergraph) → 1 ≤ a → 1 ≤ p → JoinsAlike a p N hyper n → IsUnavoidable (identifiers a p N hyper) n
identifiers_unavoidable a p N n hyper some more joins image each =
    let (list, alike) = joins (λ x. image (id_labels a x)) (λ x l. each (id_labels a x) (identifier_there a p N n hyper image x l)) in
    let (x, l, same) = first_alike a p N hyper (λ x. image (id_labels a x)) list some more alike in
    let many : length list ≡ a = sym (ap length same) ∙ (each (id_labels a x) (identifier_there a p N n hyper image x l)).0 in
    (id_labels a x, identifier_there a p N n hyper image x l, subst (IsMet (identifiers a p N hyper) image) (sym same) (met_by_alike a p N n hyper image list many alike))
