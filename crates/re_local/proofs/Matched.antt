-- A hypergraph of identifiers from a hypergraph: for each list of ports lies a set of identifiers on each edge.
use Rattle.std.proofs.Common.{◌≡◌, ℕ, zero, suc, ◌+◌, ◌*◌, ◌/◌, ◌%◌, ◌^◌, ◌≤◌, ◌<◌, true, inl, inr, List, [], ◌∷◌, map, length, get_or, refl, sym, ◌∙◌, ap, subst, arith, ◌-◌}
use Rattle.std.specs.List.{AllByRecursion, list_any}
use Rattle.std.specs.Prelude.{Contains}
use Rattle.std.proofs.Math.Nat.{pow-succ', pow-zero}
use Rattle.std.proofs.lemmas.Bool.Decides.{leb_tells}
use Rattle.std.proofs.lemmas.Nat.{div-mul-add, mod-mul-add, mod_below, mul-add-lt, same_from_place}
use Rattle.re_labels.specs.Configs.{sorted}
use Rattle.re_local.proofs.Pruned.{AreJoined, JoinsWithin}
use Rattle.re_local.proofs.UnavoidableIdentifiers.{first_ports, same_port}
use Rattle.re_local.specs.Identifiers.{IdHypergraph, JoinsAlike, labels_at}
use Rattle.re_labels.proofs.Before.{same_list-refl, same_list-same}
use Rattle.re_labels.proofs.Membership.{Contains-cases, Contains-count_from, Contains-none, any_found, any_true, count_from_range}
use Rattle.re_labels.specs.Lists.{count_from, same_list}
use Rattle.re_layers.specs.Networks.{AreDifferent}
use Rattle.re_local.specs.Hypergraphs.{Hyper, IsHyper, IsUncolourable}

-- ---- lists of numbers below n as one number
abbrev pub code : ℕ → List ℕ → ℕ
code n [] = 0
code n (x ∷ xs) = code n xs * n + x

-- the list of so many numbers below n that a number stands for
abbrev pub digits : ℕ → ℕ → ℕ → List ℕ
digits n zero c = []
digits n (suc k) c = (c % n) ∷ digits n k (c / n)

pub code_below : (n a : ℕ) (xs : List ℕ) → length xs ≡ a → AllByRecursion (λ x. x < n) xs → code n xs < n ^ a
code_below n zero [] count below = rw (pow-zero n) (omega arith)
code_below n (suc a) [] count below = absurd (omega (arith, count))
code_below n zero (x ∷ xs) count below = absurd (omega (arith, count))
code_below n (suc a) (x ∷ xs) count below = rw (pow-succ' n a) (mul-add-lt (code n xs) n x (n ^ a) (code_below n a xs (omega (arith, count)) below.1) below.0)

digits_code : (n k : ℕ) (xs : List ℕ) → length xs ≡ k → AllByRecursion (λ x. x < n) xs → digits n k (code n xs) ≡ xs
digits_code n zero [] count below = refl
digits_code n (suc k) [] count below = absurd (omega (arith, count))
digits_code n zero (x ∷ xs) count below = absurd (omega (arith, count))
digits_code n (suc k) (x ∷ xs) count below =
    ap (λ d. d ∷ digits n k ((code n xs * n + x) / n)) (mod-mul-add (code n xs) n x below.0)
    ∙ (ap (λ c. x ∷ digits n k c) (div-mul-add (code n xs) n x below.0) ∙ ap (λ l. x ∷ l) (digits_code n k xs (omega (arith, count)) below.1))

code_same : (n : ℕ) (xs ys : List ℕ) → length xs ≡ length ys → AllByRecursion (λ x. x < n) xs → AllByRecursion (λ x. x < n) ys → code n xs ≡ code n ys → xs ≡ ys
code_same n [] [] count below below' same = refl
code_same n [] (y ∷ ys) count below below' same = absurd (omega (arith, count))
code_same n (x ∷ xs) [] count below below' same = absurd (omega (arith, count))
code_same n (x ∷ xs) (y ∷ ys) count below below' same =
    let (rest, here) = same_from_place (code n xs) x (code n ys) y n below.0 below'.0 same in
    ap (λ z. z ∷ xs) here ∙ ap (λ zs. y ∷ zs) (code_same n xs ys (omega (arith, count)) below.1 below'.1 rest)

pub digit_below : (n k c j : ℕ) → 1 ≤ n → get_or (digits n k c) j 0 < n
digit_below n zero c j some = omega arith
digit_below n (suc k) c zero some = mod_below c n (omega arith)
digit_below n (suc k) c (suc j) some = digit_below n k (c / n) j some

-- ---- the points of an edge
-- so many points of an edge, from a place on
abbrev pub points : Hyper ℕ → ℕ → ℕ → ℕ → List ℕ
points hyper e place zero = []
points hyper e place (suc k) = hyper.at e place ∷ points hyper e (suc place) k

length-points : (hyper : Hyper ℕ) (e place k : ℕ) → length (points hyper e place k) ≡ k
length-points hyper e place zero = refl
length-points hyper e place (suc k) = ap suc (length-points hyper e (suc place) k)

points_all : (P : ℕ → Type 0) (hyper : Hyper ℕ) (e place k : ℕ) → ((q : ℕ) → place ≤ q → q < place + k → P (hyper.at e q)) → AllByRecursion P (points hyper e place k)
points_all P hyper e place zero each = tt
points_all P hyper e place (suc k) each = (each place (omega arith) (omega arith), points_all P hyper e (suc place) k (λ q l m. each q (omega arith) (omega arith)))

points_cases : (hyper : Hyper ℕ) (e place k x : ℕ) → Contains (points hyper e place k) x → (q : ℕ) × (place ≤ q) × (q < place + k) × (hyper.at e q ≡ x)
points_cases hyper e place zero x at = absurd (Contains-none x at)
points_cases hyper e place (suc k) x at = elim (Contains-cases x (hyper.at e place) (points hyper e (suc place) k) at) [
  | inl is ↦ (place, omega arith, omega arith, sym is)
  | inr later ↦ (let (q, l, m, is) = points_cases hyper e (suc place) k x later in (q, omega arith, omega arith, is))
]

pub points_different : (r n : ℕ) (hyper : Hyper ℕ) (e place k : ℕ) → IsHyper r n hyper → e < hyper.edges → place + k ≤ r → AreDifferent (points hyper e place k)
points_different r n hyper e place zero is el low = tt
points_different r n hyper e place (suc k) is el low = (
  λ at. let (q, l, m, same) = points_cases hyper e (suc place) k (hyper.at e place) at in let clash : q ≡ place = is.apart e q place el (omega arith) (omega arith) same in omega (arith, clash, l),
  points_different r n hyper e (suc place) k is el (omega arith),
)

pub labels_cases : (a : ℕ) (hyper : Hyper ℕ) (e place k c u : ℕ) → Contains (labels_at a (points hyper e place k) (digits a k c)) u → (j : ℕ) × (j < k) × (u ≡ hyper.at e (place + j) * a + get_or (digits a k c) j 0)
labels_cases a hyper e place zero c u at = absurd (Contains-none u at)
labels_cases a hyper e place (suc k) c u at = elim (Contains-cases u (hyper.at e place * a + c % a) (labels_at a (points hyper e (suc place) k) (digits a k (c / a))) at) [
  | inl is ↦ (0, omega arith, is ∙ ap (λ q. hyper.at e q * a + c % a) (here place))
  | inr later ↦ (let (j, l, is) = labels_cases a hyper e (suc place) k (c / a) u later in (suc j, omega arith, is ∙ ap (λ q. hyper.at e q * a + get_or (digits a k (c / a)) j 0) (further place j)))
]
  where
    here : (place : ℕ) → place ≡ place + 0
    here place = omega arith

    further : (place j : ℕ) → suc place + j ≡ place + suc j
    further place j = omega arith

-- the identifiers of labels, where ports are below a
pub labels_at_ids : (a : ℕ) (hyper : Hyper ℕ) (e place k c : ℕ) → 1 ≤ a → map (λ u. u / a) (labels_at a (points hyper e place k) (digits a k c)) ≡ points hyper e place k
labels_at_ids a hyper e place zero c some = refl
labels_at_ids a hyper e place (suc k) c some =
    ap (λ x. x ∷ map (λ u. u / a) (labels_at a (points hyper e (suc place) k) (digits a k (c / a)))) (div-mul-add (hyper.at e place) a (c % a) (mod_below c a (omega arith)))
    ∙ ap (λ l. hyper.at e place ∷ l) (labels_at_ids a hyper e (suc place) k (c / a) some)

-- ---- the hypergraph of identifiers
-- the labels that lie on an edge for the list of ports with this number
abbrev pub edge_labels : ℕ → ℕ → Hyper ℕ → ℕ → ℕ → List ℕ
edge_labels a p hyper e c = labels_at a (points hyper e (c * p) p) (digits a p c)

-- these labels lie on some edge, for some list of ports
abbrev pub matched : ℕ → ℕ → Hyper ℕ → IdHypergraph
matched a p hyper labels = list_any (λ e. list_any (λ c. same_list (sorted (edge_labels a p hyper e c)) labels) (count_from 0 (a ^ p))) (count_from 0 hyper.edges)

pub matched_edge : (a p : ℕ) (hyper : Hyper ℕ) (labels : List ℕ) → matched a p hyper labels ≡ true → (e : ℕ) × (e < hyper.edges) × (c : ℕ) × (c < a ^ p) × (sorted (edge_labels a p hyper e c) ≡ labels)
matched_edge a p hyper labels h =
    let (e, held, some) = any_found (λ e. list_any (λ c. same_list (sorted (edge_labels a p hyper e c)) labels) (count_from 0 (a ^ p))) (count_from 0 hyper.edges) h in
    let (c, there, same) = any_found (λ c. same_list (sorted (edge_labels a p hyper e c)) labels) (count_from 0 (a ^ p)) some in
    (e, (let l = (count_from_range 0 hyper.edges e held).1 in omega arith), c, (let l = (count_from_range 0 (a ^ p) c there).1 in omega arith), same_list-same (sorted (edge_labels a p hyper e c)) labels same)

edge_matched : (a p : ℕ) (hyper : Hyper ℕ) (e c : ℕ) → e < hyper.edges → c < a ^ p → matched a p hyper (sorted (edge_labels a p hyper e c)) ≡ true
edge_matched a p hyper e c el cl = any_true (λ f. list_any (λ d. same_list (sorted (edge_labels a p hyper f d)) (sorted (edge_labels a p hyper e c))) (count_from 0 (a ^ p))) (count_from 0 hyper.edges) e
    (Contains-count_from 0 hyper.edges e (omega arith) (omega arith))
    (any_true (λ d. same_list (sorted (edge_labels a p hyper e d)) (sorted (edge_labels a p hyper e c))) (count_from 0 (a ^ p)) c (Contains-count_from 0 (a ^ p) c (omega arith) (omega arith)) (same_list-refl (sorted (edge_labels a p hyper e c))))

-- the last place of an edge for a list of ports lies within the edge
pub places_within : (a p c : ℕ) → c < a ^ p → c * p + p ≤ p * a ^ p
places_within a zero c l = omega arith
places_within a (suc p) c l = let m = mul-add-lt c (suc p) p (a ^ suc p) l (omega arith) in omega arith

-- an edge of one colour has identifiers that are joined by each p ports
pub matched_joins : (a p N m : ℕ) (hyper : Hyper ℕ) → 1 ≤ a → 1 ≤ p → IsHyper (p * a ^ p) N hyper → IsUncolourable (p * a ^ p) N (m + a) hyper → JoinsWithin a p N (matched a p hyper) m
matched_joins a p N m hyper some more is un colour below good =
    let (e, shade, el, same) = un colour below in
    (shade, low e shade el same, λ ports count small. in_shade e shade el same ports count small)
  where
    in_shade : (e shade : ℕ) → e < hyper.edges → ((q : ℕ) → q < p * a ^ p → colour (hyper.at e q) ≡ shade) → (ports : List ℕ) → length ports ≡ p → AllByRecursion (λ i. i < a) ports → AreJoined a N (matched a p hyper) colour shade ports
    in_shade e shade el same ports count small =
        let c : ℕ = code a ports in
        let cl : c < a ^ p = code_below a p ports count small in
        let within : c * p + p ≤ p * a ^ p = places_within a p c cl in
        record {
          ids = points hyper e (c * p) p;
          count = length-points hyper e (c * p) p ∙ sym count;
          below = points_all (λ x. x < N) hyper e (c * p) p (λ q l l'. is.below e q el (omega arith));
          shades = points_all (λ x. colour x ≡ shade) hyper e (c * p) p (λ q l l'. same q (omega arith));
          joined = subst (λ d. matched a p hyper (sorted (labels_at a (points hyper e (c * p) p) d)) ≡ true) (digits_code a p ports count small) (edge_matched a p hyper e c el cl);
        }

    low : (e shade : ℕ) → e < hyper.edges → ((q : ℕ) → q < p * a ^ p → colour (hyper.at e q) ≡ shade) → shade < m
    low e shade el same =
        let first : code a (same_port 0 p) < a ^ p = (let (count, small) = first_ports a p 0 (omega arith) in code_below a p (same_port 0 p) count small) in
        let within = places_within a p (code a (same_port 0 p)) first in
        let l : shade < m + a = subst (λ s. s < m + a) (same 0 (omega (arith, within, more))) (below (hyper.at e 0) (is.below e 0 el (omega (arith, within, more)))) in
        elim (leb_tells m shade) [
          | inr t ↦ t.1
          | inl t ↦ of_port (shade - m) (omega (arith, t.1)) (omega (arith, t.1, l))
        ]
      where
        of_port : (i : ℕ) → shade ≡ m + i → i < a → shade < m
        of_port i is_port il = clash (let (count, small) = first_ports a p i il in in_shade e shade el same (same_port i p) count small)
          where
            clash : AreJoined a N (matched a p hyper) colour shade (same_port i p) → shade < m
            clash all = absurd (good i il all.ids (all.count ∙ (first_ports a p i il).0) all.below (subst (λ s. AllByRecursion (λ x. colour x ≡ s) all.ids) is_port all.shades) all.joined)

-- ---- lists as colours
pub JoinsAlike-within : (a p N n : ℕ) (hyper : IdHypergraph) → 1 ≤ a → 1 ≤ p → JoinsWithin a p N hyper (n ^ a) → JoinsAlike a p N hyper n
JoinsAlike-within a p N n hyper some more joins list_of each =
    let (shade, low, all) = joins (λ x. code n (list_of x)) (λ x l. (let l' = small x l in omega arith)) (λ i il ids count below shades joined. none i ids (omega (arith, count, more)) below shades) in
    let (first, first_below, first_shade) = one shade (all (same_port 0 p) (first_ports a p 0 (omega arith)).0 (first_ports a p 0 (omega arith)).1) in (
      list_of first,
      λ ports count ports_below. (let found = all ports count ports_below in record {
        ids = found.ids;
        count = found.count;
        below = found.below;
        lists = alike first shade first_below first_shade found.ids found.below found.shades;
        joined = found.joined;
      }),
    )
  where
    small : (x : ℕ) → x < N → code n (list_of x) < n ^ a
    small x l = code_below n a (list_of x) (each x l).0 (each x l).1

    same : (x y : ℕ) → x < N → y < N → code n (list_of x) ≡ code n (list_of y) → list_of x ≡ list_of y
    same x y l l' = code_same n (list_of x) (list_of y) ((each x l).0 ∙ sym (each y l').0) (each x l).1 (each y l').1

    none : (i : ℕ) (ids : List ℕ) → 1 ≤ length ids → AllByRecursion (λ x. x < N) ids → AllByRecursion (λ x. code n (list_of x) ≡ n ^ a + i) ids → ⊥
    none i [] l below shades = omega (arith, l)
    none i (x ∷ ids) l below shades = let l' = small x below.0 in let is = shades.0 in omega (arith, l', is)

    one : (shade : ℕ) → AreJoined a N hyper (λ x. code n (list_of x)) shade (same_port 0 p) → (x : ℕ) × (x < N) × (code n (list_of x) ≡ shade)
    one shade all = go all.ids (omega (arith, all.count, (first_ports a p 0 (omega arith)).0, more)) all.below all.shades
      where
        go : (ids : List ℕ) → 1 ≤ length ids → AllByRecursion (λ x. x < N) ids → AllByRecursion (λ x. code n (list_of x) ≡ shade) ids → (x : ℕ) × (x < N) × (code n (list_of x) ≡ shade)
        go [] l below shades = absurd (omega (arith, l))
        go (x ∷ ids) l below shades = (x, below.0, shades.0)

    alike : (first shade : ℕ) → first < N → code n (list_of first) ≡ shade → (ids : List ℕ) → AllByRecursion (λ x. x < N) ids → AllByRecursion (λ x. code n (list_of x) ≡ shade) ids → AllByRecursion (λ x. list_of x ≡ list_of first) ids
    alike first shade l is [] below shades = tt
    alike first shade l is (x ∷ ids) below shades = (same x first below.0 l (shades.0 ∙ sym is), alike first shade l is ids below.1 shades.1)
