-- Two tests of strength that agree on the labels below a bound give the same classes and the same edges.
use Rattle.std.proofs.Common.{◌≡◌, ℕ, ◌<◌, ◌+◌, Bool, true, not, ◌&&◌, ◌||◌, List, [], ◌∷◌, length, map, flat_map, get_or, refl, sym, ap, ◌∙◌, subst, arith}
use Rattle.std.specs.Prelude.{Contains, slice_index, unwrap_or, ◌==◌}
use Rattle.std.specs.List.{AllByRecursion, list_any}
use Rattle.std.proofs.lemmas.List.{get_or-map, get_or_default}
use Rattle.re_labels.proofs.Membership.{Contains-count_from, Contains-filter_cases, Contains-here, Contains-later, count_from_range, filter-alike, flat_map-alike, get_or-count_from, length-count_from, map-alike}
use Rattle.re_labels.proofs.Sets.{IsIn-has, has-filter, has-meet}
use Rattle.re_labels.specs.Lists.{count_from}
use Rattle.re_labels.specs.Sets.{first_of, has, meet}
use Rattle.re_labels.specs.Constraints.{Constraint}
use Rattle.re_labels.specs.Strength.{is_at_least_as_strong, up_set}
use Rattle.re_problem.specs.Problems.{Problem}
use Rattle.re_changes.proofs.Counted.{filter-below, length-map_counted}
use Rattle.re_changes.specs.Classes.{are_equal, class_of, is_next, is_stronger, least_equal, least_labels, strong_by}
use Rattle.re_changes.specs.Diagrams.{classes_of, edges_from, edges_of}
use Rattle.re_changes.specs.Merging.{covers}

-- ---- lists under tests and maps that agree on their elements
pub any-alike : {X : Type 0} (p q : X → Bool) (xs : List X) → ((x : X) → Contains xs x → p x ≡ q x) → list_any p xs ≡ list_any q xs
any-alike p q [] h = refl
any-alike p q (x ∷ xs) h = λ i. h x (Contains-here x xs) i || any-alike p q xs (λ y held. h y (Contains-later y x xs held)) i

pub below_bound : (n x : ℕ) → Contains (count_from 0 n) x → x < n
below_bound n x held = let range = count_from_range 0 n x held in omega (arith, range.1)

-- the test agrees with the other one on the labels below n
abbrev pub Alike : ℕ → (ℕ → ℕ → Bool) → (ℕ → ℕ → Bool) → Type 0
Alike n strong other = (b a : ℕ) → b < n → a < n → strong b a ≡ other b a

module _ (n : ℕ) (strong other : ℕ → ℕ → Bool) (alike : Alike n strong other) where
  pub class_of-alike : (a : ℕ) → a < n → class_of strong n a ≡ class_of other n a
  class_of-alike a l = filter-alike (are_equal strong a) (are_equal other a) (count_from 0 n)
      (λ b held. let m = below_bound n b held in λ i. alike a b l m i && alike b a m l i)

  pub least_equal-alike : (a : ℕ) → a < n → least_equal strong n a ≡ least_equal other n a
  least_equal-alike a l = ap (λ class. unwrap_or (first_of class) a) (class_of-alike a l)

  pub least_labels-alike : least_labels strong n ≡ least_labels other n
  least_labels-alike = filter-alike (λ a. least_equal strong n a == a) (λ a. least_equal other n a == a) (count_from 0 n)
      (λ a held. ap (λ least. least == a) (least_equal-alike a (below_bound n a held)))

  stronger-alike : (b a : ℕ) → b < n → a < n → is_stronger strong b a ≡ is_stronger other b a
  stronger-alike b a l m = λ i. alike b a l m i && not (alike a b m l i)

  next-alike : (b a : ℕ) → b < n → a < n → is_next strong n b a ≡ is_next other n b a
  next-alike b a l m =
      let between = any-alike (λ c. is_stronger strong c a && is_stronger strong b c) (λ c. is_stronger other c a && is_stronger other b c) (count_from 0 n)
      (λ c held. let k = below_bound n c held in λ i. stronger-alike c a k m i && stronger-alike b c l k i) in
      λ i. stronger-alike b a l m i && not (between i)

  -- a label of the list of least labels, by its place
  least-below : (y : ℕ) → y < length (least_labels other n) → slice_index (least_labels other n) y < n
  least-below y l = below_bound n (slice_index (least_labels other n) y)
      (Contains-filter_cases (λ a. least_equal other n a == a) (count_from 0 n) (slice_index (least_labels other n) y) (y, l, get_or_default (least_labels other n) y (slice_index (least_labels other n) y) 0 l)).0

  pub edges_from-alike : (x : ℕ) → x < length (least_labels other n) → edges_from strong n (least_labels other n) x ≡ edges_from other n (least_labels other n) x
  edges_from-alike x l = ap (map (λ y. (x, y))) (filter-alike (λ y. is_next strong n (slice_index (least_labels other n) y) (slice_index (least_labels other n) x))
      (λ y. is_next other n (slice_index (least_labels other n) y) (slice_index (least_labels other n) x)) (count_from 0 (length (least_labels other n)))
      (λ y held. next-alike (slice_index (least_labels other n) y) (slice_index (least_labels other n) x) (least-below y (below_bound (length (least_labels other n)) y held)) (least-below x l)))

-- ---- the tests by lists of sets
pub has-counted : (n x : ℕ) → x < n → has (count_from 0 n) x ≡ true
has-counted n x l = IsIn-has (count_from 0 n) x (Contains-count_from 0 n x (omega arith) (omega arith))

pub strong_by-map : (f : ℕ → List ℕ) (n a b : ℕ) → a < n → strong_by (map f (count_from 0 n)) b a ≡ has (f a) b
strong_by-map f n a b l =
    let m : a < length (count_from 0 n) = omega (arith, length-count_from 0 n) in
    let z : 0 + a ≡ a = omega arith in
    ap (λ s. has s b) (get_or-map f (count_from 0 n) a 0 [] m ∙ ap f (get_or-count_from 0 n a 0 l ∙ z))

has-up_set : (constraint : Constraint) (n a b : ℕ) → b < n → has (up_set constraint a n) b ≡ is_at_least_as_strong constraint b a
has-up_set constraint n a b l =
    has-filter (λ b. is_at_least_as_strong constraint b a) (count_from 0 n) b ∙ ap (λ t. t && is_at_least_as_strong constraint b a) (has-counted n b l)

pub up_sets-alike : (constraint : Constraint) (n : ℕ) → Alike n (strong_by (map (λ a. up_set constraint a n) (count_from 0 n))) (is_at_least_as_strong constraint)
up_sets-alike constraint n b a l m = strong_by-map (λ a. up_set constraint a n) n a b m ∙ has-up_set constraint n a b l

pub cover_sets-alike : (problem : Problem) (n : ℕ) → Alike n (strong_by (map (λ a. meet (up_set problem.active a n) (up_set problem.passive a n)) (count_from 0 n))) (covers problem)
cover_sets-alike problem n b a l m =
    strong_by-map (λ a. meet (up_set problem.active a n) (up_set problem.passive a n)) n a b m ∙ has-meet (up_set problem.active a n) (up_set problem.passive a n) b
    ∙ (λ i. has-up_set problem.active n a b l i && has-up_set problem.passive n a b l i)

-- ---- what is drawn from the list of up-sets
pub least-within : (strong : ℕ → ℕ → Bool) (n m : ℕ) (least : List ℕ) → least ≡ least_labels strong n → n ≡ m → AllByRecursion (λ label. label < m) least
least-within strong n m least e same = subst (AllByRecursion (λ label. label < m)) (sym e) (filter-below (λ a. least_equal strong n a == a) 0 n m (omega arith))

module _ (constraint : Constraint) (n : ℕ) where
  by_sets : (ups : List (List ℕ)) → ups ≡ map (λ a. up_set constraint a n) (count_from 0 n) → Alike n (strong_by ups) (is_at_least_as_strong constraint)
  by_sets ups e = subst (λ s. Alike n (strong_by s) (is_at_least_as_strong constraint)) (sym e) (up_sets-alike constraint n)

  how_many : (ups : List (List ℕ)) → ups ≡ map (λ a. up_set constraint a n) (count_from 0 n) → length ups ≡ n
  how_many ups e = ap length e ∙ length-map_counted (λ a. up_set constraint a n) n

  pub least-drawn : (ups : List (List ℕ)) (least : List ℕ) → ups ≡ map (λ a. up_set constraint a n) (count_from 0 n) → least ≡ least_labels (strong_by ups) (length ups)
      → least ≡ least_labels (is_at_least_as_strong constraint) n
  least-drawn ups least e drawn = drawn ∙ ap (least_labels (strong_by ups)) (how_many ups e) ∙ least_labels-alike n (strong_by ups) (is_at_least_as_strong constraint) (by_sets ups e)

  pub classes-drawn : (ups : List (List ℕ)) (least : List ℕ) (classes : List (List ℕ)) → ups ≡ map (λ a. up_set constraint a n) (count_from 0 n)
      → least ≡ least_labels (is_at_least_as_strong constraint) n → classes ≡ map (class_of (strong_by ups) (length ups)) least → classes ≡ classes_of constraint n
  classes-drawn ups least classes e drawn h =
      h ∙ (λ i. map (class_of (strong_by ups) (how_many ups e i)) (drawn i))
      ∙ map-alike (class_of (strong_by ups) n) (class_of (is_at_least_as_strong constraint) n) (least_labels (is_at_least_as_strong constraint) n)
      (λ a held. class_of-alike n (strong_by ups) (is_at_least_as_strong constraint) (by_sets ups e) a (below_bound n a (Contains-filter_cases (λ a. least_equal (is_at_least_as_strong constraint) n a == a) (count_from 0 n) a held).0))

  pub edges-drawn : (ups : List (List ℕ)) (least : List ℕ) (edges : List (ℕ × ℕ)) → ups ≡ map (λ a. up_set constraint a n) (count_from 0 n)
      → least ≡ least_labels (is_at_least_as_strong constraint) n → edges ≡ flat_map (edges_from (strong_by ups) (length ups) least) (count_from 0 (length least)) → edges ≡ edges_of constraint n
  edges-drawn ups least edges e drawn h =
      h ∙ (λ i. flat_map (edges_from (strong_by ups) (how_many ups e i) (drawn i)) (count_from 0 (length (drawn i))))
      ∙ flat_map-alike (edges_from (strong_by ups) n (least_labels (is_at_least_as_strong constraint) n)) (edges_from (is_at_least_as_strong constraint) n (least_labels (is_at_least_as_strong constraint) n))
      (count_from 0 (length (least_labels (is_at_least_as_strong constraint) n)))
      (λ x held. edges_from-alike n (strong_by ups) (is_at_least_as_strong constraint) (by_sets ups e) x (below_bound (length (least_labels (is_at_least_as_strong constraint) n)) x held))

-- ---- what is read in a list of sets, one for each number
pub read-counted : (f : ℕ → List ℕ) (n k : ℕ) (sets : List (List ℕ)) (set : List ℕ) → sets ≡ map f (count_from 0 n) → k < n → set ≡ get_or sets k set → set ≡ f k
read-counted f n k sets set e below read =
    read ∙ ap (λ l. get_or l k set) e ∙ get_or-map f (count_from 0 n) k 0 set (let l = length-count_from 0 n in omega (arith, l, below)) ∙ ap f (get_or-count_from 0 n k 0 below ∙ omega arith)
