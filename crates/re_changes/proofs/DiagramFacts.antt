-- What the classes and the edges of a diagram are.
use Rattle.std.proofs.Common.{◌≡◌, ℕ, ◌<◌, Bool, true, false, not, ◌&&◌, List, [], length, get_or, refl, sym, ap, ◌∙◌, subst, arith}
use Rattle.std.specs.Prelude.{Contains, filter, slice_index}
use Rattle.std.specs.List.{list_any}
use Rattle.std.proofs.lemmas.Bool.{false≢true}
use Rattle.std.proofs.lemmas.List.{get_or-map}
use Rattle.re_labels.proofs.Membership.{Contains-count_from, Contains-filter, Contains-filter_cases, Contains-flat_map, Contains-flat_map_cases, Contains-map, Contains-map_cases, any_found, any_true, length-map'}
use Rattle.re_labels.proofs.Tests.{and-true, same_tests, true-and}
use Rattle.re_labels.specs.Lists.{count_from}
use Rattle.re_labels.specs.Sets.{IsIn}
use Rattle.re_labels.proofs.Strengths.{IsAtLeastAsStrong-refl, IsAtLeastAsStrong-test, IsAtLeastAsStrong-trans, is_at_least_as_strong-fact}
use Rattle.re_labels.specs.Constraints.{Constraint, IsConstraint}
use Rattle.re_labels.specs.Strength.{IsAtLeastAsStrong, is_at_least_as_strong}
use Rattle.re_changes.proofs.Alike.{any-alike, below_bound}
use Rattle.re_changes.proofs.EqualLabels.{equal-chain, equal-flip, in_class, least-in_class, least-stays}
use Rattle.re_changes.specs.Classes.{are_equal, class_of, is_next, is_stronger, least_equal, least_labels}
use Rattle.re_changes.specs.Diagrams.{classes_of, edges_from, edges_of}
use Rattle.re_changes.specs.Laws.{ClassLaw, EdgeLaw, IsStronger}

not-true : (b : Bool) → not b ≡ true → b ≡ true → ⊥
not-true b h e = false≢true (sym (ap not e) ∙ h)

true-not : (b : Bool) → (b ≡ true → ⊥) → not b ≡ true
true-not true h = absurd (h refl)
true-not false h = refl

module _ (constraint : Constraint) (n : ℕ) (is : IsConstraint n constraint) where
  itself : (a : ℕ) → is_at_least_as_strong constraint a a ≡ true
  itself a = IsAtLeastAsStrong-test constraint a a (IsAtLeastAsStrong-refl constraint n a is)

  chain : (a b c : ℕ) → is_at_least_as_strong constraint b a ≡ true → is_at_least_as_strong constraint c b ≡ true → is_at_least_as_strong constraint c a ≡ true
  chain a b c one two = IsAtLeastAsStrong-test constraint a c (IsAtLeastAsStrong-trans constraint a b c (is_at_least_as_strong-fact constraint a b one) (is_at_least_as_strong-fact constraint b c two))

  -- ---- classes
  equal-fact : (a b : ℕ) → are_equal (is_at_least_as_strong constraint) a b ≡ true → IsAtLeastAsStrong constraint a b × IsAtLeastAsStrong constraint b a
  equal-fact a b e =
      let two = and-true (is_at_least_as_strong constraint a b) (is_at_least_as_strong constraint b a) e in
      (is_at_least_as_strong-fact constraint b a two.0, is_at_least_as_strong-fact constraint a b two.1)

  equal-test : (a b : ℕ) → IsAtLeastAsStrong constraint a b × IsAtLeastAsStrong constraint b a → are_equal (is_at_least_as_strong constraint) a b ≡ true
  equal-test a b two = true-and (is_at_least_as_strong constraint a b) (is_at_least_as_strong constraint b a) (IsAtLeastAsStrong-test constraint b a two.0) (IsAtLeastAsStrong-test constraint a b two.1)

  of-class : (l a : ℕ) → IsIn a (class_of (is_at_least_as_strong constraint) n l) → are_equal (is_at_least_as_strong constraint) l a ≡ true
  of-class l a i = (Contains-filter_cases (are_equal (is_at_least_as_strong constraint) l) (count_from 0 n) a i).1

  one-class : (a b : ℕ) → (class : List ℕ) × Contains (classes_of constraint n) class × IsIn a class × IsIn b class → IsAtLeastAsStrong constraint a b × IsAtLeastAsStrong constraint b a
  one-class a b (class, held, ia, ib) =
      let (l, at, e) = Contains-map_cases (class_of (is_at_least_as_strong constraint) n) (least_labels (is_at_least_as_strong constraint) n) class held in
      let ea = of-class l a (subst (IsIn a) (sym e) ia) in
      let eb = of-class l b (subst (IsIn b) (sym e) ib) in
      equal-fact a b (equal-chain (is_at_least_as_strong constraint) n itself chain a l b (equal-flip (is_at_least_as_strong constraint) n itself chain l a ea) eb)

  class-one : (a b : ℕ) → a < n → b < n → IsAtLeastAsStrong constraint a b × IsAtLeastAsStrong constraint b a → (class : List ℕ) × Contains (classes_of constraint n) class × IsIn a class × IsIn b class
  class-one a b la lb two =
      let l = least_equal (is_at_least_as_strong constraint) n a in
      let it = least-in_class (is_at_least_as_strong constraint) n itself chain a la in
      let back = equal-flip (is_at_least_as_strong constraint) n itself chain a (least_equal (is_at_least_as_strong constraint) n a) it.1 in (
        class_of (is_at_least_as_strong constraint) n (least_equal (is_at_least_as_strong constraint) n a),
        Contains-map (class_of (is_at_least_as_strong constraint) n) (least_labels (is_at_least_as_strong constraint) n) (least_equal (is_at_least_as_strong constraint) n a) (least-stays (is_at_least_as_strong constraint) n itself chain a la),
        in_class (is_at_least_as_strong constraint) n itself chain (least_equal (is_at_least_as_strong constraint) n a) a la back,
        in_class (is_at_least_as_strong constraint) n itself chain (least_equal (is_at_least_as_strong constraint) n a) b lb
            (equal-chain (is_at_least_as_strong constraint) n itself chain (least_equal (is_at_least_as_strong constraint) n a) a b back (equal-test a b two)),
      )

  -- ---- strength among classes
  stronger-fact : (b a : ℕ) → is_stronger (is_at_least_as_strong constraint) b a ≡ true → IsStronger constraint b a
  stronger-fact b a h =
      let two = and-true (is_at_least_as_strong constraint b a) (not (is_at_least_as_strong constraint a b)) h in
      (is_at_least_as_strong-fact constraint a b two.0, λ back. not-true (is_at_least_as_strong constraint a b) two.1 (IsAtLeastAsStrong-test constraint b a back))

  stronger-test : (b a : ℕ) → IsStronger constraint b a → is_stronger (is_at_least_as_strong constraint) b a ≡ true
  stronger-test b a two = true-and (is_at_least_as_strong constraint b a) (not (is_at_least_as_strong constraint a b)) (IsAtLeastAsStrong-test constraint a b two.0)
      (true-not (is_at_least_as_strong constraint a b) (λ t. two.1 (is_at_least_as_strong-fact constraint b a t)))

  next-fact : (b a : ℕ) → is_next (is_at_least_as_strong constraint) n b a ≡ true → IsStronger constraint b a × ((c : ℕ) → c < n → IsStronger constraint c a → IsStronger constraint b c → ⊥)
  next-fact b a h =
      let two = and-true (is_stronger (is_at_least_as_strong constraint) b a) (not (list_any (λ c. is_stronger (is_at_least_as_strong constraint) c a && is_stronger (is_at_least_as_strong constraint) b c) (count_from 0 n))) h in (
        stronger-fact b a two.0,
        λ c l low high. not-true (list_any (λ c. is_stronger (is_at_least_as_strong constraint) c a && is_stronger (is_at_least_as_strong constraint) b c) (count_from 0 n)) two.1
            (any_true (λ c. is_stronger (is_at_least_as_strong constraint) c a && is_stronger (is_at_least_as_strong constraint) b c) (count_from 0 n) c (Contains-count_from 0 n c (omega arith) (omega arith))
            (true-and (is_stronger (is_at_least_as_strong constraint) c a) (is_stronger (is_at_least_as_strong constraint) b c) (stronger-test c a low) (stronger-test b c high))),
      )

  next-test : (b a : ℕ) → IsStronger constraint b a × ((c : ℕ) → c < n → IsStronger constraint c a → IsStronger constraint b c → ⊥) → is_next (is_at_least_as_strong constraint) n b a ≡ true
  next-test b a two = true-and (is_stronger (is_at_least_as_strong constraint) b a) (not (list_any (λ c. is_stronger (is_at_least_as_strong constraint) c a && is_stronger (is_at_least_as_strong constraint) b c) (count_from 0 n)))
      (stronger-test b a two.0)
      (true-not (list_any (λ c. is_stronger (is_at_least_as_strong constraint) c a && is_stronger (is_at_least_as_strong constraint) b c) (count_from 0 n)) (λ t.
      let (c, held, passes) = any_found (λ c. is_stronger (is_at_least_as_strong constraint) c a && is_stronger (is_at_least_as_strong constraint) b c) (count_from 0 n) t in
      let pair = and-true (is_stronger (is_at_least_as_strong constraint) c a) (is_stronger (is_at_least_as_strong constraint) b c) passes in
      two.1 c (below_bound n c held) (stronger-fact c a pair.0) (stronger-fact b c pair.1)))

  -- equal labels stand alike
  strong-alike : (a a' b b' : ℕ) → are_equal (is_at_least_as_strong constraint) a a' ≡ true → are_equal (is_at_least_as_strong constraint) b b' ≡ true → is_at_least_as_strong constraint b a ≡ true → is_at_least_as_strong constraint b' a' ≡ true
  strong-alike a a' b b' ea eb h =
      let pa = and-true (is_at_least_as_strong constraint a a') (is_at_least_as_strong constraint a' a) ea in
      let pb = and-true (is_at_least_as_strong constraint b b') (is_at_least_as_strong constraint b' b) eb in
      chain a' b b' (chain a' a b pa.0 h) pb.1

  stronger-alike : (a a' b b' : ℕ) → are_equal (is_at_least_as_strong constraint) a a' ≡ true → are_equal (is_at_least_as_strong constraint) b b' ≡ true
      → is_stronger (is_at_least_as_strong constraint) b a ≡ is_stronger (is_at_least_as_strong constraint) b' a'
  stronger-alike a a' b b' ea eb =
      let fa = equal-flip (is_at_least_as_strong constraint) n itself chain a a' ea in
      let fb = equal-flip (is_at_least_as_strong constraint) n itself chain b b' eb in
      λ i. same_tests (is_at_least_as_strong constraint b a) (is_at_least_as_strong constraint b' a') (strong-alike a a' b b' ea eb) (strong-alike a' a b' b fa fb) i
      && not (same_tests (is_at_least_as_strong constraint a b) (is_at_least_as_strong constraint a' b') (strong-alike b b' a a' eb ea) (strong-alike b' b a' a fb fa) i)

  equal-itself : (c : ℕ) → are_equal (is_at_least_as_strong constraint) c c ≡ true
  equal-itself c = true-and (is_at_least_as_strong constraint c c) (is_at_least_as_strong constraint c c) (itself c) (itself c)

  next-alike : (a a' b b' : ℕ) → are_equal (is_at_least_as_strong constraint) a a' ≡ true → are_equal (is_at_least_as_strong constraint) b b' ≡ true
      → is_next (is_at_least_as_strong constraint) n b a ≡ is_next (is_at_least_as_strong constraint) n b' a'
  next-alike a a' b b' ea eb =
      let between = any-alike (λ c. is_stronger (is_at_least_as_strong constraint) c a && is_stronger (is_at_least_as_strong constraint) b c) (λ c. is_stronger (is_at_least_as_strong constraint) c a' && is_stronger (is_at_least_as_strong constraint) b' c) (count_from 0 n)
      (λ c held. λ i. stronger-alike a a' c c ea (equal-itself c) i && stronger-alike c c b b' (equal-itself c) eb i) in
      λ i. stronger-alike a a' b b' ea eb i && not (between i)

  -- ---- edges
  in-edges : (x y : ℕ) → x < length (least_labels (is_at_least_as_strong constraint) n) → y < length (least_labels (is_at_least_as_strong constraint) n)
      → is_next (is_at_least_as_strong constraint) n (slice_index (least_labels (is_at_least_as_strong constraint) n) y) (slice_index (least_labels (is_at_least_as_strong constraint) n) x) ≡ true → Contains (edges_of constraint n) (x, y)
  in-edges x y lx ly h = Contains-flat_map (edges_from (is_at_least_as_strong constraint) n (least_labels (is_at_least_as_strong constraint) n)) (count_from 0 (length (least_labels (is_at_least_as_strong constraint) n))) x (x, y)
      (Contains-count_from 0 (length (least_labels (is_at_least_as_strong constraint) n)) x (omega arith) (omega arith))
      (Contains-map (λ y. (x, y)) (filter (λ y. is_next (is_at_least_as_strong constraint) n (slice_index (least_labels (is_at_least_as_strong constraint) n) y) (slice_index (least_labels (is_at_least_as_strong constraint) n) x)) (count_from 0 (length (least_labels (is_at_least_as_strong constraint) n)))) y
      (Contains-filter (λ y. is_next (is_at_least_as_strong constraint) n (slice_index (least_labels (is_at_least_as_strong constraint) n) y) (slice_index (least_labels (is_at_least_as_strong constraint) n) x)) (count_from 0 (length (least_labels (is_at_least_as_strong constraint) n))) y
      (Contains-count_from 0 (length (least_labels (is_at_least_as_strong constraint) n)) y (omega arith) (omega arith)) h))

  of-edges : (x y : ℕ) → Contains (edges_of constraint n) (x, y)
      → is_next (is_at_least_as_strong constraint) n (slice_index (least_labels (is_at_least_as_strong constraint) n) y) (slice_index (least_labels (is_at_least_as_strong constraint) n) x) ≡ true
  of-edges x y held =
      let (x', at, there) = Contains-flat_map_cases (edges_from (is_at_least_as_strong constraint) n (least_labels (is_at_least_as_strong constraint) n)) (count_from 0 (length (least_labels (is_at_least_as_strong constraint) n))) (x, y) held in
      let (y', kept, e) = Contains-map_cases (λ y. (x', y)) (filter (λ y. is_next (is_at_least_as_strong constraint) n (slice_index (least_labels (is_at_least_as_strong constraint) n) y) (slice_index (least_labels (is_at_least_as_strong constraint) n) x')) (count_from 0 (length (least_labels (is_at_least_as_strong constraint) n)))) (x, y) there in
      let passes = (Contains-filter_cases (λ y. is_next (is_at_least_as_strong constraint) n (slice_index (least_labels (is_at_least_as_strong constraint) n) y) (slice_index (least_labels (is_at_least_as_strong constraint) n) x')) (count_from 0 (length (least_labels (is_at_least_as_strong constraint) n))) y' kept).1 in
      let ex : x' ≡ x = λ i. (e i).0 in
      let ey : y' ≡ y = λ i. (e i).1 in
      (λ i. is_next (is_at_least_as_strong constraint) n (slice_index (least_labels (is_at_least_as_strong constraint) n) (sym ey i)) (slice_index (least_labels (is_at_least_as_strong constraint) n) (sym ex i))) ∙ passes

  -- a label of the class at a place
  at-class : (x a : ℕ) → x < length (classes_of constraint n) → IsIn a (get_or (classes_of constraint n) x [])
      → (x < length (least_labels (is_at_least_as_strong constraint) n)) × (are_equal (is_at_least_as_strong constraint) (slice_index (least_labels (is_at_least_as_strong constraint) n) x) a ≡ true)
  at-class x a l i =
      let m : x < length (least_labels (is_at_least_as_strong constraint) n) = (let e = length-map' (class_of (is_at_least_as_strong constraint) n) (least_labels (is_at_least_as_strong constraint) n) in omega arith) in
      (m, of-class (slice_index (least_labels (is_at_least_as_strong constraint) n) x) a (subst (IsIn a) (get_or-map (class_of (is_at_least_as_strong constraint) n) (least_labels (is_at_least_as_strong constraint) n) x 0 [] m) i))

pub class_law : ClassLaw
class_law constraint n a b is la lb = (one-class constraint n is a b, class-one constraint n is a b la lb)

pub edge_law : EdgeLaw
edge_law constraint n x y a b is lx ly ia ib =
    let ca = at-class constraint n is x a lx ia in
    let cb = at-class constraint n is y b ly ib in
    let same = next-alike constraint n is (slice_index (least_labels (is_at_least_as_strong constraint) n) x) a (slice_index (least_labels (is_at_least_as_strong constraint) n) y) b ca.1 cb.1 in (
      λ held. next-fact constraint n is b a (sym same ∙ of-edges constraint n is x y held),
      λ two. in-edges constraint n is x y ca.0 cb.0 (same ∙ next-test constraint n is b a two),
    )
