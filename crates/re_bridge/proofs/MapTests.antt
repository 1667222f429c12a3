-- What images pass: maps of a problem into itself, and their beginnings.
use Rattle.std.proofs.Common.{◌≡◌, ℕ, zero, suc, ◌<◌, ◌≤◌, ◌+◌, ◌-◌, Bool, true, false, cond, not, leb, ltb, eqb, List, [], ◌∷◌, ◌++◌, length, map, take, drop, get_or, inl, inr, refl, sym, ap, ◌∙◌, subst, arith, append-nil, append_assoc, true≢false}
use Rattle.std.specs.Prelude.{◌&&◌, ◌||◌, ◌↔◌, Contains, IsTrue, filter}
use Rattle.std.specs.List.{AllByRecursion, list_all}
use Rattle.std.proofs.lemmas.Bool.{cases_lt}
use Rattle.std.proofs.lemmas.Bool.Decides.{nat_tests}
use Rattle.std.proofs.lemmas.List.{length-take, take-append-drop, take_all, take_more}
use Rattle.re_labels.proofs.Replacing.{support_of-push}
use Rattle.re_labels.specs.Configs.{IsConfig, image_at, sorted, support_of}
use Rattle.re_check.proofs.Telling.{read-held}
use Rattle.re_labels.proofs.Membership.{AllByRecursion-In, AllByRecursion-from_contains, Contains-In, Contains-cases, Contains-count_from, Contains-here, Contains-none, In-Contains, all-In, all-In_from, all-append, map-alike}
use Rattle.re_labels.proofs.Numbers.{IsLabelSet-count_from, IsLabelSet-filter, has_within_bound, same_labels}
use Rattle.re_labels.proofs.Sets.{IsIn-has, has-filter}
use Rattle.re_labels.proofs.Tests.{and-true, below-true, true-and, true-below}
use Rattle.re_labels.specs.Lists.{IsRising, count_from}
use Rattle.re_labels.specs.Sets.{IsLabelSet, has, with_label}
use Rattle.re_problem.specs.NamedProblems.{IsNamedProblem, NamedProblem}
use Rattle.re_labels.proofs.ConstraintImages.{config-below}
use Rattle.re_labels.proofs.Goodness.{Has-has_config, has_config-Has}
use Rattle.re_labels.proofs.SaidChoices.{found-is}
use Rattle.re_labels.specs.Constraints.{Constraint, Has, IsConstraint, has_config}
use Rattle.re_walks.specs.Walking.{BeginningsPass, IsAssignment}
use Rattle.re_bridge.specs.Reductions.{IsEndomorphism, image_set, is_kept_so_far, keeps_so_far, passes_into}

-- ---- sets of labels
with-longer : (s : List ℕ) (x : ℕ) → length s ≤ length (with_label s x)
with-longer [] x = omega arith
with-longer (y ∷ s) x = go (ltb x y) (eqb x y) (with-longer s x)
  where
    go : (a b : Bool) → length s ≤ length (with_label s x) → suc (length s) ≤ length (cond a (x ∷ y ∷ s) (cond b (y ∷ s) (y ∷ with_label s x)))
    go true b rest = omega arith
    go false true rest = omega arith
    go false false rest = omega arith

support-longer : (xs ys : List ℕ) → length (support_of xs) ≤ length (support_of (xs ++ ys))
support-longer xs [] = omega (arith, ap (λ l. length (support_of l)) (append-nil xs))
support-longer xs (y ∷ ys) =
    omega (arith, with-longer (support_of xs) y, ap length (support_of-push xs y), support-longer (xs ++ y ∷ []) ys, ap (λ l. length (support_of l)) (append_assoc xs (y ∷ []) ys))

-- fewer places have no more images
count-front : (k : ℕ) (images : List ℕ) → length (image_set (take k images)) ≤ length (image_set images)
count-front k images = omega (arith, support-longer (take k images) (drop k images), ap (λ l. length (support_of l)) (take-append-drop k images))

-- a set of labels below n has the labels below n that are in it
pub counted-set : (n : ℕ) (s : List ℕ) → IsLabelSet n s → filter (has s) (count_from 0 n) ≡ s
counted-set n s is =
    same_labels (filter (has s) (count_from 0 n)) s (IsLabelSet-filter (has s) n (count_from 0 n) (IsLabelSet-count_from 0 n n (omega arith))).0 is.0
    (λ x c. (and-true (has (count_from 0 n) x) (has s x) (sym (has-filter (has s) (count_from 0 n) x) ∙ c)).1)
    (λ x c. has-filter (has s) (count_from 0 n) x
    ∙ true-and (has (count_from 0 n) x) (has s x) (let l = has_within_bound n s is.1 x c in IsIn-has (count_from 0 n) x (Contains-count_from 0 n x (omega arith) (omega arith))) c)

-- ---- one configuration
all-below : (n : ℕ) (config : List ℕ) → ((x : ℕ) → Contains config x → x < n) → list_all (λ label. ltb label n) config ≡ true
all-below n config below = all-In_from (λ label. ltb label n) config (λ x i. true-below x n (below x (In-Contains x config i)))

module _ (constraint : Constraint) (images config : List ℕ) where
  pub kept-fact : is_kept_so_far constraint images config ≡ true → ((x : ℕ) → Contains config x → x < length images) → Has constraint (map (image_at images) config)
  kept-fact test below =
      has_config-Has constraint (map (image_at images) config) (sym (ap (λ b. not b || has_config constraint (map (image_at images) config)) (all-below (length images) config below)) ∙ test)

  pub fact-kept : (((x : ℕ) → Contains config x → x < length images) → Has constraint (map (image_at images) config)) → is_kept_so_far constraint images config ≡ true
  fact-kept fact = go (list_all (λ label. ltb label (length images)) config) refl
    where
      go : (b : Bool) → list_all (λ label. ltb label (length images)) config ≡ b → (not b || has_config constraint (map (image_at images) config)) ≡ true
      go false e = refl
      go true e =
          Has-has_config constraint (map (image_at images) config)
          (fact (λ x held. below-true x (length images) (all-In (λ label. ltb label (length images)) config e x (Contains-In x config held))))

-- the first images are images at the first places
image-front : (k x : ℕ) (images : List ℕ) → x < length (take k images) → image_at (take k images) x ≡ image_at images x
image-front zero x images l = absurd (omega (arith, l))
image-front (suc k) x [] l = absurd (omega (arith, l))
image-front (suc k) zero (y ∷ images) l = refl
image-front (suc k) (suc x) (y ∷ images) l = image-front k x images (omega (arith, l))

pub images-front : (k : ℕ) (images config : List ℕ) → ((x : ℕ) → Contains config x → x < length (take k images)) → map (image_at (take k images)) config ≡ map (image_at images) config
images-front k images config below = map-alike (image_at (take k images)) (image_at images) config (λ x held. image-front k x images (below x held))

kept-front : (constraint : Constraint) (k : ℕ) (images config : List ℕ) → is_kept_so_far constraint images config ≡ true → is_kept_so_far constraint (take k images) config ≡ true
kept-front constraint k images config test =
    fact-kept constraint (take k images) config (λ below.
    subst (Has constraint) (sym (images-front k images config below))
    (kept-fact constraint images config test (λ x held. let l = below x held in omega (arith, length-take k images))))

-- ---- all of them
keeps-front : (constraint : Constraint) (k : ℕ) (images : List ℕ) → keeps_so_far constraint images ≡ true → keeps_so_far constraint (take k images) ≡ true
keeps-front constraint k images test =
    all-In_from (is_kept_so_far constraint (take k images)) constraint.configs (λ config i. kept-front constraint k images config (all-In (is_kept_so_far constraint images) constraint.configs test config i))

-- the three tests
parts : (most : ℕ) (named : NamedProblem) (images : List ℕ) → passes_into most named images ≡ true
    → (length (image_set images) ≤ most) × (keeps_so_far named.active images ≡ true) × (keeps_so_far named.passive images ≡ true)
parts most named images test =
    let two = and-true (leb (length (image_set images)) most && keeps_so_far named.active images) (keeps_so_far named.passive images) test in
    let one = and-true (leb (length (image_set images)) most) (keeps_so_far named.active images) two.0 in
    ((let e = one.0 in let l : length (image_set images) ≤ most = grind (arith, nat_tests) in l), one.1, two.1)

together : (most : ℕ) (named : NamedProblem) (images : List ℕ) → length (image_set images) ≤ most → keeps_so_far named.active images ≡ true → keeps_so_far named.passive images ≡ true → passes_into most named images ≡ true
together most named images few active passive =
    let small : leb (length (image_set images)) most ≡ true = grind (arith, nat_tests) in
    true-and (leb (length (image_set images)) most && keeps_so_far named.active images) (keeps_so_far named.passive images)
    (true-and (leb (length (image_set images)) most) (keeps_so_far named.active images) small active) passive

pub passes-front : (most : ℕ) (named : NamedProblem) (images : List ℕ) (k : ℕ) → passes_into most named images ≡ true → passes_into most named (take k images) ≡ true
passes-front most named images k test =
    let three = parts most named images test in
    together most named (take k images) (omega (arith, count-front k images, three.0)) (keeps-front named.active k images three.1) (keeps-front named.passive k images three.2)

pub begin : (most : ℕ) (named : NamedProblem) → BeginningsPass (passes_into most named) (length named.names) (length named.names)
begin most named images assignment test k = passes-front most named images k test

-- ---- maps
module _ (named : NamedProblem) (is : IsNamedProblem named) where
  pub map-passes : (most : ℕ) (images : List ℕ) → IsEndomorphism named images → length (image_set images) ≤ most → passes_into most named images ≡ true
  map-passes most images maps few = together most named images few (keeps named.active maps.relaxed.active) (keeps named.passive maps.relaxed.passive)
    where
      keeps : (constraint : Constraint) → ((config : List ℕ) → Contains constraint.configs config → Has constraint (map (image_at images) config)) → keeps_so_far constraint images ≡ true
      keeps constraint held = all-In_from (is_kept_so_far constraint images) constraint.configs (λ config i. fact-kept constraint images config (λ below. held config (In-Contains config constraint.configs i)))

  pub passes-map : (most : ℕ) (images : List ℕ) → IsAssignment (length named.names) (length named.names) images → passes_into most named images ≡ true → IsEndomorphism named images × (length (image_set images) ≤ most)
  passes-map most images assignment test = (
    record {
      assignment = assignment;
      relaxed = record {
        active_degree = refl;
        passive_degree = refl;
        active = held named.active is.problem.active (parts most named images test).1;
        passive = held named.passive is.problem.passive (parts most named images test).2;
      };
    },
    (parts most named images test).0,
  )
    where
      held : (constraint : Constraint) → IsConstraint (length named.names) constraint → keeps_so_far constraint images ≡ true → (config : List ℕ) → Contains constraint.configs config → Has constraint (map (image_at images) config)
      held constraint c keeps config at =
          let i = Contains-In config constraint.configs at in
          kept-fact constraint images config (all-In (is_kept_so_far constraint images) constraint.configs keeps config i)
          (λ x h. let l = config-below (length named.names) constraint c config x i (Contains-In x config h) in let count = assignment.0 in omega arith)

-- ---- one configuration, where those before the last image keep it
-- the last label of a configuration is its highest
last-most : (xs : List ℕ) (x k d : ℕ) → suc k ≡ length xs → IsRising (λ x y. x ≤ y) xs → Contains xs x → x ≤ get_or xs k d
last-most [] x k d e h held = absurd (Contains-none x held)
last-most (y ∷ []) x zero d e h held = elim (Contains-cases x y [] held) [ inl same ↦ omega (arith, same) | inr i ↦ absurd (Contains-none x i) ]
last-most (y ∷ []) x (suc k) d e h held = absurd (omega (arith, e))
last-most (y ∷ z ∷ xs) x zero d e h held = absurd (omega (arith, e))
last-most (y ∷ z ∷ xs) x (suc k) d e h held = elim (Contains-cases x y (z ∷ xs) held) [
  | inl same ↦ omega (arith, same, h.0, last-most (z ∷ xs) z k d (omega (arith, e)) h.1 (Contains-here z xs))
  | inr i ↦ last-most (z ∷ xs) x k d (omega (arith, e)) h.1 i
]

module _ (constraint : Constraint) (images config : List ℕ) (k last : ℕ) (whole : suc k ≡ length config) (at : last ≡ get_or config k 0) (rises : IsRising (λ x y. x ≤ y) config) where
  highest : (x : ℕ) → Contains config x → x ≤ last
  highest x held = omega (arith, at, last-most config x k 0 whole rises held)

  -- it is kept where another label is the last
  pub kept-passed : (last + 1 ≡ length images → ⊥) → is_kept_so_far constraint (take (length images - 1) images) config ≡ true → is_kept_so_far constraint images config ≡ true
  kept-passed other front = fact-kept constraint images config (λ below.
      let there : last < length images = below last (subst (Contains config) (sym at) (read-held config k 0 (omega (arith, whole)))) in
      elim (cases_lt (last + 1) (length images)) [
        | inl less ↦
            let low : (x : ℕ) → Contains config x → x < length (take (length images - 1) images) = λ x held. omega (arith, highest x held, less, length-take (length images - 1) images) in
            subst (Has constraint) (images-front (length images - 1) images config low) (kept-fact constraint (take (length images - 1) images) config front low)
        | inr over ↦ absurd (other (omega (arith, over, there)))
      ])

  -- else all its labels have images
  pub all-known : last + 1 ≡ length images → AllByRecursion (λ x. x < length images) config
  all-known same = AllByRecursion-from_contains (λ x. x < length images) config (λ x held. omega (arith, highest x held, same))

  pub kept-tested : (r : Bool) (image : List ℕ) → last + 1 ≡ length images → IsTrue r ↔ Contains constraint.configs image → image ≡ sorted (map (image_at images) config) → r ≡ is_kept_so_far constraint images config
  kept-tested r image same tells is =
      found-is constraint (map (image_at images) config) image r tells is
      ∙ sym (ap (λ b. not b || has_config constraint (map (image_at images) config)) (all-below (length images) config (λ x held. omega (arith, highest x held, same))))

-- ---- a list whose elements pass a test
pub all-more : {X : Type 0} (p : X → Bool) (xs : List X) (place : ℕ) (x d : X) → place < length xs → x ≡ get_or xs place d → list_all p (take place xs) ≡ true → p x ≡ true → list_all p (take (place + 1) xs) ≡ true
all-more p xs place x d l at so_far passes =
    ap (list_all p) (take_more xs place d l ∙ ap (λ y. take place xs ++ y ∷ []) (sym at)) ∙ all-append p (take place xs) (x ∷ [])
    ∙ true-and (list_all p (take place xs)) (p x && true) so_far (true-and (p x) true passes refl)

pub all-fails : {X : Type 0} (p : X → Bool) (xs : List X) (place : ℕ) (x d : X) → place < length xs → x ≡ get_or xs place d → p x ≡ false → list_all p xs ≡ false
all-fails {X} p xs place x d l at fails = go (list_all p xs) refl
  where
    go : (b : Bool) → list_all p xs ≡ b → list_all p xs ≡ false
    go false e = e
    go true e = absurd (true≢false (sym (all-In p xs e x (Contains-In x xs (subst (Contains xs) (sym at) (read-held xs place d l)))) ∙ fails))

pub all-done : {X : Type 0} (p : X → Bool) (xs : List X) (place : ℕ) → length xs ≤ place → list_all p (take place xs) ≡ true → list_all p xs ≡ true
all-done p xs place over so_far = ap (list_all p) (sym (take_all place xs over)) ∙ so_far

pub all-there : {X : Type 0} (p : X → Bool) (xs : List X) (place : ℕ) (x d : X) → place < length xs → x ≡ get_or xs place d → list_all p xs ≡ true → p x ≡ true
all-there p xs place x d l at all = all-In p xs all x (Contains-In x xs (subst (Contains xs) (sym at) (read-held xs place d l)))

-- ---- no image yet
no-labels-known : (degree n : ℕ) (config : List ℕ) → 2 ≤ degree → IsConfig degree n config → ((x : ℕ) → Contains config x → x < 0) → ⊥
no-labels-known degree n [] two is below = omega (arith, two, is.count)
no-labels-known degree n (x ∷ config) two is below = let l = below x (Contains-here x config) in omega arith

pub none-passes : (most : ℕ) (named : NamedProblem) → IsNamedProblem named → passes_into most named [] ≡ true
none-passes most named is = together most named [] (omega arith) (keeps named.active is.problem.active) (keeps named.passive is.problem.passive)
  where
    keeps : (constraint : Constraint) → IsConstraint (length named.names) constraint → keeps_so_far constraint [] ≡ true
    keeps constraint c = all-In_from (is_kept_so_far constraint []) constraint.configs (λ config i.
        fact-kept constraint [] config (λ below. absurd (no-labels-known constraint.degree (length named.names) config c.least (AllByRecursion-In (IsConfig constraint.degree (length named.names)) constraint.configs config c.configs i) below)))
