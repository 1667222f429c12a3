-- Labels along the paths that a set fills: from any two labels, those of the walk from the one, as far as it can towards the other, and what stands beside
-- them.
use Rattle.std.proofs.Common.{◌≡◌, ℕ, zero, suc, ◌*◌, ◌<◌, Bool, true, false, eqb, List, [], ◌∷◌, cond, refl, sym, ◌∙◌, subst, arith}
use Rattle.std.specs.Prelude.{Contains, not}
use Rattle.std.specs.List.{AllByRecursion, list_any}
use Rattle.std.proofs.lemmas.Bool.{cond-true}
use Rattle.re_forests.proofs.Fills.{Fills}
use Rattle.re_forests.specs.Flexible.{Leads, side}
use Rattle.re_labels.proofs.Membership.{any_found, any_true}
use Rattle.re_labels.proofs.Tests.{eqb-same, eqb-true}
use Rattle.re_problem.specs.Problems.{Problem}
use Rattle.re_labels.specs.Constraints.{Has}

-- the kind of a node i hops from one of this kind
abbrev pub turned : ℕ → Bool → Bool
turned zero active = active
turned (suc i) active = turned i (not active)

pub turned-not : (i : ℕ) (active : Bool) → turned i (not active) ≡ not (turned i active)
turned-not zero active = refl
turned-not (suc i) active = turned-not i (not active)

-- ---- the labels of a walk by their places, and the other labels around its nodes
module _ (problem : Problem) (set : List ℕ) where
  abbrev pub label_on : (active : Bool) (m x y : ℕ) → Leads problem set active m x y → ℕ → ℕ
  label_on active zero x y walk i = x
  label_on active (suc m) x y walk zero = x
  label_on active (suc m) x y walk (suc i) = label_on (not active) m walk.0 y walk.3 i

  abbrev pub rest_on : (active : Bool) (m x y : ℕ) → Leads problem set active m x y → ℕ → List ℕ
  rest_on active zero x y walk i = []
  rest_on active (suc m) x y walk zero = walk.2.0
  rest_on active (suc m) x y walk (suc i) = rest_on (not active) m walk.0 y walk.3 i

  pub label_first : (active : Bool) (m x y : ℕ) (walk : Leads problem set active m x y) → label_on active m x y walk 0 ≡ x
  label_first active zero x y walk = refl
  label_first active (suc m) x y walk = refl

  pub label_last : (active : Bool) (m x y : ℕ) (walk : Leads problem set active m x y) → label_on active m x y walk m ≡ y
  label_last active zero x y walk = walk
  label_last active (suc m) x y walk = label_last (not active) m walk.0 y walk.3

  pub label_in : (active : Bool) (m x y : ℕ) (walk : Leads problem set active m x y) → Contains set x → (i : ℕ) → Contains set (label_on active m x y walk i)
  label_in active zero x y walk held i = held
  label_in active (suc m) x y walk held zero = held
  label_in active (suc m) x y walk held (suc i) = label_in (not active) m walk.0 y walk.3 walk.1 i

  pub rest_in : (active : Bool) (m x y : ℕ) (walk : Leads problem set active m x y) (i : ℕ) → AllByRecursion (λ z. Contains set z) (rest_on active m x y walk i)
  rest_in active zero x y walk i = tt
  rest_in active (suc m) x y walk zero = walk.2.1
  rest_in active (suc m) x y walk (suc i) = rest_in (not active) m walk.0 y walk.3 i

  pub walk_has : (active : Bool) (m x y : ℕ) (walk : Leads problem set active m x y) (i : ℕ) → i < m
      → Has (side problem (turned i active)) (label_on active m x y walk i ∷ label_on active m x y walk (suc i) ∷ rest_on active m x y walk i)
  walk_has active zero x y walk i low = absurd (omega arith)
  walk_has active (suc m) x y walk zero low =
      subst (λ z. Has (side problem active) (x ∷ z ∷ walk.2.0)) (sym (label_first (not active) m walk.0 y walk.3)) walk.2.2
  walk_has active (suc m) x y walk (suc i) low = walk_has (not active) m walk.0 y walk.3 i (omega arith)

-- ---- from any labels, of the set or not
module _ (problem : Problem) (set : List ℕ) (l : ℕ) {Paths : Type 0} (fills : Fills problem set l Paths) where
  -- the label itself, or if it isn't of the set one that is
  abbrev pub fixed : ℕ → ℕ
  fixed x = cond (list_any (eqb x) set) x fills.some.0

  pub fixed_in : (x : ℕ) → Contains set (fixed x)
  fixed_in x = go (list_any (eqb x) set) refl
    where
      go : (b : Bool) → list_any (eqb x) set ≡ b → Contains set (cond b x fills.some.0)
      go true is = let (y, held, same) = any_found (eqb x) set is in subst (Contains set) (sym (eqb-true x y same)) held
      go false is = fills.some.1

  pub fixed_same : (x : ℕ) → Contains set x → fixed x ≡ x
  fixed_same x held = cond-true (list_any (eqb x) set) x fills.some.0 (any_true (eqb x) set x held (eqb-same x))

  -- where the walk from x to y ends: at y, if there are paths
  abbrev pub end : Bool → ℕ → ℕ → ℕ
  end active x y = (fills.leads active (fixed x) (fixed y) (fixed_in x) (fixed_in y)).0

  abbrev pub walk : (active : Bool) (x y : ℕ) → Leads problem set active (suc (2 * l)) (fixed x) (end active x y)
  walk active x y = (fills.leads active (fixed x) (fixed y) (fixed_in x) (fixed_in y)).1

  -- the labels between x and y on a path whose first node is of this kind, x and y among them, and the others around its nodes
  abbrev pub between : Bool → ℕ → ℕ → ℕ → ℕ
  between active x y i = label_on problem set active (suc (2 * l)) (fixed x) (end active x y) (walk active x y) i

  abbrev pub beside : Bool → ℕ → ℕ → ℕ → List ℕ
  beside active x y i = rest_on problem set active (suc (2 * l)) (fixed x) (end active x y) (walk active x y) i

  pub between_first : (active : Bool) (x y : ℕ) → between active x y 0 ≡ fixed x
  between_first active x y = label_first problem set active (suc (2 * l)) (fixed x) (end active x y) (walk active x y)

  pub between_last : Paths → (active : Bool) (x y : ℕ) → between active x y (suc (2 * l)) ≡ fixed y
  between_last ways active x y =
      label_last problem set active (suc (2 * l)) (fixed x) (end active x y) (walk active x y)
      ∙ (fills.leads active (fixed x) (fixed y) (fixed_in x) (fixed_in y)).2 ways

  pub between_in : (active : Bool) (x y i : ℕ) → Contains set (between active x y i)
  between_in active x y i = label_in problem set active (suc (2 * l)) (fixed x) (end active x y) (walk active x y) (fixed_in x) i

  pub beside_in : (active : Bool) (x y i : ℕ) → AllByRecursion (λ z. Contains set z) (beside active x y i)
  beside_in active x y i = rest_in problem set active (suc (2 * l)) (fixed x) (end active x y) (walk active x y) i

  pub between_has : (active : Bool) (x y i : ℕ) → i < suc (2 * l)
      → Has (side problem (turned i active)) (between active x y i ∷ between active x y (suc i) ∷ beside active x y i)
  between_has active x y i low = walk_has problem set active (suc (2 * l)) (fixed x) (end active x y) (walk active x y) i low

  -- what stands around a node of this kind besides x
  abbrev pub around : Bool → ℕ → List ℕ
  around active x = between active x x 1 ∷ beside active x x 0

  pub around_in : (active : Bool) (x : ℕ) → AllByRecursion (λ z. Contains set z) (around active x)
  around_in active x = (between_in active x x 1, beside_in active x x 0)

  pub around_has : (active : Bool) (x : ℕ) → Has (side problem active) (fixed x ∷ around active x)
  around_has active x = subst (λ z. Has (side problem active) (z ∷ around active x)) (between_first active x x) (between_has active x x 0 (omega arith))
