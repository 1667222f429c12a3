-- What few rounds put on edges of coloured trees without leaves are the labels of a flexible set.
use Rattle.std.proofs.Common.{◌≡◌, ℕ, zero, suc, pred, ◌+◌, ◌*◌, ◌^◌, ◌≤◌, ◌<◌, Bool, true, false, List, length, refl, ◌∙◌, subst, arith}
use Rattle.std.specs.Prelude.{if◌then◌else◌}
use Rattle.std.proofs.lemmas.Bool.{false≢true}
use Rattle.re_forests.proofs.EdgeLabels.{label_on}
use Rattle.re_forests.specs.Flexible.{IsFlexible}
use Rattle.re_forests.specs.OnForests.{SolvesOn}
use Rattle.re_gap.proofs.Around.{label_low}
use Rattle.re_gap.proofs.Closed.{LeadsBy, flexible_set}
use Rattle.re_gap.proofs.Coloured.{far, run, run_solves}
use Rattle.re_gap.proofs.FreeColours.{extended, extended_coloured}
use Rattle.re_gap.proofs.Joined.{joined, reach}
use Rattle.re_gap.proofs.Realised.{IsOn, IsRegular, as_active, of_kind}
use Rattle.re_gap.proofs.SpeedUp.{enough, faster}
use Rattle.re_gap.proofs.Trees.{IsTree}
use Rattle.re_gap.specs.Laws.{GapLaw}
use Rattle.re_layers.proofs.Balls.{ball_size}
use Rattle.re_layers.proofs.RegularTrees.{up, up_lower, whole, whole_apart, whole_both, whole_edge, whole_full, whole_turns, whole_ups}
use Rattle.re_layers.specs.Laws.{FarColoursLaw}
use Rattle.re_layers.specs.Networks.{IsForest, IsLocal, Network}
use Rattle.re_problem.specs.Problems.{IsProblem, Problem}

less_one : (d : ℕ) → 2 ≤ d → (1 ≤ pred d) × (suc (pred d) ≡ d)
less_one zero low = absurd (omega (arith, low))
less_one (suc d) low = (omega (arith, low), refl)

module _ (problem : Problem) (N T : ℕ) (algorithm : Network → ℕ → List ℕ) (is : IsProblem problem) (local : IsLocal T algorithm)
    (solves : (G : Network) → IsForest problem.active.degree problem.passive.degree N G → SolvesOn problem G (algorithm G))
    (room : suc (ball_size (problem.active.degree + problem.passive.degree) (far T)) ≤ N) where
  abbrev IsMet : ℕ → Type 0
  IsMet x = IsOn problem N T algorithm true x

  met_low : (x : ℕ) → IsMet x → x < problem.labels
  met_low x on =
      subst (λ z. z < problem.labels) on.label
      (label_low problem is on.G (run N T algorithm on.G on.colour) on.regular.tree on.regular.full
      (run_solves N T algorithm is local solves on.regular.tree on.regular.coloured) on.to on.from
      (on.regular.tree.both on.from on.to on.edge))

  abbrev pair : ℕ → ℕ → Bool → ℕ
  pair x y true = x
  pair x y false = y

  met_leads : (active : Bool) (x y : ℕ) → IsMet x → IsMet y → LeadsBy problem IsMet active (suc (2 * suc (reach T))) x y
  met_leads active x y first second = joined problem N T algorithm is local solves room active (pair x y) on
    where
      on : (b : Bool) → IsOn problem N T algorithm active (pair x y b)
      on true = of_kind problem N T algorithm active x first
      on false = of_kind problem N T algorithm active y second

  -- ---- some label is met: in the regular tree
  abbrev besides : Bool → ℕ
  besides true = pred problem.active.degree
  besides false = pred problem.passive.degree

  some : (k : Bool) → 1 ≤ besides k
  some true = (less_one problem.active.degree is.active.least).0
  some false = (less_one problem.passive.degree is.passive.least).0

  abbrev G : Network
  G = whole besides some

  ports : (k : Bool) → suc (besides k) ≡ (if k then problem.active.degree else problem.passive.degree)
  ports true = (less_one problem.active.degree is.active.least).1
  ports false = (less_one problem.passive.degree is.passive.least).1

  full : (v : ℕ) → length (G.near v) ≡ (if G.active v then problem.active.degree else problem.passive.degree)
  full v = whole_full besides some v ∙ ports (G.active v)

  tree : IsTree problem.active.degree problem.passive.degree G
  tree = record {
    degrees = λ v. (let e = full v in omega (arith, e));
    turns = whole_turns besides some;
    both = whole_both besides some;
    differ = whole_apart besides some;
    rank = λ v. v;
    up = up besides some;
    lower = up_lower besides some;
    edge = whole_ups besides some;
  }

  few : (v : ℕ) → length (G.near v) ≤ problem.active.degree + problem.passive.degree
  few v = by (G.active v) (full v)
    where
      by : (b : Bool) → length (G.near v) ≡ (if b then problem.active.degree else problem.passive.degree)
          → length (G.near v) ≤ problem.active.degree + problem.passive.degree
      by true e = omega (arith, e)
      by false e = omega (arith, e)

  colour : ℕ → ℕ
  colour = extended (far T) N (problem.active.degree + problem.passive.degree) G few tree.both room (λ v. false) (λ v. 0)

  regular : IsRegular problem N T G colour
  unfolding colour
  regular = record {
    tree = tree;
    full = full;
    coloured =
        extended_coloured (far T) N (problem.active.degree + problem.passive.degree) G few tree.both room (λ v. false) (λ v. 0)
        (λ v. omega (arith, room)) (λ v w e f held other same. false≢true e);
  }

  met : (x : ℕ) × IsMet x
  met = (
    label_on G (run N T algorithm G colour) 1 0,
    as_active problem N T algorithm (G.active 1) (label_on G (run N T algorithm G colour) 1 0) (record {
      G = G;
      colour = colour;
      regular = regular;
      from = 0;
      to = 1;
      edge = whole_edge besides some;
      kind = refl;
      label = refl;
    }),
  )

  pub met_flexible : (set : List ℕ) × (l : ℕ) × IsFlexible problem set l
  met_flexible =
      let (x, on) = met in
      let (set, flexible) = flexible_set problem IsMet (suc (reach T)) met_low met_leads x on in
      (set, suc (reach T), flexible)

pub gap : FarColoursLaw → GapLaw
gap far_colours = (
  14 ^ 4,
  λ problem N T is room solvable. (
    faster far_colours problem N T is room solvable,
    (let (algorithm, local, solves) = solvable in
        met_flexible problem N T algorithm is local solves
        (enough (problem.active.degree + problem.passive.degree) T N
        (let x = is.active.most in let y = is.passive.most in omega (arith, x, y)) room)),
  ),
)
