-- For any passive degree and number of rounds some hypergraph of identifiers separates, which is not large.
use Rattle.std.proofs.Common.{◌≡◌, ℕ, suc, ◌+◌, ◌*◌, ◌/◌, ◌^◌, ◌≤◌, List, subst, arith}
use Rattle.std.proofs.Math.Nat.{one-le-pow, pow-le-pow_right}
use Rattle.re_local.proofs.LocalGiven.{SolvableLabelled-local, SolvableLocal-fewer}
use Rattle.re_local.proofs.Sinkless.{sinkless_local}
use Rattle.re_layers.specs.Networks.{AreDifferent}
use Rattle.re_local.specs.LocalAlgorithms.{SolvableLabelled}
use Rattle.re_problem.specs.Examples.{relaxed_sinkless}
use Rattle.re_problem.specs.Problems.{Problem}
use Rattle.re_layers.proofs.Towers.{power_of}
use Rattle.re_labels.proofs.Membership.{In}
use Rattle.re_local.proofs.VirtualLabels.{around_different, around_one}
use Rattle.re_local.specs.Identifiers.{IdHypergraph, JoinsAlike, identifiers, virtual_identifiers}
use Rattle.re_local.specs.Separating.{AreApart, HasAllEdges}
use Rattle.re_local.proofs.Apart.{AreApart-own, identifiers_different, identifiers_one}
use Rattle.re_labels.specs.Constraints.{Constraint, Has}
use Rattle.re_local.proofs.Matched.{JoinsAlike-within, matched, matched_joins}
use Rattle.re_local.proofs.Pruned.{Pruned, pruned}
use Rattle.re_local.specs.Hypergraphs.{hypergraph_base}
use Rattle.re_local.specs.SeparatingLaws.{IsBeyondPower, SeparatingLaw, SinklessUniqueLaw, VirtualSeparatingLaw, identifier_base}
use Rattle.re_local.proofs.Sparse.{sparse_hyper}

-- the powers for the length of closed walks that so many rounds ask for
few_enough : (b T : ℕ) → 1 ≤ b → b ^ (2 * suc (suc T) + 1) ≤ (b ^ 5) ^ (T + 1)
few_enough b T some =
    let longer : b ^ (2 * suc (suc T) + 1) ≤ b ^ (5 * (T + 1)) = pow-le-pow_right some (omega arith) in
    subst (λ z. b ^ (2 * suc (suc T) + 1) ≤ z) (power_of b 5 (T + 1)) longer

pub some_base : (r m : ℕ) → 1 ≤ hypergraph_base r m
some_base r m = one-le-pow (r + 3) (3 * (r + 1) * (m + 1)) (omega arith)

-- labels of one identifier, and different ones, stand around each active node
abbrev AreOfOne : ℕ → Constraint → Type 0
AreOfOne a own = ((labels : List ℕ) → Has own labels → (y z : ℕ) → In y labels → In z labels → y / a ≡ z / a) × ((labels : List ℕ) → Has own labels → AreDifferent labels)

-- the hypergraph, with trees on which active nodes may use any ports of their identifiers
separated : (a p n T : ℕ) → 1 ≤ a → 1 ≤ p → (N : ℕ) × (hyper : IdHypergraph) × (N ≤ identifier_base a p n ^ (T + 1)) × HasAllEdges a p N hyper × JoinsAlike a p N hyper n
    × ((own : Constraint) → AreOfOne a own → AreApart (record { labels = a * N; active = own; passive = (identifiers a p N hyper).passive }) (λ label. label / a) T)
separated a p n T some more =
    let (points, hyper, few, is_hyper, sparse, uncolourable) = sparse_hyper (p * a ^ p) (n ^ a + a) (2 * suc (suc T)) in
    let part : Pruned a p points (matched a p hyper) (n ^ a) = pruned a p points (n ^ a) (matched a p hyper) some (matched_joins a p points (n ^ a) hyper some more is_hyper uncolourable) in
    let enough = few_enough (hypergraph_base (p * a ^ p) (n ^ a + a)) T (some_base (p * a ^ p) (n ^ a + a)) in (
      part.count,
      part.kept,
      (let less = part.up_to in omega (arith, less, few, enough)),
      part.edges,
      JoinsAlike-within a p part.count n part.kept some more part.joins,
      λ own of_one. AreApart-own a p (2 * suc (suc T)) points part.count hyper part.name part.kept some is_hyper sparse part.from own of_one.0 of_one.1 T (omega arith),
    )

pub separating : SeparatingLaw
separating a p n T some more =
    let (N, hyper, few, edges, joins, apart) = separated a p n T some more in
    (N, hyper, few, record { edges = edges; joins = joins; apart = apart (identifiers a p N hyper).active (identifiers_one a p N hyper, identifiers_different a p N hyper) })

pub virtual_separating : VirtualSeparatingLaw
virtual_separating a M p n T some more =
    let (N, hyper, few, edges, joins, apart) = separated M p n T some more in
    (N, hyper, few, record { edges = edges; joins = joins; apart = apart (virtual_identifiers a M p N hyper).active (around_one a M p N hyper, around_different a M p N hyper) })

-- what some number of identifiers excludes, more do
pub IsBeyondPower-labelled : (problem : Problem) (C N T : ℕ) → N ≤ C ^ (T + 1) → (SolvableLabelled problem N T → ⊥) → IsBeyondPower problem C T
IsBeyondPower-labelled problem C N T few never more l solves = never (SolvableLabelled-local problem N T (SolvableLocal-fewer problem N more T (omega (arith, few, l)) solves))

pub sinkless_unique : SinklessUniqueLaw
sinkless_unique T more l solves =
    let (N, hyper, few, separates) = separating 3 2 2 T (omega arith) (omega arith) in
    sinkless_local N T hyper separates (SolvableLocal-fewer relaxed_sinkless N more T (omega (arith, few, l)) solves)
