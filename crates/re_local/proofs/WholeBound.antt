-- Lower steps exclude local algorithms of as many rounds: given identifiers that, exchanged so many times, are unavoidable.
use Rattle.std.proofs.Common.{◌≡◌, ℕ, zero, suc, ◌+◌, ◌-◌, ◌*◌, ◌^◌, ◌≤◌, sym, ◌∙◌, ap, subst, inl, inr, arith}
use Rattle.std.proofs.Math.Nat.{mul-le-mul, mul-le-mul_left, pow-le-pow_left, pow-le-pow_right, one-le-pow}
use Rattle.std.specs.Prelude.{◌⊎◌}
use Rattle.re_given.proofs.AvoidedInputs.{halves, lower_bound_unavoidable, unavoidable_fewer}
use Rattle.re_given.proofs.ChainGiven.{exchanged_by-twice}
use Rattle.re_given.specs.Given.{SolvableGiven}
use Rattle.re_given.specs.Inputs.{IsInput, exchanged, exchanged_by}
use Rattle.re_given.specs.Unavoidable.{IsUnavoidable}
use Rattle.re_local.proofs.IdentifierInputs.{IsInput-identifiers, some_identifier}
use Rattle.re_local.proofs.LocalGiven.{SolvableGiven-labelled, SolvableLabelled-local, SolvableLocal-fewer}
use Rattle.re_local.proofs.UnavoidableIdentifiers.{identifiers_unavoidable}
use Rattle.re_local.specs.Identifiers.{identifiers, virtual_identifiers}
use Rattle.re_local.specs.SeparatingLaws.{identifier_base, WholeBoundLaw, virtual_base, virtual_ports}
use Rattle.re_local.specs.LocalAlgorithms.{SolvableLocal}
use Rattle.re_problem.specs.Problems.{IsProblem, Problem}
use Rattle.re_layers.proofs.Towers.{below_power}
use Rattle.re_local.proofs.VirtualGiven.{IsInput-virtual, SolvableGiven-virtual}
use Rattle.re_local.proofs.VirtualUnavoided.{virtual_unavoidable}
use Rattle.re_local.proofs.Separated.{separating, virtual_separating}
use Rattle.re_local.specs.Hypergraphs.{hypergraph_base}

-- ---- more places and colours need more points
base_more : (r s m n : ℕ) → r ≤ s → m ≤ n → hypergraph_base r m ≤ hypergraph_base s n
base_more r s m n l l' =
    let wide : 3 * (r + 1) * (m + 1) ≤ 3 * (s + 1) * (n + 1) = mul-le-mul (mul-le-mul_left 3 (omega (arith, l))) (omega (arith, l')) in
    let one : (3 * (r + 1) * (m + 1)) ^ (r + 3) ≤ (3 * (s + 1) * (n + 1)) ^ (r + 3) = pow-le-pow_left wide (r + 3) in
    let some : 1 * 1 ≤ 3 * (s + 1) * (n + 1) = mul-le-mul {n₁ = 1} {m₁ = 1} {n₂ = 3 * (s + 1)} {m₂ = n + 1} (omega arith) (omega arith) in
    let two : (3 * (s + 1) * (n + 1)) ^ (r + 3) ≤ (3 * (s + 1) * (n + 1)) ^ (s + 3) = pow-le-pow_right some (omega (arith, l)) in
    omega (arith, one, two)

pub ports_enough : (a n : ℕ) → a ≤ virtual_ports a n
ports_enough a n =
    let some : 1 ≤ 2 ^ n = one-le-pow n 2 (omega arith) in
    let each : (a - 1) * 1 ≤ (a - 1) * 2 ^ n = mul-le-mul_left (a - 1) some in
    omega (arith, each)

-- so virtual ports need more identifiers than ports do
pub identifiers-virtual : (a p n T : ℕ) → identifier_base a p n ^ (T + 1) ≤ virtual_base a p n ^ (T + 1)
identifiers-virtual a p n T = pow-le-pow_left (pow-le-pow_left (base_more (p * a ^ p) (p * M ^ p) (n ^ a + a) ((2 ^ n) ^ M + M) places colours) 5) (T + 1)
  where
    M : ℕ
    M = virtual_ports a n

    more : a ≤ virtual_ports a n
    more = ports_enough a n

    places : p * a ^ p ≤ p * virtual_ports a n ^ p
    places = mul-le-mul_left p (pow-le-pow_left more p)

    colours : n ^ a + a ≤ (2 ^ n) ^ virtual_ports a n + virtual_ports a n
    colours =
        let few : suc n ≤ 2 ^ n = below_power n in
        let one : n ^ a ≤ (2 ^ n) ^ a = pow-le-pow_left (omega (arith, few)) a in
        let two : (2 ^ n) ^ a ≤ (2 ^ n) ^ virtual_ports a n = pow-le-pow_right (omega (arith, few)) more in
        let more' = more in
        omega (arith, one, two, more')

-- what is solved given an input problem that, exchanged k times, is unavoidable for lists below n
abbrev pub GivenUnavoidable : Problem → ℕ → ℕ → ℕ → Type 0
GivenUnavoidable problem n T k = (input : Problem) × IsInput problem input × IsUnavoidable (exchanged_by k input) n × SolvableGiven problem input T

module _ (problem : Problem) (n T N : ℕ) (is : IsProblem problem) (many : virtual_base problem.active.degree problem.passive.degree n ^ (T + 1) ≤ N) (solvable : SolvableLocal problem N T) where
  some : 1 ≤ problem.active.degree
  some = let least = is.active.least in omega (arith, least)

  more : 1 ≤ problem.passive.degree
  more = let least = is.passive.least in omega (arith, least)

  -- the identifiers of a hypergraph, exchanged an even number of times
  at_even : (k half : ℕ) → k ≡ half + half → GivenUnavoidable problem n T k
  at_even k half e =
      let a : ℕ = problem.active.degree in
      let p : ℕ = problem.passive.degree in
      let (M, hyper, few, separates) = separating a p n T some more in
      let is_input : IsInput problem (identifiers a p M hyper) = IsInput-identifiers problem M hyper is (some_identifier a p M n hyper some more separates.joins) separates.edges in
      let enough : identifier_base a p n ^ (T + 1) ≤ virtual_base a p n ^ (T + 1) = identifiers-virtual a p n T in
      let fewer : SolvableLocal problem M T = SolvableLocal-fewer problem M N T (omega (arith, few, enough, many)) solvable in
      let same : exchanged_by k (identifiers a p M hyper) ≡ identifiers a p M hyper = ap (λ m. exchanged_by m (identifiers a p M hyper)) e ∙ exchanged_by-twice half (identifiers a p M hyper) in (
        identifiers a p M hyper,
        is_input,
        subst (λ i. IsUnavoidable i n) (sym same) (identifiers_unavoidable a p M n hyper some more separates.joins),
        SolvableGiven-labelled problem M T hyper is_input separates.apart (SolvableLabelled-local problem M T fewer),
      )

  -- identifiers with virtual ports, exchanged an odd number of times
  at_odd : (k half : ℕ) → k ≡ suc (half + half) → GivenUnavoidable problem n T k
  at_odd k half e =
      let a : ℕ = problem.active.degree in
      let p : ℕ = problem.passive.degree in
      let some_port : 1 ≤ virtual_ports a n = omega arith in
      let (count, hyper, few, separates) = virtual_separating a (virtual_ports a n) p (2 ^ n) T some_port more in
      let input : Problem = virtual_identifiers a (virtual_ports a n) p count hyper in
      let is_input : IsInput problem input = IsInput-virtual problem (virtual_ports a n) count hyper is (ports_enough a n) (some_identifier (virtual_ports a n) p count (2 ^ n) hyper some_port more separates.joins) separates.edges in
      let fewer : SolvableLocal problem count T = SolvableLocal-fewer problem count N T (omega (arith, few, many)) solvable in
      let same : exchanged_by k input ≡ exchanged input = ap (λ m. exchanged_by m input) e ∙ ap exchanged (exchanged_by-twice half input) in (
        input,
        is_input,
        subst (λ i. IsUnavoidable i n) (sym same) (virtual_unavoidable a (virtual_ports a n) p count n hyper some more (omega arith) separates.joins),
        SolvableGiven-virtual problem (virtual_ports a n) count T hyper is_input separates.apart fewer,
      )

  pub given : (k : ℕ) → GivenUnavoidable problem n T k
  given k = go (halves k)
    where
      go : ((half : ℕ) × (k ≡ half + half)) ⊎ ((half : ℕ) × (suc k ≡ half + half)) → GivenUnavoidable problem n T k
      go (inl (half, e)) = at_even k half e
      go (inr (zero, e)) = absurd (omega (arith, e))
      go (inr (suc half, e)) = at_odd k half (omega (arith, e))

pub whole_bound : WholeBoundLaw
whole_bound first last k n T is steps not_zero few l N many solvable =
    let (input, is_input, unavoidable, here) = given first n T N is many solvable k in
    lower_bound_unavoidable is is_input steps not_zero (unavoidable_fewer (exchanged_by k input) last.labels n few unavoidable) T l here
