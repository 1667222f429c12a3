-- Few colours of passive nodes, and with unique identifiers.
use Rattle.std.proofs.Common.{arith, subst, suc, ℕ, ◌*◌, ◌+◌, ◌-◌, ◌^◌, ◌≡◌, ◌≤◌}
use Rattle.std.proofs.Math.Nat.{pow-le-pow_right}
use Rattle.std.proofs.lemmas.Nat.{mul-le}
use Rattle.re_given_bounds.proofs.EdgeColours.{edges_coloured}
use Rattle.re_local.proofs.ColouredHops.{IsProblem-colouring}
use Rattle.re_local.proofs.FewColours.{few_colours, last_hops}
use Rattle.re_local.proofs.FewerColours.{degree_within}
use Rattle.re_given.proofs.Colourings.{IsInput-colouring}
use Rattle.re_given.proofs.Itself.{SolvableGiven-exchanged}
use Rattle.re_given.proofs.NamedInputs.{edge_colouring_input}
use Rattle.re_given.proofs.RelativeGiven.{SolvableGiven-relative}
use Rattle.re_given.specs.Given.{SolvableGiven}
use Rattle.re_given.specs.InputExamples.{edge_colouring}
use Rattle.re_given.specs.Inputs.{IsInput}
use Rattle.re_given.specs.Unavoidable.{colouring}
use Rattle.re_local.proofs.ComposedLocal.{SolvableLocal-composed}
use Rattle.re_local.proofs.LocalGiven.{SolvableLocal-fewer}
use Rattle.re_layers.proofs.Towers.{cube_below, own_power, power_below, tower-le}
use Rattle.re_local.specs.LocalAlgorithms.{SolvableLocal}
use Rattle.re_layers.specs.Towers.{tower}
use Rattle.re_problem.specs.Problems.{IsProblem, Problem}

-- a power with at most six factors of a tower is below the tower of two more
pub tower-six : (h p : ℕ) → p ≤ 6 → tower (suc (suc (suc h))) ^ p ≤ tower (suc (suc (suc (suc (suc h)))))
tower-six h p few =
    let q : ℕ = tower (suc (suc h)) in
    let least : 4 ≤ q = tower-le 2 (suc (suc h)) (omega arith) in
    let wide : 16 ≤ 2 ^ q = tower-le 3 (suc (suc (suc h))) (omega arith) in
    let up : q ≤ 2 ^ q = tower-le (suc (suc h)) (suc (suc (suc h))) (omega arith) in
    let square : 16 * 16 ≤ 2 ^ q * 2 ^ q = mul-le 16 16 (2 ^ q) (2 ^ q) wide wide in
    let product : q * 6 ≤ 2 ^ q * (2 ^ q * 2 ^ q) = mul-le q 6 (2 ^ q) (2 ^ q * 2 ^ q) up (omega (arith, square)) in
    let cube : 2 ^ q * (2 ^ q * 2 ^ q) ≤ 2 ^ (2 ^ q) = cube_below q least in
    let one : (2 ^ q) ^ p ≤ 2 ^ (q * 6) = power_below (2 ^ q) q p 6 (omega arith) few in
    let two : 2 ^ (q * 6) ≤ 2 ^ (2 ^ (2 ^ q)) = pow-le-pow_right (omega arith) (omega (arith, product, cube)) in
    let both : (2 ^ q) ^ p ≤ 2 ^ (2 ^ (2 ^ q)) = omega (arith, one, two) in
    both

module _ (a p : ℕ) (a_low : 2 ≤ a) (a_high : a ≤ 6) (p_low : 2 ≤ p) (p_high : p ≤ 6) where
  pub few_edge_colours : (h N : ℕ) → a ≤ N → N ≤ tower h → SolvableGiven (edge_colouring a p (p * (a - 1) + 1)) (edge_colouring a p N) (2 * h + suc (last_hops p a))
  few_edge_colours h N enough l =
      let one : suc (2 * h + last_hops p a) ≡ 2 * h + suc (last_hops p a) = omega arith in
      let few_is : IsProblem (colouring p a (p * (a - 1) + 1)) = IsProblem-colouring p a (p * (a - 1) + 1) p_low p_high a_low a_high in
      subst (SolvableGiven (edge_colouring a p (p * (a - 1) + 1)) (edge_colouring a p N)) one
      (SolvableGiven-exchanged (colouring p a (p * (a - 1) + 1)) (colouring p a N) (2 * h + last_hops p a)
      few_is (IsInput-colouring (colouring p a (p * (a - 1) + 1)) N few_is enough)
      (few_colours p a p_low p_high a_low a_high h N enough l))

  edge_input_of : (c n : ℕ) → a ≤ n → IsInput (edge_colouring a p c) (edge_colouring a p n)
  edge_input_of c n enough = edge_colouring_input (edge_colouring a p c) n turned enough
    where
      turned : IsProblem (edge_colouring a p c)
      turned = let is = IsProblem-colouring p a c p_low p_high a_low a_high in record { active = is.passive; passive = is.active }

-- ---- with unique identifiers
module _ (problem : Problem) (is : IsProblem problem) (h : ℕ) where
  abbrev a : ℕ
  a = problem.active.degree

  abbrev p : ℕ
  p = problem.passive.degree

  -- the number of colours, as many identifiers as have room for it and the degrees, and how many edge colours they give
  abbrev few : ℕ
  few = p * (a - 1) + 1

  abbrev ids : ℕ
  ids = tower (suc (suc (suc h)))

  abbrev many : ℕ
  many = ids ^ p

  many_enough : a ≤ many
  many_enough =
      let room : 16 ≤ ids = tower-le 3 (suc (suc (suc h))) (omega arith) in
      let power : ids ≤ ids ^ p = own_power ids p (let low = is.passive.least in omega (arith, low)) in
      let high = is.active.most in
      let within : a ≤ ids ^ p = omega (arith, room, power, high) in
      within

  few_enough : a ≤ few
  few_enough = let m = degree_within p a is.passive.least is.active.least in omega (arith, m)

  abbrev hops : ℕ
  hops = 2 * suc (suc (suc (suc (suc h)))) + suc (last_hops p a)

  pub few_edge_input : IsInput problem (edge_colouring a p few)
  few_edge_input = edge_colouring_input problem few is few_enough

  pub few_edge_colours_local : (k N : ℕ) → SolvableGiven problem (edge_colouring a p few) k → N ≤ tower h → SolvableLocal problem N (2 * h + k + (last_hops p a + 14))
  few_edge_colours_local k N solution l =
      let from_many : SolvableGiven (edge_colouring a p few) (edge_colouring a p many) hops =
      few_edge_colours a p is.active.least is.active.most is.passive.least is.passive.most (suc (suc (suc (suc (suc h))))) many many_enough (tower-six h p is.passive.most) in
      let inputs : IsInput (edge_colouring a p few) (edge_colouring a p many) = edge_input_of a p is.active.least is.active.most is.passive.least is.passive.most few many many_enough in
      let both : SolvableGiven problem (edge_colouring a p many) (hops + k + 1) =
      SolvableGiven-relative problem (edge_colouring a p few) (edge_colouring a p many) hops k is few_edge_input inputs from_many solution in
      let coloured : SolvableLocal (edge_colouring a p many) ids 1 = edges_coloured a p ids (let low = is.active.least in omega (arith, low)) is.passive.least in
      let local : SolvableLocal problem ids (1 + (hops + k + 1) + 1) =
      SolvableLocal-composed problem (edge_colouring a p many) ids 1 (hops + k + 1) (edge_colouring_input problem many is many_enough) coloured both in
      let same : 1 + (hops + k + 1) + 1 ≡ 2 * h + k + (last_hops p a + 14) = omega arith in
      let enough : N ≤ ids = let more : tower h ≤ ids = tower-le h (suc (suc (suc h))) (omega arith) in omega (arith, l, more) in
      subst (SolvableLocal problem N) same (SolvableLocal-fewer problem N ids (1 + (hops + k + 1) + 1) enough local)
