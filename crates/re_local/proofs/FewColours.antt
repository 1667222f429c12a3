-- Few colours from many, and with unique identifiers.
use Rattle.std.proofs.Common.{arith, subst, suc, zero, ℕ, ◌*◌, ◌+◌, ◌-◌, ◌≡◌, ◌≤◌}
use Rattle.std.proofs.lemmas.Nat.{mul-le}
use Rattle.re_local.proofs.ColouredHops.{IsProblem-colouring}
use Rattle.re_local.proofs.FewerColours.{SolvableGiven-logarithmic, SolvableGiven-one_less, degree_within}
use Rattle.re_local.proofs.Numbers.{bits, colours, colours-bits, colours_enough}
use Rattle.re_given.proofs.Colourings.{IsInput-colouring, IsRelaxed-colours}
use Rattle.re_given.proofs.Itself.{SolvableGiven-itself}
use Rattle.re_given.proofs.OtherInputs.{SolvableGiven-input}
use Rattle.re_given.proofs.RelativeGiven.{SolvableGiven-relative}
use Rattle.re_given.specs.Given.{SolvableGiven}
use Rattle.re_given.specs.Inputs.{IsInput}
use Rattle.re_given.specs.Unavoidable.{colouring}
use Rattle.re_local.proofs.ColouredLocal.{SolvableLocal-coloured}
use Rattle.re_local.proofs.LocalGiven.{SolvableLocal-fewer}
use Rattle.re_layers.proofs.Towers.{tower-le, tower-some}
use Rattle.re_local.specs.LocalAlgorithms.{SolvableLocal}
use Rattle.re_layers.specs.Towers.{tower}
use Rattle.re_problem.specs.Problems.{IsProblem, Problem}

-- how many neighbours a node has
abbrev pub neighbours : ℕ → ℕ → ℕ
neighbours a p = a * (p - 1)

-- what it takes from where the tower is 1: two hops for each colour that goes
abbrev pub last_hops : ℕ → ℕ → ℕ
last_hops a p = 2 * (colours (neighbours a p) 1 - (neighbours a p + 1))

module _ (a p : ℕ) (a_low : 2 ≤ a) (a_high : a ≤ 6) (p_low : 2 ≤ p) (p_high : p ≤ 6) where
  enough_few : p ≤ neighbours a p
  enough_few = degree_within a p a_low p_low

  few_neighbours : neighbours a p ≤ 30
  few_neighbours = mul-le a (p - 1) 6 5 a_high (omega (arith, p_high))

  some_neighbours : 1 ≤ neighbours a p
  some_neighbours = omega (arith, enough_few, p_low)

  input_of : (c n : ℕ) → p ≤ n → IsInput (colouring a p c) (colouring a p n)
  input_of c n enough = IsInput-colouring (colouring a p c) n (IsProblem-colouring a p c a_low a_high p_low p_high) enough

  -- one more than the neighbours, and k more
  abbrev few : ℕ → ℕ
  few k = neighbours a p + 1 + k

  abbrev target : Problem
  target = colouring a p (neighbours a p + 1)

  is_target : IsProblem target
  is_target = IsProblem-colouring a p (neighbours a p + 1) a_low a_high p_low p_high

  -- two hops more from other colours, from which one hop leads to these
  through : (c N T : ℕ) → p ≤ c → p ≤ N → SolvableGiven (colouring a p c) (colouring a p N) 1 → SolvableGiven target (colouring a p c) T
      → SolvableGiven target (colouring a p N) (1 + T + 1)
  through c N T c_enough N_enough one rest =
      SolvableGiven-relative target (colouring a p c) (colouring a p N) 1 T is_target (input_of (neighbours a p + 1) c c_enough) (input_of c N N_enough) one rest

  -- one colour after another
  down : (k : ℕ) → SolvableGiven target (colouring a p (few k)) (2 * k)
  down zero =
      let same : neighbours a p + 1 ≡ few 0 = omega arith in
      let none : 0 ≡ 2 * 0 = omega arith in
      let itself : SolvableGiven target target 0 =
      SolvableGiven-itself target (input_of (neighbours a p + 1) (neighbours a p + 1) (omega (arith, enough_few))) in
      subst (SolvableGiven target (colouring a p (few 0))) none (subst (λ c. SolvableGiven target (colouring a p c) 0) same itself)
  down (suc k) =
      let one : SolvableGiven (colouring a p (few k)) (colouring a p (suc (few k))) 1 =
      SolvableGiven-one_less a p (few k) a_low a_high p_low p_high (omega arith) in
      let both : SolvableGiven target (colouring a p (suc (few k))) (1 + 2 * k + 1) =
      through (few k) (suc (few k)) (2 * k) (omega (arith, enough_few)) (omega (arith, enough_few)) one (down k) in
      let more : suc (few k) ≡ few (suc k) = omega arith in
      let hops : 1 + 2 * k + 1 ≡ 2 * suc k = omega arith in
      subst (SolvableGiven target (colouring a p (few (suc k)))) hops (subst (λ c. SolvableGiven target (colouring a p c) (1 + 2 * k + 1)) more both)

  -- from fewer colours
  wider : (N more T : ℕ) → p ≤ N → N ≤ more → SolvableGiven target (colouring a p more) T → SolvableGiven target (colouring a p N) T
  wider N more T enough l =
      SolvableGiven-input target (colouring a p N) (colouring a p more) (λ x. x) T (input_of (neighbours a p + 1) N enough) (IsRelaxed-colours a p N more l)

  -- how many colours stand for a tower, and how many more than few where it is 1
  abbrev above : ℕ → ℕ
  above h = colours (neighbours a p) (tower h)

  abbrev further : ℕ
  further = colours (neighbours a p) 1 - (neighbours a p + 1)

  -- one power after another
  climb : (h N : ℕ) → p ≤ N → N ≤ above h → SolvableGiven target (colouring a p N) (2 * h + last_hops a p)
  climb zero N enough l =
      let none : last_hops a p ≡ 2 * 0 + last_hops a p = omega arith in
      subst (SolvableGiven target (colouring a p N)) none (wider N (few further) (last_hops a p) enough (omega (arith, l)) (down further))
  climb (suc h) N enough l =
      let room = colours-bits (neighbours a p) (tower h) few_neighbours (tower-some h) in
      let least = (colours_enough (neighbours a p) (tower h) some_neighbours (tower-some h)).1 in
      let one : SolvableGiven (colouring a p (above h)) (colouring a p N) 1 =
      SolvableGiven-logarithmic a p (bits (neighbours a p) (tower h)) N a_low a_high p_low p_high enough (omega (arith, l, room)) in
      let there : p ≤ above h = omega (arith, least, enough_few) in
      let hops : 1 + (2 * h + last_hops a p) + 1 ≡ 2 * suc h + last_hops a p = omega arith in
      subst (SolvableGiven target (colouring a p N)) hops (through (above h) N (2 * h + last_hops a p) there enough one (climb h (above h) there (omega arith)))

  pub few_colours : (h N : ℕ) → p ≤ N → N ≤ tower h → SolvableGiven (colouring a p (a * (p - 1) + 1)) (colouring a p N) (2 * h + last_hops a p)
  few_colours h N enough l = climb h N enough (let m = (colours_enough (neighbours a p) (tower h) some_neighbours (tower-some h)).0 in omega (arith, l, m))

-- ---- with unique identifiers
module _ (problem : Problem) (is : IsProblem problem) (h : ℕ) where
  abbrev a : ℕ
  a = problem.active.degree

  abbrev p : ℕ
  p = problem.passive.degree

  -- a tower with room for the degree
  abbrev many : ℕ
  many = tower (suc (suc (suc h)))

  many_enough : p ≤ many
  many_enough = let room : 16 ≤ many = tower-le 3 (suc (suc (suc h))) (omega arith) in let high = is.passive.most in omega (arith, room, high)

  many_more : (N : ℕ) → N ≤ tower h → N ≤ many
  many_more N l = let more : tower h ≤ many = tower-le h (suc (suc (suc h))) (omega arith) in omega (arith, l, more)

  abbrev hops : ℕ
  hops = 2 * suc (suc (suc h)) + last_hops a p

  from_many : SolvableGiven (colouring a p (neighbours a p + 1)) (colouring a p many) hops
  from_many = few_colours a p is.active.least is.active.most is.passive.least is.passive.most (suc (suc (suc h))) many many_enough (omega arith)

  pub few_input : IsInput problem (colouring a p (neighbours a p + 1))
  few_input = IsInput-colouring problem (neighbours a p + 1) is (let m = degree_within a p is.active.least is.passive.least in omega (arith, m))

  pub few_colours_local : (k N : ℕ) → SolvableGiven problem (colouring a p (neighbours a p + 1)) k → N ≤ tower h
      → SolvableLocal problem N (2 * h + k + (last_hops a p + 7))
  few_colours_local k N solution l =
      let inputs : IsInput (colouring a p (neighbours a p + 1)) (colouring a p many) =
      input_of a p is.active.least is.active.most is.passive.least is.passive.most (neighbours a p + 1) many many_enough in
      let both : SolvableGiven problem (colouring a p many) (hops + k + 1) =
      SolvableGiven-relative problem (colouring a p (neighbours a p + 1)) (colouring a p many) hops k is few_input inputs from_many solution in
      let local : SolvableLocal problem many (hops + k + 1) = SolvableLocal-coloured problem many (hops + k + 1) is both in
      let same : hops + k + 1 ≡ 2 * h + k + (last_hops a p + 7) = omega arith in
      subst (SolvableLocal problem N) same (SolvableLocal-fewer problem N many (hops + k + 1) (many_more N l) local)
