-- How far the searches go.
use Rattle.std.specs.Prelude.{ℕ, ◌+◌, ◌*◌, ◌≤◌, length, nat_lt, if◌then◌else◌}
use Rattle.re_problem.specs.NamedProblems.{NamedProblem}
use Rattle.re_problem.specs.Problems.{Problem}

-- how many configurations a problem has, active and passive ones together
abbrev pub size_of : Problem → ℕ
size_of problem = length problem.active.configs + length problem.passive.configs

-- it has at most so many, so many times
abbrev pub IsSmall : Problem → ℕ → ℕ → Type 0
IsSmall problem most times = size_of problem ≤ most * times

-- how often a number is doubled from 1 on: not at all for 1, once for 2 and 3, and so on up to 6 times for 64
abbrev pub doublings : ℕ → ℕ
doublings times =
    if nat_lt times 2 then 0 else if nat_lt times 4 then 1 else if nat_lt times 8 then 2
    else if nat_lt times 16 then 3 else if nat_lt times 32 then 4 else if nat_lt times 64 then 5 else 6

-- the greater one of the two degrees of a problem
abbrev pub greatest_degree : NamedProblem → ℕ
greatest_degree problem = if nat_lt problem.active.degree problem.passive.degree then problem.passive.degree else problem.active.degree

-- how many steps `longest` takes at most, and how many labels problems of this degree have then
abbrev pub longest_steps : ℕ → ℕ
longest_steps doublings = 8 + 8 * doublings

abbrev pub longest_labels : ℕ → ℕ → ℕ
longest_labels degree doublings =
    if nat_lt degree 4 then 12 + 4 * doublings else if nat_lt degree 5 then 8 + 2 * doublings else if nat_lt degree 6 then 6 + doublings else 5 + doublings

-- the same of `shortest`
abbrev pub shortest_steps : ℕ → ℕ
shortest_steps doublings = 12 + 8 * doublings

abbrev pub shortest_labels : ℕ → ℕ → ℕ
shortest_labels degree doublings = if nat_lt degree 4 then 8 + 4 * doublings else if nat_lt degree 5 then 6 + 2 * doublings else 4 + doublings

-- how many steps `shortest` takes at most given few colours: as many as `longest`
abbrev pub coloured_steps : ℕ → ℕ
coloured_steps doublings = longest_steps doublings
