-- Sources and sinks in memory that fail at chosen calls.
use Rattle.std.specs.Prelude.{ℕ, ◌+◌, ◌-◌, ◌^◌, min, List, Option, ◌==◌, find}
use Rattle.std.specs.Option.{option_map}
use Rattle.re_io.specs.declared.memory.FailAt.{FailAt}

-- the bytes left, how many a read gives at most, the numbers of the calls that fail, the calls so far, the faults so far
pub record MemInput : Type 0 where
  pub left : List ℕ
  pub piece : ℕ
  pub failing : List ℕ
  pub calls : ℕ
  pub faults : ℕ

-- the bytes written, the calls that fail, the calls so far, the faults so far
pub record MemOutput : Type 0 where
  pub written : List ℕ
  pub failing : List FailAt
  pub calls : ℕ
  pub faults : ℕ

-- one more, up to the last value of a u64
abbrev pub next_count : ℕ → ℕ
next_count count = min (count + 1) (2 ^ 64 - 1)

-- how many bytes the call with this number takes, where it fails: the first entry counts
abbrev pub failing_call : List FailAt → ℕ → Option ℕ
failing_call failing call = option_map (λ entry. entry.taken) (find (λ entry. entry.call == call) failing)
