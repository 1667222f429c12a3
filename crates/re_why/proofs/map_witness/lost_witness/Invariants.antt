use Rattle.std.proofs.Common.{◌≡◌, ℕ, ◌<◌, [], get_or, None}
use Rattle.re_cert.specs.Bounds.{map_of}
use Rattle.re_why.specs.Finding.{lost_choice}
use Rattle.re_why.proofs.map_witness.lost_witness.Given as goal

abbrev pub invariant-loop-place : goal.invariant-loop-place
invariant-loop-place l = (k : ℕ) → k < l.place → lost_choice l.rows (map_of l.map) l.passive (get_or l.before.configs k []) ≡ None
