use Rattle.re_greedy.proofs.finding.add_parts.Given as goal
use Rattle.re_greedy.specs.Partials.{AreAdded}

abbrev pub invariant-loop-place : goal.invariant-loop-place
invariant-loop-place l = AreAdded l.degree l.initial.all.items l.labels l.place l.all.items
