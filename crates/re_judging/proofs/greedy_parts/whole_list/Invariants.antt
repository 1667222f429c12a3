use Rattle.std.proofs.Common.{◌≡◌, ◌∷◌, ◌++◌, [], take}
use Rattle.re_judging.proofs.greedy_parts.whole_list.Given as goal

abbrev pub invariant-loop-multiset : goal.invariant-loop-multiset
invariant-loop-multiset l = l.list.items ≡ [] ∷ take l.multiset-index l.turns.multisets

abbrev pub invariant-loop-config : goal.invariant-loop-config
invariant-loop-config l = l.list.items ++ l.config-iterator ≡ [] ∷ (l.turns.multisets ++ l.seen.passive.configs)
