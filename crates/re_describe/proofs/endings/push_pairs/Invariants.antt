use Rattle.std.proofs.Common.{◌≡◌, ◌++◌, drop}
use Rattle.std.specs.List.{flat_map}
use Rattle.re_describe.specs.Reports.{pair_with}
use Rattle.re_describe.proofs.endings.push_pairs.Given as goal

abbrev pub invariant-loop-pair : goal.invariant-loop-pair
invariant-loop-pair l = l.text.items ++ flat_map (pair_with l.last l.last_index l.target l.target_index) (drop l.pair-index l.pairs)
    ≡ l.fn.text.items ++ flat_map (pair_with l.last l.last_index l.target l.target_index) l.pairs
