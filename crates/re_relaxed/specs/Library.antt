-- The library: problems that have names, with fixed points behind them.
use Rattle.std.specs.Prelude.{ℕ, List, [], ◌∷◌, codes, find, Option}
use Rattle.std.specs.Str.{bytes_eq}
use Rattle.re_relaxed.specs.declared.library.Member.{Member}
use Rattle.re_relaxed.specs.declared.library.Member.TheVariants.{ArbdefectiveThreeColouring, ArbdefectiveTwoColouring, DefectiveTwoColouring, FiveColouring, FourColouring, HypergraphTwoColouring, NoSinksNoSources, PerfectMatching, SinklessExchanged, SinklessOrientation, ThreeColouring, TwiceDefectiveTwoColouring, TwoColouring, WeakSplitting}

-- the name of a problem of the library
abbrev pub member_name : Member → List ℕ
member_name SinklessOrientation = codes "sinkless-orientation"
member_name SinklessExchanged = codes "sinkless-orientation-exchanged"
member_name NoSinksNoSources = codes "no-sinks-no-sources"
member_name PerfectMatching = codes "perfect-matching"
member_name WeakSplitting = codes "weak-splitting"
member_name HypergraphTwoColouring = codes "hypergraph-2-colouring"
member_name ArbdefectiveTwoColouring = codes "arbdefective-2-colouring"
member_name ArbdefectiveThreeColouring = codes "arbdefective-3-colouring"
member_name DefectiveTwoColouring = codes "defective-2-colouring"
member_name TwiceDefectiveTwoColouring = codes "defective-2-colouring-2"
member_name TwoColouring = codes "2-colouring"
member_name ThreeColouring = codes "3-colouring"
member_name FourColouring = codes "4-colouring"
member_name FiveColouring = codes "5-colouring"

-- the library in its order
abbrev pub library : List Member
library =
    SinklessOrientation ∷ SinklessExchanged ∷ NoSinksNoSources ∷ PerfectMatching ∷ WeakSplitting ∷ HypergraphTwoColouring ∷ ArbdefectiveTwoColouring
    ∷ ArbdefectiveThreeColouring ∷ DefectiveTwoColouring ∷ TwiceDefectiveTwoColouring ∷ TwoColouring ∷ ThreeColouring ∷ FourColouring ∷ FiveColouring ∷ []

-- the problem of the library of this name
abbrev pub member_named : List ℕ → Option Member
member_named name = find (λ member. bytes_eq (member_name member) name) library
