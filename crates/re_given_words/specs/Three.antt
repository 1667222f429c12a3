-- What a problem that is solvable in three rounds has: sets of its labels at the meetings of spots.
--
-- An active node is of a type: the multiset of the ports of its passive neighbours at which they meet it. Each place of a type is a spot. A passive node sees a
-- meeting: at each of its ports a spot of that port.
use Rattle.std.specs.Prelude.{◌≡◌, ℕ, ◌*◌, ◌==◌, ◌<◌, List, length, map, filter, slice_index_or}
use Rattle.std.specs.List.{AllByRecursion, AllZip, flat_map}
use Rattle.re_labels.specs.Lists.{count_from}
use Rattle.re_labels.specs.Orders.{multisets}
use Rattle.re_labels.specs.Rows.{IsChoice, set_at}
use Rattle.re_labels.specs.GoodRows.{IsAllowed, IsGood}
use Rattle.re_problem.specs.Problems.{Problem}
use Rattle.re_given.specs.UpSets.{IsUpSet}

-- ---- spots and meetings
-- the types: all multisets of ports of a passive node, one port for each port of an active node
abbrev pub types_of : Problem → List (List ℕ)
types_of problem = multisets problem.active.degree 0 problem.passive.degree

-- the ports of all spots: those of the types, one type behind the other
abbrev pub spot_ports : Problem → List ℕ
spot_ports problem = flat_map (λ ports. ports) (types_of problem)

-- the port of a spot
abbrev pub port_of : Problem → ℕ → ℕ
port_of problem spot = slice_index_or (spot_ports problem) spot 0

-- the spots of a port, in order
abbrev pub spots_of : Problem → ℕ → List ℕ
spots_of problem port = filter (λ spot. port_of problem spot == port) (count_from 0 (length (spot_ports problem)))

-- the spots of a type, in order
abbrev pub spots_in : Problem → ℕ → List ℕ
spots_in problem t = count_from (t * problem.active.degree) problem.active.degree

-- a spot of each port of a passive node, in order
abbrev pub IsMeeting : Problem → List ℕ → Type 0
IsMeeting problem meeting = IsChoice meeting (map (spots_of problem) (count_from 0 problem.passive.degree))

-- ---- three rounds
-- the set is the one that is made for some meeting at this spot
abbrev pub IsMadeAt : Problem → (List ℕ → List (List ℕ)) → ℕ → List ℕ → Type 0
IsMadeAt problem made spot set =
    (meeting : List ℕ) × IsMeeting problem meeting × (slice_index_or meeting (port_of problem spot) 0 ≡ spot) × (set_at (made meeting) (port_of problem spot) ≡ set)

-- for each meeting a row of up-sets that is good for passive nodes: each choice of a set at each spot of a type, from any meetings there, has an active choice
pub record ShowsThree (problem : Problem) (made : List ℕ → List (List ℕ)) : Type 0 where
  pub good : (meeting : List ℕ) → IsMeeting problem meeting → IsGood problem.passive (made meeting)
  pub up_sets : (meeting : List ℕ) → IsMeeting problem meeting → AllByRecursion (IsUpSet problem.passive problem.labels) (made meeting)
  pub choice : (t : ℕ) → t < length (types_of problem) → (sets : List (List ℕ)) → AllZip (IsMadeAt problem made) (spots_in problem t) sets → IsAllowed problem.active sets

-- some rows show it
abbrev pub ShownByMeetings : Problem → Type 0
ShownByMeetings problem = (made : List ℕ → List (List ℕ)) × ShowsThree problem made
