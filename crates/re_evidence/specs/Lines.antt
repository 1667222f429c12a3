-- The words for claims and classes.
use Rattle.std.specs.Prelude.{ℕ, ◌==◌, List, ◌++◌, codes, if◌then◌else◌, Option, None, Some}
use Rattle.std.specs.Fmt.{decimal}
use Rattle.re_laws.specs.Rounds.{rounds_above, rounds_below}
use Rattle.re_evidence.specs.declared.types.Claim.{Claim}
use Rattle.re_evidence.specs.declared.types.Claim.TheVariants.{AtMost, Between, Exactly, MoreThan, Never}
use Rattle.re_evidence.specs.declared.types.Class.{Class}
use Rattle.re_evidence.specs.declared.types.Class.TheVariants as class
use Rattle.re_evidence.specs.declared.types.Least.{Least}
use Rattle.re_evidence.specs.declared.types.Least.TheVariants as least
use Rattle.re_evidence.specs.declared.types.Most.{Most}
use Rattle.re_evidence.specs.declared.types.Most.TheVariants as most
use Rattle.re_evidence.specs.declared.types.Order.{Order}
use Rattle.re_evidence.specs.declared.types.Order.TheVariants as order

-- ---- claims
-- the rounds of the graph behind these words, where the passive nodes have two neighbours
abbrev pub graph_part : List ℕ → ℕ → ℕ → List ℕ
graph_part words passive rounds = if passive == 2 then codes " (" ++ (words ++ (decimal rounds ++ codes " rounds of the graph)")) else codes ""

-- a claim on a problem whose passive nodes have this degree
abbrev pub claim_text : ℕ → Claim → List ℕ
claim_text passive (Exactly k) = codes "exactly " ++ (decimal k ++ graph_part (codes "") passive (rounds_above k))
claim_text passive Never = codes "not solvable in any number of rounds with port numbers "
claim_text passive (MoreThan k) = codes "more than " ++ (decimal k ++ graph_part (codes "more than ") passive (rounds_below k))
claim_text passive (AtMost m) = codes "at most " ++ (decimal m ++ graph_part (codes "at most ") passive (rounds_above m))
claim_text passive (Between k m) =
    (codes "more than " ++ (decimal k ++ graph_part (codes "more than ") passive (rounds_below k)))
    ++ (codes ", at most " ++ (decimal m ++ graph_part (codes "at most ") passive (rounds_above m)))

-- what algorithms have besides, behind a claim: nothing
abbrev pub alone_text : Claim → List ℕ
alone_text Never = codes "alone\n"
alone_text claim = codes "\n"

-- ---- classes
-- a claim in rounds
abbrev pub rounds_text : Claim → List ℕ
rounds_text (Exactly k) = codes "exactly " ++ decimal k
rounds_text Never = codes "never"
rounds_text (MoreThan k) = codes "more than " ++ decimal k
rounds_text (AtMost m) = codes "at most " ++ decimal m
rounds_text (Between k m) = codes "more than " ++ (decimal k ++ (codes ", at most " ++ decimal m))

abbrev pub order_text : Order → List ℕ
order_text order.LogStar = codes "order log* N"
order_text order.Log = codes "order log N"
order_text order.Linear = codes "order N"

abbrev pub most_text : Most → List ℕ
most_text most.LogStar = codes "order log* N"
most_text most.Log = codes "order log N"

abbrev pub least_text : Least → List ℕ
least_text (least.MoreThan k) = rounds_text (MoreThan k)
least_text least.LogStar = codes "at least order log* N"
least_text least.Log = codes "at least order log N"

abbrev pub bounds_text : Least → Option Most → List ℕ
bounds_text least None = least_text least ++ codes ""
bounds_text least (Some most) = least_text least ++ (codes ", at most " ++ most_text most)

abbrev pub class_text : Class → List ℕ
class_text class.NoSolution = codes "no solution"
class_text (class.Constant claim) = codes "constant, " ++ rounds_text claim
class_text (class.Order order) = order_text order
class_text (class.Bounds least most) = bounds_text least most
class_text (class.AtMost most) = codes "at most " ++ most_text most
