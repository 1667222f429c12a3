-- Which class a problem has where so much is known of it.
use Rattle.std.specs.Prelude.{None, Option, Some}
use Rattle.re_evidence.specs.Claims.{within}
use Rattle.re_evidence.specs.Classes.{bounded_class}
use Rattle.re_evidence.specs.declared.types.Claim.TheVariants.{Exactly}
use Rattle.re_evidence.specs.declared.types.Class.{Class}
use Rattle.re_evidence.specs.declared.types.Class.TheVariants as class
use Rattle.re_evidence.specs.declared.types.Least.{Least}
use Rattle.re_evidence.specs.declared.types.Least.TheVariants as least
use Rattle.re_evidence.specs.declared.types.Most.{Most}
use Rattle.re_evidence.specs.declared.types.Most.TheVariants as most
use Rattle.re_evidence.specs.declared.types.Order.TheVariants as order
use Rattle.re_settle.specs.declared.types.Further.{Further}
use Rattle.re_settle.specs.declared.types.Further.TheVariants as further
use Rattle.re_settle.specs.declared.types.Settled.{Settled}
use Rattle.re_settle.specs.declared.types.Settled.TheVariants as settled
use Rattle.re_settle.specs.declared.types.Way.{Way}
use Rattle.re_settle.specs.declared.types.Way.TheVariants.{Cover}

-- the bound below of what no number of rounds solves by these words: a graph shows that of log* N; a fixed point that of log N, and so does that no set of
-- labels is flexible
abbrev pub least_of : Way → Least
least_of (Cover nodes) = least.LogStar
least_of way = least.Log

-- the class of what no number of rounds solves by these words, where so much is found besides
abbrev pub never_class : Way → Further → Option Most → Class
never_class way further.Nothing above = bounded_class (least_of way) above
never_class way further.Linear above = class.Order order.Linear
never_class way (further.FewColours coloured) above = class.Order order.LogStar
never_class way further.Greedy above = class.Order order.LogStar
never_class way (further.FixedPoint later) above = bounded_class least.Log above

-- the bound above that is found besides, or else this one: what is solvable given few colours, or greedy, takes at most the order of log* N
abbrev pub above_with : Further → Option Most → Option Most
above_with further.Nothing above = above
above_with further.Linear above = above
above_with (further.FewColours coloured) above = Some most.LogStar
above_with further.Greedy above = Some most.LogStar
above_with (further.FixedPoint later) above = above

-- the class where so much is known, and at most so many rounds are enough on finite forests; without these it is the class of local algorithms
abbrev pub class_of : Settled → Further → Option Most → Class
class_of settled.Unsolvable further above = class.NoSolution
class_of (settled.Exactly shown) further above = class.Constant (Exactly shown.rounds)
class_of (settled.Never way) further above = never_class way further above
class_of (settled.Within more None) further above = bounded_class (least.MoreThan more.rounds) (above_with further above)
class_of (settled.Within more (Some most)) further above = class.Constant (within more.rounds most.rounds)
