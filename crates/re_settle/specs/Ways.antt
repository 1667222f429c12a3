-- What words show of a problem.
use Rattle.std.specs.Prelude.{◌≡◌, ◌≤◌, ◌<◌, ◌*◌, ◌⊎◌, ℕ, zero, suc, List, [], ◌∷◌, length, IfSome, None, Option, Some, Ok}
use Rattle.re_cert.specs.Bounds.{Bound, last_problem}
use Rattle.re_cert.specs.declared.certificate.Kind.{Kind}
use Rattle.re_cert.specs.declared.certificate.Kind.TheVariants as kind
use Rattle.re_texts.specs.PrintedCertificates.{certificate_text}
use Rattle.re_shaping.specs.Merging.{merge_limit, merge_refusal, merged}
use Rattle.re_chains.specs.Chains.{chain_with}
use Rattle.re_shaping.specs.Stepped.{stepped, stepping_fault}
use Rattle.re_chains.specs.ChainTexts.{problem_chain}
use Rattle.re_chains.specs.OverChains.{IsTextOf}
use Rattle.re_classes.specs.Classes.{IsAboveLog}
use Rattle.re_closure.specs.Closures.{IsClosed, IsSolvableBy, LimitIs}
use Rattle.re_closure.specs.RaisedClosures.{IsRaisedClosed}
use Rattle.re_closure.specs.declared.types.ClosureLimit.{ClosureLimit}
use Rattle.re_cover.specs.Graphs.{PortGraph}
use Rattle.re_going_on.specs.CycleAnswers as cycle
use Rattle.re_going_on.specs.declared.cycle.Cycle.TheVariants as cycle_answer
use Rattle.re_graph.specs.Solving.{IsCover}
use Rattle.re_forest_words.specs.Showings as greedy
use Rattle.re_forest_words.specs.declared.showing.Shown.{Shown as GreedyShown}
use Rattle.re_flexible.specs.Lengths.{IsFlexibility}
use Rattle.re_flexible.specs.declared.levels.Flexibility.{Flexibility}
use Rattle.re_flexible.specs.declared.levels.Flexibility.TheVariants.{Length, NoSolution}
use Rattle.re_given_words.specs.Counting.{IsCounted, MayTell}
use Rattle.re_given_words.specs.declared.counting.Counted.{Counted}
use Rattle.re_given_words.specs.declared.counting.Counted.TheVariants as counted
use Rattle.re_settings.specs.declared.setting.Setting.TheVariants as setting
use Rattle.re_going_on.specs.ShortestAnswers as shortest
use Rattle.re_shaping.specs.Extensions.{GoesOn}
use Rattle.re_going_on.specs.declared.shortening.Shortest.TheVariants as shortest_answer
use Rattle.re_problem.specs.NamedProblems.{NamedProblem, unnamed}
use Rattle.re_problem.specs.Zero.{zero_place}
use Rattle.re_laws.specs.Algorithms.{Solvable}
use Rattle.re_relaxed.specs.Answers as relaxed
use Rattle.re_relaxed.specs.declared.types.Relaxed.TheVariants as relaxed_answer
use Rattle.re_search.specs.Searches.{search_of}
use Rattle.re_search.specs.declared.types.Search.TheVariants.{Found}
use Rattle.re_evidence.specs.Claims.{Holds}
use Rattle.re_settle.specs.Claims.{claim_of}
use Rattle.re_evidence.specs.Classes.{ClassHolds, LeastHolds, MostHolds}
use Rattle.re_settle.specs.Classes.{above_with, class_of, least_of}
use Rattle.re_settle.specs.Coloured.{IsColoured}
use Rattle.re_settle.specs.Measures.{IsSmall, doublings, greatest_degree, longest_labels, longest_steps, shortest_labels, shortest_steps}
use Rattle.re_evidence.specs.declared.types.Claim.{Claim}
use Rattle.re_evidence.specs.declared.types.Claim.TheVariants.{AtMost, Exactly, MoreThan, Never}
use Rattle.re_evidence.specs.OnForests.{ClassOnForests}
use Rattle.re_settle.specs.Levels.{above_of, further_ahead, known_ahead, length_of}
use Rattle.re_settle.specs.declared.types.Classified.{Classified}
use Rattle.re_settle.specs.declared.types.Further.{Further}
use Rattle.re_settle.specs.declared.types.Further.TheVariants as further
use Rattle.re_evidence.specs.declared.types.Least.TheVariants as least
use Rattle.re_evidence.specs.declared.types.Most.{Most}
use Rattle.re_settle.specs.declared.types.Settled.{Settled}
use Rattle.re_settle.specs.declared.types.Settled.TheVariants as settled
use Rattle.re_settle.specs.declared.types.Way.{Way}
use Rattle.re_settle.specs.declared.types.Way.TheVariants.{Closure, Cover, Cycle, Fixed, Flexible, Longest, Lower, Merge, Raised, Relaxed, Rounds, Shortest, Through, Upper, Zero}

-- ---- which words are tried
-- the numbers of the words that are tried on a problem, where bounds are taken so many times: a graph is listed, or one of at most 8 or of at most 64 nodes is made
-- of gadgets; problems of `shortest` have few labels, or all that a text may name, or, in degree 5, two for each pair of ports
abbrev pub IsTried : ℕ → NamedProblem → Way → Type 0
IsTried times problem Zero = Unit {0}
IsTried times problem Flexible = Unit {0}
IsTried times problem Through = Unit {0}
IsTried times problem (Lower steps merges) = (steps ≤ 8) × (merges ≡ 0)
IsTried times problem (Upper steps drops) = (steps ≤ 9) × (drops ≡ 0)
IsTried times problem (Fixed steps merges) = (steps ≡ 4) × (merges ≡ 0)
IsTried times problem (Closure steps) = steps ≤ 2
IsTried times problem (Raised low high) = Unit {0}
IsTried times problem (Merge from to) = Unit {0}
IsTried times problem (Cover nodes) = nodes ≡ 4 ⊎ (nodes ≡ 8 ⊎ nodes ≡ 64)
IsTried times problem (Cycle steps merges nodes) = (steps ≡ 8) × (merges ≡ 1) × (nodes ≡ 300 * times)
IsTried times problem (Relaxed nodes) = (nodes ≡ 16 * times) ⊎ (nodes ≡ 200 * times)
IsTried times problem (Rounds most) = most ≡ 8 ⊎ most ≡ 9
IsTried times problem (Longest steps labels) =
    (steps ≡ longest_steps (doublings times)) × (labels ≡ longest_labels (greatest_degree problem) (doublings times))
IsTried times problem (Shortest steps labels) =
    ((steps ≡ shortest_steps (doublings times)) × (labels ≡ shortest_labels (greatest_degree problem) (doublings times)))
    ⊎ (((steps ≤ 9) × (labels ≡ 128)) ⊎ ((steps ≡ 6) × (labels ≡ 20)))

-- the text of the bound is no longer than one that is read, and is read as it
abbrev pub HasText : Bound → Type 0
HasText bound = IsTextOf bound (certificate_text bound)

-- the search for a bound of this kind finds one, of so many steps, that has a text
pub record Finds (kind : Kind) (steps changes : ℕ) (problem : NamedProblem) (found : ℕ) : Type 0 where
  pub bound : Bound
  pub finds : search_of kind steps changes problem ≡ Ok (Found bound)
  pub count : length bound.steps ≡ found
  pub text : HasText bound

-- the closure of the chain's last problem gives a fixed point that has a text; or, behind so many derived problems more, the first one whose closure isn't
-- solvable without communication
abbrev pub ClosesBehind : ℕ → Bound → Type 0
ClosesBehind zero chain = (bound : Bound) × IsClosed chain bound × HasText bound
ClosesBehind (suc steps) chain = (sets : List (List ℕ)) × IsSolvableBy (last_problem chain) sets × (stepping_fault chain ≡ None) × ClosesBehind steps (stepped chain)

-- the closure of the chain's last problem can be computed: this one isn't solvable without communication, and no limit is passed on the way
pub record IsComputable (chain : Bound) : Type 0 where
  pub not_zero : zero_place (unnamed (last_problem chain)) ≡ None
  pub within : (passed : ClosureLimit) → LimitIs chain passed → ⊥

-- a problem behind a step whose closure is tried has few labels and few configurations
abbrev pub IsClosable : ℕ → NamedProblem → Type 0
IsClosable times problem = (length problem.names ≤ 16) × IsSmall (unnamed problem) 64 times

-- the chain has no step more, or one to a problem whose closure isn't tried
abbrev pub IsEnd : ℕ → Bound → Type 0
IsEnd times chain = stepping_fault chain ≡ None → IsClosable times (last_problem (stepped chain)) → ⊥

-- so can the closures of all problems up to so many derived ones behind the chain, and those behind a step are tried
abbrev pub AreComputable : ℕ → ℕ → Bound → Type 0
AreComputable times zero chain = IsComputable chain
AreComputable times (suc steps) chain = IsComputable chain × IsClosable times (last_problem (stepped chain)) × AreComputable times steps (stepped chain)

-- labels of the problem can be merged so, and the closure behind the chain that this gives is a fixed point; both have a text
pub record ClosesMerged (from to : ℕ) (problem : NamedProblem) : Type 0 where
  pub may : merge_refusal from to (problem_chain problem) ≡ None
  pub within : merge_limit from to (problem_chain problem) ≡ None
  pub chain : HasText (merged from to (problem_chain problem))
  pub bound : Bound
  pub closed : IsClosed (merged from to (problem_chain problem)) bound
  pub text : HasText bound

-- the one label is raised to the other, and the closure of that problem is a fixed point, which has a text
pub record ClosesRaised (low high : ℕ) (problem : NamedProblem) : Type 0 where
  pub is_low : low < length problem.names
  pub is_high : high < length problem.names
  pub bound : Bound
  pub closed : IsRaisedClosed ((low, high) ∷ []) (problem_chain problem) bound
  pub text : HasText bound

-- whether it is solvable without communication, as `zero` answers
abbrev pub ShowsZero : Option ℕ → Claim → Type 0
ShowsZero (Some place) claim = claim ≡ Exactly 0
ShowsZero None claim = claim ≡ MoreThan 0

-- what a count of rounds says
abbrev pub SaysCounted : Counted → Claim → Type 0
SaysCounted (counted.Exactly rounds) claim = claim ≡ Exactly rounds
SaysCounted (counted.MoreThan rounds) claim = claim ≡ MoreThan rounds
SaysCounted (counted.Passed rounds limit) claim = claim ≡ MoreThan rounds
SaysCounted (counted.Stopped rounds steps limit) claim = claim ≡ MoreThan rounds
SaysCounted (counted.Tried rounds) claim = ⊥

-- the rounds that it says are too few, where more may be
abbrev pub few_of : Counted → Option ℕ
few_of (counted.MoreThan rounds) = Some rounds
few_of (counted.Passed rounds limit) = Some rounds
few_of (counted.Stopped rounds steps limit) = Some rounds
few_of (counted.Exactly rounds) = None
few_of (counted.Tried rounds) = None

-- what an answer of these words shows of the problem: that of `zero` whether there is an algorithm without communication; that of `flexible` that no set of
-- labels is flexible; that of a search the bound that it
-- finds, or, of `cycle`, `relaxed`, `through`, `longest` and `shortest`, one that it may find; `rounds` what it may count; `closure` its fixed point; `cover` a graph
-- without a solution
abbrev pub Shows : Way → Claim → NamedProblem → Type 0
Shows Zero claim problem = ShowsZero (zero_place (unnamed problem)) claim
Shows Flexible claim problem = (claim ≡ Never) × ((count : ℕ) × IsFlexibility (unnamed problem) (Length count))
Shows (Lower steps merges) claim problem = (found : ℕ) × (claim ≡ MoreThan found) × Finds kind.Lower steps merges problem found
Shows (Upper steps drops) claim problem = (found : ℕ) × (claim ≡ AtMost found) × Finds kind.Upper steps drops problem found
Shows (Fixed steps merges) claim problem = (claim ≡ Never) × ((found : ℕ) × Finds kind.Fixed steps merges problem found)
Shows (Closure steps) claim problem = (claim ≡ Never) × ClosesBehind steps (problem_chain problem)
Shows (Raised low high) claim problem = (claim ≡ Never) × ClosesRaised low high problem
Shows (Merge from to) claim problem = (claim ≡ Never) × ClosesMerged from to problem
Shows (Cover nodes) claim problem = (claim ≡ Never) × ((graph : PortGraph) × IsCover (unnamed problem) graph × (graph.nodes ≤ nodes))
Shows (Cycle steps merges nodes) claim problem =
    (claim ≡ Never) × ((bound : Bound) × cycle.Answers setting.Alone steps (problem_chain problem) (cycle_answer.Found bound) × HasText bound)
Shows (Relaxed nodes) claim problem =
    (claim ≡ Never) × ((bound : Bound) × relaxed.Answers (problem_chain problem) (relaxed_answer.Found bound) × HasText bound)
Shows Through claim problem =
    (claim ≡ Never) × ((bound : Bound) × relaxed.Answers (problem_chain problem) (relaxed_answer.Found bound) × HasText bound)
Shows (Rounds most) claim problem = (counts : Counted) × MayTell (unnamed problem) None most counts × SaysCounted counts claim
Shows (Longest steps labels) claim problem =
    (bound : Bound) × (claim ≡ MoreThan (length bound.steps)) × GoesOn kind.Lower steps labels (problem_chain problem) bound × HasText bound
Shows (Shortest steps labels) claim problem =
    (bound : Bound) × (claim ≡ AtMost (length bound.steps))
    × shortest.Answers setting.Alone steps labels (chain_with kind.Upper problem []) (shortest_answer.Found bound) × HasText bound

-- the words are tried, where bounds are taken so many times, and show the claim
pub record IsShown (times : ℕ) (problem : NamedProblem) (claim : Claim) (way : Way) : Type 0 where
  pub tried : IsTried times problem way
  pub shows : Shows way claim problem

-- so they do, and it is true
pub record IsKnown (times : ℕ) (problem : NamedProblem) (claim : Claim) (way : Way) : Type 0 where
  pub shown : IsShown times problem claim way
  pub holds : Holds claim (unnamed problem)

-- the words show a fixed point
pub record IsFixedPoint (times : ℕ) (problem : NamedProblem) (way : Way) : Type 0 where
  pub known : IsKnown times problem Never way
  pub finds : least_of way ≡ least.Log
  pub above : IsAboveLog (unnamed problem)

-- the words show that no number of rounds solves the problem, and the bound below that they show of local algorithms is true
pub record IsNever (times : ℕ) (problem : NamedProblem) (way : Way) : Type 0 where
  pub known : IsKnown times problem Never way
  pub least : LeastHolds (least_of way) (unnamed problem)

-- what `rounds 8` counts by steps alone to be exact is claimed
abbrev pub AnswersCount : NamedProblem → Settled → Type 0
AnswersCount problem settled = (rounds : ℕ) → IsCounted (unnamed problem) None 8 (counted.Exactly rounds) → claim_of settled ≡ Exactly rounds

-- it counts no number to be exact by steps alone
abbrev pub IsUncounted : NamedProblem → Type 0
IsUncounted problem = (rounds : ℕ) → IsCounted (unnamed problem) None 8 (counted.Exactly rounds) → ⊥

-- a fixed point of at most 4 steps without merges that has a text is claimed
abbrev pub AnswersFixed : NamedProblem → Settled → Type 0
AnswersFixed problem settled = Shows (Fixed 4 0) Never problem → claim_of settled ≡ Never

-- so is that of the closure of the problem, or the one behind 1 or 2 derived problems, where they can be computed
abbrev pub AnswersClosure : ℕ → NamedProblem → Settled → Type 0
AnswersClosure times problem settled =
    (steps : ℕ) → steps ≤ 2 → AreComputable times steps (problem_chain problem) → Shows (Closure steps) Never problem → claim_of settled ≡ Never

-- there is no fixed point of at most 4 steps without merges that has a text
abbrev pub IsUnfixed : NamedProblem → Type 0
IsUnfixed problem = Shows (Fixed 4 0) Never problem → ⊥

-- nor one of a closure that can be computed, up to so many derived problems behind the chain
abbrev pub IsUnclosed : ℕ → ℕ → Bound → Type 0
IsUnclosed times more chain = (steps : ℕ) → steps ≤ more → AreComputable times steps chain → ClosesBehind steps chain → ⊥

-- each of the words shows its part of what is claimed; there is no level of labels, as `flexible` answers
abbrev pub AreShown : ℕ → Settled → NamedProblem → Type 0
AreShown times settled.Unsolvable problem = IsFlexibility (unnamed problem) NoSolution
AreShown times (settled.Exactly shown) problem = IsShown times problem (Exactly shown.rounds) shown.way
AreShown times (settled.Never way) problem = IsShown times problem Never way
AreShown times (settled.Within more None) problem = IsShown times problem (MoreThan more.rounds) more.way
AreShown times (settled.Within more (Some most)) problem =
    IsShown times problem (MoreThan more.rounds) more.way × IsShown times problem (AtMost most.rounds) most.way

-- words show what is found of the class besides; there is one level of labels alone, as `flexible` answers; it, or a problem at most 2 derived ones behind it, is
-- greedy
abbrev pub IsShownFurther : ℕ → Further → NamedProblem → Type 0
IsShownFurther times further.Nothing problem = Unit {0}
IsShownFurther times further.Linear problem = IsFlexibility (unnamed problem) (Length 1)
IsShownFurther times (further.FewColours coloured) problem = IsColoured times problem coloured
IsShownFurther times further.Greedy problem = (shown : GreedyShown) × greedy.IsShown (unnamed problem) 2 shown
IsShownFurther times (further.FixedPoint way) problem = IsShown times problem Never way × (least_of way ≡ least.Log)

-- so much is found of the problem, where bounds are taken so many times: words show it, and what is claimed is true, also of local algorithms. What `rounds 8`
-- counts by steps alone to be exact is claimed; so is what `fixed 4 0` shows, and `closure` within its limits
pub record IsFound (times : ℕ) (problem : NamedProblem) (settled : Settled) : Type 0 where
  pub shown : AreShown times settled problem
  pub holds : Holds (claim_of settled) (unnamed problem)
  pub class : ClassHolds (class_of settled further.Nothing None) (unnamed problem)
  pub counted : AnswersCount problem settled
  pub fixed : AnswersFixed problem settled
  pub closed : AnswersClosure times problem settled

-- and so much of its class besides, which is true of them too, and so is the bound above that is found
pub record IsFoundFurther (times : ℕ) (problem : NamedProblem) (settled : Settled) (further : Further) : Type 0 where
  pub shown : IsShownFurther times further problem
  pub class : ClassHolds (class_of settled further None) (unnamed problem)
  pub above : IfSome (above_with further None) (λ (most : Most). MostHolds most (unnamed problem))

-- so much is known of it: what is found, the class on finite forests too, and what its levels of labels tell, of which `flexible` tells how many there are: where
-- there is no flexible set, they tell all. Of what is solvable without communication exactly 0 rounds are claimed
pub record IsSettled (times : ℕ) (problem : NamedProblem) (classified : Classified) : Type 0 where
  pub found : IsFound times problem classified.settled
  pub besides : IsFoundFurther times problem classified.settled classified.further
  pub forests : ClassOnForests (class_of classified.settled classified.further classified.above) (unnamed problem)
  pub flexibility : Flexibility
  pub decided : IsFlexibility (unnamed problem) flexibility
  pub ahead : IfSome (known_ahead flexibility) (λ settled. classified.settled ≡ settled)
  pub further_ahead : IfSome (further_ahead flexibility) (λ further. classified.further ≡ further)
  pub above : classified.above ≡ above_of (unnamed problem) flexibility
  pub length : classified.length ≡ length_of (unnamed problem) flexibility
  pub at_once : Solvable (unnamed problem) 0 → claim_of classified.settled ≡ Exactly 0
