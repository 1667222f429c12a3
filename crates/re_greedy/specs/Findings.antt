-- What the search for multisets with which a problem is greedy gives.
use Rattle.std.specs.Prelude.{◌≡◌, ◌⊎◌, ℕ, ◌<◌, ◌≤◌, true, false, List, [], length, Contains}
use Rattle.re_greedy.specs.Greedy.{IsGreedy, wanting}
use Rattle.re_greedy.specs.Partials.{IsAnswered, IsPart, IsRight, IsStuck}
use Rattle.re_greedy.specs.declared.answering.Reply.{Reply}
use Rattle.re_greedy.specs.declared.answering.Reply.TheVariants.{Answered as ReplyAnswered, Limit as ReplyLimit, Stuck as ReplyStuck}
use Rattle.re_greedy.specs.declared.answering.Tried.{Tried}
use Rattle.re_greedy.specs.declared.answering.Tried.TheVariants.{Answered, Limit, Stuck}
use Rattle.re_greedy.specs.declared.finding.Greediness.{Greediness}
use Rattle.re_greedy.specs.declared.finding.Greediness.TheVariants.{Greedy, NotGreedy, Unknown}
use Rattle.re_greedy.specs.declared.judging.ListVerdict.{ListVerdict}
use Rattle.re_greedy.specs.declared.judging.ListVerdict.TheVariants.{Greedy as GreedyList, Limit as LimitList, NoEmpty, NotPassive, Stuck as StuckList}
use Rattle.re_labels.specs.Orders.{multisets}
use Rattle.re_labels.specs.Rows.{placed}
use Rattle.re_problem.specs.Problems.{Problem}
use Rattle.re_labels.specs.Constraints.{Constraint}
use Rattle.re_labels.specs.GoodRows.{is_allowed}

-- a multiset of places from whose sets no choice is a configuration, or that there is none, or that there are more multisets than tries
abbrev pub IsTried : Constraint → List (List ℕ) → ℕ → Tried → Type 0
IsTried constraint joining tries (Stuck places) = Contains (multisets constraint.degree 0 (length joining)) places × (is_allowed constraint (placed joining places) ≡ false)
IsTried constraint joining tries Answered =
    (places : List ℕ) → Contains (multisets constraint.degree 0 (length joining)) places → is_allowed constraint (placed joining places) ≡ true
IsTried constraint joining tries Limit = tries < length (multisets constraint.degree 0 (length joining))

-- the tries may not be enough: of the multisets that want one more label there are more than 1000, or some of them have more multisets of as many as an active
-- node has neighbours than there are tries
abbrev pub IsBeyond : Problem → List (List ℕ) → ℕ → Type 0
IsBeyond problem partial tries = (count : ℕ) × (count ≤ length (wanting problem.passive.degree partial))
    × ((1000 < count) ⊎ (tries < length (multisets problem.active.degree 0 count)))

-- what an active node can't answer, or that it can answer all, or that so many tries may not be enough
abbrev pub IsReply : Problem → List (List ℕ) → ℕ → Reply → Type 0
IsReply problem partial tries (ReplyStuck around) = IsStuck problem partial around.items
IsReply problem partial tries ReplyAnswered = IsAnswered problem partial
IsReply problem partial tries ReplyLimit = IsBeyond problem partial tries

-- multisets whose ones of passive degree are passive configurations, among them all that are to be kept, of which the empty one is one
pub record IsWhole (problem : Problem) (partial kept : List (List ℕ)) : Type 0 where
  pub full : (labels : List ℕ) → Contains partial labels → length labels ≡ problem.passive.degree → Contains problem.passive.configs labels
  pub held : IsPart kept partial
  pub none : Contains kept []

-- the problem is greedy with no list of these multisets that has all that are to be kept
abbrev pub IsNoneBetween : Problem → List (List ℕ) → List (List ℕ) → Type 0
IsNoneBetween problem partial kept = (other : List (List ℕ)) → IsPart kept other → IsPart other partial → IsGreedy problem other → ⊥

-- what the problem is greedy with, or that no list between these is it
abbrev pub IsSearched : Problem → List (List ℕ) → List (List ℕ) → Greediness → Type 0
IsSearched problem partial kept (Greedy found) = IsGreedy problem found.items
IsSearched problem partial kept NotGreedy = IsNoneBetween problem partial kept
IsSearched problem partial kept Unknown = Unit {0}

-- what the problem is greedy with, or that each list between these with which it is has all of what is around
abbrev pub IsRefused : Problem → List (List ℕ) → List (List ℕ) → List (List ℕ) → Greediness → Type 0
IsRefused problem partial kept around (Greedy found) = IsGreedy problem found.items
IsRefused problem partial kept around NotGreedy = (other : List (List ℕ)) → IsPart kept other → IsPart other partial → IsGreedy problem other → IsPart around other
IsRefused problem partial kept around Unknown = Unit {0}

-- what the problem is greedy with, or that it is with nothing
abbrev pub IsFinding : Problem → Greediness → Type 0
IsFinding problem (Greedy found) = IsGreedy problem found.items
IsFinding problem NotGreedy = (partial : List (List ℕ)) → IsGreedy problem partial → ⊥
IsFinding problem Unknown = Unit {0}

-- that the problem is greedy with these multisets, or what isn't as it has to be, or that so many tries may not be enough
abbrev pub IsListVerdict : Problem → List (List ℕ) → ℕ → ListVerdict → Type 0
IsListVerdict problem partial tries GreedyList = IsGreedy problem partial
IsListVerdict problem partial tries NoEmpty = Contains partial [] → ⊥
IsListVerdict problem partial tries (NotPassive labels) = Contains partial labels × (IsRight problem.passive labels → ⊥)
IsListVerdict problem partial tries (StuckList around) = IsStuck problem partial around.items
IsListVerdict problem partial tries LimitList = IsBeyond problem partial tries

-- it says that the problem isn't greedy with them
abbrev pub IsRefusal : ListVerdict → Type 0
IsRefusal NoEmpty = Unit {0}
IsRefusal (NotPassive labels) = Unit {0}
IsRefusal (StuckList around) = Unit {0}
IsRefusal GreedyList = ⊥
IsRefusal LimitList = ⊥

-- and then it isn't
abbrev pub RefusedListLaw : Type 0
RefusedListLaw = (problem : Problem) (partial : List (List ℕ)) (tries : ℕ) (verdict : ListVerdict) → IsListVerdict problem partial tries verdict → IsRefusal verdict → IsGreedy problem partial → ⊥
