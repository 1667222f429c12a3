-- The algorithm of an upper bound, written out.
use Rattle.std.specs.Prelude.{length, map, Option}
use Rattle.std.specs.Option.{option_map}
use Rattle.re_problem.specs.NamedProblems.{unnamed}
use Rattle.re_laws.specs.AllViews.{all_views}
use Rattle.re_algo.specs.Counting.{view_count}
use Rattle.re_laws.specs.Algorithms.{Solves}
use Rattle.re_laws.specs.Extracted.{IsUpperBound, extracted}
use Rattle.re_cert.specs.Bounds.{Bound}
use Rattle.re_cert.specs.Stages.{stages_of}
use Rattle.re_algo.specs.Tables.{AnswerTable, entries}

-- its answers at all active views of as many rounds as there are steps
abbrev pub upper_table : Bound → AnswerTable
upper_table bound = record {
  degrees = record { active = bound.first.active.degree; passive = bound.first.passive.degree };
  radius = length bound.steps;
  answers = map (extracted (unnamed bound.first) (stages_of bound.steps)) (all_views bound.first.active.degree bound.first.passive.degree (length bound.steps));
}

-- the same, unless there are more views than are listed
abbrev pub listed_table : Bound → Option AnswerTable
listed_table bound = option_map (λ count. upper_table bound) (view_count bound.first.active.degree bound.first.passive.degree (length bound.steps))

-- it solves the first problem in as many rounds as there are steps, however many views there are
abbrev pub UpperTableLaw : Type 0
UpperTableLaw = (bound : Bound) → IsUpperBound (unnamed bound.first) (stages_of bound.steps)
    → Solves (unnamed bound.first) (length bound.steps) (entries (upper_table bound))
