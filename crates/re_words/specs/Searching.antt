-- The commands that search for a certificate: `lower`, `upper` and `fixed`.
use Rattle.std.specs.Prelude.{ℕ, codes, Result, Ok, Err}
use Rattle.re_cert.specs.declared.certificate.Kind.{Kind}
use Rattle.re_texts.specs.PrintedCertificates.{certificate_text}
use Rattle.re_problem.specs.NamedProblems.{NamedProblem}
use Rattle.re_search.specs.Searches.{search_of}
use Rattle.re_search.specs.declared.types.FindFault.{FindFault}
use Rattle.re_search.specs.declared.types.Search.{Search}
use Rattle.re_search.specs.declared.types.Search.TheVariants.{Found, NotFound}
use Rattle.re_search.specs.declared.walking.TheConstants.{MAX_NODES}
use Rattle.re_frame.specs.Outcomes.{Outcome, done, limit_of, refused}
use Rattle.re_frame.specs.SearchLines.{not_found_line}

-- the certificate that is found, or the counts of the nodes, unless these are too many
abbrev pub searched : Result Search FindFault → Outcome
searched (Ok (Found bound)) = done (certificate_text bound)
searched (Ok (NotFound nodes cut)) = refused (not_found_line nodes cut)
searched (Err fault) = limit_of MAX_NODES (codes "nodes")

-- the search for a bound of this kind, by paths of at most so many steps with at most so many changes in each
unfoldable pub search_outcome : Kind → ℕ → ℕ → NamedProblem → Outcome
search_outcome kind steps changes problem = searched (search_of kind steps changes problem)
