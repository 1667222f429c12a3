use Rattle.std.proofs.Common.{◌≡◌, ◌++◌, take}
use Rattle.std.specs.List.{AllByRecursion}
use Rattle.re_texts.specs.PrintedCertificates.{IsLabelled, entries_text}
use Rattle.re_texts.proofs.printed_certificate.push_entries.Given as goal

abbrev pub invariant-loop-entry : goal.invariant-loop-entry
invariant-loop-entry l = record {
  printed : l.text.items ≡ l.fn.text.items ++ entries_text l.lower l.before l.next (take l.entry-index l.entries);
  held : AllByRecursion IsLabelled (take l.entry-index l.entries);
}
