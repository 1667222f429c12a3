use Rattle.re_words.proofs.TablingLemmas.{solved_for}
use Rattle.re_words.proofs.tabling.written.Goals as goal

pub print_table-requires : goal.print_table-requires
print_table-requires c = solved_for c.args.problem.now c.args.table.now c.names-names.ensures.problem.problem c.radius-radius.ensures.table c.requires.active c.requires.passive c.requires.solves
