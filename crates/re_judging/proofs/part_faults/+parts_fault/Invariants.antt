use Rattle.re_judging.proofs.part_faults.+parts_fault.Given as goal

abbrev pub decreases-parts_fault : goal.decreases-parts_fault
decreases-parts_fault l = l.more
