use Rattle.re_describe.proofs.class_parts.+said_parts.Given as goal

abbrev pub decreases-said_parts : goal.decreases-said_parts
decreases-said_parts l = l.more
