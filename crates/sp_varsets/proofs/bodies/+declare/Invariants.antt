use Rattle.sp_varsets.proofs.bodies.+declare.Given as goal

abbrev pub decreases-declare : goal.decreases-declare
decreases-declare l = l.block
