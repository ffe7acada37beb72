use Rattle.sp_verify_effects.proofs.edges.edges_of.Goals as goal

pub returns : goal.returns
returns c = (c.in-Ok.value, c.in-Ok.ensures, c.in-Ok-link_all.ensures)
