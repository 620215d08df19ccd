use Rattle.horizon.proofs.crossing.turning.Given as goal

abbrev pub ghost-extreme : goal.ghost-extreme
ghost-extreme g a = g.choice
