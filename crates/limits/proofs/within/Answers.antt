use Rattle.minplus.specs.Claim.{max_x}
use Rattle.limits.specs.Told.{told-leb}
use Rattle.limits.proofs.within.Goals as goal

pub returns-in-Delay : goal.returns-in-Delay
returns-in-Delay c = rw c.in-Delay.is (told-leb c.in-Delay.x.0 max_x)

pub returns-in-Backlog : goal.returns-in-Backlog
returns-in-Backlog c = rw c.in-Backlog.is (told-leb c.in-Backlog.x.0 max_x)
