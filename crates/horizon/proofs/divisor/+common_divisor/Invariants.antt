use Rattle.horizon.proofs.divisor.+common_divisor.Given as goal

-- proposed from what the function passes where it calls itself
abbrev pub decreases-common_divisor : goal.decreases-common_divisor
decreases-common_divisor l = l.b
