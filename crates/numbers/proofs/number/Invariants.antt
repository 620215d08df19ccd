use Rattle.std.specs.Prelude.{◌≡◌, ◌<◌, ◌^◌, take}
use Rattle.numbers.specs.Numbers.{number_after}
use Rattle.numbers.proofs.number.Given as goal

abbrev pub invariant-loop-byte : goal.invariant-loop-byte
invariant-loop-byte g l = record { value : l.number ≡ number_after 0 (take l.byte-index l.byte-items); bound : l.number < 256 ^ l.byte-index }
