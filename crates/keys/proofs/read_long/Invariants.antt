use Rattle.std.proofs.Common.{◌≡◌, ◌^◌, ◌<◌, drop}
use Rattle.inty.specs.Value.{value_of}
use Rattle.keys.specs.Read.{number, overflow}
use Rattle.keys.proofs.read_long.Given as goal

abbrev pub invariant-loop-c : goal.invariant-loop-c
invariant-loop-c l =
    (l.x.hi < 2 ^ 64) × (l.x.lo < 2 ^ 64) × (overflow (number (value_of l.x) (drop l.c-index l.digits)) ≡ overflow (number l.acc l.digits))
