use Rattle.std.proofs.Common.{◌≡◌, drop}
use Rattle.keys.specs.Read.{number, overflow}
use Rattle.keys.proofs.read_digits.Given as goal

abbrev pub invariant-loop-i : goal.invariant-loop-i
invariant-loop-i l = overflow (number l.acc (drop l.i l.digits)) ≡ overflow (number 0 l.digits)
