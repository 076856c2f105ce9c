use Rattle.std.proofs.Common.{◌≡◌, length}
use Rattle.keys.specs.Read.{strip}
use Rattle.keys.proofs.skip_ks.Given as goal

abbrev pub invariant-loop-rest : goal.invariant-loop-rest
invariant-loop-rest l = strip l.rest ≡ strip l.key

abbrev pub decreases-loop-rest : goal.decreases-loop-rest
decreases-loop-rest l = length l.rest
