use Rattle.std.proofs.Common.{◌≡◌, ◌≤◌, length}
use Rattle.test_calls.proofs.Program.run.Given as goal

abbrev pub invariant-loop : goal.invariant-loop
invariant-loop l = (l.have ≤ 1024) × (length l.buf ≡ length l.initial.buf)
