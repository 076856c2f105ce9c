use Rattle.std.proofs.Common.{◌≤◌}
use Rattle.key_program.proofs.Program.run.Given as goal

abbrev pub invariant-loop : goal.invariant-loop
invariant-loop l = l.line.have ≤ 1024
