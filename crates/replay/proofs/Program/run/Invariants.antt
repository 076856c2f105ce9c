use Rattle.std.proofs.Common.{◌≡◌, length}
use Rattle.replay.specs.Steps.{Stands, TurnsSoFar}
use Rattle.replay.proofs.Program.run.Given as goal

abbrev pub invariant-loop : goal.invariant-loop
invariant-loop l = Stands l.stream l.self.buf.now l.self.buffers.mem.now l.self.buffers.rows.now l.self.buffers.area.now l.self.buffers.groups.now × TurnsSoFar l.stream l.self.buf.now l.self.buffers.mem.now l.self.buffers.rows.now
