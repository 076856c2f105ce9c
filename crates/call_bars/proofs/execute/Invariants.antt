use Rattle.std.proofs.Common.{◌≡◌}
use Rattle.call_bars.specs.Moves.{Executes}
use Rattle.call_bars.proofs.execute.Given as goal

abbrev pub invariant-loop-k : goal.invariant-loop-k
invariant-loop-k l = record {
  same_reference : l.insts.words.ghost_name ≡ l.initial.insts.words.ghost_name;
  executes : Executes l.window.start.0 l.k l.initial.insts.words.now l.insts.words.now;
}
