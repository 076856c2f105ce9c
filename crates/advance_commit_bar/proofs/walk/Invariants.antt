use Rattle.std.proofs.Common.{◌≡◌, ◌≤◌}
use Rattle.advance_commit_bar.proofs.Laws as law
use Rattle.advance_commit_bar.proofs.walk.Given as goal

abbrev pub invariant-loop-k : goal.invariant-loop-k
invariant-loop-k l = record {
  same_words : l.insts.words.ghost_name ≡ l.initial.insts.words.ghost_name;
  same_area : l.items.area.ghost_name ≡ l.initial.items.area.ghost_name;
  within : l.k ≤ l.window.held;
  going : law.GoingAt l.window.start.0 l.window.held l.ballot.0 l.fn.bar.0 l.fn.commit.0 l.initial.items.count l.initial.insts.words.now l.initial.items.area.now l.k l.items.count l.insts.words.now l.items.area.now;
}
