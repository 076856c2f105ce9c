use Rattle.std.proofs.Common.{◌≡◌}
use Rattle.ids.specs.Leader.{leader_of}
use Rattle.become_a_leader.proofs.Laws as law
use Rattle.become_a_leader.proofs.release_all.Given as goal

abbrev pub invariant-loop-k : goal.invariant-loop-k
invariant-loop-k l = record {
  same_words : l.insts.words.ghost_name ≡ l.initial.insts.words.ghost_name;
  same_area : l.items.area.ghost_name ≡ l.initial.items.area.ghost_name;
  going : law.Releasing l.window.start.0 l.window.held l.fn.numbers.end l.group.quorum (leader_of l.group.leader) l.fn.numbers.start l.initial.items.count l.initial.insts.words.now l.initial.items.area.now l.k l.items.count l.insts.words.now l.items.area.now;
}
