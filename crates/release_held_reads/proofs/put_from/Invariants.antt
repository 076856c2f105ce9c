use Rattle.std.proofs.Common.{◌≡◌, map, drop}
use Rattle.ids.specs.Leader.{leader_of}
use Rattle.inst_reqs.specs.Batch.{requests_of}
use Rattle.inst_holding.specs.Held.{reads_of}
use Rattle.insts.specs.Slots.{place_of, inst_in}
use Rattle.release_held_reads.specs.Release.{answer_to, answers_of}
use Rattle.release_held_reads.proofs.Laws as law
use Rattle.release_held_reads.proofs.put_from.Given as goal

abbrev pub invariant-loop-read : goal.invariant-loop-read
invariant-loop-read l = record {
  same_reference : l.items.area.ghost_name ≡ l.initial.items.area.ghost_name;
  left : law.Left l.initial.items.count l.initial.items.area.now (answers_of l.fn.group.quorum (leader_of l.fn.group.leader) (inst_in l.fn.insts.words.now (place_of l.fn.slot.0)))
      (map (answer_to l.bound (leader_of l.group.leader) (requests_of l.batch.words.now)) (drop l.read-iterator.next (reads_of l.read-iterator.table.words.now))) l.items.count l.items.area.now;
}
