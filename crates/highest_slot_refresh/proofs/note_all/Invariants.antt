use Rattle.std.proofs.Common.{◌≡◌, drop}
use Rattle.inst_reqs.specs.Batch.{requests_of}
use Rattle.highest_slot_refresh.proofs.Laws as law
use Rattle.highest_slot_refresh.proofs.note_all.Given as goal

abbrev pub invariant-loop-q : goal.invariant-loop-q
invariant-loop-q l = record {
  same : l.written.words.ghost_name ≡ l.initial.written.words.ghost_name;
  left : law.Left l.slot.0 (requests_of l.batch.words.now) (drop l.q-iterator.next (requests_of l.q-iterator.table.words.now)) l.initial.written.words.now l.written.words.now;
}
