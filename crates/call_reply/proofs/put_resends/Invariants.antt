use mathlib.Core.Path.{◌≡◌}
use Prim.Native.Nat.{◌+◌, ◌-◌, ◌*◌}
use lib.ListN.{length}
use Rattle.words.specs.Writes.{writes}
use Rattle.items.specs.Item.{encode}
use Rattle.call_reply.specs.Resends.{resends_of}
use Rattle.call_reply.proofs.put_resends.Given as goal

abbrev pub invariant-loop-n : goal.invariant-loop-n
invariant-loop-n l = record {
  same_reference : l.items.area.ghost_name ≡ l.initial.items.area.ghost_name;
  size : length l.items.area.now ≡ length l.initial.items.area.now;
  counted : l.items.count + length (resends_of l.insts.words.now l.fn.commit.0 l.peer.0 l.prepared.0 (l.n - l.fn.commit.0)) ≡ l.initial.items.count + length (resends_of l.insts.words.now l.fn.commit.0 l.peer.0 l.prepared.0 (l.fn.to.0 - l.fn.commit.0));
  put : writes l.items.area.now (l.items.count * 6) (encode (resends_of l.insts.words.now l.fn.commit.0 l.peer.0 l.prepared.0 (l.n - l.fn.commit.0))) ≡ writes l.initial.items.area.now (l.initial.items.count * 6) (encode (resends_of l.insts.words.now l.fn.commit.0 l.peer.0 l.prepared.0 (l.fn.to.0 - l.fn.commit.0)));
}
