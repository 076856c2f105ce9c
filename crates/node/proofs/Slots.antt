-- The instance of a slot, and an instance put back, of the replica that a node and its buffer stand for. Assumes
-- nothing.
use mathlib.Core.Path.{◌≡◌, ap, ◌∙◌}
use mathlib.Core.List.{List}
use Rattle.std.specs.Prelude.{None, Some}
use Prim.Native.Nat.{ℕ, ◌+◌, ◌-◌, ◌%◌, ◌≤◌, ◌<◌}
use native.Mathlib.Omega.{arith}
use borrow.Author.Tests.{lt-ltb, le-ltb}
use Rattle.words.specs.Part.{part}
use Rattle.layout.specs.Layout.{slot_places, slot_words, slots_at}
use Rattle.bodega.specs.Replica as machine
use Rattle.inst_cell.specs.Cell.{Short}
use Rattle.insts.specs.Slots.{inst_of, inst_in, insts_of, Puts}
use Rattle.insts.proofs.Laws.{moved, inst_at_lem, inst_none}
use Rattle.node.specs.declared.Node.{Node}
use Rattle.node.specs.View.{view}

module _ (n : Node) (m : List ℕ) (slot : ℕ) where
  pub not_below : slot < n.start_slot.0 → machine.inst_at (view n m) slot ≡ None
  unfolding view machine.inst_at
  not_below h = rw (lt-ltb slot n.start_slot.0 h)

  module _ (h : n.start_slot.0 ≤ slot) where
    pub not_past : n.start_slot.0 + n.slots ≤ slot → machine.inst_at (view n m) slot ≡ None
    unfolding view machine.inst_at
    not_past g = rw (le-ltb slot n.start_slot.0 h) (inst_none n.start_slot.0 n.slots (slot - n.start_slot.0) (part m slots_at slot_words) (omega arith))

    module _ (g : slot < n.start_slot.0 + n.slots) where
      pub held_at_lem : machine.inst_at (view n m) slot ≡ Some (inst_in (part m slots_at slot_words) (slot % slot_places))
      unfolding view machine.inst_at
      held_at_lem =
          let e : n.start_slot.0 + (slot - n.start_slot.0) ≡ slot = omega arith in
          rw (le-ltb slot n.start_slot.0 h) (inst_at_lem n.start_slot.0 n.slots (slot - n.start_slot.0) (part m slots_at slot_words) (omega arith)
          ∙ ap (λ (j : ℕ). Some (inst_in (part m slots_at slot_words) (j % slot_places))) e)

      pub set_at : {t : List ℕ} {x : Short} {a : List machine.Request} {l : List machine.ReadReq} → n.slots ≤ slot_places → Puts (part m slots_at slot_words) (slot % slot_places) x a l t
          → machine.with_insts (insts_of n.start_slot.0 n.slots t) (view n m) ≡ machine.set_inst slot (inst_of x a l) (view n m)
      unfolding view machine.set_inst
      set_at {t = t} {x = x} {a = a} {l = l} w p =
          let e : slot ≡ n.start_slot.0 + (slot - n.start_slot.0) = omega arith in
          let q : Puts (part m slots_at slot_words) ((n.start_slot.0 + (slot - n.start_slot.0)) % slot_places) x a l t = rw e at p in
          rw (moved n.start_slot.0 n.slots (slot - n.start_slot.0) q (omega arith) w)
