-- Bridge: what the code's answers to a read stand for, and what they say of the slot that settled it; tied to
-- `settled` and `read_answer` by proofs/Laws.
use Rattle.std.specs.Prelude.{◌≡◌, Bool, ◌&&◌, List, ℕ, ◌+◌, ◌%◌, ltb, leb}
use Rattle.std.specs.Prelude.{Some}
use Rattle.layout.specs.Layout.{slot_places}
use Rattle.bodega.specs.Replica as machine
use Rattle.bodega.specs.Localread as local
use Rattle.insts.specs.Slots.{inst_in}
use Rattle.inspect_latest_write.specs.declared.SlotAt.{SlotAt}
use Rattle.inspect_latest_write.specs.declared.Settled.{Settled}
use Rattle.inspect_latest_write.specs.declared.Settled.TheVariants as settled
use Rattle.inspect_latest_write.specs.declared.ReadAnswer.{ReadAnswer}
use Rattle.inspect_latest_write.specs.declared.ReadAnswer.TheVariants as answer

-- not `slot < start_slot || slot >= start_slot + insts.len()`
abbrev pub held_at : ℕ → ℕ → ℕ → Bool
held_at start n slot = leb start slot && ltb slot (start + n)

-- ---- what settled a read

abbrev pub settled_of : Settled → local.Settled
settled_of settled.StableLeader = local.StableLeader
settled_of settled.FewLeases = local.FewLeases
settled_of settled.UnreadKey = local.UnreadKey
settled_of settled.StoredRange = local.StoredRange
settled_of settled.DefaultRoster = local.DefaultRoster
settled_of settled.Bar = local.Bar
settled_of settled.NoSlot = local.NoSlot
settled_of (settled.SlotStatus slot) = local.SlotStatus slot.0
settled_of (settled.Notices x) = local.Notices x.slot.0
settled_of (settled.FoundPut value) = local.FoundPut value
settled_of (settled.MissingPut x) = local.MissingPut x.slot.0

-- the slot is held, at this place of the slots' words s, and this says whether a read waits there
pub record Stands (r : machine.Replica) (s : List ℕ) (x : SlotAt) : Type 0 where
  pub place : x.place ≡ x.slot.0 % slot_places
  pub found : machine.inst_at r x.slot.0 ≡ Some (inst_in s x.place)
  pub waits : x.waits ≡ local.waits (inst_in s x.place)

abbrev pub Located : machine.Replica → List ℕ → Settled → Type 0
Located r s settled.StableLeader = Unit {0}
Located r s settled.FewLeases = Unit {0}
Located r s settled.UnreadKey = Unit {0}
Located r s settled.StoredRange = Unit {0}
Located r s settled.DefaultRoster = Unit {0}
Located r s settled.Bar = Unit {0}
Located r s settled.NoSlot = Unit {0}
Located r s (settled.SlotStatus slot) = Unit {0}
Located r s (settled.Notices x) = Stands r s x
Located r s (settled.FoundPut value) = Unit {0}
Located r s (settled.MissingPut x) = Stands r s x

-- the condition is y, and what is told of its slot is so
abbrev pub Settles : machine.Replica → List ℕ → local.Settled → Settled → Type 0
Settles r s y x = (settled_of x ≡ y) × Located r s x

-- ---- what a read gets

abbrev pub answer_in : ReadAnswer → local.ReadAnswer
answer_in (answer.Found value) = local.Found value
answer_in answer.Missing = local.Missing
answer_in answer.FromStore = local.FromStore
answer_in answer.Consensus = local.Consensus
answer_in (answer.HeldBy slot) = local.HeldBy slot.0
answer_in answer.Again = local.Again

-- the slot that holds a read is held, at its place
abbrev pub Places : machine.Replica → List ℕ → ReadAnswer → Type 0
Places r s (answer.Found value) = Unit {0}
Places r s answer.Missing = Unit {0}
Places r s answer.FromStore = Unit {0}
Places r s answer.Consensus = Unit {0}
Places r s (answer.HeldBy slot) = machine.inst_at r slot.0 ≡ Some (inst_in s (slot.0 % slot_places))
Places r s answer.Again = Unit {0}

-- the answer is y, and what it tells of the slot's place is so
abbrev pub Gets : machine.Replica → List ℕ → local.ReadAnswer → ReadAnswer → Type 0
Gets r s y a = (answer_in a ≡ y) × Places r s a
