use Rattle.words.specs.Part.{part}
use Rattle.call_record.proofs.Laws as law
use Rattle.call_record.proofs.late_refusal.Goals as goal

pub slice_bounds-new-end : goal.slice_bounds-new-end
slice_bounds-new-end c = law.long _ _ 0 0 c.requires

pub insts-requires : goal.insts-requires
insts-requires c = law.long _ _ 0 0 c.requires

pub returns : goal.returns
unfolding part
returns c =
    law.late_is _ _ _ _ c.requires _ _ _ _ c.current.ensures (rw c.new-written.ensures at c.overflows-full.ensures)
    (rw (c.window.ensures.0, c.window.ensures.1, c.insts.ensures) at c.slot_refusal.ensures)
