use Rattle.highest_slot.proofs.Laws as law
use Rattle.highest_slot.proofs.highest.Goals as goal

pub returns-in_err-i : goal.returns-in_err-i
returns-in_err-i c = rw c.from_residual.ensures (law.slot_none _ _ c.in_err-i.ensures.place)

pub returns : goal.returns
returns c = law.slot_found _ _ _ c.in_ok-i.ensures.place _ c.get.ensures
