use Rattle.highest_slot_refresh.proofs.Laws as law
use Rattle.highest_slot_refresh.proofs.note_one.Goals as goal

pub returns-in-Get-clause-refreshes : goal.returns-in-Get-clause-refreshes
returns-in-Get-clause-refreshes c = law.note_get _ _ _ c.in-Get.is

pub returns-in-Put-clause-refreshes : goal.returns-in-Put-clause-refreshes
returns-in-Put-clause-refreshes c = law.note_put _ _ _ _ _ _ c.in-Put.is c.note.ensures.notes c.requires
