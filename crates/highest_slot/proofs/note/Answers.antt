use Rattle.highest_slot.proofs.Laws as law
use Rattle.highest_slot.proofs.note.Goals as goal

pub returns-in_default-clause-notes : goal.returns-in_default-clause-notes
returns-in_default-clause-notes c = law.note_new _ _ (rw c.as_ref.ensures at c.in_default.ensures.place) _ _ _ c.push.ensures.pushes

pub returns-clause-notes : goal.returns-clause-notes
returns-clause-notes c = law.note_known _ _ _ (rw c.as_ref.ensures at c.in-Some.ensures.place) _ _ c.args.written.now.whole c.max.ensures
