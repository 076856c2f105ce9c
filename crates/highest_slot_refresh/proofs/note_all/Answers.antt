use Rattle.std.proofs.Common.{◌∙◌}
use Rattle.highest_slot_refresh.proofs.Laws as law
use Rattle.highest_slot_refresh.proofs.note_all.Goals as goal

pub note_one-requires : goal.note_one-requires
note_one-requires c = law.room _ _ _ _ _ _ c.in-Some.ensures.steps _ c.loop-q.invariant.left c.requires

pub loop-q-preserved : goal.loop-q-preserved
loop-q-preserved c =
    let l = c.loop-q in
    record {
      same = c.note_one.ensures.same_reference ∙ l.invariant.same;
      left = law.left_next _ _ _ _ _ _ c.in-Some.ensures.steps _ l.invariant.left _ c.note_one.ensures.refreshes;
    }

pub returns-clause-refreshes : goal.returns-clause-refreshes
returns-clause-refreshes c = law.left_end _ _ _ _ _ c.in-None.ensures.steps.0 c.loop-q.invariant.left
