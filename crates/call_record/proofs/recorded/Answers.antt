use Rattle.std.proofs.Common.{[]}
use Rattle.call_record.proofs.Laws as law
use Rattle.call_record.proofs.recorded.Goals as goal

pub slice_bounds-refresh-end : goal.slice_bounds-refresh-end
slice_bounds-refresh-end c = law.long _ _ 0 0 c.requires.0

pub refresh-requires-clause-fits : goal.refresh-requires-clause-fits
refresh-requires-clause-fits c = law.room _ _ _ _ c.requires.0 _ c.requires.1

pub slice_bounds-accept-end : goal.slice_bounds-accept-end
slice_bounds-accept-end c = let p = c.requires in law.long_after _ _ _ _ p.0 _ p.1 _ c.refresh.auto.words

pub accept-slots-requires : goal.accept-slots-requires
accept-slots-requires c =
    let p = c.requires in
    rw c.window-window.ensures.0 (law.acceptable _ _ _ _ p.0 _ p.1 c.refresh.new.words c.refresh.auto.words)

pub returns : goal.returns
returns c =
    let p = c.requires in law.is_written _ _ _ _ p.0 _ p.1 _ c.refresh.auto.words c.refresh.ensures _ (law.leads_is _ _ (c.is_leader.ensures [])) _ _
    (rw (c.window-window.ensures.0, c.window-window.ensures.1) at c.accept-slots.ensures)
