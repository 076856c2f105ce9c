use Rattle.std.proofs.Common.{rules, ◌-◌, ◌∙◌, arith}
use Rattle.advance_commit_bar.specs.Walk.{stops_at, mark_items}
use Rattle.advance_commit_bar.proofs.Pass as pass
use Rattle.advance_commit_bar.proofs.Laws as law
use Rattle.advance_commit_bar.proofs.walk.Goals as goal

pub returns-then-stops : goal.returns-then-stops
returns-then-stops c =
    let a = c.args in
    let l = c.loop-k in
    let e = rw (c.as_ref.ensures, c.slot-slot.ensures) at c.stops.ensures in
    let p = law.advances _ _ _ _ _ _ _ _ c.requires.1 c.requires.2
    (pass.going_stop (stops_at a.ballot.0) law.marked mark_items _ _ (a.bar.0 - a.window.start.0) (a.commit.0 - a.window.start.0) a.place a.words.now a.area.now l.k l.items.count l.insts.words.now l.items.area.now l.invariant.going (omega arith) _ e c.if-stops.true) in
    search rules

pub mark-requires : goal.mark-requires
mark-requires c =
    let l = c.loop-k in
    let e = rw (c.as_ref.ensures, c.slot-slot.ensures) at c.stops.ensures in
    rw c.slot-slot.ensures
    (law.mark_fits _ _ _ _ _ _ _ _ l.k l.items.count l.insts.words.now l.items.area.now l.invariant.going (omega arith) _ e c.if-stops.false c.requires.1 c.requires.2 c.requires.3)

pub loop-k-preserved : goal.loop-k-preserved
loop-k-preserved c =
    let l = c.loop-k in
    let e = rw (c.as_ref.ensures, c.slot-slot.ensures) at c.stops.ensures in
    record {
      same_words = c.mark.ensures.same_words ∙ l.invariant.same_words;
      same_area = c.mark.ensures.same_area ∙ l.invariant.same_area;
      within = omega arith;
      going = law.mark_step _ _ _ _ _ _ _ _ l.k l.items.count l.insts.words.now l.items.area.now l.invariant.going (omega arith) _ e c.if-stops.false c.args.window.few _ _ _ (rw c.slot-slot.ensures at c.mark.ensures.marks);
    }

pub returns : goal.returns
returns c =
    let a = c.args in
    let l = c.loop-k in
    let p = law.advances _ _ _ _ _ _ _ _ c.requires.1 c.requires.2
    (pass.going_end (stops_at a.ballot.0) law.marked mark_items _ _ (a.bar.0 - a.window.start.0) (a.commit.0 - a.window.start.0) a.place a.words.now a.area.now l.k l.items.count l.insts.words.now l.items.area.now l.invariant.going l.invariant.within (omega arith)) in
    search rules
