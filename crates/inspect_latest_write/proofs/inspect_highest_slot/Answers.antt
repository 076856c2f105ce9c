use Rattle.key_words.specs.Key.{bytes_of}
use Rattle.insts.specs.Slots.{place_of, batch_at, reads_at}
use Rattle.inspect_latest_write.proofs.Laws as law
use Rattle.inspect_latest_write.proofs.inspect_highest_slot.Goals as goal

pub returns-then-not-is_held : goal.returns-then-not-is_held
returns-then-not-is_held c = λ m d.
    let a = c.args in
    law.inspect_none a.node m a.insts.words.now d a.slot _ c.is_held.ensures (bytes_of a.key) c.if-not-is_held.true

pub returns-then-is_below_accepting : goal.returns-then-is_below_accepting
returns-then-is_below_accepting c = λ m d.
    let a = c.args in
    law.inspect_early a.node m a.insts.words.now d a.slot _ c.is_held.ensures (bytes_of a.key) c.if-not-is_held.false c.load-cell.result c.load-cell.ensures
    _ c.is_below_accepting.ensures c.if-is_below_accepting.true

pub returns-then-not-is_bound : goal.returns-then-not-is_bound
returns-then-not-is_bound c = λ m d.
    let a = c.args in
    let s = a.insts.words.now in
    let p = place_of a.slot.0 in
    let o = c.slot_at.ensures in
    law.inspect_unbound a.node m s d a.slot _ c.is_held.ensures (bytes_of a.key) c.if-not-is_held.false c.load-cell.result c.load-cell.ensures
    _ c.is_below_accepting.ensures c.if-is_below_accepting.false _ (c.is_bound.ensures (batch_at s p) (reads_at s p)) c.if-not-is_bound.true c.slot_at.result o.slot
    (law.stands a.node m s d a.slot _ c.is_held.ensures c.if-not-is_held.false c.load-cell.result c.load-cell.ensures c.slot_at.result o.slot o.place o.waits)

pub returns-in-Some : goal.returns-in-Some
returns-in-Some c = λ m d.
    let a = c.args in
    let s = a.insts.words.now in
    let p = place_of a.slot.0 in
    law.inspect_found a.node m s d a.slot _ c.is_held.ensures (bytes_of a.key) c.if-not-is_held.false c.load-cell.result c.load-cell.ensures
    _ c.is_below_accepting.ensures c.if-is_below_accepting.false _ (c.is_bound.ensures (batch_at s p) (reads_at s p)) c.if-not-is_bound.false c.last_put.result c.last_put.ensures _ c.in-Some.is

pub returns-in-None : goal.returns-in-None
returns-in-None c = λ m d.
    let a = c.args in
    let s = a.insts.words.now in
    let p = place_of a.slot.0 in
    let o = c.slot_at-in-None.ensures in
    law.inspect_missing a.node m s d a.slot _ c.is_held.ensures (bytes_of a.key) c.if-not-is_held.false c.load-cell.result c.load-cell.ensures
    _ c.is_below_accepting.ensures c.if-is_below_accepting.false _ (c.is_bound.ensures (batch_at s p) (reads_at s p)) c.if-not-is_bound.false c.last_put.result c.last_put.ensures c.in-None.is
    c.slot_at-in-None.result o.slot
    (law.stands a.node m s d a.slot _ c.is_held.ensures c.if-not-is_held.false c.load-cell.result c.load-cell.ensures c.slot_at-in-None.result o.slot o.place o.waits)
