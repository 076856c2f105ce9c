use Rattle.line_event.proofs.Laws as law
use Rattle.std.specs.Prelude.{Err}
use Rattle.ids.specs.declared.Refusal.TheVariants.{Malformed, NotReady}
use Rattle.line_event.proofs.hear.Goals as goal

pub returns-then-not-is_fit-clause-follows : goal.returns-then-not-is_fit-clause-follows
returns-then-not-is_fit-clause-follows c = let a = c.args in law.unfit a.host.now a.buffers.now.mem.now a.buffers.now.rows.now a.buffers.now.area.now a.buffers.now.groups.now a.line.now _ (Err NotReady) c.is_fit.ensures c.if-not-is_fit.true

pub returns-then-line-gt-LINE_BYTES-clause-follows : goal.returns-then-line-gt-LINE_BYTES-clause-follows
returns-then-line-gt-LINE_BYTES-clause-follows c =
    let a = c.args in law.fitted a.host.now a.buffers.now.mem.now a.buffers.now.rows.now a.buffers.now.area.now a.buffers.now.groups.now a.line.now _ (Err Malformed) c.is_fit.ensures _ _ _ c.if-not-is_fit.false (law.long_line a.host.now a.buffers.now.mem.now a.buffers.now.rows.now a.buffers.now.area.now a.line.now c.if-line-gt-LINE_BYTES.true)

pub unwrap-name-requires : goal.unwrap-name-requires
unwrap-name-requires c = law.has_name _ _ _ c.new-reader.ensures _ c.next_bytes.ensures

pub act-requires : goal.act-requires
act-requires c =
    let a = c.args in (law.is_sound_lem a.host.now.draft a.buffers.now.mem.now a.buffers.now.rows.now a.buffers.now.area.now a.buffers.now.groups.now _ c.is_fit.ensures c.if-not-is_fit.false, law.has_places a.host.now.draft a.buffers.now.mem.now a.buffers.now.rows.now a.buffers.now.area.now a.buffers.now.groups.now _ c.is_fit.ensures c.if-not-is_fit.false, law.has_groups a.host.now.draft a.buffers.now.mem.now a.buffers.now.rows.now a.buffers.now.area.now a.buffers.now.groups.now _ c.is_fit.ensures c.if-not-is_fit.false, rw ((law.named _ _ _ c.next_bytes.ensures _ c.unwrap-name.ensures).1, c.new-reader.ensures) c.if-line-gt-LINE_BYTES.false)

pub returns-clause-follows : goal.returns-clause-follows
returns-clause-follows c =
    law.fitted _ _ _ _ _ _ _ _ c.is_fit.ensures _ _ _ c.if-not-is_fit.false (law.by_name _ _ _ _ _ _ _ _ _ _ _ c.if-line-gt-LINE_BYTES.false (rw c.new-reader.ensures at (law.named _ _ _ c.next_bytes.ensures _ c.unwrap-name.ensures).0) c.kind_of-kind.ensures (rw ((law.named _ _ _ c.next_bytes.ensures _ c.unwrap-name.ensures).1, c.new-reader.ensures) at c.act.ensures.follows))
