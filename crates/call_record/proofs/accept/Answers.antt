use Rattle.std.proofs.Common.{rules}
use Rattle.call_record.proofs.Laws as law
use Rattle.call_record.proofs.accept.Goals as goal

pub returns : goal.returns
returns c =
    let z = law.accepted _ _ c.args.slot.0 _ _ _ c.requires.0 (rw c.number.ensures at c.padded-held.ensures.pads) c.accept_at.ensures.puts in
    let n = c.accept_at.ensures.same_reference in
    let m = c.padded-held.ensures.same_reference in
    search rules
