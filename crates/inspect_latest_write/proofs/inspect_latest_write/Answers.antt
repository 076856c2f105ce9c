use Rattle.std.proofs.Common.{rules}
use Rattle.key_words.specs.Key.{bytes_of}
use Rattle.inspect_latest_write.proofs.Laws as law
use Rattle.inspect_latest_write.proofs.inspect_latest_write.Goals as goal

pub returns-in-Some : goal.returns-in-Some
returns-in-Some c = λ m d l.
    let a = c.args in
    law.latest_at a.node m a.insts.words.now a.written.words.now l (bytes_of a.key) _ c.highest.ensures _ c.in-Some.is (search rules) c.inspect_highest_slot.result (c.inspect_highest_slot.ensures m d)

pub returns-in_default : goal.returns-in_default
returns-in_default c = λ m d l.
    let a = c.args in
    law.latest_low a.node m a.insts.words.now a.written.words.now l (bytes_of a.key) _ c.highest.ensures _ c.in-Some.is (search rules)

pub returns-in_default-2 : goal.returns-in_default-2
returns-in_default-2 c = λ m d l.
    let a = c.args in
    law.latest_none a.node m a.insts.words.now a.written.words.now l (bytes_of a.key) _ c.highest.ensures c.in_default.is
