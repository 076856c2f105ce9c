use Rattle.std.proofs.Common.{rules}
use borrow.Author.Tests.{tests}
use Rattle.key_words.specs.Key.{bytes_of}
use Rattle.inst_reqs.proofs.Back.{last_from_find_map}
use Rattle.inst_reqs.proofs.Laws as law
use Rattle.inst_reqs.proofs.last_put_among.Goals as goal

pub returns : goal.returns
returns c =
    let a = c.args in
    let u = c.find_map.ensures.runs in
    law.last_is _ _ _ _
    (last_from_find_map a.n c.rev.result c.rev.ensures.runs u.0 u.1 _ (λ x r q k. search (rules, tests)) (law.PutAt a.batch.words.now (bytes_of a.key)) (λ x r k. search (rules, tests)) c.find_map.result u.2)
