use Rattle.std.proofs.Common.{drop, rules, tests}
use Rattle.std.proofs.lemmas.Iterator.Consumers.{YieldsList-from_first}
use Rattle.std.proofs.lemmas.Iterator.Search.{all_from_yields_List}
use Rattle.bodega.specs.Localread.{acked}
use Rattle.inst_reqs.specs.Batch.{request_of, requests_of}
use Rattle.roster_conf.specs.Edits.{view}
use Rattle.commit_condition.proofs.Laws as law
use Rattle.commit_condition.proofs.commit_condition.Goals as goal

pub returns-then-from-count : goal.returns-then-from-count
returns-then-from-count c =
    let a = c.args in
    law.enough _ _ _ _ _ _ c.count.ensures c.from.ensures _ c.if-from-count.true
    (all_from_yields_List (acked (view a.conf a.rows.now) a.acks) c.all.new.self _ _ c.all.ensures.ran (YieldsList-from_first request_of (λ s. drop s.next (requests_of s.table.words.now)) _ c.iter.ensures) (λ x b q k. search (rules, tests)))

pub returns-else-from-count : goal.returns-else-from-count
returns-else-from-count c = law.few_acks _ _ _ _ _ _ c.count.ensures c.from.ensures c.if-from-count.false
