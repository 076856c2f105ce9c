use Rattle.std.proofs.Common.{arith}
use Rattle.become_a_leader.proofs.Laws as law
use Rattle.become_a_leader.proofs.count_items.Goals as goal

pub returns-then-not-any_open : goal.returns-then-not-any_open
returns-then-not-any_open c = law.counts_none _ _ _ _ c.any_open.ensures c.if-not-any_open.true

pub open_range-open-requires : goal.open_range-open-requires
open_range-open-requires c = law.some_open _ _ _ _ c.any_open.ensures c.if-not-any_open.false

pub count_held-requires : goal.count_held-requires
count_held-requires c =
    let w = law.within _ _ _ (law.some_open _ _ _ _ c.any_open.ensures c.if-not-any_open.false) _ _ c.open_range-open.ensures.starts c.open_range-open.ensures.ends in
    (omega arith, omega arith)

pub returns : goal.returns
returns c =
    law.counts _ _ _ _ c.any_open.ensures c.if-not-any_open.false _ _ _ _ c.open_range-open.ensures.starts c.open_range-open.ensures.ends c.count_open.ensures.0 c.count_held.ensures.0
