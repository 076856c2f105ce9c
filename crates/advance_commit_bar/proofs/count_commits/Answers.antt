use Rattle.std.proofs.Common.{rules, ◌+◌, ◌-◌, refl}
use Rattle.ids.specs.declared.Slot.{Slot}
use Rattle.std.proofs.lemmas.Iterator.{YieldsList-from_range, YieldsList-from_map_by}
use Rattle.std.proofs.lemmas.Iterator.Consumers.{YieldsList-from_filter, YieldsList-at, count_from_yields_List}
use Rattle.std.proofs.lemmas.Iterator.Search.{YieldsList-from_take_while}
use Rattle.insts.specs.Slots.{inst_in, place_of}
use Rattle.advance_commit_bar.proofs.Laws as law
use Rattle.advance_commit_bar.proofs.count_commits.Goals as goal

pub returns : goal.returns
returns c =
    let a = c.args in
    let s = a.insts.words.now in
    law.counts_from a.window.start.0 a.window.held a.commit.0 a.ballot.0 a.bar.0 _ s c.number-from.ensures c.requires.0 c.requires.1 c.reach.result c.count.result c.reach.ensures
    (count_from_yields_List c.filter.result c.count.result c.count.ensures.ran
    (YieldsList-from_filter _ law.is_open_at
    (YieldsList-at c.filter.ensures.source
    (YieldsList-from_take_while _ (law.goes_on_at a.ballot.0)
    (YieldsList-at c.take_while.ensures.source
    (YieldsList-from_map_by _ (λ (x : Slot). inst_in s (place_of x.0)) (λ k. inst_in s (place_of (a.window.start.0 + k)))
    (YieldsList-at c.map.ensures.source (YieldsList-from_range c.number-from.result c.reach.result _ refl refl)) c.map.ensures.closure (λ x r q k. search rules)))
    c.take_while.ensures.closure c.take_while.ensures.done (λ x r q k. search rules)))
    c.filter.ensures.closure (λ x r q k. search rules)))
