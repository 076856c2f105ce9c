use Rattle.std.proofs.Common.{rules, arith, ◌+◌, refl}
use Rattle.ids.specs.declared.Slot.{Slot}
use Rattle.std.proofs.lemmas.Iterator.{YieldsList-from_range, YieldsList-from_map_by}
use Rattle.std.proofs.lemmas.Iterator.Consumers.{YieldsList-from_filter, YieldsList-at, count_from_yields_List}
use Rattle.insts.specs.Slots.{inst_in, place_of}
use Rattle.advance_commit_bar.proofs.Laws.{is_open_at}
use Rattle.become_a_leader.proofs.Laws as law
use Rattle.become_a_leader.proofs.count_open.Goals as goal

pub returns : goal.returns
returns c =
    let a = c.args in
    let s = a.insts.words.now in
    let e = law.opens_are a.window.start.0 a.window.held s c.count.result
    (count_from_yields_List c.filter.result c.count.result c.count.ensures.ran
    (YieldsList-from_filter _ is_open_at
    (YieldsList-at c.filter.ensures.source
    (YieldsList-from_map_by _ (λ (x : Slot). inst_in s (place_of x.0)) (λ k. inst_in s (place_of (a.window.start.0 + k)))
    (YieldsList-at c.map.ensures.source (YieldsList-from_range 0 a.window.held a.window.held refl (omega arith))) c.map.ensures.closure (λ x r q k. search rules)))
    c.filter.ensures.closure (λ x r q k. search rules))) in
    let f = a.window.few in
    (e.0, omega arith)
