use Rattle.std.proofs.Common.{rules, arith, ◌-◌, refl}
use Rattle.std.specs.List.{range_with_len}
use Rattle.std.proofs.lemmas.Iterator.{YieldsList-from_range, YieldsList-from_map}
use Rattle.std.proofs.lemmas.Iterator.Consumers.{YieldsList-at, sum_by_from_yields_List}
use Rattle.std.proofs.lemmas.Iterator.Adapters.{fits_from_length, at_most_from_yields_List}
use Rattle.std.proofs.lemmas.List.FromFn.{length-range_with_len}
use Rattle.layout.specs.Layout.{slot_places}
use Rattle.become_a_leader.proofs.Laws as law
use Rattle.become_a_leader.proofs.count_held.Goals as goal

pub sum-requires-clause-fits : goal.sum-requires-clause-fits
sum-requires-clause-fits c =
    let a = c.args in
    let f = a.window.few in
    fits_from_length _ _ slot_places _
    (at_most_from_yields_List (YieldsList-at c.map.ensures.source (YieldsList-from_range a.numbers.start a.numbers.end _ refl refl)) (omega (arith, length-range_with_len a.numbers.start (a.numbers.end - a.numbers.start))))
    c.map.ensures.closure (omega arith) (λ x r q k. search rules)

pub returns : goal.returns
returns c =
    let a = c.args in
    let h = law.held_by a.window.start.0 a.window.held a.numbers.start a.numbers.end a.insts.words.now c.requires.0 c.requires.1 in
    law.held_are a.window.start.0 a.window.held a.numbers.start a.numbers.end a.insts.words.now c.requires.0 c.requires.1 a.window.few c.sum.result
    (sum_by_from_yields_List h (range_with_len a.numbers.start (a.numbers.end - a.numbers.start)) c.map.result c.sum.result c.sum.ensures.ran
    (YieldsList-from_map _ h (YieldsList-at c.map.ensures.source (YieldsList-from_range a.numbers.start a.numbers.end _ refl refl)) c.map.ensures.closure (λ x r q k. search rules)))
