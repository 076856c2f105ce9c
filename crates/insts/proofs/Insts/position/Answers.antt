use Rattle.std.proofs.Common.{refl, ap, ◌+◌, ◌∙◌, arith, rules}
use Rattle.std.specs.List.{position_from}
use Rattle.std.proofs.lemmas.Iterator.{YieldsList-from_range, YieldsList-from_map_by}
use Rattle.std.proofs.lemmas.Iterator.Consumers.{YieldsList-at}
use Rattle.std.proofs.lemmas.Iterator.Search.{position_from_yields_List}
use Rattle.std.proofs.lemmas.Iterator.Adapters.{position_from-zero}
use Rattle.ids.specs.declared.Slot.{Slot}
use Rattle.insts.specs.Slots.{inst_in, place_of}
use Rattle.insts.proofs.Rest as rest
use Rattle.insts.proofs.Insts.position.Goals as goal

pub returns : goal.returns
returns g c =
    let a = c.args in
    let s = a.self.words.now in
    position_from_yields_List g.test _ _ c.position.result c.position.ensures.ran
    (YieldsList-from_map_by _ (λ (x : Slot). inst_in s (place_of x.0)) (λ k. inst_in s (place_of (a.window.start.0 + k)))
    (YieldsList-at c.map.ensures.source (YieldsList-from_range 0 a.window.held a.window.held refl (omega arith))) c.map.ensures.closure (λ x r q k. search rules))
    (λ x b q k. search (rules, c.requires.1.1))
    ∙ position_from-zero g.test _
    ∙ ap (position_from g.test 0) (rest.slots_all a.window.start.0 a.window.held s)
