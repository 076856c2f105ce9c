use Rattle.std.proofs.Common.{arith, refl, ap}
use Rattle.ids.specs.declared.Slot.{Slot}
use Rattle.words.specs.Part.{part}
use Rattle.heard_new_conf.proofs.Laws as law
use Rattle.heard_new_conf.proofs.become_a_leader.Goals as goal

pub slice_bounds-become_a_leader-end : goal.slice_bounds-become_a_leader-end
slice_bounds-become_a_leader-end c =
    let a = c.args in
    omega (arith, law.readied a.node a.mem.now c.requires.0)

pub become_a_leader-slots-requires : goal.become_a_leader-slots-requires
unfolding part
become_a_leader-slots-requires c =
    let a = c.args in
    rw (ap (λ (x : Slot). x.0) c.window-window.ensures.0, c.window-window.ensures.1) (law.step_up_room a.node a.mem.now a.items.now.area.now c.requires.0 c.requires.1 a.items.now.count c.requires.2)

pub slice_bounds-forget-end : goal.slice_bounds-forget-end
unfolding part
slice_bounds-forget-end c =
    let a = c.args in
    let v = rw (ap (λ (x : Slot). x.0) c.window-window.ensures.0, c.window-window.ensures.1) at c.become_a_leader-slots.ensures.held in
    let x = rw (ap (λ (x : Slot). x.0) c.window-window.ensures.0, c.window-window.ensures.1) at c.become_a_leader-slots.ensures.steps in
    omega (arith, law.step_up_there a.node a.mem.now a.items.now.area.now c.requires.0 c.requires.1 _ v _ _ _ _ x)

pub forget-requires : goal.forget-requires
unfolding part
forget-requires c =
    let a = c.args in
    let v = rw (ap (λ (x : Slot). x.0) c.window-window.ensures.0, c.window-window.ensures.1) at c.become_a_leader-slots.ensures.held in
    let x = rw (ap (λ (x : Slot). x.0) c.window-window.ensures.0, c.window-window.ensures.1) at c.become_a_leader-slots.ensures.steps in
    omega (arith, law.execs_there a.node a.mem.now a.items.now.area.now c.requires.0 c.requires.1 _ v _ _ _ _ x)

pub returns-clause-does : goal.returns-clause-does
unfolding part
returns-clause-does c =
    let a = c.args in
    let v = rw (ap (λ (x : Slot). x.0) c.window-window.ensures.0, c.window-window.ensures.1) at c.become_a_leader-slots.ensures.held in
    let x = rw (ap (λ (x : Slot). x.0) c.window-window.ensures.0, c.window-window.ensures.1) at c.become_a_leader-slots.ensures.steps in
    law.becomes a.node a.mem.now a.items.now.area.now c.requires.0 c.requires.1 _ v _ _ _ _ x _ c.forget.ensures _ refl
