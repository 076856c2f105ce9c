use Rattle.std.proofs.Common.{rules, arith, ap}
use Rattle.ids.specs.declared.Slot.{Slot}
use Rattle.become_a_leader.proofs.Laws as one
use Rattle.become_a_leader.proofs.Whole as law
use Rattle.become_a_leader.proofs.become_a_leader.Goals as goal

pub open_range-open-requires : goal.open_range-open-requires
open_range-open-requires c =
    let a = c.args in
    rw (ap (λ (x : Slot). x.0) c.open_one-window.ensures.starts, c.as_ref.ensures) (law.is_open _ _ _ _ _ c.open_one-window.ensures.opens)

pub slot-requires : goal.slot-requires
slot-requires c =
    let z = ap (λ (x : Slot). x.0) c.open_one-window.ensures.starts in
    let f = rw (z, c.as_ref.ensures) at c.open_range-open.ensures.starts in
    let g = rw (z, c.as_ref.ensures) at c.open_range-open.ensures.ends in
    let w = one.within _ _ _ (law.is_open _ _ _ _ _ c.open_one-window.ensures.opens) _ _ f g in
    let h = c.open_one-window.result.few in
    omega arith

pub prelog_all-requires : goal.prelog_all-requires
prelog_all-requires c =
    let a = c.args in
    let z = ap (λ (x : Slot). x.0) c.open_one-window.ensures.starts in
    let f = rw (z, c.as_ref.ensures) at c.open_range-open.ensures.starts in
    let g = rw (z, c.as_ref.ensures) at c.open_range-open.ensures.ends in
    let k = law.lead_counted _ _ _ _ _ _ _ _ _ _ c.open_one-window.ensures.opens _ _ f g c.requires.2 _ _ c.push.ensures.put _ c.push.ensures.counted in
    rw (z, k) (law.prelog_room _ _ _ _ _ _ _ _ _ _ c.open_one-window.ensures.opens _ _ f g c.requires.2 _ _ c.push.ensures.put)

pub release_all-requires : goal.release_all-requires
release_all-requires c =
    let a = c.args in
    let z = ap (λ (x : Slot). x.0) c.open_one-window.ensures.starts in
    let f = rw (z, c.as_ref.ensures) at c.open_range-open.ensures.starts in
    let g = rw (z, c.as_ref.ensures) at c.open_range-open.ensures.ends in
    let k = law.lead_counted _ _ _ _ _ _ _ _ _ _ c.open_one-window.ensures.opens _ _ f g c.requires.2 _ _ c.push.ensures.put _ c.push.ensures.counted in
    let p = rw (z, k) at c.prelog_all.ensures.passes in
    let w = one.within _ _ _ (law.is_open _ _ _ _ _ c.open_one-window.ensures.opens) _ _ f g in
    (omega arith, omega arith, rw z (law.release_room _ _ _ _ _ _ _ _ _ _ c.open_one-window.ensures.opens _ _ f g c.requires.2 _ _ c.push.ensures.put _ _ _ p))

pub returns-clause-held : goal.returns-clause-held
returns-clause-held c = c.open_one-window.ensures.opens.count

pub returns-clause-steps : goal.returns-clause-steps
returns-clause-steps c =
    let a = c.args in
    let z = ap (λ (x : Slot). x.0) c.open_one-window.ensures.starts in
    let f = rw (z, c.as_ref.ensures) at c.open_range-open.ensures.starts in
    let g = rw (z, c.as_ref.ensures) at c.open_range-open.ensures.ends in
    let k = law.lead_counted _ _ _ _ _ _ _ _ _ _ c.open_one-window.ensures.opens _ _ f g c.requires.2 _ _ c.push.ensures.put _ c.push.ensures.counted in
    let p = rw (z, k) at c.prelog_all.ensures.passes in
    let v = rw z at c.release_all.ensures.passes in
    let d = rw (c.slot.ensures, z) at c.push-2.ensures.put in
    let q = law.steps_up _ _ _ _ _ _ _ _ _ _ c.open_one-window.ensures.opens _ _ f g c.requires.2 _ _ c.push.ensures.put _ _ _ p _ _ _ v _ _ _ d c.push-2.ensures.counted in
    search rules
