use Rattle.std.proofs.Common.{◌≡◌, true, false, ◌+◌, ◌∙◌, rules}
use borrow.Author.Tests.{tests}
use Rattle.bodega.specs.Replica.{is_open}
use Rattle.insts.specs.Slots.{inst_in, place_of}
use Rattle.inst_reqs.proofs.Back.{last_from_find}
use Rattle.become_a_leader.proofs.Laws as law
use Rattle.become_a_leader.proofs.last_open.Goals as goal

pub returns : goal.returns
returns c =
    let a = c.args in
    let s = a.insts.words.now in
    let u = c.find.ensures.runs in
    c.unwrap_or.ensures
    ∙ law.last_found a.window.start.0 a.window.held s c.find.result
    (last_from_find a.window.held c.rev.result c.rev.ensures.runs u.0 u.1 _ (λ x r q k. search (rules, tests))
    (λ k. is_open (inst_in s (place_of (a.window.start.0 + k))).status ≡ true) (λ k. is_open (inst_in s (place_of (a.window.start.0 + k))).status ≡ false)
    (λ x k. search (rules, tests)) (λ x k. search (rules, tests)) c.find.result u.2)
