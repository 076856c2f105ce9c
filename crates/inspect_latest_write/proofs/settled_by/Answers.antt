use Rattle.inspect_latest_write.proofs.Laws as law
use Rattle.layout.specs.Layout.{slots_at, slot_words}
use Rattle.words.specs.Part.{part}
use Rattle.node.specs.View.{view}
use Rattle.std.proofs.Common.{rules, sym, arith}
use Rattle.std.proofs.lemmas.Map.Keys.{ge_from_not_lt}
use Rattle.inspect_latest_write.proofs.settled_by.Goals as goal

pub returns-then-is_stable_leader : goal.returns-then-is_stable_leader
returns-then-is_stable_leader c =
    let a = c.args in
    law.settled_stable a.node a.mem.now a.leases a.key.now _ (c.is_stable_leader.ensures a.mem.now) c.if-is_stable_leader.true

pub returns-then-leases-from : goal.returns-then-leases-from
returns-then-leases-from c =
    let a = c.args in
    law.settled_leases a.node a.mem.now a.leases a.key.now _ (c.is_stable_leader.ensures a.mem.now) c.if-is_stable_leader.false (omega arith)

pub returns-in_default : goal.returns-in_default
returns-in_default c =
    let a = c.args in
    law.settled_unread a.node a.mem.now a.leases a.key.now _ (c.is_stable_leader.ensures a.mem.now) c.if-is_stable_leader.false (omega arith) c.key_to_inty.result c.key_to_inty.ensures c.in_default.is

pub slice_bounds-map-end : goal.slice_bounds-map-end
slice_bounds-map-end c = omega (arith, law.words_long c.args.node c.args.mem.now c.requires.0)

pub invariant_of-map : goal.invariant_of-map
unfolding part
invariant_of-map c = record { within = law.rows_long c.args.node c.args.mem.now c.requires.0 }

pub returns-then-not-is_responder : goal.returns-then-not-is_responder
unfolding part
returns-then-not-is_responder c =
    let a = c.args in
    law.settled_roster a.node a.mem.now a.leases a.key.now _ (c.is_stable_leader.ensures a.mem.now) c.if-is_stable_leader.false (omega arith) c.key_to_inty.result c.key_to_inty.ensures _ c.in-Some.is c.at-stored.result c.at-stored.ensures _ c.is_responder.ensures c.if-not-is_responder.true c.not_responder.result (c.not_responder.ensures (view a.node a.mem.now) (part a.mem.now slots_at slot_words))

pub returns-then-lt : goal.returns-then-lt
unfolding part
returns-then-lt c =
    let a = c.args in
    law.settled_bar a.node a.mem.now a.leases a.key.now _ (c.is_stable_leader.ensures a.mem.now) c.if-is_stable_leader.false (omega arith) c.key_to_inty.result c.key_to_inty.ensures _ c.in-Some.is c.at-stored.result c.at-stored.ensures _ c.is_responder.ensures c.if-not-is_responder.false (search rules)

pub insts-requires : goal.insts-requires
insts-requires c = law.words_long c.args.node c.args.mem.now c.requires.0

pub slice_bounds-new-end : goal.slice_bounds-new-end
slice_bounds-new-end c = omega (arith, law.words_long c.args.node c.args.mem.now c.requires.0)

pub returns : goal.returns
unfolding part
returns c =
    let a = c.args in
    law.settled_latest a.node a.mem.now a.leases a.key.now _ (c.is_stable_leader.ensures a.mem.now) c.if-is_stable_leader.false (omega arith) c.key_to_inty.result c.key_to_inty.ensures _ c.in-Some.is c.at-stored.result c.at-stored.ensures _ c.is_responder.ensures c.if-not-is_responder.false (ge_from_not_lt a.node.commit_bar.0 a.node.peer_accept_max.0 (sym c.if-lt.ensures)) c.inspect_latest_write.result (rw (c.requires.1, c.insts.ensures) at (c.inspect_latest_write.ensures a.mem.now (sym c.insts.ensures) (sym c.new.ensures)))
