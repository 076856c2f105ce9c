use Rattle.std.proofs.Common.{rules, sym, ap}
use Rattle.std.proofs.lemmas.Map.Keys.{ge_from_not_lt}
use Rattle.ids.specs.declared.Slot.{Slot}
use Rattle.call_heartbeat.proofs.Bars as law
use Rattle.heard_new_conf.proofs.Laws.{readied}
use Rattle.call_heartbeat.proofs.count_bars.Goals as goal

pub returns-then-lt : goal.returns-then-lt
returns-then-lt c =
    let a = c.args in
    law.low_count a.node a.mem.now c.requires a.beat.ballot.0 a.beat.commit.0 a.beat.exec.0 (search rules) a.beat.peer.0 a.beat.snap.0

pub insts-requires : goal.insts-requires
insts-requires c = (readied c.args.node c.args.mem.now c.requires).long

pub count_commits-requires : goal.count_commits-requires
count_commits-requires c =
    let a = c.args in
    rw (ap (λ (x : Slot). x.0) c.window.ensures.0, c.window.ensures.1) (law.asked a.node a.mem.now c.requires a.beat.ballot.0 a.beat.commit.0 a.beat.exec.0)

pub returns : goal.returns
returns c =
    let a = c.args in
    let e = rw (ap (λ (x : Slot). x.0) c.window.ensures.0, c.window.ensures.1, c.insts.ensures) at c.count_commits.ensures in
    law.high_count a.node a.mem.now c.requires a.beat.ballot.0 a.beat.commit.0 a.beat.exec.0 (ge_from_not_lt _ _ (sym c.if-lt.ensures)) _ e a.beat.peer.0 a.beat.snap.0
