use mathlib.Core.Path.{ap}
use native.Mathlib.Omega.{arith}
use lib.ListN.{length}
use Rattle.call_reply.proofs.Resends as law
use Rattle.call_reply.proofs.count_resends.Goals as goal

pub loop-slot-preserved-in-Skip : goal.loop-slot-preserved-in-Skip
loop-slot-preserved-in-Skip c =
    let a = c.args in
    (omega arith, omega (arith, ap length (law.skipped a.insts.words.now a.commit.0 a.peer.0 a.prepared.0 c.loop-slot.slot c.loop-slot-test.true c.in-Skip.ensures)))

pub returns-in-Stop : goal.returns-in-Stop
returns-in-Stop c =
    let a = c.args in
    (omega (arith, ap length (law.stopped a.insts.words.now a.commit.0 a.peer.0 a.prepared.0 c.loop-slot.slot c.loop-slot-test.true c.in-Stop.ensures)), omega arith)

pub loop-slot-preserved : goal.loop-slot-preserved
loop-slot-preserved c =
    let a = c.args in
    (omega arith, omega (arith, ap length (law.sent a.insts.words.now a.commit.0 a.peer.0 a.prepared.0 c.loop-slot.slot c.loop-slot-test.true c.in-Send.ensures)))

pub returns : goal.returns
returns c =
    let a = c.args in
    (omega (arith, ap length (law.ended a.insts.words.now a.commit.0 a.peer.0 a.prepared.0 c.loop-slot.slot c.loop-slot-test.false)), omega arith)
