use mathlib.Core.Path.{ap, ◌∙◌}
use native.Mathlib.Omega.{arith}
use Prim.Native.Nat.{◌<◌}
use lib.ListN.{length}
use Rattle.items.specs.Item.{places}
use Rattle.call_reply.proofs.Resends as law
use Rattle.call_reply.proofs.put_resends.Goals as goal

pub loop-n-preserved-in-Skip : goal.loop-n-preserved-in-Skip
loop-n-preserved-in-Skip c =
    let a = c.args in
    let l = c.loop-n in
    let e = law.skipped a.insts.words.now a.commit.0 a.peer.0 a.prepared.0 l.n c.loop-n-test.true c.in-Skip.ensures in record {
      same_reference = l.invariant.same_reference;
      size = l.invariant.size;
      counted = omega (arith, ap length e, l.invariant.counted);
      put = law.put_same a.insts.words.now a.commit.0 a.peer.0 a.prepared.0 l.items.area.now _ l.items.count l.n l.invariant.put e;
    }

pub returns-in-Stop-clause-counted : goal.returns-in-Stop-clause-counted
returns-in-Stop-clause-counted c =
    let a = c.args in
    let l = c.loop-n in
    let e = law.stopped a.insts.words.now a.commit.0 a.peer.0 a.prepared.0 l.n c.loop-n-test.true c.in-Stop.ensures in
    omega (arith, ap length e, l.invariant.counted)

pub returns-in-Stop-clause-put : goal.returns-in-Stop-clause-put
returns-in-Stop-clause-put c =
    let a = c.args in
    let l = c.loop-n in
    let e = law.stopped a.insts.words.now a.commit.0 a.peer.0 a.prepared.0 l.n c.loop-n-test.true c.in-Stop.ensures in
    law.put_end a.insts.words.now a.commit.0 a.peer.0 a.prepared.0 l.items.area.now _ l.items.count l.n l.invariant.put e

pub loop-n-preserved : goal.loop-n-preserved
loop-n-preserved c =
    let a = c.args in
    let l = c.loop-n in
    let e = law.sent a.insts.words.now a.commit.0 a.peer.0 a.prepared.0 l.n c.loop-n-test.true c.in-Send.ensures in
    let room : l.items.count < places l.items.area.now = omega (arith, ap length e, l.invariant.size, l.invariant.counted) in
    let p = law.put_step a.insts.words.now a.commit.0 a.peer.0 a.prepared.0 l.items.area.now _ l.items.count l.n l.invariant.put _ _ _ e room c.push.ensures.put in
    let n = law.pushed l.items.area.now l.items.count _ _ _ _ room c.push.ensures.put c.push.ensures.counted in record {
      same_reference = c.push.ensures.same_reference ∙ l.invariant.same_reference;
      size = p.0 ∙ l.invariant.size;
      counted = omega (arith, n, ap length e, l.invariant.counted);
      put = rw n p.1;
    }

pub returns-clause-counted : goal.returns-clause-counted
returns-clause-counted c =
    let a = c.args in
    let l = c.loop-n in
    omega (arith, ap length (law.ended a.insts.words.now a.commit.0 a.peer.0 a.prepared.0 l.n c.loop-n-test.false), l.invariant.counted)

pub returns-clause-put : goal.returns-clause-put
returns-clause-put c =
    let a = c.args in
    let l = c.loop-n in
    law.put_end a.insts.words.now a.commit.0 a.peer.0 a.prepared.0 l.items.area.now _ l.items.count l.n l.invariant.put
    (law.ended a.insts.words.now a.commit.0 a.peer.0 a.prepared.0 l.n c.loop-n-test.false)
