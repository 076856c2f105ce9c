-- Trusted: the call of the machine that a `Call` of the code is, with what is lent beside it.
use Rattle.std.specs.Prelude.{Bool, ◌&&◌, List, ℕ}
use Rattle.req_batch.specs.Given.{given}
use Rattle.bodega.specs.Replica as machine
use Rattle.call_heartbeat.specs.Heartbeat.{fitting, carried}
use Rattle.node.specs.declared.Node.{Node}
use Rattle.node.specs.View.{ready}
use Rattle.call_apply.specs.declared.Call.{Call}
use Rattle.call_apply.specs.declared.Call.TheVariants.{Heartbeat, Guard, Prepared, Record, Reply, Notice, Commit, Bars, Read, Release}

abbrev pub call_of : Call → List ℕ → List ℕ → machine.Call
call_of (Heartbeat peer ballot conf commit exec snap) rows text = machine.Heartbeat peer.0 ballot.0 (carried conf rows) commit.0 exec.0 snap.0
call_of (Guard peer number bar) rows text = machine.Guard peer.0 number.0 bar.0
call_of (Prepared ballot) rows text = machine.Prepared ballot.0
call_of (Record slot ballot) rows text = machine.Record slot.0 ballot.0 (given rows text)
call_of (Reply peer slot ballot) rows text = machine.Reply peer.0 slot.0 ballot.0
call_of (Notice peer slot ballot) rows text = machine.Notice peer.0 slot.0 ballot.0
call_of (Commit peer ballot bar) rows text = machine.CommitNotice peer.0 ballot.0 bar.0
call_of (Bars start accept commit exec) rows text = machine.Bars start.0 accept.0 commit.0 exec.0
call_of (Read client request leases) rows text = machine.Read leases (record { client = client; request = request; key = text })
call_of (Release slot) rows text = machine.Release slot.0

-- where this is false a call is refused, 2: a heartbeat's roster must be whole besides
abbrev pub ready_for : Call → List ℕ → Node → List ℕ → Bool
ready_for (Heartbeat peer ballot conf commit exec snap) rows = λ n m. ready n m && fitting conf rows
ready_for (Guard peer number bar) rows = ready
ready_for (Prepared ballot) rows = ready
ready_for (Record slot ballot) rows = ready
ready_for (Reply peer slot ballot) rows = ready
ready_for (Notice peer slot ballot) rows = ready
ready_for (Commit peer ballot bar) rows = ready
ready_for (Bars start accept commit exec) rows = ready
ready_for (Read client request leases) rows = ready
ready_for (Release slot) rows = ready
