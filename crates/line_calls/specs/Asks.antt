-- Bridge: the call that a line's fields are, as `apply` takes it; tied to `call_of` by proofs/Laws.
use Rattle.std.specs.Prelude.{◌≡◌, Bool, true, false, List, ℕ, eqb, Option, None, Some}
use Rattle.std.specs.Bool.{then_some}
use Rattle.words.specs.Text.{Bytes}
use Rattle.roster_conf.specs.declared.RespondersConf.{RespondersConf}
use Rattle.bodega.specs.Replica as machine
use Rattle.call_heartbeat.specs.Heartbeat.{carried}
use Rattle.call_apply.specs.declared.Call.{Call}
use Rattle.call_apply.specs.declared.Call.TheVariants as call
use Rattle.call_apply.specs.Call.{call_of as applied}
use Rattle.line_fields.specs.Number.{number_at}
use Rattle.line_host.specs.Line.{is_heard}
use Rattle.line_host.specs.Follows.{as_byte}
use Rattle.line_calls.specs.declared.Asked.{Asked}

-- a replica number that no byte has goes as 255
abbrev pub in_byte : machine.Call → machine.Call
in_byte (machine.Heartbeat peer ballot conf commit exec snap) = machine.Heartbeat (as_byte peer) ballot conf commit exec snap
in_byte (machine.Guard peer number bar) = machine.Guard (as_byte peer) number bar
in_byte (machine.Prepared ballot) = machine.Prepared ballot
in_byte (machine.Record slot ballot reqs) = machine.Record slot ballot reqs
in_byte (machine.Reply peer slot ballot) = machine.Reply (as_byte peer) slot ballot
in_byte (machine.Notice peer slot ballot) = machine.Notice (as_byte peer) slot ballot
in_byte (machine.CommitNotice peer ballot bar) = machine.CommitNotice (as_byte peer) ballot bar
in_byte (machine.Bars start accept commit exec) = machine.Bars start accept commit exec
in_byte (machine.Read leases q) = machine.Read leases q
in_byte (machine.Release slot) = machine.Release slot

-- ---- what is read of a line: whether the fields are well-formed; the call, with its key

pub record AskedAs (well : Bool) (c : machine.Call) (r : Asked) : Type 0 where
  pub good : well ≡ true
  pub call : (rows : List ℕ) → applied r.call rows r.key.now ≡ in_byte c

abbrev pub Asks : Bool → machine.Call → Option Asked → Type 0
Asks well c None = well ≡ false
Asks well c (Some r) = AskedAs well c r

-- ---- the heartbeat that a line's fields are, with the draft as its roster

abbrev pub heard_by : RespondersConf → List ℕ → List Bytes → machine.Call
heard_by draft rows fs =
    machine.Heartbeat (number_at fs 0) (number_at fs 1) (carried (then_some (eqb (number_at fs 2) 1) draft) rows) (number_at fs 3) (number_at fs 4) (number_at fs 5)

pub record HeardAs (draft : RespondersConf) (fs : List Bytes) (c : Call) : Type 0 where
  pub good : is_heard fs ≡ true
  pub call :
      c
      ≡ call.Heartbeat (record { 0 = as_byte (number_at fs 0) }) (record { 0 = number_at fs 1 }) (then_some (eqb (number_at fs 2) 1) draft) (record { 0 = number_at fs 3 }) (record { 0 = number_at fs 4 }) (record { 0 = number_at fs 5 })

abbrev pub ReadsHeard : RespondersConf → List Bytes → Option Call → Type 0
ReadsHeard draft fs None = is_heard fs ≡ false
ReadsHeard draft fs (Some c) = HeardAs draft fs c
