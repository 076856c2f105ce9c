-- Trusted: a call at a replica, and a list of calls (document 01, "The list of calls").
use Rattle.std.specs.Prelude.{ℕ, ◌≤◌, Bool, true, false, List, [], ◌∷◌, ◌++◌, ◌≡◌, ltb, length}
use Rattle.std.specs.Prelude.{Option, None, Some}
use Rattle.items.specs.Item.{Item}
use Rattle.bodega.specs.Replica.{Replica, Call, Heartbeat, Guard, Prepared, Record, Reply, Notice, CommitNotice, Bars, Read, Release, Done, done}
use Rattle.bodega.specs.Localread.{release_held_read_reqs}
use Rattle.bodega.specs.Request.{treat_read}
use Rattle.bodega.specs.Conflease.{guard_accept_bar}
use Rattle.bodega.specs.Heartbeat.{heard_heartbeat, heard_commit_notice}
use Rattle.bodega.specs.Messages.{handle_msg_accept_reply, handle_msg_accept_notice}
use Rattle.bodega.specs.Events.{prepared, recorded, bars}
use Rattle.roster_conf.specs.Ground.{Ground, ◌when◌or◌, refusal, Applies}
use Rattle.bodega.specs.Grounds.{grounds}

-- what a call does where nothing turns it away
unfoldable pub effect : Replica → Call → Done
effect r (Heartbeat peer ballot conf commit exec snap) = heard_heartbeat r peer ballot conf commit exec snap
effect r (Guard peer number bar) = done (guard_accept_bar r peer number bar) []
effect r (Prepared ballot) = done (prepared r ballot) []
effect r (Record slot ballot reqs) = done (recorded r slot ballot reqs) []
effect r (Reply peer slot ballot) = handle_msg_accept_reply r peer slot ballot
effect r (Notice peer slot ballot) = handle_msg_accept_notice r peer slot ballot
effect r (CommitNotice peer ballot bar) = heard_commit_notice r ballot bar
effect r (Bars start accept commit exec) = done (bars r start accept commit exec) []
effect r (Read leases q) = treat_read r leases q
effect r (Release slot) = release_held_read_reqs slot r

-- the last ground is for every call: the answer area has fewer places than the call has items
abbrev pub all_grounds : Replica → Call → ℕ → List Ground
all_grounds r c places = grounds r c ++ (20 when ltb places (length (effect r c).items) or [])

unfoldable pub refusal_of : Replica → Call → ℕ → Option ℕ
refusal_of r c places = refusal (all_grounds r c places)

-- "the lowest refusal number that applies"
abbrev pub LowestFirst : Type 0
LowestFirst = (r : Replica) (c : Call) (places n : ℕ) → refusal_of r c places ≡ Some n
    → Applies n (all_grounds r c places) × ((k : ℕ) → Applies k (all_grounds r c places) → n ≤ k)

pub data Step : Type 0 where
  Refused : ℕ → Step
  Taken : Replica → List Item → Step

abbrev pub step_by : Option ℕ → Done → Step
step_by None d = Taken d.replica d.items
step_by (Some n) d = Refused n

unfoldable pub step : Replica → Call → ℕ → Step
step r c places = step_by (refusal_of r c places) (effect r c)

-- after a refusal the replica is as it was
abbrev pub after : Replica → Step → Replica
after r (Refused n) = r
after r (Taken s items) = s

abbrev pub is_taken : Step → Bool
is_taken (Refused n) = false
is_taken (Taken s items) = true

-- ---- lists of calls, each with the places of its answer area

pub record Event : Type 0 where
  pub call : Call
  pub places : ℕ

abbrev pub step_of : Replica → Event → Step
step_of r e = step r e.call e.places

unfoldable pub run : Replica → List Event → Replica
run r [] = r
run r (e ∷ es) = run (after r (step_of r e)) es

-- what is answered, call by call
unfoldable pub answers : Replica → List Event → List Step
answers r [] = []
answers r (e ∷ es) = step_of r e ∷ answers (after r (step_of r e)) es
