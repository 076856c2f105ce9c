-- What the table holds is a part of what the replica holds, and each call changes that part as the table is changed by
-- it.
use Rattle.std.specs.Prelude.{if◌then◌else◌}
use Prim.Native.Nat.{ℕ}
use mathlib.Core.Bool.{Bool, true, false, ◌&&◌, not}
use mathlib.Core.List.{List, [], ◌++◌}
use Rattle.std.specs.Prelude.{Option, None, Some}
use mathlib.Core.Path.{◌≡◌, refl, ◌∙◌}
use lib.Dec.{ltb, leb, eqb}
use lib.ListN.{get_or, set}
use borrow.Author.Tests.{ltb-true, ltb-false, le-leb, lt-leb}
use Rattle.roster_conf.specs.Conf.{Conf}
use Rattle.bodega.specs.Replica.{Request, Instance, Highest, Replica, Call, Heartbeat, Guard, Prepared, Record, Reply, Notice, CommitNotice, Bars, Read, Release, Done, done, fresh_pair, with_highest_slot, set_inst, pad, inst_at, is_leader, with_peer_exec_bar}
use Rattle.bodega.specs.Localread.{refresh_highest_slot}
use Rattle.bodega.specs.Conflease.{update_peer_accept_max, newer, guard_accept_bar, become_a_leader, adopted, heard_new_conf}
use Rattle.bodega.specs.Heartbeat.{check_ballot, advance_commit_bar, heard_commit_notice, heard_conf, installs, heard_exec_bar, heard_snap_bar, passed, heard_bars, heard_heartbeat}
use Rattle.bodega.specs.Messages.{noticed, handle_msg_accept_notice}
use Rattle.bodega.specs.Events.{prepared, recorded, bars}
use Rattle.bodega.specs.Step.{effect}
use Rattle.history.specs.Table.{Table, figure_of, beats, adopts, adopting, raised, moved, hear}
use Rattle.bodega.proofs.Choices.{of_if, of_none, if_ap}
use Rattle.history.proofs.Keeps.{Keeps, release_keeps, from_keeps, read_keeps, reply_keeps, noticed_keeps}

unfoldable pub view : Replica → Table
view r =
    record {
      own = r.me.id;
      population = r.me.population;
      quorum = r.me.quorum;
      ballot = r.bal.max_seen;
      start = r.bar.start;
      accept = r.bar.accept;
      roster = r.conf;
      pairs = r.peer_accept.bar;
      figure = r.peer_accept.max;
    }

set_keeps : (slot : ℕ) (i : Instance) (r : Replica) → view (set_inst slot i r) ≡ view r
unfolding set_inst view
set_keeps slot i r = refl

-- ---- guards and adoptions

guard_view : (r : Replica) (peer number bar : ℕ) → view (guard_accept_bar r peer number bar) ≡ hear (view r) (Guard peer number bar)
unfolding guard_accept_bar update_peer_accept_max hear figure_of beats view
guard_view r peer number bar = if_ap view (newer (get_or r.peer_accept.bar peer fresh_pair) number bar) _ r

leader_keeps : (r : Replica) → Keeps view r (become_a_leader r)
unfolding become_a_leader view
leader_keeps r = from_keeps view set_keeps _ _ _

adopted_view : (r : Replica) (ballot : ℕ) (c : Conf) → view (adopted r ballot c) ≡ adopting ballot (Some c) (view r)
unfolding update_peer_accept_max figure_of view
adopted_view r ballot c = refl

new_conf_view : (r : Replica) (ballot : ℕ) (c : Conf) → view (heard_new_conf r ballot c).replica ≡ adopting ballot (Some c) (view r)
unfolding heard_new_conf
new_conf_view r ballot c =
    of_if (λ (d : Done). view d.replica ≡ adopting ballot (Some c) (view r)) (is_leader (adopted r ballot c))
    (leader_keeps (adopted r ballot c) ∙ adopted_view r ballot c)
    (adopted_view r ballot c)

-- ---- heartbeats and commit notices

advance_keeps : (r : Replica) (ballot commit : ℕ) → Keeps view r (advance_commit_bar r ballot commit)
unfolding advance_commit_bar view
advance_keeps r ballot commit = refl

module _ (peer ballot : ℕ) where
  conf_view : (r : Replica) (conf : Option Conf) → leb r.bal.max_seen ballot ≡ true
      → view (heard_conf r peer ballot conf).replica ≡ (if adopts (view r) peer ballot conf then adopting ballot conf (view r) else view r)
  unfolding heard_conf adopts installs view
  conf_view r None e = refl
  conf_view r (Some c) e = rw e (go (installs r peer ballot c))
    where
      go : (t : Bool) → view (if t then heard_new_conf r ballot c else done r []).replica ≡ (if t then adopting ballot (Some c) (view r) else view r)
      go true = new_conf_view r ballot c
      go false = refl

  old_view : (r : Replica) (conf : Option Conf) → leb r.bal.max_seen ballot ≡ false → adopts (view r) peer ballot conf ≡ false
  unfolding adopts view
  old_view r None e = refl
  old_view r (Some c) e = rw e

  snap_keeps : (snap : ℕ) (r : Replica) → view (heard_snap_bar snap r) ≡ view r
  unfolding view
  snap_keeps snap r = refl

  exec_keeps : (exec : ℕ) (r : Replica) → view (heard_exec_bar peer exec r) ≡ view r
  unfolding heard_exec_bar view
  exec_keeps exec r =
      of_if (λ (s : Replica). view s ≡ view r) (ltb (get_or r.peer_exec_bar peer 0) exec)
      (of_if (λ (s : Replica). view s ≡ view r) (passed (with_peer_exec_bar (set r.peer_exec_bar peer exec) r) exec) refl refl) refl

  bars_keep : (commit exec snap : ℕ) (r : Replica) → Keeps view r (heard_bars peer ballot commit exec snap r)
  unfolding heard_bars
  bars_keep commit exec snap r =
      let s = (advance_commit_bar r ballot commit).replica in
      of_if (Keeps view r) (ltb exec r.bar.exec) refl
      (of_if (λ (t : Replica). view t ≡ view r) (eqb peer r.me.id) (advance_keeps r ballot commit)
      (snap_keeps snap (heard_exec_bar peer exec s) ∙ exec_keeps exec s ∙ advance_keeps r ballot commit))

  heartbeat_view : (r : Replica) (conf : Option Conf) (commit exec snap : ℕ)
      → view (heard_heartbeat r peer ballot conf commit exec snap).replica ≡ hear (view r) (Heartbeat peer ballot conf commit exec snap)
  unfolding heard_heartbeat hear
  heartbeat_view r conf commit exec snap = go (ltb ballot r.bal.max_seen) refl
    where
      now : Done
      now = heard_conf r peer ballot conf

      go : (t : Bool) → ltb ballot r.bal.max_seen ≡ t
          → view (if t then done r [] else done (heard_bars peer ballot commit exec snap now.replica).replica (now.items ++ (heard_bars peer ballot commit exec snap now.replica).items)).replica
          ≡ (if adopts (view r) peer ballot conf then adopting ballot conf (view r) else view r)
      go true e = rw (old_view r conf (lt-leb r.bal.max_seen ballot (ltb-true ballot r.bal.max_seen e)))
      go false e = bars_keep commit exec snap now.replica ∙ conf_view r conf (le-leb r.bal.max_seen ballot (ltb-false ballot r.bal.max_seen e))

notice_commit_keeps : (r : Replica) (ballot commit : ℕ) → Keeps view r (heard_commit_notice r ballot commit)
unfolding heard_commit_notice
notice_commit_keeps r ballot commit = of_if (Keeps view r) (eqb ballot r.bal.max_seen) (advance_keeps r ballot commit) refl

-- ---- replies and notices

pad_keeps : (r : Replica) (slot : ℕ) → view (pad slot r) ≡ view r
unfolding pad view
pad_keeps r slot = refl

check_view : (r : Replica) (ballot : ℕ) → ltb r.bal.max_seen ballot ≡ true → view (check_ballot r ballot).replica ≡ raised ballot (view r)
unfolding check_ballot view
check_view r ballot e = rw e

notice_view : (r : Replica) (peer slot ballot : ℕ) → view (handle_msg_accept_notice r peer slot ballot).replica ≡ hear (view r) (Notice peer slot ballot)
unfolding handle_msg_accept_notice hear view
notice_view r peer slot ballot = go (ltb slot r.bar.start) refl (ltb r.bal.max_seen ballot) refl
  where
    same_ballot : Done
    same_ballot = if not (is_leader r) && eqb ballot r.bal.max_seen then noticed (pad slot r) peer slot ballot else done r []

    keeps : Keeps view r same_ballot
    keeps = of_if (Keeps view r) (not (is_leader r) && eqb ballot r.bal.max_seen) (noticed_keeps view set_keeps (pad slot r) peer slot ballot ∙ pad_keeps r slot) refl

    go : (t : Bool) → ltb slot r.bar.start ≡ t → (u : Bool) → ltb r.bal.max_seen ballot ≡ u
        → view (if t then done r [] else if u then check_ballot r ballot else same_ballot).replica ≡ (if leb r.bar.start slot && u then raised ballot (view r) else view r)
    go true e u f = rw (lt-leb r.bar.start slot (ltb-true slot r.bar.start e))
    go false e true f = rw (le-leb r.bar.start slot (ltb-false slot r.bar.start e)) (check_view r ballot f)
    go false e false f = rw (le-leb r.bar.start slot (ltb-false slot r.bar.start e)) keeps

-- ---- events

prepared_keeps : (r : Replica) (ballot : ℕ) → view (prepared r ballot) ≡ view r
unfolding prepared view
prepared_keeps r ballot = refl

padded_keeps : (r : Replica) (slot : ℕ) (hs : List Highest) → view (with_highest_slot hs (pad slot r)) ≡ view r
unfolding view pad
padded_keeps r slot hs = refl

recorded_keeps : (r : Replica) (slot ballot : ℕ) (reqs : List Request) → view (recorded r slot ballot reqs) ≡ view r
unfolding recorded
recorded_keeps r slot ballot reqs =
    let hs = refresh_highest_slot slot reqs r.highest_slot in
    let s = with_highest_slot hs (pad slot r) in
    of_none (λ (t : Replica). view t ≡ view r) (inst_at s slot) (padded_keeps r slot hs) (λ i. set_keeps slot _ s ∙ padded_keeps r slot hs)

bars_view : (r : Replica) (start accept commit exec : ℕ) → view (bars r start accept commit exec) ≡ moved start accept (view r)
unfolding bars view
bars_view r start accept commit exec = refl

-- ---- every call

pub effect_view : (r : Replica) (c : Call) → view (effect r c).replica ≡ hear (view r) c
unfolding effect hear
effect_view r (Heartbeat peer ballot conf commit exec snap) = heartbeat_view peer ballot r conf commit exec snap
effect_view r (Guard peer number bar) = guard_view r peer number bar
effect_view r (Prepared ballot) = prepared_keeps r ballot
effect_view r (Record slot ballot reqs) = recorded_keeps r slot ballot reqs
effect_view r (Reply peer slot ballot) = reply_keeps view set_keeps r peer slot ballot
effect_view r (Notice peer slot ballot) = notice_view r peer slot ballot
effect_view r (CommitNotice peer ballot bar) = notice_commit_keeps r ballot bar
effect_view r (Bars start accept commit exec) = bars_view r start accept commit exec
effect_view r (Read leases q) = read_keeps view set_keeps r leases q
effect_view r (Release slot) = release_keeps view set_keeps slot r
