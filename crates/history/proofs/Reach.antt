-- Every replica that calls reach is sound.
use Rattle.std.specs.Prelude.{if◌then◌else◌}
use Prim.Native.Nat.{ℕ, zero, suc, ◌+◌, ◌-◌, ◌%◌, ◌≤◌, ◌<◌}
use mathlib.Core.Bool.{Bool, true, false, ◌&&◌, ◌||◌, not}
use mathlib.Core.List.{List, [], ◌∷◌, ◌++◌}
use mathlib.Core.Logic.{inl, inr}
use Rattle.std.specs.Prelude.{Option, None, Some}
use mathlib.Core.Path.{◌≡◌, refl, ap, sym, ◌∙◌}
use native.Mathlib.Omega.{arith}
use lib.Dec.{ltb, leb, eqb}
use lib.ListN.{length, get_or, take, drop, set, replicate, length-set, length-append, length-map, length-drop, length-replicate, take-append-drop}
use borrow.Author.Tests.{ltb-true, ltb-false, leb-true, leb-false, eqb-true, le-leb, not-false}
use Rattle.words.proofs.Tests.{and_both, or_both}
use Rattle.words.specs.Choice.{if_none◌then◌else◌}
use Rattle.ids.specs.Limits.{window}
use Rattle.roster_conf.specs.Conf.{Conf, leads, leader_without, into_filtered, same}
use Rattle.items.specs.Item.{Commit, Lead}
use Rattle.bodega.specs.Replica.{Request, Instance, null_instance, Highest, Replica, fresh, fresh_pair, order, Committed, Call, Heartbeat, Guard, Prepared, Record, Reply, Notice, CommitNotice, Bars, Read, Release, Done, done, is_open, is_leader, end, inst_at, set_inst, pad, with_status, with_highest_slot, with_peer_exec_bar, with_max_seen, with_conf}
use Rattle.bodega.specs.Localread.{refresh_highest_slot}
use Rattle.bodega.specs.Conflease.{update_peer_accept_max, guard_accept_bar, newer, first_open, any_open, reprepared, become_a_leader, adopted, heard_new_conf}
use Rattle.bodega.specs.Heartbeat.{check_ballot, Walk, walk, advance_commit_bar, heard_commit_notice, heard_conf, installs, heard_exec_bar, heard_snap_bar, passed, heard_bars, heard_heartbeat}
use Rattle.bodega.specs.Messages.{noticed, handle_msg_accept_notice}
use Rattle.bodega.specs.Events.{prepared, recorded, executed, bars}
use Rattle.bodega.specs.Grounds.{grounds, appends, no_room, falls, ordered}
use Rattle.bodega.specs.Step.{Event, effect, refusal_of, step, step_by, step_of, after, run}
use Rattle.history.specs.Invariant.{core, Sound}
use Rattle.bodega.proofs.Choices.{of_if, of_none}
use Rattle.history.proofs.Keeps.{Keeps, release_keeps, from_keeps, read_keeps, reply_keeps, noticed_keeps}
use Rattle.roster_conf.proofs.Grounds.{NoneApply}
use Rattle.bodega.proofs.Taken.{taken_none}

-- ---- what keeps the core

core_set : (slot : ℕ) (i : Instance) (r : Replica) → core (set_inst slot i r) ≡ core r
unfolding core set_inst
core_set slot i r = λ j. record { me = r.me; bal = r.bal; conf = r.conf; start = r.bar.start; commit = r.bar.commit; exec = r.bar.exec; size = length-set r.insts (slot - r.bar.start) i j }

walk_length : (ballot slot n : ℕ) (is : List Instance) → length (walk ballot slot n is).insts ≡ length is
unfolding walk
walk_length ballot slot zero is = refl
walk_length ballot slot (suc n) [] = refl
walk_length ballot slot (suc n) (i ∷ is) = go (ltb i.bal ballot || ltb (order i.status) 2) (not (is_open i.status)) (walk ballot (slot + 1) n is) (walk_length ballot (slot + 1) n is)
  where
    go : (t u : Bool) (w : Walk) → length w.insts ≡ length is
        → length (if◌then◌else◌ {A = Walk} t (record { insts = i ∷ is; items = [] })
        (if u then record { insts = i ∷ w.insts; items = w.items } else
        record { insts = with_status Committed i ∷ w.insts; items = Commit slot ∷ w.items })).insts ≡ suc (length is)
    go true u w h = refl
    go false true w h = ap suc h
    go false false w h = ap suc h

advance_core : (r : Replica) (ballot commit : ℕ) → core (advance_commit_bar r ballot commit).replica ≡ core r
unfolding core advance_commit_bar
advance_core r ballot commit =
    let k = r.bar.commit - r.bar.start in
    let w = walk ballot r.bar.commit (commit - r.bar.commit) (drop k r.insts) in
    let e : length (take k r.insts ++ w.insts) ≡ length r.insts =
    length-append (take k r.insts) w.insts
    ∙ ap (λ (n : ℕ). length (take k r.insts) + n) (walk_length ballot r.bar.commit (commit - r.bar.commit) (drop k r.insts))
    ∙ sym (length-append (take k r.insts) (drop k r.insts))
    ∙ ap length (take-append-drop k r.insts) in
    λ j. record { me = r.me; bal = r.bal; conf = r.conf; start = r.bar.start; commit = r.bar.commit; exec = r.bar.exec; size = e j }

snap_core : (snap : ℕ) (r : Replica) → core (heard_snap_bar snap r) ≡ core r
unfolding core
snap_core snap r = refl

exec_core : (peer exec : ℕ) (r : Replica) → core (heard_exec_bar peer exec r) ≡ core r
unfolding heard_exec_bar core
exec_core peer exec r =
    of_if (λ (s : Replica). core s ≡ core r) (ltb (get_or r.peer_exec_bar peer 0) exec)
    (of_if (λ (s : Replica). core s ≡ core r) (passed (with_peer_exec_bar (set r.peer_exec_bar peer exec) r) exec) refl refl) refl

bars_core : (peer ballot commit exec snap : ℕ) (r : Replica) → Keeps core r (heard_bars peer ballot commit exec snap r)
unfolding heard_bars
bars_core peer ballot commit exec snap r =
    let s = (advance_commit_bar r ballot commit).replica in
    of_if (Keeps core r) (ltb exec r.bar.exec) refl
    (of_if (λ (t : Replica). core t ≡ core r) (eqb peer r.me.id) (advance_core r ballot commit)
    (snap_core snap (heard_exec_bar peer exec s) ∙ exec_core peer exec s ∙ advance_core r ballot commit))

commit_core : (r : Replica) (ballot commit : ℕ) → Keeps core r (heard_commit_notice r ballot commit)
unfolding heard_commit_notice
commit_core r ballot commit = of_if (Keeps core r) (eqb ballot r.bal.max_seen) (advance_core r ballot commit) refl

guard_core : (r : Replica) (peer number bar : ℕ) → core (guard_accept_bar r peer number bar) ≡ core r
unfolding guard_accept_bar update_peer_accept_max core
guard_core r peer number bar = of_if (λ (s : Replica). core s ≡ core r) (newer (get_or r.peer_accept.bar peer fresh_pair) number bar) refl refl

-- ---- step-up

-- the slots, with one appended where none is open
abbrev pub appended : List Instance → List Instance
appended is = if eqb (first_open is) (length is) then is ++ (null_instance ∷ []) else is

leader_core : (r : Replica)
    → core (become_a_leader r).replica
    ≡ record {
      me = r.me;
      bal = record { max_seen = r.bal.max_seen; prep_sent = r.bal.max_seen; prepared = 0 };
      conf = r.conf;
      start = r.bar.start;
      commit = r.bar.commit;
      exec = r.bar.exec;
      size = length (appended r.insts);
    }
unfolding become_a_leader core
leader_core r =
    from_keeps core core_set _ _ _
    ∙ λ j. record {
      me = r.me;
      bal = record { max_seen = r.bal.max_seen; prep_sent = r.bal.max_seen; prepared = 0 };
      conf = r.conf;
      start = r.bar.start;
      commit = r.bar.commit;
      exec = r.bar.exec;
      size = length-map (appended r.insts) (reprepared r.bal.max_seen) j;
    }

pub first_open_lem : (is : List Instance) → first_open is ≡ length is → any_open is ≡ false
unfolding first_open any_open
first_open_lem [] e = refl
first_open_lem (i ∷ is) e = go (is_open i.status) e (first_open_lem is)
  where
    go : (b : Bool) → (if b then 0 else suc (first_open is)) ≡ suc (length is) → (first_open is ≡ length is → any_open is ≡ false) → (b || any_open is) ≡ false
    go true e f = absurd (omega arith)
    go false e f = f (omega arith)

-- ---- an adoption

module _ (r : Replica) (ballot : ℕ) (c : Conf) (s : Sound (core r)) (high : r.bal.max_seen ≤ ballot) where
  adopted_sound : leads c r.me.id ≡ false → Sound (core (adopted r ballot c))
  unfolding core update_peer_accept_max
  adopted_sound l =
      record {
        start_exec = s.start_exec;
        exec_commit = s.exec_commit;
        commit_end = s.commit_end;
        in_window = s.in_window;
        sent = omega (arith, s.sent);
        prep = s.prep;
        leader = λ e. let z : ◌≡◌ {A = ℕ} 0 1 = cc in absurd (omega arith);
      }

  appended_size : (any_open r.insts ≡ false → length r.insts < window)
      → (length r.insts ≤ length (appended r.insts)) × (length (appended r.insts) ≤ window)
  unfolding core
  appended_size room = go (eqb (first_open r.insts) (length r.insts)) refl
    where
      go : (b : Bool) → eqb (first_open r.insts) (length r.insts) ≡ b
          → (length r.insts ≤ length (if b then r.insts ++ (null_instance ∷ []) else r.insts)) × (length (if b then r.insts ++ (null_instance ∷ []) else r.insts) ≤ window)
      go true e =
          let h : length r.insts < window = room (first_open_lem r.insts (eqb-true (first_open r.insts) (length r.insts) e)) in
          rw (length-append r.insts (null_instance ∷ [])) (omega arith, omega arith)
      go false e = (omega arith, s.in_window)

  leader_sound : 0 < ballot → (any_open r.insts ≡ false → length r.insts < window) → Sound (core (become_a_leader (adopted r ballot c)).replica)
  unfolding core update_peer_accept_max
  leader_sound pos room =
      let z = appended_size room in
      rw (leader_core (adopted r ballot c))
      (record {
        start_exec = s.start_exec;
        exec_commit = s.exec_commit;
        commit_end = omega (arith, s.commit_end);
        in_window = z.1;
        sent = omega arith;
        prep = inl refl;
        leader = λ e. (refl, pos);
      })

ballot_pos : (peer ballot : ℕ) → eqb (ballot % 256) (peer + 1) ≡ true → 0 < ballot
ballot_pos peer ballot e = let h : ballot % 256 ≡ peer + 1 = eqb-true (ballot % 256) (peer + 1) e in omega arith

installs_pos : (r : Replica) (peer ballot : ℕ) (c : Conf) → installs r peer ballot c ≡ true → 0 < ballot
unfolding installs
installs_pos r peer ballot c = go (ltb r.bal.max_seen ballot) refl (eqb (ballot % 256) (peer + 1)) refl
  where
    go : (a : Bool) → ltb r.bal.max_seen ballot ≡ a → (b : Bool) → eqb (ballot % 256) (peer + 1) ≡ b → (a || (b && not (same c r.conf))) ≡ true → 0 < ballot
    go true e b f h = let l : r.bal.max_seen < ballot = ltb-true r.bal.max_seen ballot e in omega arith
    go false e true f h = ballot_pos peer ballot f
    go false e false f h = let z : ◌≡◌ {A = ℕ} 0 1 = cc in absurd (omega arith)

module _ (r : Replica) (peer ballot : ℕ) (s : Sound (core r)) (high : leb r.bal.max_seen ballot ≡ true) where
  new_conf_sound : (c : Conf) → installs r peer ballot c ≡ true → (leads c r.me.id ≡ true → any_open r.insts ≡ false → length r.insts < window)
      → Sound (core (heard_new_conf r ballot c).replica)
  unfolding heard_new_conf update_peer_accept_max
  new_conf_sound c e room = go (leads c r.me.id) refl
    where
      at_least : r.bal.max_seen ≤ ballot
      at_least = leb-true r.bal.max_seen ballot high

      go : (b : Bool) → leads c r.me.id ≡ b → Sound (core (if◌then◌else◌ b (become_a_leader (adopted r ballot c)) (done (adopted r ballot c) [])).replica)
      go true l = leader_sound r ballot c s at_least (installs_pos r peer ballot c e) (room l)
      go false l = adopted_sound r ballot c s at_least l

  conf_sound : (conf : Option Conf) → (appends r peer ballot conf && no_room r) ≡ false → Sound (core (heard_conf r peer ballot conf).replica)
  unfolding heard_conf
  conf_sound None h = s
  conf_sound (Some c) h = go (installs r peer ballot c) refl
    where
      go : (b : Bool) → installs r peer ballot c ≡ b → Sound (core (if◌then◌else◌ b (heard_new_conf r ballot c) (done r [])).replica)
      go true e = new_conf_sound c e (λ l o. leb-false window (length r.insts) (or_both (leb window (length r.insts)) _ (rw (high, e, l, o) at h)).0)
      go false e = s

-- ---- the calls

heartbeat_sound : (r : Replica) (peer ballot : ℕ) (conf : Option Conf) (commit exec snap : ℕ) → Sound (core r)
    → (appends r peer ballot conf && no_room r) ≡ false → Sound (core (heard_heartbeat r peer ballot conf commit exec snap).replica)
unfolding heard_heartbeat
heartbeat_sound r peer ballot conf commit exec snap s h = go (ltb ballot r.bal.max_seen) refl
  where
    now : Done
    now = heard_conf r peer ballot conf

    later : Done
    later = heard_bars peer ballot commit exec snap now.replica

    go : (t : Bool) → ltb ballot r.bal.max_seen ≡ t → Sound (core (if◌then◌else◌ t (done r []) (done later.replica (now.items ++ later.items))).replica)
    go true e = s
    go false e =
        rw (bars_core peer ballot commit exec snap now.replica)
        (conf_sound r peer ballot s (le-leb r.bal.max_seen ballot (ltb-false ballot r.bal.max_seen e)) conf h)

prepared_sound : (r : Replica) (ballot : ℕ) → Sound (core r) → ballot ≡ r.bal.prep_sent → Sound (core (prepared r ballot))
unfolding core prepared
prepared_sound r ballot s e =
    record {
      start_exec = s.start_exec;
      exec_commit = s.exec_commit;
      commit_end = s.commit_end;
      in_window = s.in_window;
      sent = s.sent;
      prep = inr e;
      leader = s.leader;
    }

-- null slots up to one that is in the window
pad_sound : (r : Replica) (slot : ℕ) (hs : List Highest) → Sound (core r) → slot < r.bar.start + window → Sound (core (with_highest_slot hs (pad slot r)))
unfolding core pad
pad_sound r slot hs s h =
    let e : length (r.insts ++ replicate (slot + 1 - end r) null_instance) ≡ length r.insts + (slot + 1 - end r) =
    length-append r.insts (replicate (slot + 1 - end r) null_instance) ∙ ap (λ (n : ℕ). length r.insts + n) (length-replicate (slot + 1 - end r) null_instance) in
    let w : length r.insts ≤ window = s.in_window in
    record {
      start_exec = s.start_exec;
      exec_commit = s.exec_commit;
      commit_end = rw e (omega (arith, s.commit_end));
      in_window = rw e (omega arith);
      sent = s.sent;
      prep = s.prep;
      leader = s.leader;
    }

recorded_sound : (r : Replica) (slot ballot : ℕ) (reqs : List Request) → Sound (core r) → slot < r.bar.start + window → Sound (core (recorded r slot ballot reqs))
unfolding recorded
recorded_sound r slot ballot reqs s h =
    let hs = refresh_highest_slot slot reqs r.highest_slot in
    let t = with_highest_slot hs (pad slot r) in
    of_none (λ (u : Replica). Sound (core u)) (inst_at t slot) (pad_sound r slot hs s h) (λ i. rw (core_set slot _ t) (pad_sound r slot hs s h))

-- a filtered roster is not led by the replica that was filtered out
pub filtered_leads : (id : ℕ) (c : Conf) → leads (into_filtered id c) id ≡ false
unfolding into_filtered
filtered_leads id c = go c.leader
  where
    by : (l : ℕ) (b : Bool) → eqb l id ≡ b → (if_none◌then◌else◌ {A = ℕ} {B = Bool} (if b then None else Some l) false (λ k. eqb k id)) ≡ false
    by l true e = refl
    by l false e = e

    go : (o : Option ℕ) → (if_none leader_without id o then false else λ k. eqb k id) ≡ false
    go None = refl
    go (Some l) = by l (eqb l id) refl

raised_sound : (r : Replica) (ballot : ℕ) → Sound (core r) → Sound (core (check_ballot r ballot).replica)
unfolding check_ballot core
raised_sound r ballot s = go (ltb r.bal.max_seen ballot) refl
  where
    go : (b : Bool) → ltb r.bal.max_seen ballot ≡ b → Sound (core (if◌then◌else◌ b (done (with_max_seen ballot (with_conf (into_filtered r.me.id r.conf) r)) (if is_leader r then Lead false ∷ [] else [])) (done r [])).replica)
    go true e =
        let h : r.bal.max_seen < ballot = ltb-true r.bal.max_seen ballot e in
        record {
          start_exec = s.start_exec;
          exec_commit = s.exec_commit;
          commit_end = s.commit_end;
          in_window = s.in_window;
          sent = omega (arith, s.sent);
          prep = s.prep;
          leader = λ l. let f = filtered_leads r.me.id r.conf in let z : ◌≡◌ {A = ℕ} 0 1 = cc in absurd (omega arith);
        }
    go false e = s

notice_sound : (r : Replica) (peer slot ballot : ℕ) → Sound (core r)
    → (not (is_leader r) && eqb ballot r.bal.max_seen && leb (r.bar.start + window) slot) ≡ false
    → Sound (core (handle_msg_accept_notice r peer slot ballot).replica)
unfolding handle_msg_accept_notice pad
notice_sound r peer slot ballot s h =
    of_if P (ltb slot r.bar.start) s
    (of_if P (ltb r.bal.max_seen ballot) (raised_sound r ballot s) (go (not (is_leader r) && eqb ballot r.bal.max_seen) h))
  where
    P : Done → Type 0
    P d = Sound (core d.replica)

    go : (b : Bool) → (b && leb (r.bar.start + window) slot) ≡ false → P (if b then noticed (pad slot r) peer slot ballot else done r [])
    go true e =
        rw (noticed_keeps core core_set (pad slot r) peer slot ballot)
        (pad_sound r slot r.highest_slot s (leb-false (r.bar.start + window) slot e))
    go false e = s

executed_length : (n : ℕ) (is : List Instance) → length (executed n is) ≡ length is
unfolding executed
executed_length zero is = refl
executed_length (suc n) [] = refl
executed_length (suc n) (i ∷ is) = ap suc (executed_length n is)

module _ (r : Replica) (start accept commit exec : ℕ) (s : Sound (core r))
    (rises : falls r start commit exec ≡ false) (order : ordered r start commit exec ≡ true) where
  bars_sound : Sound (core (bars r start accept commit exec))
  unfolding core bars
  bars_sound =
      let a : r.bar.start ≤ start = ltb-false start r.bar.start (or_both (ltb start r.bar.start) (ltb commit r.bar.commit) (or_both _ _ rises).0).0 in
      let b : start ≤ exec = leb-true start exec (and_both (leb start exec) (leb exec commit) (and_both _ _ order).0).0 in
      let c : exec ≤ commit = leb-true exec commit (and_both (leb start exec) (leb exec commit) (and_both _ _ order).0).1 in
      let d : commit ≤ end r = leb-true commit (end r) (and_both (leb start exec && leb exec commit) _ order).1 in
      let e : length (drop (start - r.bar.start) (executed (exec - r.bar.start) r.insts)) ≡ length r.insts - (start - r.bar.start) =
      length-drop (start - r.bar.start) (executed (exec - r.bar.start) r.insts)
      ∙ ap (λ (n : ℕ). n - (start - r.bar.start)) (executed_length (exec - r.bar.start) r.insts) in
      let w : length r.insts ≤ window = s.in_window in
      record {
        start_exec = b;
        exec_commit = c;
        commit_end = rw e (omega arith);
        in_window = rw e (omega arith);
        sent = s.sent;
        prep = s.prep;
        leader = s.leader;
      }

-- ---- every call, and lists of calls

effect_sound : (r : Replica) (c : Call) → Sound (core r) → NoneApply (grounds r c) → Sound (core (effect r c).replica)
unfolding effect grounds
effect_sound r (Heartbeat peer ballot conf commit exec snap) s n = heartbeat_sound r peer ballot conf commit exec snap s n.1.1.1.1.1.0
effect_sound r (Guard peer number bar) s n = rw (guard_core r peer number bar) s
effect_sound r (Prepared ballot) s n = prepared_sound r ballot s (eqb-true ballot r.bal.prep_sent (not-false _ (or_both (not (is_leader r) || eqb ballot 0) _ n.0).1))
effect_sound r (Record slot ballot reqs) s n = recorded_sound r slot ballot reqs s (leb-false (r.bar.start + window) slot n.1.1.1.1.1.0)
effect_sound r (Reply peer slot ballot) s n = rw (reply_keeps core core_set r peer slot ballot) s
effect_sound r (Notice peer slot ballot) s n = notice_sound r peer slot ballot s n.1.1.0
effect_sound r (CommitNotice peer ballot bar) s n = rw (commit_core r ballot bar) s
effect_sound r (Bars start accept commit exec) s n =
    let h = (or_both _ _ (or_both _ _ n.1.0).0).0 in
    bars_sound r start accept commit exec s (or_both _ _ h).0 (not-false _ (or_both (falls r start commit exec) _ h).1)
effect_sound r (Read leases q) s n = rw (read_keeps core core_set r leases q) s
effect_sound r (Release slot) s n = rw (release_keeps core core_set slot r) s

pub step_sound : (r : Replica) (e : Event) → Sound (core r) → Sound (core (after r (step_of r e)))
unfolding step
step_sound r e s = go (refusal_of r e.call e.places) refl
  where
    go : (o : Option ℕ) → refusal_of r e.call e.places ≡ o → Sound (core (after r (step_by o (effect r e.call))))
    go None q = effect_sound r e.call s (taken_none r e.call e.places (rw q))
    go (Some n) q = s

pub run_sound : (r : Replica) (es : List Event) → Sound (core r) → Sound (core (run r es))
unfolding run
run_sound r [] s = s
run_sound r (e ∷ es) s = run_sound (after r (step_of r e)) es (step_sound r e s)

pub fresh_sound : (id population quorum : ℕ) → Sound (core (fresh id population quorum))
unfolding core fresh
fresh_sound id population quorum =
    record {
      start_exec = omega arith;
      exec_commit = omega arith;
      commit_end = omega arith;
      in_window = omega arith;
      sent = omega arith;
      prep = inl refl;
      leader = λ e. let z : ◌≡◌ {A = ℕ} 0 1 = cc in absurd (omega arith);
    }
