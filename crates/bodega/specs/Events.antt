-- Trusted: document 01, "Events taken": *prepared*, *record*, *bars*.
use Rattle.std.specs.Prelude.{ℕ, zero, suc, ◌-◌, List, [], ◌∷◌, drop, if◌then◌else◌}
use Rattle.std.specs.Prelude.{None, Some}
use Rattle.words.specs.Choice.{if_none◌then◌else◌}
use Rattle.bodega.specs.Replica.{Request, new_book, Accepting, Executed, Instance, Replica, is_leader, inst_at, set_inst, pad, with_status, with_bal, with_bar, with_insts, with_highest_slot}
use Rattle.bodega.specs.Localread.{refresh_highest_slot}

unfoldable pub prepared : Replica → ℕ → Replica
prepared r ballot = with_bal (record { max_seen = r.bal.max_seen; prep_sent = r.bal.prep_sent; prepared = ballot }) r

-- a leader gets fresh empty acks; any other replica no acks, and a notice book if there is none
abbrev pub accepting : Replica → ℕ → List Request → Instance → Instance
accepting r ballot reqs i =
    record {
      bal = ballot;
      status = Accepting;
      reqs = reqs;
      leader_bk = if is_leader r then Some 0 else None;
      replica_bk = if is_leader r then i.replica_bk else if_none i.replica_bk then Some new_book else λ b. Some b;
    }

unfoldable pub recorded : Replica → ℕ → ℕ → List Request → Replica
recorded r slot ballot reqs =
    let s = with_highest_slot (refresh_highest_slot slot reqs r.highest_slot) (pad slot r) in
    if_none inst_at s slot then s else λ i. set_inst slot (accepting r ballot reqs i) s

-- the first n slots, executed
unfoldable pub executed : ℕ → List Instance → List Instance
executed zero is = is
executed (suc n) [] = []
executed (suc n) (i ∷ is) = with_status Executed i ∷ executed n is

unfoldable pub bars : Replica → ℕ → ℕ → ℕ → ℕ → Replica
bars r start accept commit exec =
    with_bar (record { start = start; accept = accept; commit = commit; exec = exec; snap = r.bar.snap })
    (with_insts (drop (start - r.bar.start) (executed (exec - r.bar.start) r.insts)) r)
