-- Trusted: conflease.rs, adoptions, guards, the reading bar, step-up (document 01, port order 5).
use Rattle.std.specs.Prelude.{ℕ, suc, ◌+◌, ◌-◌, Bool, true, false, ◌&&◌, ◌||◌, not, List, [], ◌∷◌, ◌++◌, map, ltb, eqb, length, get_or, set, replicate, if◌then◌else◌}
use Rattle.std.specs.Prelude.{Some}
use Rattle.rank.specs.Sort.{sort}
use Rattle.ids.specs.Limits.{beyond}
use Rattle.roster_conf.specs.Conf.{Conf}
use Rattle.items.specs.Item.{Item, Lead, Prelog, Prepare}
use Rattle.bodega.specs.Replica.{Instance, Preparing, Replica, Pair, pair, fresh_pair, Done, done, ◌and_then◌, is_open, is_leader, null_instance, with_bal, with_peer_accept, with_peer_exec_bar, with_conf, with_insts, with_max_seen}
use Rattle.bodega.specs.Localread.{release_from}

-- ---- `update_peer_accept_max`: the quorum-th smallest bar, counting only those on the current ballot

abbrev pub counted : ℕ → Pair → ℕ
counted bal p = if eqb p.number bal then p.bar else beyond

unfoldable pub update_peer_accept_max : Replica → Replica
update_peer_accept_max r =
    with_peer_accept
    (record { bar = r.peer_accept.bar; max = get_or (sort (map (counted r.bal.max_seen) r.peer_accept.bar)) (r.me.quorum - 1) 0 })
    r

-- `peer_accept_bar.insert`
abbrev pub insert_pair : ℕ → ℕ → ℕ → Replica → Replica
insert_pair peer number bar r =
    with_peer_accept (record { bar = set r.peer_accept.bar peer (pair number bar); max = r.peer_accept.max }) r

-- ---- `handle_lease_action`, `GuardAcceptBar`

-- a larger number, or an equal one with a smaller bar
abbrev pub newer : Pair → ℕ → ℕ → Bool
newer old number bar = ltb old.number number || (eqb number old.number && ltb bar old.bar)

unfoldable pub guard_accept_bar : Replica → ℕ → ℕ → ℕ → Replica
guard_accept_bar r peer number bar =
    if newer (get_or r.peer_accept.bar peer fresh_pair) number bar then update_peer_accept_max (insert_pair peer number bar r) else r

-- ---- `become_a_leader`

-- the place of the first and of the last slot below Committed, else the number of slots
unfoldable pub first_open : List Instance → ℕ
first_open [] = 0
first_open (i ∷ is) = if is_open i.status then 0 else suc (first_open is)

unfoldable pub any_open : List Instance → Bool
any_open [] = false
any_open (i ∷ is) = is_open i.status || any_open is

unfoldable pub last_open : List Instance → ℕ
last_open [] = 0
last_open (i ∷ is) = if is_open i.status && not (any_open is) then 0 else suc (last_open is)

-- slots below Committed are prepared anew, with empty acks
abbrev pub reprepared : ℕ → Instance → Instance
reprepared bal i =
    if is_open i.status
    then record { bal = bal; status = Preparing; reqs = i.reqs; leader_bk = Some 0; replica_bk = i.replica_bk } else i

unfoldable pub prelogs : ℕ → List Instance → List Item
prelogs slot [] = []
prelogs slot (i ∷ is) = if is_open i.status then Prelog slot ∷ prelogs (slot + 1) is else prelogs (slot + 1) is

-- at the replica's ballot, which is not prepared yet; what is known of the peers' exec bars is forgotten
abbrev pub preparing : List Instance → Replica → Replica
preparing insts r =
    let bal = r.bal.max_seen in
    with_bal (record { max_seen = bal; prep_sent = bal; prepared = 0 })
    (with_peer_exec_bar (replicate r.me.population 0) (with_insts (map (reprepared bal) insts) r))

-- where no slot is open a null one is appended, to be the first and the last
unfoldable pub become_a_leader : Replica → Done
become_a_leader r =
    let trigger = first_open r.insts in
    let endprep = last_open r.insts in
    let insts = if eqb trigger (length r.insts) then r.insts ++ (null_instance ∷ []) else r.insts in
    done (preparing insts r) (Lead true ∷ prelogs r.bar.start insts)
    and_then release_from (suc (endprep - trigger)) (r.bar.start + trigger)
    and_then λ s. done s (Prepare (r.bar.start + trigger) r.bal.max_seen ∷ [])

-- ---- `heard_new_conf`: an adoption

abbrev pub adopted : Replica → ℕ → Conf → Replica
adopted r bal c = update_peer_accept_max (insert_pair r.me.id bal r.bar.accept (with_conf c (with_max_seen bal r)))

unfoldable pub heard_new_conf : Replica → ℕ → Conf → Done
heard_new_conf r bal c =
    let s = adopted r bal c in
    if is_leader s then become_a_leader s else done s []
