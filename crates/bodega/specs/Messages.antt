-- Trusted: messages.rs, accept replies and accept notices (document 01, port order 7).
use Rattle.std.specs.Prelude.{ℕ, zero, suc, ◌+◌, ◌-◌, ◌&&◌, ◌||◌, not, List, [], ◌∷◌, ◌++◌, ltb, leb, eqb, if◌then◌else◌}
use Rattle.words.specs.Choice.{if_none◌then◌else◌}
use Rattle.bitmap.specs.Bitmap.{get, mark, count}
use Rattle.items.specs.Item.{Item, Resend, Commit}
use Rattle.bodega.specs.Replica.{Book, new_book, Committed, Replica, Done, done, is_accepting, is_leader, end, inst_at, set_inst, pad, with_status, with_leader_bk, with_replica_bk}
use Rattle.bodega.specs.Localread.{commit_condition, release_held_read_reqs}
use Rattle.bodega.specs.Heartbeat.{check_ballot}

-- ---- `resend_missed_accepts`, adjacent: n slots from the commit bar on, the last of them first, up to the first
-- Accepting one that the peer has acked

unfoldable pub resend_missed_accepts : Replica → ℕ → ℕ → List Item
resend_missed_accepts r peer zero = []
resend_missed_accepts r peer (suc n) =
    let slot = r.bar.commit + n in
    let more = resend_missed_accepts r peer n in
    if_none inst_at r slot then more else λ i.
    if not (is_accepting i.status) then more else
    if_none i.leader_bk then more else λ acks.
    if get acks peer then [] else
    if eqb i.bal r.bal.prepared then Resend slot peer ∷ more else more

-- ---- `handle_msg_accept_reply`

-- the ack of a peer at a slot that waits for it
unfoldable pub take_ack : Replica → ℕ → ℕ → ℕ → List Item → Done
take_ack r peer slot ballot items =
    if_none inst_at r slot then done r items else λ i.
    if not (is_accepting i.status) || ltb ballot i.bal then done r items else
    if_none i.leader_bk then done r items else λ acks.
    if get acks peer then done r items else
    let j = with_leader_bk (mark acks peer) i in
    if commit_condition (mark acks peer) i.reqs r.me.quorum r.conf
    then done (set_inst slot (with_status Committed j) r) (items ++ (Commit slot ∷ []))
    else done (set_inst slot j r) items

unfoldable pub handle_msg_accept_reply : Replica → ℕ → ℕ → ℕ → Done
handle_msg_accept_reply r peer slot ballot =
    if ltb slot r.bar.start then done r [] else
    if not (eqb ballot r.bal.prepared) || not (is_leader r) then done r [] else
    take_ack r peer slot ballot (if eqb peer r.me.id then [] else resend_missed_accepts r peer (slot - r.bar.commit))

-- ---- `handle_msg_accept_notice`

-- a book takes one notice: one of a higher ballot empties it first
unfoldable pub take_notice : ℕ → ℕ → Book → Book
take_notice peer ballot b =
    if ltb b.bal ballot then record { bal = ballot; notices = mark 0 peer; holding = b.holding }
    else record { bal = b.bal; notices = mark b.notices peer; holding = b.holding }

-- at a slot that is held
unfoldable pub noticed : Replica → ℕ → ℕ → ℕ → Done
noticed r peer slot ballot =
    if_none inst_at r slot then done r [] else λ i.
    let new = eqb (slot + 1) (end r) in
    let b = take_notice peer ballot (if_none i.replica_bk then new_book else λ x. x) in
    let s = set_inst slot (with_replica_bk b i) r in
    if not (eqb ballot i.bal || (eqb i.bal 0 && new)) then done r [] else
    if leb r.me.quorum (count b.notices) then release_held_read_reqs slot s else done s []

unfoldable pub handle_msg_accept_notice : Replica → ℕ → ℕ → ℕ → Done
handle_msg_accept_notice r peer slot ballot =
    if ltb slot r.bar.start then done r [] else
    if ltb r.bal.max_seen ballot then check_ballot r ballot else
    if not (is_leader r) && eqb ballot r.bal.max_seen then noticed (pad slot r) peer slot ballot else
    done r []
