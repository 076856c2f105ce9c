-- Trusted: request.rs, `treat_read_only_reqs`, for one read (document 01, port order 8).
use Rattle.std.specs.Prelude.{ℕ, not, [], ◌∷◌, ltb, if◌then◌else◌}
use Rattle.words.specs.Text.{Bytes}
use Rattle.words.specs.Choice.{if_none◌then◌else◌}
use Rattle.bitmap.specs.Bitmap.{get}
use Rattle.keys.specs.Read.{read_key}
use Rattle.roster_ranges.specs.Range.{at, mask_at}
use Rattle.items.specs.Item.{Value, Absent, Store, Pass, Hold}
use Rattle.bodega.specs.Replica.{ReadReq, Replica, Done, done}
use Rattle.bodega.specs.Localread.{is_stable_leader, inspect_latest_write, Settled, StableLeader, FewLeases, UnreadKey, StoredRange, DefaultRoster, Bar, ReadAnswer, Found, Missing, FromStore, Consensus, HeldBy, Again, answer_of, hold_read, retry}

-- `is_responder_for`, and what settles it
abbrev pub not_responder : Replica → ℕ → Settled
not_responder r n = if_none at r.conf.ranges n then DefaultRoster else λ m. StoredRange

unfoldable pub settled : Replica → ℕ → Bytes → Settled
settled r leases key =
    if is_stable_leader r leases then StableLeader else
    if ltb leases r.me.quorum then FewLeases else
    if_none read_key key then UnreadKey else λ n.
    if not (get (mask_at r.conf.default r.conf.ranges n) r.me.id) then not_responder r n else
    if ltb r.bar.commit r.peer_accept.max then Bar else
    inspect_latest_write r key

unfoldable pub read_answer : Replica → ℕ → Bytes → ReadAnswer
read_answer r leases key = answer_of r (settled r leases key)

abbrev pub answered : Replica → ReadReq → ReadAnswer → Done
answered r q (Found v) = done r (Value q.client q.request v ∷ [])
answered r q Missing = done r (Absent q.client q.request ∷ [])
answered r q FromStore = done r (Store q.client q.request ∷ [])
answered r q Consensus = done r (Pass q.client q.request ∷ [])
answered r q (HeldBy slot) = done (hold_read slot q r) (Hold q.client q.request slot ∷ [])
answered r q Again = done r (retry r q ∷ [])

unfoldable pub treat_read : Replica → ℕ → ReadReq → Done
treat_read r leases q = answered r q (read_answer r leases q.key)
