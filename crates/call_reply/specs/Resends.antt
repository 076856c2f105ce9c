-- Bridge: `resend_missed_accepts`, adjacent, over the slots' words; tied to `resend_missed_accepts` by proofs/Replies.
use Rattle.std.specs.Prelude.{not, List, [], ◌∷◌, ℕ, zero, suc, ◌+◌, ◌%◌, eqb, if◌then◌else◌}
use Rattle.words.specs.Choice.{if_none◌then◌else◌}
use Rattle.layout.specs.Layout.{slot_places}
use Rattle.bitmap.specs.Bitmap.{get}
use Rattle.items.specs.Item.{Item, Resend}
use Rattle.bodega.specs.Replica.{is_accepting}
use Rattle.inst_cell.specs.Cell.{Short}
use Rattle.insts.specs.Slots.{short_at}
use Rattle.call_reply.specs.declared.Missed.{Missed}
use Rattle.call_reply.specs.declared.Missed.TheVariants.{Skip, Stop, Send}

-- what it does at a slot
unfoldable pub missed_of : Short → ℕ → ℕ → Missed
missed_of x peer prepared =
    if not (is_accepting x.status) then Skip else
    if_none x.leader_bk then Skip else λ acks.
    if get acks peer then Stop else
    if eqb x.bal prepared then Send else Skip

-- n slots from the commit bar on, the last of them first
abbrev pub and_more : Missed → ℕ → ℕ → List Item → List Item
and_more Skip slot peer more = more
and_more Stop slot peer more = []
and_more Send slot peer more = Resend slot peer ∷ more

unfoldable pub resends_of : List ℕ → ℕ → ℕ → ℕ → ℕ → List Item
resends_of s commit peer prepared zero = []
resends_of s commit peer prepared (suc n) =
    and_more (missed_of (short_at s ((commit + n) % slot_places)) peer prepared) (commit + n) peer (resends_of s commit peer prepared n)
