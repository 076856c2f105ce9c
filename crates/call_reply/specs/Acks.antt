-- Bridge: the ack of a peer at its slot, over the slots' words; tied to `handle_msg_accept_reply` by proofs/Replies.
use Rattle.std.specs.Prelude.{◌≡◌, ◌||◌, not, List, [], ◌∷◌, ℕ, ltb, if◌then◌else◌}
use Rattle.std.specs.Prelude.{Option, None, Some}
use Rattle.words.specs.Choice.{if_none◌then◌else◌}
use Rattle.bitmap.specs.Bitmap.{get, mark}
use Rattle.items.specs.Item.{Item, Commit}
use Rattle.roster_conf.specs.Conf.{Conf}
use Rattle.bodega.specs.Replica.{Request, Committed, is_accepting}
use Rattle.bodega.specs.Localread.{commit_condition}
use Rattle.inst_cell.specs.Cell.{Short, with_status}
use Rattle.insts.specs.Slots.{short_at, batch_at, reads_at, Puts}
use Rattle.call_reply.specs.declared.Ack.{Ack}
use Rattle.call_reply.specs.declared.Ack.TheVariants.{Ignored, Marks, Commits}

abbrev pub with_acks : ℕ → Short → Short
with_acks m x = record { bal = x.bal; status = x.status; leader_bk = Some m; replica_bk = x.replica_bk }

-- the acks of a slot with the peer's, where the slot waits for it
unfoldable pub acks_with : Short → ℕ → ℕ → Option ℕ
acks_with x peer ballot =
    if not (is_accepting x.status) || ltb ballot x.bal then None else
    if_none x.leader_bk then None else λ acks.
    if get acks peer then None else Some (mark acks peer)

-- what they do to it
unfoldable pub ack_of : Short → List Request → ℕ → ℕ → ℕ → Conf → Ack
ack_of x reqs peer ballot quorum conf =
    if_none acks_with x peer ballot then Ignored else λ acks.
    if commit_condition acks reqs quorum conf then Commits acks else Marks acks

-- whether it commits, as a number of items, and the item
abbrev pub commits_by : Ack → ℕ
commits_by Ignored = 0
commits_by (Marks m) = 0
commits_by (Commits m) = 1

abbrev pub commit_items : Ack → ℕ → List Item
commit_items Ignored slot = []
commit_items (Marks m) slot = []
commit_items (Commits m) slot = Commit slot ∷ []

-- the slots' words after it
abbrev pub Acts : Ack → List ℕ → ℕ → List ℕ → Type 0
Acts Ignored s c t = t ≡ s
Acts (Marks m) s c t = Puts s c (with_acks m (short_at s c)) (batch_at s c) (reads_at s c) t
Acts (Commits m) s c t = Puts s c (with_status Committed (with_acks m (short_at s c))) (batch_at s c) (reads_at s c) t
