-- Bridge: `release_held_read_reqs` for one slot, over what it reads of the replica: quorum, leader and the slot's
-- instance; tied to `release_held_read_reqs` by proofs/Machine.
use Rattle.std.specs.Prelude.{◌≡◌, Bool, not, List, [], map, ℕ, ◌+◌, ◌*◌, length, if◌then◌else◌}
use Rattle.std.specs.Prelude.{Option}
use Rattle.words.specs.Choice.{if_none◌then◌else◌}
use Rattle.words.specs.Writes.{writes}
use Rattle.items.specs.Item.{Item, Value, Retry, encode}
use Rattle.bodega.specs.Replica.{Request, ReadReq, Instance, with_replica_bk, with_holding}
use Rattle.bodega.specs.Localread.{is_bound, last_put}
use Rattle.insts.specs.Slots.{short_at, batch_at, inst_in, Puts}

-- `released` for a slot whose write is bound to commit, or is not
abbrev pub answer_to : Bool → Option ℕ → List Request → ReadReq → Item
answer_to bound leader reqs q =
    if not bound then Retry q.client q.request leader else
    if_none last_put q.key reqs then Retry q.client q.request leader else λ v. Value q.client q.request v

-- the reads that a slot holds, and what they get
abbrev pub holding_of : Instance → List ReadReq
holding_of i = if_none i.replica_bk then [] else λ b. b.holding

abbrev pub answers_of : ℕ → Option ℕ → Instance → List Item
answers_of quorum leader i = map (answer_to (is_bound quorum i) leader i.reqs) (holding_of i)

-- the slot without them
abbrev pub emptied : Instance → Instance
emptied i = if_none i.replica_bk then i else λ b. with_replica_bk (with_holding [] b) i

-- items put from a place of the area on leave the next place, and the area after
pub record Answered (place : ℕ) (area : List ℕ) (l : List Item) (r : ℕ) (area' : List ℕ) : Type 0 where
  pub next : r ≡ place + length l
  pub items : area' ≡ writes area (place * 6) (encode l)

-- what a release of the slot at place c leaves: the next place r of the area, the slots' words t, and the area after
pub record Releases (quorum : ℕ) (leader : Option ℕ) (c place : ℕ) (s area : List ℕ) (r : ℕ) (t area' : List ℕ) : Type 0 where
  pub next : r ≡ place + length (answers_of quorum leader (inst_in s c))
  pub items : area' ≡ writes area (place * 6) (encode (answers_of quorum leader (inst_in s c)))
  pub emptied : Puts s c (short_at s c) (batch_at s c) [] t
