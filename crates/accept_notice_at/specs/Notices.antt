-- Bridge: `handle_msg_accept_notice` at the slot of a notice, over what it reads of the replica: quorum, leader and
-- the instances; tied to `handle_msg_accept_notice` by proofs/Machine and call_notice/proofs/Laws.
use Rattle.std.specs.Prelude.{◌≡◌, Bool, false, ◌&&◌, ◌||◌, not, List, [], ◌++◌, ℕ, ◌+◌, ◌-◌, ◌*◌, ltb, leb, eqb, length, set, replicate, if◌then◌else◌}
use Rattle.std.specs.Prelude.{Option}
use Rattle.std.specs.Prelude.{slice_get}
use Rattle.words.specs.Choice.{if_none◌then◌else◌}
use Rattle.words.specs.Writes.{writes}
use Rattle.bitmap.specs.Bitmap.{count}
use Rattle.items.specs.Item.{Item, encode}
use Rattle.bodega.specs.Replica.{Book, new_book, Instance, null_instance, with_replica_bk}
use Rattle.bodega.specs.Messages.{take_notice}
use Rattle.insts.specs.Slots.{short_at, batch_at, reads_at, inst_in, insts_of, Puts}
use Rattle.release_held_reads.specs.Release.{answers_of, emptied}

-- ---- one instance

-- the instance's book takes the notice, a new book where there is none
abbrev pub noticed_book : ℕ → ℕ → Option Book → Book
noticed_book peer ballot o = take_notice peer ballot (if_none o then new_book else λ b. b)

abbrev pub with_notice : ℕ → ℕ → Instance → Instance
with_notice peer ballot i = with_replica_bk (noticed_book peer ballot i.replica_bk) i

-- the notice is of the instance's ballot, or the instance has none yet and is the last
abbrev pub applies : ℕ → Bool → Instance → Bool
applies ballot last i = eqb ballot i.bal || (eqb i.bal 0 && last)

-- a quorum has sent notices
abbrev pub quorate : ℕ → Instance → Bool
quorate quorum i = if_none i.replica_bk then false else λ b. leb quorum (count b.notices)

abbrev pub noticed_inst : ℕ → ℕ → ℕ → Bool → Instance → Instance
noticed_inst quorum peer ballot last i =
    let j = with_notice peer ballot i in
    if not (applies ballot last i) then i else
    if quorate quorum j then emptied j else j

abbrev pub noticed_items : ℕ → Option ℕ → ℕ → ℕ → Bool → Instance → List Item
noticed_items quorum leader peer ballot last i =
    let j = with_notice peer ballot i in
    if not (applies ballot last i) then [] else
    if quorate quorum j then answers_of quorum leader j else []

-- ---- the instances from start on

-- null ones up to the k-th
abbrev pub padded : ℕ → List Instance → List Instance
padded k l = l ++ replicate (k + 1 - length l) null_instance

pub record Noticed : Type 0 where
  pub insts : List Instance
  pub items : List Item

-- the notice at the k-th
unfoldable pub noticed_at : ℕ → Option ℕ → ℕ → ℕ → ℕ → List Instance → Noticed
noticed_at quorum leader peer ballot k l =
    let p = padded k l in
    let last = eqb (k + 1) (length p) in
    if_none slice_get p k then record { insts = p; items = [] } else λ i.
    record { insts = set p k (noticed_inst quorum peer ballot last i); items = noticed_items quorum leader peer ballot last i }

abbrev pub after : ℕ → ℕ → ℕ
after held k = if ltb k held then held else k + 1

-- ---- the slots' words

-- the words t have the instance i at place c, and every other place is as in s
pub record Sets (s : List ℕ) (c : ℕ) (i : Instance) (t : List ℕ) : Type 0 where
  pub inst : inst_in t c ≡ i
  pub puts : Puts s c (short_at t c) (batch_at t c) (reads_at t c) t

-- what a notice at the slot of place c leaves: the next place r of the area, the slots' words t, and the area after
pub record Notes (quorum : ℕ) (leader : Option ℕ) (peer ballot : ℕ) (last : Bool) (c place : ℕ) (s area : List ℕ) (r : ℕ) (t area' : List ℕ) : Type 0 where
  pub next : r ≡ place + length (noticed_items quorum leader peer ballot last (inst_in s c))
  pub items : area' ≡ writes area (place * 6) (encode (noticed_items quorum leader peer ballot last (inst_in s c)))
  pub slot : Sets s c (noticed_inst quorum peer ballot last (inst_in s c)) t

-- what one at the k-th of the slots held leaves
pub record NotesAt (quorum : ℕ) (leader : Option ℕ) (peer ballot start held k place : ℕ) (s area : List ℕ) (r : ℕ) (t area' : List ℕ) : Type 0 where
  pub next : r ≡ place + length (noticed_at quorum leader peer ballot k (insts_of start held s)).items
  pub items : area' ≡ writes area (place * 6) (encode (noticed_at quorum leader peer ballot k (insts_of start held s)).items)
  pub insts : insts_of start (after held k) t ≡ (noticed_at quorum leader peer ballot k (insts_of start held s)).insts
  pub size : length t ≡ length s
