-- Bridge: `advance_commit_bar` over the slots' words: what the walk does at one slot, and what the whole of it leaves;
-- tied to `walk` by proofs/Laws.
use Rattle.std.specs.Prelude.{◌≡◌, Bool, ◌||◌, List, [], ◌∷◌, ◌++◌, ℕ, ◌+◌, ◌-◌, ◌*◌, ltb, length, take, drop, if◌then◌else◌}
use Rattle.words.specs.Writes.{writes}
use Rattle.items.specs.Item.{Item, Commit, encode}
use Rattle.bodega.specs.Replica.{Instance, Committed, order, is_open}
use Rattle.bodega.specs.Heartbeat.{Walk, walk}
use Rattle.inst_cell.specs.Cell.{Short, with_status}
use Rattle.insts.specs.Slots.{short_at, batch_at, reads_at, inst_in, insts_of, Puts}

-- "stops at a slot with lower ballot or below Accepting, tested before already Committed"
abbrev pub stops_at : ℕ → Instance → Bool
stops_at ballot i = ltb i.bal ballot || ltb (order i.status) 2

-- a slot that it passes has one item if it is open, else none
abbrev pub one_if_open : Instance → ℕ
one_if_open i = if is_open i.status then 1 else 0

abbrev pub item_if_open : Item → Instance → List Item
item_if_open x i = if is_open i.status then x ∷ [] else []

abbrev pub change_open : (Short → Short) → Short → Short
change_open f x = if is_open x.status then f x else x

-- the slot at place c changed by f if it is open, with the item x: the slots' words t, the area after, and the next
-- place r
pub record ChangesOpen (f : Short → Short) (x : Item) (c place : ℕ) (s area : List ℕ) (r : ℕ) (t area' : List ℕ) : Type 0 where
  pub next : r ≡ place + one_if_open (inst_in s c)
  pub items : area' ≡ writes area (place * 6) (encode (item_if_open x (inst_in s c)))
  pub changed : Puts s c (change_open f (short_at s c)) (batch_at s c) (reads_at s c) t

-- the slot at place c passed by the walk
abbrev pub mark_items : ℕ → Instance → List Item
mark_items slot i = item_if_open (Commit slot) i

abbrev pub Marks : ℕ → ℕ → ℕ → List ℕ → List ℕ → ℕ → List ℕ → List ℕ → Type 0
Marks c place slot s area r t area' = ChangesOpen (with_status Committed) (Commit slot) c place s area r t area'

-- the walk of `advance_commit_bar` at n slots from start on
abbrev pub walked : ℕ → ℕ → ℕ → ℕ → ℕ → List ℕ → Walk
walked start n commit ballot bar s = walk ballot commit (bar - commit) (drop (commit - start) (insts_of start n s))

-- the slots before the commit bar stay, the others are as the walk leaves them; its items stand in the area from a
-- place on
pub record Advances (place start n commit ballot bar : ℕ) (s area : List ℕ) (r : ℕ) (t area' : List ℕ) : Type 0 where
  pub next : r ≡ place + length (walked start n commit ballot bar s).items
  pub items : area' ≡ writes area (place * 6) (encode (walked start n commit ballot bar s).items)
  pub insts : insts_of start n t ≡ take (commit - start) (insts_of start n s) ++ (walked start n commit ballot bar s).insts
  pub size : length t ≡ length s
