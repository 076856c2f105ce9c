-- Trusted: the instances that the slots' words stand for: cells, then batches, then held reads, each in the place of
-- the slot. What a change of a place leaves is a bridge, tied by node/proofs/Slots.
use Rattle.std.specs.Prelude.{◌≡◌, ◌≢◌, List, [], ℕ, ◌+◌, ◌*◌, ◌%◌, ◌<◌, length}
use Rattle.std.specs.Prelude.{Option, None, Some}
use Rattle.words.specs.Choice.{if_none◌then◌else◌}
use Rattle.words.specs.Tab.{tab}
use Rattle.words.specs.Part.{part}
use Rattle.layout.specs.Layout.{cell_row, slot_places, batch_words, held_words, batches_from, reads_from}
use Rattle.bodega.specs.Replica as machine
use Rattle.inst_cell.specs.Cell.{Notices, Short, cell_at}
use Rattle.inst_reqs.specs.Batch.{requests_of}
use Rattle.inst_holding.specs.Held.{reads_of}

-- the place of a slot
abbrev pub place_of : ℕ → ℕ
place_of slot = slot % slot_places

-- where the batch and the held reads of place c stand
abbrev pub batch_start : ℕ → ℕ
batch_start c = batches_from + c * batch_words

abbrev pub reads_start : ℕ → ℕ
reads_start c = reads_from + c * held_words

-- ---- what stands in place c, on any words

unfoldable pub short_at : List ℕ → ℕ → Short
short_at s c = cell_at s (c * cell_row)

unfoldable pub batch_at : List ℕ → ℕ → List machine.Request
batch_at s c = requests_of (part s (batch_start c) batch_words)

unfoldable pub reads_at : List ℕ → ℕ → List machine.ReadReq
reads_at s c = reads_of (part s (reads_start c) held_words)

-- reads are held where there is a notice book
abbrev pub book_of : Option Notices → List machine.ReadReq → Option machine.Book
book_of o l = if_none o then None else λ b. Some (record { bal = b.bal; notices = b.notices; holding = l })

-- reads that no notice book has are no reads
abbrev pub seen_reads : Option Notices → List machine.ReadReq → List machine.ReadReq
seen_reads o l = if_none o then [] else λ b. l

abbrev pub inst_of : Short → List machine.Request → List machine.ReadReq → machine.Instance
inst_of x reqs reads = record { bal = x.bal; status = x.status; reqs = reqs; leader_bk = x.leader_bk; replica_bk = book_of x.replica_bk reads }

unfoldable pub inst_in : List ℕ → ℕ → machine.Instance
inst_in s c = inst_of (short_at s c) (batch_at s c) (reads_at s c)

-- the short part of a null slot
abbrev pub null_short : Short
null_short = record { bal = 0; status = machine.Null; leader_bk = None; replica_bk = None }

-- ---- n slots from start on

unfoldable pub insts_of : ℕ → ℕ → List ℕ → List machine.Instance
insts_of start n s = tab (λ i. inst_in s ((start + i) % slot_places)) 0 n

-- ---- what a change of place c comes to: the words t have these three there, and every other place is as it was

pub record SamePlace (s t : List ℕ) (d : ℕ) : Type 0 where
  pub short : short_at t d ≡ short_at s d
  pub batch : batch_at t d ≡ batch_at s d
  pub reads : reads_at t d ≡ reads_at s d

pub record Puts (s : List ℕ) (c : ℕ) (x : Short) (reqs : List machine.Request) (reads : List machine.ReadReq) (t : List ℕ) : Type 0 where
  pub short : short_at t c ≡ x
  pub batch : batch_at t c ≡ reqs
  pub held : reads_at t c ≡ reads
  pub others : (d : ℕ) → d < slot_places → d ≢ c → SamePlace s t d
  pub size : length t ≡ length s

-- one of the three is changed
abbrev pub PutsShort : List ℕ → ℕ → Short → List ℕ → Type 0
PutsShort s c x t = Puts s c x (batch_at s c) (reads_at s c) t

abbrev pub PutsBatch : List ℕ → ℕ → List machine.Request → List ℕ → Type 0
PutsBatch s c reqs t = Puts s c (short_at s c) reqs (reads_at s c) t

abbrev pub PutsReads : List ℕ → ℕ → List machine.ReadReq → List ℕ → Type 0
PutsReads s c reads t = Puts s c (short_at s c) (batch_at s c) reads t
