-- Trusted: the buffer that is lent with a node, in words: how wide the rows are, how many there is room for, and where
-- the tables stand.
use Rattle.std.specs.Prelude.{ℕ, ◌+◌, ◌*◌}
use Rattle.ids.specs.Limits.{batch, keys, ranges, replicas}

-- words of a row
abbrev pub cell_row : ℕ
cell_row = 8

abbrev pub request_row : ℕ
request_row = 11

abbrev pub held_row : ℕ
held_row = 9

abbrev pub written_row : ℕ
written_row = 8

abbrev pub roster_row : ℕ
roster_row = 5

-- room for slots, and for a slot's requests and held reads; slot s has place s % slot_places
abbrev pub slot_places : ℕ
slot_places = 32

abbrev pub request_places : ℕ
request_places = batch

abbrev pub held_places : ℕ
held_places = 16

-- room for written keys, stored ranges and replicas
abbrev pub written_places : ℕ
written_places = keys

abbrev pub roster_places : ℕ
roster_places = ranges

abbrev pub replica_places : ℕ
replica_places = replicas

-- words of a table: those of a batch, of a slot's held reads and of the written keys begin with a count
abbrev pub batch_words : ℕ
batch_words = 1 + request_places * request_row

abbrev pub held_words : ℕ
held_words = 1 + held_places * held_row

abbrev pub written_words : ℕ
written_words = 1 + written_places * written_row

abbrev pub roster_words : ℕ
roster_words = roster_places * roster_row

abbrev pub pair_words : ℕ
pair_words = 2 * replica_places

-- the slots: cells, then batches, then held reads
abbrev pub batches_from : ℕ
batches_from = slot_places * cell_row

abbrev pub reads_from : ℕ
reads_from = batches_from + slot_places * batch_words

abbrev pub slot_words : ℕ
slot_words = reads_from + slot_places * held_words

-- the buffer: guard numbers, guard bars, peers' exec bars, the roster's rows, the slots, the written keys
abbrev pub bars_at : ℕ
bars_at = replica_places

abbrev pub execs_at : ℕ
execs_at = pair_words

abbrev pub rows_at : ℕ
rows_at = execs_at + replica_places

abbrev pub slots_at : ℕ
slots_at = rows_at + roster_words

abbrev pub written_at : ℕ
written_at = slots_at + slot_words

abbrev pub node_words : ℕ
node_words = written_at + written_words
