-- Trusted: the numbers of a node and its buffer, and of a roster and its rows, of which a sum is made: on any words. A
-- word past the end is 0.
use Rattle.std.specs.Prelude.{ℕ, zero, suc, ◌+◌, ◌-◌, ◌*◌, ◌%◌, min, List, [], ◌∷◌, ◌++◌, eqb, get_or, if◌then◌else◌}
use Rattle.words.specs.Tab.{words_from}
use Rattle.ids.specs.Limits.{ranges}
use Rattle.layout.specs.Layout.{request_places, written_places, bars_at, cell_row, request_row, held_row, written_row, roster_row, slot_places, held_places, batch_words, held_words, batches_from, reads_from, execs_at, rows_at, slots_at, written_at}
use Rattle.roster_conf.specs.declared.RespondersConf.{RespondersConf}
use Rattle.node.specs.declared.Node.{Node}
use Rattle.std.specs.Prelude.{Option, Some, None}
use Rattle.ids.specs.declared.Replica.{Replica}

-- ---- a roster

-- the leader's number and one more; 0 where there is none
abbrev pub leader_number : Option Replica → ℕ
leader_number None = 0
leader_number (Some r) = r.0 + 1

-- five words for each range
abbrev pub rows_of : ℕ → List ℕ → ℕ → List ℕ
rows_of count m at = words_from (roster_row * min count ranges) m at

unfoldable pub roster_numbers : RespondersConf → List ℕ → List ℕ
roster_numbers c rows = leader_number c.leader ∷ c.count ∷ c.default ∷ rows_of c.count rows 0

-- ---- a slot

-- a count, and at most so many rows of w words
abbrev pub table_of : List ℕ → ℕ → ℕ → ℕ → List ℕ
table_of m at w most = words_from (1 + w * min (get_or m at 0) most) m at

-- a word counts where there is a book for it
abbrev pub if_any : ℕ → ℕ → ℕ
if_any has v = if eqb has 0 then 0 else v

-- ballot, status; acks; notice book: whether there is one, its ballot and its notices
unfoldable pub cell_of : List ℕ → ℕ → List ℕ
cell_of m at =
    get_or m at 0 ∷ get_or m (at + 1) 0
    ∷ get_or m (at + 2) 0 ∷ if_any (get_or m (at + 2) 0) (get_or m (at + 3) 0)
    ∷ get_or m (at + 4) 0 ∷ if_any (get_or m (at + 4) 0) (get_or m (at + 5) 0) ∷ if_any (get_or m (at + 4) 0) (get_or m (at + 6) 0) ∷ []

-- reads are held where there is a notice book
unfoldable pub reads_of : List ℕ → ℕ → List ℕ
reads_of m c = if eqb (get_or m (slots_at + cell_row * c + 4) 0) 0 then 0 ∷ [] else table_of m (slots_at + reads_from + held_words * c) held_row held_places

unfoldable pub slot_of : List ℕ → ℕ → List ℕ
slot_of m c = cell_of m (slots_at + cell_row * c) ++ (table_of m (slots_at + batches_from + batch_words * c) request_row request_places ++ reads_of m c)

-- n slots from start on
unfoldable pub slots_of : List ℕ → ℕ → ℕ → List ℕ
slots_of m start zero = []
slots_of m start (suc n) = slot_of m (start % slot_places) ++ slots_of m (start + 1) n

-- ---- a node

unfoldable pub short_of : Node → List ℕ
short_of n =
    n.id.0 ∷ n.population ∷ n.quorum
    ∷ leader_number n.bodega_conf.leader ∷ n.bodega_conf.count ∷ n.bodega_conf.default
    ∷ n.bal_max_seen.0 ∷ n.bal_prep_sent.0 ∷ n.bal_prepared.0
    ∷ n.start_slot.0 ∷ n.accept_bar.0 ∷ n.commit_bar.0 ∷ n.exec_bar.0 ∷ n.snap_bar.0
    ∷ n.peer_accept_max.0 ∷ n.slots ∷ []

-- the numbers and bars of all guard pairs, and the exec bars of the replicas below the own one and above it
unfoldable pub peers_of : ℕ → ℕ → List ℕ → List ℕ
peers_of id population m =
    words_from population m 0 ++ (words_from population m bars_at ++ (words_from id m execs_at ++ words_from (population - (id + 1)) m (execs_at + (id + 1))))

unfoldable pub node_numbers : Node → List ℕ → List ℕ
node_numbers n m =
    short_of n
    ++ (peers_of n.id.0 n.population m
    ++ (rows_of n.bodega_conf.count m rows_at
    ++ (slots_of m n.start_slot.0 (min n.slots slot_places)
    ++ table_of m written_at written_row written_places)))
