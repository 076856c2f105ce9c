-- Bridge: what the code of *record* tests, from numbers and the slots held, and what it makes of a place and of the
-- slots; tied to `grounds` and `recorded` by proofs/Laws.
use Rattle.std.specs.Prelude.{◌≡◌, Bool, true, false, ◌||◌, not, List, [], ◌++◌, ℕ, ◌+◌, ◌-◌, ◌≤◌, ◌<◌, ltb, leb, eqb, length, set, replicate, if◌then◌else◌}
use Rattle.std.specs.Prelude.{Option, None, Some}
use Rattle.std.specs.Prelude.{slice_get}
use Rattle.words.specs.Choice.{if_none◌then◌else◌}
use Rattle.words.specs.Part.{part, Untouched}
use Rattle.ids.specs.Limits.{window, batch, keys}
use Rattle.ids.specs.Leader.{leader_of}
use Rattle.layout.specs.Layout.{slot_places, slot_words, written_words, slots_at, written_at, node_words}
use Rattle.roster_conf.specs.Ground.{Ground, ◌when◌or◌}
use Rattle.bodega.specs.Replica.{Request, Instance, Accepting, new_book, null_instance, is_open}
use Rattle.bodega.specs.Localread.{refresh_highest_slot}
use Rattle.bodega.specs.Events.{recorded}
use Rattle.bodega.specs.Grounds.{far}
use Rattle.inst_cell.specs.Cell.{Notices, Short}
use Rattle.req_batch.specs.Given.{any_long}
use Rattle.highest_slot.specs.Written.{written_of}
use Rattle.insts.specs.Slots.{insts_of}
use Rattle.node.specs.declared.Node.{Node}
use Rattle.node.specs.View.{view, ready, lowest, leads_it}

-- ---- the grounds, in two parts

abbrev pub of_batch : List Request → ℕ → List Ground → List Ground
of_batch reqs slot gs = 5 when any_long reqs or 8 when far slot or 9 when ltb batch (length reqs) or gs

abbrev pub batch_refusal : List Request → ℕ → ℕ
batch_refusal reqs slot = lowest (of_batch reqs slot [])

-- 14: `inst_at` on the slots held alone
abbrev pub held_at : ℕ → List Instance → ℕ → Option Instance
held_at start insts slot = if ltb slot start then None else slice_get insts (slot - start)

abbrev pub ended : ℕ → List Instance → ℕ → Bool
ended start insts slot = ltb slot start || (if_none held_at start insts slot then false else λ i. not (is_open i.status))

abbrev pub of_slot : ℕ → List Instance → ℕ → ℕ → ℕ → Bool → List Ground
of_slot start insts slot ballot current full =
    13 when not (eqb ballot current) || eqb current 0 or
    14 when ended start insts slot or
    15 when leb (start + window) slot or
    18 when full or
    []

abbrev pub slot_refusal : ℕ → List Instance → ℕ → ℕ → ℕ → Bool → ℕ
slot_refusal start insts slot ballot current full = lowest (of_slot start insts slot ballot current full)

-- the same at a node
unfoldable pub late_refusal : Node → List ℕ → ℕ → ℕ → List Request → ℕ
late_refusal n mem slot ballot reqs =
    let start = n.start_slot.0 in
    let leader = leads_it (leader_of n.bodega_conf.leader) n.id.0 in
    let current = if leader then n.bal_prepared.0 else n.bal_max_seen.0 in
    let full = ltb keys (length (refresh_highest_slot slot reqs (written_of (part mem written_at written_words)))) in
    slot_refusal start (insts_of start n.slots (part mem slots_at slot_words)) slot ballot current full

-- ---- a place: `accepting` on its three parts

abbrev pub fresh_acks : Bool → Option ℕ
fresh_acks leader = if leader then Some 0 else None

abbrev pub kept_book : Bool → Option Notices → Option Notices
kept_book leader o = if leader then o else if_none o then Some (record { bal = 0; notices = 0 }) else λ b. Some b

abbrev pub accepting_short : Bool → ℕ → Option Notices → Short
accepting_short leader ballot o = record { bal = ballot; status = Accepting; leader_bk = fresh_acks leader; replica_bk = kept_book leader o }

-- ---- the slots

-- r slots in t: those n of s, and null ones up to and with the k-th
pub record Pads (start n k : ℕ) (s t : List ℕ) (r : ℕ) : Type 0 where
  pub insts : insts_of start r t ≡ insts_of start n s ++ replicate (k + 1 - n) null_instance
  pub size : length t ≡ length s
  pub within : k < r
  pub more : n ≤ r
  pub few : r ≤ slot_places

-- an instance at the slot, Accepting
abbrev pub accepting_by : Bool → ℕ → List Request → Instance → Instance
accepting_by leader ballot reqs i =
    record {
      bal = ballot;
      status = Accepting;
      reqs = reqs;
      leader_bk = fresh_acks leader;
      replica_bk = if leader then i.replica_bk else if_none i.replica_bk then Some new_book else λ b. Some b;
    }

-- r slots in t: those n of s with null ones up to and with the slot, which is Accepting
pub record Records (start n slot ballot : ℕ) (leader : Bool) (reqs : List Request) (s t : List ℕ) (r : ℕ) : Type 0 where
  pub old : Instance
  pub was : slice_get (insts_of start n s ++ replicate (slot + 1 - (start + n)) null_instance) (slot - start) ≡ Some old
  pub insts : insts_of start r t ≡ set (insts_of start n s ++ replicate (slot + 1 - (start + n)) null_instance) (slot - start) (accepting_by leader ballot reqs old)
  pub size : length t ≡ length s
  pub more : n ≤ r
  pub few : r ≤ slot_places

-- the node and its buffer with the batch recorded
pub record Recorded (slot ballot : ℕ) (reqs : List Request) (n : Node) (mem : List ℕ) (n' : Node) (mem' : List ℕ) : Type 0 where
  pub replica : view n' mem' ≡ recorded (view n mem) slot ballot reqs
  pub readied : ready n' mem' ≡ true
  pub size : length mem' ≡ length mem
  pub beyond : Untouched node_words mem mem'
