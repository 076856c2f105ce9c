-- Bridge: `become_a_leader` over what it reads of the replica: start, quorum, leader, ballot and the instances; tied
-- to `become_a_leader` by proofs/Machine.
use Rattle.std.specs.Prelude.{◌≡◌, true, List, [], ◌∷◌, ◌++◌, map, ℕ, zero, suc, ◌+◌, ◌-◌, ◌*◌, length, take, drop, if◌then◌else◌}
use Rattle.std.specs.Prelude.{Option, Some}
use Rattle.words.specs.Writes.{writes}
use Rattle.items.specs.Item.{Item, Lead, Prelog, Prepare, encode}
use Rattle.bodega.specs.Replica.{Instance, Preparing, null_instance}
use Rattle.bodega.specs.Conflease.{first_open, last_open, any_open, prelogs, reprepared}
use Rattle.bodega.specs.Heartbeat.{Walk}
use Rattle.inst_cell.specs.Cell.{Short}
use Rattle.insts.specs.Slots.{insts_of}
use Rattle.release_held_reads.specs.Release.{answers_of, emptied}
use Rattle.advance_commit_bar.specs.Walk.{item_if_open, ChangesOpen}

-- where no slot is open a null one is appended; how many of n are held then
abbrev pub opened : List Instance → List Instance
opened l = if any_open l then l else l ++ (null_instance ∷ [])

abbrev pub slots_after : ℕ → List Instance → ℕ
slots_after n l = if any_open l then n else n + 1

-- the open slots prepared anew, with an item for each, the first slot being `start`
abbrev pub prepared_anew : ℕ → ℕ → List Instance → Walk
prepared_anew start ballot l = record { insts = map (reprepared ballot) l; items = prelogs start l }

-- the reads of n slots answered, one slot after the other, and their queues emptied
unfoldable pub released_from : ℕ → Option ℕ → ℕ → List Instance → Walk
released_from quorum leader zero l = record { insts = l; items = [] }
released_from quorum leader (suc n) [] = record { insts = []; items = [] }
released_from quorum leader (suc n) (i ∷ l) =
    let w = released_from quorum leader n l in
    record { insts = emptied i ∷ w.insts; items = answers_of quorum leader i ++ w.items }

-- reads are answered from the first to the last open slot, also where a slot between them is not open
unfoldable pub step_up : ℕ → ℕ → Option ℕ → ℕ → List Instance → Walk
step_up start quorum leader ballot l =
    let k = first_open l in
    let p = prepared_anew start ballot (opened l) in
    let w = released_from quorum leader (suc (last_open l - k)) (drop k p.insts) in
    record { insts = take k p.insts ++ w.insts; items = Lead true ∷ p.items ++ w.items ++ (Prepare (start + k) ballot ∷ []) }

-- what a step-up leaves: the next place r of the area, the slots' words t, and the area after
pub record StepsUp (place start n quorum : ℕ) (leader : Option ℕ) (ballot : ℕ) (s area : List ℕ) (r : ℕ) (t area' : List ℕ) : Type 0 where
  pub next : r ≡ place + length (step_up start quorum leader ballot (insts_of start n s)).items
  pub items : area' ≡ writes area (place * 6) (encode (step_up start quorum leader ballot (insts_of start n s)).items)
  pub insts : insts_of start (slots_after n (insts_of start n s)) t ≡ (step_up start quorum leader ballot (insts_of start n s)).insts
  pub size : length t ≡ length s

-- ---- its parts, over the slots' words

-- one slot more where none is open
pub record Opens (start n : ℕ) (s : List ℕ) (r : ℕ) (t : List ℕ) : Type 0 where
  pub count : r ≡ slots_after n (insts_of start n s)
  pub insts : insts_of start r t ≡ opened (insts_of start n s)
  pub size : length t ≡ length s

-- an open slot: at the ballot, Preparing, with empty acks
abbrev pub prepare_short : ℕ → Short → Short
prepare_short ballot x = record { bal = ballot; status = Preparing; leader_bk = Some 0; replica_bk = x.replica_bk }

abbrev pub prelog_of : ℕ → Instance → List Item
prelog_of slot i = item_if_open (Prelog slot) i

-- the slot at place c prepared anew
abbrev pub Prelogs : ℕ → ℕ → ℕ → ℕ → List ℕ → List ℕ → ℕ → List ℕ → List ℕ → Type 0
Prelogs c place slot ballot s area r t area' = ChangesOpen (prepare_short ballot) (Prelog slot) c place s area r t area'

-- of n slots those from the one of number `from` on are as w says; its items stand in the area from a place on
pub record Passes (w : Walk) (place start n from : ℕ) (s area : List ℕ) (r : ℕ) (t area' : List ℕ) : Type 0 where
  pub next : r ≡ place + length w.items
  pub items : area' ≡ writes area (place * 6) (encode w.items)
  pub insts : insts_of start n t ≡ take from (insts_of start n s) ++ w.insts
  pub size : length t ≡ length s
