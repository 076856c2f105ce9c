-- `release_held_read_reqs` of the machine, by the slot's instance; a place whose queue is emptied holds that instance
-- without its reads.
use Rattle.std.specs.Prelude.{if◌then◌else◌}
use mathlib.Core.Path.{◌≡◌, refl, sym, ap}
use mathlib.Core.Bool.{Bool, true, false}
use mathlib.Core.List.{List, [], ◌∷◌, map}
use Rattle.std.specs.Prelude.{Option, None, Some}
use Prim.Native.Nat.{ℕ, zero, suc, ◌-◌}
use native.Mathlib.Omega.{arith}
use lib.Dec.{ltb}
use lib.ListN.{set}
use Rattle.std.specs.List.{slice_get}
use Rattle.words.specs.Choice.{if_none◌then◌else◌}
use Rattle.bodega.specs.Replica.{Status, Request, ReadReq, Book, Instance, Replica, done, inst_at, set_inst, with_replica_bk, with_holding}
use Rattle.bodega.specs.Localread.{is_bound, released, release_held_read_reqs}
use Rattle.inst_cell.specs.Cell.{Notices}
use Rattle.insts.specs.Slots.{short_at, batch_at, reads_at, book_of, inst_of, inst_in}
use Rattle.release_held_reads.specs.Release.{answer_to, answers_of, emptied}

-- an instance put back where it stands
pub put_back : (l : List Instance) (k : ℕ) (i : Instance) → slice_get l k ≡ Some i → set l k i ≡ l
put_back [] k i e = refl
put_back (x ∷ l) zero i e = let q : i ≡ x = cc in ap (λ (y : Instance). y ∷ l) q
put_back (x ∷ l) (suc k) i e = ap (λ (r : List Instance). x ∷ r) (put_back l k i e)

same_inst : (r : Replica) (slot : ℕ) (i : Instance) → inst_at r slot ≡ Some i → set_inst slot i r ≡ r
unfolding inst_at set_inst
same_inst r slot i e = rw (go (ltb slot r.bar.start) e)
  where
    go : (b : Bool) → (if b then None else slice_get r.insts (slot - r.bar.start)) ≡ Some i → set r.insts (slot - r.bar.start) i ≡ r.insts
    go true f = let z : ◌≡◌ {A = ℕ} 0 1 = cc in absurd (omega arith)
    go false f = put_back r.insts (slot - r.bar.start) i f

pub release_is : (r : Replica) (slot : ℕ) (i : Instance) → inst_at r slot ≡ Some i
    → release_held_read_reqs slot r ≡ done (set_inst slot (emptied i) r) (answers_of r.me.quorum r.conf.leader i)
unfolding release_held_read_reqs
release_is r slot i e = rw e (go i.replica_bk)
  where
    go : (o : Option Book)
        → (if_none o then done r [] else λ b. done (set_inst slot (with_replica_bk (with_holding [] b) i) r) (map (released r i) b.holding))
        ≡ done (set_inst slot (if_none o then i else λ b. with_replica_bk (with_holding [] b) i) r) (map (answer_to (is_bound r.me.quorum i) r.conf.leader i.reqs) (if_none o then [] else λ b. b.holding))
    go None = ap (λ (s : Replica). done s []) (sym (same_inst r slot i e))
    go (Some b) = refl

emptied_of : (bal : ℕ) (st : Status) (reqs : List Request) (acks : Option ℕ) (o : Option Notices) (reads : List ReadReq)
    → ◌≡◌ {A = Instance} (record { bal = bal; status = st; reqs = reqs; leader_bk = acks; replica_bk = book_of o [] })
    (emptied (record { bal = bal; status = st; reqs = reqs; leader_bk = acks; replica_bk = book_of o reads }))
emptied_of bal st reqs acks None reads = refl
emptied_of bal st reqs acks (Some b) reads = refl

pub emptied_is : (s : List ℕ) (c : ℕ) → inst_of (short_at s c) (batch_at s c) [] ≡ emptied (inst_in s c)
unfolding inst_in
emptied_is s c = emptied_of (short_at s c).bal (short_at s c).status (batch_at s c) (short_at s c).leader_bk (short_at s c).replica_bk (reads_at s c)
