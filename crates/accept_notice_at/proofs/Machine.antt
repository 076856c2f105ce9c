-- `noticed` of the machine, by the instances.
use Rattle.std.specs.Prelude.{if◌then◌else◌}
use mathlib.Core.Path.{◌≡◌, refl, sym, ap, ◌∙◌}
use mathlib.Core.Bool.{Bool, true, false, not}
use mathlib.Core.List.{List, [], ◌∷◌}
use Rattle.std.specs.Prelude.{Option, None, Some}
use Prim.Native.Nat.{ℕ, zero, suc, ◌+◌, ◌-◌, ◌≤◌}
use native.Mathlib.Omega.{arith}
use native.Mathlib.Decide.{ℕ_discrete}
use lib.Dec.{eqb}
use lib.ListN.{length, set}
use Rattle.std.specs.List.{slice_get}
use lib.Seq.{set-set}
use borrow.Author.Tests.{le-ltb, eq-eqb, ne_eqb}
use Rattle.words.specs.Choice.{if_none◌then◌else◌}
use Rattle.bodega.specs.Replica.{Instance, Replica, done, inst_at, set_inst, pad, with_insts}
use Rattle.bodega.specs.Localread.{release_held_read_reqs}
use Rattle.bodega.specs.Messages.{noticed}
use Rattle.release_held_reads.specs.Release.{answers_of, emptied}
use Rattle.release_held_reads.proofs.Machine.{put_back, release_is}
use Rattle.accept_notice_at.specs.Notices.{with_notice, applies, quorate, noticed_inst, noticed_items, padded, Noticed, noticed_at}

elem_set : (l : List Instance) (k : ℕ) (i j : Instance) → slice_get l k ≡ Some i → slice_get (set l k j) k ≡ Some j
elem_set [] k i j e = let z : ◌≡◌ {A = ℕ} 0 1 = cc in absurd (omega arith)
elem_set (x ∷ l) zero i j e = refl
elem_set (x ∷ l) (suc k) i j e = elem_set l k i j e

-- the same distance from start
eqb_from : (start a b : ℕ) → eqb (start + a) (start + b) ≡ eqb a b
eqb_from start a b = elim (ℕ_discrete a b) [
  | yes e ↦ eq-eqb (start + a) (start + b) (omega arith) ∙ sym (eq-eqb a b e)
  | no n ↦ ne_eqb (start + a) (start + b) (λ e. n (omega arith)) ∙ sym (ne_eqb a b n)
]

module _ (r : Replica) (peer slot ballot : ℕ) (h : r.bar.start ≤ slot) where
  abbrev k : ℕ
  k = slot - r.bar.start

  abbrev p : List Instance
  p = padded k r.insts

  abbrev last : Bool
  last = eqb (k + 1) (length p)

  abbrev quorum : ℕ
  quorum = r.me.quorum

  pad_is : pad slot r ≡ with_insts p r
  unfolding pad
  pad_is =
      let e : slot + 1 - (r.bar.start + length r.insts) ≡ k + 1 - length r.insts = omega arith in
      rw e

  last_is : eqb (slot + 1) (r.bar.start + length p) ≡ last
  last_is =
      let e : slot + 1 ≡ r.bar.start + (k + 1) = omega arith in
      rw e (eqb_from r.bar.start (k + 1) (length p))

  inst_of_lem : (l : List Instance) → inst_at (with_insts l r) slot ≡ slice_get l k
  unfolding inst_at
  inst_of_lem l = rw (le-ltb slot r.bar.start h)

  module _ (i : Instance) (e : slice_get p k ≡ Some i) where
    abbrev j : Instance
    j = with_notice peer ballot i

    -- the notice taken: reads released at a quorum
    taken_is : (if quorate quorum j then release_held_read_reqs slot (set_inst slot j (with_insts p r)) else done (set_inst slot j (with_insts p r)) [])
        ≡ done (with_insts (set p k (if quorate quorum j then emptied j else j)) r) (if quorate quorum j then answers_of quorum r.conf.leader j else [])
    unfolding set_inst
    taken_is = go (quorate quorum j)
      where
        go : (b : Bool) → (if b then release_held_read_reqs slot (with_insts (set p k j) r) else done (with_insts (set p k j) r) [])
            ≡ done (with_insts (set p k (if b then emptied j else j)) r) (if b then answers_of quorum r.conf.leader j else [])
        go true =
            release_is (with_insts (set p k j) r) slot j (inst_of_lem (set p k j) ∙ elem_set p k i j e)
            ∙ ap (λ (l : List Instance). done (with_insts l r) (answers_of quorum r.conf.leader j)) (set-set p k j (emptied j))
        go false = refl

    at_some : noticed (with_insts p r) peer slot ballot
        ≡ done (with_insts (set p k (noticed_inst quorum peer ballot last i)) r) (noticed_items quorum r.conf.leader peer ballot last i)
    unfolding noticed
    at_some = rw (inst_of_lem p ∙ e, last_is) (go (applies ballot last i))
      where
        go : (b : Bool) → (if not b then done (with_insts p r) [] else if quorate quorum j then release_held_read_reqs slot (set_inst slot j (with_insts p r)) else done (set_inst slot j (with_insts p r)) [])
            ≡ done (with_insts (set p k (if not b then i else if quorate quorum j then emptied j else j)) r) (if not b then [] else if quorate quorum j then answers_of quorum r.conf.leader j else [])
        go true = taken_is
        go false = ap (λ (l : List Instance). done (with_insts l r) []) (sym (put_back p k i e))

  at_none : slice_get p k ≡ None → noticed (with_insts p r) peer slot ballot ≡ done (with_insts p r) []
  unfolding noticed
  at_none e = rw (inst_of_lem p ∙ e)

  pub noticed_is : noticed (pad slot r) peer slot ballot
      ≡ done (with_insts (noticed_at quorum r.conf.leader peer ballot k r.insts).insts r) (noticed_at quorum r.conf.leader peer ballot k r.insts).items
  unfolding noticed_at
  noticed_is = ap (λ (s : Replica). noticed s peer slot ballot) pad_is ∙ go (slice_get p k) refl
    where
      go : (o : Option Instance) → slice_get p k ≡ o → noticed (with_insts p r) peer slot ballot
          ≡ (let w : Noticed = if_none o then record { insts = p; items = [] } else λ i. record { insts = set p k (noticed_inst quorum peer ballot last i); items = noticed_items quorum r.conf.leader peer ballot last i } in
          done (with_insts w.insts r) w.items)
      go None e = at_none e
      go (Some i) e = at_some i e
