-- `become_a_leader` of the machine by the slots' instances alone; what it leaves.
use Rattle.std.specs.Prelude.{if◌then◌else◌}
use mathlib.Core.Path.{◌≡◌, refl, sym, ap, ◌∙◌}
use mathlib.Core.Bool.{Bool, true, false, ◌||◌, not, true≢false}
use mathlib.Core.List.{List, [], ◌∷◌, ◌++◌, map}
use Rattle.std.specs.Prelude.{Option, None, Some}
use Prim.Native.Nat.{ℕ, zero, suc, ◌+◌, ◌-◌, ◌≤◌}
use native.Mathlib.Nat.{not-suc-le-zero}
use native.Mathlib.Omega.{arith}
use borrow.Author.Tests.{le-ltb, eq-eqb, ne_eqb}
use lib.Dec.{ltb, eqb}
use lib.ListN.{length, take, drop, replicate, length-append, length-map, take-append-drop, length-drop}
use Rattle.std.specs.List.{slice_get}
use lib.Seq.{append_snoc, set-append_seam, length-take-le}
use Rattle.words.specs.Choice.{if_none◌then◌else◌}
use Rattle.items.specs.Item.{Lead, Prepare, Commit}
use Rattle.bodega.specs.Replica.{Instance, Book, Preparing, Committed, Replica, Done, done, ◌and_then◌, order, is_open, null_instance, inst_at, set_inst, with_status, with_replica_bk, with_holding, with_bal, with_peer_exec_bar, with_insts}
use Rattle.bodega.specs.Localread.{release_from}
use Rattle.bodega.specs.Conflease.{first_open, last_open, any_open, prelogs, preparing, reprepared, become_a_leader}
use Rattle.bodega.specs.Heartbeat.{Walk, walk}
use Rattle.release_held_reads.specs.Release.{answers_of, emptied}
use Rattle.release_held_reads.proofs.Machine.{release_is}
use Rattle.become_a_leader.specs.StepUp.{opened, released_from, step_up}
use Rattle.become_a_leader.proofs.Open.{first_none, first_last, last_within, any_opened, last_opened}

-- ---- the reads of slots in a row

elem_seam : (before : List Instance) (i : Instance) (l : List Instance) → slice_get (before ++ i ∷ l) (length before) ≡ Some i
elem_seam [] i l = refl
elem_seam (x ∷ before) i l = elem_seam before i l

module _ (r : Replica) where
  abbrev walk_of : ℕ → List Instance → Walk
  walk_of m l = released_from r.me.quorum r.conf.leader m l

  module _ (before : List Instance) (i : Instance) (l : List Instance) where
    here_is : inst_at (with_insts (before ++ i ∷ l) r) (r.bar.start + length before) ≡ Some i
    unfolding inst_at
    here_is =
        let z : r.bar.start + length before - r.bar.start ≡ length before = omega arith in
        rw (le-ltb (r.bar.start + length before) r.bar.start (omega arith), z) (elem_seam before i l)

    put_here : (x : Instance) → set_inst (r.bar.start + length before) x (with_insts (before ++ i ∷ l) r) ≡ with_insts (before ++ (x ∷ []) ++ l) r
    unfolding set_inst
    put_here x =
        let z : r.bar.start + length before - r.bar.start ≡ length before = omega arith in
        rw (z, set-append_seam before i l x, append_snoc before x l)

  release_from_lem : (m : ℕ) (before l : List Instance) → m ≤ length l
      → release_from m (r.bar.start + length before) (with_insts (before ++ l) r) ≡ done (with_insts (before ++ (walk_of m l).insts) r) (walk_of m l).items
  unfolding release_from released_from
  release_from_lem zero before l h = refl
  release_from_lem (suc m) before [] h = absurd (not-suc-le-zero h)
  release_from_lem (suc m) before (i ∷ l) h =
      ap (λ (d : Done). d and_then release_from m (slot + 1)) (release_is (with_insts (before ++ i ∷ l) r) slot i (here_is before i l))
      ∙ ap (λ (d : Done). done d.replica (answers_of r.me.quorum r.conf.leader i ++ d.items)) (rest (release_from_lem m (before ++ (emptied i ∷ [])) l (omega arith)))
    where
      slot : ℕ
      slot = r.bar.start + length before

      rest : release_from m (r.bar.start + length (before ++ (emptied i ∷ []))) (with_insts (before ++ (emptied i ∷ []) ++ l) r)
          ≡ done (with_insts (before ++ (emptied i ∷ []) ++ (walk_of m l).insts) r) (walk_of m l).items
          → release_from m (slot + 1) (set_inst slot (emptied i) (with_insts (before ++ i ∷ l) r)) ≡ done (with_insts (before ++ emptied i ∷ (walk_of m l).insts) r) (walk_of m l).items
      rest ih =
          let z : slot + 1 ≡ r.bar.start + length (before ++ (emptied i ∷ [])) = omega (arith, length-append before (emptied i ∷ [])) in
          ap (λ (k : ℕ). release_from m k (set_inst slot (emptied i) (with_insts (before ++ i ∷ l) r))) z
          ∙ ap (release_from m (r.bar.start + length (before ++ (emptied i ∷ [])))) (put_here before i l (emptied i)) ∙ ih
          ∙ ap (λ (x : List Instance). done (with_insts x r) (walk_of m l).items) (append_snoc before (emptied i) (walk_of m l).insts)

  release_at : (m k : ℕ) (l : List Instance) → k + m ≤ length l
      → release_from m (r.bar.start + k) (with_insts l r) ≡ done (with_insts (take k l ++ (walk_of m (drop k l)).insts) r) (walk_of m (drop k l)).items
  release_at m k l h =
      let e : length (take k l) ≡ k = length-take-le k l (omega arith) in
      rw (e, take-append-drop k l) at (release_from_lem m (take k l) (drop k l) (omega (arith, length-drop k l)))

-- ---- the whole

module _ (x : Replica) where
  abbrev held : List Instance
  held = x.insts

  insts_are : (if eqb (first_open held) (length held) then held ++ (null_instance ∷ []) else held) ≡ opened held
  insts_are = go (any_open held) refl
    where
      go : (b : Bool) → any_open held ≡ b → (if eqb (first_open held) (length held) then held ++ (null_instance ∷ []) else held) ≡ opened held
      go true e = rw (ne_eqb (first_open held) (length held) (omega (arith, first_last held, last_within held e)), e)
      go false e = rw (eq-eqb (first_open held) (length held) (first_none held e), e)

  abbrev wide : ℕ
  wide = suc (last_open held - first_open held)

  fits : first_open held + wide ≤ length (map (reprepared x.bal.max_seen) (opened held))
  fits =
      omega (arith, first_last held, last_opened held, last_within (opened held) (any_opened held), length-map (opened held) (reprepared x.bal.max_seen))

  abbrev leader : Replica
  leader = with_bal (record { max_seen = x.bal.max_seen; prep_sent = x.bal.max_seen; prepared = 0 }) (with_peer_exec_bar (replicate x.me.population 0) x)

  abbrev stepping : List Instance → Done
  stepping l =
      done (preparing l x) (Lead true ∷ prelogs x.bar.start l) and_then release_from wide (x.bar.start + first_open held)
      and_then λ s. done s (Prepare (x.bar.start + first_open held) x.bal.max_seen ∷ [])

  -- the machine's step-up reads and changes no more than step_up says
  pub step_up_is : become_a_leader x
      ≡ done (with_bal (record { max_seen = x.bal.max_seen; prep_sent = x.bal.max_seen; prepared = 0 }) (with_peer_exec_bar (replicate x.me.population 0)
      (with_insts (step_up x.bar.start x.me.quorum x.conf.leader x.bal.max_seen x.insts).insts x)))
      (step_up x.bar.start x.me.quorum x.conf.leader x.bal.max_seen x.insts).items
  unfolding become_a_leader step_up
  step_up_is =
      ap stepping insts_are
      ∙ ap (λ (d : Done). done d.replica (Lead true ∷ prelogs x.bar.start (opened held) ++ d.items ++ (Prepare (x.bar.start + first_open held) x.bal.max_seen ∷ [])))
      (release_at leader wide (first_open held) (map (reprepared x.bal.max_seen) (opened held)) fits)

-- ---- every open slot is Preparing then

abbrev Settles : Instance → Type 0
Settles i = is_open i.status ≡ true → ltb (order i.status) 2 ≡ true

abbrev Settled : List Instance → Type 0
Settled [] = Unit
Settled (i ∷ l) = Settles i × Settled l

anew_settles : (ballot : ℕ) (i : Instance) → Settles (reprepared ballot i)
anew_settles ballot i = go (is_open i.status) refl
  where
    go : (b : Bool) → is_open i.status ≡ b → Settles (if b then record { bal = ballot; status = Preparing; reqs = i.reqs; leader_bk = Some 0; replica_bk = i.replica_bk } else i)
    go true e h = refl
    go false e h = absurd (true≢false (sym h ∙ e))

anew_settled : (ballot : ℕ) (l : List Instance) → Settled (map (reprepared ballot) l)
anew_settled ballot [] = tt
anew_settled ballot (i ∷ l) = (anew_settles ballot i, anew_settled ballot l)

emptied_settles : (i : Instance) → Settles i → Settles (emptied i)
emptied_settles i h = go i.replica_bk
  where
    go : (o : Option Book) → Settles (if_none o then i else λ b. with_replica_bk (with_holding [] b) i)
    go None = h
    go (Some b) = h

module _ (quorum : ℕ) (leader : Option ℕ) where
  released_settled : (m : ℕ) (l : List Instance) → Settled l → Settled (released_from quorum leader m l).insts
  unfolding released_from
  released_settled zero l h = h
  released_settled (suc m) [] h = tt
  released_settled (suc m) (i ∷ l) h = (emptied_settles i h.0, released_settled m l h.1)

  all_settled : (k m : ℕ) (l : List Instance) → Settled l → Settled (take k l ++ (released_from quorum leader m (drop k l)).insts)
  all_settled zero m l h = released_settled m l h
  all_settled (suc k) m [] h = released_settled m [] tt
  all_settled (suc k) m (i ∷ l) h = (h.0, all_settled k m l h.1)

rest_settled : (k : ℕ) (l : List Instance) → Settled l → Settled (drop k l)
rest_settled zero l h = h
rest_settled (suc k) [] h = tt
rest_settled (suc k) (i ∷ l) h = rest_settled k l h.1

settled_still : (bal slot m : ℕ) (l : List Instance) → Settled l → walk bal slot m l ≡ record { insts = l; items = [] }
unfolding walk
settled_still bal slot zero l h = refl
settled_still bal slot (suc m) [] h = refl
settled_still bal slot (suc m) (i ∷ l) h = rw (settled_still bal (slot + 1) m l h.1) (go (ltb i.bal bal) (ltb (order i.status) 2) (is_open i.status) h.0)
  where
    go : (a b o : Bool) → (o ≡ true → b ≡ true) → ◌≡◌ {A = Walk}
        (if a || b then record { insts = i ∷ l; items = [] } else if not o then record { insts = i ∷ l; items = [] } else record { insts = with_status Committed i ∷ l; items = Commit slot ∷ [] })
        (record { insts = i ∷ l; items = [] })
    go true b o e = refl
    go false true o e = refl
    go false false false e = refl
    go false false true e = absurd (true≢false (sym (e refl)))

after_settled : (start quorum : ℕ) (leader : Option ℕ) (ballot : ℕ) (l : List Instance) → Settled (step_up start quorum leader ballot l).insts
unfolding step_up
after_settled start quorum leader ballot l = all_settled quorum leader (first_open l) (suc (last_open l - first_open l)) (map (reprepared ballot) (opened l)) (anew_settled ballot (opened l))

-- so the walk of `advance_commit_bar` finds nothing
pub walk_still : (bal slot m k start quorum : ℕ) (leader : Option ℕ) (ballot : ℕ) (l : List Instance)
    → walk bal slot m (drop k (step_up start quorum leader ballot l).insts) ≡ record { insts = drop k (step_up start quorum leader ballot l).insts; items = [] }
walk_still bal slot m k start quorum leader ballot l =
    settled_still bal slot m (drop k (step_up start quorum leader ballot l).insts) (rest_settled k (step_up start quorum leader ballot l).insts
    (after_settled start quorum leader ballot l))
