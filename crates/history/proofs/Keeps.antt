-- What a change of one slot leaves alone, these calls leave alone.
use Prim.Native.Nat.{ℕ, zero, suc, ◌+◌}
use mathlib.Core.Bool.{◌&&◌, ◌||◌, not}
use mathlib.Core.List.{List}
use mathlib.Core.Path.{◌≡◌, refl, ◌∙◌}
use lib.Dec.{ltb, leb, eqb}
use Rattle.words.specs.Choice.{if_none◌then◌else◌}
use Rattle.bitmap.specs.Bitmap.{get, mark, count}
use Rattle.items.specs.Item.{Item}
use Rattle.bodega.specs.Replica.{ReadReq, Instance, new_book, Replica, Done, set_inst, inst_at, is_leader, is_accepting, end, with_replica_bk}
use Rattle.bodega.specs.Localread.{commit_condition, release_held_read_reqs, release_from, hold_read, ReadAnswer, Found, Missing, FromStore, Consensus, HeldBy, Again}
use Rattle.bodega.specs.Request.{read_answer, answered, treat_read}
use Rattle.bodega.specs.Messages.{take_ack, take_notice, handle_msg_accept_reply, noticed}
use Rattle.bodega.proofs.Choices.{of_if, of_none}

module _ {X : Type 0} (view : Replica → X) where
  abbrev pub Keeps : Replica → Done → Type 0
  Keeps r d = view d.replica ≡ view r

  module _ (set_keeps : (slot : ℕ) (i : Instance) (r : Replica) → view (set_inst slot i r) ≡ view r) where
    pub release_keeps : (slot : ℕ) (r : Replica) → Keeps r (release_held_read_reqs slot r)
    unfolding release_held_read_reqs
    release_keeps slot r = of_none (Keeps r) (inst_at r slot) refl (λ i. of_none (Keeps r) i.replica_bk refl (λ b. set_keeps slot _ r))

    pub from_keeps : (n slot : ℕ) (r : Replica) → Keeps r (release_from n slot r)
    unfolding release_from
    from_keeps zero slot r = refl
    from_keeps (suc n) slot r = from_keeps n (slot + 1) (release_held_read_reqs slot r).replica ∙ release_keeps slot r

    hold_keeps : (slot : ℕ) (q : ReadReq) (r : Replica) → view (hold_read slot q r) ≡ view r
    unfolding hold_read
    hold_keeps slot q r =
        of_none (λ (s : Replica). view s ≡ view r) (inst_at r slot) refl (λ i. of_none (λ (s : Replica). view s ≡ view r) i.replica_bk refl (λ b. set_keeps slot _ r))

    answered_keeps : (r : Replica) (q : ReadReq) (a : ReadAnswer) → Keeps r (answered r q a)
    answered_keeps r q (Found v) = refl
    answered_keeps r q Missing = refl
    answered_keeps r q FromStore = refl
    answered_keeps r q Consensus = refl
    answered_keeps r q (HeldBy slot) = hold_keeps slot q r
    answered_keeps r q Again = refl

    pub read_keeps : (r : Replica) (leases : ℕ) (q : ReadReq) → Keeps r (treat_read r leases q)
    unfolding treat_read
    read_keeps r leases q = answered_keeps r q (read_answer r leases q.key)

    ack_keeps : (r : Replica) (peer slot ballot : ℕ) (items : List Item) → Keeps r (take_ack r peer slot ballot items)
    unfolding take_ack
    ack_keeps r peer slot ballot items =
        of_none (Keeps r) (inst_at r slot) refl λ i.
        of_if (Keeps r) (not (is_accepting i.status) || ltb ballot i.bal) refl
        (of_none (Keeps r) i.leader_bk refl λ acks.
        of_if (Keeps r) (get acks peer) refl
        (of_if (Keeps r) (commit_condition (mark acks peer) i.reqs r.me.quorum r.conf) (set_keeps slot _ r) (set_keeps slot _ r)))

    pub reply_keeps : (r : Replica) (peer slot ballot : ℕ) → Keeps r (handle_msg_accept_reply r peer slot ballot)
    unfolding handle_msg_accept_reply
    reply_keeps r peer slot ballot =
        of_if (Keeps r) (ltb slot r.bar.start) refl
        (of_if (Keeps r) (not (eqb ballot r.bal.prepared) || not (is_leader r)) refl (ack_keeps r peer slot ballot _))

    pub noticed_keeps : (r : Replica) (peer slot ballot : ℕ) → Keeps r (noticed r peer slot ballot)
    unfolding noticed
    noticed_keeps r peer slot ballot =
        of_none (Keeps r) (inst_at r slot) refl λ i.
        let b = take_notice peer ballot (if_none i.replica_bk then new_book else λ x. x) in
        let s = set_inst slot (with_replica_bk b i) r in
        of_if (Keeps r) (not (eqb ballot i.bal || (eqb i.bal 0 && eqb (slot + 1) (end r)))) refl
        (of_if (Keeps r) (leb r.me.quorum (count b.notices)) (release_keeps slot s ∙ set_keeps slot (with_replica_bk b i) r) (set_keeps slot (with_replica_bk b i) r))
