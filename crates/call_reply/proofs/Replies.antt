-- The tests of *reply*, its items and its ack at the replica that a node and its buffer stand for, and the call.
use Rattle.std.specs.Prelude.{if◌then◌else◌}
use mathlib.Core.Path.{◌≡◌, refl, sym, ap, subst, ◌∙◌}
use mathlib.Core.Bool.{Bool, true, false, not, ◌&&◌, ◌||◌}
use mathlib.Core.List.{List, [], ◌∷◌, ◌++◌, append-nil}
use Rattle.std.specs.Prelude.{Option, None, Some, Result, Ok, Err, IsErrAnd, ok_or}
use Rattle.ids.specs.Refusal.{number_of}
use Rattle.ids.specs.declared.Refusal.{Refusal}
use Rattle.ids.specs.declared.Refusal.TheVariants.{AreaTooSmall}
use Rattle.node.specs.declared.Taken.{Taken}
use Prim.Native.Nat.{ℕ, zero, suc, ◌+◌, ◌-◌, ◌*◌, ◌/◌, ◌%◌, ◌≤◌, ◌<◌}
use native.Mathlib.Decide.{dec_lt}
use native.Mathlib.Omega.{arith}
use lib.Dec.{ltb, leb, eqb}
use lib.ListN.{length, take, drop, length-append}
use borrow.Author.Tests.{le-leb, lt-leb, eq-eqb, leb-false, ltb-false, eqb-true, not-true}
use Rattle.words.specs.Choice.{if_none◌then◌else◌}
use Rattle.words.specs.Part.{part, splice, length_part, splice_same}
use Rattle.words.specs.Writes.{writes, writes_append, length_writes}
use Rattle.bitmap.specs.Bitmap.{get, mark}
use Rattle.ids.specs.Leader.{leader_of}
use Rattle.items.specs.Item.{Item, Resend, Commit, encode, places, length_encode, encode_append}
use Rattle.items.specs.Area.{HasRoom}
use Rattle.roster_conf.specs.Edits.{view as roster_of}
use Rattle.bodega.specs.Replica as machine
use Rattle.bodega.specs.Localread.{commit_condition}
use Rattle.bodega.specs.Messages.{resend_missed_accepts, take_ack, handle_msg_accept_reply}
use Rattle.bodega.specs.Grounds.{grounds, is_held}
use Rattle.bodega.specs.Step.{effect}
use Rattle.bodega.specs.Answers.{Answers}
use Rattle.inst_cell.specs.Cell.{Short}
use Rattle.insts.specs.Slots.{short_at, batch_at, reads_at, inst_of, inst_in, insts_of}
use Rattle.node.specs.declared.Node.{Node}
use Rattle.node.specs.View.{view, ready, given_of, lowest, leads_it}
use Rattle.words.proofs.Tests.{and_both}
use Rattle.layout.specs.Layout.{slot_places, slot_words, roster_words, rows_at, slots_at, node_words}
use Rattle.node.proofs.Calls.{Ready, is_ready, refused_by, none_applies, few_places, taken_with, taken_by}
use Rattle.node.proofs.Frames.{slots_back, slots_size, slots_beyond, slots_ready}
use Rattle.node.proofs.Slots.{not_past, held_at_lem, set_at}
use Rattle.call_reply.specs.declared.Missed.TheVariants.{Skip, Stop, Send}
use Rattle.call_reply.specs.declared.Ack.{Ack}
use Rattle.call_reply.specs.declared.Ack.TheVariants.{Ignored, Marks, Commits}
use Rattle.call_reply.specs.Resends.{missed_of, and_more, resends_of}
use Rattle.call_reply.specs.Acks.{acks_with, ack_of, commits_by, commit_items, Acts}
use Rattle.call_reply.specs.Replies.{unheld, reply_refusal, awaited, span, items_of, Replies}
use Rattle.call_reply.proofs.Resends.{no_resend}

pub leads_is : (n : Node) (t : Bool) → t ≡ machine.is_leader (view n []) → t ≡ leads_it (leader_of n.bodega_conf.leader) n.id.0
unfolding view roster_of
leads_is n t e = e

past_end : (start slots prepared slot ballot : ℕ) → start ≤ slot → ballot ≡ prepared → leb (start + slots) slot ≡ unheld start slots prepared slot ballot
past_end start slots prepared slot ballot h g = sym (simp (le-leb start slot h, eq-eqb ballot prepared g))

-- ---- the items, and the ack

length_commits : (a : Ack) (slot : ℕ) → length (commit_items a slot) ≡ commits_by a
length_commits Ignored slot = refl
length_commits (Marks m) slot = refl
length_commits (Commits m) slot = refl

module _ (s area : List ℕ) (id prepared commit peer slot : ℕ) (a : Ack) (n b k : ℕ) (e : n ≡ span id peer commit slot)
    (f : b ≡ length (resends_of s commit peer prepared n)) (g : k ≡ commits_by a) where
  abbrev resends : List Item
  resends = resends_of s commit peer prepared n

  items_are : items_of s id peer commit prepared slot a ≡ resends ++ commit_items a slot
  items_are = ap (λ (j : ℕ). resends_of s commit peer prepared j ++ commit_items a slot) (sym e)

  length_items : length (items_of s id peer commit prepared slot a) ≡ b + k
  length_items = ap length items_are ∙ length-append resends (commit_items a slot) ∙ omega (arith, length_commits a slot)

  module _ (h : b + k ≤ places area) where
    pub room : length resends ≤ places area
    room = omega arith

    module _ (place : ℕ) (p : place ≡ length resends) (area₁ : List ℕ) (w : area₁ ≡ writes area 0 (encode resends)) where
      pub commit_room : place + commits_by a ≤ places area₁
      commit_room = let z : length area₁ ≡ length area = ap length w ∙ length_writes area 0 (encode resends) in rw z (omega arith)

      pub all_put : (c : ℕ) (area₂ s' : List ℕ) → area₂ ≡ writes area₁ (place * 6) (encode (commit_items a slot)) → Acts a s c s'
          → Replies (items_of s id peer commit prepared slot a) a c s area (Ok (b + k)) s' area₂
      all_put c area₂ s' q x =
          let z : place * 6 ≡ 0 + length (encode resends) = omega (arith, length_encode resends) in (
            sym length_items,
            rw length_items h,
            q ∙ ap (λ (l : List ℕ). writes l (place * 6) (encode (commit_items a slot))) w
                ∙ ap (λ (j : ℕ). writes (writes area 0 (encode resends)) j (encode (commit_items a slot))) z
                ∙ writes_append area 0 (encode resends) (encode (commit_items a slot))
                ∙ ap (writes area 0) (sym (encode_append resends (commit_items a slot)) ∙ ap encode (sym items_are)),
            x,
          )

-- ---- at a replica: the Accepts that are sent again

module _ (slot peer : ℕ) (more : List Item) (gets : ℕ → Bool) (same : Bool) where
  by_kind : (t : Bool) (o : Option ℕ)
      → (if t then more else if_none o then more else λ acks. if gets acks then [] else if same then Resend slot peer ∷ more else more)
      ≡ and_more (if t then Skip else if_none o then Skip else λ acks. if gets acks then Stop else if same then Send else Skip) slot peer more
  by_kind true o = refl
  by_kind false None = refl
  by_kind false (Some acks) = go (gets acks) same
    where
      go : (b c : Bool) → (if b then [] else if c then Resend slot peer ∷ more else more) ≡ and_more (if b then Stop else if c then Send else Skip) slot peer more
      go true c = refl
      go false true = refl
      go false false = refl

resends_are : (r : machine.Replica) (s : List ℕ) (peer k : ℕ) → ((j : ℕ) → j < k → machine.inst_at r (r.bar.commit + j) ≡ Some (inst_in s ((r.bar.commit + j) % slot_places)))
    → resend_missed_accepts r peer k ≡ resends_of s r.bar.commit peer r.bal.prepared k
unfolding resend_missed_accepts resends_of missed_of inst_in
resends_are r s peer zero h = refl
resends_are r s peer (suc k) h =
    let slot : ℕ = r.bar.commit + k in
    let x : Short = short_at s (slot % slot_places) in
    rw (h k (omega arith))
    (by_kind slot peer (resend_missed_accepts r peer k) (λ acks. get acks peer) (eqb x.bal r.bal.prepared) (not (machine.is_accepting x.status)) x.leader_bk
    ∙ ap (and_more (missed_of x peer r.bal.prepared) slot peer) (resends_are r s peer k (λ j l. h j (omega arith))))

-- ---- at a replica: the ack

abbrev after : Ack → ℕ → machine.Instance → machine.Replica → machine.Replica
after Ignored slot i r = r
after (Marks m) slot i r = machine.set_inst slot (machine.with_leader_bk m i) r
after (Commits m) slot i r = machine.set_inst slot (machine.with_status machine.Committed (machine.with_leader_bk m i)) r

abbrev result : ℕ → List Item → machine.Instance → machine.Replica → Ack → machine.Done
result slot l i r a = machine.done (after a slot i r) (l ++ commit_items a slot)

module _ (slot peer : ℕ) (l : List Item) (i : machine.Instance) (r : machine.Replica) (gets suffices : ℕ → Bool) where
  idle : machine.done r l ≡ machine.done r (l ++ [])
  idle = ap (machine.done r) (sym (append-nil l))

  by_ack : (t : Bool) (o : Option ℕ)
      → (if t then machine.done r l else if_none o then machine.done r l else λ acks. if gets acks then machine.done r l else
      if suffices (mark acks peer) then machine.done (after (Commits (mark acks peer)) slot i r) (l ++ (Commit slot ∷ [])) else machine.done (after (Marks (mark acks peer)) slot i r) l)
      ≡ result slot l i r
      (if_none (if t then None else if_none o then None else λ acks. if gets acks then None else Some (mark acks peer)) then Ignored else λ acks.
      if suffices acks then Commits acks else Marks acks)
  by_ack true o = idle
  by_ack false None = idle
  by_ack false (Some acks) = go (gets acks) (suffices (mark acks peer)) refl
    where
      go : (b c : Bool) → suffices (mark acks peer) ≡ c
          → (if b then machine.done r l else if c then machine.done (after (Commits (mark acks peer)) slot i r) (l ++ (Commit slot ∷ [])) else machine.done (after (Marks (mark acks peer)) slot i r) l)
          ≡ result slot l i r (if_none (if b then None else Some (mark acks peer)) then Ignored else λ acks. if suffices acks then Commits acks else Marks acks)
      go true c e = idle
      go false true e = rw e
      go false false e = rw e (ap (machine.done (after (Marks (mark acks peer)) slot i r)) (sym (append-nil l)))

take_ack_lem : (r : machine.Replica) (peer slot ballot : ℕ) (l : List Item) (x : Short) (reqs : List machine.Request) (reads : List machine.ReadReq)
    → machine.inst_at r slot ≡ Some (inst_of x reqs reads)
    → take_ack r peer slot ballot l ≡ result slot l (inst_of x reqs reads) r (ack_of x reqs peer ballot r.me.quorum r.conf)
unfolding take_ack ack_of acks_with
take_ack_lem r peer slot ballot l x reqs reads h =
    rw h
    (by_ack slot peer l (inst_of x reqs reads) r (λ acks. get acks peer) (λ acks. commit_condition acks reqs r.me.quorum r.conf)
    (not (machine.is_accepting x.status) || ltb ballot x.bal) x.leader_bk)

-- ---- at a replica: whether it is waited on

choose : (a b c : Bool) (d x : machine.Done) → (if a then d else if not b || not c then d else x) ≡ (if not a && (b && c) then x else d)
choose true b c d x = refl
choose false true true d x = refl
choose false true false d x = refl
choose false false c d x = refl

handled : (r : machine.Replica) (peer slot ballot : ℕ)
    → handle_msg_accept_reply r peer slot ballot
    ≡ (if not (ltb slot r.bar.start) && (eqb ballot r.bal.prepared && machine.is_leader r)
    then take_ack r peer slot ballot (if eqb peer r.me.id then [] else resend_missed_accepts r peer (slot - r.bar.commit)) else machine.done r [])
unfolding handle_msg_accept_reply
handled r peer slot ballot =
    choose (ltb slot r.bar.start) (eqb ballot r.bal.prepared) (machine.is_leader r) (machine.done r [])
    (take_ack r peer slot ballot (if eqb peer r.me.id then [] else resend_missed_accepts r peer (slot - r.bar.commit)))

-- ---- at the replica that a node and its buffer stand for

module _ (n : Node) (m : List ℕ) (peer slot ballot : ℕ) where
  abbrev waits : Bool
  waits = awaited (leader_of n.bodega_conf.leader) n.id.0 n.start_slot.0 n.bal_prepared.0 slot ballot

  abbrev resent : List Item
  resent = if eqb peer n.id.0 then [] else resend_missed_accepts (view n m) peer (slot - n.commit_bar.0)

  handled_at : handle_msg_accept_reply (view n m) peer slot ballot ≡ (if waits then take_ack (view n m) peer slot ballot resent else machine.done (view n m) [])
  unfolding view roster_of
  handled_at = handled (view n m) peer slot ballot

  ground_16 : unheld n.start_slot.0 n.slots n.bal_prepared.0 slot ballot
      ≡ leb n.start_slot.0 slot && eqb ballot n.bal_prepared.0 && not (is_held (view n m) slot)
  ground_16 = elim (dec_lt slot n.start_slot.0) [
    | yes h ↦ rw (lt-leb n.start_slot.0 slot h)
    | no h ↦ elim (dec_lt slot (n.start_slot.0 + n.slots)) [
      | yes g ↦ rw (lt-leb (n.start_slot.0 + n.slots) slot g, held_at_lem n m slot (omega arith) g)
      | no g ↦ rw (le-leb (n.start_slot.0 + n.slots) slot (omega arith), not_past n m slot (omega arith) (omega arith))
    ]
  ]

  number_is : reply_refusal n.population n.start_slot.0 n.slots n.bal_prepared.0 peer slot ballot ≡ lowest (grounds (view n m) (machine.Reply peer slot ballot))
  unfolding grounds view
  number_is = ap (λ (b : Bool). if leb n.population peer then 3 else if ltb 281474976710655 slot then 8 else if b then 16 else 0) ground_16

acts_size : (a : Ack) (s t : List ℕ) (c : ℕ) → Acts a s c t → length t ≡ length s
acts_size Ignored s t c x = ap length x
acts_size (Marks m) s t c x = x.size
acts_size (Commits m) s t c x = x.size

-- ---- the call

module _ (n : Node) (m area : List ℕ) (peer slot ballot : ℕ) (y : ready n m ≡ true) where
  abbrev words : List ℕ
  words = take slot_words (drop slots_at m)

  abbrev call : machine.Call
  call = machine.Reply peer slot ballot

  r : Ready n m
  r = is_ready n m true (sym y) refl

  abbrev refusal : ℕ
  refusal = reply_refusal n.population n.start_slot.0 n.slots n.bal_prepared.0 peer slot ballot

  pub reply_refused : (x : Refusal) (z : Result Taken Refusal) → number_of x ≡ refusal → IsErrAnd z (λ u. u ≡ x) → Answers ready view call n m area (given_of n z) m area
  reply_refused x z g = refused_by call n m area true (sym y) refl x z (g ∙ number_is n m peer slot ballot)

  pub buffer : node_words ≤ length m
  buffer = r.long

  module _ (g : 0 ≡ refusal) where
    g' : 0 ≡ lowest (grounds (view n m) call)
    g' = g ∙ number_is n m peer slot ballot

    module _ (u : Bool) (w : u ≡ waits n m peer slot ballot) where
      pub not_awaited : u ≡ false → Answers ready view call n m area (given_of n (Ok (record { node = n; count = 0 }))) m area
      unfolding effect
      not_awaited v =
          taken_by call n m g' area true (sym y) refl (view n m) n m
          (handled_at n m peer slot ballot ∙ ap (λ (b : Bool). if b then take_ack (view n m) peer slot ballot (resent n m peer slot ballot) else machine.done (view n m) []) (sym w ∙ v))
          refl refl (λ j l. refl) y

      module _ (v : u ≡ true) where
        is_awaited : (not (ltb slot n.start_slot.0) ≡ true) × (eqb ballot n.bal_prepared.0 && leads_it (leader_of n.bodega_conf.leader) n.id.0 ≡ true)
        is_awaited = and_both (not (ltb slot n.start_slot.0)) (eqb ballot n.bal_prepared.0 && leads_it (leader_of n.bodega_conf.leader) n.id.0) (sym w ∙ v)

        low : n.start_slot.0 ≤ slot
        low = ltb-false slot n.start_slot.0 (not-true (ltb slot n.start_slot.0) is_awaited.0)

        high : slot < n.start_slot.0 + n.slots
        unfolding grounds view
        high =
            let same : ballot ≡ n.bal_prepared.0 = eqb-true ballot n.bal_prepared.0 (and_both (eqb ballot n.bal_prepared.0) (leads_it (leader_of n.bodega_conf.leader) n.id.0) is_awaited.1).0 in
            leb-false (n.start_slot.0 + n.slots) slot
            (past_end n.start_slot.0 n.slots n.bal_prepared.0 slot ballot low same ∙ ground_16 n m peer slot ballot ∙ (none_applies call n m g').1.1.0)

        resent_by : (b : Bool) → (if b then [] else resend_missed_accepts (view n m) peer (slot - n.commit_bar.0))
            ≡ resends_of (part m slots_at slot_words) n.commit_bar.0 peer n.bal_prepared.0 (if b then 0 else slot - n.commit_bar.0)
        unfolding view
        resent_by true = sym (no_resend (part m slots_at slot_words) n.commit_bar.0 peer n.bal_prepared.0)
        resent_by false =
            resends_are (view n m) (part m slots_at slot_words) peer (slot - n.commit_bar.0)
            (λ j l. held_at_lem n m (n.commit_bar.0 + j) (omega (arith, r)) (omega (arith, high)))

        abbrev here : machine.Instance
        here = inst_in (part m slots_at slot_words) (slot % slot_places)

        after_is : (a : Ack) (s' : List ℕ) → Acts a (part m slots_at slot_words) (slot % slot_places) s' → machine.with_insts (insts_of n.start_slot.0 n.slots s') (view n m) ≡ after a slot here (view n m)
        unfolding view inst_in
        after_is Ignored s' x = ap (λ (s : List ℕ). machine.with_insts (insts_of n.start_slot.0 n.slots s) (view n m)) x
        after_is (Marks b) s' x = set_at n m slot low high r.window x
        after_is (Commits b) s' x = set_at n m slot low high r.window x

        pub ack_asked : (node_words ≤ length m) × (n.bodega_conf.count ≤ 64)
        ack_asked = (r.long, r.ranges)

        words_long : length words ≡ slot_words
        unfolding part
        words_long = length_part m slots_at slot_words (omega (arith, r.long))

        pub reply_asked : (slot_words ≤ length words) × (slot ≤ n.commit_bar.0 + slot_places)
        reply_asked = (omega (arith, words_long), omega (arith, r, high))

        module _ (a : Ack) (d : a ≡ ack_of (short_at (part m slots_at slot_words) (slot % slot_places)) (batch_at (part m slots_at slot_words) (slot % slot_places)) peer ballot n.quorum (roster_of n.bodega_conf (part m rows_at roster_words))) where
          abbrev items : List Item
          items = items_of (part m slots_at slot_words) n.id.0 peer n.commit_bar.0 n.bal_prepared.0 slot a

          effect_is : effect (view n m) call ≡ machine.done (after a slot here (view n m)) items
          unfolding effect view inst_in
          effect_is =
              handled_at n m peer slot ballot
              ∙ ap (λ (b : Bool). if b then take_ack (view n m) peer slot ballot (resent n m peer slot ballot) else machine.done (view n m) []) (sym w ∙ v)
              ∙ take_ack_lem (view n m) peer slot ballot (resent n m peer slot ballot) (short_at (part m slots_at slot_words) (slot % slot_places)) (batch_at (part m slots_at slot_words) (slot % slot_places)) (reads_at (part m slots_at slot_words) (slot % slot_places)) (held_at_lem n m slot low high)
              ∙ ap (result slot (resent n m peer slot ballot) here (view n m)) (sym d)
              ∙ ap (λ (l : List Item). result slot l here (view n m) a) (resent_by (eqb peer n.id.0))

          module _ (s' area' : List ℕ) where
            pub reply_full : (x : Refusal) (z : Result Taken Refusal) → Replies (items_of words n.id.0 peer n.commit_bar.0 n.bal_prepared.0 slot a) a (slot % slot_places) words area (Err x) s' area' → IsErrAnd z (λ o. o ≡ x)
                → Answers ready view call n m area (given_of n z) (splice m slots_at slot_words s') area'
            unfolding part
            reply_full x z k i =
                let few : HasRoom area (length (effect (view n m) call).items) (Err x) = (k.0, rw effect_is k.1) in
                let same : m ≡ splice m slots_at slot_words s' = sym (splice_same m slots_at slot_words) ∙ ap (splice m slots_at slot_words) (sym k.2) in
                subst (λ (y : List ℕ). Answers ready view call n m area (given_of n z) y area') same
                (subst (λ (y : List ℕ). Answers ready view call n m area (given_of n z) m y) (sym k.3) (few_places call n m g' area true (sym y) refl x z few i))

            pub reply_taken : (j : ℕ) → Replies (items_of words n.id.0 peer n.commit_bar.0 n.bal_prepared.0 slot a) a (slot % slot_places) words area (Ok j) s' area'
                → Answers ready view call n m area (given_of n (Ok (record { node = n; count = j }))) (splice m slots_at slot_words s') area'
            unfolding part
            reply_taken j k =
                let size : length s' ≡ slot_words = acts_size a words s' (slot % slot_places) k.3 ∙ words_long in
                subst (λ (c : ℕ). Answers ready view call n m area (given_of n (Ok (record { node = n; count = c }))) (splice m slots_at slot_words s') area') (sym k.0)
                (taken_with call n m g' area true (sym y) refl (after a slot here (view n m)) items n (splice m slots_at slot_words s') area' effect_is k.1
                (slots_back n m r.long s' size ∙ after_is a s' k.3) k.2 (slots_size n m r.long s' size) (slots_beyond n m r.long s' size) (slots_ready n m r.long s' size ∙ y))
