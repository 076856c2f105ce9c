-- A read at the replica that a node and its buffer stand for: its grounds, its item, and the read at the end of a
-- slot's queue.
use Rattle.std.specs.Prelude.{if◌then◌else◌, option_map}
use mathlib.Core.Path.{◌≡◌, refl, sym, ap, ◌∙◌}
use mathlib.Core.Bool.{Bool, true, false}
use mathlib.Core.List.{List, [], ◌∷◌, ◌++◌}
use Rattle.std.specs.Prelude.{Option, None, Some}
use Prim.Native.Nat.{ℕ, ◌+◌, ◌≤◌, ◌<◌}
use native.Mathlib.Decide.{dec_lt}
use native.Mathlib.Omega.{arith}
use borrow.Author.Tests.{lt-ltb, le-ltb, le-leb, lt-leb, ltb-true, ltb-false, leb-false}
use lib.Dec.{ltb, leb}
use lib.ListN.{length}
use Rattle.words.specs.Choice.{if_none◌then◌else◌}
use Rattle.words.specs.Part.{part, splice, Untouched, length_part}
use Rattle.layout.specs.Layout.{node_words, slot_words, slots_at}
use Rattle.words.specs.Writes.{writes}
use Rattle.ids.specs.declared.Slot.{Slot}
use Rattle.key_words.specs.Key.{bytes_of, at_most_48}
use Rattle.key_words.specs.declared.Key.{Key}
use Rattle.items.specs.Item.{Item, item_of, encode, encode_snoc, places}
use Rattle.items.specs.Area.{HasRoom, put_item, put_answer}
use Rattle.items.proofs.Laws.{answer_err, answer_ok, put_area}
use Rattle.items.specs.declared.Item as code
use Rattle.inst_cell.specs.Cell.{Notices, Short}
use Rattle.insts.specs.Slots.{short_at, batch_at, reads_at, inst_of, inst_in, book_of, place_of, Puts, PutsReads}
use Rattle.bodega.specs.Replica as machine
use Rattle.bodega.specs.Localread as local
use Rattle.bodega.specs.Request.{settled, read_answer, answered, treat_read}
use Rattle.bodega.specs.Grounds.{grounds, full, overfills}
use Rattle.bodega.specs.Step.{effect}
use Rattle.bodega.specs.Answers.{Answers}
use Rattle.inspect_latest_write.specs.Located.{answer_in}
use Rattle.inspect_latest_write.specs.declared.ReadAnswer.{ReadAnswer}
use Rattle.inspect_latest_write.specs.declared.ReadAnswer.TheVariants.{HeldBy}
use Rattle.inspect_latest_write.proofs.Laws.{Waiting, waiting, holds_none}
use Rattle.node.proofs.Calls.{Ready, is_ready, refused_by, few_places, taken_with}
use Rattle.node.proofs.Frames.{slots_back, slots_size, slots_beyond, slots_ready}
use Rattle.node.proofs.Slots.{not_below, not_past, held_at_lem, set_at}
use Rattle.std.specs.Prelude.{Result, Ok, Err, IsErrAnd}
use Rattle.std.specs.Option.{ok_or}
use Rattle.ids.specs.Refusal.{number_of}
use Rattle.ids.specs.declared.Refusal.{Refusal}
use Rattle.ids.specs.declared.Refusal.TheVariants.{KeyTooLong, TooManyReads, AreaTooSmall}
use Rattle.node.specs.declared.Taken.{Taken}
use Rattle.node.specs.View.{view, ready, lowest, given_of}
use Rattle.node.specs.declared.Node.{Node}

-- ---- the parts lent are long enough

slots_long : (n : Node) (m : List ℕ) → Ready n m → slot_words ≤ length (part m slots_at slot_words)
slots_long n m r = rw (length_part m slots_at slot_words (omega (arith, r.long))) (omega arith)

-- ---- a key of at most 48 bytes

short_key : (k key : List ℕ) → Some k ≡ at_most_48 key → (k ≡ key) × (ltb 48 (length key) ≡ false)
short_key k key e = elim (dec_lt 48 (length key)) [
  | yes h ↦ let f : Some k ≡ None = e ∙ rw (lt-leb (length key) 48 h) in let z : ◌≡◌ {A = ℕ} 0 1 = cc in absurd (omega arith)
  | no h ↦
      let l : length key ≤ 48 = omega arith in
      let f : Some k ≡ Some key = e ∙ rw (le-leb (length key) 48 l) in
      (cc, le-ltb 48 (length key) l)
]

long_key_lem : (key : List ℕ) → None ≡ at_most_48 key → ltb 48 (length key) ≡ true
long_key_lem key e = elim (dec_lt 48 (length key)) [
  | yes h ↦ lt-ltb 48 (length key) h
  | no h ↦
      let l : length key ≤ 48 = omega arith in
      let f : None ≡ Some key = e ∙ rw (le-leb (length key) 48 l) in
      let z : ◌≡◌ {A = ℕ} 0 1 = cc in absurd (omega arith)
]

-- packed, or refused
pub ok_is : (p : Option Key) (k : Key) → ◌≡◌ {A = Result Key Refusal} (Ok k) (ok_or p KeyTooLong) → p ≡ Some k
ok_is None k e = let z : ◌≡◌ {A = ℕ} 0 1 = cc in absurd (omega arith)
ok_is (Some x) k e = cc

err_is : (p : Option Key) (x : Refusal) → ◌≡◌ {A = Result Key Refusal} (Err x) (ok_or p KeyTooLong) → (p ≡ None) × (x ≡ KeyTooLong)
err_is None x e = (refl, cc)
err_is (Some k) x e = let z : ◌≡◌ {A = ℕ} 0 1 = cc in absurd (omega arith)

-- ---- an item put at the first place

item_put : (area : List ℕ) (x : Item) → 0 < places area → (put_item area 0 x).area ≡ writes area 0 (encode (x ∷ []))
unfolding encode
item_put area x h = put_area area 0 x h ∙ ap (writes area 0) (sym (encode_snoc [] x))

-- ---- a read at the end of a slot's queue

module _ (r : machine.Replica) (slot : ℕ) (q : machine.ReadReq) where
  abbrev held_in : Option machine.Instance → machine.Replica
  held_in o =
      if_none o then r else λ i.
      if_none i.replica_bk then r else λ b.
      machine.set_inst slot (machine.with_replica_bk (machine.with_holding (b.holding ++ (q ∷ [])) b) i) r

  put_last : (bal : ℕ) (status : machine.Status) (acks : Option ℕ) (o : Option Notices) (reqs : List machine.Request) (reads : List machine.ReadReq) (b : machine.Book)
      → book_of o reads ≡ Some b
      → machine.set_inst slot (inst_of (record { bal = bal; status = status; leader_bk = acks; replica_bk = o }) reqs (reads ++ (q ∷ []))) r
      ≡ held_in (Some (inst_of (record { bal = bal; status = status; leader_bk = acks; replica_bk = o }) reqs reads))
  put_last bal status acks None reqs reads b e = let z : ◌≡◌ {A = ℕ} 0 1 = cc in absurd (omega arith)
  put_last bal status acks (Some x) reqs reads b e = refl

  hold_is : (x : Short) (reqs : List machine.Request) (reads : List machine.ReadReq) (b : machine.Book) → machine.inst_at r slot ≡ Some (inst_of x reqs reads)
      → book_of x.replica_bk reads ≡ Some b → machine.set_inst slot (inst_of x reqs (reads ++ (q ∷ []))) r ≡ local.hold_read slot q r
  unfolding local.hold_read
  hold_is x reqs reads b e f = put_last x.bal x.status x.leader_bk x.replica_bk reqs reads b f ∙ ap held_in (sym e)

holding_is : (o : Option Notices) (reads : List machine.ReadReq) (b : machine.Book) → book_of o reads ≡ Some b → b.holding ≡ reads
holding_is None reads b e = let z : ◌≡◌ {A = ℕ} 0 1 = cc in absurd (omega arith)
holding_is (Some x) reads b e = let z : record { bal = x.bal; notices = x.notices; holding = reads } ≡ b = cc in ap (λ (y : machine.Book). y.holding) (sym z)

some_inst : {i j : machine.Instance} → Some i ≡ Some j → i ≡ j
some_inst e = cc

-- a slot with a book is one of those held
module _ (n : Node) (m : List ℕ) (slot : ℕ) (w : Waiting (view n m) slot) where
  not_none : machine.inst_at (view n m) slot ≡ None → ⊥
  not_none e = let f : Some w.inst ≡ None = sym w.found ∙ e in let z : ◌≡◌ {A = ℕ} 0 1 = cc in omega arith

  low : n.start_slot.0 ≤ slot
  low = elim (dec_lt slot n.start_slot.0) [ yes h ↦ absurd (not_none (not_below n m slot h)) | no h ↦ omega arith ]

  high : slot < n.start_slot.0 + n.slots
  high = elim (dec_lt slot (n.start_slot.0 + n.slots)) [ yes h ↦ h | no h ↦ absurd (not_none (not_past n m slot low (omega arith))) ]

  abbrev s : List ℕ
  s = part m slots_at slot_words

  abbrev c : ℕ
  c = place_of slot

  stands : machine.inst_at (view n m) slot ≡ Some (inst_of (short_at s c) (batch_at s c) (reads_at s c))
  unfolding inst_in
  stands = held_at_lem n m slot low high

  booked : book_of (short_at s c).replica_bk (reads_at s c) ≡ Some w.book
  booked = ap (λ (i : machine.Instance). i.replica_bk) (some_inst (sym stands ∙ w.found)) ∙ w.has

  full_is : full (view n m) slot ≡ leb 16 (length (reads_at s c))
  full_is = rw (w.found, w.has, holding_is (short_at s c).replica_bk (reads_at s c) w.book booked)

  pub room : full (view n m) slot ≡ false → length (reads_at s c) < 16
  room e = leb-false 16 (length (reads_at s c)) (sym full_is ∙ e)

  module _ (r : Ready n m) (q : machine.ReadReq) (t : List ℕ) (p : Puts s c (short_at s c) (batch_at s c) (reads_at s c ++ (q ∷ [])) t) where
    long : length t ≡ slot_words
    long = p.size ∙ length_part m slots_at slot_words (omega (arith, r.long))

    pub hold_view : view n (splice m slots_at slot_words t) ≡ local.hold_read slot q (view n m)
    hold_view =
        slots_back n m r.long t long ∙ set_at n m slot low high r.window p
        ∙ hold_is (view n m) slot q (short_at s c) (batch_at s c) (reads_at s c) w.book stands booked

    pub hold_size : length (splice m slots_at slot_words t) ≡ length m
    hold_size = slots_size n m r.long t long

    pub hold_beyond : Untouched node_words m (splice m slots_at slot_words t)
    hold_beyond = slots_beyond n m r.long t long

    pub hold_ready : ready n (splice m slots_at slot_words t) ≡ ready n m
    hold_ready = slots_ready n m r.long t long

-- ---- the call

module _ (n : Node) (m area : List ℕ) (client request leases : ℕ) (key : List ℕ) (y : ready n m ≡ true) where
  abbrev q : machine.ReadReq
  q = record { client = client; request = request; key = key }

  abbrev call : machine.Call
  call = machine.Read leases q

  module _ (p : Option Key) (g : option_map bytes_of p ≡ at_most_48 key) where
    number_5 : p ≡ None → 5 ≡ lowest (grounds (view n m) call)
    unfolding grounds
    number_5 h = rw (long_key_lem key (ap (option_map bytes_of) (sym h) ∙ g))

    pub long_5 : (x : Refusal) (r : Result Taken Refusal) → ◌≡◌ {A = Result Key Refusal} (Err x) (ok_or p KeyTooLong) → IsErrAnd r (λ v. v ≡ x)
        → Answers ready view call n m area (given_of n r) m area
    long_5 x r h = let i = err_is p x h in refused_by call n m area true (sym y) refl x r (ap number_of i.1 ∙ number_5 i.0)

    module _ (k : Key) (h : p ≡ Some k) where
      short : (bytes_of k ≡ key) × (ltb 48 (length key) ≡ false)
      short = short_key (bytes_of k) key (ap (option_map bytes_of) (sym h) ∙ g)

      pub bytes_are : bytes_of k ≡ key
      bytes_are = short.0

      module _ (a : ReadAnswer) (answer_is : answer_in a ≡ read_answer (view n m) leases key) where
        module _ (b : Bool) (fills : b ≡ overfills (view n m) (answer_in a)) where
          ground_19 : (if b then 19 else 0) ≡ lowest (grounds (view n m) call)
          unfolding grounds
          ground_19 = rw short.1 (ap (λ (x : Bool). if x then 19 else 0) (fills ∙ ap (overfills (view n m)) answer_is))

          pub full_19 : b ≡ true → Answers ready view call n m area (given_of n (Err TooManyReads)) m area
          full_19 u = refused_by call n m area true (sym y) refl TooManyReads (Err TooManyReads) (sym (rw u) ∙ ground_19) refl

          module _ (u : b ≡ false) (x : code.Item) (w : (answered (view n m) q (answer_in a)).items ≡ item_of x ∷ []) where
            number_0 : 0 ≡ lowest (grounds (view n m) call)
            number_0 = sym (rw u) ∙ ground_19

            effect_is : effect (view n m) call ≡ machine.done (answered (view n m) q (answer_in a)).replica (item_of x ∷ [])
            unfolding effect treat_read
            effect_is =
                ap (answered (view n m) q) (sym answer_is)
                ∙ ap (machine.done (answered (view n m) q (answer_in a)).replica) w

            module _ (area' : List ℕ) (z : area' ≡ (put_item area 0 (item_of x)).area) where
              pub few_20 : (v : Refusal) (r : Result Taken Refusal) → Err v ≡ put_answer (put_item area 0 (item_of x)) → IsErrAnd r (λ o. o ≡ v) → Answers ready view call n m area (given_of n r) m area'
              few_20 v r d i =
                  let e = answer_err area 0 (item_of x) v d in
                  let few : places area < 1 = omega (arith, e.1) in
                  rw (z ∙ e.2) (few_places call n m number_0 area true (sym y) refl v r (e.0, rw effect_is few) i)

              module _ (v : Unit {0}) (d : Ok v ≡ put_answer (put_item area 0 (item_of x))) where
                taken : (m' : List ℕ) → view n m' ≡ (answered (view n m) q (answer_in a)).replica → length m' ≡ length m → Untouched node_words m m' → ready n m' ≡ ready n m
                    → Answers ready view call n m area (given_of n (Ok (record { node = n; count = 1 }))) m' area'
                taken m' x₁ x₂ x₃ x₄ =
                    let h = answer_ok area 0 (item_of x) v d in
                    taken_with call n m number_0 area true (sym y) refl (answered (view n m) q (answer_in a)).replica (item_of x ∷ []) n m' area' effect_is (omega arith) x₁
                    (z ∙ item_put area (item_of x) h) x₂ x₃ (x₄ ∙ y)

                pub served : ((x : Slot) → a ≡ HeldBy x → ⊥) → Answers ready view call n m area (given_of n (Ok (record { node = n; count = 1 }))) m area'
                served o = taken m (sym (holds_none (view n m) q a o)) refl (λ j l. refl) refl

                module _ (slot : Slot) (o : a ≡ HeldBy slot) where
                  waits : Waiting (view n m) slot.0
                  unfolding read_answer
                  waits = waiting (view n m) slot.0 (settled (view n m) leases key) (sym answer_is ∙ ap answer_in o)

                  pub has_room : (slot_words ≤ length (part m slots_at slot_words)) × (length (reads_at (part m slots_at slot_words) (place_of slot.0)) < 16)
                  has_room = (slots_long n m (is_ready n m true (sym y) refl), room n m slot.0 waits (ap (λ (y : ReadAnswer). overfills (view n m) (answer_in y)) (sym o) ∙ sym fills ∙ u))

                  pub held : (t : List ℕ)
                      → PutsReads (part m slots_at slot_words) (place_of slot.0) (reads_at (part m slots_at slot_words) (place_of slot.0) ++ (record { client = client; request = request; key = bytes_of k } ∷ [])) t
                      → Answers ready view call n m area (given_of n (Ok (record { node = n; count = 1 }))) (splice m slots_at slot_words t) area'
                  held t p' =
                      let d' : PutsReads (part m slots_at slot_words) (place_of slot.0) (reads_at (part m slots_at slot_words) (place_of slot.0) ++ (q ∷ [])) t = rw bytes_are at p' in
                      let b' : Ready n m = is_ready n m true (sym y) refl in
                      taken (splice m slots_at slot_words t)
                      (hold_view n m slot.0 waits b' q t d' ∙ ap (λ (y : ReadAnswer). (answered (view n m) q (answer_in y)).replica) (sym o))
                      (hold_size n m slot.0 waits b' q t d') (hold_beyond n m slot.0 waits b' q t d') (hold_ready n m slot.0 waits b' q t d')
