-- The bars of a heartbeat: the walk, then a peer's exec and snap bar, at the node's view.
use Rattle.std.specs.Prelude.{if◌then◌else◌}
use mathlib.Core.Path.{◌≡◌, refl, sym, ap, ◌∙◌}
use mathlib.Core.Bool.{true}
use mathlib.Core.List.{List, [], append-nil}
use Prim.Native.Nat.{ℕ, ◌+◌, ◌*◌, ◌≤◌, ◌<◌}
use native.Mathlib.Omega.{arith}
use lib.ListN.{length, take, drop}
use borrow.Author.Tests.{lt-ltb, le-ltb}
use Rattle.layout.specs.Layout.{slots_at, slot_words, execs_at, replica_places, node_words}
use Rattle.words.specs.Tab.{words_from}
use Rattle.words.specs.Part.{part, splice, length_part, part_before}
use Rattle.ids.specs.declared.Slot.{Slot}
use Rattle.items.specs.Item.{Item, encode, places}
use Rattle.bodega.specs.Replica as machine
use Rattle.bodega.specs.Replica.{◌and_then◌}
use lib.Dec.{eqb}
use Rattle.words.specs.Writes.{writes}
use Rattle.bodega.specs.Heartbeat.{advance_commit_bar, heard_bars, heard_snap_bar, heard_exec_bar}
use Rattle.insts.specs.Slots.{insts_of}
use Rattle.advance_commit_bar.specs.Walk.{walked, Advances}
use Rattle.advance_commit_bar.proofs.Laws.{advance_is}
use Rattle.peer_exec_bar.specs.Execs.{execs_left, snap_left, HearsPeer}
use Rattle.peer_exec_bar.proofs.Laws.{heard_peer}
use Rattle.node.specs.declared.Node.{Node}
use Rattle.node.specs.View.{view, ready}
use Rattle.node.proofs.Calls.{Ready}
use Rattle.node.proofs.Frames.{slots_back, slots_size, slots_beyond, slots_ready, execs_back, execs_size, execs_beyond, execs_ready}
use Rattle.heard_new_conf.specs.Does.{Does}
use Rattle.heard_new_conf.proofs.Laws.{readied}

abbrev pub snapped : Node → Slot → Node
snapped n s = record n { snap_bar = s }

module _ (n : Node) (m : List ℕ) (y : ready n m ≡ true) (ballot commit exec : ℕ) where
  abbrev words : List ℕ
  words = part m slots_at slot_words

  abbrev items : List Item
  items = (walked n.start_slot.0 n.slots n.commit_bar.0 ballot commit words).items

  r : Ready n m
  r = readied n m y

  words_long : length words ≡ slot_words
  words_long = length_part m slots_at slot_words (omega (arith, r.long))

  pub asked : (n.start_slot.0 ≤ n.commit_bar.0) × (n.commit_bar.0 ≤ n.start_slot.0 + n.slots)
  asked = let a = r.start_exec_lem in let b = r.exec_commit_lem in (omega arith, r.commit_end_lem)

  low_is : (peer snap : ℕ) → exec < n.exec_bar.0 → heard_bars peer ballot commit exec snap (view n m) ≡ machine.done (view n m) []
  unfolding heard_bars view
  low_is peer snap h = rw (lt-ltb exec n.exec_bar.0 h)

  pub low_count : exec < n.exec_bar.0 → (peer snap : ℕ) → 0 ≡ length (heard_bars peer ballot commit exec snap (view n m)).items
  low_count h peer snap = rw (low_is peer snap h)

  module _ (h : n.exec_bar.0 ≤ exec) where
    high_is : (peer snap : ℕ) → heard_bars peer ballot commit exec snap (view n m)
        ≡ (advance_commit_bar (view n m) ballot commit and_then λ s. machine.done (if eqb peer n.id.0 then s else heard_snap_bar snap (heard_exec_bar peer exec s)) [])
    unfolding heard_bars view
    high_is peer snap = rw (le-ltb exec n.exec_bar.0 h)

    items_are : (peer snap : ℕ) → (heard_bars peer ballot commit exec snap (view n m)).items ≡ items
    unfolding advance_commit_bar view part
    items_are peer snap = rw (high_is peer snap) (append-nil items)

    pub high_count : (c : ℕ) → c ≡ length items → (peer snap : ℕ) → c ≡ length (heard_bars peer ballot commit exec snap (view n m)).items
    high_count c q peer snap = q ∙ sym (ap length (items_are peer snap))

  module _ (area : List ℕ) (place peer : ℕ) (p : peer < n.population) (snap : ℕ) where
    abbrev due : machine.Done
    due = heard_bars peer ballot commit exec snap (view n m)

    pub low_does : exec < n.exec_bar.0 → Does due place m area n place m area
    unfolding encode
    low_does h =
        let e = low_is peer snap h in
        rw e (record { count = (let z : place ≡ place + 0 = omega arith in z); next = refl; items = refl; size = refl; beyond = λ j l. refl; ready_again = y })

    module _ (h : n.exec_bar.0 ≤ exec) (o : place + length due.items ≤ places area) where
      pub room : (slot_words ≤ length words) × (n.start_slot.0 ≤ n.commit_bar.0) × (n.commit_bar.0 ≤ n.start_slot.0 + n.slots) × (place + length items ≤ places area)
      room = (omega (arith, words_long), asked.0, asked.1, rw (← (items_are h peer snap)) o)

      module _ (end : ℕ) (s' area' : List ℕ) (a : Advances place n.start_slot.0 n.slots n.commit_bar.0 ballot commit words area end s' area') where
        abbrev m₁ : List ℕ
        m₁ = splice m slots_at slot_words s'

        long : length s' ≡ slot_words
        long = a.size ∙ words_long

        size₁ : length m₁ ≡ length m
        size₁ = slots_size n m r.long s' long

        pub size_1 : node_words ≤ length m₁
        size_1 = rw size₁ r.long

        pub execs_long : length (take 64 (drop 128 m₁)) ≡ 64
        unfolding part
        execs_long = length_part m₁ execs_at replica_places (omega (arith, size_1))

        pub heard_room : (n.population ≤ length (take 64 (drop 128 m₁))) × (peer < n.population)
        heard_room = (rw execs_long r.few, p)

        abbrev walked_to : machine.Replica
        walked_to = machine.with_insts (insts_of n.start_slot.0 n.slots s') (view n m)

        due_is : due ≡ machine.done (machine.with_snap (snap_left n.population n.id.0 peer exec snap (words_from n.population (part m execs_at replica_places) 0) n.snap_bar.0)
            (machine.with_peer_exec_bar (execs_left n.id.0 peer exec (words_from n.population (part m execs_at replica_places) 0)) walked_to)) items
        unfolding view part
        due_is =
            high_is h peer snap ∙ rw (advance_is (view n m) refl refl refl a) (rw (heard_peer peer exec snap walked_to, append-nil items))

        module _ (x : Slot) (e' : List ℕ) (l : length e' ≡ length (take 64 (drop 128 m₁))) (b : HearsPeer n.population n.id.0 peer exec snap n.snap_bar.0 (take 64 (drop 128 m₁)) x.0 e') where
          abbrev m₂ : List ℕ
          m₂ = splice m₁ execs_at replica_places e'

          short : length e' ≡ 64
          short = l ∙ execs_long

          execs_same : part m₁ execs_at replica_places ≡ part m execs_at replica_places
          execs_same = part_before m slots_at slot_words s' (omega (arith, r.long)) long execs_at replica_places (omega arith)

          next_is : view (snapped n x) m₂ ≡ machine.with_snap x.0 (machine.with_peer_exec_bar (words_from n.population e' 0) walked_to)
          unfolding view
          next_is =
              execs_back (snapped n x) m₁ size_1 e' short
              ∙ ap (λ (z : machine.Replica). machine.with_snap x.0 (machine.with_peer_exec_bar (words_from n.population e' 0) z)) (slots_back n m r.long s' long)

          bars_are : machine.with_snap x.0 (machine.with_peer_exec_bar (words_from n.population e' 0) walked_to) ≡ due.replica
          unfolding part
          bars_are =
              ap (λ (z : List ℕ). machine.with_snap x.0 (machine.with_peer_exec_bar z walked_to)) b.execs
              ∙ ap (λ (z : ℕ). machine.with_snap z (machine.with_peer_exec_bar (execs_left n.id.0 peer exec (words_from n.population (part m₁ execs_at replica_places) 0)) walked_to)) b.answer
              ∙ rw execs_same (sym (ap (λ (d : machine.Done). d.replica) due_is))

          again : ready (snapped n x) m₂ ≡ true
          unfolding ready
          again = execs_ready n m₁ size_1 e' short ∙ slots_ready n m r.long s' long ∙ y

          pub high_does : Does due place m area (snapped n x) end m₂ area'
          high_does =
              record {
                count = a.next ∙ sym (ap (λ (z : List Item). place + length z) (items_are h peer snap));
                next = next_is ∙ bars_are;
                items = a.items ∙ sym (ap (λ (z : List Item). writes area (place * 6) (encode z)) (items_are h peer snap));
                size = execs_size n m₁ size_1 e' short ∙ size₁;
                beyond = λ j l. execs_beyond n m₁ size_1 e' short j l ∙ slots_beyond n m r.long s' long j l;
                ready_again = again;
              }
