-- *release*: its grounds, and the held reads answered.
use mathlib.Core.Path.{◌≡◌, refl, sym, ap, ◌∙◌}
use mathlib.Core.Bool.{Bool, true, not, ◌||◌}
use mathlib.Core.List.{List, []}
use Prim.Native.Nat.{ℕ, ◌+◌, ◌/◌, ◌≤◌, ◌<◌}
use native.Mathlib.Nat.{zero-add}
use native.Mathlib.Decide.{dec_lt}
use native.Mathlib.Omega.{arith}
use lib.Dec.{ltb, leb}
use lib.ListN.{length}
use borrow.Author.Tests.{lt-ltb, le-ltb, le-leb, lt-leb, ltb-false, leb-false}
use Rattle.words.specs.Part.{part, splice, length_part}
use Rattle.words.proofs.Tests.{or_both}
use Rattle.ids.specs.Leader.{leader_of}
use Rattle.layout.specs.Layout.{held_places, slot_words, slots_at}
use Rattle.items.specs.Item.{Item, places}
use Rattle.items.specs.Area.{HasRoom}
use Rattle.roster_conf.specs.Edits.{view as roster_of}
use Rattle.roster_conf.specs.Ground.{◌when◌or◌}
use Rattle.bodega.specs.Replica as machine
use Rattle.bodega.specs.Grounds.{grounds, is_held}
use Rattle.bodega.specs.Step.{effect}
use Rattle.bodega.specs.Answers.{Answers}
use Rattle.insts.specs.Slots.{place_of, inst_in}
use Rattle.release_held_reads.specs.Release.{holding_of, answers_of, emptied, Releases}
use Rattle.release_held_reads.proofs.Laws.{length_answers}
use Rattle.release_held_reads.proofs.Machine.{release_is, emptied_is}
use Rattle.node.specs.declared.Node.{Node}
use Rattle.std.specs.Prelude.{Result, Ok, Err, IsErrAnd}
use Rattle.ids.specs.Refusal.{number_of}
use Rattle.ids.specs.declared.Refusal.{Refusal}
use Rattle.ids.specs.declared.Refusal.TheVariants.{AreaTooSmall}
use Rattle.node.specs.declared.Taken.{Taken}
use Rattle.node.specs.View.{view, ready, lowest, given_of}
use Rattle.node.proofs.Calls.{Ready, is_ready, refused_by, few_places, taken_with, none_applies}
use Rattle.node.proofs.Frames.{slots_back, slots_size, slots_beyond, slots_ready}
use Rattle.node.proofs.Slots.{not_below, not_past, held_at_lem, set_at}
use Rattle.call_release.specs.Release.{release_refusal}

-- ---- the call

module _ (n : Node) (m area : List ℕ) (slot : ℕ) (y : ready n m ≡ true) where
  abbrev start : ℕ
  start = n.start_slot.0

  held_test : not (is_held (view n m) slot) ≡ (ltb slot start || leb (start + n.slots) slot)
  held_test =
      elim (dec_lt slot start) [
        | yes a ↦ rw (not_below n m slot a, lt-ltb slot start a)
        | no a ↦ elim (dec_lt slot (start + n.slots)) [
          | yes b ↦ rw (held_at_lem n m slot (omega arith) b, le-ltb slot start (omega arith), lt-leb (start + n.slots) slot b)
          | no b ↦ rw (not_past n m slot (omega arith) (omega arith), le-ltb slot start (omega arith), le-leb (start + n.slots) slot (omega arith))
        ]
      ]

  number_is : release_refusal start n.slots slot ≡ lowest (grounds (view n m) (machine.Release slot))
  unfolding grounds
  number_is = ap (λ (b : Bool). lowest (8 when ltb 281474976710655 slot or 16 when b or [])) (sym held_test)

  pub release_refused : (x : Refusal) (r : Result Taken Refusal) → number_of x ≡ release_refusal start n.slots slot → IsErrAnd r (λ v. v ≡ x)
      → Answers ready view (machine.Release slot) n m area (given_of n r) m area
  release_refused x r g = refused_by (machine.Release slot) n m area true (sym y) refl x r (g ∙ number_is)

  module _ (z : 0 ≡ release_refusal start n.slots slot) where
    r : Ready n m
    r = is_ready n m true (sym y) refl

    in_window : (start ≤ slot) × (slot < start + n.slots)
    unfolding grounds
    in_window =
        let q = or_both (ltb slot start) (leb (start + n.slots) slot) (sym held_test ∙ (none_applies (machine.Release slot) n m (z ∙ number_is)).1.0) in
        (ltb-false slot start q.0, leb-false (start + n.slots) slot q.1)

    abbrev s : List ℕ
    s = part m slots_at slot_words

    abbrev inst : machine.Instance
    inst = inst_in s (place_of slot)

    abbrev items : List Item
    items = answers_of n.quorum (leader_of n.bodega_conf.leader) inst

    effect_is : effect (view n m) (machine.Release slot) ≡ machine.done (machine.set_inst slot (emptied inst) (view n m)) items
    unfolding effect view roster_of
    effect_is = release_is (view n m) slot inst (held_at_lem n m slot in_window.0 in_window.1)

    module _ (h : ℕ) (p : (h ≡ length (holding_of inst)) × (h ≤ held_places)) where
      many : length items ≡ h
      many = length_answers n.quorum (leader_of n.bodega_conf.leader) inst ∙ sym p.0

      pub release_20 : (x : Refusal) (r : Result Taken Refusal) → HasRoom area h (Err x) → IsErrAnd r (λ v. v ≡ x) → Answers ready view (machine.Release slot) n m area (given_of n r) m area
      release_20 x r q = few_places (machine.Release slot) n m (z ∙ number_is) area true (sym y) refl x r (q.0, rw (effect_is, many) q.1)

      module _ (q : h ≤ places area) where
        pub room : (slot_words ≤ length s) × (length (holding_of inst) ≤ places area)
        room = (omega (arith, length_part m slots_at slot_words (omega (arith, r.long))), omega (arith, p.0))

        pub release_taken : (s' area' : List ℕ) (count : ℕ) → Releases n.quorum (leader_of n.bodega_conf.leader) (place_of slot) 0 s area count s' area'
            → Answers ready view (machine.Release slot) n m area (given_of n (Ok (record { node = n; count = count }))) (splice m slots_at slot_words s') area'
        release_taken s' area' count x =
            let l : length s' ≡ slot_words = x.emptied.size ∙ length_part m slots_at slot_words (omega (arith, r.long)) in
            rw (x.next ∙ zero-add (length items))
            (taken_with (machine.Release slot) n m (z ∙ number_is) area true (sym y) refl (machine.set_inst slot (emptied inst) (view n m)) items n (splice m slots_at slot_words s') area'
            effect_is (rw many q)
            (slots_back n m r.long s' l ∙ set_at n m slot in_window.0 in_window.1 r.window x.emptied ∙ ap (λ (i : machine.Instance). machine.set_inst slot i (view n m)) (emptied_is s (place_of slot)))
            x.items (slots_size n m r.long s' l) (slots_beyond n m r.long s' l) (slots_ready n m r.long s' l ∙ y))
