-- *commit*: its grounds, and the walk at the node's view.
use Rattle.std.specs.Prelude.{Result, Ok, Err, IsErrAnd}
use mathlib.Core.Path.{◌≡◌, refl, sym, ◌∙◌}
use mathlib.Core.Bool.{true, false, not}
use mathlib.Core.List.{List}
use Prim.Native.Nat.{ℕ, ◌+◌, ◌≤◌, ◌<◌}
use native.Mathlib.Nat.{zero-add}
use native.Mathlib.Omega.{arith}
use lib.ListN.{length}
use lib.Dec.{eqb}
use borrow.Author.Tests.{not-true, not-false}
use Rattle.words.specs.Part.{part, splice, length_part}
use Rattle.ids.specs.Refusal.{number_of}
use Rattle.ids.specs.declared.Refusal.{Refusal}
use Rattle.ids.specs.declared.Refusal.TheVariants.{AreaTooSmall}
use Rattle.layout.specs.Layout.{slot_words, slots_at, node_words}
use Rattle.items.specs.Item.{Item, places}
use Rattle.items.specs.Area.{HasRoom}
use Rattle.bodega.specs.Replica as machine
use Rattle.bodega.specs.Heartbeat.{heard_commit_notice, advance_commit_bar}
use Rattle.bodega.specs.Grounds.{grounds}
use Rattle.bodega.specs.Step.{effect}
use Rattle.bodega.specs.Answers.{Answers}
use Rattle.insts.specs.Slots.{insts_of}
use Rattle.advance_commit_bar.specs.Walk.{walked, Advances}
use Rattle.advance_commit_bar.proofs.Laws.{advance_is}
use Rattle.node.specs.declared.Node.{Node}
use Rattle.node.specs.declared.Taken.{Taken}
use Rattle.node.specs.View.{view, ready, given_of}
use Rattle.node.proofs.Calls.{Ready, is_ready, refused_by, few_places, taken_by, taken_with}
use Rattle.node.proofs.Frames.{slots_back, slots_size, slots_beyond, slots_ready}
use Rattle.call_commit.specs.Commit.{commit_refusal}

module _ (n : Node) (m area : List ℕ) (peer ballot bar : ℕ) (y : ready n m ≡ true) where
  abbrev call : machine.Call
  call = machine.CommitNotice peer ballot bar

  abbrev words : List ℕ
  words = part m slots_at slot_words

  abbrev items : List Item
  items = (walked n.start_slot.0 n.slots n.commit_bar.0 ballot bar words).items

  r : Ready n m
  r = is_ready n m true (sym y) refl

  words_long : length words ≡ slot_words
  words_long = length_part m slots_at slot_words (omega (arith, r.long))

  pub long : slots_at + slot_words ≤ length m
  long = omega (arith, r.long)

  pub whole : node_words ≤ length m
  whole = r.long

  pub asked : (n.start_slot.0 ≤ n.commit_bar.0) × (n.commit_bar.0 ≤ n.start_slot.0 + n.slots)
  asked = let a = r.start_exec_lem in let b = r.exec_commit_lem in (omega arith, r.commit_end_lem)

  pub commit_refused : (x : Refusal) (z : Result Taken Refusal) → number_of x ≡ commit_refusal n.population peer bar → IsErrAnd z (λ u. u ≡ x)
      → Answers ready view call n m area (given_of n z) m area
  unfolding grounds view
  commit_refused = refused_by call n m area true (sym y) refl

  module _ (g : 0 ≡ commit_refusal n.population peer bar) where
    pub other_ballot : true ≡ not (eqb ballot n.bal_max_seen.0) → Answers ready view call n m area (given_of n (Ok (record { node = n; count = 0 }))) m area
    unfolding effect heard_commit_notice grounds view
    other_ballot h = taken_by call n m g area true (sym y) refl (view n m) n m (rw (not-true (eqb ballot n.bal_max_seen.0) (sym h))) refl refl (λ j l. refl) y

    module _ (b : false ≡ not (eqb ballot n.bal_max_seen.0)) (c : ℕ) (q : c ≡ length items) where
      walks : effect (view n m) call ≡ advance_commit_bar (view n m) ballot bar
      unfolding effect heard_commit_notice view
      walks = rw (not-false (eqb ballot n.bal_max_seen.0) (sym b))

      pub commit_20 : (x : Refusal) (r : Result Taken Refusal) → HasRoom area c (Err x) → IsErrAnd r (λ v. v ≡ x) → Answers ready view call n m area (given_of n r) m area
      unfolding grounds view part advance_commit_bar
      commit_20 x r h = few_places call n m g area true (sym y) refl x r (h.0, rw walks (rw q at h.1))

      pub room : c ≤ places area
          → (slot_words ≤ length words) × (n.start_slot.0 ≤ n.commit_bar.0) × (n.commit_bar.0 ≤ n.start_slot.0 + n.slots) × (0 + length items ≤ places area)
      room h = (omega (arith, words_long), asked.0, asked.1, rw (zero-add (length items), ← q) h)

      pub commit_taken : c ≤ places area → (s' area' : List ℕ) (x : ℕ) → Advances 0 n.start_slot.0 n.slots n.commit_bar.0 ballot bar words area x s' area'
          → Answers ready view call n m area (given_of n (Ok (record { node = n; count = c }))) (splice m slots_at slot_words s') area'
      unfolding grounds view part
      commit_taken h s' area' x a =
          let size : length s' ≡ slot_words = a.size ∙ words_long in
          rw q
          (taken_with call n m g area true (sym y) refl (machine.with_insts (insts_of n.start_slot.0 n.slots s') (view n m)) items n (splice m slots_at slot_words s') area'
          (walks ∙ advance_is (view n m) refl refl refl a) (rw (← q) h) (slots_back n m r.long s' size) a.items
          (slots_size n m r.long s' size) (slots_beyond n m r.long s' size) (slots_ready n m r.long s' size ∙ y))
