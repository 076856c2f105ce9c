-- The grounds of *bars* test by test, the slots executed one by one, and the call.
use Rattle.std.specs.Prelude.{Result, Ok, IsErrAnd}
use mathlib.Core.Path.{◌≡◌, refl, sym, ap, ◌∙◌}
use mathlib.Core.Bool.{Bool, true, false, not, ◌&&◌, ◌||◌}
use mathlib.Core.List.{List, [], ◌∷◌}
use Rattle.std.specs.Prelude.{Some}
use Prim.Native.Nat.{ℕ, zero, suc, ◌+◌, ◌-◌, ◌%◌, ◌≤◌, ◌<◌, min}
use native.Mathlib.Numerals.{add-one}
use native.Mathlib.Omega.{arith}
use lib.Dec.{ltb, leb}
use Rattle.std.specs.List.{slice_get}
use lib.ListN.{length, set, take, drop}
use borrow.Author.Tests.{ltb-false, leb-true, not-false}
use Rattle.words.specs.Part.{part, splice, length_part}
use Rattle.ids.specs.declared.Refusal.{Refusal}
use Rattle.ids.specs.Refusal.{number_of}
use Rattle.ids.specs.declared.Slot.{Slot}
use Rattle.inst_cell.specs.Cell.{with_status as short_with}
use Rattle.bodega.specs.Replica.{Instance, Bars, Executed, with_status, with_insts}
use Rattle.bodega.specs.Events.{executed, bars}
use Rattle.bodega.specs.Grounds.{far, grounds}
use Rattle.bodega.specs.Step.{effect}
use Rattle.bodega.specs.Answers.{Answers}
use Rattle.insts.specs.Slots.{short_at, batch_at, reads_at, inst_in, insts_of, Puts}
use Rattle.insts.proofs.Laws.{moved, dropped, inst_at_lem, length_insts}
use Rattle.node.specs.declared.Node.{Node}
use Rattle.node.specs.declared.Taken.{Taken}
use Rattle.node.specs.View.{view, ready, given_of}
use Rattle.words.proofs.Tests.{and_both, or_both}
use Rattle.layout.specs.Layout.{slot_places, slot_words, slots_at, node_words}
use Rattle.node.proofs.Calls.{Ready, is_ready, made_ready, refused_by, taken_by, none_applies}
use Rattle.node.proofs.Frames.{slots_back, slots_size, slots_beyond}
use Rattle.call_bars.specs.Moves.{lowered, in_order, open_below, holds_below, bars_refusal, Executes}

-- ---- a test after another

-- no bar falls, and start ≤ exec ≤ commit ≤ end
pub record Kept (start₀ n start commit exec : ℕ) : Type 0 where
  pub start_up : start₀ ≤ start
  pub start_exec_lem : start ≤ exec
  pub exec_commit_lem : exec ≤ commit
  pub commit_held : commit ≤ start₀ + n

kept : (start₀ commit₀ exec₀ n start commit exec : ℕ) → lowered start₀ commit₀ exec₀ start commit exec ≡ false → in_order start exec commit (start₀ + n) ≡ true → Kept start₀ n start commit exec
kept start₀ commit₀ exec₀ n start commit exec e g =
    let a = or_both (ltb start start₀ || ltb commit commit₀) (ltb exec exec₀) e in
    let b = or_both (ltb start start₀) (ltb commit commit₀) a.0 in
    let x = and_both (leb start exec && leb exec commit) (leb commit (start₀ + n)) g in
    let y = and_both (leb start exec) (leb exec commit) x.0 in
    record {
      start_up = ltb-false start start₀ b.0;
      start_exec_lem = leb-true start exec y.0;
      exec_commit_lem = leb-true exec commit y.1;
      commit_held = leb-true commit (start₀ + n) x.1;
    }

-- ---- the slots executed, one by one

one_more : (i : ℕ) (l : List Instance) (v : Instance) → slice_get (executed i l) i ≡ Some v → set (executed i l) i (with_status Executed v) ≡ executed (suc i) l
unfolding executed
one_more zero [] v e = let z : ◌≡◌ {A = ℕ} 0 1 = cc in absurd (omega arith)
one_more zero (a ∷ l) v e = let q : a ≡ v = cc in ap (λ (x : Instance). with_status Executed x ∷ l) (sym q)
one_more (suc i) [] v e = let z : ◌≡◌ {A = ℕ} 0 1 = cc in absurd (omega arith)
one_more (suc i) (a ∷ l) v e = ap (λ (x : List Instance). with_status Executed a ∷ x) (one_more i l v e)

pub execute_start : (start : ℕ) (s : List ℕ) → Executes start 0 s s
unfolding executed
execute_start start s = record { insts = λ k a b. refl; size = refl }

pub execute_step : {s t u : List ℕ} (start i : ℕ) → i < slot_places → Executes start i s t
    → Puts t ((start + i) % slot_places) (short_with Executed (short_at t ((start + i) % slot_places))) (batch_at t ((start + i) % slot_places)) (reads_at t ((start + i) % slot_places)) u → Executes start (i + 1) s u
unfolding inst_in
execute_step {s = s} {t = t} start i h x p =
    record {
      insts = λ k a b.
          let was : insts_of start k t ≡ executed i (insts_of start k s) = x.insts k (omega arith) b in
          let at : slice_get (executed i (insts_of start k s)) i ≡ Some (inst_in t ((start + i) % slot_places)) = ap (λ (l : List Instance). slice_get l i) (sym was) ∙ inst_at_lem start k i t (omega arith) in
          moved start k i p (omega arith) b ∙ ap (λ (l : List Instance). set l i (with_status Executed (inst_in t ((start + i) % slot_places)))) was
          ∙ one_more i (insts_of start k s) (inst_in t ((start + i) % slot_places)) at ∙ ap (λ (j : ℕ). executed j (insts_of start k s)) (sym (add-one i));
      size = p.size ∙ x.size;
    }

-- ---- the call

abbrev pub next : Node → Slot → Slot → Slot → Slot → Node
next n start accept commit exec =
    record n { start_slot = start; accept_bar = accept; commit_bar = commit; exec_bar = exec; slots = n.slots - (start.0 - n.start_slot.0) }

module _ (n : Node) (m area : List ℕ) (start accept commit exec : Slot) (y : ready n m ≡ true) where
  abbrev words : List ℕ
  words = take slot_words (drop slots_at m)

  r : Ready n m
  r = is_ready n m true (sym y) refl

  pub whole : node_words ≤ length m
  whole = r.long

  pub long : slots_at + slot_words ≤ length m
  long = omega (arith, r.long)

  words_long : length words ≡ slot_words
  unfolding part
  words_long = length_part m slots_at slot_words (omega (arith, r))

  abbrev refusal : ℕ
  refusal = bars_refusal n.start_slot.0 n.commit_bar.0 n.exec_bar.0 (insts_of n.start_slot.0 n.slots words) start.0 accept.0 commit.0 exec.0

  pub bars_refused : (x : Refusal) (z : Result Taken Refusal) → number_of x ≡ refusal → IsErrAnd z (λ u. u ≡ x) → Answers ready view (Bars start.0 accept.0 commit.0 exec.0) n m area (given_of n z) m area
  unfolding grounds view part
  bars_refused = refused_by (Bars start.0 accept.0 commit.0 exec.0) n m area true (sym y) refl

  module _ (g : 0 ≡ refusal) where
    kept_bars : Kept n.start_slot.0 n.slots start.0 commit.0 exec.0
    unfolding grounds view part
    kept_bars =
        let a = (none_applies (Bars start.0 accept.0 commit.0 exec.0) n m g).1.0 in
        let l : List Instance = insts_of n.start_slot.0 n.slots words in
        let low : Bool = lowered n.start_slot.0 n.commit_bar.0 n.exec_bar.0 start.0 commit.0 exec.0 in
        let order : Bool = in_order start.0 exec.0 commit.0 (n.start_slot.0 + length l) in
        let b = (or_both (low || not order || open_below n.start_slot.0 l commit.0) (holds_below n.start_slot.0 l start.0) a).0 in
        let c = (or_both (low || not order) (open_below n.start_slot.0 l commit.0) b).0 in
        let d = or_both low (not order) c in
        kept n.start_slot.0 n.commit_bar.0 n.exec_bar.0 n.slots start.0 commit.0 exec.0 d.0
        (ap (λ (j : ℕ). in_order start.0 exec.0 commit.0 (n.start_slot.0 + j)) (sym (length_insts n.start_slot.0 n.slots words)) ∙ not-false order d.1)

    pub slots_left : start.0 - n.start_slot.0 ≤ n.slots
    slots_left = let a = kept_bars in omega (arith, a)

    start_low_lem : start.0 ≤ 281474976710655
    unfolding grounds view part
    start_low_lem =
        let a = (none_applies (Bars start.0 accept.0 commit.0 exec.0) n m g).0 in
        let b = (or_both (far start.0 || far accept.0 || far commit.0) (far exec.0) a).0 in
        let c = (or_both (far start.0 || far accept.0) (far commit.0) b).0 in
        ltb-false 281474976710655 start.0 (or_both (far start.0) (far accept.0) c).0

    module _ (s' : List ℕ) (executes : Executes n.start_slot.0 (min (exec.0 - n.start_slot.0) n.slots) words s') where
      x : Executes n.start_slot.0 (exec.0 - n.start_slot.0) words s'
      x = let w = kept_bars in let e : min (exec.0 - n.start_slot.0) n.slots ≡ exec.0 - n.start_slot.0 = omega (arith, w) in rw e at executes

      abbrev d : Node
      d = next n start accept commit exec

      abbrev gone : ℕ
      gone = start.0 - n.start_slot.0

      abbrev m' : List ℕ
      m' = splice m slots_at slot_words s'

      size : length s' ≡ slot_words
      size = x.size ∙ words_long

      insts_are : insts_of start.0 (n.slots - gone) s' ≡ drop gone (executed (exec.0 - n.start_slot.0) (insts_of n.start_slot.0 n.slots words))
      insts_are =
          let w = kept_bars in
          let q : start.0 ≡ n.start_slot.0 + gone = omega (arith, w) in
          ap (λ (j : ℕ). insts_of j (n.slots - gone) s') q ∙ dropped n.start_slot.0 n.slots gone s' (omega (arith, w))
          ∙ ap (drop gone) (x.insts n.slots (omega (arith, w)) r.window)

      view_is : view d m' ≡ bars (view n m) start.0 accept.0 commit.0 exec.0
      unfolding view bars part
      view_is = slots_back d m r.long s' size ∙ ap (λ (l : List Instance). with_insts l (view d m)) insts_are

      same_size : length m' ≡ length m
      same_size = slots_size d m r.long s' size

      again : Ready d m'
      again =
          let w = kept_bars in
          record {
            long = rw same_size r.long;
            quorate = r.quorate;
            enough = r.enough;
            few = r.few;
            own = r.own;
            ranges = r.ranges;
            start_low_lem = start_low_lem;
            start_exec_lem = w.start_exec_lem;
            exec_commit_lem = w.exec_commit_lem;
            window = omega (arith, r.window);
            commit_end_lem = omega (arith, w);
          }

      pub bars_moved : Answers ready view (Bars start.0 accept.0 commit.0 exec.0) n m area (given_of n (Ok (record { node = d; count = 0 }))) m' area
      unfolding effect grounds view part
      bars_moved =
          taken_by (Bars start.0 accept.0 commit.0 exec.0) n m g area true (sym y) refl (bars (view n m) start.0 accept.0 commit.0 exec.0) d m' refl
          view_is same_size (slots_beyond d m r.long s' size) (made_ready d m' again)
