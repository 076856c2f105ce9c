-- The grounds of *record* test by test, the slot's place, the slots, and the call.
use mathlib.Core.Path.{◌≡◌, refl, sym, ap, ◌∙◌}
use mathlib.Core.Bool.{Bool, true, false, not, ◌||◌}
use mathlib.Core.List.{List, [], ◌++◌}
use Rattle.std.specs.Prelude.{Option, None, Some, Result, Ok, IsErrAnd, slice_get, if◌then◌else◌}
use Prim.Native.Nat.{ℕ, ◌+◌, ◌-◌, ◌%◌, ◌≤◌, ◌<◌}
use native.Mathlib.Omega.{arith}
use lib.Dec.{ltb, leb, eqb}
use lib.ListN.{length, set, take, drop, replicate}
use borrow.Author.Tests.{le-ltb, ltb-false, leb-false}
use Rattle.words.specs.Choice.{if_none◌then◌else◌}
use Rattle.words.proofs.Tests.{or_both}
use Rattle.words.specs.Part.{part, splice, Untouched, length_part, part_before}
use Rattle.ids.specs.Leader.{leader_of}
use Rattle.ids.specs.Limits.{keys, window, batch}
use Rattle.ids.specs.Refusal.{number_of}
use Rattle.ids.specs.declared.Refusal.{Refusal}
use Rattle.layout.specs.Layout.{slot_places, batch_words, slot_words, written_words, slots_at, written_at, node_words}
use Rattle.roster_conf.specs.Edits.{view as roster_of}
use Rattle.inst_cell.specs.Cell.{Notices}
use Rattle.highest_slot.specs.Written.{written_of}
use Rattle.bodega.specs.Replica.{Replica, Request, ReadReq, Highest, Instance, Call, Record, new_book, null_instance, is_open, is_leader, inst_at, set_inst, pad, with_insts, with_highest_slot}
use Rattle.bodega.specs.Localread.{refresh_highest_slot}
use Rattle.bodega.specs.Events.{accepting, recorded}
use Rattle.bodega.specs.Grounds.{far, grounds}
use Rattle.bodega.specs.Step.{effect}
use Rattle.bodega.specs.Answers.{Answers}
use Rattle.req_batch.specs.Given.{given, any_long}
use Rattle.highest_slot_refresh.specs.Refresh.{Refreshes}
use Rattle.insts.specs.Slots.{short_at, reads_at, seen_reads, book_of, inst_of, inst_in, insts_of, Puts}
use Rattle.insts.proofs.Laws.{moved, inst_at_lem, inst_none, length_insts}
use Rattle.node.specs.declared.Node.{Node}
use Rattle.node.specs.declared.Taken.{Taken}
use Rattle.node.specs.View.{view, ready, given_of, lowest, leads_it}
use Rattle.node.proofs.Calls.{Ready, is_ready, made_ready, number-not-0, refused_by, taken_by}
use Rattle.node.proofs.Frames.{slots_back, slots_size, slots_beyond, written_back, written_size, written_beyond}
use Rattle.call_record.specs.Records.{batch_refusal, slot_refusal, late_refusal, ended, kept_book, accepting_short, Pads, accepting_by, Records, Recorded}

-- ---- 5, 8, 9, and the others after them

abbrev first : Bool → Bool → Bool → ℕ → ℕ
first a b c l = if a then 5 else if b then 8 else if c then 9 else l

first_of : (a b c : Bool) (k l : ℕ) → k ≡ first a b c 0 → (k ≡ 0 → ⊥) → k ≡ first a b c l
first_of true b c k l e h = e
first_of false true c k l e h = e
first_of false false true k l e h = e
first_of false false false k l e h = absurd (h e)

none_of : (a b c : Bool) → 0 ≡ first a b c 0 → (a ≡ false) × (b ≡ false) × (c ≡ false)
none_of true b c e = absurd (omega (arith, e))
none_of false true c e = absurd (omega (arith, e))
none_of false false true e = absurd (omega (arith, e))
none_of false false false e = (refl, refl, refl)

-- ---- 13, 14, 15, 18

abbrev second : Bool → Bool → Bool → Bool → ℕ
second a b c d = if a then 13 else if b then 14 else if c then 15 else if d then 18 else 0

none_late : (a b c d : Bool) → 0 ≡ second a b c d → (b ≡ false) × (c ≡ false) × (d ≡ false)
none_late true b c d e = absurd (omega (arith, e))
none_late false true c d e = absurd (omega (arith, e))
none_late false false true d e = absurd (omega (arith, e))
none_late false false false true e = absurd (omega (arith, e))
none_late false false false false e = (refl, refl, refl)

-- ---- 14

module _ (start n slot : ℕ) (s : List ℕ) where
  abbrev end_of : Option Instance → Bool
  end_of o = if_none o then false else λ i. not (is_open i.status)

  module _ (h : start ≤ slot) where
    from_start : end_of (slice_get (insts_of start n s) (slot - start)) ≡ ended start (insts_of start n s) slot
    from_start = sym (simp (le-ltb slot start h))

    pub past_end : start + n ≤ slot → false ≡ ended start (insts_of start n s) slot
    past_end g = sym (ap end_of (inst_none start n (slot - start) s (omega arith))) ∙ from_start

    pub held_slot : slot < start + n → (t : Bool) → t ≡ is_open (inst_in s (slot % slot_places)).status → not t ≡ ended start (insts_of start n s) slot
    held_slot g t e =
        let q : slot ≡ start + (slot - start) = omega arith in
        ap not e ∙ ap (λ (j : ℕ). not (is_open (inst_in s (j % slot_places)).status)) q ∙ sym (ap end_of (inst_at_lem start n (slot - start) s (omega arith))) ∙ from_start

-- ---- the slots

book_is : (leader : Bool) (o : Option Notices) (l : List ReadReq)
    → book_of (kept_book leader o) (seen_reads o l) ≡ (if leader then book_of o l else if_none book_of o l then Some new_book else λ b. Some b)
book_is true None l = refl
book_is true (Some b) l = refl
book_is false None l = refl
book_is false (Some b) l = refl

accepting_is : (leader : Bool) (ballot : ℕ) (qs : List Request) (s : List ℕ) (c : ℕ)
    → inst_of (accepting_short leader ballot (short_at s c).replica_bk) qs (seen_reads (short_at s c).replica_bk (reads_at s c)) ≡ accepting_by leader ballot qs (inst_in s c)
unfolding inst_in
accepting_is leader ballot qs s c = rw (book_is leader (short_at s c).replica_bk (reads_at s c))

pub accepted : {s t u : List ℕ} {qs : List Request} (start n slot ballot r : ℕ) (leader : Bool) → start ≤ slot → Pads start n (slot - start) s t r
    → Puts t (slot % slot_places) (accepting_short leader ballot (short_at t (slot % slot_places)).replica_bk) qs (seen_reads (short_at t (slot % slot_places)).replica_bk (reads_at t (slot % slot_places))) u
    → Records start n slot ballot leader qs s u r
accepted {s = s} {t = t} {u = u} {qs = qs} start n slot ballot r leader h p q =
    let e : slot ≡ start + (slot - start) = omega arith in
    let z : slot - start + 1 - n ≡ slot + 1 - (start + n) = omega arith in
    let g : insts_of start r t ≡ insts_of start n s ++ replicate (slot + 1 - (start + n)) null_instance
    = p.insts ∙ ap (λ (j : ℕ). insts_of start n s ++ replicate j null_instance) z in
    let at : slice_get (insts_of start r t) (slot - start) ≡ Some (inst_in t (slot % slot_places))
    = inst_at_lem start r (slot - start) t p.within ∙ ap (λ (j : ℕ). Some (inst_in t (j % slot_places))) (sym e) in
    record {
      old = inst_in t (slot % slot_places);
      was = ap (λ (l : List Instance). slice_get l (slot - start)) (sym g) ∙ at;
      insts = put start (slot - start) (sym e) p.within p.few q ∙ ap (λ (l : List Instance). set l (slot - start) (accepting_by leader ballot qs (inst_in t (slot % slot_places)))) g;
      size = q.size ∙ p.size;
      more = p.more;
      few = p.few;
    }
  where
    put : (start k : ℕ) → start + k ≡ slot → k < r → r ≤ slot_places
        → Puts t (slot % slot_places) (accepting_short leader ballot (short_at t (slot % slot_places)).replica_bk) qs (seen_reads (short_at t (slot % slot_places)).replica_bk (reads_at t (slot % slot_places))) u
        → insts_of start r u ≡ set (insts_of start r t) k (accepting_by leader ballot qs (inst_in t (slot % slot_places)))
    put start k e a b q =
        let at : Puts t ((start + k) % slot_places) (accepting_short leader ballot (short_at t (slot % slot_places)).replica_bk) qs (seen_reads (short_at t (slot % slot_places)).replica_bk (reads_at t (slot % slot_places))) u
        = rw (ap (λ (j : ℕ). j % slot_places) e) q in
        moved start r k at a b ∙ ap (set (insts_of start r t) k) (accepting_is leader ballot qs t (slot % slot_places))

-- ---- the ballot

pub leads_is : (n : Node) (t : Bool) → t ≡ is_leader (view n []) → t ≡ leads_it (leader_of n.bodega_conf.leader) n.id.0
unfolding view roster_of
leads_is n t e = e

-- ---- the node after it

recorded_is : (r : Replica) (slot ballot : ℕ) (qs : List Request) (l : List Instance) (i : Instance) → r.bar.start ≤ slot
    → r.insts ++ replicate (slot + 1 - (r.bar.start + length r.insts)) null_instance ≡ l → slice_get l (slot - r.bar.start) ≡ Some i
    → recorded r slot ballot qs ≡ with_insts (set l (slot - r.bar.start) (accepting r ballot qs i)) (with_highest_slot (refresh_highest_slot slot qs r.highest_slot) r)
unfolding recorded inst_at set_inst pad
recorded_is r slot ballot qs l i h e g = rw (le-ltb slot r.bar.start h, e, g)

module _ (n : Node) (m : List ℕ) (slot ballot : ℕ) (ok : ready n m ≡ true) where
  abbrev start : ℕ
  start = n.start_slot.0

  abbrev written : List ℕ
  written = take written_words (drop written_at m)

  abbrev words : List ℕ
  words = take slot_words (drop slots_at m)

  r : Ready n m
  r = is_ready n m true (sym ok) refl

  pub long : node_words ≤ length m
  long = omega (arith, r.long)

  words_long : length words ≡ slot_words
  unfolding part
  words_long = length_part m slots_at slot_words (omega (arith, r))

  written_long : length written ≡ written_words
  unfolding part
  written_long = length_part m written_at written_words (omega (arith, r))

  abbrev leader : Bool
  leader = leads_it (leader_of n.bodega_conf.leader) n.id.0

  abbrev current : Bool → ℕ
  current lead = if lead then n.bal_prepared.0 else n.bal_max_seen.0

  abbrev overfull : List Request → Bool
  overfull reqs = ltb keys (length (refresh_highest_slot slot reqs (written_of written)))

  pub late_is : (reqs : List Request) (cur : ℕ) (full : Bool) (j : ℕ) → cur ≡ current leader → ((at : ℕ) → full ≡ ltb keys (length (refresh_highest_slot at reqs (written_of written))))
      → j ≡ slot_refusal start (insts_of start n.slots words) slot ballot cur full → j ≡ late_refusal n m slot ballot reqs
  unfolding late_refusal part
  late_is reqs cur full j y w v =
      v ∙ ap (λ (c : ℕ). slot_refusal start (insts_of start n.slots words) slot ballot c full) y
      ∙ ap (slot_refusal start (insts_of start n.slots words) slot ballot (current leader)) (w slot)

  module _ (reqs : List Request) (z : late_refusal n m slot ballot reqs ≡ 0) where
    no_ground : (ended start (insts_of start n.slots words) slot ≡ false) × (leb (start + window) slot ≡ false) × (overfull reqs ≡ false)
    unfolding late_refusal part
    no_ground =
        none_late (not (eqb ballot (current leader)) || eqb (current leader) 0) (ended start (insts_of start n.slots words) slot) (leb (start + window) slot) (overfull reqs)
        (sym z)

    above : start ≤ slot
    above = ltb-false slot start (or_both (ltb slot start) _ no_ground.0).0

    inside : slot < start + window
    inside = leb-false (start + window) slot no_ground.1

    pub room : length (refresh_highest_slot slot reqs (written_of written)) ≤ keys
    room = ltb-false keys (length (refresh_highest_slot slot reqs (written_of written))) no_ground.2

    module _ (w' : List ℕ) (lw : length w' ≡ length written) where
      abbrev m₁ : List ℕ
      m₁ = splice m written_at written_words w'

      long_w : length w' ≡ written_words
      long_w = lw ∙ written_long

      size₁ : length m₁ ≡ length m
      size₁ = written_size n m r.long w' long_w

      pub long_after : written_at ≤ length m₁
      long_after = omega (arith, size₁, r.long)

      words_same : take slot_words (drop slots_at m₁) ≡ words
      unfolding part
      words_same = part_before m written_at written_words w' (omega (arith, r.long)) long_w slots_at slot_words (omega arith)

      pub acceptable : (start ≤ slot) × (slot < start + window) × (slot_words ≤ length (take slot_words (drop slots_at m₁)))
      acceptable = (above, inside, rw words_same (omega (arith, words_long)))

      module _ (q : Refreshes slot reqs written w') (lead : Bool) (b : lead ≡ leads_it (leader_of n.bodega_conf.leader) n.id.0) (s' : List ℕ) (held : ℕ)
          (p₁ : Records start n.slots slot ballot lead reqs (take slot_words (drop slots_at m₁)) s' held) where
        abbrev d : Node
        d = record n { slots = held }

        abbrev m₂ : List ℕ
        m₂ = splice m₁ slots_at slot_words s'

        p : Records start n.slots slot ballot lead reqs words s' held
        p = rw words_same at p₁

        long_s : length s' ≡ slot_words
        long_s = p.size ∙ words_long

        size₂ : length m₂ ≡ length m
        size₂ = slots_size d m₁ (rw size₁ r.long) s' long_s ∙ size₁

        beyond₂ : Untouched node_words m m₂
        beyond₂ j l = slots_beyond d m₁ (rw size₁ r.long) s' long_s j l ∙ written_beyond d m r.long w' long_w j l

        abbrev padded : List Instance
        padded = insts_of start n.slots words ++ replicate (slot + 1 - (start + n.slots)) null_instance

        abbrev after : Instance → Replica
        after i = with_insts (set padded (slot - start) i) (with_highest_slot (refresh_highest_slot slot reqs (written_of written)) (view n m))

        lead_is : lead ≡ is_leader (view n m)
        unfolding view roster_of
        lead_is = b

        view_due : recorded (view n m) slot ballot reqs ≡ after (accepting (view n m) ballot reqs p.old)
        unfolding view part
        view_due =
            recorded_is (view n m) slot ballot reqs padded p.old above
            (ap (λ (k : ℕ). insts_of start n.slots words ++ replicate (slot + 1 - (start + k)) null_instance) (length_insts start n.slots words)) p.was

        view_after : view d m₂ ≡ after (accepting_by lead ballot reqs p.old)
        unfolding view part
        view_after =
            slots_back d m₁ (rw size₁ r.long) s' long_s
            ∙ ap (with_insts (insts_of start held s')) (written_back d m r.long w' long_w)
            ∙ ap (λ (l : List Instance). with_insts l (with_highest_slot (written_of w') (view n m))) p.insts
            ∙ ap (λ (h : List Highest). with_insts (set padded (slot - start) (accepting_by lead ballot reqs p.old)) (with_highest_slot h (view n m))) q.written

        view_is : view d m₂ ≡ recorded (view n m) slot ballot reqs
        view_is = view_after ∙ ap (λ (l : Bool). after (accepting_by l ballot reqs p.old)) lead_is ∙ sym view_due

        again : Ready d m₂
        again =
            record {
              long = rw size₂ r.long;
              quorate = r.quorate;
              enough = r.enough;
              few = r.few;
              own = r.own;
              ranges = r.ranges;
              start_low_lem = r.start_low_lem;
              start_exec_lem = r.start_exec_lem;
              exec_commit_lem = r.exec_commit_lem;
              window = p.few;
              commit_end_lem = omega (arith, r.commit_end_lem, p.more);
            }

        pub is_written : Recorded slot ballot reqs n m d m₂
        is_written = record { replica = view_is; readied = made_ready d m₂ again; size = size₂; beyond = beyond₂ }

-- ---- the call

module _ (n : Node) (m area : List ℕ) (slot ballot : ℕ) (rows text : List ℕ) (y : ready n m ≡ true) where
  abbrev qs : List Request
  qs = given rows text

  abbrev call : Call
  call = Record slot ballot qs

  whole : lowest (grounds (view n m) call) ≡ first (any_long qs) (far slot) (ltb batch (length qs)) (late_refusal n m slot ballot qs)
  unfolding grounds view inst_at roster_of part late_refusal
  whole = refl

  pub early_refused : (x : Refusal) (z : Result Taken Refusal) → number_of x ≡ batch_refusal qs slot → IsErrAnd z (λ u. u ≡ x) → Answers ready view call n m area (given_of n z) m area
  early_refused x z g =
      refused_by call n m area true (sym y) refl x z
      (first_of (any_long qs) (far slot) (ltb batch (length qs)) (number_of x) (late_refusal n m slot ballot qs) g (number-not-0 x) ∙ sym whole)

  module _ (e : 0 ≡ batch_refusal qs slot) where
    none_yet : (any_long qs ≡ false) × (far slot ≡ false) × (ltb batch (length qs) ≡ false)
    none_yet = none_of (any_long qs) (far slot) (ltb batch (length qs)) e

    pub short_keys : any_long qs ≡ false
    short_keys = none_yet.0

    pub few_requests : length qs ≤ batch
    few_requests = ltb-false batch (length qs) none_yet.2

    module _ (reqs : List Request) (x : reqs ≡ qs) where
      number_is : late_refusal n m slot ballot reqs ≡ lowest (grounds (view n m) call)
      number_is = sym (whole ∙ rw (none_yet.0, none_yet.1, none_yet.2, x) refl)

      pub late_refused : (u : Refusal) (z : Result Taken Refusal) → number_of u ≡ late_refusal n m slot ballot reqs → IsErrAnd z (λ v. v ≡ u) → Answers ready view call n m area (given_of n z) m area
      late_refused u z g = refused_by call n m area true (sym y) refl u z (g ∙ number_is)

      pub is_recorded : 0 ≡ late_refusal n m slot ballot reqs → (n' : Node) (m' : List ℕ) → Recorded slot ballot reqs n m n' m'
          → Answers ready view call n m area (given_of n (Ok (record { node = n'; count = 0 }))) m' area
      unfolding effect
      is_recorded g n' m' w =
          taken_by call n m (g ∙ number_is) area true (sym y) refl (recorded (view n m) slot ballot qs) n' m' refl (w.replica ∙ ap (recorded (view n m) slot ballot) x) w.size w.beyond
          w.readied
