-- The code's needs: the open slots of the slots' words, the two passes over them, and the whole.
use Rattle.std.specs.Prelude.{if◌then◌else◌}
use mathlib.Core.Path.{◌≡◌, refl, sym, ap, ◌∙◌}
use mathlib.Core.Bool.{Bool, true, false}
use mathlib.Core.List.{List, [], ◌∷◌, ◌++◌, map}
use Rattle.std.specs.Prelude.{Option, None, Some, MatchOption}
use Prim.Native.Nat.{ℕ, zero, suc, ◌+◌, ◌-◌, ◌*◌, ◌%◌, ◌≤◌, ◌<◌}
use native.Mathlib.Omega.{arith}
use lib.ListN.{length, drop, replicate, take-append-drop}
use Rattle.words.specs.Writes.{writes}
use Rattle.layout.specs.Layout.{slot_places, held_row, held_places, held_words}
use Rattle.items.specs.Item.{Item, Prelog, encode, places}
use Rattle.bodega.specs.Replica.{Instance, Preparing, is_open, null_instance}
use Rattle.bodega.specs.Conflease.{first_open, last_open, any_open, prelogs, reprepared}
use Rattle.bodega.specs.Grounds.{any}
use Rattle.bodega.specs.Heartbeat.{Walk}
use Rattle.inst_cell.specs.Cell.{Notices}
use Rattle.words.specs.Counted.{length_counted}
use Rattle.inst_holding.specs.Held.{read_from}
use Rattle.words.specs.Part.{part}
use Rattle.words.specs.Choice.{if_none◌then◌else◌}
use Rattle.insts.specs.Slots.{short_at, batch_at, reads_at, reads_start, book_of, inst_of, inst_in, insts_of}
use Rattle.insts.proofs.Laws.{first, length_insts}
use Rattle.insts.proofs.Rest.{rest_of, rest_all, rest_drop, rest_none, rest_more}
use Rattle.release_held_reads.specs.Release.{holding_of, emptied, Releases}
use Rattle.release_held_reads.proofs.Laws.{length_answers}
use Rattle.release_held_reads.proofs.Machine.{emptied_is}
use Rattle.advance_commit_bar.specs.Walk.{one_if_open, change_open}
use Rattle.advance_commit_bar.proofs.Laws.{is_open_at, one_item}
use Rattle.advance_commit_bar.proofs.Slots.{slots_from}
use native.Mathlib.Nat.{zero-add}
use Rattle.std.specs.List.{filter, fold, sum_by, position_from, range_with_len}
use Rattle.std.specs.Option.{unwrap_or}
use Rattle.std.proofs.lemmas.List.{take_all}
use Rattle.std.proofs.lemmas.List.FromFn.{length-range_with_len}
use Rattle.advance_commit_bar.proofs.Pass.{left, left_is, Going, Passed, fits, going_step}
use Rattle.become_a_leader.specs.StepUp.{slots_after, prepared_anew, released_from, step_up, Opens, prepare_short, prelog_of, Prelogs, Passes}
use Rattle.become_a_leader.proofs.Open as slot
use Rattle.become_a_leader.proofs.Lists.{never, answers_at, prelog_pass, release_pass, count_none, count_some, first_is, count_prelogs, prelogs_few, sum_map, sum_few, held_sum}

-- ---- the first and the last open slot of n

module _ (start n : ℕ) (s : List ℕ) where
  abbrev here : ℕ → Instance
  here k = inst_in s ((start + k) % slot_places)

  pub any_here : (t : Bool) → t ≡ any (λ (i : Instance). is_open i.status) (insts_of start n s) → any_open (insts_of start n s) ≡ t
  any_here t e = sym (e ∙ slot.any_is (insts_of start n s))

  parted : (k : ℕ) → k < n → insts_of start n s ≡ insts_of start k s ++ here k ∷ rest_of start n (k + 1) s
  parted k h =
      sym
      (rw (← (rest_more start n k s h), ← (rest_drop start n k s (omega arith)), ← (first start n k s (omega arith)))
      (take-append-drop k (insts_of start n s)))

  pub first_found : (o : Option ℕ) → o ≡ position_from is_open_at 0 (insts_of start n s) → unwrap_or o n ≡ first_open (insts_of start n s)
  first_found o e =
      ap (λ (p : Option ℕ). unwrap_or p n) e ∙ ap (unwrap_or (position_from is_open_at 0 (insts_of start n s))) (sym (zero-add (length (insts_of start n s)) ∙ length_insts start n s))
      ∙ first_is (insts_of start n s) 0 ∙ zero-add (first_open (insts_of start n s))

  -- none is open from the k-th on
  none_from : (m k : ℕ) → k + m ≡ n → ((j : ℕ) → k ≤ j → j < n → is_open (here j).status ≡ false) → any_open (rest_of start n k s) ≡ false
  unfolding any_open
  none_from zero k e h = rw (rest_none start n k s (omega arith))
  none_from (suc m) k e h =
      ap any_open (rest_more start n k s (omega arith))
      ∙ slot.none_cons (here k) (rest_of start n (k + 1) s) (h k (omega arith) (omega arith)) (none_from m (k + 1) (omega arith) (λ j x y. h j (omega arith) y))

  pub last_found : (o : Option ℕ)
      → MatchOption o ((k : ℕ) → k < n → is_open (here k).status ≡ false) (λ i. (i < n) × (is_open (here i).status ≡ true) × ((k : ℕ) → i < k → k < n → is_open (here k).status ≡ false))
      → unwrap_or o n ≡ last_open (insts_of start n s)
  last_found None h =
      sym (slot.last_none (insts_of start n s) (ap any_open (sym (rest_all start n s)) ∙ none_from n 0 (omega arith) (λ k x y. h k y)) ∙ length_insts start n s)
  last_found (Some i) h =
      sym
      (ap last_open (parted i h.0)
      ∙ slot.last_at (here i) (rest_of start n (i + 1) s) h.1 (insts_of start i s) (none_from (n - (i + 1)) (i + 1) (omega (arith, h.0)) (λ j x y. h.2 j (omega arith) y))
      ∙ length_insts start i s)

-- ---- one slot more where none is open

module _ (start n : ℕ) (s : List ℕ) (t : Bool) (e : t ≡ any (λ (i : Instance). is_open i.status) (insts_of start n s)) where
  pub as_many : t ≡ true → Opens start n s n s
  as_many f = let g = any_here start n s t e ∙ f in record { count = rw g; insts = rw g; size = refl }

  module _ (f : t ≡ false) where
    pub one_more_fits : slots_after n (insts_of start n s) ≤ slot_places → n + 1 ≤ slot_places
    one_more_fits h = let g = any_here start n s t e ∙ f in rw g at h

    pub one_slot_more : (u : List ℕ) → (insts_of start (n + 1) u ≡ insts_of start n s ++ replicate (n + 1 - n) null_instance) × (length u ≡ length s) → Opens start n s (n + 1) u
    one_slot_more u p =
        let g = any_here start n s t e ∙ f in
        let z : n + 1 - n ≡ 1 = omega arith in
        record { count = rw g; insts = rw g (p.0 ∙ rw z); size = p.1 }

-- ---- how many items

module _ (start n : ℕ) (s : List ℕ) (t : Bool) (e : t ≡ any (λ (i : Instance). is_open i.status) (insts_of start n s)) where
  pub counts_none : t ≡ false → (quorum : ℕ) (leader : Option ℕ) (ballot : ℕ) → 3 ≡ length (step_up start quorum leader ballot (insts_of start n s)).items
  counts_none f quorum leader ballot = count_none start quorum leader ballot (insts_of start n s) (any_here start n s t e ∙ f)

  module _ (f : t ≡ true) where
    pub some_open : any_open (insts_of start n s) ≡ true
    some_open = any_here start n s t e ∙ f

    pub counts : (from to opens held : ℕ) → from ≡ first_open (insts_of start n s) → to ≡ last_open (insts_of start n s) + 1 → opens ≡ length (prelogs start (insts_of start n s))
        → held ≡ length (released_from 0 None (to - from) (drop from (insts_of start n s))).items
        → (quorum : ℕ) (leader : Option ℕ) (ballot : ℕ) → 2 + opens + held ≡ length (step_up start quorum leader ballot (insts_of start n s)).items
    counts from to opens held g h o d quorum leader ballot = count_some start quorum leader ballot (insts_of start n s) some_open from to opens held g h o d

pub within : (start n : ℕ) (s : List ℕ) → any_open (insts_of start n s) ≡ true → (from to : ℕ) → from ≡ first_open (insts_of start n s) → to ≡ last_open (insts_of start n s) + 1 → (from < to) × (to ≤ n)
within start n s o from to g h = (omega (arith, slot.first_last (insts_of start n s)), omega (arith, slot.last_within (insts_of start n s) o, length_insts start n s))

-- as the chains count
pub opens_are : (start n : ℕ) (s : List ℕ) (r : ℕ) → r ≡ length (filter is_open_at (map (λ k. inst_in s ((start + k) % slot_places)) (range_with_len 0 n)))
    → (r ≡ length (prelogs start (insts_of start n s))) × (r ≤ n)
opens_are start n s r e =
    let l : map (λ k. inst_in s ((start + k) % slot_places)) (range_with_len 0 n) ≡ insts_of start n s =
    slots_from start n 0 n s (omega arith) ∙ take_all n (insts_of start n s) (omega (arith, length_insts start n s)) in
    let f : r ≡ length (prelogs start (insts_of start n s)) = rw l at e ∙ count_prelogs start (insts_of start n s) in
    (f, omega (arith, prelogs_few start (insts_of start n s), length_insts start n s))

few_held : (s : List ℕ) (c : ℕ) → length (holding_of (inst_in s c)) ≤ held_places
unfolding inst_in reads_at
few_held s c = go (short_at s c).replica_bk
  where
    few : length (reads_at s c) ≤ held_places
    few = omega (arith, length_counted read_from held_row held_places (part s (reads_start c) held_words))

    go : (o : Option Notices) → length (if_none (book_of o (reads_at s c)) then [] else λ b. b.holding) ≤ held_places
    go None = omega arith
    go (Some b) = few

module _ (start n from to : ℕ) (s : List ℕ) (h : from ≤ to) (g : to ≤ n) where
  abbrev pub held_by : ℕ → ℕ
  held_by k = length (holding_of (inst_in s ((start + k) % slot_places)))

  pub few_by : (k : ℕ) → held_by k ≤ held_places
  few_by k = few_held s ((start + k) % slot_places)

  pub held_are : n ≤ slot_places → (r : ℕ) → r ≡ sum_by held_by (range_with_len from (to - from))
      → (r ≡ length (released_from 0 None (to - from) (drop from (insts_of start n s))).items) × (r ≤ slot_places * held_places)
  held_are w r e = (
    e ∙ sum_map (λ i. length (holding_of i)) (λ k. inst_in s ((start + k) % slot_places)) 0 (range_with_len from (to - from))
        ∙ ap (fold (λ a i. a + length (holding_of i)) 0) (slots_from start n from (to - from) s (omega arith)) ∙ held_sum 0 (to - from) (drop from (insts_of start n s)) ∙ zero-add (length (released_from 0 None (to - from) (drop from (insts_of start n s))).items),
    omega (arith, sum_few held_by held_places few_by 0 (range_with_len from (to - from)), length-range_with_len from (to - from)),
  )

-- ---- one slot prepared anew

anew_is : (ballot : ℕ) (s : List ℕ) (c : ℕ) → inst_of (change_open (prepare_short ballot) (short_at s c)) (batch_at s c) (reads_at s c) ≡ reprepared ballot (inst_in s c)
unfolding inst_in
anew_is ballot s c = go (is_open (short_at s c).status)
  where
    go : (b : Bool) → inst_of (if b then prepare_short ballot (short_at s c) else short_at s c) (batch_at s c) (reads_at s c)
        ≡ (if b then (let i = inst_of (short_at s c) (batch_at s c) (reads_at s c) in record { bal = ballot; status = Preparing; reqs = i.reqs; leader_bk = Some 0; replica_bk = i.replica_bk }) else inst_of (short_at s c) (batch_at s c) (reads_at s c))
    go true = refl
    go false = refl

-- ---- all of them

pub passes : (w : Walk) (stop : Instance → Bool) (f : Instance → Instance) (g : ℕ → Instance → List Item) (start n end from place : ℕ) (s area : List ℕ) {r : ℕ} {t area' : List ℕ} → from ≤ n
    → left stop f g start n end from s ≡ w → Passed stop f g start n end from place s area r t area' → Passes w place start n from s area r t area'
passes w stop f g start n end from place s area h e p =
    record {
      next = p.next ∙ ap (λ (v : Walk). place + length v.items) e;
      items = p.items ∙ ap (λ (v : Walk). writes area (place * 6) (encode v.items)) e;
      insts = p.insts ∙ rw (e, first start n from s h);
      size = p.size;
    }

module _ (start n ballot : ℕ) where
  abbrev pub prelog_left : ℕ → List ℕ → Walk
  prelog_left = left never (reprepared ballot) prelog_of start n n

  pub prelog_left_lem : (s : List ℕ) → prelog_left 0 s ≡ prepared_anew start ballot (insts_of start n s)
  prelog_left_lem s =
      let e : start + 0 ≡ start = omega arith in
      left_is never (reprepared ballot) prelog_of start n n 0 s (omega arith)
      ∙ rw e (prelog_pass ballot start (n - 0) (insts_of start n s) (omega (arith, length_insts start n s)))

  module _ (place : ℕ) (s₀ area₀ : List ℕ) where
    abbrev pub Prelogging : ℕ → ℕ → List ℕ → List ℕ → Type 0
    Prelogging = Going never (reprepared ballot) prelog_of start n n 0 place s₀ area₀

    module _ (k at : ℕ) (s area : List ℕ) (y : Prelogging k at s area) (h : k < n) where
      item_is : one_if_open (inst_in s ((start + k) % slot_places)) ≡ length (prelog_of (start + k) (inst_in s ((start + k) % slot_places)))
      item_is = one_item (Prelog (start + k)) (inst_in s ((start + k) % slot_places))

      pub prelog_fits : place + length (prelogs start (insts_of start n s₀)) ≤ places area₀ → at + one_if_open (inst_in s ((start + k) % slot_places)) ≤ places area
      prelog_fits r =
          rw item_is
          (fits never (reprepared ballot) prelog_of start n n 0 place s₀ area₀ k at s area y (omega arith) false refl refl (rw (prelog_left_lem s₀) r))

      pub prelog_step : n ≤ slot_places → (r : ℕ) (u area' : List ℕ) → Prelogs ((start + k) % slot_places) at (start + k) ballot s area r u area' → Prelogging (k + 1) r u area'
      prelog_step w r u area' p =
          going_step never (reprepared ballot) prelog_of start n n 0 place s₀ area₀ k at s area y (omega arith) false refl refl w r u area' p.changed
          (anew_is ballot s ((start + k) % slot_places)) p.items (p.next ∙ ap (λ (j : ℕ). at + j) item_is)

-- ---- the reads

module _ (start n to quorum : ℕ) (leader : Option ℕ) where
  abbrev pub held_left : ℕ → List ℕ → Walk
  held_left = left never emptied (answers_at quorum leader) start n to

  pub held_left_lem : (from : ℕ) (s : List ℕ) → from ≤ n → held_left from s ≡ released_from quorum leader (to - from) (drop from (insts_of start n s))
  held_left_lem from s h =
      left_is never emptied (answers_at quorum leader) start n to from s h ∙ release_pass quorum leader (start + from) (to - from) (drop from (insts_of start n s))

  module _ (from place : ℕ) (s₀ area₀ : List ℕ) where
    abbrev pub Releasing : ℕ → ℕ → List ℕ → List ℕ → Type 0
    Releasing = Going never emptied (answers_at quorum leader) start n to from place s₀ area₀

    module _ (k at : ℕ) (s area : List ℕ) (y : Releasing k at s area) (h : k < to) (g : to ≤ n) where
      pub release_fits : from ≤ n → place + length (released_from quorum leader (to - from) (drop from (insts_of start n s₀))).items ≤ places area₀
          → at + length (holding_of (inst_in s ((start + k) % slot_places))) ≤ places area
      release_fits f r =
          rw (← (length_answers quorum leader (inst_in s ((start + k) % slot_places))))
          (fits never emptied (answers_at quorum leader) start n to from place s₀ area₀ k at s area y (omega arith) false refl refl (rw (held_left_lem from s₀ f) r))

      pub release_step : n ≤ slot_places → (r : ℕ) (u area' : List ℕ) → Releases quorum leader ((start + k) % slot_places) at s area r u area' → Releasing (k + 1) r u area'
      release_step w r u area' p =
          going_step never emptied (answers_at quorum leader) start n to from place s₀ area₀ k at s area y (omega arith) false refl refl w r u area' p.emptied
          (emptied_is s ((start + k) % slot_places)) p.items p.next
