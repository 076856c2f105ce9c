-- A fresh node: tests, words filled, and what the buffer then stands for.
use mathlib.Core.Path.{◌≡◌, refl, sym, ap, ◌∙◌}
use mathlib.Core.Bool.{Bool, true, false, ◌&&◌}
use mathlib.Core.List.{List, [], ◌∷◌}
use Prim.Native.Nat.{ℕ, zero, suc, ◌+◌, ◌≤◌, ◌<◌}
use native.Mathlib.Omega.{arith}
use native.Mathlib.Nat.{zero-add}
use lib.Dec.{ltb, leb}
use lib.ListN.{length, get_or, set, take, drop, replicate, get_or-replicate}
use lib.Seq.{get_or-set_other, length-take-le}
use borrow.Author.Tests.{leb-true}
use Rattle.words.specs.Part.{part, splice, part_here, part_before, length_splice, length_part, part_set_above, part_set_first, get_or_part, Untouched, splice_untouched}
use Rattle.words.specs.Counted.{counted, counted_clear}
use Rattle.ids.specs.Limits.{replicas}
use Rattle.highest_slot.specs.Written.{highest_at, written_of}
use Rattle.node.specs.View.{size, view, in_range, ready}
use Rattle.peer_accept_bar.specs.Pairs.{pairs_of}
use Rattle.insts.specs.Slots.{insts_of}
use Rattle.node.specs.Begins.{Reset, Gives}
use Rattle.ids.specs.declared.Ballot.{Ballot}
use Rattle.ids.specs.declared.Slot.{Slot}
use Rattle.ids.specs.declared.Replica.{Replica}
use Rattle.node.specs.declared.Node.{Node}
use Rattle.bodega.specs.Replica.{pair, fresh_pair, fresh}
use Rattle.roster_conf.proofs.Laws.{default_is}
use Rattle.words.specs.Tab.{tab, words_from, tab_ext}
use Rattle.words.proofs.Tests.{and_both}
use Rattle.layout.specs.Layout.{replica_places, written_places, bars_at, written_row, written_words, roster_words, pair_words, execs_at, rows_at, written_at, node_words}
use Rattle.std.specs.Prelude.{Ok, Err, None}
use Rattle.ids.specs.declared.Refusal.TheVariants.{NotReady}

-- ---- three parts filled, and one word cleared

module _ (m x y z : List ℕ) (h : node_words ≤ length m) (lx : length x ≡ replica_places) (ly : length y ≡ replica_places) (lz : length z ≡ replica_places) where
  abbrev m₁ : List ℕ
  m₁ = splice m 0 replica_places x

  abbrev m₂ : List ℕ
  m₂ = splice m₁ bars_at replica_places y

  abbrev m₃ : List ℕ
  m₃ = splice m₂ execs_at replica_places z

  l₁ : length m₁ ≡ length m
  l₁ = length_splice m 0 replica_places x (omega arith) lx

  l₂ : length m₂ ≡ length m
  l₂ = length_splice m₁ bars_at replica_places y (rw l₁ (omega arith)) ly ∙ l₁

  pub length_filled : length m₃ ≡ length m
  length_filled = length_splice m₂ execs_at replica_places z (rw l₂ (omega arith)) lz ∙ l₂

  abbrev m₄ : List ℕ
  m₄ = set m₃ written_at 0

  first : part m₄ 0 replica_places ≡ x
  first =
      part_set_above m₃ 0 replica_places 0 written_at (omega arith) ∙ part_before m₂ execs_at replica_places z (rw l₂ (omega arith)) lz 0 replica_places (omega arith)
      ∙ part_before m₁ bars_at replica_places y (rw l₁ (omega arith)) ly 0 replica_places (omega arith) ∙ part_here m 0 replica_places x (omega arith) lx

  second : part m₄ bars_at replica_places ≡ y
  second =
      part_set_above m₃ bars_at replica_places 0 written_at (omega arith) ∙ part_before m₂ execs_at replica_places z (rw l₂ (omega arith)) lz bars_at replica_places (omega arith)
      ∙ part_here m₁ bars_at replica_places y (rw l₁ (omega arith)) ly

  third : part m₄ execs_at replica_places ≡ z
  third = part_set_above m₃ execs_at replica_places 0 written_at (omega arith) ∙ part_here m₂ execs_at replica_places z (rw l₂ (omega arith)) lz

  keys_none : written_of (part m₄ written_at written_words) ≡ []
  unfolding counted
  keys_none =
      ap (counted highest_at written_row written_places) (part_set_first m₃ written_at written_words 0 (omega arith))
      ∙ counted_clear highest_at written_row written_places (part m₃ written_at written_words) (rw (length_part m₃ written_at written_words (rw length_filled (omega arith))) (omega arith))

  rest : Untouched node_words m m₄
  rest j f =
      get_or-set_other m₃ written_at j 0 0 (omega arith) ∙ splice_untouched m₂ execs_at replica_places z (rw l₂ (omega arith)) lz node_words (omega arith) j f
      ∙ splice_untouched m₁ bars_at replica_places y (rw l₁ (omega arith)) ly node_words (omega arith) j f ∙ splice_untouched m 0 replica_places x (omega arith) lx node_words (omega arith) j f

  pub resets : x ≡ replicate replica_places 0 → y ≡ replicate replica_places 18446744073709551615 → z ≡ replicate replica_places 0 → Reset m m₄
  resets e f g = record { nums = first ∙ e; bars = second ∙ f; execs = third ∙ g; written = keys_none; rest = rest }

-- the same with what is known of the parts as the code has it
part_64 : (m : List ℕ) (a : ℕ) → a + replica_places ≤ length m → length (take replica_places (drop a m)) ≡ replica_places
unfolding part
part_64 m a h = length_part m a replicas h

module _ (m x y z : List ℕ) (h : node_words ≤ length m) (lx : length x ≡ length (take replica_places m)) (ly : length y ≡ length (take replica_places (drop bars_at (splice m 0 replica_places x))))
    (lz : length z ≡ length (take replica_places (drop execs_at (splice (splice m 0 replica_places x) bars_at replica_places y)))) where
  x_64 : length (take replica_places m) ≡ replica_places
  x_64 = length-take-le replicas m (omega arith)

  lx' : length x ≡ replica_places
  lx' = lx ∙ x_64

  y_64 : length (take replica_places (drop bars_at (splice m 0 replica_places x))) ≡ replica_places
  y_64 = part_64 (splice m 0 replica_places x) replicas (rw (length_splice m 0 replica_places x (omega arith) lx') (omega arith))

  ly' : length y ≡ replica_places
  ly' = ly ∙ y_64

  l_two : length (splice (splice m 0 replica_places x) bars_at replica_places y) ≡ length m
  l_two =
      length_splice (splice m 0 replica_places x) bars_at replica_places y (rw (length_splice m 0 replica_places x (omega arith) lx') (omega arith)) ly' ∙ length_splice m 0 replica_places x (omega arith) lx'

  z_64 : length (take replica_places (drop execs_at (splice (splice m 0 replica_places x) bars_at replica_places y))) ≡ replica_places
  z_64 = part_64 (splice (splice m 0 replica_places x) bars_at replica_places y) execs_at (rw l_two (omega arith))

  lz' : length z ≡ replica_places
  lz' = lz ∙ z_64

  pub same_size : length (splice (splice (splice m 0 replica_places x) bars_at replica_places y) execs_at replica_places z) ≡ length m
  same_size = length_filled m x y z h lx' ly' lz'

  pub reset_is : x ≡ replicate (length (take replica_places m)) 0 → y ≡ replicate (length (take replica_places (drop bars_at (splice m 0 replica_places x)))) 18446744073709551615
      → z ≡ replicate (length (take replica_places (drop execs_at (splice (splice m 0 replica_places x) bars_at replica_places y)))) 0 → Reset m (set (splice (splice (splice m 0 replica_places x) bars_at replica_places y) execs_at replica_places z) written_at 0)
  reset_is e f g =
      resets m x y z h lx' ly' lz' (e ∙ ap (λ (k : ℕ). replicate k 0) x_64) (f ∙ ap (λ (k : ℕ). replicate k 18446744073709551615) y_64) (g ∙ ap (λ (k : ℕ). replicate k 0) z_64)

-- ---- the fresh replica

tab_const : {A : Type 0} (v : A) (i n : ℕ) → tab (λ j. v) i n ≡ replicate n v
tab_const v i zero = refl
tab_const {A = A} v i (suc n) = ap (λ (l : List A). v ∷ l) (tab_const v (i + 1) n)

module _ (s : List ℕ) (a : part s 0 replica_places ≡ replicate replica_places 0) (b : part s bars_at replica_places ≡ replicate replica_places 18446744073709551615) where
  number_0 : (i : ℕ) → i < replicas → get_or (part s 0 pair_words) i 0 ≡ 0
  number_0 i h =
      get_or_part s 0 pair_words i (omega arith) ∙ sym (get_or_part s 0 replica_places i h) ∙ ap (λ (l : List ℕ). get_or l i 0) a ∙ get_or-replicate {A = ℕ} replicas i 0 0 h

  bar_beyond : (i : ℕ) → i < replicas → get_or (part s 0 pair_words) (bars_at + i) 0 ≡ 18446744073709551615
  bar_beyond i h =
      get_or_part s 0 pair_words (bars_at + i) (omega arith) ∙ ap (λ (k : ℕ). get_or s k 0) (zero-add (bars_at + i)) ∙ sym (get_or_part s bars_at replica_places i h) ∙ ap (λ (l : List ℕ). get_or l i 0) b
      ∙ get_or-replicate {A = ℕ} replicas i 18446744073709551615 0 h

  fresh_pairs : (n : ℕ) → n ≤ replicas → pairs_of n (part s 0 pair_words) ≡ replicate n fresh_pair
  unfolding pairs_of
  fresh_pairs n h =
      tab_ext (λ i. pair (get_or (part s 0 pair_words) i 0) (get_or (part s 0 pair_words) (bars_at + i) 0)) (λ i. fresh_pair) 0 n
      (λ j x y. let l : j < replicas = omega arith in rw (number_0 j l, bar_beyond j l))
      ∙ tab_const fresh_pair 0 n

fresh_execs : (n : ℕ) → n ≤ replicas → words_from n (replicate replica_places 0) 0 ≡ replicate n 0
fresh_execs n h = tab_ext (λ i. get_or (replicate replica_places 0) i 0) (λ i. 0) 0 n (λ j a b. get_or-replicate {A = ℕ} replicas j 0 0 (omega arith)) ∙ tab_const 0 0 n

-- no leader, no slots, every ballot and bar 0 but the reading bar
abbrev pub node_with : Replica → ℕ → ℕ → Slot → Node
node_with id population quorum max =
    let none : Ballot = record { 0 = 0 } in
    let zero : Slot = record { 0 = 0 } in
    record {
      id = id;
      population = population;
      quorum = quorum;
      bodega_conf = record { leader = None; count = 0; default = 0 };
      bal_max_seen = none;
      bal_prep_sent = none;
      bal_prepared = none;
      start_slot = zero;
      accept_bar = zero;
      commit_bar = zero;
      exec_bar = zero;
      snap_bar = zero;
      peer_accept_max = max;
      slots = 0;
    }

module _ (id population quorum : ℕ) (s : List ℕ) (t : Bool) (e : t ≡ leb size (length s) && in_range id population quorum) where
  pub not_begun : t ≡ false → Gives (leb size (length s) && in_range id population quorum) id population quorum s (Err NotReady) s
  not_begun f = rw (sym e ∙ f) (refl, refl)

  module _ (f : t ≡ true) where
    holds : (leb size (length s) ≡ true) × (in_range id population quorum ≡ true)
    holds = and_both (leb size (length s)) (in_range id population quorum) (sym e ∙ f)

    pub long_enough : node_words ≤ length s
    long_enough = leb-true node_words (length s) holds.0

    few : population ≤ replicas
    few =
        let a = (and_both (ltb 0 quorum) (leb quorum population && (leb population replicas && ltb id population)) holds.1).1 in
        let b = (and_both (leb quorum population) (leb population replicas && ltb id population) a).1 in
        leb-true population replicas (and_both (leb population replicas) (ltb id population) b).0

    module _ (s' : List ℕ) (r : Reset s s') (l : length s' ≡ length s) where
      pairs : pairs_of population (part s' 0 pair_words) ≡ replicate population fresh_pair
      pairs = fresh_pairs s' r.nums r.bars population few

      execs : words_from population (part s' execs_at replica_places) 0 ≡ replicate population 0
      execs = rw r.execs (fresh_execs population few)

      pub begun : (i : Replica) → i.0 ≡ id
          → Gives (leb size (length s) && in_range id population quorum) id population quorum s (Ok (node_with i population quorum (record { 0 = 18446744073709551615 }))) s'
      unfolding view fresh ready insts_of
      begun i own = rw (sym e ∙ f) (record { replica = replica; readied = readied; beyond = r.rest })
        where
          replica : view (node_with i population quorum (record { 0 = 18446744073709551615 })) s' ≡ fresh id population quorum
          replica = rw (own, pairs, execs, default_is (part s' rows_at roster_words), r.written)

          readied : ready (node_with i population quorum (record { 0 = 18446744073709551615 })) s' ≡ true
          readied = rw (l, holds.0, own, holds.1)
