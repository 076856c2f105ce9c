-- `heard_new_conf` on a node and its buffer.
use Rattle.std.specs.Prelude.{if◌then◌else◌}
use mathlib.Core.Path.{◌≡◌, refl, sym, ap, ◌∙◌}
use mathlib.Core.Bool.{Bool, true, false}
use mathlib.Core.List.{List, ◌∷◌}
use Rattle.std.specs.Prelude.{Option}
use Prim.Native.Nat.{ℕ, zero, suc, ◌+◌, ◌*◌, ◌≤◌}
use native.Mathlib.Omega.{arith}
use lib.Dec.{leb}
use lib.ListN.{length, get_or, set, take, drop, replicate, get_or-replicate, length-replicate}
use borrow.Author.Tests.{leb-true}
use Rattle.words.specs.Tab.{tab, words_from, tab_ext}
use Rattle.words.specs.Part.{part, splice, Untouched, part_before, length_part}
use Rattle.words.specs.Writes.{writes, length_writes}
use Rattle.ids.specs.Leader.{leader_of}
use Rattle.ids.specs.declared.Ballot.{Ballot}
use Rattle.ids.specs.declared.Slot.{Slot}
use Rattle.items.specs.Item.{encode, places}
use Rattle.roster_conf.specs.Conf.{leads}
use Rattle.roster_conf.specs.Edits.{view as roster_of}
use Rattle.roster_conf.specs.declared.RespondersConf.{RespondersConf}
use Rattle.bodega.specs.Replica as machine
use Rattle.bodega.specs.Conflease.{update_peer_accept_max, adopted, become_a_leader, heard_new_conf}
use Rattle.bodega.specs.Heartbeat.{Walk}
use Rattle.peer_accept_bar.specs.Pairs.{pairs_of, accept_max}
use Rattle.insts.specs.Slots.{insts_of}
use Rattle.insts.proofs.Laws.{length_insts}
use Rattle.become_a_leader.specs.StepUp.{slots_after, step_up, StepsUp}
use Rattle.bodega.specs.Conflease.{any_open}
use Rattle.become_a_leader.proofs.Machine.{step_up_is}
use Rattle.node.specs.declared.Node.{Node}
use Rattle.node.specs.View.{view, ready, leads_it}
use Rattle.words.proofs.Tests.{and_both}
use Rattle.layout.specs.Layout.{replica_places, roster_row, slot_places, slot_words, roster_words, pair_words, execs_at, rows_at, slots_at, node_words}
use Rattle.node.proofs.Calls.{Ready, is_ready, made_ready}
use Rattle.node.proofs.Frames.{rows_back, rows_size_lem, rows_beyond, pairs_back, pairs_size, pairs_beyond, execs_back, execs_size, execs_beyond, slots_back, slots_size, slots_beyond}
use Rattle.heard_new_conf.specs.Does.{Does, whole}
use Rattle.heard_new_conf.specs.Forgets.{Forgets}
use Rattle.heard_new_conf.proofs.Machine.{heard_following, heard_leading, heard_count}

-- ---- what is ready, and whole

pub readied : (n : Node) (m : List ℕ) → ready n m ≡ true → Ready n m
readied n m e = is_ready n m true (sym e) refl

pub few_ranges : (count : ℕ) (rows : List ℕ) → whole count rows ≡ true → (count ≤ 64) × (roster_words ≤ length rows)
few_ranges count rows e = let w = and_both (leb roster_words (length rows)) (leb count 64) e in (leb-true count 64 w.1, leb-true roster_words (length rows) w.0)

pub rows_long : (m : List ℕ) → node_words ≤ length m → length (take roster_words (drop rows_at m)) ≡ roster_words
unfolding part
rows_long m h = length_part m rows_at roster_words (omega arith)

-- ---- an adoption

abbrev pub adopting : Node → RespondersConf → Ballot → Slot → Node
adopting n c b max = record n { bodega_conf = c; bal_max_seen = b; peer_accept_max = max }

module _ (n : Node) (m : List ℕ) (e : ready n m ≡ true) (b : Ballot) (c : RespondersConf) (rows : List ℕ) (w : whole c.count rows ≡ true)
    (x : List ℕ) (y : (roster_of c x ≡ roster_of c rows) × (x ≡ writes (take roster_words (drop rows_at m)) 0 (take (c.count * roster_row) rows))) where
  r : Ready n m
  r = readied n m e

  abbrev m₁ : List ℕ
  m₁ = splice m rows_at roster_words x

  copied : length x ≡ roster_words
  copied = ap length y.1 ∙ length_writes (take roster_words (drop rows_at m)) 0 (take (c.count * roster_row) rows) ∙ rows_long m r.long

  pub roster_there : node_words ≤ length m₁
  roster_there = rw (rows_size_lem n m r.long x copied) r.long

  pub pairs_there : length (take pair_words m₁) ≡ pair_words
  unfolding part
  pairs_there = length_part m₁ 0 pair_words (omega (arith, roster_there))

  same_pairs : take pair_words m₁ ≡ part m 0 pair_words
  unfolding part
  same_pairs = part_before m rows_at roster_words x (omega (arith, r.long)) copied 0 pair_words (omega arith)

  module _ (p : List ℕ) (max : Slot)
      (g : (pairs_of n.population p ≡ set (pairs_of n.population (take pair_words m₁)) n.id.0 (machine.pair b.0 n.accept_bar.0))
      × (max.0 ≡ accept_max n.quorum b.0 (pairs_of n.population p)) × (length p ≡ length (take pair_words m₁))) where
    abbrev d : Node
    d = adopting n c b max

    abbrev m₂ : List ℕ
    m₂ = splice m₁ 0 pair_words p

    long : length p ≡ pair_words
    long = g.2 ∙ pairs_there

    pub adopts_size : length m₂ ≡ length m
    adopts_size = pairs_size n m₁ roster_there p long ∙ rows_size_lem n m r.long x copied

    own : pairs_of n.population p ≡ set (view n m).peer_accept.bar n.id.0 (machine.pair b.0 n.accept_bar.0)
    unfolding view
    own = g.0 ∙ ap (λ (q : List ℕ). set (pairs_of n.population q) n.id.0 (machine.pair b.0 n.accept_bar.0)) same_pairs

    pub adopts_view : view d m₂ ≡ adopted (view n m) b.0 (roster_of c rows)
    unfolding view update_peer_accept_max
    adopts_view =
        pairs_back d m₁ roster_there p long
        ∙ ap (λ (s : machine.Replica). machine.with_peer_accept (record { bar = pairs_of n.population p; max = max.0 }) s) (rows_back d m r.long x copied)
        ∙ rw (g.1, own, y.0)

    pub adopts_ready : ready d m₂ ≡ true
    adopts_ready =
        made_ready d m₂
        (record {
          long = rw adopts_size r.long;
          quorate = r.quorate;
          enough = r.enough;
          few = r.few;
          own = r.own;
          ranges = (few_ranges c.count rows w).0;
          start_low_lem = r.start_low_lem;
          start_exec_lem = r.start_exec_lem;
          exec_commit_lem = r.exec_commit_lem;
          window = r.window;
          commit_end_lem = r.commit_end_lem;
        })

    pub adopts : (view d m₂ ≡ adopted (view n m) b.0 (roster_of c rows)) × (length m₂ ≡ length m) × (ready d m₂ ≡ true) × Untouched node_words m m₂
    adopts = (adopts_view, adopts_size, adopts_ready, λ j l. pairs_beyond n m₁ roster_there p long j l ∙ rows_beyond n m r.long x copied j l)

-- ---- the exec bars forgotten

all_0 : (i n : ℕ) → tab {A = ℕ} (λ j. 0) i n ≡ replicate n 0
all_0 i zero = refl
all_0 i (suc n) = ap (λ (l : List ℕ). 0 ∷ l) (all_0 (i + 1) n)

pub forgets : (s : List ℕ) → replica_places ≤ length s → Forgets s (replicate (length s) 0)
forgets s h =
    record {
      execs = λ n l.
          tab_ext (λ i. get_or (replicate (length s) 0) i 0) (λ i. 0) 0 n (λ j a b. get_or-replicate {A = ℕ} (length s) j 0 0 (omega arith)) ∙ all_0 0 n;
      size = length-replicate (length s) 0;
    }

-- ---- a step-up

grows : (n : ℕ) (l : List machine.Instance) → n ≤ slots_after n l
grows n l = go (any_open l)
  where
    go : (b : Bool) → n ≤ (if b then n else n + 1)
    go true = omega arith
    go false = omega arith

slots_long : (m : List ℕ) → node_words ≤ length m → length (part m slots_at slot_words) ≡ slot_words
slots_long m h = length_part m slots_at slot_words (omega arith)

abbrev pub leading : Node → Ballot → ℕ → Node
leading n z k = record n { bal_prep_sent = n.bal_max_seen; bal_prepared = z; slots = k }

module _ (n : Node) (m area : List ℕ) (e : ready n m ≡ true) where
  ok : Ready n m
  ok = readied n m e

  abbrev start : ℕ
  start = n.start_slot.0

  abbrev leader : Option ℕ
  leader = leader_of n.bodega_conf.leader

  abbrev insts : List machine.Instance
  insts = insts_of start n.slots (part m slots_at slot_words)

  abbrev up : Walk
  up = step_up start n.quorum leader n.bal_max_seen.0 insts

  abbrev led : machine.Replica
  led =
      machine.with_bal (record { max_seen = n.bal_max_seen.0; prep_sent = n.bal_max_seen.0; prepared = 0 })
      (machine.with_peer_exec_bar (replicate n.population 0) (machine.with_insts up.insts (view n m)))

  steps_up : become_a_leader (view n m) ≡ machine.done led up.items
  unfolding view part roster_of
  steps_up = step_up_is (view n m)

  module _ (few : slots_after n.slots (view n m).insts ≤ slot_places) where
    few_after : slots_after n.slots insts ≤ slot_places
    unfolding view
    few_after = few

    pub step_up_room : (place : ℕ) → place + length (become_a_leader (view n m)).items ≤ places area
        → (slot_words ≤ length (part m slots_at slot_words)) × (slots_after n.slots insts ≤ slot_places) × (place + length up.items ≤ places area)
    step_up_room place h = (omega (arith, slots_long m ok.long), few_after, rw steps_up at h)

    module _ (k : ℕ) (v : k ≡ slots_after n.slots insts) (s area' : List ℕ) (place count : ℕ)
        (x : StepsUp place start n.slots n.quorum leader n.bal_max_seen.0 (part m slots_at slot_words) area count s area') where
      abbrev with_slots : List ℕ
      with_slots = splice m slots_at slot_words s

      size_slots : length s ≡ slot_words
      size_slots = x.size ∙ slots_long m ok.long

      pub step_up_there : node_words ≤ length with_slots
      step_up_there = rw (slots_size n m ok.long s size_slots) ok.long

      pub execs_there : length (take replica_places (drop execs_at with_slots)) ≡ replica_places
      unfolding part
      execs_there = length_part with_slots execs_at replica_places (omega (arith, step_up_there))

      module _ (f : List ℕ) (w : Forgets (take replica_places (drop execs_at with_slots)) f) where
        abbrev mem' : List ℕ
        mem' = splice with_slots execs_at replica_places f

        size_execs : length f ≡ replica_places
        size_execs = w.size ∙ execs_there

        pub step_up_size : length mem' ≡ length m
        step_up_size = execs_size n with_slots step_up_there f size_execs ∙ slots_size n m ok.long s size_slots

        step_up_beyond : Untouched node_words m mem'
        step_up_beyond j l = execs_beyond n with_slots step_up_there f size_execs j l ∙ slots_beyond n m ok.long s size_slots j l

        step_up_view : (z : Ballot) → z.0 ≡ 0 → view (leading n z k) mem' ≡ led
        unfolding view
        step_up_view z i =
            let after = leading n z k in
            execs_back after with_slots step_up_there f size_execs
            ∙ ap (λ (a : machine.Replica). machine.with_peer_exec_bar (words_from n.population f 0) a) (slots_back after m ok.long s size_slots)
            ∙ rw (w.execs n.population ok.few, v, x.insts, i)

        step_up_ready : (z : Ballot) → ready (leading n z k) mem' ≡ true
        step_up_ready z =
            made_ready (leading n z k) mem'
            (record {
              long = rw step_up_size ok.long;
              quorate = ok.quorate;
              enough = ok.enough;
              few = ok.few;
              own = ok.own;
              ranges = ok.ranges;
              start_low_lem = ok.start_low_lem;
              start_exec_lem = ok.start_exec_lem;
              exec_commit_lem = ok.exec_commit_lem;
              window = omega (arith, v, few_after);
              commit_end_lem = omega (arith, v, grows n.slots insts, ok.commit_end_lem);
            })

        pub becomes : (z : Ballot) → z.0 ≡ 0 → Does (become_a_leader (view n m)) place m area (leading n z k) count mem' area'
        becomes z i = rw steps_up (record { count = x.next; next = step_up_view z i; items = x.items; size = step_up_size; beyond = step_up_beyond; ready_again = step_up_ready z })

-- ---- the whole

leads_is : (c : RespondersConf) (rows : List ℕ) (id : ℕ) → leads (roster_of c rows) id ≡ leads_it (leader_of c.leader) id
unfolding roster_of
leads_is c rows id = refl

module _ (n : Node) (m area : List ℕ) (b : Ballot) (c : RespondersConf) (rows : List ℕ) (t : Bool) (e : t ≡ leads_it (leader_of c.leader) n.id.0) where
  leads_by : (u : Bool) → t ≡ u → leads (roster_of c rows) (view n m).me.id ≡ u
  unfolding view
  leads_by u f = leads_is c rows n.id.0 ∙ sym e ∙ f

  module _ (d : Node) (m' : List ℕ) (a : (view d m' ≡ adopted (view n m) b.0 (roster_of c rows)) × (length m' ≡ length m) × (ready d m' ≡ true) × Untouched node_words m m') where
    pub follows : t ≡ false → (place : ℕ) → Does (heard_new_conf (view n m) b.0 (roster_of c rows)) place m area d place m' area
    unfolding encode
    follows f place =
        rw (heard_following (view n m) b.0 (roster_of c rows) (leads_by false (f)))
        (record { count = (let z : place ≡ place + 0 = omega arith in z); next = a.0; items = refl; size = a.1; beyond = a.3; ready_again = a.2 })

    module _ (f : t ≡ true) where
      is_leading : heard_new_conf (view n m) b.0 (roster_of c rows) ≡ become_a_leader (view d m')
      is_leading = heard_leading (view n m) b.0 (roster_of c rows) (leads_by true (f)) ∙ ap become_a_leader (sym a.0)

      same_insts : (view d m').insts ≡ (view n m).insts
      unfolding update_peer_accept_max
      same_insts = ap (λ (x : machine.Replica). x.insts) a.0

      same_slots : d.slots ≡ n.slots
      unfolding view
      same_slots =
          sym (length_insts d.start_slot.0 d.slots (part m' slots_at slot_words)) ∙ ap length same_insts
          ∙ length_insts n.start_slot.0 n.slots (part m slots_at slot_words)

      few_after_it : slots_after n.slots (view n m).insts ≤ slot_places → slots_after d.slots (view d m').insts ≤ slot_places
      few_after_it h =
          let l = ap (λ (k : ℕ). slots_after k (view d m').insts) same_slots in
          let i = ap (λ (l : List machine.Instance). slots_after n.slots l) same_insts in
          omega (arith, l, i, h)

      pub leads_room : (place : ℕ) → (leads (roster_of c rows) n.id.0 ≡ true → slots_after n.slots (view n m).insts ≤ slot_places) × (place + length (heard_new_conf (view n m) b.0 (roster_of c rows)).items ≤ places area)
          → (ready d m' ≡ true) × (slots_after d.slots (view d m').insts ≤ slot_places) × (place + length (become_a_leader (view d m')).items ≤ places area)
      unfolding view
      leads_room place h = (a.2, few_after_it (h.0 (leads_by true (f))), rw (← is_leading) h.1)

      pub leads_then : (place r : ℕ) (g : Node) (m'' area' : List ℕ) → Does (become_a_leader (view d m')) place m' area g r m'' area' → Does (heard_new_conf (view n m) b.0 (roster_of c rows)) place m area g r m'' area'
      leads_then place r g m'' area' x =
          rw is_leading
          (record { count = x.count; next = x.next; items = x.items; size = x.size ∙ a.1; beyond = λ j l. x.beyond j l ∙ a.3 j l; ready_again = x.ready_again })

-- how many items
module _ (n : Node) (m : List ℕ) (c : RespondersConf) (t : Bool) (e : t ≡ leads_it (leader_of c.leader) n.id.0) where
  counted : (u : Bool) → t ≡ u → (b : ℕ) (rows : List ℕ) → length (heard_new_conf (view n m) b (roster_of c rows)).items
      ≡ (if u then length (step_up n.start_slot.0 n.quorum (leader_of c.leader) b (insts_of n.start_slot.0 n.slots (part m slots_at slot_words))).items else 0)
  unfolding view roster_of
  counted u f b rows =
      heard_count (view n m) b (roster_of c rows)
      ∙ ap (λ (y : Bool). if y then length (step_up n.start_slot.0 n.quorum (leader_of c.leader) b (insts_of n.start_slot.0 n.slots (part m slots_at slot_words))).items else 0)
      (sym e ∙ f)

  pub counts_none : t ≡ false → (b : ℕ) (rows : List ℕ) → 0 ≡ length (heard_new_conf (view n m) b (roster_of c rows)).items
  counts_none f b rows = sym (counted false (f) b rows)

  pub counts_all : t ≡ true → (r : ℕ)
      → ((quorum : ℕ) (leader : Option ℕ) (ballot : ℕ) → r ≡ length (step_up n.start_slot.0 quorum leader ballot (insts_of n.start_slot.0 n.slots (part m slots_at slot_words))).items)
      → (b : ℕ) (rows : List ℕ) → r ≡ length (heard_new_conf (view n m) b (roster_of c rows)).items
  counts_all f r g b rows = g n.quorum (leader_of c.leader) b ∙ sym (counted true (f) b rows)
