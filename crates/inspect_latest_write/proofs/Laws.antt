-- A read's condition and answer, test by test as the code comes to them.
use Rattle.std.specs.Prelude.{if◌then◌else◌, option_map}
use mathlib.Core.Path.{◌≡◌, refl, sym, ap, ◌∙◌}
use mathlib.Core.Bool.{Bool, true, false, not, ◌||◌}
use mathlib.Core.List.{List, []}
use Rattle.std.specs.Prelude.{Option, None, Some}
use Prim.Native.Nat.{ℕ, ◌+◌, ◌*◌, ◌%◌, ◌≤◌, ◌<◌}
use native.Mathlib.Decide.{dec_lt}
use native.Mathlib.Omega.{arith}
use borrow.Author.Tests.{lt-ltb, le-ltb, le-leb, ltb-true, ltb-false, leb-true}
use lib.Dec.{ltb, leb, eqb}
use lib.ListN.{length}
use Rattle.layout.specs.Layout.{slots_at, slot_words, written_at, written_words, rows_at, roster_words, node_words, slot_places}
use Rattle.words.specs.Choice.{if_none◌then◌else◌}
use Rattle.words.specs.Part.{part, length_part}
use Rattle.ids.specs.declared.Slot.{Slot}
use Rattle.bitmap.specs.Bitmap.{get}
use Rattle.keys.specs.Read.{read_key}
use Rattle.inty.specs.Value.{value_of}
use Rattle.inty.specs.declared.Inty.{Inty}
use Rattle.roster_ranges.specs.Range.{at}
use Rattle.roster_map.specs.Rows.{ranges_of}
use Rattle.roster_conf.specs.Edits.{view as roster_of}
use Rattle.bodega.specs.Replica as machine
use Rattle.bodega.specs.Localread as local
use Rattle.bodega.specs.Request as request
use Rattle.bodega.specs.Request.{answered}
use Rattle.bodega.specs.Grounds.{full, overfills}
use Rattle.inst_cell.specs.Cell.{status_of, cell_of}
use Rattle.inst_cell.specs.declared.Cell.{Cell}
use Rattle.highest_slot.specs.Written.{written_of, slot_in}
use Rattle.insts.specs.Slots.{place_of, short_at, batch_at, reads_at, inst_of, inst_in}
use Rattle.release_held_reads.specs.Release.{holding_of}
use Rattle.words.proofs.Tests.{and_both}
use Rattle.node.specs.View.{view, ready}
use Rattle.node.specs.declared.Node.{Node}
use Rattle.node.proofs.Calls.{Ready, is_ready}
use Rattle.node.proofs.Slots.{not_below, not_past, held_at_lem}
use Rattle.inspect_latest_write.specs.Located.{held_at, answer_in, Stands, Settles, Gets}
use Rattle.inspect_latest_write.specs.declared.SlotAt.{SlotAt}
use Rattle.inspect_latest_write.specs.declared.Settled.{Settled}
use Rattle.inspect_latest_write.specs.declared.Settled.TheVariants as settled
use Rattle.inspect_latest_write.specs.declared.ReadAnswer.{ReadAnswer}
use Rattle.inspect_latest_write.specs.declared.ReadAnswer.TheVariants.{Found, Missing, FromStore, Consensus, HeldBy, Again}

-- ---- a slot that is held

module _ (n : Node) (m s : List ℕ) (l : part m slots_at slot_words ≡ s) (slot : ℕ) (t : Bool) (e : t ≡ held_at n.start_slot.0 n.slots slot) where
  no_slot : t ≡ false → machine.inst_at (view n m) slot ≡ None
  no_slot f = elim (dec_lt slot n.start_slot.0) [
    | yes h ↦ not_below n m slot h
    | no h ↦
        let k : n.start_slot.0 ≤ slot = omega arith in
        let g : ltb slot (n.start_slot.0 + n.slots) ≡ false = rw (le-leb n.start_slot.0 slot k) at (sym e ∙ f) in
        not_past n m slot k (ltb-false slot (n.start_slot.0 + n.slots) g)
  ]

  slot_at : t ≡ true → machine.inst_at (view n m) slot ≡ Some (inst_in s (place_of slot))
  slot_at f =
      let b = and_both (leb n.start_slot.0 slot) (ltb slot (n.start_slot.0 + n.slots)) (sym e ∙ f) in
      held_at_lem n m slot (leb-true n.start_slot.0 slot b.0) (ltb-true slot (n.start_slot.0 + n.slots) b.1)
      ∙ ap (λ (y : List ℕ). Some (inst_in y (place_of slot))) l

-- the slot's short part as it is loaded
loaded : (s : List ℕ) (c : ℕ) (x : Cell) → cell_of x ≡ short_at s c → inst_in s c ≡ inst_of (cell_of x) (batch_at s c) (reads_at s c)
unfolding inst_in
loaded s c x l = ap (λ (y : _). inst_of y (batch_at s c) (reads_at s c)) (sym l)

full_book : (o : Option machine.Book) → leb 16 (length (if_none o then [] else λ b. b.holding)) ≡ (if_none o then false else λ b. leb 16 (length b.holding))
full_book None = refl
full_book (Some b) = refl

-- ---- `inspect_highest_slot`, `waits_at` and `full`, by the instance that is found

abbrev inspected : ℕ → List ℕ → ℕ → Option machine.Instance → local.Settled
inspected quorum key slot o =
    if_none o then local.SlotStatus slot else λ i.
    if ltb (machine.order i.status) 2 then local.SlotStatus slot else
    if not (local.is_bound quorum i) then local.Notices slot else
    if_none local.last_put key i.reqs then local.MissingPut slot else local.FoundPut

abbrev pub waited : ℕ → Option machine.Instance → local.ReadAnswer
waited slot o = if_none o then local.Again else λ i. if local.waits i then local.HeldBy slot else local.Again

abbrev filled : Option machine.Instance → Bool
filled o = if_none o then false else λ i. if_none i.replica_bk then false else λ b. leb 16 (length b.holding)

module _ (n : Node) (m s : List ℕ) (d : part m slots_at slot_words ≡ s) (slot : Slot) (t : Bool) (e : t ≡ held_at n.start_slot.0 n.slots slot.0) where
  -- where a read waits
  pub wait_none : t ≡ false → local.Again ≡ local.waits_at (view n m) slot.0
  wait_none f = ap (waited slot.0) (sym (no_slot n m s d slot.0 t e f))

  -- whether its slot is full
  pub full_none : t ≡ false → false ≡ full (view n m) slot.0
  full_none f = ap filled (sym (no_slot n m s d slot.0 t e f))

  pub full_counted : t ≡ true → (k : ℕ) → (k ≡ length (holding_of (inst_in s (place_of slot.0)))) × (k ≤ 16) → leb 16 k ≡ full (view n m) slot.0
  full_counted f k j = ap (leb 16) j.0 ∙ full_book (inst_in s (place_of slot.0)).replica_bk ∙ ap filled (sym (slot_at n m s d slot.0 t e f))

  module _ (f : t ≡ true) (x : Cell) (l : cell_of x ≡ short_at s (place_of slot.0)) where
    abbrev here : machine.Instance
    here = inst_of (cell_of x) (batch_at s (place_of slot.0)) (reads_at s (place_of slot.0))

    found_here : machine.inst_at (view n m) slot.0 ≡ Some here
    found_here = slot_at n m s d slot.0 t e f ∙ ap (λ (i : machine.Instance). Some i) (loaded s (place_of slot.0) x l)

    -- the slot beside what its cell says of it
    pub stands : (o : SlotAt) → o.slot ≡ slot → o.place ≡ slot.0 % slot_places
        → ((reqs : List machine.Request) (reads : List machine.ReadReq) → o.waits ≡ local.waits (inst_of (cell_of x) reqs reads)) → Stands (view n m) s o
    stands o p c w =
        record {
          place = rw p c;
          found = rw (p, c) (slot_at n m s d slot.0 t e f);
          waits = rw c (w (batch_at s (place_of slot.0)) (reads_at s (place_of slot.0)) ∙ ap local.waits (sym (loaded s (place_of slot.0) x l)));
        }

  module _ (key : List ℕ) where
    abbrev Inspects : Settled → Type 0
    Inspects x = Settles (view n m) s (local.inspect_highest_slot (view n m) key slot.0) x

    inspect_by : (o : Option machine.Instance) → machine.inst_at (view n m) slot.0 ≡ o
        → inspected n.quorum key slot.0 o ≡ local.inspect_highest_slot (view n m) key slot.0
    unfolding local.inspect_highest_slot view
    inspect_by o f = ap (inspected n.quorum key slot.0) (sym f)

    pub inspect_none : t ≡ false → Inspects (settled.SlotStatus slot)
    inspect_none f = (inspect_by None (no_slot n m s d slot.0 t e f), tt)

    module _ (f : t ≡ true) (x : Cell) (l : cell_of x ≡ short_at s (place_of slot.0)) (u : Bool) (g : u ≡ ltb (machine.order (status_of x.status)) 2) where
      abbrev it : machine.Instance
      it = here f x l

      pub inspect_early : u ≡ true → Inspects (settled.SlotStatus slot)
      inspect_early h = (sym (rw (sym g ∙ h)) ∙ inspect_by (Some it) (found_here f x l), tt)

      module _ (h : u ≡ false) (b : Bool) (y : b ≡ local.is_bound n.quorum it) where
        unbound : b ≡ false → local.Notices slot.0 ≡ local.inspect_highest_slot (view n m) key slot.0
        unbound z = sym (rw (sym g ∙ h, sym y ∙ z)) ∙ inspect_by (Some it) (found_here f x l)

        pub inspect_unbound : b ≡ false → (o : SlotAt) → o.slot ≡ slot → Stands (view n m) s o → Inspects (settled.Notices o)
        inspect_unbound z o p i = (rw p (unbound z), i)

        module _ (z : b ≡ true) (p : Option ℕ) (q : p ≡ local.last_put key (batch_at s (place_of slot.0))) where
          bound : (if not (local.is_bound n.quorum it) then local.Notices slot.0 else if_none p then local.MissingPut slot.0 else local.FoundPut)
              ≡ local.inspect_highest_slot (view n m) key slot.0
          bound = rw q (sym (rw (sym g ∙ h)) ∙ inspect_by (Some it) (found_here f x l))

          pub inspect_found : (k : ℕ) → p ≡ Some k → Inspects (settled.FoundPut k)
          inspect_found k r = (sym (rw (sym y ∙ z, r)) ∙ bound, tt)

          missing : p ≡ None → local.MissingPut slot.0 ≡ local.inspect_highest_slot (view n m) key slot.0
          missing r = sym (rw (sym y ∙ z, r)) ∙ bound

          pub inspect_missing : p ≡ None → (o : SlotAt) → o.slot ≡ slot → Stands (view n m) s o → Inspects (settled.MissingPut o)
          inspect_missing r o v i = (rw v (missing r), i)

-- where a read waits, as it is told
module _ (r : machine.Replica) (s : List ℕ) (x : SlotAt) (y : Stands r s x) where
  wait_by : (if x.waits then local.HeldBy x.slot.0 else local.Again) ≡ local.waits_at r x.slot.0
  wait_by = ap (λ (b : Bool). if b then local.HeldBy x.slot.0 else local.Again) y.waits ∙ ap (waited x.slot.0) (sym y.found)

  pub wait_held : x.waits ≡ true → Gets r s (local.waits_at r x.slot.0) (HeldBy x.slot)
  wait_held h = (sym (rw h) ∙ wait_by, y.found ∙ ap (λ (c : ℕ). Some (inst_in s c)) y.place)

  pub wait_again : x.waits ≡ false → Gets r s (local.waits_at r x.slot.0) Again
  wait_again h = (sym (rw h) ∙ wait_by, tt)

-- ---- `inspect_latest_write`

module _ (n : Node) (m s w : List ℕ) (l : part m written_at written_words ≡ w) (key : List ℕ) (o : Option Slot) (e : slot_in o ≡ local.highest_of key (written_of w)) where
  abbrev IsLatest : Settled → Type 0
  IsLatest x = Settles (view n m) s (local.inspect_latest_write (view n m) key) x

  abbrev latest_of : Option ℕ → local.Settled
  latest_of q =
      if_none (if_none q then None else λ slot. if ltb slot n.start_slot.0 then None else Some slot) then local.NoSlot
      else local.inspect_highest_slot (view n m) key

  latest_by : latest_of (slot_in o) ≡ local.inspect_latest_write (view n m) key
  unfolding local.inspect_latest_write view
  latest_by = ap latest_of (e ∙ ap (λ (y : List ℕ). local.highest_of key (written_of y)) (sym l))

  pub latest_none : o ≡ None → IsLatest settled.NoSlot
  latest_none f = (ap (λ (x : Option Slot). latest_of (slot_in x)) (sym f) ∙ latest_by, tt)

  module _ (slot : Slot) (f : o ≡ Some slot) where
    here_by : latest_of (Some slot.0) ≡ local.inspect_latest_write (view n m) key
    here_by = ap (λ (x : Option Slot). latest_of (slot_in x)) (sym f) ∙ latest_by

    pub latest_low : slot.0 < n.start_slot.0 → IsLatest settled.NoSlot
    latest_low h = (sym (rw (lt-ltb slot.0 n.start_slot.0 h)) ∙ here_by, tt)

    pub latest_at : n.start_slot.0 ≤ slot.0 → (y : Settled) → Settles (view n m) s (local.inspect_highest_slot (view n m) key slot.0) y → IsLatest y
    latest_at h y g = (g.0 ∙ sym (rw (le-ltb slot.0 n.start_slot.0 h)) ∙ here_by, g.1)

-- ---- `settled`

-- with what its tests leave
abbrev responds : ℕ → ℕ → Option ℕ → local.Settled → local.Settled
responds default id o y = if not (get (if_none o then default else λ m. m) id) then (if_none o then local.DefaultRoster else λ m. local.StoredRange) else y

module _ (n : Node) (m : List ℕ) (leases : ℕ) (key : List ℕ) where
  abbrev stored : ℕ → Option ℕ
  stored k = at (ranges_of (part m rows_at roster_words) n.bodega_conf.count) k

  abbrev whole : local.Settled
  whole = request.settled (view n m) leases key

  abbrev barred : local.Settled
  barred = if ltb n.commit_bar.0 n.peer_accept_max.0 then local.Bar else local.inspect_latest_write (view n m) key

  abbrev settled_by : Bool → Option ℕ → local.Settled
  settled_by t o =
      if t then local.StableLeader else
      if ltb leases n.quorum then local.FewLeases else
      if_none o then local.UnreadKey else λ j. responds n.bodega_conf.default n.id.0 (stored j) barred

  abbrev Whole : Settled → Type 0
  Whole x = Settles (view n m) (part m slots_at slot_words) whole x

  settled_is : settled_by (local.is_stable_leader (view n m) leases) (read_key key) ≡ whole
  unfolding request.settled view roster_of
  settled_is = refl

  module _ (t : Bool) (e : t ≡ local.is_stable_leader (view n m) leases) where
    pub settled_stable : t ≡ true → Whole settled.StableLeader
    settled_stable f = (ap (λ (b : Bool). settled_by b (read_key key)) (sym f ∙ e) ∙ settled_is, tt)

    module _ (f : t ≡ false) where
      unstable : settled_by false (read_key key) ≡ whole
      unstable = ap (λ (b : Bool). settled_by b (read_key key)) (sym f ∙ e) ∙ settled_is

      pub settled_leases : leases < n.quorum → Whole settled.FewLeases
      settled_leases h = (first ∙ unstable, tt)
        where
          first : local.FewLeases ≡ settled_by false (read_key key)
          first = rw (lt-ltb leases n.quorum h)

      module _ (h : n.quorum ≤ leases) (k : Option Inty) (g : option_map value_of k ≡ read_key key) where
        read_by : (o : Option ℕ) → option_map value_of k ≡ o → (if_none o then local.UnreadKey else λ j. responds n.bodega_conf.default n.id.0 (stored j) barred) ≡ whole
        read_by o q = first ∙ ap (settled_by false) (sym q ∙ g) ∙ unstable
          where
            first : (if_none o then local.UnreadKey else λ j. responds n.bodega_conf.default n.id.0 (stored j) barred) ≡ settled_by false o
            first = rw (le-ltb leases n.quorum h)

        pub settled_unread : k ≡ None → Whole settled.UnreadKey
        settled_unread q = (read_by None (ap (option_map value_of) q), tt)

        module _ (i : Inty) (q : k ≡ Some i) (r : Option ℕ) (l : r ≡ stored (value_of i)) where
          looked : responds n.bodega_conf.default n.id.0 (r) barred ≡ whole
          looked = ap (λ (o : Option ℕ). responds n.bodega_conf.default n.id.0 o barred) l ∙ read_by (Some (value_of i)) (ap (option_map value_of) q)

          module _ (u : Bool) (d : u ≡ get (if_none r then n.bodega_conf.default else λ j. j) n.id.0) where
            answers : (b : Bool) → u ≡ b → (if not b then (if_none r then local.DefaultRoster else λ j. local.StoredRange) else barred) ≡ whole
            answers b x = ap (λ (y : Bool). if not y then (if_none r then local.DefaultRoster else λ j. local.StoredRange) else barred) (sym x ∙ d) ∙ looked

            pub settled_roster : u ≡ false → (y : Settled) → Settles (view n m) (part m slots_at slot_words) (if_none r then local.DefaultRoster else λ j. local.StoredRange) y → Whole y
            settled_roster x y z = (z.0 ∙ answers false x, z.1)

            module _ (x : u ≡ true) where
              pub settled_bar : n.commit_bar.0 < n.peer_accept_max.0 → Whole settled.Bar
              settled_bar b = (first ∙ answers true x, tt)
                where
                  first : local.Bar ≡ barred
                  first = rw (lt-ltb n.commit_bar.0 n.peer_accept_max.0 b)

              pub settled_latest : n.peer_accept_max.0 ≤ n.commit_bar.0 → (y : Settled) → Settles (view n m) (part m slots_at slot_words) (local.inspect_latest_write (view n m) key) y → Whole y
              settled_latest b y z = (z.0 ∙ first ∙ answers true x, z.1)
                where
                  first : local.inspect_latest_write (view n m) key ≡ barred
                  first = rw (le-ltb n.commit_bar.0 n.peer_accept_max.0 b)

-- ---- an answer that holds nothing

module _ (r : machine.Replica) where
  pub fills_none : (a : ReadAnswer) → ((x : Slot) → a ≡ HeldBy x → ⊥) → false ≡ overfills r (answer_in a)
  fills_none (Found v) o = refl
  fills_none Missing o = refl
  fills_none FromStore o = refl
  fills_none Consensus o = refl
  fills_none (HeldBy slot) o = absurd (o slot refl)
  fills_none Again o = refl

  pub holds_none : (q : machine.ReadReq) (a : ReadAnswer) → ((x : Slot) → a ≡ HeldBy x → ⊥) → (answered r q (answer_in a)).replica ≡ r
  holds_none q (Found v) o = refl
  holds_none q Missing o = refl
  holds_none q FromStore o = refl
  holds_none q Consensus o = refl
  holds_none q (HeldBy slot) o = absurd (o slot refl)
  holds_none q Again o = refl

-- ---- the parts lent are long enough

module _ (n : Node) (m : List ℕ) (e : ready n m ≡ true) where
  abbrev readied : Ready n m
  readied = is_ready n m true (sym e) refl

  pub words_long : node_words ≤ length m
  words_long = readied.long

  pub rows_long : n.bodega_conf.count * 5 ≤ length (part m rows_at roster_words)
  rows_long = rw (length_part m rows_at roster_words (omega (arith, words_long))) (omega (arith, readied.ranges))

-- ---- a read that is held waits in the notice book of a slot that is held

pub record Waiting (r : machine.Replica) (slot : ℕ) : Type 0 where
  pub inst : machine.Instance
  pub book : machine.Book
  pub found : machine.inst_at r slot ≡ Some inst
  pub has : inst.replica_bk ≡ Some book

in_book : (r : machine.Replica) (slot : ℕ) (i : machine.Instance) → machine.inst_at r slot ≡ Some i → (o : Option machine.Book) → i.replica_bk ≡ o
    → (if_none o then false else λ b. true) ≡ true → Waiting r slot
in_book r slot i e None f g = let z : ◌≡◌ {A = ℕ} 0 1 = cc in absurd (omega arith)
in_book r slot i e (Some b) f g = record { inst = i; book = b; found = e; has = f }

in_slot : (r : machine.Replica) (s slot : ℕ) (i : machine.Instance) → machine.inst_at r s ≡ Some i → (b : Bool) → local.waits i ≡ b
    → (if b then local.HeldBy s else local.Again) ≡ local.HeldBy slot → Waiting r slot
in_slot r s slot i e false f g = let z : ◌≡◌ {A = ℕ} 0 1 = cc in absurd (omega arith)
in_slot r s slot i e true f g =
    let z : s ≡ slot = cc in
    in_book r slot i (ap (machine.inst_at r) (sym z) ∙ e) i.replica_bk refl (and_both (machine.is_accepting i.status) (if_none i.replica_bk then false else λ b. true) f).1

in_window : (r : machine.Replica) (s slot : ℕ) (o : Option machine.Instance) → machine.inst_at r s ≡ o → waited s o ≡ local.HeldBy slot → Waiting r slot
in_window r s slot None e f = let z : ◌≡◌ {A = ℕ} 0 1 = cc in absurd (omega arith)
in_window r s slot (Some i) e f = in_slot r s slot i e (local.waits i) refl f

not_improper : (b : Bool) (slot : ℕ) → (if b then local.Again else local.Consensus) ≡ local.HeldBy slot → ⊥
not_improper true slot e = let z : ◌≡◌ {A = ℕ} 0 1 = cc in omega arith
not_improper false slot e = let z : ◌≡◌ {A = ℕ} 0 1 = cc in omega arith

not_unwritten : (b : Bool) (slot : ℕ) → (if b then local.Missing else local.FromStore) ≡ local.HeldBy slot → ⊥
not_unwritten true slot e = let z : ◌≡◌ {A = ℕ} 0 1 = cc in omega arith
not_unwritten false slot e = let z : ◌≡◌ {A = ℕ} 0 1 = cc in omega arith

module _ (r : machine.Replica) (slot : ℕ) where
  abbrev improperly : Bool
  improperly = not (machine.is_leader r) || eqb r.bal.prepared 0

  pub waiting : (y : local.Settled) → local.answer_of r y ≡ local.HeldBy slot → Waiting r slot
  waiting local.StableLeader e = let z : ◌≡◌ {A = ℕ} 0 1 = cc in absurd (omega arith)
  waiting local.FewLeases e = absurd (not_improper improperly slot e)
  waiting local.UnreadKey e = absurd (not_improper improperly slot e)
  waiting local.StoredRange e = absurd (not_improper improperly slot e)
  waiting local.DefaultRoster e = absurd (not_improper improperly slot e)
  waiting local.Bar e = absurd (not_improper improperly slot e)
  waiting local.NoSlot e = absurd (not_unwritten (eqb r.bar.start 0) slot e)
  waiting (local.SlotStatus s) e = let z : ◌≡◌ {A = ℕ} 0 1 = cc in absurd (omega arith)
  waiting (local.Notices s) e = in_window r s slot (machine.inst_at r s) refl e
  waiting (local.FoundPut v) e = let z : ◌≡◌ {A = ℕ} 0 1 = cc in absurd (omega arith)
  waiting (local.MissingPut s) e = in_window r s slot (machine.inst_at r s) refl e
