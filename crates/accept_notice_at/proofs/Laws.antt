-- A notice at a slot's place, in the words of the code.
use Rattle.std.specs.Prelude.{if◌then◌else◌}
use mathlib.Core.Path.{◌≡◌, refl, sym, ap, ◌∙◌}
use mathlib.Core.Bool.{Bool, true, false, not, ◌||◌, ◌&&◌}
use mathlib.Core.List.{List, [], ◌++◌}
use Rattle.std.specs.Prelude.{Option, None, Some}
use Prim.Native.Nat.{ℕ, ◌+◌, ◌-◌, ◌*◌, ◌%◌, ◌≤◌, ◌<◌}
use native.Mathlib.Nat.{add-zero}
use native.Mathlib.Decide.{dec_lt}
use native.Mathlib.Omega.{arith}
use lib.Dec.{ltb, leb, eqb}
use lib.ListN.{length, set, replicate, length-append, length-replicate}
use Rattle.std.specs.List.{slice_get}
use Rattle.std.proofs.lemmas.Option.{slice_get_read}
use Rattle.std.proofs.Math.Seq.{get_or-append_right}
use Rattle.std.proofs.lemmas.List.{get_or-replicate}
use borrow.Author.Tests.{lt-ltb, le-ltb}
use Rattle.words.specs.Choice.{if_none◌then◌else◌}
use Rattle.words.specs.Writes.{writes}
use Rattle.layout.specs.Layout.{slot_places, held_places}
use Rattle.bitmap.specs.Bitmap.{count}
use Rattle.items.specs.Item.{Item, encode, places}
use Rattle.bodega.specs.Replica as machine
use Rattle.bodega.specs.Messages.{take_notice}
use Rattle.inst_cell.specs.Cell.{Notices, Short, cell_of, book_of, status_of}
use Rattle.inst_cell.specs.declared.Cell.{Cell}
use Rattle.inst_cell.specs.declared.NoticeBook.{NoticeBook}
use Rattle.accept_notices.specs.Book.{book_with}
use Rattle.insts.specs.Slots.{short_at, batch_at, reads_at, seen_reads, book_of as slot_book, inst_of, inst_in, insts_of, Puts}
use Rattle.insts.proofs.Rest.{puts_same}
use Rattle.insts.proofs.Laws.{puts_then, short_after, here_is, moved, inst_at_lem, length_insts, pad_start}
use Rattle.release_held_reads.specs.Release.{holding_of, answers_of, emptied, Releases}
use Rattle.release_held_reads.proofs.Laws.{length_answers}
use Rattle.release_held_reads.proofs.Machine.{emptied_is}
use Rattle.accept_notice_at.specs.Notices.{noticed_book, with_notice, applies, quorate, noticed_inst, noticed_items, padded, Noticed, noticed_at, after, Sets, Notes, NotesAt}

-- ---- the words of a place

sets_by : {s t : List ℕ} {c : ℕ} {x : Short} {a : List machine.Request} {l : List machine.ReadReq} (i : machine.Instance) → Puts s c x a l t → inst_of x a l ≡ i → Sets s c i t
sets_by i p e =
    record { inst = here_is p ∙ e; puts = record { short = refl; batch = refl; held = refl; others = p.others; size = p.size } }

sets_then : {s t u : List ℕ} {c : ℕ} {i j : machine.Instance} → Sets s c i t → Sets t c j u → Sets s c j u
sets_then p q = record { inst = q.inst; puts = puts_then p.puts q.puts }

sets_as : {s t : List ℕ} {c : ℕ} {i j : machine.Instance} → Sets s c i t → i ≡ j → Sets s c j t
sets_as p e = record { inst = p.inst ∙ e; puts = p.puts }

same_set : (s : List ℕ) (c : ℕ) → Sets s c (inst_in s c) s
same_set s c = record { inst = refl; puts = puts_same s c }

pub released_sets : {quorum : ℕ} {leader : Option ℕ} {c place r : ℕ} {s area t area' : List ℕ} → Releases quorum leader c place s area r t area' → Sets s c (emptied (inst_in s c)) t
released_sets {c = c} {s = s} x = sets_by (emptied (inst_in s c)) x.emptied (emptied_is s c)

-- ---- the slot at place c

holding_stays : (peer ballot : ℕ) (i : machine.Instance) → holding_of (with_notice peer ballot i) ≡ holding_of i
unfolding take_notice
holding_stays peer ballot i = go i.replica_bk
  where
    book : (t : Bool) (b : machine.Book) (x y : ℕ)
        → (if◌then◌else◌ {A = machine.Book} t (record { bal = ballot; notices = x; holding = b.holding }) (record { bal = b.bal; notices = y; holding = b.holding })).holding ≡ b.holding
    book true b x y = refl
    book false b x y = refl

    go : (o : Option machine.Book) → (take_notice peer ballot (if_none o then machine.new_book else λ b. b)).holding ≡ (if_none o then [] else λ b. b.holding)
    go None = book (ltb 0 ballot) machine.new_book _ _
    go (Some b) = book (ltb b.bal ballot) b _ _

module _ (s : List ℕ) (c : ℕ) (cell : Cell) (e : cell_of cell ≡ short_at s c) (peer ballot : ℕ) where
  abbrev here : machine.Instance
  here = inst_in s c

  abbrev noted : machine.Instance
  noted = with_notice peer ballot here

  module _ (book : NoticeBook)
      (b : (held : List machine.ReadReq) → book_with book (seen_reads (book_of cell.replica_bk) held) ≡ noticed_book peer ballot (slot_book (book_of cell.replica_bk) held)) where
    -- the book that takes the notice
    book_is : book_with book (seen_reads (book_of cell.replica_bk) (reads_at s c)) ≡ noticed_book peer ballot here.replica_bk
    unfolding inst_in
    book_is = b (reads_at s c) ∙ ap (λ (x : Short). noticed_book peer ballot (slot_book x.replica_bk (reads_at s c))) e

    abbrev next : Cell
    next = record { bal = cell.bal; status = cell.status; leader_bk = cell.leader_bk; replica_bk = Some book }

    pub notice_put : (s₁ t : List ℕ) → Puts s c (short_at s c) (batch_at s c) (seen_reads (short_at s c).replica_bk (reads_at s c)) s₁
        → Puts s₁ c (cell_of next) (batch_at s₁ c) (reads_at s₁ c) t → Sets s c noted t
    unfolding inst_in
    notice_put s₁ t p q =
        let k : seen_reads (short_at s c).replica_bk (reads_at s c) ≡ seen_reads (book_of cell.replica_bk) (reads_at s c) =
        ap (λ (x : Short). seen_reads x.replica_bk (reads_at s c)) (sym e) in
        sets_by noted (short_after (rw k at p) q)
        (ap (λ (k : machine.Book). record { bal = cell.bal.0; status = status_of cell.status; reqs = batch_at s c; leader_bk = cell.leader_bk; replica_bk = Some k }) book_is
        ∙ ap (λ (x : Short). record { bal = x.bal; status = x.status; reqs = batch_at s c; leader_bk = x.leader_bk; replica_bk = Some (noticed_book peer ballot here.replica_bk) }) e)

    quorum_of : (quorum : ℕ) (u : Bool) → u ≡ (if_none book_of (Some book) then false else λ x. leb quorum (count x.notices)) → quorate quorum noted ≡ u
    quorum_of quorum u f = sym (f ∙ ap (λ (x : machine.Book). leb quorum (count x.notices)) book_is)

  module _ (quorum : ℕ) (leader : Option ℕ) (last t : Bool) (f : t ≡ eqb ballot cell.bal.0 || (eqb cell.bal.0 0 && last)) where
    abbrev items : List Item
    items = noticed_items quorum leader peer ballot last here

    abbrev left : machine.Instance
    left = noticed_inst quorum peer ballot last here

    is_for : applies ballot last here ≡ t
    unfolding inst_in
    is_for = sym (f ∙ ap (λ (x : Short). eqb ballot x.bal || (eqb x.bal 0 && last)) e)

    -- it is not one for the slot
    module _ (h : t ≡ false) where
      items_none : items ≡ []
      items_none = rw (is_for, h)

      pub due_none : 0 ≡ length items
      due_none = sym (ap length items_none)

      pub notes_none : (place : ℕ) (area : List ℕ) → Notes quorum leader peer ballot last c place s area place s area
      unfolding encode
      notes_none place area =
          record {
            next = sym (ap (λ (l : List Item). place + length l) items_none ∙ add-zero place);
            items = ap (λ (l : List Item). writes area (place * 6) (encode l)) (sym items_none);
            slot = rw (is_for, h) (same_set s c);
          }

    module _ (h : t ≡ true) where
      -- the number of items, before the notice is taken
      module _ (book : NoticeBook)
          (b : (held : List machine.ReadReq) → book_with book (seen_reads (book_of cell.replica_bk) held) ≡ noticed_book peer ballot (slot_book (book_of cell.replica_bk) held))
          (u : Bool) (g : u ≡ (if_none book_of (Some book) then false else λ x. leb quorum (count x.notices))) where
        pub due_open : u ≡ false → 0 ≡ length items
        due_open k = rw (is_for, h, quorum_of book b quorum u g, k)

        pub due_reads : (n : ℕ) → u ≡ true → (n ≡ length (holding_of here)) × (n ≤ held_places) → n ≡ length items
        due_reads n k p =
            rw (is_for, h, quorum_of book b quorum u g, k) (p.0 ∙ sym (length_answers quorum leader noted ∙ ap length (holding_stays peer ballot here)))

      -- once it is taken
      module _ (s₁ : List ℕ) (p : Sets s c noted s₁) (cell₁ : Cell) (e₁ : cell_of cell₁ ≡ short_at s₁ c)
          (u : Bool) (g : u ≡ (if_none book_of cell₁.replica_bk then false else λ x. leb quorum (count x.notices))) where
        quorum_here : quorate quorum noted ≡ u
        unfolding inst_in
        quorum_here =
            ap (quorate quorum) (sym p.inst) ∙ ap (λ (x : Short). if_none slot_book x.replica_bk (reads_at s₁ c) then false else λ k. leb quorum (count k.notices)) (sym e₁)
            ∙ go (book_of cell₁.replica_bk) ∙ sym g
          where
            go : (o : Option Notices) → (if_none slot_book o (reads_at s₁ c) then false else λ k. leb quorum (count k.notices)) ≡ (if_none o then false else λ k. leb quorum (count k.notices))
            go None = refl
            go (Some k) = refl

        module _ (k : u ≡ false) where
          items_open : items ≡ []
          items_open = rw (is_for, h, quorum_here, k)

          left_open : noted ≡ left
          left_open = rw (is_for, h, quorum_here, k)

          pub notes_open : (place : ℕ) (area : List ℕ) → Notes quorum leader peer ballot last c place s area place s₁ area
          unfolding encode
          notes_open place area =
              record {
                next = sym (ap (λ (l : List Item). place + length l) items_open ∙ add-zero place);
                items = ap (λ (l : List Item). writes area (place * 6) (encode l)) (sym items_open);
                slot = sets_as p left_open;
              }

        module _ (k : u ≡ true) where
          items_are : items ≡ answers_of quorum leader (inst_in s₁ c)
          items_are = rw (is_for, h, quorum_here, k) (ap (answers_of quorum leader) (sym p.inst))

          left_is : emptied (inst_in s₁ c) ≡ left
          left_is = rw (is_for, h, quorum_here, k) (ap (λ (i : machine.Instance). emptied i) p.inst)

          module _ (place : ℕ) (area : List ℕ) where
            pub release_room : place + length items ≤ places area → place + length (holding_of (inst_in s₁ c)) ≤ places area
            release_room w =
                let many : length items ≡ length (holding_of (inst_in s₁ c)) = ap length items_are ∙ length_answers quorum leader (inst_in s₁ c) in
                omega (arith, many)

            pub notes_released : (r : ℕ) (v area' : List ℕ) → Releases quorum leader c place s₁ area r v area' → Notes quorum leader peer ballot last c place s area r v area'
            notes_released r v area' x =
                record {
                  next = x.next ∙ ap (λ (l : List Item). place + length l) (sym items_are);
                  items = x.items ∙ ap (λ (l : List Item). writes area (place * 6) (encode l)) (sym items_are);
                  slot = sets_then p (sets_as (released_sets x) left_is);
                }

-- ---- the k-th of the slots from start on

after_more : (held k : ℕ) → (k < after held k) × (after held k - held ≡ k + 1 - held)
after_more held k =
    elim (dec_lt k held) [
      | yes l ↦ rw (lt-ltb k held l) (l, omega arith)
      | no l ↦ rw (le-ltb k held (omega arith)) (omega arith, omega arith)
    ]

pub after_range : (held k : ℕ) → held ≤ slot_places → k < slot_places → (held ≤ after held k) × (after held k ≤ slot_places)
after_range held k h g =
    elim (dec_lt k held) [
      | yes l ↦ rw (lt-ltb k held l) (omega arith, h)
      | no l ↦ rw (le-ltb k held (omega arith)) (omega arith, omega arith)
    ]

elem_null : (l : List machine.Instance) (k : ℕ) → length l ≤ k → slice_get (padded k l) k ≡ Some machine.null_instance
elem_null l k h =
    slice_get_read (padded k l) (k + 1) k machine.null_instance (simp (length-append, length-replicate) (omega arith)) (omega arith)
    (sym (get_or-append_right l (replicate (k + 1 - length l) machine.null_instance) k machine.null_instance h ∙ get_or-replicate (k + 1 - length l) (k - length l) machine.null_instance machine.null_instance (omega arith)))

module _ (quorum : ℕ) (leader : Option ℕ) (peer ballot : ℕ) where
  noticed_by : (k : ℕ) (l : List machine.Instance) (i : machine.Instance) (last : Bool) → slice_get (padded k l) k ≡ Some i → eqb (k + 1) (length (padded k l)) ≡ last
      → noticed_at quorum leader peer ballot k l ≡ record { insts = set (padded k l) k (noticed_inst quorum peer ballot last i); items = noticed_items quorum leader peer ballot last i }
  unfolding noticed_at
  noticed_by k l i last f g = rw (f, g)

  abbrev new : machine.Instance
  new = with_notice peer ballot machine.null_instance

  null_items : (last : Bool) → length (noticed_items quorum leader peer ballot last machine.null_instance) ≡ 0
  null_items last = go (applies ballot last machine.null_instance) (quorate quorum new)
    where
      go : (a b : Bool) → length (if not a then [] else if b then answers_of quorum leader new else []) ≡ 0
      go false b = refl
      go true false = refl
      go true true = length_answers quorum leader new ∙ ap length (holding_stays peer ballot machine.null_instance)

  module _ (start held k : ℕ) (s : List ℕ) where
    abbrev insts : List machine.Instance
    insts = insts_of start held s

    abbrev place : ℕ
    place = (start + k) % slot_places

    abbrev Due : Noticed
    Due = noticed_at quorum leader peer ballot k insts

    -- once there are null ones up to the k-th
    module _ (s₁ : List ℕ) (to : ℕ) (e : to ≡ after held k) (x : insts_of start to s₁ ≡ insts ++ replicate (to - held) machine.null_instance) where
      abbrev last : Bool
      last = eqb (k + 1) to

      below : k < to
      below = omega (arith, (after_more held k).0)

      all : insts_of start to s₁ ≡ padded k insts
      all =
          let z : to - held ≡ k + 1 - length insts = omega (arith, (after_more held k).1, length_insts start held s) in
          x ∙ ap (λ (n : ℕ). insts ++ replicate n machine.null_instance) z

      due_is : Due ≡ record { insts = set (padded k insts) k (noticed_inst quorum peer ballot last (inst_in s₁ place)); items = noticed_items quorum leader peer ballot last (inst_in s₁ place) }
      due_is =
          noticed_by k insts (inst_in s₁ place) last (ap (λ (l : List machine.Instance). slice_get l k) (sym all) ∙ inst_at_lem start to k s₁ below)
          (ap (λ (l : List machine.Instance). eqb (k + 1) (length l)) (sym all) ∙ ap (eqb (k + 1)) (length_insts start to s₁))

      many : length Due.items ≡ length (noticed_items quorum leader peer ballot last (inst_in s₁ place))
      many = ap (λ (w : Noticed). length w.items) due_is

      pub room_in : (from : ℕ) (area : List ℕ) → from + length Due.items ≤ places area → from + length (noticed_items quorum leader peer ballot last (inst_in s₁ place)) ≤ places area
      room_in from area g = omega (arith, many)

      pub notes_at : (from r : ℕ) (area t area' : List ℕ) → length s₁ ≡ length s → to ≤ slot_places → Notes quorum leader peer ballot last place from s₁ area r t area'
          → NotesAt quorum leader peer ballot start held k from s area r t area'
      unfolding inst_in
      notes_at from r area t area' l g y =
          record {
            next = y.next ∙ ap (λ (n : ℕ). from + n) (sym many);
            items = y.items ∙ sym (ap (λ (w : Noticed). writes area (from * 6) (encode w.items)) due_is);
            insts =
                ap (λ (n : ℕ). insts_of start n t) (sym e) ∙ moved start to k y.slot.puts below g ∙ ap (set (insts_of start to s₁) k) y.slot.inst
                ∙ ap (λ (l : List machine.Instance). set l k (noticed_inst quorum peer ballot last (inst_in s₁ place))) all ∙ sym (ap (λ (w : Noticed). w.insts) due_is);
            size = y.slot.puts.size ∙ l;
          }

    pub due_held : k < held → (n : ℕ) → n ≡ length (noticed_items quorum leader peer ballot (eqb (k + 1) held) (inst_in s place)) → n ≡ length Due.items
    due_held h n e = e ∙ sym (many s held (sym (ap (λ (b : Bool). if b then held else k + 1) (lt-ltb k held h))) (pad_start start held s))

    pub due_null : held ≤ k → 0 ≡ length Due.items
    due_null h =
        let last : Bool = eqb (k + 1) (length (padded k insts)) in
        sym (ap (λ (w : Noticed). length w.items) (noticed_by k insts machine.null_instance last (elem_null insts k (omega (arith, length_insts start held s))) refl) ∙ null_items last)
