-- A slot's held reads answered one by one.
use mathlib.Core.Path.{◌≡◌, refl, sym, ap, ◌∙◌}
use mathlib.Core.Bool.{Bool, true, false, not}
use mathlib.Core.List.{List, [], ◌∷◌, ◌++◌, map, append_assoc}
use Rattle.std.specs.Prelude.{Option, None, Some, if◌then◌else◌}
use Prim.Native.Nat.{ℕ, suc, ◌+◌, ◌*◌, ◌≤◌, ◌<◌}
use native.Mathlib.Nat.{add-zero}
use native.Mathlib.Omega.{arith}
use lib.Dec.{leb}
use lib.ListN.{length, length-append, length-map}
use Rattle.std.specs.Option.{is_some}
use Rattle.words.specs.Choice.{if_none◌then◌else◌}
use Rattle.words.specs.Writes.{length_writes}
use Rattle.bitmap.specs.Bitmap.{count}
use Rattle.items.specs.Item.{Item, encode, places}
use Rattle.items.specs.Area.{Put, put_item}
use Rattle.items.proofs.Laws.{put_true, put_after}
use Rattle.bodega.specs.Replica as machine
use Rattle.bodega.specs.Localread.{is_bound}
use Rattle.inst_cell.specs.Cell.{Notices, Short, cell_of, book_of}
use Rattle.inst_cell.specs.declared.Cell.{Cell}
use Rattle.inst_cell.specs.declared.NoticeBook.{NoticeBook}
use Rattle.inst_reqs.specs.Batch.{requests_of}
use Rattle.inst_holding.specs.Held.{reads_of}
use Rattle.insts.specs.Slots as slots
use Rattle.insts.specs.Slots.{short_at, batch_at, reads_at, inst_of, inst_in}
use Rattle.release_held_reads.specs.Release.{answer_to, holding_of, answers_of, Answered}

-- ---- whether the write is bound to commit

-- a slot's held reads say nothing of that
pub bound_by : (quorum : ℕ) (x : Short) (reqs : List machine.Request) (reads : List machine.ReadReq) → is_bound quorum (inst_of x reqs reads)
    ≡ (if machine.is_accepting x.status then (if_none x.replica_bk then false else λ b. leb quorum (count b.notices)) else not (machine.is_open x.status))
unfolding is_bound
bound_by quorum x reqs reads = go x.replica_bk
  where
    go : (o : Option Notices)
        → (if machine.is_accepting x.status then (if_none slots.book_of o reads then false else λ b. leb quorum (count b.notices)) else not (machine.is_open x.status))
        ≡ (if machine.is_accepting x.status then (if_none o then false else λ b. leb quorum (count b.notices)) else not (machine.is_open x.status))
    go None = refl
    go (Some b) = refl

-- ---- items from a place on, one by one

module _ {place : ℕ} {area : List ℕ} where
  pub none_put : Answered place area [] place area
  unfolding encode
  none_put = record { next = sym (add-zero place); items = refl }

  -- one more at the end
  one_more : (l : List Item) (count : ℕ) (now : List ℕ) → Answered place area l count now → place + length l < places area → (x : Item) (t : Bool) (after : List ℕ) (more : ℕ)
      → ◌≡◌ {A = Put} (record { taken = t; area = after }) (put_item now count x) → more ≡ count + (if t then 1 else 0) → Answered place area (l ++ (x ∷ [])) more after
  one_more l count now a h x t after more p k =
      let room : count < places now = rw (a.next, a.items, length_writes area (place * 6) (encode l)) h in
      let full : t ≡ true = ap (λ (q : Put). q.taken) p ∙ put_true now count x room in
      record {
        next = k ∙ rw (full, a.next, length-append) (omega arith);
        items = ap (λ (q : Put). q.area) p ∙ rw (a.items, a.next) (put_after area place l x h);
      }

-- ---- the slot at place c

pub length_answers : (quorum : ℕ) (leader : Option ℕ) (i : machine.Instance) → length (answers_of quorum leader i) ≡ length (holding_of i)
length_answers quorum leader i = length-map (holding_of i) (answer_to (is_bound quorum i) leader i.reqs)

module _ (s : List ℕ) (c : ℕ) (cell : Cell) (e : cell_of cell ≡ short_at s c) where
  book_here : (short_at s c).replica_bk ≡ book_of cell.replica_bk
  book_here = sym (ap (λ (x : Short). x.replica_bk) e)

  pub held_by : holding_of (inst_in s c) ≡ (if is_some cell.replica_bk then reads_at s c else [])
  unfolding inst_in
  held_by = rw book_here (go cell.replica_bk)
    where
      go : (o : Option NoticeBook) → (if_none slots.book_of (book_of o) (reads_at s c) then [] else λ (b : machine.Book). b.holding) ≡ (if is_some o then reads_at s c else [])
      go None = refl
      go (Some b) = refl

  -- of the slot's reads none where it has no notice book, and else what its lent words hold
  module _ (quorum : ℕ) (leader : Option ℕ) where
    pub no_answers : is_some cell.replica_bk ≡ false → answers_of quorum leader (inst_in s c) ≡ []
    no_answers n =
        let k : holding_of (inst_in s c) ≡ [] = rw n at held_by in
        rw k

    pub answers_are : (bound : Bool) (batch reads : List ℕ) → ((reqs : List machine.Request) (held : List machine.ReadReq) → bound ≡ is_bound quorum (inst_of (cell_of cell) reqs held))
        → requests_of batch ≡ batch_at s c → reads_of reads ≡ reads_at s c → is_some cell.replica_bk ≡ true
        → answers_of quorum leader (inst_in s c) ≡ map (answer_to bound leader (requests_of batch)) (reads_of reads)
    unfolding inst_in
    answers_are bound batch reads b f g h =
        let k : holding_of (inst_in s c) ≡ reads_at s c = rw h at held_by in
        let d : is_bound quorum (inst_in s c) ≡ bound = sym (b (batch_at s c) (reads_at s c) ∙ ap (λ (x : Short). is_bound quorum (inst_of x (batch_at s c) (reads_at s c))) e) in
        rw (k, d, f, g)

-- items put one by one from a place on: of all of them those that are done are put, and the others are left
pub record Left (place : ℕ) (area : List ℕ) (all left : List Item) (n : ℕ) (now : List ℕ) : Type 0 where
  pub done : List Item
  pub whole : all ≡ done ++ left
  pub put : Answered place area done n now

module _ {place : ℕ} {area : List ℕ} (all : List Item) where
  pub left_start : (left : List Item) → all ≡ left → Left place area all left place area
  left_start left e = record { done = []; whole = e; put = none_put }

  pub left_next : (x : Item) (left : List Item) (n : ℕ) (now : List ℕ) → place + length all ≤ places area → Left place area all (x ∷ left) n now
      → (t : Bool) (after : List ℕ) (more : ℕ) → ◌≡◌ {A = Put} (record { taken = t; area = after }) (put_item now n x) → more ≡ n + (if t then 1 else 0)
      → Left place area all left more after
  left_next x left n now h l t after more p k =
      let w : length all ≡ length l.done + suc (length left) = ap length l.whole ∙ length-append l.done (x ∷ left) in
      record {
        done = l.done ++ (x ∷ []);
        whole = l.whole ∙ sym (append_assoc l.done (x ∷ []) left);
        put = one_more l.done n now l.put (omega arith) x t after more p k;
      }
