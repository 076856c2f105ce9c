-- A place's three parts, one of them changed; the slots that a start and a number of them are.
use Rattle.std.specs.Prelude.{if◌then◌else◌}
use mathlib.Core.Path.{◌≡◌, refl, sym, ap, ◌∙◌}
use mathlib.Core.Logic.{◌≢◌}
use mathlib.Core.List.{List, [], ◌∷◌, ◌++◌, append_assoc, append-nil}
use mathlib.Core.Bool.{Bool, true, false}
use Rattle.std.specs.Prelude.{Option, None, Some, slice_get}
use Prim.Native.Nat.{ℕ, zero, suc, ◌+◌, ◌-◌, ◌*◌, ◌%◌, ◌≤◌, ◌<◌, min}
use native.Mathlib.Nat.{zero-add}
use native.Mathlib.Decide.{dec_lt}
use native.Mathlib.Omega.{arith}
use lib.ListN.{length, set, take, drop, replicate, length-set, length-append}
use lib.Dec.{ltb}
use Rattle.std.proofs.lemmas.List.{take_all}
use borrow.Author.Tests.{le-leb}
use Rattle.words.specs.Choice.{if_none◌then◌else◌}
use Rattle.words.specs.Tab.{tab, tab_ext, tab_set, tab_snoc, tab_shift, drop_tab, take_tab, elem_tab, elem_past, length_tab}
use Rattle.words.specs.Part.{part, splice, part_here, part_before, part_after, length_splice, length_part, get_or_splice, part_set_below}
use Rattle.words.specs.Writes.{writes, length_writes, part_writes}
use Rattle.layout.specs.Layout.{request_row, request_places, cell_row, slot_places, held_places, batch_words, held_words, batches_from, reads_from, slot_words}
use Rattle.bodega.specs.Replica as machine
use Rattle.bodega.specs.Grounds.{holds}
use Rattle.inst_cell.specs.Cell.{Notices, Short, cell_at, cell_words, with_status, has_book}
use Rattle.inst_cell.proofs.Laws.{cell_same, cell_other, cell_near, status_same, status_other}
use Rattle.std.proofs.Common.{get_or-take}
use Rattle.std.specs.Prelude.{get_or}
use Rattle.words.specs.Counted.{counted}
use Rattle.inst_reqs.specs.Row.{near}
use Rattle.inst_reqs.specs.Batch.{requests_of, request_from}
use Rattle.inst_holding.specs.Held.{reads_of, capped, Pushes}
use Rattle.insts.specs.Slots.{short_at, batch_at, reads_at, seen_reads, inst_of, inst_in, insts_of, null_short, SamePlace, Puts, book_of, batch_start, reads_start}
use borrow.Rule.Slice.PartMut.{put_mid}

-- how long a part is that is lent from a to a + k
pub width : (a k : ℕ) → a + k - a ≡ k
width a k = omega arith

-- ---- a batch reads its own words alone

pub requests_of_part : (w : List ℕ) → requests_of (take batch_words w) ≡ requests_of w
unfolding counted
requests_of_part w =
    let e : get_or (take batch_words w) 0 0 ≡ get_or w 0 0 = get_or-take batch_words w 0 0 (omega arith) in
    let n : ℕ = min (get_or w 0 0) request_places in
    ap (λ (k : ℕ). tab (λ i. request_from (take batch_words w) (1 + i * request_row)) 0 (min k request_places)) e
    ∙ tab_ext (λ i. request_from (take batch_words w) (1 + i * request_row)) (λ i. request_from w (1 + i * request_row)) 0 n
    (λ i a b. near (take batch_words w) w (1 + i * request_row) (λ j y z. get_or-take batch_words w j 0 (omega arith)))

-- ---- one of the three is stored

module _ (s : List ℕ) (c : ℕ) (h : slot_words ≤ length s) (b : c < slot_places) where
  pub puts_short : (x : Short) → Puts s c x (batch_at s c) (reads_at s c) (writes s (c * cell_row) (cell_words x))
  unfolding short_at batch_at reads_at
  puts_short x =
      record {
        short = cell_same s c x (omega arith);
        batch = ap requests_of (part_writes s (c * cell_row) (cell_words x) (batches_from + c * batch_words) batch_words (omega arith));
        held = ap reads_of (part_writes s (c * cell_row) (cell_words x) (reads_from + c * held_words) held_words (omega arith));
        others = λ d l n. record {
          short = cell_other s c x (omega arith) d n;
          batch = ap requests_of (part_writes s (c * cell_row) (cell_words x) (batches_from + d * batch_words) batch_words (omega arith));
          reads = ap reads_of (part_writes s (c * cell_row) (cell_words x) (reads_from + d * held_words) held_words (omega arith));
        };
        size = length_writes s (c * cell_row) (cell_words x);
      }

  pub puts_status : (st : machine.Status) → Puts s c (with_status st (short_at s c)) (batch_at s c) (reads_at s c) (set s (c * cell_row + 1) (machine.order st))
  unfolding short_at batch_at reads_at
  puts_status st =
      record {
        short = status_same s c st (omega arith);
        batch = ap requests_of (part_set_below s (batches_from + c * batch_words) batch_words (machine.order st) (c * cell_row + 1) (omega arith));
        held = ap reads_of (part_set_below s (reads_from + c * held_words) held_words (machine.order st) (c * cell_row + 1) (omega arith));
        others = λ d l n. record {
          short = status_other s c st (omega arith) d n;
          batch = ap requests_of (part_set_below s (batches_from + d * batch_words) batch_words (machine.order st) (c * cell_row + 1) (omega arith));
          reads = ap reads_of (part_set_below s (reads_from + d * held_words) held_words (machine.order st) (c * cell_row + 1) (omega arith));
        };
        size = length-set s (c * cell_row + 1) (machine.order st);
      }

  module _ (n : ℕ) (w : List ℕ) where
    low : (a d : ℕ) → a ≤ length s → d < slot_places → batches_from ≤ a → cell_at (splice s a n w) (d * cell_row) ≡ cell_at s (d * cell_row)
    low a d f g k = cell_near (splice s a n w) s (d * cell_row) (λ j x y. get_or_splice s a n w j f (omega arith))

    module _ (k : n ≡ batch_words) (l : length w ≡ batch_words) where
      fits : batches_from + c * batch_words + n ≤ length s
      fits = omega arith

      other_batch : (d : ℕ) → d ≢ c → part (splice s (batches_from + c * batch_words) n w) (batches_from + d * batch_words) batch_words ≡ part s (batches_from + d * batch_words) batch_words
      other_batch d f = elim (dec_lt d c) [
        | yes g ↦ part_before s (batches_from + c * batch_words) n w fits (l ∙ sym k) (batches_from + d * batch_words) batch_words (omega arith)
        | no g ↦ part_after s (batches_from + c * batch_words) n w fits (l ∙ sym k) (batches_from + d * batch_words) batch_words (let m : c < d = omega arith in omega arith)
      ]

      pub puts_batch : (reqs : List machine.Request) → requests_of w ≡ reqs → Puts s c (short_at s c) reqs (reads_at s c) (splice s (batches_from + c * batch_words) n w)
      unfolding short_at batch_at reads_at
      puts_batch reqs q =
          record {
            short = low (batches_from + c * batch_words) c (omega arith) b (omega arith);
            batch = ap requests_of (ap (λ (m : ℕ). part (splice s (batches_from + c * batch_words) n w) (batches_from + c * batch_words) m) (sym k) ∙ part_here s (batches_from + c * batch_words) n w fits (l ∙ sym k)) ∙ q;
            held = ap reads_of (part_after s (batches_from + c * batch_words) n w fits (l ∙ sym k) (reads_from + c * held_words) held_words (omega arith));
            others = λ d g f. record {
              short = low (batches_from + c * batch_words) d (omega arith) g (omega arith);
              batch = ap requests_of (other_batch d f);
              reads = ap reads_of (part_after s (batches_from + c * batch_words) n w fits (l ∙ sym k) (reads_from + d * held_words) held_words (omega arith));
            };
            size = length_splice s (batches_from + c * batch_words) n w fits (l ∙ sym k);
          }

    module _ (k : n ≡ held_words) (l : length w ≡ held_words) where
      room : reads_from + c * held_words + n ≤ length s
      room = omega arith

      other_reads : (d : ℕ) → d ≢ c → part (splice s (reads_from + c * held_words) n w) (reads_from + d * held_words) held_words ≡ part s (reads_from + d * held_words) held_words
      other_reads d f = elim (dec_lt d c) [
        | yes g ↦ part_before s (reads_from + c * held_words) n w room (l ∙ sym k) (reads_from + d * held_words) held_words (omega arith)
        | no g ↦ part_after s (reads_from + c * held_words) n w room (l ∙ sym k) (reads_from + d * held_words) held_words (let m : c < d = omega arith in omega arith)
      ]

      pub puts_reads : (reads : List machine.ReadReq) → reads_of w ≡ reads → Puts s c (short_at s c) (batch_at s c) reads (splice s (reads_from + c * held_words) n w)
      unfolding short_at batch_at reads_at
      puts_reads reads q =
          record {
            short = low (reads_from + c * held_words) c (omega arith) b (omega arith);
            batch = ap requests_of (part_before s (reads_from + c * held_words) n w room (l ∙ sym k) (batches_from + c * batch_words) batch_words (omega arith));
            held = ap reads_of (ap (λ (m : ℕ). part (splice s (reads_from + c * held_words) n w) (reads_from + c * held_words) m) (sym k) ∙ part_here s (reads_from + c * held_words) n w room (l ∙ sym k)) ∙ q;
            others = λ d g f. record {
              short = low (reads_from + c * held_words) d (omega arith) g (omega arith);
              batch = ap requests_of (part_before s (reads_from + c * held_words) n w room (l ∙ sym k) (batches_from + d * batch_words) batch_words (omega arith));
              reads = ap reads_of (other_reads d f);
            };
            size = length_splice s (reads_from + c * held_words) n w room (l ∙ sym k);
          }

  -- ---- as the code does it: a is where the part begins that is lent

  pub batch_lent : (a : ℕ) → a ≡ batch_start c → requests_of (take (a + batch_words - a) (drop a s)) ≡ batch_at s c
  unfolding batch_at part
  batch_lent a e = rw (e, width (batch_start c) batch_words) refl

  pub reads_lent : (a : ℕ) → a ≡ reads_start c → reads_of (take (a + held_words - a) (drop a s)) ≡ reads_at s c
  unfolding reads_at part
  reads_lent a e = rw (e, width (reads_start c) held_words) refl

  lent : (a n : ℕ) → a + n ≤ length s → length (take n (drop a s)) ≡ n
  unfolding part
  lent a n f = length_part s a n f

  module _ (a : ℕ) (e : a ≡ batch_start c) (w : List ℕ) where
    pub batch_copied : (words : List ℕ) → length words ≡ batch_words → w ≡ words → Puts s c (short_at s c) (requests_of words) (reads_at s c) (put_mid a (a + batch_words - a) s w)
    batch_copied words l g = rw e (puts_batch (batch_start c + batch_words - batch_start c) w (width (batch_start c) batch_words) (ap length g ∙ l) (requests_of words) (ap requests_of g))

    pub batch_cleared : (requests_of w ≡ []) × (w ≡ set (take (a + batch_words - a) (drop a s)) 0 0) → Puts s c (short_at s c) [] (reads_at s c) (put_mid a (a + batch_words - a) s w)
    batch_cleared g =
        let k : a + batch_words - a ≡ batch_words = width a batch_words in
        let l : length w ≡ batch_words = ap length g.1 ∙ length-set (take (a + batch_words - a) (drop a s)) 0 0 ∙ lent a (a + batch_words - a) (omega arith) ∙ k in
        rw e (puts_batch (batch_start c + batch_words - batch_start c) w (width (batch_start c) batch_words) l [] g.0)

  module _ (a : ℕ) (e : a ≡ reads_start c) (w : List ℕ) where
    pub reads_cleared : (reads_of w ≡ []) × (w ≡ set (take (a + held_words - a) (drop a s)) 0 0) → Puts s c (short_at s c) (batch_at s c) [] (put_mid a (a + held_words - a) s w)
    reads_cleared g =
        let k : a + held_words - a ≡ held_words = width a held_words in
        let l : length w ≡ held_words = ap length g.1 ∙ length-set (take (a + held_words - a) (drop a s)) 0 0 ∙ lent a (a + held_words - a) (omega arith) ∙ k in
        rw e (puts_reads (reads_start c + held_words - reads_start c) w (width (reads_start c) held_words) l [] g.0)

-- a push that has room
kept_all : (r : Bool) (a b : List machine.ReadReq) → (if r then Some a else None) ≡ Some b → a ≡ b
kept_all true a b e = cc
kept_all false a b e = cc

module _ (s : List ℕ) (c a : ℕ) (e : a ≡ reads_start c) where
  lent_reads : take (a + held_words - a) (drop a s) ≡ part s (reads_start c) held_words
  unfolding part
  lent_reads = rw e (ap (λ (j : ℕ). take j (drop (reads_start c) s)) (width (reads_start c) held_words))

  pub read_pushed : slot_words ≤ length s → c < slot_places → (w : List ℕ) (x : machine.ReadReq) (r : Bool) → length w ≡ length (take (a + held_words - a) (drop a s)) → length (reads_at s c) < held_places
      → Pushes (take (a + held_words - a) (drop a s)) x r w → Puts s c (short_at s c) (batch_at s c) (reads_at s c ++ (x ∷ [])) (put_mid a (a + held_words - a) s w)
  unfolding reads_at
  read_pushed h b w x r l f p =
      let g : length (reads_of (part s (reads_start c) held_words) ++ (x ∷ [])) ≤ held_places = simp length-append (omega arith) in
      let q : (if r then Some (reads_of w) else None) ≡ Some (reads_of (part s (reads_start c) held_words) ++ (x ∷ [])) =
      p.outcome ∙ ap (λ (y : List ℕ). capped (reads_of y ++ (x ∷ []))) lent_reads
      ∙ rw (le-leb (length (reads_of (part s (reads_start c) held_words) ++ (x ∷ []))) held_places g) in
      let k : length w ≡ held_words = l ∙ lent s c h b a (a + held_words - a) (omega arith) ∙ width a held_words in
      rw e (puts_reads s c h b (reads_start c + held_words - reads_start c) w (width (reads_start c) held_words) k (reads_at s c ++ (x ∷ []))
      (kept_all r (reads_of w) (reads_of (part s (reads_start c) held_words) ++ (x ∷ [])) q))

-- ---- one change after another

same_then : {s t u : List ℕ} {d : ℕ} → SamePlace s t d → SamePlace t u d → SamePlace s u d
same_then p q = record { short = q.short ∙ p.short; batch = q.batch ∙ p.batch; reads = q.reads ∙ p.reads }

pub puts_then : {s t u : List ℕ} {c : ℕ} {x y : Short} {a b : List machine.Request} {l m : List machine.ReadReq} → Puts s c x a l t → Puts t c y b m u → Puts s c y b m u
puts_then p q =
    record {
      short = q.short;
      batch = q.batch;
      held = q.held;
      others = λ d g f. same_then (p.others d g f) (q.others d g f);
      size = q.size ∙ p.size;
    }

-- the second changes one of the three
module _ {s t u : List ℕ} {c : ℕ} {x : Short} {a : List machine.Request} {l : List machine.ReadReq} (p : Puts s c x a l t) where
  pub short_after : {y : Short} → Puts t c y (batch_at t c) (reads_at t c) u → Puts s c y a l u
  short_after q = record { short = q.short; batch = q.batch ∙ p.batch; held = q.held ∙ p.held; others = (puts_then p q).others; size = q.size ∙ p.size }

  pub batch_after : {b : List machine.Request} → Puts t c (short_at t c) b (reads_at t c) u → Puts s c x b l u
  batch_after q = record { short = q.short ∙ p.short; batch = q.batch; held = q.held ∙ p.held; others = (puts_then p q).others; size = q.size ∙ p.size }

-- ---- the slots

pub here_is : {s t : List ℕ} {c : ℕ} {x : Short} {a : List machine.Request} {l : List machine.ReadReq} → Puts s c x a l t → inst_in t c ≡ inst_of x a l
unfolding inst_in
here_is p = rw (p.short, p.batch, p.held)

pub there_is : {s t : List ℕ} {d : ℕ} → SamePlace s t d → inst_in t d ≡ inst_in s d
unfolding inst_in
there_is p = rw (p.short, p.batch, p.reads)

pub length_insts : (start n : ℕ) (s : List ℕ) → length (insts_of start n s) ≡ n
unfolding insts_of
length_insts start n s = length_tab (λ i. inst_in s ((start + i) % slot_places)) 0 n

-- two of 32 slots in a row have different places
pub apart : (start i j : ℕ) → i < slot_places → j < slot_places → i ≢ j → (start + i) % slot_places ≢ (start + j) % slot_places
apart start i j a b n e = omega arith

pub place : (a : ℕ) → a % slot_places < slot_places
place a = omega arith

module _ {s t : List ℕ} {x : Short} {a : List machine.Request} {l : List machine.ReadReq} (start n k : ℕ) (p : Puts s ((start + k) % slot_places) x a l t) where
  pub moved : k < n → n ≤ slot_places → insts_of start n t ≡ set (insts_of start n s) k (inst_of x a l)
  unfolding insts_of
  moved h g =
      tab_set (λ i. inst_in s ((start + i) % slot_places)) (λ i. inst_in t ((start + i) % slot_places)) 0 n k (inst_of x a l) h (rw (zero-add k) (here_is p))
      (λ j y z f. there_is (p.others ((start + j) % slot_places) (place (start + j)) (apart start j k (omega arith) (omega arith) (omega arith))))

  pub untouched : n ≤ k → k < slot_places → insts_of start n t ≡ insts_of start n s
  unfolding insts_of
  untouched h g =
      tab_ext (λ i. inst_in t ((start + i) % slot_places)) (λ i. inst_in s ((start + i) % slot_places)) 0 n
      (λ j y z. there_is (p.others ((start + j) % slot_places) (place (start + j)) (apart start j k (omega arith) (omega arith) (omega arith))))

pub appended : {s t : List ℕ} {x : Short} {a : List machine.Request} {l : List machine.ReadReq} (start n : ℕ) → Puts s ((start + n) % slot_places) x a l t → n < slot_places
    → insts_of start (n + 1) t ≡ insts_of start n s ++ (inst_of x a l ∷ [])
unfolding insts_of
appended {s = s} {t = t} {x = x} {a = a} {l = l} start n p h =
    tab_snoc (λ i. inst_in t ((start + i) % slot_places)) 0 n
    ∙ rw (zero-add n, here_is p) (ap (λ (z : List machine.Instance). z ++ (inst_of x a l ∷ [])) (untouched start n n p (omega arith) h))

pub dropped : (start n d : ℕ) (s : List ℕ) → d ≤ n → insts_of (start + d) (n - d) s ≡ drop d (insts_of start n s)
unfolding insts_of
dropped start n d s h =
    tab_shift (λ i. inst_in s ((start + d + i) % slot_places)) (λ i. inst_in s ((start + i) % slot_places)) 0 (0 + d) (n - d)
    (λ k l. let e : start + d + (0 + k) ≡ start + (0 + d + k) = omega arith in ap (λ (j : ℕ). inst_in s (j % slot_places)) e)
    ∙ sym (drop_tab (λ i. inst_in s ((start + i) % slot_places)) 0 n d h)

-- the slot at a place, where it is held
pub inst_at_lem : (start n k : ℕ) (s : List ℕ) → k < n → slice_get (insts_of start n s) k ≡ Some (inst_in s ((start + k) % slot_places))
unfolding insts_of
inst_at_lem start n k s h = elem_tab (λ i. inst_in s ((start + i) % slot_places)) 0 n k h ∙ ap (λ (j : ℕ). Some (inst_in s ((start + j) % slot_places))) (zero-add k)

pub inst_none : (start n k : ℕ) (s : List ℕ) → n ≤ k → slice_get (insts_of start n s) k ≡ None
unfolding insts_of
inst_none start n k s h = elem_past (λ i. inst_in s ((start + i) % slot_places)) 0 n k h

-- ---- null slots after the others

replicate_snoc : {A : Type 0} (n : ℕ) (v : A) → replicate n v ++ (v ∷ []) ≡ replicate (suc n) v
replicate_snoc zero v = refl
replicate_snoc {A = A} (suc n) v = ap (λ (l : List A). v ∷ l) (replicate_snoc n v)

pub pad_start : (start n : ℕ) (s : List ℕ) → insts_of start n s ≡ insts_of start n s ++ replicate (n - n) machine.null_instance
pad_start start n s =
    let z : n - n ≡ 0 = omega arith in
    sym (ap (λ (k : ℕ). insts_of start n s ++ replicate k machine.null_instance) z ∙ append-nil (insts_of start n s))

pub pad_step : (start n i : ℕ) (s₀ s t : List ℕ) → n ≤ i → i < slot_places → Puts s ((start + i) % slot_places) null_short [] (reads_at s ((start + i) % slot_places)) t
    → insts_of start i s ≡ insts_of start n s₀ ++ replicate (i - n) machine.null_instance
    → insts_of start (i + 1) t ≡ insts_of start n s₀ ++ replicate (i + 1 - n) machine.null_instance
pad_step start n i s₀ s t h g p e =
    let z : i + 1 - n ≡ suc (i - n) = omega arith in
    appended start i p g ∙ ap (λ (l : List machine.Instance). l ++ (machine.null_instance ∷ [])) e
    ∙ append_assoc (insts_of start n s₀) (replicate (i - n) machine.null_instance) (machine.null_instance ∷ [])
    ∙ ap (λ (l : List machine.Instance). insts_of start n s₀ ++ l) (replicate_snoc (i - n) machine.null_instance ∙ ap (λ (k : ℕ). replicate k machine.null_instance) (sym z))

pub pad_end : (start n i to : ℕ) (s₀ s : List ℕ) → to ≤ i → i ≤ to → insts_of start i s ≡ insts_of start n s₀ ++ replicate (i - n) machine.null_instance
    → insts_of start to s ≡ insts_of start n s₀ ++ replicate (to - n) machine.null_instance
pad_end start n i to s₀ s h g e = let z : i ≡ to = omega arith in rw z at e

-- the first k of them
pub first : (start n k : ℕ) (s : List ℕ) → k ≤ n → take k (insts_of start n s) ≡ insts_of start k s
unfolding insts_of
first start n k s h = take_tab (λ i. inst_in s ((start + i) % slot_places)) 0 n k h

-- a window's first k slots
pub first_of : (start n k : ℕ) (s : List ℕ) → insts_of start (min k n) s ≡ take k (insts_of start n s)
first_of start n k s = elim (dec_lt n k) [
  | yes h ↦ (let e : min k n ≡ n = omega arith in rw e (sym (take_all k (insts_of start n s) (let l = length_insts start n s in omega arith))))
  | no h ↦ (let e : min k n ≡ k = omega arith in rw e (sym (first start n k s (omega arith))))
]

-- ---- the code's tests

book_holds : (o : Option Notices) (l : List machine.ReadReq)
    → (if_none book_of o l then false else λ b. ltb 0 (length b.holding)) ≡ (if (if_none o then false else λ b. true) then ltb 0 (length l) else false)
book_holds None l = refl
book_holds (Some b) l = refl

holds_by : (s : List ℕ) (c : ℕ) → holds (inst_in s c) ≡ (if has_book (short_at s c) then ltb 0 (length (reads_at s c)) else false)
unfolding inst_in
holds_by s c = book_holds (short_at s c).replica_bk (reads_at s c)

module _ (s : List ℕ) (c : ℕ) (t : Bool) (e : t ≡ has_book (short_at s c)) where
  pub no_book : t ≡ false → t ≡ holds (inst_in s c)
  no_book f = f ∙ sym (holds_by s c ∙ ap (λ (b : Bool). if b then ltb 0 (length (reads_at s c)) else false) (sym e ∙ f))

  pub reads_wait : t ≡ true → (n : ℕ) → n ≡ length (reads_at s c) → ltb 0 n ≡ holds (inst_in s c)
  reads_wait f n g = ap (ltb 0) g ∙ sym (holds_by s c ∙ ap (λ (b : Bool). if b then ltb 0 (length (reads_at s c)) else false) (sym e ∙ f))

-- ---- reads without a notice book

seen_some : (o : Option Notices) (l : List machine.ReadReq) → (if_none o then false else λ b. true) ≡ true → seen_reads o l ≡ l
seen_some None l e = let z : ◌≡◌ {A = ℕ} 0 1 = cc in absurd (omega arith)
seen_some (Some b) l e = refl

seen_none : (o : Option Notices) (l : List machine.ReadReq) → (if_none o then false else λ b. true) ≡ false → seen_reads o l ≡ []
seen_none None l e = refl
seen_none (Some b) l e = let z : ◌≡◌ {A = ℕ} 0 1 = cc in absurd (omega arith)

module _ (s : List ℕ) (c : ℕ) (t : Bool) (e : t ≡ has_book (short_at s c)) where
  pub book_there : t ≡ true → Puts s c (short_at s c) (batch_at s c) (seen_reads (short_at s c).replica_bk (reads_at s c)) s
  book_there f =
      record {
        short = refl;
        batch = refl;
        held = sym (seen_some (short_at s c).replica_bk (reads_at s c) (sym e ∙ f));
        others = λ d g h. record { short = refl; batch = refl; reads = refl };
        size = refl;
      }

  pub book_missing : {u : List ℕ} → t ≡ false → Puts s c (short_at s c) (batch_at s c) [] u → Puts s c (short_at s c) (batch_at s c) (seen_reads (short_at s c).replica_bk (reads_at s c)) u
  book_missing f p =
      record {
        short = p.short;
        batch = p.batch;
        held = p.held ∙ sym (seen_none (short_at s c).replica_bk (reads_at s c) (sym e ∙ f));
        others = p.others;
        size = p.size;
      }
