-- Words as a cell; a cell that is stored is read back, and the others stay.
use Rattle.std.proofs.Common.{◌≡◌, refl, sym, ◌≢◌, inl, inr, Bool, true, false, not, List, [], ◌∷◌, Option, None, Some, ℕ, zero, suc, ◌+◌, ◌-◌, ◌*◌, ◌≤◌, ◌<◌, arith, eqb, ltb, length, get_or, set, get_or-set_same, get_or-set_other, le-ltb, ne_eqb}
use Rattle.std.specs.Prelude.{if◌then◌else◌, is_some}
use Rattle.std.specs.Option.{unwrap_or}
use Rattle.std.specs.Bool.{then_some}
use Rattle.std.specs.Int.{from_bool}
use Rattle.std.proofs.Math.Decide.{dec_lt}
use Rattle.std.proofs.lemmas.List.{drop-drop}
use borrow.Rule.Slice.PartMut.{put_mid}
use Rattle.words.specs.Choice.{if_none◌then◌else◌}
use Rattle.words.specs.Writes.{writes, Agrees, writes_same, writes_other}
use Rattle.words.proofs.Laws.{writes_is}
use Rattle.layout.specs.Layout.{cell_row}
use Rattle.bodega.specs.Replica as machine
use Rattle.inst_cell.specs.declared.Status.{Status}
use Rattle.inst_cell.specs.declared.NoticeBook.{NoticeBook}
use Rattle.inst_cell.specs.declared.Cell.{Cell}
use Rattle.inst_cell.specs.Cell.{Notices, Short, status_of, status_named, book_of, cell_of, acks_named, book_named, present, acks_in, bal_in, notices_in, cell_at, cell_words, with_status, has_book}

-- ---- load and store

acks_then : (b : Bool) (m : ℕ) → then_some (not b) m ≡ (if b then None else Some m)
acks_then true m = refl
acks_then false m = refl

book_then : (b : Bool) (k : NoticeBook) → book_of (then_some (not b) k) ≡ (if b then None else Some (record { bal = k.bal.0; notices = k.notices }))
book_then true k = refl
book_then false k = refl

pub loaded : (s : List ℕ) (p : ℕ) (st : Status) (a : Option ℕ) (b : Option NoticeBook) → status_of st ≡ status_named (get_or s (p + 1) 0)
    → a ≡ then_some (not (eqb (get_or s (p + 2) 0) 0)) (get_or s (p + 3) 0)
    → b ≡ then_some (not (eqb (get_or s (p + 4) 0) 0)) (record { bal = record { 0 = get_or s (p + 5) 0 }; notices = get_or s (p + 6) 0 })
    → cell_of (record { bal = record { 0 = get_or s p 0 }; status = st; leader_bk = a; replica_bk = b }) ≡ cell_at s p
unfolding cell_at
loaded s p st a b e f g = rw (e, f, g, acks_then, book_then)

named_status : (s : machine.Status) → status_named (machine.order s) ≡ s
named_status machine.Null = refl
named_status machine.Preparing = refl
named_status machine.Accepting = refl
named_status machine.Committed = refl
named_status machine.Executed = refl

named_acks : (o : Option ℕ) → acks_named (present o) (acks_in o) ≡ o
named_acks None = refl
named_acks (Some m) = refl

named_book : (o : Option Notices) → book_named (present o) (bal_in o) (notices_in o) ≡ o
named_book None = refl
named_book (Some b) = refl

-- a cell is read from its own words
pub cell_near : (t s : List ℕ) (p : ℕ) → Agrees t s p (p + 7) → cell_at t p ≡ cell_at s p
unfolding cell_at
cell_near t s p h =
    simp (
      h p (omega arith) (omega arith),
      h (p + 1) (omega arith) (omega arith),
      h (p + 2) (omega arith) (omega arith),
      h (p + 3) (omega arith) (omega arith),
      h (p + 4) (omega arith) (omega arith),
      h (p + 5) (omega arith) (omega arith),
      h (p + 6) (omega arith) (omega arith),
    )

-- a cell that is stored is read back
module _ (s : List ℕ) (c : ℕ) (x : Short) (h : c * cell_row + cell_row ≤ length s) where
  stored : (q k : ℕ) → q ≡ c * cell_row + k → k < 7 → get_or (writes s (c * cell_row) (cell_words x)) q 0 ≡ get_or (cell_words x) k 0
  stored q k e b = rw e (writes_same s (c * cell_row) (cell_words x) k (omega arith) b)

  pub cell_same : cell_at (writes s (c * cell_row) (cell_words x)) (c * cell_row) ≡ x
  unfolding cell_at
  cell_same =
      simp (
        stored (c * cell_row) 0 (omega arith) (omega arith),
        stored (c * cell_row + 1) 1 (omega arith) (omega arith),
        stored (c * cell_row + 2) 2 (omega arith) (omega arith),
        stored (c * cell_row + 3) 3 (omega arith) (omega arith),
        stored (c * cell_row + 4) 4 (omega arith) (omega arith),
        stored (c * cell_row + 5) 5 (omega arith) (omega arith),
        stored (c * cell_row + 6) 6 (omega arith) (omega arith),
      )
      (λ i. record { bal = x.bal; status = named_status x.status i; leader_bk = named_acks x.leader_bk i; replica_bk = named_book x.replica_bk i })

  -- and another cell stays as it was
  apart : (d q : ℕ) → d ≢ c → d * cell_row ≤ q → q < d * cell_row + 7 → get_or (writes s (c * cell_row) (cell_words x)) q 0 ≡ get_or s q 0
  apart d q n f g = elim (dec_lt d c) [
    | yes l ↦ writes_other s (c * cell_row) (cell_words x) q (inl (omega arith))
    | no l ↦ writes_other s (c * cell_row) (cell_words x) q (inr (let m : c < d = omega arith in omega arith))
  ]

  pub cell_other : (d : ℕ) → d ≢ c → cell_at (writes s (c * cell_row) (cell_words x)) (d * cell_row) ≡ cell_at s (d * cell_row)
  cell_other d n = cell_near (writes s (c * cell_row) (cell_words x)) s (d * cell_row) (λ q f g. apart d q n f g)

present_is : {A : Type 0} (o : Option A) → from_bool (is_some o) ≡ present o
present_is None = refl
present_is (Some x) = refl

acks_are : (o : Option ℕ) → unwrap_or o 0 ≡ acks_in o
acks_are None = refl
acks_are (Some m) = refl

abbrev no_book : NoticeBook
no_book = record { bal = record { 0 = 0 }; notices = 0 }

book_is_in : (o : Option NoticeBook) → ((unwrap_or o no_book).bal.0 ≡ bal_in (book_of o)) × ((unwrap_or o no_book).notices ≡ notices_in (book_of o)) × (from_bool (is_some o) ≡ present (book_of o))
book_is_in None = (refl, refl, refl)
book_is_in (Some b) = (refl, refl, refl)

-- the words that the code stores
pub stores : (s t : List ℕ) (p w a₀ a₁ b₀ : ℕ) (b : NoticeBook) (x : Cell) → p + 7 ≤ length s → w ≡ machine.order (status_of x.status)
    → a₀ ≡ from_bool (is_some x.leader_bk) → a₁ ≡ unwrap_or x.leader_bk 0 → b₀ ≡ from_bool (is_some x.replica_bk) → b ≡ unwrap_or x.replica_bk no_book
    → t ≡ x.bal.0 ∷ w ∷ a₀ ∷ a₁ ∷ b₀ ∷ b.bal.0 ∷ b.notices ∷ []
    → put_mid p (p + 7 - p) s t ≡ writes s p (cell_words (cell_of x))
stores s t p w a₀ a₁ b₀ b x h e₁ e₂ e₃ e₄ e₅ e =
    let k = book_is_in x.replica_bk in
    let f : t ≡ cell_words (cell_of x) = rw (e, e₁, e₂, e₃, e₄, e₅, present_is, acks_are, k.0, k.1, k.2) in
    let n : p + 7 - p ≡ 7 = omega arith in
    rw (n, f, drop-drop) (sym (writes_is s p (cell_words (cell_of x)) h))

-- ---- one word of a cell

high : (w : ℕ) → 3 < w → ltb w 3 ≡ machine.is_open (status_named w)
high w h = simp (le-ltb w 3 (omega arith), ne_eqb w 0 (omega arith), ne_eqb w 1 (omega arith), ne_eqb w 2 (omega arith), ne_eqb w 3 (omega arith))

open_named : (w : ℕ) → ltb w 3 ≡ machine.is_open (status_named w)
open_named zero = refl
open_named (suc zero) = refl
open_named (suc (suc zero)) = refl
open_named (suc (suc (suc zero))) = refl
open_named (suc (suc (suc (suc w)))) = high (suc (suc (suc (suc w)))) (omega arith)

pub open_is : (s : List ℕ) (p : ℕ) → ltb (get_or s (p + 1) 0) 3 ≡ machine.is_open (cell_at s p).status
unfolding cell_at
open_is s p = open_named (get_or s (p + 1) 0)

named_there : (b : Bool) (x : Notices) → not b ≡ (if_none (if b then None else Some x) then false else λ y. true)
named_there true x = refl
named_there false x = refl

pub book_is : (s : List ℕ) (p : ℕ) → not (eqb (get_or s (p + 4) 0) 0) ≡ has_book (cell_at s p)
unfolding cell_at
book_is s p =
    let e : p + 4 ≡ p + 4 = omega arith in
    rw e (named_there (eqb (get_or s (p + 4) 0) 0) (record { bal = get_or s (p + 5) 0; notices = get_or s (p + 6) 0 }))

-- a status that is stored is read back, and all else stays as it was
module _ (s : List ℕ) (c : ℕ) (st : machine.Status) (h : c * cell_row + cell_row ≤ length s) where
  word_stays : (q : ℕ) → q ≢ c * cell_row + 1 → get_or (set s (c * cell_row + 1) (machine.order st)) q 0 ≡ get_or s q 0
  word_stays q n = get_or-set_other s (c * cell_row + 1) q (machine.order st) 0 n

  pub status_same : cell_at (set s (c * cell_row + 1) (machine.order st)) (c * cell_row) ≡ with_status st (cell_at s (c * cell_row))
  unfolding cell_at
  status_same =
      simp (
        word_stays (c * cell_row) (omega arith),
        get_or-set_same s (c * cell_row + 1) (machine.order st) 0 (omega arith),
        word_stays (c * cell_row + 2) (omega arith),
        word_stays (c * cell_row + 3) (omega arith),
        word_stays (c * cell_row + 4) (omega arith),
        word_stays (c * cell_row + 5) (omega arith),
        word_stays (c * cell_row + 6) (omega arith),
        named_status st,
      )

  pub status_other : (d : ℕ) → d ≢ c → cell_at (set s (c * cell_row + 1) (machine.order st)) (d * cell_row) ≡ cell_at s (d * cell_row)
  status_other d n = cell_near (set s (c * cell_row + 1) (machine.order st)) s (d * cell_row) (λ q f g. word_stays q (λ e. n (omega arith)))
