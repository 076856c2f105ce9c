-- The walk of `advance_commit_bar` at one slot, and as a pass over the slots.
use Rattle.std.specs.Prelude.{if◌then◌else◌}
use mathlib.Core.Path.{◌≡◌, refl, sym, ap, ◌∙◌}
use mathlib.Core.Bool.{Bool, true, false, not, cond}
use mathlib.Core.List.{List, [], ◌∷◌, ◌++◌, append-nil, map}
use Prim.Native.Nat.{ℕ, zero, suc, ◌+◌, ◌-◌, ◌*◌, ◌%◌, ◌≤◌, ◌<◌, min}
use native.Mathlib.Omega.{arith}
use lib.ListN.{length, take, drop, length-drop}
use native.Mathlib.Decide.{dec_lt}
use Rattle.std.specs.List.{filter, take_while, range_with_len}
use Rattle.std.proofs.Math.Seq.{take-length}
use Rattle.std.proofs.lemmas.List.{take_all}
use Rattle.std.proofs.lemmas.List.Sums.{take_while-cons}
use Rattle.words.specs.Writes.{writes}
use Rattle.layout.specs.Layout.{slot_places}
use Rattle.items.specs.Item.{Item, Commit, item_words, encode, places}
use Rattle.items.specs.Area.{Put, put_item}
use Rattle.items.proofs.Laws.{put_area, put_true}
use Rattle.bodega.specs.Replica as machine
use Rattle.bodega.specs.Heartbeat.{Walk, walk, advance_commit_bar}
use Rattle.inst_cell.specs.Cell.{Short, with_status}
use Rattle.insts.specs.Slots.{short_at, batch_at, reads_at, inst_of, inst_in, insts_of, Puts}
use Rattle.insts.proofs.Laws.{first, length_insts}
use Rattle.insts.proofs.Rest.{puts_same}
use Rattle.advance_commit_bar.proofs.Slots.{slots_from}
use Rattle.advance_commit_bar.proofs.Pass.{still, pass, left, left_is, Going, Passed, fits, going_step}
use Rattle.advance_commit_bar.specs.Walk.{stops_at, one_if_open, item_if_open, change_open, ChangesOpen, mark_items, Marks, walked, Advances}

-- ---- one slot

module _ (f : Short → Short) (x : Item) (s : List ℕ) (c : ℕ) (t : Bool) (e : t ≡ machine.is_open (inst_in s c).status) (area : List ℕ) (place : ℕ) where
  short_open : (b : Bool) → t ≡ b → machine.is_open (short_at s c).status ≡ b
  unfolding inst_in
  short_open b g = sym e ∙ g

  pub stays : t ≡ false → ChangesOpen f x c place s area place s area
  unfolding encode
  stays g =
      let q : change_open f (short_at s c) ≡ short_at s c = rw (short_open false g) in
      record {
        next = rw (sym e ∙ g) (omega arith);
        items = rw (sym e ∙ g);
        changed = rw q (puts_same s c);
      }

  pub changes : t ≡ true → place + one_if_open (inst_in s c) ≤ places area → (y : Short) (u area' : List ℕ) (r : ℕ) (b : Bool) → y ≡ f (short_at s c)
      → Puts s c y (batch_at s c) (reads_at s c) u → ◌≡◌ {A = Put} (record { taken = b; area = area' }) (put_item area place x) → r ≡ place + (if b then 1 else 0)
      → ChangesOpen f x c place s area r u area'
  unfolding encode
  changes g h y u area' r b z p w n =
      let k : one_if_open (inst_in s c) ≡ 1 = rw (sym e ∙ g) in
      let q : change_open f (short_at s c) ≡ y = rw (short_open true g) (sym z) in
      record {
        next = rw k (n ∙ ap (λ (v : Bool). place + (if v then 1 else 0)) (ap (λ (v : Put). v.taken) w ∙ put_true area place x (omega arith)));
        items = rw (sym e ∙ g) (ap (λ (v : Put). v.area) w ∙ put_area area place x (omega arith) ∙ ap (writes area (place * 6)) (sym (append-nil (item_words x))));
        changed = rw q p;
      }

pub one_item : (x : Item) (i : machine.Instance) → one_if_open i ≡ length (item_if_open x i)
one_item x i = go (machine.is_open i.status)
  where
    go : (b : Bool) → (if b then 1 else 0) ≡ length (if b then x ∷ [] else [])
    go true = refl
    go false = refl

-- ---- the walk as a pass over the slots

abbrev pub marked : machine.Instance → machine.Instance
marked i = if machine.is_open i.status then machine.with_status machine.Committed i else i

marked_is : (s : List ℕ) (c : ℕ) → inst_of (change_open (with_status machine.Committed) (short_at s c)) (batch_at s c) (reads_at s c) ≡ marked (inst_in s c)
unfolding inst_in
marked_is s c = go (machine.is_open (short_at s c).status)
  where
    go : (b : Bool) → inst_of (if b then with_status machine.Committed (short_at s c) else short_at s c) (batch_at s c) (reads_at s c)
        ≡ (if b then machine.with_status machine.Committed (inst_of (short_at s c) (batch_at s c) (reads_at s c)) else inst_of (short_at s c) (batch_at s c) (reads_at s c))
    go true = refl
    go false = refl

walk_is : (ballot slot n : ℕ) (l : List machine.Instance) → walk ballot slot n l ≡ pass (stops_at ballot) marked mark_items slot n l
unfolding walk pass
walk_is ballot slot zero l = refl
walk_is ballot slot (suc n) [] = refl
walk_is ballot slot (suc n) (i ∷ l) = rw (walk_is ballot (slot + 1) n l) (go (stops_at ballot i) (machine.is_open i.status))
  where
    w : Walk
    w = pass (stops_at ballot) marked mark_items (slot + 1) n l

    go : (a b : Bool) → ◌≡◌ {A = Walk}
        (if a then still (i ∷ l) else if not b then record { insts = i ∷ w.insts; items = w.items } else record { insts = machine.with_status machine.Committed i ∷ w.insts; items = Commit slot ∷ w.items })
        (if a then still (i ∷ l) else record { insts = (if b then machine.with_status machine.Committed i else i) ∷ w.insts; items = (if b then Commit slot ∷ [] else []) ++ w.items })
    go true b = refl
    go false true = refl
    go false false = refl

-- how many items it has
abbrev pub is_open_at : machine.Instance → Bool
is_open_at i = machine.is_open i.status

abbrev pub goes_on_at : ℕ → machine.Instance → Bool
goes_on_at ballot i = not (stops_at ballot i)

walk_counts : (ballot slot n : ℕ) (l : List machine.Instance) → length (filter is_open_at (take_while (goes_on_at ballot) (take n l))) ≡ length (walk ballot slot n l).items
unfolding walk
walk_counts ballot slot zero l = refl
walk_counts ballot slot (suc n) [] = refl
walk_counts ballot slot (suc n) (i ∷ l) = rw (take_while-cons (goes_on_at ballot) i (take n l)) (put_in (stops_at ballot i) ∙ go (stops_at ballot i) (machine.is_open i.status) (walk_counts ballot (slot + 1) n l))
  where
    w : Walk
    w = walk ballot (slot + 1) n l

    r : List machine.Instance
    r = take_while (goes_on_at ballot) (take n l)

    go : (a b : Bool) → length (filter is_open_at r) ≡ length w.items
        → length (cond (not a) (cond b (i ∷ filter is_open_at r) (filter is_open_at r)) [])
        ≡ length (if a then still (i ∷ l) else if not b then record { insts = i ∷ w.insts; items = w.items } else record { insts = machine.with_status machine.Committed i ∷ w.insts; items = Commit slot ∷ w.items }).items
    go true b e = refl
    go false true e = ap suc e
    go false false e = e

    put_in : (a : Bool) → length (filter is_open_at (cond (not a) (i ∷ r) [])) ≡ length (cond (not a) (cond (machine.is_open i.status) (i ∷ filter is_open_at r) (filter is_open_at r)) [])
    put_in true = refl
    put_in false = refl

take_min : (n : ℕ) (l : List machine.Instance) → take (min n (length l)) l ≡ take n l
take_min n l = elim (dec_lt n (length l)) [
  | yes h ↦ (let e : min n (length l) ≡ n = omega arith in rw e)
  | no h ↦ (let e : min n (length l) ≡ length l = omega arith in rw e (take-length l ∙ sym (take_all n l (omega arith))))
]

counts : (start n commit ballot bar : ℕ) (s : List ℕ) → start ≤ commit → commit ≤ start + n → (r c : ℕ) → r ≡ min n (bar - start)
    → c ≡ length (filter is_open_at (take_while (goes_on_at ballot) (map (λ k. inst_in s ((start + k) % slot_places)) (range_with_len (commit - start) (r - (commit - start))))))
    → c ≡ length (walked start n commit ballot bar s).items
counts start n commit ballot bar s h g r c e f =
    let l : List machine.Instance = drop (commit - start) (insts_of start n s) in
    let d : length l ≡ n - (commit - start) = length-drop (commit - start) (insts_of start n s) ∙ ap (λ (k : ℕ). k - (commit - start)) (length_insts start n s) in
    let m : r - (commit - start) ≡ min (bar - commit) (length l) = omega arith in
    f ∙ ap (λ (v : List machine.Instance). length (filter is_open_at (take_while (goes_on_at ballot) v))) (slots_at ∙ ap (λ (k : ℕ). take k l) m ∙ take_min (bar - commit) l)
    ∙ walk_counts ballot commit (bar - commit) l
  where
    slots_at : map (λ k. inst_in s ((start + k) % slot_places)) (range_with_len (commit - start) (r - (commit - start))) ≡ take (r - (commit - start)) (drop (commit - start) (insts_of start n s))
    slots_at = elim (dec_lt r (commit - start)) [
      | yes y ↦ (let z : r - (commit - start) ≡ 0 = omega arith in rw z)
      | no y ↦ slots_from start n (commit - start) (r - (commit - start)) s (omega arith)
    ]

pub counts_from : (start n commit ballot bar from : ℕ) (s : List ℕ) → from ≡ commit - start → start ≤ commit → commit ≤ start + n → (r c : ℕ) → r ≡ min n (bar - start)
    → c ≡ length (filter is_open_at (take_while (goes_on_at ballot) (map (λ k. inst_in s ((start + k) % slot_places)) (range_with_len from (r - from)))))
    → c ≡ length (walked start n commit ballot bar s).items
counts_from start n commit ballot bar from s z h g r c e f = counts start n commit ballot bar s h g r c e (rw z at f)

module _ (start n ballot bar : ℕ) where
  abbrev pub left_at : ℕ → List ℕ → Walk
  left_at = left (stops_at ballot) marked mark_items start n (bar - start)

  pub left_start : (commit : ℕ) (s : List ℕ) → start ≤ commit → commit ≤ start + n → left_at (commit - start) s ≡ walked start n commit ballot bar s
  left_start commit s h g =
      let e : start + (commit - start) ≡ commit = omega arith in
      let q : bar - start - (commit - start) ≡ bar - commit = omega arith in
      left_is (stops_at ballot) marked mark_items start n (bar - start) (commit - start) s (omega arith)
      ∙ rw (e, q) (sym (walk_is ballot commit (bar - commit) (drop (commit - start) (insts_of start n s))))

  module _ (commit place : ℕ) (s₀ area₀ : List ℕ) where
    abbrev pub GoingAt : ℕ → ℕ → List ℕ → List ℕ → Type 0
    GoingAt = Going (stops_at ballot) marked mark_items start n (bar - start) (commit - start) place s₀ area₀

    module _ (k at : ℕ) (s area : List ℕ) (y : GoingAt k at s area) (l : k < min n (bar - start)) (t : Bool) (e : t ≡ stops_at ballot (inst_in s ((start + k) % slot_places))) (f : t ≡ false) where
      item_is : one_if_open (inst_in s ((start + k) % slot_places)) ≡ length (mark_items (start + k) (inst_in s ((start + k) % slot_places)))
      item_is = one_item (Commit (start + k)) (inst_in s ((start + k) % slot_places))

      pub mark_fits : start ≤ commit → commit ≤ start + n → place + length (walked start n commit ballot bar s₀).items ≤ places area₀
          → at + one_if_open (inst_in s ((start + k) % slot_places)) ≤ places area
      mark_fits h g r =
          rw item_is
          (fits (stops_at ballot) marked mark_items start n (bar - start) (commit - start) place s₀ area₀ k at s area y l t e f (rw (left_start commit s₀ h g) r))

      pub mark_step : n ≤ slot_places → (r : ℕ) (u area' : List ℕ) → Marks ((start + k) % slot_places) at (start + k) s area r u area' → GoingAt (k + 1) r u area'
      mark_step w r u area' m =
          going_step (stops_at ballot) marked mark_items start n (bar - start) (commit - start) place s₀ area₀ k at s area y l t e f w r u area' m.changed (marked_is s ((start + k) % slot_places))
          m.items (m.next ∙ ap (λ (j : ℕ). at + j) item_is)

    pub advances : start ≤ commit → commit ≤ start + n → {r : ℕ} {t area' : List ℕ} → Passed (stops_at ballot) marked mark_items start n (bar - start) (commit - start) place s₀ area₀ r t area'
        → Advances place start n commit ballot bar s₀ area₀ r t area'
    advances h g p =
        let e = left_start commit s₀ h g in
        record {
          next = p.next ∙ ap (λ (w : Walk). place + length w.items) e;
          items = p.items ∙ ap (λ (w : Walk). writes area₀ (place * 6) (encode w.items)) e;
          insts = p.insts ∙ rw (e, first start n (commit - start) s₀ (omega arith));
          size = p.size;
        }

-- ---- the machine

-- `advance_commit_bar` of a replica that holds these slots
pub advance_is : {place start n commit ballot bar : ℕ} {s area : List ℕ} {r : ℕ} {t area' : List ℕ} (x : machine.Replica) → x.insts ≡ insts_of start n s → x.bar.start ≡ start → x.bar.commit ≡ commit
    → Advances place start n commit ballot bar s area r t area'
    → advance_commit_bar x ballot bar ≡ machine.done (machine.with_insts (insts_of start n t) x) (walked start n commit ballot bar s).items
unfolding advance_commit_bar
advance_is x e f g a = rw (e, f, g, a.insts)
