-- `refresh_highest_slot` request by request: which keys are written after it, how many, and the written keys in lent
-- words.
use Rattle.std.specs.Prelude.{if◌then◌else◌, is_none}
use Rattle.std.specs.Int.{from_bool}
use mathlib.Core.Path.{◌≡◌, refl, sym, ap, ◌∙◌}
use mathlib.Core.Bool.{Bool, true, false, ◌||◌, ◌&&◌, or-false}
use mathlib.Core.List.{List, [], ◌∷◌, ◌++◌}
use Rattle.std.specs.Prelude.{Option, None, Some}
use Prim.Native.Nat.{ℕ, suc, ◌+◌, ◌-◌, ◌≤◌, ◌<◌}
use native.Mathlib.Nat.{add-zero, zero-add}
use native.Mathlib.Omega.{arith}
use borrow.Author.Tests.{le-ltb, lt-ltb}
use lib.Dec.{ltb}
use lib.ListN.{length, get_or, drop, take-append-drop}
use Rattle.words.specs.Choice.{if_none◌then◌else◌}
use Rattle.words.specs.Tab.{tab, tab_snoc, take_tab, drop_tab}
use Rattle.keys.specs.Same.{same_bytes}
use Rattle.keys.proofs.Same.{same_true}
use Rattle.bodega.specs.Replica as machine
use Rattle.bodega.specs.Localread.{is_put, raise, refresh_highest_slot, highest_of, put_of, last_put}
use Rattle.key_words.specs.Key.{bytes_of}
use Rattle.ids.specs.declared.Slot.{Slot}
use Rattle.ids.specs.Limits.{keys}
use Rattle.layout.specs.Layout.{written_words}
use Rattle.inst_reqs.specs.Batch.{request_of, request_at, requests_of}
use Rattle.inst_reqs.specs.declared.Command.TheVariants.{Get, Put}
use Rattle.inst_reqs.specs.declared.Request.{Request}
use Rattle.inst_reqs.proofs.Laws.{requests_are}
use Rattle.highest_slot.specs.Written.{written_of, slot_in, Notes}
use Rattle.highest_slot.proofs.Laws.{noted_on}
use Rattle.highest_slot_refresh.specs.Refresh.{is_new, adds, Refreshes}

abbrev there : Option ℕ → Bool
there None = false
there (Some v) = true

abbrev noted : ℕ → machine.Request → List machine.Highest → List machine.Highest
noted slot q hs = if is_put q.command then raise slot q.key hs else hs

-- ---- which keys are written

known_raise : (key k : List ℕ) (slot : ℕ) (hs : List machine.Highest) → there (highest_of key (raise slot k hs)) ≡ (there (highest_of key hs) || same_bytes k key)
unfolding raise highest_of
known_raise key k slot [] = go (same_bytes k key)
  where
    go : (t : Bool) → there (if t then Some slot else None) ≡ t
    go true = refl
    go false = refl
known_raise key k slot (h ∷ hs) = go (same_bytes h.key k) refl (known_raise key k slot hs)
  where
    one : (t : Bool) (v w : ℕ) (o : Option ℕ) → there (if t then Some v else o) ≡ (there (if t then Some w else o) || t)
    one true v w o = refl
    one false v w o = sym (or-false (there o))

    other : (t : Bool) (v : ℕ) (o p : Option ℕ) (b : Bool) → there o ≡ (there p || b) → there (if t then Some v else o) ≡ (there (if t then Some v else p) || b)
    other true v o p b e = refl
    other false v o p b e = e

    go : (t : Bool) → same_bytes h.key k ≡ t → there (highest_of key (raise slot k hs)) ≡ (there (highest_of key hs) || same_bytes k key)
        → there (highest_of key (raise slot k (h ∷ hs))) ≡ (there (highest_of key (h ∷ hs)) || same_bytes k key)
    go true q r = rw (q, ← (same_true h.key k q)) (one (same_bytes h.key key) _ _ (highest_of key hs))
    go false q r = rw q (other (same_bytes h.key key) h.slot _ _ (same_bytes k key) r)

known_noted : (key : List ℕ) (slot : ℕ) (q : machine.Request) (hs : List machine.Highest) → there (highest_of key (noted slot q hs)) ≡ (there (highest_of key hs) || there (put_of key q q.command))
known_noted key slot q hs = go q.command
  where
    put : (t : Bool) (v : ℕ) → t ≡ there (if t then Some v else None)
    put true v = refl
    put false v = refl

    go : (c : machine.Command) → there (highest_of key (if is_put c then raise slot q.key hs else hs)) ≡ (there (highest_of key hs) || there (put_of key q c))
    go machine.Get = sym (or-false (there (highest_of key hs)))
    go (machine.Put v) = known_raise key q.key slot hs ∙ ap (λ (b : Bool). there (highest_of key hs) || b) (put (same_bytes q.key key) v)

known_after : (key : List ℕ) (slot : ℕ) (qs : List machine.Request) (hs : List machine.Highest) → there (highest_of key (refresh_highest_slot slot qs hs)) ≡ (there (highest_of key hs) || there (last_put key qs))
unfolding refresh_highest_slot last_put
known_after key slot [] hs = sym (or-false (there (highest_of key hs)))
known_after key slot (q ∷ qs) hs =
    known_after key slot qs (noted slot q hs) ∙ rw (known_noted key slot q hs) (swap (there (highest_of key hs)) (put_of key q q.command) (last_put key qs))
  where
    swap : (a : Bool) (b c : Option ℕ) → (a || there b || there c) ≡ (a || there (if_none c then b else λ v. Some v))
    swap true b c = refl
    swap false None None = refl
    swap false None (Some v) = refl
    swap false (Some w) None = refl
    swap false (Some w) (Some v) = refl

-- ---- how many

long_raise : (slot : ℕ) (key : List ℕ) (hs : List machine.Highest) → length (raise slot key hs) ≡ length hs + (if there (highest_of key hs) then 0 else 1)
unfolding raise highest_of
long_raise slot key [] = refl
long_raise slot key (h ∷ hs) = go (same_bytes h.key key) refl (long_raise slot key hs)
  where
    go : (t : Bool) → same_bytes h.key key ≡ t → length (raise slot key hs) ≡ length hs + (if there (highest_of key hs) then 0 else 1)
        → length (raise slot key (h ∷ hs)) ≡ suc (length hs) + (if there (highest_of key (h ∷ hs)) then 0 else 1)
    go true q r = rw (q, add-zero)
    go false q r = rw q (omega arith)

long_noted : (slot : ℕ) (q : machine.Request) (hs : List machine.Highest) → (length hs ≤ length (noted slot q hs)) × (length (noted slot q hs) ≤ length hs + 1)
long_noted slot q hs = go (is_put q.command)
  where
    one : (t : Bool) → (if t then 0 else 1) ≤ 1
    one true = omega arith
    one false = omega arith

    go : (t : Bool) → (length hs ≤ length (if t then raise slot q.key hs else hs)) × (length (if t then raise slot q.key hs else hs) ≤ length hs + 1)
    go true =
        let l = long_raise slot q.key hs in
        let m = one (there (highest_of q.key hs)) in
        (omega arith, omega arith)
    go false = (omega arith, omega arith)

-- no key is lost, and each request adds one at most
long_after : (slot : ℕ) (qs : List machine.Request) (hs : List machine.Highest)
    → (length hs ≤ length (refresh_highest_slot slot qs hs)) × (length (refresh_highest_slot slot qs hs) ≤ length hs + length qs)
unfolding refresh_highest_slot
long_after slot [] hs = (omega arith, omega arith)
long_after slot (q ∷ qs) hs =
    let a = long_noted slot q hs in
    let b = long_after slot qs (noted slot q hs) in
    (omega arith, omega arith)

refresh_snoc : (slot : ℕ) (qs : List machine.Request) (q : machine.Request) (hs : List machine.Highest) → refresh_highest_slot slot (qs ++ (q ∷ [])) hs ≡ noted slot q (refresh_highest_slot slot qs hs)
unfolding refresh_highest_slot
refresh_snoc slot [] q hs = refl
refresh_snoc slot (p ∷ qs) q hs = refresh_snoc slot qs q (noted slot p hs)

long_snoc : (slot : ℕ) (qs : List machine.Request) (q : machine.Request) (hs : List machine.Highest)
    → length (refresh_highest_slot slot (qs ++ (q ∷ [])) hs) ≡ length (refresh_highest_slot slot qs hs) + (if adds q qs hs then 1 else 0)
long_snoc slot qs q hs = rw refresh_snoc (go (is_put q.command))
  where
    pick : (a b : Option ℕ) → ◌≡◌ {A = ℕ} (if there a || there b then 0 else 1) (if (if_none a then (if_none b then true else λ v. false) else λ s. false) then 1 else 0)
    pick None None = refl
    pick None (Some v) = refl
    pick (Some w) b = refl

    go : (t : Bool) → length (if t then raise slot q.key (refresh_highest_slot slot qs hs) else refresh_highest_slot slot qs hs)
        ≡ length (refresh_highest_slot slot qs hs) + (if t && is_new q.key qs hs then 1 else 0)
    go true =
        long_raise slot q.key (refresh_highest_slot slot qs hs)
        ∙ ap (λ (k : ℕ). length (refresh_highest_slot slot qs hs) + k) (rw (known_after q.key slot qs hs) (pick (highest_of q.key hs) (last_put q.key qs)))
    go false = sym (add-zero (length (refresh_highest_slot slot qs hs)))

-- ---- one request, in the words of the code: r is the request that was read, a and b what the searches said

module _ (q : machine.Request) (r : Request) (is : request_of r ≡ q) (qs : List machine.Request) (hs : List machine.Highest) where
  pub get_adds : r.command ≡ Get → false ≡ adds q qs hs
  get_adds e = rw (← is, e)

  pub put_adds : (v : ℕ) (a : Option Slot) (b : Option ℕ) → r.command ≡ Put v → slot_in a ≡ highest_of (bytes_of r.key) hs → b ≡ last_put (bytes_of r.key) qs → is_none a && is_none b ≡ adds q qs hs
  put_adds v a b e f g = rw (← is, e, ← f, ← g) (pick a b)
    where
      pick : (a : Option Slot) (b : Option ℕ) → is_none a && is_none b ≡ (if_none slot_in a then (if_none b then true else λ v. false) else λ s. false)
      pick None None = refl
      pick None (Some v) = refl
      pick (Some w) b = refl

module _ (q : Request) where
  pub note_get : (slot : ℕ) (s : List ℕ) → q.command ≡ Get → Refreshes slot (request_of q ∷ []) s s
  unfolding refresh_highest_slot
  note_get slot s e = record { written = rw e; beyond = λ j h. refl }

  pub note_put : (slot : ℕ) (s t : List ℕ) (v : ℕ) (ok : Bool) → q.command ≡ Put v → Notes s (bytes_of q.key) slot ok t
      → length (refresh_highest_slot slot (request_of q ∷ []) (written_of s)) ≤ keys → Refreshes slot (request_of q ∷ []) s t
  unfolding refresh_highest_slot
  note_put slot s t v ok e n h =
      let f : noted slot (request_of q) (written_of s) ≡ raise slot (bytes_of q.key) (written_of s) = rw e in
      record { written = noted_on s t (bytes_of q.key) slot ok n (rw f at h) ∙ sym f; beyond = n.beyond }

refresh_append : (slot : ℕ) (qs ps : List machine.Request) (hs : List machine.Highest) → refresh_highest_slot slot (qs ++ ps) hs ≡ refresh_highest_slot slot ps (refresh_highest_slot slot qs hs)
unfolding refresh_highest_slot
refresh_append slot [] ps hs = refl
refresh_append slot (q ∷ qs) ps hs = refresh_append slot qs ps (noted slot q hs)

-- ---- how many keys there are after the first i requests

module _ (b : List ℕ) (hs : List machine.Highest) where
  abbrev pub After : ℕ → ℕ → ℕ
  After slot i = length (refresh_highest_slot slot (tab (request_at b) 0 i) hs)

  -- whether the i-th adds one
  abbrev pub AddsAt : ℕ → Bool
  AddsAt i = adds (request_at b i) (tab (request_at b) 0 i) hs

  pub after_start : (n : ℕ) → n ≡ length hs → (slot : ℕ) → n ≡ After slot 0
  unfolding refresh_highest_slot
  after_start n e slot = e

  pub after_next : (n i r : ℕ) (t : Bool) → ((slot : ℕ) → n ≡ After slot i) → t ≡ AddsAt i → r ≡ from_bool t → (slot : ℕ) → n + r ≡ After slot (i + 1)
  after_next n i r t e h x slot =
      let f = e slot in
      let g : After slot (i + 1) ≡ After slot i + (if t then 1 else 0) =
      rw (tab_snoc (request_at b) 0 i, zero-add i, h) (long_snoc slot (tab (request_at b) 0 i) (request_at b i) hs) in
      omega (arith, one t)
    where
      one : (t : Bool) → ◌≡◌ {A = ℕ} (from_bool t) (if t then 1 else 0)
      one true = refl
      one false = refl

  whole : (m slot : ℕ) → m ≡ length (requests_of b) → After slot m ≡ length (refresh_highest_slot slot (requests_of b) hs)
  whole m slot h = rw (requests_are b m h)

  pub after_end : (n m i : ℕ) → ((slot : ℕ) → n ≡ After slot i) → m ≡ length (requests_of b) → i ≤ m → m ≤ i → n ≤ keys
      → (slot : ℕ) → false ≡ ltb keys (length (refresh_highest_slot slot (requests_of b) hs))
  after_end n m i e h x y k slot =
      let q : i ≡ m = omega arith in
      let f = rw (q, whole m slot h) at (e slot) in
      sym (le-ltb keys (length (refresh_highest_slot slot (requests_of b) hs)) (omega arith))

  drops : (m i : ℕ) → i ≤ m → drop i (tab (request_at b) 0 m) ≡ tab (request_at b) i (m - i)
  drops m i h = drop_tab (request_at b) 0 m i h ∙ ap (λ (j : ℕ). tab (request_at b) j (m - i)) (zero-add i)

  -- no key is lost by the requests after the i-th
  after_grows : (m i slot : ℕ) → i ≤ m → After slot i ≤ After slot m
  after_grows m i slot h =
      let l = long_after slot (tab (request_at b) i (m - i)) (refresh_highest_slot slot (tab (request_at b) 0 i) hs) in
      let s : tab (request_at b) 0 m ≡ tab (request_at b) 0 i ++ tab (request_at b) i (m - i) =
      sym (rw (← (take_tab (request_at b) 0 m i h), ← (drops m i h)) (take-append-drop i (tab (request_at b) 0 m))) in
      rw (s, refresh_append) l.0

  pub after_past : (n m i r : ℕ) (t : Bool) → ((slot : ℕ) → n ≡ After slot i) → t ≡ AddsAt i → r ≡ from_bool t → m ≡ length (requests_of b) → i < m → keys < n + r
      → (slot : ℕ) → true ≡ ltb keys (length (refresh_highest_slot slot (requests_of b) hs))
  after_past n m i r t e h z k x y slot =
      let f = after_next n i r t e h z slot in
      let g = rw (whole m slot k) at (after_grows m (i + 1) slot (omega arith)) in
      sym (lt-ltb keys (length (refresh_highest_slot slot (requests_of b) hs)) (omega arith))

  pub fits : (m n : ℕ) → m ≡ length (requests_of b) → n ≡ length hs → n + m ≤ keys → (slot : ℕ) → ltb keys (n + m) ≡ ltb keys (length (refresh_highest_slot slot (requests_of b) hs))
  fits m n x y h slot =
      let l = long_after slot (requests_of b) hs in
      le-ltb keys (n + m) h ∙ sym (le-ltb keys (length (refresh_highest_slot slot (requests_of b) hs)) (omega arith))

-- ---- the written keys t, when of the requests qs the requests ps are left

pub record Left (slot : ℕ) (qs ps : List machine.Request) (s t : List ℕ) : Type 0 where
  pub left : refresh_highest_slot slot ps (written_of t) ≡ refresh_highest_slot slot qs (written_of s)
  pub beyond : (j : ℕ) → written_words ≤ j → get_or t j 0 ≡ get_or s j 0

module _ (slot : ℕ) (qs : List machine.Request) (s : List ℕ) where
  pub left_start : (ps : List machine.Request) → ps ≡ qs → Left slot qs ps s s
  left_start ps e = record { left = rw e; beyond = λ j k. refl }

  module _ (q : machine.Request) (ps rs : List machine.Request) (e : ps ≡ q ∷ rs) (t : List ℕ) (l : Left slot qs ps s t) where
    cut : refresh_highest_slot slot rs (refresh_highest_slot slot (q ∷ []) (written_of t)) ≡ refresh_highest_slot slot qs (written_of s)
    unfolding refresh_highest_slot
    cut = rw e at l.left

    pub room : length (refresh_highest_slot slot qs (written_of s)) ≤ keys → length (refresh_highest_slot slot (q ∷ []) (written_of t)) ≤ keys
    room k =
        let a = long_after slot rs (refresh_highest_slot slot (q ∷ []) (written_of t)) in
        let c = ap length cut in
        omega arith

    pub left_next : (t' : List ℕ) → Refreshes slot (q ∷ []) t t' → Left slot qs rs s t'
    left_next t' r = record { left = rw r.written cut; beyond = λ j x. r.beyond j x ∙ l.beyond j x }

  pub left_end : (ps : List machine.Request) (t : List ℕ) → ps ≡ [] → Left slot qs ps s t → Refreshes slot qs s t
  unfolding refresh_highest_slot
  left_end ps t e l = record { written = rw e at l.left; beyond = l.beyond }
