-- The written keys: a search over the entries, and a write noted in place or after the others.
use Rattle.std.specs.Prelude.{Option, None, Some, MatchOption, IfSome, if◌then◌else◌}
use mathlib.Core.Path.{◌≡◌, refl, sym, ap, ◌∙◌}
use mathlib.Core.Bool.{Bool, true, false, true≢false}
use mathlib.Core.List.{List, [], ◌∷◌, ◌++◌}
use Prim.Native.Nat.{ℕ, zero, suc, ◌+◌, ◌*◌, ◌≤◌, ◌<◌, max}
use native.Mathlib.Nat.{add-zero, zero-add}
use native.Mathlib.Decide.{dec_lt}
use native.Mathlib.Omega.{arith}
use borrow.Author.Tests.{le-leb}
use lib.ListN.{length, get_or, set}
use Rattle.words.specs.Tab.{tab, get_or_tab}
use Rattle.words.specs.Counted.{counted, count_of, length_counted, counted_set}
use Rattle.table.specs.Table.{Pushes}
use Rattle.table.proofs.Laws.{below}
use Rattle.layout.specs.Layout.{written_places, written_row, written_words}
use Rattle.keys.specs.Same.{same_bytes}
use Rattle.key_words.specs.Key.{bytes_of, key_at}
use Rattle.key_words.proofs.Laws.{key_at_agrees}
use Rattle.highest_slot.specs.Row.{near}
use lib.Seq.{get_or-set_same, get_or-set_other}
use mathlib.Core.Logic.{⊎_elim}
use Rattle.key_words.specs.declared.Key.{Key}
use Rattle.bodega.specs.Localread.{raise, highest_of}
use Rattle.bodega.specs.Replica as machine
use Rattle.highest_slot.specs.Written.{highest_in, highest_at, entry_at, written_of, place_of, capped, Notes}
use Rattle.highest_slot.specs.declared.Entry.{Entry}

-- ---- the search

-- r is the first from b up to e where f has the key
abbrev pub First : (ℕ → machine.Highest) → ℕ → ℕ → List ℕ → Option ℕ → Type 0
First f b e key r =
    MatchOption r ((k : ℕ) → b ≤ k → k < e → same_bytes (f k).key key ≡ false)
    (λ i. (b ≤ i) × (i < e) × (same_bytes (f i).key key ≡ true) × ((k : ℕ) → b ≤ k → k < i → same_bytes (f k).key key ≡ false))

first_in : (f : ℕ → machine.Highest) (b n e : ℕ) (key : List ℕ) (r : Option ℕ) → b + n ≡ e → First f b e key r → r ≡ place_of b key (tab f b n)
unfolding place_of
first_in f b zero e key None q h = refl
first_in f b zero e key (Some i) q h = absurd (omega (arith, h.0, h.1))
first_in f b (suc n) e key None q h =
    rw (h b (omega arith) (omega arith)) (first_in f (b + 1) n e key None (omega arith) (λ k x y. h k (omega arith) y))
first_in f b (suc n) e key (Some i) q h = go (dec_lt b i) (first_in f (b + 1) n e key (Some i) (omega arith))
  where
    go : Dec (b < i) → (First f (b + 1) e key (Some i) → Some i ≡ place_of (b + 1) key (tab f (b + 1) n)) → Some i ≡ (if same_bytes (f b).key key then Some b else place_of (b + 1) key (tab f (b + 1) n))
    go (yes l) r = rw (h.3 b (omega arith) l) (r (omega arith, h.1, h.2, λ k x y. h.3 k (omega arith) y))
    go (no l) r = let w : i ≡ b = omega (arith, h.0) in rw (← w, h.2)

pub first_is : (s : List ℕ) (n : ℕ) (key : List ℕ) (r : Option ℕ) → n ≡ length (written_of s) → First (entry_at s) 0 n key r → r ≡ place_of 0 key (written_of s)
unfolding counted
first_is s n key r h p =
    let e : n ≡ count_of written_places s = h ∙ length_counted highest_at written_row written_places s in
    first_in (entry_at s) 0 (count_of written_places s) n key r (omega arith) p

-- ---- what a search says of the list

abbrev nobody : machine.Highest
nobody = record { key = []; slot = 0 }

-- the entry i is the key's
record Hit (hs : List machine.Highest) (key : List ℕ) (i : ℕ) : Type 0 where
  below : i < length hs
  slot_is : highest_of key hs ≡ Some (get_or hs i nobody).slot
  raised : (slot : ℕ) → raise slot key hs ≡ set hs i (record { key = (get_or hs i nobody).key; slot = max slot (get_or hs i nobody).slot })

hit : (hs : List machine.Highest) (b j : ℕ) (key : List ℕ) → place_of b key hs ≡ Some j → (i : ℕ) × (j ≡ b + i) × Hit hs key i
unfolding place_of raise highest_of
hit [] b j key h = let z : ◌≡◌ {A = ℕ} 0 1 = cc in absurd (omega arith)
hit (e ∷ hs) b j key h = go (same_bytes e.key key) refl h (hit hs (b + 1) j key)
  where
    go : (t : Bool) → same_bytes e.key key ≡ t → (if t then Some b else place_of (b + 1) key hs) ≡ Some j
        → (place_of (b + 1) key hs ≡ Some j → (i : ℕ) × (j ≡ b + 1 + i) × Hit hs key i)
        → (i : ℕ) × (j ≡ b + i) × Hit (e ∷ hs) key i
    go true q p r = (0, cc (add-zero b), record { below = omega arith; slot_is = rw q; raised = λ s. rw q })
    go false q p r =
        let w = r p in
        (suc w.0, omega (arith, w.1), record { below = omega (arith, w.2.below); slot_is = rw q w.2.slot_is; raised = λ s. rw (q, w.2.raised s) })

miss : (hs : List machine.Highest) (b : ℕ) (key : List ℕ) → place_of b key hs ≡ None → (slot : ℕ) → raise slot key hs ≡ hs ++ (record { key = key; slot = slot } ∷ [])
unfolding place_of raise
miss [] b key h slot = refl
miss (e ∷ hs) b key h slot = go (same_bytes e.key key) refl h (λ p. miss hs (b + 1) key p slot)
  where
    go : (t : Bool) → same_bytes e.key key ≡ t → (if t then Some b else place_of (b + 1) key hs) ≡ None
        → (place_of (b + 1) key hs ≡ None → raise slot key hs ≡ hs ++ (record { key = key; slot = slot } ∷ []))
        → raise slot key (e ∷ hs) ≡ (e ∷ hs) ++ (record { key = key; slot = slot } ∷ [])
    go true q p r = cc
    go false q p r = rw (q, r p)

pub none_found : (hs : List machine.Highest) (b : ℕ) (key : List ℕ) → place_of b key hs ≡ None → None ≡ highest_of key hs
unfolding place_of highest_of
none_found [] b key h = refl
none_found (e ∷ hs) b key h = go (same_bytes e.key key) refl h (none_found hs (b + 1) key)
  where
    go : (t : Bool) → same_bytes e.key key ≡ t → (if t then Some b else place_of (b + 1) key hs) ≡ None
        → (place_of (b + 1) key hs ≡ None → None ≡ highest_of key hs) → None ≡ (if t then Some e.slot else highest_of key hs)
    go true q p r = cc
    go false q p r = r p

-- ---- a search's answer, in the words of the code

module _ (s : List ℕ) (key : Key) (i : ℕ) (told : Some i ≡ place_of 0 (bytes_of key) (written_of s)) where
  hit_at : Hit (written_of s) (bytes_of key) i
  hit_at =
      let w = hit (written_of s) 0 i (bytes_of key) (sym told) in
      let q : i ≡ w.0 = omega (arith, w.1) in
      rw q w.2

  pub held : i < length (written_of s)
  held = hit_at.below

  placed : i < written_places
  placed = below highest_at written_row written_places s i held

  entry_is : get_or (written_of s) i nobody ≡ entry_at s i
  unfolding counted
  entry_is = get_or_tab (entry_at s) 0 (count_of written_places s) i nobody (rw length_counted at held) ∙ rw zero-add

  -- e is the entry that was read
  module _ (e : Entry) (is : highest_in e ≡ entry_at s i) where
    pub slot_found : Some e.slot.0 ≡ highest_of (bytes_of key) (written_of s)
    slot_found = sym (hit_at.slot_is ∙ ap (λ (h : machine.Highest). Some h.slot) (entry_is ∙ sym is))

  -- the slot is raised where it stands
  pub note_known : (slot v : ℕ) → written_words ≤ length s → v ≡ max slot (get_or s (1 + i * written_row) 0) → Notes s (bytes_of key) slot true (set s (1 + i * written_row) v)
  unfolding highest_at
  note_known slot v fits e =
      let p : ℕ = 1 + i * written_row in
      let t : List ℕ = set s p v in
      let lt = placed in
      let many : i < count_of written_places s = rw length_counted at held in
      let read : get_or (written_of s) i nobody ≡ entry_at s i = entry_is in
      let a : get_or t p 0 ≡ v = get_or-set_same s p v 0 (omega arith) in
      let k : key_at t (p + 1) ≡ key_at s (p + 1) = key_at_agrees t s (p + 1) (λ j x y. get_or-set_other s p j v 0 (omega arith)) in
      let here : highest_at t p ≡ record { key = bytes_of (key_at s (p + 1)); slot = v } = rw (a, k) in
      let raised : written_of t ≡ raise slot (bytes_of key) (written_of s) =
      counted_set highest_at written_row written_places near s t i (record { key = bytes_of (key_at s (p + 1)); slot = v }) many (get_or-set_other s p 0 v 0 (omega arith)) here
      (λ j x y. get_or-set_other s p j v 0 (⊎_elim (λ (z : j < p). omega arith) (λ (z : p + written_row ≤ j). omega arith) y))
      ∙ sym (hit_at.raised slot ∙ rw (read, e)) in
      let l : length (written_of t) ≤ written_places = rw length_counted (omega arith) in
      record {
        outcome = rw (← raised, le-leb (length (written_of t)) written_places l);
        refused = λ h. absurd (true≢false h);
        beyond = λ j h. get_or-set_other s p j v 0 (omega arith);
      }

pub all_placed : (s : List ℕ) (key : Key) (r : Option ℕ) → r ≡ place_of 0 (bytes_of key) (written_of s) → IfSome r (λ i. i < written_places)
all_placed s key None e = tt
all_placed s key (Some i) e = placed s key i e

module _ (s : List ℕ) (key : Key) (told : None ≡ place_of 0 (bytes_of key) (written_of s)) where
  pub slot_none : None ≡ highest_of (bytes_of key) (written_of s)
  slot_none = none_found (written_of s) 0 (bytes_of key) (sym told)

  pub note_new : (slot : ℕ) (r : Bool) (t : List ℕ) → Pushes highest_at written_row written_places s (record { key = bytes_of key; slot = slot }) r t → Notes s (bytes_of key) slot r t
  note_new slot r t p =
      record { outcome = p.outcome ∙ ap capped (sym (miss (written_of s) 0 (bytes_of key) (sym told) slot)); refused = p.refused; beyond = p.beyond }

-- a write that leaves at most 256 keys is noted
pub noted_on : (s t key : List ℕ) (slot : ℕ) (r : Bool) → Notes s key slot r t → length (raise slot key (written_of s)) ≤ written_places → written_of t ≡ raise slot key (written_of s)
noted_on s t key slot r p h = go r (rw (le-leb (length (raise slot key (written_of s))) written_places h) at p.outcome)
  where
    go : (r : Bool) → (if r then Some (written_of t) else None) ≡ Some (raise slot key (written_of s)) → written_of t ≡ raise slot key (written_of s)
    go true e = cc
    go false e = cc
