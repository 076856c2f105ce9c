-- Trusted: the written keys that lent words stand for. What a write leaves is a bridge, tied by
-- highest_slot_refresh/proofs/Laws.
use Rattle.std.specs.Prelude.{◌≡◌, Bool, false, List, [], ◌∷◌, ℕ, ◌+◌, ◌*◌, ◌≤◌, get_or, if◌then◌else◌}
use Rattle.std.specs.Prelude.{Option, None, Some}
use Rattle.words.specs.Counted.{counted}
use Rattle.keys.specs.Same.{same_bytes}
use Rattle.key_words.specs.Key.{key_at, bytes_of, words_of}
use Rattle.layout.specs.Layout.{written_places, written_row, written_words}
use Rattle.bodega.specs.Localread.{raise}
use Rattle.table.specs.Table as table
use Rattle.bodega.specs.Replica as machine
use Rattle.ids.specs.declared.Slot.{Slot}
use Rattle.highest_slot.specs.declared.Entry.{Entry}

-- an entry of the code, and its words
abbrev pub highest_in : Entry → machine.Highest
highest_in e = record { key = bytes_of e.key; slot = e.slot.0 }

abbrev pub entry_words : Entry → List ℕ
entry_words e = e.slot.0 ∷ words_of e.key

-- the entry at word p
unfoldable pub highest_at : List ℕ → ℕ → machine.Highest
highest_at s p = record { key = bytes_of (key_at s (p + 1)); slot = get_or s p 0 }

-- the i-th entry
abbrev pub entry_at : List ℕ → ℕ → machine.Highest
entry_at s i = highest_at s (1 + i * written_row)

-- the entries, on any words
abbrev pub written_of : List ℕ → List machine.Highest
written_of s = counted highest_at written_row written_places s

abbrev pub slot_in : Option Slot → Option ℕ
slot_in (Some slot) = Some slot.0
slot_in None = None

-- the first entry of a key, counted from i
unfoldable pub place_of : ℕ → List ℕ → List machine.Highest → Option ℕ
place_of i key [] = None
place_of i key (h ∷ hs) = if same_bytes h.key key then Some i else place_of (i + 1) key hs

abbrev pub capped : List machine.Highest → Option (List machine.Highest)
capped l = table.capped written_places l

-- what a write of a key at a slot leaves on the words s: the answer, and the words t
pub record Notes (s : List ℕ) (key : List ℕ) (slot : ℕ) (r : Bool) (t : List ℕ) : Type 0 where
  pub outcome : (if r then Some (written_of t) else None) ≡ capped (raise slot key (written_of s))
  pub refused : r ≡ false → t ≡ s
  pub beyond : (j : ℕ) → written_words ≤ j → get_or t j 0 ≡ get_or s j 0
