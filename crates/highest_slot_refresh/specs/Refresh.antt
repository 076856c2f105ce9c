-- Bridge: `refresh_highest_slot` on the written keys in lent words; tied to `refresh_highest_slot` by
-- call_record/proofs/Laws.
use Rattle.std.specs.Prelude.{◌≡◌, Bool, true, false, ◌&&◌, List, ℕ, ◌≤◌, get_or}
use Rattle.words.specs.Choice.{if_none◌then◌else◌}
use Rattle.layout.specs.Layout.{written_words}
use Rattle.bodega.specs.Replica as machine
use Rattle.bodega.specs.Localread.{refresh_highest_slot, is_put, highest_of, last_put}
use Rattle.highest_slot.specs.Written.{written_of}

-- whether one more request adds a key: it is a Put, its key is not written, and no earlier request of the batch puts it
abbrev pub is_new : List ℕ → List machine.Request → List machine.Highest → Bool
is_new key qs hs = if_none highest_of key hs then (if_none last_put key qs then true else λ v. false) else λ slot. false

abbrev pub adds : machine.Request → List machine.Request → List machine.Highest → Bool
adds q qs hs = is_put q.command && is_new q.key qs hs

-- the words t are those of s after the requests at a slot
pub record Refreshes (slot : ℕ) (qs : List machine.Request) (s t : List ℕ) : Type 0 where
  pub written : written_of t ≡ refresh_highest_slot slot qs (written_of s)
  pub beyond : (j : ℕ) → written_words ≤ j → get_or t j 0 ≡ get_or s j 0
