-- Bridge: the laws of an entry's row, for `table::Row`.
use Rattle.std.specs.Prelude.{◌≡◌, List, ℕ, ◌+◌, ◌≤◌, get_or, set}
use Rattle.std.proofs.Common.{◌∙◌, inl, arith, length, length-set, get_or-set_same}
use Rattle.words.specs.Writes.{writes, Agrees, writes_other}
use Rattle.layout.specs.Layout.{written_row}
use Rattle.key_words.specs.Key.{key_at, words_of}
use Rattle.key_words.proofs.Laws.{key_at_agrees, key_at_writes}
use Rattle.highest_slot.specs.Written.{highest_in, entry_words, highest_at}
use Rattle.highest_slot.specs.declared.Entry.{Entry}

pub near : (s' s : List ℕ) (p : ℕ) → Agrees s' s p (p + written_row) → highest_at s' p ≡ highest_at s p
unfolding highest_at
near s' s p h =
    let a = h p (omega arith) (omega arith) in
    let k = key_at_agrees s' s (p + 1) (λ j x y. h j (omega arith) (omega arith)) in
    rw (a, k)

-- an entry that is stored is read back
pub read_back : (s : List ℕ) (p : ℕ) (x : Entry) → p + written_row ≤ length s → highest_at (writes s p (entry_words x)) p ≡ highest_in x
unfolding highest_at
read_back s p x h =
    let l = length-set s p x.slot.0 in
    let a : get_or (writes s p (entry_words x)) p 0 ≡ x.slot.0 = writes_other (set s p x.slot.0) (p + 1) (words_of x.key) p (inl (omega arith)) ∙ get_or-set_same s p x.slot.0 0 (omega arith) in
    let k : key_at (writes s p (entry_words x)) (p + 1) ≡ x.key = key_at_writes (set s p x.slot.0) (p + 1) x.key (omega (arith, l)) in
    rw (a, k)
