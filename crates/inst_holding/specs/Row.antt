-- Bridge: the laws of a held read's row, for `table::Row`.
use Rattle.std.specs.Prelude.{◌≡◌, List, [], ◌∷◌, ℕ, ◌+◌, ◌≤◌, get_or}
use Rattle.std.proofs.Common.{add-zero, arith, length}
use Rattle.words.specs.Writes.{writes, Agrees, writes_same, writes_append, length_writes}
use Rattle.layout.specs.Layout.{held_row}
use Rattle.key_words.specs.Key.{key_at, words_of}
use Rattle.key_words.proofs.Laws.{key_at_agrees, key_at_writes}
use Rattle.inst_holding.specs.Held.{read_of, read_words, read_from}
use Rattle.inst_holding.specs.declared.ReadReq.{ReadReq}

pub near : (s' s : List ℕ) (p : ℕ) → Agrees s' s p (p + held_row) → read_from s' p ≡ read_from s p
unfolding read_from
near s' s p h =
    let a = h p (omega arith) (omega arith) in
    let b = h (p + 1) (omega arith) (omega arith) in
    let k = key_at_agrees s' s (p + 2) (λ j x y. h j (omega arith) (omega arith)) in
    rw (a, b, k)

-- a read that is stored is read back
pub read_back : (s : List ℕ) (p : ℕ) (x : ReadReq) → p + held_row ≤ length s → read_from (writes s p (read_words x)) p ≡ read_of x
unfolding read_from
read_back s p x h =
    let xs : List ℕ = x.client ∷ x.request ∷ [] in
    let w : writes (writes s p xs) (p + 2) (words_of x.key) ≡ writes s p (read_words x) = writes_append s p xs (words_of x.key) in
    let a : get_or (writes s p (read_words x)) p 0 ≡ x.client = rw add-zero at (writes_same s p (read_words x) 0 h (omega arith)) in
    let b : get_or (writes s p (read_words x)) (p + 1) 0 ≡ x.request = writes_same s p (read_words x) 1 h (omega arith) in
    let k : key_at (writes s p (read_words x)) (p + 2) ≡ x.key = rw (← w) (key_at_writes (writes s p xs) (p + 2) x.key (omega (arith, length_writes s p xs))) in
    rw (a, b, k)
