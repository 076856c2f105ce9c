-- Bridge: the laws of a request's row, for `table::Row`.
use Rattle.std.specs.Prelude.{◌≡◌, refl, List, [], ◌∷◌, ℕ, ◌+◌, ◌≤◌, ◌<◌, get_or}
use Rattle.std.proofs.Common.{arith, length}
use Rattle.words.specs.Writes.{writes, Agrees, writes_same, writes_append, length_writes}
use Rattle.layout.specs.Layout.{request_row}
use Rattle.key_words.specs.Key.{key_at, words_of}
use Rattle.key_words.proofs.Laws.{key_at_agrees, key_at_writes}
use Rattle.inst_reqs.specs.Batch.{command_of, command_at, kind_of, value_of, request_of, request_words, request_from}
use Rattle.inst_reqs.specs.declared.Command.{Command}
use Rattle.inst_reqs.specs.declared.Command.TheVariants.{Get, Put}
use Rattle.inst_reqs.specs.declared.Request.{Request}

pub near : (s' s : List ℕ) (p : ℕ) → Agrees s' s p (p + request_row) → request_from s' p ≡ request_from s p
unfolding request_from
near s' s p h =
    let a = h p (omega arith) (omega arith) in
    let b = h (p + 1) (omega arith) (omega arith) in
    let d = h (p + 2) (omega arith) (omega arith) in
    let e = h (p + 3) (omega arith) (omega arith) in
    let k = key_at_agrees s' s (p + 4) (λ j x y. h j (omega arith) (omega arith)) in
    rw (a, b, d, e, k)

command_back : (c : Command) → command_at (kind_of c) (value_of c) ≡ command_of c
command_back Get = refl
command_back (Put v) = refl

-- a request that is stored is read back
pub read_back : (s : List ℕ) (p : ℕ) (q : Request) → p + request_row ≤ length s → request_from (writes s p (request_words q)) p ≡ request_of q
unfolding request_from
read_back s p q h =
    let t : List ℕ = writes s p (request_words q) in
    let xs : List ℕ = q.client ∷ q.request ∷ kind_of q.command ∷ value_of q.command ∷ [] in
    let w : writes (writes s p xs) (p + 4) (words_of q.key) ≡ t = writes_append s p xs (words_of q.key) in
    let f : (j i : ℕ) → j ≡ p + i → i < request_row → get_or t j 0 ≡ get_or (request_words q) i 0 = λ j i e b. rw e (writes_same s p (request_words q) i h b) in
    let a : get_or t p 0 ≡ q.client = f p 0 (omega arith) (omega arith) in
    let b : get_or t (p + 1) 0 ≡ q.request = f (p + 1) 1 (omega arith) (omega arith) in
    let d : get_or t (p + 2) 0 ≡ kind_of q.command = f (p + 2) 2 (omega arith) (omega arith) in
    let e : get_or t (p + 3) 0 ≡ value_of q.command = f (p + 3) 3 (omega arith) (omega arith) in
    let k : key_at t (p + 4) ≡ q.key = rw (← w) (key_at_writes (writes s p xs) (p + 4) q.key (omega (arith, length_writes s p xs))) in
    rw (a, b, d, e, k, command_back q.command)
