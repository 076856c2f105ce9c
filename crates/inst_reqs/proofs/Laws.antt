-- A slot's batch: what is stored is read back, a request goes after the others, and the last Put of a key from the end.
use Rattle.std.specs.Prelude.{if◌then◌else◌, MatchOption}
use mathlib.Core.Path.{◌≡◌, refl, sym, ap, ◌∙◌}
use mathlib.Core.List.{List, [], ◌∷◌, ◌++◌}
use Rattle.std.specs.Prelude.{Option, None, Some}
use Prim.Native.Nat.{ℕ, zero, suc, ◌+◌, ◌-◌, ◌≤◌, ◌<◌}
use native.Mathlib.Nat.{zero-add, not-suc-le-zero}
use native.Mathlib.Omega.{arith}
use native.Mathlib.Decide.{dec_lt}
use lib.ListN.{length}
use Rattle.words.specs.Choice.{if_none◌then◌else◌}
use Rattle.words.specs.Counted.{counted, length_counted}
use Rattle.words.specs.Tab.{tab, tab_snoc}
use Rattle.words.specs.Writes.{writes, writes_append}
use Rattle.words.proofs.Laws.{writes_is}
use Rattle.std.proofs.lemmas.List.{drop-drop}
use borrow.Rule.Slice.PartMut.{put_mid}
use Rattle.layout.specs.Layout.{request_places, request_row}
use Rattle.key_words.specs.Key.{words_of}
use Rattle.bodega.specs.Localread.{last_put, put_of}
use Rattle.bodega.specs.Replica as machine
use Rattle.inst_reqs.specs.Batch.{command_of, kind_of, value_of, request_of, request_words, request_from, request_at, requests_of}
use Rattle.inst_reqs.specs.declared.Request.{Request}

-- the requests one by one, as many as are counted
pub requests_are : (s : List ℕ) (n : ℕ) → n ≡ length (requests_of s) → requests_of s ≡ tab (request_at s) 0 n
unfolding counted
requests_are s n h = ap (tab (request_at s) 0) (sym (h ∙ length_counted request_from request_row request_places s))

-- a row stored in two runs: its first words as one part, then the key
pub stored : (s t u : List ℕ) (p kind value : ℕ) (q : Request) → p + request_row ≤ length s → kind ≡ kind_of q.command → value ≡ value_of q.command
    → t ≡ q.client ∷ q.request ∷ kind ∷ value ∷ [] → u ≡ writes (put_mid p (p + 4 - p) s t) (p + 4) (words_of q.key) → u ≡ writes s p (request_words q)
stored s t u p kind value q h e f g w =
    let xs : List ℕ = q.client ∷ q.request ∷ kind_of q.command ∷ value_of q.command ∷ [] in
    let n : p + 4 - p ≡ 4 = omega arith in
    let x : t ≡ xs = rw (g, e, f) in
    rw (w, n, x, drop-drop, ← (writes_is s p xs (omega arith))) (writes_append s p xs (words_of q.key))

-- ---- the last Put, from the end

abbrev pub PutAt : List ℕ → List ℕ → ℕ → Option ℕ
PutAt s key i = put_of key (request_at s i) (request_at s i).command

-- q is the request that was read
pub put_read : (s : List ℕ) (key : List ℕ) (i : ℕ) (q : Request) → request_of q ≡ request_at s i → PutAt s key i ≡ put_of key (request_of q) (command_of q.command)
put_read s key i q e = sym (ap (λ (r : machine.Request). put_of key r r.command) e)

last_snoc : (key : List ℕ) (qs : List machine.Request) (q : machine.Request)
    → last_put key (qs ++ (q ∷ [])) ≡ (if_none put_of key q q.command then last_put key qs else λ v. Some v)
unfolding last_put
last_snoc key [] q = go (put_of key q q.command)
  where
    go : (o : Option ℕ) → o ≡ (if_none o then None else λ v. Some v)
    go None = refl
    go (Some v) = refl
last_snoc key (r ∷ qs) q = rw (last_snoc key qs q) (go (put_of key q q.command))
  where
    go : (o : Option ℕ) → (if_none (if_none o then last_put key qs else λ v. Some v) then put_of key r r.command else λ v. Some v)
        ≡ (if_none o then (if_none last_put key qs then put_of key r r.command else λ v. Some v) else λ v. Some v)
    go None = refl
    go (Some v) = refl

-- r is the value of the last of the first n requests that puts one
abbrev pub Last : List ℕ → List ℕ → ℕ → Option ℕ → Type 0
Last s key n r = MatchOption r ((k : ℕ) → k < n → PutAt s key k ≡ None) (λ v. (i : ℕ) × (i < n) × (PutAt s key i ≡ Some v) × ((k : ℕ) → i < k → k < n → PutAt s key k ≡ None))

pub last_all : (s : List ℕ) (n : ℕ) (key : List ℕ) → n ≡ length (requests_of s) → last_put key (tab (request_at s) 0 n) ≡ last_put key (requests_of s)
last_all s n key h = ap (last_put key) (sym (requests_are s n h))

last_cut : (s : List ℕ) (key : List ℕ) (n : ℕ) → last_put key (tab (request_at s) 0 (suc n)) ≡ (if_none PutAt s key n then last_put key (tab (request_at s) 0 n) else λ v. Some v)
last_cut s key n =
    let e : suc n ≡ n + 1 = omega arith in
    ap (λ (m : ℕ). last_put key (tab (request_at s) 0 m)) e ∙ rw (tab_snoc (request_at s) 0 n, zero-add n) (last_snoc key (tab (request_at s) 0 n) (request_at s n))

pub last_is : (s : List ℕ) (key : List ℕ) (n : ℕ) (r : Option ℕ) → Last s key n r → r ≡ last_put key (tab (request_at s) 0 n)
unfolding last_put
last_is s key zero None h = refl
last_is s key zero (Some v) h = absurd (not-suc-le-zero h.1)
last_is s key (suc n) None h = sym (last_cut s key n ∙ rw (h n (omega arith)) (sym (last_is s key n None (λ k l. h k (omega arith)))))
last_is s key (suc n) (Some v) h = sym (last_cut s key n ∙ go (dec_lt h.0 n) (last_is s key n (Some v)))
  where
    go : Dec (h.0 < n) → (Last s key n (Some v) → Some v ≡ last_put key (tab (request_at s) 0 n))
        → (if_none PutAt s key n then last_put key (tab (request_at s) 0 n) else λ v. Some v) ≡ Some v
    go (yes l) r = rw (h.3 n l (omega arith)) (sym (r (h.0, l, h.2, λ k a b. h.3 k a (omega arith))))
    go (no l) r = let e : h.0 ≡ n = omega (arith, h.1) in rw (rw e at h.2)
