-- The batch as it is lent: how many requests, a key by its clamped start and length, whether one is long, and the batch
-- loaded request by request.
use Rattle.std.specs.List.{list_any, range_with_len}
use mathlib.Core.Path.{◌≡◌, refl, sym, ap, ◌∙◌}
use mathlib.Core.Bool.{Bool, true, false, ◌||◌}
use mathlib.Core.List.{List, []}
use Prim.Native.Nat.{ℕ, zero, suc, ◌+◌, ◌-◌, ◌/◌, ◌≤◌, ◌<◌, min}
use native.Mathlib.Nat.{add-zero, zero-add, not-suc-le-zero}
use native.Mathlib.Decide.{dec_lt}
use native.Mathlib.Omega.{arith}
use lib.ListN.{length, get_or, set, take, drop, length-drop, drop_of_length-le}
use lib.Seq.{take_all, take-length, drop-length, get_or-set_other}
use Rattle.words.specs.Part.{part}
use Rattle.words.specs.Tab.{tab, tab_snoc, length_tab}
use Rattle.layout.specs.Layout.{request_places, request_row, batch_words}
use Rattle.roster_conf.specs.Edit.{long_key}
use Rattle.bodega.specs.Replica as machine
use Rattle.inst_reqs.specs.Batch.{request_from, requests_of, Pushes}
use Rattle.table.proofs.Laws.{pushed_on}
use Rattle.req_batch.specs.Given.{given_at, given, any_long, Loads}

pub how_many : (rows text : List ℕ) → length (given rows text) ≡ length rows / 6
unfolding given
how_many rows text = length_tab (given_at rows text) 0 (length rows / 6)

-- ---- a key, by the words of the code: from and n are its start and length, clamped

drop_min : (n : ℕ) (l : List ℕ) → drop (min n (length l)) l ≡ drop n l
drop_min n l = elim (dec_lt n (length l)) [
  | yes h ↦ (let e : min n (length l) ≡ n = omega arith in rw e)
  | no h ↦
      (let e : min n (length l) ≡ length l = omega arith in
      let d : length l ≤ n = omega arith in
      rw e (drop-length l ∙ sym (drop_of_length-le l d)))
]

take_min : (n : ℕ) (l : List ℕ) → take (min n (length l)) l ≡ take n l
take_min n l = elim (dec_lt n (length l)) [
  | yes h ↦ (let e : min n (length l) ≡ n = omega arith in rw e)
  | no h ↦
      (let e : min n (length l) ≡ length l = omega arith in
      rw e (take-length l ∙ sym (take_all n l (omega arith))))
]

pub part_is : (text : List ℕ) (start len from n : ℕ) → from ≡ min start (length text) → n ≡ min len (length (take (length text - from) (drop from text)))
    → take n (take (length text - from) (drop from text)) ≡ part text start len
unfolding part
part_is text start len from n a b =
    let l : length (drop from text) ≤ length text - from = rw length-drop (omega arith) in
    let e : take (length text - from) (drop from text) ≡ drop start text = take_all (length text - from) (drop from text) l ∙ rw a (drop_min start text) in
    rw (b, e) (take_min len (drop start text))

-- ---- whether a key is long

some : (f : ℕ → machine.Request) (i n : ℕ) → list_any (λ k. long_key (f k).key) (range_with_len i n) ≡ any_long (tab f i n)
some f i zero = refl
some f i (suc n) = ap (λ (t : Bool). long_key (f i).key || t) (some f (i + 1) n)

pub some_long : (rows text : List ℕ) → list_any (λ k. long_key (given_at rows text k).key) (range_with_len 0 (length rows / 6)) ≡ any_long (given rows text)
unfolding given
some_long rows text = some (given_at rows text) 0 (length rows / 6)

-- ---- none of them is

none_long : (f : ℕ → machine.Request) (i n k : ℕ) → any_long (tab f i n) ≡ false → k < n → long_key (f (i + k)).key ≡ false
none_long f i zero k e h = absurd (not-suc-le-zero h)
none_long f i (suc n) k e h = go (long_key (f i).key) refl e k h (λ p j l. none_long f (i + 1) n j p l)
  where
    go : (t : Bool) → long_key (f i).key ≡ t → (t || any_long (tab f (i + 1) n)) ≡ false → (k : ℕ) → k < suc n
        → (any_long (tab f (i + 1) n) ≡ false → (j : ℕ) → j < n → long_key (f (i + 1 + j)).key ≡ false) → long_key (f (i + k)).key ≡ false
    go true q p k l r = cc
    go false q p zero l r = rw add-zero q
    go false q p (suc k) l r =
        let m : i + 1 + k ≡ i + suc k = omega arith in
        rw m at (r p k (omega arith))

pub short_at_lem : (rows text : List ℕ) (i : ℕ) → any_long (given rows text) ≡ false → i < length rows / 6 → long_key (given_at rows text i).key ≡ false
unfolding given
short_at_lem rows text i e h = rw (zero-add i) at (none_long (given_at rows text) 0 (length rows / 6) i e h)

-- ---- the batch loaded, as far as i

pub record Loaded (rows text s t : List ℕ) (i : ℕ) : Type 0 where
  pub requests : requests_of t ≡ tab (given_at rows text) 0 i
  pub beyond : (j : ℕ) → batch_words ≤ j → get_or t j 0 ≡ get_or s j 0

pub loaded_start : (rows text t : List ℕ) → requests_of t ≡ [] → Loaded rows text t t 0
loaded_start rows text t e = record { requests = e; beyond = λ j h. refl }

-- in the words of the code: q is the request that was read, t what its push left
pub loaded_next : (rows text s₀ s t : List ℕ) (i : ℕ) (q : machine.Request) (r : Bool) → Loaded rows text s₀ s i → i < request_places → q ≡ given_at rows text i → Pushes s q r t → Loaded rows text s₀ t (i + 1)
loaded_next rows text s₀ s t i q r l h e p =
    let m : length (requests_of s) ≡ i = rw l.requests (length_tab (given_at rows text) 0 i) in
    record {
      requests = pushed_on request_from request_row request_places s t q r p (omega arith) ∙ rw (l.requests, e, tab_snoc (given_at rows text) 0 i, zero-add i);
      beyond = λ j b. p.beyond j b ∙ l.beyond j b;
    }

pub loaded_end : (rows text s s₀ t : List ℕ) (i : ℕ) → s₀ ≡ set s 0 0 → Loaded rows text s₀ t i → i ≤ length rows / 6 → length rows / 6 ≤ i → Loads rows text s t
unfolding given
loaded_end rows text s s₀ t i e l a b =
    let m : i ≡ length rows / 6 = omega arith in
    record { requests = l.requests ∙ ap (tab (given_at rows text) 0) m; beyond = λ j h. l.beyond j h ∙ rw e (get_or-set_other s 0 j 0 0 (omega arith)) }
