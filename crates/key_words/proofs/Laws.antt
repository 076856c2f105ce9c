-- The laws of packed keys: put and get, bytes and words, and that keys are compared as their bytes are. Assumes
-- nothing.
use Rattle.std.specs.Prelude.{if◌then◌else◌}
use Rattle.std.specs.Bool.{then_some}
use mathlib.Core.Path.{◌≡◌, refl, sym, ap, ◌∙◌}
use mathlib.Core.Bool.{Bool, true, false, ◌&&◌, and-true}
use Rattle.std.proofs.Math.Bool.{and-false}
use mathlib.Core.List.{List, [], ◌∷◌, ◌++◌}
use Rattle.std.specs.Prelude.{Option, None, Some}
use Prim.Native.Nat.{ℕ, zero, suc, ◌+◌, ◌-◌, ◌*◌, ◌/◌, ◌%◌, ◌^◌, ◌≤◌, ◌<◌, min}
use native.Mathlib.Nat.{div-div-eq-div-mul, zero-add, one-mul, not-suc-le-zero, div-lt_iff_lt-mul}
use native.Mathlib.Numerals.{add-one}
use native.Mathlib.Omega.{arith}
use borrow.Author.Tests.{eqb-true, le-leb, lt-leb, ne_eqb}
use lib.Dec.{eqb, leb}
use mir.Syntax.{w64}
use Rattle.std.specs.Int.{to_le_bytes}
use lib.ListN.{length, get_or, take, replicate, length-take, get_or-eq_default}
use lib.Pow.{pow_pos, shr_lt}
use lib.Seq.{ext_get_or, length-take-le, get_or-take, take-take, take_all}
use Rattle.words.specs.Tab.{words_from, length_tab, get_or_tab}
use Rattle.words.specs.Writes.{writes, Agrees, writes_append, run_writes, run_agrees, length_writes, writes_same}
use Rattle.keys.specs.Read.{is_k, strip, sign, is_digit, number, digits, read_key}
use Rattle.keys.specs.Same.{same_bytes}
use Rattle.keys.proofs.Same.{same_refl, same_true}
use Rattle.key_words.specs.Key.{words_of, key_of, key_at, same_key, le_word, le_bytes, pack_of, all_bytes, unpack_of, is_packed, bytes_of, at_most_48, Unpacks}
use Rattle.key_words.specs.declared.Key.{Key}

-- ---- put and get

pub key_at_agrees : (s' s : List ℕ) (q : ℕ) → Agrees s' s q (q + 7) → key_at s' q ≡ key_at s q
unfolding key_at
key_at_agrees s' s q h = ap key_of (run_agrees 7 s' s q h)

pub key_at_writes : (s : List ℕ) (at : ℕ) (k : Key) → at + 7 ≤ length s → key_at (writes s at (words_of k)) at ≡ k
unfolding key_at
key_at_writes s at k h = ap key_of (run_writes s at (words_of k) h)

-- ---- the same bytes, the same words

same_key_true : (a b : Key) → same_key a b ≡ true → a ≡ b
unfolding same_key
same_key_true a b h = ap key_of (same_true (words_of a) (words_of b) h)

same_key_refl : (a : Key) → same_key a a ≡ true
unfolding same_key
same_key_refl a = same_refl (words_of a)

-- `==` on keys is of each word
pub same_eq : (a b : Key) (r : Bool)
    → r ≡ (eqb a.len b.len && (eqb a.w0 b.w0 && (eqb a.w1 b.w1 && (eqb a.w2 b.w2 && (eqb a.w3 b.w3 && (eqb a.w4 b.w4 && eqb a.w5 b.w5)))))) → r ≡ same_key a b
unfolding same_key same_bytes
same_eq a b r h = h ∙ rw and-true

-- ---- bytes of words

-- `to_le_bytes` of a word
pub low_first : (v : ℕ) → to_le_bytes w64 v ≡ le_bytes 8 v
low_first v = simp div-div-eq-div-mul

abbrev pub Bytes : List ℕ → Type 0
Bytes k = (i : ℕ) → get_or k i 0 < 256

le_bytes_le_word : (n : ℕ) (k : List ℕ) (q : ℕ) → Bytes k → le_bytes n (le_word n k q) ≡ words_from n k q
le_bytes_le_word zero k q b = refl
le_bytes_le_word (suc n) k q b =
    let x : (get_or k q 0 + 256 * le_word n k (q + 1)) % 256 ≡ get_or k q 0 = omega (arith, b q) in
    let y : (get_or k q 0 + 256 * le_word n k (q + 1)) / 256 ≡ le_word n k (q + 1) = omega (arith, b q) in
    rw (x, y, le_bytes_le_word n k (q + 1) b)

glue : {a a' b b' c c' d d' e e' f f' : List ℕ} → a ≡ a' → b ≡ b' → c ≡ c' → d ≡ d' → e ≡ e' → f ≡ f' → a ++ b ++ c ++ d ++ e ++ f ≡ a' ++ b' ++ c' ++ d' ++ e' ++ f'
glue p q r s t u = rw (p, q, r, s, t, u)

bytes_pack : (k : List ℕ) → Bytes k → all_bytes (pack_of k) ≡ words_from 48 k 0
unfolding pack_of all_bytes
bytes_pack k b =
    glue (le_bytes_le_word 8 k 0 b) (le_bytes_le_word 8 k 8 b) (le_bytes_le_word 8 k 16 b) (le_bytes_le_word 8 k 24 b) (le_bytes_le_word 8 k 32 b) (le_bytes_le_word 8 k 40 b)

take_run : (k : List ℕ) (n m : ℕ) → n ≡ length k → n ≤ m → take n (words_from m k 0) ≡ k
take_run k n m e h =
    let l : n ≤ length (words_from m k 0) = rw length_tab h in
    let t : length (take n (words_from m k 0)) ≡ n = length-take-le n (words_from m k 0) l in
    ext_get_or 0 (take n (words_from m k 0)) k (t ∙ e)
    (λ i b.
    let c : i < n = omega (arith, t) in
    get_or-take n (words_from m k 0) i 0 c ∙ get_or_tab (λ j. get_or k j 0) 0 m i 0 (omega arith) ∙ rw zero-add)

unpack_pack : (k : List ℕ) → Bytes k → length k ≤ 48 → unpack_of (pack_of k) ≡ k
unfolding unpack_of pack_of
unpack_pack k b h =
    let e = bytes_pack k b in
    let m : min (length k) 48 ≡ length k = omega arith in
    rw (m, e) (take_run k (length k) 48 refl h)

-- a key that was packed shows as its bytes
pub bytes_pack_of : (k : List ℕ) → Bytes k → length k ≤ 48 → bytes_of (pack_of k) ≡ k
unfolding bytes_of
bytes_pack_of k b h =
    let e = unpack_pack k b h in
    let p : is_packed (pack_of k) ≡ true = rw e (same_key_refl (pack_of k)) in
    rw (p, e)

-- ---- keys are compared as their bytes are

short : (k : Key) → length (unpack_of k) ≤ 48
unfolding unpack_of
short k = simp length-take (omega arith)

long : (k : Key) → length (words_of k ++ replicate 42 0) ≡ 49
long k = refl

-- two keys with the same bytes are the same words, whatever the words
pub bytes_inj : (a b : Key) → bytes_of a ≡ bytes_of b → a ≡ b
unfolding bytes_of
bytes_inj a b h = go (is_packed a) refl (is_packed b) refl h
  where
    go : (s : Bool) → is_packed a ≡ s → (t : Bool) → is_packed b ≡ t
        → (if s then unpack_of a else words_of a ++ replicate 42 0) ≡ (if t then unpack_of b else words_of b ++ replicate 42 0) → a ≡ b
    go true p true q h = sym (same_key_true (pack_of (unpack_of a)) a p) ∙ ap pack_of h ∙ same_key_true (pack_of (unpack_of b)) b q
    go true p false q h = absurd (omega (arith, short a, ap length h, long b))
    go false p true q h = absurd (omega (arith, short b, ap length h, long a))
    go false p false q h = ap key_of h

pub same_is : (a b : Key) → same_bytes (bytes_of a) (bytes_of b) ≡ same_key a b
same_is a b = go (same_bytes (bytes_of a) (bytes_of b)) refl (same_key a b) refl
  where
    go : (s : Bool) → same_bytes (bytes_of a) (bytes_of b) ≡ s → (t : Bool) → same_key a b ≡ t → s ≡ t
    go true p true q = refl
    go false p false q = refl
    go true p false q =
        let e = bytes_inj a b (same_true (bytes_of a) (bytes_of b) p) in
        let z : same_key a b ≡ true = rw e (same_key_refl b) in
        sym z ∙ q
    go false p true q =
        let e = same_key_true a b q in
        let z : same_bytes (bytes_of a) (bytes_of b) ≡ true = rw e (same_refl (bytes_of b)) in
        sym p ∙ z

-- a key of another length, or with another first word, is other bytes
pub other_length : (s : List ℕ) (at : ℕ) (k : Key) → (get_or s at 0 ≡ k.len → ⊥) → same_bytes (bytes_of (key_at s at)) (bytes_of k) ≡ false
unfolding key_at
other_length s at k h = same_is (key_at s at) k ∙ sym (same_eq (key_at s at) k _ refl) ∙ rw (ne_eqb (get_or s at 0) k.len h) refl

pub other_word : (s : List ℕ) (at : ℕ) (k : Key) → eqb (get_or s (at + 1) 0) k.w0 ≡ false → same_bytes (bytes_of (key_at s at)) (bytes_of k) ≡ false
unfolding key_at
other_word s at k h = same_is (key_at s at) k ∙ sym (same_eq (key_at s at) k _ refl) ∙ rw (h, and-false) refl

-- ---- at most eight bytes

take_bytes : (m n v : ℕ) (r : List ℕ) → n ≤ m → take n (le_bytes m v ++ r) ≡ le_bytes n v
take_bytes m zero v r h = refl
take_bytes zero (suc n) v r h = absurd (not-suc-le-zero h)
take_bytes (suc m) (suc n) v r h = ap {B = List ℕ} (λ l. v % 256 ∷ l) (take_bytes m n (v / 256) r (omega arith))

length_bytes : (n v : ℕ) → length (le_bytes n v) ≡ n
length_bytes zero v = refl
length_bytes (suc n) v = ap suc (length_bytes n (v / 256))

le_word_tail : (m x : ℕ) (s : List ℕ) (at : ℕ) → le_word m (x ∷ s) (at + 1) ≡ le_word m s at
le_word_tail zero x s at = refl
le_word_tail (suc m) x s at = rw (le_word_tail m x s (at + 1), add-one at)

le_word_past : (m : ℕ) (s : List ℕ) (at : ℕ) → length s ≤ at → le_word m s at ≡ 0
le_word_past zero s at h = refl
le_word_past (suc m) s at h = omega (arith, get_or-eq_default s 0 h, le_word_past m s (at + 1) (omega arith))

-- at most eight bytes: they stand in the first word
pub few_packed : (k : List ℕ) (w : ℕ) → length k ≤ 8 → w ≡ le_word 8 k 0 → record { len = length k; w0 = w; w1 = 0; w2 = 0; w3 = 0; w4 = 0; w5 = 0 } ≡ pack_of k
unfolding pack_of
few_packed k w h f =
    put f (le_word_past 8 k 8 h) (le_word_past 8 k 16 (omega arith)) (le_word_past 8 k 24 (omega arith)) (le_word_past 8 k 32 (omega arith)) (le_word_past 8 k 40 (omega arith))
  where
    put : {v a b c d e : ℕ} → w ≡ v → a ≡ 0 → b ≡ 0 → c ≡ 0 → d ≡ 0 → e ≡ 0
        → ◌≡◌ {A = Key} (record { len = length k; w0 = w; w1 = 0; w2 = 0; w3 = 0; w4 = 0; w5 = 0 }) (record { len = length k; w0 = v; w1 = a; w2 = b; w3 = c; w4 = d; w5 = e })
    put q x y z s t = rw (q, x, y, z, s, t)

-- a word that is no more than n bytes
le_word_le_bytes : (m n v : ℕ) → n ≤ m → v < 2 ^ (8 * n) → le_word m (le_bytes n v) 0 ≡ v
le_word_le_bytes m zero v h b = le_word_past m [] 0 (omega arith) ∙ omega arith
le_word_le_bytes zero (suc n) v h b = absurd (not-suc-le-zero h)
le_word_le_bytes (suc m) (suc n) v h b =
    let e : 8 * suc n ≡ 8 * n + 8 = omega arith in
    let p : v / 256 < 2 ^ (8 * n) = shr_lt (8 * n) 8 (rw e at b) in
    let q = le_word_le_bytes m n (v / 256) (omega arith) p in
    omega (arith, le_word_tail m (v % 256) (le_bytes n (v / 256)) 0 ∙ q)

key_is : (k : Key) (a b c d e f g : ℕ) → a ≡ k.len → b ≡ k.w0 → c ≡ k.w1 → d ≡ k.w2 → e ≡ k.w3 → f ≡ k.w4 → g ≡ k.w5
    → ◌≡◌ {A = Key} (record { len = a; w0 = b; w1 = c; w2 = d; w3 = e; w4 = f; w5 = g }) k
key_is k a b c d e f g p q r s t u v = rw (p, q, r, s, t, u, v)

-- `==` with the words past the first cleared says that they were 0
module _ (k : Key) (r : Bool)
    (e : r
    ≡ (eqb k.len k.len && (eqb k.w0 k.w0 && (eqb k.w1 0 && (eqb k.w2 0 && (eqb k.w3 0 && (eqb k.w4 0 && eqb k.w5 0)))))))
    (f : r ≡ true) where
  first_only : k ≡ record { len = k.len; w0 = k.w0; w1 = 0; w2 = 0; w3 = 0; w4 = 0; w5 = 0 }
  first_only = same_key_true k _ (sym (same_eq k _ r e) ∙ f)

  short_bytes : k.len ≤ 8 → unpack_of k ≡ le_bytes k.len k.w0
  unfolding unpack_of all_bytes
  short_bytes h =
      let m : min k.len 48 ≡ k.len = omega arith in
      rw m (take_bytes 8 k.len k.w0 _ h)

  short_packed : k.len ≤ 8 → k.w0 < 2 ^ (8 * k.len) → is_packed k ≡ true
  unfolding pack_of
  short_packed h b =
      let l : length (le_bytes k.len k.w0) ≤ 8 = omega (arith, length_bytes k.len k.w0) in
      let past : (at : ℕ) → 8 ≤ at → (w : ℕ) → w ≡ 0 → le_word 8 (le_bytes k.len k.w0) at ≡ w = λ at g w z. le_word_past 8 (le_bytes k.len k.w0) at (omega arith) ∙ sym z in
      let e : pack_of (unpack_of k) ≡ k =
      ap pack_of (short_bytes h)
      ∙ key_is k _ _ _ _ _ _ _ (length_bytes k.len k.w0) (le_word_le_bytes 8 k.len k.w0 h b)
      (past 8 (omega arith) _ (ap (λ (x : Key). x.w1) first_only)) (past 16 (omega arith) _ (ap (λ (x : Key). x.w2) first_only)) (past 24 (omega arith) _ (ap (λ (x : Key). x.w3) first_only))
      (past 32 (omega arith) _ (ap (λ (x : Key). x.w4) first_only)) (past 40 (omega arith) _ (ap (λ (x : Key). x.w5) first_only)) in
      rw e (same_key_refl k)

  -- the word shifted by its bytes is 0, or it has eight
  pub short_shifted : k.len < 8 → eqb (k.w0 / 2 ^ (8 * k.len)) 0 ≡ true → is_packed k ≡ true
  short_shifted h q =
      let o : k.w0 / 2 ^ (8 * k.len) < 1 = omega (arith, eqb-true (k.w0 / 2 ^ (8 * k.len)) 0 q) in
      short_packed (omega arith) (rw (one-mul (2 ^ (8 * k.len))) at ((div-lt_iff_lt-mul (pow_pos (8 * k.len))).0 o))

  pub short_eight : k.w0 < 2 ^ 64 → eqb k.len 8 ≡ true → is_packed k ≡ true
  short_eight b q =
      let n : k.len ≡ 8 = eqb-true k.len 8 q in
      short_packed (omega arith) (rw n b)

-- ---- back to bytes

-- a word after a run: what six stores leave is one run
next : (s s₁ s₂ : List ℕ) (at v : ℕ) (xs : List ℕ) → s₁ ≡ writes s at xs → s₂ ≡ writes s₁ (at + length xs) (le_bytes 8 v) → s₂ ≡ writes s at (xs ++ le_bytes 8 v)
next s s₁ s₂ at v xs p q = q ∙ rw p (writes_append s at xs (le_bytes 8 v))

pub six_words : (s s₁ s₂ s₃ s₄ s₅ s₆ : List ℕ) (k : Key) → s₁ ≡ writes s 0 (le_bytes 8 k.w0) → s₂ ≡ writes s₁ 8 (le_bytes 8 k.w1) → s₃ ≡ writes s₂ 16 (le_bytes 8 k.w2)
    → s₄ ≡ writes s₃ 24 (le_bytes 8 k.w3) → s₅ ≡ writes s₄ 32 (le_bytes 8 k.w4) → s₆ ≡ writes s₅ 40 (le_bytes 8 k.w5) → s₆ ≡ writes s 0 (all_bytes k)
unfolding all_bytes
six_words s s₁ s₂ s₃ s₄ s₅ s₆ k e₁ e₂ e₃ e₄ e₅ e₆ =
    let b₁ = le_bytes 8 k.w0 in
    let p₂ = next s s₁ s₂ 0 k.w1 b₁ e₁ e₂ in
    let p₃ = next s s₂ s₃ 0 k.w2 (b₁ ++ le_bytes 8 k.w1) p₂ e₃ in
    let p₄ = next s s₃ s₄ 0 k.w3 ((b₁ ++ le_bytes 8 k.w1) ++ le_bytes 8 k.w2) p₃ e₄ in
    let p₅ = next s s₄ s₅ 0 k.w4 (((b₁ ++ le_bytes 8 k.w1) ++ le_bytes 8 k.w2) ++ le_bytes 8 k.w3) p₄ e₅ in
    next s s₅ s₆ 0 k.w5 ((((b₁ ++ le_bytes 8 k.w1) ++ le_bytes 8 k.w2) ++ le_bytes 8 k.w3) ++ le_bytes 8 k.w4) p₅ e₆

-- the front of what was stored
front : (s v : List ℕ) (n : ℕ) → n ≤ length v → length v ≤ length s → take n (writes s 0 v) ≡ take n v
front s v n a b =
    let l = length_writes s 0 v in
    let p : length (take n (writes s 0 v)) ≡ n = length-take-le n (writes s 0 v) (omega (arith, l)) in
    let q : length (take n v) ≡ n = length-take-le n v a in
    ext_get_or 0 (take n (writes s 0 v)) (take n v) (p ∙ sym q)
    (λ i h.
    let c : i < n = omega (arith, p) in
    let g : get_or (writes s 0 v) i 0 ≡ get_or v i 0 = rw zero-add at (writes_same s 0 v i (rw zero-add b) (omega arith)) in
    get_or-take n (writes s 0 v) i 0 c ∙ g ∙ sym (get_or-take n v i 0 c))

length_all : (k : Key) → length (all_bytes k) ≡ 48
unfolding all_bytes
length_all k = refl

-- no bytes are more than 48
packed_few : (k : Key) → is_packed k ≡ true → k.len ≤ 48
unfolding pack_of
packed_few k q =
    let d = ap (λ (x : Key). x.len) (same_key_true (pack_of (unpack_of k)) k q) in
    omega (arith, d, short k)

pub packed_long : (k : Key) → 48 < k.len → leb k.len 48 ≡ is_packed k
packed_long k h = lt-leb k.len 48 h ∙ go (is_packed k) refl
  where
    go : (u : Bool) → is_packed k ≡ u → false ≡ is_packed k
    go false q = sym q
    go true q = absurd (omega (arith, packed_few k q))

unpacked_front : (k : Key) (t : List ℕ) → k.len ≤ 48 → take 48 t ≡ all_bytes k → take k.len t ≡ unpack_of k
unfolding unpack_of
unpacked_front k t h e =
    let m : min k.len 48 ≡ k.len = omega arith in
    rw (m, ← e) (sym (take-take k.len 48 t h))

-- in the words of the code: p is what was packed again, u what the comparison said
pub packed_again : (k : Key) (t : List ℕ) (p : Key) (u : Bool) → k.len ≤ 48 → take 48 t ≡ all_bytes k → p ≡ pack_of (take k.len t) → u ≡ same_key p k → u ≡ is_packed k
packed_again k t p u h e again told = told ∙ rw (again, unpacked_front k t h e)

module _ (k : Key) (s t : List ℕ) (fits : 48 ≤ length s) (e : t ≡ writes s 0 (all_bytes k)) where
  pub stored_front : take 48 t ≡ all_bytes k
  stored_front =
      let l = length_all k in
      rw e (front s (all_bytes k) 48 (omega (arith, l)) (omega (arith, l)) ∙ take_all 48 (all_bytes k) (omega (arith, l)))

  pub unpacks : (u : Bool) (r : Option ℕ) → u ≡ is_packed k → r ≡ then_some u k.len → Unpacks k s t r
  unfolding bytes_of
  unpacks false r told h = record { stored = e; told = rw (h, ← told) refl; few = rw h (omega arith) }
  unpacks true r told h =
      record {
        stored = e;
        told = rw (h, ← told, unpacked_front k t (packed_few k (sym told)) stored_front, le-leb (length (unpack_of k)) 48 (short k)) refl;
        few = rw h (packed_few k (sym told));
      }

-- ---- a key that no bytes are does not read

-- a 0 stands in the list, and is no digit
abbrev Zeroed : List ℕ → Type 0
Zeroed l = (p : List ℕ) × (r : List ℕ) × (l ≡ p ++ (0 ∷ r))

strip_zeroed : (p r : List ℕ) → Zeroed (strip (p ++ (0 ∷ r)))
strip_zeroed [] r = ([], r, refl)
strip_zeroed (c ∷ p) r = go (is_k c) (strip_zeroed p r)
  where
    go : (t : Bool) → Zeroed (strip (p ++ (0 ∷ r))) → Zeroed (if t then strip (p ++ (0 ∷ r)) else c ∷ (p ++ (0 ∷ r)))
    go true z = z
    go false z = (c ∷ p, r, refl)

sign_zeroed : (p r : List ℕ) → Zeroed (sign (p ++ (0 ∷ r)))
sign_zeroed [] r = ([], r, refl)
sign_zeroed (c ∷ p) r = go (eqb c 43)
  where
    go : (t : Bool) → Zeroed (if t then p ++ (0 ∷ r) else c ∷ (p ++ (0 ∷ r)))
    go true = (p, r, refl)
    go false = (c ∷ p, r, refl)

number_none : (a : ℕ) (p r : List ℕ) → number a (p ++ (0 ∷ r)) ≡ None
number_none a [] r = refl
number_none a (c ∷ p) r = go (is_digit c) (number_none (10 * a + (c - 48)) p r)
  where
    go : (t : Bool) → number (10 * a + (c - 48)) (p ++ (0 ∷ r)) ≡ None → (if t then number (10 * a + (c - 48)) (p ++ (0 ∷ r)) else None) ≡ None
    go true e = e
    go false e = refl

digits_none : (p r : List ℕ) → digits (p ++ (0 ∷ r)) ≡ None
digits_none [] r = refl
digits_none (c ∷ p) r = number_none 0 (c ∷ p) r

zeroed_unread : (p r : List ℕ) → read_key (p ++ (0 ∷ r)) ≡ None
unfolding read_key
zeroed_unread p r =
    let w = strip_zeroed p r in
    let v = sign_zeroed w.0 w.1 in
    rw (w.2, v.2, digits_none v.0 v.1)

pub foreign_unread : (k : Key) → None ≡ at_most_48 (bytes_of k) → read_key (bytes_of k) ≡ None
unfolding bytes_of
foreign_unread k h = go (is_packed k) h
  where
    go : (t : Bool) → None ≡ at_most_48 (if t then unpack_of k else words_of k ++ replicate 42 0) → read_key (if t then unpack_of k else words_of k ++ replicate 42 0) ≡ None
    go true e = let z : ◌≡◌ {A = Option (List ℕ)} None (Some (unpack_of k)) = e ∙ rw (le-leb (length (unpack_of k)) 48 (short k)) in cc
    go false e = zeroed_unread (words_of k) (replicate 41 0)
