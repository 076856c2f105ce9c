-- The laws of items in an answer area: what the code's functions return, and that reading undoes putting.
use Rattle.std.specs.Prelude.{if◌then◌else◌, option_map}
use mathlib.Core.Path.{◌≡◌, refl, sym, ap, ◌∙◌}
use mathlib.Core.Bool.{Bool, true, false, ◌&&◌, true≢false}
use mathlib.Core.Logic.{◌⊎◌, inl, inr, ◌≢◌}
use mathlib.Core.List.{List, [], ◌∷◌, ◌++◌}
use Rattle.std.specs.Prelude.{Option, None, Some, Result, Ok, Err}
use Rattle.ids.specs.declared.Refusal.{Refusal}
use Rattle.ids.specs.declared.Refusal.TheVariants.{AreaTooSmall}
use Prim.Native.Nat.{ℕ, zero, suc, ◌+◌, ◌*◌, ◌/◌, ◌≤◌, ◌<◌}
use native.Mathlib.Nat.{mod-eq_of_lt, mod-lt, zero-lt-suc, zero-add, not-suc-le-zero}
use native.Mathlib.Decide.{dec_lt}
use native.Mathlib.Omega.{arith}
use borrow.Author.Tests.{lt-ltb, le-ltb, eq-eqb, eqb-true, ltb-true}
use lib.Dec.{eqb, ltb}
use lib.ListN.{length, get_or, take, drop, length-append}
use lib.Seq.{get_or-append-add, take_at, drop-drop}
use lib.Pow.{split}
use lib.Pointwise.{pointwise}
use Rattle.std.specs.Bool.{then_some}
use Rattle.std.specs.Simd.{first_chunks}
use Rattle.words.specs.Tab.{words_from, run_part}
use Rattle.words.specs.Writes.{writes, length_writes, writes_other, writes_same, run_writes, run_agrees, writes_append}
use Rattle.words.proofs.Tests.{and_both}
use Rattle.items.specs.declared.Item as declared
use Rattle.items.specs.Item.{Item, Value, Absent, Store, Pass, Hold, Retry, Resend, Commit, Lead, Prelog, Prepare, Span, Rest, Fits, item_of, item_words, encode, places, length_item, length_encode, encode_snoc}
use Rattle.items.specs.Area.{Put, put_item, put_answer, item_at, same_words, named, decode}

-- ---- what the code returns

abbrev named_in : List ℕ → Item
named_in ws = named (get_or ws 0 0) (get_or ws 1 0) (get_or ws 2 0) (get_or ws 3 0) (get_or ws 4 0) (get_or ws 5 0)

-- `==` on words is of each
pointwise_same : (l m : List ℕ) → pointwise eqb l m ≡ same_words l m
unfolding same_words
pointwise_same [] [] = refl
pointwise_same [] (y ∷ ys) = refl
pointwise_same (x ∷ xs) [] = refl
pointwise_same (x ∷ xs) (y ∷ ys) = ap (λ (b : Bool). eqb x y && b) (pointwise_same xs ys)

pub decoded_is : (w s : List ℕ) (i : declared.Item) (t : Bool) (r : Option declared.Item) → item_of i ≡ named_in w → s ≡ item_words (item_of i)
    → t ≡ pointwise eqb s w → r ≡ then_some t i → option_map item_of r ≡ decode w
unfolding decode
decoded_is w s i false r n k q z = rw (z, ← n, ← k, ← pointwise_same s w, ← q)
decoded_is w s i true r n k q z = rw (z, ← n, ← k, ← pointwise_same s w, ← q)

pub put_none : (area : List ℕ) (place : ℕ) (x : Item) → length area / 6 ≤ place → ◌≡◌ {A = Put} (put_item area place x) (record { taken = false; area = area })
unfolding put_item
put_none area place x h = rw (le-ltb place (length area / 6) h)

-- ---- the words of an item, and the item of the words

same_refl : (l : List ℕ) → same_words l l ≡ true
unfolding same_words
same_refl [] = refl
same_refl (x ∷ xs) = rw (eq-eqb x x refl, same_refl xs)

same_eq : (l m : List ℕ) → same_words l m ≡ true → l ≡ m
unfolding same_words
same_eq [] [] e = refl
same_eq [] (y ∷ ys) e = absurd (true≢false (sym e))
same_eq (x ∷ xs) [] e = absurd (true≢false (sym e))
same_eq (x ∷ xs) (y ∷ ys) e =
    let p = and_both (eqb x y) (same_words xs ys) e in
    let q : x ≡ y = eqb-true x y p.0 in
    rw (q, same_eq xs ys p.1)

named_words : (x : Item) → Fits x → named_in (item_words x) ≡ x
unfolding named
named_words (Value c r v) h = refl
named_words (Absent c r) h = refl
named_words (Store c r) h = refl
named_words (Pass c r) h = refl
named_words (Hold c r s) h = refl
named_words (Retry c r None) h = refl
named_words (Retry c r (Some l)) h = rw (mod-eq_of_lt h)
named_words (Resend s p) h = rw (mod-eq_of_lt h)
named_words (Commit s) h = refl
named_words (Lead true) h = refl
named_words (Lead false) h = refl
named_words (Prelog s) h = refl
named_words (Prepare s b) h = refl
named_words (Span f t m) h = rw (split f 64, split t 64)
named_words (Rest m) h = refl

pub decode_words : (x : Item) → Fits x → decode (item_words x) ≡ Some x
unfolding decode
decode_words x h = rw (named_words x h, same_refl (item_words x))

of_if : {A : Type 0} (P : A → Type 0) (t : Bool) {a b : A} → P a → P b → P (if t then a else b)
of_if P true p q = p
of_if P false p q = q

named_fits : (k a b c d e : ℕ) → Fits (named k a b c d e)
unfolding named
named_fits k a b c d e =
    of_if Fits (eqb k 1) tt
    (of_if Fits (eqb k 2) tt
    (of_if Fits (eqb k 3) tt
    (of_if Fits (eqb k 4) tt
    (of_if Fits (eqb k 5) tt
    (of_if Fits (eqb k 6) (of_if (λ (l : Option ℕ). Fits (Retry a b l)) (eqb c 0) tt (mod-lt d (zero-lt-suc 255)))
    (of_if Fits (eqb k 7) (mod-lt b (zero-lt-suc 255))
    (of_if Fits (eqb k 8) tt
    (of_if Fits (eqb k 9) tt
    (of_if Fits (eqb k 10) tt
    (of_if Fits (eqb k 11) tt
    (of_if Fits (eqb k 12) tt
    tt)))))))))))

-- what is decoded has those words
pub decode_sound : (ws : List ℕ) (x : Item) → decode ws ≡ Some x → (item_words x ≡ ws) × Fits x
unfolding decode
decode_sound ws x e = go (same_words (item_words (named_in ws)) ws) refl e
  where
    go : (t : Bool) → same_words (item_words (named_in ws)) ws ≡ t → (if t then Some (named_in ws) else None) ≡ Some x → (item_words x ≡ ws) × Fits x
    go true s e =
        let q : named_in ws ≡ x = cc in (
          rw (← q) (same_eq (item_words (named_in ws)) ws s),
          rw (← q) (named_fits (get_or ws 0 0) (get_or ws 1 0) (get_or ws 2 0) (get_or ws 3 0) (get_or ws 4 0) (get_or ws 5 0)),
        )
    go false s e = let z : ◌≡◌ {A = ℕ} 0 1 = cc in absurd (omega arith)

-- two items of the same words are the same
pub words_injective : (x y : Item) → Fits x → Fits y → item_words x ≡ item_words y → x ≡ y
words_injective x y f g e = some_inj x y (sym (decode_words x f) ∙ ap decode e ∙ decode_words y g)
  where
    some_inj : (x y : Item) → Some x ≡ Some y → x ≡ y
    some_inj x y e = cc

-- ---- places

place_room : (n place : ℕ) → place < n / 6 → place * 6 + 6 ≤ n
place_room n place h = omega arith

-- an item stands at a place exactly if there is such a place, and its words are there
pub at_words : (area : List ℕ) (place : ℕ) (x : Item) → item_at area place ≡ Some x
    → (place < places area) × (words_from 6 area (place * 6) ≡ item_words x) × Fits x
unfolding item_at
at_words area place x e = go (ltb place (places area)) refl e
  where
    go : (t : Bool) → ltb place (places area) ≡ t → (if t then decode (words_from 6 area (place * 6)) else None) ≡ Some x
        → (place < places area) × (words_from 6 area (place * 6) ≡ item_words x) × Fits x
    go true l e = let s = decode_sound (words_from 6 area (place * 6)) x e in (ltb-true place (places area) l, sym s.0, s.1)
    go false l e = let z : ◌≡◌ {A = ℕ} 0 1 = cc in absurd (omega arith)

pub words_at : (area : List ℕ) (place : ℕ) (x : Item) → place < places area → words_from 6 area (place * 6) ≡ item_words x → Fits x
    → item_at area place ≡ Some x
unfolding item_at
words_at area place x h e f = rw (lt-ltb place (places area) h) (ap decode e ∙ decode_words x f)

-- the area cut into places
pub chunk_at : (k : ℕ) (area : List ℕ) (i : ℕ) → i < k → get_or (first_chunks 6 k area) i [] ≡ take 6 (drop (i * 6) area)
chunk_at zero area i h = absurd (omega arith)
chunk_at (suc k) area zero h =
    let e : 0 ≡ 0 * 6 = omega arith in
    ap (λ (n : ℕ). take 6 (drop n area)) e
chunk_at (suc k) area (suc i) h =
    let e : 6 + i * 6 ≡ suc i * 6 = omega arith in
    chunk_at k (drop 6 area) i (omega arith) ∙ ap (take 6) (drop-drop (i * 6) 6 area ∙ ap (λ (n : ℕ). drop n area) e)

-- what the words of a place are decoded to
pub place_item : (area : List ℕ) (place : ℕ) (chunks : List (List ℕ)) (ws : List ℕ) (x : Option Item) → chunks ≡ first_chunks 6 (length area / 6) area → length chunks ≡ length area / 6
    → place < length chunks → ws ≡ get_or chunks place [] → x ≡ decode ws → x ≡ item_at area place
unfolding item_at
place_item area place chunks ws x e n h w d =
    let k : place < length area / 6 = omega (arith, n) in
    let q : ws ≡ words_from 6 area (place * 6) = w ∙ ap (λ (l : List (List ℕ)). get_or l place []) e ∙ chunk_at (length area / 6) area place k ∙ run_part 6 area (place * 6) (place_room (length area) place k) in
    rw (lt-ltb place (length area / 6) k) (d ∙ ap decode q)

-- ---- after put_item

put_yes : (area : List ℕ) (place : ℕ) (x : Item) → place < places area
    → put_item area place x ≡ record { taken = true; area = writes area (place * 6) (item_words x) }
unfolding put_item
put_yes area place x h = rw (lt-ltb place (places area) h)

pub put_true : (area : List ℕ) (place : ℕ) (x : Item) → place < places area → (put_item area place x).taken ≡ true
put_true area place x h = rw (put_yes area place x h)

pub put_false : (area : List ℕ) (place : ℕ) (x : Item) → places area ≤ place → (put_item area place x).taken ≡ false
put_false area place x h = rw (put_none area place x h)

pub put_area : (area : List ℕ) (place : ℕ) (x : Item) → place < places area → (put_item area place x).area ≡ writes area (place * 6) (item_words x)
put_area area place x h = rw (put_yes area place x h)

pub put_same : (area : List ℕ) (place : ℕ) (x : Item) → places area ≤ place → (put_item area place x).area ≡ area
put_same area place x h = rw (put_none area place x h)

-- what put_item answers
pub answer_err : (area : List ℕ) (place : ℕ) (x : Item) (e : Refusal) → Err e ≡ put_answer (put_item area place x)
    → (e ≡ AreaTooSmall) × (places area ≤ place) × ((put_item area place x).area ≡ area)
answer_err area place x e h = elim (dec_lt place (places area)) [
  | yes k ↦ let z : ◌≡◌ {A = Result (Unit {0}) Refusal} (Err e) (Ok tt) = rw (put_true area place x k) at h in cc
  | no k ↦
      let l : places area ≤ place = omega arith in
      let z : ◌≡◌ {A = Result (Unit {0}) Refusal} (Err e) (Err AreaTooSmall) = rw (put_false area place x l) at h in
      (cc, l, put_same area place x l)
]

pub answer_ok : (area : List ℕ) (place : ℕ) (x : Item) (u : Unit {0}) → Ok u ≡ put_answer (put_item area place x) → place < places area
answer_ok area place x u h = elim (dec_lt place (places area)) [
  | yes k ↦ k
  | no k ↦ let z : ◌≡◌ {A = Result (Unit {0}) Refusal} (Ok u) (Err AreaTooSmall) = rw (put_false area place x (omega arith)) at h in cc
]

pub put_length : (area : List ℕ) (place : ℕ) (x : Item) → length (put_item area place x).area ≡ length area
put_length area place x = elim (dec_lt place (places area)) [
  | yes h ↦ rw (put_area area place x h) (length_writes area (place * 6) (item_words x))
  | no h ↦ rw (put_same area place x (omega arith))
]

-- the item is read back
pub get_put : (area : List ℕ) (place : ℕ) (x : Item) → place < places area → Fits x → item_at (put_item area place x).area place ≡ Some x
get_put area place x h f =
    let l : place * 6 + length (item_words x) ≤ length area = rw (length_item x) (place_room (length area) place h) in
    let r : words_from 6 (writes area (place * 6) (item_words x)) (place * 6) ≡ item_words x = rw (length_item x) at (run_writes area (place * 6) (item_words x) l) in
    let k : place < places (writes area (place * 6) (item_words x)) = rw (length_writes area (place * 6) (item_words x)) h in
    rw (put_area area place x h) (words_at (writes area (place * 6) (item_words x)) place x k r f)

-- the words of other places are untouched
pub put_word : (area : List ℕ) (place : ℕ) (x : Item) (j : ℕ) → (j < place * 6) ⊎ (place * 6 + 6 ≤ j)
    → get_or (put_item area place x).area j 0 ≡ get_or area j 0
put_word area place x j o = elim (dec_lt place (places area)) [
  | yes h ↦ rw (put_area area place x h) (writes_other area (place * 6) (item_words x) j (rw (length_item x) o))
  | no h ↦ rw (put_same area place x (omega arith))
]

pub put_other : (area : List ℕ) (place : ℕ) (x : Item) (q : ℕ) → q ≢ place → item_at (put_item area place x).area q ≡ item_at area q
unfolding item_at
put_other area place x q n =
    let r : words_from 6 (put_item area place x).area (q * 6) ≡ words_from 6 area (q * 6) = run_agrees 6 (put_item area place x).area area (q * 6) (λ j a b. put_word area place x j (apart j a b)) in
    rw (put_length area place x, r)
  where
    apart : (j : ℕ) → q * 6 ≤ j → j < q * 6 + 6 → (j < place * 6) ⊎ (place * 6 + 6 ≤ j)
    apart j a b = elim (dec_lt q place) [ yes h ↦ inl (omega arith) | no h ↦ inr (omega arith) ]

-- ---- a list of items

run_past : (n : ℕ) (xs ys : List ℕ) (q : ℕ) → words_from n (xs ++ ys) (length xs + q) ≡ words_from n ys q
run_past zero xs ys q = refl
run_past (suc n) xs ys q =
    let e : length xs + q + 1 ≡ length xs + (q + 1) = omega arith in
    rw (get_or-append-add xs ys q 0, e, run_past n xs ys (q + 1))

-- the words of each
encode_run : (xs : List Item) (i : ℕ) (d : Item) → i < length xs → words_from 6 (encode xs) (i * 6) ≡ item_words (get_or xs i d)
unfolding encode
encode_run [] i d h = absurd (not-suc-le-zero h)
encode_run (x ∷ xs) zero d h =
    let l : 6 ≤ length (item_words x ++ encode xs) = omega (arith, length-append (item_words x) (encode xs), length_item x) in
    sym (run_part 6 (item_words x ++ encode xs) 0 l) ∙ take_at (item_words x) (encode xs) 6 (length_item x)
encode_run (x ∷ xs) (suc i) d h =
    let e : suc i * 6 ≡ length (item_words x) + i * 6 = omega (arith, length_item x) in
    rw e (run_past 6 (item_words x) (encode xs) (i * 6) ∙ encode_run xs i d (omega arith))

-- each is read back
pub get_encoded : (area : List ℕ) (xs : List Item) (i : ℕ) (d : Item) → length xs ≤ places area → i < length xs → Fits (get_or xs i d)
    → item_at (writes area 0 (encode xs)) i ≡ Some (get_or xs i d)
get_encoded area xs i d l h f =
    let ws : List ℕ = encode xs in
    let m : length ws ≡ length xs * 6 = length_encode xs in
    let k : i < places (writes area 0 ws) = rw (length_writes area 0 ws) (omega arith) in
    let r : words_from 6 (writes area 0 ws) (i * 6) ≡ words_from 6 ws (i * 6) = run_agrees 6 (writes area 0 ws) ws (i * 6) (λ j a b. rw (zero-add j) at (writes_same area 0 ws j (omega arith) (omega arith))) in
    words_at (writes area 0 ws) i (get_or xs i d) k (r ∙ encode_run xs i d h) f

-- one more item after those that stand from a place on
pub put_after : (area : List ℕ) (place : ℕ) (xs : List Item) (x : Item) → place + length xs < places area
    → (put_item (writes area (place * 6) (encode xs)) (place + length xs) x).area ≡ writes area (place * 6) (encode (xs ++ (x ∷ [])))
put_after area place xs x h =
    let ws : List ℕ = encode xs in
    let k : place + length xs < places (writes area (place * 6) ws) = rw (length_writes area (place * 6) ws) h in
    let e : (place + length xs) * 6 ≡ place * 6 + length ws = omega (arith, length_encode xs) in
    put_area (writes area (place * 6) ws) (place + length xs) x k ∙ rw (e, encode_snoc xs x) (writes_append area (place * 6) ws (item_words x))
