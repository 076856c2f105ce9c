-- An item's line from its words, the lines of a list, and the answers.
use mathlib.Core.Path.{◌≡◌, refl, sym, ap, ◌∙◌}
use mathlib.Core.Bool.{true, false}
use mathlib.Core.List.{List, [], ◌∷◌, ◌++◌, append_assoc, append-nil}
use Rattle.std.specs.Prelude.{None, Some, Ok, Err}
use Prim.Native.Nat.{ℕ, suc, ◌+◌, ◌*◌, ◌/◌, ◌≤◌, ◌<◌}
use native.Mathlib.Omega.{arith}
use lib.ListN.{length, get_or, take, drop}
use lib.Seq.{take-suc, take_all, take-add, take_at, drop_at, get_or-take, length-take-le}
use Rattle.std.specs.Simd.{first_chunks}
use lib.Pow.{split}
use Rattle.words.specs.Text.{Bytes, bytes}
use Rattle.words.specs.Tab.{run_part}
use Rattle.words.specs.Writes.{writes, length_writes, run_writes}
use Rattle.decimal.specs.Digits.{decimal, decimal_in}
use Rattle.items.proofs.Laws.{chunk_at}
use Rattle.items.specs.Item.{Item, Value, Absent, Store, Pass, Hold, Retry, Resend, Commit, Lead, Prelog, Prepare, Span, Rest, item_words, encode, length_encode, encode_snoc}
use Rattle.line_answer.specs.Text.{line, item_text, items_text, refused_text, taken_text}
use Rattle.line_answer.specs.Six.{six_text}
use Rattle.ids.specs.declared.Refusal.{Refusal}
use Rattle.ids.specs.Refusal.{number_of}
use Rattle.text.specs.Wrote.{Wrote}
use Rattle.text.specs.Puts.{Puts}
use Rattle.text.specs.declared.TextMut.{TextMut}
use Rattle.line_answer.specs.Wrote.{Holds, Listed, Numbered, Answered}
use Rattle.text.proofs.Laws.{then, at_most, same_text}

-- ---- an item

-- the line of six words
abbrev pub six_in : List ℕ → Bytes
six_in ws = six_text (get_or ws 0 0) (get_or ws 1 0) (get_or ws 2 0) (get_or ws 3 0) (get_or ws 4 0) (get_or ws 5 0)

pub six_item : (x : Item) → six_in (item_words x) ≡ item_text x
unfolding six_text item_text decimal decimal_in
six_item (Value c r v) = refl
six_item (Absent c r) = refl
six_item (Store c r) = refl
six_item (Pass c r) = refl
six_item (Hold c r s) = refl
six_item (Retry c r None) = refl
six_item (Retry c r (Some l)) = refl
six_item (Resend s p) = refl
six_item (Commit s) = refl
six_item (Lead true) = refl
six_item (Lead false) = refl
six_item (Prelog s) = refl
six_item (Prepare s b) = refl
six_item (Span f t m) = rw (split f 64, split t 64)
six_item (Rest m) = refl

-- ---- a list

items_snoc : (l : List Item) (x : Item) → items_text (l ++ (x ∷ [])) ≡ items_text l ++ item_text x
unfolding items_text
items_snoc [] x = append-nil (item_text x)
items_snoc (y ∷ l) x = rw (items_snoc l x) (sym (append_assoc (item_text y) (items_text l) (item_text x)))

pub listed_none : (t : TextMut) (area : List ℕ) → Listed t area 0 t
unfolding items_text
listed_none t area = record { held = refl; size = refl; within = omega arith; items = go }
  where
    go : (l : List Item) → Holds area 0 l → Puts t (items_text l) 0 t
    go [] h = record { held = refl; size = refl; wrote = record { end = omega arith; bytes = refl; short = omega arith } }
    go (x ∷ l) h = absurd (omega (arith, h.0))

-- six words out of an area
pub place_words : (area : List ℕ) (chunks : List (List ℕ)) (count i : ℕ) → chunks ≡ first_chunks 6 (length area / 6) area → count * 6 ≤ length area → i < count
    → get_or (take count chunks) i [] ≡ take 6 (drop (i * 6) area)
place_words area chunks count i e r h =
    get_or-take count chunks i [] h ∙ ap (λ (l : List (List ℕ)). get_or l i []) e ∙ chunk_at (length area / 6) area i (omega arith)

-- the last of the items that an area holds
module _ (area : List ℕ) (i : ℕ) (room : i * 6 + 6 ≤ length area) (l : List Item) (h : Holds area (i + 1) l) where
  abbrev front : List Item
  front = take i l

  abbrev last : Item
  last = get_or l i (Rest 0)

  whole : l ≡ front ++ (last ∷ [])
  whole =
      let k : i < length l = omega (arith, h.0) in
      sym (take_all (suc i) l (omega (arith, h.0))) ∙ take-suc l i (Rest 0) k

  words : take (i * 6) area ++ take 6 (drop (i * 6) area) ≡ encode front ++ item_words last
  words =
      let e : (i + 1) * 6 ≡ i * 6 + 6 = omega arith in
      sym (take-add (i * 6) 6 area) ∙ (rw e at h.1) ∙ ap encode whole ∙ encode_snoc front last

  long : length (take (i * 6) area) ≡ i * 6
  long = length-take-le (i * 6) area (omega arith)

  front_long : length front ≡ i
  front_long = length-take-le i l (omega (arith, h.0))

  code_long : length (encode front) ≡ i * 6
  code_long = length_encode front ∙ ap (λ (n : ℕ). n * 6) front_long

  pub held_front : Holds area i front
  held_front = (sym front_long, sym (take_at (take (i * 6) area) (take 6 (drop (i * 6) area)) (i * 6) long) ∙ ap (take (i * 6)) words ∙ take_at (encode front) (item_words last) (i * 6) code_long)

  pub held_last : take 6 (drop (i * 6) area) ≡ item_words last
  held_last =
      sym (drop_at (take (i * 6) area) (take 6 (drop (i * 6) area)) (i * 6) long) ∙ ap (drop (i * 6)) words
      ∙ drop_at (encode front) (item_words last) (i * 6) code_long

pub listed_more : {t u v : TextMut} {i : ℕ} (area ws : List ℕ) → i * 6 + 6 ≤ length area → ws ≡ take 6 (drop (i * 6) area) → Listed t area i u → Puts u (six_in ws) 106 v
    → Listed t area (i + 1) v
listed_more {t} {u} {v} {i} area ws room e f p = record { held = p.held ∙ f.held; size = p.size ∙ f.size; within = let w = p.wrote in let b = f.within in omega arith; items = go }
  where
    go : (l : List Item) → Holds area (i + 1) l → Puts t (items_text l) ((i + 1) * 106) v
    go l h =
        let x = last area i room l h in
        let one : six_in ws ≡ item_text x = ap six_in (e ∙ held_last area i room l h) ∙ six_item x in
        let w = then (f.items (front area i room l h) (held_front area i room l h)) (same_text p one) in
        let s : items_text (front area i room l h) ++ item_text x ≡ items_text l =
        sym (items_snoc (front area i room l h) x) ∙ ap items_text (sym (whole area i room l h)) in
        at_most (same_text w s) (omega arith)

-- ---- an answer

-- `out` is what the lent bytes are in the end
module _ {t u : TextMut} {n number count : ℕ} {out : Bytes} (area : List ℕ) (start : t.at ≡ 0) (room : 65536 ≤ length t.out.now) where
  pub answer_refused : (number ≡ 0 → ⊥) → Puts t (line (decimal n ∷ bytes "refused" ∷ decimal number ∷ [])) 64 u → out ≡ u.out.now → Numbered t.out.now n number count area u.at out
  unfolding refused_text
  answer_refused z p e =
      let w = rw (start, ← e) at p.wrote in
      record { within = omega arith; refused = λ _. w; taken = λ l y _. absurd (z y) }

  pub answer_taken : {v : TextMut} → number ≡ 0 → count ≤ 546 → Puts t (line (decimal n ∷ bytes "taken" ∷ decimal count ∷ [])) 64 u → Listed u area count v → out ≡ v.out.now
      → Numbered t.out.now n number count area v.at out
  unfolding taken_text
  answer_taken z m p f e =
      let w = p.wrote in
      let b = f.within in
      record {
        within = omega arith;
        refused = λ y. absurd (y z);
        taken = λ l _ k. rw (start, ← e) at ((then (rw k.0 at p) (f.items l k)).wrote);
      }

-- what a line did, by its number
module _ {out : Bytes} {n number count : ℕ} {area : List ℕ} {r : ℕ} {out' : Bytes} (a : Numbered out n number count area r out') where
  pub answered_taken : number ≡ 0 → Answered out n (Ok count) area r out'
  answered_taken z = record { within = a.within; text = λ l k. a.taken l z k }

  not_none : (x : Refusal) → number_of x ≡ 0 → ⊥
  not_none x e = grind arith

  pub answered_refused : (x : Refusal) → number ≡ number_of x → Answered out n (Err x) area r out'
  answered_refused x e = record { within = a.within; text = rw e at (a.refused (λ z. not_none x (sym e ∙ z))) }

-- ---- for callers

take_writes : (s vs : List ℕ) → length vs ≤ length s → take (length vs) (writes s 0 vs) ≡ vs
take_writes s vs h = run_part (length vs) (writes s 0 vs) 0 (rw (length_writes s 0 vs) (omega arith)) ∙ run_writes s 0 vs (omega arith)

-- what a call leaves in an area
pub holds : (area₀ area : List ℕ) (l : List Item) (count : ℕ) → count ≡ length l → count * 6 ≤ length area → area ≡ writes area₀ 0 (encode l) → Holds area count l
holds area₀ area l count e room f =
    let n : length (encode l) ≡ count * 6 = length_encode l ∙ ap (λ (k : ℕ). k * 6) (sym e) in
    let m : length area ≡ length area₀ = rw f (length_writes area₀ 0 (encode l)) in
    (e, rw (← n, f) (take_writes area₀ (encode l) (omega arith)))

module _ {s s' x : Bytes} {m r : ℕ} (w : Wrote s 0 x m r s') where
  pub at_start_lem : r ≡ length x
  at_start_lem = omega arith

  -- the bytes up to where the text ends
  pub shown : r ≤ length s → take r s' ≡ x
  shown h = rw (at_start_lem, w.bytes) (take_writes s x (omega (arith, at_start_lem)))
