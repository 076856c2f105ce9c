-- Text after text: digits, bytes, fields.
use mathlib.Core.Path.{◌≡◌, refl, sym, ap, ◌∙◌}
use mathlib.Core.List.{[], ◌∷◌, ◌++◌, append_assoc}
use Prim.Native.Nat.{ℕ, ◌+◌, ◌*◌, ◌/◌, ◌%◌, ◌^◌, ◌≤◌, ◌<◌}
use native.Mathlib.Omega.{arith}
use lib.ListN.{length, length-append}
use Rattle.words.specs.Text.{Bytes}
use borrow.Rule.Slice.PartMut.{put_mid}
use Rattle.words.specs.Writes.{writes, writes_append}
use Rattle.words.proofs.Laws.{mid_writes}
use Rattle.decimal.specs.Digits.{decimal}
use Rattle.decimal.specs.Placed.{placed}
use Rattle.decimal.proofs.Laws.{one_digit, more_digits, short_64, short_128, has_room}
use Rattle.inty.specs.Value.{value_of}
use Rattle.inty.specs.declared.Inty.{Inty}
use Rattle.inty.proofs.Laws.{below_top}
use Rattle.text.specs.Wrote.{Wrote}
use Rattle.text.specs.Puts.{Puts}
use Rattle.text.specs.declared.TextMut.{TextMut}
use Rattle.std.specs.Prelude.{Option, Some, IsSome}

-- ---- text after text

pub then : {t t₁ t₂ : TextMut} {x y : Bytes} {m k : ℕ} → Puts t x m t₁ → Puts t₁ y k t₂ → Puts t (x ++ y) (m + k) t₂
then {t} {t₁} {t₂} {x} {y} {m} {k} f g =
    let long : length (x ++ y) ≡ length x + length y = length-append x y in
    let a = f.wrote in
    let b = g.wrote in
    record {
      held = g.held ∙ f.held;
      size = g.size ∙ f.size;
      wrote = record {
        end = omega arith;
        bytes = b.bytes ∙ rw (a.bytes, a.end) (writes_append t.out.now t.at x y);
        short = omega arith;
      };
    }

pub at_most : {t t' : TextMut} {x : Bytes} {m k : ℕ} → Puts t x m t' → m ≤ k → Puts t x k t'
at_most p h =
    let w = p.wrote in
    record { held = p.held; size = p.size; wrote = record { end = w.end; bytes = w.bytes; short = omega arith } }

pub same_text : {t t' : TextMut} {x y : Bytes} {m : ℕ} → Puts t x m t' → x ≡ y → Puts t y m t'
same_text {t} {t'} {x} {y} {m} p e = rw e at p

-- ---- digits

module _ (n : ℕ) where
  few : n < 10 → decimal n ≡ (48 + n) ∷ []
  few h =
      let z : n / 10 ≡ 0 = omega arith in
      let e : n % 10 ≡ n = omega arith in
      one_digit n z ∙ ap (λ (d : ℕ). (48 + d) ∷ []) e

  pair : 10 ≤ n → n < 100 → decimal n ≡ (48 + n / 10 % 10) ∷ (48 + n % 10) ∷ []
  pair h k =
      let z : n / 10 / 10 ≡ 0 = omega arith in
      more_digits n (λ (e : n / 10 ≡ 0). omega arith) ∙ rw (one_digit (n / 10) z)

  more : 100 ≤ n → decimal n ≡ decimal (n / 100) ++ ((48 + n % 100 / 10) ∷ (48 + n % 100 % 10) ∷ [])
  more h =
      let e : n / 10 / 10 ≡ n / 100 = omega arith in
      let t : n / 10 % 10 ≡ n % 100 / 10 = omega arith in
      let o : n % 10 ≡ n % 100 % 10 = omega arith in
      more_digits n (λ (y : n / 10 ≡ 0). omega arith) ∙ rw (more_digits (n / 10) (λ (y : n / 10 / 10 ≡ 0). omega arith), e, t, o)
      (append_assoc (decimal (n / 100)) ((48 + n % 100 / 10) ∷ []) ((48 + n % 100 % 10) ∷ []))

more_long : (n : ℕ) → 100 ≤ n → length (decimal n) ≡ length (decimal (n / 100)) + 2
more_long n h = ap length (more n h) ∙ length-append (decimal (n / 100)) ((48 + n % 100 / 10) ∷ (48 + n % 100 % 10) ∷ [])

module _ (n : ℕ) {t t' : TextMut} where
  pub few_put : n < 10 → Puts t ((48 + n) ∷ []) 1 t' → Puts t (decimal n) 20 t'
  few_put h p = rw (few n h) (at_most p (omega arith))

  pub pair_put : 10 ≤ n → n < 100 → Puts t ((48 + n / 10) ∷ (48 + n % 10) ∷ []) 2 t' → Puts t (decimal n) 20 t'
  pair_put h k p = rw (pair n h k, small) (at_most p (omega arith))
    where
      small : n / 10 % 10 ≡ n / 10
      small = omega arith

module _ (n : ℕ) {t t₁ : TextMut} (h : 100 ≤ n) (f : n < 2 ^ 64) (p : Puts t (decimal (n / 100)) 20 t₁) where
  pub tail_room : t.at + 20 ≤ length t.out.now → t₁.at + 2 ≤ length t₁.out.now
  tail_room r =
      let w = p.wrote in
      let s = p.size in
      omega (arith, more_long n h, short_64 n f)

  pub more_put : {t' : TextMut} → Puts t₁ ((48 + n % 100 / 10) ∷ (48 + n % 100 % 10) ∷ []) 2 t' → Puts t (decimal n) 20 t'
  more_put u =
      let all = same_text (then p u) (sym (more n h)) in
      let w = all.wrote in
      record { held = all.held; size = all.size; wrote = record { end = w.end; bytes = w.bytes; short = short_64 n f } }

-- ---- bytes

pub copied : (s : Bytes) (at k : ℕ) (src ys : Bytes) → at + length src ≤ length s → k ≡ length src → ys ≡ src
    → Wrote s at src (length src) (at + length src) (put_mid at k s ys)
copied s at k src ys h e f = record { end = refl; bytes = mid_writes s at k ys src h e f; short = omega arith }

-- ---- a number of 128 bits

pub brief : (h l : ℕ) → h < 2 ^ 64 → l < 2 ^ 64 → length (decimal (h * 2 ^ 64 + l)) ≤ 39
brief h l f g = short_128 (h * 2 ^ 64 + l) (below_top h l f g)

pub brief_low : (l : ℕ) → l < 2 ^ 64 → length (decimal l) ≤ 39
brief_low l g = omega (arith, short_64 l g)

pub field_room : {t t' : TextMut} → Puts t (44 ∷ []) 1 t' → t.at + 40 ≤ length t.out.now → (n : ℕ) → length (decimal n) ≤ 39 → t'.at + length (decimal n) ≤ length t'.out.now
field_room p r n b = let w = p.wrote in let s = p.size in omega arith

module _ (s l : Bytes) (at : ℕ) (x : Inty) (w : Option ℕ) (h : x.hi < 2 ^ 64) (k : x.lo < 2 ^ 64) (room : at + length (decimal (value_of x)) ≤ length s)
    (p : record { answer = w; bytes = l } ≡ placed s at (decimal (value_of x))) where
  wide : (w ≡ Some (at + length (decimal (value_of x)))) × (l ≡ writes s at (decimal (value_of x)))
  wide = has_room s at (decimal (value_of x)) w l room p

  pub wide_some : IsSome w
  wide_some = rw wide.0 refl

  pub wide_put : (n : ℕ) → w ≡ Some n → Wrote s at (decimal (value_of x)) 39 n l
  wide_put n e = record { end = let f = wide.0 in cc; bytes = wide.1; short = brief x.hi x.lo h k }
