-- The laws of sets of replicas: what marking does to membership, count and bound; what a superset and a mask below the
-- population are; and what ties the code's operations to the definitions.
use Rattle.std.specs.Prelude.{if◌then◌else◌}
use mathlib.Core.Path.{◌≡◌, refl, sym, ap, ◌∙◌}
use mathlib.Core.Logic.{◌≢◌}
use mathlib.Core.Bool.{Bool, true, false, ◌&&◌, ◌||◌, not, true≢false, or-true, or-false, and-true, and-false}
use Prim.Native.Nat.{ℕ, zero, suc, ◌+◌, ◌-◌, ◌*◌, ◌/◌, ◌%◌, ◌^◌, ◌≤◌, ◌<◌, min, max}
use native.Mathlib.Nat.{mod-lt, mod-one, mod-eq_of_lt, div-eq_of_lt, div-lt_iff_lt-mul, mul-mod_left, one-mul, zero-mul, pow-suc, lt_of_lt_of_le, lt_of_le_of_lt, not-suc-le-zero, zero-lt-suc, suc-mul, mul_comm, zero-add}
use native.Mathlib.Numerals.{one-add}
use native.Mathlib.Decide.{dec_lt, ℕ_discrete}
use native.Mathlib.Omega.{arith}
use borrow.Author.Tests.{le-leb, lt-ltb, le-ltb, eq-eqb, ne_eqb, ltb-true, eqb-true}
use lib.Dec.{eqb, leb, ltb}
use lib.Arith.{digits_div, digits_mod}
use lib.Pow.{pow_pos, pow_mono, pow-lt, pow-add, shl-shr, split, mod-pow-add}
use Rattle.std.specs.Int.{bit_not}
use Rattle.std.proofs.lemmas.Nat.Bits.{bit_at_clear_same, bit_at_clear_other}
use mir.Syntax.{w64}
use lib.Bits.{and_le_l, bit_and, bit_or, and_step, or_step, and_shr, or_shr, or_add_and, and_high, and_lt, or_lt}
use lib.Count.{ones, ones_cat}
use Rattle.bitmap.specs.Bitmap.{tally, every, get, mark, unmark, set_to, count, is_superset, fits}

-- ---- bits

bit : (m r : ℕ) → m / 2 ^ r % 2 < 2
bit m r = mod-lt (m / 2 ^ r) (zero-lt-suc 1)

-- what holds of 0 and of 1 holds of a bit
of_bits : (P : ℕ → ℕ → Type 0) → P 0 0 → P 0 1 → P 1 0 → P 1 1 → (x y : ℕ) → x < 2 → y < 2 → P x y
of_bits P a b c d zero zero h k = a
of_bits P a b c d zero (suc zero) h k = b
of_bits P a b c d (suc zero) zero h k = c
of_bits P a b c d (suc zero) (suc zero) h k = d
of_bits P a b c d zero (suc (suc y)) h k = absurd (omega arith)
of_bits P a b c d (suc zero) (suc (suc y)) h k = absurd (omega arith)
of_bits P a b c d (suc (suc x)) y h k = absurd (omega arith)

same_digit : (x y : ℕ) → x < 2 → y < 2 → eqb x 1 ≡ eqb y 1 → x ≡ y
same_digit = of_bits (λ x y. eqb x 1 ≡ eqb y 1 → x ≡ y) (λ e. refl) (λ e. absurd (true≢false (sym e))) (λ e. absurd (true≢false e)) (λ e. refl)

-- an operation on digits works on members
module _ (op f : ℕ → ℕ → ℕ) (t : Bool → Bool → Bool)
    (step : (a b : ℕ) → op a b ≡ op (a / 2) (b / 2) * 2 + f (a % 2) (b % 2))
    (shr : (a b k : ℕ) → op a b / 2 ^ k ≡ op (a / 2 ^ k) (b / 2 ^ k))
    (digit : (x y : ℕ) → x < 2 → y < 2 → (f x y < 2) × (eqb (f x y) 1 ≡ t (eqb x 1) (eqb y 1))) where
  get_op : (a b r : ℕ) → get (op a b) r ≡ t (get a r) (get b r)
  unfolding get
  get_op a b r =
      let x : ℕ = a / 2 ^ r in
      let y : ℕ = b / 2 ^ r in
      let d = digit (x % 2) (y % 2) (bit a r) (bit b r) in
      ap (λ (z : ℕ). eqb (z % 2) 1) (shr a b r ∙ step x y) ∙ ap (λ (z : ℕ). eqb z 1) (digits_mod (op (x / 2) (y / 2)) d.0) ∙ d.1

zero_bit : 0 < 2
zero_bit = zero-lt-suc 1

one_bit : 1 < 2
one_bit = omega arith

or_digit : (x y : ℕ) → x < 2 → y < 2 → (max x y < 2) × (eqb (max x y) 1 ≡ (eqb x 1 || eqb y 1))
or_digit = of_bits (λ x y. (max x y < 2) × (eqb (max x y) 1 ≡ (eqb x 1 || eqb y 1))) (zero_bit, refl) (one_bit, refl) (one_bit, refl) (one_bit, refl)

and_digit : (x y : ℕ) → x < 2 → y < 2 → (min x y < 2) × (eqb (min x y) 1 ≡ (eqb x 1 && eqb y 1))
and_digit = of_bits (λ x y. (min x y < 2) × (eqb (min x y) 1 ≡ (eqb x 1 && eqb y 1))) (zero_bit, refl) (zero_bit, refl) (zero_bit, refl) (one_bit, refl)

pub get_or : (a b r : ℕ) → get (bit_or a b) r ≡ (get a r || get b r)
get_or = get_op bit_or max (λ x y. x || y) or_step or_shr or_digit

pub get_and : (a b r : ℕ) → get (bit_and a b) r ≡ (get a r && get b r)
get_and = get_op bit_and min (λ x y. x && y) and_step and_shr and_digit

-- a number has no member at or above its length
pub get_above : (m r : ℕ) → m < 2 ^ r → get m r ≡ false
unfolding get
get_above m r h = ap (λ (z : ℕ). eqb (z % 2) 1) (div-eq_of_lt h)

-- the only member of 2 ^ r is r
get_pow : (r : ℕ) → get (2 ^ r) r ≡ true
unfolding get
get_pow r = ap (λ (z : ℕ). eqb (z % 2) 1) (ap (λ (z : ℕ). z / 2 ^ r) (sym (one-mul (2 ^ r))) ∙ shl-shr 1 r)

get_pow_other : (r s : ℕ) → s ≢ r → get (2 ^ r) s ≡ false
unfolding get
get_pow_other r s n = elim (dec_lt s r) [ yes h ↦ low h | no h ↦ get_above (2 ^ r) s (pow-lt (omega arith)) ]
  where
    low : s < r → eqb (2 ^ r / 2 ^ s % 2) 1 ≡ false
    low h =
        let d : ℕ = r - suc s in
        let e : r ≡ suc d + s = omega arith in
        let p : 2 ^ r ≡ 2 ^ suc d * 2 ^ s = ap (λ (z : ℕ). 2 ^ z) e ∙ pow-add 2 (suc d) s in
        let q : 2 ^ r / 2 ^ s ≡ 2 ^ d * 2 = ap (λ (z : ℕ). z / 2 ^ s) p ∙ shl-shr (2 ^ suc d) s ∙ pow-suc 2 d in
        ap (λ (z : ℕ). eqb (z % 2) 1) q ∙ ap (λ (z : ℕ). eqb z 1) (mul-mod_left (2 ^ d) 2)

-- the digit of a member, and of none
digit_of : (m r : ℕ) → get m r ≡ true → m / 2 ^ r % 2 ≡ 1
unfolding get
digit_of m r e = eqb-true (m / 2 ^ r % 2) 1 e

no_digit : (m r : ℕ) → get m r ≡ false → m / 2 ^ r % 2 ≡ 0
unfolding get
no_digit m r e = same_digit (m / 2 ^ r % 2) 0 (bit m r) (zero-lt-suc 1) e

get_even : (m r : ℕ) → m / 2 ^ r % 2 ≡ 0 → get m r ≡ false
unfolding get
get_even m r e = ap (λ (z : ℕ). eqb z 1) e

and_bit : (m r : ℕ) → bit_and m (2 ^ r) ≡ m / 2 ^ r % 2 * 2 ^ r
and_bit m r =
    let p : 2 ^ (1 + r) ≡ 2 ^ r + 2 ^ r = pow-add 2 1 r ∙ omega arith in
    let e : 2 ^ (1 + r) - 2 ^ r ≡ 2 ^ r = omega arith in
    ap (bit_and m) (sym e) ∙ and_high m 1 r

-- ---- marking, as the code does it

mark_or : (m r : ℕ) → r < 64 → mark m r ≡ bit_or m (2 ^ r)
unfolding mark
mark_or m r h = rw (lt-ltb r 64 h) (go (get m r) refl)
  where
    go : (t : Bool) → get m r ≡ t → (if not (get m r) then m + 2 ^ r else m) ≡ bit_or m (2 ^ r)
    go true e = rw e (omega (arith, or_add_and m (2 ^ r), and_bit m r, ap (λ (z : ℕ). z * 2 ^ r) (digit_of m r e), one-mul (2 ^ r)))
    go false e = rw e (omega (arith, or_add_and m (2 ^ r), and_bit m r, ap (λ (z : ℕ). z * 2 ^ r) (no_digit m r e), zero-mul (2 ^ r)))

unmark_and : (m r : ℕ) → r < 64 → unmark m r ≡ m - bit_and m (2 ^ r)
unfolding unmark
unmark_and m r h = rw (lt-ltb r 64 h) (go (get m r) refl)
  where
    go : (t : Bool) → get m r ≡ t → (if get m r then m - 2 ^ r else m) ≡ m - bit_and m (2 ^ r)
    go true e = rw e (omega (arith, and_bit m r, ap (λ (z : ℕ). z * 2 ^ r) (digit_of m r e), one-mul (2 ^ r)))
    go false e = rw e (omega (arith, and_bit m r, ap (λ (z : ℕ). z * 2 ^ r) (no_digit m r e), zero-mul (2 ^ r)))

shifted : (r : ℕ) → r < 64 → (1 * 2 ^ r) % 2 ^ 64 ≡ 2 ^ r
shifted r h = rw (one-mul (2 ^ r)) (mod-eq_of_lt (pow-lt h))

pub mark_out : (m r : ℕ) → 64 ≤ r → mark m r ≡ m
unfolding mark
mark_out m r h = rw (le-ltb r 64 h)

pub unmark_out : (m r : ℕ) → 64 ≤ r → unmark m r ≡ m
unfolding unmark
unmark_out m r h = rw (le-ltb r 64 h)

-- a member is not marked again, and what is no member not unmarked
pub mark_old : (m r : ℕ) → get m r ≡ true → mark m r ≡ m
unfolding mark
mark_old m r e = rw (e, and-false (ltb r 64))

pub unmark_none : (m r : ℕ) → get m r ≡ false → unmark m r ≡ m
unfolding unmark
unmark_none m r e = rw (e, and-false (ltb r 64))

pub mark_new : (m r : ℕ) → r < 64 → get m r ≡ false → mark m r ≡ m + 2 ^ r
unfolding mark
mark_new m r h e = rw (lt-ltb r 64 h, e)

pub unmark_member : (m r : ℕ) → r < 64 → get m r ≡ true → unmark m r ≡ m - 2 ^ r
unfolding unmark
unmark_member m r h e = rw (lt-ltb r 64 h, e)

pub set_out : (m r : ℕ) (flag : Bool) → 64 ≤ r → m ≡ set_to m r flag
unfolding set_to
set_out m r true h = sym (mark_out m r h)
set_out m r false h = sym (unmark_out m r h)

pub set_true : (m r : ℕ) (flag : Bool) → r < 64 → flag ≡ true → bit_or m ((1 * 2 ^ r) % 2 ^ 64) ≡ set_to m r flag
unfolding set_to
set_true m r flag h e = rw (e, shifted r h) (sym (mark_or m r h))

-- ---- get after set

pub mark_same : (m r : ℕ) → r < 64 → get (mark m r) r ≡ true
mark_same m r h = rw (mark_or m r h, get_or, get_pow r) (or-true (get m r))

pub mark_other : (m r s : ℕ) → s ≢ r → get (mark m r) s ≡ get m s
mark_other m r s n = elim (dec_lt r 64) [
  | yes h ↦ rw (mark_or m r h, get_or, get_pow_other r s n) (or-false (get m s))
  | no h ↦ rw (mark_out m r (omega arith))
]

-- where r is a member, m is the rest with r marked
rest_of : (m r : ℕ) → r < 64 → get m r ≡ true → (get (unmark m r) r ≡ false) × (mark (unmark m r) r ≡ m)
rest_of m r h e =
    let q : ℕ = m / 2 ^ r in
    let odd : q % 2 ≡ 1 = digit_of m r e in
    let p : q ≡ suc (q - 1) = omega arith in
    let up : q * 2 ^ r ≡ (q - 1) * 2 ^ r + 2 ^ r = ap (λ (z : ℕ). z * 2 ^ r) p ∙ suc-mul (q - 1) (2 ^ r) in
    let less : unmark m r ≡ m - 2 ^ r = unmark_member m r h e in
    let parts : unmark m r ≡ (q - 1) * 2 ^ r + m % 2 ^ r = omega (arith, split m r) in
    let k : unmark m r / 2 ^ r ≡ q - 1 = ap (λ (z : ℕ). z / 2 ^ r) parts ∙ digits_div (q - 1) (mod-lt m (pow_pos r)) in
    let even : (q - 1) % 2 ≡ 0 = omega arith in
    let lost : get (unmark m r) r ≡ false = get_even (unmark m r) r (ap (λ (z : ℕ). z % 2) k ∙ even) in
    (lost, mark_new (unmark m r) r h lost ∙ omega (arith, split m r))

pub unmark_same : (m r : ℕ) → r < 64 → get (unmark m r) r ≡ false
unmark_same m r h = go (get m r) refl
  where
    go : (t : Bool) → get m r ≡ t → get (unmark m r) r ≡ false
    go true e = (rest_of m r h e).0
    go false e = rw (unmark_none m r e) e

pub unmark_other : (m r s : ℕ) → s ≢ r → get (unmark m r) s ≡ get m s
unmark_other m r s n = elim (dec_lt r 64) [ yes h ↦ go h (get m r) refl | no h ↦ rw (unmark_out m r (omega arith)) ]
  where
    go : r < 64 → (t : Bool) → get m r ≡ t → get (unmark m r) s ≡ get m s
    go h true e = sym (mark_other (unmark m r) r s n) ∙ ap (λ (z : ℕ). get z s) (rest_of m r h e).1
    go h false e = rw (unmark_none m r e)

pub set_same : (m r : ℕ) (flag : Bool) → r < 64 → get (set_to m r flag) r ≡ flag
unfolding set_to
set_same m r true h = mark_same m r h
set_same m r false h = unmark_same m r h

pub set_other : (m r s : ℕ) (flag : Bool) → s ≢ r → get (set_to m r flag) s ≡ get m s
unfolding set_to
set_other m r s true n = mark_other m r s n
set_other m r s false n = unmark_other m r s n

-- ---- count

tally_same : (n : ℕ) (f g : ℕ → Bool) → ((j : ℕ) → j < n → f j ≡ g j) → tally n f ≡ tally n g
unfolding tally
tally_same zero f g h = refl
tally_same (suc n) f g h = rw (tally_same n f g (λ j l. h j (omega arith)), h n (omega arith))

-- one more passes
tally_more : (n r : ℕ) (f g : ℕ → Bool) → r < n → f r ≡ false → g r ≡ true → ((j : ℕ) → j ≢ r → g j ≡ f j) → tally n g ≡ tally n f + 1
unfolding tally
tally_more zero r f g h a b o = absurd (not-suc-le-zero h)
tally_more (suc n) r f g h a b o = elim (ℕ_discrete n r) [
  | yes e ↦ rw (e, a, b, tally_same r g f (λ j l. o j (omega arith))) (omega arith)
  | no e ↦ rw (tally_more n r f g (omega arith) a b o, o n e) (omega arith)
]

pub tally_le : (n : ℕ) (f : ℕ → Bool) → tally n f ≤ n
unfolding tally
tally_le zero f = omega arith
tally_le (suc n) f = go (f n) (tally_le n f)
  where
    go : (t : Bool) → tally n f ≤ n → tally n f + (if t then 1 else 0) ≤ suc n
    go true h = omega arith
    go false h = omega arith

pub count_mark_new : (m r : ℕ) → r < 64 → get m r ≡ false → count (mark m r) ≡ count m + 1
unfolding count
count_mark_new m r h e = tally_more 64 r (get m) (get (mark m r)) h e (mark_same m r h) (mark_other m r)

pub count_mark_old : (m r : ℕ) → get m r ≡ true → count (mark m r) ≡ count m
count_mark_old m r e = ap count (mark_old m r e)

pub count_unmark : (m r : ℕ) → r < 64 → get m r ≡ true → count (unmark m r) + 1 ≡ count m
count_unmark m r h e =
    let k = rest_of m r h e in
    sym (count_mark_new (unmark m r) r h k.0) ∙ ap count k.1

pub count_unmark_none : (m r : ℕ) → get m r ≡ false → count (unmark m r) ≡ count m
count_unmark_none m r e = ap count (unmark_none m r e)

pub count_le_lem : (m : ℕ) → count m ≤ 64
unfolding count
count_le_lem m = tally_le 64 (get m)

-- the digits are counted
ones_bit : (x : ℕ) → x < 2 → ones x ≡ (if eqb x 1 then 1 else 0)
unfolding ones
ones_bit zero h = refl
ones_bit (suc zero) h = refl
ones_bit (suc (suc x)) h = absurd (omega arith)

low_digits : (m k : ℕ) → m % 2 ^ suc k ≡ m / 2 ^ k % 2 * 2 ^ k + m % 2 ^ k
low_digits m k = ap (λ (z : ℕ). m % 2 ^ z) (sym (one-add k)) ∙ mod-pow-add m 1 k

ones_tally : (k m : ℕ) → ones (m % 2 ^ k) ≡ tally k (get m)
unfolding tally get
ones_tally zero m = ap ones (mod-one m) ∙ ones_bit 0 zero_bit
ones_tally (suc k) m =
    ap ones (low_digits m k) ∙ ones_cat k (m / 2 ^ k % 2) (m % 2 ^ k) (mod-lt m (pow_pos k))
    ∙ omega (arith, ones_bit (m / 2 ^ k % 2) (bit m k), ones_tally k m)

pub count_ones : (m : ℕ) → m < 2 ^ 64 → ones m ≡ count m
unfolding count
count_ones m h = ap ones (sym (mod-eq_of_lt h)) ∙ ones_tally 64 m

-- ---- the same members, the same set

ext_low : (k a b : ℕ) → ((r : ℕ) → r < k → get a r ≡ get b r) → a % 2 ^ k ≡ b % 2 ^ k
unfolding get
ext_low zero a b h = mod-one a ∙ sym (mod-one b)
ext_low (suc k) a b h =
    let e : a / 2 ^ k % 2 ≡ b / 2 ^ k % 2 = same_digit (a / 2 ^ k % 2) (b / 2 ^ k % 2) (bit a k) (bit b k) (h k (omega arith)) in
    let i : a % 2 ^ k ≡ b % 2 ^ k = ext_low k a b (λ r l. h r (omega arith)) in
    low_digits a k ∙ rw (e, i) (sym (low_digits b k))

pub extensional : (a b : ℕ) → a < 2 ^ 64 → b < 2 ^ 64 → ((r : ℕ) → r < 64 → get a r ≡ get b r) → a ≡ b
extensional a b h k e = sym (mod-eq_of_lt h) ∙ ext_low 64 a b e ∙ mod-eq_of_lt k

-- ---- supersets

pub every_each : (n : ℕ) (f : ℕ → Bool) → every n f ≡ true → (r : ℕ) → r < n → f r ≡ true
unfolding every
every_each zero f e r h = absurd (not-suc-le-zero h)
every_each (suc n) f e r h = elim (ℕ_discrete r n) [
  | yes p ↦ rw p (right (every n f) (f n) e)
  | no p ↦ every_each n f (left (every n f) (f n) e) r (omega arith)
]
  where
    left : (a b : Bool) → (a && b) ≡ true → a ≡ true
    left true b e = refl
    left false b e = e

    right : (a b : Bool) → (a && b) ≡ true → b ≡ true
    right true b e = e
    right false b e = absurd (true≢false (sym e))

each_every : (n : ℕ) (f : ℕ → Bool) → ((r : ℕ) → r < n → f r ≡ true) → every n f ≡ true
unfolding every
each_every zero f h = refl
each_every (suc n) f h = rw (each_every n f (λ r l. h r (omega arith)), h n (omega arith))

pub superset_has : (m other : ℕ) → is_superset m other ≡ true → (r : ℕ) → r < 64 → get other r ≡ true → get m r ≡ true
unfolding is_superset
superset_has m other e r h g = rw g at (every_each 64 (λ r. not (get other r) || get m r) e r h)

pub has_superset : (m other : ℕ) → ((r : ℕ) → r < 64 → get other r ≡ true → get m r ≡ true) → is_superset m other ≡ true
unfolding is_superset
has_superset m other h = each_every 64 (λ r. not (get other r) || get m r) (λ r l. go (get other r) (h r l))
  where
    go : {b : Bool} (a : Bool) → (a ≡ true → b ≡ true) → (not a || b) ≡ true
    go true h = h refl
    go false h = refl

pub superset_and : (m other : ℕ) → m < 2 ^ 64 → other < 2 ^ 64 → eqb (bit_and m other) other ≡ is_superset m other
superset_and m other h k = go (is_superset m other) refl
  where
    all : (r : ℕ) → (get m r && get other r) ≡ get other r → get other r ≡ true → get m r ≡ true
    all r e g = sym (and-true (get m r)) ∙ ap (λ (z : Bool). get m r && z) (sym g) ∙ e ∙ g

    both : (a b : Bool) → (b ≡ true → a ≡ true) → (a && b) ≡ b
    both true b e = refl
    both false true e = e refl
    both false false e = refl

    go : (t : Bool) → is_superset m other ≡ t → eqb (bit_and m other) other ≡ is_superset m other
    go true e =
        eq-eqb (bit_and m other) other
        (extensional (bit_and m other) other (and_lt 64 m other h k) k
        (λ r l. get_and m other r ∙ both (get m r) (get other r) (superset_has m other e r l)))
        ∙ sym e
    go false e =
        ne_eqb (bit_and m other) other
        (λ p. true≢false (sym (has_superset m other (λ r l. all r (sym (get_and m other r) ∙ ap (λ (z : ℕ). get z r) p))) ∙ e))
        ∙ sym e

-- ---- below the population

pub fits_lt : (m p : ℕ) → fits m p ≡ true → m < 2 ^ p
unfolding fits
fits_lt m p e = ltb-true m (2 ^ p) e

pub lt_fits : (m p : ℕ) → m < 2 ^ p → fits m p ≡ true
unfolding fits
lt_fits m p h = lt-ltb m (2 ^ p) h

pub fits_none : (m p r : ℕ) → fits m p ≡ true → p ≤ r → get m r ≡ false
fits_none m p r e h = get_above m r (lt_of_lt_of_le (fits_lt m p e) (pow_mono h))

-- a number without its top digit is shorter
shorter : (m k : ℕ) → m < 2 ^ suc k → get m k ≡ false → m < 2 ^ k
shorter m k h e =
    let q : ℕ = m / 2 ^ k in
    let b : m < 2 * 2 ^ k = rw (pow-suc 2 k, mul_comm (2 ^ k) 2) at h in
    let l : q < 2 = (div-lt_iff_lt-mul (pow_pos k)).1 b in
    let z : q < 1 = omega (arith, no_digit m k e) in
    rw (one-mul (2 ^ k)) at ((div-lt_iff_lt-mul (pow_pos k)).0 z)

none_lt : (m p k : ℕ) → m < 2 ^ (k + p) → ((r : ℕ) → p ≤ r → r < k + p → get m r ≡ false) → m < 2 ^ p
none_lt m p zero h e = rw (zero-add p) at h
none_lt m p (suc k) h e =
    let s : suc k + p ≡ suc (k + p) = omega arith in
    none_lt m p k (shorter m (k + p) (rw s at h) (e (k + p) (omega arith) (omega arith))) (λ r a b. e r a (omega arith))

pub none_fits : (m p : ℕ) → m < 2 ^ 64 → ((r : ℕ) → p ≤ r → r < 64 → get m r ≡ false) → fits m p ≡ true
none_fits m p h e = elim (dec_lt p 64) [
  | yes l ↦
      let s : 64 - p + p ≡ 64 = omega arith in
      lt_fits m p (none_lt m p (64 - p) (rw s h) (λ r a b. e r a (omega arith)))
  | no l ↦ let k : 64 ≤ p = omega arith in lt_fits m p (lt_of_lt_of_le h (pow_mono k))
]

pub unmark_le : (m r : ℕ) → unmark m r ≤ m
unmark_le m r = elim (dec_lt r 64) [
  | yes h ↦ omega (arith, unmark_and m r h)
  | no h ↦ omega (arith, unmark_out m r (omega arith))
]

pub unmark_fits : (m r p : ℕ) → fits m p ≡ true → fits (unmark m r) p ≡ true
unmark_fits m r p e = lt_fits (unmark m r) p (lt_of_le_of_lt (unmark_le m r) (fits_lt m p e))

pub mark_fits : (m r p : ℕ) → r < p → fits m p ≡ true → fits (mark m r) p ≡ true
mark_fits m r p l e = elim (dec_lt r 64) [
  | yes h ↦ rw (mark_or m r h) (lt_fits (bit_or m (2 ^ r)) p (or_lt p m (2 ^ r) (fits_lt m p e) (pow-lt l)))
  | no h ↦ rw (mark_out m r (omega arith)) e
]

-- 64 bits hold the result
pub mark_lt : (m r : ℕ) → m < 2 ^ 64 → mark m r < 2 ^ 64
mark_lt m r h = elim (dec_lt r 64) [
  | yes l ↦ rw (mark_or m r l) (or_lt 64 m (2 ^ r) h (pow-lt l))
  | no l ↦ rw (mark_out m r (omega arith)) h
]

pub unmark_lt : (m r : ℕ) → m < 2 ^ 64 → unmark m r < 2 ^ 64
unmark_lt m r h = lt_of_le_of_lt (unmark_le m r) h

pub set_false : (m r : ℕ) (flag : Bool) → m < 2 ^ 64 → r < 64 → flag ≡ false → bit_and m (bit_not w64 ((1 * 2 ^ r) % 2 ^ 64)) ≡ set_to m r flag
unfolding set_to get
set_false m r flag k h e = rw e (extensional cleared (unmark m r) (lt_of_le_of_lt (and_le_l m _) k) (unmark_lt m r k) each)
  where
    cleared : ℕ
    cleared = bit_and m (bit_not w64 ((1 * 2 ^ r) % 2 ^ 64))

    each : (j : ℕ) → j < 64 → get cleared j ≡ get (unmark m r) j
    each j l = elim (ℕ_discrete j r) [
      | yes s ↦ rw s (ap (λ (z : ℕ). eqb z 1) (bit_at_clear_same w64 m r h) ∙ sym (unmark_same m r h))
      | no n ↦ ap (λ (z : ℕ). eqb z 1) (bit_at_clear_other w64 m r h j l n) ∙ sym (unmark_other m r j n)
    ]

pub fits_all : (m p : ℕ) → m < 2 ^ 64 → 64 ≤ p → leb 64 p ≡ fits m p
fits_all m p h l = le-leb 64 p l ∙ sym (lt_fits m p (lt_of_lt_of_le h (pow_mono l)))

pub fits_shift : (m p : ℕ) → p < 64 → ltb m ((1 * 2 ^ p) % 2 ^ 64) ≡ fits m p
unfolding fits
fits_shift m p h = rw (shifted p h)

pub get_out : (m r : ℕ) → m < 2 ^ 64 → 64 ≤ r → ltb r 64 ≡ get m r
get_out m r h l = le-ltb r 64 l ∙ sym (get_above m r (lt_of_lt_of_le h (pow_mono l)))
