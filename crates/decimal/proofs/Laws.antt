-- One digit more of a number in decimal; how many digits a number has; what is written where.
use mathlib.Core.Path.{◌≡◌, refl, sym, ap, ◌∙◌}
use mathlib.Core.Bool.{Bool, true, false}
use mathlib.Core.List.{List, [], ◌∷◌, ◌++◌}
use Prim.Native.Nat.{ℕ, zero, suc, ◌+◌, ◌-◌, ◌*◌, ◌/◌, ◌%◌, ◌^◌, ◌≤◌, ◌<◌}
use native.Mathlib.Nat.{le_of_eq, div-eq_of_lt, div-lt_iff_lt-mul, lt_of_lt_of_le, pow-suc}
use native.Mathlib.Omega.{arith}
use lib.ListN.{length, set, take, drop, length-append, length-drop}
use lib.Dec.{ltb, eqb, lit<, lit≤}
use Rattle.std.proofs.Common.{zero-add}
use mir.Syntax.{w64}
use mir.Val.{Fits}
use borrow.Author.Tests.{lt-ltb, le-ltb, le-leb, ltb-false, eqb-true, eqb-false}
use Rattle.inty.proofs.Laws.{below_top}
use borrow.Rule.Slice.PartMut.{put_mid}
use Rattle.std.proofs.lemmas.List.{take_all, drop_all, append-nil, drop-drop}
use Rattle.words.specs.Writes.{writes, writes_snoc}
use Rattle.words.proofs.Laws.{writes_is}
use Rattle.decimal.specs.Digits.{decimal_in, decimal}
use Rattle.decimal.specs.Placed.{Placed, placed}
use Rattle.std.specs.Prelude.{Option, Some}

-- any fuel above n gives the same
same_in : (f g n : ℕ) → n < f → n < g → decimal_in f n ≡ decimal_in g n
unfolding decimal_in
same_in zero g n a b = absurd (omega arith)
same_in (suc f) zero n a b = absurd (omega arith)
same_in (suc f) (suc g) n a b = go (λ p q. same_in f g (n / 10) p q) (ltb n 10) refl
  where
    go : (n / 10 < f → n / 10 < g → decimal_in f (n / 10) ≡ decimal_in g (n / 10)) → (t : Bool) → ltb n 10 ≡ t → decimal_in (suc f) n ≡ decimal_in (suc g) n
    go ih true e = simp e
    go ih false e =
        let ten : 10 ≤ n = ltb-false n 10 e in
        simp (e, ih (omega arith) (omega arith))

pub one_digit : (n : ℕ) → n / 10 ≡ 0 → decimal n ≡ (48 + n % 10) ∷ []
unfolding decimal decimal_in
one_digit n e =
    let small : n < 10 = omega arith in
    let is : 48 + n ≡ 48 + n % 10 = omega arith in
    simp (lt-ltb n 10 small) (ap (λ (k : ℕ). k ∷ []) is)

pub more_digits : (n : ℕ) → (n / 10 ≡ 0 → ⊥) → decimal n ≡ decimal (n / 10) ++ ((48 + n % 10) ∷ [])
unfolding decimal decimal_in
more_digits n e =
    let ten : 10 ≤ n = omega arith in
    simp (le-ltb n 10 ten, same_in n (suc (n / 10)) (n / 10) (omega arith) (omega arith))

length_one : (n : ℕ) → n / 10 ≡ 0 → length (decimal n) ≡ 1
length_one n e = ap length (one_digit n e)

length_more : (n : ℕ) → (n / 10 ≡ 0 → ⊥) → length (decimal n) ≡ length (decimal (n / 10)) + 1
length_more n e = ap length (more_digits n e) ∙ length-append (decimal (n / 10)) ((48 + n % 10) ∷ [])

-- a number below 10 ^ k has at most k digits, for k from 1 on
pub short : (k n : ℕ) → n < 10 ^ suc k → length (decimal n) ≤ suc k
short zero n h = le_of_eq (length_one n (div-eq_of_lt h))
short (suc k) n h = go (short k (n / 10)) (n / 10) refl
  where
    go : (n / 10 < 10 ^ suc k → length (decimal (n / 10)) ≤ suc k) → (q : ℕ) → n / 10 ≡ q → length (decimal n) ≤ suc (suc k)
    go ih zero e = omega (arith, length_one n e)
    go ih (suc q) e =
        let z : n / 10 ≡ 0 → ⊥ = λ f. omega (arith, e) in
        let below : n / 10 < 10 ^ suc k = (div-lt_iff_lt-mul (lit< tt)).1 (rw (← pow-suc 10 (suc k)) h) in
        omega (arith, length_more n z, ih below)

-- of 64 bits at most 20, of 128 bits at most 39
pub short_64 : (n : ℕ) → n < 2 ^ 64 → length (decimal n) ≤ 20
short_64 n h = short 19 n (lt_of_lt_of_le h (lit≤ tt))

pub short_128 : (n : ℕ) → n < 2 ^ 128 → length (decimal n) ≤ 39
short_128 n h = short 38 n (lt_of_lt_of_le h (lit≤ tt))

pub count_fits : (h l r : ℕ) → h < 2 ^ 64 → l < 2 ^ 64 → r ≡ length (decimal (h * 18446744073709551616 + l)) → Fits w64 (r + 1)
count_fits h l r f g e =
    let b : r ≤ 39 = rw e (short_128 _ (below_top h l f g)) in
    record { fits = small r b }
  where
    small : (r : ℕ) → r ≤ 39 → r + 1 < 2 ^ 64
    small r b = omega arith

-- what is written before the last digit of n, and where it ends
pub record Heads (s : List ℕ) (n end : ℕ) (l : List ℕ) : Type 0 where
  pub heads : List ℕ
  pub all : decimal n ≡ heads ++ ((48 + n % 10) ∷ [])
  pub end_is : end ≡ length heads
  pub bytes : l ≡ writes s 0 heads

-- n is the number, q its tenth, t the test whether that is 0
module _ (n q : ℕ) (t : Bool) (e : q ≡ n / 10) (f : t ≡ eqb q 0) where
  module _ (g : t ≡ true) where
    tenth_none : n / 10 ≡ 0
    tenth_none = sym e ∙ eqb-true q 0 (sym f ∙ g)

    pub count_one : 1 ≡ length (decimal n)
    count_one = sym (length_one n tenth_none)

    pub no_heads : (s : List ℕ) (end : ℕ) (l : List ℕ) → end ≡ 0 → l ≡ s → Heads s n end l
    no_heads s end l p k =
        record { heads = []; all = one_digit n tenth_none; end_is = omega arith; bytes = k }

  module _ (g : t ≡ false) where
    tenth_some : n / 10 ≡ 0 → ⊥
    tenth_some z = eqb-false q 0 (sym f ∙ g) (e ∙ z)

    length_next : length (decimal n) ≡ length (decimal q) + 1
    length_next = rw e (length_more n tenth_some)

    pub count_more : (r : ℕ) → r ≡ length (decimal q) → r + 1 ≡ length (decimal n)
    count_more r k = omega (arith, length_next)

    pub tenth_less : (k : ℕ) → n ≡ k → q < k
    tenth_less k p = rw (← p) (less n q e tenth_some)
      where
        less : (n q : ℕ) → q ≡ n / 10 → (n / 10 ≡ 0 → ⊥) → q < n
        less n q e z = omega arith

    pub more_room : (m : ℕ) → length (decimal n) ≤ m → length (decimal q) ≤ m
    more_room m p = omega (arith, length_next)

    pub more_heads : (s : List ℕ) (end r : ℕ) (l l' : List ℕ) → end ≡ r → l ≡ l' → r ≡ length (decimal q) → l' ≡ writes s 0 (decimal q) → Heads s n end l
    more_heads s end r l l' p k h b =
        record { heads = decimal q; all = rw e (more_digits n tenth_some); end_is = p ∙ h; bytes = k ∙ b }

-- the last digit
module _ {s : List ℕ} {n end : ℕ} {l : List ℕ} (w : Heads s n end l) where
  long : length (decimal n) ≡ length w.heads + 1
  long = ap length w.all ∙ length-append w.heads ((48 + n % 10) ∷ [])

  pub last_room : (j : ℕ) → length (decimal n) ≤ length s → j ≡ length s → end < j
  last_room j p h = let z = w.end_is in omega (arith, long)

  pub last_fits : length (decimal n) ≤ length s → length s < 2 ^ 64 → Fits w64 (end + 1)
  last_fits p h = record { fits = let i = last_room (length s) p refl in omega arith }

  pub last_end : end + 1 ≡ length (decimal n)
  last_end = let z = w.end_is in omega (arith, long)

  pub last_put : (b r : ℕ) → b ≡ 48 + r → r ≡ n % 10 → set l end b ≡ writes s 0 (decimal n)
  last_put b r p h = rw (w.bytes, w.end_is, p, h, w.all, writes_snoc s 0 w.heads (48 + n % 10), zero-add)

-- the part from `at` on with vs at its start, put back
part_back : (s vs : List ℕ) (at : ℕ) → at + length vs ≤ length s → put_mid at (length s - at) s (writes (take (length s - at) (drop at s)) 0 vs) ≡ writes s at vs
part_back s vs at h =
    let k : length (drop at s) ≡ length s - at = length-drop at s in
    let all : take (length s - at) (drop at s) ≡ drop at s = take_all (length s - at) (drop at s) (omega (arith, k)) in
    let none : drop (length s - at) (drop at s) ≡ [] = drop_all (length s - at) (drop at s) (omega (arith, k)) in
    let w : writes (drop at s) 0 vs ≡ vs ++ drop (0 + length vs) (drop at s) = writes_is (drop at s) 0 vs (omega (arith, k)) in
    let z : 0 + length vs ≡ length vs = omega arith in
    rw (all, none, w, z, append-nil, drop-drop, writes_is s at vs h)

pub put_there : (out : List ℕ) (at : ℕ) (text l : List ℕ) (r : ℕ) → at + length text ≤ length out → r ≡ length text → l ≡ writes (take (length out - at) (drop at out)) 0 text
    → record { answer = Some (at + r); bytes = put_mid at (length out - at) out l } ≡ placed out at text
put_there out at text l r h e f = rw (le-leb (at + length text) (length out) h, e, f, part_back out text at h)

-- for a caller that has room: the answer is where the text ends
pub has_room : (out : List ℕ) (at : ℕ) (text : List ℕ) (w : Option ℕ) (l : List ℕ) → at + length text ≤ length out → record { answer = w; bytes = l } ≡ placed out at text
    → (w ≡ Some (at + length text)) × (l ≡ writes out at text)
has_room out at text w l h e =
    let f : ◌≡◌ {A = Placed} (record { answer = w; bytes = l }) (record { answer = Some (at + length text); bytes = writes out at text }) = e ∙ simp (le-leb (at + length text) (length out) h) in
    (ap (λ (p : Placed). p.answer) f, ap (λ (p : Placed). p.bytes) f)
