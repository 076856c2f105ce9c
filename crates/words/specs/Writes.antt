-- Trusted: a run of stores into a list, and what stays as it was; the laws below it are proved.
use Rattle.std.specs.Prelude.{◌≡◌, refl, ◌⊎◌, ◌≢◌, List, [], ◌∷◌, ◌++◌, ℕ, zero, suc, ◌+◌, ◌≤◌, ◌<◌, length, get_or, set, take}
use Rattle.std.proofs.Common.{sym, ap, ◌∙◌, inl, inr, ⊎_elim, add_assoc, add-zero, not-suc-le-zero, add-one, arith, length-set, get_or-set_same, get_or-set_other, take-suc, length-take-le, ext_get_or}
use Rattle.words.specs.Part.{part, part_set_below}
use Rattle.words.specs.Tab.{tab, words_from, tab_ext, length_tab, get_or_tab}

-- vs stored element by element from index at
abbrev pub writes : List ℕ → ℕ → List ℕ → List ℕ
writes s at [] = s
writes s at (v ∷ vs) = writes (set s at v) (at + 1) vs

-- s' and s have the same elements from q up to e
abbrev pub Agrees : List ℕ → List ℕ → ℕ → ℕ → Type 0
Agrees s' s q e = (j : ℕ) → q ≤ j → j < e → get_or s' j 0 ≡ get_or s j 0

pub length_writes : (s : List ℕ) (at : ℕ) (vs : List ℕ) → length (writes s at vs) ≡ length s
length_writes s at [] = refl
length_writes s at (v ∷ vs) = length_writes (set s at v) (at + 1) vs ∙ length-set s at v

-- outside of the run nothing changes
pub writes_other : (s : List ℕ) (at : ℕ) (vs : List ℕ) (j : ℕ) → (j < at) ⊎ (at + length vs ≤ j) → get_or (writes s at vs) j 0 ≡ get_or s j 0
writes_other s at [] j h = refl
writes_other s at (v ∷ vs) j h =
    writes_other (set s at v) (at + 1) vs j (⊎_elim (λ x. inl (omega arith)) (λ x. inr (omega arith)) h)
    ∙ get_or-set_other s at j v 0 (⊎_elim (λ (x : j < at). omega arith) (λ (x : at + suc (length vs) ≤ j). omega arith) h)

-- in the run stands what was stored
pub writes_same : (s : List ℕ) (at : ℕ) (vs : List ℕ) (k : ℕ) → at + length vs ≤ length s → k < length vs → get_or (writes s at vs) (at + k) 0 ≡ get_or vs k 0
writes_same s at [] k h b = absurd (not-suc-le-zero b)
writes_same s at (v ∷ vs) zero h b =
    rw add-zero (writes_other (set s at v) (at + 1) vs at (inl (omega arith)) ∙ get_or-set_same s at v 0 (omega arith))
writes_same s at (v ∷ vs) (suc k) h b =
    let e : at + suc k ≡ at + 1 + k = omega arith in
    let l : at + 1 + length vs ≤ length (set s at v) = rw length-set (omega arith) in
    rw e (writes_same (set s at v) (at + 1) vs k l (omega arith))

-- one store more
pub writes_snoc : (s : List ℕ) (at : ℕ) (vs : List ℕ) (v : ℕ) → writes s at (vs ++ (v ∷ [])) ≡ set (writes s at vs) (at + length vs) v
writes_snoc s at [] v = rw add-zero
writes_snoc s at (x ∷ vs) v =
    let e : at + suc (length vs) ≡ at + 1 + length vs = omega arith in
    rw e (writes_snoc (set s at x) (at + 1) vs v)

-- a turn of a loop that copies key to b
pub writes_take : (s : List ℕ) (b : ℕ) (key : List ℕ) (i : ℕ) → i < length key → set (writes s b (take i key)) (b + i) (get_or key i 0) ≡ writes s b (take (i + 1) key)
writes_take s b key i h =
    let e : length (take i key) ≡ i = length-take-le i key (omega arith) in
    rw (add-one i, take-suc key i 0, writes_snoc, e)

-- what was stored is read back
pub run_writes : (s : List ℕ) (at : ℕ) (vs : List ℕ) → at + length vs ≤ length s → words_from (length vs) (writes s at vs) at ≡ vs
run_writes s at vs h =
    ext_get_or 0 (words_from (length vs) (writes s at vs) at) vs (length_tab (λ j. get_or (writes s at vs) j 0) at (length vs))
    (λ k b.
    let l : k < length vs = rw length_tab at b in
    get_or_tab (λ j. get_or (writes s at vs) j 0) at (length vs) k 0 l ∙ writes_same s at vs k h l)

pub run_agrees : (n : ℕ) (s' s : List ℕ) (q : ℕ) → Agrees s' s q (q + n) → words_from n s' q ≡ words_from n s q
run_agrees n s' s q h = tab_ext (λ j. get_or s' j 0) (λ j. get_or s j 0) q n h

-- two runs, one after the other
pub writes_append : (s : List ℕ) (at : ℕ) (xs ys : List ℕ) → writes (writes s at xs) (at + length xs) ys ≡ writes s at (xs ++ ys)
writes_append s at [] ys = rw add-zero
writes_append s at (x ∷ xs) ys =
    let e : at + suc (length xs) ≡ at + 1 + length xs = omega arith in
    rw e (writes_append (set s at x) (at + 1) xs ys)

-- a part above the run
pub part_writes : (s : List ℕ) (at : ℕ) (vs : List ℕ) (a n : ℕ) → at + length vs ≤ a → part (writes s at vs) a n ≡ part s a n
part_writes s at [] a n h = refl
part_writes s at (v ∷ vs) a n h = part_writes (set s at v) (at + 1) vs a n (omega arith) ∙ part_set_below s a n v at (omega arith)

-- as many as there are
pub writes_all : (s vs : List ℕ) → length s ≡ length vs → writes s 0 vs ≡ vs
writes_all s vs h =
    ext_get_or 0 (writes s 0 vs) vs (length_writes s 0 vs ∙ h)
    (λ k b. let l : k < length vs = omega (arith, length_writes s 0 vs) in let z : k ≡ 0 + k = omega arith in ap (λ (j : ℕ). get_or (writes s 0 vs) j 0) z ∙ writes_same s 0 vs k (omega arith) l)
