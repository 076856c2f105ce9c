-- What the proofs of the pieces share, with the premises as the code has them, and how a run of bytes goes line by
-- line.
use mathlib.Core.Path.{◌≡◌, refl, sym, ap, subst, ◌∙◌}
use mathlib.Core.Bool.{Bool, true, false}
use mathlib.Core.List.{List, [], ◌∷◌, ◌++◌, append_assoc, append-nil}
use Prim.Native.Nat.{ℕ, zero, suc, ◌+◌, ◌-◌, ◌^◌, ◌≤◌, ◌<◌}
use native.Mathlib.Nat.{add_assoc, zero-add}
use native.Mathlib.Omega.{arith}
use lib.ListN.{length, get_or, drop, take, length-drop, length-append}
use lib.Seq.{drop-drop, length-take-le, take-add}
use lib.Dec.{eqb}
use mir.Syntax.{w64}
use mir.Val.{Fits}
use borrow.Author.Tests.{lt-ltb, le-ltb, eq-eqb, eqb-true, ne_eqb}
use Rattle.std.specs.Prelude.{Option, None, Some}
use Rattle.std.specs.Option.{unwrap_or}
use Rattle.std.specs.List.{copy_within}
use Rattle.std.proofs.Common.{take_all}
use Rattle.std.proofs.lemmas.List.Edits.{take-paste}
use Rattle.memchr.specs.Find.{IsFirstByte, is_byte}
use Rattle.words.specs.Writes.{writes, writes_append}
use Rattle.stream_pieces.specs.Pieces.{Begun, none_begun, longer, before, kept}
use Rattle.stream_pieces.specs.Streamed.{LineOutput, Streamed, prepend, streamed, OutputAfter, output_after}

-- ---- the end of a line
-- the first newline, or the end where there is none
first_newline : (l : List ℕ) (k : ℕ) → k ≤ length l → ((j : ℕ) → j < k → get_or l j 0 ≡ 10 → ⊥) → (k < length l → get_or l k 0 ≡ 10) → before l ≡ k
first_newline [] k h none here = omega arith
first_newline (c ∷ l) zero h none here = simp (eq-eqb c 10 (here (omega arith)))
first_newline (c ∷ l) (suc k) h none here =
    simp (ne_eqb c 10 (none 0 (omega arith)))
    (ap suc (first_newline l k (omega arith) (λ j b. none (suc j) (omega arith)) (λ b. here (omega arith))))

found_first : (l : List ℕ) (found : Option ℕ) → IsFirstByte (is_byte 10) l found → unwrap_or found (length l) ≡ before l
found_first l None nowhere =
    sym (first_newline l (length l) (omega arith) (λ j b x. nowhere j (omega arith) b (eq-eqb (get_or l j 0) 10 x)) (λ b. absurd (omega arith)))
found_first l (Some k) first =
    sym (first_newline l k (omega arith) (λ j b x. first.0.before j (omega arith) (omega arith) (eq-eqb (get_or l j 0) 10 x)) (λ b. eqb-true (get_or l k 0) 10 first.1))

pub line_ends : (s : List ℕ) (at n : ℕ) (found : Option ℕ) → at ≤ length s → IsFirstByte (is_byte 10) (take (length s - at) (drop at s)) found → n ≡ unwrap_or found (length (take (length s - at) (drop at s))) → at + n ≡ at + before (drop at s)
line_ends s at n found h first e =
    ap (λ (k : ℕ). at + k) (e ∙ (found_first (take (length s - at) (drop at s)) found first ∙ ap before (take_all (length s - at) (drop at s) (omega (arith, length-drop at s)))))

-- ---- what is kept
module _ (s : List ℕ) (at end : ℕ) (f : at ≤ end) (g : end ≤ length s) (long : Bool) where
  length_rest : length (take (end - at) (drop at s)) ≡ end - at
  length_rest = length-take-le (end - at) (drop at s) (omega (arith, length-drop at s))

  pub keep_none : 1024 < end - at → record { long = true; line = [] } ≡ kept (record { long = long; line = take (end - at) (drop at s) })
  unfolding kept
  keep_none h = rw (length_rest, lt-ltb 1024 (end - at) h)

  pub keep_all : (l : List ℕ) → end - at ≤ 1024 → l ≡ copy_within s at end 0 → record { long = long; line = take (end - at) l } ≡ kept (record { long = long; line = take (end - at) (drop at s) })
  unfolding kept
  keep_all l h e = rw (length_rest, le-ltb 1024 (end - at) h, e) (ap (λ (x : List ℕ). record { long = long; line = x }) back)
    where
      back : take (end - at) (copy_within s at end 0) ≡ take (end - at) (drop at s)
      back = subst (λ (k : ℕ). take k (copy_within s at end 0) ≡ take (end - at) (drop at s)) (zero-add (end - at)) (take-paste s 0 (drop at s) (end - at) (omega arith) (omega (arith, length-drop at s)))

-- ---- the line at at ends at e
before_le : (s : List ℕ) → before s ≤ length s
before_le [] = omega arith
before_le (c ∷ s) = go (eqb c 10) refl (before_le s)
  where
    go : (t : Bool) → eqb c 10 ≡ t → before s ≤ length s → before (c ∷ s) ≤ suc (length s)
    go true p ih = simp p (omega arith)
    go false p ih = simp p (omega arith)

module _ (piece : List ℕ) (at e : ℕ) (h : at ≤ length piece) (f : e ≡ at + before (drop at piece)) where
  pub line_within : e ≤ length piece
  line_within = omega (arith, length-drop at piece, before_le (drop at piece))

  pub line_none : e ≡ length piece → before (drop at piece) ≡ length (drop at piece)
  line_none g = omega (arith, length-drop at piece)

  module _ (n : e ≡ length piece → ⊥) where
    pub line_below : e < length piece
    line_below = below e (length piece) line_within n
      where
        below : (a b : ℕ) → a ≤ b → (a ≡ b → ⊥) → a < b
        below a b h n = omega arith

    pub next_within : e + 1 ≤ length piece
    next_within = omega (arith, line_below)

    pub next_fits : length piece < 2 ^ 64 → Fits w64 (e + 1)
    next_fits g = record { fits = omega (arith, line_below) }

    pub next_less : length piece - (e + 1) < length piece - at
    next_less = omega (arith, line_below)

-- ---- the lines of a run of bytes
pub done_append : {S : Type 0} (out : List ℕ) (used : ℕ) (text : List ℕ) (r : Streamed S) → output_after (writes out used text) (used + length text) r ≡ output_after out used (prepend text r)
done_append out used text r =
    rw (writes_append out used text r.out, length-append text r.out, add_assoc used (length text) (length r.out))

module _ {S : Type 0} (answer : S → Begun → LineOutput S) where
  -- a line is answered, and the run goes on after it
  pub runs_line : (s : S) (b : Begun) (l : List ℕ) → before l < length l
      → streamed answer s b l ≡ prepend (answer s (record { long = b.long; line = b.line ++ take (before l) l })).text (streamed answer (answer s (record { long = b.long; line = b.line ++ take (before l) l })).next none_begun (drop (suc (before l)) l))
  unfolding streamed
  runs_line s b [] h = absurd (omega arith)
  runs_line s b (c ∷ l) h = go (eqb c 10) refl (runs_line s (longer b c) l)
    where
      go : (t : Bool) → eqb c 10 ≡ t
          → (before l < length l → streamed answer s (longer b c) l ≡ prepend (answer s (record { long = b.long; line = (b.line ++ (c ∷ [])) ++ take (before l) l })).text (streamed answer (answer s (record { long = b.long; line = (b.line ++ (c ∷ [])) ++ take (before l) l })).next none_begun (drop (suc (before l)) l)))
          → streamed answer s b (c ∷ l) ≡ prepend (answer s (record { long = b.long; line = b.line ++ take (before (c ∷ l)) (c ∷ l) })).text (streamed answer (answer s (record { long = b.long; line = b.line ++ take (before (c ∷ l)) (c ∷ l) })).next none_begun (drop (suc (before (c ∷ l))) (c ∷ l)))
      go true p ih = simp (p, append-nil)
      go false p ih =
          let k : suc (before l) < suc (length l) = simp p at h in
          simp p (ih (omega arith) ∙ simp append_assoc)

  -- a line with its newline, and no byte more
  pub runs_one : (s : S) (b : Begun) (l : List ℕ) → before l < length l
      → streamed answer s b (take (suc (before l)) l) ≡ record { out = (answer s (record { long = b.long; line = b.line ++ take (before l) l })).text; state = (answer s (record { long = b.long; line = b.line ++ take (before l) l })).next; begun = none_begun }
  unfolding streamed
  runs_one s b [] h = absurd (omega arith)
  runs_one s b (c ∷ l) h = go (eqb c 10) refl (runs_one s (longer b c) l)
    where
      go : (t : Bool) → eqb c 10 ≡ t
          → (before l < length l → streamed answer s (longer b c) (take (suc (before l)) l) ≡ record { out = (answer s (record { long = b.long; line = (b.line ++ (c ∷ [])) ++ take (before l) l })).text; state = (answer s (record { long = b.long; line = (b.line ++ (c ∷ [])) ++ take (before l) l })).next; begun = none_begun })
          → streamed answer s b (take (suc (before (c ∷ l))) (c ∷ l)) ≡ record { out = (answer s (record { long = b.long; line = b.line ++ take (before (c ∷ l)) (c ∷ l) })).text; state = (answer s (record { long = b.long; line = b.line ++ take (before (c ∷ l)) (c ∷ l) })).next; begun = none_begun }
      go true p ih = simp (p, append-nil)
      go false p ih =
          let k : suc (before l) < suc (length l) = simp p at h in
          simp p (ih (omega arith) ∙ simp append_assoc)

  -- no newline, no line
  pub runs_none : (s : S) (b : Begun) (l : List ℕ) → before l ≡ length l → streamed answer s b l ≡ record { out = []; state = s; begun = record { long = b.long; line = b.line ++ l } }
  unfolding streamed
  runs_none s b [] h = simp append-nil
  runs_none s b (c ∷ l) h = go (eqb c 10) refl (runs_none s (longer b c) l)
    where
      go : (t : Bool) → eqb c 10 ≡ t
          → (before l ≡ length l → streamed answer s (longer b c) l ≡ record { out = []; state = s; begun = record { long = b.long; line = (b.line ++ (c ∷ [])) ++ l } })
          → streamed answer s b (c ∷ l) ≡ record { out = []; state = s; begun = record { long = b.long; line = b.line ++ (c ∷ l) } }
      go true p ih = absurd (let k : 0 ≡ suc (length l) = simp p at h in omega arith)
      go false p ih =
          let k : suc (before l) ≡ suc (length l) = simp p at h in
          simp p (ih (omega arith) ∙ simp append_assoc)

  -- a run, and then another
  pub cut : (s : S) (b : Begun) (l t : List ℕ) → streamed answer s b (l ++ t) ≡ prepend (streamed answer s b l).out (streamed answer (streamed answer s b l).state (streamed answer s b l).begun t)
  unfolding streamed
  cut s b [] t = refl
  cut s b (c ∷ l) t = go (eqb c 10) refl (cut (answer s b).next none_begun l t) (cut s (longer b c) l t)
    where
      go : (q : Bool) → eqb c 10 ≡ q
          → streamed answer (answer s b).next none_begun (l ++ t) ≡ prepend (streamed answer (answer s b).next none_begun l).out (streamed answer (streamed answer (answer s b).next none_begun l).state (streamed answer (answer s b).next none_begun l).begun t)
          → streamed answer s (longer b c) (l ++ t) ≡ prepend (streamed answer s (longer b c) l).out (streamed answer (streamed answer s (longer b c) l).state (streamed answer s (longer b c) l).begun t)
          → streamed answer s b ((c ∷ l) ++ t) ≡ prepend (streamed answer s b (c ∷ l)).out (streamed answer (streamed answer s b (c ∷ l)).state (streamed answer s b (c ∷ l)).begun t)
      go true p i j = simp p (ap (prepend (answer s b).text) i ∙ twice (answer s b).text (streamed answer (answer s b).next none_begun l).out (streamed answer (streamed answer (answer s b).next none_begun l).state (streamed answer (answer s b).next none_begun l).begun t))
        where
          twice : (x y : List ℕ) (r : Streamed S) → prepend x (prepend y r) ≡ prepend (x ++ y) r
          twice x y r = simp append_assoc
      go false p i j = simp p j

  -- of a piece all is done up to at, and then the line that ends at e
  pub done_line : (piece : List ℕ) (at₀ at e : ℕ) (s₀ s : S) (b₀ : Begun) (long : Bool) (out₀ out : List ℕ) (used : ℕ) → at₀ ≤ at → at ≤ length piece → e ≡ at + before (drop at piece) → e < length piece
      → record { bytes = out; used = used; state = s; begun = record { long = long; line = [] } } ≡ output_after out₀ 0 (streamed answer s₀ b₀ (take (at - at₀) (drop at₀ piece)))
      → record {
        bytes = writes out used (answer s (record { long = long; line = take (e - at) (drop at piece) })).text;
        used = used + length (answer s (record { long = long; line = take (e - at) (drop at piece) })).text;
        state = (answer s (record { long = long; line = take (e - at) (drop at piece) })).next;
        begun = none_begun;
      }
      ≡ output_after out₀ 0 (streamed answer s₀ b₀ (take (e + 1 - at₀) (drop at₀ piece)))
  done_line piece at₀ at e s₀ s b₀ long out₀ out used f g h k i =
      let x : List ℕ = take (at - at₀) (drop at₀ piece) in
      let l : List ℕ = drop at piece in
      let r : Streamed S = streamed answer s₀ b₀ x in
      let line : LineOutput S = answer s (record { long = long; line = take (e - at) l }) in
      let one : Streamed S = record { out = line.text; state = line.next; begun = none_begun } in
      let to : at₀ + (at - at₀) ≡ at = omega arith in
      let split : take (e + 1 - at₀) (drop at₀ piece) ≡ x ++ take (suc (before l)) l =
      (let c : e + 1 - at₀ ≡ at - at₀ + suc (before l) = omega arith in
      rw c (take-add (at - at₀) (suc (before l)) (drop at₀ piece) ∙ ap (λ (y : List ℕ). x ++ take (suc (before l)) y) (drop-drop (at - at₀) at₀ piece ∙ ap (λ (j : ℕ). drop j piece) to))) in
      let same : e - at ≡ before l = omega arith in
      let it : streamed answer s (record { long = long; line = [] }) (take (suc (before l)) l) ≡ one = rw same (runs_one s (record { long = long; line = [] }) l (omega (arith, length-drop at piece))) in
      let st : s ≡ r.state = ap (λ (d : OutputAfter S). d.state) i in
      let bg : record { long = long; line = [] } ≡ r.begun = ap (λ (d : OutputAfter S). d.begun) i in
      let whole : streamed answer s₀ b₀ (take (e + 1 - at₀) (drop at₀ piece)) ≡ prepend r.out one =
      ap (streamed answer s₀ b₀) split ∙ (cut s₀ b₀ x (take (suc (before l)) l) ∙ ap (prepend r.out) (rw (← st, ← bg) it)) in
      ap (λ (d : OutputAfter S). output_after d.bytes d.used one) i ∙ (done_append out₀ 0 r.out one ∙ ap (output_after out₀ 0) (sym whole))
