-- A run of stores is one part put in.
use Rattle.std.proofs.Common.{◌≡◌, ℕ, ◌+◌, ◌≤◌, ◌<◌, List, [], ◌∷◌, ◌++◌, length, set, take, drop, ◌∙◌, sym, refl, arith, append_assoc, take-append-drop, length-set, add-zero}
use Rattle.std.proofs.lemmas.List.{drop-set-lt, take_more_set, take-append-drop}
use Rattle.std.proofs.lemmas.Slice.{put_mid-paste}
use Rattle.std.proofs.Math.Seq.{take-length}
use borrow.Rule.Slice.PartMut.{put_mid}
use Rattle.words.specs.Writes.{writes}

pub writes_is : (s : List ℕ) (at : ℕ) (vs : List ℕ) → at + length vs ≤ length s → writes s at vs ≡ take at s ++ (vs ++ drop (at + length vs) s)
writes_is s at [] h = rw add-zero (sym (take-append-drop at s))
writes_is s at (v ∷ vs) h =
    let i : at < length s = omega arith in
    let l : at + 1 + length vs ≤ length (set s at v) = rw length-set (omega arith) in
    let e : at + 1 + length vs ≡ at + length (v ∷ vs) = omega arith in
    let b : at < at + 1 + length vs = omega arith in
    writes_is (set s at v) (at + 1) vs l ∙ rw (take_more_set s at v i, drop-set-lt (at + 1 + length vs) s at v b, e, append_assoc)

-- what `copy_from_slice` of vs to the part of length k from at on leaves
pub mid_writes : (s : List ℕ) (at k : ℕ) (ys vs : List ℕ) → at + length vs ≤ length s → k ≡ length vs → ys ≡ vs → put_mid at k s ys ≡ writes s at vs
mid_writes s at k ys vs h e f =
    put_mid-paste at k s ys vs (length vs) f (sym e) refl ∙ rw (writes_is s at vs h, take-length vs, append_assoc)
