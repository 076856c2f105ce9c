-- Whether all fields that are left are numbers.
use Rattle.std.specs.Prelude.{None, Ok, Err}
use mathlib.Core.Path.{◌≡◌, sym, ap, ◌∙◌}
use mathlib.Core.Bool.{Bool, true, false}
use mathlib.Core.List.{List}
use Prim.Native.Nat.{ℕ, ◌<◌}
use native.Mathlib.Omega.{arith}
use borrow.Author.Tests.{ne_eqb, eq-eqb}
use Rattle.std.specs.Bool.{then_some}
use Rattle.words.specs.Text.{Bytes}
use Rattle.line_fields.specs.Split.{fields_from}
use Rattle.line_fields.specs.Number.{numbers}
use Rattle.line_fields.specs.Reads.{none_left, leading, Reaches, ReadsNumbersAt, ReadsNumbers}
use Rattle.line_fields.proofs.Laws.{numbers_exact}
use Rattle.line_reader.specs.declared.LineReader.{LineReader}
use Rattle.line_reader.specs.Takes.{moved_to}

-- by what a reader took
module _ (h : LineReader) (k : ℕ) (out out' : List ℕ) (n : ℕ) (q : n ≡ k) where
  pub too_few : (stop : ℕ) → Reaches h.line.now h.at n (Err stop) → ReadsNumbers h.line.now h.at k None
  too_few stop l =
      let m : leading k (fields_from h.line.now h.at) < k = rw q at l.0 in
      numbers_exact k (fields_from h.line.now h.at) ∙ rw (ne_eqb (leading k (fields_from h.line.now h.at)) k (omega arith))

  pub all_read : (r : LineReader) → ReadsNumbersAt h.line.now h.at n out (Ok r.at) out' × (r ≡ moved_to h r.at) → (t : Bool) → t ≡ none_left (fields_from r.line.now r.at) → ReadsNumbers h.line.now h.at k (then_some t out')
  all_read r a t f =
      let p : ReadsNumbersAt h.line.now h.at k out (Ok r.at) out' = rw q at a.0 in
      let w : r.line.now ≡ h.line.now = ap (λ (x : LineReader). x.line.now) a.1 in
      let m : numbers k (fields_from h.line.now h.at) ≡ none_left (fields_from h.line.now r.at) = numbers_exact k (fields_from h.line.now h.at) ∙ rw (eq-eqb (leading k (fields_from h.line.now h.at)) k p.0.0, p.0.1.left) in
      go t (m ∙ ap (λ (x : Bytes). none_left (fields_from x r.at)) (sym w) ∙ sym f) p
    where
      go : (t : Bool) → numbers k (fields_from h.line.now h.at) ≡ t → ReadsNumbersAt h.line.now h.at k out (Ok r.at) out' → ReadsNumbers h.line.now h.at k (then_some t out')
      go true m p = (m, λ i l. p.1.values i (omega (arith, p.0.0)))
      go false m p = m
