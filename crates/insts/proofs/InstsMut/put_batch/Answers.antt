use Rattle.std.proofs.Common.{refl, sym, ◌≡◌, ◌∙◌, ap, take, arith, List, ℕ}
use Rattle.std.proofs.lemmas.List.{length-take-le}
use Rattle.layout.specs.Layout.{batch_words}
use Rattle.inst_reqs.specs.Batch.{requests_of}
use Rattle.words.specs.Part.{part, length_part}
use Rattle.insts.specs.Slots.{batch_start, place_of}
use Rattle.insts.proofs.Laws as law
use Rattle.insts.proofs.InstsMut.put_batch.Goals as goal

pub copy_from_slice-requires : goal.copy_from_slice-requires
unfolding part
copy_from_slice-requires c =
    let a = c.args in
    let e = c.batch_at-a.ensures ∙ ap batch_start c.place.ensures.0 in
    rw (e, law.width (batch_start (place_of a.slot.0)) batch_words)
    (length_part a.self.now.words.now (batch_start (place_of a.slot.0)) batch_words (omega (arith, a.self.now.whole, law.place a.slot.0)) ∙ sym (length-take-le batch_words a.batch.words.now a.batch.whole))

pub returns : goal.returns
returns c =
    let a = c.args in
    let w : List ℕ = a.batch.words.now in
    let e : requests_of (take batch_words w) ≡ requests_of w = law.requests_of_part w in
    record {
      same_reference = refl;
      puts =
          rw e at (law.batch_copied a.self.now.words.now _ a.self.now.whole (law.place a.slot.0) _ (c.batch_at-a.ensures ∙ ap batch_start c.place.ensures.0) _ (take batch_words w)
          (length-take-le batch_words w a.batch.whole) c.copy_from_slice.ensures.after);
    }
