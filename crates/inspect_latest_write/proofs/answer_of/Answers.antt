use Rattle.std.proofs.Common.{inl, inr}
use Rattle.layout.specs.Layout.{slots_at, slot_words}
use Rattle.words.specs.Part.{part}
use Rattle.node.specs.View.{view}
use Rattle.inspect_latest_write.proofs.answer_of.Goals as goal

pub returns-in-FewLeases : goal.returns-in-FewLeases
returns-in-FewLeases c = λ m d.
    let g = c.improper.ensures m (part m slots_at slot_words) in
    elim c.in-FewLeases.is [
      | inl e ↦ rw e g
      | inr k ↦ elim k [ inl e ↦ rw e g | inr k ↦ elim k [ inl e ↦ rw e g | inr k ↦ elim k [ inl e ↦ rw e g | inr e ↦ rw e g ] ] ]
    ]

pub returns-in-NoSlot : goal.returns-in-NoSlot
returns-in-NoSlot c = λ m d. rw c.in-NoSlot.is (c.unwritten.ensures m (part m slots_at slot_words))

pub returns-in-Notices : goal.returns-in-Notices
returns-in-Notices c = λ m d.
    let w = c.waits_at.ensures (view c.args.node m) (part m slots_at slot_words) in
    elim c.in-Notices.is [ inl e ↦ rw e (w (rw e at d)) | inr e ↦ rw e (w (rw e at d)) ]
