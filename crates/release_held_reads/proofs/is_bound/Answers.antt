use Rattle.std.proofs.Common.{◌∙◌, sym, inl, inr}
use Rattle.inst_cell.specs.Cell.{cell_of}
use Rattle.release_held_reads.proofs.Laws as law
use Rattle.release_held_reads.proofs.is_bound.Goals as goal

pub returns-in-Null : goal.returns-in-Null
returns-in-Null c = λ reqs reads.
    let h = law.bound_by c.args.quorum (cell_of c.args.cell) reqs reads in
    elim c.in-Null.is [ inl e ↦ sym (h ∙ (simp e)) | inr e ↦ sym (h ∙ (simp e)) ]

pub returns-in-Accepting : goal.returns-in-Accepting
returns-in-Accepting c = λ reqs reads.
    c.has_quorum.ensures ∙ sym (law.bound_by c.args.quorum (cell_of c.args.cell) reqs reads ∙ (simp c.in-Accepting.is))

pub returns-in-Committed : goal.returns-in-Committed
returns-in-Committed c = λ reqs reads.
    let h = law.bound_by c.args.quorum (cell_of c.args.cell) reqs reads in
    elim c.in-Committed.is [ inl e ↦ sym (h ∙ (simp e)) | inr e ↦ sym (h ∙ (simp e)) ]
