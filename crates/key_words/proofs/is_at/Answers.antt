use Rattle.std.proofs.Common.{sym, ◌∙◌}
use Rattle.key_words.proofs.Laws as law
use Rattle.key_words.proofs.is_at.Goals as goal
use Rattle.key_words.proofs.is_at.Goals.{then-s-at, else-s-at}

pub returns-else-s-at-2 : goal.returns-else-s-at-2
returns-else-s-at-2 c =
    let a = c.args in
    c.if-s-at-2.false
    ∙ sym (elim c.if-s-at.branch [
      | then-s-at w ↦ law.other_word a.s.now a.at a.key (sym w.value-is ∙ c.if-s-at-2.false)
      | else-s-at w ↦ law.other_length a.s.now a.at a.key w.if-s-at.false
    ])
