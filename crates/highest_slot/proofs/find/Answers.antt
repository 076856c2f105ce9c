use Rattle.std.proofs.Common.{◌≡◌, true, false, rules}
use Rattle.std.proofs.lemmas.Iterator.{first_from_Range}
use borrow.Author.Tests.{tests}
use Rattle.keys.specs.Same.{same_bytes}
use Rattle.key_words.specs.Key.{bytes_of}
use Rattle.highest_slot.specs.Written.{entry_at}
use Rattle.highest_slot.proofs.Laws as law
use Rattle.highest_slot.proofs.find.Goals as goal

place : goal.returns-clause-place
place c =
    let a = c.args in
    law.first_is _ _ _ _ c.count.ensures.0
    (first_from_Range _ _ _ _ (λ k. same_bytes (entry_at a.written.words.now k).key (bytes_of a.key) ≡ true) (λ k. same_bytes (entry_at a.written.words.now k).key (bytes_of a.key) ≡ false) c.find.ensures.ran (λ x q k. search (rules, tests))
    (λ x q k. search (rules, tests)))

pub returns-clause-place : goal.returns-clause-place
returns-clause-place c = place c

pub returns-clause-below : goal.returns-clause-below
returns-clause-below c = law.all_placed _ _ _ (place c)
