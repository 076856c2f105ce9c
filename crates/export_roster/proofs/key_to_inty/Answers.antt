use Rattle.export_roster.proofs.Laws as law
use borrow.Author.Rules.{rules}
use Rattle.export_roster.proofs.key_to_inty.Goals as goal

pub returns-in-Some : goal.returns-in-Some
returns-in-Some c = search (rules, law.key_read)
