use Rattle.std.proofs.Common.{rules}
use Rattle.text.proofs.Laws as law
use Rattle.text.proofs.TextMut.put_wide_field.Goals as goal

pub put_wide-requires : goal.put_wide-requires
put_wide-requires c = law.field_room c.put_byte.ensures c.requires _ (search (rules, law.brief, law.brief_low))
