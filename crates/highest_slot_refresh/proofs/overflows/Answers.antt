use Rattle.highest_slot_refresh.proofs.Laws as law
use Rattle.highest_slot_refresh.proofs.overflows.Goals as goal

pub returns-else-count-gt-KEYS : goal.returns-else-count-gt-KEYS
returns-else-count-gt-KEYS c = law.fits _ _ _ _ c.count-2.ensures.0 c.count.ensures.0 c.if-count-gt-KEYS.false
