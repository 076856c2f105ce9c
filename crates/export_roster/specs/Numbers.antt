-- Trusted: the answers as numbers, for a caller that has no enums.
use Rattle.std.specs.Prelude.{ℕ, ◌/◌, ◌%◌, ◌^◌, ◌≡◌, List}
use Rattle.std.specs.Prelude.{Option, None, Some}
use Rattle.roster_conf.specs.declared.RespondersConf.{RespondersConf}
use Rattle.roster_conf.specs.Edit.{Edit, EditResult, refused, taken}
use Rattle.roster_conf.specs.Edits.{due, Leaves}
use Rattle.export_roster.specs.declared.Key.{Key}
use Rattle.export_roster.specs.declared.Count.{Count}
use Rattle.export_roster.specs.declared.Mask.{Mask}
use Rattle.std.specs.Prelude.{Result, Ok, Err}
use Rattle.ids.specs.declared.Refusal.{Refusal}
use Rattle.ids.specs.Refusal.{number_of}

-- 1 and the two halves of the number, or zeros
unfoldable pub key_of : Option ℕ → Key
key_of None = record { read = 0; hi = 0; lo = 0 }
key_of (Some n) = record { read = 1; hi = n / 2 ^ 64; lo = n % 2 ^ 64 }

-- a roster with no leader
abbrev pub plain : ℕ → ℕ → RespondersConf
plain count default = record { leader = None; count = count; default = default }

-- 0 and the new count, or the refusal and the count as it was
abbrev pub count_of : Result RespondersConf Refusal → ℕ → Count
count_of (Ok c) count = record { number = 0; count = c.count }
count_of (Err r) count = record { number = number_of r; count = count }

-- what an edit answers: the refusal, with the count and the words as they were; or 0, and the roster that is left has
-- still no leader and the default 0
abbrev pub Answers : EditResult → ℕ → List ℕ → Count → List ℕ → Type 0
Answers (refused n) count before r after = (r.number ≡ n) × (r.count ≡ count) × (after ≡ before)
Answers (taken c) count before r after = (r.number ≡ 0) × Leaves c before (plain r.count 0) after

abbrev pub Counts : Edit → ℕ → ℕ → List ℕ → Count → List ℕ → Type 0
Counts e population count before r after = Answers (due population (plain count 0) before e) count before r after

abbrev pub mask_of : Result (Option ℕ) Refusal → Mask
mask_of (Ok None) = record { found = 0; mask = 0 }
mask_of (Ok (Some m)) = record { found = 1; mask = m }
mask_of (Err r) = record { found = 2; mask = 0 }
