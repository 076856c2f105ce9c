-- Bridge: whether an edit can begin; `set_responders` and `set_full` in two parts, the range that is asked for and what
-- storing it leaves; tied to `edit_result` by proofs/Laws.
use Rattle.std.specs.Prelude.{ℕ, List, ◌≡◌, ◌&&◌, if◌then◌else◌, Result, Ok, Err}
use Rattle.inty.specs.Value.{value_of}
use Rattle.roster_map.specs.declared.Row.{Row}
use Rattle.ids.specs.declared.Refusal.{Refusal}
use Rattle.ids.specs.declared.Refusal.TheVariants.{NotReady}
use Rattle.ids.specs.Refusal.{number_of}
use Rattle.roster_conf.specs.Conf.{Conf, set_responders}
use Rattle.roster_conf.specs.Edits.{holds_rows, in_range}
use Rattle.roster_conf.specs.Edit.{SetResponders, EditResult, refused, taken, edit_result, too_many}

abbrev pub ready : ℕ → ℕ → ℕ → Result (Unit {0}) Refusal
ready count len population = if holds_rows len count && in_range population then Ok tt else Err NotReady

abbrev pub stored : Conf → Row → Conf
stored c w = set_responders (value_of w.start) (value_of w.end) w.mask c

-- a roster of too many ranges is refused 17
abbrev pub storing : Conf → EditResult
storing c = if too_many c then refused 17 else taken c

-- what the edit answers, whatever the roster: a number, or that the row is stored
abbrev pub Asks : ℕ → List ℕ → List ℕ → ℕ → Result Row Refusal → Type 0
Asks population start end mask (Ok w) = (c : Conf) → edit_result population c (SetResponders start end mask) ≡ storing (stored c w)
Asks population start end mask (Err r) = (c : Conf) → edit_result population c (SetResponders start end mask) ≡ refused (number_of r)
