-- Trusted: the one statement that every public edit meets: a roster is the struct and its lent words, 64 rows of five.
use Rattle.std.specs.Prelude.{ℕ, ◌≤◌, ◌≡◌, Bool, ◌&&◌, List, leb, length, if◌then◌else◌, Result, Ok, Err}
use Rattle.std.specs.Prelude.{Option}
use Rattle.ids.specs.Leader.{leader_of}
use Rattle.ids.specs.Limits.{ranges, replicas}
use Rattle.words.specs.Part.{Untouched}
use Rattle.layout.specs.Layout.{roster_words}
use Rattle.roster_map.specs.Rows.{ranges_of}
use Rattle.roster_conf.specs.declared.RespondersConf.{RespondersConf}
use Rattle.ids.specs.declared.Refusal.{Refusal}
use Rattle.ids.specs.declared.Refusal.TheVariants.{NotReady}
use Rattle.ids.specs.Refusal.{number_of}
use Rattle.roster_conf.specs.Conf.{Conf, get_responders_by_key}
use Rattle.roster_conf.specs.Edit.{Edit, EditResult, refused, taken, edit_result}

-- the roster that the struct and its words stand for
unfoldable pub view : RespondersConf → List ℕ → Conf
view c rows = record { leader = leader_of c.leader; ranges = ranges_of rows c.count; default = c.default }

-- the words hold 64 rows, and no more are counted
abbrev pub holds_rows : ℕ → ℕ → Bool
holds_rows len count = leb roster_words len && leb count ranges

-- "population 1 to 64"
abbrev pub in_range : ℕ → Bool
in_range population = leb 1 population && leb population replicas

unfoldable pub due : ℕ → RespondersConf → List ℕ → Edit → EditResult
due population c rows e = if holds_rows (length rows) c.count && in_range population then edit_result population (view c rows) e else refused 2

-- the roster that is left: what the edit makes of it, in 64 rows or fewer; words past them stay as they were
pub record Leaves (c : Conf) (before : List ℕ) (d : RespondersConf) (after : List ℕ) : Type 0 where
  pub roster : view d after ≡ c
  pub few : d.count ≤ ranges
  pub beyond : Untouched roster_words before after

-- a refusal gives the number, and the words stay as they were
abbrev pub Gives : EditResult → Result RespondersConf Refusal → List ℕ → List ℕ → Type 0
Gives (refused n) (Err r) before after = (number_of r ≡ n) × (after ≡ before)
Gives (refused n) (Ok d) before after = ⊥
Gives (taken c) (Err r) before after = ⊥
Gives (taken c) (Ok d) before after = Leaves c before d after

abbrev pub Edits : Edit → ℕ → RespondersConf → List ℕ → Result RespondersConf Refusal → List ℕ → Type 0
Edits e population c before r after = Gives (due population c before e) r before after

-- the mask of a key, where it has a roster; refused where the rows are not whole
unfoldable pub lookup : RespondersConf → List ℕ → List ℕ → Result (Option ℕ) Refusal
lookup c rows key = if holds_rows (length rows) c.count then Ok (get_responders_by_key (view c rows) key) else Err NotReady
