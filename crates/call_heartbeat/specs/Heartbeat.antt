-- Trusted: the roster that a heartbeat carries, and whether its words are whole. What the code tests is a bridge, tied
-- to `grounds` by proofs/Refusals.
use Rattle.std.specs.Prelude.{◌≡◌, Bool, true, false, ◌&&◌, ◌||◌, not, List, [], ℕ, ◌≤◌, ltb, leb, if◌then◌else◌}
use Rattle.std.specs.Prelude.{Option, None, Some, option_map}
use Rattle.words.specs.Choice.{if_none◌then◌else◌}
use Rattle.roster_conf.specs.Conf.{Conf, leads}
use Rattle.roster_conf.specs.Edits.{view as roster_of}
use Rattle.roster_conf.specs.Ground.{Ground, ◌when◌or◌}
use Rattle.roster_conf.specs.declared.RespondersConf.{RespondersConf}
use Rattle.bodega.specs.Replica.{Replica, Done, done, ◌and_then◌}
use Rattle.bodega.specs.Conflease.{any_open, heard_new_conf}
use Rattle.bodega.specs.Heartbeat.{installs, heard_bars}
use Rattle.bodega.specs.Grounds.{far, unformed, foreign_leader, foreign_mask}
use Rattle.node.specs.declared.Node.{Node}
use Rattle.node.specs.View.{view}
use Rattle.become_a_leader.specs.StepUp.{slots_after}
use Rattle.heard_new_conf.specs.Does.{whole}

-- an attached roster that is not whole is refused, 2, like a lent buffer that is too short
abbrev pub fitting : Option RespondersConf → List ℕ → Bool
fitting o rows = if_none o then true else λ c. whole c.count rows

-- the roster that is attached, where one is, with the rows that are lent beside it
abbrev pub carried : Option RespondersConf → List ℕ → Option Conf
carried o rows = option_map (λ c. roster_of c rows) o

-- "12. A heartbeat has a higher ballot and no roster"
abbrev pub lacks_roster : {A : Type 0} → ℕ → ℕ → Option A → Bool
lacks_roster seen ballot o = ltb seen ballot && (if_none o then true else λ c. false)

-- the grounds before 15
abbrev pub early : ℕ → ℕ → ℕ → ℕ → Option Conf → ℕ → ℕ → ℕ → List Ground
early population seen peer ballot conf commit exec snap =
    2 when unformed conf or
    3 when leb population peer || foreign_leader population conf or
    4 when foreign_mask population conf or
    8 when far commit || far exec || far snap or
    12 when lacks_roster seen ballot conf or
    []

-- the attached roster, where it is to be installed
abbrev pub installed : Replica → ℕ → ℕ → Option Conf → Option Conf
installed r peer ballot conf = if_none conf then None else λ c. if installs r peer ballot c then Some c else None

-- 15: `appends`, of the roster that is to be installed
abbrev pub appending : Replica → ℕ → Option Conf → Bool
appending r ballot o = if_none o then false else λ c. leb r.bal.max_seen ballot && leads c r.me.id && not (any_open r.insts)

-- `heard_heartbeat` at a ballot that is not lower, of the roster that is to be installed
abbrev pub conf_by : Option Conf → ℕ → Replica → Done
conf_by o ballot r = if_none o then done r [] else λ c. heard_new_conf r ballot c

unfoldable pub heard_by : Option Conf → ℕ → ℕ → ℕ → ℕ → ℕ → Replica → Done
heard_by o peer ballot commit exec snap r = conf_by o ballot r and_then heard_bars peer ballot commit exec snap

-- an adoption's roster is whole, and at a step-up there is room for the slot that it may append
pub record Installable (n : Node) (m : List ℕ) (o : Option RespondersConf) (rows : List ℕ) : Type 0 where
  pub roster : fitting o rows ≡ true
  pub room : (c : RespondersConf) → o ≡ Some c → leads (roster_of c rows) n.id.0 ≡ true → slots_after n.slots (view n m).insts ≤ 32
