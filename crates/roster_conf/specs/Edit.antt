-- Trusted: the edits of a roster (document 01's draft lines), and why one is refused.
use Rattle.std.specs.Prelude.{ℕ, Bool, true, false, ◌||◌, not, List, [], ltb, leb, length, if◌then◌else◌}
use Rattle.std.specs.Prelude.{Option}
use Rattle.words.specs.Choice.{if_none◌then◌else◌}
use Rattle.ids.specs.Limits.{key_bytes, ranges}
use Rattle.bitmap.specs.Bitmap.{fits}
use Rattle.keys.specs.Read.{read_key}
use Rattle.roster_conf.specs.Conf.{Conf, set_leader, set_responders, set_full, into_filtered, reset_full}
use Rattle.roster_conf.specs.Ground.{Ground, ◌when◌or◌, refusal}

pub data Edit : Type 0 where
  -- replica
  SetLeader : ℕ → Edit
  -- start and end as bytes, mask
  SetResponders : List ℕ → List ℕ → ℕ → Edit
  -- mask
  SetFull : ℕ → Edit
  -- replica
  IntoFiltered : ℕ → Edit
  ResetFull : Edit

-- a range whose two bounds read; where one does not, nothing changes
abbrev pub between : Option ℕ → Option ℕ → ℕ → Conf → Conf
between start end mask c = if_none start then c else λ a. if_none end then c else λ b. set_responders a b mask c

unfoldable pub edit : Conf → Edit → Conf
edit c (SetLeader r) = set_leader r c
edit c (SetResponders start end mask) = between (read_key start) (read_key end) mask c
edit c (SetFull mask) = set_full mask c
edit c (IntoFiltered r) = into_filtered r c
edit c ResetFull = reset_full c

abbrev pub long_key : List ℕ → Bool
long_key key = ltb key_bytes (length key)

abbrev pub unread : Option ℕ → Bool
unread k = if_none k then true else λ n. false

abbrev pub crossed : Option ℕ → Option ℕ → Bool
crossed start end = if_none start then false else λ a. if_none end then false else λ b. ltb b a

-- an edit needs more ranges than are stored at most
abbrev pub too_many : Conf → Bool
too_many c = ltb ranges (length c.ranges)

unfoldable pub grounds : ℕ → Conf → Edit → List Ground
grounds population c (SetLeader r) =
    3 when leb population r or
    []
grounds population c (SetResponders start end mask) =
    4 when not (fits mask population) or
    5 when long_key start || long_key end or
    6 when unread (read_key start) || unread (read_key end) or
    7 when crossed (read_key start) (read_key end) or
    17 when too_many (edit c (SetResponders start end mask)) or
    []
grounds population c (SetFull mask) =
    4 when not (fits mask population) or
    17 when too_many (edit c (SetFull mask)) or
    []
grounds population c (IntoFiltered r) =
    3 when leb population r or
    []
grounds population c ResetFull = []

pub data EditResult : Type 0 where
  refused : ℕ → EditResult
  taken : Conf → EditResult

unfoldable pub edit_result : ℕ → Conf → Edit → EditResult
edit_result population c e = if_none refusal (grounds population c e) then taken (edit c e) else refused
