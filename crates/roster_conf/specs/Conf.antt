-- Trusted: keyrange.rs, `RespondersConf`, a roster (document 01, port order 3).
use Rattle.std.specs.Prelude.{ℕ, ◌-◌, ◌^◌, Bool, true, false, ◌&&◌, List, [], ◌∷◌, eqb, if◌then◌else◌}
use Rattle.std.specs.Prelude.{Option, None, Some}
use Rattle.words.specs.Choice.{if_none◌then◌else◌}
use Rattle.bitmap.specs.Bitmap.{set_to}
use Rattle.keys.specs.Read.{read_key}
use Rattle.roster_ranges.specs.Range.{Range, mask_at, overwrite, remasked}

-- the ranges ascend, and touching ones with equal masks are one (`Canon`); outside them the default holds
pub record Conf : Type 0 where
  pub leader : Option ℕ
  pub ranges : List Range
  pub default : ℕ

-- `empty`
abbrev pub empty : Conf
empty = record { leader = None; ranges = []; default = 0 }

-- `is_leader`
abbrev pub leads : Conf → ℕ → Bool
leads c id = if_none c.leader then false else λ l. eqb l id

-- `get_responders_by_key`. "A key that does not read has no roster at all"
unfoldable pub get_responders_by_key : Conf → List ℕ → Option ℕ
get_responders_by_key c key = if_none read_key key then None else λ n. Some (mask_at c.default c.ranges n)

-- `set_leader`
abbrev pub set_leader : ℕ → Conf → Conf
set_leader l c = record { leader = Some l; ranges = c.ranges; default = c.default }

-- `set_responders` for the keys from a to b
unfoldable pub set_responders : ℕ → ℕ → ℕ → Conf → Conf
set_responders a b mask c = record { leader = c.leader; ranges = overwrite c.ranges (record { from = a; to = b; mask = mask }); default = c.default }

-- `set_full`: "stores 0 to 2^128 − 1"
abbrev pub set_full : ℕ → Conf → Conf
set_full mask c = set_responders 0 (2 ^ 128 - 1) mask c

-- `into_filtered`: "clears its bit in each range and in the default, clears it as leader, and joins ranges that became
-- equal"
abbrev pub leader_without : ℕ → Option ℕ → Option ℕ
leader_without id leader = if_none leader then None else λ l. if eqb l id then None else Some l

unfoldable pub into_filtered : ℕ → Conf → Conf
into_filtered id c =
    record {
      leader = leader_without id c.leader;
      ranges = remasked (λ m. set_to m id false) c.ranges;
      default = set_to c.default id false;
    }

-- `reset_full`: "no leader, no ranges, default unchanged"
abbrev pub reset_full : Conf → Conf
reset_full c = record { leader = None; ranges = []; default = c.default }

-- `==`: rosters are compared as they are stored, and not key by key
abbrev pub same_leader : Option ℕ → Option ℕ → Bool
same_leader None None = true
same_leader None (Some y) = false
same_leader (Some x) None = false
same_leader (Some x) (Some y) = eqb x y

abbrev pub same_range : Range → Range → Bool
same_range x y = eqb x.from y.from && eqb x.to y.to && eqb x.mask y.mask

abbrev pub same_ranges : List Range → List Range → Bool
same_ranges [] [] = true
same_ranges [] (y ∷ ys) = false
same_ranges (x ∷ xs) [] = false
same_ranges (x ∷ xs) (y ∷ ys) = same_range x y && same_ranges xs ys

unfoldable pub same : Conf → Conf → Bool
same c d = same_leader c.leader d.leader && same_ranges c.ranges d.ranges && eqb c.default d.default
