-- Trusted: document 01, "Why a call is turned away": for each call the grounds that it can meet, by number. Those of
-- lines (1), of lent buffers (2) and of roster edits (6, 7, 17) are not among them.
use Rattle.std.specs.Prelude.{ℕ, ◌+◌, ◌-◌, Bool, true, false, ◌&&◌, ◌||◌, not, List, [], ◌∷◌, ltb, leb, eqb, length, take, if◌then◌else◌}
use Rattle.std.specs.Prelude.{Option}
use Rattle.roster_ranges.specs.Range.{Range}
use Rattle.roster_conf.specs.Ground.{Ground, ◌when◌or◌}
use Rattle.roster_conf.specs.Edit.{long_key}
use Rattle.words.specs.Choice.{if_none◌then◌else◌}
use Rattle.ids.specs.Limits.{window, hold, keys, batch, top}
use Rattle.bitmap.specs.Bitmap.{fits}
use Rattle.roster_conf.specs.Conf.{Conf, leads}
use Rattle.roster_conf.specs.EditList.{is_good}
use Rattle.bodega.specs.Replica.{Request, Instance, Replica, Call, Heartbeat, Guard, Prepared, Record, Reply, Notice, CommitNotice, Bars, Read, Release, is_open, is_leader, end, inst_at}
use Rattle.bodega.specs.Localread.{refresh_highest_slot, ReadAnswer, Found, Missing, FromStore, Consensus, HeldBy, Again}
use Rattle.bodega.specs.Request.{read_answer}
use Rattle.bodega.specs.Conflease.{any_open}
use Rattle.bodega.specs.Heartbeat.{installs}

abbrev pub any : {A : Type 0} → (A → Bool) → List A → Bool
any f [] = false
any f (x ∷ xs) = f x || any f xs

-- ---- tests

-- 2, 3, 4: of a heartbeat's roster. 2: one that no edits make, more than 64 ranges or ranges that do not ascend,
-- disjoint and joined; the Rust can hold none
abbrev pub unformed : Option Conf → Bool
unformed conf = if_none conf then false else λ c. not (is_good c)

abbrev pub foreign_leader : ℕ → Option Conf → Bool
foreign_leader population conf = if_none conf then false else λ c. if_none c.leader then false else λ l. leb population l

abbrev pub foreign_mask : ℕ → Option Conf → Bool
foreign_mask population conf =
    if_none conf then false else λ c. any (λ (x : Range). not (fits x.mask population)) c.ranges || not (fits c.default population)

-- 8
abbrev pub far : ℕ → Bool
far bar = ltb top bar

-- 14, 16
abbrev pub is_closed : Replica → ℕ → Bool
is_closed r slot = if_none inst_at r slot then false else λ i. not (is_open i.status)

abbrev pub is_held : Replica → ℕ → Bool
is_held r slot = if_none inst_at r slot then false else λ i. true

-- 11
abbrev pub holds : Instance → Bool
holds i = if_none i.replica_bk then false else λ b. ltb 0 (length b.holding)

abbrev pub falls : Replica → ℕ → ℕ → ℕ → Bool
falls r start commit exec = ltb start r.bar.start || ltb commit r.bar.commit || ltb exec r.bar.exec

abbrev pub ordered : Replica → ℕ → ℕ → ℕ → Bool
ordered r start commit exec = leb start exec && leb exec commit && leb commit (end r)

abbrev pub uncommitted : Replica → ℕ → Bool
uncommitted r commit = any (λ (i : Instance). is_open i.status) (take (commit - r.bar.start) r.insts)

abbrev pub drops_reads : Replica → ℕ → Bool
drops_reads r start = any holds (take (start - r.bar.start) r.insts)

-- 13: what *record* must be at
abbrev pub current : Replica → ℕ
current r = if is_leader r then r.bal.prepared else r.bal.max_seen

-- 15: the roster would be installed, makes this replica leader, and no held slot is open, so that one is appended
abbrev pub appends : Replica → ℕ → ℕ → Option Conf → Bool
appends r peer ballot conf =
    if_none conf then false else λ c.
    leb r.bal.max_seen ballot && installs r peer ballot c && leads c r.me.id && not (any_open r.insts)

abbrev pub no_room : Replica → Bool
no_room r = leb window (length r.insts) || far (end r)

-- 19
abbrev pub full : Replica → ℕ → Bool
full r slot = if_none inst_at r slot then false else λ i. if_none i.replica_bk then false else λ b. leb hold (length b.holding)

abbrev pub overfills : Replica → ReadAnswer → Bool
overfills r (Found v) = false
overfills r Missing = false
overfills r FromStore = false
overfills r Consensus = false
overfills r (HeldBy slot) = full r slot
overfills r Again = false

-- ---- the list, ascending

unfoldable pub grounds : Replica → Call → List Ground
grounds r (Heartbeat peer ballot conf commit exec snap) =
    2 when unformed conf or
    3 when leb r.me.population peer || foreign_leader r.me.population conf or
    4 when foreign_mask r.me.population conf or
    8 when far commit || far exec || far snap or
    12 when ltb r.bal.max_seen ballot && (if_none conf then true else λ c. false) or
    15 when appends r peer ballot conf && no_room r or
    []
grounds r (Guard peer number bar) =
    3 when leb r.me.population peer or
    8 when far bar or
    10 when eqb peer r.me.id or
    []
grounds r (Prepared ballot) =
    13 when not (is_leader r) || eqb ballot 0 || not (eqb ballot r.bal.prep_sent) or
    []
grounds r (Record slot ballot reqs) =
    5 when any (λ (q : Request). long_key q.key) reqs or
    8 when far slot or
    9 when ltb batch (length reqs) or
    13 when not (eqb ballot (current r)) || eqb (current r) 0 or
    14 when ltb slot r.bar.start || is_closed r slot or
    15 when leb (r.bar.start + window) slot or
    18 when ltb keys (length (refresh_highest_slot slot reqs r.highest_slot)) or
    []
grounds r (Reply peer slot ballot) =
    3 when leb r.me.population peer or
    8 when far slot or
    16 when leb r.bar.start slot && eqb ballot r.bal.prepared && not (is_held r slot) or
    []
grounds r (Notice peer slot ballot) =
    3 when leb r.me.population peer or
    8 when far slot or
    15 when not (is_leader r) && eqb ballot r.bal.max_seen && leb (r.bar.start + window) slot or
    []
grounds r (CommitNotice peer ballot bar) =
    3 when leb r.me.population peer or
    8 when far bar or
    []
grounds r (Bars start accept commit exec) =
    8 when far start || far accept || far commit || far exec or
    11 when falls r start commit exec || not (ordered r start commit exec) || uncommitted r commit || drops_reads r start or
    []
grounds r (Read leases q) =
    5 when long_key q.key or
    19 when overfills r (read_answer r leases q.key) or
    []
grounds r (Release slot) =
    8 when far slot or
    16 when not (is_held r slot) or
    []
