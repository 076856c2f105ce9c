-- Trusted: document 01, "Why a call is turned away": the number of each refusal.
use Rattle.std.specs.Prelude.{ℕ, Result, Ok, Err}
use Rattle.ids.specs.declared.Refusal.{Refusal}
use Rattle.ids.specs.declared.Refusal.TheVariants.{Malformed, NotReady, NoSuchReplica, MaskTooWide, KeyTooLong, UnreadBound, RangeReversed, SlotTooLarge, BatchTooLarge, OwnGuard, BarsBroken, RosterMissing, BallotNotCurrent, SlotEnded, WindowFull, SlotNotHeld, TooManyRanges, TooManyKeys, TooManyReads, AreaTooSmall}

abbrev pub number_of : Refusal → ℕ
number_of Malformed = 1
number_of NotReady = 2
number_of NoSuchReplica = 3
number_of MaskTooWide = 4
number_of KeyTooLong = 5
number_of UnreadBound = 6
number_of RangeReversed = 7
number_of SlotTooLarge = 8
number_of BatchTooLarge = 9
number_of OwnGuard = 10
number_of BarsBroken = 11
number_of RosterMissing = 12
number_of BallotNotCurrent = 13
number_of SlotEnded = 14
number_of WindowFull = 15
number_of SlotNotHeld = 16
number_of TooManyRanges = 17
number_of TooManyKeys = 18
number_of TooManyReads = 19
number_of AreaTooSmall = 20

-- the number of a refusal, 0 where there is none
abbrev pub refused_by : {T : Type 0} → Result T Refusal → ℕ
refused_by (Ok x) = 0
refused_by (Err r) = number_of r
