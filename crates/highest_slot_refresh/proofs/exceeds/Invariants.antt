use Rattle.std.proofs.Common.{◌≡◌, ℕ, ◌≤◌}
use Rattle.ids.specs.Limits.{keys}
use Rattle.layout.specs.Layout.{request_places}
use Rattle.highest_slot.specs.Written.{written_of}
use Rattle.highest_slot_refresh.proofs.Laws.{After}
use Rattle.highest_slot_refresh.proofs.exceeds.Given as goal

abbrev pub invariant-loop-i : goal.invariant-loop-i
invariant-loop-i l =
    (l.i-end ≤ request_places) × (l.n ≤ keys) × ((slot : ℕ) → l.n ≡ After l.batch.words.now (written_of l.written.words.now) slot l.i)
