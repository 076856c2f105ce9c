use Rattle.inty.specs.Value.{value_of}
use Rattle.roster_ranges.specs.Range.{below, above}
use Rattle.roster_map.proofs.RangeMapMut.set.Given as goal

abbrev pub ghost-pass : goal.ghost-pass
ghost-pass a = below (value_of a.keep.0.now)

abbrev pub ghost-pass-2 : goal.ghost-pass-2
ghost-pass-2 a = above (value_of a.keep.0.now)
