use Rattle.stream_events.proofs.Laws as law
use Rattle.stream_pieces.proofs.Laws as pieces
use native.Mathlib.Omega.{arith}
use borrow.Author.Rules.{rules}
use Rattle.stream_events.proofs.feed.Goals as goal

pub loop-out-init : goal.loop-out-init
loop-out-init c = search (rules, law.inv_start)

pub returns-then-end-piece : goal.returns-then-end-piece
returns-then-end-piece c = search (rules, law.feeds_ended)

pub slice_bounds-one-end : goal.slice_bounds-one-end
slice_bounds-one-end c = search (rules, law.feed_part_end)

pub overflow_add-used : goal.overflow_add-used
overflow_add-used c =
    law.feed_fits _ _ _ _ _ _ _ _ _ _ _ _ c.loop-out.invariant.0 _ c.line_end-end.ensures c.loop-out-test.true c.if-end-piece.false _ _ _ _ _ _ c.one-used.ensures.writes (omega (arith, c.well_formed.1.1.1.0.1))

pub overflow_add-place : goal.overflow_add-place
overflow_add-place c =
    pieces.next_fits _ _ _ c.loop-out.invariant.0.within c.line_end-end.ensures c.if-end-piece.false (omega (arith, c.well_formed.0.1))

pub loop-out-smaller : goal.loop-out-smaller
loop-out-smaller c = pieces.next_less _ _ _ c.loop-out.invariant.0.within c.line_end-end.ensures c.if-end-piece.false

pub loop-out-preserved : goal.loop-out-preserved
loop-out-preserved c =
    (law.inv_turn _ _ _ _ _ _ _ _ _ _ _ _ c.loop-out.invariant.0 _ c.line_end-end.ensures c.loop-out-test.true c.if-end-piece.false _ _ _ _ _ _ c.one-used.ensures.writes, search rules)

pub returns : goal.returns
returns c = search (rules, law.feeds_full)
