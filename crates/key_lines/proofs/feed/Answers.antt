use Rattle.key_lines.proofs.Laws as law
use Rattle.stream_pieces.proofs.Laws as pieces
use borrow.Author.Rules.{rules}
use Rattle.key_lines.proofs.feed.Goals as goal

pub returns-then-end-piece-clause-answered : goal.returns-then-end-piece-clause-answered
returns-then-end-piece-clause-answered c = search (rules, law.feed_end)

pub slice_bounds-answer_line-end : goal.slice_bounds-answer_line-end
slice_bounds-answer_line-end c = search (rules, pieces.line_within)

pub answer_line-requires : goal.answer_line-requires
answer_line-requires c = search (rules, law.feed_room)

pub loop-text-preserved : goal.loop-text-preserved
loop-text-preserved c = search (rules, pieces.next_within, law.feed_left, law.feed_line)
