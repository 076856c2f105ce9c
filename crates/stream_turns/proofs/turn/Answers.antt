use Rattle.stream_turns.proofs.Laws as law
use Rattle.stream_turns.proofs.turn.Goals as goal

pub returns-then-fed-clause-leaves : goal.returns-then-fed-clause-leaves
returns-then-fed-clause-leaves c = law.turns_full _ _ _ _ _ _ _ _ _ _ _ c.requires.1 c.feed-fed.ensures.writes c.if-fed.true

pub keep-left-requires : goal.keep-left-requires
keep-left-requires c = (law.within_end _ _ _ c.requires.1 c.feed-fed.ensures.writes.within, c.requires.1)

pub returns-clause-leaves : goal.returns-clause-leaves
returns-clause-leaves c =
    law.turns_ended _ _ _ _ _ _ _ _ _ _ _ c.requires.1 c.feed-fed.ensures.writes _ _ c.if-fed.false c.requires.2 c.keep-left.ensures
