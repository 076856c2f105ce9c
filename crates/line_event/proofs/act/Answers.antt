use Rattle.line_kind.specs.declared.Kind.TheVariants.{Node, Edit, Show, Heard, Record, Call, Unknown}
use Rattle.std.specs.Prelude.{Err, refl}
use Rattle.ids.specs.declared.Refusal.TheVariants.{Malformed}
use Rattle.line_event.proofs.Laws as law
use Rattle.line_event.proofs.act.Goals as goal

pub returns-in-Node-clause-follows : goal.returns-in-Node-clause-follows
returns-in-Node-clause-follows c =
    law.of_kind _ Node _ _ _ _ _ _ _ _ _ c.in-Node.is (law.node_line _ _ _ _ _ _ _ c.called.ensures.gives c.requires.0 _ _ _ _ c.node_line.ensures)

pub returns-in-Edit-clause-follows : goal.returns-in-Edit-clause-follows
returns-in-Edit-clause-follows c =
    law.of_kind _ (Edit _) _ _ _ _ _ _ _ _ _ c.in-Edit.is (law.edit_line _ _ _ _ _ _ _ c.edited.ensures.gives c.requires.0 c.edit_line.auto.rows _ _ _ c.population_of-population.ensures c.edit_line.ensures)

pub returns-in-Show-clause-follows : goal.returns-in-Show-clause-follows
returns-in-Show-clause-follows c =
    law.of_kind _ Show _ _ _ _ _ _ _ _ _ c.in-Show.is (law.show_line _ _ _ _ _ _ _ refl c.requires.0 c.requires.1 _ _ c.population_of-population-in-Show.ensures c.show_line.ensures)

pub returns-in-Heard-clause-follows : goal.returns-in-Heard-clause-follows
returns-in-Heard-clause-follows c =
    law.of_kind _ Heard _ _ _ _ _ _ _ _ _ c.in-Heard.is (law.heard_line_lem _ _ _ _ _ _ _ _ _ _ _ _ _ _ _ c.called-in-Heard.ensures.gives c.requires.0 c.requires.1 c.heard_line.ensures)

pub returns-in-Record-clause-follows : goal.returns-in-Record-clause-follows
returns-in-Record-clause-follows c =
    law.of_kind _ Record _ _ _ _ _ _ _ _ _ c.in-Record.is (law.call_line _ _ _ _ _ _ _ _ _ _ c.called-in-Record.ensures.gives c.requires.0 c.requires.1 c.record_line.ensures)

pub returns-in-Call-clause-follows : goal.returns-in-Call-clause-follows
returns-in-Call-clause-follows c =
    law.of_kind _ (Call _) _ _ _ _ _ _ _ _ _ c.in-Call.is (law.call_line _ _ _ _ _ _ _ _ _ _ c.called-in-Call.ensures.gives c.requires.0 c.requires.1 c.call_line.ensures)

pub returns-in-Unknown-clause-follows : goal.returns-in-Unknown-clause-follows
returns-in-Unknown-clause-follows c = let a = c.args in law.of_kind _ Unknown a.host.now a.buffers.now.mem.now a.buffers.now.rows.now a.buffers.now.area.now _ _ _ (Err Malformed) _ c.in-Unknown.is (law.unknown a.host.now a.buffers.now.mem.now a.buffers.now.rows.now a.buffers.now.area.now)
