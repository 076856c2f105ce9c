-- Bridge: what a call or an edit leaves for the host; tied to `LineFollows` by proofs/Laws.
use Rattle.std.specs.Prelude.{Result, Ok, Err}
use Rattle.ids.specs.declared.Refusal.{Refusal}
use Rattle.roster_conf.specs.declared.RespondersConf.{RespondersConf}
use Rattle.node.specs.declared.Taken.{Taken}
use Rattle.line_host.specs.declared.Host.{Host}
use Rattle.line_host.specs.Follows.{LineTaken}

abbrev pub called : Host → Result Taken Refusal → Result LineTaken Refusal
called h (Ok t) = Ok (record { host = record { node = t.node; draft = h.draft }; count = t.count })
called h (Err r) = Err r

abbrev pub edited : Host → Result RespondersConf Refusal → Result LineTaken Refusal
edited h (Ok d) = Ok (record { host = record { node = h.node; draft = d }; count = 0 })
edited h (Err r) = Err r
