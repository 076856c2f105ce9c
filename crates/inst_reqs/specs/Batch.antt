-- Trusted: a slot's batch that lent words stand for.
use Rattle.std.specs.Prelude.{Bool, List, ◌∷◌, ℕ, ◌+◌, ◌*◌, eqb, get_or, if◌then◌else◌}
use Rattle.words.specs.Counted.{counted}
use Rattle.key_words.specs.Key.{key_at, words_of, bytes_of}
use Rattle.layout.specs.Layout.{request_places, request_row}
use Rattle.table.specs.Table as table
use Rattle.bodega.specs.Replica as machine
use Rattle.inst_reqs.specs.declared.Command.{Command}
use Rattle.inst_reqs.specs.declared.Command.TheVariants.{Get, Put}
use Rattle.inst_reqs.specs.declared.Request.{Request}

-- a request of the code, and its words
abbrev pub command_of : Command → machine.Command
command_of Get = machine.Get
command_of (Put v) = machine.Put v

abbrev pub request_of : Request → machine.Request
request_of q = record { client = q.client; request = q.request; key = bytes_of q.key; command = command_of q.command }

abbrev pub kind_of : Command → ℕ
kind_of Get = 0
kind_of (Put v) = 1

abbrev pub value_of : Command → ℕ
value_of Get = 0
value_of (Put v) = v

abbrev pub request_words : Request → List ℕ
request_words q = q.client ∷ q.request ∷ kind_of q.command ∷ value_of q.command ∷ words_of q.key

-- a kind of 1 is a Put, any other a Get
abbrev pub command_at : ℕ → ℕ → machine.Command
command_at kind value = if eqb kind 1 then machine.Put value else machine.Get

-- the request at word p, and the i-th
unfoldable pub request_from : List ℕ → ℕ → machine.Request
request_from s p = record {
  client = get_or s p 0;
  request = get_or s (p + 1) 0;
  key = bytes_of (key_at s (p + 4));
  command = command_at (get_or s (p + 2) 0) (get_or s (p + 3) 0);
}

abbrev pub request_at : List ℕ → ℕ → machine.Request
request_at s i = request_from s (1 + i * request_row)

-- the requests, on any words
abbrev pub requests_of : List ℕ → List machine.Request
requests_of s = counted request_from request_row request_places s

-- what a push leaves on the words s: the answer, and the words t
abbrev pub Pushes : List ℕ → machine.Request → Bool → List ℕ → Type 0
Pushes s q r t = table.Pushes request_from request_row request_places s q r t
