-- Bridge: *reply*, what the code tests, and what a reply that is waited on does to the slots' words and the answer
-- area; tied to `grounds` and `handle_msg_accept_reply` by proofs/Replies.
use Rattle.std.specs.Prelude.{◌≡◌, Bool, ◌&&◌, not, List, [], ◌++◌, ℕ, ◌+◌, ◌-◌, ◌≤◌, ◌<◌, ltb, leb, eqb, length, if◌then◌else◌}
use Rattle.std.specs.Prelude.{Option}
use Rattle.words.specs.Writes.{writes}
use Rattle.roster_conf.specs.Ground.{◌when◌or◌}
use Rattle.items.specs.Item.{Item, encode, places}
use Rattle.bodega.specs.Grounds.{far}
use Rattle.node.specs.View.{lowest, leads_it}
use Rattle.call_reply.specs.declared.Ack.{Ack}
use Rattle.call_reply.specs.Resends.{resends_of}
use Rattle.call_reply.specs.Acks.{commit_items, Acts}
use Rattle.std.specs.Prelude.{Result, Ok, Err}
use Rattle.ids.specs.declared.Refusal.{Refusal}
use Rattle.ids.specs.declared.Refusal.TheVariants.{AreaTooSmall}

-- 16: a slot from start on that is not held, under the ballot that is waited on
abbrev pub unheld : ℕ → ℕ → ℕ → ℕ → ℕ → Bool
unheld start slots prepared slot ballot = leb start slot && eqb ballot prepared && leb (start + slots) slot

abbrev pub reply_refusal : ℕ → ℕ → ℕ → ℕ → ℕ → ℕ → ℕ → ℕ
reply_refusal population start slots prepared peer slot ballot =
    lowest (3 when leb population peer or 8 when far slot or 16 when unheld start slots prepared slot ballot or [])

-- a reply that is not waited on is taken without effect
abbrev pub awaited : Option ℕ → ℕ → ℕ → ℕ → ℕ → ℕ → Bool
awaited leader id start prepared slot ballot = not (ltb slot start) && (eqb ballot prepared && leads_it leader id)

-- how many slots from the commit bar on are looked at: none upon the own reply
abbrev pub span : ℕ → ℕ → ℕ → ℕ → ℕ
span id peer commit slot = if eqb peer id then 0 else slot - commit

abbrev pub items_of : List ℕ → ℕ → ℕ → ℕ → ℕ → ℕ → Ack → List Item
items_of s id peer commit prepared slot a = resends_of s commit peer prepared (span id peer commit slot) ++ commit_items a slot

-- the items l and the ack a at place c, or 20 and all as it was where the area has too few places
abbrev pub Replies : List Item → Ack → ℕ → List ℕ → List ℕ → Result ℕ Refusal → List ℕ → List ℕ → Type 0
Replies l a c s area (Ok n) s' area' = (n ≡ length l) × (length l ≤ places area) × (area' ≡ writes area 0 (encode l)) × Acts a s c s'
Replies l a c s area (Err x) s' area' = (x ≡ AreaTooSmall) × (places area < length l) × (s' ≡ s) × (area' ≡ area)
