-- Exhausted events: what they give, and what the exhaustion had cost by then. WebAssembly core 1.0, appendix
-- "Implementation Limitations", section "Execution".
use Rattle.std.specs.Prelude.{ℕ, List, [], ◌∷◌, ◌++◌, true, map, replicate, Option, Some, None, codes}
use Rattle.play_script.specs.declared.event.Event.{Event}
use Rattle.play_script.specs.declared.event.Event.TheVariants as event
use Rattle.play_script.specs.declared.item.Item.{Item}
use Rattle.play_script.specs.declared.item.Item.TheVariants as item
use Rattle.play_script.specs.declared.item.Word.{Word}
use Rattle.play_script.specs.declared.item.Word.TheVariants as word
use Rattle.mo_actor.specs.Measures.{Exhaustion}
use Rattle.mo_actor.specs.Computed.{Extent, ToItsEnd, ToALimit, Transcript, transcript_after, items_after}
use Rattle.mo_actor.specs.Commands.{NoResult, ANumber, AText, Add, Print, Work, Spin, Send, Await, ReplyNumber, empty, nat_message}
use Rattle.mo_actor.specs.CommandPrograms.{Source, program}
use Rattle.mo_actor.specs.Rows.{Row, own, whole, method, get, actor, call, query, reply, no_answer, calls_f, resumes, assertion}

abbrev exhaustions_in : Option Transcript → Option (List Exhaustion)
exhaustions_in None = None
exhaustions_in (Some t) = Some t.exhaustions

abbrev pub exhausted : List Row → List (Option (List Exhaustion))
exhausted rows = map (λ r. exhaustions_in (transcript_after r.extents (map program r.sources) own r.events)) rows

-- at this weight, with this weight charged before; one frame stands open, and the first memory is one page
abbrev pub exhausted_at : Word → (weight charged : ℕ) → Exhaustion
exhausted_at cause weight charged = record { cause = cause; weight = weight; depth = 16; charged = charged; first_memory = 65536 }

abbrev limited : List Source → List Event → List Extent → List Item → Row
limited sources events extents items = record { sources = sources; events = event.Install 0 ∷ events; extents = extents; items = items }

-- A loop without end, of which 24 turns are looked at. The message of 6 bytes counts too. The actor goes on.
abbrev endless : Row
endless =
    limited (actor (method (codes "spin") (Add 1 ∷ Spin ∷ []) ∷ []) ∷ []) (call (codes "spin") ∷ query (codes "get") ∷ [])
    (ToItsEnd 12 ∷ ToALimit 24 word.Steps 0 ∷ whole 1)
    (item.Installed ∷ item.Trapped word.Steps ∷ no_answer 0 ∷ item.Replied 1 (nat_message 0) ∷ [])

-- the message of a text of 749 letters, of 758 bytes
abbrev long_message : List ℕ
long_message = codes "DIDL" ++ 0 ∷ 1 ∷ 0x71 ∷ 0xed ∷ 0x05 ∷ replicate 749 97

-- An answer that only fills its future is an execution, too: it is paid by its bytes, and by what the call weighed that was
-- taken over before. Its future is lost then.
abbrev long_answer : Row
long_answer =
    limited (actor (method (codes "go") (Send [] (codes "t") AText ∷ Send [] (codes "f") NoResult ∷ Await 1 ∷ Await 0 ∷ ReplyNumber ∷ []) ∷ []) ∷ [])
    (call (codes "go") ∷ event.Reply 0 long_message ∷ reply 1 ∷ [])
    (whole 2 ++ ToALimit 0 word.Heap 0 ∷ whole 1)
    (item.Installed ∷ item.Call 0 [] (codes "t") empty ∷ calls_f 1 ∷ item.Trapped word.Heap ∷ no_answer 0 ∷ [])

abbrev workers : Source
workers = record {
  updates = method (codes "work") (Work 600 ∷ []) ∷ method (codes "bad") (Work 500 ∷ assertion ∷ []) ∷ [];
  queries = get ∷ method (codes "look") (Work 700 ∷ []) ∷ [];
  initial = Work 10 ∷ [];
  before_upgrade = Print (codes "a") ∷ [];
  after_upgrade = Print (codes "b") ∷ Print (codes "c") ∷ Spin ∷ [];
  stable = ANumber;
}

-- Weight is charged by the start and by what is taken over, not by queries nor by what trapped.
abbrev charged_weight : Row
charged_weight =
    limited (workers ∷ []) (call (codes "work") ∷ query (codes "look") ∷ call (codes "bad") ∷ call (codes "work") ∷ [])
    (whole 4 ++ ToALimit 1 word.Heap 0 ∷ [])
    (item.Installed ∷ item.Replied 0 empty ∷ item.Replied 1 empty ∷ item.Trapped (word.Text (codes "assertion failed")) ∷ no_answer 2 ∷ item.Trapped word.Heap ∷ no_answer 3 ∷ [])

-- A reply to `__resume` costs nothing to read. What was charged before are a call of weight 8 and an answer of weight 7.
abbrev resumed : Row
resumed =
    limited (actor (method (codes "go") (Send [] (codes "f") NoResult ∷ Await 0 ∷ Await 0 ∷ Work 5 ∷ Spin ∷ []) ∷ []) ∷ []) (call (codes "go") ∷ reply 0 ∷ event.Reply 1 (255 ∷ []) ∷ [])
    (whole 3 ++ ToALimit 1 word.Steps 0 ∷ [])
    (item.Installed ∷ calls_f 0 ∷ resumes 1 ∷ item.Trapped word.Steps ∷ no_answer 0 ∷ [])

-- In an upgrade the old program is exhausted over what was charged to it, and the new one over nothing. A part of the prints
-- may be missing. The old actor goes on.
abbrev upgrades : Row
upgrades =
    limited (workers ∷ []) (event.Upgrade 0 ∷ event.Upgrade 0 ∷ query (codes "get") ∷ [])
    (whole 1 ++ ToALimit 1 word.Stack 1 ∷ ToItsEnd 12 ∷ ToALimit 5 word.Steps 1 ∷ whole 1)
    (item.Installed ∷ item.Print (codes "a") ∷ item.Trapped word.Stack ∷ item.Print (codes "a") ∷ item.Print (codes "b") ∷ item.Trapped word.Steps ∷ item.Replied 0 (nat_message 0) ∷ [])

-- An argument that does not read is a reduction that traps, behind the 3 bytes that were looked at: before it they alone
-- count, and with it 1 more and the 12 bytes of the text.
abbrev misread : Row
misread =
    limited (actor [] ∷ []) (event.Call true (codes "get") (4 ∷ []) (1 ∷ 2 ∷ 3 ∷ []) ∷ event.Call true (codes "get") (4 ∷ []) (1 ∷ 2 ∷ 3 ∷ []) ∷ [])
    (whole 1 ++ ToALimit 0 word.Steps 0 ∷ ToALimit 1 word.Steps 0 ∷ [])
    (item.Installed ∷ item.Trapped word.Steps ∷ no_answer 0 ∷ item.Trapped word.Steps ∷ no_answer 1 ∷ [])

-- An installation that is exhausted leaves no canister.
abbrev installation : Row
installation =
    limited (actor [] ∷ []) (query (codes "get") ∷ []) (ToALimit 0 word.Heap 0 ∷ []) (item.Trapped word.Heap ∷ item.Rejected 0 3 (codes "no canister") ∷ [])

abbrev pub limit_rows : List Row
limit_rows = endless ∷ long_answer ∷ charged_weight ∷ resumed ∷ upgrades ∷ misread ∷ installation ∷ []

abbrev pub wanted_exhaustions : List (Option (List Exhaustion))
wanted_exhaustions =
    Some (exhausted_at word.Steps 30 0 ∷ [])
    ∷ Some (record (exhausted_at word.Heap 758 9) { depth = 0 } ∷ [])
    ∷ Some (exhausted_at word.Heap 607 618 ∷ [])
    ∷ Some (exhausted_at word.Steps 6 15 ∷ [])
    ∷ Some (exhausted_at word.Stack 1 11 ∷ exhausted_at word.Steps 5 0 ∷ [])
    ∷ Some (record (exhausted_at word.Steps 3 0) { depth = 0 } ∷ record (exhausted_at word.Steps 16 0) { depth = 0 } ∷ [])
    ∷ Some (exhausted_at word.Heap 0 0 ∷ [])
    ∷ []

-- Rows that have other extents: within too few turns there are no items, nor where a word names no limit.
abbrev pub unfinished : List (Option (List Item))
unfinished =
    map (λ extents. items_after extents (program workers ∷ []) own (event.Install 0 ∷ call (codes "work") ∷ []))
    ((ToItsEnd 0 ∷ ToItsEnd 12 ∷ []) ∷ (ToItsEnd 12 ∷ []) ∷ (ToItsEnd 12 ∷ ToALimit 1 word.Bounds 0 ∷ []) ∷ [])
