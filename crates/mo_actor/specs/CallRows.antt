-- Incoming calls: their numbers, rejections, and traps. Motoko language manual, sections "Actors", "Shared functions" and
-- "Traps"; IC interface specification, sections Call initiation, Query call and Call context starvation.
use Rattle.std.specs.Prelude.{List, [], ◌∷◌, ◌++◌, true, codes}
use Rattle.play_script.specs.declared.event.Event.TheVariants as event
use Rattle.play_script.specs.declared.item.Item.TheVariants as item
use Rattle.mo_actor.specs.Commands.{NoResult, ANumber, Command, Add, Load, Print, Send, ReplyNumber, ReplyText, empty, nat_message}
use Rattle.mo_actor.specs.CommandPrograms.{Source}
use Rattle.mo_actor.specs.Rows.{Row, row, method, get, actor, call, query, trapped, no_answer, calls_f, assertion}

abbrev increment : List Command
increment = Add 1 ∷ Load ∷ ReplyNumber ∷ []

-- Calls are numbered from 0, and each sees what the ones before committed.
abbrev counter : Row
counter =
    row (actor (method (codes "inc") increment ∷ [])) (call (codes "inc") ∷ call (codes "inc") ∷ call (codes "inc") ∷ [])
    (item.Replied 0 (nat_message 1) ∷ item.Replied 1 (nat_message 2) ∷ item.Replied 2 (nat_message 3) ∷ [])

abbrev no_method : Row
no_method = row (actor []) (call (codes "x") ∷ query (codes "inc") ∷ []) (item.Rejected 0 5 (codes "no method") ∷ item.Rejected 1 5 (codes "no method") ∷ [])

-- A trap undoes what its execution wrote, and the call is left without an answer.
abbrev trap_undoes : Row
trap_undoes =
    row (actor (method (codes "bad") (Add 1 ∷ assertion ∷ []) ∷ [])) (call (codes "bad") ∷ query (codes "get") ∷ [])
    (trapped (codes "assertion failed") ∷ no_answer 0 ∷ item.Replied 1 (nat_message 0) ∷ [])

-- It undoes calls too, which never get numbers; prints stay.
abbrev trap_undoes_calls : Row
trap_undoes_calls =
    row (actor (method (codes "bad") (Print (codes "a") ∷ Send [] (codes "f") NoResult ∷ assertion ∷ []) ∷ method (codes "go") (Send [] (codes "f") NoResult ∷ []) ∷ []))
    (call (codes "bad") ∷ call (codes "go") ∷ [])
    (item.Print (codes "a") ∷ trapped (codes "assertion failed") ∷ no_answer 0 ∷ calls_f 0 ∷ item.Replied 1 empty ∷ [])

-- A message of other types is no argument.
abbrev bad_argument : Row
bad_argument =
    row (actor []) (event.Call true (codes "get") (4 ∷ []) (nat_message 0) ∷ event.Call true (codes "get") (4 ∷ []) (empty ++ 0 ∷ []) ∷ [])
    (trapped (codes "bad argument") ∷ no_answer 0 ∷ trapped (codes "bad argument") ∷ no_answer 1 ∷ [])

abbrev with_queries : Source
with_queries = record {
  updates = method (codes "both") (ReplyText (codes "update") ∷ []) ∷ [];
  queries = get ∷ method (codes "q") increment ∷ method (codes "bad") (Print (codes "p") ∷ Add 1 ∷ assertion ∷ []) ∷ method (codes "both") (ReplyText (codes "query") ∷ []) ∷ [];
  initial = [];
  before_upgrade = [];
  after_upgrade = [];
  stable = ANumber;
}

-- A query method leaves no trace, whichever way it is called, but for the number of its call.
abbrev query_leaves_no_trace : Row
query_leaves_no_trace =
    row with_queries (call (codes "q") ∷ call (codes "q") ∷ query (codes "bad") ∷ query (codes "get") ∷ [])
    (item.Replied 0 (nat_message 1) ∷ item.Replied 1 (nat_message 1)
    ∷ item.Print (codes "p") ∷ trapped (codes "assertion failed") ∷ no_answer 2 ∷ item.Replied 3 (nat_message 0) ∷ [])

-- An update method comes before the query method of the same name, and only for calls.
abbrev update_first : Row
update_first =
    row with_queries (call (codes "both") ∷ query (codes "both") ∷ [])
    (item.Replied 0 (codes "DIDL" ++ 0 ∷ 1 ∷ 0x71 ∷ 6 ∷ codes "update") ∷ item.Replied 1 (codes "DIDL" ++ 0 ∷ 1 ∷ 0x71 ∷ 5 ∷ codes "query") ∷ [])

-- Prints, then calls in order, then the answer.
abbrev order_of_items : Row
order_of_items =
    row (actor (method (codes "go") (Send [] (codes "f") NoResult ∷ Print (codes "a") ∷ Send (1 ∷ []) (codes "g") NoResult ∷ Print (codes "b") ∷ []) ∷ [])) (call (codes "go") ∷ [])
    (item.Print (codes "a") ∷ item.Print (codes "b") ∷ calls_f 0 ∷ item.Call 1 (1 ∷ []) (codes "g") empty ∷ item.Replied 0 empty ∷ [])

abbrev pub call_rows : List Row
call_rows = counter ∷ no_method ∷ trap_undoes ∷ trap_undoes_calls ∷ bad_argument ∷ query_leaves_no_trace ∷ update_first ∷ order_of_items ∷ []
