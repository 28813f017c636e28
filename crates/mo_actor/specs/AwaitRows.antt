-- Outgoing calls and their answers: Motoko language manual, sections "Async", "Await", "Throw" and "Try"; IC interface
-- specification, section Callback invocation.
use Rattle.std.specs.Prelude.{List, [], ◌∷◌, ◌++◌, codes}
use Rattle.play_script.specs.declared.event.Event.{Event}
use Rattle.play_script.specs.declared.event.Event.TheVariants as event
use Rattle.play_script.specs.declared.item.Item.{Item}
use Rattle.play_script.specs.declared.item.Item.TheVariants as item
use Rattle.mo_actor.specs.Commands.{NoResult, ANumber, AText, Command, Add, Load, Put, Increase, Send, Await, TryAwait, ReplyNumber, ReplyText, empty, nat_message, text_message}
use Rattle.mo_actor.specs.CommandPrograms.{Source}
use Rattle.mo_actor.specs.Rows.{Row, row, method, actor, call, query, reply, trapped, no_answer, calls_f, resumes, assertion}

abbrev send_f : Command
send_f = Send [] (codes "f") NoResult

abbrev going : List Command → Source
going cs = actor (method (codes "go") cs ∷ [])

-- An await commits; a trap behind it gives back the state at the await.
abbrev await_commits : Row
await_commits =
    row (going (Add 1 ∷ send_f ∷ Await 0 ∷ Add 1 ∷ assertion ∷ [])) (call (codes "go") ∷ reply 0 ∷ query (codes "get") ∷ [])
    (calls_f 0 ∷ trapped (codes "assertion failed") ∷ no_answer 0 ∷ item.Replied 1 (nat_message 1) ∷ [])

-- Two activations of one method, each with its own number over the await.
abbrev interleaved : Row
interleaved =
    row (going (Load ∷ send_f ∷ Await 0 ∷ Increase 1 ∷ Put ∷ [])) (call (codes "go") ∷ call (codes "go") ∷ reply 0 ∷ reply 1 ∷ query (codes "get") ∷ [])
    (calls_f 0 ∷ calls_f 1 ∷ item.Replied 0 empty ∷ item.Replied 1 empty ∷ item.Replied 2 (nat_message 1) ∷ [])

abbrev two_numbers : Source
two_numbers = going (Send [] (codes "f") ANumber ∷ Send [] (codes "f") ANumber ∷ Await 0 ∷ Await 1 ∷ ReplyNumber ∷ [])

abbrev two_events : List Event
two_events = call (codes "go") ∷ event.Reply 1 (nat_message 5) ∷ event.Reply 0 (nat_message 4) ∷ reply 2 ∷ []

abbrev two_items : List Item
two_items = calls_f 0 ∷ calls_f 1 ∷ resumes 2 ∷ item.Replied 0 (nat_message 9) ∷ []

-- An answer that nobody waits for fills its future; an await of an answered future calls `__resume`.
abbrev answered_future : Row
answered_future = row two_numbers two_events two_items

-- A second answer, and one to a call that was never made, mean nothing.
abbrev second_answers : Row
second_answers =
    row two_numbers (two_events ++ reply 2 ∷ reply 99 ∷ event.Reject 99 4 [] ∷ event.Reply 0 (nat_message 4) ∷ event.Reject 1 4 [] ∷ [])
    (two_items ++ item.Ignored ∷ item.Ignored ∷ item.Ignored ∷ item.Ignored ∷ item.Ignored ∷ [])

abbrev again : Source
again = going (send_f ∷ Await 0 ∷ Await 0 ∷ [])

-- A future is awaited twice. The bytes of a reply to `__resume` are not read, and a reject of it is thrown.
abbrev awaited_twice : Row
awaited_twice = row again (call (codes "go") ∷ reply 0 ∷ event.Reply 1 (255 ∷ []) ∷ []) (calls_f 0 ∷ resumes 1 ∷ item.Replied 0 empty ∷ [])

abbrev resume_rejected : Row
resume_rejected = row again (call (codes "go") ∷ reply 0 ∷ event.Reject 1 4 (codes "no") ∷ []) (calls_f 0 ∷ resumes 1 ∷ item.Rejected 0 4 (codes "no") ∷ [])

-- A reject is thrown at the await; what leaves the body rejects with code 4, whatever code the error had.
abbrev errors : Row
errors =
    row (actor (method (codes "a") (send_f ∷ TryAwait 0 ∷ ReplyText (codes "ok") ∷ []) ∷ method (codes "b") (send_f ∷ Await 0 ∷ []) ∷ []))
    (call (codes "a") ∷ event.Reject 0 4 (codes "no") ∷ call (codes "b") ∷ event.Reject 1 2 (codes "no") ∷ [])
    (calls_f 0 ∷ item.Replied 0 (text_message (codes "no")) ∷ calls_f 1 ∷ item.Rejected 1 4 (codes "no") ∷ [])

-- While another future is awaited, a reject is thrown only at the await of its own.
abbrev reject_waits : Row
reject_waits =
    row (going (send_f ∷ send_f ∷ TryAwait 0 ∷ Await 1 ∷ [])) (call (codes "go") ∷ event.Reject 1 4 (codes "no") ∷ reply 0 ∷ reply 2 ∷ [])
    (calls_f 0 ∷ calls_f 1 ∷ resumes 2 ∷ item.Rejected 0 4 (codes "no") ∷ [])

-- A reply that does not read traps, though nobody waits for it. The method had replied.
abbrev ignored_reply : Row
ignored_reply =
    row (going (Send [] (codes "f") AText ∷ [])) (call (codes "go") ∷ event.Reply 0 (0 ∷ []) ∷ event.Reply 0 (text_message (codes "a")) ∷ [])
    (calls_f 0 ∷ item.Replied 0 empty ∷ trapped (codes "bad reply") ∷ item.Ignored ∷ [])

-- Its future is lost, and an await of it waits on nothing.
abbrev lost_future : Row
lost_future =
    row (going (Send [] (codes "f") AText ∷ send_f ∷ Await 1 ∷ Await 0 ∷ [])) (call (codes "go") ∷ event.Reply 0 (0 ∷ []) ∷ reply 1 ∷ [])
    (calls_f 0 ∷ calls_f 1 ∷ trapped (codes "bad reply") ∷ no_answer 0 ∷ [])

-- A trap on the answer that the owner waited for leaves it dead. It has an open call yet: only its answer ends the wait for one.
abbrev dead_owner : Row
dead_owner =
    row (going (send_f ∷ send_f ∷ Await 0 ∷ assertion ∷ [])) (call (codes "go") ∷ reply 0 ∷ reply 1 ∷ [])
    (calls_f 0 ∷ calls_f 1 ∷ trapped (codes "assertion failed") ∷ no_answer 0 ∷ [])

-- Every actor has the method `__resume`.
abbrev own_resume : Row
own_resume = row (actor []) (call (codes "__resume") ∷ []) (item.Replied 0 empty ∷ [])

abbrev pub await_rows : List Row
await_rows =
    await_commits ∷ interleaved ∷ answered_future ∷ second_answers ∷ awaited_twice ∷ resume_rejected ∷ errors ∷ reject_waits ∷ ignored_reply ∷ lost_future
    ∷ dead_owner ∷ own_resume ∷ []
