-- Futures that are awaited late, twice or never, and what a trap on an answer leaves: Motoko language manual, sections
-- "Await", "Async" and "Try"; IC interface specification, section "Call context".
use Rattle.std.specs.Prelude.{ℕ, List, [], ◌∷◌, ◌++◌, Option, codes}
use Rattle.play_script.specs.declared.event.Event.TheVariants as event
use Rattle.play_script.specs.declared.item.Item.{Item}
use Rattle.play_script.specs.declared.item.Item.TheVariants as item
use Rattle.mo_values.specs.declared.operation.Operation.TheVariants as op
use Rattle.typed_tree.specs.declared.action.Member.TheVariants as member
use Rattle.typed_tree.specs.Patterns.{Bind, Wildcard, Tagged}
use Rattle.typed_tree.specs.Language.{Exp, Val, Name, Switch, Group, Try, ACase, NoCase, NoFunction, unit, let_in, then, var_in}
use Rattle.mo_meaning.specs.ExampleTypes.{nat, nat32}
use Rattle.mo_meaning.specs.BenchRows.{goes, comes, the_variable, ask_f, ask_g, ask_t}
use Rattle.mo_meaning.specs.Playing.{Items, calls, queries, replied, trapped, no_answer, called, resumes, empty, nat_message, didl}
use Rattle.mo_meaning.specs.Writing.{number, operate, field_of, read, write, add_to, await, throw, call, built_in, assert_false, local}

abbrev pub rejected : ℕ → List ℕ → List Item
rejected n text = item.Rejected n 4 text ∷ []

-- ---- `let a = o.f(); await a; await a`: the bytes of the reply to `__resume` aren't read

abbrev pub twice : Exp
twice = let_in Bind (ask_f 0) (then (await (Name 0)) (await (Name 0)))

abbrev pub awaited_twice : Option Items
awaited_twice = goes [] twice (event.Reply 0 empty ∷ event.Reply 1 (0xff ∷ []) ∷ [])

abbrev pub wanted_awaited_twice : Option Items
wanted_awaited_twice = comes (called 0 (codes "f") ∷ resumes 1 ∷ replied 0 empty ∷ [])

abbrev pub resume_rejected : Option Items
resume_rejected = goes [] twice (event.Reply 0 empty ∷ event.Reject 1 4 (codes "no") ∷ [])

abbrev pub wanted_resume_rejected : Option Items
wanted_resume_rejected = comes (called 0 (codes "f") ∷ resumes 1 ∷ rejected 0 (codes "no") ∷ [])

-- ---- `ignore o.t()`: a reply that does not read traps, though nobody waits for it

abbrev pub bad_reply_alone : Option Items
bad_reply_alone = goes [] (then (ask_t 0) (Val unit)) (event.Reply 0 (0 ∷ []) ∷ [])

abbrev pub wanted_bad_reply_alone : Option Items
wanted_bad_reply_alone = comes ((called 0 (codes "t") ++ replied 0 empty) ∷ (trapped (codes "bad reply") ∷ []) ∷ [])

-- ---- `let a = o.t(); let b = o.f(); await b; ignore (await a)`: a future whose answer is lost is waited for in vain

abbrev pub lost_future : Option Items
lost_future =
    goes [] (let_in Bind (ask_t 0) (let_in Bind (ask_f 1) (then (await (Name 0)) (then (await (Name 1)) (Val unit)))))
    (event.Reply 0 (0 ∷ []) ∷ event.Reply 1 empty ∷ [])

abbrev pub wanted_lost_future : Option Items
wanted_lost_future = comes ((called 0 (codes "t") ++ called 1 (codes "f")) ∷ (trapped (codes "bad reply") ∷ []) ∷ (no_answer 0 ∷ []) ∷ [])

-- ---- `let a = o.f(); ignore o.f(); await a; assert false`: the owner is dead, and is rejected with its last answer; then no
-- call is open, so an upgrade goes on

abbrev pub dead_owner : Option Items
dead_owner = goes [] (let_in Bind (ask_f 0) (then (ask_f 1) (then (await (Name 0)) assert_false))) (event.Reply 0 empty ∷ event.Reply 1 empty ∷ event.Upgrade 0 ∷ [])

abbrev pub wanted_dead_owner : Option Items
wanted_dead_owner =
    comes ((called 0 (codes "f") ++ called 1 (codes "f")) ∷ (trapped (codes "assertion failed") ∷ []) ∷ (no_answer 0 ∷ []) ∷ (item.Upgraded ∷ []) ∷ [])

-- ---- `quiet` is a query method: whichever way it is called, it leaves nothing

abbrev pub query_leaves_nothing : Option Items
query_leaves_nothing = goes [] (Val unit) (calls (codes "quiet") ∷ queries (codes "quiet") ∷ queries (codes "get") ∷ [])

abbrev pub wanted_query_leaves_nothing : Option Items
wanted_query_leaves_nothing =
    comes (replied 0 empty ∷ (item.Print (codes "q") ∷ replied 1 (nat_message 2)) ∷ (item.Print (codes "q") ∷ replied 2 (nat_message 2)) ∷ replied 3 (nat_message 1) ∷ [])

-- ---- over an `await`: a variable that a function shares, a function before its `let`, the body of an object

-- `var i = 0; func inc() { i += 1 }; await o.f(); inc(); i`
abbrev pub shared_cell : Option Items
shared_cell =
    goes (nat ∷ [])
    (var_in (number 0) (Group (local 4 [] (add_to (Name 1) (number 1)) NoFunction) (then (await (ask_f 2)) (then (call (Name 0) []) (read (Name 1))))))
    (event.Reply 0 empty ∷ [])

abbrev pub wanted_shared_cell : Option Items
wanted_shared_cell = comes (called 0 (codes "f") ∷ replied 0 (nat_message 1) ∷ [])

-- `func k() : Nat { x }; let x = await o.g(); k()`
abbrev pub late_function : Option Items
late_function = goes (nat ∷ []) (let_in Bind (await (ask_g 0)) (Group (local 2 [] (Name 1) NoFunction) (call (Name 0) []))) (event.Reply 0 (nat_message 5) ∷ [])

-- `let q = object { let x = await o.g(); public func h() : Nat { x } }; q.h()`
abbrev pub object_waits : Option Items
object_waits =
    goes (nat ∷ [])
    (let_in Bind (let_in Bind (await (ask_g 0)) (Group (local 2 [] (Name 1) NoFunction) (operate (op.MakeObject (codes "h" ∷ [])) (Name 0 ∷ []))))
    (call (field_of (codes "h") (Name 0)) []))
    (event.Reply 0 (nat_message 5) ∷ [])

abbrev pub gives_five : Option Items
gives_five = comes (called 0 (codes "g") ∷ replied 0 (nat_message 5) ∷ [])

-- ---- `try { await o.f() } catch (e) { await o.f(); throw e }`: the error is kept over the second `await`

abbrev pub error_is_kept : Option Items
error_is_kept = goes [] (Try (await (ask_f 0)) Bind (then (await (ask_f 1)) (throw (Name 0)))) (event.Reject 0 4 (codes "no") ∷ event.Reply 1 empty ∷ [])

abbrev pub wanted_error_is_kept : Option Items
wanted_error_is_kept = comes (called 0 (codes "f") ∷ called 1 (codes "f") ∷ rejected 0 (codes "no") ∷ [])

-- ---- `let a = o.f(); let b = o.f(); try { await b } catch (_) { n := 5 }; await a`: the reject of a is not caught at b

abbrev pub other_future : Option Items
other_future =
    goes []
    (let_in Bind (ask_f 0) (let_in Bind (ask_f 1) (then (Try (await (Name 0)) Wildcard (write (the_variable 2) (number 5))) (await (Name 1)))))
    (event.Reject 0 4 (codes "no") ∷ event.Reply 1 empty ∷ event.Reply 2 empty ∷ queries (codes "get") ∷ [])

abbrev pub wanted_other_future : Option Items
wanted_other_future =
    comes ((called 0 (codes "f") ++ called 1 (codes "f")) ∷ [] ∷ resumes 2 ∷ rejected 0 (codes "no") ∷ replied 1 (nat_message 1) ∷ [])

-- ---- `try { await o.f(); 0 } catch (e) { switch (Error.code(e)) { case (#future n) n; case _ 1 } }`: codes without a name

abbrev pub code_of_reject : ℕ → Option Items
code_of_reject n =
    goes (nat32 ∷ [])
    (Try (then (await (ask_f 0)) (number 0)) Bind
    (Switch (call (built_in member.ErrorCode) (Name 0 ∷ [])) (ACase (Tagged (codes "future") Bind) (Name 0) (ACase Wildcard (number 1) NoCase))))
    (event.Reject 0 n [] ∷ [])

abbrev pub wanted_code : List ℕ → Option Items
wanted_code bytes = comes (called 0 (codes "f") ∷ replied 0 (didl (0 ∷ 1 ∷ 0x79 ∷ bytes)) ∷ [])

-- ---- all of them

abbrev pub futures : List (Option Items)
futures =
    awaited_twice ∷ resume_rejected ∷ bad_reply_alone ∷ lost_future ∷ dead_owner ∷ query_leaves_nothing
    ∷ shared_cell ∷ late_function ∷ object_waits ∷ error_is_kept ∷ other_future
    ∷ code_of_reject 7 ∷ code_of_reject 0 ∷ code_of_reject 4294967295 ∷ code_of_reject 5 ∷ []

abbrev pub wanted_futures : List (Option Items)
wanted_futures =
    wanted_awaited_twice ∷ wanted_resume_rejected ∷ wanted_bad_reply_alone ∷ wanted_lost_future ∷ wanted_dead_owner ∷ wanted_query_leaves_nothing
    ∷ wanted_shared_cell ∷ gives_five ∷ gives_five ∷ wanted_error_is_kept ∷ wanted_other_future
    ∷ wanted_code (7 ∷ 0 ∷ 0 ∷ 0 ∷ []) ∷ wanted_code (0 ∷ 0 ∷ 0 ∷ 0 ∷ []) ∷ wanted_code (255 ∷ 255 ∷ 255 ∷ 255 ∷ []) ∷ wanted_code (1 ∷ 0 ∷ 0 ∷ 0 ∷ []) ∷ []
