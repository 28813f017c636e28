-- What an `await` commits, and in which order executions run: Motoko language manual, sections "Await" and "Async"; IC
-- interface specification, section "Inter-canister calls".
use Rattle.std.specs.Prelude.{ℕ, List, [], ◌∷◌, ◌++◌, Option, Some, codes}
use Rattle.play_script.specs.declared.event.Event.TheVariants as event
use Rattle.play_script.specs.declared.item.Item.{Item}
use Rattle.play_script.specs.declared.item.Item.TheVariants as item
use Rattle.mo_types.specs.Graph.{head_at}
use Rattle.typed_tree.specs.declared.action.Member.TheVariants as member
use Rattle.typed_tree.specs.Patterns.{Wildcard, Bind, Tagged, Parts, NoPat}
use Rattle.typed_tree.specs.Language.{Exp, Name, Switch, Group, Try, NoFunction, ACase, NoCase, let_in, then, var_in}
use Rattle.typed_tree.specs.Programs.{Program}
use Rattle.mo_meaning.specs.ExampleTypes.{graph, nat, text}
use Rattle.mo_meaning.specs.Playing.{Items, plays, calls, queries, installed, replied, trapped, trapped_call, called, resumes, empty, nat_message, text_message}
use Rattle.mo_meaning.specs.Writing.{number, string, the_actor, read, write, add_to, plus, assert_false, ask, await, call, built_in, shared, update, query, methods_alone}

-- ---- `actor { var n = 0; let o = actor "aaaaa-aa" : actor { f : shared () -> async () };`
-- `public func go() : async () { n += 1; await o.f(); n += 1; assert false };`
-- `public func add() : async () { let k = n; await o.f(); n := k + 1 }; public query func get() : async Nat { n } }`

-- `await o.f()`, where o is the name
abbrev pub await_f : ℕ → Exp
await_f o = await (ask [] [] (codes "f") (Name o) [])

abbrev pub waiting : Program
waiting = record {
  head = head_at graph;
  stable = [];
  methods = update (codes "go") [] [] ∷ update (codes "add") [] [] ∷ query (codes "get") [] (nat ∷ []) ∷ [];
  nodes = 6;
  -- in a body: go 0, add 1, get 2, o 3, n 4
  body = var_in (number 0) (let_in Bind (the_actor [])
      (Group (shared 12 [] (then (add_to (Name 4) (number 1)) (then (await_f 3) (then (add_to (Name 4) (number 1)) assert_false)))
      (shared 11 [] (let_in Bind (read (Name 4)) (then (await_f 4) (write (Name 5) (plus (Name 0) (number 1)))))
      (shared 2 [] (read (Name 4)) NoFunction)))
      (methods_alone (Name 0 ∷ Name 1 ∷ Name 2 ∷ []))));
}

abbrev pub await_commits : Option Items
await_commits = plays 40 (waiting ∷ []) (calls (codes "go") ∷ event.Reply 0 empty ∷ queries (codes "get") ∷ [])

abbrev pub wanted_await_commits : Option Items
wanted_await_commits = Some (installed ∷ called 0 (codes "f") ∷ trapped_call 0 (codes "assertion failed") ∷ replied 1 (nat_message 1) ∷ [])

abbrev pub interleaved : Option Items
interleaved = plays 40 (waiting ∷ []) (calls (codes "add") ∷ calls (codes "add") ∷ event.Reply 0 empty ∷ event.Reply 1 empty ∷ queries (codes "get") ∷ [])

abbrev pub wanted_interleaved : Option Items
wanted_interleaved = Some (installed ∷ called 0 (codes "f") ∷ called 1 (codes "f") ∷ replied 0 empty ∷ replied 1 empty ∷ replied 2 (nat_message 1) ∷ [])

abbrev pub upgrade_waits : Option Items
upgrade_waits = plays 40 (waiting ∷ []) (calls (codes "go") ∷ event.Upgrade 0 ∷ event.Reply 0 empty ∷ queries (codes "get") ∷ [])

abbrev pub wanted_upgrade_waits : Option Items
wanted_upgrade_waits =
    Some (installed ∷ called 0 (codes "f") ∷ (trapped (codes "outstanding calls") ∷ []) ∷ trapped_call 0 (codes "assertion failed") ∷ replied 1 (nat_message 1) ∷ [])

-- ---- `actor { let o = actor "aaaaa-aa" : actor { f : shared () -> async Nat };`
-- `public func go() : async Nat { let a = o.f(); let b = o.f(); (await a) + (await b) } }`

abbrev pub ask_nat : ℕ → Exp
ask_nat o = ask [] (nat ∷ []) (codes "f") (Name o) []

abbrev pub futures : Program
futures = record {
  head = head_at graph;
  stable = [];
  methods = update (codes "go") [] (nat ∷ []) ∷ [];
  nodes = 3;
  body = let_in Bind (the_actor [])
      (Group (shared 14 [] (let_in Bind (ask_nat 1) (let_in Bind (ask_nat 2) (plus (await (Name 1)) (await (Name 0))))) NoFunction)
      (methods_alone (Name 0 ∷ [])));
}

-- the second call is answered first: its `await` goes on by a call of the actor to itself
abbrev pub answered_future : Option Items
answered_future = plays 40 (futures ∷ []) (calls (codes "go") ∷ event.Reply 1 (nat_message 5) ∷ event.Reply 0 (nat_message 4) ∷ event.Reply 2 empty ∷ [])

abbrev pub items_of_futures : Items
items_of_futures = installed ∷ (called 0 (codes "f") ++ called 1 (codes "f")) ∷ [] ∷ resumes 2 ∷ replied 0 (nat_message 9) ∷ []

-- answers to calls that are not open mean nothing
abbrev pub second_answers : Option Items
second_answers =
    plays 40 (futures ∷ [])
    (calls (codes "go") ∷ event.Reply 1 (nat_message 5) ∷ event.Reply 0 (nat_message 4) ∷ event.Reply 2 empty ∷ event.Reply 2 empty ∷ event.Reply 99 empty ∷ event.Reject 99 4 [] ∷ [])

abbrev pub ignored : List Item
ignored = item.Ignored ∷ []

abbrev pub wanted_second_answers : Option Items
wanted_second_answers = Some (items_of_futures ++ ignored ∷ ignored ∷ ignored ∷ [])

-- ---- the same `o`, with `public func a() : async Text { try { await o.f(); "ok" } catch (e) { switch (Error.code(e)) {`
-- `case (#canister_reject) { Error.message(e) }; case _ { "?" } } } }` and `public func b() : async () { await o.f() }`

abbrev pub catching : Program
catching = record {
  head = head_at graph;
  stable = [];
  methods = update (codes "a") [] (text ∷ []) ∷ update (codes "b") [] [] ∷ [];
  nodes = 3;
  body = let_in Bind (the_actor [])
      (Group (shared 22 [] (Try (then (await_f 2) (string (codes "ok"))) Bind
      (Switch (call (built_in member.ErrorCode) (Name 0 ∷ []))
      (ACase (Tagged (codes "canister_reject") (Parts NoPat)) (call (built_in member.ErrorMessage) (Name 0 ∷ []))
      (ACase Wildcard (string (codes "?")) NoCase))))
      (shared 6 [] (await_f 2) NoFunction))
      (methods_alone (Name 0 ∷ Name 1 ∷ [])));
}

abbrev pub errors : Option Items
errors =
    plays 40 (catching ∷ [])
    (calls (codes "a") ∷ event.Reject 0 4 (codes "no") ∷ calls (codes "b") ∷ event.Reject 1 2 (codes "no") ∷ calls (codes "a") ∷ event.Reply 2 empty ∷ calls (codes "a") ∷ event.Reject 3 5 (codes "no") ∷ [])

abbrev pub wanted_errors : Option Items
wanted_errors =
    Some (installed ∷ called 0 (codes "f") ∷ replied 0 (text_message (codes "no")) ∷ called 1 (codes "f") ∷ (item.Rejected 1 4 (codes "no") ∷ [])
    ∷ called 2 (codes "f") ∷ replied 2 (text_message (codes "ok")) ∷ called 3 (codes "f") ∷ replied 3 (text_message (codes "?")) ∷ [])
