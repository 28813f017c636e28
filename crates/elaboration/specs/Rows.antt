-- Programs that are elaborated and run by computation. What comes of their events is what comes of them by their meaning, which is what the
-- language manual says.
use Rattle.std.specs.Prelude.{List, [], ◌∷◌, ◌++◌, Option, Some, codes}
use Rattle.play_script.specs.declared.event.Event.{Event}
use Rattle.play_script.specs.declared.event.Event.TheVariants as event
use Rattle.mo_types.specs.declared.node.TypeId.{TypeId}
use Rattle.typed_tree.specs.Language.{Exp, Val, null, unit}
use Rattle.mo_meaning.specs.AwaitRows.{waiting, futures, catching, wanted_await_commits, wanted_interleaved, wanted_upgrade_waits, items_of_futures, wanted_errors}
use Rattle.mo_meaning.specs.BenchRows.{bench}
use Rattle.mo_meaning.specs.CatchRows as catch
use Rattle.mo_meaning.specs.CounterRows.{counter, failing, wanted_three_calls, wanted_names, wanted_trap_undoes}
use Rattle.mo_meaning.specs.ExampleTypes.{nat, int, text, char}
use Rattle.mo_meaning.specs.LedgerRows.{ledger, ann, bob, pays, balances}
use Rattle.mo_meaning.specs.OrderRows as order
use Rattle.mo_meaning.specs.OrderRows.{is, fails, wanted_left_side}
use Rattle.mo_meaning.specs.Playing.{Items, calls, queries, calls_with, didl, empty, nat_message, text_message}
use Rattle.mo_meaning.specs.TextRows as texts
use Rattle.mo_meaning.specs.UpgradeRows.{keeper, holds, wanted_keeps, wanted_traps_back, wanted_other_types, wanted_other_names}
use Rattle.mo_meaning.specs.Writing.{number, some, trap_x, assert_false, throw}
use Rattle.elaboration.specs.Playing.{plays}

-- one call of a body
abbrev pub goes : List TypeId → Exp → List Event → Option Items
goes results body events = plays (bench results body ∷ []) (calls (codes "go") ∷ events)

abbrev pub gives : Exp → Option Items
gives body = goes (nat ∷ []) body []

-- ---- methods, traps, waits and errors

abbrev pub actors : List (Option Items)
actors =
    plays (counter ∷ []) (calls (codes "inc") ∷ calls (codes "inc") ∷ calls (codes "inc") ∷ [])
    ∷ plays (counter ∷ []) (calls (codes "x") ∷ calls (codes "get") ∷ queries (codes "inc") ∷ queries (codes "__resume") ∷ calls (codes "__resume") ∷ [])
    ∷ plays (failing ∷ []) (calls (codes "bad") ∷ queries (codes "get") ∷ [])
    ∷ []

abbrev pub wanted_actors : List (Option Items)
wanted_actors = wanted_three_calls ∷ wanted_names ∷ wanted_trap_undoes ∷ []

abbrev pub waits : List (Option Items)
waits =
    plays (waiting ∷ []) (calls (codes "go") ∷ event.Reply 0 empty ∷ queries (codes "get") ∷ [])
    ∷ plays (waiting ∷ []) (calls (codes "add") ∷ calls (codes "add") ∷ event.Reply 0 empty ∷ event.Reply 1 empty ∷ queries (codes "get") ∷ [])
    ∷ plays (waiting ∷ []) (calls (codes "go") ∷ event.Upgrade 0 ∷ event.Reply 0 empty ∷ queries (codes "get") ∷ [])
    ∷ plays (futures ∷ []) (calls (codes "go") ∷ event.Reply 1 (nat_message 5) ∷ event.Reply 0 (nat_message 4) ∷ event.Reply 2 empty ∷ [])
    ∷ plays (catching ∷ [])
    (calls (codes "a") ∷ event.Reject 0 4 (codes "no") ∷ calls (codes "b") ∷ event.Reject 1 2 (codes "no") ∷ calls (codes "a") ∷ event.Reply 2 empty ∷ calls (codes "a") ∷ event.Reject 3 5 (codes "no") ∷ [])
    ∷ []

abbrev pub wanted_waits : List (Option Items)
wanted_waits = wanted_await_commits ∷ wanted_interleaved ∷ wanted_upgrade_waits ∷ Some items_of_futures ∷ wanted_errors ∷ []

-- ---- the order of evaluation, loops, labels, option blocks and arrays

abbrev left_side : Exp → Option Items
left_side body = goes [] body (calls (codes "set") ∷ event.Reply 0 (nat_message 5) ∷ queries (codes "get") ∷ [])

abbrev pub orders : List (Option Items)
orders =
    left_side order.sums ∷ left_side order.updates
    ∷ goes [] order.trap_at [] ∷ goes [] order.update_at [] ∷ goes [] order.no_catch [] ∷ goes [] order.tabulate_traps [] ∷ goes [] order.no_case []
    ∷ gives order.short ∷ gives order.short_or ∷ gives order.live_values ∷ gives order.keys ∷ gives order.loops ∷ gives (order.optional (Val null)) ∷ gives (order.optional (some (number 5)))
    ∷ gives order.tabulates ∷ gives order.copies ∷ []

abbrev pub wanted_orders : List (Option Items)
wanted_orders =
    wanted_left_side ∷ wanted_left_side
    ∷ fails (codes "x") ∷ fails (codes "index out of bounds") ∷ fails (codes "assertion failed") ∷ fails (codes "x") ∷ fails (codes "pattern failed")
    ∷ is 3 ∷ is 4 ∷ is 19 ∷ is 12 ∷ is 113 ∷ is 8 ∷ is 6
    ∷ is 3 ∷ is 8 ∷ []

-- ---- errors and jumps on their way outward

abbrev pub catches : List (Option Items)
catches =
    goes (text ∷ []) catch.catching
    (event.Reply 0 (nat_message 0) ∷ calls (codes "go") ∷ event.Reply 1 (nat_message 1) ∷ calls (codes "go") ∷ event.Reject 2 4 (codes "bad")
    ∷ calls (codes "go") ∷ event.Reply 3 (text_message (codes "x")) ∷ [])
    ∷ gives catch.returns ∷ gives catch.breaks ∷ gives catch.over_label ∷ gives catch.in_handler ∷ goes [] (throw (catch.reject (codes "no"))) [] ∷ []

abbrev pub wanted_catches : List (Option Items)
wanted_catches = catch.wanted_caught ∷ catch.number_is 5 ∷ catch.number_is 1 ∷ catch.number_is 2 ∷ catch.number_is 3 ∷ catch.wanted_leaves ∷ []

-- ---- texts and their characters, and loops that test behind their body

abbrev pub text_rows : List (Option Items)
text_rows =
    goes (char ∷ []) texts.first_char [] ∷ goes (char ∷ []) texts.second_char [] ∷ goes (char ∷ []) texts.third_char [] ∷ gives texts.counted ∷ gives texts.sized
    ∷ gives (texts.repeated 0) ∷ gives (texts.repeated 5) ∷ goes (text ∷ []) texts.digits [] ∷ []

-- ---- upgrades

abbrev keepers : List Event → Option Items
keepers events = plays (keeper (number 1) (Val unit) ∷ keeper trap_x (Val unit) ∷ keeper (number 1) assert_false ∷ []) events

abbrev pub upgrades : List (Option Items)
upgrades =
    keepers (event.Upgrade 1 ∷ queries (codes "get") ∷ [])
    ∷ keepers (event.Upgrade 2 ∷ queries (codes "get") ∷ [])
    ∷ plays (holds (codes "n") nat (number 7) ∷ holds (codes "n") int (number 0) ∷ []) (event.Upgrade 1 ∷ queries (codes "get") ∷ event.Upgrade 0 ∷ queries (codes "get") ∷ [])
    ∷ plays (holds (codes "n") nat (number 7) ∷ holds (codes "m") nat (number 3) ∷ []) (event.Upgrade 1 ∷ queries (codes "get") ∷ [])
    ∷ []

abbrev pub wanted_upgrades : List (Option Items)
wanted_upgrades = wanted_keeps ∷ wanted_traps_back ∷ wanted_other_types ∷ wanted_other_names ∷ []

-- ---- a ledger: functions, lists, a call that is waited for, returns out of handlers, and an upgrade

abbrev pub the_ledger : Option Items
the_ledger =
    plays (ledger ∷ [])
    (calls_with (codes "deposit") (didl (0 ∷ 2 ∷ 0x71 ∷ 0x7d ∷ (ann ++ 5 ∷ []))) ∷ pays ann bob 3 ∷ balances bob ∷ event.Reply 0 (didl (0 ∷ 1 ∷ 0x7e ∷ 1 ∷ [])) ∷ balances bob ∷ pays bob ann 9 ∷ event.Upgrade 0 ∷ balances ann ∷ [])
