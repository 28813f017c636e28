-- Installations and upgrades: IC interface specification, section Canister installation and upgrade; Motoko language manual,
-- section "Stable variables".
use Rattle.std.specs.Prelude.{List, [], ◌∷◌, ◌++◌, codes}
use Rattle.play_script.specs.declared.event.Event.{Event}
use Rattle.play_script.specs.declared.event.Event.TheVariants as event
use Rattle.play_script.specs.declared.item.Item.{Item}
use Rattle.play_script.specs.declared.item.Item.TheVariants as item
use Rattle.mo_actor.specs.Commands.{Results, NoResult, ANumber, AText, Command, Add, Print, Send, Await, empty, nat_message}
use Rattle.mo_actor.specs.CommandPrograms.{Source}
use Rattle.mo_actor.specs.Rows.{Row, whole, method, get, call, query, reply, trapped, no_answer, calls_f, assertion}

-- the methods `go` and `get`, an initialiser, two hooks, and the type of the stable variable
abbrev source : (initial before after : List Command) → Results → Source
source initial before after stable = record {
  updates = method (codes "go") (Add 1 ∷ Send [] (codes "f") NoResult ∷ Await 0 ∷ Add 1 ∷ assertion ∷ []) ∷ method (codes "inc") (Add 1 ∷ []) ∷ [];
  queries = get ∷ [];
  initial = initial;
  before_upgrade = before;
  after_upgrade = after;
  stable = stable;
}

abbrev plain : Source
plain = source (Add 7 ∷ []) [] [] ANumber

abbrev two : Source → Source → List Event → List Item → Row
two old new events items = record { sources = old ∷ new ∷ []; events = event.Install 0 ∷ events; extents = whole 12; items = item.Installed ∷ items }

abbrev outstanding : List Item
outstanding = trapped (codes "outstanding calls") ∷ []

abbrev failed : List Item
failed = trapped (codes "assertion failed") ∷ no_answer 0 ∷ []

-- With an open call no upgrade; the old actor goes on.
abbrev open_calls : Row
open_calls =
    two plain plain (call (codes "go") ∷ event.Upgrade 1 ∷ reply 0 ∷ query (codes "get") ∷ [])
    (calls_f 0 ∷ outstanding ++ failed ++ item.Replied 1 (nat_message 8) ∷ [])

-- A dead activation without open calls is no hindrance, and is not answered a second time.
abbrev dead_activation : Row
dead_activation = two plain plain (call (codes "go") ∷ reply 0 ∷ event.Upgrade 1 ∷ query (codes "get") ∷ []) (calls_f 0 ∷ failed ++ item.Upgraded ∷ item.Replied 1 (nat_message 8) ∷ [])

-- The stable value takes the place of the initialiser, and both kinds of numbers go on.
abbrev kept_value : Row
kept_value =
    two plain (source (Add 100 ∷ []) [] (Add 10 ∷ []) ANumber) (call (codes "go") ∷ reply 0 ∷ call (codes "inc") ∷ event.Upgrade 1 ∷ query (codes "get") ∷ call (codes "go") ∷ event.Upgrade 0 ∷ reply 0 ∷ [])
    (calls_f 0 ∷ failed ++ item.Replied 1 empty ∷ item.Upgraded ∷ item.Replied 2 (nat_message 19) ∷ calls_f 1 ∷ outstanding ++ item.Ignored ∷ [])

-- Of other types, or where a hook traps, the old actor stays as it was; prints stay, those of the old program first.
abbrev other_types : Row
other_types =
    two plain (source [] [] [] AText) (event.Upgrade 1 ∷ query (codes "get") ∷ []) (trapped (codes "incompatible stable types") ∷ item.Replied 0 (nat_message 7) ∷ [])

abbrev hook_traps : Row
hook_traps =
    two (source (Add 7 ∷ []) (Print (codes "a") ∷ Add 1 ∷ []) [] ANumber) (source [] [] (Print (codes "b") ∷ assertion ∷ []) ANumber) (event.Upgrade 1 ∷ query (codes "get") ∷ event.Upgrade 0 ∷ query (codes "get") ∷ [])
    (item.Print (codes "a") ∷ item.Print (codes "b") ∷ trapped (codes "assertion failed") ∷ item.Replied 0 (nat_message 7)
    ∷ item.Print (codes "a") ∷ item.Upgraded ∷ item.Replied 1 (nat_message 8) ∷ [])

abbrev old_hook_traps : Row
old_hook_traps =
    two (source [] (Print (codes "a") ∷ Add 1 ∷ assertion ∷ []) [] ANumber) plain (event.Upgrade 1 ∷ query (codes "get") ∷ [])
    (item.Print (codes "a") ∷ trapped (codes "assertion failed") ∷ item.Replied 0 (nat_message 0) ∷ [])

-- An initialiser that traps leaves no canister.
abbrev no_canister : Row
no_canister = record {
  sources = source (Print (codes "a") ∷ assertion ∷ []) [] [] ANumber ∷ [];
  events = event.Install 0 ∷ call (codes "get") ∷ query (codes "get") ∷ reply 0 ∷ event.Reject 0 4 [] ∷ event.Upgrade 0 ∷ [];
  extents = whole 12;
  items =
      item.Print (codes "a") ∷ trapped (codes "assertion failed") ∷ item.Rejected 0 3 (codes "no canister") ∷ item.Rejected 1 3 (codes "no canister")
      ∷ item.Ignored ∷ item.Ignored ∷ item.Ignored ∷ [];
}

abbrev pub upgrade_rows : List Row
upgrade_rows = open_calls ∷ dead_activation ∷ kept_value ∷ other_types ∷ hook_traps ∷ old_hook_traps ∷ no_canister ∷ []
