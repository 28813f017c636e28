-- Upgrades: Motoko language manual, section "Stable variables"; base library, system functions `preupgrade` and
-- `postupgrade`.
use Rattle.std.specs.Prelude.{ℕ, List, [], ◌∷◌, Option, Some, codes}
use Rattle.play_script.specs.declared.event.Event.{Event}
use Rattle.play_script.specs.declared.event.Event.TheVariants as event
use Rattle.play_script.specs.declared.item.Item.{Item}
use Rattle.play_script.specs.declared.item.Item.TheVariants as item
use Rattle.mo_types.specs.declared.datum.Datum.TheVariants as part
use Rattle.mo_types.specs.declared.node.TypeId.{TypeId}
use Rattle.mo_types.specs.Graph.{head_at}
use Rattle.mo_values.specs.declared.operation.Operation.TheVariants as op
use Rattle.mo_values.specs.Shapes.{Bytes}
use Rattle.typed_tree.specs.Language.{Exp, Val, Name, Group, NoFunction, leaf, null, unit, then, var_in}
use Rattle.typed_tree.specs.Programs.{Program}
use Rattle.mo_meaning.specs.ExampleTypes.{graph, nat, int, char, nat32, bytes, blob}
use Rattle.mo_meaning.specs.Playing.{Items, plays, queries, installed, replied, trapped, nat_message, didl}
use Rattle.mo_meaning.specs.Writing.{number, operate, read, write, some, print, trap_x, assert_false, local, shared, query, variable, kept_or, exports}

-- ---- `actor { stable var n : Nat = e; system func preupgrade() { Debug.print("a"); n := 5 };`
-- `system func postupgrade() { Debug.print("b"); f }; public query func get() : async Nat { n } }`

abbrev pub keeper : Exp → Exp → Program
keeper first last = record {
  head = head_at graph;
  stable = variable (codes "n") nat ∷ [];
  methods = query (codes "get") [] (nat ∷ []) ∷ [];
  nodes = 5;
  -- the actor 0, get 1, what was kept of n 2; then get 0, preupgrade 1, postupgrade 2, n 3
  body = var_in (kept_or 2 first)
      (Group (shared 2 [] (read (Name 3)) (local 8 [] (then (print (codes "a")) (write (Name 3) (number 5))) (local 8 [] (then (print (codes "b")) last) NoFunction)))
      (exports (Name 0 ∷ []) (some (Name 1)) (some (Name 2)) (codes "n" ∷ []) (Name 3 ∷ [])));
}

-- the second one has an initialiser that would trap, and the third one traps in `postupgrade`
abbrev pub keepers : List Event → Option Items
keepers events = plays 100 (keeper (number 1) (Val unit) ∷ keeper trap_x (Val unit) ∷ keeper (number 1) assert_false ∷ []) events

abbrev pub printed : Bytes → Item
printed t = item.Print t

-- the initialiser does not run over the kept value, which is that of `preupgrade`
abbrev pub keeps : Option Items
keeps = keepers (event.Upgrade 1 ∷ queries (codes "get") ∷ [])

abbrev pub wanted_keeps : Option Items
wanted_keeps = Some (installed ∷ (printed (codes "a") ∷ printed (codes "b") ∷ item.Upgraded ∷ []) ∷ replied 0 (nat_message 5) ∷ [])

-- a trap gives back the old actor as it was, and the prints stay
abbrev pub traps_back : Option Items
traps_back = keepers (event.Upgrade 2 ∷ queries (codes "get") ∷ [])

abbrev pub wanted_traps_back : Option Items
wanted_traps_back =
    Some (installed ∷ (printed (codes "a") ∷ printed (codes "b") ∷ trapped (codes "assertion failed") ∷ []) ∷ replied 0 (nat_message 1) ∷ [])

-- ---- `actor { stable var x : A = v; public query func get() : async A { x } }`

abbrev pub holds : Bytes → TypeId → Exp → Program
holds name t e = record {
  head = head_at graph;
  stable = variable name t ∷ [];
  methods = query (codes "get") [] (t ∷ []) ∷ [];
  nodes = 3;
  -- the actor 0, get 1, what was kept 2; then get 0, the variable 1
  body = var_in (kept_or 2 e) (Group (shared 2 [] (read (Name 1)) NoFunction) (exports (Name 0 ∷ []) (Val null) (Val null) (name ∷ []) (Name 1 ∷ [])));
}

abbrev pub upgrades : Program → Program → List Event → Option Items
upgrades old new events = plays 60 (old ∷ new ∷ []) events

-- Nat and Int are other types; over itself a program keeps its value
abbrev pub other_types : Option Items
other_types =
    upgrades (holds (codes "n") nat (number 7)) (holds (codes "n") int (number 0))
    (event.Upgrade 1 ∷ queries (codes "get") ∷ event.Upgrade 0 ∷ queries (codes "get") ∷ [])

abbrev pub incompatible : List Item
incompatible = trapped (codes "incompatible stable types") ∷ []

abbrev pub upgraded : List Item
upgraded = item.Upgraded ∷ []

abbrev pub wanted_other_types : Option Items
wanted_other_types = Some (installed ∷ incompatible ∷ replied 0 (nat_message 7) ∷ upgraded ∷ replied 1 (nat_message 7) ∷ [])

-- a name that the old program lacks begins with its initialiser, and one that the new program lacks is dropped
abbrev pub other_names : Option Items
other_names = upgrades (holds (codes "n") nat (number 7)) (holds (codes "m") nat (number 3)) (event.Upgrade 1 ∷ queries (codes "get") ∷ [])

abbrev pub wanted_other_names : Option Items
wanted_other_names = Some (installed ∷ upgraded ∷ replied 0 (nat_message 3) ∷ [])

-- a Nat32 and a Char have one Candid type, but a surrogate is no character
abbrev pub as_char : ℕ → Option Items
as_char n = upgrades (holds (codes "c") nat32 (number n)) (holds (codes "c") char (Val (leaf (part.Char 66)))) (event.Upgrade 1 ∷ queries (codes "get") ∷ [])

abbrev pub nat32_message : Bytes → Bytes
nat32_message low = didl (0 ∷ 1 ∷ 0x79 ∷ low)

-- a surrogate: 55296; and the letter A: 65
abbrev pub wanted_surrogate : Option Items
wanted_surrogate = Some (installed ∷ incompatible ∷ replied 0 (nat32_message (0 ∷ 0xd8 ∷ 0 ∷ 0 ∷ [])) ∷ [])

abbrev pub wanted_letter : Option Items
wanted_letter = Some (installed ∷ upgraded ∷ replied 0 (nat32_message (65 ∷ 0 ∷ 0 ∷ 0 ∷ [])) ∷ [])

-- `[Nat8]` and Blob have one Candid type
abbrev pub as_blob : Option Items
as_blob =
    upgrades (holds (codes "b") bytes (operate op.MakeArray (number 1 ∷ number 255 ∷ []))) (holds (codes "b") blob (Val (leaf (part.Blob []))))
    (event.Upgrade 1 ∷ queries (codes "get") ∷ [])

abbrev pub wanted_blob : Option Items
wanted_blob = Some (installed ∷ upgraded ∷ replied 0 (didl (1 ∷ 0x6d ∷ 0x7b ∷ 1 ∷ 0 ∷ 2 ∷ 1 ∷ 255 ∷ [])) ∷ [])

-- ---- all of them

abbrev pub all_upgrades : List (Option Items)
all_upgrades = keeps ∷ traps_back ∷ other_types ∷ other_names ∷ as_char 55296 ∷ as_char 65 ∷ as_blob ∷ []

abbrev pub wanted_upgrades : List (Option Items)
wanted_upgrades = wanted_keeps ∷ wanted_traps_back ∷ wanted_other_types ∷ wanted_other_names ∷ wanted_surrogate ∷ wanted_letter ∷ wanted_blob ∷ []
