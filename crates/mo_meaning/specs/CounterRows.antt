-- A counter, and what a trap undoes: Motoko language manual, section "Traps"; IC interface specification, section "Call
-- context".
use Rattle.std.specs.Prelude.{[], ◌∷◌, Option, Some, codes}
use Rattle.typed_tree.specs.Language.{Name, Group, NoFunction, Val, null, then, var_in}
use Rattle.typed_tree.specs.Programs.{Program}
use Rattle.play_script.specs.declared.item.Item.TheVariants as item
use Rattle.mo_meaning.specs.ExampleTypes.{graph, nat}
use Rattle.mo_types.specs.Graph.{head_at}
use Rattle.mo_meaning.specs.Playing.{Items, plays, calls, queries, installed, replied, trapped_call, nat_message}
use Rattle.mo_meaning.specs.Writing.{number, read, add_to, assert_false, shared, update, query, variable, kept_or, exports, methods_alone}

-- `actor { stable var n : Nat = 0; public func inc() : async Nat { n += 1; n }; public query func get() : async Nat { n } }`
abbrev pub counter : Program
counter = record {
  head = head_at graph;
  stable = variable (codes "n") nat ∷ [];
  methods = update (codes "inc") [] (nat ∷ []) ∷ query (codes "get") [] (nat ∷ []) ∷ [];
  nodes = 4;
  -- the actor 0, inc 1, get 2, what was kept of n 3
  body = var_in (kept_or 3 (number 0))
      -- in a body: inc 0, get 1, n 2
      (Group (shared 5 [] (then (add_to (Name 2) (number 1)) (read (Name 2))) (shared 2 [] (read (Name 2)) NoFunction))
      (exports (Name 0 ∷ Name 1 ∷ []) (Val null) (Val null) (codes "n" ∷ []) (Name 2 ∷ [])));
}

abbrev pub three_calls : Option Items
three_calls = plays 40 (counter ∷ []) (calls (codes "inc") ∷ calls (codes "inc") ∷ calls (codes "inc") ∷ [])

abbrev pub wanted_three_calls : Option Items
wanted_three_calls = Some (installed ∷ replied 0 (nat_message 1) ∷ replied 1 (nat_message 2) ∷ replied 2 (nat_message 3) ∷ [])

-- a name that the actor has no method of, and a query method that is called; an update method is none for a query
abbrev pub names : Option Items
names = plays 40 (counter ∷ []) (calls (codes "x") ∷ calls (codes "get") ∷ queries (codes "inc") ∷ queries (codes "__resume") ∷ calls (codes "__resume") ∷ [])

abbrev pub wanted_names : Option Items
wanted_names =
    Some (installed ∷ (item.Rejected 0 5 (codes "no method") ∷ []) ∷ replied 1 (nat_message 0) ∷ (item.Rejected 2 5 (codes "no method") ∷ [])
    ∷ (item.Rejected 3 5 (codes "no method") ∷ []) ∷ replied 4 (0x44 ∷ 0x49 ∷ 0x44 ∷ 0x4c ∷ 0 ∷ 0 ∷ []) ∷ [])

-- `actor { var n = 0; public func bad() : async () { n += 1; assert false }; public query func get() : async Nat { n } }`
abbrev pub failing : Program
failing = record {
  head = head_at graph;
  stable = [];
  methods = update (codes "bad") [] [] ∷ query (codes "get") [] (nat ∷ []) ∷ [];
  nodes = 4;
  body = var_in (number 0)
      (Group (shared 6 [] (then (add_to (Name 2) (number 1)) assert_false) (shared 2 [] (read (Name 2)) NoFunction))
      (methods_alone (Name 0 ∷ Name 1 ∷ [])));
}

abbrev pub trap_undoes : Option Items
trap_undoes = plays 40 (failing ∷ []) (calls (codes "bad") ∷ queries (codes "get") ∷ [])

abbrev pub wanted_trap_undoes : Option Items
wanted_trap_undoes = Some (installed ∷ trapped_call 0 (codes "assertion failed") ∷ replied 1 (nat_message 0) ∷ [])
