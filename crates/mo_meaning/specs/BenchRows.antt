-- An actor in which the bodies of further examples run: `actor { var n = 1; let o = actor "aaaaa-aa" : ..; let a = [var 1, 2];`
-- `public func go() : async .. { .. }; public query func get() : async Nat { n }; public func set() : async () { n := 10 };`
-- `public query func quiet() : async Nat { Debug.print("q"); n += 1; n } }`.
use Rattle.std.specs.Prelude.{ℕ, ◌+◌, List, [], ◌∷◌, Option, Some, codes}
use Rattle.play_script.specs.declared.event.Event.{Event}
use Rattle.mo_types.specs.declared.node.TypeId.{TypeId}
use Rattle.mo_types.specs.Graph.{head_at}
use Rattle.mo_values.specs.declared.operation.Operation.TheVariants as op
use Rattle.typed_tree.specs.Patterns.{Bind}
use Rattle.typed_tree.specs.Language.{Exp, Name, Group, NoFunction, let_in, then, var_in}
use Rattle.typed_tree.specs.Programs.{Program}
use Rattle.mo_meaning.specs.ExampleTypes.{graph, nat, text, bool}
use Rattle.mo_meaning.specs.Playing.{Items, plays, calls, installed}
use Rattle.mo_meaning.specs.Writing.{number, the_actor, operate, new, read, write, add_to, print, ask, shared, update, query, methods_alone}

-- in the body: go 0, get 1, set 2, quiet 3, a 4, o 5, n 6, the actor 7
abbrev pub bench : List TypeId → Exp → Program
bench results body = record {
  head = head_at graph;
  stable = [];
  methods = update (codes "go") [] results ∷ query (codes "get") [] (nat ∷ []) ∷ update (codes "set") [] [] ∷ query (codes "quiet") [] (nat ∷ []) ∷ [];
  nodes = 9;
  body = var_in (number 1) (let_in Bind (the_actor []) (let_in Bind (operate op.MakeArray (new (number 1) ∷ new (number 2) ∷ []))
      (Group (shared 30 [] body
      (shared 2 [] (read (Name 6))
      (shared 4 [] (write (Name 6) (number 10))
      (shared 12 [] (then (print (codes "q")) (then (add_to (Name 6) (number 1)) (read (Name 6)))) NoFunction))))
      (methods_alone (Name 0 ∷ Name 1 ∷ Name 2 ∷ Name 3 ∷ [])))));
}

-- `go` is called, and then come these events
abbrev pub goes : List TypeId → Exp → List Event → Option Items
goes results body events = plays 120 (bench results body ∷ []) (calls (codes "go") ∷ events)

-- the items of these events, after the installation
abbrev pub comes : Items → Option Items
comes items = Some (installed ∷ items)

-- the actor, the array and the variable under so many further names
abbrev pub the_array : ℕ → Exp
the_array d = Name (4 + d)

abbrev pub the_other : ℕ → Exp
the_other d = Name (5 + d)

abbrev pub the_variable : ℕ → Exp
the_variable d = Name (6 + d)

-- `o.f() : async ()`, `o.g() : async Nat`, `o.t() : async Text` and `o.b() : async Bool`
abbrev pub ask_f : ℕ → Exp
ask_f d = ask [] [] (codes "f") (the_other d) []

abbrev pub ask_g : ℕ → Exp
ask_g d = ask [] (nat ∷ []) (codes "g") (the_other d) []

abbrev pub ask_t : ℕ → Exp
ask_t d = ask [] (text ∷ []) (codes "t") (the_other d) []

abbrev pub ask_b : ℕ → Exp
ask_b d = ask [] (bool ∷ []) (codes "b") (the_other d) []
