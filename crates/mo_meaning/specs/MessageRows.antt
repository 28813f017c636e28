-- Arguments and replies: Candid specification; Motoko language manual, sections "Candid serialization", "Binary operators"
-- and "Patterns".
use Rattle.std.specs.Prelude.{ℕ, List, [], ◌∷◌, ◌++◌, Option, Some, codes}
use Rattle.mo_num.specs.declared.kind.Kind.TheVariants as kind
use Rattle.mo_num.specs.declared.operator.Operator.TheVariants as operator
use Rattle.mo_types.specs.declared.datum.Datum.TheVariants as part
use Rattle.mo_types.specs.declared.node.TypeId.{TypeId}
use Rattle.mo_types.specs.Graph.{head_at}
use Rattle.mo_values.specs.declared.operation.Operation.TheVariants as op
use Rattle.mo_values.specs.Shapes.{Bytes}
use Rattle.typed_tree.specs.declared.action.Member.TheVariants as member
use Rattle.typed_tree.specs.Patterns.{Pat, Bind, Present?}
use Rattle.typed_tree.specs.Language.{Exp, Val, Name, Group, NoFunction, leaf, null}
use Rattle.typed_tree.specs.Programs.{Program}
use Rattle.mo_meaning.specs.ExampleTypes.{graph, nat, text, int, person, list, char, blob, principal, option}
use Rattle.mo_meaning.specs.Playing.{Items, plays, queries_with, installed, replied, trapped_call, didl, nat_message}
use Rattle.mo_meaning.specs.Writing.{number, string, operate, tuple, some, field_of, plus, minus, times, power, call, built_in, shared, query, methods_alone}

-- `actor { public query func f(..) : async .. { .. } }`; in its body the names are the parameters, f, and the actor
abbrev pub asking : List TypeId → List TypeId → List Pat → Exp → Program
asking ps rs patterns body = record {
  head = head_at graph;
  stable = [];
  methods = query (codes "f") ps rs ∷ [];
  nodes = 2;
  body = Group (shared 10 patterns body NoFunction) (methods_alone (Name 0 ∷ []));
}

abbrev pub asked : Bytes → Program → Option Items
asked bytes p = plays 40 (p ∷ []) (queries_with (codes "f") bytes ∷ [])

abbrev pub replies : Bytes → Option Items
replies bytes = Some (installed ∷ replied 0 bytes ∷ [])

abbrev pub fails : Bytes → Option Items
fails text = Some (installed ∷ trapped_call 0 text ∷ [])

abbrev pub bad_argument : Option Items
bad_argument = fails (codes "bad argument")

-- ---- `a - 1` at Nat and at Int

abbrev pub nat_less_one : Option Items
nat_less_one = asked (nat_message 0) (asking (nat ∷ []) (nat ∷ []) (Bind ∷ []) (minus (Name 0) (number 1)))

abbrev pub int_less_one : TypeId → Bytes → Option Items
int_less_one t bytes = asked bytes (asking (t ∷ []) (int ∷ []) (Bind ∷ []) (operate (op.Arithmetic operator.Sub kind.Int) (Name 0 ∷ number 1 ∷ [])))

-- ---- `(2 ** 62 - 1) * 2 + n`

abbrev pub near_the_top : ℕ → Option Items
near_the_top n = asked (didl (0 ∷ 0 ∷ [])) (asking [] (nat ∷ []) [] (plus (times (minus (power (number 2) (number 62)) (number 1)) (number 2)) (number n)))

-- ---- `public query func f(p : {name : Text; age : Nat}) : async Nat { p.age }`, of the name `Bo` and 7

abbrev pub person_header : Bytes
person_header = didl (0x01 ∷ 0x6c ∷ 0x02 ∷ 0xbf ∷ 0xe9 ∷ 0xa7 ∷ 0x02 ∷ 0x7d ∷ 0xcb ∷ 0xe4 ∷ 0xfd ∷ 0xc7 ∷ 0x04 ∷ 0x71 ∷ 0x01 ∷ 0x00 ∷ [])

abbrev pub age_of : Bytes → Option Items
age_of bytes = asked (person_header ++ bytes) (asking (person ∷ []) (nat ∷ []) (Bind ∷ []) (field_of (codes "age") (Name 0)))

-- ---- `type L = ?(Nat, L); public query func f() : async L { ?(1, ?(2, ?(3, null))) }`

abbrev pub linked : ℕ → Exp → Exp
linked n e = some (tuple (number n ∷ e ∷ []))

abbrev pub a_list : Option Items
a_list = asked (didl (0 ∷ 0 ∷ [])) (asking [] (list ∷ []) [] (linked 1 (linked 2 (linked 3 (Val null)))))

abbrev pub list_message : Bytes
list_message = didl (0x02 ∷ 0x6e ∷ 0x01 ∷ 0x6c ∷ 0x02 ∷ 0x00 ∷ 0x7d ∷ 0x01 ∷ 0x00 ∷ 0x01 ∷ 0x00 ∷ 0x01 ∷ 0x01 ∷ 0x01 ∷ 0x02 ∷ 0x01 ∷ 0x03 ∷ 0x00 ∷ [])

-- ---- numbers that are padded, or too long; a character that is a surrogate

abbrev pub gives_nat : Bytes → Option Items
gives_nat bytes = asked (didl (0 ∷ 1 ∷ 0x7d ∷ bytes)) (asking (nat ∷ []) (nat ∷ []) (Bind ∷ []) (Name 0))

abbrev pub gives_char : Bytes → Option Items
gives_char bytes = asked (didl (0 ∷ 1 ∷ 0x79 ∷ bytes)) (asking (char ∷ []) (char ∷ []) (Bind ∷ []) (Name 0))

abbrev pub eight : Bytes → Bytes
eight bytes = 0x80 ∷ 0x80 ∷ 0x80 ∷ 0x80 ∷ 0x80 ∷ 0x80 ∷ 0x80 ∷ 0x80 ∷ bytes

-- ---- several results; a Blob; the actor's own principal; a pattern in the place of a parameter

abbrev pub two_results : Option Items
two_results = asked (didl (0 ∷ 0 ∷ [])) (asking [] (nat ∷ text ∷ []) [] (tuple (number 1 ∷ string (codes "a") ∷ [])))

abbrev pub a_blob : Option Items
a_blob = asked (didl (0 ∷ 0 ∷ [])) (asking [] (blob ∷ []) [] (Val (leaf (part.Blob (255 ∷ [])))))

-- `Principal.fromActor(Self)`: of the names f stands nearest, then the actor
abbrev pub own_principal : Option Items
own_principal = asked (didl (0 ∷ 0 ∷ [])) (asking [] (principal ∷ []) [] (call (built_in member.PrincipalFromActor) (Name 1 ∷ [])))

-- `public query func f(?x : ?Nat) : async Nat { x }`
abbrev pub option_parameter : Bytes → Option Items
option_parameter bytes = asked (didl (0x01 ∷ 0x6e ∷ 0x7d ∷ 0x01 ∷ 0x00 ∷ bytes)) (asking (option ∷ []) (nat ∷ []) (Present? Bind ∷ []) (Name 0))

-- ---- all of them, and what they are to be

abbrev pub messages : List (Option Items)
messages =
    nat_less_one
    ∷ int_less_one int (didl (0 ∷ 1 ∷ 0x7c ∷ 0 ∷ []))
    ∷ int_less_one nat (nat_message 0)
    ∷ near_the_top 1
    ∷ near_the_top 2
    ∷ age_of (0x07 ∷ 0x02 ∷ 0x42 ∷ 0x6f ∷ [])
    ∷ age_of (0x07 ∷ 0x02 ∷ 0x42 ∷ [])
    ∷ age_of (0x07 ∷ 0x02 ∷ 0x42 ∷ 0x6f ∷ 0x00 ∷ [])
    ∷ a_list
    ∷ gives_nat (0x87 ∷ 0x00 ∷ [])
    ∷ gives_nat (0x87 ∷ eight (0x00 ∷ []))
    ∷ gives_nat (0x87 ∷ 0x80 ∷ eight (0x00 ∷ []))
    ∷ gives_char (0x41 ∷ 0x00 ∷ 0x00 ∷ 0x00 ∷ [])
    ∷ gives_char (0x00 ∷ 0xd8 ∷ 0x00 ∷ 0x00 ∷ [])
    ∷ two_results
    ∷ a_blob
    ∷ own_principal
    ∷ option_parameter (0x01 ∷ 0x05 ∷ [])
    ∷ option_parameter (0x00 ∷ [])
    ∷ []

abbrev pub wanted_messages : List (Option Items)
wanted_messages =
    fails (codes "natural subtraction underflow")
    ∷ replies (didl (0 ∷ 1 ∷ 0x7c ∷ 0x7f ∷ []))
    ∷ replies (didl (0 ∷ 1 ∷ 0x7c ∷ 0x7f ∷ []))
    ∷ replies (didl (0 ∷ 1 ∷ 0x7d ∷ 0xff ∷ 0xff ∷ 0xff ∷ 0xff ∷ 0xff ∷ 0xff ∷ 0xff ∷ 0xff ∷ 0x7f ∷ []))
    ∷ fails (codes "arithmetic overflow")
    ∷ replies (nat_message 7)
    ∷ bad_argument
    ∷ bad_argument
    ∷ replies list_message
    ∷ replies (nat_message 7)
    ∷ replies (nat_message 7)
    ∷ bad_argument
    ∷ replies (didl (0 ∷ 1 ∷ 0x79 ∷ 0x41 ∷ 0x00 ∷ 0x00 ∷ 0x00 ∷ []))
    ∷ bad_argument
    ∷ replies (didl (0 ∷ 2 ∷ 0x7d ∷ 0x71 ∷ 1 ∷ 1 ∷ 0x61 ∷ []))
    ∷ replies (didl (1 ∷ 0x6d ∷ 0x7b ∷ 1 ∷ 0 ∷ 1 ∷ 0xff ∷ []))
    ∷ replies (didl (0 ∷ 1 ∷ 0x68 ∷ 1 ∷ 10 ∷ 0 ∷ 0 ∷ 0 ∷ 0 ∷ 0 ∷ 0 ∷ 0 ∷ 1 ∷ 1 ∷ 1 ∷ []))
    ∷ replies (nat_message 5)
    ∷ fails (codes "pattern failed")
    ∷ []
