-- When a program is typed, and when it is refused (Motoko language manual, sections "Programs" and "Actors").
use Rattle.std.specs.Prelude.{ℕ, false, List, [], ◌∷◌, map, Option, Some, None, Result, Ok, Err, nat_le}
use Rattle.mo_syntax.specs.declared.program.Tree.{Tree}
use Rattle.typing_rules.specs.declared.condition.Condition.TheVariants as condition
use Rattle.typing_rules.specs.AbstractSyntax.{Bytes, Program, Declaration, Declarations}
use Rattle.typing_rules.specs.AbstractSyntax as p
use Rattle.typing_rules.specs.AbstractPrograms.{abstract}
use Rattle.typing_rules.specs.Terms.{Term, Fields, nat, unit}
use Rattle.typing_rules.specs.Terms as t
use Rattle.typing_rules.specs.Judgements.{Judgement, Gives, MeetsEach, Part, Tests}
use Rattle.typing_rules.specs.Answers.{Fault, answer, Comes}
use Rattle.typing_rules.specs.TypeScopes.{TypeScope, no_types}
use Rattle.typing_rules.specs.DeclaredTypes.{with_list, parameter_terms}
use Rattle.typing_rules.specs.Gathered.{gathered}
use Rattle.typing_rules.specs.Contexts.{Context, Scope, constant}
use Rattle.typing_rules.specs.TypedTrees.{Note}
use Rattle.typing_rules.specs.Signatures.{async_term, method_sort}
use Rattle.typing_rules.specs.Lists.{Listed}
use Rattle.typing_rules.specs.Expressions.{JudgeOrder, JudgeBodies}
use Rattle.typing_rules.specs.AsyncPlaces.{Local, Other}
use Rattle.typing_rules.specs.Nodes.{nodes}

-- ---- the actor's own type

abbrev pub method_field : TypeScope → Declaration ℕ → Fields → Fields
method_field s (p.Method query context x g body) rest =
    t.constant x.bytes (t.Shared (method_sort query) (parameter_terms s g.parameters) (async_term s g.result)) rest
method_field s _ rest = rest

abbrev pub method_fields : TypeScope → Declarations ℕ → Fields
method_fields s p.End = t.NoFields
method_fields s (p.Then public n d rest) = method_field s d (method_fields s rest)

abbrev pub actor_type : Program ℕ → Term
actor_type program = t.Actor (method_fields (with_list no_types program.fields) program.fields)

abbrev pub own_name : Option Bytes → Term → Scope
own_name None u = []
own_name (Some x) u = (x, constant u) ∷ []

-- ---- the program

abbrev pub first_context : Program ℕ → Context
first_context program =
    record { values = own_name program.name (actor_type program); imports = program.imports; types = no_types; labels = []; returns = None; ends = false; body = Local; around = Other }

abbrev pub made_program : Program ℕ → Declarations Note → Program Note
made_program program ds = record { imports = program.imports; name = program.name; fields = ds }

-- the types of every program, whether a node has them or not
abbrev pub basics : List Term
basics = unit ∷ t.Boolean ∷ nat ∷ []

-- the type of the actor, where it has a name
abbrev pub own_types : Program ℕ → List Term
own_types program = map (λ z. z.1.type) (own_name program.name (actor_type program))

-- The actor's fields are a list of declarations.
abbrev pub JudgeFieldsOf : Program ℕ → Judgement (Program Note)
JudgeFieldsOf program =
    MeetsEach basics (Part (Listed (gathered program) (first_context program) program.fields
    (λ known. JudgeOrder (gathered program) known 0 false program.fields None None) (λ known made. JudgeBodies (gathered program) known program.fields made))
    (λ q. MeetsEach (own_types program) (Gives (made_program program q.1))))

-- There are at most 50,000 nodes, which is tested first.
abbrev pub JudgeProgram : Program ℕ → Judgement (Program Note)
JudgeProgram program = Tests condition.TooManyNodes 0 (nat_le (nodes program) 50000) (JudgeFieldsOf program)

-- the answer, with the types that are met up to it
pub record Checks (program : Program ℕ) (r : Result (Program Note) Fault) : Type 0 where
  pub met : List Term
  pub by : Comes (gathered program) (JudgeProgram program) [] (answer r met)

-- Its tree is typed, and these are the types at its nodes.
abbrev pub TypedAs : Tree → Program Note → Type 0
TypedAs tree made = Checks (abstract tree) (Ok made)

-- Its tree is not typed: this condition is false at this place, and it is the first such.
abbrev pub Refused : Tree → Fault → Type 0
Refused tree f = Checks (abstract tree) (Err f)

-- what a checker may answer to a tree, by how contracts see what it makes; want of memory names no fault
abbrev pub Decides : {Made : Type 0} → (Made → Program Note) → Tree → Result Made (Option Fault) → Type 0
Decides seen tree (Ok made) = TypedAs tree (seen made)
Decides seen tree (Err None) = Unit {0}
Decides seen tree (Err (Some f)) = Refused tree f
