-- Reading programs from left to right, rule by rule.
use Rattle.std.specs.Prelude.{ℕ, zero, suc, Bool, true, false, if◌then◌else◌, List, [], ◌∷◌, ◌++◌, length, Option, Some, None}
use Rattle.mo_syntax.specs.declared.name.Name.{Name}
use Rattle.mo_syntax.specs.declared.text.Text.{Text}
use Rattle.mo_syntax.specs.declared.token.TokenKind.TheVariants as t
use Rattle.mo_syntax.specs.declared.word.Word.TheVariants as w
use Rattle.mo_syntax.specs.declared.mark.Mark.TheVariants as m
use Rattle.mo_syntax.specs.declared.types.TypeExpression.{TypeExpression}
use Rattle.mo_syntax.specs.declared.patterns.Parameters.{Parameters}
use Rattle.mo_syntax.specs.declared.expressions.Expression.{Expression}
use Rattle.mo_syntax.specs.declared.program.Tree.{Tree}
use Rattle.mo_syntax.specs.declared.program.Import.{Import}
use Rattle.mo_syntax.specs.declared.program.Actor.{Actor}
use Rattle.mo_syntax.specs.declared.program.ActorField.{ActorField}
use Rattle.mo_syntax.specs.declared.program.ActorField.TheVariants as field
use Rattle.mo_syntax.specs.declared.program.SharedFunction.{SharedFunction}
use Rattle.mo_syntax.specs.declared.program.SharedPrefix.{SharedPrefix}
use Rattle.mo_syntax.specs.declared.program.SharedSort.{SharedSort}
use Rattle.mo_syntax.specs.declared.program.SharedSort.TheVariants as sort
use Rattle.mo_syntax.specs.declared.program.Context.{Context}
use Rattle.mo_syntax.specs.declared.program.Context.TheVariants as context
use Rattle.mo_parser_base.specs.declared.look.Look.{Look}
use Rattle.mo_parser_base.specs.declared.look.Look.TheVariants as l
use Rattle.mo_parser_base.specs.Input.{Parser, ◌>>=◌, ◌>>◌, ◌<$>◌, ◌&◌, ◌▸◌, ◌◂◌, pure, peek, skip, eat, identifier, text, semicolons}
use Rattle.mo_parser_types.specs.Types.{a_type, annotation}
use Rattle.mo_parser_patterns.specs.Patterns.{a_pattern, a_list, fields}
use Rattle.mo_parser_expressions.specs.Expressions.{an_expression, a_declaration, a_body}

-- ---- the trees of what is read

abbrev pub to_import : Name × (Bool × Text) → Import
to_import z = record { name = z.0; equal_sign = z.1.0; path = z.1.1 }

abbrev pub to_actor : Option Name × (Bool × (List ActorField × Bool)) → Actor
to_actor z = record { name = z.0; equal_sign = z.1.0; fields = z.1.1.0; semicolon = z.1.1.1 }

abbrev pub to_tree : List Import × (Actor × Bool) → Tree
to_tree z = record { imports = z.0; actor = z.1.0; semicolon = z.1.1 }

abbrev pub sort_of : Bool → SharedSort
sort_of true = sort.SharedQuery
sort_of false = sort.Shared

abbrev pub to_prefix : SharedSort × Option Context → SharedPrefix
to_prefix z = record { sort = z.0; context = z.1 }

-- a name, parameters, a result type, and whether a `=` follows
abbrev pub Heading : Type 0
Heading = Name × (Parameters × (TypeExpression × Bool))

abbrev pub to_function : Option SharedPrefix × (Heading × Expression) → SharedFunction
to_function z = record { prefix = z.0; name = z.1.0.0; parameters = z.1.0.1.0; result = z.1.0.1.1.0; equal_sign = z.1.0.1.1.1; body = z.1.1 }

-- ---- the rules

unfoldable pub one_import : Parser Import
one_import = to_import <$> (t.Reserved w.Import ▸ (identifier & (eat (t.Mark m.EqualSign) & (text ◂ t.Mark m.Semicolon))))

abbrev pub begins_import : Look → Bool
begins_import (l.Reserved w.Import) = true
begins_import _ = false

-- the number bounds the turns, and the list has the imports before
unfoldable pub imports_from : ℕ → List Import → Parser (List Import)
imports_from zero found = pure found
imports_from (suc n) found = do
  next_is ← peek
  if begins_import next_is then (do x ← one_import; imports_from n (found ++ x ∷ [])) else pure found

unfoldable pub imports : Parser (List Import)
imports = λ i. imports_from (length i) [] i

abbrev pub name_by : Look → Parser (Option Name)
name_by l.Identifier = Some <$> identifier
name_by _ = pure None

-- `[id]`
unfoldable pub a_name : Parser (Option Name)
a_name = peek >>= name_by

abbrev pub context_by : Look → Parser (Option Context)
context_by (l.Mark m.ParenOpen) = skip >> (λ p. Some (context.Parenthesized p)) <$> (a_pattern ◂ t.Mark m.ParenClose)
context_by (l.Mark m.BraceOpen) = skip >> (λ z. Some (context.Object z.0 z.1)) <$> fields
context_by _ = pure None

unfoldable pub a_context : Parser (Option Context)
a_context = peek >>= context_by

-- behind `shared`
unfoldable pub shared_prefix : Parser SharedPrefix
shared_prefix = to_prefix <$> ((sort_of <$> eat (t.Reserved w.Query)) & a_context)

-- behind `query`
unfoldable pub query_prefix : Parser SharedPrefix
query_prefix = (λ c. to_prefix (sort.Query, c)) <$> a_context

abbrev pub prefix_by : Look → Parser (Option SharedPrefix)
prefix_by (l.Reserved w.Shared) = skip >> Some <$> shared_prefix
prefix_by (l.Reserved w.Query) = skip >> Some <$> query_prefix
prefix_by _ = pure None

unfoldable pub a_prefix : Parser (Option SharedPrefix)
a_prefix = peek >>= prefix_by

unfoldable pub heading : Parser Heading
heading = t.Reserved w.Func ▸ (identifier & (a_list & ((t.Mark m.Colon ▸ a_type) & eat (t.Mark m.EqualSign))))

unfoldable pub headed : Parser (Heading × Expression)
headed = heading >>= (λ z. a_body z.1.1.1 >>= (λ a. pure (z, a)))

-- behind `public`
unfoldable pub shared_function : Parser SharedFunction
shared_function = to_function <$> (a_prefix & headed)

-- behind `system`: the name, and whether a `=` follows
unfoldable pub system_heading : Parser (Name × Bool)
system_heading = t.Reserved w.Func ▸ (identifier & (t.Mark m.ParenOpen ▸ (t.Mark m.ParenClose ▸ eat (t.Mark m.EqualSign))))

unfoldable pub system_function : Parser ActorField
system_function = system_heading >>= (λ z. a_body z.1 >>= (λ a. pure (field.System z.0 z.1 a)))

-- behind `stable`
unfoldable pub stable_variable : Bool → Parser ActorField
stable_variable private = (λ z. field.Stable private z.0 z.1.0 z.1.1) <$> (t.Reserved w.Var ▸ (identifier & (annotation & (t.Mark m.EqualSign ▸ an_expression))))

unfoldable pub declared : Bool → Parser ActorField
declared private = (λ x. field.Declared private x) <$> a_declaration

abbrev pub state_by : Bool → Look → Parser ActorField
state_by private (l.Reserved w.Stable) = skip >> stable_variable private
state_by private _ = declared private

-- a declaration or a stable variable
unfoldable pub state : Bool → Parser ActorField
state private = peek >>= state_by private

abbrev pub field_by : Look → Parser ActorField
field_by (l.Reserved w.Public) = skip >> field.Public <$> shared_function
field_by (l.Reserved w.System) = skip >> system_function
field_by (l.Reserved w.Private) = skip >> state true
field_by _ = state false

unfoldable pub a_field : Parser ActorField
a_field = peek >>= field_by

-- behind the `{`
unfoldable pub actor_fields : Parser (List ActorField × Bool)
actor_fields = semicolons a_field

unfoldable pub actor : Parser Actor
actor = to_actor <$> (t.Reserved w.Actor ▸ (a_name & (eat (t.Mark m.EqualSign) & (t.Mark m.BraceOpen ▸ actor_fields))))

unfoldable pub tree : Parser Tree
tree = to_tree <$> (imports & (actor & eat (t.Mark m.Semicolon)))

abbrev pub ended : Tree → Parser Tree
ended x [] = Some (x, [])
ended x (token ∷ i) = None

-- a program that is all of the tokens
unfoldable pub program : Parser Tree
program = tree >>= ended
