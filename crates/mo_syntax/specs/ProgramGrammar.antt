-- Programs: how they are written, which the grammar has, and which tokens spell one.
--
--     program = {import ";"} actor [";"]
--     import  = "import" id ["="] text
--     actor   = "actor" [id] ["="] "{" afield;* "}"
--     afield  = "public" shfunc | "system" "func" id "(" ")" body
--             | ["private"] dec | ["private"] "stable" "var" id [":" type] "=" exp
--     shfunc  = [("shared" ["query"] | "query") [ctx]] "func" id params ":" type body
--     ctx     = "(" pat ")" | "{" pfield;* "}"
use Rattle.std.specs.Prelude.{◌≡◌, Bool, true, false, List, [], ◌∷◌, ◌++◌, Option, Some, None, option_map, map}
use Rattle.std.specs.List.{flat_map}
use Rattle.mo_syntax.specs.declared.name.Name.{Name}
use Rattle.mo_syntax.specs.declared.token.TokenKind.{TokenKind}
use Rattle.mo_syntax.specs.declared.token.TokenKind.TheVariants as t
use Rattle.mo_syntax.specs.declared.word.Word.TheVariants as w
use Rattle.mo_syntax.specs.declared.mark.Mark.TheVariants as m
use Rattle.mo_syntax.specs.declared.expressions.Expression.{Expression}
use Rattle.mo_syntax.specs.declared.program.Tree.{Tree}
use Rattle.mo_syntax.specs.declared.program.Import.{Import}
use Rattle.mo_syntax.specs.declared.program.Actor.{Actor}
use Rattle.mo_syntax.specs.declared.program.ActorField.{ActorField}
use Rattle.mo_syntax.specs.declared.program.ActorField.TheVariants as field
use Rattle.mo_syntax.specs.declared.program.SharedFunction.{SharedFunction}
use Rattle.mo_syntax.specs.declared.program.SharedPrefix.{SharedPrefix}
use Rattle.mo_syntax.specs.declared.program.SharedSort.{SharedSort}
use Rattle.mo_syntax.specs.declared.program.SharedSort.TheVariants as sort
use Rattle.mo_syntax.specs.declared.program.Context.{Context}
use Rattle.mo_syntax.specs.declared.program.Context.TheVariants as context
use Rattle.mo_syntax.specs.Writing.{Writing, marked, optional, semicolons, annotation, parens, braces}
use Rattle.mo_syntax.specs.Parts.{Each, Within, Listed, MayEnd}
use Rattle.mo_syntax.specs.TypeGrammar.{type_tokens, IsType, type}
use Rattle.mo_syntax.specs.PatternGrammar.{pattern_tokens, pattern_field_tokens, parameters_tokens, IsPattern, IsPatternField, AreParameters, pat}
use Rattle.mo_syntax.specs.ExpressionGrammar.{expression_tokens, declaration_tokens, signature, IsExpression, IsDeclaration, exp, block, semicolon, behind_last}

-- ---- the writing

abbrev pub import_tokens : Import → Writing
import_tokens x = t.Reserved w.Import ∷ t.Identifier x.name ∷ marked x.equal_sign (t.Mark m.EqualSign) ++ t.Text x.path ∷ t.Mark m.Semicolon ∷ []

abbrev pub context_tokens : Context → Writing
context_tokens (context.Parenthesized p) = parens (pattern_tokens p)
context_tokens (context.Object fields last) = braces (semicolons (map pattern_field_tokens fields) last)

abbrev pub shared_tokens : SharedSort → Writing
shared_tokens sort.Shared = t.Reserved w.Shared ∷ []
shared_tokens sort.SharedQuery = t.Reserved w.Shared ∷ t.Reserved w.Query ∷ []
shared_tokens sort.Query = t.Reserved w.Query ∷ []

abbrev pub prefix_tokens : SharedPrefix → Writing
prefix_tokens x = shared_tokens x.sort ++ optional (option_map context_tokens x.context)

abbrev pub shared_function_tokens : SharedFunction → Writing
shared_function_tokens x = optional (option_map prefix_tokens x.prefix) ++ (t.Reserved w.Func ∷ t.Identifier x.name
    ∷ signature (parameters_tokens x.parameters) (Some (type_tokens x.result)) x.equal_sign ++ expression_tokens x.body)

abbrev pub actor_field_tokens : ActorField → Writing
actor_field_tokens (field.Public function) = t.Reserved w.Public ∷ shared_function_tokens function
actor_field_tokens (field.System x equal_sign body) =
    t.Reserved w.System ∷ t.Reserved w.Func ∷ t.Identifier x ∷ signature (parens []) None equal_sign ++ expression_tokens body
actor_field_tokens (field.Declared private x) = marked private (t.Reserved w.Private) ++ declaration_tokens x
actor_field_tokens (field.Stable private x kind a) = marked private (t.Reserved w.Private)
    ++ (t.Reserved w.Stable ∷ t.Reserved w.Var ∷ t.Identifier x ∷ annotation (option_map type_tokens kind) ++ t.Mark m.EqualSign ∷ expression_tokens a)

-- `[id]`
abbrev pub name_tokens : Option Name → Writing
name_tokens None = []
name_tokens (Some x) = t.Identifier x ∷ []

abbrev pub actor_tokens : Actor → Writing
actor_tokens x = t.Reserved w.Actor ∷ name_tokens x.name ++ (marked x.equal_sign (t.Mark m.EqualSign) ++ braces (semicolons (map actor_field_tokens x.fields) x.semicolon))

unfoldable pub tree_tokens : Tree → Writing
tree_tokens x = flat_map import_tokens x.imports ++ (actor_tokens x.actor ++ marked x.semicolon (t.Mark m.Semicolon))

-- ---- the grammar

abbrev pub IsContext : Context → Type 0
IsContext (context.Parenthesized p) = IsPattern p pat
IsContext (context.Object fields last) = Each IsPatternField fields × MayEnd fields last

abbrev pub IsPrefix : SharedPrefix → Type 0
IsPrefix x = Within IsContext x.context

-- `body`
abbrev pub IsBody : Bool → Expression → Option TokenKind → Type 0
IsBody true a next = IsExpression a exp next
IsBody false a next = IsExpression a block next

abbrev pub IsSharedFunction : SharedFunction → Option TokenKind → Type 0
IsSharedFunction x next = Within IsPrefix x.prefix × AreParameters x.parameters × IsType x.result type × IsBody x.equal_sign x.body next

abbrev pub IsActorField : ActorField → Option TokenKind → Type 0
IsActorField (field.Public function) next = IsSharedFunction function next
IsActorField (field.System x equal_sign body) next = IsBody equal_sign body next
IsActorField (field.Declared private x) next = IsDeclaration x next
IsActorField (field.Stable private x kind a) next = Within (λ b. IsType b type) kind × IsExpression a exp next

abbrev pub IsActor : Actor → Type 0
IsActor x = Listed (λ y token. IsActorField y (Some token)) semicolon (behind_last x.semicolon) x.fields × MayEnd x.fields x.semicolon

abbrev pub IsTree : Tree → Type 0
IsTree x = IsActor x.actor

-- The tokens are the tree's own writing, and the grammar has the tree.
pub record Spells (tree : Tree) (tokens : List TokenKind) : Type 0 where
  pub text : tokens ≡ tree_tokens tree
  pub good : IsTree tree
