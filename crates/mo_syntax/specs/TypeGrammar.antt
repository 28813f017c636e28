-- Types: how they are written, and which the grammar has.
--
--     type    = ["shared" ["query"]] pre "->" type | pre
--     pre     = "?" pre | "async" pre | atype
--     atype   = id ["<" type,* ">"] | "(" ([id ":"] type),* ")" | "[" ["var"] type "]"
--             | ["object"] "{" (["var"] id ":" type);* "}" | "{" "#" "}"
--             | "{" (tag [":" type]);* "}" | "actor" "{" (id ":" type);* "}"
--     tparams = "<" (id ["<:" type]),* ">"
--
-- `{ }` is an object.
use Rattle.std.specs.Prelude.{◌≡◌, ℕ, ◌≤◌, List, [], ◌∷◌, ◌++◌, Option, Some, None, option_map, map}
use Rattle.mo_syntax.specs.declared.name.Name.{Name}
use Rattle.mo_syntax.specs.declared.token.TokenKind.TheVariants as t
use Rattle.mo_syntax.specs.declared.word.Word.TheVariants as w
use Rattle.mo_syntax.specs.declared.mark.Mark.TheVariants as m
use Rattle.mo_syntax.specs.declared.types.Sharing.{Sharing}
use Rattle.mo_syntax.specs.declared.types.Sharing.TheVariants as sharing
use Rattle.mo_syntax.specs.declared.types.TypeExpression.{TypeExpression, TypeExpression-F, fold-TypeExpression, rec-TypeExpression}
use Rattle.mo_syntax.specs.declared.types.TypeField.{TypeField, fold-TypeField, rec-TypeField}
use Rattle.mo_syntax.specs.declared.types.TypeItem.{TypeItem, fold-TypeItem, rec-TypeItem}
use Rattle.mo_syntax.specs.declared.types.TypeMethod.{TypeMethod, fold-TypeMethod, rec-TypeMethod}
use Rattle.mo_syntax.specs.declared.types.TypeTag.{TypeTag, fold-TypeTag, rec-TypeTag}
use Rattle.mo_syntax.specs.declared.types.TypeParameter.{TypeParameter}
use Rattle.mo_syntax.specs.declared.types.TypeExpression.TheOpen as F
use Rattle.mo_syntax.specs.Writing.{Writing, marked, led, commas, semicolons, annotation, parens, brackets, braces, angles, tag}
use Rattle.mo_syntax.specs.Parts.{Each, Within, EachWithin, NotEmpty, MayEnd}

-- ---- the writing, by one layer of the tree over the writing of its parts

abbrev pub sharing_tokens : Sharing → Writing
sharing_tokens sharing.Local = []
sharing_tokens sharing.Shared = t.Reserved w.Shared ∷ []
sharing_tokens sharing.SharedQuery = t.Reserved w.Shared ∷ t.Reserved w.Query ∷ []

abbrev pub type_step : TypeExpression-F Writing Writing Writing Writing Writing → Writing
type_step (F.Function sharing a b) = sharing_tokens sharing ++ a ++ t.Mark m.Arrow ∷ b
type_step (F.Optional a) = t.Mark m.Question ∷ a
type_step (F.Async a) = t.Reserved w.Async ∷ a
type_step (F.Named x arguments) = t.Identifier x ∷ angles arguments
type_step (F.Parenthesized items) = parens (commas items)
type_step (F.Array mutable a) = brackets (marked mutable (t.Reserved w.Var) ++ a)
type_step (F.Object word fields last) = marked word (t.Reserved w.Object) ++ braces (semicolons fields last)
type_step F.EmptyVariant = braces (t.Mark m.Concat ∷ [])
type_step (F.Variant tags last) = braces (semicolons tags last)
type_step (F.Actor methods last) = t.Reserved w.Actor ∷ braces (semicolons methods last)

abbrev pub type_field_step : F.TypeField-F Writing Writing Writing Writing Writing → Writing
type_field_step x = marked x.mutable (t.Reserved w.Var) ++ t.Identifier x.name ∷ t.Mark m.Colon ∷ x.annotation

-- `[id ":"]`
abbrev pub item_name : Option Name → Writing
item_name None = []
item_name (Some x) = t.Identifier x ∷ t.Mark m.Colon ∷ []

abbrev pub type_item_step : F.TypeItem-F Writing Writing Writing Writing Writing → Writing
type_item_step x = item_name x.name ++ x.annotation

abbrev pub type_method_step : F.TypeMethod-F Writing Writing Writing Writing Writing → Writing
type_method_step x = t.Identifier x.name ∷ t.Mark m.Colon ∷ x.annotation

abbrev pub type_tag_step : F.TypeTag-F Writing Writing Writing Writing Writing → Writing
type_tag_step x = tag x.name ++ annotation x.payload

unfoldable pub type_tokens : TypeExpression → Writing
type_tokens = fold-TypeExpression Writing Writing Writing Writing Writing type_step type_field_step type_item_step type_method_step type_tag_step

unfoldable pub type_field_tokens : TypeField → Writing
type_field_tokens = fold-TypeField Writing Writing Writing Writing Writing type_step type_field_step type_item_step type_method_step type_tag_step

unfoldable pub type_item_tokens : TypeItem → Writing
type_item_tokens = fold-TypeItem Writing Writing Writing Writing Writing type_step type_field_step type_item_step type_method_step type_tag_step

unfoldable pub type_method_tokens : TypeMethod → Writing
type_method_tokens = fold-TypeMethod Writing Writing Writing Writing Writing type_step type_field_step type_item_step type_method_step type_tag_step

unfoldable pub type_tag_tokens : TypeTag → Writing
type_tag_tokens = fold-TypeTag Writing Writing Writing Writing Writing type_step type_field_step type_item_step type_method_step type_tag_step

-- ---- the grammar, by one layer of the tree over what holds of its parts

-- the levels, the loosest first: a type of one level stands where a looser one is wanted
abbrev pub type : ℕ
type = 0

abbrev pub pre : ℕ
pre = 1

module _ (Whole Field Item Method Tag : Type 0) (Is : Whole → ℕ → Type 0) (IsField : Field → Type 0) (IsItem : Item → Type 0) (IsMethod : Method → Type 0) (IsTag : Tag → Type 0) where
  abbrev pub type_rule : TypeExpression-F Whole Field Item Method Tag → ℕ → Type 0
  type_rule (F.Function sharing a b) l = (l ≡ type) × Is a pre × Is b type
  type_rule (F.Optional a) l = (l ≤ pre) × Is a pre
  type_rule (F.Async a) l = (l ≤ pre) × Is a pre
  type_rule (F.Named x arguments) l = EachWithin (λ a. Is a type) arguments
  type_rule (F.Parenthesized items) l = Each IsItem items
  type_rule (F.Array mutable a) l = Is a type
  type_rule (F.Object word fields last) l = Each IsField fields × MayEnd fields last
  type_rule F.EmptyVariant l = Unit {0}
  type_rule (F.Variant tags last) l = Each IsTag tags × NotEmpty tags
  type_rule (F.Actor methods last) l = Each IsMethod methods × MayEnd methods last

  abbrev pub type_field_rule : F.TypeField-F Whole Field Item Method Tag → Type 0
  type_field_rule x = Is x.annotation type

  abbrev pub type_item_rule : F.TypeItem-F Whole Field Item Method Tag → Type 0
  type_item_rule x = Is x.annotation type

  abbrev pub type_method_rule : F.TypeMethod-F Whole Field Item Method Tag → Type 0
  type_method_rule x = Is x.annotation type

  abbrev pub type_tag_rule : F.TypeTag-F Whole Field Item Method Tag → Type 0
  type_tag_rule x = Within (λ a. Is a type) x.payload

-- the tree is a type of the level
unfoldable pub IsType : TypeExpression → ℕ → Type 0
IsType = rec-TypeExpression (ℕ → Type 0) (Type 0) (Type 0) (Type 0) (Type 0)
    (λ T F I M G _ _ _ _ _. type_rule T F I M G) (λ T F I M G _ _ _ _ _. type_field_rule T F I M G) (λ T F I M G _ _ _ _ _. type_item_rule T F I M G)
    (λ T F I M G _ _ _ _ _. type_method_rule T F I M G) (λ T F I M G _ _ _ _ _. type_tag_rule T F I M G)

unfoldable pub IsTypeField : TypeField → Type 0
IsTypeField = rec-TypeField (ℕ → Type 0) (Type 0) (Type 0) (Type 0) (Type 0)
    (λ T F I M G _ _ _ _ _. type_rule T F I M G) (λ T F I M G _ _ _ _ _. type_field_rule T F I M G) (λ T F I M G _ _ _ _ _. type_item_rule T F I M G)
    (λ T F I M G _ _ _ _ _. type_method_rule T F I M G) (λ T F I M G _ _ _ _ _. type_tag_rule T F I M G)

unfoldable pub IsTypeItem : TypeItem → Type 0
IsTypeItem = rec-TypeItem (ℕ → Type 0) (Type 0) (Type 0) (Type 0) (Type 0)
    (λ T F I M G _ _ _ _ _. type_rule T F I M G) (λ T F I M G _ _ _ _ _. type_field_rule T F I M G) (λ T F I M G _ _ _ _ _. type_item_rule T F I M G)
    (λ T F I M G _ _ _ _ _. type_method_rule T F I M G) (λ T F I M G _ _ _ _ _. type_tag_rule T F I M G)

unfoldable pub IsTypeMethod : TypeMethod → Type 0
IsTypeMethod = rec-TypeMethod (ℕ → Type 0) (Type 0) (Type 0) (Type 0) (Type 0)
    (λ T F I M G _ _ _ _ _. type_rule T F I M G) (λ T F I M G _ _ _ _ _. type_field_rule T F I M G) (λ T F I M G _ _ _ _ _. type_item_rule T F I M G)
    (λ T F I M G _ _ _ _ _. type_method_rule T F I M G) (λ T F I M G _ _ _ _ _. type_tag_rule T F I M G)

unfoldable pub IsTypeTag : TypeTag → Type 0
IsTypeTag = rec-TypeTag (ℕ → Type 0) (Type 0) (Type 0) (Type 0) (Type 0)
    (λ T F I M G _ _ _ _ _. type_rule T F I M G) (λ T F I M G _ _ _ _ _. type_field_rule T F I M G) (λ T F I M G _ _ _ _ _. type_item_rule T F I M G)
    (λ T F I M G _ _ _ _ _. type_method_rule T F I M G) (λ T F I M G _ _ _ _ _. type_tag_rule T F I M G)

-- ---- type parameters

abbrev pub type_parameter_tokens : TypeParameter → Writing
type_parameter_tokens x = t.Identifier x.name ∷ led (t.Mark m.Subtype) (option_map type_tokens x.bound)

abbrev pub IsTypeParameter : TypeParameter → Type 0
IsTypeParameter x = Within (λ a. IsType a type) x.bound

-- `[tparams]`
abbrev pub type_parameters_tokens : Option (List TypeParameter) → Writing
type_parameters_tokens parameters = angles (option_map (map type_parameter_tokens) parameters)

abbrev pub AreTypeParameters : Option (List TypeParameter) → Type 0
AreTypeParameters = EachWithin IsTypeParameter
