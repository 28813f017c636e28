-- The rules of patterns (Motoko language manual, section "Patterns").
use Rattle.std.specs.Prelude.{ℕ, ℤ, pos, neg_ℤ, Bool, true, false, ◌||◌, List, [], ◌∷◌, ◌++◌, is_some, not}
use Rattle.std.specs.Str.{is_utf8}
use Rattle.mo_types.specs.declared.node.Node.{Node}
use Rattle.mo_types.specs.declared.node.Field.{Field}
use Rattle.mo_types.specs.Heads.{number_of, is_bool, is_char, is_text, is_blob, is_null, opt_of, tuple_of, object_of, variant_of}
use Rattle.mo_types.specs.Sub.{find}
use Rattle.mo_values.specs.Parts.{is_in_range}
use Rattle.typing_rules.specs.declared.condition.Condition.TheVariants as condition
use Rattle.typing_rules.specs.AbstractSyntax.{Literal, Pattern, Patterns, PatternFields}
use Rattle.typing_rules.specs.AbstractSyntax as p
use Rattle.typing_rules.specs.Terms.{Term}
use Rattle.typing_rules.specs.Definitions.{Definitions}
use Rattle.typing_rules.specs.Heads.{head}
use Rattle.typing_rules.specs.Judgements.{Judgement, Gives, Fails, Part, If, Given, Tests, Needs, IsBelow, Fine}
use Rattle.typing_rules.specs.TypeScopes.{TypeScope}
use Rattle.typing_rules.specs.Types.{Reads}
use Rattle.typing_rules.specs.Contexts.{Scope, constant}
use Rattle.typing_rules.specs.TypedTrees.{Note, note}

-- the number of a literal, with its sign
abbrev pub signed : Bool → ℕ → ℤ
signed false n = pos n
signed true n = neg_ℤ (pos n)

abbrev pub is_empty : {A : Type 0} → List A → Bool
is_empty [] = true
is_empty (x ∷ xs) = false

-- A literal stands on a type that has it.
abbrev pub LiteralStands : ℕ → Bool → Literal → Node Term → Judgement (Unit {0})
LiteralStands at minus (p.Number n) y = Given condition.PatternType at (number_of y) (λ k. Tests condition.LiteralRange at (is_in_range k (signed minus n)) Fine)
LiteralStands at true l y = Fails condition.PatternType at
LiteralStands at false (p.Character c) y = Tests condition.PatternType at (is_char y) Fine
LiteralStands at false (p.Text x) y =
    If (is_blob y) (λ _. Fine) (λ _. Tests condition.PatternType at (is_text y) (Tests condition.Mismatch at (is_utf8 x) Fine))
LiteralStands at false p.True y = Tests condition.PatternType at (is_bool y) Fine
LiteralStands at false p.False y = Tests condition.PatternType at (is_bool y) Fine
LiteralStands at false p.Null y = Tests condition.PatternType at (is_null y || is_some (opt_of y)) Fine

module _ (defs : Definitions) where
  module _ (s : TypeScope) where
    abbrev mutual
      -- The pattern stands on u, and binds names.
      pub Stands : Pattern ℕ → Term → Judgement (Scope × Pattern Note)
      -- `p : T` on a subtype of T
      Stands (p.pattern at (p.Annotated q a)) u =
          Part (Reads defs s a) (λ v. Needs condition.PatternType at (IsBelow u v) (Part (Stands q v) (λ b. Gives (b.0, p.pattern (note at v) (p.Annotated b.1 a)))))
      -- alternatives, which bind nothing
      Stands (p.pattern at (p.Alternative q r)) u =
          Part (Stands q u) (λ b. Tests condition.PatternType at (is_empty b.0) (Part (Stands r u) (λ c. Tests condition.PatternType at (is_empty c.0)
          (Gives ([], p.pattern (note at u) (p.Alternative b.1 c.1))))))
      Stands (p.pattern at (p.Optional q)) u =
          Given condition.PatternType at (opt_of (head defs u)) (λ v. Part (Stands q v) (λ b. Gives (b.0, p.pattern (note at u) (p.Optional b.1))))
      -- `#t` where the tag's type is ()
      Stands (p.pattern at (p.Tag x)) u =
          Given condition.PatternType at (variant_of (head defs u)) (λ tags. Given condition.PatternType at (find x tags) (λ f.
          Given condition.PatternType at (tuple_of (head defs f.part)) (λ parts. Tests condition.PatternType at (is_empty parts)
          (Gives ([], p.pattern (note at u) (p.Tag x))))))
      Stands (p.pattern at (p.Tagged x q)) u =
          Given condition.PatternType at (variant_of (head defs u)) (λ tags. Given condition.PatternType at (find x tags) (λ f.
          Part (Stands q f.part) (λ b. Gives (b.0, p.pattern (note at u) (p.Tagged x b.1)))))
      Stands (p.pattern at (p.Variable x)) u = Gives ((x, constant u) ∷ [], p.pattern (note at u) (p.Variable x))
      Stands (p.pattern at p.Wildcard) u = Gives ([], p.pattern (note at u) p.Wildcard)
      Stands (p.pattern at (p.Constant minus l)) u = Part (LiteralStands at minus l (head defs u)) (λ _. Gives ([], p.pattern (note at u) (p.Constant minus l)))
      Stands (p.pattern at (p.Tuple items)) u =
          Given condition.PatternType at (tuple_of (head defs u)) (λ parts. Part (EachStands at items parts) (λ b. Gives (b.0, p.pattern (note at u) (p.Tuple b.1))))
      Stands (p.pattern at (p.Object fields)) u =
          Given condition.PatternType at (object_of (head defs u)) (λ fs. Part (FieldsStand fields fs) (λ b. Gives (b.0, p.pattern (note at u) (p.Object b.1))))

      -- as many patterns as parts
      pub EachStands : ℕ → Patterns ℕ → List Term → Judgement (Scope × Patterns Note)
      EachStands at p.Nil [] = Gives ([], p.Nil)
      EachStands at p.Nil (u ∷ us) = Fails condition.PatternType at
      EachStands at (p.Cons q rest) [] = Fails condition.PatternType at
      EachStands at (p.Cons q rest) (u ∷ us) = Part (Stands q u) (λ b. Part (EachStands at rest us) (λ c. Gives (c.0 ++ b.0, p.Cons b.1 c.1)))

      -- fields that are there and not `var`
      pub FieldsStand : PatternFields ℕ → List (Field Term) → Judgement (Scope × PatternFields Note)
      FieldsStand p.NoFields fs = Gives ([], p.NoFields)
      FieldsStand (p.Field x q rest) fs =
          Given condition.PatternType x.at (find x.bytes fs) (λ f. Tests condition.PatternType x.at (not f.mutable)
          (Part (Stands q f.part) (λ b. Part (FieldsStand rest fs) (λ c. Gives (c.0 ++ b.0, p.Field x b.1 c.1)))))
