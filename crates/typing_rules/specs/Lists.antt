-- Lists of declarations: types first, then signatures, then `let`, `var`, objects and expressions in order, and then the bodies of functions and classes
-- (Motoko language manual, sections "Declarations" and "Blocks").
use Rattle.std.specs.Prelude.{ℕ, Bool, true, false, List, [], ◌∷◌, Option, Some, None}
use Rattle.typing_rules.specs.declared.condition.Condition.TheVariants as condition
use Rattle.typing_rules.specs.AbstractSyntax.{Declaration, Declarations}
use Rattle.typing_rules.specs.AbstractSyntax as p
use Rattle.typing_rules.specs.Terms.{Term, unit}
use Rattle.typing_rules.specs.Definitions.{Definitions}
use Rattle.typing_rules.specs.Judgements.{Judgement, Gives, Fails, Meets, Part, Needs, IsBelow, IsShareable}
use Rattle.typing_rules.specs.DeclaredTypes.{with_list}
use Rattle.typing_rules.specs.Contexts.{Context, Scope, with_values, with_types}
use Rattle.typing_rules.specs.Signatures.{Signatures, DefinitionsOf}
use Rattle.typing_rules.specs.TypedTrees.{Note}

-- a declaration with its note
abbrev pub Made : Type 0
Made = Note × Declaration Note

-- what one declaration of a list gives: the names that it binds, its type where it is an expression, and itself where it is evaluated in order
pub record Entry : Type 0 where
  pub scope : Scope
  pub value : Option Term
  pub made : List Made

-- what a list gives: its type, all that is known at its end, and the declarations that were evaluated
pub record Run : Type 0 where
  pub type : Term
  pub known : Context
  pub made : List Made

abbrev pub no_entry : Entry
no_entry = record { scope = []; value = None; made = [] }

abbrev pub entry : Scope → Note → Declaration Note → Entry
entry names n d = record { scope = names; value = None; made = (n, d) ∷ [] }

-- What is wanted of an expression in a list: of the last one what is wanted of the list, where that has a value, and of the others ().
abbrev pub of_expression : Bool → Declarations ℕ → Option Term → Option Term
of_expression true p.End w = w
of_expression true (p.Then public n d rest) w = Some unit
of_expression false rest w = Some unit

-- A list gives its last expression's type. One whose last declaration is no expression gives ().
abbrev pub EndsList : ℕ → Option Term → Option Term → Judgement Term
EndsList at (Some u) w = Gives u
EndsList at None None = Meets unit (Gives unit)
EndsList at None (Some u) = Meets unit (Needs condition.Mismatch at (IsBelow unit u) (Gives unit))

-- the next of the declarations that were evaluated; there is one for each in the list
abbrev pub TakesMade : List Made → Judgement (Made × List Made)
TakesMade [] = Fails condition.Mismatch 0
TakesMade (d ∷ ds) = Gives (d, ds)

-- "A stable type is a shareable one."
abbrev pub Stable : {A : Type 0} → Bool → ℕ → Term → Judgement A → Judgement A
Stable false at u j = j
Stable true at u j = Needs condition.StableType at (IsShareable u) j

-- a list, whose declarations are judged in order and then whose bodies are
abbrev pub Listed : Definitions → Context → Declarations ℕ → (Context → Judgement Run) → (Context → List Made → Judgement (Declarations Note)) → Judgement (Term × Declarations Note)
Listed defs e ds order bodies =
    Part (DefinitionsOf defs (with_list e.types ds) ds) (λ _. Part (Signatures defs (with_list e.types ds) ds) (λ names.
    Part (order (with_values names (with_types (with_list e.types ds) e))) (λ run. Part (bodies run.known run.made) (λ made. Gives (run.type, made)))))
