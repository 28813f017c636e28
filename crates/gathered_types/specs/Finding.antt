-- Definitions that are found one after another.
use Rattle.std.specs.Prelude.{◌≡◌, ℕ, List, [], ◌∷◌, ◌++◌}
use Rattle.type_terms.specs.declared.form.Form.{Form}
use Rattle.type_terms.specs.declared.form.TermId.{TermId}
use Rattle.typing_rules.specs.AbstractSyntax.{Named, Signature, Declarations}
use Rattle.typing_rules.specs.Definitions as d
use Rattle.typing_rules.specs.DeclaredTypes.{within}
use Rattle.typing_rules.specs.Gathered.{both, class_object, defined, of_generics}
use Rattle.typing_rules.specs.TypeScopes.{TypeScope, names_of}
use Rattle.type_definitions.specs.declared.definitions.Definition.{Definition}
use Rattle.type_definitions.specs.Definitions.{Listed, Stand, listed, rules_in}
use Rattle.type_definitions.specs.Tables.{Later}
use Rattle.definition_rules.specs.Bounds.{Same}
use Rattle.met_types.specs.States.{State}

-- those and then these
abbrev pub joined : Listed → Listed → Listed
joined a b = listed (a.names ++ b.names) (a.types ++ b.types) (a.bounded ++ b.bounded) (a.bounds ++ b.bounds)

abbrev pub one_type : ℕ → Definition → Listed
one_type n x = listed (n ∷ []) (x ∷ []) [] []

abbrev pub one_bound : ℕ → TermId → Listed
one_bound n b = listed [] [] (n ∷ []) (b ∷ [])

-- These definitions were found.
pub record Finds (old new : State) (defs : d.Definitions) (had has : Listed) : Type 0 where
  pub same : Same old new
  pub more : Listed
  pub found : has ≡ joined had more
  pub stand : Stand new.forms more
  pub is : (later : List Form) → Later new.forms later → rules_in later more ≡ defs

-- the definition of a class, and the bounds of its type parameters
abbrev pub class_head : TypeScope → Named → Signature ℕ → Declarations ℕ → d.Definitions
class_head s x g fields = both (defined s x (names_of g.generics) (class_object s g fields)) (of_generics (within s g) g.generics)
