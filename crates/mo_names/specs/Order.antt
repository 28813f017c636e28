-- No value is used before it is defined (Motoko language manual, "Declarations", "Sequence of declarations").
--
-- In a list of declarations each `func` and `class` is in scope in the whole list. Another declaration uses each name that occurs in it and,
-- where it uses a `func` or `class` of the list, each name that occurs in the body of that one, and so on.
use Rattle.std.specs.Prelude.{◌≡◌, ℕ, not, List, [], ◌∷◌, ◌++◌, Option, Some, None, map, IsTrue}
use Rattle.std.specs.List.{flat_map, filter}
use Rattle.mo_syntax.specs.declared.name.Name.{Name}
use Rattle.mo_syntax.specs.declared.place.Place.{Place}
use Rattle.mo_syntax.specs.declared.patterns.Pattern.{Pattern}
use Rattle.mo_syntax.specs.declared.patterns.Parameters.{Parameters}
use Rattle.mo_syntax.specs.declared.expressions.Expression.{Expression, Expression-F, fold-Expression}
use Rattle.mo_syntax.specs.declared.declarations.Declaration.{Declaration, Declaration-F, fold-Declaration}
use Rattle.mo_syntax.specs.declared.declarations.Declaration.TheOpen as F
use Rattle.mo_syntax.specs.declared.program.Tree.{Tree}
use Rattle.mo_syntax.specs.declared.program.ActorField.{ActorField}
use Rattle.mo_syntax.specs.declared.program.ActorField.TheVariants as field
use Rattle.mo_name_table.specs.Places.{texts}
use Rattle.mo_scopes.specs.Findings.{Names, Texts, contains}
use Rattle.mo_pattern_names.specs.PatternNames.{in_pattern, in_parameters}

-- it is one of these
abbrev pub Among : {A : Type 0} → A → List A → Type 0
Among {A} x xs = (before : List A) × (after : List A) × (xs ≡ before ++ x ∷ after)

-- ---- lists of declarations

-- a declaration of a list: the `let`, `var` and `object` names that it defines, the `func` or `class` that it is, and the names that occur in it
pub record Step : Type 0 where
  pub defines : Texts
  pub functions : Texts
  pub occurs : Names

-- the names that are used where these occur
pub data Uses (steps : List Step) (names : Texts) : List ℕ → Type 0 where
  occurring : (x : List ℕ) → IsTrue (contains names x) → Uses steps names x
  through : (before after : List Step) (step : Step) (f x : List ℕ) → steps ≡ before ++ step ∷ after → Uses steps names f
      → IsTrue (contains step.functions f) → IsTrue (contains (texts step.occurs) x) → Uses steps names x

-- The name occurs in a declaration but a `func` or `class`, and what this one defines itself, or what is defined after it, is used by it.
pub record IsEarly (steps : List Step) (name : Name) : Type 0 where
  pub before : List Step
  pub after : List Step
  pub step : Step
  pub late : List ℕ
  pub list : steps ≡ before ++ step ∷ after
  pub evaluated : step.functions ≡ []
  pub occurs : Among name step.occurs
  pub defined : IsTrue (contains (flat_map (λ s. s.defines) (step ∷ after)) late)
  pub used : Uses steps (name.bytes ∷ []) late

-- ---- the names that occur in a tree, and the lists of declarations in it

abbrev pub without : Texts → Names → Names
without bound names = filter (λ x. not (contains bound x.bytes)) names

-- the names of values that occur in a part and aren't bound in it, and the lists of declarations in it
pub record Found : Type 0 where
  pub free : Names
  pub lists : List (List Step)

pub record FoundStep : Type 0 where
  pub step : Step
  pub lists : List (List Step)

abbrev pub nothing : Found
nothing = record { free = []; lists = [] }

abbrev pub both : Found → Found → Found
both a b = record { free = a.free ++ b.free; lists = a.lists ++ b.lists }

abbrev pub all : List Found → Found
all parts = record { free = flat_map (λ a. a.free) parts; lists = flat_map (λ a. a.lists) parts }

abbrev pub optional : Option Found → Found
optional None = nothing
optional (Some a) = a

-- in the scope of these names
abbrev pub hiding : Texts → Found → Found
hiding names a = record { free = without names a.free; lists = a.lists }

abbrev pub names_of_steps : List Step → Texts
names_of_steps steps = flat_map (λ s. s.defines ++ s.functions) steps

abbrev pub list_of : List FoundStep → Found
list_of found = record {
  free = without (names_of_steps (map (λ d. d.step) found)) (flat_map (λ d. d.step.occurs) found);
  lists = map (λ d. d.step) found ∷ flat_map (λ d. d.lists) found;
}

abbrev pub pattern_names : Pattern → Texts
pattern_names p = texts (in_pattern p).names

abbrev pub parameter_values : Parameters → Texts
parameter_values parameters = texts (in_parameters parameters).names

abbrev pub defining : Texts → Found → FoundStep
defining names a = record { step = record { defines = names; functions = []; occurs = a.free }; lists = a.lists }

abbrev pub function_of : Name → Found → FoundStep
function_of x a = record { step = record { defines = []; functions = x.bytes ∷ []; occurs = a.free }; lists = a.lists }

abbrev pub declaration_step : Declaration-F FoundStep Found FoundStep Found Found → FoundStep
declaration_step (F.Let p a) = defining (pattern_names p) a
declaration_step (F.Var x kind a) = defining (x.bytes ∷ []) a
declaration_step (F.Func x generics parameters result equal_sign body) = function_of x (hiding (parameter_values parameters) body)
declaration_step (F.TypeAlias x names kind) = defining [] nothing
declaration_step (F.Class x generics parameters fields last) = function_of x (hiding (parameter_values parameters) (list_of fields))
declaration_step (F.NamedObject x fields last) = defining (x.bytes ∷ []) (list_of fields)
declaration_step (F.Evaluate a) = defining [] a

abbrev pub expression_step : Expression-F FoundStep Found FoundStep Found Found → Found
expression_step (F.Assign o a b) = both a b
expression_step (F.Annotated a kind) = a
expression_step (F.Binary o a b) = both a b
expression_step (F.If c a otherwise) = both c (both a (optional otherwise))
expression_step (F.Switch c cases last) = both c (all cases)
expression_step (F.While c a) = both c a
expression_step (F.Loop a c) = both a (optional c)
expression_step (F.For p a b) = both a (hiding (pattern_names p) b)
expression_step (F.Label x kind a) = a
expression_step (F.Break x a) = optional a
expression_step (F.Continue x) = nothing
expression_step (F.Return a) = optional a
expression_step (F.Do a) = a
expression_step (F.DoOptional a) = a
expression_step (F.Await a) = a
expression_step (F.Throw a) = a
expression_step (F.Try a p b) = both a (hiding (pattern_names p) b)
expression_step (F.Assert a) = a
expression_step (F.Ignore a) = a
expression_step (F.Debug a) = a
expression_step (F.Function parameters result equal_sign body) = hiding (parameter_values parameters) body
expression_step (F.ObjectBlock fields last) = list_of fields
expression_step (F.Optional a) = a
expression_step (F.Negative a) = a
expression_step (F.Not a) = a
expression_step (F.Tagged x payload) = optional payload
expression_step (F.Member a x) = a
expression_step (F.Projection a n) = a
expression_step (F.Index a b) = both a b
expression_step (F.Call a types arguments) = both a (all arguments)
expression_step (F.Bang a) = a
expression_step (F.Constant literal) = nothing
expression_step (F.Variable x) = record { free = x ∷ []; lists = [] }
expression_step (F.Parenthesized items) = all items
expression_step (F.Array mutable items) = all items
expression_step (F.Object fields last) = all fields
expression_step (F.ActorReference parentheses text) = nothing
expression_step (F.Block declarations last) = list_of declarations

abbrev pub declaration_field_step : F.DeclarationField-F FoundStep Found FoundStep Found Found → FoundStep
declaration_field_step x = x.declaration

abbrev pub case_step : F.Case-F FoundStep Found FoundStep Found Found → Found
case_step x = hiding (pattern_names x.pattern) x.body

-- A field without a value has that of its name.
abbrev pub field_value : Name → Option Found → Found
field_value x None = record { free = x ∷ []; lists = [] }
field_value x (Some a) = a

abbrev pub expression_field_step : F.ExpressionField-F FoundStep Found FoundStep Found Found → Found
expression_field_step x = field_value x.name x.value

unfoldable pub found_step : Declaration → FoundStep
found_step = fold-Declaration FoundStep Found FoundStep Found Found declaration_step expression_step declaration_field_step case_step expression_field_step

unfoldable pub found : Expression → Found
found = fold-Expression FoundStep Found FoundStep Found Found declaration_step expression_step declaration_field_step case_step expression_field_step

-- ---- the program

-- A public function is used as a shared function, and then adds no uses. A system function isn't used.
abbrev pub field_step : ActorField → FoundStep
field_step (field.Public x) = record { step = record { defines = []; functions = x.name.bytes ∷ []; occurs = [] }; lists = (found x.body).lists }
field_step (field.System x equal_sign body) = record { step = record { defines = []; functions = []; occurs = [] }; lists = (found body).lists }
field_step (field.Declared private x) = found_step x
field_step (field.Stable private x kind a) = defining (x.bytes ∷ []) (found a)

-- the lists of declarations of a program
abbrev pub lists_in : Tree → List (List Step)
lists_in tree = (list_of (map field_step tree.actor.fields)).lists

-- A value of a list is used before it is defined, by the name that stands here.
pub record Misplaced (lists : List (List Step)) (place : Place) : Type 0 where
  pub steps : List Step
  pub name : Name
  pub listed : Among steps lists
  pub early : IsEarly steps name
  pub here : name.place ≡ place
