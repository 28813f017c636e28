-- Code and values in which no more stands open at once in the body of a function than the function has nodes (Motoko language manual, sections
-- "Functions" and "Label").
use Rattle.std.specs.Prelude.{◌≤◌, List, [], ◌∷◌}
use Rattle.typed_tree.specs.Language as language
use Rattle.typed_tree.specs.Language.{Exp, Exps, Cases, Functions, Val, Name, Do, If, Switch, Group, Frame, Label, While, Repeat, For, Try, Update, NoExp, AnExp, NoCase, ACase, NoFunction, AFunction}
use Rattle.typed_tree.specs.Programs.{Program}
use Rattle.nesting.specs.Shapes.{pile}
use Rattle.mo_machine.specs.Values.{Value, Values, Made, Closure, BuiltIn, NoValue, AValue}

abbrev mutual
  pub Sized : Exp → Type 0
  Sized (Val v) = SizedValue v
  Sized (Name x) = Unit {0}
  Sized (Do a es) = SizedAll es
  Sized (If c a b) = Sized c × Sized a × Sized b
  Sized (Switch e cases) = Sized e × SizedCases cases
  Sized (Group fns b) = SizedFunctions fns × Sized b
  -- no body stands written in code
  Sized (Frame n e) = ⊥
  Sized (Label e) = Sized e
  Sized (While c b) = Sized c × Sized b
  Sized (Repeat b c) = Sized b × Sized c
  Sized (For p e b) = Sized e × Sized b
  Sized (Try e p b) = Sized e × Sized b
  Sized (Update o e f) = Sized e × Sized f

  pub SizedAll : Exps → Type 0
  SizedAll NoExp = Unit {0}
  SizedAll (AnExp e es) = Sized e × SizedAll es

  pub SizedCases : Cases → Type 0
  SizedCases NoCase = Unit {0}
  SizedCases (ACase p e cases) = Sized e × SizedCases cases

  pub SizedFunctions : Functions → Type 0
  SizedFunctions NoFunction = Unit {0}
  SizedFunctions (AFunction how nodes ps body fns) = (pile 1 1 body ≤ nodes) × Sized body × SizedFunctions fns

  -- a closed value
  pub SizedValue : language.Value → Type 0
  SizedValue (language.Made head inside) = SizedValues inside
  SizedValue (language.Function group which) = SizedFunctions group
  SizedValue (language.BuiltIn member holds) = SizedValues holds

  pub SizedValues : language.Values → Type 0
  SizedValues language.NoValue = Unit {0}
  SizedValues (language.AValue v vs) = SizedValue v × SizedValues vs

abbrev pub SizedEach : List language.Value → Type 0
SizedEach [] = Unit {0}
SizedEach (v ∷ vs) = SizedValue v × SizedEach vs

-- the declarations of an actor are a body, too
pub record SizedProgram (p : Program) : Type 0 where
  pub light : pile 1 1 p.body ≤ p.nodes
  pub sized : Sized p.body

-- ---- values of the machine

abbrev mutual
  pub Good : Value → Type 0
  Good (Made head inside) = GoodAll inside
  Good (Closure group which env) = SizedFunctions group × GoodAll env
  Good (BuiltIn member holds) = GoodAll holds

  -- also of an environment
  pub GoodAll : Values → Type 0
  GoodAll NoValue = Unit {0}
  GoodAll (AValue v vs) = Good v × GoodAll vs

-- also of a store
abbrev pub GoodEach : List Value → Type 0
GoodEach [] = Unit {0}
GoodEach (v ∷ vs) = Good v × GoodEach vs
