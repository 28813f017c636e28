-- Code and values in which each function opens no more than it has nodes: lists, environments and stores of them.
use Rattle.std.proofs.Common.{◌<◌, ℕ, zero, suc, List, [], ◌∷◌, ◌++◌, Option, Some, None, slice_get, arith}
use Rattle.std.specs.Prelude.{slice_set}
use Rattle.typed_tree.specs.Language as language
use Rattle.typed_tree.specs.Language.{Exp, Exps, Cases, Functions, Val, Name, Do, If, Switch, Group, Frame, Label, While, Repeat, For, Try, Update, NoExp, AnExp, NoCase, ACase, NoFunction, AFunction}
use Rattle.nesting.specs.Shapes.{pile, IsPlain, ArePlain, Shaped, ShapedAll, ShapedCases, ShapedFunctions}
use Rattle.mo_machine.specs.Values.{Value, Values, NoValue, AValue, listed, gathered, load, load_all, load_list}
use Rattle.mo_machine.specs.Environments.{Environment, at, extended, closures}
use Rattle.machine_nesting.specs.Laws.{NestedProgramsAreSized}
use Rattle.machine_nesting.specs.Sizes.{Sized, SizedAll, SizedCases, SizedFunctions, SizedValue, SizedValues, SizedEach, Good, GoodAll, GoodEach}

-- ---- code that is written

mutual
  pub plain_sized : (v : language.Value) → IsPlain v → SizedValue v
  plain_sized (language.Made head inside) h = plains_sized inside h
  plain_sized (language.Function group which) h = absurd h
  plain_sized (language.BuiltIn member holds) h = absurd h

  pub plains_sized : (vs : language.Values) → ArePlain vs → SizedValues vs
  plains_sized language.NoValue h = tt
  plains_sized (language.AValue v vs) h = (plain_sized v h.0, plains_sized vs h.1)

mutual
  shaped_sized : (e : Exp) → Shaped e → Sized e
  shaped_sized (Val v) h = plain_sized v h
  shaped_sized (Name x) h = tt
  shaped_sized (Do a es) h = all_sized es h.1
  shaped_sized (If c a b) h = (shaped_sized c h.0, shaped_sized a h.1, shaped_sized b h.2)
  shaped_sized (Switch e cases) h = (shaped_sized e h.0, cases_sized cases h.1)
  shaped_sized (Group fns b) h = (functions_sized fns h.0, shaped_sized b h.1)
  shaped_sized (Frame n e) h = absurd h
  shaped_sized (Label e) h = shaped_sized e h
  shaped_sized (While c b) h = (shaped_sized c h.0, shaped_sized b h.1)
  shaped_sized (Repeat b c) h = (shaped_sized b h.0, shaped_sized c h.1)
  shaped_sized (For p e b) h = (shaped_sized e h.0, shaped_sized b h.1)
  shaped_sized (Try e p b) h = (shaped_sized e h.0, shaped_sized b h.1)
  shaped_sized (Update o e f) h = (shaped_sized e h.0, shaped_sized f h.1)

  all_sized : (es : Exps) → ShapedAll es → SizedAll es
  all_sized NoExp h = tt
  all_sized (AnExp e es) h = (shaped_sized e h.0, all_sized es h.1)

  cases_sized : (cases : Cases) → ShapedCases cases → SizedCases cases
  cases_sized NoCase h = tt
  cases_sized (ACase p e cases) h = (shaped_sized e h.0, cases_sized cases h.1)

  functions_sized : (fns : Functions) → ShapedFunctions fns → SizedFunctions fns
  functions_sized NoFunction h = tt
  functions_sized (AFunction how nodes ps body fns) h = ((let x : pile 1 1 body < nodes = h.1 in omega (arith, x)), shaped_sized body h.2, functions_sized fns h.3)

pub nested_programs_are_sized : NestedProgramsAreSized
nested_programs_are_sized p h i = record { light = h; sized = shaped_sized p.body i }

-- ---- closed values

mutual
  pub load_good : (v : language.Value) → SizedValue v → Good (load v)
  load_good (language.Made head inside) h = loads_good inside h
  load_good (language.Function group which) h = (h, tt)
  load_good (language.BuiltIn member holds) h = loads_good holds h

  loads_good : (vs : language.Values) → SizedValues vs → GoodAll (load_all vs)
  loads_good language.NoValue h = tt
  loads_good (language.AValue v vs) h = (load_good v h.0, loads_good vs h.1)

pub load_each : (vs : List language.Value) → SizedEach vs → GoodEach (load_list vs)
load_each [] h = tt
load_each (v ∷ vs) h = (load_good v h.0, load_each vs h.1)

-- ---- lists

pub each_append : (vs ws : List Value) → GoodEach vs → GoodEach ws → GoodEach (vs ++ ws)
each_append [] ws h i = i
each_append (v ∷ vs) ws h i = (h.0, each_append vs ws h.1 i)

pub listed_good : (vs : Values) → GoodAll vs → GoodEach (listed vs)
listed_good NoValue h = tt
listed_good (AValue v vs) h = (h.0, listed_good vs h.1)

pub gathered_good : (vs : List Value) → GoodEach vs → GoodAll (gathered vs)
gathered_good [] h = tt
gathered_good (v ∷ vs) h = (h.0, gathered_good vs h.1)

abbrev pub MaybeGood : Option Value → Type 0
MaybeGood None = Unit {0}
MaybeGood (Some v) = Good v

pub get_good : (vs : List Value) (n : ℕ) → GoodEach vs → MaybeGood (slice_get vs n)
get_good [] n h = tt
get_good (v ∷ vs) zero h = h.0
get_good (v ∷ vs) (suc n) h = get_good vs n h.1

pub set_good : (vs : List Value) (n : ℕ) (w : Value) → GoodEach vs → Good w → GoodEach (slice_set vs n w)
set_good [] n w h i = tt
set_good (v ∷ vs) zero w h i = (i, h.1)
set_good (v ∷ vs) (suc n) w h i = (h.0, set_good vs n w h.1 i)

-- ---- environments

pub at_good : (env : Environment) (n : ℕ) → GoodAll env → MaybeGood (at env n)
at_good NoValue n h = tt
at_good (AValue v env) zero h = h.0
at_good (AValue v env) (suc n) h = at_good env n h.1

pub extended_good : (vs : List Value) (env : Environment) → GoodEach vs → GoodAll env → GoodAll (extended vs env)
extended_good [] env h i = i
extended_good (v ∷ vs) env h i = (h.0, extended_good vs env h.1 i)

pub group_good : (env : Environment) (group fns : Functions) (n : ℕ) (others : Environment) → SizedFunctions group → GoodAll env → GoodAll others → GoodAll (closures env group fns n others)
group_good env group NoFunction n others h i j = j
group_good env group (AFunction how nodes ps body fns) n others h i j = ((h, i), group_good env group fns (suc n) others h i j)
