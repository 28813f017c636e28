-- What the machine's values and states stand for: expressions of the language, in which closures have the values of their
-- environments in the place of names.
use Rattle.std.specs.Prelude.{List, [], ◌∷◌, Some}
use Rattle.typed_tree.specs.Patterns.{names}
use Rattle.typed_tree.specs.Language.{Exp, Exps, Functions, Val, Do, If, Switch, Label, While, Repeat, For, Try, Update, NoExp, AnExp, then}
use Rattle.typed_tree.specs.Substitution.{Slots, hide, count, put, put_all, put_cases, put_functions}
use Rattle.typed_tree.specs.Language as language
use Rattle.mo_machine.specs.Values.{Value, Values, Made, Closure, BuiltIn, NoValue, AValue}
use Rattle.mo_machine.specs.Environments.{Environment}
use Rattle.mo_machine.specs.Frames.{Frame, Operands, Choosing, Switching, Returning, Labelled, Testing, Turning, Repeating, Retesting, Going, Stepping, Trying, Updating, Joining, Stack, Focus, Eval, Ready, Give}

abbrev mutual
  pub unload : Value → language.Value
  unload (Made head inside) = language.Made head (unload_all inside)
  unload (Closure group which env) = language.Function (put_functions (hide (count group) (slots env)) group) which
  unload (BuiltIn member holds) = language.BuiltIn member (unload_all holds)

  pub unload_all : Values → language.Values
  unload_all NoValue = language.NoValue
  unload_all (AValue v vs) = language.AValue (unload v) (unload_all vs)

  -- the values of an environment, to be put in the place of names
  pub slots : Environment → Slots
  slots NoValue = []
  slots (AValue v env) = Some (unload v) ∷ slots env

abbrev pub unload_list : List Value → List language.Value
unload_list [] = []
unload_list (v ∷ vs) = unload v ∷ unload_list vs

-- operands that have their values, before the others
abbrev pub before : List Value → Exps → Exps
before [] es = es
before (v ∷ vs) es = AnExp (Val (unload v)) (before vs es)

-- an expression in the place where a frame waits for its value
abbrev pub plug_in : Frame → Exp → Exp
plug_in (Operands a done rest env) e = Do a (before done (AnExp e (put_all (slots env) rest)))
plug_in (Choosing a b env) e = If e (put (slots env) a) (put (slots env) b)
plug_in (Switching cases env) e = Switch e (put_cases (slots env) cases)
plug_in (Returning n) e = language.Frame n e
plug_in Labelled e = Label e
plug_in (Testing c b env) e = If e (put (slots env) (then b (While c b))) (Val language.unit)
plug_in (Turning c b env) e = then e (put (slots env) (While c b))
plug_in (Repeating b c env) e = then e (put (slots env) (If c (Repeat b c) (Val language.unit)))
plug_in (Retesting b c env) e = If e (put (slots env) (Repeat b c)) (Val language.unit)
plug_in (Going p b env) e = For p e (put (hide (names p) (slots env)) b)
plug_in (Stepping p v b env) e = If e (For p (Val (unload v)) (put (hide (names p) (slots env)) b)) (Val language.unit)
plug_in (Trying p b env) e = Try e p (put (hide (names p) (slots env)) b)
plug_in (Updating o f env) e = Update o e (put (slots env) f)
plug_in Joining e = e

abbrev pub plug : Stack → Exp → Exp
plug [] e = e
plug (frame ∷ k) e = plug k (plug_in frame e)

abbrev pub focused : Focus → Exp
focused (Eval e env) = put (slots env) e
focused (Ready a vs) = Do a (before vs NoExp)
focused (Give v) = Val (unload v)

-- the expression that a state stands for
abbrev pub unload_state : Focus → Stack → Exp
unload_state f k = plug k (focused f)
