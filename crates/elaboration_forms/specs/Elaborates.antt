-- What it is that code of Core is that of an expression of the source. Which number a group of functions has is left open. In the body of a
-- shared function stand calls of such functions, awaits and errors, and in other functions none.
use Rattle.std.specs.Prelude.{◌≡◌, ◌⊎◌, ℕ, zero, suc, ◌+◌, ◌≤◌, Bool, true, false, List, [], ◌∷◌, ◌++◌, replicate, Option, Some, None, slice_get}
use Rattle.mo_types.specs.declared.node.Sort.TheVariants as sort
use Rattle.mo_values.specs.Shapes.{Leaf, Tuple}
use Rattle.core_ir.specs.declared.primitive.Primitive.TheVariants as primitive
use Rattle.core_ir.specs.Programs.{Group}
use Rattle.core_ir.specs.Expressions as core
use Rattle.core_ir.specs.Expressions.{Loop, Try, NoExp, AnExp, Body}
use Rattle.typed_tree.specs.declared.action.Action.{Action}
use Rattle.typed_tree.specs.declared.action.Action.TheVariants as action
use Rattle.typed_tree.specs.Language as source
use Rattle.typed_tree.specs.Language.{Value, Exp, Exps, Cases, Functions, Made, NoValue, Val, Switch, While, Repeat, For, Update, NoCase, ACase, NoFunction, AFunction}
use Rattle.typed_tree.specs.Substitution.{count}
use Rattle.elaboration.specs.Scopes.{Place, Local, Own, Nowhere, Scope, one, two, nothing, read_name, place_or_nowhere, beside, inside, labelled, under, in_body}
use Rattle.elaboration.specs.Checks.{Named, check, around_all, behind, fails}
use Rattle.elaboration.specs.Members.{Form, Does, form_of, function_of, levels_from, called, bind_all, let_in, does}
use Rattle.elaboration.specs.Programs.{Hook, hook_of}
use Rattle.elaboration.specs.Elaboration.{constant_of, break_with, if_true, goal_of, element_of, loop_scope, loop_of, number_of_parameters, on_nearest, on_parameters, count_of}

-- a value that stands in a program
abbrev pub IsLiteral : Value → Type 0
IsLiteral (Made (Leaf p) NoValue) = Unit {0}
IsLiteral (Made Tuple NoValue) = Unit {0}
IsLiteral _ = ⊥

abbrev pub IsPlace : Place → Type 0
IsPlace (Local level) = Unit {0}
IsPlace (Own i) = Unit {0}
IsPlace Nowhere = ⊥

abbrev pub HasPlace : Scope → ℕ → Type 0
HasPlace s x = IsPlace (place_or_nowhere (slice_get s.places x))

abbrev pub May : Bool → Action → Type 0
May shared action.Throw = shared ≡ true
May shared (action.Send ps rs) = shared ≡ true
May shared action.Await = shared ≡ true
May shared a = Unit {0}

-- of what is called as a value, as where it is one, one operand at most is written
abbrev pub AtOnce : Form → ℕ → Type 0
AtOnce (Does goal holds parameters) n = Unit {0}
AtOnce _ n = n ≤ 1

-- these groups stand in the table from this number on
abbrev pub HasGroups : List (Group Body) → ℕ → List (Group Body) → Type 0
HasGroups table n [] = Unit {0}
HasGroups table n (g ∷ gs) = (slice_get table n ≡ Some g) × HasGroups table (suc n) gs

-- Of a group of so many functions one is made alone: in its body no name of the group has a place, and behind the group that of this function has one.
abbrev pub unseen : ℕ → Scope → Scope
unseen n s = record s { places = replicate n Nowhere ++ s.places; names = suc s.names }

abbrev pub one_of : (level i n : ℕ) → List Place
one_of level i zero = []
one_of level zero (suc n) = Local level ∷ replicate n Nowhere
one_of level (suc i) (suc n) = Nowhere ∷ one_of level i n

abbrev pub only : (i n : ℕ) → Scope → Scope
only i n s = record s { places = one_of s.names i n ++ s.places; names = suc s.names }

module _ (table : List (Group Body)) where
  abbrev mutual
    pub Elaborates : Bool → Scope → Exp → core.Exp → Type 0
    Elaborates b s (Val v) c = IsLiteral v × (c ≡ constant_of v)
    Elaborates b s (source.Name x) c = HasPlace s x × (c ≡ read_name s x)
    Elaborates b s (source.Do action.Call (source.AnExp (source.Do (action.BuiltIn m) es) args)) c =
        (ds fs : core.Exps) × (n : ℕ) × ElaboratesAll b s es ds × ElaboratesAll b s args fs × HasGroups table n (called (form_of m) ds fs s.names n).groups × (c ≡ (called (form_of m) ds fs s.names n).exp) × AtOnce (form_of m) (count_of es)
    Elaborates b s (source.Do (action.BuiltIn m) es) c =
        (ds : core.Exps) × (n : ℕ) × ElaboratesNames b s es ds × HasGroups table n (function_of (form_of m) (count_of es + s.names) (levels_from s.names (count_of es)) n).groups
        × (c ≡ bind_all ds (function_of (form_of m) (count_of es + s.names) (levels_from s.names (count_of es)) n).exp) × (count_of es ≤ 1)
    Elaborates b s (source.Do a es) c = (ds : core.Exps) × May b a × ElaboratesAll b s es ds × (c ≡ core.Do (goal_of s a) ds)
    Elaborates b s (source.If x a d) c = (y z w : core.Exp) × Elaborates b s x y × Elaborates b s a z × Elaborates b s d w × (c ≡ if_true y z w)
    Elaborates b s (Switch e (ACase p d NoCase)) c =
        (y z : core.Exp) × Elaborates b s e y × Elaborates b (behind (on_nearest p s) s) d z × (c ≡ let_in y (around_all (on_nearest p s).checks fails z))
    Elaborates b s (Switch e cases) c = (y z : core.Exp) × Elaborates b s e y × ElaboratesCases b s.names (inside (beside 1 s)) cases z × (c ≡ let_in y (core.Label z))
    -- the functions of a group, or one of them, where nothing else is used of the group
    Elaborates b s (source.Group fns d) c =
        ((n : ℕ) × (bodies : List Body) × (z : core.Exp) × (slice_get table n ≡ Some (record { sees = s.names; bodies = bodies })) × ElaboratesFunctions (under (count fns) s) fns bodies
        × Elaborates b (under (count fns) s) d z × (c ≡ core.Functions n z))
        ⊎ ((i : ℕ) × (n : ℕ) × (body : Body) × (z : core.Exp) × (slice_get table n ≡ Some (record { sees = s.names; bodies = body ∷ [] })) × ElaboratesOne (unseen (count fns) s) fns i body
        × Elaborates b (only i (count fns) s) d z × (c ≡ core.Functions n z))
    Elaborates b s (source.Frame nodes e) c = ⊥
    Elaborates b s (source.Label e) c = (y : core.Exp) × Elaborates b (labelled s) e y × (c ≡ core.Label y)
    Elaborates b s (While x d) c = (y z : core.Exp) × Elaborates b (inside s) x y × Elaborates b (beside 1 (loop_scope x s)) d z × (c ≡ loop_of x y z)
    Elaborates b s (Repeat d x) c =
        (y z : core.Exp) × Elaborates b (inside s) d y × Elaborates b (beside 1 (inside s)) x z × (c ≡ core.Label (Loop (let_in y (if_true z nothing (break_with nothing)))))
    Elaborates b s (For p e d) c =
        (y z : core.Exp) × Elaborates b s e y × Elaborates b (inside (behind (on_nearest p (beside 1 s)) s)) d z
        × (c ≡ let_in y (core.Label (Loop (let_in element_of (around_all (on_nearest p (beside 1 s)).checks fails z)))))
    Elaborates b s (source.Try e p d) c =
        (y z : core.Exp) × (b ≡ true) × Elaborates b s e y × Elaborates b (behind (on_nearest p s) s) d z × (c ≡ Try y (around_all (on_nearest p s).checks fails z))
    Elaborates b s (Update o e f) c =
        (y z : core.Exp) × Elaborates b s e y × Elaborates b (beside 1 s) f z
        × (c ≡ let_in y (does primitive.Write (two (core.Name 0) (does (primitive.Operate o) (two (does primitive.Read (one (core.Name 0))) z)))))

    pub ElaboratesAll : Bool → Scope → Exps → core.Exps → Type 0
    ElaboratesAll b s source.NoExp cs = cs ≡ NoExp
    ElaboratesAll b s (source.AnExp e es) cs = (d : core.Exp) × (ds : core.Exps) × Elaborates b s e d × ElaboratesAll b s es ds × (cs ≡ AnExp d ds)

    pub ElaboratesNames : Bool → Scope → Exps → core.Exps → Type 0
    ElaboratesNames b s source.NoExp cs = cs ≡ NoExp
    ElaboratesNames b s (source.AnExp e es) cs = (d : core.Exp) × (ds : core.Exps) × Elaborates b s e d × ElaboratesNames b (beside 1 s) es ds × (cs ≡ AnExp d ds)

    pub ElaboratesCases : Bool → ℕ → Scope → Cases → core.Exp → Type 0
    ElaboratesCases b level s NoCase c = c ≡ fails
    ElaboratesCases b level s (ACase p e cases) c =
        (y z : core.Exp) × Elaborates b (behind (check p (Named level) s.names) s) e y × ElaboratesCases b level (beside 1 s) cases z
        × (c ≡ let_in (around_all (check p (Named level) s.names).checks nothing (break_with y)) z)

    -- the bodies of a group that is in scope
    pub ElaboratesFunctions : Scope → Functions → List Body → Type 0
    ElaboratesFunctions s NoFunction bodies = bodies ≡ []
    ElaboratesFunctions s (AFunction how nodes ps body fns) bodies =
        (y : core.Exp) × (others : List Body) × Elaborates false (behind (on_parameters ps s) (in_body (number_of_parameters ps) s)) body y × ElaboratesFunctions s fns others
        × (bodies ≡ record { parameters = number_of_parameters ps; nodes = nodes; expression = around_all (on_parameters ps s).checks fails y } ∷ others)

    -- the body of one of these functions
    pub ElaboratesOne : Scope → Functions → ℕ → Body → Type 0
    ElaboratesOne s NoFunction i b = ⊥
    ElaboratesOne s (AFunction how nodes ps body fns) zero b =
        (y : core.Exp) × Elaborates false (behind (on_parameters ps s) (in_body (number_of_parameters ps) s)) body y
        × (b ≡ record { parameters = number_of_parameters ps; nodes = nodes; expression = around_all (on_parameters ps s).checks fails y })
    ElaboratesOne s (AFunction how nodes ps body fns) (suc i) b = ElaboratesOne s fns i b

-- ---- what is asked of an expression that is elaborated: it has its names, and stands where its actions may

abbrev mutual
  pub Stands : Bool → Scope → Exp → Type 0
  Stands b s (Val v) = IsLiteral v
  Stands b s (source.Name x) = HasPlace s x
  Stands b s (source.Do action.Call (source.AnExp (source.Do (action.BuiltIn m) es) args)) = StandAll b s es × StandAll b s args × AtOnce (form_of m) (count_of es)
  Stands b s (source.Do (action.BuiltIn m) es) = StandNames b s es × (count_of es ≤ 1)
  Stands b s (source.Do a es) = May b a × StandAll b s es
  Stands b s (source.If x a d) = Stands b s x × Stands b s a × Stands b s d
  Stands b s (Switch e (ACase p d NoCase)) = Stands b s e × Stands b (behind (on_nearest p s) s) d
  Stands b s (Switch e cases) = Stands b s e × StandCases b s.names (inside (beside 1 s)) cases
  Stands b s (source.Group fns d) = StandFunctions (under (count fns) s) fns × Stands b (under (count fns) s) d
  Stands b s (source.Frame nodes e) = ⊥
  Stands b s (source.Label e) = Stands b (labelled s) e
  Stands b s (While x d) = Stands b (inside s) x × Stands b (beside 1 (loop_scope x s)) d
  Stands b s (Repeat d x) = Stands b (inside s) d × Stands b (beside 1 (inside s)) x
  Stands b s (For p e d) = Stands b s e × Stands b (inside (behind (on_nearest p (beside 1 s)) s)) d
  Stands b s (source.Try e p d) = (b ≡ true) × Stands b s e × Stands b (behind (on_nearest p s) s) d
  Stands b s (Update o e f) = Stands b s e × Stands b (beside 1 s) f

  pub StandAll : Bool → Scope → Exps → Type 0
  StandAll b s source.NoExp = Unit {0}
  StandAll b s (source.AnExp e es) = Stands b s e × StandAll b s es

  pub StandNames : Bool → Scope → Exps → Type 0
  StandNames b s source.NoExp = Unit {0}
  StandNames b s (source.AnExp e es) = Stands b s e × StandNames b (beside 1 s) es

  pub StandCases : Bool → ℕ → Scope → Cases → Type 0
  StandCases b level s NoCase = Unit {0}
  StandCases b level s (ACase p e cases) = Stands b (behind (check p (Named level) s.names) s) e × StandCases b level (beside 1 s) cases

  pub StandFunctions : Scope → Functions → Type 0
  StandFunctions s NoFunction = Unit {0}
  StandFunctions s (AFunction how nodes ps body fns) = Stands false (behind (on_parameters ps s) (in_body (number_of_parameters ps) s)) body × StandFunctions s fns

-- the hook behind an upgrade stands where it is made alone
abbrev pub StandsAlone : Scope → ℕ → Option Hook → Type 0
StandsAlone s n None = Unit {0}
StandsAlone s n (Some h) = StandFunctions (unseen n s) (AFunction sort.Local h.nodes h.parameters h.body NoFunction)

-- the declarations of an actor stand, each in the scope of those before it; the last group has its own scope, but for the hook behind an upgrade
abbrev pub DeclarationsStand : Scope → Exp → Type 0
DeclarationsStand s (Switch e (ACase p b NoCase)) = Stands false s e × DeclarationsStand (behind (on_nearest p s) s) b
DeclarationsStand s (source.Group fns (source.Do a (source.AnExp functions (source.AnExp before (source.AnExp after (source.AnExp cells es)))))) = StandsAlone s (count fns) (hook_of after fns)
DeclarationsStand s (source.Group fns b) = StandFunctions (under (count fns) s) fns × DeclarationsStand (under (count fns) s) b
DeclarationsStand s e = ⊥
