-- What belongs together does so where further groups are made.
use Rattle.std.proofs.Common.{ℕ, Bool, true, List, [], ◌∷◌, ◌++◌, slice_get}
use Rattle.core_ir.specs.Programs.{Group}
use Rattle.core_ir.specs.Values as core_value
use Rattle.core_ir.specs.Worlds.{MadeGroup}
use Rattle.core_ir.specs.Expressions as core
use Rattle.core_ir.specs.Expressions.{Body}
use Rattle.core_ir.specs.CoreMachine as core_machine
use Rattle.typed_tree.specs.declared.action.Member.{Member}
use Rattle.typed_tree.specs.Patterns.{Pat}
use Rattle.typed_tree.specs.Language.{Exp, Exps, Cases, Functions}
use Rattle.mo_machine.specs.Values.{Value, Values, shape_of, listed}
use Rattle.mo_machine.specs.Environments.{Environment}
use Rattle.mo_machine.specs.Frames.{Stack}
use Rattle.elaboration.specs.Scopes.{Place, Local, Own, Nowhere, place_or_nowhere}
use Rattle.elaboration_values.specs.Belonging.{Known, Belongs, EachBelongs, StandsAt, EnvironmentBelongs}
use Rattle.elaboration_values.proofs.Belong.{stay}
use Rattle.elaboration_steps.specs.Stacks.{Labels, Coded, CodedAll, CodedBeside, CodedPattern, CodedTurn, CodedCases, HeldAt, FunctionsBelong, MemberBelongs, StackBelongs, Bottom, InFunction, InGathering, InOperands, InMaking, InCalling, InHolding, InChoosing, InLet, InSwitch, InLabel, InTesting, InTurning, InRepeating, InRetesting, InTry, InUpdating, InGoing, InTurn, InBody, InBranch, InCase, InEndless, OneBelongs}

module _ (table : List (Group Body)) (known more : List Known) (globals : List core_value.Value) where
  abbrev grown : List Known
  grown = known ++ more

  pub value_stays : (v : Value) (w : core_value.Value) → Belongs known v w → Belongs grown v w
  value_stays v w a = stay known more (shape_of v) w a

  pub each_stays : (vs : List Value) (ws : List core_value.Value) → EachBelongs known vs ws → EachBelongs grown vs ws
  each_stays [] [] a = tt
  each_stays [] (w ∷ ws) a = absurd a
  each_stays (v ∷ vs) [] a = absurd a
  each_stays (v ∷ vs) (w ∷ ws) a = (value_stays v w (a.0), each_stays vs ws (a.1))

  place_stays : (vals : List core_value.Value) (p : Place) (v : Value) → StandsAt known globals vals p v → StandsAt grown globals vals p v
  place_stays vals (Local level) v s = (s.0, s.1, value_stays v (s.0) (s.2))
  place_stays vals (Own i) v s = (s.0, s.1, value_stays v (s.0) (s.2))
  place_stays vals Nowhere v s = tt

  pub names_stay : (places : List Place) (env : Environment) (vals : List core_value.Value) → EnvironmentBelongs known globals places env vals → EnvironmentBelongs grown globals places env vals
  names_stay places env vals h = λ x v e. place_stays vals (place_or_nowhere (slice_get places x)) v (h x v e)

  pub code_stays : (b : Bool) (l : Labels) (e : Exp) (env : Environment) (c : core.Exp) (vals : List core_value.Value) → Coded table known globals b l e env c vals → Coded table grown globals b l e env c vals
  code_stays b l e env c vals r = record { places = r.places; code = r.code; names = names_stay r.places env vals r.names }

  all_stays : (b : Bool) (l : Labels) (es : Exps) (env : Environment) (cs : core.Exps) (vals : List core_value.Value) → CodedAll table known globals b l es env cs vals → CodedAll table grown globals b l es env cs vals
  all_stays b l es env cs vals r = record { places = r.places; code = r.code; names = names_stay r.places env vals r.names }

  beside_stays : (b : Bool) (l : Labels) (e : Exp) (env : Environment) (c : core.Exp) (vals : List core_value.Value) → CodedBeside table known globals b l e env c vals → CodedBeside table grown globals b l e env c vals
  beside_stays b l e env c vals r = record { places = r.places; code = r.code; names = names_stay r.places env vals r.names }

  pattern_stays : (b : Bool) (l : Labels) (p : Pat) (e : Exp) (env : Environment) (c : core.Exp) (vals : List core_value.Value) → CodedPattern table known globals b l p e env c vals → CodedPattern table grown globals b l p e env c vals
  pattern_stays b l p e env c vals r = record { places = r.places; body = r.body; code = r.code; is = r.is; names = names_stay r.places env vals r.names }

  turn_stays : (b : Bool) (l : Labels) (p : Pat) (e : Exp) (env : Environment) (c : core.Exp) (vals : List core_value.Value) → CodedTurn table known globals b l p e env c vals → CodedTurn table grown globals b l p e env c vals
  turn_stays b l p e env c vals r = record { places = r.places; body = r.body; code = r.code; is = r.is; names = names_stay r.places env vals r.names }

  cases_stay : (b : Bool) (l : Labels) (cases : Cases) (env : Environment) (c : core.Exp) (vals : List core_value.Value) → CodedCases table known globals b l cases env c vals → CodedCases table grown globals b l cases env c vals
  cases_stay b l cases env c vals r = record { places = r.places; code = r.code; names = names_stay r.places env vals r.names }

  pub functions_stay : (fns : Functions) (env : Environment) (made : MadeGroup) → FunctionsBelong table known globals fns env made → FunctionsBelong table grown globals fns env made
  functions_stay fns env made r = record { places = r.places; labels = r.labels; bodies = r.bodies; there = r.there; code = r.code; names = names_stay r.places env made.seen r.names }

  pub one_stays : (fns : Functions) (i : ℕ) (env : Environment) (made : MadeGroup) → OneBelongs table known globals fns i env made → OneBelongs table grown globals fns i env made
  one_stays fns i env made r = record { places = r.places; labels = r.labels; body = r.body; there = r.there; code = r.code; names = names_stay r.places env made.seen r.names }

  held_stays : (vals : List core_value.Value) (levels : List ℕ) (vs : List Value) → HeldAt known vals levels vs → HeldAt grown vals levels vs
  held_stays vals [] [] a = tt
  held_stays vals [] (v ∷ vs) a = absurd a
  held_stays vals (level ∷ levels) [] a = absurd a
  held_stays vals (level ∷ levels) (v ∷ vs) a = ((a.0.0, a.0.1, value_stays v (a.0.0) (a.0.2)), held_stays vals levels vs (a.1))

  pub member_stays : (m : Member) (holds : Values) (made : MadeGroup) → MemberBelongs table known globals m holds made → MemberBelongs table grown globals m holds made
  member_stays m holds made r = record { n = r.n; levels = r.levels; held = held_stays made.seen r.levels (listed holds) r.held; there = r.there; code = r.code }

  module _ (nodes : ℕ) where
    pub stack_stays : (b : Bool) (l : Labels) (held : ℕ) (k : Stack) (ck : List core_machine.Frame) → StackBelongs table known globals nodes b l held k ck → StackBelongs table grown globals nodes b l held k ck
    stack_stays b l held k ck (Bottom c h js q) = Bottom c h js q
    stack_stays b l held k ck (InFunction n c m h j js cj q r) = InFunction n c m h j js cj q (stack_stays c m h j cj r)
    stack_stays b l held k ck (InGathering n c m h f g done before next left j js cj q i e r) = InGathering n c m h f g done before next left j js cj q (value_stays f g i) (each_stays done before e) (stack_stays c m h j cj r)
    stack_stays b l held k ck (InOperands c m h a done rest env j before later vals cj g e d r) =
        InOperands c m h a done rest env j before later vals cj g (each_stays done before e) (all_stays c m rest env later vals d) (stack_stays c m h j cj r)
    stack_stays b l held k ck (InMaking x m h i a done rest args env j before later arguments vals cj row e d f r) =
        InMaking x m h i a done rest args env j before later arguments vals cj row (each_stays done before e) (all_stays x m rest env later vals d) (all_stays x m args env arguments vals f) (stack_stays x m h j cj r)
    stack_stays b l held k ck (InCalling x m h i a holds done rest env j before later vals cj row e d r) =
        InCalling x m h i a holds done rest env j before later vals cj row (each_stays (listed holds ++ done) before e) (all_stays x m rest env later vals d) (stack_stays x m h j cj r)
    stack_stays b l held k ck (InHolding x m h i done env j n levels vals cj e d r) = InHolding x m h i done env j n levels vals cj (held_stays vals levels done e) d (stack_stays x m h j cj r)
    stack_stays b l held k ck (InChoosing x m h y z env j c d vals cj p q r) =
        InChoosing x m h y z env j c d vals cj (code_stays x m y env c vals p) (code_stays x m z env d vals q) (stack_stays x m h j cj r)
    stack_stays b l held k ck (InLet x m h p e env j c vals cj q r) = InLet x m h p e env j c vals cj (pattern_stays x m p e env c vals q) (stack_stays x m h j cj r)
    stack_stays b l held k ck (InSwitch x m h cs env j c vals cj q r) = InSwitch x m h cs env j c vals cj (cases_stay x m cs env c vals q) (stack_stays x m h j cj r)
    stack_stays b l held k ck (InLabel x m h j cj r) = InLabel x m h j cj (stack_stays x m h j cj r)
    stack_stays b l held k ck (InTesting x m h y z env j c d vals cj p q r) =
        InTesting x m h y z env j c d vals cj (code_stays x _ y env c vals p) (beside_stays x _ z env d vals q) (stack_stays x m h j cj r)
    stack_stays b l held k ck (InTurning x m h y z env j c d vals cj p q r) =
        InTurning x m h y z env j c d vals cj (code_stays x _ y env c vals p) (beside_stays x _ z env d vals q) (stack_stays x m h j cj r)
    stack_stays b l held k ck (InEndless x m h y env j d vals cj q r) = InEndless x m h y env j d vals cj (beside_stays x _ y env d vals q) (stack_stays x m h j cj r)
    stack_stays b l held k ck (InRepeating x m h y z env j d c vals cj p q r) =
        InRepeating x m h y z env j d c vals cj (code_stays x _ y env d vals p) (beside_stays x _ z env c vals q) (stack_stays x m h j cj r)
    stack_stays b l held k ck (InRetesting x m h y z env j d c v vals cj p q r) =
        InRetesting x m h y z env j d c v vals cj (code_stays x _ y env d vals p) (beside_stays x _ z env c vals q) (stack_stays x m h j cj r)
    stack_stays b l held k ck (InTry m h p e env j c vals cj q r) = InTry m h p e env j c vals cj (pattern_stays true m p e env c vals q) (stack_stays true m h j cj r)
    stack_stays b l held k ck (InUpdating x m h o e env j c vals cj q r) = InUpdating x m h o e env j c vals cj (beside_stays x m e env c vals q) (stack_stays x m h j cj r)
    stack_stays b l held k ck (InGoing x m h p e env j c vals cj d r) = InGoing x m h p e env j c vals cj (turn_stays x m p e env c vals d) (stack_stays x m h j cj r)
    stack_stays b l held k ck (InTurn x m h p e env v j c w vals cj i d r) =
        InTurn x m h p e env v j c w vals cj (value_stays v w i) (pattern_stays x _ p e env c (w ∷ vals) d) (stack_stays x m h j cj r)
    stack_stays b l held k ck (InBody x m h p e env inner v j c w vals js cj a i d r) =
        InBody x m h p e env inner v j c w vals js cj a (value_stays v w i) (pattern_stays x _ p e env c (w ∷ vals) d) (stack_stays x m h j cj r)
    stack_stays b l held k ck (InBranch x m h j joins cj q r) = InBranch x m h j joins cj q (stack_stays x m h j cj r)
    stack_stays b l held k ck (InCase x m h less j vals skips cj q p r) = InCase x m h less j vals skips cj q p (stack_stays x m less j cj r)
