-- A typed state is such as elaboration asks.
use Rattle.std.proofs.Common.{zero, suc, slice_get, ◌≡◌, inl, inr, ℕ, List, [], ◌∷◌, map, true, Some, subst, length}
use Rattle.std.specs.Str.{is_utf8}
use Rattle.mo_types.specs.declared.datum.Datum.TheVariants as part
use Rattle.mo_types.specs.declared.node.Node.TheVariants as node
use Rattle.mo_types.specs.declared.node.TypeId.{TypeId}
use Rattle.mo_types.specs.Graph.{Slot}
use Rattle.mo_values.specs.Shapes.{Bytes}
use Rattle.core_ir.specs.Values as core
use Rattle.typed_tree.specs.declared.action.Action.{Action}
use Rattle.typed_tree.specs.declared.action.Action.TheVariants as action
use Rattle.typed_tree.specs.declared.action.Member.{Member}
use Rattle.typed_tree.specs.Language as language
use Rattle.typed_tree.specs.Language.{Exp, Exps, Cases, Functions, Val, Name, Do, then, Switch, NoExp, AnExp, NoCase, ACase, Try, NoFunction, AFunction}
use Rattle.typed_tree.specs.Substitution.{Slots, hide, count, put, put_cases, put_functions}
use Rattle.typed_tree.specs.Patterns.{Pat, Pats, Wildcard, Bind, Constant, Present?, NoPat, APat, names_all}
use Rattle.typed_tree.specs.Wants.{Want, Of}
use Rattle.mo_soundness.specs.Lawful.{IsLawful}
use Rattle.mo_soundness.specs.Running.{Around, AnswerTypes, IsErrorValue, HasValue, Typed, EachTyped, CasesTyped}
use Rattle.mo_soundness.specs.Worlds.{World}
use Rattle.mo_soundness.proofs.Found.{error_fits, error_of, opened}
use Rattle.program_soundness.specs.Exports.{HookTyped}
use Rattle.program_soundness.specs.Roles.{Role, AHook, PlaysRole, RolesTyped, IsFunctionAs, in_group}
use Rattle.program_soundness.specs.Starting.{hook_cases}
use Rattle.program_soundness.specs.Worlds.{running}
use Rattle.mo_meaning.specs.Places.{one, operands}
use Rattle.mo_machine.specs.Values.{Value, Values, Closure, BuiltIn}
use Rattle.mo_machine.specs.Environments.{Environment}
use Rattle.mo_machine.specs.Frames.{Operands, Choosing, Switching, Returning, Labelled, Testing, Turning, Repeating, Retesting, Going, Stepping, Trying, Updating, Joining, Stack, Focus, Eval, Ready, Give}
use Rattle.mo_machine.specs.Unload.{unload, unload_all, slots, before, plug_in, plug, unload_state}
use Rattle.elaboration.specs.Meeting.{Meets, MeetEach}
use Rattle.elaboration_values.specs.Belonging.{Known, Belongs, EachBelongs}
use Rattle.elaboration_steps.specs.Stacks.{alone}
use Rattle.elaboration_steps.specs.Follows.{CasesMeet, HandlerMeets, ParametersMeet, Suits}
use Rattle.elaboration_premises.specs.Places.{IsName, Placed, InContext, Done, Opened, Named, Grouped, Framed, Operated, Looked, Found, Called}
use Rattle.elaboration_premises.proofs.Calling.{AllHave, arguments, closure_meets, one_argument}
use Rattle.elaboration_premises.proofs.Meeting.{same, meets, meets_at, IsOption, null_meets, option_opens}
use Rattle.elaboration_premises.proofs.Places.{placed}

module _ (types : List Slot) (lawful : IsLawful (running types).head) (answers : AnswerTypes) (kinds : List TypeId) (known : List Known) where
  abbrev world : World
  world = running types

  abbrev P : Exp → Type 0
  P e = Placed types answers kinds e

  abbrev Has : Want TypeId → language.Value → Type 0
  Has = HasValue world answers kinds

  -- ---- cases

  cases_meet : (c : Around) (s : Slots) (cases : Cases) (a w : Want TypeId) (v : Value) (u : core.Value) → CasesTyped world answers kinds c (put_cases s cases) a w → Has a (unload v) → Belongs known v u → CasesMeet cases u
  cases_meet c s NoCase a w v u h i b = tt
  cases_meet c s (ACase p e cases) a w v u h i b = (meets_at world answers kinds lawful p a h.0 (unload v) u h.1 i (same known v u b), cases_meet c s cases a w v u h.3 i b)

  one_case : (s : Slots) (cases : Cases) (p : Pat) (e : Exp) (u : core.Value) → put_cases s cases ≡ ACase p e NoCase → Meets p u → CasesMeet cases u
  one_case s NoCase p e u q m = cc
  one_case s (ACase r f NoCase) p e u q m = let same_pattern : p ≡ r = cc in (subst (λ p. Meets p u) same_pattern m, tt)
  one_case s (ACase r f (ACase r' f' cs)) p e u q m = cc

  two_cases : (s : Slots) (cases : Cases) (p r : Pat) (e f : Exp) (u : core.Value) → put_cases s cases ≡ ACase p e (ACase r f NoCase) → Meets p u → Meets r u → CasesMeet cases u
  two_cases s NoCase p r e f u q m n = cc
  two_cases s (ACase p' e' cs) p r e f u q m n =
      let same_pattern : p ≡ p' = cc in
      let rest : put_cases s cs ≡ ACase r f NoCase = cc in
      (subst (λ p. Meets p u) same_pattern m, one_case s cs r f u rest n)

  name_meets : (p : Pat) (u : core.Value) → IsName p → Meets p u
  name_meets Wildcard u i = tt
  name_meets Bind u i = tt
  name_meets p u i = absurd i

  option_of : (v : language.Value) → HookTyped types answers kinds v → IsOption world answers kinds v
  option_of v (inl q) = inl q
  option_of v (inr h) = inr (h.0, h.1)

  switch_meets : (s : Slots) (cases : Cases) (v : Value) (u : core.Value) → P (Switch (Val (unload v)) (put_cases s cases)) → Belongs known v u → CasesMeet cases u
  switch_meets s cases v u (InContext c w h) b = cases_meet c s cases h.0 w v u h.2 h.1 b
  switch_meets s cases v u (Done x q) b = cc
  switch_meets s cases v u (Opened p d e c a ns q h k) b =
      let z : Switch (Val (unload v)) (put_cases s cases) ≡ Switch d (ACase p e NoCase) = q in
      let same_value : d ≡ Val (unload v) = cc in
      let last : put_cases s cases ≡ ACase p e NoCase = cc in
      let i : Has a (unload v) = subst (λ d. Typed world answers kinds c d a) same_value h in
      one_case s cases p e u last (meets_at world answers kinds lawful p a ns (unload v) u k i (same known v u b))
  switch_meets s cases v u (Named p d e q k h) b = (let z : Switch (Val (unload v)) (put_cases s cases) ≡ Switch d (ACase p e NoCase) = q in let last : put_cases s cases ≡ ACase p e NoCase = cc in one_case s cases p e u last (name_meets p u k))
  switch_meets s cases v u (Grouped fns e q) b = cc
  switch_meets s cases v u (Framed n d q h) b = cc
  switch_meets s cases v u (Operated o es q h) b = cc
  switch_meets s cases v u (Looked d cs o us q k) b = absurd (let z : Switch (Val (unload v)) (put_cases s cases) ≡ Switch d cs = q in let y : Val (unload v) ≡ Do (action.Operate o) (operands us) = cc in cc)
  switch_meets s cases v u (Found x t a q h) b =
      let z : Switch (Val (unload v)) (put_cases s cases) ≡ Switch (Val x) (hook_cases t a) = q in
      let same_value : x ≡ unload v = cc in
      let both : put_cases s cases ≡ ACase (Constant part.Null) t (ACase (Present? Bind) (then (Do action.Call (one (Name 0))) a) NoCase) = cc in
      let i = option_of (unload v) (subst (HookTyped types answers kinds) same_value h) in
      two_cases s cases (Constant part.Null) (Present? Bind) t (then (Do action.Call (one (Name 0))) a) u both (null_meets world answers kinds (unload v) u (same known v u b) i) (option_opens world answers kinds (unload v) u (same known v u b) i)
  switch_meets s cases v u (Called f q h) b = cc

  -- ---- errors and their handlers

  try_meets : (e b : Exp) (p : Pat) (v : Value) (u : core.Value) → P (Try e p b) → IsErrorValue (unload v) → Belongs known v u → Meets p u
  try_meets e b p v u (InContext c w h) i r = meets world answers kinds lawful p h.0 h.1 (unload v) u h.4 (error_fits world answers kinds h.0 (unload v) h.2 i) (same known v u r)
  try_meets e b p v u (Done x q) i r = cc
  try_meets e b p v u (Opened p' d e' c a ns q h k) i r = cc
  try_meets e b p v u (Named p' d e' q h k) i r = cc
  try_meets e b p v u (Grouped fns e' q) i r = cc
  try_meets e b p v u (Framed n d q h) i r = cc
  try_meets e b p v u (Operated o es q h) i r = cc
  try_meets e b p v u (Looked d cs o us q k) i r = cc
  try_meets e b p v u (Found x t a q h) i r = cc
  try_meets e b p v u (Called f q h) i r = cc

  pub handler_meets : (k : Stack) (e : Exp) (v : Value) (u : core.Value) → P (plug k e) → IsErrorValue (unload v) → Belongs known v u → HandlerMeets k u
  handler_meets [] e v u h i b = tt
  handler_meets (Labelled ∷ k) e v u h i b = tt
  handler_meets (Trying p f env ∷ k) e v u h i b = try_meets e _ p v u (placed types answers kinds k (plug_in (Trying p f env) e) h) i b
  handler_meets (Operands a done rest env ∷ k) e v u h i b = handler_meets k (plug_in (Operands a done rest env) e) v u h i b
  handler_meets (Choosing x y env ∷ k) e v u h i b = handler_meets k (plug_in (Choosing x y env) e) v u h i b
  handler_meets (Switching cases env ∷ k) e v u h i b = handler_meets k (plug_in (Switching cases env) e) v u h i b
  handler_meets (Returning n ∷ k) e v u h i b = handler_meets k (plug_in (Returning n) e) v u h i b
  handler_meets (Testing x y env ∷ k) e v u h i b = handler_meets k (plug_in (Testing x y env) e) v u h i b
  handler_meets (Turning x y env ∷ k) e v u h i b = handler_meets k (plug_in (Turning x y env) e) v u h i b
  handler_meets (Repeating x y env ∷ k) e v u h i b = handler_meets k (plug_in (Repeating x y env) e) v u h i b
  handler_meets (Retesting x y env ∷ k) e v u h i b = handler_meets k (plug_in (Retesting x y env) e) v u h i b
  handler_meets (Going p x env ∷ k) e v u h i b = handler_meets k (plug_in (Going p x env) e) v u h i b
  handler_meets (Stepping p x y env ∷ k) e v u h i b = handler_meets k (plug_in (Stepping p x y env) e) v u h i b
  handler_meets (Updating o f env ∷ k) e v u h i b = handler_meets k (plug_in (Updating o f env) e) v u h i b
  handler_meets (Joining ∷ k) e v u h i b = handler_meets k e v u h i b

  -- ---- operands

  abbrev Each : Around → Exps → List (Want TypeId) → Type 0
  Each c es ws = EachTyped world answers kinds c es ws

  one_typed : (c : Around) (v : language.Value) (ws : List (Want TypeId)) (t : TypeId) → ws ≡ Of t ∷ [] → Each c (AnExp (Val v) NoExp) ws → Has (Of t) v
  one_typed c v ws t q h = (subst (λ ws. Each c (AnExp (Val v) NoExp) ws) q h).0

  thrown_is_error : (v : Value) → P (Do action.Throw (AnExp (Val (unload v)) NoExp)) → IsErrorValue (unload v)
  thrown_is_error v (InContext c w (inl (ws, inl (s, g, d, r), h))) = error_of world answers kinds d.1.0 (unload v) d.1.2 (one_typed c (unload v) ws d.1.0 d.1.1 h)
  thrown_is_error v (InContext c w (inl (ws, inr d, h))) = error_of world answers kinds d.0 (unload v) d.1 (one_typed c (unload v) ws d.0 d.2 h)
  thrown_is_error v (InContext c w (inr (inl h))) = h.0
  thrown_is_error v (InContext c w (inr (inr h))) = absurd h.0
  thrown_is_error v (Done x q) = cc
  thrown_is_error v (Opened p' d e' c a ns q h k) = cc
  thrown_is_error v (Named p' d e' q h k) = cc
  thrown_is_error v (Grouped fns e' q) = cc
  thrown_is_error v (Framed n d q h) = cc
  thrown_is_error v (Operated o es q h) = cc
  thrown_is_error v (Looked d cs o us q k) = cc
  thrown_is_error v (Found x t a q h) = cc
  thrown_is_error v (Called f q h) = cc

  text_is : (t : TypeId) (x : Bytes) → world.head t ≡ node.Text → Has (Of t) (language.leaf (part.Text x)) → is_utf8 x ≡ true
  text_is t x q h = (opened world answers kinds t node.Text (language.leaf (part.Text x)) q h).0.1

  printed_is_text : (x : Bytes) → P (Do action.Print (AnExp (Val (language.leaf (part.Text x))) NoExp)) → is_utf8 x ≡ true
  printed_is_text x (InContext c w (inl (ws, inl (s, g, d, r), h))) = text_is d.0.0 x d.0.2 (one_typed c (language.leaf (part.Text x)) ws d.0.0 d.0.1 h)
  printed_is_text x (InContext c w (inl (ws, inr d, h))) = absurd d
  printed_is_text x (InContext c w (inr (inl h))) = absurd h.0
  printed_is_text x (InContext c w (inr (inr h))) = absurd h.0
  printed_is_text x (Done v q) = cc
  printed_is_text x (Opened p' d e' c a ns q h k) = cc
  printed_is_text x (Named p' d e' q h k) = cc
  printed_is_text x (Grouped fns e' q) = cc
  printed_is_text x (Framed n d q h) = cc
  printed_is_text x (Operated o es q h) = cc
  printed_is_text x (Looked d cs o us q k) = cc
  printed_is_text x (Found y t a q h) = cc
  printed_is_text x (Called f q h) = cc

  called : (c : Around) (f r : TypeId) (ps : List TypeId) (ws : List (Want TypeId)) (v : language.Value) (vs : List Value) → ws ≡ Of f ∷ map (λ t. Of t) ps → Each c (AnExp (Val v) (before vs NoExp)) ws → Has (Of f) v × AllHave world answers kinds ps vs
  called c f r ps ws v vs q h = let k = subst (λ ws. Each c (AnExp (Val v) (before vs NoExp)) ws) q h in (k.0, arguments world answers kinds c ps vs k.1)

  -- a hook takes nothing
  hook_parameters : (c : Around) (o : Slots) (fns : Functions) (roles : List Role) (n : ℕ) → RolesTyped types answers kinds c roles (put_functions o fns) → slice_get roles n ≡ Some AHook → ParametersMeet fns n []
  hook_parameters c o NoFunction roles n h q = tt
  hook_parameters c o (AFunction how m ps body fns) [] n h q = absurd h
  hook_parameters c o (AFunction how m ps body fns) (role ∷ roles) zero h q =
      by ps _ (subst (λ role. PlaysRole types answers kinds c role ps (put (hide (names_all ps) o) body)) (let z : Some role ≡ Some AHook = q in let y : role ≡ AHook = cc in y) h.0)
    where
      by : (ps : Pats) (e : Exp) → PlaysRole types answers kinds c AHook ps e → MeetEach ps []
      by NoPat e k = tt
      by (APat p ps) e k = absurd k
  hook_parameters c o (AFunction how m ps body fns) (role ∷ roles) (suc n) h q = hook_parameters c o fns roles n h.1 q

  hook_meets : (group : Functions) (which : ℕ) (env : Environment) (vs : List Value) (ws : List core.Value) (f : language.Value) → Do action.Call (before (Closure group which env ∷ vs) NoExp) ≡ Do action.Call (one (Val f)) → IsFunctionAs types answers kinds AHook f
      → EachBelongs known vs ws → ParametersMeet group which ws
  hook_meets group which env [] [] f q h b =
      let z : Do action.Call (AnExp (Val (unload (Closure group which env))) NoExp) ≡ Do action.Call (one (Val f)) = q in
      let k = subst (IsFunctionAs types answers kinds AHook) (let y : f ≡ unload (Closure group which env) = cc in y) h in
      hook_parameters (in_group k.0) (hide (count group) (slots env)) group k.0 which k.1 k.2
  hook_meets group which env [] (w ∷ ws) f q h b = absurd b
  hook_meets group which env (v ∷ vs) ws f q h b = absurd (let z : Do action.Call (AnExp (Val (unload (Closure group which env))) (AnExp (Val (unload v)) (before vs NoExp))) ≡ Do action.Call (AnExp (Val f) NoExp) = q in cc)

  call_meets : (group : Functions) (which : ℕ) (env : Environment) (vs : List Value) → P (Do action.Call (before (Closure group which env ∷ vs) NoExp)) → (ws : List core.Value) → EachBelongs known vs ws → ParametersMeet group which ws
  call_meets group which env vs (InContext c w (inl (us, inl (s, g, d, r), h))) ws b =
      let k = called c d.0 d.1 d.2 us (unload (Closure group which env)) vs d.4 h in
      closure_meets world answers kinds lawful known group which env d.0 d.1 d.2 d.3 k.0 vs ws k.1 b
  call_meets group which env vs (InContext c w (inl (us, inr d, h))) ws b = absurd d
  call_meets group which env vs (InContext c w (inr (inl h))) ws b = absurd h.0
  call_meets group which env vs (InContext c w (inr (inr h))) ws b = absurd h.0
  call_meets group which env vs (Done v q) ws b = cc
  call_meets group which env vs (Opened p' d e' c a ns q h k) ws b = cc
  call_meets group which env vs (Named p' d e' q h k) ws b = cc
  call_meets group which env vs (Grouped fns e' q) ws b = cc
  call_meets group which env vs (Framed n d q h) ws b = cc
  call_meets group which env vs (Operated o es q h) ws b = cc
  call_meets group which env vs (Looked d cs o us q k) ws b = cc
  call_meets group which env vs (Found x t a q h) ws b = cc
  call_meets group which env vs (Called f q h) ws b = hook_meets group which env vs ws f q h b

  member_meets : (m : Member) (holds : Values) (vs : List Value) → P (Do action.Call (before (BuiltIn m holds ∷ vs) NoExp)) → (a : Action) → alone m ≡ Some a → length vs ≡ 1
  member_meets m holds vs (InContext c w (inl (us, inl (s, g, d, r), h))) a q =
      let k = called c d.0 d.1 d.2 us (unload (BuiltIn m holds)) vs d.4 h in
      one_argument world answers kinds m a q (unload_all holds) d.0 d.1 d.2 d.3 k.0 vs k.1
  member_meets m holds vs (InContext c w (inl (us, inr d, h))) a q = absurd d
  member_meets m holds vs (InContext c w (inr (inl h))) a q = absurd h.0
  member_meets m holds vs (InContext c w (inr (inr h))) a q = absurd h.0
  member_meets m holds vs (Done v e) a q = cc
  member_meets m holds vs (Opened p' d e' c w ns e h k) a q = cc
  member_meets m holds vs (Named p' d e' e h k) a q = cc
  member_meets m holds vs (Grouped fns e' e) a q = cc
  member_meets m holds vs (Framed n d e h) a q = cc
  member_meets m holds vs (Operated o es e h) a q = cc
  member_meets m holds vs (Looked d cs o us e k) a q = cc
  member_meets m holds vs (Found x t y e h) a q = cc
  member_meets m holds vs (Called f e h) a q =
      absurd (let z : Do action.Call (AnExp (Val (unload (BuiltIn m holds))) (before vs NoExp)) ≡ Do action.Call (one (Val f)) = e in subst (IsFunctionAs types answers kinds AHook) (let y : f ≡ unload (BuiltIn m holds) = cc in y) h)

  -- ---- states

  pub suits : (f : Focus) (k : Stack) → P (unload_state f k) → Suits known f k
  suits (Give v) (Switching cases env ∷ k) h = λ u b. switch_meets (slots env) cases v u (placed types answers kinds k (plug_in (Switching cases env) (Val (unload v))) h) b
  suits (Ready action.Call (Closure group which env ∷ vs)) k h = λ ws b. call_meets group which env vs (placed types answers kinds k _ h) ws b
  suits (Ready action.Call (BuiltIn m holds ∷ vs)) k h = λ a q. member_meets m holds vs (placed types answers kinds k _ h) a q
  suits (Ready action.Throw (v ∷ [])) k h = λ u b. handler_meets k _ v u h (thrown_is_error v (placed types answers kinds k _ h)) b
  suits (Ready action.Print (v ∷ [])) k h = λ t q. printed_is_text t (subst (λ v. P (Do action.Print (AnExp (Val (unload v)) NoExp))) q (placed types answers kinds k _ h))
  suits (Eval e env) k h = tt
  suits (Give v) k h = tt
  suits (Ready a vs) k h = tt
