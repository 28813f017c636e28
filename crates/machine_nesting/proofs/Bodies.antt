-- Where executions begin: starts, calls, what waited, and the hook before an upgrade; and what they leave.
use Rattle.std.proofs.Common.{◌≡◌, ◌≤◌, ℕ, zero, suc, List, [], ◌∷◌, map, length, Option, Some, None, slice_get, refl, subst, arith}
use Rattle.mo_types.specs.declared.node.Node.{Node}
use Rattle.mo_types.specs.declared.node.TypeId.{TypeId}
use Rattle.mo_types.specs.Code.{Variable}
use Rattle.mo_types.specs.Graph.{head_at}
use Rattle.mo_types.specs.Values as message
use Rattle.mo_values.specs.Costs.{Cost}
use Rattle.mo_values.specs.Messages.{opened}
use Rattle.mo_values.specs.Shapes.{Bytes, Present, Shapes, NoShape, AShape}
use Rattle.mo_values.specs.Shapes as shape
use Rattle.mo_actor.specs.Executions.{Completion, Completes}
use Rattle.mo_actor.specs.Executions as execution
use Rattle.mo_actor.specs.Programs.{Effects, Ending, Answers, Awaits, AwaitsNothing, Unchanged}
use Rattle.typed_tree.specs.declared.action.Action.TheVariants as action
use Rattle.typed_tree.specs.Language as language
use Rattle.typed_tree.specs.Language.{Exp}
use Rattle.typed_tree.specs.Opening.{Code, values_of}
use Rattle.typed_tree.specs.Programs.{Program, Method, StableVariable}
use Rattle.nesting.specs.Shapes.{pile}
use Rattle.nesting.proofs.Piles.{parts_pile_less}
use Rattle.mo_meaning.specs.Coding.{Types, Coding}
use Rattle.mo_meaning.specs.Configurations.{Surroundings}
use Rattle.mo_meaning.specs.Kernel.{Entry, Kept}
use Rattle.mo_meaning.specs.Messages.{packed, as_values, values_at, read_values}
use Rattle.mo_meaning.specs.Places.{values_of_list}
use Rattle.mo_meaning.specs.Saving.{alone}
use Rattle.mo_meaning.specs.Starting.{Taken, Fresh, Value?, Incompatible, first_value, taken_values, taken, all_taken, and_taken, all_kept, values_of_taken, kept_cost, nothing_kept, then_hook}
use Rattle.mo_machine.specs.ActorLanguage.{machine, Fields, Waiting, Body, Enters, Resumes, call_of_machine}
use Rattle.mo_machine.specs.Bodies.{beginning, entering, run_of, left, shared_progress, results_of, execution_of}
use Rattle.mo_machine.specs.Configurations.{Configuration, Returns, Responds, Suspends, Sleeps, Traps, Breaks, Run, Still, Ended, weighed}
use Rattle.mo_machine.specs.Environments.{Environment}
use Rattle.mo_machine.specs.Exports.{value_or_unit, values_in, part_at, option_value, function_or, function_at, before_upgrade}
use Rattle.mo_machine.specs.Frames.{Returning, Focus, Eval}
use Rattle.mo_machine.specs.Starting.{kept_value, method_value, outer_values, declared, upgraded_from, fields_progress, hook, saving_from, start_from, start_of}
use Rattle.mo_machine.specs.Turns.{step, steps, turns}
use Rattle.mo_machine.specs.Values.{Value, Made, Closure, BuiltIn, NoValue, AValue, unit}
use Rattle.machine_nesting.specs.Actors.{GoodFields, GoodGiven, GoodWaiting}
use Rattle.machine_nesting.specs.Sizes.{Sized, SizedValue, SizedValues, SizedEach, SizedProgram, Good, GoodAll, GoodEach}
use Rattle.machine_nesting.specs.Stacks.{nodes_on, Standing, IsBusy, Light, LightRun, IsLight}
use Rattle.machine_nesting.proofs.Sizes.{load_good, load_each, each_append, listed_good, MaybeGood, get_good, extended_good}
use Rattle.machine_nesting.proofs.Standing.{busy_value, busy_ready, busy_code}
use Rattle.machine_nesting.proofs.Turning.{step_light, soon_light, is_light, turns_light, turns_soon, given_turns_light, reply_light}

-- ---- values that are read from messages hold no function

module _ (head : TypeId → Node TypeId) where
  opened_sized : (ts : List TypeId) (values : message.Values) → SizedValues (values_of (opened head ts values))
  opened_sized [] values = tt
  opened_sized (t ∷ ts) message.Nil = tt
  opened_sized (t ∷ ts) (message.Value p inner others) = (opened_sized (message.inside (head t) p) inner, opened_sized ts others)

listed_sized : (ss : Shapes Code) → SizedValues (values_of ss) → SizedEach (as_values (shape.listed ss))
listed_sized NoShape h = tt
listed_sized (AShape s ss) h = (h.0, listed_sized ss h.1)

at_sized : (types : Types) (ts : List TypeId) (values : message.Values) → SizedEach (as_values (values_at types ts values))
at_sized types ts values = listed_sized (opened (head_at types) ts values) (opened_sized (head_at types) ts values)

pub read_sized : (coding : Coding) (types : Types) (ts : List TypeId) (bytes : Bytes) (vs : List language.Value) → read_values coding types ts bytes ≡ Some vs → SizedEach vs
read_sized coding types ts bytes vs q = by (coding.read types ts bytes) refl q
  where
    by : (o : Option message.Values) → coding.read types ts bytes ≡ o → read_values (record coding { read = λ a b c. o }) types ts bytes ≡ Some vs → SizedEach vs
    by None e k = absurd (let z : None ≡ Some vs = k in cc)
    by (Some values) e k = subst SizedEach (let same : as_values (values_at types ts values) ≡ vs = cc in same) (at_sized types ts values)

gathered_sized : (vs : List language.Value) → SizedEach vs → SizedValues (values_of_list vs)
gathered_sized [] h = tt
gathered_sized (v ∷ vs) h = (h.0, gathered_sized vs h.1)

pub packed_sized : (vs : List language.Value) → SizedEach vs → SizedValue (packed vs)
packed_sized [] h = tt
packed_sized (v ∷ []) h = h.0
packed_sized (v ∷ u ∷ vs) h = gathered_sized (v ∷ u ∷ vs) h

-- ---- what an upgrade keeps

abbrev TakenSized : Taken → Type 0
TakenSized (Value? v) = SizedValue v
TakenSized _ = Unit {0}

abbrev AllTaken : List Taken → Type 0
AllTaken [] = Unit {0}
AllTaken (t ∷ ts) = TakenSized t × AllTaken ts

first_sized : (vs : List language.Value) → SizedEach vs → TakenSized (first_value vs)
first_sized [] h = tt
first_sized (v ∷ vs) h = h.0

taken_sized : (types : Types) (t : TypeId) (o : Option message.Values) → TakenSized (taken_values types t o)
taken_sized types t None = tt
taken_sized types t (Some values) = first_sized _ (at_sized types (t ∷ []) values)

variable_sized : (coding : Coding) (old new : Types) (v : StableVariable) (o : Option (Variable TypeId)) → TakenSized (taken coding old new v o)
variable_sized coding old new v None = tt
variable_sized coding old new v (Some w) = taken_sized new v.of_type (coding.keep old new w.type v.of_type w.value)

all_sized : (coding : Coding) (old new : Types) (variables : List (Variable TypeId)) (stable : List StableVariable) → AllTaken (all_taken coding old new variables stable)
all_sized coding old new variables [] = tt
all_sized coding old new variables (v ∷ stable) = (variable_sized coding old new v _, all_sized coding old new variables stable)

abbrev MaybeSized : Option language.Value → Type 0
MaybeSized None = Unit {0}
MaybeSized (Some v) = SizedValue v

abbrev KeptSized : List (Option language.Value) → Type 0
KeptSized [] = Unit {0}
KeptSized (o ∷ os) = MaybeSized o × KeptSized os

abbrev AllKept : Option (List (Option language.Value)) → Type 0
AllKept None = Unit {0}
AllKept (Some os) = KeptSized os

and_sized : (t : Taken) (o : Option (List (Option language.Value))) → TakenSized t → AllKept o → AllKept (and_taken t o)
and_sized t None h i = tt
and_sized Incompatible (Some os) h i = tt
and_sized Fresh (Some os) h i = (tt, i)
and_sized (Value? v) (Some os) h i = (h, i)

kept_sized : (ts : List Taken) → AllTaken ts → AllKept (all_kept ts)
kept_sized [] h = tt
kept_sized (t ∷ ts) h = and_sized t (all_kept ts) h.0 (kept_sized ts h.1)

nothing_sized : (stable : List StableVariable) → KeptSized (nothing_kept stable)
nothing_sized [] = tt
nothing_sized (v ∷ stable) = (tt, nothing_sized stable)

-- ---- what stands around the declarations

methods_good : (own : Bytes) (ms : List Method) → GoodEach (map (method_value own) ms)
methods_good own [] = tt
methods_good own (m ∷ ms) = (tt, methods_good own ms)

slot_good : (o : Option language.Value) → MaybeSized o → Good (kept_value o)
slot_good None h = tt
slot_good (Some v) h = (load_good v h, tt)

slots_good : (os : List (Option language.Value)) → KeptSized os → GoodEach (map kept_value os)
slots_good [] h = tt
slots_good (o ∷ os) h = (slot_good o h.0, slots_good os h.1)

outer_good : (own : Bytes) (ms : List Method) (os : List (Option language.Value)) → KeptSized os → GoodAll (outer_values own ms os)
outer_good own ms os h = (tt, extended_good _ NoValue (each_append (map (method_value own) ms) (map kept_value os) (methods_good own ms) (slots_good os h)) tt)

-- ---- parts of what the declarations give

or_unit : (o : Option Value) → MaybeGood o → Good (value_or_unit o)
or_unit None h = tt
or_unit (Some v) h = h

inside_good : (v : Value) → Good v → GoodEach (values_in v)
inside_good (Made head inside) h = listed_good inside h
inside_good (Closure group which env) h = tt
inside_good (BuiltIn m holds) h = tt

part_good : (i : ℕ) (exports : Value) → Good exports → Good (part_at i exports)
part_good i exports h = or_unit (slice_get (values_in exports) i) (get_good (values_in exports) i (inside_good exports h))

option_good : (v : Value) → Good v → MaybeGood (option_value v)
option_good (Made Present (AValue v NoValue)) h = h.0
option_good _ h = tt

function_good : (o : Option Value) → MaybeGood o → Good (function_or o)
function_good None h = ((omega arith, tt, tt), tt)
function_good (Some f) h = h

method_good : (exports : Value) (place : Option ℕ) → Good exports → Good (function_at exports place)
method_good exports None h = ((omega arith, tt, tt), tt)
method_good exports (Some place) h = function_good _ (get_good (values_in (part_at 0 exports)) place (inside_good (part_at 0 exports) (part_good 0 exports h)))

-- ---- calls, and what waited

pub enters_light : (fields : Fields) → GoodFields fields → (entry : Entry) (caller : Bytes) (vs : List language.Value) → SizedEach vs → Light 1 (entering fields entry caller vs)
enters_light fields h entry caller vs g = record {
  store = h.cells;
  standing = busy_ready 1 [] tt action.Call _ (method_good fields.exports entry.place h.exports, ((tt, tt), load_each vs g));
  paid = omega arith;
}

pub waits_light : (cells : List Value) → GoodEach cells → (w : Waiting) → GoodWaiting w → (f : Focus) → Standing 1 f w.stack → Light 1 (beginning w.nodes cells f w.stack)
waits_light cells h w g f i = record { store = h; standing = i; paid = let x : nodes_on w.stack ≤ w.nodes = g.paid in omega (arith, x) }

-- ---- the hook before an upgrade

hook_stands : (o : Option Value) (n : ℕ) → MaybeGood o → Standing 1 (hook o) (Returning n ∷ [])
hook_stands None n h = busy_value 1 (Returning n ∷ []) (tt, omega arith, tt) unit tt
hook_stands (Some f) n h = busy_ready 1 (Returning n ∷ []) (tt, omega arith, tt) action.Call (f ∷ []) (h, tt)

pub saving_light : (p : Program) (fields : Fields) → GoodFields fields → Light 1 (saving_from p fields)
saving_light p fields h = record {
  store = h.cells;
  standing = hook_stands (before_upgrade fields.exports) (length p.stable) (option_good (part_at 1 fields.exports) (part_good 1 fields.exports h.exports));
  paid = omega arith;
}

-- ---- starts: of these only labels and handlers count, since nothing waits there, and the hook after an upgrade stands around the declarations

module _ (coding : Coding) (types : Types) (p : Program) (sized : SizedProgram p) (own : Bytes) where
  abbrev S : Surroundings
  S = alone coding types own

  few_labels : pile 0 1 p.body ≤ p.nodes
  few_labels = let x : pile 1 1 p.body ≤ p.nodes = sized.light in omega (arith, x, parts_pile_less 0 1 (omega arith) (omega arith) p.body)

  hook_sized : Sized (then_hook p.body)
  hook_sized = (sized.sized, (((tt, tt), (tt, (((tt, tt), (tt, tt)), tt))), tt))

  hook_labels : pile 0 1 (then_hook p.body) ≤ p.nodes
  hook_labels = omega (arith, few_labels)

  -- a start is light, and all is well behind its first step
  abbrev Starts : Configuration → Type 0
  Starts c = IsLight (λ j. steps S j c) × LightRun 0 (step S c)

  -- the body of the declarations, which is paid before
  abbrev in_body : Configuration → Exp → Environment → Configuration
  in_body c e env = record c { store = []; focus = Eval (language.Frame p.nodes e) env; stack = [] }

  body_starts : (c : Configuration) (e : Exp) (env : Environment) → p.nodes ≤ c.weight → Sized e → GoodAll env → pile 0 1 e ≤ p.nodes → Starts (in_body c e env)
  body_starts c e env le z g l =
      let h : LightRun 0 (step S (in_body c e env)) = record { store = tt; standing = busy_code 0 (Returning p.nodes ∷ []) (tt, omega arith, tt) e env z g (omega (arith, l)); paid = omega (arith, le) } in
      (soon_light 0 (omega arith) S (in_body c e env) (omega arith) h, h)

  upgrade_starts : (cost : Cost) (o : Option (List (Option language.Value))) → AllKept o → Starts (weighed cost (beginning p.nodes [] (upgraded_from own p o) []))
  upgrade_starts cost None h =
      let c = weighed cost (beginning p.nodes [] (upgraded_from own p None) []) in
      let l : Light 0 c = record { store = tt; standing = busy_code 0 [] tt _ NoValue tt tt (omega arith); paid = omega arith } in
      (is_light 0 (omega arith) S c l, step_light 0 (omega arith) S c l)
  upgrade_starts cost (Some os) h =
      body_starts (weighed cost (beginning p.nodes [] (upgraded_from own p (Some os)) [])) (then_hook p.body) (outer_values own p.methods os) (omega arith) hook_sized (outer_good own p.methods os h) hook_labels

  starts : (kept : Option Kept) → Starts (start_from coding types p own kept)
  starts None =
      body_starts (beginning p.nodes [] (declared own p (nothing_kept p.stable)) []) p.body (outer_values own p.methods (nothing_kept p.stable)) (omega arith) sized.sized (outer_good own p.methods (nothing_kept p.stable) (nothing_sized p.stable)) few_labels
  starts (Some kept) =
      let ts = all_taken coding kept.types types kept.variables p.stable in
      upgrade_starts (kept_cost coding types p kept (values_of_taken ts)) (all_kept ts) (kept_sized ts (all_sized coding kept.types types kept.variables p.stable))

  pub starts_light : (kept : Option Kept) → IsLight (λ j. steps S j (start_from coding types p own kept))
  starts_light kept = (starts kept).0

  fields_left : (r : Run) (fields : Fields) → LightRun 0 r → (fields_progress r).completion ≡ Some (Completes fields) → GoodFields fields
  fields_left (Still c) fields h q = absurd (let z : None ≡ Some (Completes fields) = q in cc)
  fields_left (Ended c (Returns v)) fields h q =
      subst GoodFields (let z : Some (Completes (record { cells = c.store; exports = v })) ≡ Some (Completes fields) = q in let same : record { cells = c.store; exports = v } ≡ fields = cc in same) (record { cells = h.store; exports = h.good })
  fields_left (Ended c (Traps text)) fields h q = absurd (let z : Some (execution.Traps text) ≡ Some (Completes fields) = q in cc)
  fields_left (Ended c (Responds answer)) fields h q = absurd (let z : None ≡ Some (Completes fields) = q in cc)
  fields_left (Ended c (Suspends call nodes)) fields h q = absurd (let z : None ≡ Some (Completes fields) = q in cc)
  fields_left (Ended c Sleeps) fields h q = absurd (let z : None ≡ Some (Completes fields) = q in cc)
  fields_left (Ended c Breaks) fields h q = absurd (let z : None ≡ Some (Completes fields) = q in cc)

  pub started : (kept : Option Kept) (n : ℕ) (fields : Fields) → (start_of coding types p own kept n).completion ≡ Some (Completes fields) → GoodFields fields
  started kept zero fields q = absurd (let z : None ≡ Some (Completes fields) = q in cc)
  started kept (suc n) fields q = fields_left (turns S (suc n) (start_from coding types p own kept)) fields (turns_soon 0 (omega arith) S n (start_from coding types p own kept) ((starts kept).1)) q

-- ---- what bodies leave

abbrev pub GoodEnding : Ending machine → Type 0
GoodEnding (Awaits number w) = GoodWaiting w
GoodEnding _ = Unit {0}

pub record GoodEffects (e : Effects machine) : Type 0 where
  pub fields : GoodFields e.store
  pub ending : GoodEnding e.ending
  -- calls are made in bodies alone
  pub quiet : e.ending ≡ Unchanged → e.calls ≡ []

module _ (fields : Fields) (g : GoodFields fields) (results : List TypeId) (e : Effects machine) where
  abbrev Leaves : Option (Completion (Effects machine)) → Type 0
  Leaves o = o ≡ Some (Completes e)

  leaves : (c : Configuration) (ending : Ending machine) → GoodEach c.store → GoodEnding ending → (ending ≡ Unchanged → ⊥) → Leaves (left fields c ending) → GoodEffects e
  leaves c ending h i never q =
      let made : Effects machine = record { store = record fields { cells = c.store }; calls = map call_of_machine c.calls; ending = ending } in
      subst GoodEffects (let z : Some (Completes made) ≡ Some (Completes e) = q in let same : made ≡ e = cc in same)
      (record { fields = record { cells = h; exports = g.exports }; ending = i; quiet = λ u. absurd (never u) })

  nothing : Leaves None → GoodEffects e
  nothing q = absurd (let z : None ≡ Some (Completes e) = q in cc)

  run_leaves : (r : Run) → LightRun 1 r → Leaves (shared_progress fields results r).completion → GoodEffects e
  run_leaves (Still c) h q = nothing q
  run_leaves (Ended c (Returns v)) h q = nothing q
  run_leaves (Ended c (Responds answer)) h q = leaves c (Answers answer) h.store tt (λ u. let z : Answers answer ≡ Unchanged = u in cc) q
  run_leaves (Ended c (Suspends call nodes)) h q =
      let w : Waiting = record { nodes = nodes; results = results; focus = c.focus; stack = c.stack } in
      leaves c (Awaits call w) h.store h.good (λ u. let z : Awaits call w ≡ Unchanged = u in cc) q
  run_leaves (Ended c Sleeps) h q = leaves c AwaitsNothing h.store tt (λ u. let z : AwaitsNothing ≡ Unchanged = u in cc) q
  run_leaves (Ended c (Traps text)) h q = absurd (let z : Some (execution.Traps text) ≡ Some (Completes e) = q in cc)
  run_leaves (Ended c Breaks) h q = nothing q

module _ (s : Surroundings) (fields : Fields) (g : GoodFields fields) where
  abbrev pub GoodBody : Body → Type 0
  GoodBody (Enters entry caller vs) = SizedEach vs
  GoodBody (Resumes w x) = GoodWaiting w × GoodGiven x

  body_light : (body : Body) → GoodBody body → (n : ℕ) → LightRun 1 (run_of s fields body n)
  body_light (Enters entry caller vs) h n = reply_light 1 (omega arith) s entry.results _ (turns_light 1 (omega arith) s n (entering fields entry caller vs) (enters_light fields g entry caller vs h))
  body_light (Resumes w x) h n =
      reply_light 1 (omega arith) s w.results _ (given_turns_light 1 (omega arith) s x h.1 n (beginning w.nodes fields.cells w.focus w.stack) (waits_light fields.cells g.cells w h.0 w.focus (IsBusy h.0.busy)))

  pub body_leaves : (body : Body) → GoodBody body → (n : ℕ) (e : Effects machine) → (execution_of s fields body n).completion ≡ Some (Completes e) → GoodEffects e
  body_leaves body h n e q = run_leaves fields g (results_of body) e (run_of s fields body n) (body_light body h n) q
