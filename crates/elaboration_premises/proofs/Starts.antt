-- Starts and saves of well-typed programs are as elaboration asks.
use Rattle.std.proofs.Common.{◌≡◌, inl, inr, ℕ, ◌≤◌, List, [], ◌∷◌, ◌++◌, length, map, true≢false, Option, Some, None, refl, sym, ap, ap₂, subst}
use Rattle.std.specs.List.{find}
use Rattle.std.specs.Prelude.{nat_eq}
use Rattle.mo_types.specs.declared.datum.Datum.TheVariants as part
use Rattle.mo_types.specs.declared.node.Node.{Node}
use Rattle.mo_types.specs.declared.node.TypeId.{TypeId}
use Rattle.mo_types.specs.Code.{Variable}
use Rattle.mo_types.specs.Graph.{Slot, head_at}
use Rattle.mo_types.specs.Label.{label_id}
use Rattle.mo_types.specs.Sub.{Each}
use Rattle.mo_types.specs.Values as message
use Rattle.mo_values.specs.Messages.{opened}
use Rattle.mo_values.specs.Shapes.{Bytes, Leaf, Present, Tuple, Object, Shapes, NoShape, AShape, listed}
use Rattle.typed_tree.specs.declared.program.Program.{Program}
use Rattle.typed_tree.specs.declared.program.StableVariable.{StableVariable}
use Rattle.typed_tree.specs.declared.action.Action.TheVariants as action
use Rattle.typed_tree.specs.Language as typed
use Rattle.typed_tree.specs.Language.{Value, Exp, Val, Do}
use Rattle.typed_tree.specs.Opening.{Code, value_of, values_of}
use Rattle.typed_tree.specs.Programs as language
use Rattle.typed_tree.specs.ProgramView.{stable_variable, program}
use Rattle.typed_tree.specs.Shareable.{IsShareable}
use Rattle.typed_tree.specs.Substitution.{put}
use Rattle.typed_tree.specs.Types.{AreLawful}
use Rattle.typed_tree.specs.Wants.{Of}
use Rattle.typed_tree.specs.WellTyped.{WellTyped}
use Rattle.typed_tree.proofs.OwnLabels.{labels_own}
use Rattle.mo_meaning.specs.Coding.{Types, Coding, IsFaithful}
use Rattle.mo_meaning.specs.Configurations.{Surroundings}
use Rattle.mo_meaning.specs.Kernel.{Kept}
use Rattle.mo_meaning.specs.Messages.{as_values}
use Rattle.mo_meaning.specs.Places.{one}
use Rattle.mo_meaning.specs.Saving.{alone}
use Rattle.mo_meaning.specs.Starting.{kept_slot, method_slot, outer_slots, declared, nothing_kept, Taken, Fresh, Value?, Incompatible, first_value, taken_values, taken, all_taken, and_taken, all_kept, then_hook}
use Rattle.mo_soundness.specs.Keeps.{closed}
use Rattle.mo_soundness.specs.Lawful.{IsLawful}
use Rattle.mo_soundness.specs.Running.{Around, AnswerTypes, HasValue, HaveValues, StoreTyped, still}
use Rattle.mo_soundness.specs.Worlds.{plain_world}
use Rattle.mo_soundness.proofs.Found.{unit_fits}
use Rattle.mo_soundness.proofs.Put.{has_still}
use Rattle.mo_soundness.proofs.Wanted.{reflexive}
use Rattle.program_soundness.specs.Bodies.{FieldsTyped}
use Rattle.program_soundness.specs.Declared.{Declared, Last, Before}
use Rattle.program_soundness.specs.Exports.{HookTyped, ExportsTyped}
use Rattle.program_soundness.specs.Results.{GivesResults, AreResults}
use Rattle.program_soundness.specs.Roles.{AHook, IsFunctionAs}
use Rattle.program_soundness.specs.Runs.{IsTypedState, Stands}
use Rattle.program_soundness.specs.Starting.{Soon, AllSoon, IsExporting, IsInstalling, AreExports, IsHooking, IsUpgrading, Begun, Looks, Found, Calls, Runs, Ends}
use Rattle.program_soundness.specs.Starts.{quiet}
use Rattle.program_soundness.specs.Worlds.{running, kept_type}
use Rattle.program_soundness.proofs.Carried.{kept_back}
use Rattle.program_soundness.proofs.Entering.{hook_framed_begins}
use Rattle.program_soundness.proofs.Given.{lawful_types, variables_share}
use Rattle.program_soundness.proofs.Installs.{KeptFit, nothing_fits, exporting, installing}
use Rattle.program_soundness.proofs.Reading.{opened_have}
use Rattle.program_soundness.proofs.Starts.{installing_kept}
use Rattle.program_soundness.proofs.Typed.{results_kept}
use Rattle.program_soundness.proofs.Upgrading.{upgrading_kept}
use Rattle.mo_machine.specs.Values as machine
use Rattle.mo_machine.specs.ActorLanguage.{Fields, unload_fields}
use Rattle.mo_machine.specs.Bodies.{beginning}
use Rattle.mo_machine.specs.Configurations.{Configuration}
use Rattle.mo_machine.specs.Environments.{extended}
use Rattle.mo_machine.specs.Frames.{Returning}
use Rattle.mo_machine.specs.Exports.{option_value, before_upgrade}
use Rattle.mo_machine.specs.Runs.{unload_configuration}
use Rattle.mo_machine.specs.Starting.{kept_value, method_value, outer_values, upgraded_from, hook, start_from}
use Rattle.mo_machine.specs.Turns.{steps}
use Rattle.mo_machine.specs.Unload.{unload, unload_all, unload_list, slots, focused}
use Rattle.mo_machine.proofs.Unloaded.{unload_load}
use Rattle.elaboration_premises.specs.Places.{AreSimple, Placed, InContext, Done, Opened, Named, Grouped, Framed, Operated, Looked, Called}
use Rattle.elaboration_premises.specs.Places as places
use Rattle.elaboration_premises.specs.Serving.{Served}
use Rattle.elaboration_premises.specs.Starts.{StartsServe, SavesServe}
use Rattle.elaboration_premises.proofs.Executions.{serves, on_the_way, begun, results_placed}

-- ---- kept values at their types

module _ (types : List Slot) (answers : AnswerTypes) (kinds : List TypeId) where
  abbrev TakenFits : TypeId → Taken → Type 0
  TakenFits t (Value? x) = HasValue (running types) answers kinds (Of (kept_type types t)) x
  TakenFits t _ = Unit {0}

  abbrev TakenFit : List Taken → List StableVariable → Type 0
  TakenFit [] [] = Unit {0}
  TakenFit (t ∷ ts) (v ∷ vs) = TakenFits v.of_type t × TakenFit ts vs
  TakenFit _ _ = ⊥

  kept_fit : (ts : List Taken) (vs : List StableVariable) (os : List (Option Value)) → TakenFit ts vs → all_kept ts ≡ Some os → KeptFit types answers kinds os vs
  kept_fit [] [] os h q = subst (λ os. KeptFit types answers kinds os []) (let same : [] ≡ os = cc in same) tt
  kept_fit [] (v ∷ vs) os h q = absurd h
  kept_fit (t ∷ ts) [] os h q = absurd h
  kept_fit (t ∷ ts) (v ∷ vs) os h q = by t (all_kept ts) refl h.0 q (λ ks e. kept_fit ts vs ks h.1 e)
    where
      by : (t : Taken) (o : Option (List (Option Value))) → all_kept ts ≡ o → TakenFits v.of_type t → and_taken t o ≡ Some os → ((ks : List (Option Value)) → all_kept ts ≡ Some ks → KeptFit types answers kinds ks vs) → KeptFit types answers kinds os (v ∷ vs)
      by t None e i z later = absurd (let y : None ≡ Some os = z in cc)
      by Incompatible (Some ks) e i z later = absurd (let y : None ≡ Some os = z in cc)
      by Fresh (Some ks) e i z later = subst (λ os. KeptFit types answers kinds os (v ∷ vs)) (let same : None ∷ ks ≡ os = cc in same) (later ks e)
      by (Value? x) (Some ks) e i z later = subst (λ os. KeptFit types answers kinds os (v ∷ vs)) (let same : Some x ∷ ks ≡ os = cc in same) (i, later ks e)

  module _ (graph : AreLawful types) where
    first_fits : (t : TypeId) (s : Shapes Code) → IsShareable (head_at types) t → HaveValues (plain_world (head_at types)) answers kinds (Of t ∷ []) (values_of s) → TakenFits t (first_value (as_values (listed s)))
    first_fits t NoShape sh h = tt
    first_fits t (AShape s rest) sh h = kept_back types graph answers kinds t (value_of s) sh h.0

    value_fits : (t : TypeId) (o : Option message.Values) → IsShareable (head_at types) t → ((values : message.Values) → o ≡ Some values → message.HaveTypes (head_at types) (t ∷ []) values) → TakenFits t (taken_values types t o)
    value_fits t None sh h = tt
    value_fits t (Some values) sh h = first_fits t (opened (head_at types) (t ∷ []) values) sh (opened_have (head_at types) answers kinds (labels_own types graph) values (t ∷ []) (sh, tt) (h values refl))

    module _ (coding : Coding) (faithful : IsFaithful coding) (old : Types) where
      one_taken : (v : StableVariable) (o : Option (Variable TypeId)) → IsShareable (head_at types) v.of_type → TakenFits v.of_type (taken coding old types (stable_variable v) o)
      one_taken v None sh = tt
      one_taken v (Some w) sh = value_fits v.of_type (coding.keep old types w.type v.of_type w.value) sh (λ values q. (faithful.keeps old types w.type v.of_type w.value values q).new)

      taken_fit : (variables : List (Variable TypeId)) (vs : List StableVariable) → Each (λ v. IsShareable (head_at types) v.of_type) vs → TakenFit (all_taken coding old types variables (map stable_variable vs)) vs
      taken_fit variables [] sh = tt
      taken_fit variables (v ∷ vs) sh = (one_taken v (find (λ w. nat_eq (label_id w.name) (label_id v.name)) variables) sh.0, taken_fit variables vs sh.1)

-- ---- what stands around the declarations

kept_same : (o : Option Value) → Some (unload (kept_value o)) ≡ kept_slot o
kept_same None = refl
kept_same (Some v) = ap (λ w. Some (typed.Made Present (typed.AValue w typed.NoValue))) (unload_load v)

outer_kept : (kept : List (Option Value)) → slots (extended (map kept_value kept) machine.NoValue) ≡ map kept_slot kept
outer_kept [] = refl
outer_kept (o ∷ kept) = ap₂ (λ x r. x ∷ r) (kept_same o) (outer_kept kept)

outer_methods : (own : Bytes) (methods : List language.Method) (kept : List (Option Value)) → slots (extended (map (method_value own) methods ++ map kept_value kept) machine.NoValue) ≡ map (method_slot own) methods ++ map kept_slot kept
outer_methods own [] kept = outer_kept kept
outer_methods own (m ∷ methods) kept = ap (λ r. method_slot own m ∷ r) (outer_methods own methods kept)

outer_same : (own : Bytes) (methods : List language.Method) (kept : List (Option Value)) → slots (outer_values own methods kept) ≡ outer_slots own methods kept
outer_same own methods kept = ap (λ r. Some (typed.leaf (part.Actor own)) ∷ r) (outer_methods own methods kept)

-- ---- the states of a start

module _ (types : List Slot) (p : Program) (answers : AnswerTypes) (kinds : List TypeId) where
  abbrev P : Exp → Type 0
  P e = Placed types answers kinds e

  soon_simple : (head : TypeId → Node TypeId) (es : typed.Exps) (vs : List Value) → AllSoon head es vs → AreSimple es
  soon_simple head typed.NoExp [] h = tt
  soon_simple head typed.NoExp (v ∷ vs) h = absurd h
  soon_simple head (typed.AnExp e es) [] h = absurd h
  soon_simple head (typed.AnExp e es) (v ∷ vs) h = (by h.0, soon_simple head es vs h.1)
    where
      by : Soon head e v → places.IsSimple e
      by (inl q) = inl (v, q)
      by (inr q) = inr (q.0, q.1, q.2)

  declared_placed : (c : Around) (e : Exp) → Declared types answers kinds p c e → P e
  declared_placed c e (Last h) = Grouped h.0 _ h.2
  declared_placed c e (Before (inl o) d) = Opened o.1 o.0 _ c o.2 _ o.3 o.4 o.5
  declared_placed c e (Before (inr o) d) = Grouped o.0 _ o.1

  exporting_placed : (e : Exp) → IsExporting types p answers kinds e → P e
  exporting_placed e (inl d) = declared_placed (closed []) e d
  exporting_placed e (inr (inl h)) = Operated _ h.0 h.2 (soon_simple (head_at types) h.0 h.1 h.3)
  exporting_placed e (inr (inr h)) = Done h.0 h.1

  pub installing_placed : (e : Exp) → IsInstalling types p answers kinds e → P e
  installing_placed e (inl h) = Framed h.0 h.1 h.2 (exporting_placed h.1 h.3)
  installing_placed e (inr h) = Done h.0 h.1

  hooking_placed : (e : Exp) → IsHooking types p answers kinds e → P e
  hooking_placed e (Begun d q h) = Named _ d _ q tt (exporting_placed d h)
  hooking_placed e (Looks v q h) = Looked _ _ _ (v ∷ []) q refl
  hooking_placed e (Found v x q h k) = places.Found x _ _ q k
  hooking_placed e (Calls v f q h k) = Named _ _ _ q tt (Called f refl k)
  hooking_placed e (Runs v b q h k) = Named _ b _ q tt (InContext (closed []) (Of k.0) k.2)
  hooking_placed e (Ends v q h) = Done v q

  pub upgrading_placed : (e : Exp) → IsUpgrading types p answers kinds e → P e
  upgrading_placed e (inl q) = Operated _ typed.NoExp q tt
  upgrading_placed e (inr (inl h)) = Framed h.0 h.1 h.2 (hooking_placed h.1 h.3)
  upgrading_placed e (inr (inr h)) = Done h.0 h.1

-- no calls were made, and none may be
quiet_state : (s : Surroundings) (c : Configuration) → c.store ≡ [] → c.calls ≡ [] → IsTypedState s quiet [] (unload_configuration c)
quiet_state s c e q = (subst (λ vs. StoreTyped (running s.types) quiet [] (unload_list vs) []) (sym e) tt, (λ m n t z. absurd (let y : None ≡ Some t = z in cc)), λ n. q)

module _ (coding : Coding) (faithful : IsFaithful coding) (p : Program) (w : WellTyped p) (own : Bytes) (short : length own ≤ 29) where
  abbrev s : Surroundings
  s = alone coding p.types own

  lawful : IsLawful (running p.types).head
  lawful = lawful_types p.types w.types w.basics

  upgraded : (o : Option (List (Option Value))) (ts : List Taken) → TakenFit p.types quiet [] ts p.stable → all_kept ts ≡ o → IsUpgrading p.types p quiet [] (focused (upgraded_from own (program p) o))
  upgraded None ts h q = inl refl
  upgraded (Some os) ts h q =
      subst (λ x. IsUpgrading p.types p quiet [] (typed.Frame p.nodes (then_hook (put x (program p).body)))) (sym (outer_same own (program p).methods os))
      (inr (inl (p.nodes, then_hook (declared own (program p) os), refl, Begun (declared own (program p) os) refl (exporting p w lawful own short quiet [] os (kept_fit p.types quiet [] ts p.stable os h q)))))

  -- a start is typed where it begins
  pub install_stands : Stands s (IsInstalling p.types p) (AreExports p.types p) (unload_configuration (start_from coding p.types (program p) own None)) quiet []
  install_stands = (
    quiet_state s (start_from coding p.types (program p) own None) refl refl,
    subst (λ x. IsInstalling p.types p quiet [] (typed.Frame p.nodes (put x (program p).body))) (sym (outer_same own (program p).methods (nothing_kept (program p).stable)))
        (installing p w lawful own short quiet [] (nothing_kept (program p).stable) (nothing_fits p.types quiet [] p.stable)),
  )

  pub upgrade_stands : (kept : Kept) → Stands s (IsUpgrading p.types p) (AreExports p.types p) (unload_configuration (start_from coding p.types (program p) own (Some kept))) quiet []
  upgrade_stands kept =
      let ts = all_taken coding kept.types p.types kept.variables (program p).stable in (
        quiet_state s (start_from coding p.types (program p) own (Some kept)) refl refl,
        upgraded (all_kept ts) ts (taken_fit p.types quiet [] w.types coding faithful kept.types kept.variables p.stable (variables_share p.types w.end p.stable w.stable)) refl,
      )

  start_served : (kept : Option Kept) → Served (λ j. steps s j (start_from coding p.types (program p) own kept))
  start_served None =
      on_the_way s w.types w.basics (IsInstalling p.types p) (AreExports p.types p) (installing_kept p lawful) (installing_placed p.types p) quiet [] (start_from coding p.types (program p) own None) install_stands
  start_served (Some kept) =
      on_the_way s w.types w.basics (IsUpgrading p.types p) (AreExports p.types p) (upgrading_kept p lawful) (upgrading_placed p.types p) quiet [] (start_from coding p.types (program p) own (Some kept)) (upgrade_stands kept)

pub starts_serve : StartsServe
starts_serve coding faithful p w own short kept = start_served coding faithful p w own short kept

-- ---- the hook before an upgrade

-- the part of what an actor exports that is an option of this hook
module _ (types : List Slot) (answers : AnswerTypes) (kinds : List TypeId) where
  abbrev pub OptionTyped : Option machine.Value → Type 0
  OptionTyped None = Unit {0}
  OptionTyped (Some f) = IsFunctionAs types answers kinds AHook (unload f)

  option_typed : (v : machine.Value) → HookTyped types answers kinds (unload v) → OptionTyped (option_value v)
  option_typed (machine.Made Present (machine.AValue f machine.NoValue)) (inl q) = absurd (let z : typed.Made Present (typed.AValue (unload f) typed.NoValue) ≡ typed.Made (Leaf part.Null) typed.NoValue = q in cc)
  option_typed (machine.Made Present (machine.AValue f machine.NoValue)) (inr (g, q, h)) =
      let z : typed.Made Present (typed.AValue (unload f) typed.NoValue) ≡ typed.Made Present (typed.AValue g typed.NoValue) = q in
      subst (IsFunctionAs types answers kinds AHook) (let y : g ≡ unload f = cc in y) h
  option_typed v h = tt

  pub hook_there : (e : machine.Value) (p : language.Program) → ExportsTyped types answers kinds p (unload e) → OptionTyped (before_upgrade e)
  hook_there (machine.Made h (machine.AValue a (machine.AValue b vs))) p x =
      let q : typed.Made h (typed.AValue (unload a) (typed.AValue (unload b) (unload_all vs)))
      ≡ typed.Made Tuple (typed.AValue (typed.Made Tuple x.functions) (typed.AValue x.before (typed.AValue x.after (typed.AValue (typed.Made (Object x.labels) x.cells) typed.NoValue)))) = x.is in
      option_typed b (subst (HookTyped types answers kinds) (let y : x.before ≡ unload b = cc in y) x.before_upgrade)
  hook_there (machine.Made h machine.NoValue) p x = tt
  hook_there (machine.Made h (machine.AValue a machine.NoValue)) p x = tt
  hook_there (machine.Closure group which env) p x = tt
  hook_there (machine.BuiltIn m holds) p x = tt

module _ (coding : Coding) (p : Program) (w : WellTyped p) (own : Bytes) (answers : AnswerTypes) (kinds : List TypeId) (fields : Fields) (fit : FieldsTyped p.types (program p) answers kinds (unload_fields fields)) where
  abbrev types : List Slot
  types = p.types

  abbrev around : Surroundings
  around = alone coding p.types own

  law : IsLawful (running p.types).head
  law = lawful_types p.types w.types w.basics

  pub store_still : (vs : List Value) (ts : List TypeId) → StoreTyped (running types) answers kinds vs ts → StoreTyped (running types) (still answers) kinds vs ts
  store_still [] [] h = tt
  store_still [] (t ∷ ts) h = absurd h
  store_still (v ∷ vs) [] h = absurd h
  store_still (v ∷ vs) (t ∷ ts) h = (has_still (running types) answers kinds v (Of t) h.0, store_still vs ts h.1)

  pub state : (c : Configuration) → c.store ≡ fields.cells → c.calls ≡ [] → IsTypedState around (still answers) kinds (unload_configuration c)
  state c e q = (subst (λ vs. StoreTyped (running types) (still answers) kinds (unload_list vs) kinds) (sym e) (store_still (unload_list fields.cells) kinds fit.cells), (λ m. absurd (true≢false (sym m))), λ n. q)

  abbrev nodes : ℕ
  nodes = length (program p).stable

  -- where this hook is called
  abbrev begin : Option machine.Value → Configuration
  begin o = beginning nodes fields.cells (hook o) (Returning nodes ∷ [])

  hook_served : (o : Option machine.Value) → OptionTyped types answers kinds o → Served (λ j. steps around j (begin o))
  hook_served None h =
      on_the_way around w.types w.basics (GivesResults (running types) []) (AreResults (running types) []) (results_kept (running types) [] law) (results_placed types []) (still answers) kinds (begin None)
      (state (begin None) refl refl, (law.unit, law.is_unit, (law.unit, unit_fits (running types) (still answers) kinds law.unit law.is_unit, reflexive (running types).head law law.unit)))
  hook_served (Some f) h =
      let c = begin (Some f) in
      begun around w.types w.basics (GivesResults (running types) []) (AreResults (running types) []) (results_kept (running types) [] law) (results_placed types []) (still answers) kinds c refl (state c refl refl)
      (hook_framed_begins types law (still answers) kinds None (unload_list fields.cells) nodes (unload f) (store_still (unload_list fields.cells) kinds fit.cells) h)
      (serves around w.types w.basics answers kinds c (Framed nodes (Do action.Call (one (Val (unload f)))) refl (Called (unload f) refl h)))

pub saves_serve : SavesServe
saves_serve coding p w own answers kinds fields fit = hook_served coding p w own answers kinds fields fit (before_upgrade fields.exports) (hook_there p.types answers kinds fields.exports (program p) fit.exports)
