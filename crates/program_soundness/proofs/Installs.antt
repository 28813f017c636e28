-- The start of a well-typed program: it never breaks, and what it ends with is what the actor exports, over a typed store.
use Rattle.std.proofs.Common.{◌≡◌, ◌≢◌, ◌⊎◌, inl, inr, ℕ, ◌≤◌, List, [], ◌∷◌, ◌++◌, length, map, true, Option, Some, None, refl, sym, ap, subst}
use Rattle.std.specs.List.{find}
use Rattle.std.specs.Prelude.{nat_eq}
use Rattle.mo_types.specs.declared.datum.Datum.TheVariants as part
use Rattle.mo_types.specs.declared.node.Node.TheVariants as node
use Rattle.mo_types.specs.declared.node.Sort.{Sort}
use Rattle.mo_types.specs.declared.node.Sort.TheVariants as sort
use Rattle.mo_types.specs.declared.node.TypeId.{TypeId}
use Rattle.mo_types.specs.Code.{Variable}
use Rattle.mo_types.specs.Graph.{Slot, head_at}
use Rattle.mo_types.specs.Label.{label_id}
use Rattle.mo_types.specs.Sub.{Each}
use Rattle.mo_types.specs.Values as message
use Rattle.mo_values.specs.Messages.{opened}
use Rattle.mo_values.specs.Shapes.{Bytes, Leaf, Shapes, NoShape, AShape, listed}
use Rattle.mo_actor.specs.Executions.{Completion, Completes}
use Rattle.typed_tree.specs.declared.program.Method.{Method}
use Rattle.typed_tree.specs.declared.program.Program.{Program}
use Rattle.typed_tree.specs.declared.program.StableVariable.{StableVariable}
use Rattle.typed_tree.specs.ActionTypes.{Context}
use Rattle.typed_tree.specs.Language.{Value, Exp, NoValue, leaf}
use Rattle.typed_tree.specs.Opening.{Code, value_of, values_of}
use Rattle.typed_tree.specs.ProgramView.{method, stable_variable, program}
use Rattle.typed_tree.specs.Shareable.{IsShareable}
use Rattle.typed_tree.specs.Substitution.{Slots}
use Rattle.typed_tree.specs.Wants.{Want, Anything, Of, KeptOf}
use Rattle.typed_tree.specs.WellTyped.{WellTyped, sort_of, IsActor, AreMethods, IsPublic, behind}
use Rattle.mo_meaning.specs.Coding.{Types, Coding, IsFaithful}
use Rattle.mo_meaning.specs.Configurations.{Returns, Responds, Suspends, Sleeps, Traps, Breaks, Run, Still, Ended, Surroundings}
use Rattle.mo_meaning.specs.Kernel.{Fields, Kept}
use Rattle.mo_meaning.specs.Messages.{as_values}
use Rattle.mo_meaning.specs.Saving.{alone}
use Rattle.mo_meaning.specs.Starting.{kept_slot, method_slot, outer_slots, declared, declarations, nothing_kept, Taken, Fresh, Value?, Incompatible, first_value, taken_values, taken, all_taken, and_taken, all_kept, then_hook, upgraded_from, start_from, fields_progress, start}
use Rattle.mo_meaning.specs.Turns.{turns}
use Rattle.mo_soundness.specs.Keeps.{KnowsMore}
use Rattle.mo_soundness.specs.Lawful.{IsLawful}
use Rattle.mo_soundness.specs.Running.{AnswerTypes, HasValue, HaveValues}
use Rattle.mo_soundness.proofs.Found.{made_at}
use Rattle.mo_soundness.proofs.More.{longer_self, store_grow}
use Rattle.mo_soundness.proofs.Put.{Covers, NameFits}
use Rattle.program_soundness.specs.Bodies.{FieldsTyped}
use Rattle.program_soundness.specs.Roles.{calling}
use Rattle.program_soundness.specs.Runs.{Fitting, EndsFit}
use Rattle.program_soundness.specs.Starting.{IsExporting, IsInstalling, AreExports, IsUpgrading, Begun}
use Rattle.program_soundness.specs.Starts.{quiet, IsStarting}
use Rattle.program_soundness.proofs.Declared.{declared_put}
use Rattle.program_soundness.proofs.Exported.{exports_grow}
use Rattle.program_soundness.proofs.Programs.{program_declared}
use Rattle.program_soundness.proofs.Reading.{opened_have}
use Rattle.program_soundness.proofs.Starts.{installing_kept}
use Rattle.program_soundness.proofs.Turns.{turns_fit, run_ends}
use Rattle.program_soundness.proofs.Upgrading.{upgrading_kept}
use Rattle.program_soundness.specs.Worlds.{running, kept_type}
use Rattle.program_soundness.proofs.Carried.{self_most, kept_back}
use Rattle.program_soundness.specs.Declared.{around_declarations}
use Rattle.mo_types.specs.declared.node.Node.{Node}
use Rattle.typed_tree.proofs.OwnLabels.{labels_own}
use Rattle.mo_subtype.specs.Renamed.{on_field, on_node}
use Rattle.closed_types.proofs.Expanded.{closing}
use Rattle.closed_types.specs.Closings.{IsNoVariable}
use Rattle.closed_rules.specs.ClosedWants.{close_want, close_wants}
use Rattle.closed_rules.proofs.Heads.{at}
use Rattle.typed_tree.specs.Types.{AreLawful}
use Rattle.mo_soundness.specs.Worlds.{plain_world}

-- ---- kept values at their types

module _ (types : List Slot) (answers : AnswerTypes) (kinds : List TypeId) where
  -- of each stable variable nothing, or a value of its type
  abbrev pub KeptFit : List (Option Value) → List StableVariable → Type 0
  KeptFit [] [] = Unit {0}
  KeptFit (None ∷ os) (v ∷ vs) = KeptFit os vs
  KeptFit (Some x ∷ os) (v ∷ vs) = HasValue (running types) answers kinds (Of (kept_type types v.of_type)) x × KeptFit os vs
  KeptFit _ _ = ⊥

  abbrev TakenFits : TypeId → Taken → Type 0
  TakenFits t (Value? x) = HasValue (running types) answers kinds (Of (kept_type types t)) x
  TakenFits t _ = Unit {0}

  abbrev TakenFit : List Taken → List StableVariable → Type 0
  TakenFit [] [] = Unit {0}
  TakenFit (t ∷ ts) (v ∷ vs) = TakenFits v.of_type t × TakenFit ts vs
  TakenFit _ _ = ⊥

  pub nothing_fits : (vs : List StableVariable) → KeptFit (nothing_kept (map stable_variable vs)) vs
  nothing_fits [] = tt
  nothing_fits (v ∷ vs) = nothing_fits vs

  kept_fit : (ts : List Taken) (vs : List StableVariable) (os : List (Option Value)) → TakenFit ts vs → all_kept ts ≡ Some os → KeptFit os vs
  kept_fit [] [] os h q = subst (λ os. KeptFit os []) (let same : [] ≡ os = cc in same) tt
  kept_fit [] (v ∷ vs) os h q = absurd h
  kept_fit (t ∷ ts) [] os h q = absurd h
  kept_fit (t ∷ ts) (v ∷ vs) os h q = by t (all_kept ts) refl h.0 q (λ ks e. kept_fit ts vs ks h.1 e)
    where
      by : (t : Taken) (o : Option (List (Option Value))) → all_kept ts ≡ o → TakenFits v.of_type t → and_taken t o ≡ Some os → ((ks : List (Option Value)) → all_kept ts ≡ Some ks → KeptFit ks vs) → KeptFit os (v ∷ vs)
      by t None e i z later = absurd (let y : None ≡ Some os = z in cc)
      by Incompatible (Some ks) e i z later = absurd (let y : None ≡ Some os = z in cc)
      by Fresh (Some ks) e i z later = subst (λ os. KeptFit os (v ∷ vs)) (let same : None ∷ ks ≡ os = cc in same) (later ks e)
      by (Value? x) (Some ks) e i z later = subst (λ os. KeptFit os (v ∷ vs)) (let same : Some x ∷ ks ≡ os = cc in same) (i, later ks e)

  module _ (graph : AreLawful types) where
    first_fits : (t : TypeId) (s : Shapes Code) → IsShareable (head_at types) t → HaveValues (plain_world (head_at types)) answers kinds (Of t ∷ []) (values_of s) → TakenFits t (first_value (as_values (listed s)))
    first_fits t NoShape sh h = tt
    first_fits t (AShape s rest) sh h = kept_back types graph answers kinds t (value_of s) sh h.0

    value_fits : (t : TypeId) (o : Option message.Values) → IsShareable (head_at types) t → ((values : message.Values) → o ≡ Some values → message.HaveTypes (head_at types) (t ∷ []) values) → TakenFits t (taken_values types t o)
    value_fits t None sh h = tt
    value_fits t (Some values) sh h = first_fits t (opened (head_at types) (t ∷ []) values) sh (opened_have (head_at types) answers kinds (labels_own types graph) values (t ∷ []) (sh, tt) (h values refl))

    module _ (coding : Coding) (faithful : IsFaithful coding) (old : Types) where
      one_taken : (v : StableVariable) (o : Option (Variable TypeId)) → IsShareable (head_at types) v.of_type → TakenFits v.of_type (taken coding old types (stable_variable v) o)
      one_taken v None sh = tt
      one_taken v (Some w) sh = value_fits v.of_type (coding.keep old types w.type v.of_type w.value) sh (λ values q. (faithful.keeps old types w.type v.of_type w.value values q).new)

      taken_fit : (variables : List (Variable TypeId)) (vs : List StableVariable) → Each (λ v. IsShareable (head_at types) v.of_type) vs → TakenFit (all_taken coding old types variables (map stable_variable vs)) vs
      taken_fit variables [] sh = tt
      taken_fit variables (v ∷ vs) sh = (one_taken v (find (λ w. nat_eq (label_id w.name) (label_id v.name)) variables) sh.0, taken_fit variables vs sh.1)

-- ---- the names around the declarations

module _ (types : List Slot) (lawful : IsLawful (running types).head) (answers : AnswerTypes) (kinds : List TypeId) (own : Bytes) (short : length own ≤ 29) where
  abbrev closed_at : (t : TypeId) (x : Node TypeId) → head_at types t ≡ x → IsNoVariable x → (running types).head (kept_type types t) ≡ on_node (kept_type types) x
  closed_at t x e i = at (head_at types) (running types).head (closing types (length types) (self_most (length types)) []) t x e i

  abbrev Has : Want TypeId → Value → Type 0
  Has = HasValue (running types) answers kinds

  actor_has : (ms : List Method) (w : Want TypeId) → IsActor types ms w → NameFits (running types) answers kinds (close_want (kept_type types) w) (leaf (part.Actor own))
  actor_has ms w (inl e) = subst (λ w. NameFits (running types) answers kinds (close_want (kept_type types) w) (leaf (part.Actor own))) (sym e) tt
  actor_has ms w (inr h) = subst (λ w. NameFits (running types) answers kinds (close_want (kept_type types) w) (leaf (part.Actor own))) (sym h.5)
      (made_at (running types) answers kinds (kept_type types h.0) (node.Actor (map (on_field (kept_type types)) h.1)) (Leaf (part.Actor own)) NoValue (closed_at h.0 (node.Actor h.1) h.2 refl) ((tt, short), tt))

  shared_fits : (s : Sort) (t : TypeId) (ps rs : List TypeId) (name : Bytes) → s ≢ sort.Local → head_at types t ≡ node.Func s ps rs → message.is_method_name name ≡ true → Has (Of (kept_type types t)) (leaf (part.Method own name))
  shared_fits s t ps rs name other q i =
      made_at (running types) answers kinds (kept_type types t) (node.Func s (map (kept_type types) ps) (map (kept_type types) rs)) (Leaf (part.Method own name)) NoValue (closed_at t (node.Func s ps rs) q refl) ((tt, (other, short, i)), tt)

  kept_cover : (os : List (Option Value)) (vs : List StableVariable) → KeptFit types answers kinds os vs → Covers (running types) answers lawful kinds (map kept_slot os) (map (λ v. KeptOf (kept_type types v.of_type)) vs) []
  kept_cover [] [] h = refl
  kept_cover [] (v ∷ vs) h = absurd h
  kept_cover (None ∷ os) [] h = absurd h
  kept_cover (Some x ∷ os) [] h = absurd h
  kept_cover (None ∷ os) (v ∷ vs) h = (refl, tt, kept_cover os vs h)
  kept_cover (Some x ∷ os) (v ∷ vs) h = (refl, (h.0, tt), kept_cover os vs h.1)

  methods_cover : (p : Program) (w : WellTyped p) (ms : List Method) (ws : List (Want TypeId)) (s : Slots) (us : List (Want TypeId)) → AreMethods types ms ws → Each (λ m. (message.is_method_name m.name ≡ true) × (sort_of m ≢ sort.Local)) ms
      → Covers (running types) answers lawful kinds s us [] → Covers (running types) answers lawful kinds (map (method_slot own) (map method ms) ++ s) (close_wants (kept_type types) ws ++ us) []
  methods_cover p w [] [] s us h i c = c
  methods_cover p w [] (k ∷ ws) s us h i c = absurd h
  methods_cover p w (m ∷ ms) [] s us h i c = absurd h
  methods_cover p w (m ∷ ms) (k ∷ ws) s us h i c = (refl, by h.0, methods_cover p w ms ws s us h.1 i.1 c)
    where
      by : (k ≡ Anything) ⊎ ((t : TypeId) × (head_at types t ≡ node.Func (sort_of m) m.parameters m.results) × (k ≡ Of t)) → NameFits (running types) answers kinds (close_want (kept_type types) k) (leaf (part.Method own m.name))
      by (inl e) = subst (λ k. NameFits (running types) answers kinds (close_want (kept_type types) k) (leaf (part.Method own m.name))) (sym e) tt
      by (inr q) = subst (λ k. NameFits (running types) answers kinds (close_want (kept_type types) k) (leaf (part.Method own m.name))) (sym q.2) (shared_fits (sort_of m) q.0 m.parameters m.results m.name i.0.1 q.1 i.0.0)

public_names : (p : Program) (c : Context) (ms : List Method) → Each (IsPublic p.types c) ms → Each (λ m. (message.is_method_name m.name ≡ true) × (sort_of m ≢ sort.Local)) ms
public_names p c [] h = tt
public_names p c (m ∷ ms) h = ((h.0.name.0, h.0.shared), public_names p c ms h.1)

-- ---- the start

module _ (p : Program) (w : WellTyped p) (lawful : IsLawful (running p.types).head) (own : Bytes) (short : length own ≤ 29) where
  pub exporting : (answers : AnswerTypes) (kinds : List TypeId) (kept : List (Option Value)) → KeptFit p.types answers kinds kept p.stable → IsExporting p.types p answers kinds (declared own (program p) kept)
  exporting answers kinds kept h =
      inl (declared_put p.types lawful answers kinds p (around_declarations p.types w.own w.methods p.stable) (program p).body (outer_slots own (program p).methods kept) [] (
        refl,
        actor_has p.types lawful answers kinds own short p.methods w.own w.own_is,
        methods_cover p.types lawful answers kinds own short p w p.methods w.methods (map kept_slot kept) (map (λ v. KeptOf (kept_type p.types v.of_type)) p.stable) w.methods_are (public_names p (behind p w.end) p.methods w.public)
            (kept_cover p.types lawful answers kinds own short kept p.stable h),
      )
      (program_declared p w lawful answers kinds))

  pub installing : (answers : AnswerTypes) (kinds : List TypeId) (kept : List (Option Value)) → KeptFit p.types answers kinds kept p.stable → IsInstalling p.types p answers kinds (declarations own (program p) kept)
  installing answers kinds kept h = inl (p.nodes, declared own (program p) kept, refl, exporting answers kinds kept h)

  module _ (coding : Coding) (faithful : IsFaithful coding) (shares : Each (λ v. IsShareable (head_at p.types) v.of_type) p.stable) where
    abbrev s : Surroundings
    s = alone coding p.types own

    upgraded : (kept : Kept) → IsUpgrading p.types p quiet [] (upgraded_from own (program p) (all_kept (all_taken coding kept.types p.types kept.variables (program p).stable)))
    upgraded kept = by (all_kept (all_taken coding kept.types p.types kept.variables (program p).stable)) refl
      where
        by : (o : Option (List (Option Value))) → all_kept (all_taken coding kept.types p.types kept.variables (program p).stable) ≡ o → IsUpgrading p.types p quiet [] (upgraded_from own (program p) o)
        by None q = inl refl
        by (Some os) q = inr (inl (
          p.nodes,
          then_hook (declared own (program p) os),
          refl,
          Begun (declared own (program p) os) refl
              (exporting quiet [] os (kept_fit p.types quiet [] (all_taken coding kept.types p.types kept.variables (program p).stable) p.stable os
              (taken_fit p.types quiet [] w.types coding faithful kept.types kept.variables p.stable shares) q)),
        ))

    pub start_ends : AreLawful p.types → (o : Option Kept) (n : ℕ) → EndsFit s (IsStarting p.types p o) (AreExports p.types p) quiet [] (turns s n (start_from coding p.types (program p) own o))
    start_ends shared None n =
        run_ends s lawful shared (IsInstalling p.types p) (AreExports p.types p) (installing_kept p lawful) _ quiet []
        (turns_fit s lawful shared (IsInstalling p.types p) (AreExports p.types p) (installing_kept p lawful) n (start_from coding p.types (program p) own None) quiet []
        ((tt, λ m n t q. absurd (let z : None ≡ Some t = q in cc), λ e. refl), installing quiet [] (nothing_kept (program p).stable) (nothing_fits p.types quiet [] p.stable)))
    start_ends shared (Some kept) n =
        run_ends s lawful shared (IsUpgrading p.types p) (AreExports p.types p) (upgrading_kept p lawful) _ quiet []
        (turns_fit s lawful shared (IsUpgrading p.types p) (AreExports p.types p) (upgrading_kept p lawful) n (start_from coding p.types (program p) own (Some kept)) quiet []
        ((tt, λ m n t q. absurd (let z : None ≡ Some t = q in cc), λ e. refl), upgraded kept))

    abbrev cells_in : Option (Completion Fields) → Fields → Fields
    cells_in (Some (Completes f)) other = f
    cells_in _ other = other

    -- what a start leaves
    fields_left : (P : Fitting Exp) (run : Run) (fields : Fields) → EndsFit s P (AreExports p.types p) quiet [] run → (fields_progress run).completion ≡ Some (Completes fields)
        → (kinds : List TypeId) × FieldsTyped p.types (program p) (calling quiet) kinds fields
    fields_left P (Still c) fields h q = absurd cc
    fields_left P (Ended c (Returns v)) fields h q =
        let same : h.0 ≡ quiet = h.2.1 refl in
        let knows : KnowsMore h.0 (calling quiet) = subst (λ a. KnowsMore a (calling quiet)) (sym same) (λ n t e. e, λ e. refl) in (
          h.1,
          subst (FieldsTyped p.types (program p) (calling quiet) h.1) (ap (λ o. cells_in o fields) q) (record {
            cells = store_grow (running p.types) h.0 (calling quiet) knows h.1 h.1 (longer_self h.1) c.store h.1 h.4.0.0;
            exports = exports_grow p.types h.0 (calling quiet) knows h.1 h.1 (longer_self h.1) (program p) v h.4.1;
          }),
        )
    fields_left P (Ended c (Responds answer)) fields h q = absurd cc
    fields_left P (Ended c (Suspends number nodes)) fields h q = absurd cc
    fields_left P (Ended c Sleeps) fields h q = absurd cc
    fields_left P (Ended c (Traps text)) fields h q = absurd cc
    fields_left P (Ended c Breaks) fields h q = absurd cc

    pub start_left : AreLawful p.types → (o : Option Kept) (n : ℕ) (fields : Fields) → (start coding p.types (program p) own o n).completion ≡ Some (Completes fields) → (kinds : List TypeId) × FieldsTyped p.types (program p) (calling quiet) kinds fields
    start_left shared o n fields q = fields_left (IsStarting p.types p o) (turns s n (start_from coding p.types (program p) own o)) fields (start_ends shared o n) q
