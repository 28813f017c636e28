-- `next` of an iterator over a text, where the text has a further character.
use Rattle.std.proofs.Common.{◌≡◌, ℕ, suc, ◌+◌, ◌*◌, ◌≤◌, Bool, List, [], ◌∷◌, Option, Some, None, refl, sym, ap, ◌∙◌, arith}
use Rattle.std.specs.Prelude.{slice_set, pos}
use Rattle.mo_num.specs.declared.kind.Kind.TheVariants as kind
use Rattle.mo_num.specs.declared.operator.Operator.TheVariants as operator
use Rattle.mo_types.specs.declared.datum.Datum.TheVariants as part
use Rattle.mo_values.specs.declared.operation.Operation.TheVariants as op
use Rattle.mo_values.specs.Alike.{AlikeAnswers}
use Rattle.mo_values.specs.Costs.{weighing}
use Rattle.mo_values.specs.Operations.{operate}
use Rattle.mo_values.specs.Shapes as shape
use Rattle.mo_values.specs.Views as view
use Rattle.mo_values.specs.Views.{Answer}
use Rattle.core_ir.specs.Choices.{on_some}
use Rattle.core_ir.specs.Primitives as primitives
use Rattle.core_ir.specs.Primitives.{advanced}
use Rattle.core_ir.specs.Values as core_value
use Rattle.core_ir.specs.Values.{Handle}
use Rattle.core_ir.specs.Worlds.{World, Context, with_store}
use Rattle.core_ir.specs.Executions.{Ends}
use Rattle.core_ir.specs.Executions as execution
use Rattle.core_ir.specs.Expressions.{Core}
use Rattle.core_ir.specs.CoreMachine.{Frame, Caller, Focus, Give, focused, operated, depth_of}
use Rattle.typed_tree.specs.declared.action.Action.TheVariants as action
use Rattle.typed_tree.specs.Language as source
use Rattle.mo_machine.specs.Values as machine_value
use Rattle.mo_machine.specs.Values.{Value, Made, NoValue, AValue, Code, leaf, value_of, shapes_list}
use Rattle.mo_machine.specs.Acts.{Store, Act}
use Rattle.mo_machine.specs.Actions as actions
use Rattle.mo_machine.specs.Cells.{cell_of, written}
use Rattle.mo_machine.specs.Configurations.{live_on}
use Rattle.mo_machine.specs.Environments.{Environment}
use Rattle.mo_machine.specs.Frames as machine
use Rattle.mo_machine.specs.Frames.{Operands, Returning, Joining, Stack, Ready}
use Rattle.mo_machine.specs.Jumps.{on_stack}
use Rattle.mo_machine.specs.Reductions.{reduces}
use Rattle.elaboration_values.specs.Belonging.{Known, Names, Belongs}
use Rattle.elaboration_values.proofs.Belong.{operations}
use Rattle.elaboration_steps.specs.Stacks.{Labels, option_of, behind_place, WorldBelongs, Around, Later, LaterBy, AtWriting, AtWritten, AtBack}
use Rattle.elaboration_steps.specs.Follows.{start, owed, Acts}
use Rattle.elaboration_steps.proofs.Depth.{as_deep}
use Rattle.elaboration_steps.proofs.Paths.{nothing_more, waits, does, stops}
use Rattle.elaboration_steps.proofs.Values.{value_belongs, same_cell, set_both}

module _ (program : Core) (context : Context) (nodes : ℕ) (held : ℕ) (known : List Known) (world : World) (store : Store) (worlds : WorldBelongs program.groups known context.globals store world) where
  module _ (b : Bool) (l : Labels) (less c : ℕ) (place : Value) (cell : core_value.Value) (k : Stack) (others : List Frame) (cf : Focus) (ck : List Frame) (value : Belongs known place cell) (depth : depth_of ck ≡ 16 + depth_of others)
      (around : Around program context nodes world known b l less k others) (w : ℕ) where
    abbrev env : Environment
    env = AValue place NoValue

    abbrev inside : List Frame
    inside = Caller 0 None ∷ others

    abbrev character : core_value.Value
    character = shape.leaf (part.Char c)

    abbrev second : Stack
    second = Operands action.Write (place ∷ []) source.NoExp env ∷ behind_place c place k

    deep : live_on k ≡ 16 + nodes + depth_of others
    deep = as_deep program.groups known context.globals nodes b l less k others around

    -- the place is raised
    module _ (i : ℕ) where
      abbrev summands : List Value
      summands = leaf (part.Number (pos i)) ∷ leaf (part.Number (pos 1)) ∷ []

      abbrev numbers : List core_value.Value
      numbers = core_value.number i ∷ core_value.number 1 ∷ []

      abbrev A : Act → Type 0
      A = Acts program context nodes (start (Ready (action.Operate (op.Arithmetic operator.Add kind.Nat)) summands) second) held known world store second 0 cf ck

      raised : (a : Answer Code) (n : Answer Handle) → AlikeAnswers (Names known) a n → focused program context nodes world cf ck ≡ operated program context nodes world inside (advanced context.head world.store w cell character n) → less + w ≤ suc held
          → A (on_stack store (actions.answered store (weighing 1) a) second)
      raised (view.Gives v) (view.Gives u) r eq fits =
          waits program context nodes (start (Ready (action.Operate (op.Arithmetic operator.Add kind.Nat)) summands) second) (0 + owed second) (2 * 1 + held) 0 (held + 2) known world cf ck store (machine.Give (value_of v)) second (omega arith) (omega arith) worlds
          (Later (machine.Give (value_of v)) second (Ready action.Write (place ∷ value_of v ∷ [])) (behind_place c place k) cf ck refl (λ store. refl) (omega arith) (omega arith) (omega (arith, deep, depth))
          (AtWriting b l less w c place (value_of v) cell u k others cf ck value (value_belongs known v u r) eq depth (omega (arith, fits)) around))
      raised (view.Gives v) (view.Traps t) r eq fits = absurd r
      raised (view.Gives v) view.Stuck r eq fits = absurd r
      raised (view.Traps t) (view.Gives u) r eq fits = absurd r
      raised (view.Traps t) (view.Traps u) r eq fits =
          stops program context nodes (start (Ready (action.Operate (op.Arithmetic operator.Add kind.Nat)) summands) second) 0 (2 * 1 + held) 0 (weighing w) world cf ck (execution.Traps t) (eq ∙ ap (λ x. Ends (weighing w) [] world (execution.Traps x)) (sym r)) (omega (arith, fits)) (omega arith)
      raised (view.Traps t) view.Stuck r eq fits = absurd r
      raised view.Stuck n r eq fits = tt

      pub raises : focused program context nodes world cf ck ≡ operated program context nodes world inside (advanced context.head world.store w cell character (operate context.head (op.Arithmetic operator.Add kind.Nat) numbers)) → less + w ≤ suc held
          → A (reduces context.head None store (Ready (action.Operate (op.Arithmetic operator.Add kind.Nat)) summands) second)
      raises eq fits =
          raised (operate context.head (op.Arithmetic operator.Add kind.Nat) (shapes_list summands)) (operate context.head (op.Arithmetic operator.Add kind.Nat) numbers)
          ((operations known context.head (op.Arithmetic operator.Add kind.Nat) (shapes_list summands) numbers ((refl, tt), ((refl, tt), tt))).0) eq fits

    -- and written
    module _ (v : Value) (u : core_value.Value) (new : Belongs known v u) where
      abbrev W : Act → Type 0
      W = Acts program context nodes (start (Ready action.Write (place ∷ v ∷ [])) (behind_place c place k)) held known world store (behind_place c place k) 0 cf ck

      written_at : (o : Option ℕ) → focused program context nodes world cf ck ≡ operated program context nodes world inside (on_some primitives.Stuck o (λ at. primitives.Gives (weighing (3 + w)) (core_value.present character) (slice_set world.store at u))) → less + w + 1 ≤ held
          → W (on_stack store (written store o v) (behind_place c place k))
      written_at None eq fits = tt
      written_at (Some at) eq fits =
          does program context nodes (start (Ready action.Write (place ∷ v ∷ [])) (behind_place c place k)) (0 + owed (behind_place c place k)) (2 * 1 + held) 0 less (weighing (3 + w)) [] known known world (with_store world (slice_set world.store at u)) cf ck
          (Give (core_value.present character)) inside (slice_set store at v) (machine.Give machine_value.unit) (behind_place c place k) eq (omega (arith, fits)) (omega arith) ([], nothing_more known) refl
          (record { cells = set_both known store world.store at v u worlds.cells new; groups = worlds.groups }) (AtWritten b l c place k others around)

      pub writes : focused program context nodes world cf ck ≡ operated program context nodes world inside (on_some primitives.Stuck (core_value.cell_of cell) (λ at. primitives.Gives (weighing (3 + w)) (core_value.present character) (slice_set world.store at u))) → less + w + 1 ≤ held
          → W (reduces context.head None store (Ready action.Write (place ∷ v ∷ [])) (behind_place c place k))
      writes eq fits =
          written_at (cell_of place)
          (eq ∙ ap (λ o. operated program context nodes world inside (on_some primitives.Stuck o (λ at. primitives.Gives (weighing (3 + w)) (core_value.present character) (slice_set world.store at u)))) (same_cell known place cell value)) fits

  -- and the character is given
  pub gives_character : (b : Bool) (l : Labels) (c : ℕ) (place : Value) (k : Stack) (others : List Frame) → Around program context nodes world known b l held k others
      → Acts program context nodes (start (machine.Give machine_value.unit) (behind_place c place k)) held known world store (behind_place c place k) 0 (Give (core_value.present (shape.leaf (part.Char c)))) (Caller 0 None ∷ others) (reduces context.head None store (machine.Give machine_value.unit) (behind_place c place k))
  gives_character b l c place k others around =
      does program context nodes (start (machine.Give machine_value.unit) (behind_place c place k)) (0 + owed (behind_place c place k)) (2 * (1 + 1) + held) 0 held (weighing 1) [] known known world world (Give given) (Caller 0 None ∷ others) (Give given) others store
      (machine.Eval (option_of c) env) (Joining ∷ Returning 0 ∷ k) refl (omega arith) (omega arith) ([], nothing_more known) refl worlds
      (Later (machine.Eval (option_of c) env) (Joining ∷ Returning 0 ∷ k) (machine.Eval (source.Val (source.leaf (part.Char c))) env) options (Give given) others refl (λ store. refl) (omega arith) (omega arith) (omega (arith, deep))
      (Later (machine.Eval (source.Val (source.leaf (part.Char c))) env) options (machine.Give (leaf (part.Char c))) options (Give given) others refl (λ store. refl) (omega arith) (omega arith) (omega (arith, deep))
      (Later (machine.Give (leaf (part.Char c))) options (Ready (action.Operate op.MakeOption) (leaf (part.Char c) ∷ [])) (Joining ∷ Returning 0 ∷ k) (Give given) others refl (λ store. refl) (omega arith) (omega arith) (omega (arith, deep))
      (LaterBy (Ready (action.Operate op.MakeOption) (leaf (part.Char c) ∷ [])) (Joining ∷ Returning 0 ∷ k) (2 + 1) (machine.Give some) (Joining ∷ Returning 0 ∷ k) (Give given) others refl (λ store. refl) (omega arith) (omega arith) (omega (arith, deep))
      (Later (machine.Give some) (Joining ∷ Returning 0 ∷ k) (machine.Give some) (Returning 0 ∷ k) (Give given) others refl (λ store. refl) (omega arith) (omega arith) (omega (arith, deep))
      (AtBack b l some given k others (refl, ((refl, tt), tt)) around))))))
    where
      env : Environment
      env = AValue place NoValue

      given : core_value.Value
      given = core_value.present (shape.leaf (part.Char c))

      some : Value
      some = Made shape.Present (AValue (leaf (part.Char c)) NoValue)

      options : Stack
      options = Operands (action.Operate op.MakeOption) [] source.NoExp env ∷ Joining ∷ Returning 0 ∷ k

      deep : live_on k ≡ 16 + nodes + depth_of others
      deep = as_deep program.groups known context.globals nodes b l held k others around
