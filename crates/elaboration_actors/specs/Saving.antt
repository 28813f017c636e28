-- What an upgrade saves of both actors: their hooks and the cells of their stable variables belong together (Motoko language manual, sections "Stable
-- variables" and "System functions").
use Rattle.std.specs.Prelude.{◌≡◌, ◌⊎◌, ℕ, ◌+◌, ◌≤◌, false, List, [], ◌∷◌, length, Some, None}
use Rattle.mo_values.specs.declared.operation.Operation.TheVariants as op
use Rattle.core_ir.specs.Expressions as core
use Rattle.core_ir.specs.Expressions.{Core}
use Rattle.core_ir.specs.Values as core_value
use Rattle.typed_tree.specs.declared.action.Action.TheVariants as action
use Rattle.typed_tree.specs.Language as source
use Rattle.typed_tree.specs.Language.{Exp, Exps, Functions, Name, Do, NoExp, AnExp, then}
use Rattle.typed_tree.specs.Patterns.{NoPat}
use Rattle.typed_tree.specs.Programs.{Program}
use Rattle.mo_machine.specs.Environments.{Environment, at, with_group}
use Rattle.mo_machine.specs.Exports.{part_at, values_in, before_upgrade}
use Rattle.mo_machine.specs.Values.{Value, Closure}
use Rattle.elaboration.specs.Scopes.{Place}
use Rattle.elaboration.specs.Programs.{outside}
use Rattle.elaboration_forms.specs.Elaborates.{Elaborates}
use Rattle.elaboration_values.specs.Belonging.{Known, EnvironmentBelongs}
use Rattle.elaboration_runs.specs.Entering.{Function, function_in}

-- what cells hold, by their names
abbrev pub reads_of : List ℕ → Exps
reads_of [] = NoExp
reads_of (x ∷ xs) = AnExp (Do action.Read (AnExp (Name x) NoExp)) (reads_of xs)

abbrev pub reading : List ℕ → Exp
reading cells = Do (action.Operate op.MakeTuple) (reads_of cells)

-- the same behind the body of a hook, whose returns leave its label
abbrev pub hooked : Exp → List ℕ → Exp
hooked body cells = then (source.Label body) (reading cells)

-- names of cells
abbrev pub CellsAt : Environment → List ℕ → List Value → Type 0
CellsAt env [] [] = Unit {0}
CellsAt env (x ∷ xs) (v ∷ vs) = (at env x ≡ Some v) × CellsAt env xs vs
CellsAt env _ _ = ⊥

module _ (p : Program) (program : Core) (known : List Known) (globals : List core_value.Value) (exports : Value) where
  pub record SavingBelongs : Type 0 where
    pub places : List Place
    pub env : Environment
    pub cells : List ℕ
    pub names_belong : EnvironmentBelongs known globals places env []
    pub as_many : length cells ≡ length p.stable
    pub cells_are : CellsAt env cells (values_in (part_at 3 exports))
    pub code : core.Exp
    pub nodes : ℕ
    pub save : program.save ≡ record { parameters = 0; nodes = nodes; expression = code }
    -- without a hook, or behind it; there is a node for each stable variable
    pub hook : ((before_upgrade exports ≡ None) × (nodes ≡ length p.stable) × Elaborates program.groups false (outside places) (reading cells) code)
        ⊎ ((fns : Functions) × (h : ℕ) × (around : Environment) × (f : Function) × (before_upgrade exports ≡ Some (Closure fns h around)) × (env ≡ with_group fns around) × (function_in fns h ≡ Some f) × (f.parameters ≡ NoPat) × (nodes ≡ length p.stable + f.nodes) × (1 ≤ f.nodes)
        × Elaborates program.groups false (outside places) (hooked f.body cells) code)
