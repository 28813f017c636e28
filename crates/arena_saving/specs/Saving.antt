-- What an actor saves before an upgrade, over an arena: Motoko language manual, section "Stable variables"; base library, system
-- function `preupgrade`.
use Rattle.std.specs.Prelude.{◌≡◌, ℕ, List, [], ◌∷◌, ◌++◌, length, map, Option, Some, None}
use Rattle.std.proofs.Common.{Vec, Global}
use Rattle.mo_types.specs.declared.datum.Datum.{Datum}
use Rattle.mo_types.specs.declared.node.TypeId.{TypeId}
use Rattle.mo_types.specs.Code.{Variable}
use Rattle.mo_types.specs.Graph.{head_at}
use Rattle.mo_types.specs.Heads.{map_option}
use Rattle.mo_types.specs.Values.{flat, HaveTypes}
use Rattle.mo_values.specs.Shapes.{Bytes}
use Rattle.mo_actor.specs.Executions.{Completes, Execution as Executes, Traps}
use Rattle.typed_tree.specs.declared.program.Program.{Program}
use Rattle.typed_tree.specs.declared.program.StableVariable.{StableVariable as Written}
use Rattle.typed_tree.specs.Language.{Functions}
use Rattle.typed_tree.specs.ProgramView.{program, stable_variable}
use Rattle.typed_tree.specs.Programs.{StableVariable}
use Rattle.mo_meaning.specs.Coding.{Coding, IsFaithful, Types}
use Rattle.mo_meaning.specs.Kernel.{Kept}
use Rattle.mo_machine.specs.Acts.{Store}
use Rattle.mo_machine.specs.Cells.{cell_of, held}
use Rattle.mo_machine.specs.Exports.{before_upgrade, part_at, values_in}
use Rattle.mo_machine.specs.Messages.{plain_values}
use Rattle.mo_machine.specs.Starting.{hook, save_of}
use Rattle.mo_machine.specs.Values.{Value}
use Rattle.value_arena.specs.declared.node.Node.{Node}
use Rattle.value_arena.specs.declared.node.ValueId.{ValueId}
use Rattle.value_arena.specs.Growth.{AreWithin, Grows}
use Rattle.value_arena.specs.Meaning.{value_of}
use Rattle.arena_states.specs.declared.frame.Focus.{Focus}
use Rattle.arena_states.specs.declared.frame.Frame.{Frame}
use Rattle.arena_states.specs.declared.frame.Frame.TheVariants as frame
use Rattle.arena_states.specs.declared.group.GroupOf.{GroupOf}
use Rattle.arena_states.specs.Groups.{HasGroups}
use Rattle.arena_states.specs.Standing.{focus_of, list_of, IsFocusWithin}
use Rattle.arena_reductions.specs.Reduced.{Longer}
use Rattle.arena_machine.specs.declared.machine.Machine.{Machine}
use Rattle.arena_executions.specs.declared.reached.End.{End}
use Rattle.arena_executions.specs.declared.reached.End.TheVariants as end
use Rattle.arena_executions.specs.declared.reached.Reached.{Reached}
use Rattle.arena_executions.specs.declared.reached.Reached.TheVariants as reached
use Rattle.arena_actors.specs.declared.actor.Actor.{Actor}
use Rattle.arena_actors.specs.States.{fields_of}
use Rattle.arena_saving.specs.declared.saved.Saved.{Saved}
use Rattle.arena_saving.specs.declared.saved.Saved.TheVariants as saved

abbrev pub only : List ValueId → Option ValueId
only (id ∷ []) = Some id
only _ = None

abbrev pub stable_cells : Value → List Value
stable_cells exports = values_in (part_at 3 exports)

-- the hook is called, where there is one
pub record IsHooked (old : List Node) (exports : ValueId) (f : Focus) (new : List Node) : Type 0 where
  pub grows : Grows old new
  pub within : IsFocusWithin new f
  pub means : (groups : ℕ → Functions) → focus_of groups new f ≡ hook (before_upgrade (value_of groups old exports))

-- ---- what cells hold

abbrev pub and_held : Option Value → List Value → List Value
and_held None vs = vs
and_held (Some v) vs = v ∷ vs

abbrev pub held_in : Store → List Value → List Value
held_in store [] = []
held_in store (c ∷ cells) = and_held (held store (cell_of c)) (held_in store cells)

-- what further cells hold, behind these values
pub record AreHeld (ns : List Node) (store cells before after : List ValueId) : Type 0 where
  pub within : AreWithin ns before → AreWithin ns after
  pub means : (groups : ℕ → Functions) → list_of groups ns after ≡ list_of groups ns before ++ held_in (list_of groups ns store) (list_of groups ns cells)

-- ---- the parts of values at the types of variables, or none

abbrev pub and_parts : Option (List Datum) → Option (List (List Datum)) → Option (List (List Datum))
and_parts None rest = None
and_parts (Some p) None = None
and_parts (Some p) (Some ps) = Some (p ∷ ps)

abbrev pub parts_at : Types → StableVariable → Value → Option (List Datum)
parts_at types v w = map_option flat (plain_values types (v.of_type ∷ []) (w ∷ []))

abbrev pub parts_there : Types → StableVariable → Option Value → Option (List Datum)
parts_there types v None = None
parts_there types v (Some w) = parts_at types v w

abbrev pub parts_in : Types → List StableVariable → List Value → Option (List (List Datum))
parts_in types [] vs = Some []
parts_in types (v ∷ stable) [] = None
parts_in types (v ∷ stable) (w ∷ vs) = and_parts (parts_at types v w) (parts_in types stable vs)

-- ---- what saving comes to

-- the frame of the body that saves, with a node for each of these variables
abbrev pub saving_frames : List Written → List Frame
saving_frames stable = frame.Returning (length stable) ∷ []

pub record IsSavingFrom (x : Actor) (fs : List Frame) (m : Machine) : Type 0 where
  pub arena : m.arena ≡ x.arena
  pub table : m.table.items ≡ x.table.items
  pub store : m.store.items ≡ x.store.items
  pub frames : m.frames.items ≡ fs
  pub prints : m.prints ≡ []

abbrev pub keeping_as : Machine → Option (Vec (Vec Datum Global) Global) → Saved
keeping_as m None = saved.Still m.table
keeping_as m (Some ps) = saved.Keeps (record { table = m.table; prints = m.prints; parts = ps })

pub record IsKeeping (types : Types) (stable : List Written) (m : Machine) (exports : ValueId) (s : Saved) : Type 0 where
  pub parts : Option (Vec (Vec Datum Global) Global)
  pub is : s ≡ keeping_as m parts
  pub means : (groups : ℕ → Functions) → map_option (λ ps. map (λ p. p.items) ps.items) parts
      ≡ parts_in types (map stable_variable stable) (held_in (list_of groups m.arena m.store.items) (stable_cells (value_of groups m.arena exports)))

abbrev pub IsEnding : Types → List Written → Machine → ValueId → End → Saved → Type 0
IsEnding types stable m exports (end.Returns v) s = IsKeeping types stable m exports s
IsEnding types stable m exports (end.Traps text) s = s ≡ saved.Traps m.table m.prints text
IsEnding types stable m exports _ s = s ≡ saved.Still m.table

abbrev pub IsReaching : Types → List Written → Machine → ValueId → Reached → Saved → Type 0
IsReaching types stable m exports (reached.Still f) s = s ≡ saved.Still m.table
IsReaching types stable m exports (reached.Ended e) s = IsEnding types stable m exports e s

abbrev pub table_in : Saved → List GroupOf
table_in (saved.Still table) = table.items
table_in (saved.Traps table prints text) = table.items
table_in (saved.Keeps k) = k.table.items

-- a variable with its value, part by part
pub record IsVariable (types : Types) (v : StableVariable) (parts : List Datum) (w : Variable TypeId) : Type 0 where
  pub name : w.name ≡ v.name
  pub type : w.type ≡ v.of_type
  pub value : parts ≡ flat w.value
  pub typed : HaveTypes (head_at types) (v.of_type ∷ []) w.value

abbrev pub AreVariables : Types → List StableVariable → List (List Datum) → List (Variable TypeId) → Type 0
AreVariables types [] [] [] = Unit {0}
AreVariables types (v ∷ vs) (p ∷ ps) (w ∷ ws) = IsVariable types v p w × AreVariables types vs ps ws
AreVariables types _ _ _ = ⊥

-- after so many turns
abbrev pub Saves : Types → List StableVariable → ℕ → Saved → Executes Kept → Type 0
Saves types stable n (saved.Still table) x = (x n).completion ≡ None
Saves types stable n (saved.Traps table prints text) x = ((x n).prints ≡ prints) × ((x n).completion ≡ Some (Traps text))
Saves types stable n (saved.Keeps k) x = ((x n).prints ≡ k.prints) × (variables : List (Variable TypeId)) × AreVariables types stable (map (λ p. p.items) k.parts.items) variables
    × ((x n).completion ≡ Some (Completes (record { types = types; variables = variables })))

pub record IsSaved (p : Program) (own : Bytes) (n : ℕ) (x : Actor) (s : Saved) : Type 0 where
  pub tables : Longer x.table.items (table_in s)
  pub means : (coding : Coding) → IsFaithful coding → (groups : ℕ → Functions) → HasGroups groups (table_in s)
      → Saves p.types (program p).stable n s (save_of coding p.types (program p) own (fields_of groups x.arena x.store.items x.exports))
