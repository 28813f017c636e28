-- System functions.
use Rattle.std.specs.Prelude.{ℕ, ◌+◌, List, Option, Some, None, map, slice_get}
use Rattle.core_ir.specs.Expressions as core
use Rattle.typed_tree.specs.declared.expression.Function.{Function}
use Rattle.typed_tree.specs.declared.program.StableVariable.{StableVariable}
use Rattle.typed_tree.specs.Language.{Exps, Name}
use Rattle.typed_tree.specs.View.{exps, function}
use Rattle.elaboration.specs.Elaboration.{if_true}
use Rattle.core_ir.specs.declared.primitive.Primitive.TheVariants as primitive
use Rattle.elaboration.specs.Members.{does}
use Rattle.elaboration.specs.Programs.{Hook, SaveElaborated}
use Rattle.core_parts.specs.Making.{BodyElaborated}
use Rattle.elaboration.specs.Scopes.{Place, at_place, name, nothing, one, place_or_nowhere}

abbrev pub hook_view : Function → Hook
hook_view f = record { nodes = (function f).nodes; parameters = (function f).parameters; body = (function f).body }

abbrev pub optional_hook : Option Function → Option Hook
optional_hook None = None
optional_hook (Some f) = Some (hook_view f)

-- the nearest function is called where the outermost name, of so many, is true
abbrev pub on_upgrade : ℕ → core.Exp
on_upgrade names = if_true (name names 0) (core.Do core.Call (one (core.Name 0))) nothing

-- the cells of the stable variables, behind so many functions
abbrev pub cells_behind : ℕ → List StableVariable → Exps
cells_behind functions vs = exps (map (λ v. Name (functions + v.cell)) vs)

-- what the cell that is the name at this place holds
abbrev pub held_at : List Place → ℕ → core.Exp
held_at places x = does primitive.Read (one (at_place 0 (place_or_nowhere (slice_get places x))))

abbrev pub saved : SaveElaborated → BodyElaborated
saved v = record { body = v.body; groups = v.groups }
