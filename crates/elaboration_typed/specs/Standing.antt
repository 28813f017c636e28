-- Well-typed programs are as the laws of starts and saves ask (Motoko language manual, sections "Actors" and "System functions").
use Rattle.std.specs.Prelude.{ℕ, ◌+◌, ◌≤◌, List, [], ◌∷◌, map}
use Rattle.mo_types.specs.declared.node.TypeId.{TypeId}
use Rattle.mo_types.specs.Sub.{Each}
use Rattle.typed_tree.specs.declared.expression.Step.{Step}
use Rattle.typed_tree.specs.declared.program.Program.{Program}
use Rattle.typed_tree.specs.ActionTypes.{Context}
use Rattle.typed_tree.specs.Language.{Exp, Name, Switch, Group, NoCase, ACase}
use Rattle.typed_tree.specs.ProgramView.{program}
use Rattle.typed_tree.specs.Substitution.{count}
use Rattle.typed_tree.specs.View.{declaration}
use Rattle.typed_tree.specs.Wants.{Want, Anything, KeptOf}
use Rattle.typed_tree.specs.WellTyped.{WellTyped, IsPublic, IsSystem, behind}
use Rattle.elaboration_premises.specs.Scoped.{Written}
use Rattle.elaboration_starts.specs.Declarations.{bound_in}
use Rattle.elaboration_starts.specs.Starts.{ActorStands}

-- ---- what an upgrade kept

-- where it is not read
abbrev pub unkept : Want TypeId → Want TypeId
unkept (KeptOf t) = Anything
unkept w = w

abbrev pub without_kept : Context → Context
without_kept c = record c { names = map unkept c.names }

-- the functions behind the declarations do not read it
pub record KeptApart (p : Program) (w : WellTyped p) : Type 0 where
  pub public : Each (IsPublic p.types (without_kept (behind p w.end))) p.methods
  pub before_upgrade : IsSystem p.types (without_kept (behind p w.end)) p.before_upgrade
  pub after_upgrade : IsSystem p.types (without_kept (behind p w.end)) p.after_upgrade

-- ---- the names of declarations

-- of a `let` or a group of functions, whatever stands behind it
abbrev pub names_opened : Exp → ℕ
names_opened (Switch e (ACase p b NoCase)) = bound_in p
names_opened (Group fns b) = count fns
names_opened _ = 0

abbrev pub names_declared : List Step → ℕ
names_declared [] = 0
names_declared (d ∷ ds) = names_opened (declaration d (Name 0)) + names_declared ds

-- where each name is one of the nodes that are counted for the declarations, at least
abbrev pub ActorsStand : Type 0
ActorsStand = (p : Program) (w : WellTyped p) → Written (program p).body → KeptApart p w → names_declared p.declarations ≤ p.nodes → ActorStands (program p)
