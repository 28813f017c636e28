-- Whole programs.
use Rattle.std.proofs.Common.{◌≡◌, ℕ, true, false, List, [], None, Some}
use Rattle.mo_types.specs.declared.node.TypeId.{TypeId}
use Rattle.mo_types.specs.Graph.{Slot}
use Rattle.subtype_laws.specs.Reached.{Among}
use Rattle.typing_rules.specs.AbstractSyntax.{Declaration, Declarations}
use Rattle.typing_rules.specs.AbstractSyntax as p
use Rattle.typing_rules.specs.DeclaredTypes.{with_list}
use Rattle.typing_rules.specs.Definitions.{Definitions}
use Rattle.typing_rules.specs.Gathered.{gathered, in_list, in_declaration}
use Rattle.typing_rules.specs.Programs.{first_context}
use Rattle.typing_rules.specs.Terms.{Term, unit}
use Rattle.typing_rules.specs.TypeScopes.{TypeScope, no_types}
use Rattle.desugaring_laws.specs.GraphOf.{IsGraphOf}
use Rattle.desugaring_laws.specs.Scopes.{IsScopeFine, AreBoundsIn}
use Rattle.scope_laws.specs.Gathers.{Gathers}
use Rattle.scope_laws.proofs.Parts.{left_part, right_part}
use Rattle.block_laws.specs.Lists.{IsReady, AreReady}
use Rattle.source_laws.proofs.Numbers.{definitions_are_gathered}
use Rattle.source_laws.proofs.Recursion.{typed, one_ready}
use Rattle.actor_laws.specs.Actors.{IsReadyBehind, AreReadyBehind, ActorMade}
use Rattle.actor_laws.proofs.Behind.{actors_are_made}
use Rattle.program_laws.specs.Programs.{FieldIsSource, FieldsAreSource, ProgramsAreMade}
use Rattle.program_laws.proofs.Given.{of_fields}

no_name : {A : Type 0} (a : A) → None ≡ Some a → ⊥
no_name a h = cc

-- outside all declarations no type is named
pub no_types_fine : (defs : Definitions) → IsScopeFine defs [] no_types
no_types_fine defs = record { names = λ x d h. absurd (no_name d h); futures = λ x at outer own h. absurd (no_name _ h); parameters = tt; others = tt }

pub no_bounds : (defs : Definitions) → AreBoundsIn [] defs
no_bounds defs v m = absurd m

module _ (defs : Definitions) (slots : List Slot) (terms : List Term) (number : Term → TypeId) (graph : IsGraphOf defs slots terms number) (units : Among unit terms) (s : TypeScope) where
  -- the parts of a field become typed trees
  one_field : (d : Declaration ℕ) → Gathers defs (in_declaration s d) → FieldIsSource defs slots terms number s d → IsReady defs slots terms number s d × IsReadyBehind defs slots terms number s d
  one_field (p.Let q a) g j = (one_ready defs slots terms number graph units s (p.Let q a) g j, tt)
  one_field (p.Var true x u a) g j = (typed defs slots terms number graph units s a g j, tt)
  one_field (p.Var false x u a) g j = (one_ready defs slots terms number graph units s (p.Var false x u a) g j, tt)
  one_field (p.Func x h body) g j = (one_ready defs slots terms number graph units s (p.Func x h body) g j, tt)
  one_field (p.Method query context x h body) g j = (tt, (j.0, typed defs slots terms number graph units s body g j.1))
  one_field (p.System x body) g j = (tt, typed defs slots terms number graph units s body g j)
  one_field (p.TypeAlias x parameters u) g j = (tt, tt)
  one_field (p.Class x h fields) g j = (one_ready defs slots terms number graph units s (p.Class x h fields) g j, tt)
  one_field (p.NamedObject x fields) g j = (one_ready defs slots terms number graph units s (p.NamedObject x fields) g j, tt)
  one_field (p.Evaluate a) g j = (one_ready defs slots terms number graph units s (p.Evaluate a) g j, tt)

  all_fields : (ds : Declarations ℕ) → Gathers defs (in_list s ds) → FieldsAreSource defs slots terms number s ds → AreReady defs slots terms number s ds × AreReadyBehind defs slots terms number s ds
  all_fields p.End g j = (tt, tt)
  all_fields (p.Then public n d rest) g j =
      let one = one_field d (left_part defs (in_declaration s d) (in_list s rest) g) j.0 in
      let more = all_fields rest (right_part defs (in_declaration s d) (in_list s rest) g) j.1 in
      ((one.0, more.0), (one.1, more.1))

pub programs_are_made : ProgramsAreMade
programs_are_made program slots terms number graph source =
    let defs = gathered program in
    let ds = program.fields in
    let e = first_context program in
    let gathers = definitions_are_gathered defs source.numbered in
    of_fields terms program (ActorMade defs slots terms number e ds) (λ made. (u : Term) × ActorMade defs slots terms number e ds (u, made.fields))
    (λ there.
    let ready = all_fields defs slots terms number graph there.0 (with_list no_types ds) ds gathers source.fields in
    actors_are_made defs slots terms number graph there.0 0 e (no_types_fine defs) (no_bounds defs) ds gathers ready.0 ready.1)
    (λ q m there own. (q.0, m))
