-- The end of the declarations of a program, where all of its names stand.
use Rattle.std.proofs.Common.{◌≡◌, ℕ, suc, ◌<◌, false, List, [], length, map, None, Some, sym, ap, ◌∙◌, subst}
use Rattle.mo_scopes.specs.Scopes.{named}
use Rattle.mo_types.specs.declared.node.TypeId.{TypeId}
use Rattle.mo_types.specs.Graph.{Slot}
use Rattle.subtype_laws.specs.Reached.{Among}
use Rattle.typed_tree.specs.ActionTypes as typed
use Rattle.typed_tree.specs.Placing.{Declared}
use Rattle.typed_tree.specs.Wants.{Of}
use Rattle.typing_rules.specs.AbstractSyntax.{Bytes, Declarations, Program}
use Rattle.typing_rules.specs.AsyncPlaces.{Local, Other}
use Rattle.typing_rules.specs.Contexts.{Bound, Scope, Context, directly}
use Rattle.typing_rules.specs.DeclaredTypes.{with_list}
use Rattle.typing_rules.specs.Definitions.{Definitions}
use Rattle.typing_rules.specs.Gathered.{gathered}
use Rattle.typing_rules.specs.Programs.{first_context, actor_type}
use Rattle.typing_rules.specs.Terms.{Term}
use Rattle.typing_rules.specs.TypedTrees.{Note}
use Rattle.typing_rules.specs.TypeScopes.{no_types}
use Rattle.desugaring.specs.Expressions.{pieces}
use Rattle.desugaring.specs.Frames.{Frame}
use Rattle.desugaring.specs.Pieces.{arranged}
use Rattle.desugaring_laws.specs.GraphOf.{IsGraphOf}
use Rattle.expression_laws.specs.Fitting.{Fits}
use Rattle.list_laws.specs.Facts.{Fact, FunctionBefore, At, scope_at}
use Rattle.list_laws.specs.Laws.{Ends, Walked}
use Rattle.declaration_laws.proofs.Facts.{around_fits}
use Rattle.block_laws.specs.Lists.{in_scope, behind}
use Rattle.block_laws.specs.Order.{Reaches, facts_of}
use Rattle.block_laws.proofs.Keeping.{Defined, AllBindOnly, AreApart}
use Rattle.block_laws.proofs.Naming.{facts_apart, functions_apart}
use Rattle.block_laws.proofs.Whole.{all_bind_only, behind_all}
use Rattle.block_forms.proofs.Arranged.{no_last}
use Rattle.block_forms.proofs.AtEnd.{around_end}
use Rattle.block_forms.proofs.Whole.{many_facts}
use Rattle.actor_laws.specs.Actors.{ActorMade}
use Rattle.actor_laws.specs.Order.{outer_of, IsActorInOrder}
use Rattle.actor_laws.proofs.Walking as walking
use Rattle.program_laws.specs.Around.{method_wants, own_names}
use Rattle.program_laws.proofs.Standing as standing
use Rattle.program_laws.proofs.Reached.{names_are_reached}
use Rattle.ending_laws.specs.Ending.{end_frame, known_at_end}

-- a program whose declarations are judged
pub record Setting : Type 0 where
  pub program : Program ℕ
  pub slots : List Slot
  pub terms : List Term
  pub number : Term → TypeId
  pub graph : IsGraphOf (gathered program) slots terms number
  pub there : (x : Bytes) → program.name ≡ Some x → Among (actor_type program) terms
  pub q : Term × Declarations Note
  pub m : ActorMade (gathered program) slots terms number (first_context program) program.fields q
  pub o : IsActorInOrder (gathered program) slots number (with_list no_types program.fields) (own_names program.name) program.fields q.1

module _ (S : Setting) where
  abbrev pub defs : Definitions
  defs = gathered S.program

  abbrev pub ds : Declarations ℕ
  ds = S.program.fields

  abbrev pub known : Context
  known = in_scope (first_context S.program) S.program.fields

  abbrev pub base : Scope
  base = (in_scope (first_context S.program) S.program.fields).values

  abbrev pub last : Context
  last = known_at_end S.program S.m.list.given

  abbrev pub all : List Declared
  all = map (λ b. b.declared) (pieces (gathered S.program) S.number S.q.1)

  abbrev pub outer : List Bytes
  outer = outer_of (own_names S.program.name) S.program.fields

  abbrev pub facts : List Fact
  facts = facts_of S.slots S.number (with_list no_types S.program.fields) all S.program.fields S.q.1 S.m.list.given

  abbrev pub first_frame : Frame
  first_frame = standing.f S.program S.slots S.terms S.number S.graph S.there S.q S.m S.o

  abbrev pub first : typed.Context
  first = standing.c S.program S.slots S.terms S.number S.graph S.there S.q S.m S.o

  pub walk : Walked S.slots (pieces (gathered S.program) S.number S.q.1) (At (gathered S.program) S.slots S.terms S.number Local base first_frame first outer facts) (Of (S.number S.q.0)) (arranged false (pieces (gathered S.program) S.number S.q.1) first_frame) first
  walk = standing.walk S.program S.slots S.terms S.number S.graph S.there S.q S.m S.o

  abbrev pub end : typed.Context
  end = walk.end

  abbrev pub frame : Frame
  frame = end_frame S.program S.number S.q.1

  only : AllBindOnly facts
  only = all_bind_only (gathered S.program) S.slots S.terms S.number [] last false None known all base ds S.m.list.given S.q.1 S.m.list.made

  apart : AreApart facts
  apart = facts_apart S.slots S.number (with_list no_types S.program.fields) all ds S.q.1 S.m.list.given S.o.differ

  functions : (k : ℕ) (y : Bytes) → FunctionBefore k y facts → Defined y facts → ⊥
  functions = functions_apart S.slots S.number (with_list no_types S.program.fields) all ds S.q.1 S.m.list.given S.o.differ

  many : length (pieces (gathered S.program) S.number S.q.1) ≡ length facts
  many = many_facts (gathered S.program) S.slots S.terms S.number [] last false known None (with_list no_types S.program.fields) all ds S.m.list.given S.q.1 S.m.list.made

  inside : Fits (gathered S.program) S.slots S.terms S.number (with_list no_types S.program.fields) [] (directly Other known) first_frame first
  inside =
      walking.inside (gathered S.program) S.slots S.terms S.number S.graph (first_context S.program) (own_names S.program.name) S.program.fields first_frame (standing.own S.program S.slots S.terms S.number S.graph S.there S.q S.m S.o)
      (method_wants S.number S.q.1) (standing.P S.program S.slots S.terms S.number S.graph S.there S.q S.m S.o).stable (standing.fit S.program S.slots S.terms S.number S.graph S.there S.q S.m S.o) S.q S.m.list
      (standing.kept S.program S.slots S.terms S.number S.graph S.there S.q S.m S.o) (standing.stand S.program S.slots S.terms S.number S.graph S.there S.q S.m S.o) S.o

  outside : (y : Bytes) → Among y outer → Defined y facts → ⊥
  outside =
      walking.outside (gathered S.program) S.slots S.terms S.number S.graph (first_context S.program) (own_names S.program.name) S.program.fields first_frame (standing.own S.program S.slots S.terms S.number S.graph S.there S.q S.m S.o)
      (method_wants S.number S.q.1) (standing.P S.program S.slots S.terms S.number S.graph S.there S.q S.m S.o).stable (standing.fit S.program S.slots S.terms S.number S.graph S.there S.q S.m S.o) S.q S.m.list
      (standing.kept S.program S.slots S.terms S.number S.graph S.there S.q S.m S.o) (standing.stand S.program S.slots S.terms S.number S.graph S.there S.q S.m S.o) S.o

  pub end_is : At (gathered S.program) S.slots S.terms S.number Local base first_frame first outer facts (suc (length facts)) (length facts) frame end
  end_is =
      subst (λ n. At (gathered S.program) S.slots S.terms S.number Local base first_frame first outer facts (suc n) n frame end) many
      (subst (λ z. Ends S.slots (pieces (gathered S.program) S.number S.q.1) (At (gathered S.program) S.slots S.terms S.number Local base first_frame first outer facts) (Of (S.number S.q.0)) z frame end)
      (no_last all (pieces (gathered S.program) S.number S.q.1) 0 (pieces (gathered S.program) S.number S.q.1) first_frame) walk.ends)

  pub values_are : behind S.m.list.given base ≡ scope_at (length facts) facts base
  values_are = behind_all (gathered S.program) S.slots S.terms S.number [] last false None known all base ds S.m.list.given S.q.1 S.m.list.made

  -- what the n-th declaration uses fits there as where that is judged
  pub fits_at : (n : ℕ) → n < length facts → (uses : List Bytes) → ((y : Bytes) → Among y uses → Reaches outer facts (suc n) n y)
      → Fits (gathered S.program) S.slots S.terms S.number (with_list no_types S.program.fields) uses (directly Other (record known { values = scope_at n facts base })) frame end
  fits_at n h uses there =
      around_fits (gathered S.program) S.slots S.terms S.number (directly Other known) base first_frame first outer facts inside uses (scope_at n facts base) frame end
      (around_end (gathered S.program) S.slots S.terms S.number Local base first_frame first outer facts only apart outside functions frame end end_is n h uses there)

  -- each name that is bound there is reached, and so stands
  pub reached : (y : Bytes) (b : Bound) → named (behind S.m.list.given base) y ≡ Some b → Reaches outer facts (suc (length facts)) (length facts) y
  reached y b h = names_are_reached S.program S.slots S.terms S.number S.q S.m y b h

  pub fits_all : (uses : List Bytes) → Fits (gathered S.program) S.slots S.terms S.number (with_list no_types S.program.fields) uses last frame end
  fits_all uses =
      subst (λ v. Fits (gathered S.program) S.slots S.terms S.number (with_list no_types S.program.fields) uses (directly Other (record known { values = v })) frame end) (sym values_are)
      (around_fits (gathered S.program) S.slots S.terms S.number (directly Other known) base first_frame first outer facts inside uses (scope_at (length facts) facts base) frame end (record {
        stand = λ y n b h. end_is.stand y (reached y b (ap (λ v. named v y) values_are ∙ h)) b h;
        kept = end_is.kept;
        exits = end_is.exits;
        labels = end_is.labels;
        body_is = end_is.body_is;
        parameters = end_is.parameters;
      }))
