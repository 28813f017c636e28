-- Judged programs are as the law of whole runs asks.
use Rattle.std.proofs.Common.{◌≡◌, ◌≢◌, ◌≤◌, inl, inr, ℕ, ◌+◌, true, false, List, [], ◌∷◌, length, map, Option, Some, None, Ok, refl, sym, ap, ap₂, ◌∙◌, subst, codes}
use Rattle.std.proofs.lemmas.List.{length-map}
use Rattle.std.proofs.lemmas.Slice.Eq.{bytes_eq-Decides}
use Rattle.std.specs.Prelude.{nat_le}
use Rattle.mo_num.specs.declared.kind.Kind.TheVariants as kind
use Rattle.mo_types.specs.declared.node.Field.{Field}
use Rattle.mo_types.specs.declared.node.Node.TheVariants as node
use Rattle.mo_types.specs.declared.node.TypeId.{TypeId}
use Rattle.mo_types.specs.Sub.{Each}
use Rattle.mo_types.specs.Values.{copies}
use Rattle.mo_subtype.specs.Renamed.{on_field}
use Rattle.subtype_laws.specs.Reached.{Among}
use Rattle.typed_tree.specs.declared.expression.Function.{Function}
use Rattle.typed_tree.specs.declared.program.Program.{Program as TypedProgram}
use Rattle.typed_tree.specs.ActionTypes.{Context}
use Rattle.typed_tree.specs.OperationTypes.{Distinct}
use Rattle.typed_tree.specs.ProgramView.{program, functions_of}
use Rattle.typed_tree.specs.Typing.{with_names}
use Rattle.typed_tree.specs.Wants.{Anything}
use Rattle.typed_tree.specs.WellTyped.{IsActor, IsPublic, IsSystem, WellTyped}
use Rattle.typing_rules.specs.declared.condition.Condition.TheVariants as condition
use Rattle.typing_rules.specs.AbstractPrograms.{abstract}
use Rattle.typing_rules.specs.AbstractSyntax.{Bytes, Program}
use Rattle.typing_rules.specs.Answers.{answer, Comes}
use Rattle.typing_rules.specs.DeclaredTypes.{with_list}
use Rattle.typing_rules.specs.Gathered.{gathered}
use Rattle.typing_rules.specs.Nodes.{nodes}
use Rattle.typing_rules.specs.Programs.{basics, first_context, actor_type, method_fields, made_program, own_name, own_types, JudgeFieldsOf, JudgeProgram}
use Rattle.typing_rules.specs.Terms.{Term, unit, listed_fields}
use Rattle.typing_rules.specs.Terms as t
use Rattle.typing_rules.specs.TypedTrees.{Note}
use Rattle.typing_rules.specs.TypeScopes.{no_types}
use Rattle.desugaring.specs.Programs.{count_behind, desugared}
use Rattle.desugaring_laws.specs.Yields.{Yields}
use Rattle.desugaring_laws.proofs.Graph.{head_there}
use Rattle.desugaring_laws.proofs.Yielding.{anything, tests, yields_given}
use Rattle.actor_laws.specs.Actors.{ActorMade}
use Rattle.actor_laws.specs.Order.{IsActorInOrder}
use Rattle.program_laws.specs.Around.{method_wants, own_names, own_want}
use Rattle.program_laws.proofs.Given.{AreThere, list_of_fields, of_fields}
use Rattle.program_laws.proofs.Programs.{programs_are_made}
use Rattle.program_laws.proofs.Standing.{actor_head, functions_differ}
use Rattle.ending_laws.specs.Ending.{end_frame, written_out}
use Rattle.ending_laws.proofs.AtEnd.{programs_end}
use Rattle.ending_laws.proofs.Place.{Setting}
use Rattle.ending_laws.proofs.Place as place
use Rattle.well_typed_laws.specs.Source.{system_names, IsSystemName, IsActorSource}
use Rattle.well_typed_laws.proofs.Counting.{Counted, counted, two_names, viewed}
use Rattle.well_typed_laws.proofs.Functions.{frame, half}
use Rattle.well_typed_laws.proofs.Functions as functions
use Rattle.well_typed_laws.proofs.Programs.{well_typed}
use Rattle.machine_nesting.proofs.Sizes.{nested_programs_are_sized}
use Rattle.tree_shapes.specs.Laws.{Nests}
use Rattle.tree_shapes.proofs.Programs.{programs_nest}
use Rattle.elaboration_typed.specs.Standing.{without_kept, KeptApart, names_declared}
use Rattle.elaboration_typed.proofs.Standing.{actors_stand}
use Rattle.elaboration_judged.proofs.Counted.{programs_names}
use Rattle.elaboration_judged.specs.Judged.{JudgedProgramsKeepApart, JudgedProgramsAreSound}
use Rattle.elaboration_judged.proofs.Apart as apart
use Rattle.elaboration_judged.proofs.Written.{shaped_written}

not_so : false ≡ true → ⊥
not_so h = cc

names_apart : codes "preupgrade" ≢ codes "postupgrade"
names_apart h = not_so ((bytes_eq-Decides (codes "preupgrade") (codes "postupgrade")).1 h)

-- ---- what an upgrade kept

abbrev Apart : TypedProgram → Type 0
Apart p = (w : WellTyped p) × KeptApart p w

module _ (S : Setting) (units : Among unit S.terms) (flag : Among t.Boolean S.terms) (natural : Among (t.Number kind.Nat) S.terms) (actor : IsActorSource S.program.fields) where
  abbrev P : TypedProgram
  P = written_out S.program S.slots S.number S.q.1

  made : functions.Half S units S.program.fields S.q.1
  made = half S units

  told : Counted (place.defs S) S.number S.slots (frame S units) (end_frame S.program S.number S.q.1) (programs_end S.program S.slots S.terms S.number S.graph S.there S.q S.m S.o).end S.q.1
  told = counted (place.defs S) S.number S.slots (frame S units) (end_frame S.program S.number S.q.1) (programs_end S.program S.slots S.terms S.number S.graph S.there S.q S.m S.o).end S.q.1

  -- as many functions stand behind the declarations as their frame has names for
  many : length (functions_of P) ≡ count_behind S.q.1
  many =
      let two = two_names (codes "preupgrade") (codes "postupgrade") names_apart (system_names S.q.1) (subst (λ xs. Distinct xs) (sym made.names) actor.systems_differ) (subst (λ xs. Each IsSystemName xs) (sym made.names) actor.systems_named) in
      viewed P.methods P.before_upgrade P.after_upgrade
      ∙ sym (told.count ∙ ap (λ n. length P.methods + n) (two ∙ ap₂ (λ a b. a + b) (sym (told.systems (codes "preupgrade"))) (sym (told.systems (codes "postupgrade")))))

  map_twice : {A B C : Type 0} (f : A → B) (g : B → C) (xs : List A) → map g (map f xs) ≡ map (λ x. g (f x)) xs
  map_twice f g [] = refl
  map_twice f g (x ∷ xs) = ap (λ ys. g (f x) ∷ ys) (map_twice f g xs)

  own_is : (o : Option Bytes) → S.program.name ≡ o → IsActor S.slots P.methods (own_want o (S.number (actor_type S.program)))
  own_is None e = inl refl
  own_is (Some x) e =
      let gs = listed_fields (method_fields (with_list no_types S.program.fields) S.program.fields) in
      inr (
        S.number (actor_type S.program),
        map (on_field S.number) gs,
        head_there (place.defs S) S.slots S.terms S.number S.graph (actor_type S.program) (S.there x e) (node.Actor gs) (actor_head (place.defs S) (method_fields (with_list no_types S.program.fields) S.program.fields)),
        length-map gs (on_field S.number) ∙ made.many,
        made.fields (map (on_field S.number) gs) (λ f m. m) (subst (λ xs. Distinct xs) (sym (map_twice (on_field S.number) (λ (f : Field TypeId). f.label) gs ∙ made.labels)) (functions_differ S.program.fields S.o.differ)),
        refl,
      )

  abbrev Outside : Context
  Outside = with_names (copies (length (functions_of P)) Anything) (programs_end S.program S.slots S.terms S.number S.graph S.there S.q S.m S.o).end

  public_typed : Each (IsPublic S.slots Outside) P.methods
  public_typed = subst (λ n. Each (IsPublic S.slots (with_names (copies n Anything) (programs_end S.program S.slots S.terms S.number S.graph S.there S.q S.m S.o).end)) P.methods) (sym many) (made.public actor.methods_named)

  -- it is well typed, with these names behind the declarations
  typed : Apart P
  typed =
      let w = well_typed S units flag natural actor in
      let e = programs_end S.program S.slots S.terms S.number S.graph S.there S.q S.m S.o in
      let r = apart.half S units in
      let system : (o : Option Function) → IsSystem S.slots (with_names (copies (count_behind S.q.1) Anything) e.end) o → IsSystem S.slots Outside o = λ o. subst (λ n. IsSystem S.slots (with_names (copies n Anything) e.end) o) (sym many) in
      let unkept : (o : Option Function) → IsSystem S.slots (without_kept (with_names (copies (count_behind S.q.1) Anything) e.end)) o → IsSystem S.slots (without_kept Outside) o = λ o. subst (λ n. IsSystem S.slots (without_kept (with_names (copies n Anything) e.end)) o) (sym many) in (
        record {
          types = w.types;
          basics = w.basics;
          own = own_want S.program.name (S.number (actor_type S.program));
          methods = method_wants S.number S.q.1;
          end = e.end;
          own_is = own_is S.program.name refl;
          methods_are = made.methods;
          declarations = e.declared;
          public = public_typed;
          method_labels = w.method_labels;
          before_upgrade = system P.before_upgrade (made.system (codes "preupgrade"));
          after_upgrade = system P.after_upgrade (made.system (codes "postupgrade"));
          stable = told.stable e.stable;
          stable_labels = w.stable_labels;
          nodes = w.nodes;
        },
        record {
          public = subst (λ n. Each (IsPublic S.slots (without_kept (with_names (copies n Anything) e.end))) P.methods) (sym many) (r.public (made.public actor.methods_named));
          before_upgrade = unkept P.before_upgrade (r.system (codes "preupgrade"));
          after_upgrade = unkept P.after_upgrade (r.system (codes "postupgrade"));
        },
      )

-- ---- programs

-- what is there of each type that is bound by the actor's name, is there of its own
own_there : (P : Term → Type 0) (o : Option Bytes) (u : Term) → Each P (map (λ z. z.1.type) (own_name o u)) → (x : Bytes) → o ≡ Some x → P u
own_there P None u h x e = let none : None ≡ Some x = e in cc
own_there P (Some y) u h x e = h.0

-- what a program comes to
module _ (source : Program ℕ) (terms met : List Term) (made : Program Note) (by : Comes (gathered source) (JudgeProgram source) [] (answer (Ok made) met)) (all : (u : Term) → Among u met → Among u terms) where
  holds : (Q : Program Note → Type 0) → Yields (gathered source) terms (JudgeFieldsOf source) Q → Q made
  holds Q y =
      yields_given (gathered source) terms (JudgeProgram source) Q made [] met by all (tests (gathered source) terms condition.TooManyNodes 0 (nat_le (nodes source) 50000) (JudgeFieldsOf source) Q (λ e. y))

  -- it has the types of all programs and its own, and its fields are those that were judged
  abbrev Whole : Program Note → Type 0
  Whole m = (m ≡ made_program source m.fields) × AreThere terms basics × AreThere terms (own_types source)

  whole : Whole made
  whole = holds Whole (of_fields terms source (λ q. Unit {0}) Whole (λ there. anything (gathered source) terms (list_of_fields source)) (λ q i there own. (refl, there, own)))

pub judged_programs_keep_apart : JudgedProgramsKeepApart
judged_programs_keep_apart p j =
    let source = abstract j.tree in
    let met = j.typed.met in
    let actor = holds source j.terms met j.made j.typed.by j.all (λ m. (u : Term) × ActorMade (gathered source) j.slots j.terms j.number (first_context source) source.fields (u, m.fields)) (programs_are_made source j.slots j.terms j.number j.graph j.source.source) in
    let order = holds source j.terms met j.made j.typed.by j.all (λ m. IsActorInOrder (gathered source) j.slots j.number (with_list no_types source.fields) (own_names source.name) source.fields m.fields) j.source.in_order in
    let it = whole source j.terms met j.made j.typed.by j.all in
    let S : Setting = record {
      program = source;
      slots = j.slots;
      terms = j.terms;
      number = j.number;
      graph = j.graph;
      there = own_there (λ u. Among u j.terms) source.name (actor_type source) it.2;
      q = (actor.0, j.made.fields);
      m = actor.1;
      o = order;
    } in
    subst Apart (sym j.is)
    (subst (λ m. Apart (desugared (gathered source) j.number j.slots m)) (sym it.0)
    (typed S it.1.0 it.1.1.0 it.1.1.1.0 j.source.actor))

-- ---- all that is asked

pub judged_programs_are_sound : JudgedProgramsAreSound
judged_programs_are_sound p j =
    let a = judged_programs_keep_apart p j in
    let nests : Nests p = subst Nests (sym j.is) (programs_nest (gathered (abstract j.tree)) j.number j.slots j.made) in
    let few : names_declared p.declarations ≤ p.nodes = subst (λ (q : TypedProgram). names_declared q.declarations ≤ q.nodes) (sym j.is) (programs_names (gathered (abstract j.tree)) j.number j.slots j.made) in
    record {
      well_typed = a.0;
      sized = nested_programs_are_sized (program p) nests.light nests.shaped;
      stands = actors_stand p a.0 (shaped_written (program p).body nests.shaped) a.1 few;
    }
