-- Whole programs.
use Rattle.std.proofs.Common.{◌≡◌, ◌≢◌, inl, inr, ℕ, ◌+◌, true, false, List, [], ◌∷◌, length, map, Option, Some, None, Ok, refl, sym, ap, ap₂, ◌∙◌, subst}
use Rattle.std.proofs.lemmas.List.{length-map}
use Rattle.std.proofs.lemmas.Slice.Eq.{bytes_eq-Decides}
use Rattle.std.specs.Prelude.{codes, nat_le}
use Rattle.mo_num.specs.declared.kind.Kind.TheVariants as kind
use Rattle.mo_types.specs.declared.node.Field.{Field}
use Rattle.mo_types.specs.declared.node.Node.TheVariants as node
use Rattle.mo_types.specs.declared.node.TypeId.{TypeId}
use Rattle.mo_types.specs.Label.{label_id}
use Rattle.mo_types.specs.Sub.{Each}
use Rattle.mo_types.specs.Values.{copies}
use Rattle.mo_subtype.specs.Renamed.{on_field}
use Rattle.subtype_laws.specs.Reached.{Among}
use Rattle.typed_tree.specs.declared.program.Method.{Method}
use Rattle.typed_tree.specs.declared.program.Program.{Program as TypedProgram}
use Rattle.typed_tree.specs.declared.program.StableVariable.{StableVariable}
use Rattle.typed_tree.specs.OperationTypes.{Distinct}
use Rattle.typed_tree.specs.ProgramView.{functions_of}
use Rattle.typed_tree.specs.Typing.{with_names}
use Rattle.typed_tree.specs.Wants.{Anything}
use Rattle.typed_tree.specs.WellTyped.{IsActor, IsPublic, IsSystem, WellTyped}
use Rattle.typing_rules.specs.declared.condition.Condition.TheVariants as condition
use Rattle.typing_rules.specs.AbstractPrograms.{abstract}
use Rattle.typing_rules.specs.AbstractSyntax.{Bytes, Program}
use Rattle.typing_rules.specs.Answers.{answer, Comes}
use Rattle.typing_rules.specs.DeclaredTypes.{with_list}
use Rattle.typing_rules.specs.Gathered.{gathered}
use Rattle.typing_rules.specs.Nodes.{nodes}
use Rattle.typing_rules.specs.Programs.{basics, first_context, actor_type, method_fields, made_program, own_name, own_types, JudgeFieldsOf, JudgeProgram}
use Rattle.typing_rules.specs.Terms.{Term, unit, listed_fields}
use Rattle.typing_rules.specs.Terms as t
use Rattle.typing_rules.specs.TypedTrees.{Note}
use Rattle.typing_rules.specs.TypeScopes.{no_types}
use Rattle.desugaring.specs.Programs.{count_behind, desugared}
use Rattle.desugaring_laws.specs.Yields.{Yields}
use Rattle.desugaring_laws.proofs.Graph.{head_there}
use Rattle.desugaring_laws.proofs.Yielding.{anything, tests, yields_given}
use Rattle.expression_laws.proofs.Heads.{boolean_head, number_head}
use Rattle.node_laws.proofs.ProgramNodes.{programs_are_covered}
use Rattle.actor_laws.specs.Actors.{ActorMade}
use Rattle.actor_laws.specs.Order.{public_functions, IsActorInOrder}
use Rattle.program_laws.specs.Around.{method_wants, own_names, own_want}
use Rattle.program_laws.proofs.Around.{AreAround, all_around}
use Rattle.program_laws.proofs.Given.{AreThere, list_of_fields, of_fields}
use Rattle.program_laws.proofs.Programs.{programs_are_made}
use Rattle.program_laws.proofs.Standing.{actor_head, functions_differ, public_named}
use Rattle.ending_laws.specs.Ending.{Ended, end_frame, written_out}
use Rattle.ending_laws.proofs.AtEnd.{programs_end}
use Rattle.ending_laws.proofs.Place.{Setting, last}
use Rattle.ending_laws.proofs.Place as place
use Rattle.well_typed_laws.specs.Source.{system_names, IsSystemName, IsActorSource}
use Rattle.well_typed_laws.specs.WellTyped.{ProgramsAreWellTyped}
use Rattle.well_typed_laws.proofs.Counting.{Counted, counted, two_names, viewed}
use Rattle.well_typed_laws.proofs.Functions.{Half, half, frame, tuple_head}

map_twice : {A B C : Type 0} (f : A → B) (g : B → C) (xs : List A) → map g (map f xs) ≡ map (λ x. g (f x)) xs
map_twice f g [] = refl
map_twice f g (x ∷ xs) = ap (λ ys. g (f x) ∷ ys) (map_twice f g xs)

not_so : false ≡ true → ⊥
not_so h = cc

names_apart : codes "preupgrade" ≢ codes "postupgrade"
names_apart h = not_so ((bytes_eq-Decides (codes "preupgrade") (codes "postupgrade")).1 h)

module _ (S : Setting) (units : Among unit S.terms) (flag : Among t.Boolean S.terms) (natural : Among (t.Number kind.Nat) S.terms) (actor : IsActorSource S.program.fields) where
  abbrev P : TypedProgram
  P = written_out S.program S.slots S.number S.q.1

  abbrev ended : Ended S.program S.slots S.terms S.number S.q.1 S.m.list.given
  ended = programs_end S.program S.slots S.terms S.number S.graph S.there S.q S.m S.o

  made : Half S units S.program.fields S.q.1
  made = half S units

  told : Counted (place.defs S) S.number S.slots (frame S units) (end_frame S.program S.number S.q.1) (programs_end S.program S.slots S.terms S.number S.graph S.there S.q S.m S.o).end S.q.1
  told = counted (place.defs S) S.number S.slots (frame S units) (end_frame S.program S.number S.q.1) (programs_end S.program S.slots S.terms S.number S.graph S.there S.q S.m S.o).end S.q.1

  around_made : AreAround (place.defs S) S.slots S.terms S.number (last S) S.program.fields S.q.1
  around_made = all_around (place.defs S) S.slots S.terms S.number (last S) S.program.fields S.m.list.given S.q.1 S.m.behind_list

  -- as many functions stand behind the declarations as their frame has names for
  many : length (functions_of P) ≡ count_behind S.q.1
  many =
      let two = two_names (codes "preupgrade") (codes "postupgrade") names_apart (system_names S.q.1) (subst (λ xs. Distinct xs) (sym made.names) actor.systems_differ) (subst (λ xs. Each IsSystemName xs) (sym made.names) actor.systems_named) in
      viewed P.methods P.before_upgrade P.after_upgrade
      ∙ sym (told.count ∙ ap (λ n. length P.methods + n) (two ∙ ap₂ (λ a b. a + b) (sym (told.systems (codes "preupgrade"))) (sym (told.systems (codes "postupgrade")))))

  functions_named : map (λ m. m.name) P.methods ≡ public_functions S.program.fields
  functions_named = told.names ∙ (around_made.names ∙ sym (public_named (with_list no_types S.program.fields) S.program.fields))

  own_is : (o : Option Bytes) → S.program.name ≡ o → IsActor S.slots P.methods (own_want o (S.number (actor_type S.program)))
  own_is None e = inl refl
  own_is (Some x) e =
      let gs = listed_fields (method_fields (with_list no_types S.program.fields) S.program.fields) in
      inr (
        S.number (actor_type S.program),
        map (on_field S.number) gs,
        head_there (place.defs S) S.slots S.terms S.number S.graph (actor_type S.program) (S.there x e) (node.Actor gs) (actor_head (place.defs S) (method_fields (with_list no_types S.program.fields) S.program.fields)),
        length-map gs (on_field S.number) ∙ made.many,
        made.fields (map (on_field S.number) gs) (λ f m. m) (subst (λ xs. Distinct xs) (sym (map_twice (on_field S.number) (λ (f : Field TypeId). f.label) gs ∙ made.labels)) (functions_differ S.program.fields S.o.differ)),
        refl,
      )

  pub well_typed : WellTyped P
  well_typed = record {
    types = S.graph.lawful;
    basics = record {
      flag = S.number t.Boolean;
      is_flag = head_there (place.defs S) S.slots S.terms S.number S.graph t.Boolean flag node.Bool (boolean_head (place.defs S));
      unit = S.number unit;
      is_unit = head_there (place.defs S) S.slots S.terms S.number S.graph unit units (node.Tuple []) (tuple_head (place.defs S) t.Nil);
      natural = S.number (t.Number kind.Nat);
      is_natural = head_there (place.defs S) S.slots S.terms S.number S.graph (t.Number kind.Nat) natural (node.Number kind.Nat) (number_head (place.defs S) kind.Nat);
    };
    own = own_want S.program.name (S.number (actor_type S.program));
    methods = method_wants S.number S.q.1;
    end = ended.end;
    own_is = own_is S.program.name refl;
    methods_are = made.methods;
    declarations = ended.declared;
    public = subst (λ n. Each (IsPublic S.slots (with_names (copies n Anything) ended.end)) P.methods) (sym many) (made.public actor.methods_named);
    method_labels = subst (λ ls. Distinct ls) (map_twice (λ (m : Method). m.name) label_id P.methods) (subst (λ xs. Distinct (map label_id xs)) (sym functions_named) actor.method_labels);
    before_upgrade = subst (λ n. IsSystem S.slots (with_names (copies n Anything) ended.end) P.before_upgrade) (sym many) (made.system (codes "preupgrade"));
    after_upgrade = subst (λ n. IsSystem S.slots (with_names (copies n Anything) ended.end) P.after_upgrade) (sym many) (made.system (codes "postupgrade"));
    stable = told.stable ended.stable;
    stable_labels = subst (λ ls. Distinct ls) (map_twice (λ (v : StableVariable). v.name) label_id P.stable) (subst (λ xs. Distinct (map label_id xs)) (sym (told.stable_names ∙ around_made.from)) actor.stable_labels);
    nodes = programs_are_covered (place.defs S) S.number S.slots (made_program S.program S.q.1);
  }

-- what is there of each type that is bound by the actor's name, is there of its own
own_there : (P : Term → Type 0) (o : Option Bytes) (u : Term) → Each P (map (λ z. z.1.type) (own_name o u)) → (x : Bytes) → o ≡ Some x → P u
own_there P None u h x e = let none : None ≡ Some x = e in cc
own_there P (Some y) u h x e = h.0

-- what a program comes to
module _ (program : Program ℕ) (terms met : List Term) (made : Program Note) (by : Comes (gathered program) (JudgeProgram program) [] (answer (Ok made) met)) (all : (u : Term) → Among u met → Among u terms) where
  holds : (Q : Program Note → Type 0) → Yields (gathered program) terms (JudgeFieldsOf program) Q → Q made
  holds Q y =
      yields_given (gathered program) terms (JudgeProgram program) Q made [] met by all (tests (gathered program) terms condition.TooManyNodes 0 (nat_le (nodes program) 50000) (JudgeFieldsOf program) Q (λ e. y))

  -- it has the types of all programs and its own, and its fields are those that were judged
  abbrev Whole : Program Note → Type 0
  Whole m = (m ≡ made_program program m.fields) × AreThere terms basics × AreThere terms (own_types program)

  whole : Whole made
  whole = holds Whole (of_fields terms program (λ q. Unit {0}) Whole (λ there. anything (gathered program) terms (list_of_fields program)) (λ q i there own. (refl, there, own)))

pub programs_are_well_typed : ProgramsAreWellTyped
programs_are_well_typed tree made typed slots terms number graph all source =
    let program = abstract tree in
    let actor = holds program terms typed.met made typed.by all (λ m. (u : Term) × ActorMade (gathered program) slots terms number (first_context program) program.fields (u, m.fields)) (programs_are_made program slots terms number graph source.source) in
    let order = holds program terms typed.met made typed.by all (λ m. IsActorInOrder (gathered program) slots number (with_list no_types program.fields) (own_names program.name) program.fields m.fields) source.in_order in
    let it = whole program terms typed.met made typed.by all in
    let S : Setting = record {
      program = program;
      slots = slots;
      terms = terms;
      number = number;
      graph = graph;
      there = own_there (λ u. Among u terms) program.name (actor_type program) it.2;
      q = (actor.0, made.fields);
      m = actor.1;
      o = order;
    } in
    subst (λ m. WellTyped (desugared (gathered program) number slots m)) (sym it.0) (well_typed S it.1.0 it.1.1.0 it.1.1.1.0 source.actor)
