-- Whole programs.
use Rattle.std.proofs.Common.{◌≡◌, inl, inr, ◌||◌, ℕ, ◌+◌, Bool, true, false, List, [], ◌∷◌, ◌++◌, map, refl, sym, ap, subst, arith}
use Rattle.std.specs.List.{flat_map}
use Rattle.std.specs.Prelude.{codes}
use Rattle.std.specs.Str.{bytes_eq}
use Rattle.std.proofs.lemmas.Slice.Eq.{bytes_eq-Decides}
use Rattle.mo_name_table.specs.Places.{texts}
use Rattle.mo_names.specs.Bound.{Bound}
use Rattle.mo_names.specs.Order.{field_step}
use Rattle.mo_names.specs.ProgramNames.{in_actor, in_actor_field, in_import, actor_names, field_values, field_types, field_systems, field_methods, field_stables, import_names, name_of, program_scope}
use Rattle.mo_scopes.specs.declared.scope.Scope.{Scope}
use Rattle.mo_scopes.specs.Findings.{begins_reserved, contains, together, labels, each_identifier}
use Rattle.mo_scopes.specs.Scopes.{system_functions}
use Rattle.mo_syntax.specs.declared.mark.Mark.TheVariants as m
use Rattle.mo_syntax.specs.declared.program.Actor.{Actor}
use Rattle.mo_syntax.specs.declared.program.ActorField.{ActorField}
use Rattle.mo_syntax.specs.declared.program.Import.{Import}
use Rattle.mo_syntax.specs.declared.program.Tree.{Tree}
use Rattle.mo_syntax.specs.declared.token.TokenKind.TheVariants as t
use Rattle.mo_syntax.specs.Parts.{Each}
use Rattle.mo_syntax.specs.ProgramGrammar.{actor_field_tokens, actor_tokens, import_tokens, name_tokens, tree_tokens}
use Rattle.mo_syntax.specs.Writing.{braces, marked, semicolons}
use Rattle.mo_types.specs.declared.node.TypeId.{TypeId}
use Rattle.mo_types.specs.Graph.{Slot}
use Rattle.mo_types.specs.Label.{label_id}
use Rattle.mo_types.specs.Sub.{Each as EachOf}
use Rattle.mo_types.specs.Values.{is_method_name}
use Rattle.typed_tree.specs.OperationTypes.{Distinct}
use Rattle.typing_rules.specs.AbstractExpressions.{members}
use Rattle.typing_rules.specs.AbstractPrograms.{abstract, in_field, imports_size, name_size}
use Rattle.typing_rules.specs.AbstractSyntax.{Bytes, Declarations}
use Rattle.typing_rules.specs.DeclaredTypes.{with_list}
use Rattle.typing_rules.specs.Definitions.{Definitions}
use Rattle.typing_rules.specs.Gathered as gathered
use Rattle.typing_rules.specs.Spans.{flag, listed_size}
use Rattle.typing_rules.specs.Terms.{Term}
use Rattle.typing_rules.specs.TypeScopes.{TypeScope, no_types}
use Rattle.desugaring.specs.FreeNames.{names_of_list}
use Rattle.program_laws.specs.Programs.{FieldsAreSource}
use Rattle.kept_names.specs.Plain.{ArePlain}
use Rattle.actor_order.proofs.Actors.{actors_are_in_order}
use Rattle.source_facts.specs.Laws.{AreMeanings, IsListFine, AreListsFine}
use Rattle.source_facts.specs.Shown.{AreWritten}
use Rattle.source_facts.proofs.DeclarationLists.{below_list}
use Rattle.source_facts.proofs.Facts.{Numbered, numbered_on, numbered_two, none_numbered, type_numbers, parameter_numbers}
use Rattle.source_facts.proofs.Findings.{first_fine, last_fine, names_differ, numbers_differ}
use Rattle.source_facts.proofs.Ordering.{StepsAre, ordered}
use Rattle.source_facts.proofs.Patterns.{braced, first_written, last_written, texts_both}
use Rattle.source_facts.proofs.Sequences.{each_first, each_last, Sub, Done, sub_both, sub_distinct, AllBelow, below_more, rising_distinct}
use Rattle.well_typed_laws.specs.Source.{IsMethodName, IsSystemName}
use Rattle.program_facts.specs.Laws.{ProgramsAreSources, ProgramsAreInOrder, ProgramsAreNamed, ProgramsAreWholeSources}
use Rattle.program_facts.proofs.Fields.{field_facts}
use Rattle.program_facts.proofs.Methods.{functions_are, systems_are, stables_are, all_named, each_unreserved, each_system, each_method}
use Rattle.program_facts.proofs.Shown.{meanings, lists_fine}

module _ (defs : Definitions) (slots : List Slot) (terms : List Term) (number : Term → TypeId) where
  abbrev here : List ActorField → ℕ → Declarations ℕ
  here xs k = members (map in_field xs) k

  fields_stand : (xs : List ActorField) (k : ℕ) → ArePlain (here xs k) → StepsAre (map (λ d. d.step) (map field_step xs)) (here xs k)
  fields_stand [] k h = tt
  fields_stand (x ∷ xs) k h = ((field_facts defs slots terms number x).step k h.0, fields_stand xs (k + (in_field x).size + 1) h.1)

  fields_values : (xs : List ActorField) (k : ℕ) → Sub (names_of_list (here xs k)) (texts (flat_map field_values xs))
  fields_values [] k = Done
  fields_values (x ∷ xs) k =
      subst (λ z. Sub (names_of_list (here (x ∷ xs) k)) z) (sym (texts_both (field_values x) (flat_map field_values xs)))
      (sub_both ((field_facts defs slots terms number x).values k) (fields_values xs (k + (in_field x).size + 1)))

  fields_numbered : (s : TypeScope) (xs : List ActorField) (k : ℕ) → Numbered k (k + listed_size (map in_field xs)) (gathered.in_list s (here xs k))
  fields_numbered s [] k = none_numbered k (k + 0) (omega arith)
  fields_numbered s (x ∷ []) k =
      numbered_on k (k + (in_field x).size) (k + (in_field x).size) (gathered.in_declaration s ((in_field x).from k).1) gathered.nothing ((field_facts defs slots terms number x).numbered s k)
      (none_numbered (k + (in_field x).size) (k + (in_field x).size) (omega arith))
  fields_numbered s (x ∷ y ∷ xs) k =
      let next = k + (in_field x).size + 1 in
      numbered_two k k (k + (in_field x).size) next (next + listed_size (map in_field (y ∷ xs))) (k + listed_size (map in_field (x ∷ y ∷ xs))) (gathered.in_declaration s ((in_field x).from k).1)
      (gathered.in_list s (here (y ∷ xs) next)) (omega arith) (omega arith) (omega arith) ((field_facts defs slots terms number x).numbered s k) (fields_numbered s (y ∷ xs) next)

  fields_fine : (s : TypeScope) (xs : List ActorField) (k : ℕ) (scope : Scope) → AllBelow k s.parameters → AreMeanings (flat_map (in_actor_field scope) xs) → AreListsFine (flat_map (λ d. d.lists) (map field_step xs))
      → Each AreWritten (map actor_field_tokens xs) → FieldsAreSource defs slots terms number s (here xs k)
  fields_fine s [] k scope b f l v = tt
  fields_fine s (x ∷ xs) k scope b f l v =
      let next = k + (in_field x).size + 1 in
      let more = flat_map (in_actor_field scope) xs in let lists = flat_map (λ d. d.lists) (map field_step xs) in (
        (field_facts defs slots terms number x).fine s k scope b (first_fine (in_actor_field scope x) more f) (each_first IsListFine (field_step x).lists lists l) v.0,
        fields_fine s xs next scope (below_more k next s.parameters (omega arith) b) (last_fine (in_actor_field scope x) more f) (each_last IsListFine (field_step x).lists lists l) v.1,
      )

-- ---- what is found in the actor

record ActorFound (imports : List Import) (x : Actor) : Type 0 where
  values : AreMeanings (together (flat_map field_values x.fields))
  systems : AreMeanings (together (flat_map field_systems x.fields))
  methods : AreMeanings (labels (flat_map field_methods x.fields))
  stables : AreMeanings (labels (flat_map field_stables x.fields))
  fields : AreMeanings (flat_map (in_actor_field (program_scope imports x)) x.fields)

actor_found : (imports : List Import) (x : Actor) → AreMeanings (in_actor imports x) → ActorFound imports x
unfolding in_actor
actor_found imports x f =
    let fields = flat_map (in_actor_field (program_scope imports x)) x.fields in
    let a = together (flat_map field_values x.fields) in let b = together (flat_map field_types x.fields) in let c = together (flat_map field_systems x.fields) in
    let d = labels (flat_map field_methods x.fields) in let e = labels (flat_map field_stables x.fields) in
    let all = first_fine (actor_names x.fields) fields f in
    let rest = last_fine b (c ++ (d ++ e)) (last_fine a (b ++ (c ++ (d ++ e))) all) in
    record {
      values = first_fine a (b ++ (c ++ (d ++ e))) all;
      systems = first_fine c (d ++ e) rest;
      methods = first_fine d e (last_fine c (d ++ e) rest);
      stables = last_fine d e (last_fine c (d ++ e) rest);
      fields = last_fine (actor_names x.fields) fields f;
    }

program_found : (tree : Tree) → Bound tree → ActorFound tree.imports tree.actor
program_found tree bound =
    let imports = flat_map in_import tree.imports in
    let own = together (import_names tree.imports ++ name_of tree.actor.name) in
    let name = each_identifier (name_of tree.actor.name) in
    let actor = in_actor tree.imports tree.actor in
    actor_found tree.imports tree.actor (last_fine name actor (last_fine own (name ++ actor) (last_fine imports (own ++ (name ++ actor)) (meanings tree bound))))

-- ---- its tokens

fields_written : (tree : Tree) → AreWritten (tree_tokens tree) → Each AreWritten (map actor_field_tokens tree.actor.fields)
unfolding tree_tokens
fields_written tree h =
    let imports = flat_map import_tokens tree.imports in
    let last = marked tree.semicolon (t.Mark m.Semicolon) in
    let fields = braces (semicolons (map actor_field_tokens tree.actor.fields) tree.actor.semicolon) in
    let equals = marked tree.actor.equal_sign (t.Mark m.EqualSign) in
    let actor = first_written (actor_tokens tree.actor) last (last_written imports (actor_tokens tree.actor ++ last) h) in
    braced (map actor_field_tokens tree.actor.fields) tree.actor.semicolon (last_written equals fields (last_written (name_tokens tree.actor.name) (equals ++ fields) actor.1))

-- ---- the program

pub programs_are_sources : ProgramsAreSources
programs_are_sources tree bound written slots terms number =
    let program = abstract tree in
    let defs = gathered.gathered program in
    let k = imports_size tree.imports + 1 + name_size tree.actor.name + flag tree.actor.equal_sign + 1 in
    let s = with_list no_types program.fields in
    let found = program_found tree bound in
    let numbered = fields_numbered defs slots terms number s tree.actor.fields k in
    record {
      numbered = record {
        types = rising_distinct k (k + listed_size (map in_field tree.actor.fields)) (type_numbers defs) numbered.0;
        parameters = rising_distinct k (k + listed_size (map in_field tree.actor.fields)) (parameter_numbers defs) numbered.1;
      };
      fields = fields_fine defs slots terms number s tree.actor.fields k (program_scope tree.imports tree.actor) (below_list k no_types program.fields tt) found.fields (lists_fine tree bound).1 (fields_written tree written);
    }

pub programs_are_in_order : ProgramsAreInOrder
programs_are_in_order tree bound slots terms number =
    let program = abstract tree in
    let defs = gathered.gathered program in
    let k = imports_size tree.imports + 1 + name_size tree.actor.name + flag tree.actor.equal_sign + 1 in
    let found = program_found tree bound in
    actors_are_in_order program slots terms number (sub_distinct (fields_values defs slots terms number tree.actor.fields k) (names_differ (flat_map field_values tree.actor.fields) found.values))
    (λ h. ordered (map (λ d. d.step) (map field_step tree.actor.fields)) program.fields (fields_stand defs slots terms number tree.actor.fields k h) (lists_fine tree bound).0)

clash : (b : Bool) → b ≡ true → b ≡ false → ⊥
clash b h k = cc

named_and_free : (xs : List Bytes) → EachOf (λ y. is_method_name y ≡ true) xs → EachOf (λ y. begins_reserved y ≡ false) xs → EachOf IsMethodName xs
named_and_free [] h k = tt
named_and_free (x ∷ xs) h k = ((h.0, λ e. clash (begins_reserved x) (ap (λ z. begins_reserved z) e) k.0), named_and_free xs h.1 k.1)

is_system : (x : Bytes) → contains system_functions x ≡ true → IsSystemName x
is_system x h = by (bytes_eq x (codes "preupgrade")) (bytes_eq x (codes "postupgrade")) refl refl h where
  by : (b c : Bool) → bytes_eq x (codes "preupgrade") ≡ b → bytes_eq x (codes "postupgrade") ≡ c → (b || (c || false)) ≡ true → IsSystemName x
  by true c i j h = inl ((bytes_eq-Decides x (codes "preupgrade")).0 i)
  by false true i j h = inr ((bytes_eq-Decides x (codes "postupgrade")).0 j)
  by false false i j h = let no : false ≡ true = h in cc

are_systems : (xs : List Bytes) → EachOf (λ y. contains system_functions y ≡ true) xs → EachOf IsSystemName xs
are_systems [] h = tt
are_systems (x ∷ xs) h = (is_system x h.0, are_systems xs h.1)

pub programs_are_named : ProgramsAreNamed
programs_are_named tree bound written =
    let xs = tree.actor.fields in
    let scope = program_scope tree.imports tree.actor in
    let k = imports_size tree.imports + 1 + name_size tree.actor.name + flag tree.actor.equal_sign + 1 in
    let found = program_found tree bound in
    let methods = sym (functions_are gathered.nothing [] [] some xs k) in let systems = sym (systems_are gathered.nothing [] [] some xs k) in let stables = sym (stables_are gathered.nothing [] [] some xs k) in
    record {
      methods_named = subst (λ z. EachOf IsMethodName z) methods
          (named_and_free (texts (flat_map field_methods xs)) (all_named (λ y. is_method_name y ≡ true) field_methods xs (each_method xs (fields_written tree written)))
          (all_named (λ y. begins_reserved y ≡ false) field_methods xs (each_unreserved scope xs found.fields)));
      method_labels = subst (λ z. Distinct (map label_id z)) methods (numbers_differ (flat_map field_methods xs) found.methods);
      stable_labels = subst (λ z. Distinct (map label_id z)) stables (numbers_differ (flat_map field_stables xs) found.stables);
      systems_named = subst (λ z. EachOf IsSystemName z) systems (are_systems (texts (flat_map field_systems xs)) (all_named (λ y. contains system_functions y ≡ true) field_systems xs (each_system scope xs found.fields)));
      systems_differ = subst (λ z. Distinct z) systems (names_differ (flat_map field_systems xs) found.systems);
    } where
      -- any numbers of types serve here
      some : Term → TypeId
      some u = record { index = 0 }

pub programs_are_whole_sources : ProgramsAreWholeSources
programs_are_whole_sources tree bound written slots terms number = record {
  source = programs_are_sources tree bound written slots terms number;
  actor = programs_are_named tree bound written;
  in_order = programs_are_in_order tree bound slots terms number;
}
