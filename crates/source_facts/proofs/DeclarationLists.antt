-- Lists of declarations, as blocks and as the fields of objects.
use Rattle.std.proofs.Common.{◌≡◌, ℕ, ◌+◌, Bool, true, false, List, [], ◌∷◌, ◌++◌, map, refl, sym, ap, ◌∙◌, subst, arith, append-nil}
use Rattle.std.specs.List.{flat_map}
use Rattle.mo_syntax.specs.declared.declarations.Declaration as tree_declaration
use Rattle.mo_syntax.specs.declared.declarations.DeclarationField as tree_member
use Rattle.mo_syntax.specs.Parts.{Each}
use Rattle.mo_syntax.specs.ExpressionGrammar as grammar
use Rattle.mo_syntax.specs.Writing.{Writing}
use Rattle.mo_syntax.proofs.Known.{Known}
use Rattle.mo_name_table.specs.Places.{texts}
use Rattle.mo_bindings.specs.ExpressionNames.{Declared, Member}
use Rattle.mo_bindings.specs.ExpressionNames as names
use Rattle.mo_names.specs.Order.{Step, FoundStep}
use Rattle.mo_names.specs.Order as order
use Rattle.mo_order.specs.Parts as parts
use Rattle.mo_scopes.specs.declared.finding.Finding.{Finding}
use Rattle.mo_scopes.specs.declared.scope.Scope.{Scope}
use Rattle.mo_scopes.specs.Findings.{labels, together, each_label}
use Rattle.mo_types.specs.declared.node.TypeId.{TypeId}
use Rattle.mo_types.specs.Graph.{Slot}
use Rattle.mo_types.specs.Label.{label_id}
use Rattle.typed_tree.specs.OperationTypes.{Distinct}
use Rattle.typing_rules.specs.AbstractSyntax.{Declaration, Declarations}
use Rattle.typing_rules.specs.AbstractSyntax as p
use Rattle.typing_rules.specs.AbstractExpressions.{DeclarationSpan, MemberSpan, declarations, members}
use Rattle.typing_rules.specs.AbstractExpressions as rules
use Rattle.typing_rules.specs.DeclaredTypes.{with_list}
use Rattle.typing_rules.specs.Definitions.{Definitions}
use Rattle.typing_rules.specs.Gathered as gathered
use Rattle.typing_rules.specs.Spans.{listed_size}
use Rattle.typing_rules.specs.Terms.{Term}
use Rattle.typing_rules.specs.TypeScopes.{TypeScope}
use Rattle.desugaring.specs.FreeNames.{names_of_list, in_declarations, without}
use Rattle.block_forms.specs.Fields.{public_fields}
use Rattle.source_laws.specs.Source.{AreSource, DeclarationIsSource}
use Rattle.kept_names.specs.Plain.{ArePlain}
use Rattle.source_facts.specs.Shown.{AreWritten}
use Rattle.source_facts.proofs.Facts.{Numbered, numbered_on, numbered_two, none_numbered, hidden_same, DeclarationFacts, MemberFacts}
use Rattle.source_facts.specs.Laws.{AreMeanings, IsListFine, AreListsFine}
use Rattle.source_facts.proofs.Findings.{first_fine, last_fine, names_differ, numbers_differ}
use Rattle.source_facts.proofs.Patterns.{texts_both}
use Rattle.source_facts.proofs.Sequences.{each_first, each_last, Sub, Done, sub_both, sub_map, sub_distinct, AllBelow, below_more}
use Rattle.typing_rules.specs.DeclaredTypes as DT
use Rattle.desugaring.specs.FreeNames as FN
use Rattle.block_forms.specs.Blocks.{IsNested, AreNested, InOrder}
use Rattle.order_laws.proofs.Orders.{lists_are_in_order}
use Rattle.source_facts.proofs.Ordering.{StepsAre, steps_names, steps_occur, ordered}

-- types in scope have the same parameters
declared_parameters : (s : TypeScope) (d : Declaration ℕ) → (DT.with_declared s d).parameters ≡ s.parameters
declared_parameters s (p.Let q a) = refl
declared_parameters s (p.Var stable x u a) = refl
declared_parameters s (p.Func x g body) = refl
declared_parameters s (p.Method query context x g body) = refl
declared_parameters s (p.System x body) = refl
declared_parameters s (p.TypeAlias x parameters u) = refl
declared_parameters s (p.Class x g fields) = refl
declared_parameters s (p.NamedObject x fields) = refl
declared_parameters s (p.Evaluate a) = refl

pub list_parameters : (s : TypeScope) (ds : Declarations ℕ) → (with_list s ds).parameters ≡ s.parameters
list_parameters s p.End = refl
list_parameters s (p.Then public n d rest) = list_parameters (DT.with_declared s d) rest ∙ declared_parameters s d

pub below_list : (k : ℕ) (s : TypeScope) (ds : Declarations ℕ) → AllBelow k s.parameters → AllBelow k (with_list s ds).parameters
below_list k s ds b = subst (λ z. AllBelow k z) (sym (list_parameters s ds)) b

module _ (defs : Definitions) (slots : List Slot) (terms : List Term) (number : Term → TypeId) where
  nested : (s : TypeScope) (d : Declaration ℕ) → DeclarationIsSource defs slots terms number s d → IsNested d
  nested s (p.Let q a) j = tt
  nested s (p.Var false x u a) j = tt
  nested s (p.Var true x u a) j = absurd j
  nested s (p.Func x g body) j = tt
  nested s (p.Method query context x g body) j = absurd j
  nested s (p.System x body) j = absurd j
  nested s (p.TypeAlias x parameters u) j = tt
  nested s (p.Class x g fields) j = tt
  nested s (p.NamedObject x fields) j = tt
  nested s (p.Evaluate a) j = tt

  pub are_nested : (s : TypeScope) (ds : Declarations ℕ) → AreSource defs slots terms number s ds → AreNested ds
  are_nested s p.End j = tt
  are_nested s (p.Then public n d rest) j = (nested s d j.0, are_nested s rest j.1)

  abbrev pub KD : Type 0
  KD = Known (λ (x : tree_declaration.Declaration). DeclarationFacts defs slots terms number (rules.in_declaration x) (names.in_declaration x) (order.found_step x) (grammar.declaration_tokens x))

  abbrev pub KM : Type 0
  KM = Known (λ (x : tree_member.DeclarationField). MemberFacts defs slots terms number (rules.in_member x) (names.in_member x) (parts.found_member x) (grammar.declaration_field_tokens x))

  mapped : (founds : List FoundStep) → flat_map (λ s. s.occurs) (map (λ d. d.step) founds) ≡ flat_map (λ d. d.step.occurs) founds
  mapped [] = refl
  mapped (x ∷ xs) = ap (λ z. x.step.occurs ++ z) (mapped xs)

  -- ---- block

  abbrev pub block_spans : List KD → List DeclarationSpan
  block_spans xs = map rules.in_declaration (map (λ z. z.0) xs)

  abbrev pub block_names : List KD → List Declared
  block_names xs = map names.in_declaration (map (λ z. z.0) xs)

  abbrev pub block_founds : List KD → List FoundStep
  block_founds xs = map order.found_step (map (λ z. z.0) xs)

  abbrev pub block_steps : List KD → List Step
  block_steps xs = map (λ d. d.step) (block_founds xs)

  abbrev pub block_writings : List KD → List Writing
  block_writings xs = map grammar.declaration_tokens (map (λ z. z.0) xs)

  abbrev pub block_at : List KD → ℕ → Declarations ℕ
  block_at xs k = declarations (block_spans xs) k

  pub block_stand : (xs : List KD) (k : ℕ) → ArePlain (block_at xs k) → StepsAre (block_steps xs) (block_at xs k)
  block_stand [] k h = tt
  block_stand (x ∷ xs) k h = (x.1.step k h.0, block_stand xs (k + (rules.in_declaration x.0).size + 1) h.1)

  pub block_values : (xs : List KD) (k : ℕ) → Sub (names_of_list (block_at xs k)) (texts (names.values_of (block_names xs)))
  block_values [] k = Done
  block_values (x ∷ xs) k =
      subst (λ z. Sub (names_of_list (block_at (x ∷ xs) k)) z) (sym (texts_both (names.in_declaration x.0).values (names.values_of (block_names xs))))
      (sub_both (x.1.values k) (block_values xs (k + (rules.in_declaration x.0).size + 1)))

  pub block_numbered : (s : TypeScope) (xs : List KD) (k : ℕ) → Numbered k (k + listed_size (block_spans xs)) (gathered.in_list s (block_at xs k))
  block_numbered s [] k = none_numbered k (k + 0) (omega arith)
  block_numbered s (x ∷ []) k =
      numbered_on k (k + (rules.in_declaration x.0).size) (k + (rules.in_declaration x.0).size) (gathered.in_declaration s ((rules.in_declaration x.0).from k)) gathered.nothing (x.1.numbered s k)
      (none_numbered (k + (rules.in_declaration x.0).size) (k + (rules.in_declaration x.0).size) (omega arith))
  block_numbered s (x ∷ y ∷ xs) k =
      let next = k + (rules.in_declaration x.0).size + 1 in
      numbered_two k k (k + (rules.in_declaration x.0).size) next (next + listed_size (block_spans (y ∷ xs))) (k + listed_size (block_spans (x ∷ y ∷ xs)))
      (gathered.in_declaration s ((rules.in_declaration x.0).from k)) (gathered.in_list s (block_at (y ∷ xs) next)) (omega arith) (omega arith) (omega arith) (x.1.numbered s k) (block_numbered s (y ∷ xs) next)

  pub block_each : (s : TypeScope) (xs : List KD) (k : ℕ) (scope : Scope) → AllBelow k s.parameters → AreMeanings (names.each_declared (block_names xs) scope) → AreListsFine (flat_map (λ d. d.lists) (block_founds xs))
      → Each AreWritten (block_writings xs) → AreSource defs slots terms number s (block_at xs k)
  block_each s [] k scope b f l i = tt
  block_each s (x ∷ xs) k scope b f l i =
      let next = k + (rules.in_declaration x.0).size + 1 in
      let more = flat_map (λ d. d.lists) (block_founds xs) in (
        x.1.fine s k scope b (first_fine ((names.in_declaration x.0).finds scope) (names.each_declared (block_names xs) scope) f) (each_first IsListFine (order.found_step x.0).lists more l) i.0,
        block_each s xs next scope (below_more k next s.parameters (omega arith) b) (last_fine ((names.in_declaration x.0).finds scope) (names.each_declared (block_names xs) scope) f) (each_last IsListFine (order.found_step x.0).lists more l) i.1,
      )

  pub block_same : (xs : List KD) (k : ℕ) → ArePlain (block_at xs k) → without (names_of_list (block_at xs k)) (in_declarations (block_at xs k)) ≡ texts (order.list_of (block_founds xs)).free
  block_same xs k h =
      let stand = block_stand xs k h in
      hidden_same (order.names_of_steps (block_steps xs)) (names_of_list (block_at xs k)) (flat_map (λ d. d.step.occurs) (block_founds xs)) (in_declarations (block_at xs k)) (steps_names (block_steps xs) (block_at xs k) stand)
      (steps_occur (block_steps xs) (block_at xs k) stand ∙ ap texts (mapped (block_founds xs)))

  -- the whole list is in order
  pub block_in_order : (value : Bool) (s : TypeScope) (xs : List KD) (k : ℕ) → AreMeanings (together (names.values_of (block_names xs))) → IsListFine (block_steps xs) → AreSource defs slots terms number (with_list s (block_at xs k)) (block_at xs k)
      → InOrder defs slots terms number value s (block_at xs k)
  block_in_order value s xs k f l j =
      lists_are_in_order defs slots terms number value s (block_at xs k) (sub_distinct (block_values xs k) (names_differ (names.values_of (block_names xs)) f)) (are_nested (with_list s (block_at xs k)) (block_at xs k) j)
      (λ h. ordered (block_steps xs) (block_at xs k) (block_stand xs k h) l)

  -- ---- member

  abbrev pub member_spans : List KM → List MemberSpan
  member_spans xs = map rules.in_member (map (λ z. z.0) xs)

  abbrev pub member_names : List KM → List Member
  member_names xs = map names.in_member (map (λ z. z.0) xs)

  abbrev pub member_founds : List KM → List FoundStep
  member_founds xs = map parts.found_member (map (λ z. z.0) xs)

  abbrev pub member_steps : List KM → List Step
  member_steps xs = map (λ d. d.step) (member_founds xs)

  abbrev pub member_writings : List KM → List Writing
  member_writings xs = map grammar.declaration_field_tokens (map (λ z. z.0) xs)

  abbrev pub member_at : List KM → ℕ → Declarations ℕ
  member_at xs k = members (member_spans xs) k

  pub member_stand : (xs : List KM) (k : ℕ) → ArePlain (member_at xs k) → StepsAre (member_steps xs) (member_at xs k)
  member_stand [] k h = tt
  member_stand (x ∷ xs) k h = (x.1.step k h.0, member_stand xs (k + (rules.in_member x.0).size + 1) h.1)

  pub member_values : (xs : List KM) (k : ℕ) → Sub (names_of_list (member_at xs k)) (texts (names.member_values (member_names xs)))
  member_values [] k = Done
  member_values (x ∷ xs) k =
      subst (λ z. Sub (names_of_list (member_at (x ∷ xs) k)) z) (sym (texts_both (names.in_member x.0).values (names.member_values (member_names xs))))
      (sub_both (x.1.values k) (member_values xs (k + (rules.in_member x.0).size + 1)))

  pub member_numbered : (s : TypeScope) (xs : List KM) (k : ℕ) → Numbered k (k + listed_size (member_spans xs)) (gathered.in_list s (member_at xs k))
  member_numbered s [] k = none_numbered k (k + 0) (omega arith)
  member_numbered s (x ∷ []) k =
      numbered_on k (k + (rules.in_member x.0).size) (k + (rules.in_member x.0).size) (gathered.in_declaration s ((rules.in_member x.0).from k).1) gathered.nothing (x.1.numbered s k)
      (none_numbered (k + (rules.in_member x.0).size) (k + (rules.in_member x.0).size) (omega arith))
  member_numbered s (x ∷ y ∷ xs) k =
      let next = k + (rules.in_member x.0).size + 1 in
      numbered_two k k (k + (rules.in_member x.0).size) next (next + listed_size (member_spans (y ∷ xs))) (k + listed_size (member_spans (x ∷ y ∷ xs)))
      (gathered.in_declaration s ((rules.in_member x.0).from k).1) (gathered.in_list s (member_at (y ∷ xs) next)) (omega arith) (omega arith) (omega arith) (x.1.numbered s k) (member_numbered s (y ∷ xs) next)

  pub member_each : (s : TypeScope) (xs : List KM) (k : ℕ) (scope : Scope) → AllBelow k s.parameters → AreMeanings (names.each_member (member_names xs) scope) → AreListsFine (flat_map (λ d. d.lists) (member_founds xs))
      → Each AreWritten (member_writings xs) → AreSource defs slots terms number s (member_at xs k)
  member_each s [] k scope b f l i = tt
  member_each s (x ∷ xs) k scope b f l i =
      let next = k + (rules.in_member x.0).size + 1 in
      let more = flat_map (λ d. d.lists) (member_founds xs) in (
        x.1.fine s k scope b (first_fine ((names.in_member x.0).finds scope) (names.each_member (member_names xs) scope) f) (each_first IsListFine (parts.found_member x.0).lists more l) i.0,
        member_each s xs next scope (below_more k next s.parameters (omega arith) b) (last_fine ((names.in_member x.0).finds scope) (names.each_member (member_names xs) scope) f) (each_last IsListFine (parts.found_member x.0).lists more l) i.1,
      )

  pub member_same : (xs : List KM) (k : ℕ) → ArePlain (member_at xs k) → without (names_of_list (member_at xs k)) (in_declarations (member_at xs k)) ≡ texts (order.list_of (member_founds xs)).free
  member_same xs k h =
      let stand = member_stand xs k h in
      hidden_same (order.names_of_steps (member_steps xs)) (names_of_list (member_at xs k)) (flat_map (λ d. d.step.occurs) (member_founds xs)) (in_declarations (member_at xs k)) (steps_names (member_steps xs) (member_at xs k) stand)
      (steps_occur (member_steps xs) (member_at xs k) stand ∙ ap texts (mapped (member_founds xs)))

  -- the whole list is in order
  pub member_in_order : (value : Bool) (s : TypeScope) (xs : List KM) (k : ℕ) → AreMeanings (together (names.member_values (member_names xs))) → IsListFine (member_steps xs) → AreSource defs slots terms number (with_list s (member_at xs k)) (member_at xs k)
      → InOrder defs slots terms number value s (member_at xs k)
  member_in_order value s xs k f l j =
      lists_are_in_order defs slots terms number value s (member_at xs k) (sub_distinct (member_values xs k) (names_differ (names.member_values (member_names xs)) f)) (are_nested (with_list s (member_at xs k)) (member_at xs k) j)
      (λ h. ordered (member_steps xs) (member_at xs k) (member_stand xs k h) l)

  one_field : (public : Bool) (n : ℕ) (d : Declaration ℕ) (rest : Declarations ℕ) → public_fields (p.Then public n d rest) ≡ public_fields (p.Then public n d p.End) ++ public_fields rest
  one_field true n d rest = ap (λ z. z ++ public_fields rest) (sym (append-nil (FN.field_names d)))
  one_field false n d rest = refl

  -- the labels of an object differ
  pub member_fields : (xs : List KM) (k : ℕ) → Sub (public_fields (member_at xs k)) (texts (names.public_names (member_names xs)))
  member_fields [] k = Done
  member_fields (x ∷ xs) k =
      let next = k + (rules.in_member x.0).size + 1 in
      subst (λ z. Sub z (texts (names.public_names (member_names (x ∷ xs))))) (sym (one_field ((rules.in_member x.0).from k).0 k ((rules.in_member x.0).from k).1 (member_at xs next)))
      (subst (λ z. Sub (public_fields (p.Then ((rules.in_member x.0).from k).0 k ((rules.in_member x.0).from k).1 p.End) ++ public_fields (member_at xs next)) z) (sym (texts_both (names.in_member x.0).public (names.public_names (member_names xs))))
      (sub_both (x.1.fields k) (member_fields xs next)))

  pub member_labels : (xs : List KM) (k : ℕ) → AreMeanings (labels (names.public_names (member_names xs))) → Distinct (map label_id (public_fields (member_at xs k)))
  member_labels xs k f = sub_distinct (sub_map label_id (member_fields xs k)) (numbers_differ (names.public_names (member_names xs)) f)

  -- ---- objects

  -- what is found at the names of an object, part by part
  pub record ObjectFound (xs : List KM) (scope : Scope) : Type 0 where
    pub values : AreMeanings (together (names.member_values (member_names xs)))
    pub labels_differ : AreMeanings (labels (names.public_names (member_names xs)))
    pub each : AreMeanings (names.each_member (member_names xs) (names.object_scope (member_names xs) scope))

  pub object_found : (xs : List KM) (scope : Scope) → AreMeanings (names.object (member_names xs) scope) → ObjectFound xs scope
  object_found xs scope f = record { values = first_fine a (b ++ (c ++ d)) names_fine; labels_differ = last_fine c d (last_fine b (c ++ d) (last_fine a (b ++ (c ++ d)) names_fine)); each = last_fine (a ++ (b ++ (c ++ d))) e f } where
    a : List Finding
    a = together (names.member_values (member_names xs))

    b : List Finding
    b = together (names.member_types (member_names xs))

    c : List Finding
    c = each_label (names.public_names (member_names xs))

    d : List Finding
    d = labels (names.public_names (member_names xs))

    e : List Finding
    e = names.each_member (member_names xs) (names.object_scope (member_names xs) scope)

    names_fine : AreMeanings (a ++ (b ++ (c ++ d)))
    names_fine = first_fine (a ++ (b ++ (c ++ d))) e f

  -- the fields of an object, as its source asks
  pub object_fine : (s : TypeScope) (xs : List KM) (k : ℕ) (scope : Scope) → AllBelow k s.parameters → AreMeanings (names.object (member_names xs) scope) → AreListsFine (order.list_of (member_founds xs)).lists
      → Each AreWritten (member_writings xs) → AreSource defs slots terms number (with_list s (member_at xs k)) (member_at xs k) × InOrder defs slots terms number false s (member_at xs k) × Distinct (map label_id (public_fields (member_at xs k)))
  object_fine s xs k scope b f l i =
      let found = object_found xs scope f in
      let each = member_each (with_list s (member_at xs k)) xs k (names.object_scope (member_names xs) scope) (below_list k s (member_at xs k) b) found.each l.1 i in
      (each, member_in_order false s xs k found.values l.0 each, member_labels xs k found.labels_differ)
