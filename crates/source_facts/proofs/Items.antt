-- Several expressions, cases or fields, one after the other.
use Rattle.std.proofs.Common.{◌≡◌, ℕ, ◌+◌, List, [], ◌∷◌, map, refl, ap, ◌∙◌, arith}
use Rattle.std.specs.List.{flat_map}
use Rattle.mo_syntax.specs.declared.expressions.Case as tree_case
use Rattle.mo_syntax.specs.declared.expressions.ExpressionField as tree_field
use Rattle.mo_syntax.specs.Parts.{Each}
use Rattle.mo_syntax.specs.ExpressionGrammar as grammar
use Rattle.mo_syntax.specs.Writing.{Writing}
use Rattle.mo_syntax.proofs.Known.{Known}
use Rattle.mo_name_table.specs.Places.{texts}
use Rattle.mo_pattern_names.specs.TypeNames.{Entry}
use Rattle.mo_bindings.specs.ExpressionNames.{Whole}
use Rattle.mo_bindings.specs.ExpressionNames as names
use Rattle.mo_names.specs.Order.{Found}
use Rattle.mo_names.specs.Order as order
use Rattle.mo_order.specs.Parts as parts
use Rattle.mo_scopes.specs.declared.scope.Scope.{Scope}
use Rattle.mo_scopes.specs.Findings.{InScope, label}
use Rattle.mo_types.specs.declared.node.TypeId.{TypeId}
use Rattle.mo_types.specs.Graph.{Slot}
use Rattle.typing_rules.specs.AbstractSyntax.{Cases, ObjectFields}
use Rattle.typing_rules.specs.AbstractSyntax as p
use Rattle.typing_rules.specs.AbstractExpressions.{ExpressionSpan, CaseSpan, ObjectFieldSpan, items_at, cases, object_fields}
use Rattle.typing_rules.specs.AbstractExpressions as rules
use Rattle.typing_rules.specs.Definitions.{Definitions}
use Rattle.typing_rules.specs.Gathered as gathered
use Rattle.typing_rules.specs.Spans.{listed_from, listed_size}
use Rattle.typing_rules.specs.Terms.{Term}
use Rattle.typing_rules.specs.TypeScopes.{TypeScope}
use Rattle.desugaring.specs.FreeNames.{occurring, in_each, in_cases, in_fields}
use Rattle.expression_laws.specs.Laws.{labels_in}
use Rattle.source_laws.specs.Source.{EachIsSource, EachCaseIsSource, EachFieldIsSource}
use Rattle.kept_names.specs.Plain.{EachIsPlain, CasesArePlain, FieldsArePlain}
use Rattle.source_facts.specs.Shown.{AreWritten}
use Rattle.source_facts.proofs.Facts.{Numbered, wide, numbered_on, numbered_two, none_numbered, both_same, CaseFacts, FieldFacts}
use Rattle.source_facts.specs.Laws.{AreMeanings, IsListFine, AreListsFine}
use Rattle.source_facts.proofs.Findings.{first_fine, last_fine}
use Rattle.source_facts.proofs.Sequences.{each_first, each_last, AllBelow, below_more}
use Rattle.source_facts.proofs.Forms.{KE}

module _ (defs : Definitions) (slots : List Slot) (terms : List Term) (number : Term → TypeId) where
  abbrev pub K : Type 0
  K = KE defs slots terms number

  abbrev pub KC : Type 0
  KC = Known (λ (x : tree_case.Case). CaseFacts defs slots terms number (rules.in_case x) (names.in_case x) (parts.found_case x) (grammar.case_tokens x))

  abbrev pub KF : Type 0
  KF = Known (λ (x : tree_field.ExpressionField). FieldFacts defs slots terms number (rules.in_object_field x) (names.in_field x) (parts.found_field x) (grammar.expression_field_tokens x))

  -- ---- expressions

  abbrev pub item_spans : List K → List ExpressionSpan
  item_spans xs = map rules.in_expression (map (λ z. z.0) xs)

  abbrev pub item_wholes : List K → List Whole
  item_wholes xs = map names.in_expression (map (λ z. z.0) xs)

  abbrev pub item_founds : List K → List Found
  item_founds xs = map order.found (map (λ z. z.0) xs)

  abbrev pub item_writings : List K → List Writing
  item_writings xs = map grammar.expression_tokens (map (λ z. z.0) xs)

  pub items_same : (xs : List K) (k : ℕ) → EachIsPlain (items_at (item_spans xs) k) → in_each (items_at (item_spans xs) k) ≡ texts (order.all (item_founds xs)).free
  items_same [] k h = refl
  items_same (x ∷ xs) k h =
      both_same (occurring ((rules.in_expression x.0).from k)) (in_each (items_at (item_spans xs) (k + (rules.in_expression x.0).size + 1))) (order.found x.0).free (order.all (item_founds xs)).free
      (x.1.same k h.0) (items_same xs (k + (rules.in_expression x.0).size + 1) h.1)

  pub items_numbered : (s : TypeScope) (xs : List K) (k : ℕ) → Numbered k (k + listed_size (item_spans xs)) (gathered.in_each s (items_at (item_spans xs) k))
  items_numbered s [] k = none_numbered k (k + 0) (omega arith)
  items_numbered s (x ∷ []) k =
      numbered_on k (k + (rules.in_expression x.0).size) (k + (rules.in_expression x.0).size) (gathered.in_expression s ((rules.in_expression x.0).from k)) gathered.nothing (x.1.numbered s k)
      (none_numbered (k + (rules.in_expression x.0).size) (k + (rules.in_expression x.0).size) (omega arith))
  items_numbered s (x ∷ y ∷ xs) k =
      let next = k + (rules.in_expression x.0).size + 1 in
      numbered_two k k (k + (rules.in_expression x.0).size) next (next + listed_size (item_spans (y ∷ xs))) (k + listed_size (item_spans (x ∷ y ∷ xs)))
      (gathered.in_expression s ((rules.in_expression x.0).from k)) (gathered.in_each s (items_at (item_spans (y ∷ xs)) next)) (omega arith) (omega arith) (omega arith)
      (x.1.numbered s k) (items_numbered s (y ∷ xs) next)

  pub items_fine : (s : TypeScope) (xs : List K) (k : ℕ) (scope : Scope) → AllBelow k s.parameters → AreMeanings (names.each_whole (item_wholes xs) scope) → AreListsFine (order.all (item_founds xs)).lists
      → Each AreWritten (item_writings xs) → EachIsSource defs slots terms number s (items_at (item_spans xs) k)
  items_fine s [] k scope b f l i = tt
  items_fine s (x ∷ xs) k scope b f l i =
      let next = k + (rules.in_expression x.0).size + 1 in (
        x.1.fine s k scope b (first_fine ((names.in_expression x.0).finds scope) (names.each_whole (item_wholes xs) scope) f) (each_first IsListFine (order.found x.0).lists (order.all (item_founds xs)).lists l) i.0,
        items_fine s xs next scope (below_more k next s.parameters (omega arith) b) (last_fine ((names.in_expression x.0).finds scope) (names.each_whole (item_wholes xs) scope) f)
            (each_last IsListFine (order.found x.0).lists (order.all (item_founds xs)).lists l) i.1,
      )

  -- ---- cases

  abbrev pub case_spans : List KC → List CaseSpan
  case_spans xs = map rules.in_case (map (λ z. z.0) xs)

  abbrev pub case_scopes : List KC → List InScope
  case_scopes xs = map names.in_case (map (λ z. z.0) xs)

  abbrev pub case_founds : List KC → List Found
  case_founds xs = map parts.found_case (map (λ z. z.0) xs)

  abbrev pub case_writings : List KC → List Writing
  case_writings xs = map grammar.case_tokens (map (λ z. z.0) xs)

  abbrev cases_at : List KC → ℕ → Cases ℕ
  cases_at xs k = cases (listed_from (case_spans xs) k)

  pub cases_same : (xs : List KC) (k : ℕ) → CasesArePlain (cases_at xs k) → in_cases (cases_at xs k) ≡ texts (order.all (case_founds xs)).free
  cases_same [] k h = refl
  cases_same (x ∷ xs) k h = x.1.same k (cases_at xs (k + (rules.in_case x.0).size + 1)) (order.all (case_founds xs)).free h (λ i. cases_same xs (k + (rules.in_case x.0).size + 1) i)

  pub cases_numbered : (s : TypeScope) (xs : List KC) (k : ℕ) → Numbered k (k + listed_size (case_spans xs)) (gathered.in_cases s (cases_at xs k))
  cases_numbered s [] k = none_numbered k (k + 0) (omega arith)
  cases_numbered s (x ∷ []) k = x.1.numbered s k (k + (rules.in_case x.0).size) p.NoCases (none_numbered (k + (rules.in_case x.0).size) (k + (rules.in_case x.0).size) (omega arith))
  cases_numbered s (x ∷ y ∷ xs) k =
      let next = k + (rules.in_case x.0).size + 1 in
      x.1.numbered s k (k + listed_size (case_spans (x ∷ y ∷ xs))) (cases_at (y ∷ xs) next)
      (wide next (next + listed_size (case_spans (y ∷ xs))) (k + (rules.in_case x.0).size) (k + listed_size (case_spans (x ∷ y ∷ xs))) (gathered.in_cases s (cases_at (y ∷ xs) next)) (omega arith) (omega arith)
      (cases_numbered s (y ∷ xs) next))

  pub cases_fine : (s : TypeScope) (xs : List KC) (k : ℕ) (scope : Scope) → AllBelow k s.parameters → AreMeanings (flat_map (λ part. part scope) (case_scopes xs)) → AreListsFine (order.all (case_founds xs)).lists
      → Each AreWritten (case_writings xs) → EachCaseIsSource defs slots terms number s (cases_at xs k)
  cases_fine s [] k scope b f l i = tt
  cases_fine s (x ∷ xs) k scope b f l i =
      let next = k + (rules.in_case x.0).size + 1 in
      x.1.fine s k (cases_at xs next) scope b (first_fine (names.in_case x.0 scope) (flat_map (λ part. part scope) (case_scopes xs)) f) (each_first IsListFine (parts.found_case x.0).lists (order.all (case_founds xs)).lists l) i.0
      (cases_fine s xs next scope (below_more k next s.parameters (omega arith) b) (last_fine (names.in_case x.0 scope) (flat_map (λ part. part scope) (case_scopes xs)) f)
      (each_last IsListFine (parts.found_case x.0).lists (order.all (case_founds xs)).lists l) i.1)

  -- ---- fields

  abbrev pub field_spans : List KF → List ObjectFieldSpan
  field_spans xs = map rules.in_object_field (map (λ z. z.0) xs)

  abbrev pub field_entries : List KF → List Entry
  field_entries xs = map names.in_field (map (λ z. z.0) xs)

  abbrev pub field_founds : List KF → List Found
  field_founds xs = map parts.found_field (map (λ z. z.0) xs)

  abbrev pub field_writings : List KF → List Writing
  field_writings xs = map grammar.expression_field_tokens (map (λ z. z.0) xs)

  abbrev fields_at : List KF → ℕ → ObjectFields ℕ
  fields_at xs k = object_fields (listed_from (field_spans xs) k)

  pub fields_same : (xs : List KF) (k : ℕ) → FieldsArePlain (fields_at xs k) → in_fields (fields_at xs k) ≡ texts (order.all (field_founds xs)).free
  fields_same [] k h = refl
  fields_same (x ∷ xs) k h = x.1.same k (fields_at xs (k + (rules.in_object_field x.0).size + 1)) (order.all (field_founds xs)).free h (λ i. fields_same xs (k + (rules.in_object_field x.0).size + 1) i)

  pub fields_labels : (xs : List KF) (k : ℕ) → labels_in (fields_at xs k) ≡ texts (map (λ e. e.name) (field_entries xs))
  fields_labels [] k = refl
  fields_labels (x ∷ xs) k =
      x.1.label k (fields_at xs (k + (rules.in_object_field x.0).size + 1)) ∙ ap (λ z. (names.in_field x.0).name.bytes ∷ z) (fields_labels xs (k + (rules.in_object_field x.0).size + 1))

  pub fields_numbered : (s : TypeScope) (xs : List KF) (k : ℕ) → Numbered k (k + listed_size (field_spans xs)) (gathered.in_fields s (fields_at xs k))
  fields_numbered s [] k = none_numbered k (k + 0) (omega arith)
  fields_numbered s (x ∷ []) k = x.1.numbered s k (k + (rules.in_object_field x.0).size) p.NoFields (none_numbered (k + (rules.in_object_field x.0).size) (k + (rules.in_object_field x.0).size) (omega arith))
  fields_numbered s (x ∷ y ∷ xs) k =
      let next = k + (rules.in_object_field x.0).size + 1 in
      x.1.numbered s k (k + listed_size (field_spans (x ∷ y ∷ xs))) (fields_at (y ∷ xs) next)
      (wide next (next + listed_size (field_spans (y ∷ xs))) (k + (rules.in_object_field x.0).size) (k + listed_size (field_spans (x ∷ y ∷ xs))) (gathered.in_fields s (fields_at (y ∷ xs) next)) (omega arith) (omega arith)
      (fields_numbered s (y ∷ xs) next))

  pub fields_fine : (s : TypeScope) (xs : List KF) (k : ℕ) (scope : Scope) → AllBelow k s.parameters → AreMeanings (flat_map (λ e. e.finds scope) (field_entries xs)) → AreListsFine (order.all (field_founds xs)).lists
      → Each AreWritten (field_writings xs) → EachFieldIsSource defs slots terms number s (fields_at xs k)
  fields_fine s [] k scope b f l i = tt
  fields_fine s (x ∷ xs) k scope b f l i =
      let next = k + (rules.in_object_field x.0).size + 1 in
      let more = flat_map (λ e. e.finds scope) (field_entries xs) in
      x.1.fine s k (fields_at xs next) scope b (first_fine ((names.in_field x.0).finds scope) more f) (each_first IsListFine (parts.found_field x.0).lists (order.all (field_founds xs)).lists l) i.0
      (fields_fine s xs next scope (below_more k next s.parameters (omega arith) b) (last_fine ((names.in_field x.0).finds scope) more f)
      (each_last IsListFine (parts.found_field x.0).lists (order.all (field_founds xs)).lists l) i.1)
