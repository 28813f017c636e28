-- The fields of an actor.
use Rattle.std.proofs.Common.{◌≡◌, inl, inr, ℕ, ◌+◌, true, false, List, [], ◌∷◌, ◌++◌, Option, Some, None, option_map, refl, sym, arith}
use Rattle.mo_bindings.specs.ExpressionNames as names
use Rattle.mo_name_table.specs.Places.{texts}
use Rattle.mo_names.specs.Order.{field_step}
use Rattle.mo_names.specs.ProgramNames.{in_actor_field, field_values}
use Rattle.mo_names.specs.ProgramNames as program_names
use Rattle.mo_pattern_names.specs.PatternNames.{in_parameters, whole}
use Rattle.mo_scopes.specs.declared.scope.Scope.{Scope}
use Rattle.mo_scopes.specs.Findings.{broken_where, contains, identifier, label, together}
use Rattle.mo_scopes.specs.declared.rule.Rule.TheVariants as rule
use Rattle.mo_scopes.specs.Scopes.{with_values, system_functions}
use Rattle.std.specs.Prelude.{not}
use Rattle.mo_syntax.specs.declared.mark.Mark.TheVariants as m
use Rattle.mo_syntax.specs.declared.program.ActorField.{ActorField}
use Rattle.mo_syntax.specs.declared.program.ActorField.TheVariants as field
use Rattle.mo_syntax.specs.declared.program.Context.{Context}
use Rattle.mo_syntax.specs.declared.program.Context.TheVariants as context
use Rattle.mo_syntax.specs.declared.program.SharedFunction.{SharedFunction}
use Rattle.mo_syntax.specs.declared.program.SharedPrefix.{SharedPrefix}
use Rattle.mo_syntax.specs.declared.program.SharedSort.{SharedSort}
use Rattle.mo_syntax.specs.declared.program.SharedSort.TheVariants as sort
use Rattle.mo_syntax.specs.declared.token.TokenKind.TheVariants as t
use Rattle.mo_syntax.specs.declared.word.Word.TheVariants as w
use Rattle.mo_syntax.specs.ExpressionGrammar.{expression_tokens, declaration_tokens, signature}
use Rattle.mo_syntax.specs.PatternGrammar.{pattern_tokens, parameters_tokens}
use Rattle.mo_syntax.specs.ProgramGrammar.{actor_field_tokens, context_tokens, prefix_tokens, shared_tokens}
use Rattle.mo_syntax.specs.TypeGrammar.{type_tokens}
use Rattle.mo_syntax.specs.Writing.{annotation, marked, optional, parens}
use Rattle.mo_types.specs.declared.node.TypeId.{TypeId}
use Rattle.mo_types.specs.Graph.{Slot}
use Rattle.typing_rules.specs.AbstractExpressions as rules
use Rattle.typing_rules.specs.AbstractPrograms.{in_context, in_prefix, in_field}
use Rattle.typing_rules.specs.AbstractSyntax.{Declaration}
use Rattle.typing_rules.specs.AbstractSyntax as p
use Rattle.typing_rules.specs.AbstractTypes as abstract_types
use Rattle.typing_rules.specs.Definitions.{Definitions}
use Rattle.typing_rules.specs.Gathered as gathered
use Rattle.typing_rules.specs.Spans.{flag, at_led, led}
use Rattle.typing_rules.specs.Terms.{Term}
use Rattle.typing_rules.specs.TypeScopes.{TypeScope}
use Rattle.desugaring.specs.FreeNames.{names_of}
use Rattle.method_laws.specs.Methods.{ContextIsWritten, names_in_context}
use Rattle.program_laws.specs.Programs.{FieldIsSource}
use Rattle.source_laws.specs.Source.{DeclarationIsSource}
use Rattle.kept_names.specs.Plain.{DeclarationIsPlain}
use Rattle.source_facts.specs.Laws.{AreMeanings, AreListsFine}
use Rattle.source_facts.specs.Shown.{AreWritten}
use Rattle.source_facts.proofs.Facts.{Numbered, wide, StepIs}
use Rattle.source_facts.proofs.Findings.{first_fine, last_fine, names_differ}
use Rattle.source_facts.proofs.Layers.{expression_facts, declaration_facts}
use Rattle.source_facts.proofs.Expressions.{parameters_fine}
use Rattle.source_facts.proofs.Patterns.{first_written, last_written, pattern_facts, object_facts}
use Rattle.source_facts.proofs.Sequences.{Sub, Done, sub_all, sub_distinct, AllBelow, below_more}

-- ---- contexts

record ContextFacts (o : Option Context) : Type 0 where
  part : (k : ℕ) → Sub (names_in_context (at_led (in_context o) k)) (texts (program_names.in_context o).names)
  written : (k : ℕ) → AreWritten (optional (option_map context_tokens o)) → ContextIsWritten (at_led (in_context o) k)

context_facts : (o : Option Context) → ContextFacts o
context_facts None = record { part = λ k. Done; written = λ k h. tt }
context_facts (Some (context.Parenthesized q)) =
    record { part = λ k. (pattern_facts q).part (k + 1); written = λ k h. (pattern_facts q).written (k + 1) (first_written (pattern_tokens q) (t.Mark m.ParenClose ∷ []) h.1) }
context_facts (Some (context.Object fs last)) = record { part = λ k. (object_facts fs last).part k; written = λ k h. (object_facts fs last).written k h }

-- with the words before it
record PrefixFacts (o : Option SharedPrefix) : Type 0 where
  part : (k : ℕ) → Sub (names_in_context (at_led (in_prefix o).context k)) (texts (program_names.in_prefix o).names)
  written : (k : ℕ) → AreWritten (optional (option_map prefix_tokens o)) → ContextIsWritten (at_led (in_prefix o).context k)

sorted : (s : SharedSort) (c : Option Context) → PrefixFacts (Some (record { sort = s; context = c }))
sorted sort.Shared c = record { part = λ k. (context_facts c).part k; written = λ k h. (context_facts c).written k (last_written (shared_tokens sort.Shared) (optional (option_map context_tokens c)) h) }
sorted sort.SharedQuery c = record { part = λ k. (context_facts c).part k; written = λ k h. (context_facts c).written k (last_written (shared_tokens sort.SharedQuery) (optional (option_map context_tokens c)) h) }
sorted sort.Query c = record { part = λ k. (context_facts c).part k; written = λ k h. (context_facts c).written k (last_written (shared_tokens sort.Query) (optional (option_map context_tokens c)) h) }

prefix_facts : (o : Option SharedPrefix) → PrefixFacts o
prefix_facts None = record { part = λ k. Done; written = λ k h. tt }
prefix_facts (Some x) = sorted x.sort x.context

-- ---- fields

module _ (defs : Definitions) (slots : List Slot) (terms : List Term) (number : Term → TypeId) where
  pub record FieldFacts (x : ActorField) : Type 0 where
    pub step : (k : ℕ) → DeclarationIsPlain ((in_field x).from k).1 → StepIs (field_step x).step ((in_field x).from k).1
    pub values : (k : ℕ) → Sub (names_of ((in_field x).from k).1) (texts (field_values x))
    pub numbered : (s : TypeScope) (k : ℕ) → Numbered k (k + (in_field x).size) (gathered.in_declaration s ((in_field x).from k).1)
    pub fine : (s : TypeScope) (k : ℕ) (scope : Scope) → AllBelow k s.parameters → AreMeanings (in_actor_field scope x) → AreListsFine (field_step x).lists → AreWritten (actor_field_tokens x)
        → FieldIsSource defs slots terms number s ((in_field x).from k).1

  field_source : (s : TypeScope) (d : Declaration ℕ) → DeclarationIsSource defs slots terms number s d → FieldIsSource defs slots terms number s d
  field_source s (p.Let q a) h = h
  field_source s (p.Var false x u a) h = h
  field_source s (p.Var true x u a) h = absurd h
  field_source s (p.Func x g body) h = h
  field_source s (p.Method query context x g body) h = absurd h
  field_source s (p.System x body) h = absurd h
  field_source s (p.TypeAlias x parameters u) h = h
  field_source s (p.Class x g fields) h = h
  field_source s (p.NamedObject x fields) h = h
  field_source s (p.Evaluate a) h = h

  public_facts : (x : SharedFunction) → FieldFacts (field.Public x)
  public_facts x = record {
    step = λ k h. record { defines = refl; names = refl; function = λ f e. let none : None ≡ Some f = e in cc; evaluated = λ e. inr refl; occurs = refl };
    values = λ k. sub_all (x.name.bytes ∷ []);
    numbered = λ s k. wide (body_at k) (body_at k + (rules.in_expression x.body).size) k (k + (in_field (field.Public x)).size) (gathered.in_expression s ((rules.in_expression x.body).from (body_at k))) (omega arith) (omega arith)
        ((expression_facts defs slots terms number x.body).numbered s (body_at k));
    fine = λ s k scope b f l v.
        let c = program_names.in_prefix x.prefix in
        let inner = with_values c.names scope in
        let outer = names.header_scope None inner in let under = names.body_scope None x.parameters inner in
        let g = whole (in_parameters x.parameters) outer in let r = names.annotation (Some x.result) outer in
        let body = (names.in_expression x.body).finds under in
        let function = last_fine (label x.name) ((g ++ r) ++ body) (last_fine (whole c scope) (label x.name ++ ((g ++ r) ++ body)) f) in
        let context = first_fine (whole c scope) (label x.name ++ ((g ++ r) ++ body)) f in
        let before = optional (option_map prefix_tokens x.prefix) in
        let head = signature (parameters_tokens x.parameters) (Some (type_tokens x.result)) x.equal_sign in
        let rest = last_written before ((t.Reserved w.Func ∷ t.Identifier x.name ∷ head) ++ expression_tokens x.body) v.1 in (
          record {
            context_written = (prefix_facts x.prefix).written (k + 1 + (in_prefix x.prefix).words) (first_written before ((t.Reserved w.Func ∷ t.Identifier x.name ∷ head) ++ expression_tokens x.body) v.1);
            parameters = parameters_fine defs slots terms number x.parameters (sign_at k + 0) outer (first_fine g r (first_fine (g ++ r) body function))
                (first_written (parameters_tokens x.parameters) (annotation (Some (type_tokens x.result)) ++ marked x.equal_sign (t.Mark m.EqualSign)) (first_written head (expression_tokens x.body) rest.1.1));
            context_distinct = sub_distinct ((prefix_facts x.prefix).part (k + 1 + (in_prefix x.prefix).words)) (names_differ c.names (last_fine (c.finds scope) (together c.names) context));
          },
          (expression_facts defs slots terms number x.body).fine s (body_at k) under (below_more k (body_at k) s.parameters (omega arith) b) (last_fine (g ++ r) body function) l (last_written head (expression_tokens x.body) rest.1.1),
        );
  } where
    sign_at : ℕ → ℕ
    sign_at k = k + 1 + (in_prefix x.prefix).words + led 0 (in_prefix x.prefix).context + 2

    body_at : ℕ → ℕ
    body_at k = k + 1 + (in_prefix x.prefix).words + led 0 (in_prefix x.prefix).context + 2 + (rules.signature_span None x.parameters (Some x.result) x.equal_sign).size

  pub field_facts : (x : ActorField) → FieldFacts x
  field_facts (field.Public x) = public_facts x
  field_facts (field.System y equal_sign a) = record {
    step = λ k h. record { defines = refl; names = refl; function = λ f e. let none : None ≡ Some f = e in cc; evaluated = λ e. inr refl; occurs = refl };
    values = λ k. Done;
    numbered = λ s k. wide (k + 5 + flag equal_sign) (k + 5 + flag equal_sign + (rules.in_expression a).size) k (k + (5 + flag equal_sign + (rules.in_expression a).size)) (gathered.in_expression s ((rules.in_expression a).from (k + 5 + flag equal_sign))) (omega arith) (omega arith)
        ((expression_facts defs slots terms number a).numbered s (k + 5 + flag equal_sign));
    fine = λ s k scope b f l v.
        let c = broken_where (not (contains system_functions y.bytes)) rule.Unknown y.place in let d = (names.in_expression a).finds scope in
        let z = signature (parens []) None equal_sign in
        (expression_facts defs slots terms number a).fine s (k + 5 + flag equal_sign) scope (below_more k (k + 5 + flag equal_sign) s.parameters (omega arith) b) (last_fine c d (last_fine (identifier y) (c ++ d) f)) l
        (last_written z (expression_tokens a) v.1.1.1);
  }
  field_facts (field.Declared private x) = record {
    step = λ k h. (declaration_facts defs slots terms number x).step (k + flag private) h;
    values = λ k. (declaration_facts defs slots terms number x).values (k + flag private);
    numbered = λ s k. wide (k + flag private) (k + flag private + (rules.in_declaration x).size) k (k + (flag private + (rules.in_declaration x).size)) (gathered.in_declaration s ((rules.in_declaration x).from (k + flag private)))
        (omega arith) (omega arith) ((declaration_facts defs slots terms number x).numbered s (k + flag private));
    fine = λ s k scope b f l v.
        field_source s ((rules.in_declaration x).from (k + flag private))
        ((declaration_facts defs slots terms number x).fine s (k + flag private) scope (below_more k (k + flag private) s.parameters (omega arith) b) f l (last_written (marked private (t.Reserved w.Private)) (declaration_tokens x) v));
  }
  field_facts (field.Stable private y u a) = record {
    step = λ k h. record { defines = refl; names = refl; function = λ f e. let none : None ≡ Some f = e in cc; evaluated = λ e. inl refl; occurs = sym ((expression_facts defs slots terms number a).same (i k) h) };
    values = λ k. sub_all (y.bytes ∷ []);
    numbered = λ s k. wide (i k) (i k + (rules.in_expression a).size) k (k + (flag private + 4 + led 1 (abstract_types.annotation u) + (rules.in_expression a).size)) (gathered.in_expression s ((rules.in_expression a).from (i k))) (omega arith) (omega arith)
        ((expression_facts defs slots terms number a).numbered s (i k));
    fine = λ s k scope b f l v.
        let c = names.annotation u scope in let d = (names.in_expression a).finds scope in
        let z = annotation (option_map type_tokens u) in
        let head = t.Reserved w.Stable ∷ t.Reserved w.Var ∷ t.Identifier y ∷ z in
        (expression_facts defs slots terms number a).fine s (i k) scope (below_more k (i k) s.parameters (omega arith) b) (last_fine c d (last_fine (label y) (c ++ d) f)) l
        (last_written head (t.Mark m.EqualSign ∷ expression_tokens a) (last_written (marked private (t.Reserved w.Private)) (head ++ t.Mark m.EqualSign ∷ expression_tokens a) v)).1;
  } where
    i : ℕ → ℕ
    i k = k + flag private + 4 + led 1 (abstract_types.annotation u)
