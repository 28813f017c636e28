-- Whole programs: what the front end shows of the fields of the actor.
use Rattle.std.proofs.Common.{◌≡◌, ℕ, ◌+◌, true, false, List, [], ◌∷◌, ◌++◌, map, Option, Some, None, option_map, refl, sym, ap, subst, ◌∙◌}
use Rattle.std.specs.Prelude.{not}
use Rattle.std.specs.List.{flat_map}
use Rattle.mo_bindings.specs.ExpressionNames as N
use Rattle.mo_names.specs.ProgramNames.{in_actor_field, field_values, field_types, field_methods, field_systems, field_stables, actor_names, name_of, import_names, program_scope, in_import, in_actor, findings}
use Rattle.mo_names.specs.ProgramNames as names
use Rattle.mo_pattern_names.specs.PatternNames as patterns
use Rattle.mo_scopes.specs.declared.rule.Rule.TheVariants as rule
use Rattle.mo_scopes.specs.declared.scope.Scope.{Scope}
use Rattle.mo_scopes.specs.Findings.{Names, identifier, label, together, labels, broken_where, contains, each_identifier}
use Rattle.mo_scopes.specs.Scopes.{system_functions, with_values}
use Rattle.mo_syntax.specs.declared.mark.Mark.TheVariants as m
use Rattle.mo_syntax.specs.declared.patterns.Pattern.TheVariants as e
use Rattle.mo_syntax.specs.declared.program.ActorField.{ActorField}
use Rattle.mo_syntax.specs.declared.program.ActorField.TheVariants as field
use Rattle.mo_syntax.specs.declared.program.Context.{Context}
use Rattle.mo_syntax.specs.declared.program.Context.TheVariants as context
use Rattle.mo_syntax.specs.declared.program.SharedPrefix.{SharedPrefix}
use Rattle.mo_syntax.specs.declared.program.SharedSort.{SharedSort}
use Rattle.mo_syntax.specs.declared.program.SharedSort.TheVariants as sort
use Rattle.mo_syntax.specs.declared.program.Tree.{Tree}
use Rattle.mo_syntax.specs.declared.token.TokenKind.TheVariants as token
use Rattle.mo_syntax.specs.declared.word.Word.TheVariants as w
use Rattle.mo_syntax.specs.ExpressionGrammar.{signature, expression_tokens, declaration_tokens}
use Rattle.mo_syntax.specs.Parts.{Each}
use Rattle.mo_syntax.specs.PatternGrammar.{pattern_tokens, parameters_tokens}
use Rattle.mo_syntax.specs.ProgramGrammar.{import_tokens, context_tokens, shared_tokens, prefix_tokens, actor_field_tokens, name_tokens, actor_tokens, tree_tokens}
use Rattle.mo_syntax.specs.TypeGrammar.{type_tokens}
use Rattle.mo_syntax.specs.Writing.{marked, optional, separated, semicolons, annotation, parens, braces}
use Rattle.mo_syntax.proofs.PatternEquations as W
use Rattle.mo_types.specs.Sub.{Each as EachOf}
use Rattle.mo_types.specs.Values.{is_method_name}
use Rattle.typing_rules.specs.AbstractSyntax.{Bytes}
use Rattle.typing_rules.specs.AbstractSyntax as p
use Rattle.typing_rules.specs.AbstractExpressions.{members}
use Rattle.typing_rules.specs.AbstractPrograms.{abstract, in_context, in_sort, in_prefix, in_field}
use Rattle.typing_rules.specs.Spans.{at_led}
use Rattle.typing_rules.proofs.PatternSpans as S
use Rattle.proper_laws.specs.Source.{DifferAsLabels, IsPatternSource}
use Rattle.meeting_laws.specs.Source.{IsContextSource, AreSource, DeclarationIsSource, method_labels}
use Rattle.meeting_laws.proofs.Programs.{program_lawful}
use Rattle.type_sources.specs.Shown.{IsNoBreach, NothingBroken, IsNameToken, AreNameTokens}
use Rattle.type_sources.proofs.Labels.{texts, labels_differ}
use Rattle.type_sources.proofs.PatternNames as F
use Rattle.type_sources.proofs.Patterns.{patterns_sources}
use Rattle.type_sources.proofs.Splitting.{each_first, each_last, each_flat, each_separated}
use Rattle.expression_sources.specs.Laws.{ProgramsAreSources, TypesOfTreesAreLawful}
use Rattle.expression_sources.proofs.Expressions.{declaration_fine, expression_fine}
use Rattle.expression_sources.proofs.Parts.{annotation_source, signature_source}

-- ---- contexts

context_of : (c : Option Context) (s : Scope) → NothingBroken ((names.in_context c).finds s) → AreNameTokens (optional (option_map context_tokens c)) → (k : ℕ) → IsContextSource (at_led (in_context c) k)
context_of None s n t k = tt
context_of (Some (context.Parenthesized q)) s n t k = patterns_sources q s n (each_first IsNameToken (pattern_tokens q) (token.Mark m.ParenClose ∷ []) t.1) (k + 1)
context_of (Some (context.Object fs last)) s n t k =
    subst (λ z. IsPatternSource (z.from k)) (S.seen_Object fs last)
    (patterns_sources (e.Object fs last) s (subst (λ z. NothingBroken (z.finds s)) (sym (F.found_Object fs last)) n) (subst AreNameTokens (sym (W.tokens_Object fs last)) t) k)

sort_context : (o : SharedSort) (c : Option Context) → in_context c ≡ (in_sort o c).context
sort_context sort.Shared c = refl
sort_context sort.SharedQuery c = refl
sort_context sort.Query c = refl

prefix_source : (o : Option SharedPrefix) (s : Scope) → NothingBroken ((names.in_prefix o).finds s) → AreNameTokens (optional (option_map prefix_tokens o)) → (k : ℕ) → IsContextSource (at_led (in_prefix o).context k)
prefix_source None s n t k = tt
prefix_source (Some x) s n t k =
    subst (λ z. IsContextSource (at_led z k)) (sort_context x.sort x.context)
    (context_of x.context s n (each_last IsNameToken (shared_tokens x.sort) (optional (option_map context_tokens x.context)) t) k)

-- ---- fields

field_source : (x : ActorField) (s : Scope) → NothingBroken (in_actor_field s x) → AreNameTokens (actor_field_tokens x) → (k : ℕ) → DeclarationIsSource ((in_field x).from k).1
field_source (field.Public x) s n t k =
    let inner = with_values (names.in_prefix x.prefix).names s in
    let u = Some x.result in
    let header = N.header None x.parameters u (N.header_scope None inner) in
    let body = (N.in_expression x.body).finds (N.body_scope None x.parameters inner) in
    let whole = each_first IsNoBreach (patterns.whole (names.in_prefix x.prefix) s) (label x.name ++ (header ++ body)) n in
    let behind = each_last IsNoBreach (label x.name) (header ++ body) (each_last IsNoBreach (patterns.whole (names.in_prefix x.prefix) s) (label x.name ++ (header ++ body)) n) in
    let signed = signature (parameters_tokens x.parameters) (option_map type_tokens u) x.equal_sign in
    let prefix = optional (option_map prefix_tokens x.prefix) in
    let function = token.Reserved w.Func ∷ token.Identifier x.name ∷ signed ++ expression_tokens x.body in
    let tokens = (each_last IsNameToken prefix function t.1).1.1 in (
      prefix_source x.prefix s (each_first IsNoBreach ((names.in_prefix x.prefix).finds s) (together (names.in_prefix x.prefix).names) whole) (each_first IsNameToken prefix function t.1) _,
      signature_source None x.parameters u x.equal_sign (N.header_scope None inner) (each_first IsNoBreach header body behind) tt (each_first IsNameToken signed (expression_tokens x.body) tokens) _,
      (expression_fine x.body).0 (N.body_scope None x.parameters inner) (each_last IsNoBreach header body behind) (each_last IsNameToken signed (expression_tokens x.body) tokens) _,
    )
field_source (field.System x equal body) s n t k =
    let broken = broken_where (not (contains system_functions x.bytes)) rule.Unknown x.place in
    let finds = (N.in_expression body).finds s in
    let signed = signature (parens []) None equal in
    (expression_fine body).0 s (each_last IsNoBreach broken finds (each_last IsNoBreach (identifier x) (broken ++ finds) n)) (each_last IsNameToken signed (expression_tokens body) t.1.1.1) _
field_source (field.Declared private x) s n t k = (declaration_fine x).0 s n (each_last IsNameToken (marked private (token.Reserved w.Private)) (declaration_tokens x) t) _
field_source (field.Stable private x u a) s n t k =
    let finds = (N.in_expression a).finds s in
    let behind = each_last IsNoBreach (label x) (N.annotation u s ++ finds) n in
    let typed = annotation (option_map type_tokens u) in
    let value = token.Mark m.EqualSign ∷ expression_tokens a in
    let tokens = (each_last IsNameToken (marked private (token.Reserved w.Private)) (token.Reserved w.Stable ∷ token.Reserved w.Var ∷ token.Identifier x ∷ typed ++ value) t).1.1.1 in (
      annotation_source u s (each_first IsNoBreach (N.annotation u s) finds behind) (each_first IsNameToken typed value tokens) _,
      (expression_fine a).0 s (each_last IsNoBreach (N.annotation u s) finds behind) (each_last IsNameToken typed value tokens).1 _,
    )

fields_source : (xs : List ActorField) (s : Scope) → Each (λ x. NothingBroken (in_actor_field s x)) xs → Each (λ x. AreNameTokens (actor_field_tokens x)) xs → (k : ℕ) → AreSource (members (map in_field xs) k)
fields_source [] s n t k = tt
fields_source (x ∷ xs) s n t k = (field_source x s n.0 t.0 k, fields_source xs s n.1 t.1 (k + (in_field x).size + 1))

-- ---- methods

field_method : (x : ActorField) (k n : ℕ) (rest : p.Declarations ℕ) → method_labels (p.Then ((in_field x).from k).0 n ((in_field x).from k).1 rest) ≡ texts (field_methods x) ++ method_labels rest
field_method (field.Public x) k n rest = refl
field_method (field.System x equal body) k n rest = refl
field_method (field.Declared private x) k n rest = (declaration_fine x).2 _ false n rest
field_method (field.Stable private x u a) k n rest = refl

texts_both : (xs ys : Names) → texts xs ++ texts ys ≡ texts (xs ++ ys)
texts_both [] ys = refl
texts_both (x ∷ xs) ys = ap (λ z. x.bytes ∷ z) (texts_both xs ys)

fields_methods : (xs : List ActorField) (k : ℕ) → method_labels (members (map in_field xs) k) ≡ texts (flat_map field_methods xs)
fields_methods [] k = refl
fields_methods (x ∷ xs) k =
    field_method x k k (members (map in_field xs) (k + (in_field x).size + 1))
    ∙ (ap (λ z. texts (field_methods x) ++ z) (fields_methods xs (k + (in_field x).size + 1)) ∙ texts_both (field_methods x) (flat_map field_methods xs))

method_name : (x : ActorField) → AreNameTokens (actor_field_tokens x) → EachOf (λ l. is_method_name l ≡ true) (texts (field_methods x))
method_name (field.Public x) t =
    let signed = signature (parameters_tokens x.parameters) (option_map type_tokens (Some x.result)) x.equal_sign in
    ((each_last IsNameToken (optional (option_map prefix_tokens x.prefix)) (token.Reserved w.Func ∷ token.Identifier x.name ∷ signed ++ expression_tokens x.body) t.1).1.0, tt)
method_name (field.System x equal body) t = tt
method_name (field.Declared private x) t = tt
method_name (field.Stable private x u a) t = tt

each_texts : (P : Bytes → Type 0) (xs ys : Names) → EachOf P (texts xs) → EachOf P (texts ys) → EachOf P (texts (xs ++ ys))
each_texts P [] ys h k = k
each_texts P (x ∷ xs) ys h k = (h.0, each_texts P xs ys h.1 k)

method_names : (xs : List ActorField) → Each (λ x. AreNameTokens (actor_field_tokens x)) xs → EachOf (λ l. is_method_name l ≡ true) (texts (flat_map field_methods xs))
method_names [] t = tt
method_names (x ∷ xs) t = each_texts (λ l. is_method_name l ≡ true) (field_methods x) (flat_map field_methods xs) (method_name x t.0) (method_names xs t.1)

-- ---- programs

module _ (tree : Tree) (n : NothingBroken (findings tree)) (t : AreNameTokens (tree_tokens tree)) where
  abbrev fields : List ActorField
  fields = tree.actor.fields

  abbrev scope : Scope
  scope = program_scope tree.imports tree.actor

  in_fields : NothingBroken (actor_names fields ++ flat_map (in_actor_field scope) fields)
  unfolding in_actor
  in_fields =
      let actor = in_actor tree.imports tree.actor in
      let own = each_identifier (name_of tree.actor.name) in
      let clear = together (import_names tree.imports ++ name_of tree.actor.name) in
      each_last IsNoBreach own actor (each_last IsNoBreach clear (own ++ actor) (each_last IsNoBreach (flat_map in_import tree.imports) (clear ++ (own ++ actor)) n))

  field_tokens : Each (λ x. AreNameTokens (actor_field_tokens x)) fields
  unfolding tree_tokens
  field_tokens =
      let listed = semicolons (map actor_field_tokens fields) tree.actor.semicolon in
      let equal = marked tree.actor.equal_sign (token.Mark m.EqualSign) in
      let whole = actor_tokens tree.actor in
      let last = marked tree.semicolon (token.Mark m.Semicolon) in
      let actor = each_first IsNameToken whole last (each_last IsNameToken (flat_map import_tokens tree.imports) (whole ++ last) t) in
      let inner = each_last IsNameToken equal (braces listed) (each_last IsNameToken (name_tokens tree.actor.name) (equal ++ braces listed) actor.1) in
      each_separated IsNameToken actor_field_tokens (token.Mark m.Semicolon) fields
      (each_first IsNameToken (separated (token.Mark m.Semicolon) (map actor_field_tokens fields)) (marked tree.actor.semicolon (token.Mark m.Semicolon))
      (each_first IsNameToken listed (token.Mark m.BraceClose ∷ []) inner.1))

  method_clear : NothingBroken (labels (flat_map field_methods fields))
  method_clear =
      let values = together (flat_map field_values fields) in
      let kinds = together (flat_map field_types fields) in
      let systems = together (flat_map field_systems fields) in
      let methods = labels (flat_map field_methods fields) in
      let stables = labels (flat_map field_stables fields) in
      let names_ = each_first IsNoBreach (actor_names fields) (flat_map (in_actor_field scope) fields) in_fields in
      each_first IsNoBreach methods stables (each_last IsNoBreach systems (methods ++ stables) (each_last IsNoBreach kinds (systems ++ (methods ++ stables)) (each_last IsNoBreach values (kinds ++ (systems ++ (methods ++ stables))) names_)))

pub programs_sources : ProgramsAreSources
programs_sources tree n t = record {
  fields = fields_source tree.actor.fields (program_scope tree.imports tree.actor) (each_flat IsNoBreach (in_actor_field (program_scope tree.imports tree.actor)) tree.actor.fields
      (each_last IsNoBreach (actor_names tree.actor.fields) (flat_map (in_actor_field (program_scope tree.imports tree.actor)) tree.actor.fields) (in_fields tree n t))) (field_tokens tree n t) _;
  labels = subst (λ z. DifferAsLabels z) (sym (fields_methods tree.actor.fields _)) (labels_differ (flat_map field_methods tree.actor.fields) (method_clear tree n t));
  names = subst (λ z. EachOf (λ l. is_method_name l ≡ true) z) (sym (fields_methods tree.actor.fields _)) (method_names tree.actor.fields (field_tokens tree n t));
}

pub trees_lawful : TypesOfTreesAreLawful
trees_lawful tree n t made c = program_lawful (abstract tree) (programs_sources tree n t) made c
