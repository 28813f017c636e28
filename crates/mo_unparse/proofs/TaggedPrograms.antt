-- In the writing of a program each mark `#` of a tag has its identifier behind it.
use Rattle.std.proofs.Common.{List, [], ◌∷◌, ◌++◌, Option, Some, None, subst, map, option_map}
use Rattle.std.specs.List.{flat_map}
use Rattle.std.proofs.lemmas.List.{append-nil}
use Rattle.mo_syntax.specs.declared.name.Name.{Name}
use Rattle.mo_syntax.specs.declared.word.Word.TheVariants as w
use Rattle.mo_syntax.specs.declared.mark.Mark.TheVariants as m
use Rattle.mo_syntax.specs.declared.token.TokenKind.TheVariants as t
use Rattle.mo_syntax.specs.declared.program.Tree.{Tree}
use Rattle.mo_syntax.specs.declared.program.Import.{Import}
use Rattle.mo_syntax.specs.declared.program.Actor.{Actor}
use Rattle.mo_syntax.specs.declared.program.ActorField.{ActorField}
use Rattle.mo_syntax.specs.declared.program.ActorField.TheVariants as field
use Rattle.mo_syntax.specs.declared.program.SharedFunction.{SharedFunction}
use Rattle.mo_syntax.specs.declared.program.SharedPrefix.{SharedPrefix}
use Rattle.mo_syntax.specs.declared.program.SharedSort.{SharedSort}
use Rattle.mo_syntax.specs.declared.program.SharedSort.TheVariants as sort
use Rattle.mo_syntax.specs.declared.program.Context.{Context}
use Rattle.mo_syntax.specs.declared.program.Context.TheVariants as context
use Rattle.mo_syntax.specs.Writing.{marked, led, optional, semicolons, parens, braces}
use Rattle.mo_syntax.specs.TypeGrammar.{type_tokens}
use Rattle.mo_syntax.specs.PatternGrammar.{pattern_tokens, pattern_field_tokens, parameters_tokens}
use Rattle.mo_syntax.specs.ExpressionGrammar.{expression_tokens, declaration_tokens, signature}
use Rattle.mo_syntax.specs.ProgramGrammar.{import_tokens, context_tokens, shared_tokens, prefix_tokens, shared_function_tokens, actor_field_tokens, name_tokens, actor_tokens, tree_tokens}
use Rattle.mo_unparse.specs.Writable.{AreTagged}
use Rattle.mo_unparse.proofs.TaggedLemmas.{Closed, none, one, both, if_marked, if_led, if_some, all_semicolons, in_parens, in_braces, each_mapped, within_mapped, each_of, within_of}
use Rattle.mo_unparse.proofs.TaggedTypes.{of_type, of_types_within}
use Rattle.mo_unparse.proofs.TaggedPatterns.{of_pattern, of_pattern_fields, of_parameters}
use Rattle.mo_unparse.proofs.TaggedExpressions.{of_expression, of_declaration, of_signature}

of_import : (x : Import) → Closed (import_tokens x)
of_import x = (one (t.Reserved w.Import) (t.Identifier x.name ∷ ((marked x.equal_sign (t.Mark m.EqualSign)) ++ (t.Text x.path ∷ (t.Mark m.Semicolon ∷ [])))) tt (one (t.Identifier x.name) ((marked x.equal_sign (t.Mark m.EqualSign)) ++ (t.Text x.path ∷ (t.Mark m.Semicolon ∷ []))) tt (both (marked x.equal_sign (t.Mark m.EqualSign)) (t.Text x.path ∷ (t.Mark m.Semicolon ∷ [])) (if_marked x.equal_sign (t.Mark m.EqualSign) tt) (one (t.Text x.path) (t.Mark m.Semicolon ∷ []) tt (one (t.Mark m.Semicolon) [] tt none)))))

of_imports : (xs : List Import) → Closed (flat_map import_tokens xs)
of_imports [] = none
of_imports (x ∷ xs) = both (import_tokens x) (flat_map import_tokens xs) (of_import x) (of_imports xs)

of_context : (x : Context) → Closed (context_tokens x)
of_context (context.Parenthesized p) = (in_parens (pattern_tokens p) (of_pattern p))
of_context (context.Object fields last) = (in_braces (semicolons (map pattern_field_tokens fields) last) (all_semicolons (map pattern_field_tokens fields) last (of_pattern_fields fields)))

of_sort : (x : SharedSort) → Closed (shared_tokens x)
of_sort sort.Shared = (one (t.Reserved w.Shared) [] tt none)
of_sort sort.SharedQuery = (one (t.Reserved w.Shared) (t.Reserved w.Query ∷ []) tt (one (t.Reserved w.Query) [] tt none))
of_sort sort.Query = (one (t.Reserved w.Query) [] tt none)

of_prefix : (x : SharedPrefix) → Closed (prefix_tokens x)
of_prefix x = (both (shared_tokens x.sort) (optional (option_map context_tokens x.context)) (of_sort x.sort) (if_some (option_map context_tokens x.context) (within_mapped context_tokens x.context (within_of (λ y. Closed (context_tokens y)) of_context x.context))))

of_function : (x : SharedFunction) → Closed (shared_function_tokens x)
of_function x = (both (optional (option_map prefix_tokens x.prefix)) (t.Reserved w.Func ∷ (t.Identifier x.name ∷ ((signature (parameters_tokens x.parameters) (Some (type_tokens x.result)) x.equal_sign) ++ (expression_tokens x.body)))) (if_some (option_map prefix_tokens x.prefix) (within_mapped prefix_tokens x.prefix (within_of (λ y. Closed (prefix_tokens y)) of_prefix x.prefix))) (one (t.Reserved w.Func) (t.Identifier x.name ∷ ((signature (parameters_tokens x.parameters) (Some (type_tokens x.result)) x.equal_sign) ++ (expression_tokens x.body))) tt (one (t.Identifier x.name) ((signature (parameters_tokens x.parameters) (Some (type_tokens x.result)) x.equal_sign) ++ (expression_tokens x.body)) tt (both (signature (parameters_tokens x.parameters) (Some (type_tokens x.result)) x.equal_sign) (expression_tokens x.body) (of_signature (parameters_tokens x.parameters) (Some (type_tokens x.result)) x.equal_sign (of_parameters x.parameters) (of_type x.result)) (of_expression x.body)))))

of_actor_field : (x : ActorField) → Closed (actor_field_tokens x)
of_actor_field (field.Public function) = (one (t.Reserved w.Public) (shared_function_tokens function) tt (of_function function))
of_actor_field (field.System x equal_sign body) = (one (t.Reserved w.System) (t.Reserved w.Func ∷ (t.Identifier x ∷ ((signature (parens []) None equal_sign) ++ (expression_tokens body)))) tt (one (t.Reserved w.Func) (t.Identifier x ∷ ((signature (parens []) None equal_sign) ++ (expression_tokens body))) tt (one (t.Identifier x) ((signature (parens []) None equal_sign) ++ (expression_tokens body)) tt (both (signature (parens []) None equal_sign) (expression_tokens body) (of_signature (parens []) None equal_sign (in_parens [] none) tt) (of_expression body)))))
of_actor_field (field.Declared private x) = (both (marked private (t.Reserved w.Private)) (declaration_tokens x) (if_marked private (t.Reserved w.Private) tt) (of_declaration x))
of_actor_field (field.Stable private x kind a) = (both (marked private (t.Reserved w.Private)) (t.Reserved w.Stable ∷ (t.Reserved w.Var ∷ (t.Identifier x ∷ ((led (t.Mark m.Colon) (option_map type_tokens kind)) ++ (t.Mark m.EqualSign ∷ (expression_tokens a)))))) (if_marked private (t.Reserved w.Private) tt) (one (t.Reserved w.Stable) (t.Reserved w.Var ∷ (t.Identifier x ∷ ((led (t.Mark m.Colon) (option_map type_tokens kind)) ++ (t.Mark m.EqualSign ∷ (expression_tokens a))))) tt (one (t.Reserved w.Var) (t.Identifier x ∷ ((led (t.Mark m.Colon) (option_map type_tokens kind)) ++ (t.Mark m.EqualSign ∷ (expression_tokens a)))) tt (one (t.Identifier x) ((led (t.Mark m.Colon) (option_map type_tokens kind)) ++ (t.Mark m.EqualSign ∷ (expression_tokens a))) tt (both (led (t.Mark m.Colon) (option_map type_tokens kind)) (t.Mark m.EqualSign ∷ (expression_tokens a)) (if_led (t.Mark m.Colon) (option_map type_tokens kind) tt (of_types_within kind)) (one (t.Mark m.EqualSign) (expression_tokens a) tt (of_expression a)))))))

of_name : (x : Option Name) → Closed (name_tokens x)
of_name None = none
of_name (Some x) = (one (t.Identifier x) [] tt none)

of_actor : (x : Actor) → Closed (actor_tokens x)
of_actor x = (one (t.Reserved w.Actor) ((name_tokens x.name) ++ ((marked x.equal_sign (t.Mark m.EqualSign)) ++ (braces (semicolons (map actor_field_tokens x.fields) x.semicolon)))) tt (both (name_tokens x.name) ((marked x.equal_sign (t.Mark m.EqualSign)) ++ (braces (semicolons (map actor_field_tokens x.fields) x.semicolon))) (of_name x.name) (both (marked x.equal_sign (t.Mark m.EqualSign)) (braces (semicolons (map actor_field_tokens x.fields) x.semicolon)) (if_marked x.equal_sign (t.Mark m.EqualSign) tt) (in_braces (semicolons (map actor_field_tokens x.fields) x.semicolon) (all_semicolons (map actor_field_tokens x.fields) x.semicolon (each_mapped actor_field_tokens x.fields (each_of (λ y. Closed (actor_field_tokens y)) of_actor_field x.fields)))))))

of_tree : (x : Tree) → Closed (tree_tokens x)
unfolding tree_tokens
of_tree x = (both (flat_map import_tokens x.imports) ((actor_tokens x.actor) ++ (marked x.semicolon (t.Mark m.Semicolon))) (of_imports x.imports) (both (actor_tokens x.actor) (marked x.semicolon (t.Mark m.Semicolon)) (of_actor x.actor) (if_marked x.semicolon (t.Mark m.Semicolon) tt)))

pub tree_tagged : (x : Tree) → AreTagged (tree_tokens x)
tree_tagged x = subst AreTagged (append-nil (tree_tokens x)) ((of_tree x).keeps [] tt)
