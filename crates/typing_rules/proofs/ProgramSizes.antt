-- The fields of an actor and imports take as many tokens as they are written in.
use Rattle.std.proofs.Common.{◌≡◌, ◌+◌, List, [], ◌∷◌, length, map, Option, Some, None, option_map, refl, arith}
use Rattle.std.specs.List.{flat_map}
use Rattle.std.proofs.lemmas.List.{length-append}
use Rattle.mo_syntax.specs.declared.mark.Mark.TheVariants as m
use Rattle.mo_syntax.specs.declared.program.ActorField.{ActorField}
use Rattle.mo_syntax.specs.declared.program.ActorField.TheVariants as field
use Rattle.mo_syntax.specs.declared.program.Context.{Context}
use Rattle.mo_syntax.specs.declared.program.Context.TheVariants as context
use Rattle.mo_syntax.specs.declared.program.Import.{Import}
use Rattle.mo_syntax.specs.declared.program.SharedPrefix.{SharedPrefix}
use Rattle.mo_syntax.specs.declared.program.SharedSort.{SharedSort}
use Rattle.mo_syntax.specs.declared.program.SharedSort.TheVariants as sort
use Rattle.mo_syntax.specs.declared.token.TokenKind.TheVariants as t
use Rattle.mo_syntax.specs.declared.word.Word.TheVariants as w
use Rattle.mo_syntax.specs.ExpressionGrammar.{declaration_tokens, expression_tokens, signature}
use Rattle.mo_syntax.specs.PatternGrammar.{parameters_tokens, pattern_field_tokens, pattern_tokens}
use Rattle.mo_syntax.specs.ProgramGrammar.{actor_field_tokens, context_tokens, import_tokens, prefix_tokens, shared_tokens}
use Rattle.mo_syntax.specs.TypeGrammar.{type_tokens}
use Rattle.mo_syntax.specs.Writing.{marked, optional, separated}
use Rattle.mo_syntax.specs.Writing as writing
use Rattle.typing_rules.specs.Spans.{flag, led, listed_size}
use Rattle.typing_rules.specs.AbstractTypes.{annotation}
use Rattle.typing_rules.specs.AbstractPatterns.{in_pattern, in_pattern_field}
use Rattle.typing_rules.specs.AbstractExpressions.{in_declaration, in_expression, signature_span}
use Rattle.typing_rules.specs.AbstractPrograms.{import_size, imports_size, in_context, in_field, in_prefix, in_sort}
use Rattle.typing_rules.proofs.TypeSizes.{flagged, sizes}
use Rattle.typing_rules.proofs.PatternSizes.{annotation_size, every, pattern_field_size, pattern_size}
use Rattle.typing_rules.proofs.ExpressionSizes.{declaration_size, expression_size, signature_size}

context_size : (c : Option Context) → led 0 (in_context c) ≡ length (optional (option_map context_tokens c))
context_size None = refl
context_size (Some (context.Parenthesized q)) = let h : (in_pattern q).size ≡ length (pattern_tokens q) = pattern_size q in rw (length-append) (omega arith)
context_size (Some (context.Object fields last)) =
    let b : listed_size (map in_pattern_field fields) ≡ length (separated (t.Mark m.Semicolon) (map pattern_field_tokens fields)) = sizes in_pattern_field pattern_field_tokens (t.Mark m.Semicolon) fields (every _ pattern_field_size fields) in
    let c : flag last ≡ length (marked last (t.Mark m.Semicolon)) = flagged last (t.Mark m.Semicolon) in
    rw (length-append, length-append) (omega arith)

sort_size : (s : SharedSort) (c : Option Context) → (in_sort s c).words + led 0 (in_sort s c).context ≡ length (shared_tokens s) + length (optional (option_map context_tokens c))
sort_size sort.Shared c = let h : led 0 (in_context c) ≡ length (optional (option_map context_tokens c)) = context_size c in omega arith
sort_size sort.SharedQuery c = let h : led 0 (in_context c) ≡ length (optional (option_map context_tokens c)) = context_size c in omega arith
sort_size sort.Query c = let h : led 0 (in_context c) ≡ length (optional (option_map context_tokens c)) = context_size c in omega arith

prefix_size : (x : Option SharedPrefix) → (in_prefix x).words + led 0 (in_prefix x).context ≡ length (optional (option_map prefix_tokens x))
prefix_size None = refl
prefix_size (Some x) =
    let h : (in_sort x.sort x.context).words + led 0 (in_sort x.sort x.context).context ≡ length (shared_tokens x.sort) + length (optional (option_map context_tokens x.context)) = sort_size x.sort x.context in
    rw (length-append) h

pub field_size : (x : ActorField) → (in_field x).size ≡ length (actor_field_tokens x)
field_size (field.Public f) =
    let a : (in_prefix f.prefix).words + led 0 (in_prefix f.prefix).context ≡ length (optional (option_map prefix_tokens f.prefix)) = prefix_size f.prefix in
    let s : (signature_span None f.parameters (Some f.result) f.equal_sign).size ≡ 0 + length (signature (parameters_tokens f.parameters) (Some (type_tokens f.result)) f.equal_sign) = signature_size None f.parameters (Some f.result) f.equal_sign in
    let e : (in_expression f.body).size ≡ length (expression_tokens f.body) = expression_size f.body in
    rw (length-append, length-append) (omega arith)
field_size (field.System x z a) =
    let f : flag z ≡ length (marked z (t.Mark m.EqualSign)) = flagged z (t.Mark m.EqualSign) in
    let e : (in_expression a).size ≡ length (expression_tokens a) = expression_size a in
    rw (length-append) (omega arith)
field_size (field.Declared z d) =
    let f : flag z ≡ length (marked z (t.Reserved w.Private)) = flagged z (t.Reserved w.Private) in
    let e : (in_declaration d).size ≡ length (declaration_tokens d) = declaration_size d in
    rw (length-append) (omega arith)
field_size (field.Stable z x k a) =
    let f : flag z ≡ length (marked z (t.Reserved w.Private)) = flagged z (t.Reserved w.Private) in
    let i : led 1 (annotation k) ≡ length (writing.annotation (option_map type_tokens k)) = annotation_size k in
    let e : (in_expression a).size ≡ length (expression_tokens a) = expression_size a in
    rw (length-append, length-append) (omega arith)

pub one_import_size : (x : Import) → import_size x ≡ length (import_tokens x)
one_import_size x = let f : flag x.equal_sign ≡ length (marked x.equal_sign (t.Mark m.EqualSign)) = flagged x.equal_sign (t.Mark m.EqualSign) in rw (length-append) (omega arith)

pub all_imports_size : (xs : List Import) → imports_size xs ≡ length (flat_map import_tokens xs)
all_imports_size [] = refl
all_imports_size (x ∷ xs) =
    let h : import_size x ≡ length (import_tokens x) = one_import_size x in
    let g : imports_size xs ≡ length (flat_map import_tokens xs) = all_imports_size xs in
    rw (length-append) (omega arith)
