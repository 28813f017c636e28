-- A tree has only numbers of its tokens.
use Rattle.std.proofs.Common.{◌≡◌, ◌<◌, ◌≤◌, ◌+◌, ℕ, List, length, map, Option, Some, None, refl, sym, subst, arith}
use Rattle.std.proofs.lemmas.List.{length-append}
use Rattle.std.specs.List.{flat_map}
use Rattle.mo_syntax.specs.declared.mark.Mark.TheVariants as m
use Rattle.mo_syntax.specs.declared.name.Name.{Name}
use Rattle.mo_syntax.specs.declared.program.ActorField.{ActorField}
use Rattle.mo_syntax.specs.declared.program.ActorField.TheVariants as field
use Rattle.mo_syntax.specs.declared.program.Context.{Context}
use Rattle.mo_syntax.specs.declared.program.Context.TheVariants as context
use Rattle.mo_syntax.specs.declared.program.SharedPrefix.{SharedPrefix}
use Rattle.mo_syntax.specs.declared.program.SharedSort.{SharedSort}
use Rattle.mo_syntax.specs.declared.program.SharedSort.TheVariants as sort
use Rattle.mo_syntax.specs.declared.program.Tree.{Tree}
use Rattle.mo_syntax.specs.declared.token.TokenKind.{TokenKind}
use Rattle.mo_syntax.specs.declared.token.TokenKind.TheVariants as t
use Rattle.mo_syntax.specs.ProgramGrammar.{tree_tokens, name_tokens, actor_field_tokens, import_tokens}
use Rattle.mo_syntax.specs.Parts.{Within}
use Rattle.mo_syntax.specs.Writing.{marked, separated}
use Rattle.typing_rules.specs.Spans.{flag, led, at_led, listed_size}
use Rattle.typing_rules.specs.AbstractTypes.{annotation}
use Rattle.typing_rules.specs.AbstractPatterns.{in_pattern, in_pattern_field}
use Rattle.typing_rules.specs.AbstractExpressions.{signature_span, in_expression, in_declaration}
use Rattle.typing_rules.specs.AbstractPrograms.{in_context, in_sort, in_prefix, in_field, imports_size, name_size, abstract}
use Rattle.typing_rules.proofs.PatternSizes.{every}
use Rattle.typing_rules.proofs.ProgramSizes.{field_size, all_imports_size}
use Rattle.typing_rules.proofs.TypeSizes.{flagged, sizes}
use Rattle.fault_places.specs.Numbers.{PatternBelow, ProgramBelow}
use Rattle.fault_places.specs.Laws.{NumbersAreTokens}
use Rattle.fault_places.proofs.WrittenTypes.{Fits, each_fits, annotation_fits}
use Rattle.fault_places.proofs.WrittenPatterns.{pattern_fits, pattern_field_fits, FieldFits, listed_fields, signature_fits}
use Rattle.fault_places.proofs.WrittenExpressions.{MemberFits, members_below, expression_fits, declaration_fits}

module _ (n : ℕ) where
  context_fits : (c : Option Context) (k : ℕ) → k + led 0 (in_context c) ≤ n → Within (PatternBelow n) (at_led (in_context c) k)
  context_fits None k l = tt
  context_fits (Some (context.Parenthesized q)) k l = let i : k + (0 + (2 + (in_pattern q).size)) ≤ n = l in (pattern_fits n q (k + 1) (omega arith)).1
  context_fits (Some (context.Object fields last)) k l =
      let i : k + (0 + (2 + listed_size (map in_pattern_field fields) + flag last)) ≤ n = l in
      (omega arith, listed_fields n fields (each_fits n (λ x. Fits n (FieldFits n) (in_pattern_field x)) (pattern_field_fits n) fields) (k + 1) (omega arith))

  sort_fits : (s : SharedSort) (c : Option Context) (k : ℕ) → k + led 0 (in_sort s c).context ≤ n → Within (PatternBelow n) (at_led (in_sort s c).context k)
  sort_fits sort.Shared c k l = context_fits c k l
  sort_fits sort.SharedQuery c k l = context_fits c k l
  sort_fits sort.Query c k l = context_fits c k l

  prefix_fits : (x : Option SharedPrefix) (k : ℕ) → k + led 0 (in_prefix x).context ≤ n → Within (PatternBelow n) (at_led (in_prefix x).context k)
  prefix_fits None k l = tt
  prefix_fits (Some x) k l = sort_fits x.sort x.context k l

  field_fits : (x : ActorField) → Fits n (MemberFits n) (in_field x)
  field_fits (field.Public x) = λ k l.
      let b = in_prefix x.prefix in
      let g = signature_span None x.parameters (Some x.result) x.equal_sign in
      let i : k + (1 + b.words + led 0 b.context + 2 + g.size + (in_expression x.body).size) ≤ n = l in (
        omega arith,
        (
          prefix_fits x.prefix (k + 1 + b.words) (omega arith),
          omega arith,
          signature_fits n None x.parameters (Some x.result) x.equal_sign (k + 1 + b.words + led 0 b.context + 2) (omega arith),
          (expression_fits n x.body (k + 1 + b.words + led 0 b.context + 2 + g.size) (omega arith)).1,
        ),
      )
  field_fits (field.System x z a) = λ k l.
      let i : k + (5 + flag z + (in_expression a).size) ≤ n = l in
      (omega arith, (omega arith, (expression_fits n a (k + 5 + flag z) (omega arith)).1))
  field_fits (field.Declared z d) = λ k l.
      let i : k + (flag z + (in_declaration d).size) ≤ n = l in
      let h = declaration_fits n d (k + flag z) (omega arith) in
      let j : k + flag z < n = h.0 in
      (omega arith, h.1)
  field_fits (field.Stable z x u a) = λ k l.
      let i : k + (flag z + 4 + led 1 (annotation u) + (in_expression a).size) ≤ n = l in
      (omega arith, (omega arith, annotation_fits n u (k + flag z + 4) (omega arith), (expression_fits n a (k + flag z + 4 + led 1 (annotation u)) (omega arith)).1))

  fields_below : (tree : Tree) → imports_size tree.imports + 1 + name_size tree.actor.name + flag tree.actor.equal_sign + 1 + listed_size (map in_field tree.actor.fields) ≤ n → ProgramBelow n (abstract tree)
  fields_below tree l = members_below n in_field tree.actor.fields (each_fits n (λ x. Fits n (MemberFits n) (in_field x)) field_fits tree.actor.fields) _ l

-- ---- the tokens of a tree

named_so : (x : Option Name) → name_size x ≡ length (name_tokens x)
named_so None = refl
named_so (Some x) = refl

long_enough : (x : Tree) → imports_size x.imports + 1 + name_size x.actor.name + flag x.actor.equal_sign + 1 + listed_size (map in_field x.actor.fields) < length (tree_tokens x)
unfolding tree_tokens
long_enough x =
    let a : imports_size x.imports ≡ length (flat_map import_tokens x.imports) = all_imports_size x.imports in
    let b : name_size x.actor.name ≡ length (name_tokens x.actor.name) = named_so x.actor.name in
    let c : flag x.actor.equal_sign ≡ length (marked x.actor.equal_sign (t.Mark m.EqualSign)) = flagged x.actor.equal_sign (t.Mark m.EqualSign) in
    let f : listed_size (map in_field x.actor.fields) ≡ length (separated (t.Mark m.Semicolon) (map actor_field_tokens x.actor.fields)) = sizes in_field actor_field_tokens (t.Mark m.Semicolon) x.actor.fields (every _ field_size x.actor.fields) in
    rw (length-append, length-append, length-append, length-append, length-append, length-append) (omega arith)

numbers_of : (tree : Tree) (tokens : List TokenKind) → tokens ≡ tree_tokens tree → (0 < length tokens) × ProgramBelow (length tokens) (abstract tree)
numbers_of tree tokens q =
    let h : imports_size tree.imports + 1 + name_size tree.actor.name + flag tree.actor.equal_sign + 1 + listed_size (map in_field tree.actor.fields) < length tokens =
    subst (λ z. imports_size tree.imports + 1 + name_size tree.actor.name + flag tree.actor.equal_sign + 1 + listed_size (map in_field tree.actor.fields) < length z) (sym q) (long_enough tree) in
    (omega arith, fields_below (length tokens) tree (omega arith))

pub tokens_of : NumbersAreTokens
tokens_of tree tokens spelled = numbers_of tree tokens spelled.text
