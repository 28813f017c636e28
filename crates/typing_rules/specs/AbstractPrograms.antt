-- The abstract syntax of a program (Motoko language manual, sections "Programs", "Imports" and "Actors").
use Rattle.std.specs.Prelude.{ℕ, ◌+◌, Bool, true, false, List, [], ◌∷◌, Option, Some, None, option_map, map}
use Rattle.mo_syntax.specs.declared.name.Name.{Name}
use Rattle.mo_syntax.specs.declared.program.Tree.{Tree}
use Rattle.mo_syntax.specs.declared.program.Import.{Import}
use Rattle.mo_syntax.specs.declared.program.ActorField.{ActorField}
use Rattle.mo_syntax.specs.declared.program.ActorField.TheVariants as field
use Rattle.mo_syntax.specs.declared.program.SharedPrefix.{SharedPrefix}
use Rattle.mo_syntax.specs.declared.program.SharedSort.{SharedSort}
use Rattle.mo_syntax.specs.declared.program.SharedSort.TheVariants as sort
use Rattle.mo_syntax.specs.declared.program.Context.{Context}
use Rattle.mo_syntax.specs.declared.program.Context.TheVariants as context
use Rattle.typing_rules.specs.AbstractSyntax.{Pattern, Signature, Program}
use Rattle.typing_rules.specs.AbstractSyntax as p
use Rattle.typing_rules.specs.Spans.{Span, name_at, flag, led, at_led, listed_from}
use Rattle.typing_rules.specs.AbstractTypes.{annotation}
use Rattle.typing_rules.specs.AbstractPatterns.{in_pattern, in_pattern_field, pattern_fields}
use Rattle.typing_rules.specs.AbstractExpressions.{ExpressionSpan, MemberSpan, signature_span, in_expression, in_declaration, members, braces_size}

abbrev pub in_context : Option Context → Option (Span (Pattern ℕ))
in_context None = None
in_context (Some (context.Parenthesized q)) = Some (record { size = 2 + (in_pattern q).size; from = λ k. (in_pattern q).from (k + 1) })
in_context (Some (context.Object fields last)) = Some (record {
  size = braces_size (map in_pattern_field fields) last;
  from = λ k. p.pattern k (p.Object (pattern_fields (listed_from (map in_pattern_field fields) (k + 1))));
})

-- `shared query (p)`: its words, and its context
pub record Prefix : Type 0 where
  pub words : ℕ
  pub query : Bool
  pub context : Option (Span (Pattern ℕ))

abbrev pub in_sort : SharedSort → Option Context → Prefix
in_sort sort.Shared c = record { words = 1; query = false; context = in_context c }
in_sort sort.SharedQuery c = record { words = 2; query = true; context = in_context c }
in_sort sort.Query c = record { words = 1; query = true; context = in_context c }

abbrev pub in_prefix : Option SharedPrefix → Prefix
in_prefix None = record { words = 0; query = false; context = None }
in_prefix (Some x) = in_sort x.sort x.context

abbrev pub method_span : Prefix → Name → Span (Signature ℕ) → ExpressionSpan → MemberSpan
method_span before x g body = record {
  size = 1 + before.words + led 0 before.context + 2 + g.size + body.size;
  from = λ k. (
    true,
    p.Method before.query (at_led before.context (k + 1 + before.words)) (name_at x (k + 1 + before.words + led 0 before.context + 1))
        (g.from (k + 1 + before.words + led 0 before.context + 2)) (body.from (k + 1 + before.words + led 0 before.context + 2 + g.size)),
  );
}

abbrev pub in_field : ActorField → MemberSpan
in_field (field.Public x) = method_span (in_prefix x.prefix) x.name (signature_span None x.parameters (Some x.result) x.equal_sign) (in_expression x.body)
in_field (field.System x equal_sign body) = record {
  size = 5 + flag equal_sign + (in_expression body).size;
  from = λ k. (false, p.System (name_at x (k + 2)) ((in_expression body).from (k + 5 + flag equal_sign)));
}
in_field (field.Declared private d) = record { size = flag private + (in_declaration d).size; from = λ k. (false, (in_declaration d).from (k + flag private)) }
in_field (field.Stable private x kind a) = record {
  size = flag private + 4 + led 1 (annotation kind) + (in_expression a).size;
  from = λ k. (
    false,
    p.Var true (name_at x (k + flag private + 2)) (at_led (annotation kind) (k + flag private + 4))
        ((in_expression a).from (k + flag private + 4 + led 1 (annotation kind))),
  );
}

abbrev pub import_size : Import → ℕ
import_size x = 4 + flag x.equal_sign

abbrev pub imports_size : List Import → ℕ
imports_size [] = 0
imports_size (x ∷ rest) = import_size x + imports_size rest

abbrev pub name_size : Option Name → ℕ
name_size None = 0
name_size (Some x) = 1

-- the abstract syntax of a tree
abbrev pub abstract : Tree → Program ℕ
abstract tree = record {
  imports = map (λ x. (x.name.bytes, x.path.bytes)) tree.imports;
  name = option_map (λ x. x.bytes) tree.actor.name;
  fields = members (map in_field tree.actor.fields) (imports_size tree.imports + 1 + name_size tree.actor.name + flag tree.actor.equal_sign + 1);
}
