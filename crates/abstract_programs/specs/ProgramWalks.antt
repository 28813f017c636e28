-- What is made of the fields of an actor.
use Rattle.std.specs.Prelude.{◌≡◌, ℕ, ◌+◌, ◌≤◌, Bool, List, Option, map, option_map}
use Rattle.typing_rules.specs.AbstractSyntax as p
use Rattle.typing_rules.specs.Spans.{Span, led, at_led}
use Rattle.typing_rules.specs.AbstractPrograms.{Prefix, imports_size, name_size}
use Rattle.mo_syntax.specs.declared.name.Name.{Name}
use Rattle.mo_syntax.specs.declared.program.Import as syntax
use Rattle.abstract_tree.specs.declared.program.Import.{Import}
use Rattle.abstract_types.specs.declared.patterns.Pattern.{Pattern}
use Rattle.abstract_types.specs.PatternView.{plain}

-- the pattern of the context of a call, where it stands, and the number of the token behind it
pub record IsContext (span : Option (Span (p.Pattern ℕ))) (at : ℕ) (made : Option (Pattern ℕ) × ℕ) : Type 0 where
  pub part : option_map plain made.0 ≡ at_led span at
  pub next : made.1 ≡ at + led 0 span

-- what stands before `func`: whether it is a query, the pattern of the context, and the number of the token behind it
pub record IsPrefix (prefix : Prefix) (at : ℕ) (made : Bool × Option (Pattern ℕ) × ℕ) : Type 0 where
  pub query : made.0 ≡ prefix.query
  pub context : option_map plain made.1 ≡ at_led prefix.context (at + prefix.words)
  pub next : made.2 ≡ at + prefix.words + led 0 prefix.context

abbrev pub import_view : Import → List ℕ × List ℕ
import_view i = (i.name, i.path)

abbrev pub written_import : syntax.Import → List ℕ × List ℕ
written_import x = (x.name.bytes, x.path.bytes)

-- the imports, and how many tokens they are
pub record AreImports (written : List syntax.Import) (made : List Import × ℕ) : Type 0 where
  pub parts : map import_view made.0 ≡ map written_import written
  pub next : made.1 ≡ imports_size written

-- the actor's name, and how many tokens it is
pub record IsActorName (name : Option Name) (made : Option (List ℕ) × ℕ) : Type 0 where
  pub part : made.0 ≡ option_map (λ x. x.bytes) name
  pub next : made.1 ≡ name_size name
  pub small : made.1 ≤ 1
