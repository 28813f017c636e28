-- What public functions promise, by how it is written.
use Rattle.std.proofs.Common.{◌≡◌, ◌∙◌, Option, Some, ap, refl}
use Rattle.typing_rules.specs.AbstractSyntax as p
use Rattle.typing_rules.specs.Signatures.{async_term}
use Rattle.typing_rules.specs.Terms as t
use Rattle.typing_rules.specs.TypeScopes.{TypeScope, term_or}
use Rattle.written_types.specs.Written.{awaited}

async_as : (s : TypeScope) (n : p.TypeNode) → term_or s (awaited n) t.unit ≡ async_term s (Some n)
async_as s (p.node at (p.Async a)) = refl
async_as s (p.node at (p.Function sharing parameters r)) = refl
async_as s (p.node at (p.Optional a)) = refl
async_as s (p.node at (p.Use x arguments)) = refl
async_as s (p.node at (p.Tuple items)) = refl
async_as s (p.node at (p.Array mutable a)) = refl
async_as s (p.node at (p.Object xs)) = refl
async_as s (p.node at (p.Variant tags)) = refl
async_as s (p.node at (p.Actor methods)) = refl

pub promise_as : (s : TypeScope) (n : p.TypeNode) (o : Option p.TypeNode) → o ≡ awaited n → term_or s o t.unit ≡ async_term s (Some n)
promise_as s n o e = ap (λ x. term_or s x t.unit) e ∙ async_as s n
