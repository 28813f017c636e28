-- Types that are written.
use Rattle.std.proofs.Common.{◌≡◌, ℕ, List, [], Option, Some, None, refl, sym, ap, ap₂, ◌∙◌}
use Rattle.typing_rules.specs.declared.condition.Condition.TheVariants as condition
use Rattle.typing_rules.specs.AbstractSyntax.{TypeNode, Pattern, Patterns}
use Rattle.typing_rules.specs.AbstractSyntax as p
use Rattle.typing_rules.specs.DeclaredTypes.{pattern_term, parameter_terms}
use Rattle.typing_rules.specs.Definitions.{Definitions}
use Rattle.typing_rules.specs.Judgements.{Gives, Case, Given}
use Rattle.typing_rules.specs.Patterns.{Stands}
use Rattle.typing_rules.specs.Signatures.{Parameters, ParameterTypes, first, others}
use Rattle.typing_rules.specs.Terms.{Term, unlisted}
use Rattle.typing_rules.specs.Terms as t
use Rattle.typing_rules.specs.TypedTrees.{annotation, pattern_place}
use Rattle.typing_rules.specs.Types.{Proper, Reads, ReadsOr}
use Rattle.typing_rules.specs.TypeScopes.{TypeScope, term, term_or}
use Rattle.desugaring_laws.specs.Yields.{Yields}
use Rattle.desugaring_laws.proofs.Yielding.{anything, more, given, by_case, part as after}

annotated : (s : TypeScope) (q : Pattern ℕ) (a : TypeNode) → annotation q ≡ Some a → term s a ≡ pattern_term s q
annotated s (p.pattern n (p.Annotated q b)) a e = let f : Some b ≡ Some a = e in let g : b ≡ a = cc in ap (λ z. term s z) (sym g)
annotated s (p.pattern n (p.Alternative q r)) a e = cc
annotated s (p.pattern n (p.Optional q)) a e = cc
annotated s (p.pattern n (p.Tag x)) a e = cc
annotated s (p.pattern n (p.Tagged x q)) a e = cc
annotated s (p.pattern n (p.Variable x)) a e = cc
annotated s (p.pattern n p.Wildcard) a e = cc
annotated s (p.pattern n (p.Constant minus l)) a e = cc
annotated s (p.pattern n (p.Tuple items)) a e = cc
annotated s (p.pattern n (p.Object fields)) a e = cc

module _ (defs : Definitions) (terms : List Term) (s : TypeScope) where
  -- a type that is read is the one that is written
  pub reads_term : (a : TypeNode) → Yields defs terms (Reads defs s a) (λ v. v ≡ term s a)
  reads_term a = after defs terms (Proper defs s a) _ (λ u. Unit {0}) (λ v. v ≡ term s a) (anything defs terms (Proper defs s a)) (λ u z. λ m. refl)

  pub reads_or_term : (o : Option TypeNode) (u : Term) → Yields defs terms (ReadsOr defs s o u) (λ v. v ≡ term_or s o u)
  reads_or_term None u = refl
  reads_or_term (Some a) u = reads_term a

  -- the types of parameters
  pub types_written : (qs : Patterns ℕ) → Yields defs terms (ParameterTypes defs s qs) (λ us. unlisted us ≡ parameter_terms s qs)
  types_written p.Nil = refl
  types_written (p.Cons q rest) =
      after defs terms (Given condition.NeedsType (pattern_place q) (annotation q) (λ a. Reads defs s a)) _ (λ u. u ≡ pattern_term s q) (λ us. unlisted us ≡ parameter_terms s (p.Cons q rest))
      (given defs terms condition.NeedsType (pattern_place q) (annotation q) _ (λ u. u ≡ pattern_term s q) (λ a e. more defs terms (Reads defs s a) (λ u. u ≡ term s a) (λ u. u ≡ pattern_term s q) (reads_term a) (λ u h. h ∙ annotated s q a e))) (λ u h.
      after defs terms (ParameterTypes defs s rest) _ (λ us. unlisted us ≡ parameter_terms s rest) (λ us. unlisted us ≡ parameter_terms s (p.Cons q rest)) (types_written rest) (λ us k. ap₂ (λ x y. t.Cons x y) h k))

  pub taken_written : (qs : Patterns ℕ) → Yields defs terms (Parameters defs s qs []) (λ ps. unlisted ps.types ≡ parameter_terms s qs)
  taken_written p.Nil = refl
  taken_written (p.Cons q rest) =
      after defs terms (Case (annotation q) (λ a. Reads defs s a) (λ z. Given condition.NeedsType (pattern_place q) (first []) (λ u. Gives u))) _ (λ u. u ≡ pattern_term s q) (λ ps. unlisted ps.types ≡ parameter_terms s (p.Cons q rest))
      (by_case defs terms (annotation q) _ _ (λ u. u ≡ pattern_term s q) (λ a e. more defs terms (Reads defs s a) (λ u. u ≡ term s a) (λ u. u ≡ pattern_term s q) (reads_term a) (λ u h. h ∙ annotated s q a e)) (λ e. tt)) (λ u h.
      after defs terms (Stands defs s q u) _ (λ b. Unit {0}) (λ ps. unlisted ps.types ≡ parameter_terms s (p.Cons q rest)) (anything defs terms (Stands defs s q u)) (λ b z.
      after defs terms (Parameters defs s rest (others [])) _ (λ ps. unlisted ps.types ≡ parameter_terms s rest) (λ ps. unlisted ps.types ≡ parameter_terms s (p.Cons q rest)) (taken_written rest) (λ ps k. ap₂ (λ x y. t.Cons x y) h k)))
