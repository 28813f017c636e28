-- Operators whose operands have one type, and operators by their families.
use Rattle.std.proofs.Common.{◌≡◌, ℕ, subst, Some}
use Rattle.std.specs.Prelude.{Result}
use Rattle.mo_syntax.specs.declared.operators.BinaryOperator.{BinaryOperator}
use Rattle.typing_rules.specs.AbstractSyntax.{Expression}
use Rattle.typing_rules.specs.AbstractSyntax as p
use Rattle.typing_rules.specs.Terms.{Term}
use Rattle.typing_rules.specs.Judgements.{Judgement}
use Rattle.typing_rules.specs.TypedTrees.{Typed}
use Rattle.typing_rules.specs.Ends.{Has}
use Rattle.typing_rules.specs.Literals.{written}
use Rattle.typing_rules.specs.Operators.{Family}
use Rattle.typing_rules.specs.Operands.{Binary, Operand}
use Rattle.type_definitions.specs.Meanings.{term}
use Rattle.type_terms.specs.declared.form.TermId.{TermId}
use Rattle.type_judgements.specs.declared.refusal.Refusal.{Refusal}
use Rattle.value_scopes.specs.declared.scopes.Scopes.{Scopes}
use Rattle.judging.specs.declared.checker.Checker.{Checker}
use Rattle.judging.specs.declared.site.Site.{Site}
use Rattle.judging.specs.Views.{View, definitions, judge_at, wanted_in}
use Rattle.judging.proofs.TypedParts.{Given, Comes}
use Rattle.operand_rules.specs.Pairs.{part_of}

-- an operand that is to have this type
abbrev pub fitted : Site → Expression ℕ → Term → View → Judgement Typed
fitted x a u = judge_at x.place a (Some u)

-- what both operands make
abbrev pub joined : Site → Term → BinaryOperator → View → Typed → Typed → Judgement Typed
joined x u op v a b = Has x.at (wanted_in v x.wanted) u (p.Binary op a b)

module _ (x : Site) (op : BinaryOperator) (c d : Scopes) (k l : Checker) (r : Result Given Refusal) (f g : Family) (e : f ≡ g) where
  pub of_family : (a b : Expression ℕ) → Comes (λ v. Binary (definitions v) x.at (wanted_in v x.wanted) f op (written a) (written b) (part_of x a v) (part_of x b v)) c k d l r
      → Comes (λ v. Binary (definitions v) x.at (wanted_in v x.wanted) g op (written a) (written b) (part_of x a v) (part_of x b v)) c k d l r
  of_family a b h = subst (λ (y : Family). Comes (λ v. Binary (definitions v) x.at (wanted_in v x.wanted) y op (written a) (written b) (part_of x a v) (part_of x b v)) c k d l r) e h

  pub operand_of_family : (id : TermId) (a : Expression ℕ) → Comes (λ v. Operand (definitions v) x.at f (term v.later id) (part_of x a v)) c k d l r → Comes (λ v. Operand (definitions v) x.at g (term v.later id) (part_of x a v)) c k d l r
  operand_of_family id a h = subst (λ (y : Family). Comes (λ v. Operand (definitions v) x.at y (term v.later id) (part_of x a v)) c k d l r) e h
