-- The rule of assignments with an operator by its parts.
use Rattle.std.proofs.Common.{◌≡◌, ℕ, Ok, Err, ap}
use Rattle.std.specs.Prelude.{Result}
use Rattle.std.specs.Result.{IsErr, IsErrAnd}
use Rattle.mo_syntax.specs.declared.operators.BinaryOperator.{BinaryOperator}
use Rattle.typing_rules.specs.AbstractSyntax.{Expression}
use Rattle.typing_rules.specs.AbstractSyntax as p
use Rattle.typing_rules.specs.Ends.{Has}
use Rattle.typing_rules.specs.Expressions.{JudgePlace}
use Rattle.typing_rules.specs.Judgements.{Judgement, Part}
use Rattle.typing_rules.specs.Operands.{Operand}
use Rattle.typing_rules.specs.Operators.{family}
use Rattle.typing_rules.specs.Terms.{Term, unit}
use Rattle.typing_rules.specs.TypedTrees.{Typed, type_of}
use Rattle.type_definitions.specs.Meanings.{term}
use Rattle.type_judgements.specs.declared.refusal.Refusal.{Refusal}
use Rattle.value_scopes.specs.declared.scopes.Scopes.{Scopes}
use Rattle.judging.specs.declared.checker.Checker.{Checker}
use Rattle.judging.specs.declared.site.Site.{Site}
use Rattle.judging.specs.Views.{View, view, context, definitions, kind_reached, rule, typed_in, wanted_in}
use Rattle.judging.proofs.Chains.{seen_as}
use Rattle.judging.proofs.Forms.{type_is}
use Rattle.judging.proofs.TypedParts.{Given, Comes, part_given, part_refused}
use Rattle.operand_rules.specs.Pairs.{part_of}

abbrev Handed : Result Given Refusal → Refusal → Type 0
Handed r e = IsErr r × IsErrAnd r (λ y. y ≡ e)

module _ (x : Site) (op : BinaryOperator) (q a : Expression ℕ) (c d : Scopes) (k l : Checker) where
  abbrev to : View → Judgement Typed
  to v = JudgePlace (definitions v) (context v x.place) q

  abbrev side : View → Term → Judgement Typed
  side v u = Operand (definitions v) x.at (family op) u (part_of x a v)

  abbrev assigned : View → Typed → Typed → Judgement Typed
  assigned v b z = Has x.at (wanted_in v x.wanted) unit (p.AssignBy op b z)

  abbrev then_side : View → Typed → Judgement Typed
  then_side v b = Part (side v (type_of b)) (assigned v b)

  pub no_place : (e : Refusal) (r : Result Given Refusal) → Handed r e → Comes to c k d l (Err e) → Comes (rule x (p.AssignBy op q a)) c k d l r
  no_place e r h j = part_refused to then_side c d k l e r h j

  module _ (g : Given) (h : Comes to c k d l (Ok g)) where
    abbrev by : View → Judgement Typed
    by v = side v (term v.later g.note.kind)

    then_this : (s : Scopes) (m : Checker) (r : Result Given Refusal) → Comes (λ v. Part (by v) (assigned v (typed_in g v.later))) d l s m r → Comes (rule x (p.AssignBy op q a)) c k s m r
    then_this s m r j =
        part_given to then_side c d s k l m g r h
        (seen_as typed_in kind_reached (λ v. then_side v (typed_in g v.later)) (λ v. Part (by v) (assigned v (typed_in g v.later))) d s l m r
        (λ later w. ap (λ (u : Term). Part (side (view later l.types.listed d) u) (assigned (view later l.types.listed d) (typed_in g later))) (type_is g later)) j)

    pub no_side : (s : Scopes) (m : Checker) (e : Refusal) (r : Result Given Refusal) → Handed r e → Comes by d l s m (Err e) → Comes (rule x (p.AssignBy op q a)) c k s m r
    no_side s m e r j o = then_this s m r (part_refused by (λ v. assigned v (typed_in g v.later)) d s l m e r j o)

    pub is_assigned : (s t : Scopes) (m n : Checker) (b : Given) (r : Result Given Refusal) → Comes by d l s m (Ok b)
        → Comes (λ v. Has x.at (wanted_in v x.wanted) unit (p.AssignBy op (typed_in g v.later) (typed_in b v.later))) s m t n r → Comes (rule x (p.AssignBy op q a)) c k t n r
    is_assigned s t m n b r j o = then_this t n r (part_given by (λ v. assigned v (typed_in g v.later)) d s t l m n b r j o)
