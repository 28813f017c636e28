-- Arithmetic.
use Rattle.std.proofs.Common.{◌≡◌, ◌∙◌, ℕ, Ok, Err, Option, Some, None}
use Rattle.std.specs.Prelude.{Result}
use Rattle.std.specs.Result.{IsErr, IsErrAnd}
use Rattle.mo_num.specs.declared.kind.Kind.{Kind}
use Rattle.mo_syntax.specs.declared.operators.BinaryOperator.{BinaryOperator}
use Rattle.type_terms.specs.declared.form.TermId.{TermId}
use Rattle.typing_rules.specs.declared.condition.Condition.TheVariants as condition
use Rattle.typing_rules.specs.AbstractSyntax.{Expression}
use Rattle.typing_rules.specs.AbstractSyntax as p
use Rattle.typing_rules.specs.Heads.{head}
use Rattle.typing_rules.specs.Terms.{Term}
use Rattle.typing_rules.specs.Judgements.{Judgement, Gives, Part, Given as IsGiven}
use Rattle.typing_rules.specs.TypedTrees.{Typed, typed}
use Rattle.typing_rules.specs.Ends.{Has}
use Rattle.typing_rules.specs.Literals.{written}
use Rattle.typing_rules.specs.Operators.{Family, number_with}
use Rattle.typing_rules.specs.Operands.{Operands, Arithmetic}
use Rattle.type_definitions.specs.Meanings.{term}
use Rattle.type_judgements.specs.declared.refusal.Refusal.{Refusal}
use Rattle.type_judgements.specs.declared.refusal.Refusal.TheVariants as refusal
use Rattle.value_scopes.specs.declared.scopes.Scopes.{Scopes}
use Rattle.judging.specs.declared.checker.Checker.{Checker}
use Rattle.judging.specs.declared.site.Site.{Site}
use Rattle.judging.specs.Heads.{HeadHas, WantedHas}
use Rattle.judging.specs.Views.{View, definitions, wanted_in, typed_in, kind_reached}
use Rattle.judging.proofs.Cases.{as_wanted, unwanted, given_none, given_some}
use Rattle.judging.proofs.Chains.{goes_on, stops}
use Rattle.judging.proofs.TypedParts.{Given, Comes}
use Rattle.operand_rules.specs.declared.pairs.OperandPair.{OperandPair}
use Rattle.operand_rules.specs.Pairs.{pair_in, pair_reached, part_of}
use Rattle.operand_rules.proofs.Pairing.{Pair, Pairs}

-- both operands with the greatest of their types
abbrev pub both_operands : Site → Expression ℕ → Expression ℕ → View → Judgement Pair
both_operands x a b v = Operands (definitions v) x.at (written a) (written b) (part_of x a v) (part_of x b v)

-- an operand of which the same is wanted as of the whole
abbrev pub wanted_operand : Site → Expression ℕ → View → Judgement Typed
wanted_operand x a v = part_of x a v (wanted_in v x.wanted)

abbrev pub made_as : Site → TermId → BinaryOperator → View → Typed → Typed → Judgement Typed
made_as x id op v a b = Gives (typed x.at (term v.later id) (p.Binary op a b))

module _ (x : Site) (f : Family) (op : BinaryOperator) (a b : Expression ℕ) where
  abbrev summed : View → Pair → Judgement Typed
  summed v q = Has x.at (wanted_in v x.wanted) q.0 (p.Binary op q.1 q.2)

  abbrev by_number : View → Pair → Judgement Typed
  by_number v q = IsGiven condition.BadOperator x.at (number_with f (head (definitions v) q.0)) (λ _. summed v q)

  abbrev pub by_operands : View → Judgement Typed
  by_operands v = Part (both_operands x a b v) (by_number v)

  pub no_operands : (c d : Scopes) (k l : Checker) (e : Refusal) (r : Result Given Refusal) → IsErr r × IsErrAnd r (λ y. y ≡ e) → Pairs (both_operands x a b) c k d l (Err e) → Comes by_operands c k d l r
  no_operands c d k l e r h g = stops typed_in kind_reached pair_in pair_reached (both_operands x a b) by_number c d k l e r h g

  module _ (c d : Scopes) (k l : Checker) (q : OperandPair) (g : Pairs (both_operands x a b) c k d l (Ok q)) (o : Option Kind) (h : HeadHas (number_with f) l.types q.kind (λ later. o)) where
    pub is_number : (kind : Kind) (m : Checker) (r : Result Given Refusal) → o ≡ Some kind → Comes (λ v. summed v (pair_in q v.later)) d l d m r → Comes by_operands c k d m r
    is_number kind m r e i =
        goes_on typed_in kind_reached pair_in pair_reached (both_operands x a b) by_number c d d k l m q r g
        (given_some typed_in kind_reached (λ v. number_with f (head (definitions v) (term v.later q.kind))) d d l m r condition.BadOperator x.at (λ v _. summed v (pair_in q v.later)) (λ later. kind) (λ later z. h later z ∙ e) i)

    pub no_number : o ≡ None → Comes by_operands c k d l (Err (refusal.False x.at condition.BadOperator))
    no_number e =
        goes_on typed_in kind_reached pair_in pair_reached (both_operands x a b) by_number c d d k l l q (Err (refusal.False x.at condition.BadOperator)) g
        (given_none typed_in kind_reached condition.BadOperator x.at (λ v. number_with f (head (definitions v) (term v.later q.kind))) d l (λ v _. summed v (pair_in q v.later)) (λ later z. h later z ∙ e))

  -- by the type that is wanted
  module _ (c d : Scopes) (k l : Checker) (r : Result Given Refusal) (o : Option (TermId × Kind)) (h : WantedHas (number_with f) k.types x.wanted (λ later j. j) o) where
    abbrev calculated : View → Judgement Typed
    calculated v = Arithmetic (definitions v) x.at (wanted_in v x.wanted) f op (written a) (written b) (part_of x a v) (part_of x b v)

    abbrev fits : View → Term × Kind → Judgement Typed
    fits v q = Part (wanted_operand x a v) (λ y. Part (wanted_operand x b v) (λ z. Gives (typed x.at q.0 (p.Binary op y z))))

    abbrev alone : View → Unit {0} → Judgement Typed
    alone v u = by_operands v

    pub number_wanted : (id : TermId) (kind : Kind) → o ≡ Some (id, kind) → Comes (λ v. Part (wanted_operand x a v) (λ y. Part (wanted_operand x b v) (made_as x id op v y))) c k d l r → Comes calculated c k d l r
    number_wanted id kind e g = as_wanted typed_in kind_reached (number_with f) (λ later m. m) x.wanted fits alone c d k l r o h id kind e g

    pub none_wanted : o ≡ None → Comes by_operands c k d l r → Comes calculated c k d l r
    none_wanted e g = unwanted typed_in kind_reached (number_with f) (λ later m. m) x.wanted fits alone c d k l r o h e g
