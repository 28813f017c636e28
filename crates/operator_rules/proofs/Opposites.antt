-- `-` before an expression.
use Rattle.std.proofs.Common.{◌≡◌, ◌∙◌, ℕ, List, Ok, Err, Option, Some, None, refl, sym, ap}
use Rattle.std.specs.Prelude.{Result, pos, neg_ℤ}
use Rattle.std.specs.Result.{IsErr, IsErrAnd}
use Rattle.mo_num.specs.declared.kind.Kind.{Kind}
use Rattle.mo_num.specs.declared.kind.Kind.TheVariants as kinds
use Rattle.mo_syntax.specs.declared.literal.Literal.TheVariants as literal
use Rattle.type_terms.specs.declared.form.Form.{Form}
use Rattle.type_terms.specs.declared.form.Form.TheVariants as form
use Rattle.type_terms.specs.declared.form.TermId.{TermId}
use Rattle.typing_rules.specs.declared.condition.Condition.TheVariants as condition
use Rattle.typing_rules.specs.AbstractSyntax.{Expression}
use Rattle.typing_rules.specs.AbstractSyntax as p
use Rattle.typing_rules.specs.Heads.{head}
use Rattle.typing_rules.specs.Terms.{Term, nat}
use Rattle.typing_rules.specs.Terms as t
use Rattle.typing_rules.specs.Judgements.{Judgement, Gives, Part, Case, Given as IsGiven}
use Rattle.typing_rules.specs.TypedTrees.{Typed, note, typed, type_of, place}
use Rattle.typing_rules.specs.Ends.{Has}
use Rattle.typing_rules.specs.Literals.{Number, plain_number}
use Rattle.typing_rules.specs.Operators.{negated_of, signed_of}
use Rattle.typing_rules.specs.Operands.{Negative}
use Rattle.type_definitions.specs.Meanings.{term, term_of}
use Rattle.type_definitions.specs.Tables.{Later}
use Rattle.type_judgements.specs.declared.refusal.Refusal.{Refusal}
use Rattle.type_judgements.specs.declared.refusal.Refusal.TheVariants as refusal
use Rattle.abstract_tree.specs.declared.expressions.Expression as value
use Rattle.abstract_tree.specs.declared.expressions.ExpressionForm.{ExpressionForm}
use Rattle.abstract_tree.specs.declared.expressions.ExpressionForm.TheVariants as e
use Rattle.abstract_tree.specs.TreeView.{expression_form, plain}
use Rattle.abstract_tree.proofs.TreeViews.{expression_is}
use Rattle.value_scopes.specs.declared.note.Note as value_note
use Rattle.value_scopes.specs.declared.scopes.Scopes.{Scopes}
use Rattle.value_scopes.specs.Values.{noted}
use Rattle.judging.specs.declared.checker.Checker.{Checker}
use Rattle.judging.specs.declared.site.Site.{Site}
use Rattle.judging.specs.Heads.{HeadHas, WantedHas}
use Rattle.judging.specs.Views.{View, view, definitions, rule, wanted_in, typed_in, kind_reached}
use Rattle.judging.proofs.Cases.{as_wanted, unwanted, given_none, given_some}
use Rattle.judging.proofs.Chains.{seen_as, after}
use Rattle.judging.proofs.Forms.{seen, seen_Constant, type_is}
use Rattle.judging.proofs.TypedParts.{Given, Comes, part_given, part_refused}
use Rattle.operand_rules.specs.Pairs.{part_of}
use Rattle.operator_rules.specs.Nodes.{Makes, IsNumberNode}

-- ---- a number

pub number_is : (made : Given) (at n : ℕ) (id : TermId) (later : List Form) → made.note ≡ record { at = at; kind = id } → made.form ≡ e.Constant (literal.Number n) → term later id ≡ term_of (term later) (form.Number kinds.Nat) → IsNumberNode at n made later
number_is made at n id later h f i =
    seen (noted later) made
    ∙ (ap (λ (m : value_note.Note). p.exp (noted later m) (expression_form (noted later) made.form)) h
    ∙ (ap (λ (g : ExpressionForm value_note.Note). p.exp (note at (term later id)) (expression_form (noted later) g)) f
    ∙ (ap (p.exp (note at (term later id))) (seen_Constant (noted later) (literal.Number n)) ∙ ap (λ (u : Term). p.exp (note at u) (p.Constant (p.Number n))) i)))

module _ (x : Site) (n : ℕ) (c : Scopes) (k : Checker) where
  abbrev pub opposite : ℕ → View → Judgement Typed
  opposite at v = Number (definitions v) x.at (wanted_in v x.wanted) kinds.Int (neg_ℤ (pos n)) (p.Negative (typed at nat (p.Constant (p.Number n))))

  pub negative_made : (at : ℕ) (node : Given) (l m : Checker) (r : Result Given Refusal) → Makes k l (IsNumberNode at n node)
      → Comes (λ v. Number (definitions v) x.at (wanted_in v x.wanted) kinds.Int (neg_ℤ (pos n)) (p.Negative (typed_in node v.later))) c l c m r → Comes (opposite at) c k c m r
  negative_made at node l m r h g =
      after typed_in kind_reached (opposite at) c c c k l m r h.goes h.stands refl
      (seen_as typed_in kind_reached (opposite at) (λ v. Number (definitions v) x.at (wanted_in v x.wanted) kinds.Int (neg_ℤ (pos n)) (p.Negative (typed_in node v.later))) c c l m r
      (λ later z. ap (λ (a : Typed). Number (definitions (view later l.types.listed c)) x.at (wanted_in (view later l.types.listed c) x.wanted) kinds.Int (neg_ℤ (pos n)) (p.Negative a)) (sym (h.is later z))) g)

  pub number_negated : (a : value.Expression ℕ) (o : Option ℕ) (d : Scopes) (m : Checker) (r : Result Given Refusal) → o ≡ plain_number (plain a) → o ≡ Some n → Comes (opposite a.note) c k d m r → Comes (rule x (p.Negative (plain a))) c k d m r
  number_negated a o d m r h g i =
      seen_as typed_in kind_reached (rule x (p.Negative (plain a))) (opposite a.note) c d k m r
      (λ later z.
      ap (λ (q : Option ℕ). Case q (λ n. Number (definitions (view later k.types.listed c)) x.at (wanted_in (view later k.types.listed c) x.wanted) kinds.Int (neg_ℤ (pos n)) (p.Negative (typed (place (plain a)) nat (p.Constant (p.Number n)))))
      (λ _. Negative (definitions (view later k.types.listed c)) x.at (wanted_in (view later k.types.listed c) x.wanted) (part_of x (plain a) (view later k.types.listed c)))) (sym h ∙ g)
      ∙ ap (λ (y : Expression ℕ). opposite (place y) (view later k.types.listed c)) (expression_is a)) i

-- ---- an expression

module _ (x : Site) (a : Expression ℕ) where
  abbrev part : View → Judgement Typed
  part v = part_of x a v None

  abbrev rest : View → Typed → Judgement Typed
  rest v b = IsGiven condition.BadOperator x.at (negated_of (head (definitions v) (type_of b))) (λ j. Has x.at (wanted_in v x.wanted) (t.Number j) (p.Negative b))

  abbrev pub by_operand : View → Judgement Typed
  by_operand v = Part (part v) (rest v)

  pub no_operand : (c d : Scopes) (k l : Checker) (y : Refusal) (r : Result Given Refusal) → IsErr r × IsErrAnd r (λ z. z ≡ y) → Comes part c k d l (Err y) → Comes by_operand c k d l r
  no_operand c d k l y r h g = part_refused part rest c d k l y r h g

  module _ (c d : Scopes) (k l : Checker) (b : Given) (f : Comes part c k d l (Ok b)) (o : Option Kind) (h : HeadHas negated_of l.types b.note.kind (λ later. o)) where
    abbrev negated : View → Kind → Judgement Typed
    negated v j = Has x.at (wanted_in v x.wanted) (t.Number j) (p.Negative (typed_in b v.later))

    abbrev kind_in : View → Option Kind
    kind_in v = negated_of (head (definitions v) (type_of (typed_in b v.later)))

    kind_is : (later : List Form) → Later l.types.forms later → kind_in (view later l.types.listed d) ≡ o
    kind_is later z = ap (λ (u : Term). negated_of (head (definitions (view later l.types.listed d)) u)) (type_is b later) ∙ h later z

    pub is_negated : (j : Kind) (m : Checker) (r : Result Given Refusal) → o ≡ Some j → Comes (λ v. negated v j) d l d m r → Comes by_operand c k d m r
    is_negated j m r y g = part_given part rest c d d k l m b r f (given_some typed_in kind_reached kind_in d d l m r condition.BadOperator x.at negated (λ later. j) (λ later z. kind_is later z ∙ y) g)

    pub not_negated : o ≡ None → Comes by_operand c k d l (Err (refusal.False x.at condition.BadOperator))
    not_negated y =
        part_given part rest c d d k l l b (Err (refusal.False x.at condition.BadOperator)) f
        (given_none typed_in kind_reached condition.BadOperator x.at kind_in d l negated (λ later z. kind_is later z ∙ y))

  abbrev pub fitted_operand : View → Judgement Typed
  fitted_operand v = part_of x a v (wanted_in v x.wanted)

  abbrev pub made_as : TermId → View → Typed → Judgement Typed
  made_as id v b = Gives (typed x.at (term v.later id) (p.Negative b))

  module _ (c d : Scopes) (k l : Checker) (r : Result Given Refusal) (o : Option (TermId × Kind)) (h : WantedHas signed_of k.types x.wanted (λ later j. j) o) where
    abbrev opposed : View → Judgement Typed
    opposed v = Negative (definitions v) x.at (wanted_in v x.wanted) (part_of x a v)

    abbrev fits : View → Term × Kind → Judgement Typed
    fits v q = Part (fitted_operand v) (λ b. Gives (typed x.at q.0 (p.Negative b)))

    abbrev alone : View → Unit {0} → Judgement Typed
    alone v u = by_operand v

    pub signed_wanted : (id : TermId) (j : Kind) → o ≡ Some (id, j) → Comes (λ v. Part (fitted_operand v) (made_as id v)) c k d l r → Comes opposed c k d l r
    signed_wanted id j y g = as_wanted typed_in kind_reached signed_of (λ later m. m) x.wanted fits alone c d k l r o h id j y g

    pub none_wanted : o ≡ None → Comes by_operand c k d l r → Comes opposed c k d l r
    none_wanted y g = unwanted typed_in kind_reached signed_of (λ later m. m) x.wanted fits alone c d k l r o h y g

-- where it is no number without a sign
pub expression_negated : (x : Site) (a : Expression ℕ) (o : Option ℕ) (c d : Scopes) (k m : Checker) (r : Result Given Refusal) → o ≡ plain_number a → o ≡ None
    → Comes (λ v. Negative (definitions v) x.at (wanted_in v x.wanted) (part_of x a v)) c k d m r → Comes (rule x (p.Negative a)) c k d m r
expression_negated x a o c d k m r h g i =
    seen_as typed_in kind_reached (rule x (p.Negative a)) (λ v. Negative (definitions v) x.at (wanted_in v x.wanted) (part_of x a v)) c d k m r
    (λ later z.
    ap (λ (q : Option ℕ). Case q (λ n. Number (definitions (view later k.types.listed c)) x.at (wanted_in (view later k.types.listed c) x.wanted) kinds.Int (neg_ℤ (pos n)) (p.Negative (typed (place a) nat (p.Constant (p.Number n)))))
    (λ _. Negative (definitions (view later k.types.listed c)) x.at (wanted_in (view later k.types.listed c) x.wanted) (part_of x a (view later k.types.listed c)))) (sym h ∙ g)) i
