-- Actor references: their texts, and types of actors.
use Rattle.std.proofs.Common.{◌≡◌, ◌∙◌, inl, inr, ℕ, Bool, List, Option, Some, None, is_some, refl, sym, ap, subst}
use Rattle.std.specs.Prelude.{MatchOption}
use Rattle.mo_num.specs.PrincipalText.{IsPrincipal, IsTextOf}
use Rattle.mo_types.specs.declared.node.Node.{Node}
use Rattle.mo_types.specs.declared.node.Node.TheVariants as node
use Rattle.mo_types.specs.declared.node.TypeId.{TypeId}
use Rattle.mo_types.specs.Heads.{actor_of, map_option}
use Rattle.mo_subtype.specs.Renamed.{on_node}
use Rattle.type_terms.specs.declared.form.TermId.{TermId}
use Rattle.typing_rules.specs.declared.condition.Condition.TheVariants as condition
use Rattle.typing_rules.specs.AbstractSyntax.{Bytes, Expression}
use Rattle.typing_rules.specs.AbstractSyntax as p
use Rattle.typing_rules.specs.Answers.{IsPrincipalText, fault}
use Rattle.typing_rules.specs.Expressions.{actor_text}
use Rattle.typing_rules.specs.Graphs.{term_of}
use Rattle.typing_rules.specs.Judgements.{Fine, Needs}
use Rattle.typing_rules.specs.Judgements as j
use Rattle.typing_rules.specs.Terms.{Term}
use Rattle.met_types.specs.Closing.{terms_in}
use Rattle.met_types.specs.States.{State, IsNodeOf, IsSo}
use Rattle.type_judgements.specs.Judged.{Gave, Names}
use Rattle.expression_shapes.specs.Shapes.{Shape, ActorReference, shape_of}
use Rattle.annotation_rules.specs.Actors.{IsActorAnswer}

abbrev pub text_in : Shape → Option Bytes
text_in (ActorReference x) = Some x
text_in _ = None

pub text_is : (a : Expression ℕ) → text_in (shape_of a) ≡ actor_text a
text_is (p.exp at (p.ActorReference x)) = refl
text_is (p.exp at _) = refl

-- ---- types of actors

pub there_seen : {A B : Type 0} (f : A → B) (o : Option A) → is_some (map_option f o) ≡ is_some o
there_seen f None = refl
there_seen f (Some a) = refl

actor_mapped : {A B : Type 0} (f : A → B) (y : Node A) → is_some (actor_of (on_node f y)) ≡ is_some (actor_of y)
actor_mapped f (node.Actor fs) = refl
actor_mapped f _ = refl

pub actor_there : (s : State) (id : TermId) (n : Node TypeId) → IsNodeOf s id n → (b : Bool) → b ≡ is_some (actor_of n) → IsActorAnswer s id b
actor_there s id n h b e later l = ap (λ (y : Node Term). is_some (actor_of y)) (h.is later l) ∙ (actor_mapped (term_of (terms_in later s.reached)) n ∙ sym e)

-- ---- texts of principals

pub read_is : (text : List ℕ) (o : Option (List ℕ)) (b : Bool) → b ≡ is_some o → MatchOption o ((q : List ℕ) → IsPrincipal q → IsTextOf q text → ⊥) (λ q. IsPrincipal q × IsTextOf q text) → IsSo b (IsPrincipalText text)
read_is text None b e h = subst (λ (x : Bool). IsSo x (IsPrincipalText text)) (sym e) (λ q. h q.0 q.1 q.2)
read_is text (Some q) b e h = subst (λ (x : Bool). IsSo x (IsPrincipalText text)) (sym e) (q, h.0, h.1)

module _ (s : State) (text : List ℕ) (place : ℕ) where
  pub principal_there : IsPrincipalText text → Gave (λ later. Needs condition.BadPrincipal place (j.IsPrincipal text) Fine) s s (λ later. tt)
  principal_there h = record { by = λ met st later l. (met, st, inl (h, refl)) }

  pub no_principal : (IsPrincipalText text → ⊥) → Names (λ later. Needs condition.BadPrincipal place (j.IsPrincipal text) Fine) s s (fault condition.BadPrincipal place)
  no_principal h = record { by = λ met st later l. (met, inr (h, refl)) }
