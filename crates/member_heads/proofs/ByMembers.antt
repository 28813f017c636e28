-- Rules by what the head has by which the members of a part go.
use Rattle.std.proofs.Common.{◌≡◌, ◌∙◌, ℕ, Bool, List, Err, Option, Some, None, option_map, refl, ap}
use Rattle.std.specs.Prelude.{Result}
use Rattle.std.specs.Option.{option_and_then}
use Rattle.mo_types.specs.declared.node.Field.{Field}
use Rattle.mo_types.specs.declared.node.Node.{Node}
use Rattle.type_terms.specs.declared.form.Form.{Form}
use Rattle.typing_rules.specs.declared.condition.Condition.{Condition}
use Rattle.typing_rules.specs.Heads.{members_head}
use Rattle.typing_rules.specs.Judgements.{Judgement, Given as IsGiven}
use Rattle.typing_rules.specs.Terms.{Term}
use Rattle.typing_rules.specs.TypedTrees.{Typed, type_of}
use Rattle.type_definitions.specs.Definitions.{rules_in}
use Rattle.type_judgements.specs.declared.refusal.Refusal.{Refusal}
use Rattle.type_judgements.specs.declared.refusal.Refusal.TheVariants as refusal
use Rattle.value_scopes.specs.declared.scopes.Scopes.{Scopes}
use Rattle.judging.specs.declared.checker.Checker.{Checker}
use Rattle.judging.specs.Views.{View, definitions, typed_in, kind_reached}
use Rattle.judging.proofs.Cases.{given_none, given_some}
use Rattle.judging.proofs.Forms.{type_is}
use Rattle.judging.proofs.TypedParts.{Given, Comes}
use Rattle.member_heads.specs.Members.{MembersHave, seen_field}

module _ {X : Type 0} (of : Node Term → Option X) (q : Condition) (at : ℕ) (g : Given) (j : View → X → Judgement Typed) (d : Scopes) (l : Checker) where
  abbrev pub by_members : View → Judgement Typed
  by_members v = IsGiven q at (of (members_head (definitions v) (type_of (typed_in g v.later)))) (j v)

  pub member_given : (show : List Form → X) → MembersHave of l.types g.note.kind (λ later. Some (show later)) → (e : Scopes) (m : Checker) (r : Result Given Refusal) → Comes (λ v. j v (show v.later)) d l e m r
      → Comes by_members d l e m r
  member_given show h e m r i =
      given_some typed_in kind_reached (λ v. of (members_head (definitions v) (type_of (typed_in g v.later)))) d e l m r q at j show
      (λ later w. ap (λ (u : Term). of (members_head (rules_in later l.types.listed) u)) (type_is g later) ∙ h later w) i

  pub no_member : MembersHave of l.types g.note.kind (λ later. None) → Comes by_members d l d l (Err (refusal.False at q))
  no_member h =
      given_none typed_in kind_reached q at (λ v. of (members_head (definitions v) (type_of (typed_in g v.later)))) d l j
      (λ later w. ap (λ (u : Term). of (members_head (rules_in later l.types.listed) u)) (type_is g later) ∙ h later w)

-- one condition for both
pub two_given : {A X Y : Type 0} (q : Condition) (at : ℕ) (f : X → Option Y) (o : Option X) (k : Y → Judgement A) → IsGiven q at o (λ x. IsGiven q at (f x) k) ≡ IsGiven q at (option_and_then f o) k
two_given q at f None k = refl
two_given q at f (Some x) k = refl

-- a field by whether it is a `var` field, and its type
pub by_flag : {A : Type 0} (q : Condition) (at : ℕ) (o : Option (Field Term)) (k : Bool → Term → Judgement A) → IsGiven q at o (λ f. k f.mutable f.part) ≡ IsGiven q at (option_map seen_field o) (λ z. k z.0 z.1)
by_flag q at None k = refl
by_flag q at (Some f) k = refl
