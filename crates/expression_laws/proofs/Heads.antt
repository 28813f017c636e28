-- Types of values by their heads.
use Rattle.std.proofs.Common.{◌≡◌, ℕ, zero, suc, List, [], ◌∷◌, None, refl, sym, ap, ◌∙◌, subst}
use Rattle.mo_num.specs.declared.kind.Kind.{Kind}
use Rattle.mo_types.specs.declared.node.Node.{Node}
use Rattle.mo_types.specs.declared.node.Node.TheVariants as node
use Rattle.mo_types.specs.declared.node.Sort.TheVariants as sort
use Rattle.mo_types.specs.Heads.{async_of}
use Rattle.mo_types.specs.Sub.{Each}
use Rattle.subtype_laws.specs.Reached.{Among}
use Rattle.typed_tree.specs.Instances.{types_in, ParameterAmong, Mentions, MentionsOnly}
use Rattle.typing_rules.specs.Definitions.{Definitions}
use Rattle.typing_rules.specs.Heads.{head}
use Rattle.typing_rules.specs.Terms.{Term, Terms, Fields, listed, unlisted, listed_fields}
use Rattle.typing_rules.specs.Terms as t
use Rattle.desugaring_laws.specs.Known.{IsFine}
use Rattle.desugaring_laws.proofs.Graph.{each_among}

pub listed_back : (us : List Term) → listed (unlisted us) ≡ us
listed_back [] = refl
listed_back (v ∷ us) = ap (λ l. v ∷ l) (listed_back us)

module _ (defs : Definitions) where
  pub boolean_head : head defs t.Boolean ≡ node.Bool
  unfolding head
  boolean_head = refl

  pub character_head : head defs t.Character ≡ node.Char
  unfolding head
  character_head = refl

  pub text_head : head defs t.Text ≡ node.Text
  unfolding head
  text_head = refl

  pub null_head : head defs t.Null ≡ node.Null
  unfolding head
  null_head = refl

  pub error_head : head defs t.Error ≡ node.Error
  unfolding head
  error_head = refl

  pub bottom_head : head defs t.Bottom ≡ node.Bottom
  unfolding head
  bottom_head = refl

  pub number_head : (k : Kind) → head defs (t.Number k) ≡ node.Number k
  unfolding head
  number_head k = refl

  pub option_head : (u : Term) → head defs (t.Optional u) ≡ node.Opt u
  unfolding head
  option_head u = refl

  pub array_head : (u : Term) → head defs (t.Array u) ≡ node.Array u
  unfolding head
  array_head u = refl

  pub mutable_array_head : (u : Term) → head defs (t.MutableArray u) ≡ node.MutArray u
  unfolding head
  mutable_array_head u = refl

  pub tuple_head : (us : Terms) → head defs (t.Tuple us) ≡ node.Tuple (listed us)
  unfolding head
  tuple_head us = refl

  pub object_head : (fs : Fields) → head defs (t.Object fs) ≡ node.Object (listed_fields fs)
  unfolding head
  object_head fs = refl

  pub variant_head : (fs : Fields) → head defs (t.Variant fs) ≡ node.Variant (listed_fields fs)
  unfolding head
  variant_head fs = refl

  pub function_head : (ps : Terms) (r : Term) → head defs (t.Function ps r) ≡ node.Func sort.Local (listed ps) (r ∷ [])
  unfolding head
  function_head ps r = refl

  pub async_head : (u : Term) → head defs (t.Async u) ≡ node.Async u
  unfolding head
  async_head u = refl

  module _ (vs : List ℕ) where
    mentions_made : (u : Term) (y : Node Term) → head defs u ≡ y → ParameterAmong vs y → ((v : Term) → Among v (types_in y) → MentionsOnly (head defs) vs v) → (n : ℕ) → Mentions (head defs) vs n u
    unfolding Mentions
    mentions_made u y e p h zero = tt
    mentions_made u y e p h (suc n) = subst (λ x. ParameterAmong vs x × Each (Mentions (head defs) vs n) (types_in x)) (sym e) (p, each_among (Mentions (head defs) vs n) (types_in y) (λ v m. (h v m).by n))

    pub made_scoped : (u : Term) (y : Node Term) → head defs u ≡ y → ParameterAmong vs y → ((v : Term) → Among v (types_in y) → MentionsOnly (head defs) vs v) → MentionsOnly (head defs) vs u
    made_scoped u y e p h = record { by = mentions_made u y e p h }

    -- a type whose parts are in scope
    pub made_fine : (u : Term) (y : Node Term) → head defs u ≡ y → ParameterAmong vs y → async_of y ≡ None → ((v : Term) → Among v (types_in y) → MentionsOnly (head defs) vs v) → IsFine defs vs u
    made_fine u y e p a h = record { scoped = made_scoped u y e p h; no_future = ap async_of e ∙ a }

    pub boolean_fine : IsFine defs vs t.Boolean
    boolean_fine = made_fine t.Boolean node.Bool boolean_head tt refl (λ v m. absurd m)

    pub character_fine : IsFine defs vs t.Character
    character_fine = made_fine t.Character node.Char character_head tt refl (λ v m. absurd m)

    pub text_fine : IsFine defs vs t.Text
    text_fine = made_fine t.Text node.Text text_head tt refl (λ v m. absurd m)

    pub null_fine : IsFine defs vs t.Null
    null_fine = made_fine t.Null node.Null null_head tt refl (λ v m. absurd m)

    pub error_fine : IsFine defs vs t.Error
    error_fine = made_fine t.Error node.Error error_head tt refl (λ v m. absurd m)

    pub bottom_fine : IsFine defs vs t.Bottom
    bottom_fine = made_fine t.Bottom node.Bottom bottom_head tt refl (λ v m. absurd m)

    pub number_fine : (k : Kind) → IsFine defs vs (t.Number k)
    number_fine k = made_fine (t.Number k) (node.Number k) (number_head k) tt refl (λ v m. absurd m)
