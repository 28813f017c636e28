-- What is called, and what a call gives (Motoko language manual, sections "Function calls", "Type parameters" and "For").
use Rattle.std.specs.Prelude.{ℕ, List, [], ◌∷◌, length, map, nat_eq, codes, Option, Some, None}
use Rattle.std.specs.Option.{option_and_then}
use Rattle.mo_scopes.specs.declared.library.Member.{Member}
use Rattle.mo_types.specs.declared.node.Node.{Node}
use Rattle.mo_types.specs.declared.node.Node.TheVariants as node
use Rattle.mo_types.specs.declared.node.Sort.{Sort}
use Rattle.mo_types.specs.declared.node.Sort.TheVariants as sort
use Rattle.typing_rules.specs.declared.condition.Condition.TheVariants as condition
use Rattle.typing_rules.specs.AbstractSyntax.{Bytes, TypeNode, Expression, Form}
use Rattle.typing_rules.specs.AbstractSyntax as p
use Rattle.typing_rules.specs.Terms.{Term, zipped, with_arguments}
use Rattle.typing_rules.specs.Terms as t
use Rattle.typing_rules.specs.Definitions.{Definitions, bound_at}
use Rattle.typing_rules.specs.Heads.{head, result}
use Rattle.typing_rules.specs.Judgements.{Question, Judgement, Gives, Part, Tests, MeetsEach, NeedsEach, IsBelow}
use Rattle.typing_rules.specs.TypeScopes.{TypeScope}
use Rattle.typing_rules.specs.Types.{ReadsEach}
use Rattle.typing_rules.specs.Contexts.{Context, Bound, value_named, module_member}
use Rattle.typing_rules.specs.Members.{member_bound, constant_field}
use Rattle.typing_rules.specs.TypedTrees.{Note}

-- the module's member that `a.x` is
abbrev pub built_in : Context → Expression ℕ → Bytes → Option Member
built_in e (p.exp at (p.Name m)) x = module_member e m x
built_in e _ x = None

-- a function with type parameters, and the form of its name
abbrev pub if_generic : Bound → Form Note → Option (Bound × Form Note)
if_generic b f = several b.generics
  where
    several : List ℕ → Option (Bound × Form Note)
    several [] = None
    several _ = Some (b, f)

abbrev pub polymorphic : Context → Expression ℕ → Option (Bound × Form Note)
polymorphic e (p.exp at (p.Name x)) = option_and_then (λ b. if_generic b (p.Name x)) (value_named e x)
polymorphic e (p.exp at (p.Member a x)) = option_and_then (λ m. if_generic (member_bound m) (p.BuiltIn m)) (built_in e a x)
polymorphic e _ = None

abbrev pub local_of : Node Term → Option (List Term × Term)
local_of (node.Func sort.Local parameters results) = Some (parameters, result results)
local_of _ = None

-- what a call gives
abbrev pub called : Sort → List Term → Term
called sort.Local results = result results
called _ results = t.Async (result results)

module _ (defs : Definitions) where
  -- the bounds of parameters, in which all arguments are put
  abbrev pub bound_terms : List (ℕ × Term) → List (ℕ × Term) → List Term
  bound_terms all arguments = map (λ q. with_arguments all (bound_at defs.parameters q.0)) arguments

  -- each argument is below its bound
  abbrev pub bound_questions : List (ℕ × Term) → List (ℕ × Term) → List Question
  bound_questions all arguments = map (λ q. IsBelow q.1 (with_arguments all (bound_at defs.parameters q.0))) arguments

  -- the type of a function at all its type arguments
  abbrev pub Instance : ℕ → TypeScope → Bound → List TypeNode → Judgement Term
  Instance at s b types =
      Tests condition.TypeArguments at (nat_eq (length types) (length b.generics)) (Part (ReadsEach defs s types) (λ us.
      MeetsEach (bound_terms (zipped b.generics us) (zipped b.generics us))
      (NeedsEach condition.Bound at (bound_questions (zipped b.generics us) (zipped b.generics us)) (Gives (with_arguments (zipped b.generics us) b.type)))))

  -- ---- `next : () -> ?T`

  abbrev pub item_of : Node Term → Option Term
  item_of (node.Opt u) = Some u
  item_of node.Null = Some t.Bottom
  item_of node.Bottom = Some t.Bottom
  item_of _ = None

  abbrev pub gives_item : Option (List Term × Term) → Option Term
  gives_item None = None
  gives_item (Some ([], r)) = item_of (head defs r)
  gives_item (Some (u ∷ us, r)) = None

  -- what `for` goes over, where a value of this head has a `next` that is no `var` field
  abbrev pub items_of : Node Term → Option Term
  items_of y = gives_item (option_and_then (λ f. local_of (head defs f.part)) (constant_field (codes "next") y))
