-- What holds where some type parameters are in scope holds where more are.
use Rattle.std.proofs.Common.{inl, inr, ℕ, zero, suc, List, [], ◌∷◌, ◌++◌}
use Rattle.mo_types.specs.declared.node.Node.{Node}
use Rattle.mo_types.specs.declared.node.Node.TheVariants as node
use Rattle.mo_types.specs.Sub.{Each}
use Rattle.typed_tree.specs.Instances.{IsAmong, types_in, ParameterAmong, Mentions, MentionsOnly}
use Rattle.typing_rules.specs.Definitions.{Definitions}
use Rattle.typing_rules.specs.Heads.{head}
use Rattle.typing_rules.specs.Terms.{Term}
use Rattle.desugaring_laws.specs.Known.{IsFine, IsKnown}

pub each_more : {A : Type 0} (P Q : A → Type 0) → ((x : A) → P x → Q x) → (xs : List A) → Each P xs → Each Q xs
each_more P Q f [] h = tt
each_more P Q f (x ∷ xs) h = (f x h.0, each_more P Q f xs h.1)

pub among_behind : {A : Type 0} (xs ys : List A) (x : A) → IsAmong x ys → IsAmong x (xs ++ ys)
among_behind [] ys x m = m
among_behind (y ∷ xs) ys x m = inr (among_behind xs ys x m)

pub among_between : {A : Type 0} (xs ys zs : List A) (x : A) → IsAmong x (xs ++ zs) → IsAmong x (xs ++ (ys ++ zs))
among_between [] ys zs x m = among_behind ys zs x m
among_between (y ∷ xs) ys zs x (inl e) = inl e
among_between (y ∷ xs) ys zs x (inr m) = inr (among_between xs ys zs x m)

module _ (vs ws : List ℕ) (sub : (v : ℕ) → IsAmong v vs → IsAmong v ws) where
  parameter_more : {A : Type 0} (y : Node A) → ParameterAmong vs y → ParameterAmong ws y
  parameter_more (node.Number k) h = tt
  parameter_more node.Bool h = tt
  parameter_more node.Char h = tt
  parameter_more node.Text h = tt
  parameter_more node.Blob h = tt
  parameter_more node.Principal h = tt
  parameter_more node.Error h = tt
  parameter_more node.Null h = tt
  parameter_more node.Any h = tt
  parameter_more node.Bottom h = tt
  parameter_more (node.Opt a) h = tt
  parameter_more (node.Array a) h = tt
  parameter_more (node.MutArray a) h = tt
  parameter_more (node.Tuple ts) h = tt
  parameter_more (node.Object fs) h = tt
  parameter_more (node.Actor fs) h = tt
  parameter_more (node.Variant fs) h = tt
  parameter_more (node.Func s ps rs) h = tt
  parameter_more (node.Async a) h = tt
  parameter_more (node.Variable v b) h = sub v h

  mentions_more : {A : Type 0} (f : A → Node A) (n : ℕ) (u : A) → Mentions f vs n u → Mentions f ws n u
  unfolding Mentions
  mentions_more f zero u h = tt
  mentions_more f (suc n) u h = (parameter_more (f u) h.0, each_more (Mentions f vs n) (Mentions f ws n) (λ v k. mentions_more f n v k) (types_in (f u)) h.1)

  pub scoped_more : {A : Type 0} (f : A → Node A) (u : A) → MentionsOnly f vs u → MentionsOnly f ws u
  scoped_more f u h = record { by = λ n. mentions_more f n u (h.by n) }

  pub fine_more : (defs : Definitions) (u : Term) → IsFine defs vs u → IsFine defs ws u
  fine_more defs u k = record { scoped = scoped_more (head defs) u k.scoped; no_future = k.no_future }

  pub known_more : (defs : Definitions) (terms : List Term) (u : Term) → IsKnown defs terms vs u → IsKnown defs terms ws u
  known_more defs terms u k = record { there = k.there; fine = fine_more defs u k.fine }
