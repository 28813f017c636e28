-- The rules keep what they are told of parts: a relation that implies another makes heads below that the other makes below.
use Rattle.std.proofs.Common.{inl, inr, ℕ, List, [], ◌∷◌, Bool, true, false, Option, Some, None, nat_eq}
use Rattle.mo_types.specs.declared.node.Node.{Node}
use Rattle.mo_types.specs.declared.node.Node.TheVariants as node
use Rattle.mo_types.specs.declared.node.Field.{Field}
use Rattle.mo_types.specs.Heads.{variable_of}
use Rattle.mo_types.specs.Sub.{AtSome, Unless, Each, Pairwise, find, NodeBelow, HeadBelow, FieldsBelow, TagsBelow, Fitting, VariableBelow}

pub at_map : {X : Type 0} (o : Option X) (P Q : X → Type 0) → ((x : X) → P x → Q x) → AtSome o P → AtSome o Q
at_map None P Q f h = h
at_map (Some x) P Q f h = f x h

pub each_map : {X : Type 0} (P Q : X → Type 0) → ((x : X) → P x → Q x) → (xs : List X) → Each P xs → Each Q xs
each_map P Q f [] h = tt
each_map P Q f (x ∷ xs) h = (f x h.0, each_map P Q f xs h.1)

pub unless_map : (b : Bool) (P Q : Type 0) → (P → Q) → Unless b P → Unless b Q
unless_map true P Q f h = tt
unless_map false P Q f h = f h

pub unless : (b : Bool) (P : Type 0) → P → Unless b P
unless true P h = tt
unless false P h = h

module _ {A : Type 0} (R S : A → A → Type 0) (f : (t u : A) → R t u → S t u) where
  pairs_map : (xs ys : List A) → Pairwise R xs ys → Pairwise S xs ys
  pairs_map [] [] h = tt
  pairs_map [] (y ∷ ys) h = absurd h
  pairs_map (x ∷ xs) [] h = absurd h
  pairs_map (x ∷ xs) (y ∷ ys) h = (f x y h.0, pairs_map xs ys h.1)

  fitting_map : (a b : Field A) (m n : Bool) → Fitting R a b m n → Fitting S a b m n
  fitting_map a b true true h = (f a.part b.part h.0, f b.part a.part h.1)
  fitting_map a b false false h = f a.part b.part h
  fitting_map a b true false h = h
  fitting_map a b false true h = h

  fields_map : (fs gs : List (Field A)) → FieldsBelow R fs gs → FieldsBelow S fs gs
  fields_map fs gs h = each_map _ _ (λ g. at_map (find g.label fs) _ _ (λ a. fitting_map a g a.mutable g.mutable)) gs h

  tags_map : (fs gs : List (Field A)) → TagsBelow R fs gs → TagsBelow S fs gs
  tags_map fs gs h = each_map _ _ (λ a. at_map (find a.label gs) _ _ (λ b. f a.part b.part)) fs h

  variable_map : (b u : A) (o : Option ℕ) (v : ℕ) → VariableBelow R b u o v → VariableBelow S b u o v
  variable_map b u None v h = f b u h
  variable_map b u (Some w) v h = unless_map (nat_eq v w) (R b u) (S b u) (f b u) h

  pub head_map : (u : A) (x y : Node A) → HeadBelow R u x y → HeadBelow S u x y
  head_map u (node.Opt a) (node.Opt b) h = f a b h
  head_map u (node.Opt a) y h = absurd h
  head_map u (node.Array a) (node.Array b) h = f a b h
  head_map u (node.Array a) y h = absurd h
  head_map u (node.MutArray a) (node.MutArray b) h = (f a b h.0, f b a h.1)
  head_map u (node.MutArray a) y h = absurd h
  head_map u (node.Tuple ts) (node.Tuple us) h = pairs_map ts us h
  head_map u (node.Tuple ts) y h = absurd h
  head_map u (node.Object fs) (node.Object gs) h = fields_map fs gs h
  head_map u (node.Object fs) y h = absurd h
  head_map u (node.Actor fs) (node.Actor gs) h = fields_map fs gs h
  head_map u (node.Actor fs) y h = absurd h
  head_map u (node.Variant fs) (node.Variant gs) h = tags_map fs gs h
  head_map u (node.Variant fs) y h = absurd h
  head_map u (node.Func s ps rs) (node.Func r qs ss) h = (h.0, pairs_map qs ps h.1, pairs_map rs ss h.2)
  head_map u (node.Func s ps rs) y h = absurd h
  head_map u (node.Async a) (node.Async b) h = f a b h
  head_map u (node.Async a) y h = absurd h
  head_map u (node.Variable v b) y h = variable_map b u (variable_of y) v h
  head_map u x y h = h

  pub node_map : (u : A) (x y : Node A) → NodeBelow R u x y → NodeBelow S u x y
  node_map u x y (inl e) = inl e
  node_map u x y (inr h) = inr (head_map u x y h)
