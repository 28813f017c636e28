-- Instances of the types of functions with type parameters.
use Rattle.std.proofs.Common.{◌≡◌, ◌≢◌, ◌⊎◌, inl, inr, ℕ, zero, suc, Bool, true, false, List, [], ◌∷◌, ◌++◌, length, map, Option, Some, None, refl, sym, ap, ◌∙◌, subst, arith}
use Rattle.std.proofs.lemmas.Bool.{eqb-true}
use Rattle.std.proofs.Math.Dec.{eqb-suc-suc}
use Rattle.std.specs.Prelude.{cond, nat_eq, option_map}
use Rattle.mo_types.specs.declared.node.Field.{Field}
use Rattle.mo_types.specs.declared.node.Node.{Node}
use Rattle.mo_types.specs.declared.node.Node.TheVariants as node
use Rattle.mo_types.specs.declared.node.Sort.TheVariants as sort
use Rattle.mo_types.specs.declared.node.TypeId.{TypeId}
use Rattle.mo_types.specs.Graph.{head_at}
use Rattle.mo_types.specs.Heads.{async_of, variable_of}
use Rattle.mo_types.specs.Sub.{Sub, NodeBelow, IsSubtype, Each, Pairwise}
use Rattle.mo_subtype.specs.Renamed.{on_field, on_node}
use Rattle.subtype_laws.specs.Reached.{Among}
use Rattle.typed_tree.specs.Instances.{IsAmong, field_types, types_in, ParameterAmong, Mentions, MentionsOnly, argument_of, FieldsAlike, FormsAlike, BecomesArgument, Becomes, PutIn, IsInstance, AreWithinBounds}
use Rattle.typed_tree.specs.Shareable.{IsShareable, HasShareableForm, Shares}
use Rattle.typed_tree.specs.Types.{IsLawfulNode}
use Rattle.typed_tree.specs.Wants.{Below}
use Rattle.typing_rules.specs.Definitions.{bound_at}
use Rattle.typing_rules.specs.Heads.{head}
use Rattle.typing_rules.specs.Terms.{Term, put_in, argument_or_itself, zipped}
use Rattle.typing_rules.specs.Terms as t
use Rattle.desugaring_laws.specs.Known.{IsKnown}
use Rattle.desugaring_laws.proofs.Graph.{head_number, parts_there, below_number, parameter_at}
use Rattle.expression_laws.proofs.Ending.{Setting, self}
use Rattle.function_laws.proofs.Putting.{IsParameterOf, IsFormOf, HasPlainResults, HasOneResult, put_head}

-- ---- arguments

pub eqb-self : (n : ℕ) → nat_eq n n ≡ true
eqb-self zero = refl
eqb-self (suc n) = eqb-suc-suc n n ∙ eqb-self n

nat_turned : (m n : ℕ) → nat_eq m n ≡ true → nat_eq n m ≡ true
nat_turned m n e = subst (λ k. nat_eq k m ≡ true) (eqb-true m n e) (eqb-self m)

nat_same : (m n : ℕ) (b : Bool) → nat_eq m n ≡ b → nat_eq n m ≡ b
nat_same m n true e = nat_turned m n e
nat_same m n false e = by (nat_eq n m) refl where
  by : (c : Bool) → nat_eq n m ≡ c → nat_eq n m ≡ false
  by true h = let r : true ≡ false = sym (nat_turned n m h) ∙ e in absurd (let z : true ≡ false = r in cc)
  by false h = h

-- what is put in place of a parameter is its argument, or itself
abbrev Argument : Option Term → Term → ℕ → Type 0
Argument None u v = u ≡ t.Parameter v
Argument (Some a) u v = u ≡ a

arguments_are : (gs : List ℕ) (us : List Term) (v : ℕ) → Argument (argument_of gs us v) (argument_or_itself (zipped gs us) v) v
arguments_are [] us v = refl
arguments_are (g ∷ gs) [] v = refl
arguments_are (g ∷ gs) (u ∷ us) v = by (nat_eq v g) refl (arguments_are gs us v) where
  by : (b : Bool) → nat_eq v g ≡ b → Argument (argument_of gs us v) (argument_or_itself (zipped gs us) v) v → Argument (cond (nat_eq v g) (Some u) (argument_of gs us v)) (cond (nat_eq g v) u (argument_or_itself (zipped gs us) v)) v
  by true e h = subst (λ c. Argument (cond c (Some u) (argument_of gs us v)) (cond (nat_eq g v) u (argument_or_itself (zipped gs us) v)) v) (sym e)
      (ap (λ c. cond c u (argument_or_itself (zipped gs us) v)) (nat_same v g true e))
  by false e h =
      subst (λ c. Argument (cond c (Some u) (argument_of gs us v)) (cond (nat_eq g v) u (argument_or_itself (zipped gs us) v)) v) (sym e)
      (subst (λ c. Argument (argument_of gs us v) (cond c u (argument_or_itself (zipped gs us) v)) v) (sym (nat_same v g false e)) h)

arguments_mapped : {A B : Type 0} (f : A → B) (gs : List ℕ) (us : List A) (v : ℕ) → argument_of gs (map f us) v ≡ option_map f (argument_of gs us v)
arguments_mapped f [] us v = refl
arguments_mapped f (g ∷ gs) [] v = refl
arguments_mapped f (g ∷ gs) (u ∷ us) v = by (nat_eq v g) (arguments_mapped f gs us v) where
  by : (b : Bool) → argument_of gs (map f us) v ≡ option_map f (argument_of gs us v) → cond b (Some (f u)) (argument_of gs (map f us) v) ≡ option_map f (cond b (Some u) (argument_of gs us v))
  by true h = refl
  by false h = h

argument_among : (gs : List ℕ) (us : List Term) (v : ℕ) (a : Term) → argument_of gs us v ≡ Some a → Among a us
argument_among [] us v a h = cc
argument_among (g ∷ gs) [] v a h = cc
argument_among (g ∷ gs) (u ∷ us) v a h = by (nat_eq v g) h (λ e. argument_among gs us v a e) where
  by : (b : Bool) → cond b (Some u) (argument_of gs us v) ≡ Some a → (argument_of gs us v ≡ Some a → Among a us) → Among a (u ∷ us)
  by true e rest = let f : u ≡ a = cc in inl f
  by false e rest = inr (rest e)

no_argument : (gs : List ℕ) (us : List Term) (v : ℕ) → length us ≡ length gs → argument_of gs us v ≡ None → IsAmong v gs → ⊥
no_argument [] us v n h m = m
no_argument (g ∷ gs) [] v n h m = cc
no_argument (g ∷ gs) (u ∷ us) v n h m = by (nat_eq v g) refl h m (λ k i. no_argument gs us v (omega (arith, n)) k i) where
  by : (b : Bool) → nat_eq v g ≡ b → cond (nat_eq v g) (Some u) (argument_of gs us v) ≡ None → IsAmong v (g ∷ gs) → (argument_of gs us v ≡ None → IsAmong v gs → ⊥) → ⊥
  by true e k m rest = let q : Some u ≡ None = sym (ap (λ c. cond c (Some u) (argument_of gs us v)) e) ∙ k in cc
  by false e k (inl i) rest = let q : nat_eq v g ≡ true = subst (λ z. nat_eq v z ≡ true) i (eqb-self v) in let r : true ≡ false = sym q ∙ e in cc
  by false e k (inr m) rest = rest (sym (ap (λ c. cond c (Some u) (argument_of gs us v)) e) ∙ k) m

-- ---- types of one form

not_shareable : {A : Type 0} (f : A → Node A) (u : A) → IsShareable f u → variable_of (f u) ≡ None
unfolding Shares
not_shareable f u h = by (f u) ((h.by 1).0) where
  by : {A : Type 0} (y : Node A) → HasShareableForm y → variable_of y ≡ None
  by (node.Number k) h = refl
  by node.Bool h = refl
  by node.Char h = refl
  by node.Text h = refl
  by node.Blob h = refl
  by node.Principal h = refl
  by node.Error h = refl
  by node.Null h = refl
  by node.Any h = refl
  by node.Bottom h = refl
  by (node.Opt a) h = refl
  by (node.Array a) h = refl
  by (node.MutArray a) h = refl
  by (node.Tuple ts) h = refl
  by (node.Object fs) h = refl
  by (node.Actor fs) h = refl
  by (node.Variant fs) h = refl
  by (node.Func s ps rs) h = refl
  by (node.Async a) h = refl
  by (node.Variable v b) h = absurd h

variable_seen : {A B : Type 0} (f : A → B) (y : Node A) → variable_of (on_node f y) ≡ variable_of y
variable_seen f (node.Number k) = refl
variable_seen f node.Bool = refl
variable_seen f node.Char = refl
variable_seen f node.Text = refl
variable_seen f node.Blob = refl
variable_seen f node.Principal = refl
variable_seen f node.Error = refl
variable_seen f node.Null = refl
variable_seen f node.Any = refl
variable_seen f node.Bottom = refl
variable_seen f (node.Opt a) = refl
variable_seen f (node.Array a) = refl
variable_seen f (node.MutArray a) = refl
variable_seen f (node.Tuple ts) = refl
variable_seen f (node.Object fs) = refl
variable_seen f (node.Actor fs) = refl
variable_seen f (node.Variant fs) = refl
variable_seen f (node.Func s ps rs) = refl
variable_seen f (node.Async a) = refl
variable_seen f (node.Variable v b) = refl

pairs : {A B C : Type 0} (R : B → B → Type 0) (f : A → B) (g : A → C) (h : C → B) (xs : List A) → ((x : A) → Among x xs → R (f x) (h (g x))) → Pairwise R (map f xs) (map h (map g xs))
pairs R f g h [] r = tt
pairs R f g h (x ∷ xs) r = (r x (inl refl), pairs R f g h xs (λ y m. r y (inr m)))

field_pairs : {A B C : Type 0} (R : B → B → Type 0) (f : A → B) (g : A → C) (h : C → B) (fs : List (Field A)) → ((x : A) → Among x (field_types fs) → R (f x) (h (g x))) → FieldsAlike R (map (on_field f) fs) (map (on_field h) (map (on_field g) fs))
field_pairs R f g h [] r = tt
field_pairs R f g h (x ∷ fs) r = ((refl, refl, r x.part (inl refl)), field_pairs R f g h fs (λ y m. r y (inr m)))

among_left : {A : Type 0} (xs ys : List A) (x : A) → Among x xs → Among x (xs ++ ys)
among_left [] ys x m = absurd m
among_left (y ∷ xs) ys x (inl e) = inl e
among_left (y ∷ xs) ys x (inr m) = inr (among_left xs ys x m)

among_right : {A : Type 0} (xs ys : List A) (x : A) → Among x ys → Among x (xs ++ ys)
among_right [] ys x m = m
among_right (y ∷ xs) ys x m = inr (among_right xs ys x m)

-- a type with others put in its parts, seen in another collection, is of its form
alike : {A B C : Type 0} (R : B → B → Type 0) (f : A → B) (g : A → C) (h : C → B) (y : Node A) → variable_of y ≡ None → ((x : A) → Among x (types_in y) → R (f x) (h (g x))) → FormsAlike R (on_node f y) (on_node h (on_node g y))
alike R f g h (node.Number k) n r = refl
alike R f g h node.Bool n r = refl
alike R f g h node.Char n r = refl
alike R f g h node.Text n r = refl
alike R f g h node.Blob n r = refl
alike R f g h node.Principal n r = refl
alike R f g h node.Error n r = refl
alike R f g h node.Null n r = refl
alike R f g h node.Any n r = refl
alike R f g h node.Bottom n r = refl
alike R f g h (node.Opt a) n r = r a (inl refl)
alike R f g h (node.Array a) n r = r a (inl refl)
alike R f g h (node.MutArray a) n r = r a (inl refl)
alike R f g h (node.Tuple ts) n r = pairs R f g h ts r
alike R f g h (node.Object fs) n r = field_pairs R f g h fs r
alike R f g h (node.Actor fs) n r = field_pairs R f g h fs r
alike R f g h (node.Variant fs) n r = field_pairs R f g h fs r
alike R f g h (node.Func s ps rs) n r = (refl, pairs R f g h ps (λ x m. r x (among_left ps rs x m)), pairs R f g h rs (λ x m. r x (among_right ps rs x m)))
alike R f g h (node.Async a) n r = r a (inl refl)
alike R f g h (node.Variable v b) n r = cc

-- where it is no type parameter, it becomes a type of its form
becomes_alike : {A : Type 0} (f : A → Node A) (vs : List ℕ) (ts : List A) (R : A → A → Type 0) (u : A) (y z : Node A) → variable_of y ≡ None → FormsAlike R y z → Becomes f vs ts R u y z
becomes_alike f vs ts R u (node.Number k) z n h = h
becomes_alike f vs ts R u node.Bool z n h = h
becomes_alike f vs ts R u node.Char z n h = h
becomes_alike f vs ts R u node.Text z n h = h
becomes_alike f vs ts R u node.Blob z n h = h
becomes_alike f vs ts R u node.Principal z n h = h
becomes_alike f vs ts R u node.Error z n h = h
becomes_alike f vs ts R u node.Null z n h = h
becomes_alike f vs ts R u node.Any z n h = h
becomes_alike f vs ts R u node.Bottom z n h = h
becomes_alike f vs ts R u (node.Opt a) z n h = h
becomes_alike f vs ts R u (node.Array a) z n h = h
becomes_alike f vs ts R u (node.MutArray a) z n h = h
becomes_alike f vs ts R u (node.Tuple ts') z n h = h
becomes_alike f vs ts R u (node.Object fs) z n h = h
becomes_alike f vs ts R u (node.Actor fs) z n h = h
becomes_alike f vs ts R u (node.Variant fs) z n h = h
becomes_alike f vs ts R u (node.Func s ps rs) z n h = h
becomes_alike f vs ts R u (node.Async a) z n h = h
becomes_alike f vs ts R u (node.Variable v b) z n h = cc

among_image : {A B : Type 0} (g : A → B) (xs : List A) (x : A) → Among x xs → Among (g x) (map g xs)
among_image g [] x m = absurd m
among_image g (y ∷ xs) x (inl e) = inl (ap g e)
among_image g (y ∷ xs) x (inr m) = inr (among_image g xs x m)

fields_image : {A B : Type 0} (g : A → B) (fs : List (Field A)) (x : A) → Among x (field_types fs) → Among (g x) (field_types (map (on_field g) fs))
fields_image g [] x m = absurd m
fields_image g (f ∷ fs) x (inl e) = inl (ap g e)
fields_image g (f ∷ fs) x (inr m) = inr (fields_image g fs x m)

both_image : {A B : Type 0} (g : A → B) (xs ys : List A) (x : A) → Among x (xs ++ ys) → Among (g x) (map g xs ++ map g ys)
both_image g [] ys x m = among_image g ys x m
both_image g (y ∷ xs) ys x (inl e) = inl (ap g e)
both_image g (y ∷ xs) ys x (inr m) = inr (both_image g xs ys x m)

-- the types in a type with others put in its parts
parts_put : {A B : Type 0} (g : A → B) (y : Node A) (x : A) → Among x (types_in y) → Among (g x) (types_in (on_node g y))
parts_put g (node.Number k) x m = absurd m
parts_put g node.Bool x m = absurd m
parts_put g node.Char x m = absurd m
parts_put g node.Text x m = absurd m
parts_put g node.Blob x m = absurd m
parts_put g node.Principal x m = absurd m
parts_put g node.Error x m = absurd m
parts_put g node.Null x m = absurd m
parts_put g node.Any x m = absurd m
parts_put g node.Bottom x m = absurd m
parts_put g (node.Opt a) x m = among_image g (a ∷ []) x m
parts_put g (node.Array a) x m = among_image g (a ∷ []) x m
parts_put g (node.MutArray a) x m = among_image g (a ∷ []) x m
parts_put g (node.Tuple ts) x m = among_image g ts x m
parts_put g (node.Object fs) x m = fields_image g fs x m
parts_put g (node.Actor fs) x m = fields_image g fs x m
parts_put g (node.Variant fs) x m = fields_image g fs x m
parts_put g (node.Func s ps rs) x m = both_image g ps rs x m
parts_put g (node.Async a) x m = among_image g (a ∷ []) x m
parts_put g (node.Variable v b) x m = among_image g (b ∷ []) x m

types_put : {A B : Type 0} (g : A → B) (fs : List (Field A)) → field_types (map (on_field g) fs) ≡ map g (field_types fs)
types_put g [] = refl
types_put g (f ∷ fs) = ap (λ l. g f.part ∷ l) (types_put g fs)

map_both : {A B : Type 0} (g : A → B) (xs ys : List A) → map g xs ++ map g ys ≡ map g (xs ++ ys)
map_both g [] ys = refl
map_both g (x ∷ xs) ys = ap (λ l. g x ∷ l) (map_both g xs ys)

parts_are : {A B : Type 0} (g : A → B) (y : Node A) → types_in (on_node g y) ≡ map g (types_in y)
parts_are g (node.Number k) = refl
parts_are g node.Bool = refl
parts_are g node.Char = refl
parts_are g node.Text = refl
parts_are g node.Blob = refl
parts_are g node.Principal = refl
parts_are g node.Error = refl
parts_are g node.Null = refl
parts_are g node.Any = refl
parts_are g node.Bottom = refl
parts_are g (node.Opt a) = refl
parts_are g (node.Array a) = refl
parts_are g (node.MutArray a) = refl
parts_are g (node.Tuple ts) = refl
parts_are g (node.Object fs) = types_put g fs
parts_are g (node.Actor fs) = types_put g fs
parts_are g (node.Variant fs) = types_put g fs
parts_are g (node.Func s ps rs) = map_both g ps rs
parts_are g (node.Async a) = refl
parts_are g (node.Variable v b) = refl

no_variable : {A : Type 0} (vs : List ℕ) (y : Node A) → variable_of y ≡ None → ParameterAmong vs y
no_variable vs (node.Number k) n = tt
no_variable vs node.Bool n = tt
no_variable vs node.Char n = tt
no_variable vs node.Text n = tt
no_variable vs node.Blob n = tt
no_variable vs node.Principal n = tt
no_variable vs node.Error n = tt
no_variable vs node.Null n = tt
no_variable vs node.Any n = tt
no_variable vs node.Bottom n = tt
no_variable vs (node.Opt a) n = tt
no_variable vs (node.Array a) n = tt
no_variable vs (node.MutArray a) n = tt
no_variable vs (node.Tuple ts) n = tt
no_variable vs (node.Object fs) n = tt
no_variable vs (node.Actor fs) n = tt
no_variable vs (node.Variant fs) n = tt
no_variable vs (node.Func s ps rs) n = tt
no_variable vs (node.Async a) n = tt
no_variable vs (node.Variable v b) n = cc

future_put : {A B : Type 0} (g : A → B) (y : Node A) → async_of y ≡ None → async_of (on_node g y) ≡ None
future_put g (node.Number k) h = refl
future_put g node.Bool h = refl
future_put g node.Char h = refl
future_put g node.Text h = refl
future_put g node.Blob h = refl
future_put g node.Principal h = refl
future_put g node.Error h = refl
future_put g node.Null h = refl
future_put g node.Any h = refl
future_put g node.Bottom h = refl
future_put g (node.Opt a) h = refl
future_put g (node.Array a) h = refl
future_put g (node.MutArray a) h = refl
future_put g (node.Tuple ts) h = refl
future_put g (node.Object fs) h = refl
future_put g (node.Actor fs) h = refl
future_put g (node.Variant fs) h = refl
future_put g (node.Func s ps rs) h = refl
future_put g (node.Async a) h = cc
future_put g (node.Variable v b) h = refl

pub length_map : {A B : Type 0} (g : A → B) (xs : List A) → length (map g xs) ≡ length xs
length_map g [] = refl
length_map g (x ∷ xs) = ap suc (length_map g xs)

each_image : {A B : Type 0} (P : A → Type 0) (g : B → A) (xs : List B) → ((x : B) → Among x xs → P (g x)) → Each P (map g xs)
each_image P g [] h = tt
each_image P g (x ∷ xs) h = (h x (inl refl), each_image P g xs (λ y m. h y (inr m)))

each_last : {A : Type 0} (P : A → Type 0) (xs ys : List A) → Each P (xs ++ ys) → Each P ys
each_last P [] ys h = h
each_last P (x ∷ xs) ys h = each_last P xs ys h.1

each_at : {A : Type 0} (P : A → Type 0) (xs : List A) (x : A) → Among x xs → Each P xs → P x
each_at P [] x m h = absurd m
each_at P (y ∷ xs) x (inl e) h = subst P e h.0
each_at P (y ∷ xs) x (inr m) h = each_at P xs x m h.1

each_back : {A B : Type 0} (P : B → Type 0) (Q : A → Type 0) (g : A → B) (xs : List A) → ((x : A) → Among x xs → P (g x) → Q x) → Each P (map g xs) → Each Q xs
each_back P Q g [] f h = tt
each_back P Q g (x ∷ xs) f h = (f x (inl refl) h.0, each_back P Q g xs (λ y m. f y (inr m)) h.1)

module _ (S : Setting) where
  -- types with one head are equal
  same_heads : (i j : TypeId) → head_at S.slots i ≡ head_at S.slots j → Below (head_at S.slots) i j
  unfolding Sub
  same_heads i j e = record { by = λ n. by n } where
    by : (n : ℕ) → Sub (head_at S.slots) n i j
    by zero = tt
    by (suc n) = subst (λ y. NodeBelow (Sub (head_at S.slots) n) j y (head_at S.slots j)) (sym e) ((self S j).by (suc n))

  plain_by : (y : Node Term) → ((r : Term) → Among r (types_in y) → Among r S.terms) → IsLawfulNode (head_at S.slots) (on_node S.number y) → HasPlainResults S.defs y
  plain_by (node.Number k) m h = tt
  plain_by node.Bool m h = tt
  plain_by node.Char m h = tt
  plain_by node.Text m h = tt
  plain_by node.Blob m h = tt
  plain_by node.Principal m h = tt
  plain_by node.Error m h = tt
  plain_by node.Null m h = tt
  plain_by node.Any m h = tt
  plain_by node.Bottom m h = tt
  plain_by (node.Opt a) m h = tt
  plain_by (node.Array a) m h = tt
  plain_by (node.MutArray a) m h = tt
  plain_by (node.Tuple ts) m h = tt
  plain_by (node.Object fs) m h = tt
  plain_by (node.Actor fs) m h = tt
  plain_by (node.Variant fs) m h = tt
  plain_by (node.Func sort.Local ps rs) m h = tt
  plain_by (node.Func sort.Shared ps rs) m h = each_back (IsShareable (head_at S.slots)) (λ r. variable_of (head S.defs r) ≡ None) S.number rs (no_parameter S.number ps rs m) (each_last (IsShareable (head_at S.slots)) (map S.number ps) (map S.number rs) h)
    where
      no_parameter : (f : Term → TypeId) (ps rs : List Term) → ((r : Term) → Among r (ps ++ rs) → Among r S.terms) → (r : Term) → Among r rs → IsShareable (head_at S.slots) (S.number r) → variable_of (head S.defs r) ≡ None
      no_parameter f ps rs m r n k =
          sym (variable_seen S.number (head S.defs r)) ∙ (sym (ap variable_of (head_number S.defs S.slots S.terms S.number S.graph r (m r (among_right ps rs r n)))) ∙ not_shareable (head_at S.slots) (S.number r) k)
  plain_by (node.Func sort.Query ps rs) m h = each_back (IsShareable (head_at S.slots)) (λ r. variable_of (head S.defs r) ≡ None) S.number rs (no_parameter S.number ps rs m) (each_last (IsShareable (head_at S.slots)) (map S.number ps) (map S.number rs) h)
    where
      no_parameter : (f : Term → TypeId) (ps rs : List Term) → ((r : Term) → Among r (ps ++ rs) → Among r S.terms) → (r : Term) → Among r rs → IsShareable (head_at S.slots) (S.number r) → variable_of (head S.defs r) ≡ None
      no_parameter f ps rs m r n k =
          sym (variable_seen S.number (head S.defs r)) ∙ (sym (ap variable_of (head_number S.defs S.slots S.terms S.number S.graph r (m r (among_right ps rs r n)))) ∙ not_shareable (head_at S.slots) (S.number r) k)
  plain_by (node.Async a) m h = tt
  plain_by (node.Variable v b) m h = tt

  one_by : (y : Node Term) → IsLawfulNode (head_at S.slots) (on_node S.number y) → HasOneResult y
  one_by (node.Number k) h = tt
  one_by node.Bool h = tt
  one_by node.Char h = tt
  one_by node.Text h = tt
  one_by node.Blob h = tt
  one_by node.Principal h = tt
  one_by node.Error h = tt
  one_by node.Null h = tt
  one_by node.Any h = tt
  one_by node.Bottom h = tt
  one_by (node.Opt a) h = tt
  one_by (node.Array a) h = tt
  one_by (node.MutArray a) h = tt
  one_by (node.Tuple ts) h = tt
  one_by (node.Object fs) h = tt
  one_by (node.Actor fs) h = tt
  one_by (node.Variant fs) h = tt
  one_by (node.Func sort.Local ps rs) h = sym (length_map S.number rs) ∙ h
  one_by (node.Func sort.Shared ps rs) h = tt
  one_by (node.Func sort.Query ps rs) h = tt
  one_by (node.Async a) h = tt
  one_by (node.Variable v b) h = tt

  -- what the graph says of a term's head
  lawful_head : (u : Term) → Among u S.terms → IsLawfulNode (head_at S.slots) (on_node S.number (head S.defs u))
  lawful_head u m = subst (λ y. IsLawfulNode (head_at S.slots) y) (head_number S.defs S.slots S.terms S.number S.graph u m) (S.graph.lawful.nodes (S.number u)).0

  plain_results : (u : Term) → Among u S.terms → HasPlainResults S.defs (head S.defs u)
  plain_results u m = plain_by (head S.defs u) (λ r n. parts_there S.defs S.slots S.terms S.number S.graph u r m n) (lawful_head u m)

  one_result : (u : Term) → Among u S.terms → HasOneResult (head S.defs u)
  one_result u m = one_by (head S.defs u) (lawful_head u m)

  parameter_head : (v : ℕ) → head S.defs (t.Parameter v) ≡ node.Variable v (bound_at S.defs.parameters v)
  unfolding head
  parameter_head v = refl

  no_tuple : (v : ℕ) (b : Term) (ts : List Term) → node.Variable v b ≡ node.Tuple ts → ⊥
  no_tuple v b ts e = cc

  module _ (gs : List ℕ) (us : List Term) (many : length us ≡ length gs) (met : (u : Term) → Among u us → Among u S.terms) where
    abbrev put : Term → Term
    put u = put_in (argument_or_itself (zipped gs us)) u

    single : (v : ℕ) (ts : List Term) → head S.defs (argument_or_itself (zipped gs us) v) ≡ node.Tuple ts → length ts ≢ 1
    single v ts e h = by (argument_of gs us v) refl (arguments_are gs us v) where
      by : (o : Option Term) → argument_of gs us v ≡ o → Argument o (argument_or_itself (zipped gs us) v) v → ⊥
      by None q a = no_tuple v (bound_at S.defs.parameters v) ts (sym (ap (head S.defs) a ∙ parameter_head v) ∙ e)
      by (Some b) q a =
          let hb : head S.defs b ≡ node.Tuple ts = sym (ap (head S.defs) a) ∙ e in
          subst (λ y. IsLawfulNode (head_at S.slots) (on_node S.number y)) hb (lawful_head b (met b (argument_among gs us v b q))) (length_map S.number ts ∙ h)

    head_put : (u : Term) → Among u S.terms → Among (put u) S.terms → IsParameterOf (argument_or_itself (zipped gs us)) S.defs (head S.defs u) (head S.defs (put u)) ⊎ IsFormOf (argument_or_itself (zipped gs us)) S.defs (head S.defs u) (head S.defs (put u))
    head_put u m n = put_head (argument_or_itself (zipped gs us)) S.defs single u (plain_results u m) (one_result (put u) n)

    -- a type with arguments in the place of type parameters, in the graph
    put_seen : (n : ℕ) (u : Term) → Among u S.terms → Among (put u) S.terms → PutIn (head_at S.slots) gs (map S.number us) n (S.number u) (S.number (put u))
    unfolding PutIn
    put_seen zero u m k = tt
    put_seen (suc n) u m k =
        subst (λ y. Becomes (head_at S.slots) gs (map S.number us) (PutIn (head_at S.slots) gs (map S.number us) n) (S.number (put u)) y (head_at S.slots (S.number (put u)))) (sym (head_number S.defs S.slots S.terms S.number S.graph u m))
        (subst (λ y. Becomes (head_at S.slots) gs (map S.number us) (PutIn (head_at S.slots) gs (map S.number us) n) (S.number (put u)) (on_node S.number (head S.defs u)) y) (sym (head_number S.defs S.slots S.terms S.number S.graph (put u) k))
        (by (head_put u m k) (λ x p q. put_seen n x p q)))
      where
        argument : (v : ℕ) → head S.defs (put u) ≡ head S.defs (argument_or_itself (zipped gs us) v) → (o : Option Term) → argument_of gs us v ≡ o → Argument o (argument_or_itself (zipped gs us) v) v
            → BecomesArgument (head_at S.slots) gs (map S.number us) (S.number (put u)) (option_map S.number o) (variable_of (on_node S.number (head S.defs (put u))) ≡ Some v)
        argument v f None q a = variable_seen S.number (head S.defs (put u)) ∙ ap variable_of (f ∙ (ap (head S.defs) a ∙ parameter_head v))
        argument v f (Some b) q a =
            let mb = met b (argument_among gs us v b q) in
            let e : head_at S.slots (S.number (put u)) ≡ head_at S.slots (S.number b) =
            head_number S.defs S.slots S.terms S.number S.graph (put u) k ∙ (ap (on_node S.number) (f ∙ ap (head S.defs) a) ∙ sym (head_number S.defs S.slots S.terms S.number S.graph b mb)) in
            (same_heads (S.number (put u)) (S.number b) e, same_heads (S.number b) (S.number (put u)) (sym e))

        by : IsParameterOf (argument_or_itself (zipped gs us)) S.defs (head S.defs u) (head S.defs (put u)) ⊎ IsFormOf (argument_or_itself (zipped gs us)) S.defs (head S.defs u) (head S.defs (put u))
            → ((x : Term) → Among x S.terms → Among (put x) S.terms → PutIn (head_at S.slots) gs (map S.number us) n (S.number x) (S.number (put x)))
            → Becomes (head_at S.slots) gs (map S.number us) (PutIn (head_at S.slots) gs (map S.number us) n) (S.number (put u)) (on_node S.number (head S.defs u)) (on_node S.number (head S.defs (put u)))
        by (inl (v, e, f)) rest =
            subst (λ y. Becomes (head_at S.slots) gs (map S.number us) (PutIn (head_at S.slots) gs (map S.number us) n) (S.number (put u)) (on_node S.number y) (on_node S.number (head S.defs (put u)))) (sym e)
            (subst (λ o. BecomesArgument (head_at S.slots) gs (map S.number us) (S.number (put u)) o (variable_of (on_node S.number (head S.defs (put u))) ≡ Some v)) (sym (arguments_mapped S.number gs us v))
            (argument v f (argument_of gs us v) refl (arguments_are gs us v)))
        by (inr (e, f)) rest =
            let no : variable_of (on_node S.number (head S.defs u)) ≡ None = variable_seen S.number (head S.defs u) ∙ e in
            becomes_alike (head_at S.slots) gs (map S.number us) (PutIn (head_at S.slots) gs (map S.number us) n) (S.number (put u)) (on_node S.number (head S.defs u)) (on_node S.number (head S.defs (put u))) no
            (subst (λ y. FormsAlike (PutIn (head_at S.slots) gs (map S.number us) n) (on_node S.number (head S.defs u)) (on_node S.number y)) (sym f)
            (alike (PutIn (head_at S.slots) gs (map S.number us) n) S.number put S.number (head S.defs u) e (λ x p.
            rest x (parts_there S.defs S.slots S.terms S.number S.graph u x m p)
            (parts_there S.defs S.slots S.terms S.number S.graph (put u) (put x) k (subst (λ y. Among (put x) (types_in y)) (sym f) (parts_put put (head S.defs u) x p))))))

    pub instance_seen : (u : Term) → Among u S.terms → Among (put u) S.terms → IsInstance (head_at S.slots) gs (map S.number us) (S.number u) (S.number (put u))
    instance_seen u m k = record { by = λ n. put_seen n u m k }

    -- ---- what an instance mentions

    module _ (vs : List ℕ) (scoped : (u : Term) → Among u us → MentionsOnly (head S.defs) vs u) (bounds : (v : ℕ) → IsAmong v vs → MentionsOnly (head S.defs) vs (t.Parameter v)) where
      from_outer : (v : ℕ) → argument_of gs us v ≡ None → IsAmong v (gs ++ vs) → IsAmong v vs
      from_outer v e m = by (apart gs vs v m) where
        apart : (xs ys : List ℕ) (x : ℕ) → IsAmong x (xs ++ ys) → IsAmong x xs ⊎ IsAmong x ys
        apart [] ys x m = inr m
        apart (y ∷ xs) ys x (inl e) = inl (inl e)
        apart (y ∷ xs) ys x (inr m) = on (apart xs ys x m) where
          on : IsAmong x xs ⊎ IsAmong x ys → IsAmong x (y ∷ xs) ⊎ IsAmong x ys
          on (inl n) = inl (inr n)
          on (inr n) = inr n

        by : IsAmong v gs ⊎ IsAmong v vs → IsAmong v vs
        by (inl n) = absurd (no_argument gs us v many e n)
        by (inr n) = n

      same_mentions : (n : ℕ) (u v : Term) → head S.defs u ≡ head S.defs v → Mentions (head S.defs) vs n v → Mentions (head S.defs) vs n u
      unfolding Mentions
      same_mentions zero u v e h = tt
      same_mentions (suc n) u v e h = subst (λ y. ParameterAmong vs y × Each (Mentions (head S.defs) vs n) (types_in y)) (sym e) h

      put_mentions : (n : ℕ) (u : Term) → Among u S.terms → Among (put u) S.terms → Mentions (head S.defs) (gs ++ vs) n u → Mentions (head S.defs) vs n (put u)
      unfolding Mentions
      put_mentions zero u m k h = tt
      put_mentions (suc n) u m k h = by (head_put u m k) (λ x p q r. put_mentions n x p q r) where
        argument : (v : ℕ) → IsAmong v (gs ++ vs) → (o : Option Term) → argument_of gs us v ≡ o → Argument o (argument_or_itself (zipped gs us) v) v → Mentions (head S.defs) vs (suc n) (argument_or_itself (zipped gs us) v)
        argument v m None q a = subst (λ z. Mentions (head S.defs) vs (suc n) z) (sym a) ((bounds v (from_outer v q m)).by (suc n))
        argument v m (Some b) q a = subst (λ z. Mentions (head S.defs) vs (suc n) z) (sym a) ((scoped b (argument_among gs us v b q)).by (suc n))

        by : IsParameterOf (argument_or_itself (zipped gs us)) S.defs (head S.defs u) (head S.defs (put u)) ⊎ IsFormOf (argument_or_itself (zipped gs us)) S.defs (head S.defs u) (head S.defs (put u))
            → ((x : Term) → Among x S.terms → Among (put x) S.terms → Mentions (head S.defs) (gs ++ vs) n x → Mentions (head S.defs) vs n (put x))
            → ParameterAmong vs (head S.defs (put u)) × Each (Mentions (head S.defs) vs n) (types_in (head S.defs (put u)))
        by (inl (v, e, f)) rest =
            let among : IsAmong v (gs ++ vs) = subst (λ y. ParameterAmong (gs ++ vs) y) e h.0 in
            same_mentions (suc n) (put u) (argument_or_itself (zipped gs us) v) f (argument v among (argument_of gs us v) refl (arguments_are gs us v))
        by (inr (e, f)) rest =
            subst (λ y. ParameterAmong vs y × Each (Mentions (head S.defs) vs n) (types_in y)) (sym f) (
              no_variable vs (on_node put (head S.defs u)) (variable_seen put (head S.defs u) ∙ e),
              subst (λ xs. Each (Mentions (head S.defs) vs n) xs) (sym (parts_are put (head S.defs u))) (each_image (Mentions (head S.defs) vs n) put (types_in (head S.defs u)) (λ x p.
                  rest x (parts_there S.defs S.slots S.terms S.number S.graph u x m p)
                  (parts_there S.defs S.slots S.terms S.number S.graph (put u) (put x) k (subst (λ y. Among (put x) (types_in y)) (sym f) (parts_put put (head S.defs u) x p)))
                  (each_at (Mentions (head S.defs) (gs ++ vs) n) (types_in (head S.defs u)) x p h.1))),
            )

      -- an instance of a type of values is one
      pub instance_known : (u : Term) → IsKnown S.defs S.terms (gs ++ vs) u → ((a : Term) → Among a us → async_of (head S.defs a) ≡ None) → Among (put u) S.terms → IsKnown S.defs S.terms vs (put u)
      instance_known u known no_future k = record {
        there = k;
        fine = record {
          scoped = record { by = λ n. put_mentions n u known.there k (known.fine.scoped.by n) };
          no_future = by (head_put u known.there k);
        };
      }
        where
          argument : (v : ℕ) → (o : Option Term) → argument_of gs us v ≡ o → Argument o (argument_or_itself (zipped gs us) v) v → async_of (head S.defs (argument_or_itself (zipped gs us) v)) ≡ None
          argument v None q a = ap (λ z. async_of (head S.defs z)) a ∙ ap async_of (parameter_head v)
          argument v (Some b) q a = ap (λ z. async_of (head S.defs z)) a ∙ no_future b (argument_among gs us v b q)

          by : IsParameterOf (argument_or_itself (zipped gs us)) S.defs (head S.defs u) (head S.defs (put u)) ⊎ IsFormOf (argument_or_itself (zipped gs us)) S.defs (head S.defs u) (head S.defs (put u)) → async_of (head S.defs (put u)) ≡ None
          by (inl (v, e, f)) = ap async_of f ∙ argument v (argument_of gs us v) refl (arguments_are gs us v)
          by (inr (e, f)) = ap async_of f ∙ future_put put (head S.defs u) known.fine.no_future

    -- ---- bounds

    -- each argument is below the bound of its parameter, with the arguments put in
    abbrev pub AreBounded : List (ℕ × Term) → Type 0
    AreBounded qs = Each (λ q. Among (put (bound_at S.defs.parameters q.0)) S.terms × IsSubtype (head S.defs) q.1 (put (bound_at S.defs.parameters q.0))) qs

    bounded_at : (hs : List ℕ) (bs : List Term) (v : ℕ) (a : Term) → AreBounded (zipped hs bs) → argument_of hs bs v ≡ Some a → Among (put (bound_at S.defs.parameters v)) S.terms × IsSubtype (head S.defs) a (put (bound_at S.defs.parameters v))
    bounded_at [] bs v a h e = cc
    bounded_at (g ∷ hs) [] v a h e = cc
    bounded_at (g ∷ hs) (b ∷ bs) v a h e = by (nat_eq v g) refl e (λ q. bounded_at hs bs v a h.1 q) where
      by : (c : Bool) → nat_eq v g ≡ c → cond (nat_eq v g) (Some b) (argument_of hs bs v) ≡ Some a → (argument_of hs bs v ≡ Some a → Among (put (bound_at S.defs.parameters v)) S.terms × IsSubtype (head S.defs) a (put (bound_at S.defs.parameters v)))
          → Among (put (bound_at S.defs.parameters v)) S.terms × IsSubtype (head S.defs) a (put (bound_at S.defs.parameters v))
      by true q k rest =
          let i : g ≡ v = sym (eqb-true v g q) in
          let j : Some b ≡ Some a = sym (ap (λ c. cond c (Some b) (argument_of hs bs v)) q) ∙ k in
          let same : b ≡ a = cc in
          subst (λ z. Among (put (bound_at S.defs.parameters z)) S.terms × IsSubtype (head S.defs) a (put (bound_at S.defs.parameters z))) i
          (h.0.0, subst (λ z. IsSubtype (head S.defs) z (put (bound_at S.defs.parameters g))) same h.0.1)
      by false q k rest = rest (sym (ap (λ c. cond c (Some b) (argument_of hs bs v)) q) ∙ k)

    mapped_back : (v : ℕ) (i : TypeId) (o : Option Term) → option_map S.number o ≡ Some i → (a : Term) × (o ≡ Some a) × (S.number a ≡ i)
    mapped_back v i None e = cc
    mapped_back v i (Some a) e = (a, refl, let f : S.number a ≡ i = cc in f)

    pub within_bounds : AreBounded (zipped gs us) → AreWithinBounds (head_at S.slots) gs (map S.number us)
    within_bounds h = record {
      by = λ p b v i e q.
          let x = parameter_at S.defs S.slots S.terms S.number S.graph p b v e in
          let a = mapped_back v i (argument_of gs us v) (sym (arguments_mapped S.number gs us v) ∙ q) in
          let w = bounded_at gs us v a.0 h a.1 in
          let c = put (bound_at S.defs.parameters v) in (
            S.number c,
            subst (λ z. IsInstance (head_at S.slots) gs (map S.number us) z (S.number c)) x.1 (instance_seen (bound_at S.defs.parameters v) x.0 w.0),
            subst (λ z. Below (head_at S.slots) z (S.number c)) a.2 (below_number S.defs S.slots S.terms S.number S.graph a.0 c (met a.0 (argument_among gs us v a.0 a.1)) w.0 w.1),
          );
    }
