-- The questions are all answered at a depth exactly where the rules hold there.
use Rattle.std.proofs.Common.{◌≡◌, ℕ, Bool, true, false, List, [], ◌∷◌, ◌++◌, Option, Some, None, refl, ap, ◌⊎◌, inl, inr, ◌&&◌, ◌||◌, nat_eq}
use Rattle.std.specs.Prelude.{if◌then◌else◌}
use Rattle.std.specs.Cmp.{unsigned_Decides}
use Rattle.mo_num.specs.declared.kind.Kind.{Kind}
use Rattle.mo_num.specs.declared.kind.Kind.TheVariants as kind
use Rattle.mo_types.specs.declared.node.Node.{Node}
use Rattle.mo_types.specs.declared.node.Node.TheVariants as node
use Rattle.mo_types.specs.declared.node.Field.{Field}
use Rattle.mo_types.specs.declared.node.Sort.{Sort}
use Rattle.mo_types.specs.Layout.{kind_number, sort_number}
use Rattle.mo_types.specs.Same.{kind_same, sort_same}
use Rattle.mo_types.specs.Heads.{number_of, is_bool, is_char, is_text, is_blob, is_principal, is_error, is_null, is_any, opt_of, array_of, mut_array_of, tuple_of, object_of, actor_of, variant_of, func_of, async_of, variable_of}
use Rattle.mo_types.specs.Sub.{AtSome, Each, Unless, IsSomething, Pairwise, find, NumberBelow, Fitting, FieldsBelow, TagsBelow, VariableBelow, HeadBelow, NodeBelow}
use Rattle.mo_subtype.specs.declared.pairs.Pair.{Pair}
use Rattle.mo_subtype.specs.Questions.{with_some, is_some_of, number_below, join, when, one, both_ways, parts_questions, field_questions, found_questions, fields_questions, tag_questions, tags_questions, func_questions, variable_questions, head_questions, questions}

pub each_append : {A : Type 0} (P : A → Type 0) (xs ys : List A) → Each P xs → Each P ys → Each P (xs ++ ys)
each_append P [] ys h k = k
each_append P (x ∷ xs) ys h k = (h.0, each_append P xs ys h.1 k)

each_front : {A : Type 0} (P : A → Type 0) (xs ys : List A) → Each P (xs ++ ys) → Each P xs
each_front P [] ys h = tt
each_front P (x ∷ xs) ys h = (h.0, each_front P xs ys h.1)

each_back : {A : Type 0} (P : A → Type 0) (xs ys : List A) → Each P (xs ++ ys) → Each P ys
each_back P [] ys h = h
each_back P (x ∷ xs) ys h = each_back P xs ys h.1

pub each_map : {A : Type 0} (P Q : A → Type 0) → ((x : A) → P x → Q x) → (xs : List A) → Each P xs → Each Q xs
each_map P Q f [] h = tt
each_map P Q f (x ∷ xs) h = (f x h.0, each_map P Q f xs h.1)

abbrev pub Holds : {A : Type 0} → (A → A → Type 0) → Pair A → Type 0
Holds R q = R q.low q.high

or_first : (b c : Bool) → b ≡ true → b || c ≡ true
or_first true c h = refl
or_first false c h = cc

or_second : (b c : Bool) → c ≡ true → b || c ≡ true
or_second true c h = refl
or_second false c h = h

or_either : (b c : Bool) → b || c ≡ true → (b ≡ true) ⊎ (c ≡ true)
or_either true c h = inl refl
or_either false c h = inr h

and_true : (b c : Bool) → b ≡ true → c ≡ true → b && c ≡ true
and_true true c e f = f
and_true false c e f = e

and_first : (b c : Bool) → b && c ≡ true → b ≡ true
and_first true c h = refl
and_first false c h = h

and_second : (b c : Bool) → b && c ≡ true → c ≡ true
and_second true c h = h
and_second false c h = cc

number_to : (k j : Kind) → NumberBelow k j → number_below k j ≡ true
number_to k j (inl h) = or_first (nat_eq (kind_number k) (kind_number j)) (nat_eq (kind_number k) 0 && nat_eq (kind_number j) 1) ((unsigned_Decides (kind_number k) (kind_number j)).1 (ap kind_number h))
number_to k j (inr h) = or_second (nat_eq (kind_number k) (kind_number j)) (nat_eq (kind_number k) 0 && nat_eq (kind_number j) 1)
    (and_true (nat_eq (kind_number k) 0) (nat_eq (kind_number j) 1) ((unsigned_Decides (kind_number k) 0).1 (ap kind_number h.0)) ((unsigned_Decides (kind_number j) 1).1 (ap kind_number h.1)))

number_from : (k j : Kind) → number_below k j ≡ true → NumberBelow k j
number_from k j h = by (or_either (nat_eq (kind_number k) (kind_number j)) (nat_eq (kind_number k) 0 && nat_eq (kind_number j) 1) h) where
  by : (nat_eq (kind_number k) (kind_number j) ≡ true) ⊎ (nat_eq (kind_number k) 0 && nat_eq (kind_number j) 1 ≡ true) → NumberBelow k j
  by (inl e) = inl (kind_same k j ((unsigned_Decides (kind_number k) (kind_number j)).0 e))
  by (inr e) = inr (
    kind_same k kind.Nat ((unsigned_Decides (kind_number k) 0).0 (and_first (nat_eq (kind_number k) 0) (nat_eq (kind_number j) 1) e)),
    kind_same j kind.Int ((unsigned_Decides (kind_number j) 1).0 (and_second (nat_eq (kind_number k) 0) (nat_eq (kind_number j) 1) e)),
  )

something_to : {X : Type 0} (o : Option X) → IsSomething o → is_some_of o ≡ true
something_to None h = absurd h
something_to (Some x) h = refl

something_from : {X : Type 0} (o : Option X) → is_some_of o ≡ true → IsSomething o
something_from None h = cc
something_from (Some x) h = tt

module _ (A : Type 0) (R : A → A → Type 0) where
  abbrev All : Option (List (Pair A)) → Type 0
  All o = AtSome o (Each (Holds R))

  join_all : (a b : Option (List (Pair A))) → All a → All b → All (join a b)
  join_all None b h k = h
  join_all (Some a) None h k = k
  join_all (Some a) (Some b) h k = each_append (Holds R) a b h k

  all_join : (a b : Option (List (Pair A))) → All (join a b) → All a × All b
  all_join None b h = absurd h
  all_join (Some a) None h = absurd h
  all_join (Some a) (Some b) h = (each_front (Holds R) a b h, each_back (Holds R) a b h)

  when_to : (b : Bool) → b ≡ true → All (when b)
  when_to true h = tt
  when_to false h = cc

  when_from : (b : Bool) → All (when b) → b ≡ true
  when_from true h = refl
  when_from false h = absurd h

  parts_to : (ts us : List A) → Pairwise R ts us → All (parts_questions ts us)
  parts_to [] [] h = tt
  parts_to (t ∷ ts) (u ∷ us) h = join_all (one t u) (parts_questions ts us) (h.0, tt) (parts_to ts us h.1)
  parts_to [] (u ∷ us) h = h
  parts_to (t ∷ ts) [] h = h

  parts_from : (ts us : List A) → All (parts_questions ts us) → Pairwise R ts us
  parts_from [] [] h = tt
  parts_from (t ∷ ts) (u ∷ us) h =
      let k : All (one t u) × All (parts_questions ts us) = all_join (one t u) (parts_questions ts us) h in
      (k.0.0, parts_from ts us k.1)
  parts_from [] (u ∷ us) h = h
  parts_from (t ∷ ts) [] h = h

  field_to : (f g : Field A) (v w : Bool) → Fitting R f g v w → All (field_questions f g v w)
  field_to f g true true h = (h.0, (h.1, tt))
  field_to f g false false h = (h, tt)
  field_to f g true false h = h
  field_to f g false true h = h

  field_from : (f g : Field A) (v w : Bool) → All (field_questions f g v w) → Fitting R f g v w
  field_from f g true true h = (h.0, h.1.0)
  field_from f g false false h = h.0
  field_from f g true false h = h
  field_from f g false true h = h

  some_to : {X : Type 0} (o : Option X) (P : X → Type 0) (f : X → Option (List (Pair A))) → ((x : X) → P x → All (f x)) → AtSome o P → All (with_some o f)
  some_to None P f k h = h
  some_to (Some x) P f k h = k x h

  some_from : {X : Type 0} (o : Option X) (P : X → Type 0) (f : X → Option (List (Pair A))) → ((x : X) → All (f x) → P x) → All (with_some o f) → AtSome o P
  some_from None P f k h = h
  some_from (Some x) P f k h = k x h

  fields_to : (fs gs : List (Field A)) → FieldsBelow R fs gs → All (fields_questions fs gs)
  fields_to fs [] h = tt
  fields_to fs (g ∷ gs) h =
      join_all (found_questions fs g) (fields_questions fs gs)
      (some_to (find g.label fs) (λ f. Fitting R f g f.mutable g.mutable) (λ f. field_questions f g f.mutable g.mutable) (λ f. field_to f g f.mutable g.mutable) h.0)
      (fields_to fs gs h.1)

  fields_from : (fs gs : List (Field A)) → All (fields_questions fs gs) → FieldsBelow R fs gs
  fields_from fs [] h = tt
  fields_from fs (g ∷ gs) h =
      let k : All (found_questions fs g) × All (fields_questions fs gs) = all_join (found_questions fs g) (fields_questions fs gs) h in
      (some_from (find g.label fs) (λ f. Fitting R f g f.mutable g.mutable) (λ f. field_questions f g f.mutable g.mutable) (λ f. field_from f g f.mutable g.mutable) k.0, fields_from fs gs k.1)

  tags_to : (fs gs : List (Field A)) → TagsBelow R fs gs → All (tags_questions fs gs)
  tags_to [] gs h = tt
  tags_to (f ∷ fs) gs h =
      join_all (tag_questions gs f) (tags_questions fs gs)
      (some_to (find f.label gs) (λ g. R f.part g.part) (λ g. one f.part g.part) (λ g r. (r, tt)) h.0)
      (tags_to fs gs h.1)

  tags_from : (fs gs : List (Field A)) → All (tags_questions fs gs) → TagsBelow R fs gs
  tags_from [] gs h = tt
  tags_from (f ∷ fs) gs h =
      let k : All (tag_questions gs f) × All (tags_questions fs gs) = all_join (tag_questions gs f) (tags_questions fs gs) h in
      (some_from (find f.label gs) (λ g. R f.part g.part) (λ g. one f.part g.part) (λ g r. r.0) k.0, tags_from fs gs k.1)

  func_to : (s : Sort) (ps rs : List A) (q : Sort × List A × List A) → (s ≡ q.0) × Pairwise R q.1 ps × Pairwise R rs q.2 → All (func_questions s ps rs q)
  func_to s ps rs q h =
      join_all (when (nat_eq (sort_number s) (sort_number q.0))) (join (parts_questions q.1 ps) (parts_questions rs q.2))
      (when_to (nat_eq (sort_number s) (sort_number q.0)) ((unsigned_Decides (sort_number s) (sort_number q.0)).1 (ap sort_number h.0)))
      (join_all (parts_questions q.1 ps) (parts_questions rs q.2) (parts_to q.1 ps h.1) (parts_to rs q.2 h.2))

  func_from : (s : Sort) (ps rs : List A) (q : Sort × List A × List A) → All (func_questions s ps rs q) → (s ≡ q.0) × Pairwise R q.1 ps × Pairwise R rs q.2
  func_from s ps rs q h =
      let k : All (when (nat_eq (sort_number s) (sort_number q.0))) × All (join (parts_questions q.1 ps) (parts_questions rs q.2)) = all_join (when (nat_eq (sort_number s) (sort_number q.0))) (join (parts_questions q.1 ps) (parts_questions rs q.2)) h in
      let l : All (parts_questions q.1 ps) × All (parts_questions rs q.2) = all_join (parts_questions q.1 ps) (parts_questions rs q.2) k.1 in
      (sort_same s q.0 ((unsigned_Decides (sort_number s) (sort_number q.0)).0 (when_from (nat_eq (sort_number s) (sort_number q.0)) k.0)), parts_from q.1 ps l.0, parts_from rs q.2 l.1)

  same_to : (b : Bool) (t u : A) → Unless b (R t u) → All (if b then Some [] else one t u)
  same_to true t u h = tt
  same_to false t u h = (h, tt)

  same_from : (b : Bool) (t u : A) → All (if b then Some [] else one t u) → Unless b (R t u)
  same_from true t u h = tt
  same_from false t u h = h.0

  variable_to : (b u : A) (o : Option ℕ) (v : ℕ) → VariableBelow R b u o v → All (variable_questions b u o v)
  variable_to b u None v h = (h, tt)
  variable_to b u (Some w) v h = same_to (nat_eq v w) b u h

  variable_from : (b u : A) (o : Option ℕ) (v : ℕ) → All (variable_questions b u o v) → VariableBelow R b u o v
  variable_from b u None v h = h.0
  variable_from b u (Some w) v h = same_from (nat_eq v w) b u h

  null_to : (b : Bool) (o : Option A) → (b ≡ true) ⊎ IsSomething o → All (when (b || is_some_of o))
  null_to b o (inl h) = when_to (b || is_some_of o) (or_first b (is_some_of o) h)
  null_to b o (inr h) = when_to (b || is_some_of o) (or_second b (is_some_of o) (something_to o h))

  null_from : (b : Bool) (o : Option A) → All (when (b || is_some_of o)) → (b ≡ true) ⊎ IsSomething o
  null_from b o h = by (or_either b (is_some_of o) (when_from (b || is_some_of o) h)) where
    by : (b ≡ true) ⊎ (is_some_of o ≡ true) → (b ≡ true) ⊎ IsSomething o
    by (inl e) = inl e
    by (inr e) = inr (something_from o e)

  head_to : (u : A) (x y : Node A) → HeadBelow R u x y → All (head_questions u x y)
  head_to u (node.Number k) y h = some_to (number_of y) (NumberBelow k) (λ j. when (number_below k j)) (λ j b. when_to (number_below k j) (number_to k j b)) h
  head_to u node.Bool y h = when_to (is_bool y) h
  head_to u node.Char y h = when_to (is_char y) h
  head_to u node.Text y h = when_to (is_text y) h
  head_to u node.Blob y h = when_to (is_blob y) h
  head_to u node.Principal y h = when_to (is_principal y) h
  head_to u node.Error y h = when_to (is_error y) h
  head_to u node.Null y h = null_to (is_null y) (opt_of y) h
  head_to u node.Any y h = h
  head_to u node.Bottom y h = tt
  head_to u (node.Opt a) y h = some_to (opt_of y) (λ b. R a b) (λ b. one a b) (λ b r. (r, tt)) h
  head_to u (node.Array a) y h = some_to (array_of y) (λ b. R a b) (λ b. one a b) (λ b r. (r, tt)) h
  head_to u (node.MutArray a) y h = some_to (mut_array_of y) (λ b. R a b × R b a) (λ b. both_ways a b) (λ b r. (r.0, (r.1, tt))) h
  head_to u (node.Tuple ts) y h = some_to (tuple_of y) (Pairwise R ts) (parts_questions ts) (parts_to ts) h
  head_to u (node.Object fs) y h = some_to (object_of y) (FieldsBelow R fs) (fields_questions fs) (fields_to fs) h
  head_to u (node.Actor fs) y h = some_to (actor_of y) (FieldsBelow R fs) (fields_questions fs) (fields_to fs) h
  head_to u (node.Variant fs) y h = some_to (variant_of y) (TagsBelow R fs) (tags_questions fs) (tags_to fs) h
  head_to u (node.Func s ps rs) y h = some_to (func_of y) (λ q. (s ≡ q.0) × Pairwise R q.1 ps × Pairwise R rs q.2) (func_questions s ps rs) (func_to s ps rs) h
  head_to u (node.Async a) y h = some_to (async_of y) (λ b. R a b) (λ b. one a b) (λ b r. (r, tt)) h
  head_to u (node.Variable v b) y h = variable_to b u (variable_of y) v h

  head_from : (u : A) (x y : Node A) → All (head_questions u x y) → HeadBelow R u x y
  head_from u (node.Number k) y h = some_from (number_of y) (NumberBelow k) (λ j. when (number_below k j)) (λ j b. number_from k j (when_from (number_below k j) b)) h
  head_from u node.Bool y h = when_from (is_bool y) h
  head_from u node.Char y h = when_from (is_char y) h
  head_from u node.Text y h = when_from (is_text y) h
  head_from u node.Blob y h = when_from (is_blob y) h
  head_from u node.Principal y h = when_from (is_principal y) h
  head_from u node.Error y h = when_from (is_error y) h
  head_from u node.Null y h = null_from (is_null y) (opt_of y) h
  head_from u node.Any y h = h
  head_from u node.Bottom y h = tt
  head_from u (node.Opt a) y h = some_from (opt_of y) (λ b. R a b) (λ b. one a b) (λ b r. r.0) h
  head_from u (node.Array a) y h = some_from (array_of y) (λ b. R a b) (λ b. one a b) (λ b r. r.0) h
  head_from u (node.MutArray a) y h = some_from (mut_array_of y) (λ b. R a b × R b a) (λ b. both_ways a b) (λ b r. (r.0, r.1.0)) h
  head_from u (node.Tuple ts) y h = some_from (tuple_of y) (Pairwise R ts) (parts_questions ts) (parts_from ts) h
  head_from u (node.Object fs) y h = some_from (object_of y) (FieldsBelow R fs) (fields_questions fs) (fields_from fs) h
  head_from u (node.Actor fs) y h = some_from (actor_of y) (FieldsBelow R fs) (fields_questions fs) (fields_from fs) h
  head_from u (node.Variant fs) y h = some_from (variant_of y) (TagsBelow R fs) (tags_questions fs) (tags_from fs) h
  head_from u (node.Func s ps rs) y h = some_from (func_of y) (λ q. (s ≡ q.0) × Pairwise R q.1 ps × Pairwise R rs q.2) (func_questions s ps rs) (func_from s ps rs) h
  head_from u (node.Async a) y h = some_from (async_of y) (λ b. R a b) (λ b. one a b) (λ b r. r.0) h
  head_from u (node.Variable v b) y h = variable_from b u (variable_of y) v h

  any_to : (b : Bool) (u : A) (x y : Node A) → ((b ≡ true) ⊎ HeadBelow R u x y) → All (if b then Some [] else head_questions u x y)
  any_to true u x y h = tt
  any_to false u x y (inl h) = cc
  any_to false u x y (inr h) = head_to u x y h

  any_from : (b : Bool) (u : A) (x y : Node A) → All (if b then Some [] else head_questions u x y) → ((b ≡ true) ⊎ HeadBelow R u x y)
  any_from true u x y h = inl refl
  any_from false u x y h = inr (head_from u x y h)

  pub node_to : (u : A) (x y : Node A) → NodeBelow R u x y → AtSome (questions u x y) (Each (Holds R))
  unfolding questions
  node_to u x y h = any_to (is_any y) u x y h

  pub node_from : (u : A) (x y : Node A) → AtSome (questions u x y) (Each (Holds R)) → NodeBelow R u x y
  unfolding questions
  node_from u x y h = any_from (is_any y) u x y h
