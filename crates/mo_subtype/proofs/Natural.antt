-- A map of collections of types that keeps heads keeps subtyping, both ways.
use Rattle.std.proofs.Common.{◌≡◌, ℕ, zero, suc, Bool, true, false, ◌||◌, List, [], ◌∷◌, ◌++◌, Option, Some, None, refl, sym, ap, ◌∙◌, subst, map}
use Rattle.std.specs.Prelude.{nat_eq, if◌then◌else◌}
use Rattle.std.specs.Cmp.Lexicographic.{pointwise}
use Rattle.mo_num.specs.declared.kind.Kind.{Kind}
use Rattle.mo_types.specs.declared.node.Node.{Node}
use Rattle.mo_types.specs.declared.node.Node.TheVariants as node
use Rattle.mo_types.specs.declared.node.Field.{Field}
use Rattle.mo_types.specs.declared.node.Sort.{Sort}
use Rattle.mo_types.specs.Layout.{sort_number}
use Rattle.mo_types.specs.Heads.{map_option, number_of, is_bool, is_char, is_text, is_blob, is_principal, is_error, is_null, is_any, opt_of, array_of, mut_array_of, tuple_of, object_of, actor_of, variant_of, func_of, async_of, variable_of}
use Rattle.mo_types.specs.Sub.{AtSome, Each, find, Sub}
use Rattle.mo_subtype.specs.declared.pairs.Pair.{Pair}
use Rattle.mo_subtype.specs.Questions.{pair, with_some, is_some_of, number_below, join, when, one, both_ways, parts_questions, field_questions, found_questions, fields_questions, tag_questions, tags_questions, func_questions, variable_questions, head_questions, questions}
use Rattle.mo_subtype.specs.Renamed.{on_field, on_node}
use Rattle.mo_subtype.proofs.Questions.{Holds}
use Rattle.mo_subtype.proofs.Rounds.{sub_to, sub_from, sub_zero}

module _ {A B : Type 0} (f : A → B) where
  abbrev two : Pair A → Pair B
  two q = pair (f q.low) (f q.high)

  abbrev all : Option (List (Pair A)) → Option (List (Pair B))
  all o = map_option (map two) o

  app : (xs ys : List (Pair A)) → map two (xs ++ ys) ≡ map two xs ++ map two ys
  app [] ys = refl
  app (x ∷ xs) ys = ap (λ (l : List (Pair B)). two x ∷ l) (app xs ys)

  joined : (a b : Option (List (Pair A))) → all (join a b) ≡ join (all a) (all b)
  joined None b = refl
  joined (Some a) None = refl
  joined (Some a) (Some b) = ap (λ (l : List (Pair B)). Some l) (app a b)

  paired : (ts us : List A) → all (parts_questions ts us) ≡ parts_questions (map f ts) (map f us)
  paired [] [] = refl
  paired (t ∷ ts) (u ∷ us) = joined (one t u) (parts_questions ts us) ∙ ap (join (one (f t) (f u))) (paired ts us)
  paired [] (u ∷ us) = refl
  paired (t ∷ ts) [] = refl

  pick : (b : Bool) (m : Field A) (o : Option (Field B)) (p : Option (Field A)) → o ≡ map_option (on_field f) p → (if b then Some (on_field f m) else o) ≡ map_option (on_field f) (if b then Some m else p)
  pick true m o p e = refl
  pick false m o p e = e

  found : (l : List ℕ) (fs : List (Field A)) → find l (map (on_field f) fs) ≡ map_option (on_field f) (find l fs)
  found l [] = refl
  found l (m ∷ fs) = pick (pointwise nat_eq m.label l) m (find l (map (on_field f) fs)) (find l fs) (found l fs)

  one_field : (m g : Field A) (v w : Bool) → all (field_questions m g v w) ≡ field_questions (on_field f m) (on_field f g) v w
  one_field m g true true = refl
  one_field m g false false = refl
  one_field m g true false = refl
  one_field m g false true = refl

  from : (o : Option (Field A)) (j : Field A → Option (List (Pair A))) (k : Field B → Option (List (Pair B))) → ((m : Field A) → all (j m) ≡ k (on_field f m)) → all (with_some o j) ≡ with_some (map_option (on_field f) o) k
  from None j k e = refl
  from (Some m) j k e = e m

  one_found : (fs : List (Field A)) (g : Field A) → all (found_questions fs g) ≡ found_questions (map (on_field f) fs) (on_field f g)
  one_found fs g = from (find g.label fs) (λ m. field_questions m g m.mutable g.mutable) (λ m. field_questions m (on_field f g) m.mutable g.mutable) (λ m. one_field m g m.mutable g.mutable)
      ∙ ap (λ (o : Option (Field B)). with_some o (λ m. field_questions m (on_field f g) m.mutable g.mutable)) (sym (found g.label fs))

  fields : (fs gs : List (Field A)) → all (fields_questions fs gs) ≡ fields_questions (map (on_field f) fs) (map (on_field f) gs)
  fields fs [] = refl
  fields fs (g ∷ gs) = joined (found_questions fs g) (fields_questions fs gs)
      ∙ ap (λ (o : Option (List (Pair B))). join o (all (fields_questions fs gs))) (one_found fs g)
      ∙ ap (join (found_questions (map (on_field f) fs) (on_field f g))) (fields fs gs)

  one_tag : (gs : List (Field A)) (m : Field A) → all (tag_questions gs m) ≡ tag_questions (map (on_field f) gs) (on_field f m)
  one_tag gs m = from (find m.label gs) (λ g. one m.part g.part) (λ g. one (f m.part) g.part) (λ g. refl)
      ∙ ap (λ (o : Option (Field B)). with_some o (λ g. one (f m.part) g.part)) (sym (found m.label gs))

  tags : (fs gs : List (Field A)) → all (tags_questions fs gs) ≡ tags_questions (map (on_field f) fs) (map (on_field f) gs)
  tags [] gs = refl
  tags (m ∷ fs) gs = joined (tag_questions gs m) (tags_questions fs gs)
      ∙ ap (λ (o : Option (List (Pair B))). join o (all (tags_questions fs gs))) (one_tag gs m)
      ∙ ap (join (tag_questions (map (on_field f) gs) (on_field f m))) (tags fs gs)

  with' : {X Y : Type 0} (h : X → Y) (o : Option X) (j : X → Option (List (Pair A))) (k : Y → Option (List (Pair B))) → ((x : X) → all (j x) ≡ k (h x)) → all (with_some o j) ≡ with_some (map_option h o) k
  with' h None j k e = refl
  with' h (Some x) j k e = e x

  -- each projection of a head that is mapped is the projection, mapped
  pub record Same (y : Node A) : Type 0 where
    pub any : is_any (on_node f y) ≡ is_any y
    pub null : is_null (on_node f y) ≡ is_null y
    pub bool : is_bool (on_node f y) ≡ is_bool y
    pub char : is_char (on_node f y) ≡ is_char y
    pub text : is_text (on_node f y) ≡ is_text y
    pub blob : is_blob (on_node f y) ≡ is_blob y
    pub principal : is_principal (on_node f y) ≡ is_principal y
    pub error : is_error (on_node f y) ≡ is_error y
    pub number : number_of (on_node f y) ≡ number_of y
    pub opt : opt_of (on_node f y) ≡ map_option f (opt_of y)
    pub array : array_of (on_node f y) ≡ map_option f (array_of y)
    pub mut : mut_array_of (on_node f y) ≡ map_option f (mut_array_of y)
    pub tuple : tuple_of (on_node f y) ≡ map_option (map f) (tuple_of y)
    pub object : object_of (on_node f y) ≡ map_option (map (on_field f)) (object_of y)
    pub actor : actor_of (on_node f y) ≡ map_option (map (on_field f)) (actor_of y)
    pub variant : variant_of (on_node f y) ≡ map_option (map (on_field f)) (variant_of y)
    pub func : func_of (on_node f y) ≡ map_option (λ q. (q.0, map f q.1, map f q.2)) (func_of y)
    pub async_part : async_of (on_node f y) ≡ map_option f (async_of y)
    pub variable : variable_of (on_node f y) ≡ variable_of y

  same : (y : Node A) → Same y
  same (node.Number k) = record { any = refl; null = refl; bool = refl; char = refl; text = refl; blob = refl; principal = refl; error = refl; number = refl; opt = refl; array = refl; mut = refl; tuple = refl; object = refl; actor = refl; variant = refl; func = refl; async_part = refl; variable = refl }
  same node.Bool = record { any = refl; null = refl; bool = refl; char = refl; text = refl; blob = refl; principal = refl; error = refl; number = refl; opt = refl; array = refl; mut = refl; tuple = refl; object = refl; actor = refl; variant = refl; func = refl; async_part = refl; variable = refl }
  same node.Char = record { any = refl; null = refl; bool = refl; char = refl; text = refl; blob = refl; principal = refl; error = refl; number = refl; opt = refl; array = refl; mut = refl; tuple = refl; object = refl; actor = refl; variant = refl; func = refl; async_part = refl; variable = refl }
  same node.Text = record { any = refl; null = refl; bool = refl; char = refl; text = refl; blob = refl; principal = refl; error = refl; number = refl; opt = refl; array = refl; mut = refl; tuple = refl; object = refl; actor = refl; variant = refl; func = refl; async_part = refl; variable = refl }
  same node.Blob = record { any = refl; null = refl; bool = refl; char = refl; text = refl; blob = refl; principal = refl; error = refl; number = refl; opt = refl; array = refl; mut = refl; tuple = refl; object = refl; actor = refl; variant = refl; func = refl; async_part = refl; variable = refl }
  same node.Principal = record { any = refl; null = refl; bool = refl; char = refl; text = refl; blob = refl; principal = refl; error = refl; number = refl; opt = refl; array = refl; mut = refl; tuple = refl; object = refl; actor = refl; variant = refl; func = refl; async_part = refl; variable = refl }
  same node.Error = record { any = refl; null = refl; bool = refl; char = refl; text = refl; blob = refl; principal = refl; error = refl; number = refl; opt = refl; array = refl; mut = refl; tuple = refl; object = refl; actor = refl; variant = refl; func = refl; async_part = refl; variable = refl }
  same node.Null = record { any = refl; null = refl; bool = refl; char = refl; text = refl; blob = refl; principal = refl; error = refl; number = refl; opt = refl; array = refl; mut = refl; tuple = refl; object = refl; actor = refl; variant = refl; func = refl; async_part = refl; variable = refl }
  same node.Any = record { any = refl; null = refl; bool = refl; char = refl; text = refl; blob = refl; principal = refl; error = refl; number = refl; opt = refl; array = refl; mut = refl; tuple = refl; object = refl; actor = refl; variant = refl; func = refl; async_part = refl; variable = refl }
  same node.Bottom = record { any = refl; null = refl; bool = refl; char = refl; text = refl; blob = refl; principal = refl; error = refl; number = refl; opt = refl; array = refl; mut = refl; tuple = refl; object = refl; actor = refl; variant = refl; func = refl; async_part = refl; variable = refl }
  same (node.Opt a) = record { any = refl; null = refl; bool = refl; char = refl; text = refl; blob = refl; principal = refl; error = refl; number = refl; opt = refl; array = refl; mut = refl; tuple = refl; object = refl; actor = refl; variant = refl; func = refl; async_part = refl; variable = refl }
  same (node.Array a) = record { any = refl; null = refl; bool = refl; char = refl; text = refl; blob = refl; principal = refl; error = refl; number = refl; opt = refl; array = refl; mut = refl; tuple = refl; object = refl; actor = refl; variant = refl; func = refl; async_part = refl; variable = refl }
  same (node.MutArray a) = record { any = refl; null = refl; bool = refl; char = refl; text = refl; blob = refl; principal = refl; error = refl; number = refl; opt = refl; array = refl; mut = refl; tuple = refl; object = refl; actor = refl; variant = refl; func = refl; async_part = refl; variable = refl }
  same (node.Tuple ts) = record { any = refl; null = refl; bool = refl; char = refl; text = refl; blob = refl; principal = refl; error = refl; number = refl; opt = refl; array = refl; mut = refl; tuple = refl; object = refl; actor = refl; variant = refl; func = refl; async_part = refl; variable = refl }
  same (node.Object fs) = record { any = refl; null = refl; bool = refl; char = refl; text = refl; blob = refl; principal = refl; error = refl; number = refl; opt = refl; array = refl; mut = refl; tuple = refl; object = refl; actor = refl; variant = refl; func = refl; async_part = refl; variable = refl }
  same (node.Actor fs) = record { any = refl; null = refl; bool = refl; char = refl; text = refl; blob = refl; principal = refl; error = refl; number = refl; opt = refl; array = refl; mut = refl; tuple = refl; object = refl; actor = refl; variant = refl; func = refl; async_part = refl; variable = refl }
  same (node.Variant fs) = record { any = refl; null = refl; bool = refl; char = refl; text = refl; blob = refl; principal = refl; error = refl; number = refl; opt = refl; array = refl; mut = refl; tuple = refl; object = refl; actor = refl; variant = refl; func = refl; async_part = refl; variable = refl }
  same (node.Func s ps rs) = record { any = refl; null = refl; bool = refl; char = refl; text = refl; blob = refl; principal = refl; error = refl; number = refl; opt = refl; array = refl; mut = refl; tuple = refl; object = refl; actor = refl; variant = refl; func = refl; async_part = refl; variable = refl }
  same (node.Async a) = record { any = refl; null = refl; bool = refl; char = refl; text = refl; blob = refl; principal = refl; error = refl; number = refl; opt = refl; array = refl; mut = refl; tuple = refl; object = refl; actor = refl; variant = refl; func = refl; async_part = refl; variable = refl }
  same (node.Variable v b) = record { any = refl; null = refl; bool = refl; char = refl; text = refl; blob = refl; principal = refl; error = refl; number = refl; opt = refl; array = refl; mut = refl; tuple = refl; object = refl; actor = refl; variant = refl; func = refl; async_part = refl; variable = refl }

  whens : (b c : Bool) → b ≡ c → all (when c) ≡ when b
  whens true true e = refl
  whens false false e = refl
  whens true false e = cc
  whens false true e = cc

  or_same : (b c : Bool) (o : Option A) (p : Option B) → b ≡ c → p ≡ map_option f o → b || is_some_of p ≡ c || is_some_of o
  or_same b c o p e g = ap (λ d. d || is_some_of p) e ∙ ap (λ q. c || is_some_of q) g ∙ ap (λ d. c || d) (mapped o) where
    mapped : (o : Option A) → is_some_of (map_option f o) ≡ is_some_of o
    mapped None = refl
    mapped (Some a) = refl

  vars : (b u : A) (o : Option ℕ) (v : ℕ) → all (variable_questions b u o v) ≡ variable_questions (f b) (f u) o v
  vars b u None v = refl
  vars b u (Some w) v = pick' (nat_eq v w) where
    pick' : (c : Bool) → all (if c then Some [] else one b u) ≡ (if c then Some [] else one (f b) (f u))
    pick' true = refl
    pick' false = refl

  numbers : (k : Kind) (o p : Option Kind) → p ≡ o → all (with_some o (λ j. when (number_below k j))) ≡ with_some p (λ j. when (number_below k j))
  numbers k None p e = ap (λ q. with_some q (λ j. when (number_below k j))) (sym e)
  numbers k (Some j) p e = whens (number_below k j) (number_below k j) refl ∙ ap (λ q. with_some q (λ j. when (number_below k j))) (sym e)

  calls : (s : Sort) (ps rs : List A) (q : Sort × List A × List A) → all (func_questions s ps rs q) ≡ func_questions s (map f ps) (map f rs) (q.0, map f q.1, map f q.2)
  calls s ps rs q = joined (when (nat_eq (sort_number s) (sort_number q.0))) (join (parts_questions q.1 ps) (parts_questions rs q.2))
      ∙ ap (λ o. join o (all (join (parts_questions q.1 ps) (parts_questions rs q.2)))) (whens (nat_eq (sort_number s) (sort_number q.0)) (nat_eq (sort_number s) (sort_number q.0)) refl)
      ∙ ap (join (when (nat_eq (sort_number s) (sort_number q.0)))) (joined (parts_questions q.1 ps) (parts_questions rs q.2)
      ∙ ap (λ o. join o (all (parts_questions rs q.2))) (paired q.1 ps) ∙ ap (join (parts_questions (map f q.1) (map f ps))) (paired rs q.2))

  heads : (u : A) (x y : Node A) → Same y → all (head_questions u x y) ≡ head_questions (f u) (on_node f x) (on_node f y)
  heads u (node.Number k) y s = numbers k (number_of y) (number_of (on_node f y)) s.number
  heads u node.Bool y s = whens (is_bool (on_node f y)) (is_bool y) s.bool
  heads u node.Char y s = whens (is_char (on_node f y)) (is_char y) s.char
  heads u node.Text y s = whens (is_text (on_node f y)) (is_text y) s.text
  heads u node.Blob y s = whens (is_blob (on_node f y)) (is_blob y) s.blob
  heads u node.Principal y s = whens (is_principal (on_node f y)) (is_principal y) s.principal
  heads u node.Error y s = whens (is_error (on_node f y)) (is_error y) s.error
  heads u node.Null y s = whens (is_null (on_node f y) || is_some_of (opt_of (on_node f y))) (is_null y || is_some_of (opt_of y)) (or_same (is_null (on_node f y)) (is_null y) (opt_of y) (opt_of (on_node f y)) s.null s.opt)
  heads u node.Any y s = refl
  heads u node.Bottom y s = refl
  heads u (node.Opt a) y s = with' f (opt_of y) (λ b. one a b) (λ b. one (f a) b) (λ b. refl) ∙ ap (λ (o : Option B). with_some o (λ b. one (f a) b)) (sym s.opt)
  heads u (node.Array a) y s = with' f (array_of y) (λ b. one a b) (λ b. one (f a) b) (λ b. refl) ∙ ap (λ (o : Option B). with_some o (λ b. one (f a) b)) (sym s.array)
  heads u (node.MutArray a) y s = with' f (mut_array_of y) (λ b. both_ways a b) (λ b. both_ways (f a) b) (λ b. refl) ∙ ap (λ (o : Option B). with_some o (λ b. both_ways (f a) b)) (sym s.mut)
  heads u (node.Tuple ts) y s = with' (map f) (tuple_of y) (parts_questions ts) (parts_questions (map f ts)) (paired ts) ∙ ap (λ (o : Option (List B)). with_some o (parts_questions (map f ts))) (sym s.tuple)
  heads u (node.Object fs) y s = with' (map (on_field f)) (object_of y) (fields_questions fs) (fields_questions (map (on_field f) fs)) (fields fs) ∙ ap (λ (o : Option (List (Field B))). with_some o (fields_questions (map (on_field f) fs))) (sym s.object)
  heads u (node.Actor fs) y s = with' (map (on_field f)) (actor_of y) (fields_questions fs) (fields_questions (map (on_field f) fs)) (fields fs) ∙ ap (λ (o : Option (List (Field B))). with_some o (fields_questions (map (on_field f) fs))) (sym s.actor)
  heads u (node.Variant fs) y s = with' (map (on_field f)) (variant_of y) (tags_questions fs) (tags_questions (map (on_field f) fs)) (tags fs) ∙ ap (λ (o : Option (List (Field B))). with_some o (tags_questions (map (on_field f) fs))) (sym s.variant)
  heads u (node.Func t ps rs) y s = with' (λ q. (q.0, map f q.1, map f q.2)) (func_of y) (func_questions t ps rs) (func_questions t (map f ps) (map f rs)) (calls t ps rs)
      ∙ ap (λ (o : Option (Sort × List B × List B)). with_some o (func_questions t (map f ps) (map f rs))) (sym s.func)
  heads u (node.Async a) y s = with' f (async_of y) (λ b. one a b) (λ b. one (f a) b) (λ b. refl) ∙ ap (λ (o : Option B). with_some o (λ b. one (f a) b)) (sym s.async_part)
  heads u (node.Variable v b) y s = vars b u (variable_of y) v ∙ ap (λ (o : Option ℕ). variable_questions (f b) (f u) o v) (sym s.variable)

  asks : (u : A) (x y : Node A) → all (questions u x y) ≡ questions (f u) (on_node f x) (on_node f y)
  unfolding questions
  asks u x y = pick (is_any y) ∙ ap (λ (b : Bool). if b then Some [] else head_questions (f u) (on_node f x) (on_node f y)) (sym (same y).any) where
    pick : (b : Bool) → all (if b then Some [] else head_questions u x y) ≡ (if b then Some [] else head_questions (f u) (on_node f x) (on_node f y))
    pick true = refl
    pick false = heads u x y (same y)

module _ {A B : Type 0} (f : A → B) (h : A → Node A) (k : B → Node B) (e : (a : A) → k (f a) ≡ on_node f (h a)) where
  there : (P : Pair A → Type 0) (Q : Pair B → Type 0) → ((q : Pair A) → P q → Q (two f q)) → (o : Option (List (Pair A))) → AtSome o (Each P) → AtSome (all f o) (Each Q)
  there P Q g None x = x
  there P Q g (Some qs) x = go qs x where
    go : (qs : List (Pair A)) → Each P qs → Each Q (map (two f) qs)
    go [] x = tt
    go (q ∷ qs) x = (g q x.0, go qs x.1)

  back : (P : Pair A → Type 0) (Q : Pair B → Type 0) → ((q : Pair A) → Q (two f q) → P q) → (o : Option (List (Pair A))) → AtSome (all f o) (Each Q) → AtSome o (Each P)
  back P Q g None x = x
  back P Q g (Some qs) x = go qs x where
    go : (qs : List (Pair A)) → Each Q (map (two f) qs) → Each P qs
    go [] x = tt
    go (q ∷ qs) x = (g q x.0, go qs x.1)

  same_asks : (t u : A) → all f (questions u (h t) (h u)) ≡ questions (f u) (k (f t)) (k (f u))
  same_asks t u = asks f u (h t) (h u) ∙ ap (λ (x : Node B). questions (f u) x (on_node f (h u))) (sym (e t)) ∙ ap (λ (y : Node B). questions (f u) (k (f t)) y) (sym (e u))

  pub sub_there : (n : ℕ) (t u : A) → Sub h n t u → Sub k n (f t) (f u)
  sub_there zero t u s = sub_zero k (f t) (f u)
  sub_there (suc n) t u s = sub_from k n (pair (f t) (f u)) (subst (λ (o : Option (List (Pair B))). AtSome o (Each (Holds (Sub k n)))) (same_asks t u)
      (there (Holds (Sub h n)) (Holds (Sub k n)) (λ q. sub_there n q.low q.high) (questions u (h t) (h u)) (sub_to h n (pair t u) s)))

  pub sub_back : (n : ℕ) (t u : A) → Sub k n (f t) (f u) → Sub h n t u
  sub_back zero t u s = sub_zero h t u
  sub_back (suc n) t u s = sub_from h n (pair t u)
      (back (Holds (Sub h n)) (Holds (Sub k n)) (λ q. sub_back n q.low q.high) (questions u (h t) (h u))
      (subst (λ (o : Option (List (Pair B))). AtSome o (Each (Holds (Sub k n)))) (sym (same_asks t u)) (sub_to k n (pair (f t) (f u)) s)))
