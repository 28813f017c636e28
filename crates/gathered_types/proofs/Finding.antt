-- Definitions that are found one after another.
use Rattle.std.proofs.Common.{◌≡◌, ◌+◌, ◌≤◌, ℕ, List, [], ◌∷◌, ◌++◌, ap, append-nil, append_assoc, length, length-append, map, refl, subst, sym, take, drop, arith, ◌∙◌}
use Rattle.std.proofs.lemmas.Result.{on_ok_weaker}
use Rattle.std.specs.Prelude.{Result, OnOk}
use Rattle.mo_types.specs.Sub.{Each}
use Rattle.type_terms.specs.declared.form.Form.{Form}
use Rattle.type_terms.specs.declared.form.TermId.{TermId}
use Rattle.typing_rules.specs.Definitions.{Definitions}
use Rattle.typing_rules.specs.Definitions as d
use Rattle.typing_rules.specs.Gathered.{both, nothing}
use Rattle.typing_rules.specs.Terms.{Term}
use Rattle.type_definitions.specs.declared.definitions.Definition.{Definition}
use Rattle.type_definitions.specs.Definitions.{Listed, Stand, as_bounds, as_rule, as_rules, listed, rules_in}
use Rattle.type_definitions.specs.Meanings.{term}
use Rattle.type_definitions.specs.Tables.{Grows, Within}
use Rattle.type_definitions.proofs.Meanings.{each_map, each_within, later_on, within_on}
use Rattle.met_types.specs.States.{State, Kept}
use Rattle.definition_rules.proofs.Adding.{take_all}
use Rattle.definition_rules.proofs.Promoting.{same_itself, same_on}
use Rattle.type_scopes.specs.Scopes.{Names, seen}
use Rattle.typing_rules.specs.TypeScopes.{TypeScope}
use Rattle.written_types.specs.Written.{Wrote}
use Rattle.gathered_types.specs.Finding.{Finds, joined, one_bound, one_type}

-- ---- lists

pub listed_same : (a b : List ℕ) (c e : List Definition) (f g : List ℕ) (h i : List TermId) → a ≡ b → c ≡ e → f ≡ g → h ≡ i → listed a c f h ≡ listed b e g i
listed_same a b c e f g h i p q r s =
    ap (λ (z : List ℕ). listed z c f h) p ∙ (ap (λ (z : List Definition). listed b z f h) q ∙ (ap (λ (z : List ℕ). listed b e z h) r ∙ ap (λ (z : List TermId). listed b e g z) s))

abbrev pub defs : List d.Definition → List d.Bounded → Definitions
defs ts bs = record { types = ts; parameters = bs }

pub definitions_same : (a b : List d.Definition) (c e : List d.Bounded) → a ≡ b → c ≡ e → defs a c ≡ defs b e
definitions_same a b c e p q = ap (λ (z : List d.Definition). defs z c) p ∙ ap (λ (z : List d.Bounded). defs b z) q

pub both_nothing : (a : Definitions) → both a nothing ≡ a
both_nothing a = definitions_same (a.types ++ []) a.types (a.parameters ++ []) a.parameters (append-nil a.types) (append-nil a.parameters)

pub both_both : (a b c : Definitions) → both (both a b) c ≡ both a (both b c)
both_both a b c = definitions_same ((a.types ++ b.types) ++ c.types) (a.types ++ (b.types ++ c.types)) ((a.parameters ++ b.parameters) ++ c.parameters) (a.parameters ++ (b.parameters ++ c.parameters)) (append_assoc a.types b.types c.types) (append_assoc a.parameters b.parameters c.parameters)

each_more : {A : Type 0} (P : A → Type 0) (xs ys : List A) → Each P xs → Each P ys → Each P (xs ++ ys)
each_more P [] ys h k = k
each_more P (x ∷ xs) ys h k = (h.0, each_more P xs ys h.1 k)

as_many_more : {A B : Type 0} (ms ns : List A) (xs ys : List B) → length ms ≡ length xs → length ns ≡ length ys → length (ms ++ ns) ≡ length (xs ++ ys)
as_many_more ms ns xs ys h k = length-append ms ns ∙ (ap (λ n. n + length ns) h ∙ (ap (λ n. length xs + n) k ∙ sym (length-append xs ys)))

module _ (at : TermId → Term) where
  rules_more : (ns ms : List ℕ) (xs ys : List Definition) → length ns ≡ length xs → as_rules at (ns ++ ms) (xs ++ ys) ≡ as_rules at ns xs ++ as_rules at ms ys
  rules_more [] ms [] ys h = refl
  rules_more [] ms (x ∷ xs) ys h = absurd (omega arith)
  rules_more (n ∷ ns) ms [] ys h = absurd (omega arith)
  rules_more (n ∷ ns) ms (x ∷ xs) ys h = ap (λ l. as_rule at n x ∷ l) (rules_more ns ms xs ys (omega arith))

  bounds_more : (ns ms : List ℕ) (bs cs : List TermId) → length ns ≡ length bs → as_bounds at (ns ++ ms) (bs ++ cs) ≡ as_bounds at ns bs ++ as_bounds at ms cs
  bounds_more [] ms [] cs h = refl
  bounds_more [] ms (b ∷ bs) cs h = absurd (omega arith)
  bounds_more (n ∷ ns) ms [] cs h = absurd (omega arith)
  bounds_more (n ∷ ns) ms (b ∷ bs) cs h = ap (λ l. let x : d.Bounded = record { at = n; bound = at b } in x ∷ l) (bounds_more ns ms bs cs (omega arith))

both_in : (forms : List Form) (a b : Listed) (later : List Form) → Stand forms a → rules_in later (joined a b) ≡ both (rules_in later a) (rules_in later b)
both_in forms a b later s = definitions_same (as_rules (term later) (a.names ++ b.names) (a.types ++ b.types)) (as_rules (term later) a.names a.types ++ as_rules (term later) b.names b.types)
    (as_bounds (term later) (a.bounded ++ b.bounded) (a.bounds ++ b.bounds)) (as_bounds (term later) a.bounded a.bounds ++ as_bounds (term later) b.bounded b.bounds)
    (rules_more (term later) a.names b.names a.types b.types s.as_many) (bounds_more (term later) a.bounded b.bounded a.bounds b.bounds s.as_many_bounds)

stand_on : (a b : List Form) (l : Listed) → Grows a b → Stand a l → Stand b l
stand_on a b l g s = record {
  as_many = s.as_many;
  as_many_bounds = s.as_many_bounds;
  types = each_map (λ (x : Definition). Within a x.right) (λ (x : Definition). Within b x.right) (λ x h. within_on a b x.right g h) l.types s.types;
  bounds = each_within a b l.bounds g s.bounds;
}

stand_more : (forms : List Form) (a b : Listed) → Stand forms a → Stand forms b → Stand forms (joined a b)
stand_more forms a b s t = record {
  as_many = as_many_more a.names b.names a.types b.types s.as_many t.as_many;
  as_many_bounds = as_many_more a.bounded b.bounded a.bounds b.bounds s.as_many_bounds t.as_many_bounds;
  types = each_more (λ (x : Definition). Within forms x.right) a.types b.types s.types t.types;
  bounds = each_more (Within forms) a.bounds b.bounds s.bounds t.bounds;
}

joined_joined : (a b c : Listed) → joined (joined a b) c ≡ joined a (joined b c)
joined_joined a b c = listed_same _ _ _ _ _ _ _ _ (append_assoc a.names b.names c.names) (append_assoc a.types b.types c.types) (append_assoc a.bounded b.bounded c.bounded) (append_assoc a.bounds b.bounds c.bounds)

-- ---- what is found

pub finds_none : (a : State) (x : Listed) → Kept a → Finds a a nothing x x
finds_none a x k = record {
  same = same_itself a k;
  more = listed [] [] [] [];
  found = sym (listed_same (x.names ++ []) x.names (x.types ++ []) x.types (x.bounded ++ []) x.bounded (x.bounds ++ []) x.bounds (append-nil x.names) (append-nil x.types) (append-nil x.bounded) (append-nil x.bounds));
  stand = record { as_many = refl; as_many_bounds = refl; types = tt; bounds = tt };
  is = λ later l. refl;
}

pub finds_as : (old new : State) (a b : Definitions) (x y : Listed) → a ≡ b → Finds old new a x y → Finds old new b x y
finds_as old new a b x y e f = subst (λ (c : Definitions). Finds old new c x y) e f

pub finds_then : (old mid new : State) (a b : Definitions) (x y z : Listed) → Finds old mid a x y → Finds mid new b y z → Finds old new (both a b) x z
finds_then old mid new a b x y z f g = record {
  same = same_on old mid new f.same g.same;
  more = joined f.more g.more;
  found = g.found ∙ (ap (λ (l : Listed). joined l g.more) f.found ∙ joined_joined x f.more g.more);
  stand = stand_more new.forms f.more g.more (stand_on mid.forms new.forms f.more g.same.goes.forms f.stand) g.stand;
  is = λ later l.
      both_in mid.forms f.more g.more later f.stand
      ∙ (ap (λ (c : Definitions). both c (rules_in later g.more)) (f.is later (later_on mid.forms new.forms later g.same.goes.forms l)) ∙ ap (λ (c : Definitions). both a c) (g.is later l));
}

pub finds_bound : (old new : State) (n : ℕ) (u : Term) (id : TermId) (x y : Listed) → Wrote old new u id → y ≡ joined x (one_bound n id) → Finds old new (defs [] (record { at = n; bound = u } ∷ [])) x y
finds_bound old new n u id x y w e = record {
  same = w.same;
  more = one_bound n id;
  found = e;
  stand = record { as_many = refl; as_many_bounds = refl; types = tt; bounds = (w.made.within, tt) };
  is = λ later l. ap (λ (v : Term). defs [] (record { at = n; bound = v } ∷ [])) (w.made.is later l);
}

-- the definition, whose parameters are these outer ones and these of its own
pub finds_type : (old new : State) (n : ℕ) (outer own : List ℕ) (u : Term) (made : Definition) (x y : Listed) → Wrote old new u made.right → take made.outer made.parameters ≡ outer → drop made.outer made.parameters ≡ own → y ≡ joined x (one_type n made)
    → Finds old new (defs (record { at = n; outer = outer; own = own; right = u } ∷ []) []) x y
finds_type old new n outer own u made x y w f g e = record {
  same = w.same;
  more = one_type n made;
  found = e;
  stand = record { as_many = refl; as_many_bounds = refl; types = (w.made.within, tt); bounds = tt };
  is = λ later l.
      ap (λ (v : Term). defs (record { at = n; outer = take made.outer made.parameters; own = drop made.outer made.parameters; right = v } ∷ []) []) (w.made.is later l)
      ∙ (ap (λ (v : List ℕ). defs (record { at = n; outer = v; own = drop made.outer made.parameters; right = u } ∷ []) []) f
      ∙ ap (λ (v : List ℕ). defs (record { at = n; outer = outer; own = v; right = u } ∷ []) []) g);
}

-- ---- lists, one after another

abbrev pub all_of : List Definitions → Definitions
all_of [] = nothing
all_of (a ∷ more) = both a (all_of more)

module _ {A : Type 0} (f : A → Definitions) where
  all_more : (xs : List A) (x : A) → all_of (map f (xs ++ x ∷ [])) ≡ both (all_of (map f xs)) (f x)
  all_more [] x = both_nothing (f x)
  all_more (y ∷ xs) x = ap (λ (c : Definitions). both (f y) c) (all_more xs x) ∙ sym (both_both (f y) (all_of (map f xs)) (f x))

  pub first_found : (a : State) (xs : List A) (l : Listed) → Kept a → Finds a a (all_of (map f (take 0 xs))) l l
  first_found a xs l k = finds_none a l k

  pub next_found : (old mid new : State) (xs : List A) (i : ℕ) (x : A) (l m n : Listed) → take (i + 1) xs ≡ take i xs ++ x ∷ [] → Finds old mid (all_of (map f (take i xs))) l m → Finds mid new (f x) m n
      → Finds old new (all_of (map f (take (i + 1) xs))) l n
  next_found old mid new xs i x l m n e a b =
      finds_as old new (both (all_of (map f (take i xs))) (f x)) (all_of (map f (take (i + 1) xs))) l n (sym (all_more (take i xs) x) ∙ sym (ap (λ (ys : List A). all_of (map f ys)) e))
      (finds_then old mid new (all_of (map f (take i xs))) (f x) l m n a b)

  pub all_found : (old new : State) (c : Definitions) (xs : List A) (i : ℕ) (l m : Listed) → length xs ≤ i → all_of (map f xs) ≡ c → Finds old new (all_of (map f (take i xs))) l m → Finds old new c l m
  all_found old new c xs i l m h e a = finds_as old new (all_of (map f (take i xs))) c l m (ap (λ (ys : List A). all_of (map f ys)) (take_all xs i h) ∙ e) a

-- ---- steps of the walk

pub if_finds_as : {E : Type 0} (old new : State) (a b : Definitions) (x y : Listed) (r : Result (Unit {0}) E) → a ≡ b → OnOk r (Finds old new a x y) → OnOk r (Finds old new b x y)
if_finds_as old new a b x y r e h = on_ok_weaker r (finds_as old new a b x y e) h

-- one part, and then another in the same scope
pub then_finds : {E : Type 0} (s m : Names) (old mid new : State) (a whole : Definitions) (b : TypeScope → Definitions) (x y z : Listed) (r : Result (Unit {0}) E) → m ≡ s → both a (b (seen s)) ≡ whole
    → Finds old mid a x y → OnOk r (Finds mid new (b (seen m)) y z) → OnOk r (Finds old new whole x z)
then_finds s m old mid new a whole b x y z r e w f h = on_ok_weaker r
    (λ g. finds_as old new (both a (b (seen s))) whole x z w (finds_then old mid new a (b (seen s)) x y z f (subst (λ (k : Names). Finds mid new (b (seen k)) y z) e g)))
    h

-- the scope stays
pub stays : {E : Type 0} (s m n : Names) (r : Result (Unit {0}) E) → m ≡ s → OnOk r (n ≡ m) → OnOk r (n ≡ s)
stays s m n r e h = on_ok_weaker r (λ k. k ∙ e) h

-- the part in a scope with more names
pub found_in : (old new : State) (a : TypeScope → Definitions) (s t : TypeScope) (x y : Listed) → s ≡ t → Finds old new (a s) x y → Finds old new (a t) x y
found_in old new a s t x y e f = subst (λ (u : TypeScope). Finds old new (a u) x y) e f
