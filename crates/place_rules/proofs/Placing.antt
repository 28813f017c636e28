-- What may be assigned to, and assignments, by their parts.
use Rattle.std.proofs.Common.{◌≡◌, ◌∙◌, ℕ, Bool, true, false, List, Ok, Err, Option, Some, None, option_map, refl, sym, ap, subst}
use Rattle.std.specs.Prelude.{Result, IfSome, OnOk}
use Rattle.std.specs.Result.{IsErr, IsErrAnd}
use Rattle.mo_scopes.specs.declared.library.Member.{Member}
use Rattle.mo_scopes.specs.Scopes.{named}
use Rattle.mo_types.specs.Heads.{mut_array_of}
use Rattle.type_terms.specs.declared.form.Form.{Form}
use Rattle.type_terms.specs.declared.form.TermId.{TermId}
use Rattle.typing_rules.specs.declared.condition.Condition.TheVariants as condition
use Rattle.typing_rules.specs.AbstractSyntax.{Expression}
use Rattle.typing_rules.specs.AbstractSyntax as p
use Rattle.typing_rules.specs.Calls.{built_in}
use Rattle.typing_rules.specs.Contexts.{Bound, value_named}
use Rattle.typing_rules.specs.Ends.{Has}
use Rattle.typing_rules.specs.Expressions.{JudgePlace, PlaceRule, element_of}
use Rattle.typing_rules.specs.Heads.{members_head}
use Rattle.typing_rules.specs.Judgements.{Judgement, Fails, Part, Tests, Given as IsGiven}
use Rattle.typing_rules.specs.Members.{object_field}
use Rattle.typing_rules.specs.Terms.{Term, nat, unit}
use Rattle.typing_rules.specs.TypedTrees.{Note, Typed, type_of}
use Rattle.type_definitions.specs.Definitions.{rules_in}
use Rattle.type_definitions.specs.Meanings.{term}
use Rattle.met_types.specs.States.{IsReached, Kept}
use Rattle.type_judgements.specs.declared.refusal.Refusal.{Refusal}
use Rattle.type_judgements.specs.declared.refusal.Refusal.TheVariants as refusal
use Rattle.abstract_tree.specs.declared.expressions.Expression as value_tree
use Rattle.abstract_tree.specs.TreeView.{plain, plain_form}
use Rattle.value_scopes.specs.declared.bound.Bound as value
use Rattle.value_scopes.specs.declared.place.Place.{Place}
use Rattle.value_scopes.specs.declared.scopes.Scopes.{Scopes}
use Rattle.value_scopes.specs.Places.{context_in}
use Rattle.value_scopes.specs.Values.{bound_in}
use Rattle.judging.specs.declared.checker.Checker.{Checker}
use Rattle.judging.specs.declared.site.Site.{Site}
use Rattle.judging.specs.Parts.{Ready, Wanting}
use Rattle.judging.specs.Views.{View, context, definitions, judge, judge_at, rule, wanted_in, typed_in, kind_reached}
use Rattle.judging.proofs.Cases.{case_none, case_some, given_none, given_some, tests_fail, tests_hold}
use Rattle.judging.proofs.Chains.{fails, seen_as}
use Rattle.judging.proofs.Forms.{seen, type_is}
use Rattle.judging.proofs.Steps.{ready_on}
use Rattle.judging.proofs.TypedParts.{Given, Comes, part_given, part_refused}
use Rattle.member_heads.specs.Members.{MembersHave}
use Rattle.member_heads.proofs.ByMembers.{by_flag, by_members, member_given, no_member}
use Rattle.member_heads.proofs.HeadParts.{var_field}
use Rattle.name_rules.proofs.NoNames.{value_seen}
use Rattle.place_rules.specs.Places.{place_rule, site_in}

-- no type is wanted
pub has_none : (x : Site) (u : List Form → Term) (f : List Form → p.Form Note) (c d : Scopes) (k l : Checker) (r : Result Given Refusal) → x.wanted ≡ None
    → Comes (λ v. Has x.at (wanted_in v x.wanted) (u v.later) (f v.later)) c k d l r → Comes (λ v. Has x.at None (u v.later) (f v.later)) c k d l r
has_none x u f c d k l r e h = subst (λ (o : Option TermId). Comes (λ v. Has x.at (option_map (term v.later) o) (u v.later) (f v.later)) c k d l r) e h

pub no_wanting : (k : Checker) (x : Site) → Kept k.types → x.wanted ≡ None → Wanting k x
no_wanting k x q e = record { kept = q; wanted = subst (λ (o : Option TermId). IfSome o (IsReached k.types)) (sym e) tt }

-- a rule can be applied at the place, where it can around it
pub ready_at : (at : ℕ) (k : Checker) (c : Scopes) (x y : Site) → Ready k c x → y ≡ site_in x.place at → Ready k c y
ready_at at k c x y r e = subst (λ (z : Site). Ready k c z) (sym e) (record { sound = r.sound; returns = r.returns; wanting = record { kept = r.wanting.kept; wanted = tt } })

pub ready_after : (x : Site) (j : View → Judgement Typed) (c d : Scopes) (k l : Checker) (r : Result Given Refusal) → Ready k c x → Comes j c k d l r → OnOk r (Ready l d x)
ready_after x j c d k l (Ok g) q h = ready_on k l c d x q h.outcome.sound h.outcome.goes
ready_after x j c d k l (Err e) q h = tt

-- ---- a name

module _ (x : Site) (name : List ℕ) (c : Scopes) (k : Checker) where
  abbrev is_variable : View → Bound → Judgement Typed
  is_variable v b = Tests condition.NotMutable x.at b.mutable (Has x.at None b.type (p.Name name))

  pub no_variable : None ≡ named c.values name → Comes (place_rule x (p.Name name)) c k c k (Err (refusal.False x.at condition.NotMutable))
  no_variable e = given_none typed_in kind_reached condition.NotMutable x.at (λ v. value_named (context v x.place) name) c k is_variable (λ later w. value_seen later c.values name None e)

  module _ (b : value.Bound) (e : Some b ≡ named c.values name) where
    found : (d : Scopes) (m : Checker) (r : Result Given Refusal) → Comes (λ v. is_variable v (bound_in v.later b)) c k d m r → Comes (place_rule x (p.Name name)) c k d m r
    found d m r h =
        given_some typed_in kind_reached (λ v. value_named (context v x.place) name) c d k m r condition.NotMutable x.at is_variable (λ later. bound_in later b) (λ later w. value_seen later c.values name (Some b) e) h

    pub constant_name : b.mutable ≡ false → Comes (place_rule x (p.Name name)) c k c k (Err (refusal.False x.at condition.NotMutable))
    constant_name g =
        found c k (Err (refusal.False x.at condition.NotMutable)) (tests_fail typed_in kind_reached condition.NotMutable x.at b.mutable (λ v. Has x.at None (term v.later b.kind) (p.Name name)) c k g)

    pub variable_name : b.mutable ≡ true → x.wanted ≡ None → (m : Checker) (r : Result Given Refusal) → Comes (λ v. Has x.at (wanted_in v x.wanted) (term v.later b.kind) (p.Name name)) c k c m r → Comes (place_rule x (p.Name name)) c k c m r
    variable_name g w m r h =
        found c m r (tests_hold typed_in kind_reached condition.NotMutable x.at b.mutable (λ v. Has x.at None (term v.later b.kind) (p.Name name)) c c k m r g
        (has_none x (λ later. term later b.kind) (λ later. p.Name name) c c k m r w h))

-- ---- a field

module _ (x : Site) (a : Expression ℕ) (y : List ℕ) (c : Scopes) (k : Checker) where
  abbrev of_object : View → Judgement Typed
  of_object v = judge x.place a None v

  abbrev is_field : View → Typed → Bool → Term → Judgement Typed
  is_field v b mutable u = Tests condition.NotMutable x.at mutable (Has x.at None u (p.Member b y))

  abbrev fields : View → Typed → Judgement Typed
  fields v b = IsGiven condition.NoField x.at (object_field y (members_head (definitions v) (type_of b))) (λ f. is_field v b f.mutable f.part)

  abbrev no_module : View → Unit {0} → Judgement Typed
  no_module v u = Part (of_object v) (fields v)

  abbrev a_module : View → Member → Judgement Typed
  a_module v m = Fails condition.NotMutable x.at

  pub module_field : (m : Member) → ((later : List Form) (e : Place) → built_in (context_in later c e) a y ≡ Some m) → Comes (place_rule x (p.Member a y)) c k c k (Err (refusal.False x.at condition.NotMutable))
  module_field m e =
      case_some typed_in kind_reached (λ v. built_in (context v x.place) a y) c c k k (Err (refusal.False x.at condition.NotMutable)) a_module no_module (λ later. m) (λ later w. e later x.place)
      (fails typed_in kind_reached (λ v. a_module v m) c k condition.NotMutable x.at (λ later w. refl))

  module _ (e : (later : List Form) (e : Place) → built_in (context_in later c e) a y ≡ None) where
    of_value : (d : Scopes) (l : Checker) (r : Result Given Refusal) → Comes (λ v. no_module v tt) c k d l r → Comes (place_rule x (p.Member a y)) c k d l r
    of_value d l r h = case_none typed_in kind_reached (λ v. built_in (context v x.place) a y) c d k l r a_module no_module (λ later w. e later x.place) h

    pub no_object : (d : Scopes) (l : Checker) (q : Refusal) (r : Result Given Refusal) → IsErr r × IsErrAnd r (λ z. z ≡ q) → Comes of_object c k d l (Err q) → Comes (place_rule x (p.Member a y)) c k d l r
    no_object d l q r h i = of_value d l r (part_refused of_object fields c d k l q r h i)

    module _ (d : Scopes) (l : Checker) (g : Given) (h : Comes of_object c k d l (Ok g)) where
      abbrev by_flags : View → Bool × Term → Judgement Typed
      by_flags v z = is_field v (typed_in g v.later) z.0 z.1

      with_fields : (s : Scopes) (m : Checker) (r : Result Given Refusal) → Comes (by_members (var_field y) condition.NoField x.at g by_flags d l) d l s m r → Comes (place_rule x (p.Member a y)) c k s m r
      with_fields s m r i =
          of_value s m r
          (part_given of_object fields c d s k l m g r h
          (seen_as typed_in kind_reached (λ v. fields v (typed_in g v.later)) (by_members (var_field y) condition.NoField x.at g by_flags d l) d s l m r
          (λ later w. by_flag condition.NoField x.at (object_field y (members_head (rules_in later l.types.listed) (type_of (typed_in g later)))) (is_field (record { later = later; listed = l.types.listed; scopes = d }) (typed_in g later))) i))

      pub no_field : MembersHave (var_field y) l.types g.note.kind (λ later. None) → Comes (place_rule x (p.Member a y)) c k d l (Err (refusal.False x.at condition.NoField))
      no_field f = with_fields d l (Err (refusal.False x.at condition.NoField)) (no_member (var_field y) condition.NoField x.at g by_flags d l f)

      module _ (o : Option (Bool × TermId)) (f : MembersHave (var_field y) l.types g.note.kind (λ later. option_map (λ z. (z.0, term later z.1)) o)) (mutable : Bool) (u : TermId) (is : o ≡ Some (mutable, u)) where
        found_field : (b : Bool) → mutable ≡ b → MembersHave (var_field y) l.types g.note.kind (λ later. Some (b, term later u))
        found_field b q later w = f later w ∙ ap (option_map (λ (z : Bool × TermId). (z.0, term later z.1))) (is ∙ ap (λ (z : Bool). Some (z, u)) q)

        pub constant_field : mutable ≡ false → Comes (place_rule x (p.Member a y)) c k d l (Err (refusal.False x.at condition.NotMutable))
        constant_field q =
            with_fields d l (Err (refusal.False x.at condition.NotMutable))
            (member_given (var_field y) condition.NoField x.at g by_flags d l (λ later. (false, term later u)) (found_field false q) d l (Err (refusal.False x.at condition.NotMutable))
            (tests_fail typed_in kind_reached condition.NotMutable x.at false (λ v. Has x.at None (term v.later u) (p.Member (typed_in g v.later) y)) d l refl))

        pub variable_field : mutable ≡ true → x.wanted ≡ None → (s : Scopes) (m : Checker) (r : Result Given Refusal)
            → Comes (λ v. Has x.at (wanted_in v x.wanted) (term v.later u) (p.Member (typed_in g v.later) y)) d l s m r → Comes (place_rule x (p.Member a y)) c k s m r
        variable_field q w s m r i =
            with_fields s m r
            (member_given (var_field y) condition.NoField x.at g by_flags d l (λ later. (true, term later u)) (found_field true q) s m r
            (tests_hold typed_in kind_reached condition.NotMutable x.at true (λ v. Has x.at None (term v.later u) (p.Member (typed_in g v.later) y)) d s l m r refl
            (has_none x (λ later. term later u) (λ later. p.Member (typed_in g later) y) d s l m r w i)))

        pub field_reached : IfSome o (λ z. IsReached l.types z.1) → IsReached l.types u
        field_reached h = subst (λ (z : Option (Bool × TermId)). IfSome z (λ q. IsReached l.types q.1)) is h

-- ---- an element

module _ (x : Site) (a i : Expression ℕ) (c d : Scopes) (k l : Checker) where
  abbrev of_array : View → Judgement Typed
  of_array v = judge x.place a None v

  abbrev at_place : View → Judgement Typed
  at_place v = judge_at x.place i (Some nat) v

  abbrev is_element : View → Typed → Term → Typed → Judgement Typed
  is_element v b u j = Has x.at None u (p.Index b j)

  abbrev indexed : View → Typed → Term → Judgement Typed
  indexed v b u = Part (at_place v) (is_element v b u)

  abbrev mutables : View → Typed → Term → Judgement Typed
  mutables v b z = IsGiven condition.NotMutable x.at (mut_array_of (members_head (definitions v) (type_of b))) (indexed v b)

  abbrev elements : View → Typed → Judgement Typed
  elements v b = IsGiven condition.NotArray x.at (element_of (members_head (definitions v) (type_of b))) (mutables v b)

  pub no_array_judged : (q : Refusal) (r : Result Given Refusal) → IsErr r × IsErrAnd r (λ z. z ≡ q) → Comes of_array c k d l (Err q) → Comes (place_rule x (p.Index a i)) c k d l r
  no_array_judged q r h j = part_refused of_array elements c d k l q r h j

  module _ (g : Given) (h : Comes of_array c k d l (Ok g)) where
    pub no_elements : MembersHave element_of l.types g.note.kind (λ later. None) → Comes (place_rule x (p.Index a i)) c k d l (Err (refusal.False x.at condition.NotArray))
    no_elements f =
        part_given of_array elements c d d k l l g (Err (refusal.False x.at condition.NotArray)) h (no_member element_of condition.NotArray x.at g (λ v. mutables v (typed_in g v.later)) d l f)

    module _ (one : TermId) (f : MembersHave element_of l.types g.note.kind (λ later. Some (term later one))) where
      with_element : (s : Scopes) (m : Checker) (r : Result Given Refusal) → Comes (λ v. mutables v (typed_in g v.later) (term v.later one)) d l s m r → Comes (place_rule x (p.Index a i)) c k s m r
      with_element s m r j =
          part_given of_array elements c d s k l m g r h (member_given element_of condition.NotArray x.at g (λ v. mutables v (typed_in g v.later)) d l (λ later. term later one) f s m r j)

      pub constant_elements : MembersHave mut_array_of l.types g.note.kind (λ later. None) → Comes (place_rule x (p.Index a i)) c k d l (Err (refusal.False x.at condition.NotMutable))
      constant_elements o = with_element d l (Err (refusal.False x.at condition.NotMutable)) (no_member mut_array_of condition.NotMutable x.at g (λ v. indexed v (typed_in g v.later)) d l o)

      module _ (u : TermId) (o : MembersHave mut_array_of l.types g.note.kind (λ later. Some (term later u))) where
        with_mutable : (s : Scopes) (m : Checker) (r : Result Given Refusal) → Comes (λ v. indexed v (typed_in g v.later) (term v.later u)) d l s m r → Comes (place_rule x (p.Index a i)) c k s m r
        with_mutable s m r j = with_element s m r (member_given mut_array_of condition.NotMutable x.at g (λ v. indexed v (typed_in g v.later)) d l (λ later. term later u) o s m r j)

        pub no_index : (s : Scopes) (m : Checker) (q : Refusal) (r : Result Given Refusal) → IsErr r × IsErrAnd r (λ z. z ≡ q) → Comes at_place d l s m (Err q) → Comes (place_rule x (p.Index a i)) c k s m r
        no_index s m q r j z = with_mutable s m r (part_refused at_place (λ v. is_element v (typed_in g v.later) (term v.later u)) d s l m q r j z)

        pub variable_element : x.wanted ≡ None → (s t : Scopes) (m n : Checker) (b : Given) (r : Result Given Refusal) → Comes at_place d l s m (Ok b)
            → Comes (λ v. Has x.at (wanted_in v x.wanted) (term v.later u) (p.Index (typed_in g v.later) (typed_in b v.later))) s m t n r → Comes (place_rule x (p.Index a i)) c k t n r
        variable_element w s t m n b r j z =
            with_mutable t n r (part_given at_place (λ v. is_element v (typed_in g v.later) (term v.later u)) d s t l m n b r j
            (has_none x (λ later. term later u) (λ later. p.Index (typed_in g later) (typed_in b later)) s t m n r w z))

-- ---- by the form

module _ (e : Place) (a : value_tree.Expression ℕ) where
  abbrev judged_place : View → Judgement Typed
  judged_place v = JudgePlace (definitions v) (context v e) (plain a)

  -- an expression of this form
  pub of_form : (y : Site) (f : p.Form ℕ) (c d : Scopes) (k l : Checker) (r : Result Given Refusal) → y ≡ site_in e a.note → plain_form a.form ≡ f → Comes (place_rule y f) c k d l r → Comes judged_place c k d l r
  of_form y f c d k l r q g h =
      seen_as typed_in kind_reached judged_place (place_rule (site_in e a.note) f) c d k l r
      (λ later w. ap (λ (b : Expression ℕ). JudgePlace (rules_in later k.types.listed) (context_in later c e) b) (seen (λ n. n) a)
      ∙ ap (λ (z : p.Form ℕ). place_rule (site_in e a.note) z (record { later = later; listed = k.types.listed; scopes = c })) g)
      (subst (λ (z : Site). Comes (place_rule z f) c k d l r) q h)

  pub of_no_form : (at : ℕ) (c : Scopes) (k : Checker) → at ≡ a.note
      → ((later : List Form) → PlaceRule (rules_in later k.types.listed) (context_in later c (site_in e a.note).place) a.note (plain_form a.form) ≡ Fails condition.NotMutable a.note)
      → Comes judged_place c k c k (Err (refusal.False at condition.NotMutable))
  of_no_form at c k q n =
      subst (λ (z : ℕ). Comes judged_place c k c k (Err (refusal.False z condition.NotMutable))) (sym q)
      (fails typed_in kind_reached judged_place c k condition.NotMutable a.note (λ later w. ap (λ (b : Expression ℕ). JudgePlace (rules_in later k.types.listed) (context_in later c e) b) (seen (λ n. n) a) ∙ n later))

-- ---- `q := a`

module _ (x : Site) (q a : Expression ℕ) (c d : Scopes) (k l : Checker) where
  abbrev to : View → Judgement Typed
  to v = JudgePlace (definitions v) (context v x.place) q

  abbrev assigned : View → Typed → Typed → Judgement Typed
  assigned v b z = Has x.at (wanted_in v x.wanted) unit (p.Assign b z)

  abbrev then_from : View → Typed → Judgement Typed
  then_from v b = Part (judge_at x.place a (Some (type_of b)) v) (assigned v b)

  pub no_place_judged : (e : Refusal) (r : Result Given Refusal) → IsErr r × IsErrAnd r (λ z. z ≡ e) → Comes to c k d l (Err e) → Comes (rule x (p.Assign q a)) c k d l r
  no_place_judged e r h j = part_refused to then_from c d k l e r h j

  module _ (g : Given) (h : Comes to c k d l (Ok g)) where
    abbrev from : View → Judgement Typed
    from v = judge x.place a (Some g.note.kind) v

    then_this : (s : Scopes) (m : Checker) (r : Result Given Refusal) → Comes (λ v. Part (from v) (assigned v (typed_in g v.later))) d l s m r → Comes (rule x (p.Assign q a)) c k s m r
    then_this s m r j =
        part_given to then_from c d s k l m g r h
        (seen_as typed_in kind_reached (λ v. then_from v (typed_in g v.later)) (λ v. Part (from v) (assigned v (typed_in g v.later))) d s l m r
        (λ later w. ap (λ (u : Term). Part (judge_at x.place a (Some u) (record { later = later; listed = l.types.listed; scopes = d })) (assigned (record { later = later; listed = l.types.listed; scopes = d }) (typed_in g later))) (type_is g later)) j)

    pub not_from : (s : Scopes) (m : Checker) (e : Refusal) (r : Result Given Refusal) → IsErr r × IsErrAnd r (λ z. z ≡ e) → Comes from d l s m (Err e) → Comes (rule x (p.Assign q a)) c k s m r
    not_from s m e r j o = then_this s m r (part_refused from (λ v. assigned v (typed_in g v.later)) d s l m e r j o)

    pub is_assigned : (s t : Scopes) (m n : Checker) (b : Given) (r : Result Given Refusal) → Comes from d l s m (Ok b) → Comes (λ v. Has x.at (wanted_in v x.wanted) unit (p.Assign (typed_in g v.later) (typed_in b v.later))) s m t n r
        → Comes (rule x (p.Assign q a)) c k t n r
    is_assigned s t m n b r j o = then_this t n r (part_given from (λ v. assigned v (typed_in g v.later)) d s t l m n b r j o)
