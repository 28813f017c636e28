-- What `for` goes over, with the terms of types of the graph.
use Rattle.std.proofs.Common.{◌≡◌, ◌∙◌, ℕ, ◌<◌, Bool, true, false, List, [], ◌∷◌, ◌++◌, map, Option, Some, None, IfSome, option_map, refl, sym, ap}
use Rattle.std.specs.Prelude.{codes, cond}
use Rattle.std.specs.Option.{option_and_then}
use Rattle.mo_types.specs.declared.node.Field.{Field}
use Rattle.mo_types.specs.declared.node.Node.{Node}
use Rattle.mo_types.specs.declared.node.Node.TheVariants as node
use Rattle.mo_types.specs.declared.node.Sort.TheVariants as sort
use Rattle.mo_types.specs.declared.node.TypeId.{TypeId}
use Rattle.mo_types.specs.Heads.{opt_of}
use Rattle.mo_types.specs.Sub.{Each}
use Rattle.mo_subtype.specs.Renamed.{on_node}
use Rattle.typed_tree.specs.Instances.{types_in}
use Rattle.type_terms.specs.declared.form.Form.{Form}
use Rattle.type_terms.specs.declared.form.Form.TheVariants as form
use Rattle.type_terms.specs.declared.form.TermId.{TermId}
use Rattle.typing_rules.specs.Calls.{gives_item, item_of, items_of, local_of}
use Rattle.typing_rules.specs.Definitions.{Definitions}
use Rattle.typing_rules.specs.Graphs.{term_of}
use Rattle.typing_rules.specs.Heads.{head, members_head, result}
use Rattle.typing_rules.specs.Members.{constant_field, object_field, part_of, unless_mutable}
use Rattle.typing_rules.specs.Terms.{Term}
use Rattle.typing_rules.specs.Terms as t
use Rattle.type_definitions.specs.Definitions.{Listed, rules_in}
use Rattle.type_definitions.specs.Meanings.{term}
use Rattle.type_definitions.specs.Tables.{IsTermOf, Later, Makes, Within}
use Rattle.type_definitions.proofs.Meanings.{grows_not, later_on}
use Rattle.met_types.specs.Closing.{terms_in}
use Rattle.met_types.specs.States.{State, Goes, IsNodeOf, IsReached, Kept, Stands}
use Rattle.judging.specs.Heads.{HeadHas}
use Rattle.judging.proofs.NodeParts.{OnePart}
use Rattle.judging.proofs.Steps.{reached_within}
use Rattle.member_heads.specs.Members.{MembersHave, seen_field}
use Rattle.iteration_rules.specs.Items.{Finds, NextGives, constant_part, given_of, item_in, items_in, next_of, nothing_of, one_result, unless_variable}

-- ---- a field that is no `var` field

part_by : (o : Option (Field Term)) → part_of (option_and_then unless_mutable o) ≡ option_and_then unless_variable (option_map seen_field o)
part_by None = refl
part_by (Some f) = by f.mutable where
  by : (b : Bool) → part_of (cond b None (Some f)) ≡ cond b None (Some f.part)
  by true = refl
  by false = refl

abbrev with_term : List Form → Bool × TermId → Bool × Term
with_term later q = (q.0, term later q.1)

unless_there : (later : List Form) (o : Option (Bool × TermId)) → option_and_then unless_variable (option_map (with_term later) o) ≡ option_map (term later) (option_and_then unless_variable o)
unless_there later None = refl
unless_there later (Some q) = by q.0 where
  by : (b : Bool) → cond b None (Some (term later q.1)) ≡ option_map (term later) (cond b None (Some q.1))
  by true = refl
  by false = refl

module _ (s : State) (id : TermId) (x : List ℕ) (o : Option (Bool × TermId)) (p : Option TermId) (e : p ≡ option_and_then unless_variable o) where
  pub constant_is : MembersHave (λ y. option_map seen_field (object_field x y)) s id (λ later. option_map (λ q. (q.0, term later q.1)) o) → MembersHave (constant_part x) s id (λ later. option_map (term later) p)
  constant_is h later l =
      part_by (object_field x (members_head (rules_in later s.listed) (term later id)))
      ∙ (ap (λ (q : Option (Bool × Term)). option_and_then unless_variable q) (h later l) ∙ (unless_there later o ∙ ap (option_map (term later)) (sym e)))

  pub constant_reached : IfSome o (λ q. IsReached s q.1) → IfSome p (IsReached s)
  constant_reached h = by o p e h where
    by : (o : Option (Bool × TermId)) (p : Option TermId) → p ≡ option_and_then unless_variable o → IfSome o (λ q. IsReached s q.1) → IfSome p (IsReached s)
    by o None e h = tt
    by None (Some id) e h = cc
    by (Some (true, q)) (Some id) e h = cc
    by (Some (false, q)) (Some id) e h = let z : q ≡ id = cc in (h.0, h.1 ∙ ap (λ (i : TermId). Some i) z)

-- ---- what a function without parameters gives

pub given_one : OnePart given_of given_of
given_one = record { same = same; among = among } where
  results : (f : TypeId → Term) (ps rs : List TypeId) → one_result (map f ps) (map f rs) ≡ option_map f (one_result ps rs)
  results f [] [] = refl
  results f [] (r ∷ []) = refl
  results f [] (r ∷ q ∷ rs) = refl
  results f (p ∷ ps) rs = refl

  same : (f : TypeId → Term) (y : Node TypeId) → given_of (on_node f y) ≡ option_map f (given_of y)
  same f (node.Func sort.Local ps rs) = results f ps rs
  same f _ = refl

  result_among : (n : ℕ) (ps rs : List TypeId) → Each (λ p. p.index < n) (ps ++ rs) → IfSome (one_result ps rs) (λ p. p.index < n)
  result_among n [] [] h = tt
  result_among n [] (r ∷ []) h = h.0
  result_among n [] (r ∷ q ∷ rs) h = tt
  result_among n (p ∷ ps) rs h = tt

  among : (n : ℕ) (y : Node TypeId) → Each (λ p. p.index < n) (types_in y) → IfSome (given_of y) (λ p. p.index < n)
  among n (node.Func sort.Local ps rs) h = result_among n ps rs h
  among n _ h = tt

-- ---- what `next` gives

module _ (s : State) (id next : TermId) where
  pub next_is : (p o : Option TermId) → p ≡ Some next → MembersHave (constant_part (codes "next")) s id (λ later. option_map (term later) p) → HeadHas given_of s next (λ later. option_map (term later) o) → NextGives s id o
  next_is p o e h g later l =
      ap (λ (q : Option Term). option_and_then (λ u. given_of (head (rules_in later s.listed) u)) q) (h later l ∙ ap (option_map (term later)) e) ∙ g later l

pub no_next : (s : State) (id : TermId) (p : Option TermId) → p ≡ None → MembersHave (constant_part (codes "next")) s id (λ later. option_map (term later) p) → NextGives s id None
no_next s id p e h later l = ap (λ (q : Option Term). option_and_then (λ u. given_of (head (rules_in later s.listed) u)) q) (h later l ∙ ap (option_map (term later)) e)

-- ---- options of nothing

same_nothing : {A B : Type 0} (f : A → B) (y : Node A) → nothing_of (on_node f y) ≡ nothing_of y
same_nothing f node.Null = refl
same_nothing f node.Bottom = refl
same_nothing f _ = refl

pub nothing_is : (s : State) (id : TermId) (n : Node TypeId) (o : Option (Unit {0})) → IsNodeOf s id n → o ≡ nothing_of n → HeadHas nothing_of s id (λ later. o)
nothing_is s id n o h e later l = ap nothing_of (h.is later l) ∙ (same_nothing (term_of (terms_in later s.reached)) n ∙ sym e)

-- ---- what options hold

module _ (defs : Definitions) where
  option_item : (y : Node Term) (u : Term) → opt_of y ≡ Some u → item_of defs y ≡ Some u
  option_item (node.Opt a) u e = e
  option_item _ u e = cc

  nothing_item : (y : Node Term) → nothing_of y ≡ Some tt → item_of defs y ≡ Some t.Bottom
  nothing_item node.Null e = refl
  nothing_item node.Bottom e = refl
  nothing_item _ e = cc

  no_option : (y : Node Term) → opt_of y ≡ None → nothing_of y ≡ None → item_of defs y ≡ None
  no_option (node.Opt a) e g = cc
  no_option node.Null e g = cc
  no_option node.Bottom e g = cc
  no_option _ e g = refl

goes_not : (s : State) → Goes s s
goes_not s = record { forms = grows_not s.forms; listed = refl; outcomes = refl; reached = λ i u h. h }

module _ (s : State) (k : Kept s) (id : TermId) where
  found_here : (in_table : List Form → Listed → Option Term) (o : Option TermId) → IfSome o (Within s.forms) → ((later : List Form) → Later s.forms later → in_table later s.listed ≡ option_map (term later) o) → Finds s in_table o s
  found_here in_table o w h = record { kept = k; goes = goes_not s; stands = λ met h. h; within = w; is = h }

  pub item_there : (part : TermId) → IsReached s part → HeadHas opt_of s id (λ later. Some (term later part)) → Finds s (item_in id) (Some part) s
  item_there part r h = found_here (item_in id) (Some part) (reached_within s part k r) (λ later l. option_item (rules_in later s.listed) (head (rules_in later s.listed) (term later id)) (term later part) (h later l))

  pub no_item : HeadHas opt_of s id (λ later. None) → HeadHas nothing_of s id (λ later. None) → Finds s (item_in id) None s
  no_item h g = found_here (item_in id) None tt (λ later l. no_option (rules_in later s.listed) (head (rules_in later s.listed) (term later id)) (h later l) (g later l))

  pub bottom_item : (bottom : TermId) (n : State) → HeadHas nothing_of s id (λ later. Some tt) → Kept n → Goes s n → ((met : List Term) → Stands met s → Stands met n) → Makes s.forms (IsTermOf form.Bottom bottom) bottom n.forms
      → Finds s (item_in id) (Some bottom) n
  bottom_item bottom n h q g st m = record {
    kept = q;
    goes = g;
    stands = st;
    within = m.within;
    is = λ later l.
        let e : n.listed ≡ s.listed = g.listed in
        ap (λ (d : Listed). item_of (rules_in later d) (head (rules_in later d) (term later id))) e
        ∙ (nothing_item (rules_in later s.listed) (head (rules_in later s.listed) (term later id)) (h later (later_on s.forms n.forms later g.forms l)) ∙ ap (λ (u : Term). Some u) (sym (m.is later l)));
  }

-- ---- what `for` goes over

module _ (defs : Definitions) where
  one_of : (ps rs : List Term) → gives_item defs (Some (ps, result rs)) ≡ option_and_then (λ r. item_of defs (head defs r)) (one_result ps rs)
  unfolding head
  one_of [] [] = refl
  one_of [] (r ∷ []) = refl
  one_of [] (r ∷ q ∷ rs) = refl
  one_of (p ∷ ps) rs = refl

  by_head : (y : Node Term) → gives_item defs (local_of y) ≡ option_and_then (λ r. item_of defs (head defs r)) (given_of y)
  by_head (node.Func sort.Local ps rs) = one_of ps rs
  by_head _ = refl

  items_by : (y : Node Term) → items_of defs y ≡ option_and_then (λ r. item_of defs (head defs r)) (next_of defs y)
  items_by y = by (constant_field (codes "next") y) where
    by : (o : Option (Field Term)) → gives_item defs (option_and_then (λ f. local_of (head defs f.part)) o) ≡ option_and_then (λ r. item_of defs (head defs r)) (option_and_then (λ u. given_of (head defs u)) (part_of o))
    by None = refl
    by (Some f) = by_head (head defs f.part)

module _ (s : State) (id : TermId) where
  pub items_there : (given : TermId) (o : Option TermId) (n : State) → NextGives s id (Some given) → Finds s (item_in given) o n → Finds s (items_in id) o n
  items_there given o n h f = record {
    kept = f.kept;
    goes = f.goes;
    stands = f.stands;
    within = f.within;
    is = λ later l.
        ap (λ (d : Listed). items_of (rules_in later d) (members_head (rules_in later d) (term later id))) f.goes.listed
        ∙ (items_by (rules_in later s.listed) (members_head (rules_in later s.listed) (term later id))
        ∙ (ap (λ (q : Option Term). option_and_then (λ r. item_of (rules_in later s.listed) (head (rules_in later s.listed) r)) q) (h later (later_on s.forms n.forms later f.goes.forms l))
        ∙ (ap (λ (d : Listed). item_of (rules_in later d) (head (rules_in later d) (term later given))) (sym f.goes.listed) ∙ f.is later l)));
  }

  pub no_items : Kept s → NextGives s id None → Finds s (items_in id) None s
  no_items k h = record {
    kept = k;
    goes = goes_not s;
    stands = λ met g. g;
    within = tt;
    is = λ later l.
        items_by (rules_in later s.listed) (members_head (rules_in later s.listed) (term later id)) ∙ ap (λ (q : Option Term). option_and_then (λ r. item_of (rules_in later s.listed) (head (rules_in later s.listed) r)) q) (h later l);
  }
