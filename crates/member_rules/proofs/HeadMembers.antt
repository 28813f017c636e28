-- The members of values, by the heads of their types.
use Rattle.std.proofs.Common.{◌≡◌, ◌∙◌, ℕ, zero, suc, ◌<◌, Bool, true, false, List, [], ◌∷◌, length, map, slice_get, Option, Some, None, IfSome, option_map, Ok, Err, refl, sym, ap, subst, arith}
use Rattle.std.specs.Prelude.{Result, IfOk, nat_eq, if◌then◌else◌}
use Rattle.std.specs.Cmp.Lexicographic.{pointwise}
use Rattle.mo_num.specs.declared.memory.Memory.{Memory}
use Rattle.mo_scopes.specs.Scopes.{named}
use Rattle.mo_types.specs.declared.node.Node.{Node}
use Rattle.mo_types.specs.declared.node.Node.TheVariants as node
use Rattle.mo_types.specs.declared.node.Field.{Field}
use Rattle.mo_types.specs.declared.node.TypeId.{TypeId}
use Rattle.mo_types.specs.Sub.{Each, find}
use Rattle.mo_subtype.specs.Renamed.{on_field, on_node}
use Rattle.typed_tree.specs.Instances.{types_in}
use Rattle.type_terms.specs.declared.form.Form.{Form}
use Rattle.type_terms.specs.declared.form.TermId.{TermId}
use Rattle.typing_rules.specs.Graphs.{term_of}
use Rattle.typing_rules.specs.Heads.{members_head}
use Rattle.typing_rules.specs.Members.{array_members, member_type, part_of, text_members}
use Rattle.typing_rules.specs.Terms.{Term}
use Rattle.type_definitions.specs.Definitions.{Listed, rules_in}
use Rattle.type_definitions.specs.Meanings.{term}
use Rattle.type_definitions.specs.Tables.{Later, Within}
use Rattle.type_definitions.proofs.Meanings.{later_on, term_stays}
use Rattle.met_types.specs.Closing.{terms_in}
use Rattle.met_types.specs.States.{State, IsNodeOf, Kept}
use Rattle.judging.proofs.NodeParts.{part_is}
use Rattle.judging.proofs.Steps.{reached_within}
use Rattle.member_heads.specs.Members.{IsPromoted, MembersHave}
use Rattle.member_heads.proofs.HeadParts.{members_are}
use Rattle.built_in_members.specs.Written.{Added, FoundWritten, WritesFound, Written}
use Rattle.built_in_members.proofs.Interned.{added_not, itself}
use Rattle.member_rules.specs.declared.kinds.Members.{Members}
use Rattle.member_rules.specs.declared.kinds.Members.TheVariants as members
use Rattle.member_rules.specs.MemberKinds.{AreReached, FindsMember, array_or_nothing, field_or_nothing, found, meant, meant_by, members_at, members_in}

get_there : {A : Type 0} (xs : List A) (i : ℕ) → i < length xs → (x : A) × (slice_get xs i ≡ Some x)
get_there [] i h = absurd (omega arith)
get_there (x ∷ xs) zero h = (x, refl)
get_there (x ∷ xs) (suc i) h = get_there xs i (omega arith)

module _ (x : List ℕ) where
  -- ---- heads with other parts

  module _ (f : TypeId → Term) where
    found_same : (fs : List (Field TypeId)) → part_of (find x (map (on_field f) fs)) ≡ meant f x (found (find x fs))
    found_same [] = refl
    found_same (m ∷ fs) = pick (pointwise nat_eq m.label x) (find x (map (on_field f) fs)) (find x fs) (found_same fs) where
      pick : (b : Bool) (o : Option (Field Term)) (p : Option (Field TypeId)) → part_of o ≡ meant f x (found p) → part_of (if b then Some (on_field f m) else o) ≡ meant f x (found (if b then Some m else p))
      pick true o p e = refl
      pick false o p e = e

    head_same : (y : Node TypeId) → member_type x (on_node f y) ≡ meant f x (members_at x y)
    head_same (node.Object fs) = found_same fs
    head_same (node.Actor fs) = found_same fs
    head_same _ = refl

  -- ---- parts are types of the graph

  Inside : ℕ → Members TypeId → Type 0
  Inside n (members.Field p) = p.index < n
  Inside n (members.Array p) = p.index < n
  Inside n members.Text = Unit {0}
  Inside n members.Nothing = Unit {0}

  found_inside : (n : ℕ) (fs : List (Field TypeId)) → Each (λ p. p.index < n) (map (λ (m : Field TypeId). m.part) fs) → Inside n (found (find x fs))
  unfolding Inside
  found_inside n [] h = tt
  found_inside n (m ∷ fs) h = pick (pointwise nat_eq m.label x) (find x fs) (found_inside n fs h.1) where
    pick : (b : Bool) (o : Option (Field TypeId)) → Inside n (found o) → Inside n (found (if b then Some m else o))
    pick true o g = h.0
    pick false o g = g

  head_inside : (n : ℕ) (y : Node TypeId) → Each (λ p. p.index < n) (types_in y) → Inside n (members_at x y)
  unfolding Inside
  head_inside n (node.Object fs) h = found_inside n fs h
  head_inside n (node.Actor fs) h = found_inside n fs h
  head_inside n (node.Array u) h = h.0
  head_inside n (node.MutArray u) h = h.0
  head_inside n _ h = tt

  module _ (s : State) where
    graph_same : (later : List Form) (m : Members TypeId) → Inside (length s.reached) m → meant (term_of (terms_in later s.reached)) x m ≡ meant (term later) x (members_in s m)
    unfolding Inside
    graph_same later (members.Field p) i =
        let y = get_there s.reached p.index i in
        ap (λ (u : Term). Some u) (part_is s p y.0 later y.1) ∙ ap (λ (o : Option TermId). meant (term later) x (field_or_nothing o)) (sym y.1)
    graph_same later (members.Array p) i =
        let y = get_there s.reached p.index i in
        ap (λ (u : Term). named (array_members u) x) (part_is s p y.0 later y.1) ∙ ap (λ (o : Option TermId). meant (term later) x (array_or_nothing o)) (sym y.1)
    graph_same later members.Text i = refl
    graph_same later members.Nothing i = refl

    pub head_meant : (id last : TermId) (n : Node TypeId) (q : Members TypeId) (m : Members TermId) → IsPromoted s id last → IsNodeOf s last n → q ≡ members_at x n → m ≡ members_in s q → MembersHave (member_type x) s id (meant_by x m)
    head_meant id last n q m p h e g =
        members_are (member_type x) s id last (meant_by x m) p
        (λ later l. ap (λ (y : Node Term). member_type x y) (h.is later l)
        ∙ (head_same (term_of (terms_in later s.reached)) n
        ∙ (graph_same later (members_at x n) (head_inside (length s.reached) n h.parts)
        ∙ ap (λ (z : Members TermId). meant (term later) x z) (ap (members_in s) (sym e) ∙ sym g))))

    pub meant_reached : (q : Members TypeId) (m : Members TermId) → m ≡ members_in s q → AreReached s m
    meant_reached q m g = subst (AreReached s) (sym g) (by q) where
      field_there : (i : ℕ) (o : Option TermId) → slice_get s.reached i ≡ o → AreReached s (field_or_nothing o)
      field_there i None e = tt
      field_there i (Some id) e = (i, e)

      array_there : (i : ℕ) (o : Option TermId) → slice_get s.reached i ≡ o → AreReached s (array_or_nothing o)
      array_there i None e = tt
      array_there i (Some id) e = (i, e)

      by : (q : Members TypeId) → AreReached s (members_in s q)
      by (members.Field p) = field_there p.index (slice_get s.reached p.index) refl
      by (members.Array p) = array_there p.index (slice_get s.reached p.index) refl
      by members.Text = tt
      by members.Nothing = tt

  -- ---- what is found

  module _ (s : State) (kept : Kept s) (id : TermId) (m : Members TermId) (h : MembersHave (member_type x) s id (meant_by x m)) (there : AreReached s m) where
    pub field_finds : (part : TermId) → m ≡ members.Field part → FindsMember s id x (Some part) s
    field_finds part e = record {
      added = added_not s kept;
      within = reached_within s part kept (subst (AreReached s) e there);
      is = λ later l. h later l ∙ ap (λ (z : Members TermId). meant (term later) x z) e;
    }

    pub nothing_finds : m ≡ members.Nothing → FindsMember s id x None s
    nothing_finds e = record { added = added_not s kept; within = tt; is = λ later l. h later l ∙ ap (λ (z : Members TermId). meant (term later) x z) e }

    -- the members of arrays or texts, whose types are written
    module _ (t : State) where
      written_finds : (o : Option TermId) → Added s t → ((later : List Form) → Later t.forms later → meant (term later) x m ≡ option_map (term later) o) → IfSome o (Within t.forms) → FindsMember s id x o t
      written_finds o a e w = record {
        added = a;
        within = w;
        is = λ later l.
            ap (λ (d : Listed). member_type x (members_head (rules_in later d) (term later id))) a.goes.listed ∙ (h later (later_on s.forms t.forms later a.goes.forms l) ∙ e later l);
      }

    found_terms : (t : State) (o : Option TermId) (v : Option Term) → FoundWritten t o v → (later : List Form) → Later t.forms later → v ≡ option_map (term later) o
    found_terms t None None w later l = refl
    found_terms t (Some i) (Some u) w later l = ap (λ (z : Term). Some z) (sym (w.is later l))
    found_terms t None (Some u) w later l = absurd w
    found_terms t (Some i) None w later l = absurd w

    found_within : (t : State) (o : Option TermId) (v : Option Term) → FoundWritten t o v → IfSome o (Within t.forms)
    found_within t None v w = tt
    found_within t (Some i) (Some u) w = w.within
    found_within t (Some i) None w = absurd w

    pub text_finds : (t : State) (r : Result (Option TermId) Memory) → m ≡ members.Text → IfOk r (λ o. WritesFound s (named text_members x) o t) → IfOk r (λ o. FindsMember s id x o t)
    text_finds t (Ok o) e w =
        written_finds t o w.added (λ later l. ap (λ (z : Members TermId). meant (term later) x z) e ∙ found_terms t o (named text_members x) w.written later l)
        (found_within t o (named text_members x) w.written)
    text_finds t (Err q) e w = tt

    pub array_finds : (t : State) (item : TermId) (r : Result (Option TermId) Memory) → m ≡ members.Array item
        → ((u : Term) → Written s item u → IfOk r (λ o. WritesFound s (named (array_members u) x) o t)) → IfOk r (λ o. FindsMember s id x o t)
    array_finds t item r e w = by r (w (term s.forms item) (itself s item inside)) where
      inside : Within s.forms item
      inside = reached_within s item kept (subst (AreReached s) e there)

      by : (r : Result (Option TermId) Memory) → IfOk r (λ o. WritesFound s (named (array_members (term s.forms item)) x) o t) → IfOk r (λ o. FindsMember s id x o t)
      by (Ok o) v =
          written_finds t o v.added
          (λ later l. ap (λ (z : Members TermId). meant (term later) x z) e
          ∙ (ap (λ (z : Term). named (array_members z) x) (term_stays s.forms later item (later_on s.forms t.forms later v.added.goes.forms l).grows inside)
          ∙ found_terms t o (named (array_members (term s.forms item)) x) v.written later l))
          (found_within t o (named (array_members (term s.forms item)) x) v.written)
      by (Err q) v = tt
