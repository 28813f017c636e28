-- The heads of forms of a table.
use Rattle.std.proofs.Common.{◌≡◌, ℕ, Bool, true, false, List, [], ◌∷◌, ◌++◌, map, Option, Some, None, slice_get, cond, nat_eq, refl, sym, ap, ◌∙◌, subst}
use Rattle.mo_types.specs.declared.node.Field.{Field}
use Rattle.mo_types.specs.declared.node.Node.{Node}
use Rattle.mo_types.specs.declared.node.Node.TheVariants as node
use Rattle.mo_types.specs.declared.node.Sort.{Sort}
use Rattle.mo_types.specs.declared.node.Sort.TheVariants as sort
use Rattle.mo_types.specs.Sub.{Each}
use Rattle.mo_subtype.specs.Renamed.{on_field, on_node}
use Rattle.typed_tree.specs.Instances.{types_in}
use Rattle.type_terms.specs.declared.form.Form.{Form}
use Rattle.type_terms.specs.declared.form.Form.TheVariants as form
use Rattle.type_terms.specs.declared.form.TermId.{TermId}
use Rattle.type_terms.specs.Layouts.{layout, parts}
use Rattle.type_terms.specs.Tables.{PartsBelow, Interns}
use Rattle.typing_rules.specs.Terms.{Term, Terms, Fields, listed, unlisted, listed_fields}
use Rattle.typing_rules.specs.Terms as t
use Rattle.typing_rules.specs.Definitions.{Definitions, bound_at, unfolded}
use Rattle.typing_rules.specs.Heads as rule
use Rattle.typing_rules.specs.Heads.{head}
use Rattle.type_definitions.specs.Meanings.{term, term_of, parts_at, fields_at}
use Rattle.type_definitions.specs.Tables.{Within, Later, Makes, MakesList}
use Rattle.type_definitions.specs.Places.{first_place}
use Rattle.type_definitions.specs.Definitions.{Listed, at_place, bound_of, as_bounds, rules_in, Stand}
use Rattle.type_definitions.specs.Unfolding.{IsUnfolded}
use Rattle.type_definitions.specs.Heads.{plain_node, parts_or_itself, MakesNode, AreResults, IsBoundOf, IsShapeOf, IsHeadOf}
use Rattle.type_definitions.proofs.Meanings.{grows_not, grows_on, later_on, within_on, term_later, interned_is, each_get, each_within, below_within}
use Rattle.type_definitions.proofs.Leading.{pick, pick_is}

-- ---- what stands for what

module _ (at : TermId → Term) where
  listed_parts : (ids : List TermId) → listed (unlisted (parts_at at ids)) ≡ map at ids
  listed_parts [] = refl
  listed_parts (x ∷ ids) = ap (λ us. at x ∷ us) (listed_parts ids)

  listed_of_fields : (fs : List (Field TermId)) → listed_fields (fields_at at fs) ≡ map (on_field at) fs
  listed_of_fields [] = refl
  listed_of_fields (f ∷ fs) = ap (λ us. on_field at f ∷ us) (listed_of_fields fs)

  pub plain_is : (defs : Definitions) (f : Form) → ((s : Sort) (ps : List TermId) (r : TermId) → f ≡ form.Shared s ps r → ⊥) → ((n : ℕ) → f ≡ form.Parameter n → ⊥) → on_node at (plain_node f) ≡ rule.shape defs (term_of at f)
  plain_is defs (form.Number k) s p = refl
  plain_is defs form.Boolean s p = refl
  plain_is defs form.Character s p = refl
  plain_is defs form.Text s p = refl
  plain_is defs form.Blob s p = refl
  plain_is defs form.Principal s p = refl
  plain_is defs form.Error s p = refl
  plain_is defs form.Null s p = refl
  plain_is defs form.Any s p = refl
  plain_is defs form.Bottom s p = refl
  plain_is defs (form.Optional a) s p = refl
  plain_is defs (form.Array a) s p = refl
  plain_is defs (form.MutableArray a) s p = refl
  plain_is defs (form.Tuple ts) s p = ap (λ us. node.Tuple us) (sym (listed_parts ts))
  plain_is defs (form.Object fs) s p = ap (λ us. node.Object us) (sym (listed_of_fields fs))
  plain_is defs (form.Actor fs) s p = ap (λ us. node.Actor us) (sym (listed_of_fields fs))
  plain_is defs (form.Variant fs) s p = ap (λ us. node.Variant us) (sym (listed_of_fields fs))
  plain_is defs (form.Function ps r) s p = ap (λ us. node.Func sort.Local us (at r ∷ [])) (sym (listed_parts ps))
  plain_is defs (form.Shared o ps r) s p = absurd (s o ps r refl)
  plain_is defs (form.Async a) s p = refl
  plain_is defs (form.Parameter n) s p = absurd (p n refl)
  plain_is defs (form.Use n ids) s p = refl

  pub shared_is : (defs : Definitions) (s : Sort) (ps ids : List TermId) (r : TermId) → map at ids ≡ rule.results (at r) (unfolded defs.types (at r))
      → on_node at (node.Func s ps ids) ≡ rule.shape defs (term_of at (form.Shared s ps r))
  shared_is defs s ps ids r e = ap (λ us. node.Func s us (map at ids)) (sym (listed_parts ps)) ∙ ap (λ us. node.Func s (listed (unlisted (parts_at at ps))) us) e

  -- the parts of what is unfolded, or the type itself
  pub results_are : (u : Term) (f : Form) (r : TermId) → u ≡ term_of at f → map at (parts_or_itself f r) ≡ rule.results (at r) u
  results_are u f r e = own f ∙ ap (rule.results (at r)) (sym e) where
    own : (f : Form) → map at (parts_or_itself f r) ≡ rule.results (at r) (term_of at f)
    own (form.Tuple ts) = sym (listed_parts ts)
    own (form.Number k) = refl
    own f = refl

  bounds_picked : (ns : List ℕ) (bs : List TermId) (n : ℕ) (b : TermId) → pick ns bs n ≡ Some b → bound_at (as_bounds at ns bs) n ≡ at b
  bounds_picked [] bs n b e = cc
  bounds_picked (k ∷ ns) [] n b e = cc
  bounds_picked (k ∷ ns) (c ∷ bs) n b e = by (nat_eq k n) (bounds_picked ns bs n b) e where
    by : (q : Bool) → (pick ns bs n ≡ Some b → bound_at (as_bounds at ns bs) n ≡ at b) → cond q (Some c) (pick ns bs n) ≡ Some b → cond q (at c) (bound_at (as_bounds at ns bs) n) ≡ at b
    by true g h = let k : c ≡ b = cc in ap at k
    by false g h = g h

  no_bounds_picked : (ns : List ℕ) (bs : List TermId) (n : ℕ) → pick ns bs n ≡ None → bound_at (as_bounds at ns bs) n ≡ t.Any
  no_bounds_picked [] bs n e = refl
  no_bounds_picked (k ∷ ns) [] n e = refl
  no_bounds_picked (k ∷ ns) (c ∷ bs) n e = by (nat_eq k n) (no_bounds_picked ns bs n) e where
    by : (q : Bool) → (pick ns bs n ≡ None → bound_at (as_bounds at ns bs) n ≡ t.Any) → cond q (Some c) (pick ns bs n) ≡ None → cond q (at c) (bound_at (as_bounds at ns bs) n) ≡ t.Any
    by true g h = cc
    by false g h = g h

-- ---- parts are in the table

left_of : (P : TermId → Type 0) (xs ys : List TermId) → Each P (xs ++ ys) → Each P xs
left_of P [] ys h = tt
left_of P (x ∷ xs) ys h = (h.0, left_of P xs ys h.1)

right_of : (P : TermId → Type 0) (xs ys : List TermId) → Each P (xs ++ ys) → Each P ys
right_of P [] ys h = h
right_of P (x ∷ xs) ys h = right_of P xs ys h.1

both_of : (P : TermId → Type 0) (xs ys : List TermId) → Each P xs → Each P ys → Each P (xs ++ ys)
both_of P [] ys h k = k
both_of P (x ∷ xs) ys h k = (h.0, both_of P xs ys h.1 k)

module _ (P : TermId → Type 0) where
  pub plain_parts : (f : Form) → Each P (parts f) → Each P (types_in (plain_node f))
  unfolding layout
  plain_parts (form.Number k) h = tt
  plain_parts form.Boolean h = tt
  plain_parts form.Character h = tt
  plain_parts form.Text h = tt
  plain_parts form.Blob h = tt
  plain_parts form.Principal h = tt
  plain_parts form.Error h = tt
  plain_parts form.Null h = tt
  plain_parts form.Any h = tt
  plain_parts form.Bottom h = tt
  plain_parts (form.Optional a) h = h
  plain_parts (form.Array a) h = h
  plain_parts (form.MutableArray a) h = h
  plain_parts (form.Tuple ts) h = left_of P ts [] h
  plain_parts (form.Object fs) h = h
  plain_parts (form.Actor fs) h = h
  plain_parts (form.Variant fs) h = h
  plain_parts (form.Function ps r) h = h
  plain_parts (form.Shared s ps r) h = tt
  plain_parts (form.Async a) h = h
  plain_parts (form.Parameter n) h = tt
  plain_parts (form.Use n ids) h = tt

  pub tuple_parts : (f : Form) (r : TermId) → Each P (parts f) → P r → Each P (parts_or_itself f r)
  unfolding layout
  tuple_parts (form.Tuple ts) r h k = left_of P ts [] h
  tuple_parts (form.Number n) r h k = (k, tt)
  tuple_parts f r h k = (k, tt)

  pub shared_first : (s : Sort) (ps : List TermId) (r : TermId) → Each P (parts (form.Shared s ps r)) → Each P ps
  unfolding layout
  shared_first s ps r h = left_of P ps _ h

  pub shared_last : (s : Sort) (ps : List TermId) (r : TermId) → Each P (parts (form.Shared s ps r)) → P r
  unfolding layout
  shared_last s ps r h = (right_of P ps (r ∷ []) h).0

pub any_below : (n : ℕ) → PartsBelow n form.Any
unfolding layout
any_below n = tt

-- ---- the steps

module _ (l : Listed) where
  pub results_made : (a b : List Form) (r u : TermId) (f : Form) (ids : List TermId) → Within a r → Makes a (IsUnfolded l r u) u b → slice_get b u.index ≡ Some f → PartsBelow u.index f → ids ≡ parts_or_itself f r
      → MakesList a (AreResults l r ids) ids b
  results_made a b r u f ids w m there below e = record {
    grows = m.grows;
    within = subst (λ xs. Each (Within b) xs) (sym e) (tuple_parts (Within b) f r (below_within b u (parts f) m.within below) (within_on a b r m.grows w));
    is = λ later h.
        ap (map (term later)) e
        ∙ results_are (term later) (unfolded (rules_in later l).types (term later r)) f r (sym (m.is later h) ∙ term_later b later u f h there);
  }

  pub bound_there : (a : List Form) (n : ℕ) (b : TermId) → Stand a l → bound_of l n ≡ Some b → Makes a (IsBoundOf l n b) b a
  bound_there a n b s e = record {
    grows = grows_not a;
    within = place (first_place l.bounded n) e;
    is = λ later h. sym (bounds_picked (term later) l.bounded l.bounds n b (sym (pick_is l.bounds l.bounded n) ∙ e));
  }
    where
      place : (o : Option ℕ) → at_place l.bounds o ≡ Some b → Within a b
      place None k = cc
      place (Some i) k = each_get (Within a) l.bounds i b s.bounds k

  pub bound_missing : (a c : List Form) (n : ℕ) (b : TermId) → bound_of l n ≡ None → Interns a form.Any b c → Makes a (IsBoundOf l n b) b c
  bound_missing a c n b e i =
      let m = interned_is a c form.Any b i in
      record {
        grows = m.grows;
        within = m.within;
        is = λ later h. m.is later h ∙ sym (no_bounds_picked (term later) l.bounded l.bounds n (sym (pick_is l.bounds l.bounded n) ∙ e));
      }

  module _ (a : List Form) (id : TermId) (f : Form) (w : Within a id) (there : slice_get a id.index ≡ Some f) (below : PartsBelow id.index f) where
    own : (later : List Form) → Later a later → rule.shape (rules_in later l) (term later id) ≡ rule.shape (rules_in later l) (term_of (term later) f)
    own later h = ap (rule.shape (rules_in later l)) (term_later a later id f h there)

    within : Each (Within a) (parts f)
    within = below_within a id (parts f) w below

    pub plain_made : (n : Node TermId) → ((s : Sort) (ps : List TermId) (r : TermId) → f ≡ form.Shared s ps r → ⊥) → ((n : ℕ) → f ≡ form.Parameter n → ⊥) → n ≡ plain_node f → MakesNode a (IsShapeOf l id n) n a
    plain_made n s p e = record {
      grows = grows_not a;
      within = subst (λ (x : Node TermId). Each (Within a) (types_in x)) (sym e) (plain_parts (Within a) f within);
      is = λ later h. ap (on_node (term later)) e ∙ (plain_is (term later) (rules_in later l) f s p ∙ sym (own later h));
    }

    pub shared_made : (b : List Form) (s : Sort) (ps qs ids : List TermId) (r : TermId) → f ≡ form.Shared s ps r → qs ≡ ps → MakesList a (AreResults l r ids) ids b → MakesNode a (IsShapeOf l id (node.Func s qs ids)) (node.Func s qs ids) b
    shared_made b s ps qs ids r e q m =
        let inside : Each (Within a) (parts (form.Shared s ps r)) = subst (λ (x : Form). Each (Within a) (parts x)) e within in
        record {
          grows = m.grows;
          within = both_of (Within b) qs ids (subst (λ xs. Each (Within b) xs) (sym q) (each_within a b ps m.grows (shared_first (Within a) s ps r inside))) m.within;
          is = λ later h.
              let h2 = later_on a b later m.grows h in
              ap (λ xs. on_node (term later) (node.Func s xs ids)) q
              ∙ (shared_is (term later) (rules_in later l) s ps ids r (m.is later h) ∙ sym (own later h2 ∙ ap (λ (x : Form). rule.shape (rules_in later l) (term_of (term later) x)) e));
        }

    pub parameter_made : (b : List Form) (n : ℕ) (c : TermId) → f ≡ form.Parameter n → Makes a (IsBoundOf l n c) c b → MakesNode a (IsShapeOf l id (node.Variable n c)) (node.Variable n c) b
    parameter_made b n c e m = record {
      grows = m.grows;
      within = (m.within, tt);
      is = λ later h.
          let h2 = later_on a b later m.grows h in
          ap (λ u. node.Variable n u) (m.is later h) ∙ sym (own later h2 ∙ ap (λ (x : Form). rule.shape (rules_in later l) (term_of (term later) x)) e);
    }

  pub head_made : (a b c : List Form) (id u : TermId) (n : Node TermId) → Makes a (IsUnfolded l id u) u b → MakesNode b (IsShapeOf l u n) n c → MakesNode a (IsHeadOf l id n) n c
  unfolding head
  head_made a b c id u n m k = record {
    grows = grows_on a b c m.grows k.grows;
    within = k.within;
    is = λ later h. k.is later h ∙ ap (rule.shape (rules_in later l)) (m.is later (later_on b c later k.grows h));
  }

pub shared_within : (a : List Form) (id : TermId) (f : Form) (s : Sort) (ps : List TermId) (r : TermId) → Within a id → PartsBelow id.index f → f ≡ form.Shared s ps r → Within a r
shared_within a id f s ps r w b e = shared_last (Within a) s ps r (below_within a id (parts (form.Shared s ps r)) w (subst (λ (x : Form). PartsBelow id.index x) e b))
