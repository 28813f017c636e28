-- The value of a field by its parts.
use Rattle.std.proofs.Common.{◌≡◌, ◌∙◌, ℕ, Bool, true, false, List, [], ◌∷◌, Ok, Err, Option, Some, None, option_map, map, refl, sym, ap, subst}
use Rattle.std.specs.Prelude.{Result, if◌then◌else◌, nat_eq}
use Rattle.std.specs.Result.{IsErr, IsErrAnd}
use Rattle.std.specs.Cmp.Lexicographic.{pointwise}
use Rattle.mo_types.specs.declared.node.Field.{Field}
use Rattle.mo_types.specs.Sub.{Each, find}
use Rattle.mo_subtype.specs.Renamed.{on_field}
use Rattle.type_terms.specs.declared.form.TermId.{TermId}
use Rattle.typing_rules.specs.declared.condition.Condition.{Condition}
use Rattle.typing_rules.specs.declared.condition.Condition.TheVariants as condition
use Rattle.typing_rules.specs.AbstractSyntax as p
use Rattle.typing_rules.specs.Definitions.{Definitions}
use Rattle.typing_rules.specs.Expressions.{field_questions, same}
use Rattle.typing_rules.specs.Judgements.{Question, Judgement, Case, Fine, Gives, Meets, Needs, NeedsEach, Part, Tests}
use Rattle.typing_rules.specs.Terms.{Term}
use Rattle.typing_rules.specs.TypeScopes as scopes
use Rattle.typing_rules.specs.TypeScopes.{TypeScope}
use Rattle.typing_rules.specs.TypedTrees.{Typed, declared_type, type_of}
use Rattle.typing_rules.specs.Types.{Proper, Reads}
use Rattle.type_definitions.specs.Meanings.{term}
use Rattle.met_types.specs.States.{IsReached}
use Rattle.type_judgements.specs.declared.refusal.Refusal.{Refusal}
use Rattle.type_judgements.specs.declared.refusal.Refusal.TheVariants as refusal
use Rattle.type_scopes.specs.Scopes.{seen}
use Rattle.abstract_types.specs.declared.types.TypeNode.{TypeNode}
use Rattle.abstract_types.specs.TypeView.{annotation, type_node}
use Rattle.abstract_tree.specs.declared.expressions.ObjectField.{ObjectField}
use Rattle.abstract_tree.specs.TreeView.{plain}
use Rattle.value_scopes.specs.declared.place.Place.{Place}
use Rattle.value_scopes.specs.declared.scopes.Scopes.{Scopes}
use Rattle.judging.specs.declared.checker.Checker.{Checker}
use Rattle.judging.specs.Answers.{Answers}
use Rattle.judging.specs.Views.{View, view, definitions, judge, judge_at, kind_reached, no_more, nothing, term_in, typed_in}
use Rattle.judging.proofs.Chains.{fails, given, goes_on, seen_as, stops}
use Rattle.judging.proofs.Forms.{type_is}
use Rattle.judging.proofs.Steps.{needs_then, reached_on}
use Rattle.judging.proofs.TypedParts.{Given}
use Rattle.proper_types.proofs.Turns.{part_assoc}
use Rattle.scope_judging.specs.Rules.{reads}
use Rattle.object_rules.specs.declared.values.FieldValue.{FieldValue}
use Rattle.object_rules.specs.Values.{fitting_value, own_value, value_among, value_in, value_reached, wanted_value, wants, with_type, written_value}
use Rattle.object_rules.proofs.Fitting.{fits}

abbrev pub Valued : Type 0
Valued = Result FieldValue Refusal

abbrev pub Handed : Valued → Refusal → Type 0
Handed r e = IsErr r × IsErrAnd r (λ y. y ≡ e)

-- what a field comes to
abbrev pub Holds : (View → Judgement (Typed × Term)) → Scopes → Checker → Scopes → Checker → Valued → Type 0
Holds j c k d l r = Answers value_in value_reached j c k d l r

-- ---- the type that is read is the one that is written

module _ {A B : Type 0} (defs : Definitions) (s : TypeScope) (n : p.TypeNode) (k : Term → Judgement B) (h : Term → B → Judgement A) where
  abbrev written : Term
  written = scopes.term s n

  abbrev proper : Judgement (Unit {0})
  proper = Proper defs s n

  abbrev is_met : Unit {0} → Judgement Term
  is_met _ = Meets written (Gives written)

  pub reads_with : Part (Part (Reads defs s n) k) (h written) ≡ Part (Reads defs s n) (λ u. Part (k u) (h u))
  reads_with = part_assoc (Reads defs s n) k (h written) ∙ (part_assoc proper is_met (λ u. Part (k u) (h written)) ∙ sym (part_assoc proper is_met (λ u. Part (k u) (h u))))

-- conditions, and then what follows
needs_each_then : {A : Type 0} (q : Condition) (at : ℕ) (us : List Question) (j : Judgement A) → NeedsEach q at us j ≡ Part (NeedsEach q at us Fine) (λ _. j)
needs_each_then q at [] j = refl
needs_each_then {A} q at (u ∷ us) j =
    ap (Needs q at u) (needs_each_then q at us j)
    ∙ (needs_then q at u (Part (NeedsEach q at us Fine) (λ _. j))
    ∙ (sym (part_assoc (Needs q at u Fine) (λ _. NeedsEach q at us Fine) (λ _. j)) ∙ ap (λ (i : Judgement (Unit {0})). Part i (λ _. j)) (sym (needs_then q at u (NeedsEach q at us Fine)))))

module _ (y : Place) (x : ObjectField ℕ) where
  -- ---- a value whose type is not written

  module _ (w : Option TermId) (c d : Scopes) (k l : Checker) where
    abbrev of : View → Judgement Typed
    of = judge y (plain x.value) w

    abbrev its_own : View → Typed → Judgement (Typed × Term)
    its_own v b = Gives (b, type_of b)

    pub no_value : (e : Refusal) (r : Valued) → Handed r e → Answers typed_in kind_reached of c k d l (Err e) → Holds (with_type None of) c k d l r
    no_value e r g h = stops value_in value_reached typed_in kind_reached of its_own c d k l e r g h

    pub value_given : (b : Given) → Answers typed_in kind_reached of c k d l (Ok b) → Holds (with_type None of) c k d l (Ok (record { value = b; kind = b.note.kind }))
    value_given b h =
        goes_on value_in value_reached typed_in kind_reached of its_own c d d k l l b (Ok (record { value = b; kind = b.note.kind })) h
        (given value_in value_reached (λ v. its_own v (typed_in b v.later)) d l (record { value = b; kind = b.note.kind }) h.outcome.sound h.outcome.holds
        (λ later z. ap (λ (u : Term). Gives (typed_in b later, u)) (type_is b later)))

  -- ---- a value whose type is written

  module _ (n : TypeNode) (c : Scopes) (k : Checker) where
    abbrev reading : View → Judgement Term
    reading v = reads (type_node n) v

    abbrev with_this : View → Term → Typed → Judgement (Typed × Term)
    with_this v u b = Gives (b, u)

    abbrev having : View → Term → Judgement (Typed × Term)
    having v u = Part (judge_at y (plain x.value) (Some u) v) (with_this v u)

    as_having : (d : Scopes) (m : Checker) (r : Valued) → Holds (λ v. Part (reading v) (having v)) c k d m r → Holds (with_type (Some n) (written_value y x (type_node n))) c k d m r
    as_having d m r h =
        seen_as value_in value_reached (with_type (Some n) (written_value y x (type_node n))) (λ v. Part (reading v) (having v)) c d k m r
        (λ later z.
        let v = view later k.types.listed c in
        reads_with (definitions v) (seen c.types) (type_node n) (λ u. judge_at y (plain x.value) (Some u) v) (with_this v)) h

    pub not_read : (l : Checker) (e : Refusal) (r : Valued) → Handed r e → Answers term_in IsReached reading c k c l (Err e) → Holds (with_type (Some n) (written_value y x (type_node n))) c k c l r
    not_read l e r g h = as_having c l r (stops value_in value_reached term_in IsReached reading having c c k l e r g h)

    -- the value of this type, and then the field
    module _ (id : TermId) where
      abbrev part_of : View → Judgement Typed
      part_of = judge y (plain x.value) (Some id)

      abbrev ended : View → Typed → Judgement (Typed × Term)
      ended v b = Gives (b, term v.later id)

      pub refused_at : (d e : Scopes) (l m : Checker) (q : Refusal) (r : Valued) → Handed r q → Answers typed_in kind_reached part_of d l e m (Err q) → Holds (λ v. having v (term v.later id)) d l e m r
      refused_at d e l m q r g h = stops value_in value_reached typed_in kind_reached part_of ended d e l m q r g h

      pub given_at : (d e : Scopes) (l m : Checker) (b : Given) → IsReached l.types id → Answers typed_in kind_reached part_of d l e m (Ok b)
          → Holds (λ v. having v (term v.later id)) d l e m (Ok (record { value = b; kind = id }))
      given_at d e l m b i h =
          goes_on value_in value_reached typed_in kind_reached part_of ended d e e l m m b (Ok (record { value = b; kind = id })) h
          (given value_in value_reached (λ v. ended v (typed_in b v.later)) e m (record { value = b; kind = id }) h.outcome.sound (reached_on l.types m.types id h.outcome.goes i) (λ later z. refl))

    pub is_read : (d : Scopes) (l m : Checker) (id : TermId) (r : Valued) → Answers term_in IsReached reading c k c l (Ok id) → Holds (λ v. having v (term v.later id)) c l d m r
        → Holds (with_type (Some n) (written_value y x (type_node n))) c k d m r
    is_read d l m id r h g = as_having d m r (goes_on value_in value_reached term_in IsReached reading having c c d k l m id r h g)

    -- where it fits a field of this type besides
    module _ (w : TermId) where
      abbrev fitted : View → Judgement (Typed × Term)
      fitted = with_type (Some n) (λ v. fitting_value y x (type_node n) (term v.later w) v)

      abbrev asked : View → Term → Judgement (Unit {0})
      asked v u = NeedsEach condition.Mismatch x.name.at (field_questions x.mutable u (term v.later w)) Fine

      abbrev then_having : View → Term → Judgement (Typed × Term)
      then_having v u = Part (asked v u) (λ _. having v u)

      abbrev needed : View → Term → Judgement Typed
      needed v u = NeedsEach condition.Mismatch x.name.at (field_questions x.mutable u (term v.later w)) (judge_at y (plain x.value) (Some u) v)

      asked_first : (v : View) (u : Term) → Part (needed v u) (with_this v u) ≡ then_having v u
      asked_first v u =
          ap (λ (j : Judgement Typed). Part j (with_this v u)) (needs_each_then condition.Mismatch x.name.at (field_questions x.mutable u (term v.later w)) (judge_at y (plain x.value) (Some u) v))
          ∙ part_assoc (asked v u) (λ _. judge_at y (plain x.value) (Some u) v) (with_this v u)

      as_asked : (d : Scopes) (m : Checker) (r : Valued) → Holds (λ v. Part (reading v) (λ u. Part (needed v u) (with_this v u))) c k d m r → Holds fitted c k d m r
      as_asked d m r h =
          seen_as value_in value_reached fitted (λ v. Part (reading v) (λ u. Part (needed v u) (with_this v u))) c d k m r
          (λ later z.
          let v = view later k.types.listed c in
          reads_with (definitions v) (seen c.types) (type_node n) (needed v) (with_this v)) h

      pub not_read_fitting : (l : Checker) (e : Refusal) (r : Valued) → Handed r e → Answers term_in IsReached reading c k c l (Err e) → Holds fitted c k c l r
      not_read_fitting l e r g h = as_asked c l r (stops value_in value_reached term_in IsReached reading (λ v u. Part (needed v u) (with_this v u)) c c k l e r g h)

      module _ (l : Checker) (id : TermId) (h : Answers term_in IsReached reading c k c l (Ok id)) where
        is_asked : (d : Scopes) (m : Checker) (r : Valued) → Holds (λ v. then_having v (term v.later id)) c l d m r → Holds fitted c k d m r
        is_asked d m r g =
            as_asked d m r
            (goes_on value_in value_reached term_in IsReached reading (λ v u. Part (needed v u) (with_this v u)) c c d k l m id r h
            (seen_as value_in value_reached (λ v. Part (needed v (term v.later id)) (with_this v (term v.later id))) (λ v. then_having v (term v.later id)) c d l m r
            (λ later z. asked_first (view later l.types.listed c) (term later id)) g))

        pub not_fitting : (e : Refusal) (r : Valued) → Handed r e → Answers nothing no_more (fits x.name.at id w c l h.outcome.sound x.mutable) c l c l (Err e) → Holds fitted c k c l r
        not_fitting e r g j = is_asked c l r (stops value_in value_reached nothing no_more (λ v. asked v (term v.later id)) (λ v _. having v (term v.later id)) c c l l e r g j)

        pub is_fitting : (d : Scopes) (m : Checker) (r : Valued) → Answers nothing no_more (fits x.name.at id w c l h.outcome.sound x.mutable) c l c l (Ok tt) → Holds (λ v. having v (term v.later id)) c l d m r
            → Holds fitted c k d m r
        is_fitting d m r j g = is_asked d m r (goes_on value_in value_reached nothing no_more (λ v. asked v (term v.later id)) (λ v _. having v (term v.later id)) c c d l l m tt r j g)

  -- ---- whether the type is written

  module _ (o : Option TypeNode) (c d : Scopes) (k l : Checker) (r : Valued) where
    pub own_written : (n : TypeNode) → o ≡ Some n → Holds (with_type (Some n) (written_value y x (type_node n))) c k d l r → Holds (with_type o (own_value y x o)) c k d l r
    own_written n e h = subst (λ (q : Option TypeNode). Holds (with_type q (own_value y x q)) c k d l r) (sym e) h

    pub own_plain : o ≡ None → Holds (with_type None (judge y (plain x.value) None)) c k d l r → Holds (with_type o (own_value y x o)) c k d l r
    own_plain e h = subst (λ (q : Option TypeNode). Holds (with_type q (own_value y x q)) c k d l r) (sym e) h

    module _ (f : Field TermId) where
      abbrev fielded : Option TypeNode → View → Judgement (Typed × Term)
      fielded q = with_type q (λ v. wanted_value y x q (on_field (term v.later) f) v)

      module _ (b : Bool) (e : b ≡ same x.mutable f.mutable) (t : b ≡ true) where
        abbrev passed : Option TypeNode → View → Judgement Typed
        passed q v = Case (annotation q) (λ n. fitting_value y x n (term v.later f.part) v) (λ _. judge_at y (plain x.value) (Some (term v.later f.part)) v)

        alike : (q : Option TypeNode) → Holds (with_type q (passed q)) c k d l r → Holds (fielded q) c k d l r
        alike q h =
            seen_as value_in value_reached (fielded q) (with_type q (passed q)) c d k l r
            (λ later z.
            let v = view later k.types.listed c in
            ap (λ (s : Bool). Part (Tests condition.Mismatch x.name.at s (passed q v)) (λ u. Gives (u, declared_type (seen c.types) (annotation q) u))) (sym e ∙ t)) h

        pub wanted_written : (n : TypeNode) → o ≡ Some n → Holds (with_type (Some n) (λ v. fitting_value y x (type_node n) (term v.later f.part) v)) c k d l r → Holds (fielded o) c k d l r
        wanted_written n g h = subst (λ (q : Option TypeNode). Holds (fielded q) c k d l r) (sym g) (alike (Some n) h)

        pub wanted_plain : o ≡ None → Holds (with_type None (judge y (plain x.value) (Some f.part))) c k d l r → Holds (fielded o) c k d l r
        wanted_plain g h = subst (λ (q : Option TypeNode). Holds (fielded q) c k d l r) (sym g) (alike None h)

  pub not_alike : (o : Option TypeNode) (f : Field TermId) (c : Scopes) (k : Checker) (b : Bool) → b ≡ same x.mutable f.mutable → b ≡ false
      → Holds (with_type o (λ v. wanted_value y x o (on_field (term v.later) f) v)) c k c k (Err (refusal.False x.name.at condition.Mismatch))
  not_alike o f c k b e t =
      fails value_in value_reached (with_type o (λ v. wanted_value y x o (on_field (term v.later) f) v)) c k condition.Mismatch x.name.at
      (λ later z.
      let v = view later k.types.listed c in
      ap (λ (s : Bool). Part (Tests condition.Mismatch x.name.at s (Case (annotation o) (λ n. fitting_value y x n (term later f.part) v) (λ _. judge_at y (plain x.value) (Some (term later f.part)) v))) (λ u. Gives (u, declared_type (seen c.types) (annotation o) u))) (sym e ∙ t))

  -- ---- whether a field of its name is wanted

  found : (f : TermId → Term) (label : List ℕ) (fs : List (Field TermId)) → find label (map (on_field f) fs) ≡ option_map (on_field f) (find label fs)
  found f label [] = refl
  found f label (m ∷ fs) = pick (pointwise nat_eq m.label label) (find label (map (on_field f) fs)) (find label fs) (found f label fs) where
    pick : (b : Bool) (q : Option (Field Term)) (g : Option (Field TermId)) → q ≡ option_map (on_field f) g → (if b then Some (on_field f m) else q) ≡ option_map (on_field f) (if b then Some m else g)
    pick true q g e = refl
    pick false q g e = e

  module _ (ws : List (Field TermId)) (c d : Scopes) (k l : Checker) (r : Valued) where
    abbrev among : View → Judgement (Typed × Term)
    among = with_type x.annotation (λ v. value_among y x (find x.name.bytes (wants ws v.later)) v)

    abbrev by_field : Option (Field TermId) → View → Judgement (Typed × Term)
    by_field q = with_type x.annotation (λ v. value_among y x (option_map (on_field (term v.later)) q) v)

    as_found : (q : Option (Field TermId)) → q ≡ find x.name.bytes ws → Holds (by_field q) c k d l r → Holds among c k d l r
    as_found q e h =
        seen_as value_in value_reached among (by_field q) c d k l r
        (λ later z.
        let v = view later k.types.listed c in
        ap (λ (g : Option (Field Term)). Part (value_among y x g v) (λ u. Gives (u, declared_type (seen c.types) (annotation x.annotation) u))) (found (term later) x.name.bytes ws ∙ ap (option_map (on_field (term later))) (sym e))) h

    pub is_wanted : (f : Field TermId) → Some f ≡ find x.name.bytes ws → Holds (with_type x.annotation (λ v. wanted_value y x x.annotation (on_field (term v.later) f) v)) c k d l r → Holds among c k d l r
    is_wanted f e h = as_found (Some f) e h

    pub is_not_wanted : None ≡ find x.name.bytes ws → Holds (with_type x.annotation (own_value y x x.annotation)) c k d l r → Holds among c k d l r
    is_not_wanted e h = as_found None e h

-- the field that is found has what all have
pub found_has : (P : Field TermId → Type 0) (label : List ℕ) (ws : List (Field TermId)) (f : Field TermId) → Each P ws → Some f ≡ find label ws → P f
found_has P label [] f h e = cc
found_has P label (g ∷ ws) f h e = by (pointwise nat_eq g.label label) refl (found_has P label ws f h.1) where
  by : (b : Bool) → pointwise nat_eq g.label label ≡ b → (Some f ≡ find label ws → P f) → P f
  by true q k =
      let z : Some f ≡ Some g = e ∙ ap (λ (b : Bool). if b then Some g else find label ws) q in
      let y : g ≡ f = cc in
      subst P y h.0
  by false q k = k (e ∙ ap (λ (b : Bool). if b then Some g else find label ws) q)
