-- The patterns of tuples and objects, one after another.
use Rattle.std.proofs.Common.{◌≡◌, ◌+◌, ◌≤◌, ◌<◌, ℕ, zero, suc, List, [], ◌∷◌, ◌++◌, Ok, Err, Option, Some, None, is_some, not, get_or, map, take, drop, length, refl, sym, ap, ◌∙◌, subst, append_assoc, append-nil, arith}
use Rattle.std.proofs.lemmas.List.{length-take-le, take_more}
use Rattle.std.proofs.Math.Path.{fun_ext}
use Rattle.mo_types.specs.Heads.{object_of, tuple_of}
use Rattle.mo_types.specs.declared.node.Field.{Field}
use Rattle.mo_types.specs.Sub.{Each, find}
use Rattle.type_terms.specs.declared.form.Form.{Form}
use Rattle.type_terms.specs.declared.form.TermId.{TermId}
use Rattle.typing_rules.specs.declared.condition.Condition.{Condition}
use Rattle.typing_rules.specs.declared.condition.Condition.TheVariants as condition
use Rattle.typing_rules.specs.AbstractSyntax.{Named, Pattern, Patterns, PatternFields}
use Rattle.typing_rules.specs.AbstractSyntax as p
use Rattle.typing_rules.specs.Contexts.{Scope}
use Rattle.typing_rules.specs.Definitions.{Definitions}
use Rattle.typing_rules.specs.Judgements.{Judgement, Gives, Fails, Asks, Meets, Given, Part, Tests, Fine}
use Rattle.typing_rules.specs.Patterns.{EachStands, FieldsStand, Stands}
use Rattle.typing_rules.specs.Terms.{Term}
use Rattle.typing_rules.specs.TypedTrees.{Note, note}
use Rattle.typing_rules.specs.TypeScopes.{TypeScope}
use Rattle.type_definitions.specs.Definitions.{Listed, rules_in}
use Rattle.type_definitions.specs.Meanings.{term}
use Rattle.met_types.specs.States.{State}
use Rattle.definition_rules.proofs.Promoting.{same_itself}
use Rattle.shareable_types.specs.declared.sharing.Sharing.{Sharing}
use Rattle.abstract_types.specs.PatternView.{FieldView, fields, listed, pattern, pattern_field, plain, plain_field}
use Rattle.abstract_types.specs.TypeView.{named}
use Rattle.abstract_types.specs.declared.names.PlacedName.{PlacedName}
use Rattle.abstract_types.specs.declared.patterns.Pattern as value
use Rattle.abstract_types.specs.declared.patterns.PatternField.{PatternField}
use Rattle.type_judgements.specs.declared.refusal.Refusal.{Refusal}
use Rattle.type_judgements.specs.declared.refusal.Refusal.TheVariants as refusal
use Rattle.type_judgements.specs.Judged.{Gave, Judged}
use Rattle.value_scopes.specs.declared.note.Note as value_note
use Rattle.value_scopes.specs.Values.{noted}
use Rattle.proper_types.specs.Passing.{Ready}
use Rattle.proper_types.specs.Rules.{Rule, as_term, as_terms, done}
use Rattle.proper_types.proofs.Judging.{failed, given, left_itself}
use Rattle.proper_types.proofs.Turns.{around, part_assoc}
use Rattle.typed_patterns.specs.Binding.{Binds, Names, Pushes, bind, each_stands, field_in, fields_in, fields_stand, patterns_in, stands}
use Rattle.typed_patterns.specs.Making.{pattern_in}
use Rattle.typed_patterns.specs.Heads.{field_part, fields_of, head_in, is_object, or_no_fields, tuple_parts}
use Rattle.typed_patterns.proofs.Joining.{Joins, binds_none, both_bind, first_pushes, made_of, not_made, pushes_as, second_refused, still, still_refused, then_pushes, unpushed}
use Rattle.typed_patterns.proofs.Standing.{behind_alike, given_alike, given_part, tests_part}
use Rattle.typed_patterns.proofs.Views.{field_is}

part_gives : {A : Type 0} (j : Judgement A) → Part j (λ a. Gives a) ≡ j
part_gives (Gives a) = refl
part_gives (Fails c place) = refl
part_gives (Asks q next) = ap (Asks q) (fun_ext (λ yes. part_gives (next yes)))
part_gives (Meets t next) = ap (Meets t) (part_gives next)

-- ---- places in lists

pub item_more : {A : Type 0} (xs : List A) (i : ℕ) (x : A) → i < length xs → x ≡ get_or xs i x → take (i + 1) xs ≡ take i xs ++ x ∷ []
item_more {A} xs i x h e = take_more xs i x h ∙ ap (λ (y : A). take i xs ++ y ∷ []) (sym e)

pub item_there : {A : Type 0} (xs : List A) (i : ℕ) → i < length xs → (x : A) × (take (i + 1) xs ≡ take i xs ++ x ∷ [])
item_there [] i h = absurd (omega (arith, h))
item_there (x ∷ xs) i h = (get_or (x ∷ xs) i x, take_more (x ∷ xs) i x h)

pub taken_alike : {A B : Type 0} (xs : List A) (ys : List B) (i : ℕ) → i ≤ length xs → i ≤ length ys → length (take i xs) ≡ length (take i ys)
taken_alike xs ys i h k = length-take-le i xs h ∙ sym (length-take-le i ys k)

pub each_at : {A : Type 0} (P : A → Type 0) (xs : List A) (i : ℕ) (x : A) → Each P xs → i < length xs → x ≡ get_or xs i x → P x
each_at {A} P xs i x h k e = subst P (sym e) (at xs i h k) where
  at : (ys : List A) (j : ℕ) → Each P ys → j < length ys → P (get_or ys j x)
  at [] j g l = absurd (omega (arith, l))
  at (y ∷ ys) zero g l = g.0
  at (y ∷ ys) (suc j) g l = at ys j g.1 (omega (arith, l))

-- ---- what is given of several

abbrev pub both : {M : Type 0} → Patterns M → Patterns M → Patterns M
both p.Nil ys = ys
both (p.Cons x xs) ys = p.Cons x (both xs ys)

pub both_listed : {M : Type 0} (xs ys : List (Pattern M)) → both (listed xs) (listed ys) ≡ listed (xs ++ ys)
both_listed [] ys = refl
both_listed (x ∷ xs) ys = ap (p.Cons x) (both_listed xs ys)

abbrev pub both_fields : {M : Type 0} → PatternFields M → PatternFields M → PatternFields M
both_fields p.NoFields ys = ys
both_fields (p.Field x q xs) ys = p.Field x q (both_fields xs ys)

-- fields before others
abbrev pub in_front : {M : Type 0} → List (FieldView M) → PatternFields M → PatternFields M
in_front [] ys = ys
in_front (v ∷ vs) ys = v (in_front vs ys)

-- ---- tuples

module _ (defs : Definitions) (s : TypeScope) (at : ℕ) where
  abbrev rest : List (Pattern ℕ) → List Term → Scope × Patterns Note → Judgement (Scope × Patterns Note)
  rest ys vs b = Part (EachStands defs s at (listed ys) vs) (λ c. Gives (c.0 ++ b.0, both b.1 c.1))

  pub each_split : (xs ys : List (Pattern ℕ)) (us vs : List Term) → length xs ≡ length us → Part (EachStands defs s at (listed xs) us) (rest ys vs) ≡ EachStands defs s at (listed (xs ++ ys)) (us ++ vs)
  each_split [] ys [] vs h =
      behind_alike (EachStands defs s at (listed ys) vs) (λ c. Gives (c.0 ++ [], c.1)) (λ c. Gives c) (λ c. ap (λ (n : Scope). Gives (n, c.1)) (append-nil c.0))
      ∙ part_gives (EachStands defs s at (listed ys) vs)
  each_split [] ys (u ∷ us) vs h = absurd (omega arith)
  each_split (x ∷ xs) ys [] vs h = absurd (omega arith)
  each_split (x ∷ xs) ys (u ∷ us) vs h =
      part_assoc (Stands defs s x u) (λ b. Part (EachStands defs s at (listed xs) us) (λ c. Gives (c.0 ++ b.0, p.Cons b.1 c.1))) (rest ys vs)
      ∙ behind_alike (Stands defs s x u) (λ b. Part (Part (EachStands defs s at (listed xs) us) (λ c. Gives (c.0 ++ b.0, p.Cons b.1 c.1))) (rest ys vs))
      (λ b. Part (EachStands defs s at (listed (xs ++ ys)) (us ++ vs)) (λ d. Gives (d.0 ++ b.0, p.Cons b.1 d.1)))
      (λ b.
      part_assoc (EachStands defs s at (listed xs) us) (λ c. Gives (c.0 ++ b.0, p.Cons b.1 c.1)) (rest ys vs)
      ∙ (behind_alike (EachStands defs s at (listed xs) us) (λ c. rest ys vs (c.0 ++ b.0, p.Cons b.1 c.1)) (λ c. Part (rest ys vs c) (λ d. Gives (d.0 ++ b.0, p.Cons b.1 d.1)))
      (λ c.
      behind_alike (EachStands defs s at (listed ys) vs) (λ d. Gives (d.0 ++ (c.0 ++ b.0), p.Cons b.1 (both c.1 d.1))) (λ d. Gives ((d.0 ++ c.0) ++ b.0, p.Cons b.1 (both c.1 d.1)))
      (λ d. ap (λ (n : Scope). Gives (n, p.Cons b.1 (both c.1 d.1))) (sym (append_assoc d.0 c.0 b.0)))
      ∙ sym (part_assoc (EachStands defs s at (listed ys) vs) (λ d. Gives (d.0 ++ c.0, both c.1 d.1)) (λ d. Gives (d.0 ++ b.0, p.Cons b.1 d.1))))
      ∙ (sym (part_assoc (EachStands defs s at (listed xs) us) (rest ys vs) (λ d. Gives (d.0 ++ b.0, p.Cons b.1 d.1)))
      ∙ ap (λ (j : Judgement (Scope × Patterns Note)). Part j (λ d. Gives (d.0 ++ b.0, p.Cons b.1 d.1))) (each_split xs ys us vs (omega arith)))))

map_two : {A B : Type 0} (f : A → B) (xs ys : List A) → map f (xs ++ ys) ≡ map f xs ++ map f ys
map_two f [] ys = refl
map_two f (y ∷ xs) ys = ap (λ l. f y ∷ l) (map_two f xs ys)

map_length : {A B : Type 0} (f : A → B) (xs : List A) → length (map f xs) ≡ length xs
map_length f [] = refl
map_length f (x ∷ xs) = ap suc (map_length f xs)

module _ (s : TypeScope) (at : ℕ) where
  pub none_stand : (st : State) (c : Sharing) (names : Names) → Ready st c → Binds (each_stands s at [] []) st st c names names (λ later. p.Nil)
  none_stand st c names ready = binds_none (each_stands s at [] []) st st c names (λ later. p.Nil) (given (each_stands s at [] [] st.listed) st st c (bind [] (λ later. p.Nil)) (same_itself st ready.kept) ready (λ later l. refl))

  module _ (xs ys zs : List (Pattern ℕ)) (us vs ws : List TermId) (e : zs ≡ xs ++ ys) (f : ws ≡ us ++ vs) (many : length xs ≡ length us) where
    whole_is : (l : Listed) (later : List Form) → Joins (each_stands s at xs us) (each_stands s at ys vs) both l later ≡ each_stands s at zs ws l later
    whole_is l later =
        each_split (rules_in later l) s at xs ys (map (term later) us) (map (term later) vs) (many ∙ sym (map_length (term later) us))
        ∙ (ap (λ (ts : List Term). EachStands (rules_in later l) s at (listed (xs ++ ys)) ts) (sym (map_two (term later) us vs))
        ∙ (ap (λ (qs : List (Pattern ℕ)). each_stands s at qs (us ++ vs) l later) (sym e) ∙ ap (λ (is : List TermId). each_stands s at zs is l later) (sym f)))

    pub more_stand : (old mid new : State) (a c : Sharing) (before between after : Names) (x y z : List Form → Patterns Note) → ((later : List Form) → both (x later) (y later) ≡ z later) → Binds (each_stands s at xs us) old mid a before between x
        → Binds (each_stands s at ys vs) mid new c between after y → Binds (each_stands s at zs ws) old new c before after z
    more_stand old mid new a c before between after x y z i g h = pushes_as (Joins (each_stands s at xs us) (each_stands s at ys vs) both) (each_stands s at zs ws) old new c before after (λ (u : Unit {0}). z) whole_is (Ok tt)
        (both_bind (each_stands s at xs us) (each_stands s at ys vs) both old mid new a c before between after x y z i g h)

    pub more_refused : {M N : Type 0} (old mid new : State) (a c : Sharing) (before between after : Names) (x : List Form → Patterns Note) (see : M → List Form → Patterns Note) (show : N → List Form → Patterns Note) (r : Refusal)
        → Binds (each_stands s at xs us) old mid a before between x → Pushes (each_stands s at ys vs) mid new c between after see (Err r) → Pushes (each_stands s at zs ws) old new c before after show (Err r)
    more_refused old mid new a c before between after x see show r g h = pushes_as (Joins (each_stands s at xs us) (each_stands s at ys vs) both) (each_stands s at zs ws) old new c before after show whole_is (Err r)
        (second_refused (each_stands s at xs us) (each_stands s at ys vs) both old mid new a c before between after x see show r g h)

  pub one_stands : (q : Pattern ℕ) (id : TermId) (old new : State) (c : Sharing) (before after : Names) (x : List Form → Pattern Note) → Binds (stands s q id) old new c before after x
      → Binds (each_stands s at (q ∷ []) (id ∷ [])) old new c before after (λ later. p.Cons (x later) p.Nil)
  one_stands q id old new c before after x h = made_of (stands s q id) (λ later y. p.Cons y p.Nil) old new c before after x (λ later. p.Cons (x later) p.Nil) (λ later. refl) h

  pub one_refused : {M N : Type 0} (q : Pattern ℕ) (id : TermId) (qs : List (Pattern ℕ)) (ids : List TermId) (old new : State) (c : Sharing) (before after : Names) (see : M → List Form → Pattern Note) (show : N → List Form → Patterns Note) (r : Refusal)
      → Pushes (stands s q id) old new c before after see (Err r) → Pushes (each_stands s at (q ∷ qs) (id ∷ ids)) old new c before after show (Err r)
  one_refused {M} q id qs ids old new c before after see show r h =
      first_pushes (stands s q id) (λ l later b. Part (each_stands s at qs ids l later) (λ d. Gives (d.0 ++ b.0, p.Cons b.1 d.1))) old new c c before after (λ (m : M) later. bind [] (see m) later) show r
      (unpushed (stands s q id) old new c c before after (λ (m : M) later. bind [] (see m) later) see r h)

  pub too_many : {N : Type 0} (q : Pattern ℕ) (qs : List (Pattern ℕ)) (st : State) (c : Sharing) (names : Names) (show : N → List Form → Patterns Note) → Pushes (each_stands s at (q ∷ qs) []) st st c names names show (Err (refusal.False at condition.PatternType))
  too_many q qs st c names show = failed (each_stands s at (q ∷ qs) [] st.listed) st st condition.PatternType at (left_itself st) (λ later l. refl)

  pub too_few : {N : Type 0} (id : TermId) (ids : List TermId) (st : State) (c : Sharing) (names : Names) (show : N → List Form → Patterns Note) → Pushes (each_stands s at [] (id ∷ ids)) st st c names names show (Err (refusal.False at condition.PatternType))
  too_few id ids st c names show = failed (each_stands s at [] (id ∷ ids) st.listed) st st condition.PatternType at (left_itself st) (λ later l. refl)

  -- ---- the patterns of a slice, and the types of a vector

  module _ (items : List (value.Pattern ℕ)) (kinds : List TermId) (i : ℕ) where
    abbrev some_stand : Rule (Scope × Patterns Note)
    some_stand = each_stands s at (map plain (take i items)) (take i kinds)

    abbrev all_of_tuple : Rule (Scope × Patterns Note)
    all_of_tuple = each_stands s at (map plain items) kinds

    as_many : length (take i items) ≡ length (take i kinds) → length (map plain (take i items)) ≡ length (take i kinds)
    as_many h = map_length plain (take i items) ∙ h

    module _ (q : value.Pattern ℕ) (e : take (i + 1) items ≡ take i items ++ q ∷ []) where
      items_are : map plain items ≡ map plain (take i items) ++ plain q ∷ map plain (drop (i + 1) items)
      items_are = ap (map plain) (around items i q e) ∙ map_two plain (take i items) (q ∷ drop (i + 1) items)

      module _ (k : TermId) (f : take (i + 1) kinds ≡ take i kinds ++ k ∷ []) (many : length (take i items) ≡ length (take i kinds)) (old mid new : State) (a c : Sharing) (before between after : Names) where
        pub next_stands : (ms ks : List (value.Pattern value_note.Note)) (m : value.Pattern value_note.Note) → ks ≡ ms ++ m ∷ [] → Binds some_stand old mid a before between (patterns_in ms) → Binds (stands s (plain q) k) mid new c between after (pattern_in m)
            → Binds (each_stands s at (map plain (take (i + 1) items)) (take (i + 1) kinds)) old new c before after (patterns_in ks)
        next_stands ms ks m d g h =
            more_stand (map plain (take i items)) (plain q ∷ []) (map plain (take (i + 1) items)) (take i kinds) (k ∷ []) (take (i + 1) kinds) (ap (map plain) e ∙ map_two plain (take i items) (q ∷ [])) f (as_many many)
            old mid new a c before between after (patterns_in ms) (λ later. p.Cons (pattern_in m later) p.Nil) (patterns_in ks)
            (λ later. both_listed (map (λ q. pattern_in q later) ms) (pattern_in m later ∷ []) ∙ ap listed (sym (ap (map (λ q. pattern_in q later)) d ∙ map_two (λ q. pattern_in q later) ms (m ∷ []))))
            g (one_stands (plain q) k mid new c between after (pattern_in m) h)

        pub stands_stop : {M N : Type 0} (x : List Form → Patterns Note) (see : M → List Form → Pattern Note) (show : N → List Form → Patterns Note) (r : Refusal) → Binds some_stand old mid a before between x → Pushes (stands s (plain q) k) mid new c between after see (Err r)
            → Pushes all_of_tuple old new c before after show (Err r)
        stands_stop x see show r g h =
            more_refused (map plain (take i items)) (plain q ∷ map plain (drop (i + 1) items)) (map plain items) (take i kinds) (k ∷ drop (i + 1) kinds) kinds items_are (around kinds i k f) (as_many many)
            old mid new a c before between after x show show r g (one_refused (plain q) k (map plain (drop (i + 1) items)) (drop (i + 1) kinds) mid new c between after see show r h)

      -- no type is left
      pub many_stop : {N : Type 0} (old mid : State) (a : Sharing) (before between : Names) (x : List Form → Patterns Note) (show : N → List Form → Patterns Note) → take i kinds ≡ kinds → length (take i items) ≡ length (take i kinds) → Binds some_stand old mid a before between x
          → Pushes all_of_tuple old mid a before between show (Err (refusal.False at condition.PatternType))
      many_stop old mid a before between x show f many g =
          more_refused (map plain (take i items)) (plain q ∷ map plain (drop (i + 1) items)) (map plain items) (take i kinds) [] kinds items_are (sym f ∙ sym (append-nil (take i kinds))) (as_many many)
          old mid mid a a before between between x show show (refusal.False at condition.PatternType) g (too_many (plain q) (map plain (drop (i + 1) items)) mid a between show)

    -- no pattern is left
    pub few_stop : {N : Type 0} (k : TermId) (old mid : State) (a : Sharing) (before between : Names) (x : List Form → Patterns Note) (show : N → List Form → Patterns Note) → take i items ≡ items → take (i + 1) kinds ≡ take i kinds ++ k ∷ [] → length (take i items) ≡ length (take i kinds)
        → Binds some_stand old mid a before between x → Pushes all_of_tuple old mid a before between show (Err (refusal.False at condition.PatternType))
    few_stop k old mid a before between x show e f many g =
        more_refused (map plain (take i items)) [] (map plain items) (take i kinds) (k ∷ drop (i + 1) kinds) kinds (ap (map plain) (sym e) ∙ sym (append-nil (map plain (take i items)))) (around kinds i k f) (as_many many)
        old mid mid a a before between between x show show (refusal.False at condition.PatternType) g (too_few k (drop (i + 1) kinds) mid a between show)

    pub all_stood : (old mid : State) (a : Sharing) (before between : Names) (x : List Form → Patterns Note) → take i items ≡ items → take i kinds ≡ kinds → Binds some_stand old mid a before between x → Binds all_of_tuple old mid a before between x
    all_stood old mid a before between x e f g = subst (λ (qs : List (value.Pattern ℕ)). Binds (each_stands s at (map plain qs) kinds) old mid a before between x) e
        (subst (λ (ids : List TermId). Binds (each_stands s at (map plain (take i items)) ids) old mid a before between x) f g)

  -- ---- the tuple

  module _ (qs : List (Pattern ℕ)) (id : TermId) (st : State) (c : Sharing) where
    abbrev as_tuple : List Form → Patterns Note → Pattern Note
    as_tuple later x = p.pattern (note at (term later id)) (p.Tuple x)

    abbrev each_of : Listed → List Form → List Term → Judgement (Scope × Pattern Note)
    each_of l later us = Part (EachStands (rules_in later l) s at (listed qs) us) (λ b. Gives (b.0, as_tuple later b.1))

    abbrev tuple_rule : Rule (Scope × Pattern Note)
    tuple_rule = stands s (p.pattern at (p.Tuple (listed qs))) id

    tuple_is : (l : Listed) (later : List Form) → Part (tuple_parts at id l later) (each_of l later) ≡ tuple_rule l later
    tuple_is l later = given_part condition.PatternType at (tuple_of (head_in id l later)) (λ us. Gives us) (each_of l later)

    pub no_tuple_stands : {M N : Type 0} (names : Names) (see : M → List Form → List Term) (show : N → List Form → Pattern Note) (e : Refusal) → Judged (tuple_parts at id st.listed) st st see (Err e) → Pushes tuple_rule st st c names names show (Err e)
    no_tuple_stands names see show e h = pushes_as (λ l later. Part (tuple_parts at id l later) (each_of l later)) tuple_rule st st c names names show tuple_is (Err e)
        (first_pushes (tuple_parts at id) each_of st st c c names names see show e (still_refused (tuple_parts at id) st c see e h))

    module _ (ids : List TermId) (ready : Ready st c) (h : Gave (tuple_parts at id st.listed) st st (as_terms ids)) (new : State) (d : Sharing) (before after : Names) where
      pub tuple_refused : {M N : Type 0} (see : M → List Form → Patterns Note) (show : N → List Form → Pattern Note) (e : Refusal) → Pushes (each_stands s at qs ids) st new d before after see (Err e) → Pushes tuple_rule st new d before after show (Err e)
      tuple_refused see show e g = pushes_as (λ l later. Part (tuple_parts at id l later) (each_of l later)) tuple_rule st new d before after show tuple_is (Err e)
          (then_pushes (tuple_parts at id) each_of st st new c d before after (as_terms ids) show (Err e) (still (tuple_parts at id st.listed) st c (as_terms ids) ready h)
          (not_made (each_stands s at qs ids) as_tuple st new d before after see show e g))

      pub tuple_stands : (x : List Form → Patterns Note) (y : List Form → Pattern Note) → ((later : List Form) → as_tuple later (x later) ≡ y later) → Binds (each_stands s at qs ids) st new d before after x → Binds tuple_rule st new d before after y
      tuple_stands x y i g = pushes_as (λ l later. Part (tuple_parts at id l later) (each_of l later)) tuple_rule st new d before after (λ (u : Unit {0}). y) tuple_is (Ok tt)
          (then_pushes (tuple_parts at id) each_of st st new c d before after (as_terms ids) (λ (u : Unit {0}). y) (Ok tt) (still (tuple_parts at id st.listed) st c (as_terms ids) ready h)
          (made_of (each_stands s at qs ids) as_tuple st new d before after x y i g))

-- ---- objects

object_given : {A : Type 0} (c : Condition) (at : ℕ) (o : Option (List (Field Term))) (k : List (Field Term) → Judgement A) → Part (Tests c at (is_some o) Fine) (λ u. k (or_no_fields o)) ≡ Given c at o k
object_given c at None k = refl
object_given c at (Some fs) k = refl

module _ (defs : Definitions) (s : TypeScope) (given_fields : List (Field Term)) where
  abbrev fields_behind : PatternFields ℕ → Scope × PatternFields Note → Judgement (Scope × PatternFields Note)
  fields_behind ys b = Part (FieldsStand defs s ys given_fields) (λ c. Gives (c.0 ++ b.0, both_fields b.1 c.1))

  -- a field before others
  abbrev Goes_before : FieldView ℕ → Type 0
  Goes_before v = (ys : PatternFields ℕ) → Part (FieldsStand defs s (v p.NoFields) given_fields) (fields_behind ys) ≡ FieldsStand defs s (v ys) given_fields

  one_before : (x : Named) (q : Pattern ℕ) → Goes_before (λ ys. p.Field x q ys)
  one_before x q ys =
      given_part condition.PatternType x.at (find x.bytes given_fields) (λ f. Tests condition.PatternType x.at (not f.mutable) (Part (Stands defs s q f.part) (λ b. Gives ([] ++ b.0, p.Field x b.1 p.NoFields)))) (fields_behind ys)
      ∙ given_alike condition.PatternType x.at (find x.bytes given_fields)
      (λ f. Part (Tests condition.PatternType x.at (not f.mutable) (Part (Stands defs s q f.part) (λ b. Gives ([] ++ b.0, p.Field x b.1 p.NoFields)))) (fields_behind ys))
      (λ f. Tests condition.PatternType x.at (not f.mutable) (Part (Stands defs s q f.part) (λ b. Part (FieldsStand defs s ys given_fields) (λ c. Gives (c.0 ++ b.0, p.Field x b.1 c.1)))))
      (λ f.
      tests_part condition.PatternType x.at (not f.mutable) (Part (Stands defs s q f.part) (λ b. Gives ([] ++ b.0, p.Field x b.1 p.NoFields))) (fields_behind ys)
      ∙ ap (Tests condition.PatternType x.at (not f.mutable)) (part_assoc (Stands defs s q f.part) (λ b. Gives ([] ++ b.0, p.Field x b.1 p.NoFields)) (fields_behind ys)))

  both_assoc : {M : Type 0} (xs ys zs : PatternFields M) → both_fields (both_fields xs ys) zs ≡ both_fields xs (both_fields ys zs)
  both_assoc p.NoFields ys zs = refl
  both_assoc (p.Field x q xs) ys zs = ap (p.Field x q) (both_assoc xs ys zs)

  field_before : (f : PatternField ℕ) → Goes_before (plain_field f)
  field_before f = subst Goes_before (sym (field_is (λ n. n) f)) (one_before (named f.name) (plain f.pattern))

  pub fields_split : (fs : List (PatternField ℕ)) (ys : PatternFields ℕ) → Part (FieldsStand defs s (fields (map plain_field fs)) given_fields) (fields_behind ys) ≡ FieldsStand defs s (in_front (map plain_field fs) ys) given_fields
  fields_split [] ys =
      behind_alike (FieldsStand defs s ys given_fields) (λ c. Gives (c.0 ++ [], c.1)) (λ c. Gives c) (λ c. ap (λ (n : Scope). Gives (n, c.1)) (append-nil c.0))
      ∙ part_gives (FieldsStand defs s ys given_fields)
  fields_split (f ∷ fs) ys =
      let others = fields (map plain_field fs) in
      let first = FieldsStand defs s (plain_field f p.NoFields) given_fields in
      ap (λ (j : Judgement (Scope × PatternFields Note)). Part j (fields_behind ys)) (sym (field_before f others))
      ∙ (part_assoc first (fields_behind others) (fields_behind ys)
      ∙ (behind_alike first (λ b. Part (fields_behind others b) (fields_behind ys)) (fields_behind (in_front (map plain_field fs) ys))
      (λ b.
      part_assoc (FieldsStand defs s others given_fields) (λ c. Gives (c.0 ++ b.0, both_fields b.1 c.1)) (fields_behind ys)
      ∙ (behind_alike (FieldsStand defs s others given_fields) (λ c. fields_behind ys (c.0 ++ b.0, both_fields b.1 c.1)) (λ c. Part (fields_behind ys c) (λ d. Gives (d.0 ++ b.0, both_fields b.1 d.1)))
      (λ c.
      behind_alike (FieldsStand defs s ys given_fields) (λ d. Gives (d.0 ++ (c.0 ++ b.0), both_fields (both_fields b.1 c.1) d.1)) (λ d. Gives ((d.0 ++ c.0) ++ b.0, both_fields b.1 (both_fields c.1 d.1)))
      (λ d.
      ap (λ (n : Scope). Gives (n, both_fields (both_fields b.1 c.1) d.1)) (sym (append_assoc d.0 c.0 b.0))
      ∙ ap (λ (v : PatternFields Note). Gives ((d.0 ++ c.0) ++ b.0, v)) (both_assoc b.1 c.1 d.1))
      ∙ sym (part_assoc (FieldsStand defs s ys given_fields) (λ d. Gives (d.0 ++ c.0, both_fields c.1 d.1)) (λ d. Gives (d.0 ++ b.0, both_fields b.1 d.1))))
      ∙ (sym (part_assoc (FieldsStand defs s others given_fields) (fields_behind ys) (λ d. Gives (d.0 ++ b.0, both_fields b.1 d.1)))
      ∙ ap (λ (j : Judgement (Scope × PatternFields Note)). Part j (λ d. Gives (d.0 ++ b.0, both_fields b.1 d.1))) (fields_split fs ys))))
      ∙ field_before f (in_front (map plain_field fs) ys)))

-- what is given of fields
pub made_in_front : {N M : Type 0} (see : N → M) (fs : List (PatternField N)) (ys : PatternFields M) → both_fields (fields (map (pattern_field see) fs)) ys ≡ in_front (map (pattern_field see) fs) ys
made_in_front see [] ys = refl
made_in_front {N} {M} see (f ∷ fs) ys =
    ap (λ (v : FieldView M). both_fields (v (fields (map (pattern_field see) fs))) ys) (field_is see f)
    ∙ (ap (p.Field (named f.name) (pattern see f.pattern)) (made_in_front see fs ys) ∙ ap (λ (v : FieldView M). v (in_front (map (pattern_field see) fs) ys)) (sym (field_is see f)))

pub front_of_two : {M : Type 0} (vs : List (FieldView M)) (v : FieldView M) → in_front vs (v p.NoFields) ≡ fields (vs ++ v ∷ [])
front_of_two [] v = refl
front_of_two (w ∷ vs) v = ap w (front_of_two vs v)

pub front_of_more : {M : Type 0} (vs ws : List (FieldView M)) → in_front vs (fields ws) ≡ fields (vs ++ ws)
front_of_more [] ws = refl
front_of_more (w ∷ vs) ws = ap w (front_of_more vs ws)

module _ (s : TypeScope) (id : TermId) where
  abbrev pub all_stand : List (PatternField ℕ) → Rule (Scope × PatternFields Note)
  all_stand fs = fields_stand s (map plain_field fs) id

  pub no_fields_stand : (st : State) (c : Sharing) (names : Names) → Ready st c → Binds (all_stand []) st st c names names (fields_in [])
  no_fields_stand st c names ready = binds_none (all_stand []) st st c names (fields_in []) (given (all_stand [] st.listed) st st c (bind [] (fields_in [])) (same_itself st ready.kept) ready (λ later l. refl))

  module _ (xs ys zs : List (PatternField ℕ)) (e : zs ≡ xs ++ ys) where
    all_are : (l : Listed) (later : List Form) → Joins (all_stand xs) (all_stand ys) both_fields l later ≡ all_stand zs l later
    all_are l later =
        fields_split (rules_in later l) s (fields_of (head_in id l later)) xs (fields (map plain_field ys))
        ∙ (ap (λ (v : PatternFields ℕ). FieldsStand (rules_in later l) s v (fields_of (head_in id l later))) (front_of_more (map plain_field xs) (map plain_field ys))
        ∙ ap (λ (vs : List (FieldView ℕ)). fields_stand s vs id l later) (sym (ap (map plain_field) e ∙ map_two plain_field xs ys)))

    pub more_fields : (old mid new : State) (a c : Sharing) (before between after : Names) (ms : List (PatternField value_note.Note)) (m : PatternField value_note.Note) (ks : List (PatternField value_note.Note)) → ks ≡ ms ++ m ∷ []
        → Binds (all_stand xs) old mid a before between (fields_in ms) → Binds (all_stand ys) mid new c between after (field_in m) → Binds (all_stand zs) old new c before after (fields_in ks)
    more_fields old mid new a c before between after ms m ks q g h =
        pushes_as (Joins (all_stand xs) (all_stand ys) both_fields) (all_stand zs) old new c before after (λ (u : Unit {0}). fields_in ks) all_are (Ok tt)
        (both_bind (all_stand xs) (all_stand ys) both_fields old mid new a c before between after (fields_in ms) (field_in m) (fields_in ks)
        (λ later.
        made_in_front (noted later) ms (field_in m later)
        ∙ (front_of_two (map (pattern_field (noted later)) ms) (pattern_field (noted later) m)
        ∙ ap fields (sym (ap (map (pattern_field (noted later))) q ∙ map_two (pattern_field (noted later)) ms (m ∷ [])))))
        g h)

    pub fields_refused : {M N : Type 0} (old mid new : State) (a c : Sharing) (before between after : Names) (x : List Form → PatternFields Note) (see : M → List Form → PatternFields Note) (show : N → List Form → PatternFields Note) (r : Refusal)
        → Binds (all_stand xs) old mid a before between x → Pushes (all_stand ys) mid new c between after see (Err r) → Pushes (all_stand zs) old new c before after show (Err r)
    fields_refused old mid new a c before between after x see show r g h = pushes_as (Joins (all_stand xs) (all_stand ys) both_fields) (all_stand zs) old new c before after show all_are (Err r)
        (second_refused (all_stand xs) (all_stand ys) both_fields old mid new a c before between after x see show r g h)

  -- one that is refused, whatever is behind it
  pub then_fields : {M N : Type 0} (f : PatternField ℕ) (fs : List (PatternField ℕ)) (old new : State) (c : Sharing) (before after : Names) (see : M → List Form → PatternFields Note) (show : N → List Form → PatternFields Note) (r : Refusal)
      → Pushes (all_stand (f ∷ [])) old new c before after see (Err r) → Pushes (all_stand (f ∷ fs)) old new c before after show (Err r)
  then_fields {M} f fs old new c before after see show r h =
      pushes_as (λ l later. Part (all_stand (f ∷ []) l later) (fields_behind (rules_in later l) s (fields_of (head_in id l later)) (fields (map plain_field fs)))) (all_stand (f ∷ fs)) old new c before after show
      (λ l later. field_before (rules_in later l) s (fields_of (head_in id l later)) f (fields (map plain_field fs))) (Err r)
      (first_pushes (all_stand (f ∷ [])) (λ l later. fields_behind (rules_in later l) s (fields_of (head_in id l later)) (fields (map plain_field fs))) old new c c before after (λ (m : M) later. bind [] (see m) later) show r
      (unpushed (all_stand (f ∷ [])) old new c c before after (λ (m : M) later. bind [] (see m) later) see r h))

  -- ---- one field

  module _ (f : PatternField ℕ) where
    abbrev into_field : Listed → List Form → Term → Judgement (Scope × PatternFields Note)
    into_field l later v = Part (Stands (rules_in later l) s (plain f.pattern) v) (λ b. Gives (b.0, p.Field (named f.name) b.1 p.NoFields))

    one_field_is : (l : Listed) (later : List Form) → Part (field_part id (named f.name) l later) (into_field l later) ≡ all_stand (f ∷ []) l later
    one_field_is l later =
        given_part condition.PatternType f.name.at (find f.name.bytes (fields_of (head_in id l later))) (λ g. Tests condition.PatternType f.name.at (not g.mutable) (Gives g.part)) (into_field l later)
        ∙ (given_alike condition.PatternType f.name.at (find f.name.bytes (fields_of (head_in id l later))) (λ g. Part (Tests condition.PatternType f.name.at (not g.mutable) (Gives g.part)) (into_field l later))
        (λ g. Tests condition.PatternType f.name.at (not g.mutable) (into_field l later g.part))
        (λ g. tests_part condition.PatternType f.name.at (not g.mutable) (Gives g.part) (into_field l later))
        ∙ ap (λ (v : FieldView ℕ). FieldsStand (rules_in later l) s (v p.NoFields) (fields_of (head_in id l later))) (sym (field_is (λ n. n) f)))

    pub no_field_stands : {M N : Type 0} (st : State) (c : Sharing) (names : Names) (see : M → List Form → Term) (show : N → List Form → PatternFields Note) (e : Refusal) → Judged (field_part id (named f.name) st.listed) st st see (Err e)
        → Pushes (all_stand (f ∷ [])) st st c names names show (Err e)
    no_field_stands st c names see show e h = pushes_as (λ l later. Part (field_part id (named f.name) l later) (into_field l later)) (all_stand (f ∷ [])) st st c names names show one_field_is (Err e)
        (first_pushes (field_part id (named f.name)) into_field st st c c names names see show e (still_refused (field_part id (named f.name)) st c see e h))

    module _ (of : TermId) (st : State) (c : Sharing) (ready : Ready st c) (h : Gave (field_part id (named f.name) st.listed) st st (as_term of)) (new : State) (d : Sharing) (before after : Names) where
      pub field_refused : {M N : Type 0} (see : M → List Form → Pattern Note) (show : N → List Form → PatternFields Note) (e : Refusal) → Pushes (stands s (plain f.pattern) of) st new d before after see (Err e) → Pushes (all_stand (f ∷ [])) st new d before after show (Err e)
      field_refused see show e g = pushes_as (λ l later. Part (field_part id (named f.name) l later) (into_field l later)) (all_stand (f ∷ [])) st new d before after show one_field_is (Err e)
          (then_pushes (field_part id (named f.name)) into_field st st new c d before after (as_term of) show (Err e) (still (field_part id (named f.name) st.listed) st c (as_term of) ready h)
          (not_made (stands s (plain f.pattern) of) (λ later x. p.Field (named f.name) x p.NoFields) st new d before after see show e g))

      pub field_stands : (m : PatternField value_note.Note) (x : List Form → Pattern Note) → m.name ≡ f.name → ((later : List Form) → x later ≡ pattern_in m.pattern later) → Binds (stands s (plain f.pattern) of) st new d before after x
          → Binds (all_stand (f ∷ [])) st new d before after (field_in m)
      field_stands m x n i g = pushes_as (λ l later. Part (field_part id (named f.name) l later) (into_field l later)) (all_stand (f ∷ [])) st new d before after (λ (u : Unit {0}). field_in m) one_field_is (Ok tt)
          (then_pushes (field_part id (named f.name)) into_field st st new c d before after (as_term of) (λ (u : Unit {0}). field_in m) (Ok tt) (still (field_part id (named f.name) st.listed) st c (as_term of) ready h)
          (made_of (stands s (plain f.pattern) of) (λ later y. p.Field (named f.name) y p.NoFields) st new d before after x (field_in m)
          (λ later.
          ap (λ (y : Pattern Note). p.Field (named f.name) y p.NoFields) (i later)
          ∙ (ap (λ (o : PlacedName). p.Field (named o) (pattern_in m.pattern later) p.NoFields) (sym n) ∙ ap (λ (v : FieldView Note). v p.NoFields) (sym (field_is (noted later) m)))) g))

  -- ---- the object

  module _ (at : ℕ) (fs : List (PatternField ℕ)) (st : State) (c : Sharing) where
    abbrev as_object : List Form → PatternFields Note → Pattern Note
    as_object later x = p.pattern (note at (term later id)) (p.Object x)

    abbrev all_of : Listed → List Form → Unit {0} → Judgement (Scope × Pattern Note)
    all_of l later u = Part (all_stand fs l later) (λ b. Gives (b.0, as_object later b.1))

    abbrev object_rule : Rule (Scope × Pattern Note)
    object_rule = stands s (p.pattern at (p.Object (fields (map plain_field fs)))) id

    object_is_rule : (l : Listed) (later : List Form) → Part (is_object at id l later) (all_of l later) ≡ object_rule l later
    object_is_rule l later = object_given condition.PatternType at (object_of (head_in id l later)) (λ gs. Part (FieldsStand (rules_in later l) s (fields (map plain_field fs)) gs) (λ b. Gives (b.0, as_object later b.1)))

    pub no_object_stands : {N : Type 0} (names : Names) (show : N → List Form → Pattern Note) (e : Refusal) → Judged (is_object at id st.listed) st st done (Err e) → Pushes object_rule st st c names names show (Err e)
    no_object_stands names show e h = pushes_as (λ l later. Part (is_object at id l later) (all_of l later)) object_rule st st c names names show object_is_rule (Err e)
        (first_pushes (is_object at id) all_of st st c c names names done show e (still_refused (is_object at id) st c done e h))

    module _ (ready : Ready st c) (h : Gave (is_object at id st.listed) st st (done tt)) (new : State) (d : Sharing) (before after : Names) where
      pub object_refused : {M N : Type 0} (see : M → List Form → PatternFields Note) (show : N → List Form → Pattern Note) (e : Refusal) → Pushes (all_stand fs) st new d before after see (Err e) → Pushes object_rule st new d before after show (Err e)
      object_refused see show e g = pushes_as (λ l later. Part (is_object at id l later) (all_of l later)) object_rule st new d before after show object_is_rule (Err e)
          (then_pushes (is_object at id) all_of st st new c d before after (done tt) show (Err e) (still (is_object at id st.listed) st c (done tt) ready h)
          (not_made (all_stand fs) as_object st new d before after see show e g))

      pub object_stands : (x : List Form → PatternFields Note) (y : List Form → Pattern Note) → ((later : List Form) → as_object later (x later) ≡ y later) → Binds (all_stand fs) st new d before after x → Binds object_rule st new d before after y
      object_stands x y i g = pushes_as (λ l later. Part (is_object at id l later) (all_of l later)) object_rule st new d before after (λ (u : Unit {0}). y) object_is_rule (Ok tt)
          (then_pushes (is_object at id) all_of st st new c d before after (done tt) (λ (u : Unit {0}). y) (Ok tt) (still (is_object at id st.listed) st c (done tt) ready h)
          (made_of (all_stand fs) as_object st new d before after x y i g))
