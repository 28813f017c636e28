-- The rule of tuples by its parts.
use Rattle.std.proofs.Common.{◌≡◌, ◌∙◌, ℕ, suc, List, [], ◌∷◌, Option, Some, None, length, map, nat_eq, option_map, refl, ap}
use Rattle.std.specs.Prelude.{Result}
use Rattle.std.specs.declared.vec.Vec.{Vec}
use Rattle.mo_types.specs.Heads.{tuple_of}
use Rattle.type_terms.specs.declared.form.Form.{Form}
use Rattle.type_terms.specs.declared.form.TermId.{TermId}
use Rattle.typing_rules.specs.declared.condition.Condition.TheVariants as condition
use Rattle.typing_rules.specs.AbstractSyntax as p
use Rattle.typing_rules.specs.Expressions.{JudgeEach, some_each}
use Rattle.typing_rules.specs.Judgements.{Judgement, Gives, Part, Tests}
use Rattle.typing_rules.specs.Terms.{Term}
use Rattle.typing_rules.specs.Terms as t
use Rattle.typing_rules.specs.TypedTrees.{Note, Typed, count, typed, types_of}
use Rattle.typing_rules.specs.Ends.{Has}
use Rattle.type_definitions.specs.Meanings.{term}
use Rattle.type_judgements.specs.declared.refusal.Refusal.{Refusal}
use Rattle.abstract_tree.specs.declared.expressions.Expression as value
use Rattle.abstract_tree.specs.TreeView.{listed, plain}
use Rattle.value_scopes.specs.declared.scopes.Scopes.{Scopes}
use Rattle.judging.specs.declared.checker.Checker.{Checker}
use Rattle.judging.specs.declared.site.Site.{Site}
use Rattle.judging.specs.Heads.{WantedHas}
use Rattle.judging.specs.Views.{View, context, definitions, each_in, kind_reached, rule, typed_in, wanted_in}
use Rattle.judging.proofs.Cases.{as_wanted, unwanted}
use Rattle.judging.proofs.Chains.{seen_as}
use Rattle.judging.proofs.TypedParts.{Given, Comes}
use Rattle.data_parts.proofs.TypesOf.{types_are}

abbrev pub items_of : {X Z : Type 0} → Vec X Z → List X
items_of v = v.items

some_are : (later : List Form) (ids : List TermId) → some_each (map (term later) ids) ≡ map (λ (id : TermId). Some (term later id)) ids
some_are later [] = refl
some_are later (id ∷ ids) = ap (λ (us : List (Option Term)). Some (term later id) ∷ us) (some_are later ids)

count_is : (items : List (value.Expression ℕ)) → count (listed (map plain items)) ≡ length items
count_is [] = refl
count_is (a ∷ items) = ap suc (count_is items)

length_is : (later : List Form) (ids : List TermId) → length (map (term later) ids) ≡ length ids
length_is later [] = refl
length_is later (id ∷ ids) = ap suc (length_is later ids)

module _ (x : Site) (items : List (value.Expression ℕ)) where
  -- the items, of which these types are wanted, or none
  abbrev pub items_at : List TermId → View → Judgement (p.Expressions Note)
  items_at ids v = JudgeEach (definitions v) (context v x.place) (listed (map plain items)) (map (λ (id : TermId). Some (term v.later id)) ids)

  abbrev pub tuple_end : View → p.Expressions Note → Judgement Typed
  tuple_end v es = Has x.at (wanted_in v x.wanted) (t.Tuple (t.unlisted (types_of es))) (p.Tuple es)

  abbrev pub wanted_end : TermId → View → p.Expressions Note → Judgement Typed
  wanted_end w v es = Gives (typed x.at (term v.later w) (p.Tuple es))

  abbrev fitting : View → Term × List Term → Judgement Typed
  fitting v q =
      Tests condition.Mismatch x.at (nat_eq (length q.1) (count (listed (map plain items))))
      (Part (JudgeEach (definitions v) (context v x.place) (listed (map plain items)) (some_each q.1)) (λ es. Gives (typed x.at q.0 (p.Tuple es))))

  abbrev giving : View → Unit {0} → Judgement Typed
  giving v u = Part (JudgeEach (definitions v) (context v x.place) (listed (map plain items)) []) (tuple_end v)

  abbrev pub fits : TermId → List TermId → View → Judgement Typed
  fits w ids v = Tests condition.Mismatch x.at (nat_eq (length ids) (length items)) (Part (items_at ids v) (wanted_end w v))

  -- a tuple is given with the types of its parts
  pub tuple_has : (c d : Scopes) (k l m : Checker) (made : List Given) (r : Result Given Refusal)
      → Comes (λ v. Has x.at (wanted_in v x.wanted) (t.Tuple (t.unlisted (map (term v.later) (map (λ (a : Given). a.note.kind) made)))) (p.Tuple (each_in made v.later))) d l d m r
      → Comes (λ v. tuple_end v (each_in made v.later)) d l d m r
  tuple_has c d k l m made r h =
      seen_as typed_in kind_reached (λ v. tuple_end v (each_in made v.later))
      (λ v. Has x.at (wanted_in v x.wanted) (t.Tuple (t.unlisted (map (term v.later) (map (λ (a : Given). a.note.kind) made)))) (p.Tuple (each_in made v.later))) d d l m r
      (λ later w. ap (λ (us : List Term). Has x.at (option_map (term later) x.wanted) (t.Tuple (t.unlisted us)) (p.Tuple (each_in made later))) (types_are later made)) h

  module _ (c d : Scopes) (k l : Checker) (r : Result Given Refusal) {Y : Type 0} (ids_of : Y → List TermId) (o : Option (TermId × Y)) (h : WantedHas tuple_of k.types x.wanted (λ later y. map (term later) (ids_of y)) o) where
    pub tuple_wanted : (w : TermId) (y : Y) → o ≡ Some (w, y) → Comes (fits w (ids_of y)) c k d l r → Comes (rule x (p.Tuple (listed (map plain items)))) c k d l r
    tuple_wanted w y e j =
        as_wanted typed_in kind_reached tuple_of (λ later z. map (term later) (ids_of z)) x.wanted fitting giving c d k l r o h w y e
        (seen_as typed_in kind_reached (λ v. fitting v (term v.later w, map (term v.later) (ids_of y))) (fits w (ids_of y)) c d k l r
        (λ later z. same (ids_of y) later (record { later = later; listed = k.types.listed; scopes = c })) j)
      where
        same : (ids : List TermId) (later : List Form) (v : View) → fitting v (term later w, map (term later) ids) ≡ Tests condition.Mismatch x.at (nat_eq (length ids) (length items))
            (Part (JudgeEach (definitions v) (context v x.place) (listed (map plain items)) (map (λ (id : TermId). Some (term later id)) ids)) (λ es. Gives (typed x.at (term later w) (p.Tuple es))))
        same ids later v =
            ap (λ (n : ℕ). Tests condition.Mismatch x.at (nat_eq n (count (listed (map plain items)))) (Part (JudgeEach (definitions v) (context v x.place) (listed (map plain items)) (some_each (map (term later) ids))) (λ es. Gives (typed x.at (term later w) (p.Tuple es))))) (length_is later ids)
            ∙ (ap (λ (n : ℕ). Tests condition.Mismatch x.at (nat_eq (length ids) n) (Part (JudgeEach (definitions v) (context v x.place) (listed (map plain items)) (some_each (map (term later) ids))) (λ es. Gives (typed x.at (term later w) (p.Tuple es))))) (count_is items)
            ∙ ap (λ (us : List (Option Term)). Tests condition.Mismatch x.at (nat_eq (length ids) (length items)) (Part (JudgeEach (definitions v) (context v x.place) (listed (map plain items)) us) (λ es. Gives (typed x.at (term later w) (p.Tuple es))))) (some_are later ids))

    pub tuple_unwanted : o ≡ None → Comes (λ v. giving v tt) c k d l r → Comes (rule x (p.Tuple (listed (map plain items)))) c k d l r
    tuple_unwanted e j = unwanted typed_in kind_reached tuple_of (λ later z. map (term later) (ids_of z)) x.wanted fitting giving c d k l r o h e j
