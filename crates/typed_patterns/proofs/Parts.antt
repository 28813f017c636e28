-- The parts of types of the graph, by their heads.
use Rattle.std.proofs.Common.{◌≡◌, ℕ, Ok, Err, arith, length, Bool, true, false, List, [], ◌∷◌, ◌++◌, Option, Some, None, is_some, not, map, refl, sym, ap, ◌∙◌, subst}
use Rattle.std.proofs.lemmas.Bool.{ne_eqb}
use Rattle.std.specs.Prelude.{Result, if◌then◌else◌, nat_eq, slice_get}
use Rattle.std.specs.Cmp.Lexicographic.{pointwise}
use Rattle.mo_syntax.specs.declared.literal.Literal as syntax
use Rattle.mo_types.specs.declared.node.Node.{Node}
use Rattle.mo_types.specs.declared.node.TypeId.{TypeId}
use Rattle.mo_types.specs.declared.node.Field.{Field}
use Rattle.mo_types.specs.Heads.{map_option, opt_of, tuple_of, object_of, variant_of}
use Rattle.mo_types.specs.Sub.{Each, find}
use Rattle.mo_subtype.specs.Renamed.{on_field, on_node}
use Rattle.type_terms.specs.declared.form.Form.{Form}
use Rattle.type_terms.specs.declared.form.TermId.{TermId}
use Rattle.typing_rules.specs.declared.condition.Condition.{Condition}
use Rattle.typing_rules.specs.declared.condition.Condition.TheVariants as condition
use Rattle.typing_rules.specs.AbstractSyntax.{Named}
use Rattle.typing_rules.specs.Graphs.{term_of}
use Rattle.typing_rules.specs.Terms.{Term}
use Rattle.typing_rules.specs.Judgements.{Judgement, Gives, Fails, Given, Tests, Fine}
use Rattle.typing_rules.specs.Answers.{fault}
use Rattle.typing_rules.specs.Patterns.{LiteralStands, is_empty}
use Rattle.typing_rules.specs.Spans.{literal_of}
use Rattle.type_definitions.specs.Meanings.{term}
use Rattle.type_definitions.specs.Tables.{Later}
use Rattle.met_types.specs.Closing.{terms_in}
use Rattle.met_types.specs.States.{State, IsNodeOf, IsReached}
use Rattle.met_types.proofs.Counted.{graph_term}
use Rattle.type_judgements.specs.declared.refusal.Refusal.{Refusal}
use Rattle.type_judgements.specs.declared.refusal.Refusal.TheVariants as refusal
use Rattle.type_judgements.specs.Judged.{Gave, Judged, Names}
use Rattle.proper_types.specs.Rules.{as_term, as_terms, done}
use Rattle.proper_types.proofs.Judging.{gave_as, names_as}
use Rattle.typed_patterns.specs.Faults.{by_fault}
use Rattle.typed_patterns.specs.Heads.{AreIn, FieldPart, OptionPart, TagPart, field_part, head_in, is_object, literal_on, option_part, or_no_fields, tag_part, tuple_parts, unit_on}
use Rattle.typed_patterns.proofs.Literals.{alike, is_some_seen}

-- ---- where the types are as they are

module _ {A : Type 0} (j : List Form → Judgement A) (s : State) where
  pub given_here : (a : List Form → A) → ((later : List Form) → Later s.forms later → Gives (a later) ≡ j later) → Gave j s s a
  given_here a e = gave_as (λ later. Gives (a later)) j s s e a (record { by = λ met st later l. (met, st, refl) })

  pub failed_here : (c : Condition) (at : ℕ) → ((later : List Form) → Later s.forms later → Fails c at ≡ j later) → Names j s s (fault c at)
  failed_here c at e = names_as (λ later. Fails c at) j s s e (fault c at) (record { by = λ met st later l. (met, refl) })

module _ {A M : Type 0} (j k : List Form → Judgement A) (s : State) (see : M → List Form → A) (e : (later : List Form) → Later s.forms later → j later ≡ k later) where
  pub judged_as : (r : Result M Refusal) → Judged j s s see r → Judged k s s see r
  judged_as (Ok m) h = gave_as j k s s e (see m) h
  judged_as (Err (refusal.False place c)) h = names_as j k s s e (fault c place) h
  judged_as (Err refusal.Memory) h = tt

pub none_is_empty : {A : Type 0} (xs : List A) → nat_eq (length xs) 0 ≡ is_empty xs
none_is_empty [] = refl
none_is_empty (x ∷ xs) = ne_eqb (length (x ∷ xs)) 0 (λ e. omega (arith, e))

-- ---- fields

found : {A B : Type 0} (f : A → B) (l : List ℕ) (fs : List (Field A)) → find l (map (on_field f) fs) ≡ map_option (on_field f) (find l fs)
found f l [] = refl
found {A} {B} f l (m ∷ fs) = pick (pointwise nat_eq m.label l) (find l (map (on_field f) fs)) (find l fs) (found f l fs) where
  pick : (b : Bool) (o : Option (Field B)) (p : Option (Field A)) → o ≡ map_option (on_field f) p → (if b then Some (on_field f m) else o) ≡ map_option (on_field f) (if b then Some m else p)
  pick true o p e = refl
  pick false o p e = e

-- ---- types of the graph and their terms

pub none_in : (s : State) → AreIn s [] []
none_in s = record { reached = tt; terms = λ later. refl }

map_more : {A B : Type 0} (f : A → B) (xs : List A) (x : A) → map f (xs ++ x ∷ []) ≡ map f xs ++ f x ∷ []
map_more f [] x = refl
map_more f (y ∷ xs) x = ap (λ l. f y ∷ l) (map_more f xs x)

each_more : {A : Type 0} (P : A → Type 0) (xs : List A) (x : A) → Each P xs → P x → Each P (xs ++ x ∷ [])
each_more P [] x h k = (k, tt)
each_more P (y ∷ xs) x h k = (h.0, each_more P xs x h.1 k)

pub next_in : (s : State) (ts us : List TypeId) (ids qs : List TermId) (t : TypeId) (id : TermId) → us ≡ ts ++ t ∷ [] → qs ≡ ids ++ id ∷ [] → AreIn s ts ids → slice_get s.reached t.index ≡ Some id → AreIn s us qs
next_in s ts us ids qs t id e q a g =
    subst (λ (vs : List TypeId). AreIn s vs qs) (sym e)
    (subst (λ (ps : List TermId). AreIn s (ts ++ t ∷ []) ps) (sym q) (record {
      reached = each_more (IsReached s) ids id a.reached (t.index, g);
      terms = λ later.
          map_more (term later) ids id
          ∙ (ap (λ (us : List Term). us ++ term later id ∷ []) (a.terms later)
          ∙ (ap (λ (u : Term). map (term_of (terms_in later s.reached)) ts ++ u ∷ []) (sym (graph_term later s.reached t id g)) ∙ sym (map_more (term_of (terms_in later s.reached)) ts t)));
    }))

-- ---- heads

module _ (s : State) (id : TermId) (n : Node TypeId) (h : IsNodeOf s id n) (at : ℕ) where
  abbrev here : List Form → TypeId → Term
  here later = term_of (terms_in later s.reached)

  pub no_option : None ≡ opt_of n → Names (option_part at id s.listed) s s (fault condition.PatternType at)
  no_option e = failed_here (option_part at id s.listed) s condition.PatternType at
      (λ later l. sym (ap (OptionPart at) (h.is later l) ∙ ap (λ (o : Option Term). Given condition.PatternType at o (λ u. Gives u)) ((alike (here later) n).opt ∙ ap (map_option (here later)) (sym e))))

  pub some_option : (part : TypeId) (made : TermId) → Some part ≡ opt_of n → slice_get s.reached part.index ≡ Some made → Gave (option_part at id s.listed) s s (as_term made)
  some_option part made e g = given_here (option_part at id s.listed) s (as_term made)
      (λ later l. sym (ap (OptionPart at) (h.is later l) ∙ (ap (λ (o : Option Term). Given condition.PatternType at o (λ u. Gives u)) ((alike (here later) n).opt ∙ ap (map_option (here later)) (sym e)) ∙ ap Gives (graph_term later s.reached part made g))))

  -- ---- tags

  module _ (x : List ℕ) where
    tags_are : (o : Option (List (Field TypeId))) → o ≡ variant_of n → (later : List Form) → Later s.forms later
        → tag_part at id x s.listed later ≡ Given condition.PatternType at (map_option (map (on_field (here later))) o) (λ tags. Given condition.PatternType at (find x tags) (λ f. Gives f.part))
    tags_are o e later l =
        ap (TagPart at x) (h.is later l)
        ∙ ap (λ (q : Option (List (Field Term))). Given condition.PatternType at q (λ tags. Given condition.PatternType at (find x tags) (λ f. Gives f.part))) ((alike (here later) n).variant ∙ ap (map_option (map (on_field (here later)))) (sym e))

    pub no_variant : None ≡ variant_of n → Names (tag_part at id x s.listed) s s (fault condition.PatternType at)
    no_variant e = failed_here (tag_part at id x s.listed) s condition.PatternType at (λ later l. sym (tags_are None e later l))

    module _ (tags : List (Field TypeId)) (e : Some tags ≡ variant_of n) where
      tag_is : (m : Option (Field TypeId)) → m ≡ find x tags → (later : List Form) → Later s.forms later
          → tag_part at id x s.listed later ≡ Given condition.PatternType at (map_option (on_field (here later)) m) (λ f. Gives f.part)
      tag_is m g later l =
          tags_are (Some tags) e later l
          ∙ ap (λ (q : Option (Field Term)). Given condition.PatternType at q (λ f. Gives f.part)) (found (here later) x tags ∙ ap (map_option (on_field (here later))) (sym g))

      pub no_tag : None ≡ find x tags → Names (tag_part at id x s.listed) s s (fault condition.PatternType at)
      no_tag g = failed_here (tag_part at id x s.listed) s condition.PatternType at (λ later l. sym (tag_is None g later l))

      pub some_tag : (m : Field TypeId) (made : TermId) → Some m ≡ find x tags → slice_get s.reached m.part.index ≡ Some made → Gave (tag_part at id x s.listed) s s (as_term made)
      some_tag m made g k = given_here (tag_part at id x s.listed) s (as_term made)
          (λ later l. sym (tag_is (Some m) g later l ∙ ap Gives (graph_term later s.reached m.part made k)))

  -- ---- tuples

  tuples_are : {A : Type 0} (k : List Term → Judgement A) (o : Option (List TypeId)) → o ≡ tuple_of n → (later : List Form) → Later s.forms later
      → Given condition.PatternType at (tuple_of (head_in id s.listed later)) k ≡ Given condition.PatternType at (map_option (map (here later)) o) k
  tuples_are {A} k o e later l =
      ap (λ (y : Node Term). Given condition.PatternType at (tuple_of y) k) (h.is later l)
      ∙ ap (λ (q : Option (List Term)). Given condition.PatternType at q k) ((alike (here later) n).tuple ∙ ap (map_option (map (here later))) (sym e))

  pub no_unit : None ≡ tuple_of n → Names (unit_on at id s.listed) s s (fault condition.PatternType at)
  no_unit e = failed_here (unit_on at id s.listed) s condition.PatternType at (λ later l. sym (tuples_are (λ ps. Tests condition.PatternType at (is_empty ps) Fine) None e later l))

  pub unit_is : (ts : List TypeId) (is : Bool) → Some ts ≡ tuple_of n → is ≡ is_empty ts → (later : List Form) → Later s.forms later → Tests condition.PatternType at is Fine ≡ unit_on at id s.listed later
  unit_is ts is e g later l =
      sym (tuples_are (λ ps. Tests condition.PatternType at (is_empty ps) Fine) (Some ts) e later l ∙ ap (λ (b : Bool). Tests condition.PatternType at b Fine) (none_seen ts ∙ sym g))
    where
      none_seen : (ts : List TypeId) → is_empty (map (here later) ts) ≡ is_empty ts
      none_seen [] = refl
      none_seen (t ∷ ts) = refl

  pub no_tuple : None ≡ tuple_of n → Names (tuple_parts at id s.listed) s s (fault condition.PatternType at)
  no_tuple e = failed_here (tuple_parts at id s.listed) s condition.PatternType at (λ later l. sym (tuples_are (λ us. Gives us) None e later l))

  pub some_tuple : (ts : List TypeId) (made : List TermId) → Some ts ≡ tuple_of n → AreIn s ts made → Gave (tuple_parts at id s.listed) s s (as_terms made)
  some_tuple ts made e g = given_here (tuple_parts at id s.listed) s (as_terms made)
      (λ later l. sym (tuples_are (λ us. Gives us) (Some ts) e later l ∙ ap Gives (sym (g.terms later))))

  pub unit_judged : (ts : List TypeId) (is : Bool) (r : Result (Unit {0}) Refusal) → Some ts ≡ tuple_of n → is ≡ nat_eq (length ts) 0 → Judged (λ later. Tests condition.PatternType at is Fine) s s done r → Judged (unit_on at id s.listed) s s done r
  unit_judged ts is r e g k = judged_as (λ later. Tests condition.PatternType at is Fine) (unit_on at id s.listed) s done (unit_is ts is e (g ∙ none_is_empty ts)) r k

  -- ---- objects

  pub object_is : (is : Bool) → is ≡ is_some (object_of n) → (later : List Form) → Later s.forms later → Tests condition.PatternType at is Fine ≡ is_object at id s.listed later
  object_is is e later l =
      ap (λ (b : Bool). Tests condition.PatternType at b Fine) (e ∙ sym (is_some_seen (map (on_field (here later))) (object_of n)))
      ∙ sym (ap (λ (y : Node Term). Tests condition.PatternType at (is_some (object_of y)) Fine) (h.is later l) ∙ ap (λ (o : Option (List (Field Term))). Tests condition.PatternType at (is_some o) Fine) (alike (here later) n).object)

  pub object_judged : (is : Bool) (r : Result (Unit {0}) Refusal) → is ≡ is_some (object_of n) → Judged (λ later. Tests condition.PatternType at is Fine) s s done r → Judged (is_object at id s.listed) s s done r
  object_judged is r e k = judged_as (λ later. Tests condition.PatternType at is Fine) (is_object at id s.listed) s done (object_is is e) r k

  -- ---- literals

  pub literal_is : (minus : Bool) (literal : syntax.Literal) (o : Option Condition) → ((f : TypeId → Term) (at : ℕ) → LiteralStands at minus (literal_of literal) (on_node f n) ≡ by_fault at o) → (later : List Form) → Later s.forms later
      → by_fault at o ≡ literal_on at minus literal id s.listed later
  literal_is minus literal o e later l = sym (ap (λ (y : Node Term). LiteralStands at minus (literal_of literal) y) (h.is later l) ∙ e (here later) at)

  pub literal_refused : (minus : Bool) (literal : syntax.Literal) (c : Condition) → ((f : TypeId → Term) (at : ℕ) → LiteralStands at minus (literal_of literal) (on_node f n) ≡ by_fault at (Some c)) → Names (literal_on at minus literal id s.listed) s s (fault c at)
  literal_refused minus literal c e = failed_here (literal_on at minus literal id s.listed) s c at (literal_is minus literal (Some c) e)

  pub literal_stands : (minus : Bool) (literal : syntax.Literal) → ((f : TypeId → Term) (at : ℕ) → LiteralStands at minus (literal_of literal) (on_node f n) ≡ by_fault at None) → Gave (literal_on at minus literal id s.listed) s s (λ later. tt)
  literal_stands minus literal e = given_here (literal_on at minus literal id s.listed) s (λ later. tt) (literal_is minus literal None e)

-- ---- fields of objects

module _ (s : State) (id : TermId) (n : Node TypeId) (h : IsNodeOf s id n) (x : Named) where
  abbrev there : List Form → TypeId → Term
  there later = term_of (terms_in later s.reached)

  abbrev from_field : Option (Field Term) → Judgement Term
  from_field o = Given condition.PatternType x.at o (λ f. Tests condition.PatternType x.at (not f.mutable) (Gives f.part))

  fields_are : (o : Option (List (Field TypeId))) → o ≡ object_of n → (later : List Form) → Later s.forms later → field_part id x s.listed later ≡ from_field (find x.bytes (or_no_fields (map_option (map (on_field (there later))) o)))
  fields_are o e later l =
      ap (FieldPart x) (h.is later l)
      ∙ ap (λ (q : Option (List (Field Term))). from_field (find x.bytes (or_no_fields q))) ((alike (there later) n).object ∙ ap (map_option (map (on_field (there later)))) (sym e))

  pub no_fields : None ≡ object_of n → Names (field_part id x s.listed) s s (fault condition.PatternType x.at)
  no_fields e = failed_here (field_part id x s.listed) s condition.PatternType x.at (λ later l. sym (fields_are None e later l))

  module _ (fs : List (Field TypeId)) (e : Some fs ≡ object_of n) where
    field_is : (m : Option (Field TypeId)) → m ≡ find x.bytes fs → (later : List Form) → Later s.forms later → field_part id x s.listed later ≡ from_field (map_option (on_field (there later)) m)
    field_is m g later l = fields_are (Some fs) e later l ∙ ap from_field (found (there later) x.bytes fs ∙ ap (map_option (on_field (there later))) (sym g))

    pub no_field : None ≡ find x.bytes fs → Names (field_part id x s.listed) s s (fault condition.PatternType x.at)
    no_field g = failed_here (field_part id x s.listed) s condition.PatternType x.at (λ later l. sym (field_is None g later l))

    module _ (m : Field TypeId) (g : Some m ≡ find x.bytes fs) where
      pub var_field : m.mutable ≡ true → Names (field_part id x s.listed) s s (fault condition.PatternType x.at)
      var_field k = failed_here (field_part id x s.listed) s condition.PatternType x.at
          (λ later l. sym (field_is (Some m) g later l ∙ ap (λ (b : Bool). Tests condition.PatternType x.at (not b) (Gives (there later m.part))) k))

      pub some_field : (made : TermId) → m.mutable ≡ false → slice_get s.reached m.part.index ≡ Some made → Gave (field_part id x s.listed) s s (as_term made)
      some_field made k i = given_here (field_part id x s.listed) s (as_term made)
          (λ later l. sym (field_is (Some m) g later l
          ∙ (ap (λ (b : Bool). Tests condition.PatternType x.at (not b) (Gives (there later m.part))) k ∙ ap Gives (graph_term later s.reached m.part made i))))
