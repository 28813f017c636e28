-- Patterns, form by form.
use Rattle.std.proofs.Common.{◌≡◌, ◌+◌, ℕ, suc, Bool, true, false, List, [], ◌∷◌, ◌++◌, Ok, Err, Option, Some, None, length, refl, sym, ap, ◌∙◌, subst, length-append, arith}
use Rattle.std.proofs.Math.Path.{fun_ext}
use Rattle.mo_syntax.specs.declared.literal.Literal as syntax
use Rattle.mo_types.specs.Heads.{opt_of, tuple_of, variant_of}
use Rattle.mo_types.specs.Sub.{find}
use Rattle.type_terms.specs.declared.form.Form.{Form}
use Rattle.type_terms.specs.declared.form.TermId.{TermId}
use Rattle.typing_rules.specs.declared.condition.Condition.{Condition}
use Rattle.typing_rules.specs.declared.condition.Condition.TheVariants as condition
use Rattle.typing_rules.specs.AbstractSyntax.{Named, Pattern, Patterns, PatternFields, TypeNode}
use Rattle.typing_rules.specs.AbstractSyntax as p
use Rattle.typing_rules.specs.Contexts.{Scope, constant}
use Rattle.typing_rules.specs.Heads.{head}
use Rattle.typing_rules.specs.Judgements.{Judgement, Gives, Asks, Given, IsBelow, Needs, Part, Tests, Fine}
use Rattle.typing_rules.specs.Answers.{fault}
use Rattle.typing_rules.specs.Patterns.{Stands, is_empty}
use Rattle.typing_rules.specs.Spans.{literal_of}
use Rattle.typing_rules.specs.Terms.{Term}
use Rattle.typing_rules.specs.TypedTrees.{Note, note}
use Rattle.typing_rules.specs.TypeScopes.{TypeScope}
use Rattle.type_definitions.specs.Definitions.{Listed, rules_in}
use Rattle.type_definitions.specs.Meanings.{term}
use Rattle.met_types.specs.States.{State, IsReached}
use Rattle.definition_rules.proofs.Promoting.{same_itself}
use Rattle.shareable_types.specs.declared.sharing.Sharing.{Sharing}
use Rattle.type_judgements.specs.declared.refusal.Refusal.{Refusal}
use Rattle.type_judgements.specs.declared.refusal.Refusal.TheVariants as refusal
use Rattle.type_judgements.specs.Judged.{Judged}
use Rattle.value_scopes.specs.declared.bound.Bound.{Bound}
use Rattle.value_scopes.specs.Values.{scope_in}
use Rattle.proper_types.specs.Passing.{Ready, Passed, Refused, Judges}
use Rattle.proper_types.specs.Rules.{Rule, as_term, done, reads}
use Rattle.proper_types.proofs.Judging.{failed, first_judges, given, left_itself, judges_as, then_judges}
use Rattle.proper_types.proofs.Turns.{part_assoc}
use Rattle.typed_patterns.specs.Binding.{Binds, Names, Pushes, bind, silent, stands}
use Rattle.typed_patterns.specs.Heads.{UnitOn, head_in, literal_on, option_part, tag_part, unit_on}
use Rattle.typed_patterns.proofs.Joining.{binds_none, first_pushes, made_of, not_made, pushes_as, still, still_refused, then_pushes, unpushed}

-- ---- judgements by their parts

pub given_part : {A B C : Type 0} (c : Condition) (at : ℕ) (o : Option B) (k : B → Judgement C) (m : C → Judgement A) → Part (Given c at o k) m ≡ Given c at o (λ b. Part (k b) m)
given_part c at None k m = refl
given_part c at (Some b) k m = refl

pub tests_part : {A C : Type 0} (c : Condition) (at : ℕ) (b : Bool) (j : Judgement C) (m : C → Judgement A) → Part (Tests c at b j) m ≡ Tests c at b (Part j m)
tests_part c at true j m = refl
tests_part c at false j m = refl

pub behind_alike : {A B : Type 0} (j : Judgement A) (k m : A → Judgement B) → ((a : A) → k a ≡ m a) → Part j k ≡ Part j m
behind_alike {A} {B} j k m e = ap (λ (f : A → Judgement B). Part j f) (fun_ext e)

pub given_alike : {A B : Type 0} (c : Condition) (at : ℕ) (o : Option A) (k m : A → Judgement B) → ((a : A) → k a ≡ m a) → Given c at o k ≡ Given c at o m
given_alike {A} {B} c at o k m e = ap (λ (f : A → Judgement B). Given c at o f) (fun_ext e)

-- ---- a pattern around another, on a type that comes of its own

module _ (s : TypeScope) (q : Pattern ℕ) (j : Rule Term) (w : List Form → Term → Pattern Note → Pattern Note) where
  abbrev pub inner : Listed → List Form → Term → Judgement (Scope × Pattern Note)
  inner l later v = Part (Stands (rules_in later l) s q v) (λ b. Gives (b.0, w later v b.1))

  abbrev pub Around : Rule (Scope × Pattern Note)
  Around l later = Part (j l later) (inner l later)

  module _ (k : Rule (Scope × Pattern Note)) (same : (l : Listed) (later : List Form) → Around l later ≡ k l later) (old : State) where
    pub around_refused : {M N : Type 0} (new : State) (a c : Sharing) (before after : Names) (see : M → List Form → Term) (show : N → List Form → Pattern Note) (e : Refusal) → Judges j old new a see (Err e) → Pushes k old new c before after show (Err e)
    around_refused new a c before after see show e h = pushes_as Around k old new c before after show same (Err e) (first_pushes j inner old new a c before after see show e h)

    module _ (mid new : State) (a c : Sharing) (before after : Names) (of : TermId) (h : Passed (j old.listed) old mid a (as_term of)) where
      pub inner_refused : {M N : Type 0} (see : M → List Form → Pattern Note) (show : N → List Form → Pattern Note) (e : Refusal) → Pushes (stands s q of) mid new c before after see (Err e) → Pushes k old new c before after show (Err e)
      inner_refused see show e g = pushes_as Around k old new c before after show same (Err e)
          (then_pushes j inner old mid new a c before after (as_term of) show (Err e) h (not_made (stands s q of) (λ later x. w later (term later of) x) mid new c before after see show e g))

      pub around_made : (x y : List Form → Pattern Note) → ((later : List Form) → w later (term later of) (x later) ≡ y later) → Binds (stands s q of) mid new c before after x → Binds k old new c before after y
      around_made x y i g = pushes_as Around k old new c before after (λ (u : Unit {0}). y) same (Ok tt)
          (then_pushes j inner old mid new a c before after (as_term of) (λ (u : Unit {0}). y) (Ok tt) h (made_of (stands s q of) (λ later z. w later (term later of) z) mid new c before after x y i g))

module _ (s : TypeScope) (q : Pattern ℕ) (at : ℕ) (id : TermId) where
  -- ---- `? p`
  abbrev pub with_option : List Form → Term → Pattern Note → Pattern Note
  with_option later v x = p.pattern (note at (term later id)) (p.Optional x)

  pub option_is : (l : Listed) (later : List Form) → Around s q (option_part at id) with_option l later ≡ stands s (p.pattern at (p.Optional q)) id l later
  option_is l later = given_part condition.PatternType at (opt_of (head_in id l later)) (λ u. Gives u) (inner s q (option_part at id) with_option l later)

  -- ---- `#a p`
  abbrev pub with_tag : List ℕ → List Form → Term → Pattern Note → Pattern Note
  with_tag x later v y = p.pattern (note at (term later id)) (p.Tagged x y)

  pub tagged_is : (x : List ℕ) (l : Listed) (later : List Form) → Around s q (tag_part at id x) (with_tag x) l later ≡ stands s (p.pattern at (p.Tagged x q)) id l later
  tagged_is x l later =
      given_part condition.PatternType at (variant_of (head_in id l later)) (λ tags. Given condition.PatternType at (find x tags) (λ f. Gives f.part)) (inner s q (tag_part at id x) (with_tag x) l later)
      ∙ given_alike condition.PatternType at (variant_of (head_in id l later)) (λ tags. Part (Given condition.PatternType at (find x tags) (λ f. Gives f.part)) (inner s q (tag_part at id x) (with_tag x) l later))
      (λ tags. Given condition.PatternType at (find x tags) (λ f. inner s q (tag_part at id x) (with_tag x) l later f.part))
      (λ tags. given_part condition.PatternType at (find x tags) (λ f. Gives f.part) (inner s q (tag_part at id x) (with_tag x) l later))

  -- ---- `p : A`
  module _ (a : TypeNode) where
    abbrev pub below : Listed → List Form → Term → Judgement Term
    below l later v = Part (Needs condition.PatternType at (IsBelow (term later id) v) Fine) (λ u. Gives v)

    abbrev pub annotation : Rule Term
    annotation l later = Part (reads s a l later) (below l later)

    abbrev pub with_annotation : List Form → Term → Pattern Note → Pattern Note
    with_annotation later v x = p.pattern (note at v) (p.Annotated x a)

    needs_part : {A : Type 0} (t v : Term) (m : Judgement A) → Part (Needs condition.PatternType at (IsBelow t v) Fine) (λ u. m) ≡ Needs condition.PatternType at (IsBelow t v) m
    needs_part {A} t v m = ap (Asks (IsBelow t v)) (fun_ext (λ yes. tests_part condition.PatternType at yes Fine (λ u. m)))

    pub annotated_is : (l : Listed) (later : List Form) → Around s q annotation with_annotation l later ≡ stands s (p.pattern at (p.Annotated q a)) id l later
    annotated_is l later =
        part_assoc (reads s a l later) (below l later) (inner s q annotation with_annotation l later)
        ∙ behind_alike (reads s a l later) (λ v. Part (below l later v) (inner s q annotation with_annotation l later)) (λ v. Needs condition.PatternType at (IsBelow (term later id) v) (inner s q annotation with_annotation l later v))
        (λ v.
        part_assoc (Needs condition.PatternType at (IsBelow (term later id) v) Fine) (λ u. Gives v) (inner s q annotation with_annotation l later)
        ∙ needs_part (term later id) v (inner s q annotation with_annotation l later v))

    pub annotation_improper : (old new : State) (b c : Sharing) (e : Refusal) → Judges (reads s a) old new b as_term (Err e) → Judges annotation old new c as_term (Err e)
    annotation_improper old new b c e h = first_judges (reads s a) below old new b c as_term as_term e h

    module _ (of : TermId) (old new : State) (b : Sharing) (h : Passed (reads s a old.listed) old new b (as_term of)) where
      pub annotation_above : (e : Refusal) → Judged (λ later. Needs condition.PatternType at (IsBelow (term later id) (term later of)) Fine) new new done (Err e) → Judges annotation old new b as_term (Err e)
      annotation_above e g = then_judges (reads s a) below old new new b b (as_term of) as_term (Err e) h
          (first_judges (λ l later. Needs condition.PatternType at (IsBelow (term later id) (term later of)) Fine) (λ l later u. Gives (term later of)) new new b b done as_term e
          (still_refused (λ l later. Needs condition.PatternType at (IsBelow (term later id) (term later of)) Fine) new b done e g))

      pub annotation_passed : Judged (λ later. Needs condition.PatternType at (IsBelow (term later id) (term later of)) Fine) new new done (Ok tt) → Passed (annotation old.listed) old new b (as_term of)
      annotation_passed g = then_judges (reads s a) below old new new b b (as_term of) as_term (Ok of) h
          (then_judges (λ l later. Needs condition.PatternType at (IsBelow (term later id) (term later of)) Fine) (λ l later u. Gives (term later of)) new new new b b (done tt) as_term (Ok of)
          (still (λ later. Needs condition.PatternType at (IsBelow (term later id) (term later of)) Fine) new b (done tt) h.ready g)
          (given (λ later. Gives (term later of)) new new b (as_term of) (same_itself new h.ready.kept) h.ready (λ later l. refl)))

-- ---- a pattern that binds nothing

none_more : (before after more : Names) → after ≡ more ++ before → length after ≡ length before → more ≡ []
none_more before after [] e h = refl
none_more before after (q ∷ more) e h = let k : length after ≡ suc (length (more ++ before)) = ap length e in let j : length (more ++ before) ≡ length more + length before = length-append more before in absurd (omega arith)

some_more : (before after more : Names) → after ≡ more ++ before → (length after ≡ length before → ⊥) → (later : List Form) → is_empty (scope_in later more) ≡ false
some_more before after [] e h later = absurd (h (ap length e))
some_more before after (q ∷ more) e h later = refl

module _ (s : TypeScope) (at : ℕ) (q : Pattern ℕ) (id : TermId) where
  abbrev emptied : Listed → List Form → Scope × Pattern Note → Judgement (Pattern Note)
  emptied l later b = Tests condition.PatternType at (is_empty b.0) (Gives b.1)

  pub silent_refused : {M N : Type 0} (old new : State) (a c : Sharing) (before after : Names) (see : M → List Form → Pattern Note) (show : N → List Form → Pattern Note) (e : Refusal) → Pushes (stands s q id) old new c before after see (Err e)
      → Judges (silent s at q id) old new a show (Err e)
  silent_refused {M} old new a c before after see show e h = first_judges (stands s q id) emptied old new c a (λ (m : M) later. bind [] (see m) later) show e (unpushed (stands s q id) old new c c before after (λ (m : M) later. bind [] (see m) later) see e h)

  module _ (old new : State) (c : Sharing) (before after : Names) (x : List Form → Pattern Note) (h : Binds (stands s q id) old new c before after x) where
    pub silent_passed : length after ≡ length before → Passed (silent s at q id old.listed) old new c x
    silent_passed e = then_judges (stands s q id) emptied old new new c c (bind h.more x) (λ (u : Unit {0}). x) (Ok tt) h.passed
        (given (λ later. Tests condition.PatternType at (is_empty (scope_in later h.more)) (Gives (x later))) new new c x (same_itself new h.passed.ready.kept) h.passed.ready
        (λ later l. ap (λ (m : Names). Tests condition.PatternType at (is_empty (scope_in later m)) (Gives (x later))) (sym (none_more before after h.more h.names e))))

    pub nothing_bound : length after ≡ length before → after ≡ before
    nothing_bound e = h.names ∙ ap (λ (m : Names). m ++ before) (none_more before after h.more h.names e)

    pub not_silent : (length after ≡ length before → ⊥) → Refused (silent s at q id old.listed) old new (fault condition.PatternType at)
    not_silent e = then_judges (stands s q id) emptied old new new c c (bind h.more x) (λ (u : Unit {0}). x) (Err (refusal.False at condition.PatternType)) h.passed
        (failed (λ later. Tests condition.PatternType at (is_empty (scope_in later h.more)) (Gives (x later))) new new condition.PatternType at (left_itself new)
        (λ later l. ap (λ (b : Bool). Tests condition.PatternType at b (Gives (x later))) (sym (some_more before after h.more h.names e later))))

  silent_part : {A : Type 0} (l : Listed) (later : List Form) (m : Pattern Note → Judgement A) → Part (silent s at q id l later) m ≡ Part (stands s q id l later) (λ b. Tests condition.PatternType at (is_empty b.0) (m b.1))
  silent_part l later m =
      part_assoc (stands s q id l later) (emptied l later) m
      ∙ behind_alike (stands s q id l later) (λ b. Part (emptied l later b) m) (λ b. Tests condition.PatternType at (is_empty b.0) (m b.1)) (λ b. tests_part condition.PatternType at (is_empty b.0) (Gives b.1) m)

-- ---- `p or q`

module _ (s : TypeScope) (at : ℕ) (q r : Pattern ℕ) (id : TermId) where
  abbrev of_both : Listed → List Form → Pattern Note → Pattern Note → Judgement (Scope × Pattern Note)
  of_both l later x y = Gives ([], p.pattern (note at (term later id)) (p.Alternative x y))

  abbrev second_of : Listed → List Form → Pattern Note → Judgement (Scope × Pattern Note)
  second_of l later x = Part (silent s at r id l later) (of_both l later x)

  alternative_is : (l : Listed) (later : List Form) → Part (silent s at q id l later) (second_of l later) ≡ stands s (p.pattern at (p.Alternative q r)) id l later
  alternative_is l later =
      silent_part s at q id l later (second_of l later)
      ∙ behind_alike (stands s q id l later) (λ b. Tests condition.PatternType at (is_empty b.0) (second_of l later b.1))
      (λ b. Tests condition.PatternType at (is_empty b.0) (Part (stands s r id l later) (λ c. Tests condition.PatternType at (is_empty c.0) (of_both l later b.1 c.1))))
      (λ b. ap (Tests condition.PatternType at (is_empty b.0)) (silent_part s at r id l later (of_both l later b.1)))

  abbrev alternative : Rule (Scope × Pattern Note)
  alternative = stands s (p.pattern at (p.Alternative q r)) id

  pub first_refused : {M N : Type 0} (old new : State) (a c : Sharing) (before after : Names) (see : M → List Form → Pattern Note) (show : N → List Form → Pattern Note) (e : Refusal) → Judges (silent s at q id) old new a see (Err e)
      → Pushes alternative old new c before after show (Err e)
  first_refused old new a c before after see show e h = pushes_as (λ l later. Part (silent s at q id l later) (second_of l later)) alternative old new c before after show alternative_is (Err e)
      (first_pushes (silent s at q id) second_of old new a c before after see show e h)

  module _ (old mid new : State) (a c : Sharing) (before after : Names) (x : List Form → Pattern Note) (h : Passed (silent s at q id old.listed) old mid a x) where
    pub other_refused : {M N : Type 0} (see : M → List Form → Pattern Note) (show : N → List Form → Pattern Note) (e : Refusal) → Judges (silent s at r id) mid new c see (Err e) → Pushes alternative old new c before after show (Err e)
    other_refused see show e g = pushes_as (λ l later. Part (silent s at q id l later) (second_of l later)) alternative old new c before after show alternative_is (Err e)
        (then_pushes (silent s at q id) second_of old mid new a c before after x show (Err e) h
        (first_pushes (silent s at r id) (λ l later y. of_both l later (x later) y) mid new c c before after see show e g))

    pub alternatives : (y z : List Form → Pattern Note) → ((later : List Form) → p.pattern (note at (term later id)) (p.Alternative (x later) (y later)) ≡ z later) → after ≡ before → Passed (silent s at r id mid.listed) mid new c y
        → Binds alternative old new c before after z
    alternatives y z i n g = subst (λ (m : Names). Binds alternative old new c before m z) (sym n)
        (binds_none alternative old new c before z
        (judges_as (λ l later. Part (silent s at q id l later) (second_of l later)) alternative old new c (λ (u : Unit {0}). bind [] z) (Ok tt) alternative_is
        (then_judges (silent s at q id) second_of old mid new a c x (λ (u : Unit {0}). bind [] z) (Ok tt) h
        (then_judges (silent s at r id) (λ l later v. of_both l later (x later) v) mid new new c c y (λ (u : Unit {0}). bind [] z) (Ok tt) g
        (given (λ later. of_both new.listed later (x later) (y later)) new new c (bind [] z) (same_itself new g.ready.kept) g.ready
        (λ later l. ap (λ (v : Pattern Note). Gives ([], v)) (sym (i later))))))))

-- ---- patterns without patterns inside

module _ (s : TypeScope) (at : ℕ) (id : TermId) (st : State) (c : Sharing) (names : Names) (ready : Ready st c) where
  abbrev plain_note : List Form → Note
  plain_note later = note at (term later id)

  pub wildcard_stands : (x : List Form → Pattern Note) → ((later : List Form) → p.pattern (plain_note later) p.Wildcard ≡ x later) → Binds (stands s (p.pattern at p.Wildcard) id) st st c names names x
  wildcard_stands x i = binds_none (stands s (p.pattern at p.Wildcard) id) st st c names x
      (given (stands s (p.pattern at p.Wildcard) id st.listed) st st c (bind [] x) (same_itself st ready.kept) ready (λ later l. ap (λ (v : Pattern Note). Gives ([], v)) (sym (i later))))

  pub variable_stands : (y : List ℕ) (b : Bound) (more : Names) (x : List Form → Pattern Note) → b ≡ record { kind = id; mutable = false; generics = [] } → more ≡ (y, b) ∷ names → IsReached st id
      → ((later : List Form) → p.pattern (plain_note later) (p.Variable y) ≡ x later) → Binds (stands s (p.pattern at (p.Variable y)) id) st st c names more x
  variable_stands y b more x e m r i = record {
    more = (y, record { kind = id; mutable = false; generics = [] }) ∷ [];
    names = m ∙ ap (λ (d : Bound). (y, d) ∷ names) e;
    reached = (r, tt);
    passed = given (stands s (p.pattern at (p.Variable y)) id st.listed) st st c (bind ((y, record { kind = id; mutable = false; generics = [] }) ∷ []) x) (same_itself st ready.kept) ready
        (λ later l. ap (λ (v : Pattern Note). Gives ((y, constant (term later id)) ∷ [], v)) (sym (i later)));
  }

  module _ (minus : Bool) (l : syntax.Literal) where
    abbrev of_literal : Listed → List Form → Unit {0} → Judgement (Scope × Pattern Note)
    of_literal d later u = Gives ([], p.pattern (plain_note later) (p.Constant minus (literal_of l)))

    pub constant_refused : {N : Type 0} (show : N → List Form → Pattern Note) (e : Refusal) → Judged (literal_on at minus l id st.listed) st st done (Err e) → Pushes (stands s (p.pattern at (p.Constant minus (literal_of l))) id) st st c names names show (Err e)
    constant_refused show e h = first_pushes (literal_on at minus l id) of_literal st st c c names names done show e (still_refused (literal_on at minus l id) st c done e h)

    pub constant_stands : (x : List Form → Pattern Note) → ((later : List Form) → p.pattern (plain_note later) (p.Constant minus (literal_of l)) ≡ x later) → Judged (literal_on at minus l id st.listed) st st done (Ok tt)
        → Binds (stands s (p.pattern at (p.Constant minus (literal_of l))) id) st st c names names x
    constant_stands x i h = binds_none (stands s (p.pattern at (p.Constant minus (literal_of l))) id) st st c names x
        (then_judges (literal_on at minus l id) of_literal st st st c c (done tt) (λ (u : Unit {0}). bind [] x) (Ok tt) (still (literal_on at minus l id st.listed) st c (done tt) ready h)
        (given (λ later. of_literal st.listed later tt) st st c (bind [] x) (same_itself st ready.kept) ready (λ later l. ap (λ (v : Pattern Note). Gives ([], v)) (sym (i later)))))

  module _ (y : List ℕ) where
    abbrev of_tag : Listed → List Form → Unit {0} → Judgement (Scope × Pattern Note)
    of_tag d later u = Gives ([], p.pattern (plain_note later) (p.Tag y))

    abbrev unit_of : Listed → List Form → Term → Judgement (Scope × Pattern Note)
    unit_of d later v = Part (UnitOn at (head (rules_in later d) v)) (of_tag d later)

    tag_is : (d : Listed) (later : List Form) → Part (tag_part at id y d later) (unit_of d later) ≡ stands s (p.pattern at (p.Tag y)) id d later
    tag_is d later =
        given_part condition.PatternType at (variant_of (head_in id d later)) (λ tags. Given condition.PatternType at (find y tags) (λ f. Gives f.part)) (unit_of d later)
        ∙ given_alike condition.PatternType at (variant_of (head_in id d later)) (λ tags. Part (Given condition.PatternType at (find y tags) (λ f. Gives f.part)) (unit_of d later))
        (λ tags. Given condition.PatternType at (find y tags) (λ f. Given condition.PatternType at (tuple_of (head (rules_in later d) f.part)) (λ parts. Tests condition.PatternType at (is_empty parts) (of_tag d later tt))))
        (λ tags.
        given_part condition.PatternType at (find y tags) (λ f. Gives f.part) (unit_of d later)
        ∙ given_alike condition.PatternType at (find y tags) (λ f. unit_of d later f.part) (λ f. Given condition.PatternType at (tuple_of (head (rules_in later d) f.part)) (λ parts. Tests condition.PatternType at (is_empty parts) (of_tag d later tt)))
        (λ f.
        given_part condition.PatternType at (tuple_of (head (rules_in later d) f.part)) (λ parts. Tests condition.PatternType at (is_empty parts) Fine) (of_tag d later)
        ∙ given_alike condition.PatternType at (tuple_of (head (rules_in later d) f.part)) (λ parts. Part (Tests condition.PatternType at (is_empty parts) Fine) (of_tag d later)) (λ parts. Tests condition.PatternType at (is_empty parts) (of_tag d later tt))
        (λ parts. tests_part condition.PatternType at (is_empty parts) Fine (of_tag d later))))

    abbrev tag_rule : Rule (Scope × Pattern Note)
    tag_rule = stands s (p.pattern at (p.Tag y)) id

    pub no_tag_stands : {N : Type 0} (show : N → List Form → Pattern Note) (e : Refusal) → Judged (tag_part at id y st.listed) st st as_term (Err e) → Pushes tag_rule st st c names names show (Err e)
    no_tag_stands show e h = pushes_as (λ d later. Part (tag_part at id y d later) (unit_of d later)) tag_rule st st c names names show tag_is (Err e)
        (first_pushes (tag_part at id y) unit_of st st c c names names as_term show e (still_refused (tag_part at id y) st c as_term e h))

    module _ (of : TermId) (h : Judged (tag_part at id y st.listed) st st as_term (Ok of)) where
      pub no_unit_stands : {N : Type 0} (show : N → List Form → Pattern Note) (e : Refusal) → Judged (unit_on at of st.listed) st st done (Err e) → Pushes tag_rule st st c names names show (Err e)
      no_unit_stands show e g = pushes_as (λ d later. Part (tag_part at id y d later) (unit_of d later)) tag_rule st st c names names show tag_is (Err e)
          (then_pushes (tag_part at id y) unit_of st st st c c names names (as_term of) show (Err e) (still (tag_part at id y st.listed) st c (as_term of) ready h)
          (first_pushes (unit_on at of) of_tag st st c c names names done show e (still_refused (unit_on at of) st c done e g)))

      pub tag_stands : (x : List Form → Pattern Note) → ((later : List Form) → p.pattern (plain_note later) (p.Tag y) ≡ x later) → Judged (unit_on at of st.listed) st st done (Ok tt) → Binds tag_rule st st c names names x
      tag_stands x i g = binds_none tag_rule st st c names x
          (judges_as (λ d later. Part (tag_part at id y d later) (unit_of d later)) tag_rule st st c (λ (u : Unit {0}). bind [] x) (Ok tt) tag_is
          (then_judges (tag_part at id y) unit_of st st st c c (as_term of) (λ (u : Unit {0}). bind [] x) (Ok tt) (still (tag_part at id y st.listed) st c (as_term of) ready h)
          (then_judges (unit_on at of) of_tag st st st c c (done tt) (λ (u : Unit {0}). bind [] x) (Ok tt) (still (unit_on at of st.listed) st c (done tt) ready g)
          (given (λ later. of_tag st.listed later tt) st st c (bind [] x) (same_itself st ready.kept) ready (λ later l. ap (λ (v : Pattern Note). Gives ([], v)) (sym (i later)))))))
