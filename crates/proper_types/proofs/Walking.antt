-- Written types, form by form.
use Rattle.std.proofs.Common.{◌≡◌, ℕ, suc, Bool, true, false, List, [], ◌∷◌, Err, Some, None, refl, sym, ap, ◌∙◌, subst, map, length, nat_eq}
use Rattle.std.specs.Prelude.{Result}
use Rattle.mo_syntax.specs.declared.types.Sharing as called
use Rattle.mo_syntax.specs.declared.types.Sharing.TheVariants as sharing
use Rattle.type_terms.specs.declared.form.Form.{Form}
use Rattle.typing_rules.specs.declared.condition.Condition.{Condition}
use Rattle.typing_rules.specs.declared.condition.Condition.TheVariants as condition
use Rattle.typing_rules.specs.AbstractSyntax.{Named, TypeNode, TypeNodes, TypeFields}
use Rattle.typing_rules.specs.AbstractSyntax as p
use Rattle.typing_rules.specs.AbstractTypes.{type_nodes, type_fields}
use Rattle.typing_rules.specs.Terms.{listed}
use Rattle.typing_rules.specs.Heads.{head}
use Rattle.typing_rules.specs.Definitions.{Definitions}
use Rattle.typing_rules.specs.Judgements.{Judgement, Fails, Part, Tests, Fine}
use Rattle.typing_rules.specs.Answers.{fault}
use Rattle.typing_rules.specs.TypeScopes.{TypeScope, terms, type_named}
use Rattle.typing_rules.specs.TypeScopes as rules
use Rattle.typing_rules.specs.Types.{AllShareable, Proper, EachProper, FieldsProper, MethodsProper, arity, count_types, is_shared_function}
use Rattle.type_definitions.specs.Definitions.{Listed, rules_in}
use Rattle.met_types.specs.States.{State}
use Rattle.shareable_types.specs.declared.sharing.Sharing.{Sharing}
use Rattle.abstract_types.specs.declared.types.TypeNode as value
use Rattle.abstract_types.specs.declared.types.TypeForm as value_form
use Rattle.abstract_types.specs.declared.types.TypeForm.TheVariants as e
use Rattle.abstract_types.specs.declared.types.TypeField.{TypeField, fold_out-TypeField}
use Rattle.abstract_types.specs.declared.types.TypeField.TheVariants as x
use Rattle.abstract_types.specs.declared.types.TypeField.TheOpen as F
use Rattle.abstract_types.specs.declared.names.PlacedName.{PlacedName}
use Rattle.abstract_types.specs.TypeView.{FieldView, named, type_node, type_form, type_field, field_step, form_step, node_step}
use Rattle.abstract_types.proofs.TypeViews.{seen_Function, seen_Optional, seen_Async, seen_Use, seen_Tuple, seen_Array, seen_Object, seen_Variant, seen_Actor, seen_Field, seen_EmptyTag}
use Rattle.written_types.specs.Written.{awaited}
use Rattle.written_types.proofs.Making.{node_is}
use Rattle.type_judgements.specs.declared.refusal.Refusal.{Refusal}
use Rattle.proper_types.specs.Passing.{Ready, Passed, Refused, Judges}
use Rattle.proper_types.specs.Rules.{Rule, InTurn, PartsProper, proper, each_proper, part, each_part, each_sent, method, done}
use Rattle.definition_rules.proofs.Promoting.{same_itself}
use Rattle.proper_types.proofs.Judging.{again, failed, first_judges, given, judges_as, left_itself, then_judges}
use Rattle.proper_types.proofs.Turns.{part_alike, part_assoc, part_fine}
use Rattle.proper_types.proofs.Sending.{sent_are}

-- ---- lists

abbrev pub one : TypeScope → Listed → List Form → value.TypeNode → Judgement (Unit {0})
one s l later n = Proper (rules_in later l) s (type_node n)

abbrev pub one_part : TypeScope → Bool → Listed → List Form → TypeField → Judgement (Unit {0})
one_part s o l later f = part s o f l later

pub each_is : (defs : Definitions) (s : TypeScope) (xs : List value.TypeNode) → InTurn (λ n. Proper defs s (type_node n)) xs ≡ EachProper defs s (type_nodes (map type_node xs))
each_is defs s [] = refl
each_is defs s (n ∷ xs) = part_alike (Proper defs s (type_node n)) (InTurn (λ n. Proper defs s (type_node n)) xs) (EachProper defs s (type_nodes (map type_node xs))) (each_is defs s xs)

tests_then : (c : Condition) (at : ℕ) (b : Bool) (k : Judgement (Unit {0})) → Part (Tests c at b Fine) (λ u. k) ≡ Tests c at b k
tests_then c at true k = refl
tests_then c at false k = refl

module _ (defs : Definitions) (s : TypeScope) where
  -- a field before others
  abbrev Splits : Bool → FieldView → Type 0
  Splits o v = (rest : TypeFields) → Part (PartsProper defs s o (v p.NoFields)) (λ u. PartsProper defs s o rest) ≡ PartsProper defs s o (v rest)

  splits_step : (o : Bool) (g : F.TypeField-F FieldView p.TypeForm TypeNode) → Splits o (field_step g)
  splits_step false (F.Field mutable name a) rest = part_assoc (Proper defs s a) (λ u. Fine) (λ u. FieldsProper defs s rest)
  splits_step false (F.EmptyTag name) rest = refl
  splits_step true (F.Field mutable name a) rest =
      part_assoc (Proper defs s a) (λ u. Tests condition.NotShared name.at (is_shared_function (head defs (rules.term s a))) Fine) (λ u. MethodsProper defs s rest)
      ∙ part_alike (Proper defs s a) (Part (Tests condition.NotShared name.at (is_shared_function (head defs (rules.term s a))) Fine) (λ u. MethodsProper defs s rest))
      (Tests condition.NotShared name.at (is_shared_function (head defs (rules.term s a))) (MethodsProper defs s rest))
      (tests_then condition.NotShared name.at (is_shared_function (head defs (rules.term s a))) (MethodsProper defs s rest))
  splits_step true (F.EmptyTag name) rest = refl

  splits_as : (o : Bool) (v : FieldView) (g : F.TypeField-F FieldView p.TypeForm TypeNode) → v ≡ field_step g → Splits o v
  splits_as o v g h = subst (λ (w : FieldView). Splits o w) (sym h) (splits_step o g)

  splits : (o : Bool) (f : TypeField) → Splits o (type_field f)
  unfolding type_node type_form type_field
  splits o f = splits_as o (type_field f) _ (fold_out-TypeField FieldView p.TypeForm TypeNode field_step form_step node_step f)

  pub parts_are : (o : Bool) (fs : List TypeField) → InTurn (λ f. PartsProper defs s o (type_field f p.NoFields)) fs ≡ PartsProper defs s o (type_fields (map type_field fs))
  parts_are true [] = refl
  parts_are false [] = refl
  parts_are o (f ∷ fs) =
      part_alike (PartsProper defs s o (type_field f p.NoFields)) (InTurn (λ f. PartsProper defs s o (type_field f p.NoFields)) fs) (PartsProper defs s o (type_fields (map type_field fs))) (parts_are o fs)
      ∙ splits o f (type_fields (map type_field fs))

-- ---- forms

module _ (s : TypeScope) (old new : State) (c : Sharing) (r : Result (Unit {0}) Refusal) (n : value.TypeNode) where
  -- what a part comes to, that of the form comes to
  arm : (f : value_form.TypeForm) (g : p.TypeForm) (j : Rule (Unit {0})) → n.form ≡ f → type_form f ≡ g → ((l : Listed) (later : List Form) → j l later ≡ proper s (p.node n.at g) l later) → Judges j old new c done r → Judges (proper s (type_node n)) old new c done r
  arm f g j h k e w =
      judges_as j (proper s (type_node n)) old new c done r
      (λ l later. e l later ∙ ap (λ (m : TypeNode). proper s m l later) (sym (node_is n f h ∙ ap (p.node n.at) k))) w

  pub optional_arm : (a : value.TypeNode) → n.form ≡ e.Optional a → Judges (proper s (type_node a)) old new c done r → Judges (proper s (type_node n)) old new c done r
  optional_arm a h w = arm (e.Optional a) (p.Optional (type_node a)) (proper s (type_node a)) h (seen_Optional a) (λ l later. refl) w

  pub array_arm : (m : Bool) (a : value.TypeNode) → n.form ≡ e.Array m a → Judges (proper s (type_node a)) old new c done r → Judges (proper s (type_node n)) old new c done r
  array_arm m a h w = arm (e.Array m a) (p.Array m (type_node a)) (proper s (type_node a)) h (seen_Array m a) (λ l later. refl) w

  pub tuple_arm : (xs ys : List value.TypeNode) → n.form ≡ e.Tuple xs → ys ≡ xs → Judges (each_proper s ys) old new c done r → Judges (proper s (type_node n)) old new c done r
  tuple_arm xs ys h z w = arm (e.Tuple xs) (p.Tuple (type_nodes (map type_node xs))) (each_proper s xs) h (seen_Tuple xs) (λ l later. each_is (rules_in later l) s xs)
      (subst (λ (zs : List value.TypeNode). Judges (each_proper s zs) old new c done r) z w)

  pub object_arm : (fs gs : List TypeField) → n.form ≡ e.Object fs → gs ≡ fs → Judges (each_part s false gs) old new c done r → Judges (proper s (type_node n)) old new c done r
  object_arm fs gs h z w = arm (e.Object fs) (p.Object (type_fields (map type_field fs))) (each_part s false fs) h (seen_Object fs) (λ l later. parts_are (rules_in later l) s false fs)
      (subst (λ (hs : List TypeField). Judges (each_part s false hs) old new c done r) z w)

  pub variant_arm : (fs gs : List TypeField) → n.form ≡ e.Variant fs → gs ≡ fs → Judges (each_part s false gs) old new c done r → Judges (proper s (type_node n)) old new c done r
  variant_arm fs gs h z w = arm (e.Variant fs) (p.Variant (type_fields (map type_field fs))) (each_part s false fs) h (seen_Variant fs) (λ l later. parts_are (rules_in later l) s false fs)
      (subst (λ (hs : List TypeField). Judges (each_part s false hs) old new c done r) z w)

  pub actor_arm : (fs gs : List TypeField) → n.form ≡ e.Actor fs → gs ≡ fs → Judges (each_part s true gs) old new c done r → Judges (proper s (type_node n)) old new c done r
  actor_arm fs gs h z w = arm (e.Actor fs) (p.Actor (type_fields (map type_field fs))) (each_part s true fs) h (seen_Actor fs) (λ l later. parts_are (rules_in later l) s true fs)
      (subst (λ (hs : List TypeField). Judges (each_part s true hs) old new c done r) z w)

  pub function_arm : (g : called.Sharing) (xs ys : List value.TypeNode) (a : value.TypeNode) → n.form ≡ e.Function g xs a → ys ≡ xs
      → Judges (proper s (p.node n.at (p.Function g (type_nodes (map type_node ys)) (type_node a)))) old new c done r → Judges (proper s (type_node n)) old new c done r
  function_arm g xs ys a h z w = arm (e.Function g xs a) (p.Function g (type_nodes (map type_node xs)) (type_node a)) (proper s (p.node n.at (p.Function g (type_nodes (map type_node xs)) (type_node a)))) h (seen_Function g xs a) (λ l later. refl)
      (subst (λ (zs : List value.TypeNode). Judges (proper s (p.node n.at (p.Function g (type_nodes (map type_node zs)) (type_node a)))) old new c done r) z w)

counted : (xs : List value.TypeNode) → count_types (type_nodes (map type_node xs)) ≡ length xs
counted [] = refl
counted (n ∷ xs) = ap suc (counted xs)

tested : (c : Condition) (at : ℕ) (b : Bool) (j : Judgement (Unit {0})) → b ≡ true → j ≡ Tests c at b j
tested c at b j h = ap (λ (y : Bool). Tests c at y j) (sym h)

not_tested : (c : Condition) (at : ℕ) (b : Bool) (j : Judgement (Unit {0})) → b ≡ false → Fails c at ≡ Tests c at b j
not_tested c at b j h = ap (λ (y : Bool). Tests c at y j) (sym h)

as_many : (s : TypeScope) (x y : List ℕ) (xs ys : List value.TypeNode) (k b : Bool) → ys ≡ xs → y ≡ x → nat_eq (length ys) (arity (type_named s y)) ≡ b → nat_eq (count_types (type_nodes (map type_node xs))) (arity (type_named s x)) ≡ b
as_many s x y xs ys k b z w h =
    ap (λ (n : ℕ). nat_eq n (arity (type_named s x))) (counted xs)
    ∙ (ap (λ (zs : List value.TypeNode). nat_eq (length zs) (arity (type_named s x))) (sym z) ∙ (ap (λ (v : List ℕ). nat_eq (length ys) (arity (type_named s v))) (sym w) ∙ h))

module _ (s : TypeScope) (old new : State) (c : Sharing) (n : value.TypeNode) where
  pub use_arm : (r : Result (Unit {0}) Refusal) (x y : List ℕ) (xs ys : List value.TypeNode) → n.form ≡ e.Use x xs → y ≡ x → ys ≡ xs → nat_eq (length ys) (arity (type_named s y)) ≡ true → Judges (each_proper s ys) old new c done r
      → Judges (proper s (type_node n)) old new c done r
  use_arm r x y xs ys h z w k j =
      arm s old new c r n (e.Use x xs) (p.Use x (type_nodes (map type_node xs))) (each_proper s xs) h (seen_Use x xs)
      (λ l later. each_is (rules_in later l) s xs ∙ tested condition.TypeArguments n.at _ (EachProper (rules_in later l) s (type_nodes (map type_node xs))) (as_many s x y xs ys true true w z k))
      (subst (λ (zs : List value.TypeNode). Judges (each_proper s zs) old new c done r) w j)

  fails_arm : (f : value_form.TypeForm) (g : p.TypeForm) (d : Condition) → n.form ≡ f → type_form f ≡ g → ((l : Listed) (later : List Form) → Fails d n.at ≡ proper s (p.node n.at g) l later) → Refused (proper s (type_node n) old.listed) old old (fault d n.at)
  fails_arm f g d h k i = failed (proper s (type_node n) old.listed) old old d n.at (left_itself old)
      (λ later l. i old.listed later ∙ ap (λ (m : TypeNode). proper s m old.listed later) (sym (node_is n f h ∙ ap (p.node n.at) k)))

  pub async_arm : (a : value.TypeNode) → n.form ≡ e.Async a → Refused (proper s (type_node n) old.listed) old old (fault condition.NotShared n.at)
  async_arm a h = fails_arm (e.Async a) (p.Async (type_node a)) condition.NotShared h (seen_Async a) (λ l later. refl)

  pub no_use_arm : (x y : List ℕ) (xs ys : List value.TypeNode) → n.form ≡ e.Use x xs → y ≡ x → ys ≡ xs → nat_eq (length ys) (arity (type_named s y)) ≡ false
      → Refused (proper s (type_node n) old.listed) old old (fault condition.TypeArguments n.at)
  no_use_arm x y xs ys h z w k = fails_arm (e.Use x xs) (p.Use x (type_nodes (map type_node xs))) condition.TypeArguments h (seen_Use x xs)
      (λ l later. not_tested condition.TypeArguments n.at _ (EachProper (rules_in later l) s (type_nodes (map type_node xs))) (as_many s x y xs ys true false w z k))

-- ---- functions

proper_shared : (defs : Definitions) (s : TypeScope) (g : called.Sharing) (at : ℕ) (us : TypeNodes) (n a : TypeNode) → (g ≡ sharing.Local → ⊥) → Some a ≡ awaited n
    → Part (EachProper defs s us) (λ u. Part (Proper defs s a) (λ v. AllShareable at (listed (terms s us)) (rules.term s a))) ≡ Proper defs s (p.node at (p.Function g us n))
proper_shared defs s sharing.Local at us n a k h = absurd (k refl)
proper_shared defs s sharing.Shared at us (p.node i (p.Async b)) a k h = let e : a ≡ b = cc in ap (λ (m : TypeNode). Part (EachProper defs s us) (λ u. Part (Proper defs s m) (λ v. AllShareable at (listed (terms s us)) (rules.term s m)))) e
proper_shared defs s sharing.Shared at us (p.node i (p.Function c vs m)) a k h = cc
proper_shared defs s sharing.Shared at us (p.node i (p.Optional b)) a k h = cc
proper_shared defs s sharing.Shared at us (p.node i (p.Use z vs)) a k h = cc
proper_shared defs s sharing.Shared at us (p.node i (p.Tuple vs)) a k h = cc
proper_shared defs s sharing.Shared at us (p.node i (p.Array mutable b)) a k h = cc
proper_shared defs s sharing.Shared at us (p.node i (p.Object fs)) a k h = cc
proper_shared defs s sharing.Shared at us (p.node i (p.Variant fs)) a k h = cc
proper_shared defs s sharing.Shared at us (p.node i (p.Actor fs)) a k h = cc
proper_shared defs s sharing.SharedQuery at us (p.node i (p.Async b)) a k h = let e : a ≡ b = cc in ap (λ (m : TypeNode). Part (EachProper defs s us) (λ u. Part (Proper defs s m) (λ v. AllShareable at (listed (terms s us)) (rules.term s m)))) e
proper_shared defs s sharing.SharedQuery at us (p.node i (p.Function c vs m)) a k h = cc
proper_shared defs s sharing.SharedQuery at us (p.node i (p.Optional b)) a k h = cc
proper_shared defs s sharing.SharedQuery at us (p.node i (p.Use z vs)) a k h = cc
proper_shared defs s sharing.SharedQuery at us (p.node i (p.Tuple vs)) a k h = cc
proper_shared defs s sharing.SharedQuery at us (p.node i (p.Array mutable b)) a k h = cc
proper_shared defs s sharing.SharedQuery at us (p.node i (p.Object fs)) a k h = cc
proper_shared defs s sharing.SharedQuery at us (p.node i (p.Variant fs)) a k h = cc
proper_shared defs s sharing.SharedQuery at us (p.node i (p.Actor fs)) a k h = cc

not_promised : (defs : Definitions) (s : TypeScope) (g : called.Sharing) (at : ℕ) (us : TypeNodes) (n : TypeNode) → (g ≡ sharing.Local → ⊥) → None ≡ awaited n → Fails condition.NotShared at ≡ Proper defs s (p.node at (p.Function g us n))
not_promised defs s sharing.Local at us n k h = absurd (k refl)
not_promised defs s sharing.Shared at us (p.node i (p.Async b)) k h = cc
not_promised defs s sharing.Shared at us (p.node i (p.Function c vs m)) k h = refl
not_promised defs s sharing.Shared at us (p.node i (p.Optional b)) k h = refl
not_promised defs s sharing.Shared at us (p.node i (p.Use z vs)) k h = refl
not_promised defs s sharing.Shared at us (p.node i (p.Tuple vs)) k h = refl
not_promised defs s sharing.Shared at us (p.node i (p.Array mutable b)) k h = refl
not_promised defs s sharing.Shared at us (p.node i (p.Object fs)) k h = refl
not_promised defs s sharing.Shared at us (p.node i (p.Variant fs)) k h = refl
not_promised defs s sharing.Shared at us (p.node i (p.Actor fs)) k h = refl
not_promised defs s sharing.SharedQuery at us (p.node i (p.Async b)) k h = cc
not_promised defs s sharing.SharedQuery at us (p.node i (p.Function c vs m)) k h = refl
not_promised defs s sharing.SharedQuery at us (p.node i (p.Optional b)) k h = refl
not_promised defs s sharing.SharedQuery at us (p.node i (p.Use z vs)) k h = refl
not_promised defs s sharing.SharedQuery at us (p.node i (p.Tuple vs)) k h = refl
not_promised defs s sharing.SharedQuery at us (p.node i (p.Array mutable b)) k h = refl
not_promised defs s sharing.SharedQuery at us (p.node i (p.Object fs)) k h = refl
not_promised defs s sharing.SharedQuery at us (p.node i (p.Variant fs)) k h = refl
not_promised defs s sharing.SharedQuery at us (p.node i (p.Actor fs)) k h = refl

module _ (s : TypeScope) (at : ℕ) (g : called.Sharing) (xs : List value.TypeNode) (n : value.TypeNode) where
  abbrev pub function_node : TypeNode
  function_node = p.node at (p.Function g (type_nodes (map type_node xs)) (type_node n))

  local : (r : Result (Unit {0}) Refusal) (old new : State) (c : Sharing) → g ≡ sharing.Local → Judges (λ l later. Part (each_proper s xs l later) (λ u. proper s (type_node n) l later)) old new c done r → Judges (proper s function_node) old new c done r
  local r old new c h w =
      judges_as (λ l later. Part (each_proper s xs l later) (λ u. proper s (type_node n) l later)) (proper s function_node) old new c done r
      (λ l later. ap (λ (j : Judgement (Unit {0})). Part j (λ u. proper s (type_node n) l later)) (each_is (rules_in later l) s xs)
      ∙ ap (λ (o : called.Sharing). Proper (rules_in later l) s (p.node at (p.Function o (type_nodes (map type_node xs)) (type_node n)))) (sym h)) w

  pub local_parameters : (old new : State) (a c : Sharing) (e : Refusal) → g ≡ sharing.Local → Judges (each_proper s xs) old new a done (Err e) → Judges (proper s function_node) old new c done (Err e)
  local_parameters old new a c e h w = local (Err e) old new c h (first_judges (each_proper s xs) (λ l later u. proper s (type_node n) l later) old new a c done done e w)

  pub local_result : (r : Result (Unit {0}) Refusal) (old mid new : State) (a c : Sharing) → g ≡ sharing.Local → Passed (each_proper s xs old.listed) old mid a (done tt) → Judges (proper s (type_node n)) mid new c done r → Judges (proper s function_node) old new c done r
  local_result r old mid new a c h w v = local r old new c h (then_judges (each_proper s xs) (λ l later u. proper s (type_node n) l later) old mid new a c (done tt) done r w v)

  module _ (b : value.TypeNode) (k : g ≡ sharing.Local → ⊥) (h : Some (type_node b) ≡ awaited (type_node n)) where
    abbrev behind : Listed → List Form → Unit {0} → Judgement (Unit {0})
    behind l later u = Part (proper s (type_node b) l later) (λ v. each_sent s at b xs l later)

    shared : (r : Result (Unit {0}) Refusal) (old new : State) (c : Sharing) → Judges (λ l later. Part (each_proper s xs l later) (behind l later)) old new c done r → Judges (proper s function_node) old new c done r
    shared r old new c w =
        judges_as (λ l later. Part (each_proper s xs l later) (behind l later)) (proper s function_node) old new c done r
        (λ l later.
        ap (λ (j : Judgement (Unit {0})). Part j (behind l later)) (each_is (rules_in later l) s xs)
        ∙ (part_alike (EachProper (rules_in later l) s (type_nodes (map type_node xs))) (behind l later tt) (Part (proper s (type_node b) l later) (λ v. AllShareable at (listed (terms s (type_nodes (map type_node xs)))) (rules.term s (type_node b))))
        (part_alike (proper s (type_node b) l later) (each_sent s at b xs l later) (AllShareable at (listed (terms s (type_nodes (map type_node xs)))) (rules.term s (type_node b))) (sent_are s at b xs))
        ∙ proper_shared (rules_in later l) s g at (type_nodes (map type_node xs)) (type_node n) (type_node b) k h)) w

    pub shared_parameters : (old new : State) (a c : Sharing) (e : Refusal) → Judges (each_proper s xs) old new a done (Err e) → Judges (proper s function_node) old new c done (Err e)
    shared_parameters old new a c e w = shared (Err e) old new c (first_judges (each_proper s xs) behind old new a c done done e w)

    module _ (old mid : State) (a : Sharing) (w : Passed (each_proper s xs old.listed) old mid a (done tt)) where
      pub shared_promise : (new : State) (c d : Sharing) (e : Refusal) → Judges (proper s (type_node b)) mid new c done (Err e) → Judges (proper s function_node) old new d done (Err e)
      shared_promise new c d e v = shared (Err e) old new d
          (then_judges (each_proper s xs) behind old mid new a d (done tt) done (Err e) w
          (first_judges (proper s (type_node b)) (λ l later u. each_sent s at b xs l later) mid new c d done done e v))

      pub shared_sent : (r : Result (Unit {0}) Refusal) (next new : State) (c d : Sharing) → Passed (proper s (type_node b) mid.listed) mid next c (done tt) → Judges (each_sent s at b xs) next new d done r → Judges (proper s function_node) old new d done r
      shared_sent r next new c d v y = shared r old new d
          (then_judges (each_proper s xs) behind old mid new a d (done tt) done r w
          (then_judges (proper s (type_node b)) (λ l later u. each_sent s at b xs l later) mid next new c d (done tt) done r v y))

  pub no_promise : (old : State) → (g ≡ sharing.Local → ⊥) → None ≡ awaited (type_node n) → Refused (proper s function_node old.listed) old old (fault condition.NotShared at)
  no_promise old k h = failed (proper s function_node old.listed) old old condition.NotShared at (left_itself old) (λ later l. not_promised (rules_in later old.listed) s g at (type_nodes (map type_node xs)) (type_node n) k h)

-- ---- fields and methods

no_part : (defs : Definitions) (s : TypeScope) (o : Bool) (x : Named) → Fine ≡ PartsProper defs s o (p.EmptyTag x p.NoFields)
no_part defs s true x = refl
no_part defs s false x = refl

module _ (s : TypeScope) (f : TypeField) where
  module _ (mutable : Bool) (name : PlacedName) (a : value.TypeNode) (h : f ≡ x.Field mutable name a) where
    field_is : (l : Listed) (later : List Form) → proper s (type_node a) l later ≡ part s false f l later
    field_is l later = sym (part_fine (proper s (type_node a) l later)) ∙ ap (λ (v : FieldView). PartsProper (rules_in later l) s false (v p.NoFields)) (sym (ap type_field h ∙ seen_Field mutable name a))

    method_is : (l : Listed) (later : List Form) → Part (proper s (type_node a) l later) (λ u. method s name.at (type_node a) l later) ≡ part s true f l later
    method_is l later = ap (λ (v : FieldView). PartsProper (rules_in later l) s true (v p.NoFields)) (sym (ap type_field h ∙ seen_Field mutable name a))

    pub field_part : (o : Bool) (old new : State) (c : Sharing) (r : Result (Unit {0}) Refusal) → o ≡ false → Judges (proper s (type_node a)) old new c done r → Judges (part s o f) old new c done r
    field_part o old new c r e w = subst (λ (b : Bool). Judges (part s b f) old new c done r) (sym e) (judges_as (proper s (type_node a)) (part s false f) old new c done r field_is w)

    pub method_part : (o : Bool) (old mid new : State) (d c : Sharing) (r : Result (Unit {0}) Refusal) → o ≡ true → Passed (proper s (type_node a) old.listed) old mid d (done tt) → Judges (method s name.at (type_node a)) mid new c done r
        → Judges (part s o f) old new c done r
    method_part o old mid new d c r e w v =
        subst (λ (b : Bool). Judges (part s b f) old new c done r) (sym e)
        (judges_as (λ l later. Part (proper s (type_node a) l later) (λ u. method s name.at (type_node a) l later)) (part s true f) old new c done r method_is
        (then_judges (proper s (type_node a)) (λ l later u. method s name.at (type_node a) l later) old mid new d c (done tt) done r w v))

    pub part_refused : (o : Bool) (old new : State) (d c : Sharing) (e : Refusal) → Judges (proper s (type_node a)) old new d done (Err e) → Judges (part s o f) old new c done (Err e)
    part_refused false old new d c e w = judges_as (proper s (type_node a)) (part s false f) old new c done (Err e) field_is (again (proper s (type_node a)) old new d c done done e w)
    part_refused true old new d c e w =
        judges_as (λ l later. Part (proper s (type_node a) l later) (λ u. method s name.at (type_node a) l later)) (part s true f) old new c done (Err e) method_is
        (first_judges (proper s (type_node a)) (λ l later u. method s name.at (type_node a) l later) old new d c done done e w)

  pub tag_part : (o : Bool) (name : PlacedName) (old : State) (c : Sharing) → f ≡ x.EmptyTag name → Ready old c → Passed (part s o f old.listed) old old c (done tt)
  tag_part o name old c h ready = given (part s o f old.listed) old old c (done tt) (same_itself old ready.kept) ready
      (λ later l. no_part (rules_in later old.listed) s o (named name) ∙ ap (λ (v : FieldView). PartsProper (rules_in later old.listed) s o (v p.NoFields)) (sym (ap type_field h ∙ seen_EmptyTag name)))
