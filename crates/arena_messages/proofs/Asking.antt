-- One turn over the values that wait, and the whole of all turns.
use Rattle.std.proofs.Common.{◌≡◌, ℕ, ◌+◌, ◌≤◌, List, [], ◌∷◌, ◌++◌, length, Bool, true, false, ◌&&◌, Option, Some, None, refl, sym, ap, ap₂, ◌∙◌, subst, arith, append_assoc, length-append}
use Rattle.std.specs.Prelude.{is_some, map, cond, nat_eq, IsSome}
use Rattle.std.specs.Str.{bytes_eq}
use Rattle.std.proofs.lemmas.Slice.Eq.{bytes_eq-Decides}
use Rattle.mo_types.specs.declared.datum.Datum.{Datum}
use Rattle.mo_types.specs.declared.datum.Datum.TheVariants as part
use Rattle.mo_types.specs.declared.node.Node.{Node as TypeNode}
use Rattle.mo_types.specs.declared.node.Node.TheVariants as node
use Rattle.mo_types.specs.declared.node.Field.{Field}
use Rattle.mo_types.specs.declared.node.TypeId.{TypeId}
use Rattle.mo_types.specs.Graph.{Slot, head_at, node_at, node_or_bottom}
use Rattle.mo_types.specs.Heads.{is_any}
use Rattle.mo_types.specs.Values.{flat, by_label}
use Rattle.mo_values.specs.Messages.{count, under, labels, types, value_or_none, only_if, part_at, types_inside, function_at}
use Rattle.mo_values.specs.Shapes.{Bytes, Head, Object, Shape, Shapes, NoShape, AShape, size, size_all, listed}
use Rattle.mo_values.specs.Shapes as shape
use Rattle.typed_tree.specs.Language.{Functions}
use Rattle.mo_machine.specs.Values.{Value, Values, Made, Closure, BuiltIn, Code, ClosureCode, BuiltInCode, shape_of, shapes_of}
use Rattle.value_arena.specs.declared.node.Node.{Node}
use Rattle.value_arena.specs.declared.node.ValueId.{ValueId}
use Rattle.value_arena.specs.Growth as growth
use Rattle.value_arena.specs.Meaning.{value_of, values, values_at, values_of}
use Rattle.value_arena.specs.Rows.{no_groups}
use Rattle.value_arena.specs.Seen.{made_of}
use Rattle.arena_messages.specs.declared.waiting.AtType.{AtType}
use Rattle.arena_messages.specs.Asking.{ids_in_order, IsAsked, IsPut}
use Rattle.arena_messages.specs.Goes.{goes, all_go, parts, all_parts}
use Rattle.arena_messages.specs.Inside.{At, at, asked, both_there, in_fields, in_order, total}
use Rattle.arena_messages.specs.Waiting.{asked_ids, AreBelow, item, items}
use Rattle.arena_messages.proofs.Emitted.{parts_of_made}
use Rattle.arena_messages.proofs.Steps.{and_swap, and_true, made_goes, function_goes, asked_size, total_append, all_append, parts_append}
use Rattle.arena_messages.proofs.Waits.{counted, items_append, below_append, items_asked, asked_below, items_fields, fields_below}

-- ---- what is seen of a value

record IsMade (h : Head) (vs : Values) (v : Value) : Type 0 where
  pub is : v ≡ Made h vs

is_made : (h : Head) (vs : Values) (v : Value) → Some (Made h vs) ≡ made_of v → IsMade h vs v
is_made h vs (Made g ws) e = record { is = let f : Some (Made h vs) ≡ Some (Made g ws) = e in cc }
is_made h vs (Closure group which env) e = let f : Some (Made h vs) ≡ None = e in absurd (let g : Some (Made h vs) ≡ None = f in cc)
is_made h vs (BuiltIn member holds) e = let f : Some (Made h vs) ≡ None = e in absurd (let g : Some (Made h vs) ≡ None = f in cc)

is_function : (v : Value) → None ≡ made_of v → (f : Code) × (shape_of v ≡ shape.Function f)
is_function (Made g ws) e = absurd (let f : None ≡ Some (Made g ws) = e in cc)
is_function (Closure group which env) e = (ClosureCode group which env, refl)
is_function (BuiltIn member holds) e = (BuiltInCode member holds, refl)

-- ---- the values under the labels of fields are among those that are asked

none_there : {A : Type 0} (F : Type 0) (head : A → TypeNode A) (t : Option A) → all_go head (both_there {A = A} {F = F} t None) ≡ true
none_there F head None = refl
none_there F head (Some t) = refl

module _ {A F : Type 0} (head : A → TypeNode A) (all : List (Field A)) where
  under_goes : (l : Bytes) (ls : List Bytes) (vs : Shapes F) → all_go head (asked (map (λ m. under m (labels all) (types all)) ls) vs) ≡ true
      → all_go head (both_there (under l (labels all) (types all)) (under l ls (listed vs))) ≡ true
  under_goes l [] vs e = none_there F head (under l (labels all) (types all))
  under_goes l (m ∷ ls) NoShape e = none_there F head (under l (labels all) (types all))
  under_goes l (m ∷ ls) (AShape v vs) e = by (bytes_eq l m) refl (λ f. under_goes l ls vs f)
    where
      first : (t : Option A) → all_go head (asked (t ∷ map (λ m. under m (labels all) (types all)) ls) (AShape v vs)) ≡ true
          → (all_go head (both_there t (Some v)) ≡ true) × (all_go head (asked (map (λ m. under m (labels all) (types all)) ls) vs) ≡ true)
      first None f = (refl, f)
      first (Some t) f =
          let b = and_true (goes head (at t v)) (all_go head (asked (map (λ m. under m (labels all) (types all)) ls) vs)) f in
          (ap (λ x. x && true) b.0, b.1)

      by : (b : Bool) → bytes_eq l m ≡ b
          → (all_go head (asked (map (λ m. under m (labels all) (types all)) ls) vs) ≡ true → all_go head (both_there (under l (labels all) (types all)) (under l ls (listed vs))) ≡ true)
          → all_go head (both_there (under l (labels all) (types all)) (cond (bytes_eq l m) (Some v) (under l ls (listed vs)))) ≡ true
      by true f later =
          let same : l ≡ m = (bytes_eq-Decides l m).0 f in
          ap (λ c. all_go head (both_there (under l (labels all) (types all)) (cond c (Some v) (under l ls (listed vs))))) f
          ∙ ap (λ x. all_go head (both_there (under x (labels all) (types all)) (Some v))) same
          ∙ (first (under m (labels all) (types all)) e).0
      by false f later =
          ap (λ c. all_go head (both_there (under l (labels all) (types all)) (cond c (Some v) (under l ls (listed vs))))) f
          ∙ later (first (under m (labels all) (types all)) e).1

  fields_go : (ls : List Bytes) (vs : Shapes F) → all_go head (asked (map (λ m. under m (labels all) (types all)) ls) vs) ≡ true → (fs : List (Field A))
      → all_go head (in_fields all ls (listed vs) fs) ≡ true
  fields_go ls vs e [] = refl
  fields_go ls vs e (f ∷ fs) =
      all_append head (both_there (under f.label (labels all) (types all)) (under f.label ls (listed vs))) (in_fields all ls (listed vs) fs)
      ∙ ap (λ b. b && all_go head (in_fields all ls (listed vs) fs)) (under_goes f.label ls vs e)
      ∙ fields_go ls vs e fs

order_goes : {A F : Type 0} (head : A → TypeNode A) (n : TypeNode A) (h : Head) (k : ℕ) (vs : Shapes F) → all_go head (asked (types_inside n h k) vs) ≡ true → all_go head (in_order n h k vs) ≡ true
order_goes head (node.Object fs) (Object ls) k vs e = fields_go head fs ls vs e (by_label fs)
order_goes head n h k vs e = e

items_in_order : (vs : List Value) (n : TypeNode TypeId) (h : Head) (ids : List ValueId) → items vs (ids_in_order n h ids) ≡ in_order n h (length ids) (shapes_of (values_at vs ids))
items_in_order vs (node.Object fs) (Object ls) ids = items_fields vs fs ls ids (by_label fs)
items_in_order vs n h ids = items_asked vs (types_inside n h (length ids)) ids

order_below : (m : ℕ) (n : TypeNode TypeId) (h : Head) (ids : List ValueId) → growth.AreBelow m ids → AreBelow m (ids_in_order n h ids)
order_below m (node.Object fs) (Object ls) ids b = fields_below m fs ls ids (by_label fs) b
order_below m n h ids b = asked_below m (types_inside n h (length ids)) ids b

-- ---- one turn

module _ (slots : List Slot) (ns : List Node) (x : AtType) where
  abbrev head : TypeId → TypeNode TypeId
  head = head_at slots

  abbrev own : TypeNode TypeId
  own = head x.of_type

  -- a value that is no function
  abbrev Seen : Head → List ValueId → Type 0
  Seen h ids = (groups : ℕ → Functions) → Some (Made h (values_of groups ns ids)) ≡ made_of (value_of groups ns x.value)

  module _ (h : Head) (ids : List ValueId) (seen : Seen h ids) where
    abbrev shapes_in : (ℕ → Functions) → Shapes Code
    shapes_in groups = shapes_of (values_of groups ns ids)

    item_is : (groups : ℕ → Functions) → item (values groups ns) x ≡ at x.of_type (shape.Made h (shapes_in groups))
    item_is groups = ap (λ v. at x.of_type (shape_of v)) (is_made h (values_of groups ns ids) (value_of groups ns x.value) (seen groups)).is

    goes_is : (groups : ℕ → Functions) → goes head (item (values groups ns) x) ≡ (is_some (part_at own h (length ids)) && all_go head (asked (types_inside own h (length ids)) (shapes_in groups)))
    goes_is groups =
        ap (goes head) (item_is groups) ∙ made_goes head x.of_type h (shapes_in groups)
        ∙ ap (λ k. is_some (part_at own h k) && all_go head (asked (types_inside own h k) (shapes_in groups))) (counted (values groups ns) ids)

    pub asks : growth.AreBelow (length ns) ids → true ≡ is_some (part_at own h (length ids)) → (old new : List AtType) → new ≡ old ++ asked_ids (types_inside own h (length ids)) ids → IsAsked slots ns x true old new
    asks within fits old new is = record {
      goes = λ groups.
          let vs = values groups ns in
          let inside = asked (types_inside own h (length ids)) (shapes_in groups) in
          ap (λ b. b && all_go head (items vs old)) (goes_is groups ∙ ap (λ b. b && all_go head inside) (sym fits))
          ∙ and_swap (all_go head inside) (all_go head (items vs old))
          ∙ sym (ap (λ l. all_go head (items vs l)) is ∙ ap (all_go head) (items_append vs old (asked_ids (types_inside own h (length ids)) ids) ∙ ap (λ l. items vs old ++ l) (items_asked vs (types_inside own h (length ids)) ids)) ∙ all_append head (items vs old) inside);
      within = λ b. let below : List AtType → Type 0 = λ l. AreBelow (length ns) l in
          subst below (sym is) (below_append (length ns) old (asked_ids (types_inside own h (length ids)) ids) b (asked_below (length ns) (types_inside own h (length ids)) ids within));
      smaller = λ groups does.
          let vs = values groups ns in
          let inside = asked (types_inside own h (length ids)) (shapes_in groups) in
          let all : total (items vs new) ≡ total (items vs old) + total inside =
          ap (λ l. total (items vs l)) is ∙ ap total (items_append vs old (asked_ids (types_inside own h (length ids)) ids) ∙ ap (λ l. items vs old ++ l) (items_asked vs (types_inside own h (length ids)) ids)) ∙ total_append (items vs old) inside in
          let less : total inside ≤ size_all (shapes_in groups) = asked_size (types_inside own h (length ids)) (shapes_in groups) in
          let one : total (items vs (x ∷ [])) ≡ size (shape.Made h (shapes_in groups)) + 0 = ap (λ (y : At TypeId Code). size y.value + 0) (item_is groups) in
          omega (arith, all, less, one);
    }

    pub refuses : false ≡ is_some (part_at own h (length ids)) → (old : List AtType) → IsAsked slots ns x false old old
    refuses fits old = record {
      goes = λ groups. ap (λ b. b && all_go head (items (values groups ns) old)) (goes_is groups ∙ ap (λ b. b && all_go head (asked (types_inside own h (length ids)) (shapes_in groups))) (sym fits));
      within = λ b. b;
      smaller = λ groups does. absurd (let f : false ≡ true = does in cc);
    }

    pub part_there : ((groups : ℕ → Functions) → goes head (item (values groups ns) x) ≡ true) → is_some (part_at own h (length ids)) ≡ true
    part_there does = (and_true (is_some (part_at own h (length ids))) (all_go head (asked (types_inside own h (length ids)) (shapes_in no_groups))) (sym (goes_is no_groups) ∙ does no_groups)).0

    pub puts : growth.AreBelow (length ns) ids → ((groups : ℕ → Functions) → goes head (item (values groups ns) x) ≡ true) → (p : Datum) → part_at own h (length ids) ≡ Some p → (old new : List AtType) → new ≡ ids_in_order own h ids ++ old
        → (before after : List Datum) → after ≡ before ++ p ∷ [] → IsPut slots ns x old new before after
    puts within does p at_own old new is before after added = record {
      puts = λ groups.
          let vs = values groups ns in
          let inside = in_order own h (length ids) (shapes_in groups) in
          let news : items vs new ≡ inside ++ items vs old = ap (items vs) is ∙ items_append vs (ids_in_order own h ids) old ∙ ap (λ l. l ++ items vs old) (items_in_order vs own h ids) in
          let whole : parts head (item vs x) ≡ p ∷ all_parts head inside = ap (parts head) (item_is groups) ∙ parts_of_made head x.of_type h (shapes_in groups) p (ap (λ k. part_at own h k) (counted vs ids) ∙ at_own) (sym (ap (goes head) (item_is groups)) ∙ does groups) ∙ ap (λ k. p ∷ all_parts head (in_order own h k (shapes_in groups))) (counted vs ids) in
          ap₂ (λ (a b : List Datum). a ++ b) added (ap (all_parts head) news ∙ parts_append head inside (items vs old))
          ∙ append_assoc before (p ∷ []) (all_parts head inside ++ all_parts head (items vs old))
          ∙ sym (ap (λ l. before ++ (l ++ all_parts head (items vs old))) whole);
      goes = λ groups all.
          let vs = values groups ns in
          let inside = in_order own h (length ids) (shapes_in groups) in
          let news : items vs new ≡ inside ++ items vs old = ap (items vs) is ∙ items_append vs (ids_in_order own h ids) old ∙ ap (λ l. l ++ items vs old) (items_in_order vs own h ids) in
          let each = and_true (is_some (part_at own h (length ids))) (all_go head (asked (types_inside own h (length ids)) (shapes_in groups))) (sym (goes_is groups) ∙ does groups) in
          ap (all_go head) news ∙ all_append head inside (items vs old) ∙ ap (λ b. b && all_go head (items vs old)) (order_goes head own h (length ids) (shapes_in groups) each.1) ∙ all;
      within = λ b. let below : List AtType → Type 0 = λ l. AreBelow (length ns) l in subst below (sym is) (below_append (length ns) (ids_in_order own h ids) old (order_below (length ns) own h ids within) b);
      more = ap length added ∙ length-append before (p ∷ []);
    }

  -- nothing goes at a type that is not defined
  bottom_part : (h : Head) (k : ℕ) → is_some (part_at {A = TypeId} node.Bottom h k) ≡ false
  bottom_part (shape.Leaf p) k = none (nat_eq k 0)
    where
      none : (b : Bool) → is_some (only_if (b && false) p) ≡ false
      none true = refl
      none false = refl
  bottom_part _ k = refl

  bottom_goes : own ≡ node.Bottom → (v : Shape Code) → goes head (at x.of_type v) ≡ false
  bottom_goes e (shape.Made h vs) =
      made_goes head x.of_type h vs
      ∙ ap (λ (n : TypeNode TypeId). is_some (part_at n h (count vs)) && all_go head (asked (types_inside n h (count vs)) vs)) e
      ∙ ap (λ b. b && all_go head (asked (types_inside node.Bottom h (count vs)) vs)) (bottom_part h (count vs))
  bottom_goes e (shape.Function f) = function_goes head x.of_type f ∙ ap is_any e

  pub asks_nothing : None ≡ node_at slots x.of_type → (old : List AtType) → IsAsked slots ns x false old old
  asks_nothing unknown old = record {
    goes = λ groups. ap (λ b. b && all_go head (items (values groups ns) old)) (bottom_goes (sym (ap node_or_bottom unknown)) (shape_of (value_of groups ns x.value)));
    within = λ b. b;
    smaller = λ groups does. absurd (let f : false ≡ true = does in cc);
  }

  pub defined : ((groups : ℕ → Functions) → goes head (item (values groups ns) x) ≡ true) → IsSome (node_at slots x.of_type)
  defined does = by (node_at slots x.of_type) refl
    where
      by : (o : Option (TypeNode TypeId)) → node_at slots x.of_type ≡ o → IsSome o
      by (Some n) e = refl
      by None e =
          let f : goes head (item (values no_groups ns) x) ≡ false = bottom_goes (ap node_or_bottom e) (shape_of (value_of no_groups ns x.value)) in
          absurd (let g : false ≡ true = sym f ∙ does no_groups in cc)

  module _ (seen : (groups : ℕ → Functions) → None ≡ made_of (value_of groups ns x.value)) where
    function_item : (groups : ℕ → Functions) → (f : Code) × (item (values groups ns) x ≡ at x.of_type (shape.Function f))
    function_item groups =
        let f = is_function (value_of groups ns x.value) (seen groups) in
        (f.0, ap (λ (v : Shape Code). at x.of_type v) f.1)

    pub asks_function : (b : Bool) → b ≡ is_any own → (old : List AtType) → IsAsked slots ns x b old old
    asks_function b any old = record {
      goes = λ groups.
          let f = function_item groups in
          ap (λ c. c && all_go head (items (values groups ns) old)) (ap (goes head) f.1 ∙ function_goes head x.of_type f.0 ∙ sym any);
      within = λ b. b;
      smaller = λ groups does.
          let f = function_item groups in
          let one : total (items (values groups ns) (x ∷ [])) ≡ 1 + 0 = ap (λ (y : At TypeId Code). size y.value + 0) f.1 in
          omega (arith, one);
    }

    any_parts : (n : TypeNode TypeId) → is_any n ≡ true → flat (value_or_none (function_at {A = TypeId} n)) ≡ part.Record 0 ∷ []
    any_parts node.Any e = refl
    any_parts _ e = absurd (let f : false ≡ true = e in cc)

    pub puts_function : ((groups : ℕ → Functions) → goes head (item (values groups ns) x) ≡ true) → (old : List AtType) (before after : List Datum) → after ≡ before ++ part.Record 0 ∷ [] → IsPut slots ns x old old before after
    puts_function does old before after added = record {
      puts = λ groups.
          let f = function_item groups in
          let any : is_any own ≡ true = sym (ap (goes head) f.1 ∙ function_goes head x.of_type f.0) ∙ does groups in
          ap (λ l. l ++ all_parts head (items (values groups ns) old)) added
          ∙ append_assoc before (part.Record 0 ∷ []) (all_parts head (items (values groups ns) old))
          ∙ sym (ap (λ l. before ++ (l ++ all_parts head (items (values groups ns) old))) (ap (parts head) f.1 ∙ any_parts own any));
      goes = λ groups all. all;
      within = λ b. b;
      more = ap length added ∙ length-append before (part.Record 0 ∷ []);
    }
