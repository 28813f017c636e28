-- How many functions stand behind the declarations, their names, and stable variables.
use Rattle.std.proofs.Common.{◌≡◌, ◌≢◌, ◌⊎◌, inl, inr, ℕ, suc, ◌+◌, Bool, true, false, List, [], ◌∷◌, ◌++◌, length, map, Option, Some, refl, sym, ap, ap₂, ◌∙◌, subst, arith}
use Rattle.std.proofs.lemmas.List.{length-append, length-map}
use Rattle.std.proofs.lemmas.Slice.Eq.{bytes_eq-Decides}
use Rattle.std.specs.Prelude.{cond, slice_get}
use Rattle.std.specs.Str.{bytes_eq}
use Rattle.mo_types.specs.declared.node.TypeId.{TypeId}
use Rattle.mo_types.specs.Graph.{Slot, head_at}
use Rattle.mo_types.specs.Sub.{Each}
use Rattle.typed_tree.specs.declared.expression.Function.{Function}
use Rattle.typed_tree.specs.declared.program.Method.{Method}
use Rattle.typed_tree.specs.ActionTypes.{Context}
use Rattle.typed_tree.specs.OperationTypes.{Distinct}
use Rattle.typed_tree.specs.ProgramView.{with_context, optional_function}
use Rattle.typed_tree.specs.Shareable.{IsShareable}
use Rattle.typed_tree.specs.View.{function}
use Rattle.typed_tree.specs.Wants.{CellOf}
use Rattle.typed_tree.specs.WellTyped.{IsStable}
use Rattle.typing_rules.specs.AbstractSyntax.{Bytes, Declaration, Declarations}
use Rattle.typing_rules.specs.AbstractSyntax as p
use Rattle.typing_rules.specs.Definitions.{Definitions}
use Rattle.typing_rules.specs.Terms.{Term}
use Rattle.typing_rules.specs.TypedTrees.{Note}
use Rattle.desugaring.specs.Frames.{Frame, found}
use Rattle.desugaring.specs.Programs.{method_names, count_behind, methods_of, system_of, stable_of}
use Rattle.list_laws.proofs.Reaching.{unequal}
use Rattle.program_laws.specs.Around.{stables}
use Rattle.program_laws.proofs.Around.{skip_names, skip_stables}
use Rattle.well_typed_laws.specs.Source.{system_names}
use Rattle.well_typed_laws.proofs.Forms.{by_kind, skipped}

-- one where this name is among these, and none where it is not
abbrev pub presence : Bytes → List Bytes → ℕ
presence x [] = 0
presence x (y ∷ ys) = cond (bytes_eq y x) 1 (presence x ys)

absent : (x : Bytes) (xs : List Bytes) → Each (λ y. x ≢ y) xs → presence x xs ≡ 0
absent x [] h = refl
absent x (y ∷ ys) h = ap (λ b. cond b 1 (presence x ys)) (unequal y x h.0) ∙ absent x ys h.1

present : (x : Bytes) (y : Bytes) (ys : List Bytes) → y ≡ x → presence x (y ∷ ys) ≡ 1
present x y ys e = ap (λ b. cond b 1 (presence x ys)) ((bytes_eq-Decides y x).1 e)

other_name : (x y : Bytes) (ys : List Bytes) → (x ≡ y → ⊥) → presence x (y ∷ ys) ≡ presence x ys
other_name x y ys n = ap (λ b. cond b 1 (presence x ys)) (unequal y x n)

-- names that differ, of which each is one of two
pub two_names : (a b : Bytes) → a ≢ b → (xs : List Bytes) → Distinct xs → Each (λ x. (x ≡ a) ⊎ (x ≡ b)) xs → length xs ≡ presence a xs + presence b xs
two_names a b n [] d h = refl
two_names a b n (x ∷ xs) d h = by h.0 (two_names a b n xs d.1 h.1) where
  by : (x ≡ a) ⊎ (x ≡ b) → length xs ≡ presence a xs + presence b xs → suc (length xs) ≡ presence a (x ∷ xs) + presence b (x ∷ xs)
  by (inl e) k =
      let here : presence a (x ∷ xs) ≡ 1 = present a x xs e in
      let gone : presence a xs ≡ 0 = absent a xs (subst (λ z. Each (λ y. z ≢ y) xs) e d.0) in
      let there : presence b (x ∷ xs) ≡ presence b xs = other_name b x xs (λ i. n (sym (i ∙ e))) in
      sum (length xs) (presence a xs) (presence b xs) (presence a (x ∷ xs)) (presence b (x ∷ xs)) k here gone there
    where
      sum : (m i j i' j' : ℕ) → m ≡ i + j → i' ≡ 1 → i ≡ 0 → j' ≡ j → suc m ≡ i' + j'
      sum m i j i' j' k h g t = omega (arith, k, h, g, t)
  by (inr e) k =
      let here : presence b (x ∷ xs) ≡ 1 = present b x xs e in
      let gone : presence b xs ≡ 0 = absent b xs (subst (λ z. Each (λ y. z ≢ y) xs) e d.0) in
      let there : presence a (x ∷ xs) ≡ presence a xs = other_name a x xs (λ i. n (i ∙ e)) in
      sum (length xs) (presence a xs) (presence b xs) (presence a (x ∷ xs)) (presence b (x ∷ xs)) k here gone there
    where
      sum : (m i j i' j' : ℕ) → m ≡ i + j → j' ≡ 1 → j ≡ 0 → i' ≡ i → suc m ≡ i' + j'
      sum m i j i' j' k h g t = omega (arith, k, h, g, t)

chosen : (b : Bool) (f : Function) (r : Option Function) (n : ℕ) → length (optional_function r) ≡ n → length (optional_function (cond b (Some f) r)) ≡ cond b 1 n
chosen true f r n h = refl
chosen false f r n h = h

one_more : (a b c : ℕ) → a ≡ b + c → suc a ≡ suc b + c
one_more a b c h = omega (arith, h)

one_behind : (a b c : ℕ) → a ≡ b + c → suc a ≡ b + suc c
one_behind a b c h = omega (arith, h)

module _ (defs : Definitions) (number : Term → TypeId) (slots : List Slot) (f g : Frame) (end : Context) where
  abbrev IsCell : Bytes × TypeId → Type 0
  IsCell z = IsShareable (head_at slots) z.1 × (slice_get end.names (found g z.0).index ≡ Some (CellOf z.1))

  -- what is counted of a list, and its stable variables
  pub record Counted (made : Declarations Note) : Type 0 where
    pub count : count_behind made ≡ length (methods_of defs number f made) + length (system_names made)
    pub names : map (λ m. m.name) (methods_of defs number f made) ≡ method_names made
    pub systems : (x : Bytes) → length (optional_function (system_of defs number f x made)) ≡ presence x (system_names made)
    pub stable : Each (λ z. IsShareable (head_at slots) z.1 × (slice_get end.names (found g z.0).index ≡ Some (CellOf z.1))) (stables number made) → Each (IsStable slots end) (stable_of defs number g made)
    pub stable_names : map (λ v. v.name) (stable_of defs number g made) ≡ map (λ z. z.0) (stables number made)

  abbrev One : Declaration Note → Type 0
  One b = (public : Bool) (l : Note) (bs : Declarations Note) → Counted bs → Counted (p.Then public l b bs)

  counted_one : (b : Declaration Note) → One b
  counted_one = by_kind One
      (λ query context x h body. λ public l bs i. record {
        count = one_more (count_behind bs) (length (methods_of defs number f bs)) (length (system_names bs)) i.count;
        names = ap (λ zs. x.bytes ∷ zs) i.names;
        systems = i.systems;
        stable = i.stable;
        stable_names = i.stable_names;
      })
      (λ x body. λ public l bs i. record {
        count = one_behind (count_behind bs) (length (methods_of defs number f bs)) (length (system_names bs)) i.count;
        names = i.names;
        systems = λ z. chosen (bytes_eq x.bytes z) _ (system_of defs number f z bs) (presence z (system_names bs)) (i.systems z);
        stable = i.stable;
        stable_names = i.stable_names;
      })
      (λ x u a. λ public l bs i. record {
        count = i.count;
        names = i.names;
        systems = i.systems;
        stable = λ h. (h.0, i.stable h.1);
        stable_names = ap (λ zs. x.bytes ∷ zs) i.stable_names;
      })
      (λ b plain. λ public l bs i.
      let k = skipped defs number l public b bs plain in record {
        count = k.count ∙ (i.count ∙ sym (ap₂ (λ ms ns. length ms + length ns) (k.methods f) k.names));
        names = ap (λ ms. map (λ m. m.name) ms) (k.methods f) ∙ (i.names ∙ sym (skip_names public l b bs plain));
        systems = λ x. ap (λ o. length (optional_function o)) (k.systems f x) ∙ (i.systems x ∙ sym (ap (λ ns. presence x ns) k.names));
        stable = λ h. subst (λ vs. Each (IsStable slots end) vs) (sym (k.stable g)) (i.stable (subst (λ zs. Each IsCell zs) (skip_stables number public l b bs plain) h));
        stable_names = ap (λ vs. map (λ v. v.name) vs) (k.stable g) ∙ (i.stable_names ∙ sym (ap (λ zs. map (λ z. z.0) zs) (skip_stables number public l b bs plain)));
      })

  pub counted : (made : Declarations Note) → Counted made
  counted p.End = record { count = refl; names = refl; systems = λ x. refl; stable = λ h. tt; stable_names = refl }
  counted (p.Then public l b bs) = counted_one b public l bs (counted bs)

-- so many functions have views
pub viewed : (ms : List Method) (before after : Option Function) → length (map (λ m. with_context m.context (function m.function)) ms ++ (optional_function before ++ optional_function after)) ≡ length ms + (length (optional_function before) + length (optional_function after))
viewed ms before after =
    length-append (map (λ m. with_context m.context (function m.function)) ms) (optional_function before ++ optional_function after)
    ∙ ap₂ (λ a b. a + b) (length-map ms (λ m. with_context m.context (function m.function))) (length-append (optional_function before) (optional_function after))
