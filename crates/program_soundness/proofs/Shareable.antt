-- A value of a shareable type goes into a message of the type.
use Rattle.std.proofs.Common.{◌≡◌, ℕ, zero, suc, Bool, true, false, List, [], ◌∷◌, length, map, Option, Some, None, inl, inr, refl, sym, ap, ap₂, ◌∙◌, subst}
use Rattle.std.specs.Prelude.{◌⊎◌, ◌&&◌, cond, nat_eq, nat_lt, is_some, if◌then◌else◌}
use Rattle.std.specs.Cmp.Lexicographic.{pointwise}
use Rattle.std.specs.Str.{bytes_eq}
use Rattle.std.proofs.lemmas.Bool.{and_from, eq-eqb}
use Rattle.std.proofs.lemmas.Slice.Eq.{bytes_eq-Decides}
use Rattle.mo_types.specs.declared.datum.Datum.{Datum}
use Rattle.mo_types.specs.declared.datum.Datum.TheVariants as part
use Rattle.mo_types.specs.declared.node.Field.{Field}
use Rattle.mo_types.specs.declared.node.Node.{Node}
use Rattle.mo_types.specs.declared.node.Node.TheVariants as node
use Rattle.mo_types.specs.declared.node.Sort.TheVariants as sort
use Rattle.mo_types.specs.declared.node.TypeId.{TypeId}
use Rattle.mo_types.specs.Heads.{map_option}
use Rattle.mo_types.specs.Label.{label_id}
use Rattle.mo_types.specs.Sub.{Each, IsSomething, find}
use Rattle.mo_types.specs.Values.{copies, by_label, insert_field}
use Rattle.mo_types.specs.Values as message
use Rattle.mo_values.specs.declared.error_code.ErrorCode.{ErrorCode}
use Rattle.mo_values.specs.Messages.{count, under, place, only_if, tag_part, labels, types, all_there, types_inside, part_at, function_at, message_of, both, plain_at, plain_each}
use Rattle.mo_values.specs.Parts.{is_leaf_of}
use Rattle.mo_values.specs.Shapes.{Bytes, Head, Leaf, Present, Tuple, Array, Object, Tag, Error, Cell, Future, Shape, Shapes, Made, Function, NoShape, AShape}
use Rattle.typed_tree.specs.Has.{Judgements, field_want, tag_want, by_mutability, wants, Fits, FunctionFits, Has, HasEach}
use Rattle.typed_tree.specs.Instances.{IsAmong}
use Rattle.typed_tree.specs.Shareable.{HasShareableForm, PartsShareable, Shares, IsShareable}
use Rattle.typed_tree.specs.Wants.{Want, Of}
use Rattle.typed_tree.proofs.Leaves.{no, passes}
use Rattle.typed_tree.proofs.ScopedTrees.{length_map}
use Rattle.typed_tree.proofs.SoundParts.{found}

-- ---- labels

-- what is found under a label, by the one search and by the other
same_field : (l : Bytes) (fs : List (Field TypeId)) → under l (labels fs) (types fs) ≡ map_option (λ f. f.part) (find l fs)
same_field l [] = refl
same_field l (f ∷ fs) = by (same_field l fs) (bytes_eq l f.label) (pointwise nat_eq f.label l) refl refl
  where
    by : under l (labels fs) (types fs) ≡ map_option (λ f. f.part) (find l fs) → (b c : Bool) → bytes_eq l f.label ≡ b → pointwise nat_eq f.label l ≡ c →
        cond b (Some f.part) (under l (labels fs) (types fs)) ≡ map_option (λ f. f.part) (if c then Some f else find l fs)
    by later true true e g = refl
    by later false false e g = later
    by later true false e g = absurd (no (sym g ∙ (bytes_eq-Decides f.label l).1 (sym ((bytes_eq-Decides l f.label).0 e))))
    by later false true e g = absurd (no (sym e ∙ (bytes_eq-Decides l f.label).1 (sym ((bytes_eq-Decides f.label l).0 g))))

placed : (l : Bytes) (ls : List Bytes) (n : ℕ) → IsAmong l ls → (i : ℕ) × (place l ls n ≡ Some i)
placed l [] n h = absurd h
placed l (m ∷ ms) n h = by (λ i. placed l ms (suc n) i) (bytes_eq l m) refl h
  where
    by : (IsAmong l ms → (i : ℕ) × (place l ms (suc n) ≡ Some i)) → (b : Bool) → bytes_eq l m ≡ b → IsAmong l (m ∷ ms) → (i : ℕ) × (cond b (Some n) (place l ms (suc n)) ≡ Some i)
    by later true e i = (n, refl)
    by later false e (inl i) = absurd (no (sym e ∙ (bytes_eq-Decides l m).1 i))
    by later false e (inr i) = later i

all_are_there : (fs : List (Field TypeId)) (ls : List Bytes) → Each (λ f. f.mutable ≡ false) fs → Each (λ f. IsAmong f.label ls) fs → all_there fs ls ≡ true
all_are_there [] ls h i = refl
all_are_there (f ∷ fs) ls h i =
    ap (λ b. cond b false (is_some (place f.label ls 0) && all_there fs ls)) h.0
    ∙ and_from (is_some (place f.label ls 0)) (all_there fs ls) (ap is_some (placed f.label ls 0 i.0).1) (all_are_there fs ls h.1 i.1)

found_among : (l : Bytes) (fs : List (Field TypeId)) → IsSomething (find l fs) → IsAmong l (labels fs)
found_among l [] h = h
found_among l (f ∷ fs) h = by (λ i. found_among l fs i) (pointwise nat_eq f.label l) refl h
  where
    by : (IsSomething (find l fs) → IsAmong l (labels fs)) → (b : Bool) → pointwise nat_eq f.label l ≡ b → IsSomething (if b then Some f else find l fs) → IsAmong l (labels (f ∷ fs))
    by later true e i = inl (sym ((bytes_eq-Decides f.label l).0 e))
    by later false e i = inr (later i)

inserted : (l : Bytes) (f : Field TypeId) (gs : List (Field TypeId)) → IsAmong l (f.label ∷ labels gs) → IsAmong l (labels (insert_field f gs))
inserted l f [] h = h
inserted l f (g ∷ gs) h = by (λ i. inserted l f gs i) (nat_lt (label_id f.label) (label_id g.label)) h
  where
    rest : (IsAmong l (f.label ∷ labels gs) → IsAmong l (labels (insert_field f gs))) → IsAmong l (f.label ∷ labels (g ∷ gs)) → IsAmong l (labels (g ∷ insert_field f gs))
    rest later (inl i) = inr (later (inl i))
    rest later (inr (inl i)) = inl i
    rest later (inr (inr i)) = inr (later (inr i))

    by : (IsAmong l (f.label ∷ labels gs) → IsAmong l (labels (insert_field f gs))) → (b : Bool) → IsAmong l (f.label ∷ labels (g ∷ gs)) → IsAmong l (labels (if b then f ∷ g ∷ gs else g ∷ insert_field f gs))
    by later true i = i
    by later false i = rest later i

pub sorted : (l : Bytes) (fs : List (Field TypeId)) → IsAmong l (labels fs) → IsAmong l (labels (by_label fs))
sorted l [] h = h
sorted l (f ∷ fs) (inl e) = inserted l f (by_label fs) (inl e)
sorted l (f ∷ fs) (inr h) = inserted l f (by_label fs) (inr (sorted l fs h))

pub each_part : (P : TypeId → Type 0) (fs : List (Field TypeId)) → Each P (map (λ f. f.part) fs) → Each (λ (f : Field TypeId). P f.part) fs
each_part P [] h = tt
each_part P (f ∷ fs) h = (h.0, each_part P fs h.1)

-- ---- shareable types

module _ (head : TypeId → Node TypeId) where
  pub each_shareable : (ts : List TypeId) → ((n : ℕ) → Each (Shares head n) ts) → Each (IsShareable head) ts
  each_shareable [] h = tt
  each_shareable (t ∷ ts) h = (record { by = λ n. (h n).0 }, each_shareable ts (λ n. (h n).1))

  parts_shareable : (x : Node TypeId) → ((n : ℕ) → PartsShareable (Shares head n) x) → PartsShareable (IsShareable head) x
  parts_shareable (node.Actor fs) h = tt
  parts_shareable (node.Func s ps rs) h = tt
  parts_shareable (node.Opt a) h = each_shareable (a ∷ []) h
  parts_shareable (node.Array a) h = each_shareable (a ∷ []) h
  parts_shareable (node.MutArray a) h = each_shareable (a ∷ []) h
  parts_shareable (node.Tuple ts) h = each_shareable ts h
  parts_shareable (node.Object fs) h = each_shareable (map (λ f. f.part) fs) h
  parts_shareable (node.Variant fs) h = each_shareable (map (λ f. f.part) fs) h
  parts_shareable (node.Async a) h = each_shareable (a ∷ []) h
  parts_shareable (node.Variable v b) h = each_shareable (b ∷ []) h
  parts_shareable _ h = tt

  pub opened : (t : TypeId) → IsShareable head t → HasShareableForm (head t) × PartsShareable (IsShareable head) (head t)
  unfolding Shares
  opened t c = ((c.by 1).0, parts_shareable (head t) (λ n. (c.by (suc n)).1))

  -- a type inside goes with what is asked of the value there
  abbrev pub Goes : Option TypeId → Want TypeId → Type 0
  Goes None w = Unit {0}
  Goes (Some t) w = (w ≡ Of t) × IsShareable head t

  abbrev pub Match : List (Option TypeId) → List (Want TypeId) → Type 0
  Match [] ws = Unit {0}
  Match (o ∷ os) [] = Unit {0}
  Match (o ∷ os) (w ∷ ws) = Goes o w × Match os ws

  pub match_each : (ts : List TypeId) → Each (IsShareable head) ts → Match (map (λ t. Some t) ts) (map (λ t. Of t) ts)
  match_each [] h = tt
  match_each (t ∷ ts) h = ((refl, h.0), match_each ts h.1)

  match_copies : (n : ℕ) (a : TypeId) → IsShareable head a → Match (copies n (Some a)) (copies n (Of a))
  match_copies zero a h = tt
  match_copies (suc n) a h = ((refl, h), match_copies n a h)

  field_goes : (l : Bytes) (fs : List (Field TypeId)) → Each (λ f. f.mutable ≡ false) fs → Each (λ (f : Field TypeId). IsShareable head f.part) fs → Goes (under l (labels fs) (types fs)) (field_want (find l fs))
  field_goes l fs h i = subst (λ o. Goes o (field_want (find l fs))) (sym (same_field l fs)) (by (find l fs) refl)
    where
      by : (o : Option (Field TypeId)) → find l fs ≡ o → Goes (map_option (λ f. f.part) o) (field_want o)
      by None e = tt
      by (Some f) e = (ap (λ b. by_mutability b f.part) (found l fs f (λ g. g.mutable ≡ false) e h).1, (found l fs f (λ g. IsShareable head g.part) e i).1)

  tag_goes : (l : Bytes) (fs : List (Field TypeId)) → Each (λ (f : Field TypeId). IsShareable head f.part) fs → Goes (under l (labels fs) (types fs)) (tag_want (find l fs))
  tag_goes l fs i = subst (λ o. Goes o (tag_want (find l fs))) (sym (same_field l fs)) (by (find l fs) refl)
    where
      by : (o : Option (Field TypeId)) → find l fs ≡ o → Goes (map_option (λ f. f.part) o) (tag_want o)
      by None e = tt
      by (Some f) e = (refl, (found l fs f (λ g. IsShareable head g.part) e i).1)

  match_fields : (ls : List Bytes) (fs : List (Field TypeId)) → Each (λ f. f.mutable ≡ false) fs → Each (λ (f : Field TypeId). IsShareable head f.part) fs → Match (map (λ l. under l (labels fs) (types fs)) ls) (map (λ l. field_want (find l fs)) ls)
  match_fields [] fs h i = tt
  match_fields (l ∷ ls) fs h i = (field_goes l fs h i, match_fields ls fs h i)

  matched : (x : Node TypeId) (h : Head) (n : ℕ) → HasShareableForm x → PartsShareable (IsShareable head) x → Match (types_inside x h n) (wants h x n)
  matched (node.Opt a) Present n f c = ((refl, c.0), tt)
  matched (node.Tuple ts) Tuple n f c = match_each ts c
  matched (node.Array a) Array n f c = match_copies n a c.0
  matched (node.Object fs) (Object ls) n f c = match_fields ls fs f (each_part (IsShareable head) fs c)
  matched (node.Variant fs) (Tag l) n f c = (tag_goes l fs (each_part (IsShareable head) fs c), tt)
  matched _ _ n f c = tt

  module _ {F : Type 0} (known : Judgements TypeId F) (kinds : List TypeId) where
    abbrev pub HasThese : List (Want TypeId) → Shapes F → Type 0
    HasThese ws inside = HasEach head known kinds ws inside

    counted : (ws : List (Want TypeId)) (inside : Shapes F) → HasThese ws inside → count inside ≡ length ws
    counted [] NoShape h = refl
    counted [] (AShape v vs) h = absurd h
    counted (w ∷ ws) NoShape h = absurd h
    counted (w ∷ ws) (AShape v vs) h = ap suc (counted ws vs h.1)

    -- ---- the outermost part is one of the type

    abbrev IsThere : Node TypeId → Head → Shapes F → Type 0
    IsThere x h inside = (p : Datum) × (part_at x h (count inside) ≡ Some p)

    abbrev Known : Node TypeId → Head → Shapes F → Type 0
    Known x h inside = HasShareableForm x × Fits head known kinds x h inside × HasThese (wants h x (count inside)) inside

    leaf_test : (x : Node TypeId) (p : Datum) (inside : Shapes F) → is_leaf_of x p ≡ true → HasThese [] inside → (nat_eq (count inside) 0 && is_leaf_of x p) ≡ true
    leaf_test x p inside e h = and_from (nat_eq (count inside) 0) (is_leaf_of x p) (eq-eqb (count inside) 0 (counted [] inside h)) e

    at_leaf : (x : Node TypeId) (p : Datum) (inside : Shapes F) → Known x (Leaf p) inside → IsThere x (Leaf p) inside
    at_leaf node.Any p inside k = (part.Record 0, refl)
    at_leaf (node.Variable v b) p inside k = absurd k.0
    at_leaf x p inside k = (p, ap (λ b. only_if b p) (leaf_test x p inside (passes x p k.1.0 k.1.1) k.2))

    at_present : (x : Node TypeId) (inside : Shapes F) → Known x Present inside → IsThere x Present inside
    at_present node.Any inside k = (part.Record 0, refl)
    at_present (node.Variable v b) inside k = absurd k.0
    at_present (node.Opt a) inside k = (part.Present, ap (λ b. only_if b part.Present) (eq-eqb (count inside) 1 (counted (Of a ∷ []) inside k.2)))
    at_present _ inside k = absurd k.1

    at_tuple : (x : Node TypeId) (inside : Shapes F) → Known x Tuple inside → IsThere x Tuple inside
    at_tuple node.Any inside k = (part.Record 0, refl)
    at_tuple (node.Variable v b) inside k = absurd k.0
    at_tuple (node.Tuple ts) inside k =
        (part.Record (count inside), ap (λ b. only_if b (part.Record (count inside))) (eq-eqb (count inside) (length ts) (counted (map (λ t. Of t) ts) inside k.2 ∙ length_map (λ t. Of t) ts)))
    at_tuple _ inside k = absurd k.1

    neither : ⊥ ⊎ ⊥ → ⊥
    neither (inl h) = h
    neither (inr h) = h

    at_array : (x : Node TypeId) (inside : Shapes F) → Known x Array inside → IsThere x Array inside
    at_array node.Any inside k = (part.Record 0, refl)
    at_array (node.Variable v b) inside k = absurd k.0
    at_array (node.MutArray a) inside k = absurd k.0
    at_array (node.Array a) inside k = (part.Many (count inside), refl)
    at_array _ inside k = absurd (neither k.1)

    at_object : (x : Node TypeId) (ls : List Bytes) (inside : Shapes F) → Known x (Object ls) inside → IsThere x (Object ls) inside
    at_object node.Any ls inside k = (part.Record 0, refl)
    at_object (node.Variable v b) ls inside k = absurd k.0
    at_object (node.Object fs) ls inside k = (
      part.Record (length fs),
      ap (λ b. only_if b (part.Record (length fs)))
          (and_from (nat_eq (count inside) (length ls)) (all_there fs ls)
          (eq-eqb (count inside) (length ls) (counted (map (λ l. field_want (find l fs)) ls) inside k.2 ∙ length_map (λ l. field_want (find l fs)) ls)) (all_are_there fs ls k.0 k.1)),
    )
    at_object _ ls inside k = absurd k.1

    at_tag : (x : Node TypeId) (l : Bytes) (inside : Shapes F) → Known x (Tag l) inside → IsThere x (Tag l) inside
    at_tag node.Any l inside k = (part.Record 0, refl)
    at_tag (node.Variable v b) l inside k = absurd k.0
    at_tag (node.Variant fs) l inside k =
        let i : (i : ℕ) × (place l (labels (by_label fs)) 0 ≡ Some i) = placed l (labels (by_label fs)) 0 (sorted l fs (found_among l fs k.1)) in
        (part.Tag i.0, ap₂ tag_part (eq-eqb (count inside) 1 (counted (tag_want (find l fs) ∷ []) inside k.2)) i.1)
    at_tag _ l inside k = absurd k.1

    at_error : (x : Node TypeId) (c : ErrorCode) (m : Bytes) (inside : Shapes F) → Known x (Error c m) inside → IsThere x (Error c m) inside
    at_error node.Any c m inside k = (part.Record 0, refl)
    at_error (node.Variable v b) c m inside k = absurd k.0
    at_error node.Error c m inside k = absurd k.0
    at_error _ c m inside k = absurd (no k.1.0)

    at_future : (x : Node TypeId) (n : ℕ) (inside : Shapes F) → Known x (Future n) inside → IsThere x (Future n) inside
    at_future node.Any n inside k = (part.Record 0, refl)
    at_future (node.Variable v b) n inside k = absurd k.0
    at_future (node.Async a) n inside k = absurd k.0
    at_future _ n inside k = absurd k.1

    at_cell : (x : Node TypeId) (n : ℕ) (inside : Shapes F) → Known x (Cell n) inside → IsThere x (Cell n) inside
    at_cell node.Any n inside k = (part.Record 0, refl)
    at_cell (node.Variable v b) n inside k = absurd k.0
    at_cell _ n inside k = absurd k.1

    there : (x : Node TypeId) (h : Head) (inside : Shapes F) → Known x h inside → IsThere x h inside
    there x (Leaf p) inside k = at_leaf x p inside k
    there x Present inside k = at_present x inside k
    there x Tuple inside k = at_tuple x inside k
    there x Array inside k = at_array x inside k
    there x (Object ls) inside k = at_object x ls inside k
    there x (Tag l) inside k = at_tag x l inside k
    there x (Error c m) inside k = at_error x c m inside k
    there x (Cell n) inside k = at_cell x n inside k
    there x (Future n) inside k = at_future x n inside k

    function_goes : (x : Node TypeId) (f : F) (t : TypeId) → HasShareableForm x → FunctionFits head known kinds x f t → (m : message.Values) × (function_at x ≡ Some m)
    function_goes node.Any f t s h = (_, refl)
    function_goes (node.Variable v b) f t s h = absurd s
    function_goes (node.Func sort.Local ps rs) f t s h = absurd (s refl)
    function_goes (node.Func sort.Shared ps rs) f t s h = absurd h
    function_goes (node.Func sort.Query ps rs) f t s h = absurd h
    function_goes _ f t s h = absurd h

    -- ---- the whole value

    mutual
      pub goes_in : (v : Shape F) (t : TypeId) → IsShareable head t → Has head known kinds (Of t) v → (m : message.Values) × (plain_at head (Some t) v ≡ Some m)
      goes_in (Made h inside) t c k =
          let o : HasShareableForm (head t) × PartsShareable (IsShareable head) (head t) = opened t c in
          let p : IsThere (head t) h inside = there (head t) h inside (o.0, k.0, k.1) in
          let e : (ms : List message.Values) × (plain_each head (types_inside (head t) h (count inside)) inside ≡ Some ms) = each_goes_in inside (types_inside (head t) h (count inside)) (wants h (head t) (count inside)) (matched (head t) h (count inside) o.0 o.1) k.1 in
          (_, ap₂ (λ a b. message_of (head t) h a b) p.1 e.1)
      goes_in (Function f) t c k =
          let o : HasShareableForm (head t) × PartsShareable (IsShareable head) (head t) = opened t c in
          function_goes (head t) f t o.0 k

      pub each_goes_in : (inside : Shapes F) (os : List (Option TypeId)) (ws : List (Want TypeId)) → Match os ws → HasThese ws inside → (ms : List message.Values) × (plain_each head os inside ≡ Some ms)
      each_goes_in inside [] ws m h = ([], refl)
      each_goes_in NoShape (o ∷ os) ws m h = ([], refl)
      each_goes_in (AShape v vs) (o ∷ os) [] m h = absurd h
      each_goes_in (AShape v vs) (None ∷ os) (w ∷ ws) m h =
          let e : (ms : List message.Values) × (plain_each head os vs ≡ Some ms) = each_goes_in vs os ws m.1 h.1 in
          (message.Nil ∷ e.0, ap (λ r. both (Some message.Nil) r) e.1)
      each_goes_in (AShape v vs) (Some t ∷ os) (w ∷ ws) m h =
          let a : (x : message.Values) × (plain_at head (Some t) v ≡ Some x) = goes_in v t m.0.1 (subst (λ y. Has head known kinds y v) m.0.0 h.0) in
          let e : (ms : List message.Values) × (plain_each head os vs ≡ Some ms) = each_goes_in vs os ws m.1 h.1 in
          (a.0 ∷ e.0, ap₂ both a.1 e.1)
