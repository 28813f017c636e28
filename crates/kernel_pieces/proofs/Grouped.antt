-- The functions of a list by their places.
use Rattle.std.proofs.Common.{◌≡◌, ◌∙◌, ℕ, suc, ◌+◌, ◌<◌, ◌≤◌, ◌⊎◌, inl, inr, Bool, true, false, cond, nat_eq, List, [], ◌∷◌, ◌++◌, length, map, drop, take, get_or, refl, sym, ap, arith}
use Rattle.std.specs.Prelude.{Option, Some, Result, Ok, Err, IfOk, OnOk, flat_map, filter, slice_get}
use Rattle.std.proofs.lemmas.List.{append-nil, flat_map_more, length-map, map-append, take_more}
use Rattle.std.proofs.lemmas.Option.{slice_get-get_or, slice_get_past}
use Rattle.typed_tree.specs.declared.expression.Function.{Function}
use Rattle.typed_tree.specs.declared.expression.Step.{Step}
use Rattle.typed_tree.specs.Placing.{Declared, is_function, place}
use Rattle.typing_rules.specs.AbstractSyntax.{Bytes}
use Rattle.typing_rules.specs.AbstractSyntax as p
use Rattle.typing_rules.specs.TypedTrees as trees
use Rattle.abstract_tree.specs.declared.declarations.Declaration.{Declaration}
use Rattle.abstract_tree.specs.declared.declarations.DeclarationForm.{DeclarationForm}
use Rattle.abstract_tree.specs.TreeView.{DeclarationView, declaration_form}
use Rattle.value_scopes.specs.declared.note.Note.{Note}
use Rattle.value_scopes.specs.Values.{noted}
use Rattle.met_types.specs.States.{State}
use Rattle.judged_parts.proofs.TreeViews.{declaration_is}
use Rattle.desugaring.specs.Expressions.{becomes, pieces}
use Rattle.desugaring.specs.FreeNames.{declared}
use Rattle.desugaring.specs.Frames.{Entry, Frame, value, with_entries, with_names}
use Rattle.desugaring.specs.Pieces.{Named, Piece, arranged, function_of, group_at, group_steps, names_of}
use Rattle.kernel_types.specs.Numbers.{definitions, number}
use Rattle.kernel_parts.specs.Views.{list_in, list_of}
use Rattle.kernel_places.specs.Reaching.{function_place}
use Rattle.kernel_places.specs.Similar.{declared_list}
use Rattle.kernel_groups.specs.Indexes.{IsGrouped, indexes_from}
use Rattle.kernel_declarations.specs.Becoming.{becomes_in, becomes_of, made_in, name_of}
use Rattle.kernel_pieces.specs.Ordered.{AreGroups, IsGroup, all_of, function_at, group_in, group_step, piece_of, pieces_of}
use Rattle.kernel_pieces.proofs.Drops.{at_drop, behind_drop, drop_none}

-- ---- written groups

names_are : (gs : List Named) → map value (map name_of gs) ≡ names_of gs
names_are [] = refl
names_are (g ∷ gs) = ap (λ (l : List Entry). value (name_of g) ∷ l) (names_are gs)

step_is : (gs : List Named) (f : Frame) → group_step (map (made_in (with_entries (names_of gs) f)) gs) ≡ group_steps gs f
step_is [] f = refl
step_is (g ∷ gs) f = refl

pub group_written : {A E : Type 0} (r : Result A E) (gs : List Named) (old new : List Step) (f mid g : Frame) (names : List Bytes) (functions : List Function)
    → names ≡ map name_of gs → mid ≡ with_names names f → functions ≡ map (made_in mid) gs → g ≡ mid → OnOk r (new ≡ old ++ group_step functions) → OnOk r (IsGroup gs old f new g)
group_written (Ok a) gs old new f mid g names functions e h k m n =
    let at : mid ≡ with_entries (names_of gs) f = h ∙ (ap (λ (xs : List Bytes). with_names xs f) e ∙ ap (λ (es : List Entry). with_entries es f) (names_are gs)) in
    record {
      steps = n ∙ ap (λ (l : List Step). old ++ l) (ap group_step (k ∙ ap (λ (z : Frame). map (made_in z) gs) at) ∙ step_is gs f);
      frame = m ∙ at;
    }
group_written (Err x) gs old new f mid g names functions e h k m n = tt

-- ---- groups of indexes

abbrev nothing : {A : Type 0} → List A
nothing = []

none : (b : Bool) → cond b (nothing {A = Named}) [] ≡ []
none true = refl
none false = refl

same_place : (all : List Declared) (d : Declared) (n : ℕ) (xs : List Named) → (is_function d ≡ true) ⊎ (xs ≡ []) → cond (nat_eq (function_place all d) n) xs [] ≡ cond (nat_eq (place all d) n) xs []
same_place all d n xs (inl e) = ap (λ (b : Bool). cond (nat_eq (cond b (place all d) 0) n) xs []) e
same_place all d n xs (inr e) =
    ap (λ (l : List Named). cond (nat_eq (function_place all d) n) l []) e
    ∙ (none (nat_eq (function_place all d) n) ∙ (sym (none (nat_eq (place all d) n)) ∙ ap (λ (l : List Named). cond (nat_eq (place all d) n) l []) (sym e)))

one_or_none : {A : Type 0} (f : A → List Named) (b : Bool) (x : A) (xs : List A) → flat_map f (cond b (x ∷ xs) xs) ≡ cond b (f x) [] ++ flat_map f xs
one_or_none f true x xs = refl
one_or_none f false x xs = refl

module _ (s : State) where
  pub pieces_are : (ds : List (Declaration Note)) → pieces (definitions s) (number s) (list_in s ds) ≡ pieces_of s ds
  pieces_are [] = refl
  pieces_are (x ∷ ds) =
      ap {B = List Piece} (λ (f : DeclarationView trees.Note). pieces (definitions s) (number s) (f (list_in s ds))) (declaration_is (noted s.forms) x)
      ∙ ap (λ (z : List Piece). piece_of s x ∷ z) (pieces_are ds)

  pub list_is : (f : Frame) (v : Bool) (ds : List (Declaration Note)) → list_of s f v ds ≡ arranged v (pieces_of s ds) f
  list_is f v ds = ap (λ (l : List Piece). arranged v l f) (pieces_are ds)

  all_are : (ds : List (Declaration Note)) → declared_list (noted s.forms) ds ≡ all_of s ds
  all_are [] = refl
  all_are (d ∷ ds) = ap (λ (l : List Declared). declared (declaration_form (noted s.forms) d.form) ∷ l) (all_are ds)

  function_or_none : (n : trees.Note) (z : p.Declaration trees.Note) → (is_function (declared z) ≡ true) ⊎ (function_of (becomes (definitions s) (number s) n z) ≡ [])
  function_or_none n (p.Let q a) = inr refl
  function_or_none n (p.Var false x t a) = inr refl
  function_or_none n (p.Var true x t a) = inr refl
  function_or_none n (p.Func x g body) = inl refl
  function_or_none n (p.Method query context x g body) = inr refl
  function_or_none n (p.System x body) = inr refl
  function_or_none n (p.TypeAlias x parameters t) = inr refl
  function_or_none n (p.Class x g fields) = inl refl
  function_or_none n (p.NamedObject x fields) = inr refl
  function_or_none n (p.Evaluate a) = inr refl

  module _ (whole : List (Declaration Note)) (all : List Declared) (n : ℕ) where
    abbrev at_index : ℕ → List Named
    at_index k = function_at s (slice_get whole k)

    abbrev placed_as : Declaration Note → Declared
    placed_as d = declared (declaration_form (noted s.forms) d.form)

    abbrev places_from : List (Declaration Note) → List ℕ
    places_from ds = map (function_place all) (declared_list (noted s.forms) ds)

    from : (k : ℕ) (rest : List (Declaration Note)) → drop k whole ≡ rest → flat_map at_index (indexes_from n k (places_from rest)) ≡ group_at all n (pieces_of s rest)
    from k [] e = refl
    from k (d ∷ rest) e =
        one_or_none at_index (nat_eq (function_place all (placed_as d)) n) k (indexes_from n (suc k) (places_from rest))
        ∙ (ap (λ (o : Option (Declaration Note)). cond (nat_eq (function_place all (placed_as d)) n) (function_at s o) [] ++ flat_map at_index (indexes_from n (suc k) (places_from rest))) (at_drop whole k d rest e)
        ∙ (ap (λ (l : List Named). cond (nat_eq (function_place all (placed_as d)) n) (function_of (becomes_in s d)) [] ++ l) (from (suc k) rest (behind_drop whole k d rest e))
        ∙ (ap (λ (l : List Named). l ++ group_at all n (pieces_of s rest)) (same_place all (placed_as d) n (function_of (becomes_in s d)) (function_or_none (noted s.forms d.note) (declaration_form (noted s.forms) d.form)))
        ∙ sym (one_or_none (λ (b : Piece). function_of b.becomes) (nat_eq (place all (placed_as d)) n) (piece_of s d) (filter (λ (b : Piece). nat_eq (place all b.declared) n) (pieces_of s rest))))))

  pub grouped : (ds : List (Declaration Note)) (places : List ℕ) (groups : List (List ℕ)) → places ≡ map (function_place (declared_list (noted s.forms) ds)) (declared_list (noted s.forms) ds) → IsGrouped places groups → AreGroups s ds groups
  grouped ds places groups e g n h =
      let long : length places ≡ length ds = ap length e ∙ (length-map (declared_list (noted s.forms) ds) (function_place (declared_list (noted s.forms) ds)) ∙ length-map ds (λ (d : Declaration Note). declared (declaration_form (noted s.forms) d.form))) in
      let within : n ≤ length places = omega (arith, h, long) in
      ap (group_in s ds) (g n within) ∙ (ap (λ (l : List ℕ). group_in s ds (indexes_from n 0 l)) e
      ∙ (from ds (declared_list (noted s.forms) ds) n 0 ds (drop_none ds) ∙ ap (λ (all : List Declared). group_at all n (pieces_of s ds)) (all_are ds)))

  pub grouped_all : {E : Type 0} (ds : List (Declaration Note)) (places : List ℕ) (r : Result (List (List ℕ)) E) → places ≡ map (function_place (declared_list (noted s.forms) ds)) (declared_list (noted s.forms) ds)
      → IfOk r (λ m. IsGrouped places m) → IfOk r (λ m. AreGroups s ds m)
  grouped_all ds places (Ok groups) e h = grouped ds places groups e h
  grouped_all ds places (Err x) e h = tt

  -- ---- one function

  module _ {B : Type 0} (h : Named → B) (old new : List B) (ds : List (Declaration Note)) (k : ℕ) where
    pub added_at : {A E : Type 0} (r : Result A E) (d : Declaration Note) (form : DeclarationForm Note) → k < length ds → d ≡ get_or ds k d → form ≡ d.form
        → OnOk r (new ≡ old ++ map h (function_of (becomes_of s d.note form))) → OnOk r (new ≡ old ++ map h (function_at s (slice_get ds k)))
    added_at (Ok a) d form l i e g =
        let there : slice_get ds k ≡ Some d = slice_get-get_or ds k d l ∙ ap (λ (z : Declaration Note). Some z) (sym i) in
        g ∙ (ap (λ (x : DeclarationForm Note). old ++ map h (function_of (becomes_of s d.note x))) e ∙ ap (λ (z : Option (Declaration Note)). old ++ map h (function_at s z)) (sym there))
    added_at (Err x) d form l i e g = tt

  pub nothing_at : {B : Type 0} (h : Named → B) (old : List B) (ds : List (Declaration Note)) (k : ℕ) → length ds ≤ k → old ≡ old ++ map h (function_at s (slice_get ds k))
  nothing_at h old ds k l = sym (append-nil old) ∙ ap (λ (z : Option (Declaration Note)). old ++ map h (function_at s z)) (sym (slice_get_past ds k l))

  -- ---- one index more

  pub one_more : {B : Type 0} (h : Named → B) (ds : List (Declaration Note)) (indexes : List ℕ) (i k : ℕ) (made new : List B) → i < length indexes → k ≡ get_or indexes i 0
      → made ≡ map h (group_in s ds (take i indexes)) → new ≡ made ++ map h (function_at s (slice_get ds k)) → new ≡ map h (group_in s ds (take (i + 1) indexes))
  one_more {B} h ds indexes i k made new l e g n =
      n ∙ (ap (λ (z : List B). z ++ map h (function_at s (slice_get ds k))) g
      ∙ (ap (λ (j : ℕ). map h (group_in s ds (take i indexes)) ++ map h (function_at s (slice_get ds j))) e
      ∙ (sym (map-append h (group_in s ds (take i indexes)) (function_at s (slice_get ds (get_or indexes i 0))))
      ∙ ap (map h) (flat_map_more (λ (j : ℕ). function_at s (slice_get ds j)) [] (take i indexes) (get_or indexes i 0) ∙ ap (group_in s ds) (sym (take_more indexes i 0 l))))))
