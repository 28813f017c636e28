-- Frames around and behind the declarations.
use Rattle.std.proofs.Common.{◌≡◌, ◌∙◌, ℕ, zero, suc, ◌+◌, ◌<◌, ◌≤◌, Bool, true, false, List, [], ◌∷◌, ◌++◌, length, drop, get_or, map, Option, refl, sym, ap}
use Rattle.std.specs.Prelude.{Result, Ok, Err, OnOk, cond}
use Rattle.std.specs.List.{list_any}
use Rattle.std.specs.Str.{bytes_eq}
use Rattle.std.proofs.lemmas.List.{append-nil}
use Rattle.mo_types.specs.Values.{copies}
use Rattle.typing_rules.specs.AbstractSyntax.{Bytes, Declarations}
use Rattle.typing_rules.specs.AbstractSyntax as p
use Rattle.typing_rules.specs.TypedTrees.{Note}
use Rattle.abstract_tree.specs.declared.declarations.Declaration.{Declaration}
use Rattle.abstract_tree.specs.TreeView.{declaration_form}
use Rattle.value_scopes.specs.declared.note.Note as value_note
use Rattle.judged_parts.specs.Parts.{See}
use Rattle.desugaring.specs.Frames.{Entry, Frame, Kept, Unnamed, hidden_by, value, with_entries, with_names}
use Rattle.desugaring.specs.Programs.{count_behind, own_entry}
use Rattle.kernel_frames.specs.Places.{frame}
use Rattle.kernel_roles.specs.Roles.{Role, list_seen, role_in, role_of}
use Rattle.kernel_roles.proofs.Walking.{drop_all, drop_none, first_seen, next}
use Rattle.kernel_outside.specs.Parts.{behind_of, with_functions}

-- ---- hidden names

module _ {A E : Type 0} (r : Result A E) (b : Bool) (hiding : List Bytes) (x : Bytes) (old new : Frame) (e : b ≡ list_any (λ y. bytes_eq x y) hiding) where
  hidden_as : {A E : Type 0} (r : Result A E) (one : Entry) → one ≡ hidden_by hiding x → OnOk r (new ≡ with_entries (one ∷ []) old) → OnOk r (new ≡ with_entries (hidden_by hiding x ∷ []) old)
  hidden_as (Ok a) one h k = k ∙ ap (λ (z : Entry). with_entries (z ∷ []) old) h
  hidden_as (Err y) one h k = tt

  pub hidden : b ≡ true → OnOk r (new ≡ with_entries (Unnamed ∷ []) old) → OnOk r (new ≡ with_entries (hidden_by hiding x ∷ []) old)
  hidden h k = hidden_as r Unnamed (ap (λ (c : Bool). cond c Unnamed (value x)) (sym h ∙ e)) k

  pub shown : b ≡ false → OnOk r (new ≡ with_entries (value x ∷ []) old) → OnOk r (new ≡ with_entries (hidden_by hiding x ∷ []) old)
  shown h k = hidden_as r (value x) (ap (λ (c : Bool). cond c Unnamed (value x)) (sym h ∙ e)) k

-- ---- around

pub around_is : (methods stable : List Bytes) (name : Option Bytes) (f g h i : Frame) → f ≡ frame [] [] → g ≡ with_entries (map Kept stable) f → h ≡ with_names methods g → i ≡ with_entries (own_entry methods name ∷ []) h
    → i ≡ frame (own_entry methods name ∷ map value methods ++ map Kept stable) []
around_is methods stable name f g h i e k l m =
    m ∙ (ap (λ (z : Frame). with_entries (own_entry methods name ∷ []) z) (l ∙ ap (λ (z : Frame). with_names methods z) (k ∙ ap (λ (z : Frame). with_entries (map Kept stable) z) e))
    ∙ ap (λ (z : List Entry). frame (own_entry methods name ∷ (map value methods ++ z)) []) (append-nil (map Kept stable)))

pub own_as : {A E : Type 0} (r : Result A E) (methods : List Bytes) (name own : Option Bytes) (old new : Frame) → own ≡ name → OnOk r (new ≡ with_entries (own_entry methods own ∷ []) old) → OnOk r (new ≡ with_entries (own_entry methods name ∷ []) old)
own_as (Ok a) methods name own old new e h = h ∙ ap (λ (z : Option Bytes). with_entries (own_entry methods z ∷ []) old) e
own_as (Err x) methods name own old new e h = tt

-- ---- behind

module _ (z w : Role) (e : z ≡ w) (old new : Frame) where
  pub behind_as : {A E : Type 0} (r : Result A E) (more : List Entry) → more ≡ behind_of z → OnOk r (new ≡ with_entries more old) → OnOk r (new ≡ with_entries (behind_of w) old)
  behind_as (Ok a) more h k = k ∙ (ap (λ (l : List Entry). with_entries l old) h ∙ ap (λ (y : Role). with_entries (behind_of y) old) e)
  behind_as (Err x) more h k = tt

pub none_behind : (z w : Role) (old : Frame) → z ≡ w → behind_of z ≡ [] → old ≡ with_entries (behind_of w) old
none_behind z w old e h = ap (λ (l : List Entry). with_entries l old) (sym h) ∙ ap (λ (y : Role). with_entries (behind_of y) old) e

shifted : {A : Type 0} (a : A) (n : ℕ) (xs : List A) → copies n a ++ (a ∷ xs) ≡ a ∷ (copies n a ++ xs)
shifted a zero xs = refl
shifted {A} a (suc n) xs = ap (λ (l : List A). a ∷ l) (shifted a n xs)

module _ (public : Bool) (n : Note) (rest : Declarations Note) (f : Frame) where
  one_behind : (d : p.Declaration Note) → with_functions rest (with_entries (behind_of (role_of d)) f) ≡ with_functions (p.Then public n d rest) f
  one_behind (p.Let q a) = refl
  one_behind (p.Var false x u a) = refl
  one_behind (p.Var true x u a) = refl
  one_behind (p.Func x g body) = refl
  one_behind (p.Method query context x g body) = ap (λ (l : List Entry). frame l f.exits) (shifted Unnamed (count_behind rest) f.names)
  one_behind (p.System x body) = ap (λ (l : List Entry). frame l f.exits) (shifted Unnamed (count_behind rest) f.names)
  one_behind (p.TypeAlias x parameters u) = refl
  one_behind (p.Class x g fields) = refl
  one_behind (p.NamedObject x fields) = refl
  one_behind (p.Evaluate a) = refl

module _ (see : See) (ds : List (Declaration value_note.Note)) (f : Frame) where
  pub functions_begun : with_functions (list_seen see (drop 0 ds)) f ≡ with_functions (list_seen see ds) f
  functions_begun = ap (λ (l : List (Declaration value_note.Note)). with_functions (list_seen see l) f) (drop_none ds)

  pub functions_next : (i : ℕ) (d : Declaration value_note.Note) (g whole : Frame) → i < length ds → d ≡ get_or ds i d → with_functions (list_seen see (drop i ds)) f ≡ whole → g ≡ with_entries (behind_of (role_in see d)) f
      → with_functions (list_seen see (drop (i + 1) ds)) g ≡ whole
  functions_next i d g whole l e h k =
      ap (λ (z : Frame). with_functions (list_seen see (drop (i + 1) ds)) z) k
      ∙ (one_behind d.public (see d.note) (list_seen see (drop (i + 1) ds)) f (declaration_form see d.form)
      ∙ (sym (first_seen see (λ (z : Declarations Note). with_functions z f) d (drop (i + 1) ds))
      ∙ (ap (λ (z : List (Declaration value_note.Note)). with_functions (list_seen see z) f) (sym (next ds i d l e)) ∙ h)))

  pub functions_end : (i : ℕ) (whole : Frame) → length ds ≤ i → with_functions (list_seen see (drop i ds)) f ≡ whole → f ≡ whole
  functions_end i whole l h = ap (λ (z : List (Declaration value_note.Note)). with_functions (list_seen see z) f) (sym (drop_all ds i l)) ∙ h
