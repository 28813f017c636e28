-- What patterns see of a value, they see of the same value with other functions.
use Rattle.std.proofs.Common.{◌≡◌, Bool, true, false, List, [], ◌∷◌, Option, Some, None, refl, ap, ◌∙◌}
use Rattle.std.specs.Prelude.{cond}
use Rattle.std.specs.Str.{bytes_eq}
use Rattle.mo_types.specs.Heads.{map_option}
use Rattle.mo_values.specs.Messages.{under}
use Rattle.mo_values.specs.Recoding.{recode, recode_all, recodes}
use Rattle.mo_values.specs.Shapes.{Bytes, Leaf, Present, Tuple, Array, Object, Tag, Error, Cell, Future, Shape, Shapes, Made, Function, NoShape, AShape, listed}
use Rattle.mo_values.specs.Views.{leaf_of, tuple_of, field_of}
use Rattle.typed_tree.specs.Patterns.{present_of, tagged_of}

module _ {F G : Type 0} (code : F → G) where
  pub leaf_seen : (v : Shape F) → leaf_of (recode code v) ≡ leaf_of v
  leaf_seen (Made (Leaf p) NoShape) = refl
  leaf_seen (Made (Leaf p) (AShape v vs)) = refl
  leaf_seen (Made Present inside) = refl
  leaf_seen (Made Tuple inside) = refl
  leaf_seen (Made Array inside) = refl
  leaf_seen (Made (Object ls) inside) = refl
  leaf_seen (Made (Tag l) inside) = refl
  leaf_seen (Made (Error c m) inside) = refl
  leaf_seen (Made (Cell at) inside) = refl
  leaf_seen (Made (Future n) inside) = refl
  leaf_seen (Function f) = refl

  pub present_seen : (v : Shape F) → present_of (recode code v) ≡ map_option (recode code) (present_of v)
  present_seen (Made Present NoShape) = refl
  present_seen (Made Present (AShape v NoShape)) = refl
  present_seen (Made Present (AShape v (AShape w vs))) = refl
  present_seen (Made (Leaf p) inside) = refl
  present_seen (Made Tuple inside) = refl
  present_seen (Made Array inside) = refl
  present_seen (Made (Object ls) inside) = refl
  present_seen (Made (Tag l) inside) = refl
  present_seen (Made (Error c m) inside) = refl
  present_seen (Made (Cell at) inside) = refl
  present_seen (Made (Future n) inside) = refl
  present_seen (Function f) = refl

  where_seen : (b : Bool) (v : Shape F) (o : Option (Shape F)) (o' : Option (Shape G)) → o' ≡ map_option (recode code) o → cond b (Some (recode code v)) o' ≡ map_option (recode code) (cond b (Some v) o)
  where_seen true v o o' e = refl
  where_seen false v o o' e = e

  pub tagged_seen : (l : Bytes) (v : Shape F) → tagged_of l (recode code v) ≡ map_option (recode code) (tagged_of l v)
  tagged_seen l (Made (Tag m) NoShape) = refl
  tagged_seen l (Made (Tag m) (AShape v NoShape)) = where_seen (bytes_eq l m) v None None refl
  tagged_seen l (Made (Tag m) (AShape v (AShape w vs))) = refl
  tagged_seen l (Made Present inside) = refl
  tagged_seen l (Made (Leaf p) inside) = refl
  tagged_seen l (Made Tuple inside) = refl
  tagged_seen l (Made Array inside) = refl
  tagged_seen l (Made (Object ls) inside) = refl
  tagged_seen l (Made (Error c m) inside) = refl
  tagged_seen l (Made (Cell at) inside) = refl
  tagged_seen l (Made (Future n) inside) = refl
  tagged_seen l (Function f) = refl

  listed_seen : (vs : Shapes F) → listed (recode_all code vs) ≡ recodes code (listed vs)
  listed_seen NoShape = refl
  listed_seen (AShape v vs) = ap (λ rest. recode code v ∷ rest) (listed_seen vs)

  pub tuple_seen : (v : Shape F) → tuple_of (recode code v) ≡ map_option (recodes code) (tuple_of v)
  tuple_seen (Made Tuple inside) = ap (λ vs. Some vs) (listed_seen inside)
  tuple_seen (Made (Leaf p) inside) = refl
  tuple_seen (Made Present inside) = refl
  tuple_seen (Made Array inside) = refl
  tuple_seen (Made (Object ls) inside) = refl
  tuple_seen (Made (Tag l) inside) = refl
  tuple_seen (Made (Error c m) inside) = refl
  tuple_seen (Made (Cell at) inside) = refl
  tuple_seen (Made (Future n) inside) = refl
  tuple_seen (Function f) = refl

  under_seen : (l : Bytes) (ls : List Bytes) (vs : List (Shape F)) → under l ls (recodes code vs) ≡ map_option (recode code) (under l ls vs)
  under_seen l [] vs = refl
  under_seen l (m ∷ ms) [] = refl
  under_seen l (m ∷ ms) (v ∷ vs) = where_seen (bytes_eq l m) v (under l ms vs) (under l ms (recodes code vs)) (under_seen l ms vs)

  pub field_seen : (l : Bytes) (v : Shape F) → field_of l (recode code v) ≡ map_option (recode code) (field_of l v)
  field_seen l (Made (Object ls) inside) = ap (λ vs. under l ls vs) (listed_seen inside) ∙ under_seen l ls (listed inside)
  field_seen l (Made (Leaf p) inside) = refl
  field_seen l (Made Present inside) = refl
  field_seen l (Made Tuple inside) = refl
  field_seen l (Made Array inside) = refl
  field_seen l (Made (Tag m) inside) = refl
  field_seen l (Made (Error c m) inside) = refl
  field_seen l (Made (Cell at) inside) = refl
  field_seen l (Made (Future n) inside) = refl
  field_seen l (Function f) = refl
