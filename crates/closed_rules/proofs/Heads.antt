-- Heads of types that came to others, and their parts.
use Rattle.std.proofs.Common.{◌≡◌, ◌∙◌, inl, inr, ℕ, zero, suc, List, [], ◌∷◌, map, Bool, true, false, Option, Some, None, refl, sym, ap, subst, slice_get}
use Rattle.std.specs.Prelude.{option_map}
use Rattle.std.proofs.lemmas.Option.{slice_get-map}
use Rattle.mo_types.specs.declared.node.Field.{Field}
use Rattle.mo_types.specs.declared.node.Node.{Node}
use Rattle.mo_types.specs.declared.node.Node.TheVariants as node
use Rattle.mo_types.specs.Heads.{map_option}
use Rattle.mo_types.specs.Sub.{Each, find}
use Rattle.mo_types.specs.Values.{copies}
use Rattle.mo_subtype.specs.Renamed.{on_field, on_node}
use Rattle.typed_tree.specs.Has.{by_mutability, field_want}
use Rattle.typed_tree.specs.Instances.{IsAmong}
use Rattle.typed_tree.specs.MemberTypes.{IsField, IsElementOf}
use Rattle.typed_tree.specs.Shareable.{IsSharedFunction}
use Rattle.typed_tree.specs.Wants.{Want, Of}
use Rattle.closed_types.specs.Closings.{IsNoVariable, Closing}
use Rattle.closed_types.proofs.Expanded.{found}
use Rattle.closed_rules.specs.ClosedWants.{close_want, close_wants}

module _ {A B : Type 0} (f : A → B) where
  pub copies_map : (n : ℕ) (x : A) → map f (copies n x) ≡ copies n (f x)
  copies_map zero x = refl
  copies_map (suc n) x = ap (λ ys. f x ∷ ys) (copies_map n x)

  pub got : (xs : List A) (i : ℕ) (x : A) → slice_get xs i ≡ Some x → slice_get (map f xs) i ≡ Some (f x)
  got xs i x e = slice_get-map f xs i ∙ ap (option_map f) e

  pub found_as : (l : List ℕ) (fs : List (Field A)) (x : Field A) → find l fs ≡ Some x → find l (map (on_field f) fs) ≡ Some (on_field f x)
  found_as l fs x e = found f l fs ∙ ap (map_option (on_field f)) e

  pub types_map : (ts : List A) → close_wants f (map (λ t. Of t) ts) ≡ map (λ t. Of t) (map f ts)
  types_map [] = refl
  types_map (t ∷ ts) = ap (λ (ws : List (Want B)). Of (f t) ∷ ws) (types_map ts)

  mutable_map : (x : Field A) (m : Bool) → close_want f (by_mutability m x.part) ≡ by_mutability m (f x.part)
  mutable_map x true = refl
  mutable_map x false = refl

  pub field_map : (o : Option (Field A)) → close_want f (field_want o) ≡ field_want (map_option (on_field f) o)
  field_map None = refl
  field_map (Some x) = mutable_map x x.mutable

  pub labels_map : (fs : List (Field A)) (ls : List (List ℕ)) → close_wants f (map (λ l. field_want (find l fs)) ls) ≡ map (λ l. field_want (find l (map (on_field f) fs))) ls
  labels_map fs [] = refl
  labels_map fs (l ∷ ls) =
      ap (λ (w : Want B). w ∷ close_wants f (map (λ l. field_want (find l fs)) ls)) (field_map (find l fs) ∙ ap field_want (sym (found f l fs)))
      ∙ ap (λ (ws : List (Want B)). field_want (find l (map (on_field f) fs)) ∷ ws) (labels_map fs ls)

  pub among_map : (fs : List (Field A)) (ls : List (List ℕ)) → Each (λ x. IsAmong x.label ls) fs → Each (λ x. IsAmong x.label ls) (map (on_field f) fs)
  among_map [] ls h = tt
  among_map (x ∷ fs) ls h = (h.0, among_map fs ls h.1)

  shared_on : (x : Node A) → IsSharedFunction x → IsNoVariable x × IsSharedFunction (on_node f x)
  shared_on (node.Func s ps rs) h = (refl, h)
  shared_on x h = absurd h

module _ {A B : Type 0} (head : A → Node A) (other : B → Node B) (c : Closing head other) where
  pub at : (t : A) (x : Node A) → head t ≡ x → IsNoVariable x → other (c.close t) ≡ on_node c.close x
  at t x e i = c.others t (subst IsNoVariable (sym e) i) ∙ ap (on_node c.close) e

  pub shared_at : (t : A) → IsSharedFunction (head t) → IsSharedFunction (other (c.close t))
  shared_at t h = let s = shared_on c.close (head t) h in subst IsSharedFunction (sym (c.others t s.0)) s.1

  pub field_at : (fs : List (Field A)) (l : List ℕ) (t : A) → IsField head fs l t → IsField other (map (on_field c.close) fs) l (c.close t)
  field_at fs l t h = (on_field c.close h.0, found_as c.close l fs h.0 h.1, h.2, ap c.close h.3)

  pub element_at : (a t : A) → IsElementOf head a t → IsElementOf other (c.close a) (c.close t)
  element_at a t (inl e) = inl (at a (node.Array t) e refl)
  element_at a t (inr e) = inr (at a (node.MutArray t) e refl)
