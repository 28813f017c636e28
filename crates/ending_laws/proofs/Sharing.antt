-- Types that may be sent, seen in the graph.
use Rattle.std.proofs.Common.{◌≡◌, inl, inr, ℕ, zero, suc, false, List, [], ◌∷◌, map, refl, sym, subst}
use Rattle.mo_types.specs.declared.node.Field.{Field}
use Rattle.mo_types.specs.declared.node.Node.{Node}
use Rattle.mo_types.specs.declared.node.Node.TheVariants as node
use Rattle.mo_types.specs.declared.node.TypeId.{TypeId}
use Rattle.mo_types.specs.Graph.{Slot, head_at}
use Rattle.mo_types.specs.Sub.{Each}
use Rattle.mo_subtype.specs.Renamed.{on_field, on_node}
use Rattle.subtype_laws.specs.Reached.{Among}
use Rattle.typed_tree.specs.Instances.{field_types, types_in}
use Rattle.typed_tree.specs.Shareable.{HasShareableForm, PartsShareable, Shares}
use Rattle.typing_rules.specs.Definitions.{Definitions}
use Rattle.typing_rules.specs.Heads.{head}
use Rattle.typing_rules.specs.Terms.{Term}
use Rattle.desugaring_laws.specs.GraphOf.{IsGraphOf}
use Rattle.desugaring_laws.proofs.Graph.{head_number, parts_there}
use Rattle.ending_laws.specs.Ending.{ShareableTypesAreSeen}

-- what holds of the parts of a head holds of their images
module _ {A B : Type 0} (f : A → B) (P : A → Type 0) (Q : B → Type 0) where
  abbrev Passes : List A → Type 0
  Passes xs = (x : A) → Among x xs → P x → Q (f x)

  each_seen : (xs : List A) → Passes xs → Each P xs → Each Q (map f xs)
  each_seen [] g h = tt
  each_seen (x ∷ xs) g h = (g x (inl refl) h.0, each_seen xs (λ y m. g y (inr m)) h.1)

  fields_seen : (fs : List (Field A)) → Passes (field_types fs) → Each P (field_types fs) → Each Q (field_types (map (on_field f) fs))
  fields_seen [] g h = tt
  fields_seen (x ∷ fs) g h = (g x.part (inl refl) h.0, fields_seen fs (λ y m. g y (inr m)) h.1)

  fixed_seen : (fs : List (Field A)) → Each (λ x. x.mutable ≡ false) fs → Each (λ x. x.mutable ≡ false) (map (on_field f) fs)
  fixed_seen [] h = tt
  fixed_seen (x ∷ fs) h = (h.0, fixed_seen fs h.1)

  shared : (y : Node A) → Passes (types_in y) → HasShareableForm y → PartsShareable P y → HasShareableForm (on_node f y) × PartsShareable Q (on_node f y)
  shared (node.Number k) g h i = (tt, tt)
  shared node.Bool g h i = (tt, tt)
  shared node.Char g h i = (tt, tt)
  shared node.Text g h i = (tt, tt)
  shared node.Blob g h i = (tt, tt)
  shared node.Principal g h i = (tt, tt)
  shared node.Error g h i = absurd h
  shared node.Null g h i = (tt, tt)
  shared node.Any g h i = (tt, tt)
  shared node.Bottom g h i = (tt, tt)
  shared (node.Opt a) g h i = (tt, each_seen (a ∷ []) g i)
  shared (node.Array a) g h i = (tt, each_seen (a ∷ []) g i)
  shared (node.MutArray a) g h i = absurd h
  shared (node.Tuple ts) g h i = (tt, each_seen ts g i)
  shared (node.Object fs) g h i = (fixed_seen fs h, fields_seen fs g i)
  shared (node.Actor fs) g h i = (tt, tt)
  shared (node.Variant fs) g h i = (tt, fields_seen fs g i)
  shared (node.Func s ps rs) g h i = (h, tt)
  shared (node.Async a) g h i = absurd h
  shared (node.Variable v b) g h i = absurd h

module _ (defs : Definitions) (slots : List Slot) (terms : List Term) (number : Term → TypeId) (graph : IsGraphOf defs slots terms number) where
  shares : (n : ℕ) (u : Term) → Among u terms → Shares (head defs) n u → Shares (head_at slots) n (number u)
  unfolding Shares
  shares zero u m h = tt
  shares (suc n) u m h =
      subst (λ y. HasShareableForm y × PartsShareable (Shares (head_at slots) n) y) (sym (head_number defs slots terms number graph u m))
      (shared number (Shares (head defs) n) (Shares (head_at slots) n) (head defs u) (λ v p k. shares n v (parts_there defs slots terms number graph u v m p) k) h.0 h.1)

pub shareable_types_are_seen : ShareableTypesAreSeen
shareable_types_are_seen defs slots terms number graph u m h = record { by = λ n. shares defs slots terms number graph n u m (h.by n) }
