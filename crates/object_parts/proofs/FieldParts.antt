-- The fields of types of objects, with the terms of their types.
use Rattle.std.proofs.Common.{◌≡◌, ◌∙◌, ◌+◌, ◌<◌, ℕ, Bool, List, [], ◌∷◌, ◌++◌, get_or, length, map, take, Option, Some, None, option_map, refl, sym, ap, subst}
use Rattle.std.proofs.lemmas.List.{take_more}
use Rattle.mo_types.specs.declared.node.Node.{Node}
use Rattle.mo_types.specs.declared.node.Node.TheVariants as node
use Rattle.mo_types.specs.declared.node.Field.{Field}
use Rattle.mo_types.specs.declared.node.TypeId.{TypeId}
use Rattle.mo_types.specs.Heads.{object_of}
use Rattle.mo_types.specs.Sub.{Each}
use Rattle.mo_subtype.specs.Renamed.{on_field, on_node}
use Rattle.type_terms.specs.declared.form.Form.{Form}
use Rattle.type_terms.specs.declared.form.TermId.{TermId}
use Rattle.typing_rules.specs.Terms.{Term}
use Rattle.typing_rules.specs.Graphs.{term_of}
use Rattle.type_definitions.specs.Meanings.{term}
use Rattle.met_types.specs.Closing.{terms_in}
use Rattle.met_types.specs.States.{State, IsNodeOf, IsReached}
use Rattle.judging.specs.Heads.{HeadHas}
use Rattle.judging.proofs.NodeParts.{part_is}
use Rattle.object_parts.specs.Found.{FieldFound, FieldsFound}

object_mapped : {A B : Type 0} (f : A → B) (y : Node A) → object_of (on_node f y) ≡ option_map (map (on_field f)) (object_of y)
object_mapped f (node.Object fs) = refl
object_mapped f _ = refl

pub fields_reached : (s : State) (fs : List (Field TypeId)) (gs : List (Field TermId)) → FieldsFound s fs gs → Each (λ g. IsReached s g.part) gs
fields_reached s [] [] h = tt
fields_reached s [] (g ∷ gs) h = absurd h
fields_reached s (f ∷ fs) [] h = absurd h
fields_reached s (f ∷ fs) (g ∷ gs) h = ((f.part.index, h.0.part), fields_reached s fs gs h.1)

pub one_more_field : (s : State) (fs : List (Field TypeId)) (gs : List (Field TermId)) (f : Field TypeId) (g : Field TermId) → FieldsFound s fs gs → FieldFound s f g → FieldsFound s (fs ++ f ∷ []) (gs ++ g ∷ [])
one_more_field s [] [] f g h e = (e, tt)
one_more_field s [] (y ∷ gs) f g h e = absurd h
one_more_field s (x ∷ fs) [] f g h e = absurd h
one_more_field s (x ∷ fs) (y ∷ gs) f g h e = (h.0, one_more_field s fs gs f g h.1 e)

pub next_field : (s : State) (fs : List (Field TypeId)) (i : ℕ) (f : Field TypeId) (gs more : List (Field TermId)) (g : Field TermId) → i < length fs → f ≡ get_or fs i f → more ≡ gs ++ g ∷ []
    → FieldsFound s (take i fs) gs → FieldFound s f g → FieldsFound s (take (i + 1) fs) more
next_field s fs i f gs more g l e q h k =
    subst (λ (xs : List (Field TypeId)). FieldsFound s xs more) (sym (take_more fs i f l ∙ ap (λ (y : Field TypeId). take i fs ++ y ∷ []) (sym e)))
    (subst (λ (xs : List (Field TermId)). FieldsFound s (take i fs ++ f ∷ []) xs) (sym q) (one_more_field s (take i fs) gs f g h k))

field_term : (s : State) (f : Field TypeId) (g : Field TermId) (later : List Form) → FieldFound s f g → on_field (term_of (terms_in later s.reached)) f ≡ on_field (term later) g
field_term s f g later h =
    ap (λ (l : List ℕ). record { label = l; mutable = f.mutable; part = term_of (terms_in later s.reached) f.part }) (sym h.label)
    ∙ (ap (λ (b : Bool). record { label = g.label; mutable = b; part = term_of (terms_in later s.reached) f.part }) (sym h.mutable)
    ∙ ap (λ (u : Term). record { label = g.label; mutable = g.mutable; part = u }) (part_is s f.part g.part later h.part))

field_terms : (s : State) (fs : List (Field TypeId)) (gs : List (Field TermId)) (later : List Form) → FieldsFound s fs gs → map (on_field (term_of (terms_in later s.reached))) fs ≡ map (on_field (term later)) gs
field_terms s [] [] later h = refl
field_terms s [] (g ∷ gs) later h = absurd h
field_terms s (f ∷ fs) [] later h = absurd h
field_terms s (f ∷ fs) (g ∷ gs) later h =
    ap (λ (m : Field Term). m ∷ map (on_field (term_of (terms_in later s.reached))) fs) (field_term s f g later h.0)
    ∙ ap (λ (ms : List (Field Term)). on_field (term later) g ∷ ms) (field_terms s fs gs later h.1)

module _ (s : State) (id : TermId) (n : Node TypeId) (h : IsNodeOf s id n) where
  objects_are : (o : Option (List (Field TypeId))) → o ≡ object_of n → HeadHas object_of s id (λ later. option_map (map (on_field (term_of (terms_in later s.reached)))) o)
  objects_are o e later l =
      ap object_of (h.is later l)
      ∙ (object_mapped (term_of (terms_in later s.reached)) n ∙ ap (option_map (map (on_field (term_of (terms_in later s.reached))))) (sym e))

  pub object_is : (fs : List (Field TypeId)) (gs : List (Field TermId)) → Some fs ≡ object_of n → FieldsFound s fs gs → HeadHas object_of s id (λ later. Some (map (on_field (term later)) gs))
  object_is fs gs e g later l = objects_are (Some fs) e later l ∙ ap (λ (ms : List (Field Term)). Some ms) (field_terms s fs gs later g)

  pub no_object : None ≡ object_of n → HeadHas object_of s id (λ later. None)
  no_object e later l = objects_are None e later l
