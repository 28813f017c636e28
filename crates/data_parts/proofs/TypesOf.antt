-- The types of expressions.
use Rattle.std.proofs.Common.{◌≡◌, ◌∙◌, ◌+◌, ◌<◌, ℕ, List, [], ◌∷◌, ◌++◌, length, get_or, map, take, refl, sym, ap}
use Rattle.std.proofs.lemmas.List.{take_more}
use Rattle.mo_types.specs.Sub.{Each}
use Rattle.type_terms.specs.declared.form.Form.{Form}
use Rattle.type_terms.specs.declared.form.TermId.{TermId}
use Rattle.typing_rules.specs.Terms.{Term}
use Rattle.typing_rules.specs.TypedTrees.{types_of}
use Rattle.type_definitions.specs.Meanings.{term}
use Rattle.met_types.specs.States.{IsReached}
use Rattle.value_scopes.specs.declared.scopes.Scopes.{Scopes}
use Rattle.judging.specs.declared.checker.Checker.{Checker}
use Rattle.judging.specs.Parts.{Sound}
use Rattle.judging.specs.Views.{each_in, each_reached}
use Rattle.judging.proofs.Forms.{type_is}
use Rattle.judging.proofs.Steps.{reached_within}
use Rattle.judging.proofs.TypedParts.{Given}

abbrev pub kinds : List Given → List TermId
kinds made = map (λ (a : Given). a.note.kind) made

-- the types of these, as terms
pub types_are : (later : List Form) (made : List Given) → types_of (each_in made later) ≡ map (term later) (kinds made)
types_are later [] = refl
types_are later (a ∷ made) = ap (λ (u : Term). u ∷ types_of (each_in made later)) (type_is a later) ∙ ap (λ (us : List Term). term later a.note.kind ∷ us) (types_are later made)

-- they were met
pub kinds_reached : (k : Checker) (made : List Given) → each_reached k.types made → Each (IsReached k.types) (kinds made)
kinds_reached k [] h = tt
kinds_reached k (a ∷ made) h = (h.0, kinds_reached k made h.1)

-- they stand in the table
pub kinds_below : (k : Checker) (c : Scopes) → Sound k c → (made : List Given) → each_reached k.types made → Each (λ q. q.index < length k.types.forms) (kinds made)
kinds_below k c s [] h = tt
kinds_below k c s (a ∷ made) h = (reached_within k.types a.note.kind s.known.kept h.0, kinds_below k c s made h.1)

-- one more
pub map_more : {A B : Type 0} (f : A → B) (xs : List A) (i : ℕ) (x : A) → i < length xs → x ≡ get_or xs i x → map f (take (i + 1) xs) ≡ map f (take i xs) ++ f x ∷ []
map_more {A} f xs i x h e = ap (map f) (take_more xs i x h ∙ ap (λ (y : A). take i xs ++ y ∷ []) (sym e)) ∙ at_end (take i xs) where
  at_end : (ys : List A) → map f (ys ++ x ∷ []) ≡ map f ys ++ f x ∷ []
  at_end [] = refl
  at_end (y ∷ ys) = ap (λ l. f y ∷ l) (at_end ys)
