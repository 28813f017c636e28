-- Definitions of parts, and type parameters that are among others.
use Rattle.std.proofs.Common.{◌⊎◌, inl, inr, ℕ, List, [], ◌∷◌, ◌++◌, refl}
use Rattle.mo_types.specs.Sub.{Each}
use Rattle.typed_tree.specs.Instances.{IsAmong}
use Rattle.typing_rules.specs.Definitions.{Definitions}
use Rattle.typing_rules.specs.Gathered.{both}
use Rattle.scope_laws.specs.Gathers.{Gathers}

each_first : {A : Type 0} (P : A → Type 0) (xs ys : List A) → Each P (xs ++ ys) → Each P xs
each_first P [] ys h = tt
each_first P (x ∷ xs) ys h = (h.0, each_first P xs ys h.1)

each_second : {A : Type 0} (P : A → Type 0) (xs ys : List A) → Each P (xs ++ ys) → Each P ys
each_second P [] ys h = h
each_second P (x ∷ xs) ys h = each_second P xs ys h.1

pub left_part : (defs a b : Definitions) → Gathers defs (both a b) → Gathers defs a
left_part defs a b h = record { types = each_first _ a.types b.types h.types; parameters = each_first _ a.parameters b.parameters h.parameters }

pub right_part : (defs a b : Definitions) → Gathers defs (both a b) → Gathers defs b
right_part defs a b h = record { types = each_second _ a.types b.types h.types; parameters = each_second _ a.parameters b.parameters h.parameters }

pub among_first : (vs ws : List ℕ) (v : ℕ) → IsAmong v vs → IsAmong v (vs ++ ws)
among_first [] ws v m = absurd m
among_first (u ∷ vs) ws v (inl e) = inl e
among_first (u ∷ vs) ws v (inr m) = inr (among_first vs ws v m)

pub among_last : (vs : List ℕ) (v : ℕ) → IsAmong v (vs ++ v ∷ [])
among_last [] v = inl refl
among_last (u ∷ vs) v = inr (among_last vs v)

pub each_of : (P : ℕ → Type 0) (vs : List ℕ) → ((v : ℕ) → IsAmong v vs → P v) → Each P vs
each_of P [] f = tt
each_of P (v ∷ vs) f = (f v (inl refl), each_of P vs (λ w m. f w (inr m)))

pub among_split : (vs ws : List ℕ) (v : ℕ) → IsAmong v (vs ++ ws) → IsAmong v vs ⊎ IsAmong v ws
among_split [] ws v m = inr m
among_split (u ∷ vs) ws v (inl e) = inl (inl e)
among_split (u ∷ vs) ws v (inr m) = on (among_split vs ws v m) where
  on : IsAmong v vs ⊎ IsAmong v ws → IsAmong v (u ∷ vs) ⊎ IsAmong v ws
  on (inl k) = inl (inr k)
  on (inr k) = inr k
