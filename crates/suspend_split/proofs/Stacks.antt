-- What stands around a place, one more kind at a time.
use Rattle.std.proofs.Common.{◌≡◌, ℕ, ◌-◌, refl, sym, ap, ◌∙◌, List, [], ◌∷◌, ◌++◌, length, take, Option, Some, None, arith}
use Rattle.std.specs.Option.{option_to_list}
use Rattle.std.proofs.lemmas.List.{append-nil, length-take, nil_from_length}
use Rattle.core_laws.specs.Around.{Kind}
use Rattle.suspend_split.specs.declared.around.Around.{Around}
use Rattle.suspend_split.specs.Kinds.{inner, kind, stacked}

pub stacked_push : (ls : List Kind) (bs : List Around) (a : Around) → stacked ls (bs ++ a ∷ []) ≡ kind a ∷ stacked ls bs
stacked_push ls [] a = refl
stacked_push ls (b ∷ bs) a = stacked_push (kind b ∷ ls) bs a

pub stacked_pop : (old new : List Around) (n : ℕ) (x : Option Around) → n ≡ length old → old ≡ new ++ option_to_list x → new ≡ take (n - 1) old → stacked [] new ≡ inner (stacked [] old)
stacked_pop old new n (Some a) l e m = ap inner (sym (ap (stacked []) e ∙ stacked_push [] new a))
stacked_pop old new n None l e m = ap (stacked []) none ∙ ap inner (sym (ap (stacked []) (same ∙ none)))
  where
    same : old ≡ new
    same = e ∙ append-nil new

    none : new ≡ []
    none = nil_from_length new (let k = ap length m in let t = length-take (n - 1) old in let s = ap length same in omega (arith, k, t, s, l))

-- a function of what stands around, where this is the last of the kinds
pub at_last : {X : Type 0} (f : List Kind → X) (kinds rest : List Around) (last x : Around) → kinds ≡ rest ++ last ∷ [] → last ≡ x → f (kind x ∷ stacked [] rest) ≡ f (stacked [] kinds)
at_last f kinds rest last x e i = ap (λ a. f (kind a ∷ stacked [] rest)) (sym i) ∙ sym (ap (λ ks. f (stacked [] ks)) e ∙ ap f (stacked_push [] rest last))

pub popped_none : {A : Type 0} (old new : List A) (n : ℕ) → n ≡ length old → old ≡ new ++ [] → new ≡ take (n - 1) old → old ≡ []
popped_none old new n l e m =
    nil_from_length old (let k = ap length m in let t = length-take (n - 1) old in let s = ap length (e ∙ append-nil new) in omega (arith, k, t, s, l))
