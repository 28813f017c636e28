-- Loops that bring names of types into scope.
use Rattle.std.proofs.Common.{◌≡◌, ℕ, ◌+◌, ◌<◌, ◌≤◌, List, [], ◌∷◌, ◌++◌, length, get_or, drop, take, sym, ap, subst, ◌∙◌, append_assoc, append-nil, refl}
use Rattle.std.proofs.lemmas.List.{drop_more, at_drop_all}
use Rattle.std.proofs.Math.Seq.{take-append_seam}
use Rattle.typing_rules.specs.AbstractSyntax.{Bytes}
use Rattle.typing_rules.specs.TypeScopes.{TypeScope}
use Rattle.type_scopes.specs.declared.scope.Declared.{Declared}
use Rattle.type_scopes.specs.Scopes.{Names, both, cut, seen, with}
use Rattle.declared_names.specs.Scoping.{Extends}

pub extends_none : (s : Names) → Extends s s
extends_none s = record { names = ([], sym (append-nil s.names)); declared = ([], sym (append-nil s.declared)) }

pub extends_with : (s t : Names) (x : Bytes) (d : Declared) → t ≡ with s x d → Extends s t
extends_with s t x d e = record {
  names = (x ∷ [], ap (λ (z : Names). z.names) e);
  declared = (d ∷ [], ap (λ (z : Names). z.declared) e);
}

pub extends_same : (s t : Names) → t ≡ s → Extends s t
extends_same s t e = subst (λ (z : Names). Extends s z) (sym e) (extends_none s)

pub extends_more : (s t u : Names) → Extends s t → Extends t u → Extends s u
extends_more s t u h k = record {
  names = (h.names.0 ++ k.names.0, k.names.1 ∙ ap (λ zs. zs ++ k.names.0) h.names.1 ∙ append_assoc s.names h.names.0 k.names.0);
  declared = (h.declared.0 ++ k.declared.0, k.declared.1 ∙ ap (λ zs. zs ++ k.declared.0) h.declared.1 ∙ append_assoc s.declared h.declared.0 k.declared.0);
}

-- the scope without what was brought into it
pub taken_back : (old new : Names) (n : ℕ) → n ≡ length old.names → n ≡ length old.declared → Extends old new → cut n new ≡ old
taken_back old new n e f x =
    ap (λ (xs : List Bytes). both (take n xs) (take n new.declared)) x.names.1
    ∙ ap (λ ds. both (take n (old.names ++ x.names.0)) (take n ds)) x.declared.1
    ∙ ap (λ (k : ℕ). both (take k (old.names ++ x.names.0)) (take n (old.declared ++ x.declared.0))) e
    ∙ ap (λ (k : ℕ). both (take (length old.names) (old.names ++ x.names.0)) (take k (old.declared ++ x.declared.0))) f
    ∙ ap (λ xs. both xs (take (length old.declared) (old.declared ++ x.declared.0))) (take-append_seam old.names x.names.0)
    ∙ ap (λ ds. both old.names ds) (take-append_seam old.declared x.declared.0)

module _ {X : Type 0} (enter_all : TypeScope → List X → TypeScope) where
  -- these are still to be brought into scope
  pub record Entering (start : Names) (xs : List X) (now : Names) (rest : List X) : Type 0 where
    pub left : enter_all (seen now) rest ≡ enter_all (seen start) xs
    pub extends : Extends start now

  pub none_entered : (start : Names) (xs : List X) → Entering start xs start xs
  none_entered start xs = record { left = refl; extends = extends_none start }

  pub one_entered : (enter : TypeScope → X → TypeScope) (step : (s : TypeScope) (x : X) (ys : List X) → enter_all s (x ∷ ys) ≡ enter_all (enter s x) ys)
      (start : Names) (xs : List X) (i : ℕ) (x : X) (now new : Names) → i < length xs → x ≡ get_or xs i x → seen new ≡ enter (seen now) x → Extends now new
      → Entering start xs now (drop i xs) → Entering start xs new (drop (i + 1) xs)
  one_entered enter step start xs i x now new h e s k a =
      let d : drop i xs ≡ x ∷ drop (i + 1) xs = drop_more xs i x h ∙ ap (λ z. z ∷ drop (i + 1) xs) (sym e) in
      record {
        left = ap (λ z. enter_all z (drop (i + 1) xs)) s ∙ sym (step (seen now) x (drop (i + 1) xs)) ∙ ap (enter_all (seen now)) (sym d) ∙ a.left;
        extends = extends_more start now new a.extends k;
      }

  pub all_entered : (stop : (s : TypeScope) → enter_all s [] ≡ s) (start : Names) (xs : List X) (i : ℕ) (now : Names) → length xs ≤ i → Entering start xs now (drop i xs)
      → seen now ≡ enter_all (seen start) xs
  all_entered stop start xs i now h a = sym (at_drop_all (enter_all (seen now)) xs i h ∙ stop (seen now)) ∙ a.left
