-- Scopes whose names and labels stand around those of others.
use Rattle.std.proofs.Common.{◌≡◌, ◌∙◌, ℕ, [], ◌∷◌, ◌++◌, refl, sym, ap, subst, append_assoc}
use Rattle.elaboration.specs.Checks.{Checked, behind, locals}
use Rattle.elaboration.specs.Scopes.{Scope, beside, inside, labelled}
use Rattle.core_scopes.specs.Seen.{IsWithin}

-- so is one that is the same
pub within_same : (s t u : Scope) → u ≡ t → IsWithin s t → IsWithin s u
within_same s t u is h = let Of : Scope → Type 0 = λ x. IsWithin s x in subst Of (sym is) h

pub within_both : (s t u : Scope) → IsWithin s t → IsWithin t u → IsWithin s u
within_both s t u g h = record {
  names = h.names ++ g.names;
  labels = h.labels ++ g.labels;
  places = h.places ∙ (ap (λ x. h.names ++ x) g.places ∙ sym (append_assoc h.names g.names s.places));
  exits = h.exits ∙ (ap (λ x. h.labels ++ x) g.exits ∙ sym (append_assoc h.labels g.labels s.exits));
}

pub inside_within : (s : Scope) → IsWithin s (inside s)
inside_within s = record { names = []; labels = []; places = refl; exits = refl }

pub labelled_within : (s : Scope) → IsWithin s (labelled s)
labelled_within s = record { names = []; labels = s.labels ∷ []; places = refl; exits = refl }

pub beside_within : (n : ℕ) (s : Scope) → IsWithin s (beside n s)
beside_within n s = record { names = []; labels = []; places = refl; exits = refl }

pub behind_within : (c : Checked) (s : Scope) → IsWithin s (behind c s)
behind_within c s = record { names = locals c.bound; labels = []; places = refl; exits = refl }
