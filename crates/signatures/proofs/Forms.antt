-- The type of contexts.
use Rattle.std.proofs.Common.{◌≡◌, ℕ, List, [], ◌∷◌, ap, false, map, ◌∙◌}
use Rattle.std.specs.Prelude.{Result, IfOk, codes}
use Rattle.mo_types.specs.declared.node.Field.{Field}
use Rattle.type_terms.specs.declared.form.Form.TheVariants as form
use Rattle.type_terms.specs.declared.form.TermId.{TermId}
use Rattle.typing_rules.specs.Signatures.{context_type}
use Rattle.typing_rules.specs.Terms.{Term}
use Rattle.typing_rules.specs.Terms as t
use Rattle.mo_subtype.specs.Renamed.{on_field}
use Rattle.type_definitions.specs.Meanings.{term, unlisted_fields}
use Rattle.met_types.specs.States.{State}
use Rattle.written_types.specs.Written.{Interned, Wrote}
use Rattle.written_types.proofs.Making.{then_written}
use Rattle.declared_types.proofs.Signed.{if_ok}

module _ {E : Type 0} (old mid new : State) (r : Result TermId E) where
  pub context_written : (id : TermId) (fs : List (Field TermId)) (label : List ℕ) → Interned old mid form.Principal id → label ≡ codes "caller" → fs ≡ record { label = label; mutable = false; part = id } ∷ [] → IfOk r (Interned mid new (form.Object fs)) → IfOk r (Wrote old new context_type)
  context_written id fs label i f e h = if_ok r (Interned mid new (form.Object fs)) (Wrote old new context_type) h
      (λ o j. then_written old mid new (form.Object fs) o context_type i.same j
      (λ later l.
      ap (λ (gs : List (Field TermId)). t.Object (unlisted_fields (map (on_field (term later)) gs))) e
      ∙ (ap (λ (x : List ℕ). t.Object (t.WithField x false (term later id) t.NoFields)) f ∙ ap (λ (u : Term). t.Object (t.WithField (codes "caller") false u t.NoFields)) (i.made.is later l))))
