-- Bytes that stand at the front.
use Rattle.std.proofs.Common.{◌≡◌, ℕ, cond, List, [], ◌∷◌, ◌++◌, Ok, Err, refl, ap, ◌∙◌}
use Rattle.std.proofs.lemmas.Bool.{eq-eqb}
use Rattle.exact_reading.specs.Prefix.{prefix_at}
use Rattle.exact_reading.proofs.Exact.{ok_is, if_ok, not_ok, eq_is}

module _ {F : Type 0} (short other : F) where
  pub prefix_sound : (hs bytes rest : List ℕ) → prefix_at short other hs bytes ≡ Ok rest → bytes ≡ hs ++ rest
  prefix_sound [] bytes rest e = ok_is bytes rest e
  prefix_sound (h ∷ hs) [] rest e = absurd (not_ok e)
  prefix_sound (h ∷ hs) (b ∷ bs) rest e =
      if_ok e (λ t k. ap (λ x. x ∷ bs) (eq_is b h t) ∙ ap (λ l. h ∷ l) (prefix_sound hs bs rest k)) (λ _ k. absurd (not_ok k))

  pub prefix_complete : (hs rest : List ℕ) → prefix_at short other hs (hs ++ rest) ≡ Ok rest
  prefix_complete [] rest = refl
  prefix_complete (h ∷ hs) rest = ap (λ t. cond t (prefix_at short other hs (hs ++ rest)) (Err other)) (eq-eqb h h refl) ∙ prefix_complete hs rest
