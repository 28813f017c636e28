-- Motoko values with their bytes are typed values whose Candid values have those bytes.
use Rattle.std.proofs.Common.{◌≡◌, ℕ, List, [], ◌∷◌, ◌++◌, refl, sym, ap, ◌∙◌, append_assoc}
use Rattle.mo_types.specs.declared.node.Node.{Node}
use Rattle.mo_types.specs.declared.wire.Plain.TheVariants as plain
use Rattle.mo_types.specs.declared.wire.Ref.{Ref}
use Rattle.mo_types.specs.declared.wire.Ref.TheVariants.{Just}
use Rattle.mo_types.specs.Wire.{refs, wire}
use Rattle.mo_types.specs.Form.{form}
use Rattle.mo_types.specs.Values.{Values, Nil, Value, HaveTypes}
use Rattle.mo_types.specs.Spelling.{Numbers, Spell}
use Rattle.candid_forms.specs.Forms.{Forms}
use Rattle.candid_forms.proofs.Inner.{part_to, part_from}

-- (a then b) then c, where a then b are f then g
shifted : (a b c f g bytes rest : List ℕ) → bytes ≡ a ++ rest → rest ≡ b ++ c → a ++ b ≡ f ++ g → bytes ≡ f ++ (g ++ c)
shifted a b c f g bytes rest e k h = e ∙ ap (λ (x : List ℕ). a ++ x) k ∙ sym (append_assoc a b c) ∙ ap (λ (x : List ℕ). x ++ c) h ∙ append_assoc f g c

module _ {A : Type 0} (N : Numbers) (Allowed : ℕ → Ref A → Type 0) (head : A → Node A) where
  -- so many bytes are always allowed
  pub forms_to : ((n : ℕ) → Allowed n (Just plain.Nat8)) → (ts : List A) (v : Values) (bytes : List ℕ) → Forms N Allowed head (refs ts) v bytes → HaveTypes head ts v × Spell N Allowed (wire head) (refs ts) (form head ts v) bytes
  forms_to free [] Nil bytes h = (tt, h)
  forms_to free [] (Value p inner others) bytes h = absurd h
  forms_to free (t ∷ ts) Nil bytes h = absurd h
  forms_to free (t ∷ ts) (Value p inner others) bytes h =
      let a = h.front in
      let b = h.second.front in
      let c = h.second.back in
      let i = part_to N Allowed head free (head t) p inner a b (λ us f. forms_to free us inner b f) h.first.0 h.first.1 h.second.first in
      let j = forms_to free ts others c h.second.second in (
        (h.first.0, i.0, j.0),
        record {
          front = i.1.front;
          back = i.1.back ++ c;
          whole = shifted a b c i.1.front i.1.back bytes h.back h.whole h.second.whole i.1.whole;
          first = i.1.first;
          second = record { front = i.1.back; back = c; whole = refl; first = i.1.second; second = j.1 };
        },
      )

  pub forms_from : (ts : List A) (v : Values) (bytes : List ℕ) → HaveTypes head ts v → Spell N Allowed (wire head) (refs ts) (form head ts v) bytes → Forms N Allowed head (refs ts) v bytes
  forms_from [] Nil bytes t h = h
  forms_from [] (Value p inner others) bytes t h = absurd t
  forms_from (t ∷ ts) Nil bytes u h = absurd u
  forms_from (t ∷ ts) (Value p inner others) bytes u h =
      let a = h.front in
      let b = h.second.front in
      let c = h.second.back in
      let i = part_from N Allowed head (head t) p inner (a ++ b) (λ us d k s. forms_from us inner d k s) u.0 u.1 (record { front = a; back = b; whole = refl; first = h.first; second = h.second.first }) in
      record {
        front = i.front;
        back = i.back ++ c;
        whole = shifted a b c i.front i.back bytes h.back h.whole h.second.whole i.whole;
        first = (u.0, i.first);
        second = record { front = i.back; back = c; whole = refl; first = i.second; second = forms_from ts others c u.2 h.second.second };
      }
