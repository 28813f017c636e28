-- Fewer values than types have no message.
use Rattle.std.proofs.Common.{ℕ, ◌⊎◌, inl, inr, List, [], ◌∷◌, ◌∙◌}
use Rattle.mo_types.specs.declared.node.Node.{Node}
use Rattle.mo_types.specs.declared.wire.Ref.{Ref}
use Rattle.mo_types.specs.Code.{beside, Code}
use Rattle.mo_types.specs.Form.{form}
use Rattle.mo_types.specs.Spelling.{AnyCount, Numbers, Spell, shortest}
use Rattle.mo_types.specs.Values.{Values, Nil, Value, inside, HaveTypes}
use Rattle.mo_types.specs.Wire.{refs, wire}
use Rattle.kept_forms.proofs.Trees.{length_inside, typed_full, IsFull}

module _ {A : Type 0} (head : A → Node A) where
  -- fewer values than types
  abbrev pub IsShort : List A → Values → Type 0
  IsShort [] v = ⊥
  IsShort (t ∷ ts) Nil = Unit {0}
  IsShort (t ∷ ts) (Value p i o) = IsShort ts o

  -- a value more
  pub put_first : (t : A) (ts : List A) (m w : Values) → HaveTypes head (t ∷ []) m → IsFull w × (HaveTypes head ts w ⊎ IsShort ts w)
      → IsFull (beside m w) × (HaveTypes head (t ∷ ts) (beside m w) ⊎ IsShort (t ∷ ts) (beside m w))
  put_first t ts Nil w h k = absurd h
  put_first t ts (Value p i (Value q j o)) w h k = absurd h.2
  put_first t ts (Value p i Nil) w h k =
      let inner = typed_full head (inside (head t) p) i h.1 in
      ((inner.0 ∙ length_inside (head t) p h.0, inner.1, k.0), by k.1)
    where
      by : HaveTypes head ts w ⊎ IsShort ts w → HaveTypes head (t ∷ ts) (Value p i w) ⊎ IsShort (t ∷ ts) (Value p i w)
      by (inl x) = inl (h.0, h.1, x)
      by (inr x) = inr x

  short_not : (N : Numbers) (Allowed : ℕ → Ref A → Type 0) (ts : List A) (v : Values) (bytes : List ℕ) → IsShort ts v → Spell N Allowed (wire head) (refs ts) (form head ts v) bytes → ⊥
  short_not N Allowed [] v bytes h k = h
  short_not N Allowed (t ∷ ts) Nil bytes h k = k
  short_not N Allowed (t ∷ ts) (Value p i o) bytes h k = short_not N Allowed ts o k.second.back h k.second.second

  pub short_not_coded : (ts : List A) (v : Values) (bytes : List ℕ) → IsShort ts v → Code head ts v bytes → ⊥
  short_not_coded ts v bytes h k = short_not shortest AnyCount ts v k.back h k.second
