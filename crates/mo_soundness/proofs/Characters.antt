-- The next character of a text: it is one, since the text is UTF-8.
use Rattle.std.proofs.Common.{◌≡◌, inl, inr, ℕ, zero, suc, List, [], ◌∷◌, Bool, true, false, true≢false, Option, Some, None, refl, sym, ap, ◌∙◌, subst, slice_get, pos, ◌+◌}
use Rattle.std.specs.Prelude.{◌&&◌}
use Rattle.std.specs.Str.{is_utf8, chars}
use Rattle.std.proofs.lemmas.Str.{IsUtf8-from_is_utf8, scalars-chars}
use lib.Utf8.{scalar, scalars, scalar_cases}
use Rattle.mo_num.specs.Kinds.{InRange}
use Rattle.mo_num.specs.declared.kind.Kind.TheVariants as kind
use Rattle.mo_types.specs.declared.datum.Datum.TheVariants as part
use Rattle.mo_types.specs.declared.node.Node.TheVariants as node
use Rattle.mo_types.specs.declared.node.TypeId.{TypeId}
use Rattle.mo_types.specs.Values.{IsScalar}
use Rattle.mo_values.specs.Costs.{weighing}
use Rattle.mo_values.specs.Messages.{only_if}
use Rattle.mo_values.specs.Shapes.{Bytes, Leaf, Array, Error, Cell, size}
use Rattle.mo_values.specs.Views.{text_of, text_in}
use Rattle.typed_tree.specs.Language.{Value, Made, Function, BuiltIn, NoValue, AValue, Val, leaf}
use Rattle.typed_tree.specs.MemberTypes.{IsText, IsNumber}
use Rattle.typed_tree.specs.Opening.{shape_of}
use Rattle.typed_tree.specs.Wants.{Want, Of, CellOf, Equal}
use Rattle.typed_tree.proofs.Leaves.{passes}
use Rattle.mo_meaning.specs.Acts.{Store}
use Rattle.mo_meaning.specs.Cells.{cell_of, held}
use Rattle.mo_meaning.specs.Members.{char_body, next_char, next_char_at, number, number_in}
use Rattle.mo_soundness.specs.Keeps.{closed, Keeps}
use Rattle.mo_soundness.specs.Lawful.{IsLawful}
use Rattle.mo_soundness.specs.Running.{AnswerTypes, HasValue, Typed, StoreTyped}
use Rattle.mo_soundness.specs.Worlds.{World}
use Rattle.mo_soundness.proofs.Bodies.{frame_keeps, natural_seen, number_fits, advance_typed, option_typed, null_fits}
use Rattle.mo_soundness.proofs.Cells.{store_at}
use Rattle.mo_soundness.proofs.Found.{At, opened, made_at}
use Rattle.mo_soundness.proofs.Less.{has_sub}

both : (a b : Bool) → (a && b) ≡ true → (a ≡ true) × (b ≡ true)
both true b e = (refl, e)
both false b e = absurd (true≢false (sym e))

scalar_at : (cs : List ℕ) (i c : ℕ) → scalars cs ≡ true → slice_get cs i ≡ Some c → IsScalar c
scalar_at [] i c s e = absurd (let z : None ≡ Some c = e in cc)
scalar_at (d ∷ cs) zero c s e = let same : d ≡ c = cc in subst IsScalar same (scalar_cases d (both (scalar d) (scalars cs) s).0)
scalar_at (d ∷ cs) (suc i) c s e = scalar_at cs i c (both (scalar d) (scalars cs) s).1 e

module _ (world : World) (lawful : IsLawful world.head) (answers : AnswerTypes) (kinds : List TypeId) where
  abbrev Has : Want TypeId → Value → Type 0
  Has = HasValue world answers kinds

  text_seen : (t : TypeId) (v : Value) → IsText world.head t → Has (Of t) v → (x : Bytes) × (text_of (shape_of v) ≡ Some x) × (is_utf8 x ≡ true)
  text_seen t v q h = by v (opened world answers kinds t node.Text v q h)
    where
      by : (v : Value) → At world answers kinds node.Text t v → (x : Bytes) × (text_of (shape_of v) ≡ Some x) × (is_utf8 x ≡ true)
      by (Made (Leaf (part.Text x)) NoValue) k = (x, ap (λ b. text_in (only_if b (part.Text x))) (passes node.Text (part.Text x) tt k.0.1), k.0.1)
      by (Made (Leaf (part.Text x)) (AValue v vs)) k = absurd k.1
      by (Made (Leaf p) inner) k = absurd k.0.1
      by (Made Array inner) (inl r, k) = absurd r
      by (Made Array inner) (inr r, k) = absurd r
      by (Made (Error c m) inner) k = absurd (true≢false (sym k.0.0))
      by (Made h inner) k = absurd k.0
      by (Function g n) k = absurd k
      by (BuiltIn m holds) k = absurd k

  number_seen : (store : Store) (place : Value) (k : TypeId) → StoreTyped world answers kinds store kinds → IsNumber world.head kind.Nat k → Has (CellOf k) place → (n : ℕ) × (number_in (held store (cell_of place)) ≡ Some n) × InRange kind.Nat (pos n)
  number_seen store (Made (Cell at) NoValue) k st q h =
      let r = store_at world lawful answers kinds store kinds at (λ u. Equal world.head k u) st h in
      let n = natural_seen world lawful answers kinds k r.v q (has_sub world lawful answers kinds r.v (Of r.kind) (Of k) r.has r.holds.1) in
      (n.0, ap number_in r.is ∙ n.1, n.2)
  number_seen store place k st q h = absurd h

  body_typed : (place : Value) (i : ℕ) (c k r : TypeId) (o : Option ℕ) → world.head c ≡ node.Char → IsNumber world.head kind.Nat k → InRange kind.Nat (pos i) → Has (CellOf k) place → world.head r ≡ node.Opt c → ((ch : ℕ) → o ≡ Some ch → IsScalar ch) → Typed world answers kinds (closed (r ∷ [])) (char_body place i o) (Of r)
  body_typed place i c k r None qc qk range h q s = null_fits world lawful answers kinds r c q
  body_typed place i c k r (Some ch) qc qk range h q s =
      let char : Has (Of c) (leaf (part.Char ch)) = made_at world answers kinds c node.Char (Leaf (part.Char ch)) NoValue qc ((tt, s ch refl), tt) in
      (Of lawful.unit, advance_typed world lawful answers kinds (closed (r ∷ [])) place (Val (number i)) k qk h (number_fits world lawful answers kinds k i qk range), ([], refl, option_typed world lawful answers kinds (closed (r ∷ [])) (Val (leaf (part.Char ch))) r c q char, tt))

  pub next_char_keeps : (ls : List TypeId) (store : Store) (a place : Value) (t c k r : TypeId) → StoreTyped world answers kinds store kinds → IsText world.head t → world.head c ≡ node.Char → IsNumber world.head kind.Nat k → Has (Of t) a → Has (CellOf k) place → world.head r ≡ node.Opt c → Keeps world answers kinds ls (Of r) (next_char store a place)
  next_char_keeps ls store a place t c k r st qt qc qk h l q =
      let x = text_seen t a qt h in
      let n = number_seen store place k st qk l in
      subst (λ o. Keeps world answers kinds ls (Of r) (next_char_at store a place o (number_in (held store (cell_of place))))) (sym x.1)
      (subst (λ o. Keeps world answers kinds ls (Of r) (next_char_at store a place (Some x.0) o)) (sym n.1)
      (frame_keeps world lawful answers kinds ls store (weighing (1 + size (shape_of a))) r (char_body place n.0 (slice_get (chars x.0) n.0)) st
      (body_typed place n.0 c k r (slice_get (chars x.0) n.0) qc qk n.2 l q (λ ch e. scalar_at (chars x.0) n.0 ch (scalars-chars x.0 (IsUtf8-from_is_utf8 x.0 x.2)) e))))
