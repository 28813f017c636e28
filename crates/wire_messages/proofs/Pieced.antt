-- The bytes of values of the column, as the definition has them.
use Rattle.std.proofs.Common.{◌≡◌, List, [], ◌∷◌, Some, None, refl, sym, ap, ◌∙◌}
use Rattle.mo_types.specs.declared.datum.Datum.{Datum}
use Rattle.mo_types.specs.declared.datum.Datum.TheVariants as part
use Rattle.mo_types.specs.declared.node.Node.{Node}
use Rattle.mo_types.specs.declared.node.TypeId.{TypeId}
use Rattle.mo_types.specs.Form.{form_part, form_inner, form}
use Rattle.mo_types.specs.Graph.{head_at}
use Rattle.mo_types.specs.Spelling.{wire_inside}
use Rattle.mo_types.specs.Values.{Values, Nil, Value, inside}
use Rattle.mo_types.specs.Wire.{refs, wire, wire_of_node}
use Rattle.mo_meaning.specs.Coding.{Types}
use Rattle.mo_coding.specs.Pieces.{Piece, join}
use Rattle.mo_coding.specs.Values.{wire_part, values_piece}
use Rattle.wire_messages.specs.declared.column.Wired.{Wired}
use Rattle.wire_messages.specs.declared.column.Wired.TheVariants.{Number, Truth, Unit as Nothing}
use Rattle.wire_messages.specs.Column.{node_of, AreOf, IsOf, AreValues, wired_piece, column_piece}

join_none : (a : Piece) → join (Some []) a ≡ a
join_none (Some x) = refl
join_none None = refl

module _ (slots : Types) where
  -- one value and the pieces behind it
  abbrev whole : Node TypeId → Datum → Values → Piece → Piece
  whole n p inner rest = join (wire_part (wire_of_node (head_at slots) n) (form_part n p)) (join (values_piece (wire (head_at slots)) (wire_inside (wire_of_node (head_at slots) n) (form_part n p)) (form_inner (head_at slots) n p (form (head_at slots) (inside n p) inner))) rest)

  one : (w : Wired) (p : Datum) (rest : Piece) → IsOf w p → whole (node_of w) p Nil rest ≡ join (wired_piece w p) rest
  one (Number k) p rest is = ap (λ p. whole (node_of (Number k)) p Nil rest) is.1 ∙ ap (join (wired_piece (Number k) (part.Number is.0))) (join_none rest) ∙ sym (ap (λ p. join (wired_piece (Number k) p) rest) is.1)
  one Truth p rest is = ap (λ p. whole (node_of Truth) p Nil rest) is.1 ∙ ap (join (wired_piece Truth (part.Flag is.0))) (join_none rest) ∙ sym (ap (λ p. join (wired_piece Truth p) rest) is.1)
  one Nothing p rest is = ap (λ p. whole (node_of Nothing) p Nil rest) is ∙ ap (join (Some [])) (join_none rest)

  pub column_is : (types : List TypeId) (ws : List Wired) (values : Values) → AreOf slots types ws → AreValues ws values → values_piece (wire (head_at slots)) (refs types) (form (head_at slots) types values) ≡ column_piece ws values
  column_is [] [] Nil of are = refl
  column_is [] [] (Value p inner others) of are = absurd are
  column_is [] (w ∷ ws) values of are = absurd of
  column_is (t ∷ types) [] values of are = absurd of
  column_is (t ∷ types) (w ∷ ws) Nil of are = absurd are
  column_is (t ∷ types) (w ∷ ws) (Value p inner others) of are =
      let rest : Piece = values_piece (wire (head_at slots)) (refs types) (form (head_at slots) types others) in
      ap (λ n. whole n p inner rest) of.0 ∙ ap (λ inner. whole (node_of w) p inner rest) are.1 ∙ one w p rest are.0 ∙ ap (join (wired_piece w p)) (column_is types ws others of.1 are.2)
