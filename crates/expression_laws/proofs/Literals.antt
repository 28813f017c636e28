-- Literals.
use Rattle.std.proofs.Common.{◌≡◌, ℕ, Bool, true, false, Option, Some, refl, sym, subst}
use Rattle.std.specs.Prelude.{ℤ, pos, neg_ℤ}
use Rattle.std.specs.Str.{is_utf8}
use Rattle.mo_num.specs.declared.kind.Kind.{Kind}
use Rattle.mo_num.specs.declared.kind.Kind.TheVariants as kind
use Rattle.mo_types.specs.declared.datum.Datum.TheVariants as part
use Rattle.mo_types.specs.declared.node.Node.{Node}
use Rattle.mo_types.specs.declared.node.Node.TheVariants as node
use Rattle.mo_types.specs.declared.node.TypeId.{TypeId}
use Rattle.mo_types.specs.Graph.{head_at}
use Rattle.mo_types.specs.Heads.{number_of}
use Rattle.mo_types.specs.Values.{IsPartOf}
use Rattle.mo_values.specs.Parts.{is_in_range}
use Rattle.mo_values.proofs.Leaves.{leaf_is}
use Rattle.subtype_laws.specs.Reached.{Among}
use Rattle.typed_tree.specs.declared.expression.Form.TheOpen as F
use Rattle.typed_tree.specs.PatternTypes.{LiteralOf}
use Rattle.typing_rules.specs.AbstractSyntax.{Literal}
use Rattle.typing_rules.specs.AbstractSyntax as p
use Rattle.typing_rules.specs.Ends.{wanted}
use Rattle.typing_rules.specs.Heads.{head}
use Rattle.typing_rules.specs.Literals.{blob_of, Number, Constant}
use Rattle.typing_rules.specs.Terms.{Term}
use Rattle.typing_rules.specs.Terms as t
use Rattle.typing_rules.specs.TypedTrees.{Note}
use Rattle.desugaring.specs.Nodes.{literal_at, constant}
use Rattle.desugaring_laws.specs.Written.{IsWritten}
use Rattle.desugaring_laws.specs.Yields.{Yields}
use Rattle.desugaring_laws.proofs.HeadForms.{is_number}
use Rattle.desugaring_laws.proofs.Yielding.{tests, by_case}
use Rattle.expression_laws.proofs.Ending.{Setting, Place, there, Known, WantKnown, Is, Value, Made, IsPlain, has, fits, a_value}
use Rattle.expression_laws.proofs.Heads.{boolean_head, boolean_fine, character_head, character_fine, text_head, text_fine, null_head, null_fine, number_head, number_fine}
use Rattle.expression_laws.proofs.Wanting.{wanted_is}

blob_is : (y : Node Term) (z : Unit {0}) → blob_of y ≡ Some z → y ≡ node.Blob
blob_is node.Blob z e = refl
blob_is node.Bool z e = cc
blob_is node.Char z e = cc
blob_is node.Text z e = cc
blob_is node.Principal z e = cc
blob_is node.Error z e = cc
blob_is node.Null z e = cc
blob_is node.Any z e = cc
blob_is node.Bottom z e = cc
blob_is (node.Number k) z e = cc
blob_is (node.Opt a) z e = cc
blob_is (node.Array a) z e = cc
blob_is (node.MutArray a) z e = cc
blob_is (node.Tuple ts) z e = cc
blob_is (node.Object fs) z e = cc
blob_is (node.Actor fs) z e = cc
blob_is (node.Variant fs) z e = cc
blob_is (node.Func s ps rs) z e = cc
blob_is (node.Async a) z e = cc
blob_is (node.Variable v b) z e = cc

module _ (S : Setting) (A : Place S) where
  -- a literal at a type that has it
  abbrev IsLiteral : Term → Bool → Literal → Type 0
  IsLiteral u minus l = LiteralOf (head_at S.slots) (literal_at minus l (head S.defs u)) (S.number u)

  pub literal_value : (u : Term) → Known S A u → (minus : Bool) (l : Literal) → IsLiteral u minus l → Value S A u (constant S.defs S.number u (literal_at minus l (head S.defs u)))
  literal_value u k minus l h = a_value S A u k (F.Constant (literal_at minus l (head S.defs u))) (S.number u, refl, h)

  abbrev signed : Bool → ℕ → ℤ
  signed false n = pos n
  signed true n = neg_ℤ (pos n)

  pub number_literal : (u : Term) → Among u S.terms → (j : Kind) → head S.defs u ≡ node.Number j → (minus : Bool) (n : ℕ) → is_in_range j (signed minus n) ≡ true → IsLiteral u minus (p.Number n)
  number_literal u m j e false n r = (tt, subst (λ y. IsPartOf y (part.Number (pos n))) (sym (there S u m (node.Number j) e)) (leaf_is {A = TypeId} (node.Number j) (part.Number (pos n)) r))
  number_literal u m j e true n r = (tt, subst (λ y. IsPartOf y (part.Number (neg_ℤ (pos n)))) (sym (there S u m (node.Number j) e)) (leaf_is {A = TypeId} (node.Number j) (part.Number (neg_ℤ (pos n))) r))

  -- a number, whose form at a type is its literal with this sign
  pub number_typed : (n : ℕ) (w : Option Term) → WantKnown S A w → (j : Kind) (minus : Bool) (m : ℕ) (x : p.Form Note) → ((u : Term) → IsPlain S A n u x)
      → ((u : Term) → Made S A n u x ≡ constant S.defs S.number u (literal_at minus (p.Number m) (head S.defs u))) → Yields S.defs S.terms (Number S.defs n w j (signed minus m) x) (Is S A w)
  number_typed n w k j minus m x plain made =
      by_case S.defs S.terms (wanted S.defs number_of w) _ _ (Is S A w) (λ q e.
      let r = wanted_is S.defs number_of w q e in
      let v : Known S A q.0 = subst (λ z. WantKnown S A z) r.0 k in
      tests S.defs S.terms _ n (is_in_range q.1 (signed minus m)) _ (Is S A w) (λ range.
      fits S A n q.0 x (plain q.0) (subst (λ z. Value S A q.0 z) (sym (made q.0)) (literal_value q.0 v minus (p.Number m) (number_literal q.0 v.there q.1 (is_number (head S.defs q.0) q.1 r.1) minus m range))) w r.0)) (λ e.
      tests S.defs S.terms _ n (is_in_range j (signed minus m)) _ (Is S A w) (λ range.
      has S A n w (t.Number j) x (plain (t.Number j)) k (λ h.
      subst (λ z. Value S A (t.Number j) z) (sym (made (t.Number j)))
      (literal_value (t.Number j) (record { there = h; fine = number_fine S.defs A.context.parameters j }) minus (p.Number m) (number_literal (t.Number j) h j (number_head S.defs j) minus m range)))))

  pub constant_typed : (n : ℕ) (l : Literal) → IsWritten l → (w : Option Term) → WantKnown S A w → Yields S.defs S.terms (Constant S.defs n w l) (Is S A w)
  constant_typed n (p.Number m) i w k = number_typed n w k kind.Nat false m (p.Constant (p.Number m)) (λ u l. refl) (λ u. refl)
  constant_typed n (p.Character c) i w k =
      has S A n w t.Character (p.Constant (p.Character c)) (λ l. refl) k (λ m.
      literal_value t.Character (record { there = m; fine = character_fine S.defs A.context.parameters }) false (p.Character c) (tt, subst (λ y. IsPartOf y (part.Char c)) (sym (there S t.Character m node.Char (character_head S.defs))) i))
  constant_typed n p.True i w k =
      has S A n w t.Boolean (p.Constant p.True) (λ l. refl) k (λ m.
      literal_value t.Boolean (record { there = m; fine = boolean_fine S.defs A.context.parameters }) false p.True (tt, subst (λ y. IsPartOf y (part.Flag true)) (sym (there S t.Boolean m node.Bool (boolean_head S.defs))) tt))
  constant_typed n p.False i w k =
      has S A n w t.Boolean (p.Constant p.False) (λ l. refl) k (λ m.
      literal_value t.Boolean (record { there = m; fine = boolean_fine S.defs A.context.parameters }) false p.False (tt, subst (λ y. IsPartOf y (part.Flag false)) (sym (there S t.Boolean m node.Bool (boolean_head S.defs))) tt))
  constant_typed n p.Null i w k =
      has S A n w t.Null (p.Constant p.Null) (λ l. refl) k (λ m.
      literal_value t.Null (record { there = m; fine = null_fine S.defs A.context.parameters }) false p.Null (tt, subst (λ y. IsPartOf y part.Null) (sym (there S t.Null m node.Null (null_head S.defs))) tt))
  constant_typed n (p.Text x) i w k =
      by_case S.defs S.terms (wanted S.defs blob_of w) _ _ (Is S A w) (λ q e.
      let r = wanted_is S.defs blob_of w q e in
      let v : Known S A q.0 = subst (λ z. WantKnown S A z) r.0 k in
      let b : head S.defs q.0 ≡ node.Blob = blob_is (head S.defs q.0) q.1 r.1 in
      fits S A n q.0 (p.Constant (p.Text x)) (λ l. refl)
      (literal_value q.0 v false (p.Text x) (subst (λ y. LiteralOf (head_at S.slots) (literal_at false (p.Text x) y) (S.number q.0)) (sym b) (tt, subst (λ y. IsPartOf y (part.Blob x)) (sym (there S q.0 v.there node.Blob b)) tt))) w r.0) (λ e.
      tests S.defs S.terms _ n (is_utf8 x) _ (Is S A w) (λ utf.
      has S A n w t.Text (p.Constant (p.Text x)) (λ l. refl) k (λ m.
      literal_value t.Text (record { there = m; fine = text_fine S.defs A.context.parameters }) false (p.Text x)
      (subst (λ y. LiteralOf (head_at S.slots) (literal_at false (p.Text x) y) (S.number t.Text)) (sym (text_head S.defs)) (tt, subst (λ y. IsPartOf y (part.Text x)) (sym (there S t.Text m node.Text (text_head S.defs))) utf)))))
