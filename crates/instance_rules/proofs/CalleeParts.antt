-- Callees by their forms.
use Rattle.std.proofs.Common.{◌≡◌, ◌∙◌, ℕ, true, false, List, [], ◌∷◌, length, Option, Some, None, refl, sym, ap, subst, arith}
use Rattle.std.proofs.lemmas.Bool.{eqb-true}
use Rattle.std.specs.Prelude.{nat_eq}
use Rattle.std.specs.Option.{option_and_then}
use Rattle.mo_scopes.specs.declared.library.Member.{Member}
use Rattle.mo_scopes.specs.Scopes.{named}
use Rattle.type_terms.specs.declared.form.Form.{Form}
use Rattle.typing_rules.specs.AbstractSyntax as p
use Rattle.typing_rules.specs.Calls.{built_in, if_generic, polymorphic}
use Rattle.typing_rules.specs.Contexts as rule
use Rattle.typing_rules.specs.Contexts.{Context, value_named}
use Rattle.typing_rules.specs.Members.{member_bound}
use Rattle.typing_rules.specs.TypedTrees.{Note}
use Rattle.type_definitions.specs.Tables.{Later, Within}
use Rattle.met_types.specs.States.{State, Kept}
use Rattle.abstract_tree.specs.declared.declarations.DeclarationForm.TheOpen as F
use Rattle.abstract_tree.specs.declared.declarations.Declaration.{Declaration}
use Rattle.abstract_tree.specs.declared.declarations.DeclarationForm.{DeclarationForm}
use Rattle.abstract_tree.specs.declared.expressions.Case.{Case}
use Rattle.abstract_tree.specs.declared.expressions.ObjectField.{ObjectField}
use Rattle.abstract_tree.specs.declared.expressions.Expression.{Expression}
use Rattle.abstract_tree.specs.declared.expressions.ExpressionForm.{ExpressionForm, map-ExpressionForm, out-ExpressionForm, roll-out-ExpressionForm, roll-ExpressionForm, fold_out-ExpressionForm}
use Rattle.abstract_tree.specs.declared.expressions.ExpressionForm.TheVariants as shapes
use Rattle.abstract_tree.specs.TreeView.{CaseView, FieldView, DeclarationView, case, case_step, declaration, declaration_form, declaration_form_step, declaration_step, expression, expression_form, expression_step, field_step, form_step, object_field, plain, plain_case, plain_declaration, plain_declaration_form, plain_field, plain_form}
use Rattle.built_in_members.specs.Written.{WritesBound}
use Rattle.value_scopes.specs.declared.bound.Bound as value
use Rattle.value_scopes.specs.declared.place.Place.{Place}
use Rattle.value_scopes.specs.declared.scopes.Scopes.{Scopes}
use Rattle.value_scopes.specs.Places.{context_in}
use Rattle.value_scopes.specs.Values.{Hold, bound_in, noted}
use Rattle.proper_types.proofs.Judging.{goes_itself}
use Rattle.name_rules.proofs.NoNames.{is_name, value_seen}
use Rattle.name_rules.proofs.Naming.{bound_within}
use Rattle.judging.proofs.Forms.{seen, seen_BuiltIn, seen_Member, seen_Name}
use Rattle.instance_rules.specs.declared.callees.Generic.{Generic}
use Rattle.instance_rules.specs.Callees.{FindsGeneric, IsNamed, Sought, of_member, of_name}

-- ---- functions with and without type parameters

module _ (later : List Form) (f : p.Form Note) where
  none_of : (b : value.Bound) (gs : List ℕ) → b.generics ≡ gs → nat_eq (length gs) 0 ≡ true → if_generic (bound_in later b) f ≡ None
  none_of b [] e g = ap (λ (gs : List ℕ). if_generic (record { type = (bound_in later b).type; mutable = b.mutable; generics = gs }) f) e
  none_of b (x ∷ gs) e g = let h : length (x ∷ gs) ≡ 0 = eqb-true (length (x ∷ gs)) 0 g in absurd (omega (arith, h))

  some_of : (b : value.Bound) (gs : List ℕ) → b.generics ≡ gs → nat_eq (length gs) 0 ≡ false → if_generic (bound_in later b) f ≡ Some (bound_in later b, f)
  some_of b [] e g = let z : true ≡ false = g in cc
  some_of b (x ∷ gs) e g =
      let with : List ℕ → rule.Bound = λ hs. record { type = (bound_in later b).type; mutable = b.mutable; generics = hs } in
      ap (λ (hs : List ℕ). if_generic (with hs) f) e ∙ ap (λ (hs : List ℕ). Some (with hs, f)) (sym e)

-- ---- names of values

module _ (s : State) (k : Kept s) (c : Scopes) (x : List ℕ) where
  pub no_generic : (sought : Sought) → ((later : List Form) → Later s.forms later → (place : Place) → sought later place ≡ None) → FindsGeneric s sought None s
  no_generic sought h = record { kept = k; goes = goes_itself s; stands = λ met g. g; within = tt; is = h }

  pub not_there : None ≡ named c.values x → FindsGeneric s (of_name c x) None s
  not_there e = no_generic (of_name c x) (λ later l place. ap (λ (o : Option rule.Bound). option_and_then (λ b. if_generic b (p.Name x)) o) (value_seen later c.values x None e))

  module _ (b : value.Bound) (e : Some b ≡ named c.values x) where
    at_name : (later : List Form) (place : Place) → of_name c x later place ≡ if_generic (bound_in later b) (p.Name x)
    at_name later place = ap (λ (o : Option rule.Bound). option_and_then (λ b. if_generic b (p.Name x)) o) (value_seen later c.values x (Some b) e)

    pub no_parameters : nat_eq (length b.generics) 0 ≡ true → FindsGeneric s (of_name c x) None s
    no_parameters g = no_generic (of_name c x) (λ later l place. at_name later place ∙ none_of later (p.Name x) b b.generics refl g)

    pub name_found : nat_eq (length b.generics) 0 ≡ false → Hold s.forms c.values → (made : Generic) → made.bound ≡ b → IsNamed x made.form → FindsGeneric s (of_name c x) (Some made) s
    name_found g hold made q n = record {
      kept = k;
      goes = goes_itself s;
      stands = λ met h. h;
      within = within_as made.bound q;
      is = λ later l place.
          at_name later place
          ∙ (some_of later (p.Name x) b b.generics refl g
          ∙ (ap (λ (z : value.Bound). Some (bound_in later z, p.Name x)) (sym q) ∙ ap (λ (f : p.Form Note). Some (bound_in later made.bound, f)) (sym (n later))));
    } where
      within_as : (z : value.Bound) → z ≡ b → Within s.forms z.kind
      within_as z q = subst (λ (y : value.Bound). Within s.forms y.kind) (sym q) (bound_within s.forms c.values x b e hold)

-- ---- members of modules

module _ (s : State) (c : Scopes) (a : p.Expression ℕ) (x : List ℕ) where
  pub no_member : Kept s → ((later : List Form) (place : Place) → built_in (context_in later c place) a x ≡ None) → FindsGeneric s (of_member c a x) None s
  no_member k e = record {
    kept = k;
    goes = goes_itself s;
    stands = λ met g. g;
    within = tt;
    is = λ later l place. ap (λ (o : Option Member). option_and_then (λ m. if_generic (member_bound m) (p.BuiltIn m)) o) (e later place);
  }

  module _ (m : Member) (e : (later : List Form) (place : Place) → built_in (context_in later c place) a x ≡ Some m) (t : State) (b : value.Bound) (w : WritesBound s m b t) where
    at_member : (later : List Form) → Later t.forms later → (place : Place) → of_member c a x later place ≡ if_generic (bound_in later b) (p.BuiltIn m)
    at_member later l place =
        ap (λ (o : Option Member). option_and_then (λ m. if_generic (member_bound m) (p.BuiltIn m)) o) (e later place)
        ∙ ap (λ (z : rule.Bound). if_generic z (p.BuiltIn m)) (sym (w.is later l))

    pub plain_member : nat_eq (length b.generics) 0 ≡ true → FindsGeneric s (of_member c a x) None t
    plain_member g = record {
      kept = w.added.kept;
      goes = w.added.goes;
      stands = w.added.stands;
      within = tt;
      is = λ later l place. at_member later l place ∙ none_of later (p.BuiltIn m) b b.generics refl g;
    }

    pub member_found : nat_eq (length b.generics) 0 ≡ false → FindsGeneric s (of_member c a x) (Some (record { bound = b; form = shapes.BuiltIn m })) t
    member_found g = record {
      kept = w.added.kept;
      goes = w.added.goes;
      stands = w.added.stands;
      within = w.within;
      is = λ later l place.
          at_member later l place
          ∙ (some_of later (p.BuiltIn m) b b.generics refl g ∙ ap (λ (f : p.Form Note). Some (bound_in later b, f)) (sym (seen_BuiltIn (noted later) m)));
    }

-- ---- by the form of the callee

abbrev same : ℕ → ℕ
same n = n

-- what is seen as a member is one
is_member : (form : ExpressionForm ℕ) (a : p.Expression ℕ) (x : List ℕ) → plain_form form ≡ p.Member a x → (b : Expression ℕ) × (form ≡ shapes.Member b x) × (plain b ≡ a)
unfolding expression expression_form declaration declaration_form case object_field
is_member form a x g =
    by (out-ExpressionForm ℕ form) (roll-out-ExpressionForm ℕ form)
    (sym (fold_out-ExpressionForm ℕ (p.Declaration ℕ) (p.Form ℕ) (DeclarationView ℕ) (CaseView ℕ) (p.Expression ℕ) (FieldView ℕ) (declaration_form_step same) (form_step same) (declaration_step same) (case_step same) (expression_step same) (field_step same) form) ∙ g)
  where
    by : (z : F.ExpressionForm-F ℕ (DeclarationForm ℕ) (ExpressionForm ℕ) (Declaration ℕ) (Case ℕ) (Expression ℕ) (ObjectField ℕ)) → roll-ExpressionForm ℕ z ≡ form
        → form_step same (map-ExpressionForm ℕ (DeclarationForm ℕ) (ExpressionForm ℕ) (Declaration ℕ) (Case ℕ) (Expression ℕ) (ObjectField ℕ) (p.Declaration ℕ) (p.Form ℕ) (DeclarationView ℕ) (CaseView ℕ) (p.Expression ℕ) (FieldView ℕ) plain_declaration_form plain_form plain_declaration plain_case plain plain_field z) ≡ p.Member a x
        → (b : Expression ℕ) × (form ≡ shapes.Member b x) × (plain b ≡ a)
    by (F.Member b y) q h =
        let i : plain b ≡ a = cc in
        let j : y ≡ x = cc in
        (b, sym q ∙ (shapes.rolls-Member b y ∙ ap (λ (w : List ℕ). shapes.Member b w) j), i)
    by _ q h = cc

module _ (c : Context) (a : Expression ℕ) where
  pub callee_name : (x : List ℕ) → a.form ≡ shapes.Name x → polymorphic c (plain a) ≡ option_and_then (λ b. if_generic b (p.Name x)) (value_named c x)
  callee_name x q = ap (λ (b : p.Expression ℕ). polymorphic c b) (seen same a ∙ ap (λ (f : p.Form ℕ). p.exp a.note f) (ap plain_form q ∙ seen_Name same x))

  pub callee_member : (o : Expression ℕ) (x : List ℕ) → a.form ≡ shapes.Member o x → polymorphic c (plain a) ≡ option_and_then (λ m. if_generic (member_bound m) (p.BuiltIn m)) (built_in c (plain o) x)
  callee_member o x q = ap (λ (b : p.Expression ℕ). polymorphic c b) (seen same a ∙ ap (λ (f : p.Form ℕ). p.exp a.note f) (ap plain_form q ∙ seen_Member same o x))

  pub callee_other : ((x : List ℕ) → a.form ≡ shapes.Name x → ⊥) → ((o : Expression ℕ) (x : List ℕ) → a.form ≡ shapes.Member o x → ⊥) → polymorphic c (plain a) ≡ None
  callee_other n m = ap (λ (b : p.Expression ℕ). polymorphic c b) (seen same a) ∙ by (plain_form a.form) (λ x q. n x (is_name a.form x q)) (λ o x q. let y = is_member a.form o x q in m y.0 x y.1) where
    by : (f : p.Form ℕ) → ((x : List ℕ) → f ≡ p.Name x → ⊥) → ((o : p.Expression ℕ) (x : List ℕ) → f ≡ p.Member o x → ⊥) → polymorphic c (p.exp a.note f) ≡ None
    by (p.Name x) g h = absurd (g x refl)
    by (p.Member o x) g h = absurd (h o x refl)
    by _ g h = refl

-- the same, where it is sought otherwise
module _ (s : State) (i j : Sought) (o : Option Generic) (t : State) where
  pub sought_as : ((later : List Form) (place : Place) → j later place ≡ i later place) → FindsGeneric s i o t → FindsGeneric s j o t
  sought_as e f = record { kept = f.kept; goes = f.goes; stands = f.stands; within = f.within; is = λ later l place. e later place ∙ f.is later l place }
