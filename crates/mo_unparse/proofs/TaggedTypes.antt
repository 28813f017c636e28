-- In the writing of a type each mark `#` of a tag has its identifier behind it.
use Rattle.std.proofs.Common.{List, [], ◌∷◌, ◌++◌, Option, Some, None, sym, subst, map, option_map}
use Rattle.mo_syntax.specs.declared.name.Name.{Name}
use Rattle.mo_syntax.specs.declared.word.Word.TheVariants as w
use Rattle.mo_syntax.specs.declared.mark.Mark.TheVariants as m
use Rattle.mo_syntax.specs.declared.token.TokenKind.TheVariants as t
use Rattle.mo_syntax.specs.declared.types.Sharing.{Sharing}
use Rattle.mo_syntax.specs.declared.types.Sharing.TheVariants as sharing
use Rattle.mo_syntax.specs.declared.types.TypeExpression.{TypeExpression}
use Rattle.mo_syntax.specs.declared.types.TypeParameter.{TypeParameter}
use Rattle.mo_syntax.specs.Writing.{marked, led, commas, semicolons, braces, angles}
use Rattle.mo_syntax.specs.TypeGrammar.{type_tokens, type_field_tokens, type_item_tokens, type_method_tokens, type_tag_tokens, sharing_tokens, item_name, type_parameter_tokens, type_parameters_tokens}
use Rattle.mo_syntax.specs.Parts.{Within, EachWithin}
use Rattle.mo_syntax.proofs.TypeEquations as eq
use Rattle.mo_syntax.proofs.TypeInduction.{Claims, Cases, holds_TypeExpression}
use Rattle.mo_unparse.proofs.TaggedLemmas.{Closed, none, one, both, tagged, if_marked, if_led, all_commas, all_semicolons, in_parens, in_brackets, in_braces, in_angles, each_mapped, within_mapped, each_within_mapped, within_of, each_within_of}

abbrev claims : Claims
claims = record {
  of_TypeExpression = λ x. Closed (type_tokens x);
  of_TypeField = λ x. Closed (type_field_tokens x);
  of_TypeItem = λ x. Closed (type_item_tokens x);
  of_TypeMethod = λ x. Closed (type_method_tokens x);
  of_TypeTag = λ x. Closed (type_tag_tokens x);
}

of_sharing : (s : Sharing) → Closed (sharing_tokens s)
of_sharing sharing.Local = none
of_sharing sharing.Shared = (one (t.Reserved w.Shared) [] tt none)
of_sharing sharing.SharedQuery = (one (t.Reserved w.Shared) (t.Reserved w.Query ∷ []) tt (one (t.Reserved w.Query) [] tt none))

of_item_name : (name : Option Name) → Closed (item_name name)
of_item_name None = none
of_item_name (Some x) = (one (t.Identifier x) (t.Mark m.Colon ∷ []) tt (one (t.Mark m.Colon) [] tt none))

cases : Cases claims
cases = record {
  Function = λ s a b ca cb. subst Closed (sym (eq.tokens_Function s a b)) (both ((sharing_tokens s) ++ (type_tokens a)) (t.Mark m.Arrow ∷ (type_tokens b)) (both (sharing_tokens s) (type_tokens a) (of_sharing s) ca) (one (t.Mark m.Arrow) (type_tokens b) tt cb));
  Optional = λ a ca. subst Closed (sym (eq.tokens_Optional a)) (one (t.Mark m.Question) (type_tokens a) tt ca);
  Async = λ a ca. subst Closed (sym (eq.tokens_Async a)) (one (t.Reserved w.Async) (type_tokens a) tt ca);
  Named = λ x arguments c. subst Closed (sym (eq.tokens_Named x arguments)) (one (t.Identifier x) (angles (option_map (map type_tokens) arguments)) tt (in_angles (option_map (map type_tokens) arguments) (each_within_mapped type_tokens arguments c)));
  Parenthesized = λ items c. subst Closed (sym (eq.tokens_Parenthesized items)) (in_parens (commas (map type_item_tokens items)) (all_commas (map type_item_tokens items) (each_mapped type_item_tokens items c)));
  Array = λ mutable a ca. subst Closed (sym (eq.tokens_Array mutable a)) (in_brackets ((marked mutable (t.Reserved w.Var)) ++ (type_tokens a)) (both (marked mutable (t.Reserved w.Var)) (type_tokens a) (if_marked mutable (t.Reserved w.Var) tt) ca));
  Object = λ word_ fields last c. subst Closed (sym (eq.tokens_Object word_ fields last)) (both (marked word_ (t.Reserved w.Object)) (braces (semicolons (map type_field_tokens fields) last)) (if_marked word_ (t.Reserved w.Object) tt) (in_braces (semicolons (map type_field_tokens fields) last) (all_semicolons (map type_field_tokens fields) last (each_mapped type_field_tokens fields c))));
  EmptyVariant = subst Closed (sym eq.tokens_EmptyVariant) (in_braces (t.Mark m.Concat ∷ []) (one (t.Mark m.Concat) [] tt none));
  Variant = λ tags last c. subst Closed (sym (eq.tokens_Variant tags last)) (in_braces (semicolons (map type_tag_tokens tags) last) (all_semicolons (map type_tag_tokens tags) last (each_mapped type_tag_tokens tags c)));
  Actor = λ methods last c. subst Closed (sym (eq.tokens_Actor methods last)) (one (t.Reserved w.Actor) (braces (semicolons (map type_method_tokens methods) last)) tt (in_braces (semicolons (map type_method_tokens methods) last) (all_semicolons (map type_method_tokens methods) last (each_mapped type_method_tokens methods c))));
  TypeField_ = λ mutable name_ a ca. subst Closed (sym (eq.tokens_TypeField mutable name_ a)) (both (marked mutable (t.Reserved w.Var)) (t.Identifier name_ ∷ (t.Mark m.Colon ∷ (type_tokens a))) (if_marked mutable (t.Reserved w.Var) tt) (one (t.Identifier name_) (t.Mark m.Colon ∷ (type_tokens a)) tt (one (t.Mark m.Colon) (type_tokens a) tt ca)));
  TypeItem_ = λ name_ a ca. subst Closed (sym (eq.tokens_TypeItem name_ a)) (both (item_name name_) (type_tokens a) (of_item_name name_) ca);
  TypeMethod_ = λ name_ a ca. subst Closed (sym (eq.tokens_TypeMethod name_ a)) (one (t.Identifier name_) (t.Mark m.Colon ∷ (type_tokens a)) tt (one (t.Mark m.Colon) (type_tokens a) tt ca));
  TypeTag_ = λ name_ payload c. subst Closed (sym (eq.tokens_TypeTag name_ payload)) (tagged name_ (led (t.Mark m.Colon) (option_map type_tokens payload)) (if_led (t.Mark m.Colon) (option_map type_tokens payload) tt (within_mapped type_tokens payload c)));
}

pub of_type : (x : TypeExpression) → Closed (type_tokens x)
of_type = holds_TypeExpression claims cases

pub of_types_within : (o : Option TypeExpression) → Within Closed (option_map type_tokens o)
of_types_within o = within_mapped type_tokens o (within_of (λ x. Closed (type_tokens x)) of_type o)

pub of_type_lists : (o : Option (List TypeExpression)) → EachWithin Closed (option_map (map type_tokens) o)
of_type_lists o = each_within_mapped type_tokens o (each_within_of (λ x. Closed (type_tokens x)) of_type o)

of_parameter : (x : TypeParameter) → Closed (type_parameter_tokens x)
of_parameter x = (one (t.Identifier x.name) (led (t.Mark m.Subtype) (option_map type_tokens x.bound)) tt (if_led (t.Mark m.Subtype) (option_map type_tokens x.bound) tt (of_types_within x.bound)))

pub of_type_parameters : (o : Option (List TypeParameter)) → Closed (type_parameters_tokens o)
of_type_parameters o = in_angles (option_map (map type_parameter_tokens) o) (each_within_mapped type_parameter_tokens o (each_within_of (λ x. Closed (type_parameter_tokens x)) of_parameter o))
