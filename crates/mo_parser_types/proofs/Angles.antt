-- What stands in `< >` is read exactly.
use Rattle.std.proofs.Common.{◌≡◌, ℕ, List, [], ◌∷◌, ◌++◌, map, option_map, Option, Some, None, refl}
use Rattle.std.specs.Prelude.{◌≢◌}
use Rattle.mo_syntax.specs.declared.name.Name.{Name}
use Rattle.mo_syntax.specs.declared.token.TokenKind.{TokenKind}
use Rattle.mo_syntax.specs.declared.token.TokenKind.TheVariants as t
use Rattle.mo_syntax.specs.declared.mark.Mark.TheVariants as m
use Rattle.mo_syntax.specs.declared.types.TypeExpression.{TypeExpression}
use Rattle.mo_syntax.specs.declared.types.TypeParameter.{TypeParameter}
use Rattle.mo_syntax.specs.Writing as W
use Rattle.mo_syntax.specs.Parts.{Each, Within, EachWithin}
use Rattle.mo_syntax.specs.TypeGrammar.{type_tokens, IsType, type_parameter_tokens, type_parameters_tokens, IsTypeParameter, AreTypeParameters}
use Rattle.mo_parser_base.specs.Input.{Input, identifier, comma}
use Rattle.mo_parser_base.proofs.Exact.{Next, Exact, Any, Always, both, a_name, behind_by, commas_exact, fewer}
use Rattle.mo_parser_base.proofs.Made.{mapped, as_written, ends_by, each_within_listed, within_listed_each}
use Rattle.mo_parser_types.specs.Generics as p
use Rattle.mo_parser_types.specs.Ends.{EndsType}
use Rattle.mo_parser_types.proofs.Whole.{a_type_exact, no_type, no_angle_at}

angles_text : {A : Type 0} (w : A → Input) (x : Option (List A)) →
    W.angles (option_map (map w) x) ≡ W.led (t.Mark m.AngleOpen) (option_map (λ xs. W.commas (map w xs) ++ t.Mark m.AngleClose ∷ []) x)
angles_text w None = refl
angles_text w (Some xs) = refl

bound_text : (x : Option TypeExpression) (y : Name) → type_parameter_tokens (p.to_parameter (y, x)) ≡ (t.Identifier y ∷ []) ++ W.led (t.Mark m.Subtype) (option_map type_tokens x)
bound_text x y = refl

abbrev not_open : Next → Type 0
not_open n = n ≢ Some (t.Mark m.AngleOpen)

parameter_exact : (b : ℕ) → Exact b p.parameter type_parameter_tokens (λ x n. IsTypeParameter x) (λ n. (n ≢ Some (t.Mark m.Subtype)) × EndsType n)
unfolding p.parameter
parameter_exact b = mapped (both (a_name b) (fewer (behind_by (t.Mark m.Subtype) tt (a_type_exact b))) (λ y r short good stops. tt))
    p.to_parameter type_parameter_tokens (λ x n. IsTypeParameter x) (λ x. ((x.name, x.bound), refl)) (λ z. bound_text z.1 z.0) (λ z n good. good.1) (λ z n good. (tt, good))

no_parameter : (j : Input) → p.parameter (t.Mark m.AngleClose ∷ j) ≡ None
unfolding p.parameter identifier
no_parameter j = refl

no_name : (j : Input) → identifier (t.Mark m.AngleClose ∷ j) ≡ None
unfolding identifier
no_name j = refl

pub type_parameters_exact : (b : ℕ) → Exact b p.type_parameters type_parameters_tokens (λ x n. AreTypeParameters x) not_open
unfolding p.type_parameters
type_parameters_exact b = ends_by (as_written
    (fewer (behind_by (t.Mark m.AngleOpen) tt (fewer (commas_exact (parameter_exact b) (t.Mark m.AngleClose) tt (λ e. cc) (λ e. cc, (λ e. cc, λ e. cc)) (λ e. cc, (λ e. cc, λ e. cc)) no_parameter))))
    type_parameters_tokens (λ x n. AreTypeParameters x) (λ x. angles_text type_parameter_tokens x)
    (λ x n good. within_listed_each IsTypeParameter comma (t.Mark m.AngleClose) x good)
    (λ x n good. each_within_listed IsTypeParameter comma (t.Mark m.AngleClose) x good))
    (λ n differs. (differs, tt))

pub type_arguments_exact : (b : ℕ) → Exact b p.type_arguments (λ x. W.angles (option_map (map type_tokens) x)) (λ x n. EachWithin (λ a. IsType a 0) x) not_open
unfolding p.type_arguments
type_arguments_exact b = ends_by (as_written
    (fewer (behind_by (t.Mark m.AngleOpen) tt (fewer (commas_exact (a_type_exact b) (t.Mark m.AngleClose) tt (λ e. cc) (λ e. cc, λ e. cc) (λ e. cc, λ e. cc) (no_type (t.Mark m.AngleClose) no_angle_at)))))
    (λ x. W.angles (option_map (map type_tokens) x)) (λ x n. EachWithin (λ a. IsType a 0) x) (λ x. angles_text type_tokens x)
    (λ x n good. within_listed_each (λ a. IsType a 0) comma (t.Mark m.AngleClose) x good)
    (λ x n good. each_within_listed (λ a. IsType a 0) comma (t.Mark m.AngleClose) x good))
    (λ n differs. (differs, tt))

each_there : {A : Type 0} (xs : List A) → Each (λ y. Unit {0}) xs
each_there [] = tt
each_there (x ∷ xs) = (tt, each_there xs)

all_there : {A : Type 0} (x : Option (List A)) → EachWithin (λ y. Unit {0}) x
all_there None = tt
all_there (Some xs) = each_there xs

pub type_names_exact : (b : ℕ) → Exact b p.type_names (λ x. W.angles (option_map (map (λ y. t.Identifier y ∷ [])) x)) Always not_open
unfolding p.type_names
type_names_exact b = ends_by (as_written
    (fewer (behind_by (t.Mark m.AngleOpen) tt (fewer (commas_exact (a_name b) (t.Mark m.AngleClose) tt (λ e. cc) tt tt no_name))))
    (λ x. W.angles (option_map (map (λ y. t.Identifier y ∷ [])) x)) Always (λ x. angles_text (λ y. t.Identifier y ∷ []) x)
    (λ x n good. tt)
    (λ x n good. each_within_listed (λ a. Unit {0}) comma (t.Mark m.AngleClose) x (all_there x)))
    (λ n differs. (differs, tt))
