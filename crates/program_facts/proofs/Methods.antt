-- The names of the functions and stable variables of an actor.
use Rattle.std.proofs.Common.{◌≡◌, ℕ, ◌+◌, Bool, true, false, ◌||◌, List, [], ◌∷◌, ◌++◌, map, Some, None, option_map, refl, sym, ap, ◌∙◌, subst}
use Rattle.std.specs.List.{flat_map}
use Rattle.std.specs.Prelude.{not}
use Rattle.mo_bindings.specs.ExpressionNames as names
use Rattle.mo_name_table.specs.Places.{texts}
use Rattle.mo_names.specs.ProgramNames.{in_actor_field, field_methods, field_stables, field_systems, in_prefix}
use Rattle.mo_pattern_names.specs.PatternNames.{whole}
use Rattle.mo_scopes.specs.declared.rule.Rule.{Rule}
use Rattle.mo_scopes.specs.declared.rule.Rule.TheVariants as rule
use Rattle.mo_scopes.specs.declared.scope.Scope.{Scope}
use Rattle.mo_scopes.specs.Findings.{Names, begins_reserved, broken_where, contains, identifier, is_position, label}
use Rattle.mo_scopes.specs.Scopes.{system_functions, with_values}
use Rattle.mo_syntax.specs.declared.place.Place.{Place}
use Rattle.mo_syntax.specs.declared.name.Name.{Name}
use Rattle.mo_syntax.specs.declared.program.ActorField.{ActorField}
use Rattle.mo_syntax.specs.declared.program.ActorField.TheVariants as field
use Rattle.mo_syntax.specs.declared.token.TokenKind.TheVariants as t
use Rattle.mo_syntax.specs.declared.word.Word.TheVariants as w
use Rattle.mo_syntax.specs.ExpressionGrammar.{expression_tokens, signature}
use Rattle.mo_syntax.specs.Parts.{Each}
use Rattle.mo_syntax.specs.PatternGrammar.{parameters_tokens}
use Rattle.mo_syntax.specs.ProgramGrammar.{actor_field_tokens, prefix_tokens}
use Rattle.mo_syntax.specs.TypeGrammar.{type_tokens}
use Rattle.mo_syntax.specs.Writing.{optional}
use Rattle.mo_types.specs.declared.node.TypeId.{TypeId}
use Rattle.mo_types.specs.Graph.{Slot}
use Rattle.mo_types.specs.Sub.{Each as EachOf}
use Rattle.mo_types.specs.Values.{is_method_name}
use Rattle.typing_rules.specs.AbstractExpressions as rules
use Rattle.typing_rules.specs.AbstractExpressions.{members}
use Rattle.typing_rules.specs.AbstractPrograms.{in_field}
use Rattle.typing_rules.specs.AbstractSyntax.{Bytes, Declaration, Declarations}
use Rattle.typing_rules.specs.AbstractSyntax as p
use Rattle.typing_rules.specs.Definitions.{Definitions}
use Rattle.typing_rules.specs.Spans.{flag}
use Rattle.typing_rules.specs.Terms.{Term}
use Rattle.actor_laws.specs.Order.{public_functions}
use Rattle.block_forms.specs.Blocks.{IsNested}
use Rattle.program_laws.specs.Around.{stable_sources}
use Rattle.well_typed_laws.specs.Source.{system_names}
use Rattle.source_facts.specs.Laws.{AreMeanings}
use Rattle.source_facts.specs.Shown.{AreWritten}
use Rattle.source_facts.proofs.Findings.{first_fine, last_fine}
use Rattle.source_facts.proofs.Layers.{declaration_facts}
use Rattle.source_facts.proofs.Patterns.{last_written, texts_both}

public_none : (public : Bool) (n : ℕ) (d : Declaration ℕ) (rest : Declarations ℕ) → IsNested d → public_functions (p.Then public n d rest) ≡ public_functions rest
public_none public n (p.Let q a) rest h = refl
public_none public n (p.Var false x u a) rest h = refl
public_none public n (p.Var true x u a) rest h = absurd h
public_none public n (p.Func x g body) rest h = refl
public_none public n (p.Method query context x g body) rest h = absurd h
public_none public n (p.System x body) rest h = absurd h
public_none public n (p.TypeAlias x parameters u) rest h = refl
public_none public n (p.Class x g fields) rest h = refl
public_none public n (p.NamedObject x fields) rest h = refl
public_none public n (p.Evaluate a) rest h = refl

system_none : (public : Bool) (n : ℕ) (d : Declaration ℕ) (rest : Declarations ℕ) → IsNested d → system_names (p.Then public n d rest) ≡ system_names rest
system_none public n (p.Let q a) rest h = refl
system_none public n (p.Var false x u a) rest h = refl
system_none public n (p.Var true x u a) rest h = absurd h
system_none public n (p.Func x g body) rest h = refl
system_none public n (p.Method query context x g body) rest h = absurd h
system_none public n (p.System x body) rest h = absurd h
system_none public n (p.TypeAlias x parameters u) rest h = refl
system_none public n (p.Class x g fields) rest h = refl
system_none public n (p.NamedObject x fields) rest h = refl
system_none public n (p.Evaluate a) rest h = refl

stable_none : (public : Bool) (n : ℕ) (d : Declaration ℕ) (rest : Declarations ℕ) → IsNested d → stable_sources (p.Then public n d rest) ≡ stable_sources rest
stable_none public n (p.Let q a) rest h = refl
stable_none public n (p.Var false x u a) rest h = refl
stable_none public n (p.Var true x u a) rest h = absurd h
stable_none public n (p.Func x g body) rest h = refl
stable_none public n (p.Method query context x g body) rest h = absurd h
stable_none public n (p.System x body) rest h = absurd h
stable_none public n (p.TypeAlias x parameters u) rest h = refl
stable_none public n (p.Class x g fields) rest h = refl
stable_none public n (p.NamedObject x fields) rest h = refl
stable_none public n (p.Evaluate a) rest h = refl

pub functions_are : (defs : Definitions) (slots : List Slot) (terms : List Term) (number : Term → TypeId) (xs : List ActorField) (k : ℕ) → public_functions (members (map in_field xs) k) ≡ texts (flat_map field_methods xs)
functions_are defs slots terms number [] k = refl
functions_are defs slots terms number ((field.Public x) ∷ xs) k = ap (λ z. x.name.bytes ∷ z) (functions_are defs slots terms number xs (k + (in_field (field.Public x)).size + 1))
functions_are defs slots terms number ((field.System x equal_sign body) ∷ xs) k = functions_are defs slots terms number xs (k + (in_field (field.System x equal_sign body)).size + 1)
functions_are defs slots terms number ((field.Stable private x kind a) ∷ xs) k = functions_are defs slots terms number xs (k + (in_field (field.Stable private x kind a)).size + 1)
functions_are defs slots terms number (field.Declared private x ∷ xs) k =
    let next = k + (in_field (field.Declared private x)).size + 1 in
    public_none ((in_field (field.Declared private x)).from k).0 k ((rules.in_declaration x).from (k + flag private)) (members (map in_field xs) next) ((declaration_facts defs slots terms number x).nested (k + flag private)) ∙ functions_are defs slots terms number xs next

pub systems_are : (defs : Definitions) (slots : List Slot) (terms : List Term) (number : Term → TypeId) (xs : List ActorField) (k : ℕ) → system_names (members (map in_field xs) k) ≡ texts (flat_map field_systems xs)
systems_are defs slots terms number [] k = refl
systems_are defs slots terms number ((field.Public x) ∷ xs) k = systems_are defs slots terms number xs (k + (in_field (field.Public x)).size + 1)
systems_are defs slots terms number ((field.System x equal_sign body) ∷ xs) k = ap (λ z. x.bytes ∷ z) (systems_are defs slots terms number xs (k + (in_field (field.System x equal_sign body)).size + 1))
systems_are defs slots terms number ((field.Stable private x kind a) ∷ xs) k = systems_are defs slots terms number xs (k + (in_field (field.Stable private x kind a)).size + 1)
systems_are defs slots terms number (field.Declared private x ∷ xs) k =
    let next = k + (in_field (field.Declared private x)).size + 1 in
    system_none ((in_field (field.Declared private x)).from k).0 k ((rules.in_declaration x).from (k + flag private)) (members (map in_field xs) next) ((declaration_facts defs slots terms number x).nested (k + flag private)) ∙ systems_are defs slots terms number xs next

pub stables_are : (defs : Definitions) (slots : List Slot) (terms : List Term) (number : Term → TypeId) (xs : List ActorField) (k : ℕ) → stable_sources (members (map in_field xs) k) ≡ texts (flat_map field_stables xs)
stables_are defs slots terms number [] k = refl
stables_are defs slots terms number ((field.Public x) ∷ xs) k = stables_are defs slots terms number xs (k + (in_field (field.Public x)).size + 1)
stables_are defs slots terms number ((field.System x equal_sign body) ∷ xs) k = stables_are defs slots terms number xs (k + (in_field (field.System x equal_sign body)).size + 1)
stables_are defs slots terms number ((field.Stable private x kind a) ∷ xs) k = ap (λ z. x.bytes ∷ z) (stables_are defs slots terms number xs (k + (in_field (field.Stable private x kind a)).size + 1))
stables_are defs slots terms number (field.Declared private x ∷ xs) k =
    let next = k + (in_field (field.Declared private x)).size + 1 in
    stable_none ((in_field (field.Declared private x)).from k).0 k ((rules.in_declaration x).from (k + flag private)) (members (map in_field xs) next) ((declaration_facts defs slots terms number x).nested (k + flag private)) ∙ stables_are defs slots terms number xs next

-- ---- where no rule is broken

not_broken : (b : Bool) (r : Rule) (p : Place) → AreMeanings (broken_where b r p) → b ≡ false
not_broken true r p h = absurd h.0
not_broken false r p h = refl

or_false : (a b : Bool) → (a || b) ≡ false → a ≡ false
or_false true b h = h
or_false false b h = refl

not_false : (b : Bool) → not b ≡ false → b ≡ true
not_false true h = refl
not_false false h = let no : true ≡ false = h in cc

-- of what is found at the name of a public function, and of its token
label_fine : (x : Name) → AreMeanings (label x) → begins_reserved x.bytes ≡ false
label_fine x f = or_false (begins_reserved x.bytes) (is_position x.bytes) (not_broken (begins_reserved x.bytes || is_position x.bytes) rule.Reserved x.place f)

one_unreserved : (scope : Scope) (x : ActorField) → AreMeanings (in_actor_field scope x) → EachOf (λ y. begins_reserved y ≡ false) (texts (field_methods x))
one_unreserved scope (field.Public x) f =
    let c = in_prefix x.prefix in let inner = with_values c.names scope in
    let body = names.function None x.parameters (Some x.result) (names.in_expression x.body).finds inner in
    (label_fine x.name (first_fine (label x.name) body (last_fine (whole c scope) (label x.name ++ body) f)), tt)
one_unreserved scope (field.System x equal_sign body) f = tt
one_unreserved scope (field.Declared private x) f = tt
one_unreserved scope (field.Stable private x kind a) f = tt

one_system : (scope : Scope) (x : ActorField) → AreMeanings (in_actor_field scope x) → EachOf (λ y. contains system_functions y ≡ true) (texts (field_systems x))
one_system scope (field.Public x) f = tt
one_system scope (field.System x equal_sign body) f =
    let c = broken_where (not (contains system_functions x.bytes)) rule.Unknown x.place in let d = (names.in_expression body).finds scope in
    (not_false (contains system_functions x.bytes) (not_broken (not (contains system_functions x.bytes)) rule.Unknown x.place (first_fine c d (last_fine (identifier x) (c ++ d) f))), tt)
one_system scope (field.Declared private x) f = tt
one_system scope (field.Stable private x kind a) f = tt

one_method : (x : ActorField) → AreWritten (actor_field_tokens x) → EachOf (λ y. is_method_name y ≡ true) (texts (field_methods x))
one_method (field.Public x) v =
    let before = optional (option_map prefix_tokens x.prefix) in
    let head = signature (parameters_tokens x.parameters) (Some (type_tokens x.result)) x.equal_sign in
    ((last_written before ((t.Reserved w.Func ∷ t.Identifier x.name ∷ head) ++ expression_tokens x.body) v.1).1.0, tt)
one_method (field.System x equal_sign body) v = tt
one_method (field.Declared private x) v = tt
one_method (field.Stable private x kind a) v = tt

each_of_both : (P : Bytes → Type 0) (xs ys : List Bytes) → EachOf P xs → EachOf P ys → EachOf P (xs ++ ys)
each_of_both P [] ys h k = k
each_of_both P (x ∷ xs) ys h k = (h.0, each_of_both P xs ys h.1 k)

module _ (P : Bytes → Type 0) (of : ActorField → Names) where
  pub all_named : (xs : List ActorField) → Each (λ x. EachOf P (texts (of x))) xs → EachOf P (texts (flat_map of xs))
  all_named [] h = tt
  all_named (x ∷ xs) h = subst (λ z. EachOf P z) (sym (texts_both (of x) (flat_map of xs))) (each_of_both P (texts (of x)) (texts (flat_map of xs)) h.0 (all_named xs h.1))

pub each_unreserved : (scope : Scope) (xs : List ActorField) → AreMeanings (flat_map (in_actor_field scope) xs) → Each (λ x. EachOf (λ y. begins_reserved y ≡ false) (texts (field_methods x))) xs
each_unreserved scope [] f = tt
each_unreserved scope (x ∷ xs) f =
    let more = flat_map (in_actor_field scope) xs in (one_unreserved scope x (first_fine (in_actor_field scope x) more f), each_unreserved scope xs (last_fine (in_actor_field scope x) more f))

pub each_system : (scope : Scope) (xs : List ActorField) → AreMeanings (flat_map (in_actor_field scope) xs) → Each (λ x. EachOf (λ y. contains system_functions y ≡ true) (texts (field_systems x))) xs
each_system scope [] f = tt
each_system scope (x ∷ xs) f =
    let more = flat_map (in_actor_field scope) xs in (one_system scope x (first_fine (in_actor_field scope x) more f), each_system scope xs (last_fine (in_actor_field scope x) more f))

pub each_method : (xs : List ActorField) → Each AreWritten (map actor_field_tokens xs) → Each (λ x. EachOf (λ y. is_method_name y ≡ true) (texts (field_methods x))) xs
each_method [] v = tt
each_method (x ∷ xs) v = (one_method x v.0, each_method xs v.1)
