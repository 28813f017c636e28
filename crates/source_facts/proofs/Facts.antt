-- What is known of each part of a tree, by its abstract syntax, what is found at its names, the names that occur in it, and its tokens.
use Rattle.std.proofs.Common.{◌≡◌, ◌⊎◌, ℕ, ◌+◌, ◌≤◌, Bool, true, false, List, [], ◌∷◌, ◌++◌, map, Some, None, refl, sym, ap, ap₂, ◌∙◌, subst, arith}
use Rattle.std.specs.Prelude.{cond, not}
use Rattle.std.specs.List.{list_any}
use Rattle.std.specs.Str.{bytes_eq}
use Rattle.mo_name_table.specs.Places.{texts}
use Rattle.mo_pattern_names.specs.TypeNames.{Entry}
use Rattle.mo_bindings.specs.ExpressionNames.{Declared, Whole, Member}
use Rattle.mo_names.specs.Order.{Step, Found, FoundStep}
use Rattle.mo_names.specs.Order as order
use Rattle.mo_scopes.specs.declared.scope.Scope.{Scope}
use Rattle.mo_scopes.specs.Findings.{Texts, Names, InScope}
use Rattle.mo_syntax.specs.declared.name.Name.{Name}
use Rattle.mo_syntax.specs.Writing.{Writing}
use Rattle.mo_types.specs.declared.node.TypeId.{TypeId}
use Rattle.mo_types.specs.Graph.{Slot}
use Rattle.typing_rules.specs.AbstractSyntax.{Bytes, Cases, ObjectFields, Declaration}
use Rattle.typing_rules.specs.AbstractSyntax as p
use Rattle.typing_rules.specs.AbstractExpressions.{DeclarationSpan, ExpressionSpan, MemberSpan, CaseSpan, ObjectFieldSpan}
use Rattle.typing_rules.specs.Definitions.{Bounded, Definition, Definitions}
use Rattle.typing_rules.specs.Gathered.{both}
use Rattle.typing_rules.specs.Gathered as gathered
use Rattle.typing_rules.specs.Terms.{Term}
use Rattle.typing_rules.specs.TypeScopes.{TypeScope}
use Rattle.desugaring.specs.FreeNames.{names_of, field_names, defined_by, function_name, occurring, in_cases, in_fields, in_declaration, without}
use Rattle.expression_laws.specs.Laws.{labels_in}
use Rattle.block_forms.specs.Blocks.{IsNested}
use Rattle.block_forms.specs.Fields.{public_fields}
use Rattle.source_laws.specs.Source.{IsSource, EachCaseIsSource, EachFieldIsSource, DeclarationIsSource}
use Rattle.kept_names.specs.Plain.{IsPlain, CasesArePlain, FieldsArePlain, DeclarationIsPlain}
use Rattle.source_facts.specs.Shown.{AreWritten}
use Rattle.source_facts.specs.Laws.{AreMeanings, AreListsFine}
use Rattle.source_facts.proofs.Patterns.{texts_both}
use Rattle.source_facts.proofs.Sequences.{Sub, Rising, rising_wider, rising_both, AllBelow}

-- ---- numbers of definitions

abbrev pub type_numbers : Definitions → List ℕ
type_numbers d = map (λ x. x.at) d.types

abbrev pub parameter_numbers : Definitions → List ℕ
parameter_numbers d = map (λ x. x.at) d.parameters

-- they rise from the one number, and stay below the other
abbrev pub Numbered : ℕ → ℕ → Definitions → Type 0
Numbered low high d = Rising low high (type_numbers d) × Rising low high (parameter_numbers d)

pub wide : (low high lower higher : ℕ) (d : Definitions) → lower ≤ low → high ≤ higher → Numbered low high d → Numbered lower higher d
wide low high lower higher d l h n = (rising_wider low high lower higher (type_numbers d) l h n.0, rising_wider low high lower higher (parameter_numbers d) l h n.1)

map_both : {A B : Type 0} (f : A → B) (xs ys : List A) → map f (xs ++ ys) ≡ map f xs ++ map f ys
map_both f [] ys = refl
map_both f (x ∷ xs) ys = ap (λ z. f x ∷ z) (map_both f xs ys)

pub numbered_on : (low middle high : ℕ) (d e : Definitions) → Numbered low middle d → Numbered middle high e → Numbered low high (both d e)
numbered_on low middle high d e h k = (
  subst (λ z. Rising low high z) (sym (map_both (λ (x : Definition). x.at) d.types e.types)) (rising_both low middle high (type_numbers d) (type_numbers e) h.0 k.0),
  subst (λ z. Rising low high z) (sym (map_both (λ (x : Bounded). x.at) d.parameters e.parameters)) (rising_both low middle high (parameter_numbers d) (parameter_numbers e) h.1 k.1),
)

-- two parts, each with its room
pub numbered_two : (low a b c d high : ℕ) (x y : Definitions) → low ≤ a → b ≤ c → d ≤ high → Numbered a b x → Numbered c d y → Numbered low high (both x y)
numbered_two low a b c d high x y l m h i j = numbered_on low c high x y (wide a b low c x l m i) (wide c d c high y (omega arith) h j)

pub none_numbered : (low high : ℕ) → low ≤ high → Numbered low high gathered.nothing
none_numbered low high l = (l, l)

-- ---- names without others

keep : (b : Bool) (x : Name) (xs : Names) → texts (cond (not b) (x ∷ xs) xs) ≡ cond (not b) (x.bytes ∷ texts xs) (texts xs)
keep true x xs = refl
keep false x xs = refl

pub texts_without : (bound : Texts) (xs : Names) → texts (order.without bound xs) ≡ without bound (texts xs)
texts_without bound [] = refl
texts_without bound (x ∷ xs) =
    let b = list_any (λ y. bytes_eq x.bytes y) bound in
    keep b x (order.without bound xs) ∙ ap (λ z. cond (not b) (x.bytes ∷ z) z) (texts_without bound xs)

-- in the scope of names
pub hidden_same : (bound : Texts) (ns : List Bytes) (xs : Names) (ys : List Bytes) → ns ≡ bound → ys ≡ texts xs → without ns ys ≡ texts (order.without bound xs)
hidden_same bound ns xs ys h k = ap₂ (λ a b. without a b) h k ∙ sym (texts_without bound xs)

pub both_same : (xs ys : List Bytes) (zs ws : Names) → xs ≡ texts zs → ys ≡ texts ws → xs ++ ys ≡ texts (zs ++ ws)
both_same xs ys zs ws h k = ap₂ (λ a b. a ++ b) h k ∙ sym (texts_both zs ws)

-- ---- lists of declarations

-- a declaration as it stands in the order of evaluation
pub record StepIs (step : Step) (d : Declaration ℕ) : Type 0 where
  pub defines : step.defines ≡ defined_by d
  pub names : step.defines ++ step.functions ≡ names_of d
  pub function : (f : Bytes) → function_name d ≡ Some f → step.functions ≡ f ∷ []
  pub evaluated : function_name d ≡ None → (step.functions ≡ []) ⊎ (in_declaration d ≡ [])
  pub occurs : texts step.occurs ≡ in_declaration d

-- ---- what is known

module _ (defs : Definitions) (slots : List Slot) (terms : List Term) (number : Term → TypeId) where
  pub record ExpressionFacts (a : ExpressionSpan) (n : Whole) (o : Found) (w : Writing) : Type 0 where
    pub same : (k : ℕ) → IsPlain (a.from k) → occurring (a.from k) ≡ texts o.free
    pub numbered : (s : TypeScope) (k : ℕ) → Numbered k (k + a.size) (gathered.in_expression s (a.from k))
    pub named : (m : Name) → n.head ≡ Some m → (s : TypeScope) (k : ℕ) → IsSource defs slots terms number s (a.from k)
    pub fine : (s : TypeScope) (k : ℕ) (scope : Scope) → AllBelow k s.parameters → AreMeanings (n.finds scope) → AreListsFine o.lists → AreWritten w → IsSource defs slots terms number s (a.from k)

  pub record DeclarationFacts (a : DeclarationSpan) (n : Declared) (o : FoundStep) (w : Writing) : Type 0 where
    pub nested : (k : ℕ) → IsNested (a.from k)
    pub step : (k : ℕ) → DeclarationIsPlain (a.from k) → StepIs o.step (a.from k)
    pub values : (k : ℕ) → Sub (names_of (a.from k)) (texts n.values)
    pub fields : (k : ℕ) → Sub (field_names (a.from k)) (texts n.values)
    pub numbered : (s : TypeScope) (k : ℕ) → Numbered k (k + a.size) (gathered.in_declaration s (a.from k))
    pub fine : (s : TypeScope) (k : ℕ) (scope : Scope) → AllBelow k s.parameters → AreMeanings (n.finds scope) → AreListsFine o.lists → AreWritten w → DeclarationIsSource defs slots terms number s (a.from k)

  pub record MemberFacts (a : MemberSpan) (n : Member) (o : FoundStep) (w : Writing) : Type 0 where
    pub step : (k : ℕ) → DeclarationIsPlain (a.from k).1 → StepIs o.step (a.from k).1
    pub values : (k : ℕ) → Sub (names_of (a.from k).1) (texts n.values)
    pub fields : (k : ℕ) → Sub (public_fields (p.Then (a.from k).0 k (a.from k).1 p.End)) (texts n.public)
    pub numbered : (s : TypeScope) (k : ℕ) → Numbered k (k + a.size) (gathered.in_declaration s (a.from k).1)
    pub fine : (s : TypeScope) (k : ℕ) (scope : Scope) → AllBelow k s.parameters → AreMeanings (n.finds scope) → AreListsFine o.lists → AreWritten w → DeclarationIsSource defs slots terms number s (a.from k).1

  pub record CaseFacts (a : CaseSpan) (n : InScope) (o : Found) (w : Writing) : Type 0 where
    pub same : (k : ℕ) (rest : Cases ℕ) (more : Names) → CasesArePlain (a.from k rest) → (CasesArePlain rest → in_cases rest ≡ texts more) → in_cases (a.from k rest) ≡ texts (o.free ++ more)
    pub numbered : (s : TypeScope) (k high : ℕ) (rest : Cases ℕ) → Numbered (k + a.size) high (gathered.in_cases s rest) → Numbered k high (gathered.in_cases s (a.from k rest))
    pub fine : (s : TypeScope) (k : ℕ) (rest : Cases ℕ) (scope : Scope) → AllBelow k s.parameters → AreMeanings (n scope) → AreListsFine o.lists → AreWritten w
        → EachCaseIsSource defs slots terms number s rest → EachCaseIsSource defs slots terms number s (a.from k rest)

  pub record FieldFacts (a : ObjectFieldSpan) (n : Entry) (o : Found) (w : Writing) : Type 0 where
    pub same : (k : ℕ) (rest : ObjectFields ℕ) (more : Names) → FieldsArePlain (a.from k rest) → (FieldsArePlain rest → in_fields rest ≡ texts more) → in_fields (a.from k rest) ≡ texts (o.free ++ more)
    pub label : (k : ℕ) (rest : ObjectFields ℕ) → labels_in (a.from k rest) ≡ n.name.bytes ∷ labels_in rest
    pub numbered : (s : TypeScope) (k high : ℕ) (rest : ObjectFields ℕ) → Numbered (k + a.size) high (gathered.in_fields s rest) → Numbered k high (gathered.in_fields s (a.from k rest))
    pub fine : (s : TypeScope) (k : ℕ) (rest : ObjectFields ℕ) (scope : Scope) → AllBelow k s.parameters → AreMeanings (n.finds scope) → AreListsFine o.lists → AreWritten w
        → EachFieldIsSource defs slots terms number s rest → EachFieldIsSource defs slots terms number s (a.from k rest)
