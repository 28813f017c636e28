-- The parts of the rule of functions.
use Rattle.std.specs.Prelude.{ℕ, List, [], Option, map}
use Rattle.mo_types.specs.Sub.{Each}
use Rattle.type_terms.specs.declared.form.Form.{Form}
use Rattle.type_terms.specs.declared.form.TermId.{TermId}
use Rattle.typing_rules.specs.AbstractSyntax.{Expression, Pattern, Patterns, Signature, TypeNode}
use Rattle.typing_rules.specs.AbstractSyntax as p
use Rattle.typing_rules.specs.Contexts.{Scope}
use Rattle.typing_rules.specs.Ends.{Has}
use Rattle.typing_rules.specs.Judgements.{Gives, Judgement, Part}
use Rattle.typing_rules.specs.Signatures.{Parameters}
use Rattle.typing_rules.specs.Terms.{Term, unit, unlisted}
use Rattle.typing_rules.specs.Terms as t
use Rattle.typing_rules.specs.TypedTrees.{Note, Typed, signature}
use Rattle.typing_rules.specs.Types.{ReadsOr}
use Rattle.type_definitions.specs.Meanings.{term}
use Rattle.type_definitions.specs.Tables.{Within}
use Rattle.met_types.specs.States.{State}
use Rattle.type_scopes.specs.Scopes.{seen}
use Rattle.value_scopes.specs.declared.place.Body.TheVariants as body
use Rattle.value_scopes.specs.declared.place.Place.{Place}
use Rattle.signatures.specs.Taking.{taken_in}
use Rattle.judging.specs.declared.site.Site.{Site}
use Rattle.judging.specs.Views.{View, definitions, kind_reached, typed_in, wanted_in}
use Rattle.scope_judging.specs.Rules.{reads_or}
use Rattle.signature_judging.specs.Rules.{parameters}
use Rattle.body_judging.specs.Bodies.{body_under}
use Rattle.function_rules.specs.declared.closing.Closed.{Closed}
use Rattle.function_rules.specs.declared.closing.Function.{Function}

-- the result and the body, with these names
abbrev pub closed : Place → Option TypeNode → TermId → Expression ℕ → Scope → View → Judgement (Term × Typed)
closed y n other a names v = Part (reads_or n other v) (λ r. Part (body_under y body.Local r a names v) (λ b. Gives (r, b)))

-- the parameters, and the rest with their names
abbrev pub function_parts : Place → List (Pattern ℕ) → List TermId → Option TypeNode → TermId → Expression ℕ → View → Judgement ((List Term × Patterns Note) × (Term × Typed))
function_parts y qs ids n other a v = Part (parameters qs ids v) (λ q. Part (closed y n other a q.0 v) (λ c. Gives (q.1, c)))

-- ---- what is given, as it is seen in a table

abbrev pub closed_in : Closed → List Form → Term × Typed
closed_in made later = (term later made.of, typed_in made.body later)

abbrev pub function_in : Function → List Form → (List Term × Patterns Note) × (Term × Typed)
function_in made later = (taken_in made.taken later, closed_in made.closed later)

-- its types are terms of the table
abbrev pub closed_fine : State → Closed → Type 0
closed_fine s made = Within s.forms made.of × kind_reached s made.body

abbrev pub function_fine : State → Function → Type 0
function_fine s made = Each (Within s.forms) made.taken.kinds × closed_fine s made.closed

-- ---- the rule

-- what is given of a function
abbrev pub function_end : Site → Signature ℕ → View → List Term × Patterns Note → Term × Typed → Judgement Typed
function_end x g v q c = Has x.at (wanted_in v x.wanted) (t.Function (unlisted q.0) c.0) (p.Function (signature g q.1) c.1)

abbrev pub ended : Site → Signature ℕ → Function → View → Judgement Typed
ended x g made v = function_end x g v (taken_in made.taken v.later) (closed_in made.closed v.later)

-- a function, of whose parameters these are wanted, and whose result is this where none is written
abbrev pub function_with : Site → Signature ℕ → Expression ℕ → List Term → Term → View → Judgement Typed
function_with x g a us u v =
    Part (Parameters (definitions v) (seen v.scopes.types) g.parameters us) (λ ps. Part (ReadsOr (definitions v) (seen v.scopes.types) g.result u) (λ r.
    Part (body_under x.place body.Local r a ps.scope v) (λ b. function_end x g v (ps.types, ps.patterns) (r, b))))

abbrev pub function_on : Site → Signature ℕ → Expression ℕ → List TermId → TermId → View → Judgement Typed
function_on x g a ids other v = function_with x g a (map (term v.later) ids) (term v.later other) v

-- none is wanted
abbrev pub or_unit : Site → Signature ℕ → Expression ℕ → View → Judgement Typed
or_unit x g a v = function_with x g a [] unit v
