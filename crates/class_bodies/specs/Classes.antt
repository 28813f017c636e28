-- A class where its type parameters are in scope.
use Rattle.std.specs.Prelude.{ℕ, false, List, [], None, map}
use Rattle.type_terms.specs.declared.form.Form.{Form}
use Rattle.typing_rules.specs.AbstractSyntax.{Declarations, Named, Pattern, Patterns, Signature}
use Rattle.typing_rules.specs.AbstractSyntax as p
use Rattle.typing_rules.specs.AsyncPlaces.{Local}
use Rattle.typing_rules.specs.Contexts.{Scope, in_body}
use Rattle.typing_rules.specs.DeclaredTypes.{class_type}
use Rattle.typing_rules.specs.Judgements.{Gives, Judgement, Part}
use Rattle.typing_rules.specs.Lists as rules
use Rattle.typing_rules.specs.PublicFields.{PublicFields}
use Rattle.typing_rules.specs.Signatures.{Parameters}
use Rattle.typing_rules.specs.Terms.{Term}
use Rattle.typing_rules.specs.TypedTrees.{Note, note, signature}
use Rattle.met_types.specs.States.{State}
use Rattle.type_scopes.specs.Scopes.{seen}
use Rattle.abstract_tree.specs.declared.declarations.Declaration as value
use Rattle.value_scopes.specs.declared.place.Around.TheVariants as around
use Rattle.value_scopes.specs.declared.place.Body.TheVariants as body
use Rattle.value_scopes.specs.declared.place.Place.{Place}
use Rattle.signatures.specs.Taking.{taken_in}
use Rattle.judging.specs.declared.site.Site.{Site}
use Rattle.judging.specs.Views.{View, context, definitions}
use Rattle.signature_judging.specs.Rules.{parameters}
use Rattle.list_judging.specs.Lists.{list_in, list_of, seen_list}
use Rattle.order_rules.specs.declared.entries.MadeDeclaration.{MadeDeclaration}
use Rattle.order_rules.specs.Entries.{made_in}
use Rattle.class_bodies.specs.declared.classes.Fields.{Fields}

-- where the fields of a class stand
abbrev pub class_place : Place
class_place = record { returns = None; ends = false; body = body.Local; around = around.Other }

-- their site, which has no result to return
abbrev pub class_site : ℕ → Site
class_site at = record { at = at; place = class_place; around = around.Other; wanted = None }

-- its fields at this place, with these names
abbrev pub fields_under : Place → ℕ → List (value.Declaration ℕ) → Scope → View → Judgement (Term × Declarations Note)
fields_under y at xs names v = list_of (definitions v) (in_body Local None names (context v y)) at false (seen_list xs) None

-- the same where its public fields are such as may be
abbrev pub public_under : Place → ℕ → List (value.Declaration ℕ) → Scope → View → Judgement (Term × Declarations Note)
public_under y at xs names v = Part (PublicFields (seen_list xs)) (λ u. fields_under y at xs names v)

-- The same where its names are in scope. What else is known where the class stands is of no account in it.
abbrev pub class_list : ℕ → List (value.Declaration ℕ) → View → Judgement (Term × Declarations Note)
class_list at xs v = fields_under class_place at xs [] v

abbrev pub class_fields : ℕ → List (value.Declaration ℕ) → View → Judgement (Term × Declarations Note)
class_fields at xs v = public_under class_place at xs [] v

-- its parameters, and its fields with their names
abbrev pub class_parts : Place → ℕ → List (Pattern ℕ) → List (value.Declaration ℕ) → View → Judgement ((List Term × Patterns Note) × (Term × Declarations Note))
class_parts y at qs xs v = Part (parameters qs [] v) (λ r. Part (public_under y at xs r.0 v) (λ z. Gives (r.1, z)))

abbrev pub fields_in : Fields → List Form → (List Term × Patterns Note) × (Term × Declarations Note)
fields_in made later = (taken_in made.taken later, list_in made.list later)

abbrev pub any_fields : State → Fields → Type 0
any_fields s made = Unit {0}

abbrev pub class_in : Place → ℕ → Named → Signature ℕ → List (value.Declaration ℕ) → List MadeDeclaration → View → Judgement (rules.Made × List rules.Made)
class_in y at x g xs rest v =
    Part (Parameters (definitions v) (seen v.scopes.types) g.parameters []) (λ ps. Part (public_under y at xs ps.scope v) (λ q.
    Gives ((note at (class_type (seen v.scopes.types) x), p.Class x (signature g ps.patterns) q.1), map (made_in v.later) rest)))
