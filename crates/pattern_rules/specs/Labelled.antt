-- What stands under a label.
use Rattle.std.specs.Prelude.{ℕ, Some, false}
use Rattle.type_terms.specs.declared.form.TermId.{TermId}
use Rattle.typing_rules.specs.AbstractSyntax.{Bytes, Expression}
use Rattle.typing_rules.specs.AsyncPlaces.{Labelled}
use Rattle.typing_rules.specs.Contexts.{directly, with_label}
use Rattle.typing_rules.specs.Expressions.{Judge}
use Rattle.typing_rules.specs.Judgements.{Judgement}
use Rattle.typing_rules.specs.TypedTrees.{Typed}
use Rattle.typing_rules.specs.Terms.{Term}
use Rattle.type_definitions.specs.Meanings.{term}
use Rattle.judging.specs.declared.site.Site.{Site}
use Rattle.judging.specs.Views.{View, context, definitions}

-- under a label of this name and this type
abbrev pub under_label : Site → Bytes → Term → Expression ℕ → View → Judgement Typed
under_label x name u a v = Judge (definitions v) (directly Labelled (with_label name (record { type = u; loop = false }) (context v x.place))) a (Some u)

abbrev pub labelled_in : Site → Bytes → TermId → Expression ℕ → View → Judgement Typed
labelled_in x name id a v = under_label x name (term v.later id) a v
