-- The rule of members of values.
use Rattle.std.specs.Prelude.{ℕ, None}
use Rattle.typing_rules.specs.declared.condition.Condition.TheVariants as condition
use Rattle.typing_rules.specs.AbstractSyntax.{Bytes, Expression}
use Rattle.typing_rules.specs.AbstractSyntax as p
use Rattle.typing_rules.specs.Ends.{Has}
use Rattle.typing_rules.specs.Heads.{members_head}
use Rattle.typing_rules.specs.Judgements.{Judgement, Given, Part}
use Rattle.typing_rules.specs.Members.{member_type}
use Rattle.typing_rules.specs.TypedTrees.{Typed, type_of}
use Rattle.judging.specs.declared.site.Site.{Site}
use Rattle.judging.specs.Views.{View, definitions, judge, wanted_in}

abbrev pub value_rule : Site → Expression ℕ → Bytes → View → Judgement Typed
value_rule x a y v =
    Part (judge x.place a None v) (λ b. Given condition.NoField x.at (member_type y (members_head (definitions v) (type_of b))) (λ u. Has x.at (wanted_in v x.wanted) u (p.Member b y)))
