use mir.Syntax.{w128}
use mir.Val.{SFits}
use Rattle.std.proofs.lemmas.Int.{to_z-of_z}
use Rattle.std.proofs.Common.{ℕ, List, subst}
use Rattle.std.specs.Str.{is_utf8}
use Rattle.std.specs.Prelude.{ℤ}
use Rattle.mo_num.specs.declared.kind.Kind.TheVariants as kind
use Rattle.mo_syntax.specs.declared.literal.Literal.TheVariants as literal
use Rattle.typing_rules.specs.AbstractSyntax as p
use Rattle.judging.proofs.Chains.{no_memory}
use Rattle.judging.proofs.Steps.{plain_character, plain_null}
use Rattle.typing_rules.specs.declared.condition.Condition.TheVariants as condition
use Rattle.typing_rules.specs.Terms as t
use Rattle.typing_rules.specs.Judgements.{Case, Gives, Tests}
use Rattle.typing_rules.specs.TypedTrees.{typed}
use Rattle.typing_rules.specs.Ends.{Has, wanted}
use Rattle.typing_rules.specs.Literals.{Number, blob_of}
use Rattle.judging.specs.Answers.{Answers}
use Rattle.judging.specs.Views.{definitions, kind_reached, typed_in, wanted_in}
use Rattle.literal_rules.proofs.Seen.{constant_is, form_is}
use Rattle.literal_rules.proofs.literals.constant.Goals as goal

pub returns-in_err-copied_literal : goal.returns-in_err-copied_literal
returns-in_err-copied_literal c = λ s q. no_memory typed_in kind_reached _ s s c.args.checker.now _ c.from_residual.result c.from_residual.ensures

pub has_plain-requires-clause-plain : goal.has_plain-requires-clause-plain
has_plain-requires-clause-plain c = plain_character

pub has_plain-requires-in-Null-clause-plain : goal.has_plain-requires-in-Null-clause-plain
has_plain-requires-in-Null-clause-plain c = plain_null

pub returns-in-Number : goal.returns-in-Number
returns-in-Number c = λ s q.
    let n : SFits w128 c.from.result = record { sfits = c.from.type_inv } in
    constant_is c.args.literal.now (literal.Number c.in-Number.number_of) c.in-Number.is c.args.site.now s c.args.checker.now c.number.new.checker c.number.result
    (subst (λ (z : ℤ). Answers typed_in kind_reached (λ v. Number (definitions v) c.args.site.now.at (wanted_in v c.args.site.now.wanted) kind.Nat z (p.Constant (p.Number c.in-Number.number_of))) s c.args.checker.now s c.number.new.checker c.number.result)
    c.from.ensures
    (simp to_z-of_z at
    (c.number.ensures s q (λ later. p.Constant (p.Number c.in-Number.number_of)) (form_is c.args.literal.now (literal.Number c.in-Number.number_of) c.in-Number.is c.in_ok-copied_literal.field-0 c.in_ok-copied_literal.ensures))))

pub returns-in-Character : goal.returns-in-Character
returns-in-Character c = λ s q.
    constant_is c.args.literal.now (literal.Character c.in-Character.field-0) c.in-Character.is c.args.site.now s c.args.checker.now c.has_plain.new.checker c.has_plain.result
    (c.has_plain.ensures s q (λ later. p.Constant (p.Character c.in-Character.field-0)) (form_is c.args.literal.now (literal.Character c.in-Character.field-0) c.in-Character.is c.in_ok-copied_literal.field-0 c.in_ok-copied_literal.ensures))

pub returns-in-Text : goal.returns-in-Text
returns-in-Text c = λ s q.
    constant_is c.args.literal.now (literal.Text c.in-Text.of) c.in-Text.is c.args.site.now s c.args.checker.now c.text.new.checker c.text.result
    (subst (λ (x : List ℕ). Answers typed_in kind_reached
    (λ v. Case (wanted (definitions v) blob_of (wanted_in v c.args.site.now.wanted)) (λ q. Gives (typed c.args.site.now.at q.0 (p.Constant (p.Text c.in-Text.of.bytes))))
    (λ u. Tests condition.Mismatch c.args.site.now.at (is_utf8 x) (Has c.args.site.now.at (wanted_in v c.args.site.now.wanted) t.Text (p.Constant (p.Text c.in-Text.of.bytes))))) s c.args.checker.now s c.text.new.checker c.text.result)
    c.as_slice.ensures
    (c.text.ensures s q (λ later. p.Constant (p.Text c.in-Text.of.bytes)) (form_is c.args.literal.now (literal.Text c.in-Text.of) c.in-Text.is c.in_ok-copied_literal.field-0 c.in_ok-copied_literal.ensures)))

pub returns-in-True : goal.returns-in-True
returns-in-True c = λ s q.
    constant_is c.args.literal.now literal.True c.in-True.is c.args.site.now s c.args.checker.now c.has_boolean.new.checker c.has_boolean.result
    (c.has_boolean.ensures s q (λ later. p.Constant p.True) (form_is c.args.literal.now literal.True c.in-True.is c.in_ok-copied_literal.field-0 c.in_ok-copied_literal.ensures))

pub returns-in-False : goal.returns-in-False
returns-in-False c = λ s q.
    constant_is c.args.literal.now literal.False c.in-False.is c.args.site.now s c.args.checker.now c.has_boolean-in-False.new.checker c.has_boolean-in-False.result
    (c.has_boolean-in-False.ensures s q (λ later. p.Constant p.False) (form_is c.args.literal.now literal.False c.in-False.is c.in_ok-copied_literal.field-0 c.in_ok-copied_literal.ensures))

pub returns-in-Null : goal.returns-in-Null
returns-in-Null c = λ s q.
    constant_is c.args.literal.now literal.Null c.in-Null.is c.args.site.now s c.args.checker.now c.has_plain-in-Null.new.checker c.has_plain-in-Null.result
    (c.has_plain-in-Null.ensures s q (λ later. p.Constant p.Null) (form_is c.args.literal.now literal.Null c.in-Null.is c.in_ok-copied_literal.field-0 c.in_ok-copied_literal.ensures))
