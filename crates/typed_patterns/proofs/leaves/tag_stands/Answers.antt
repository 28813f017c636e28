use Rattle.std.proofs.Common.{ℕ, List, Ok, Err, subst, sym}
use Rattle.typing_rules.specs.AbstractSyntax as p
use Rattle.type_judgements.specs.Judged.{Judged}
use Rattle.proper_types.specs.Rules.{as_term}
use Rattle.typed_patterns.specs.Binding.{stands}
use Rattle.typed_patterns.specs.Heads.{tag_part}
use Rattle.typed_patterns.specs.Making.{pattern_in}
use Rattle.typed_patterns.proofs.Joining.{handed_on}
use Rattle.typed_patterns.proofs.Standing.{no_tag_stands, no_unit_stands, tag_stands}
use Rattle.typed_patterns.proofs.leaves.tag_stands.Goals as goal

pub returns-in_err-of : goal.returns-in_err-of
returns-in_err-of c s =
    handed_on (stands s (p.pattern c.args.note.at (p.Tag c.args.name.now)) c.args.note.kind) c.args.types.now c.args.types.now c.args.sharing.now c.args.names.now c.args.names.now pattern_in c.in_err-of.field-0.0 c.from_residual.result c.from_residual.ensures
    (no_tag_stands s c.args.note.at c.args.note.kind c.args.types.now c.args.sharing.now c.args.names.now c.requires c.args.name.now pattern_in c.in_err-of.field-0.0 (subst (λ (x : List ℕ). Judged (tag_part c.args.note.at c.args.note.kind x c.args.types.now.listed) c.args.types.now c.args.types.now as_term (Err c.in_err-of.field-0.0)) c.as_slice.ensures c.in_err-of.ensures.judged))

pub returns-in_err-needs_unit : goal.returns-in_err-needs_unit
returns-in_err-needs_unit c s =
    handed_on (stands s (p.pattern c.args.note.at (p.Tag c.args.name.now)) c.args.note.kind) c.args.types.now c.args.types.now c.args.sharing.now c.args.names.now c.args.names.now pattern_in c.in_err-needs_unit.field-0.0 c.from_residual-in_err-needs_unit.result c.from_residual-in_err-needs_unit.ensures
    (no_unit_stands s c.args.note.at c.args.note.kind c.args.types.now c.args.sharing.now c.args.names.now c.requires c.args.name.now c.in_ok-of.of (subst (λ (x : List ℕ). Judged (tag_part c.args.note.at c.args.note.kind x c.args.types.now.listed) c.args.types.now c.args.types.now as_term (Ok c.in_ok-of.of)) c.as_slice.ensures c.in_ok-of.ensures.judged) pattern_in c.in_err-needs_unit.field-0.0 c.in_err-needs_unit.ensures)

pub returns : goal.returns
returns c s = tag_stands s c.args.note.at c.args.note.kind c.args.types.now c.args.sharing.now c.args.names.now c.requires c.args.name.now c.in_ok-of.of (subst (λ (x : List ℕ). Judged (tag_part c.args.note.at c.args.note.kind x c.args.types.now.listed) c.args.types.now c.args.types.now as_term (Ok c.in_ok-of.of)) c.as_slice.ensures c.in_ok-of.ensures.judged) (pattern_in c.in_ok-tag.field-0) (λ later. sym (c.in_ok-tag.ensures later)) c.in_ok-needs_unit.ensures
