use Rattle.std.proofs.Common.{◌≡◌, drop}
use Rattle.typed_tree.specs.PatternView.{patterns, pats}
use Rattle.typed_tree.specs.ViewLaws.{labels_of, patterns_of}
use Rattle.elaboration.specs.Checks.{check_fields, check_parts}
use Rattle.core_layers.specs.declared.layer.Checked.{Checked}
use Rattle.core_layers.specs.Layers.{Adds}
use Rattle.core_layers.proofs.patterns.+pattern.Given as goal

-- what the rest adds is the end of what all add
abbrev pub invariant-add_fields-loop-field : goal.invariant-add_fields-loop-field
invariant-add_fields-loop-field l =
    let rest = drop l.field-index l.fields in
    (last : Checked) → Adds (check_fields (labels_of rest) (pats (patterns_of rest)) l.level l.checked.names) l.checked last
    → Adds (check_fields (labels_of l.fields) (pats (patterns_of l.fields)) l.level l.fn.checked.names) l.fn.checked last

abbrev pub invariant-add_parts-loop-part : goal.invariant-add_parts-loop-part
invariant-add_parts-loop-part l =
    (last : Checked) → Adds (check_parts (patterns (drop l.part-index l.parts)) l.number l.level l.checked.names) l.checked last
    → Adds (check_parts (patterns l.parts) 0 l.level l.fn.checked.names) l.fn.checked last
