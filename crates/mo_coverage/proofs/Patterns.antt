-- The forms of patterns, and fields of a pattern one after another.
use Rattle.std.proofs.Common.{◌≡◌, ℕ, suc, ◌+◌, ◌<◌, List, ◌∷◌, length, false, get_or, drop, arith, sym, ap, ◌∙◌}
use Rattle.std.proofs.Math.Seq.{drop-cons}
use Rattle.mo_types.specs.declared.node.Field.{Field}
use Rattle.mo_types.specs.declared.node.Node.{Node}
use Rattle.mo_types.specs.declared.node.TypeId.{TypeId}
use Rattle.typed_tree.specs.declared.pattern.PatternField.{PatternField, fold_out-PatternField}
use Rattle.typed_tree.specs.declared.pattern.PatternForm.{PatternForm}
use Rattle.typed_tree.specs.declared.pattern.TypedPattern.{TypedPattern, fold_out-TypedPattern}
use Rattle.typed_tree.specs.Patterns.{Pat}
use Rattle.typed_tree.specs.PatternView.{LabelledPat, form_step, field_step, pattern_step, pats, pattern, pattern_form}
use Rattle.typed_tree.specs.ViewLaws.{field, labels_of, patterns_of}
use Rattle.pattern_coverage.specs.Cutting.{cut}
use Rattle.mo_coverage.specs.Columns.{Column, cut_typed, fields_cut}
use Rattle.mo_coverage.specs.Places.{seat_of}

pub of_form : (p : TypedPattern) (f : PatternForm) → p.form ≡ f → pattern p ≡ pattern_form f
unfolding pattern pattern_form
of_form p f e = fold_out-TypedPattern Pat LabelledPat Pat form_step field_step pattern_step p ∙ ap pattern_form e

of_field : (p : PatternField) → field p ≡ record { label = p.label; pattern = pattern p.pattern }
unfolding pattern field
of_field p = fold_out-PatternField Pat LabelledPat Pat form_step field_step pattern_step p

-- the next field
pub next_field : (head : TypeId → Node TypeId) (has : _) (ps : List PatternField) (i : ℕ) (p : PatternField) (fs : List (Field TypeId)) (ss us : List Column) → i < length ps → p ≡ get_or ps i p
    → us ≡ cut_typed (λ u j. cut head has (pattern p.pattern) u j) false (seat_of p.label fs) ss
    → fields_cut head has (labels_of (drop (i + 1) ps)) (pats (patterns_of (drop (i + 1) ps))) fs us ≡ fields_cut head has (labels_of (drop i ps)) (pats (patterns_of (drop i ps))) fs ss
next_field head has ps i p fs ss us h e u =
    ap (λ z. fields_cut head has (labels_of (drop (i + 1) ps)) (pats (patterns_of (drop (i + 1) ps))) fs z) u
    ∙ ap (λ n. fields_cut head has (labels_of (drop n ps)) (pats (patterns_of (drop n ps))) fs (cut_typed (λ u j. cut head has (pattern p.pattern) u j) false (seat_of p.label fs) ss)) (let s : i + 1 ≡ suc i = omega arith in s)
    ∙ ap (λ (x : LabelledPat). fields_cut head has (labels_of (drop (suc i) ps)) (pats (patterns_of (drop (suc i) ps))) fs (cut_typed (λ u j. cut head has x.pattern u j) false (seat_of x.label fs) ss)) (sym (of_field p))
    ∙ ap (λ qs. fields_cut head has (labels_of qs) (pats (patterns_of qs)) fs ss) (sym (drop-cons ps i p h ∙ ap (λ q. q ∷ drop (suc i) ps) (sym e)))
