-- The outermost part of a Motoko value is read exactly.
use Rattle.std.proofs.Common.{◌≡◌, ℕ, ◌<◌, Bool, true, false, List, refl, sym, ◌∙◌, subst}
use Rattle.std.proofs.lemmas.List.{length-map}
use Rattle.mo_types.specs.declared.datum.Datum.{Datum}
use Rattle.mo_types.specs.declared.datum.Datum.TheVariants as part
use Rattle.mo_types.specs.declared.node.TypeId.{TypeId}
use Rattle.mo_types.specs.declared.wire.Ref.{Ref}
use Rattle.mo_types.specs.declared.wire.Wire.{Wire}
use Rattle.mo_types.specs.declared.wire.Wire.TheVariants.{Simple, Opt, Vec, Record, Variant, Func, Service}
use Rattle.mo_types.specs.Graph.{head_at}
use Rattle.mo_types.specs.Spelling.{bit, padded, IsWirePart, FewEmpty}
use Rattle.mo_types.specs.Wire.{map_entry, wire}
use Rattle.exact_reading.proofs.Exact.{Exact, renamed}
use Rattle.candid_forms.specs.Forms.{IsPartAt}
use Rattle.candid_read.specs.Parts.{is_marked, part_by}
use Rattle.candid_read.specs.Whole.{IsAllowed}
use Rattle.candid_read.proofs.Heads.{shape_exact}
use Rattle.candid_read.proofs.Motoko.{ref_exact}
use Rattle.mo_meaning.specs.Coding.{Types}
use Rattle.mo_coding.specs.Heads.{of_graph}
use Rattle.mo_coding.specs.Levels.{all_levels, is_empty}
use Rattle.mo_coding.specs.Reading.{marks, marked, part_at}
use Rattle.mo_coding.proofs.Heads.{graph_finite}
use Rattle.mo_coding.proofs.Levels.{empty_is, is_empty_of}

module _ (slots : Types) where
  abbrev Few : ℕ → Ref TypeId → Type 0
  Few n r = FewEmpty (wire (head_at slots)) n r

  abbrev mark_of : Ref TypeId → ℕ
  mark_of r = bit (is_empty (of_graph slots) r)

  mark_is : (b : Bool) → is_marked marks (bit b) ≡ b
  mark_is true = refl
  mark_is false = refl

  few_from : (n : ℕ) (r : Ref TypeId) → IsAllowed marks n (mark_of r) → Few n r
  few_from n r h = λ levels e. h (mark_is (is_empty (of_graph slots) r) ∙ is_empty_of (of_graph slots) (graph_finite slots) levels r e)

  few_to : (n : ℕ) (r : Ref TypeId) → Few n r → IsAllowed marks n (mark_of r)
  few_to n r h = λ e. h (all_levels (of_graph slots)) (empty_is (of_graph slots) r (sym (mark_is (is_empty (of_graph slots) r)) ∙ e))

  part_from : (w : Wire (Ref TypeId)) (p : Datum) (bytes : List ℕ) → IsWirePart padded (IsAllowed marks) (marked slots w) p bytes → IsWirePart padded Few w p bytes
  part_from (Simple s) p bytes h = h
  part_from (Opt b) part.Null bytes h = h
  part_from (Opt b) part.Present bytes h = h
  part_from (Opt b) p bytes h = absurd h
  part_from (Vec b) (part.Many n) bytes h = (few_from n b h.0, h.1)
  part_from (Vec b) p bytes h = absurd h
  part_from (Record es) (part.Record n) bytes h = (h.0 ∙ length-map es (map_entry mark_of), h.1)
  part_from (Record es) p bytes h = absurd h
  part_from (Variant es) (part.Tag i) bytes h = (subst (λ (k : ℕ). i < k) (length-map es (map_entry mark_of)) h.0, h.1)
  part_from (Variant es) p bytes h = absurd h
  part_from (Func ps rs m) (part.Method p name) bytes h = h
  part_from (Func ps rs m) p bytes h = absurd h
  part_from (Service ms) (part.Actor p) bytes h = h
  part_from (Service ms) p bytes h = absurd h

  part_to : (w : Wire (Ref TypeId)) (p : Datum) (bytes : List ℕ) → IsWirePart padded Few w p bytes → IsWirePart padded (IsAllowed marks) (marked slots w) p bytes
  part_to (Simple s) p bytes h = h
  part_to (Opt b) part.Null bytes h = h
  part_to (Opt b) part.Present bytes h = h
  part_to (Opt b) p bytes h = absurd h
  part_to (Vec b) (part.Many n) bytes h = (few_to n b h.0, h.1)
  part_to (Vec b) p bytes h = absurd h
  part_to (Record es) (part.Record n) bytes h = (h.0 ∙ sym (length-map es (map_entry mark_of)), h.1)
  part_to (Record es) p bytes h = absurd h
  part_to (Variant es) (part.Tag i) bytes h = (subst (λ (k : ℕ). i < k) (sym (length-map es (map_entry mark_of))) h.0, h.1)
  part_to (Variant es) p bytes h = absurd h
  part_to (Func ps rs m) (part.Method p name) bytes h = h
  part_to (Func ps rs m) p bytes h = absurd h
  part_to (Service ms) (part.Actor p) bytes h = h
  part_to (Service ms) p bytes h = absurd h

  pub part_exact : (r : Ref TypeId) → Exact (IsPartAt padded Few (head_at slots) r) (part_at slots r)
  part_exact r =
      let w = wire (head_at slots) r in
      ref_exact slots Few r (part_by marks (marked slots w))
      (renamed (IsWirePart padded (IsAllowed marks) (marked slots w)) (IsWirePart padded Few w) (part_by marks (marked slots w)) (part_from w) (part_to w) (shape_exact marks (marked slots w)))
