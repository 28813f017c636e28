-- What is known is what the module has.
use mathlib.Core.Path.{fun_ext}
use Rattle.std.proofs.Common.{◌≡◌, ℕ, zero, suc, ◌+◌, List, [], ◌∷◌, length, map, refl, sym, ap, ◌∙◌, arith}
use Rattle.std.proofs.lemmas.List.{length-map}
use Rattle.mo_types.specs.declared.node.Node.{Node}
use Rattle.mo_types.specs.declared.node.TypeId.{TypeId}
use Rattle.mo_types.specs.Graph.{head_at}
use Rattle.core_ir.specs.declared.code.CodeBody.{CodeBody}
use Rattle.core_ir.specs.declared.program.Group.{Group as GroupTree}
use Rattle.core_ir.specs.declared.program.Flat.{Flat}
use Rattle.core_ir.specs.CodeView.{code_body}
use Rattle.core_ir.specs.Formed.{size_at}
use Rattle.core_ir.specs.ProgramView.{flat, group}
use Rattle.low_ir.specs.Numbering.{host_count}
use Rattle.heap_layout.specs.Heaps.{Plan}
use Rattle.operation_codes.specs.Treated.{is_treated}
use Rattle.operation_codes.specs.Codes.{code_of}
use Rattle.operation_lists.specs.Linked.{links_of}
use Rattle.flat_emission.specs.Emission.{Linkage}
use Rattle.low_emit.specs.Texts.{memory_of, place_from, texts_of, words_from}
use Rattle.low_emit.specs.Modules.{Routine, before, plan, link, routines}
use Rattle.body_lists.specs.declared.known.Known.{Known}
use Rattle.body_lists.specs.Known.{before_of, size_of, plan_of, link_of}
use Rattle.module_bodies.specs.Bodies.{IsOf}

abbrev counts : List (GroupTree CodeBody) → List ℕ
counts gs = map (λ g. length g.bodies) gs

sizes : (gs : List (GroupTree CodeBody)) (code : ℕ) → size_of (counts gs) code ≡ size_at (map (group code_body) gs) code
sizes [] code = refl
sizes (g ∷ gs) zero = sym (length-map g.bodies (code_body (length g.bodies) g.sees))
sizes (g ∷ gs) (suc code) = sizes gs code

befores : (gs : List (GroupTree CodeBody)) (code : ℕ) → before_of (counts gs) code ≡ before (map (group code_body) gs) code
befores [] code = refl
befores (g ∷ gs) zero = refl
befores (g ∷ gs) (suc code) = ap (λ n. n + before_of (counts gs) code) (sym (length-map g.bodies (code_body (length g.bodies) g.sees))) ∙ ap (λ n. length (map (code_body (length g.bodies) g.sees) g.bodies) + n) (befores gs code)

abbrev plan_by : (ℕ → ℕ) → (ℕ → ℕ → ℕ) → List (List ℕ) → Plan
plan_by sizes entries texts = record { sizes = sizes; entry_of = entries; base = words_from 1 texts; texts = memory_of texts }

abbrev link_by : (TypeId → Node TypeId) → Plan → List (List ℕ) → ℕ → ℕ → Linkage
link_by head of texts hidden first = record {
  names = words_from 1 texts;
  hidden = hidden;
  allocation = host_count;
  type_of = λ n. first + n;
  bytes_at = λ t. place_from 1 t texts;
  treated = is_treated head of (links_of texts);
  operation = code_of (links_of texts);
}

module _ (p : Flat) (more : List Routine) (own : ℕ) where
  planned : (known : Known) → known.links ≡ texts_of (flat p) → known.groups ≡ counts p.program.groups → plan_of known ≡ plan (flat p) more own
  planned known et eg =
      ap (λ ns. plan_by (size_of ns) (λ code k. before_of ns code + k) known.links) eg
      ∙ ap (plan_by (size_of (counts p.program.groups)) (λ code k. before_of (counts p.program.groups) code + k)) et
      ∙ ap (λ f. plan_by f (λ code k. before_of (counts p.program.groups) code + k) (texts_of (flat p))) (fun_ext (sizes p.program.groups))
      ∙ ap (λ f. plan_by (size_at (flat p).groups) (λ code k. f code + k) (texts_of (flat p))) (fun_ext (befores p.program.groups))

  pub is_known : (known : Known) (further : ℕ) → known.types ≡ p.program.types → known.links ≡ texts_of (flat p) → known.groups ≡ counts p.program.groups → known.hidden ≡ suc (length p.program.methods) → known.first_arity ≡ 46 + further → length more ≡ further
      → IsOf (flat p) more own known
  is_known known further ty et eg eh ef e =
      let of = planned known et eg in
      let first : known.first_arity ≡ suc (host_count + length (routines (flat p) more own)) = omega (arith, ef, e) in
      let names : known.hidden ≡ suc (length (flat p).methods) = eh ∙ ap suc (sym (length-map p.program.methods _)) in (
        of,
        ap (λ t. link_by (head_at t) (plan_of known) known.links known.hidden known.first_arity) ty
            ∙ ap (λ q. link_by (flat p).head q known.links known.hidden known.first_arity) of
            ∙ ap (λ t. link_by (flat p).head (plan (flat p) more own) t known.hidden known.first_arity) et
            ∙ ap (λ n. link_by (flat p).head (plan (flat p) more own) (texts_of (flat p)) n known.first_arity) names
            ∙ ap (link_by (flat p).head (plan (flat p) more own) (texts_of (flat p)) (suc (length (flat p).methods))) first,
      )
