-- The functions of bodies as lists.
use Rattle.std.proofs.Common.{◌≡◌, ℕ, List, [], ◌∷◌, ◌++◌, length, map, refl, sym, ap, ◌∙◌, subst, append_assoc}
use Rattle.std.proofs.lemmas.List.{length-map, map-append}
use Rattle.core_ir.specs.declared.code.CodeBody.{CodeBody}
use Rattle.core_ir.specs.declared.program.Group.{Group as GroupTree}
use Rattle.core_ir.specs.declared.program.Method.{Method as MethodTree}
use Rattle.core_ir.specs.declared.program.Flat.{Flat}
use Rattle.core_ir.specs.CodeView.{code_body}
use Rattle.core_ir.specs.ProgramView.{flat, group, method}
use Rattle.low_ir.specs.Flat.{flat_function}
use Rattle.heap_layout.specs.Heaps.{Plan}
use Rattle.flat_emission.specs.Emission.{Linkage, function_of}
use Rattle.low_emit.specs.Modules.{Routine, plan, link, of_groups, alone}
use Rattle.body_lists.specs.declared.known.Known.{Known}
use Rattle.body_lists.specs.Known.{plan_of, link_of}
use Rattle.module_bodies.specs.Bodies.{IsOf, bodies_of, listed, listed_all, listed_groups, listed_methods}

pub behind : {A : Type 0} (new old part more : List A) → new ≡ old ++ part → new ++ more ≡ old ++ (part ++ more)
behind new old part more e = ap (λ l. l ++ more) e ∙ append_assoc old part more

pub none : {A : Type 0} (old : List A) → old ≡ old ++ []
none [] = refl
none (x ∷ old) = ap (λ l. x ∷ l) (none old)

module _ (of : Plan) (by : Linkage) where
  bodies : (members functions sees : ℕ) (bs : List CodeBody) → map (listed of by members functions sees) bs ≡ map flat_function (map (function_of of by members) (map (code_body functions sees) bs))
  bodies members functions sees [] = refl
  bodies members functions sees (b ∷ bs) = ap (λ l. listed of by members functions sees b ∷ l) (bodies members functions sees bs)

module _ (p : Flat) (more : List Routine) (own : ℕ) where
  groups : (gs : List (GroupTree CodeBody)) → listed_groups (plan (flat p) more own) (link (flat p) more own) gs ≡ map flat_function (of_groups (flat p) more own (map (group code_body) gs))
  groups [] = refl
  groups (g ∷ gs) =
      let of = plan (flat p) more own in
      let by = link (flat p) more own in
      let n : length (map (code_body (length g.bodies) g.sees) g.bodies) ≡ length g.bodies = length-map g.bodies (code_body (length g.bodies) g.sees) in
      let made = map (code_body (length g.bodies) g.sees) g.bodies in
      ap (λ l. map (listed of by (length g.bodies) (length g.bodies) g.sees) g.bodies ++ l) (groups gs)
      ∙ ap (λ l. l ++ map flat_function (of_groups (flat p) more own (map (group code_body) gs))) (bodies of by (length g.bodies) (length g.bodies) g.sees g.bodies ∙ ap (λ k. map flat_function (map (function_of of by k) made)) (sym n))
      ∙ sym (map-append flat_function (map (function_of of by (length made)) made) (of_groups (flat p) more own (map (group code_body) gs)))

  methods : (ms : List (MethodTree CodeBody)) → listed_methods (plan (flat p) more own) (link (flat p) more own) ms ≡ map flat_function (map (λ m. alone (flat p) more own m.body) (map (method code_body) ms))
  methods [] = refl
  methods (m ∷ ms) = ap (λ l. listed (plan (flat p) more own) (link (flat p) more own) 0 0 0 m.body ∷ l) (methods ms)

  all_there : listed_all (plan (flat p) more own) (link (flat p) more own) p ≡ map flat_function (bodies_of (flat p) more own)
  all_there =
      let last = alone (flat p) more own (flat p).start in
      let inner = map (λ m. alone (flat p) more own m.body) (flat p).methods in
      ap (λ l. l ++ (listed_methods (plan (flat p) more own) (link (flat p) more own) p.program.methods ++ flat_function last ∷ [])) (groups p.program.groups)
      ∙ ap (λ l. map flat_function (of_groups (flat p) more own (flat p).groups) ++ (l ++ flat_function last ∷ [])) (methods p.program.methods)
      ∙ ap (λ l. map flat_function (of_groups (flat p) more own (flat p).groups) ++ l) (sym (map-append flat_function inner (last ∷ [])))
      ∙ sym (map-append flat_function (of_groups (flat p) more own (flat p).groups) (inner ++ last ∷ []))

  pub in_module : (known : Known) → IsOf (flat p) more own known → listed_all (plan_of known) (link_of known) p ≡ map flat_function (bodies_of (flat p) more own)
  in_module known h = ap (λ of. listed_all of (link_of known) p) h.0 ∙ ap (λ by. listed_all (plan (flat p) more own) by p) h.1 ∙ all_there
